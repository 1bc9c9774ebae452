use Rattle.std.proofs.Common.{rules, ◌≡◌, ◌<◌, length, map, drop, refl, sym, subst, ap, ◌∙◌, Some}
use Rattle.std.proofs.lemmas.List.{drop-map, length-map, take_rest}
use Rattle.std.specs.String.{string_bytes}
use Rattle.command_words.proofs.CommandLemmas.{LeftOver, begins_once, not_empty, at_most_one, same_asked}
use Rattle.command_words.proofs.Spellings.{left_before, left_behind, left_of_none, left_of_asked, left_of_nothing}
use Rattle.command_words.proofs.commands.asked_of.Goals as goal

-- where no option begins the rest, the words ask for nothing
pub returns-in_err-head-clause-only : goal.returns-in_err-head-clause-only
returns-in_err-head-clause-only c other h = let some : 0 < length c.loop-rest.rest.now = search rules in
    absurd (left_of_none (map string_bytes c.loop-rest.rest.now) (simp length-map some) (c.in_err-head.ensures.none refl) (c.loop-rest.invariant.from other h))

-- where the option was asked for already, the words ask for nothing
pub returns-in_err-asked-clause-only : goal.returns-in_err-asked-clause-only
returns-in_err-asked-clause-only c other h =
    let again = c.in_err-asked.ensures.again refl in let some : 0 < length c.loop-rest.rest.now = search rules in
    absurd (left_of_asked begins_once c.in_ok-head.head.given _ (map string_bytes c.loop-rest.rest.now) (simp length-map some)
    c.in_ok-head.ensures.begins again.kind again.value again.gives again.already (at_most_one again.kind other) (c.loop-rest.invariant.from other h))

-- with the option added, the words behind it still complete what all words ask for
pub loop-rest-preserved : goal.loop-rest-preserved
loop-rest-preserved c =
    let some : 0 < length c.loop-rest.rest.now = search rules in let words = map string_bytes c.loop-rest.rest.now in
    let behind = drop c.in_ok-head.head.words words in let new = c.in_ok-asked.asked in
    let same = sym (drop-map string_bytes c.in_ok-head.head.words c.loop-rest.rest.now) in
    let cut = ap (map string_bytes) (take_rest c.loop-rest.rest.now c.in_ok-head.head.words) ∙ same in record {
      to = λ after h. c.loop-rest.invariant.to after (left_before c.in_ok-head.head.given behind words c.in_ok-asked.ensures.added c.in_ok-head.ensures.begins
          (subst (λ ws. LeftOver new ws after) cut h));
      from = λ after h.
          subst (λ ws. LeftOver new ws after) (sym cut)
          (left_behind begins_once c.in_ok-head.head.given behind words c.in_ok-asked.ensures.added c.in_ok-head.ensures.begins
          (simp length-map some) (c.loop-rest.invariant.from after h));
    }

-- where no words are left, all words ask for what was asked for, and nothing else
pub returns-clause-only : goal.returns-clause-only
returns-clause-only c other h =
    let none : length c.loop-rest.rest.now ≡ 0 = search rules in
    ap (λ asked. Some asked) (same_asked c.loop-rest.asked other (left_of_nothing (map string_bytes c.loop-rest.rest.now) not_empty
    (simp length-map none) (c.loop-rest.invariant.from other h)))
