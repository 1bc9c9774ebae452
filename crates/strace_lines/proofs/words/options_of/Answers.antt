use Rattle.std.proofs.Common.{rules, ◌≡◌, ◌<◌, ℕ, List, length, map, drop, refl, sym, subst, ap, ◌∙◌, Some}
use Rattle.std.proofs.lemmas.List.{drop-map, length-map, take_rest}
use Rattle.std.specs.String.{string_bytes}
use Rattle.strace_lines.specs.declared.words.Options.{Options}
use Rattle.command_words.proofs.Spellings.{left_before, left_behind, left_of_none, left_of_asked, left_of_nothing}
use Rattle.strace_lines.proofs.WordLemmas.{LeftOver, begins_once, not_empty, is_again, at_most_one, same_options}
use Rattle.strace_lines.proofs.words.options_of.Goals as goal

-- where no option begins the rest, the words ask for nothing
pub returns-in_err-head-clause-only : goal.returns-in_err-head-clause-only
returns-in_err-head-clause-only c process strict h =
    let some : 0 < length c.options.rest.now = search rules in
    absurd (left_of_none (map string_bytes c.options.rest.now) (simp length-map some)
    (c.in_err-head.ensures.none refl) (c.options.invariant.from process strict h))

-- where the option was asked for already, the words ask for nothing
pub returns-in_err-options-clause-only : goal.returns-in_err-options-clause-only
returns-in_err-options-clause-only c process strict h =
    let some : 0 < length c.options.rest.now = search rules in
    let again = is_again c.options.options c.in_ok-head.head.given (c.in_err-options.ensures.again refl) in
    absurd (left_of_asked begins_once c.in_ok-head.head.given _ (map string_bytes c.options.rest.now) (simp length-map some)
    c.in_ok-head.ensures.begins again.kind again.value again.gives again.already (at_most_one again.kind _) (c.options.invariant.from process strict h))

-- with the option added, the words behind it still complete what all words ask for
pub options-preserved : goal.options-preserved
options-preserved c =
    let some : 0 < length c.options.rest.now = search rules in
    let words = map string_bytes c.options.rest.now in
    let behind = drop c.in_ok-head.head.words words in
    let new = c.in_ok-options.options in
    let same = sym (drop-map string_bytes c.in_ok-head.head.words c.options.rest.now) in
    let cut = ap (map string_bytes) (take_rest c.options.rest.now c.in_ok-head.head.words) ∙ same in record {
      to = λ process strict h. c.options.invariant.to process strict
          (left_before c.in_ok-head.head.given behind words c.in_ok-options.ensures.added c.in_ok-head.ensures.begins
          (subst (λ (ws : List (List ℕ)). LeftOver new ws process strict) cut h));
      from = λ process strict h.
          subst (λ (ws : List (List ℕ)). LeftOver new ws process strict) (sym cut)
          (left_behind begins_once c.in_ok-head.head.given behind words c.in_ok-options.ensures.added c.in_ok-head.ensures.begins
          (simp length-map some) (c.options.invariant.from process strict h));
    }

-- where no words are left, all words ask for what was asked for, and nothing else
pub returns-clause-only : goal.returns-clause-only
returns-clause-only c process strict h =
    let none : length c.options.rest.now ≡ 0 = search rules in
    ap (λ (asked : Options). Some asked) (same_options c.options.options _ (left_of_nothing (map string_bytes c.options.rest.now) not_empty
    (simp length-map none) (c.options.invariant.from process strict h)))
