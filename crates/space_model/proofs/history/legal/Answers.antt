-- The next entry keeps the history legal exactly where it is right.
use Rattle.std.proofs.Common.{◌≡◌, ℕ, ◌+◌, ◌<◌, List, [], ◌∷◌, ◌++◌, length, get_or, take, ◌∙◌, sym, ap, subst, true≢false, arith}
use Rattle.std.proofs.lemmas.List.{take_more, length-take-le}
use Rattle.space_model.specs.declared.entries.Entry.{Entry}
use Rattle.space_model.specs.Answers.{Answers}
use Rattle.space_model.specs.History.{CallLeaves, IsLegal, StateAfter}
use Rattle.space_model.proofs.OneAnswer.{one_answer}
use Rattle.space_model.proofs.Histories.{legal_more, legal_last, chains_more}
use Rattle.space_model.proofs.history.legal.Goals as goal

one_more : (list : List Entry) (i : ℕ) (e : Entry) → i < length list → e ≡ get_or list i e → take (i + 1) list ≡ take i list ++ e ∷ []
one_more list i e within is = take_more list i e within ∙ ap (λ x. take i list ++ x ∷ []) (sym is)

-- an entry that isn't right is the first one with which the history isn't legal
pub returns-then-not-right : goal.returns-then-not-right
returns-then-not-right c =
    let A = c.args.start.now in let list = c.args.list.now in let i = c.loop-i.i in let e = c.index-list-i.result in let front = take i list in
    let more = one_more list i e c.loop-i-test.true c.index-list-i.is in
    let count : length front ≡ i = length-take-le i list (omega arith) in
    record {
      within = c.loop-i-test.true;
      legal_before = c.loop-i.invariant.0;
      illegal = λ legal.
          let last = legal_last A front c.loop-i.space e (subst (IsLegal A) more legal) c.loop-i.invariant.1 in
          let (reply, answer, right) = c.in_ok-right.ensures in
          let same = (one_answer c.loop-i.space e.call e.reply reply last.1.0 c.is_next.new.space last.1.1 answer).0 in
          true≢false (sym (right.1 (last.0 ∙ count, same)) ∙ c.if-not-right.true);
    }

-- with a right entry more the history is still legal, and leaves the new space
pub loop-i-preserved : goal.loop-i-preserved
loop-i-preserved c =
    let A = c.args.start.now in let list = c.args.list.now in let i = c.loop-i.i in let e = c.index-list-i.result in let front = take i list in
    let more = one_more list i e c.loop-i-test.true c.index-list-i.is in
    let count : length front ≡ i = length-take-le i list (omega arith) in
    let (reply, answer, right) = c.in_ok-right.ensures in
    let is_right = right.0 c.if-not-right.false in let next = c.is_next.new.space in
    let mine = subst (λ r. Answers c.loop-i.space e.call r next) (sym is_right.1) answer in (
      subst (IsLegal A) (sym more)
          (legal_more A front c.loop-i.space e next c.loop-i.invariant.0 c.loop-i.invariant.1 (is_right.0 ∙ sym count) mine),
      subst (λ entries. StateAfter A entries next) (sym more)
          (chains_more CallLeaves A front c.loop-i.space e next c.loop-i.invariant.1 (reply, answer)),
    )
