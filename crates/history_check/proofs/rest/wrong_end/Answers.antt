use Rattle.std.proofs.Common.{ℕ, List, [], ◌∷◌, sym, ap, ◌∙◌, subst}
use Rattle.history_check.specs.Verdicts.{FailsAt}
use Rattle.history_check.proofs.RestLines.{one_too_many, wrong_played, wrong_touched}
use Rattle.history_check.proofs.rest.wrong_end.Goals as goal

-- the first line is another
pub returns-then-not-begins_with-clause-place : goal.returns-then-not-begins_with-clause-place
returns-then-not-begins_with-clause-place c = subst (λ (ls : List (List ℕ)). FailsAt [] ls 0) (sym c.in-Some.ensures.line)
    (wrong_played c.in-Some.played.now _ (λ b. let yes = c.begins_with.ensures.1 b in absurd cc))

-- the second line is another
pub returns-then-not-begins_with-2-clause-place : goal.returns-then-not-begins_with-2-clause-place
returns-then-not-begins_with-2-clause-place c =
    let lines = c.in-Some.ensures.line ∙ ap (λ (ls : List (List ℕ)). c.in-Some.played.now ∷ ls) c.in-Some-next_line.ensures.line in
    subst (λ (ls : List (List ℕ)). FailsAt [] ls 1) (sym lines)
    (wrong_touched c.in-Some.played.now c.in-Some-next_line.touched.now _ (c.begins_with.ensures.0 c.if-not-begins_with.false)
    (λ b. let yes = c.begins_with-2.ensures.1 b in absurd cc))

-- there is a third line
pub returns-in-Some-next_line-2-clause-place : goal.returns-in-Some-next_line-2-clause-place
returns-in-Some-next_line-2-clause-place c =
    let lines = c.in-Some.ensures.line ∙ ap (λ (ls : List (List ℕ)). c.in-Some.played.now ∷ ls) c.in-Some-next_line.ensures.line
    ∙ ap (λ (ls : List (List ℕ)). c.in-Some.played.now ∷ c.in-Some-next_line.touched.now ∷ ls) c.in-Some-next_line-2.ensures.line in
    subst (λ (ls : List (List ℕ)). FailsAt [] ls 2) (sym lines)
    (one_too_many c.in-Some.played.now c.in-Some-next_line.touched.now _ _ (c.begins_with.ensures.0 c.if-not-begins_with.false)
    (c.begins_with-2.ensures.0 c.if-not-begins_with-2.false))
