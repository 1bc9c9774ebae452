use Rattle.std.proofs.Common.{ℕ, List, inl, inr}
use Rattle.strace_reader.proofs.FormFacts.{either_way}
use Rattle.raw_lines.specs.Splices.{whole}
use Rattle.raw_lines.specs.Mends.{Mends, MendsError}
use Rattle.raw_lines.proofs.MendFacts.{not_detached, mends_no}
use Rattle.raw_lines.proofs.mends.mend.Goals as goal

-- the path of a deleted file is mended where no call was let go
pub returns-in-Some-mend_deleted-clause-mends : goal.returns-in-Some-mend_deleted-clause-mends
returns-in-Some-mend_deleted-clause-mends c = inr (not_detached c.args.text.now c.in_default.ensures, inl c.in-Some-mend_deleted.ensures)

-- so is a word
pub returns-in-Some-mend_word-clause-mends : goal.returns-in-Some-mend_word-clause-mends
returns-in-Some-mend_word-clause-mends c = inr (not_detached c.args.text.now c.in_default.ensures, inr (inl c.in-Some-mend_word.ensures))

-- a descriptor below -1
pub returns-in-Some-mend_negative-clause-mends : goal.returns-in-Some-mend_negative-clause-mends
returns-in-Some-mend_negative-clause-mends c = inr (not_detached c.args.text.now c.in_default.ensures, inr (inr (inl c.in-Some-mend_negative.ensures)))

-- one that begins with -1
pub returns-in-Some-mend_long-clause-mends : goal.returns-in-Some-mend_long-clause-mends
returns-in-Some-mend_long-clause-mends c = inr (not_detached c.args.text.now c.in_default.ensures, inr (inr (inr (inl c.in-Some-mend_long.ensures))))

-- an error without a name, or nothing
pub returns-clause-mends : goal.returns-clause-mends
returns-clause-mends c =
    let text = c.args.text.now in let bad = c.args.bad in
    either_way c.mend_error.result ((mended : List ℕ) → MendsError text bad mended → ⊥) ((mended : List ℕ) → Mends text bad mended → ⊥)
    (λ x. MendsError text bad (whole x)) (λ x. Mends text bad (whole x))
    (mends_no text bad c.in_default.ensures c.in_default-mend_deleted.ensures c.in_default-mend_word.ensures c.in_default-mend_negative.ensures
    c.in_default-mend_long.ensures) (λ x h. inr (not_detached text c.in_default.ensures, inr (inr (inr (inr h))))) c.mend_error.ensures
