-- The first line of a text from its front: up to the first newline, or all of a text that has none.
use Rattle.std.proofs.Common.{◌≡◌, ◌≢◌, ℕ, zero, suc, ◌+◌, ◌-◌, ◌<◌, true, false, nat_eq, List, [], ◌∷◌, length, get_or}
use Rattle.std.proofs.Common.{take, drop, refl, ap, ◌∙◌, arith, add-one, eq-eqb, length-drop}
use Rattle.std.proofs.lemmas.Bool.{eqb-true}
use Rattle.std.proofs.Math.Seq.{take-length}
use Rattle.std.proofs.lemmas.Grind.{common_steps}
use Rattle.line_parts.specs.Lines.{lines_of, put_first}

-- behind a byte that is no newline the first line goes on
lines_on : (byte : ℕ) (text : List ℕ) → byte ≢ 10 → lines_of (byte ∷ text) ≡ put_first byte (lines_of text)
lines_on byte text other = grind (arith, common_steps)

-- up to the first newline
pub lines_to : (text : List ℕ) (at : ℕ) → at < length text → get_or text at 0 ≡ 10
    → ((k : ℕ) → k < at → get_or text k 0 ≢ 10) → lines_of text ≡ take at text ∷ lines_of (drop (suc at) text)
lines_to [] at within here before = absurd (omega arith)
lines_to (byte ∷ text) zero within here before = rw here refl
lines_to (byte ∷ text) (suc at) within here before = lines_on byte text (before 0 (omega arith))
    ∙ ap (put_first byte) (lines_to text at (omega arith) here (λ k below. before (suc k) (omega arith)))

-- a text without a newline is one line
pub lines_whole : (byte : ℕ) (text : List ℕ) → ((k : ℕ) → k < suc (length text) → get_or (byte ∷ text) k 0 ≢ 10) → lines_of (byte ∷ text) ≡ (byte ∷ text) ∷ []
lines_whole byte [] none = lines_on byte [] (none 0 (omega arith))
lines_whole byte (next ∷ text) none = lines_on byte (next ∷ text) (none 0 (omega arith))
    ∙ ap (put_first byte) (lines_whole next text (λ k below. none (suc k) (omega arith)))

-- what `&text[at..]` holds is what comes behind the first bytes
pub all_behind : (at : ℕ) (text : List ℕ) → take (length text - at) (drop at text) ≡ drop at text
all_behind at text = rw (← length-drop at text) (take-length (drop at text))

-- the same with `memchr`'s test
pub lines_found : (text : List ℕ) (at : ℕ) → at < length text → nat_eq (get_or text at 0) 10 ≡ true
    → ((k : ℕ) → k < at → nat_eq (get_or text k 0) 10 ≡ true → ⊥) → lines_of text ≡ take at text ∷ lines_of (take (length text - (at + 1)) (drop (at + 1) text))
lines_found text at within here before = rw (all_behind (at + 1) text, add-one)
    (lines_to text at within (eqb-true _ _ here) (λ k below is. before k below (eq-eqb _ _ is)))

-- a text that has bytes and, by `memchr`'s test, no newline is one line
pub lines_none : (text : List ℕ) → nat_eq (length text) 0 ≡ false
    → ((k : ℕ) → k < length text → nat_eq (get_or text k 0) 10 ≡ true → ⊥) → lines_of text ≡ text ∷ []
lines_none [] some none = cc
lines_none (byte ∷ text) some none = lines_whole byte text (λ k below is. none k below (eq-eqb _ _ is))
