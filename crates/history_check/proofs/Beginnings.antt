-- Whether a line begins as one of a log is told by its digits: they end at the first byte that is none.
use Rattle.std.proofs.Common.{◌≡◌, ℕ, List, [], ◌∷◌, ◌++◌, Ok, Err, Result, true, refl, sym, ap, ◌∙◌, inl, inr}
use Rattle.std.proofs.lemmas.Bool.{eqb-true}
use Rattle.line_parts.specs.declared.refusal.What.{What}
use Rattle.line_parts.specs.declared.refusal.Refusal.{Refusal}
use Rattle.line_parts.specs.Parts.{starts}
use Rattle.line_parts.specs.Leaves.{is, is_digit, EachIs, IsRun}
use Rattle.line_parts.specs.Reading.{digits_end, run_at, taken}
use Rattle.line_parts.proofs.Leaves.{bool_cases, taken_is}
use Rattle.history_check.specs.LogLines.{BeginsLog}

taken_to : (digits rest : List ℕ) → EachIs is_digit digits → (taken is_digit (digits ++ 32 ∷ rest)).1 ≡ 32 ∷ rest
unfolding taken
taken_to [] rest all = refl
taken_to (d ∷ digits) rest all = rw all.0 (taken_to digits rest all.1)

digits_to : (due : What) (digits rest : List ℕ) → IsRun is_digit is_digit digits → digits_end due (digits ++ 32 ∷ rest) ≡ Ok (tt, 32 ∷ rest)
unfolding digits_end run_at
digits_to due [] rest all = absurd all
digits_to due (d ∷ digits) rest all = rw all.0 (ap (λ x. Ok (tt, x)) (taken_to digits rest all.1))

-- the digits of a line that begins as one of a log end at a space
pub log_ends : (due : What) (text : List ℕ) → BeginsLog text → (rest : List ℕ) × (digits_end due text ≡ Ok (tt, 32 ∷ rest))
log_ends due text (digits, rest, run, is) = (rest, ap (digits_end due) is ∙ digits_to due digits rest run)

-- what was left, if there was no refusal
abbrev behind_of : Result (Unit {0} × List ℕ) Refusal → List ℕ
behind_of (Ok x) = x.1
behind_of (Err refusal) = []

spaced : (rest : List ℕ) → starts (is 32) rest ≡ true → (more : List ℕ) × (rest ≡ 32 ∷ more)
spaced [] s = absurd cc
spaced (b ∷ rest) s = let first : b ≡ 32 = eqb-true _ _ s in (rest, λ i. first i ∷ rest)

-- a line whose digits end at a space begins as one of a log
pub ends_log : (due : What) (text rest : List ℕ) → digits_end due text ≡ Ok (tt, rest) → starts (is 32) rest ≡ true → BeginsLog text
unfolding digits_end run_at
ends_log due [] rest e s = absurd cc
ends_log due (c ∷ more) rest e s = elim (bool_cases (is_digit c)) [
  | inl h ↦
      let r = taken_is is_digit more in let same : (taken is_digit more).1 ≡ rest = ap behind_of (rw h at e) in
      let behind = spaced rest s in
      (c ∷ (taken is_digit more).0, behind.0, (h, r.0), ap (λ x. c ∷ x) (r.1 ∙ ap (λ y. (taken is_digit more).0 ++ y) (same ∙ behind.1)))
  | inr h ↦ absurd (let none = rw h at e in cc)
]

-- what is left behind digits is one text
pub same_rest : (read : Result (Unit {0} × List ℕ) Refusal) (rest other : List ℕ) → read ≡ Ok (tt, rest) → read ≡ Ok (tt, other) → rest ≡ other
same_rest read rest other a b = ap behind_of (sym a ∙ b)

-- and a refusal is none
pub no_rest : (read : Result (Unit {0} × List ℕ) Refusal) (refusal : Refusal) (rest : List ℕ) → read ≡ Err refusal → read ≡ Ok (tt, rest) → ⊥
no_rest read refusal rest a b = let both : Err refusal ≡ Ok (tt, rest) = sym a ∙ b in cc
