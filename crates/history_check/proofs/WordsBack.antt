-- What is left behind a word: a text begins with the word or it doesn't, and a word that was written is read again.
use Rattle.std.proofs.Common.{◌≡◌, ◌≢◌, ℕ, List, [], ◌∷◌, ◌++◌, Option, Some, None, true, not, drop, get_or, refl, sym, ap, ◌∙◌, inl, inr}
use Rattle.std.specs.Prelude.{◌⊎◌, ◌==◌, MatchOption, option_map, Ok}
use Rattle.std.proofs.lemmas.Bool.Decides.{eqb_tells}
use Rattle.std.proofs.lemmas.List.{append_cancel_left}
use Rattle.line_parts.specs.declared.refusal.What.{What}
use Rattle.line_parts.specs.Reading.{until_at}
use Rattle.round_trip.proofs.LogsRead.{lacks, first_of, second_of, not_true}
use Rattle.history_check.specs.Reading.{strip_at}

-- a text begins with a word, or it doesn't
strip_cases : (word text : List ℕ) → ((rest : List ℕ) × (strip_at word text ≡ Some rest) × (text ≡ word ++ rest))
    ⊎ ((strip_at word text ≡ None) × ((rest : List ℕ) → text ≢ word ++ rest))
unfolding strip_at
strip_cases [] text = inl (text, refl, refl)
strip_cases (b ∷ word) [] = inr (refl, λ rest e. cc)
strip_cases (b ∷ word) (c ∷ text) = elim (eqb_tells c b) [
  | inl same ↦ elim (strip_cases word text) [
    | inl h ↦ inl (h.0, rw same.0 h.1, (λ i. same.1 i ∷ h.2 i))
    | inr h ↦ inr (rw same.0 h.0, λ rest e. h.1 rest (ap (drop 1) e))
  ]
  | inr other ↦ inr (rw other.0 refl, λ rest e. other.1 (ap (λ l. get_or l 0 0) e))
]

-- what was found behind a word is what is left there
pub strip_is : {B : Type 0} (view : B → List ℕ) (word text : List ℕ) (r : Option B)
    → MatchOption r ((rest : List ℕ) → text ≢ word ++ rest) (λ x. text ≡ word ++ view x) → option_map view r ≡ strip_at word text
strip_is view word text None h = elim (strip_cases word text) [ inl k ↦ absurd (h k.0 k.2) | inr k ↦ sym k.0 ]
strip_is view word text (Some x) h =
    elim (strip_cases word text) [ inl k ↦ ap Some (append_cancel_left word (view x) k.0 (sym h ∙ k.2)) ∙ sym k.1 | inr k ↦ absurd (k.1 (view x) h) ]

-- a text that has no closing parenthesis is passed over up to the first that a space follows
pub until_close : (w : What) (body rest : List ℕ) → lacks 41 body ≡ true → until_at 41 32 w (body ++ 41 ∷ 32 ∷ rest) ≡ Ok (tt, 32 ∷ rest)
unfolding until_at
until_close w [] rest h = refl
until_close w (x ∷ body) rest h =
    rw (not_true (x == 41) (first_of (not (x == 41)) (lacks 41 body) h)) (until_close w body rest (second_of (not (x == 41)) (lacks 41 body) h))
