-- Numbers that messages say were attached, line by line. A line says it of one number at most, since the digits at its
-- end are all that stand behind the last space.
use Rattle.std.proofs.Common.{◌≡◌, ◌≢◌, ◌⊎◌, ℕ, List, [], ◌∷◌, ◌++◌, codes, refl, sym, ap, subst, ◌∙◌, append_assoc, inl, inr, arith}
use Rattle.std.specs.Prelude.{◌↔◌, Contains}
use Rattle.std.proofs.lemmas.List.{append_cancel_right}
use Rattle.std.proofs.lemmas.List.Elements.{Contains-append_cases, Contains-append_left, Contains-append_right}
use Rattle.line_parts.specs.Leaves.{worth, AllDigits, value}
use Rattle.raw_lines.specs.Numbers.{EndsInNumber}
use Rattle.raw_logs.specs.Numbering.{IsAttached}
use Rattle.raw_logs.proofs.Following.{only_item}

digits_no_space : (g r : List ℕ) → AllDigits 10 (g ++ (32 ∷ r)) → ⊥
unfolding worth
digits_no_space [] r d = let k = d.0 in omega arith
digits_no_space (x ∷ g) r d = digits_no_space g r d.1

last_digits : (f g a b : List ℕ) → AllDigits 10 a → AllDigits 10 b → f ++ (32 ∷ a) ≡ g ++ (32 ∷ b) → a ≡ b
last_digits [] [] a b d k e = cc
last_digits [] (x ∷ g) a b d k e =
    let t : a ≡ g ++ (32 ∷ b) = cc in
    absurd (digits_no_space g b (subst (AllDigits 10) t d))
last_digits (x ∷ f) [] a b d k e =
    let t : b ≡ f ++ (32 ∷ a) = cc in
    absurd (digits_no_space f a (subst (AllDigits 10) t k))
last_digits (x ∷ f) (y ∷ g) a b d k e = let t : f ++ (32 ∷ a) ≡ g ++ (32 ∷ b) = cc in last_digits f g a b d k t

-- the text before the last word, and behind the last space the digits
pub regrouped : (f a : List ℕ) → f ++ (codes "strace: Process " ++ (a ++ codes " attached")) ≡ ((f ++ codes "strace: Process") ++ (32 ∷ a)) ++ codes " attached"
regrouped f a =
    sym (append_assoc (f ++ codes "strace: Process") (32 ∷ a) (codes " attached")
    ∙ append_assoc f (codes "strace: Process") ((32 ∷ a) ++ codes " attached"))

-- a line says it of one number
pub attached_one : (line : List ℕ) (p q : ℕ) → IsAttached (line ∷ []) p → IsAttached (line ∷ []) q → p ≡ q
attached_one line p q h g =
    let same : h.0 ≡ g.0 = sym (only_item line h.0 h.2) ∙ only_item line g.0 g.2 in
    let all = sym (regrouped h.4.0 h.1) ∙ sym h.4.1 ∙ same ∙ g.4.1 ∙ regrouped g.4.0 g.1 in
    let digits = last_digits (h.4.0 ++ codes "strace: Process") (g.4.0 ++ codes "strace: Process") h.1 g.1 h.3.0.1 g.3.0.1
    (append_cancel_right _ _ (codes " attached") all) in
    h.3.0.2 ∙ ap (value 10 0) digits ∙ sym g.3.0.2

-- the number before the verb is the one that the line says it of
pub attached_by : (line front : List ℕ) (n : ℕ) → line ≡ front ++ codes " attached" → EndsInNumber 10 (codes "strace: Process") 32 front n
    → IsAttached (line ∷ []) n
attached_by line front n e h = (
  line,
  h.1,
  (0, omega arith, refl),
  (h.2, h.3),
  (
    h.0,
    e ∙ ap (λ (x : List ℕ). x ++ codes " attached") (h.4 ∙ sym (append_assoc h.0 (codes "strace: Process") (32 ∷ h.1))) ∙ sym (regrouped h.0 h.1),
  ),
)

-- and the other way round
pub attached_to : (line front : List ℕ) (n : ℕ) → line ≡ front ++ codes " attached" → IsAttached (line ∷ []) n
    → EndsInNumber 10 (codes "strace: Process") 32 front n
attached_to line front n e h = (
  h.4.0,
  h.1,
  h.3.0,
  h.3.1,
  append_cancel_right front ((h.4.0 ++ codes "strace: Process") ++ (32 ∷ h.1)) (codes " attached")
      (sym e ∙ only_item line h.0 h.2 ∙ h.4.1 ∙ regrouped h.4.0 h.1)
      ∙ append_assoc h.4.0 (codes "strace: Process") (32 ∷ h.1),
)

-- a line without the verb says it of none
pub attached_no_verb : (line : List ℕ) → ((front : List ℕ) → line ≢ front ++ codes " attached") → (pid : ℕ) → IsAttached (line ∷ []) pid → ⊥
attached_no_verb line none pid h =
    none ((h.4.0 ++ codes "strace: Process") ++ (32 ∷ h.1)) (only_item line h.0 h.2 ∙ h.4.1 ∙ regrouped h.4.0 h.1)

-- a line more
pub attached_lines : (old new : ℕ → Type 0) (before next : List (List ℕ)) (line : List ℕ) → next ≡ before ++ (line ∷ [])
    → ((q : ℕ) → old q ↔ IsAttached before q) → ((q : ℕ) → new q ↔ (old q ⊎ IsAttached (line ∷ []) q)) → (q : ℕ) → new q ↔ IsAttached next q
attached_lines old new before next line e h more q = (
  (λ n. subst (λ (x : List (List ℕ)). IsAttached x q) (sym e) (forth ((more q).0 n))),
  (λ a. back (subst (λ (x : List (List ℕ)). IsAttached x q) e a)),
)
  where
    forth : old q ⊎ IsAttached (line ∷ []) q → IsAttached (before ++ (line ∷ [])) q
    forth (inl o) = let a = (h q).0 o in (a.0, a.1, Contains-append_left before (line ∷ []) a.0 a.2, a.3, a.4)
    forth (inr a) = (a.0, a.1, Contains-append_right before (line ∷ []) a.0 a.2, a.3, a.4)

    cases : (a : IsAttached (before ++ (line ∷ [])) q) → Contains before a.0 ⊎ Contains (line ∷ []) a.0 → new q
    cases a (inl d) = (more q).1 (inl ((h q).1 (a.0, a.1, d, a.3, a.4)))
    cases a (inr d) = (more q).1 (inr (a.0, a.1, d, a.3, a.4))

    back : IsAttached (before ++ (line ∷ [])) q → new q
    back a = cases a (Contains-append_cases before (line ∷ []) a.0 a.2)
