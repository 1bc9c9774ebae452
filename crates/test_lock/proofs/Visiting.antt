-- What a seat knows of the count at the moment of its step.
use Rattle.std.proofs.Common.{◌≡◌, ℕ, ◌-◌, ◌^◌, List, slice_index, sym, refl, ap, ◌∙◌, inl, inr, ⊎_elim}
use Rattle.std.specs.Prelude.{Option, true, false}
use Rattle.std.proofs.lemmas.Bool.{false≢true}
use mathlib.Core.Option.{some, some-injective}
use Rattle.lock_core.specs.Grants.{Grants}
use Rattle.lock_core.specs.Client.{loads, adds, Moment, IsAllowed, IsMade}
use Rattle.lock_core.specs.declared.range.Held.{Held}
use Rattle.test_lock.specs.declared.turnstile.Visits.{Visits}
use Rattle.test_lock.specs.Turnstile.{IsIn, IsWriterIn, IsCounted, IsPassage, pass_inside, pass_outside, nobody_inside}

module _ (seat : ℕ) (held : Option Held) (pass : Visits) where
  -- any seat may read the count at any time
  pub may_look : (note : ℕ) → IsAllowed IsCounted IsPassage note seat held pass (loads 0)
  may_look note grants words passes moment there small = (pass, moment.own)

  -- a seat that holds the door as a writer and is outside may go in
  pub may_enter : (note : ℕ) → IsWriterIn held → pass.inside ≡ false → IsAllowed IsCounted IsPassage note seat held pass (adds 0 1)
  may_enter note h outside grants words passes moment there small =
      (pass_inside pass note, (refl, moment.exclusive, (h.0, moment.grant ∙ ap some h.1, h.2, h.3), (pass, moment.own, inl (refl, outside, refl))))

  -- a seat that holds the door as a writer and is inside may go out
  pub may_leave : (note : ℕ) → IsWriterIn held → pass.inside ≡ true → IsAllowed IsCounted IsPassage note seat held pass (adds 0 (2 ^ 64 - 1))
  may_leave note h inside grants words passes moment there small =
      (pass_outside pass, (refl, moment.exclusive, (h.0, moment.grant ∙ ap some h.1, h.2, h.3), (pass, moment.own, inr (refl, inside, refl))))

  -- nobody is inside at a moment at which the seat holds a range with the door in it and isn't inside
  none_at : (grants : Grants) (words : List ℕ) (passes : List Visits) → Moment IsCounted seat held pass grants words passes
      → IsIn held → pass.inside ≡ false → slice_index words 0 ≡ 0
  none_at grants words passes moment h outside =
      nobody_inside grants words passes seat h.0 pass moment.met moment.exclusive (moment.grant ∙ ap some h.1) h.2 moment.own outside

  -- a seat that holds the door and is outside reads 0, and its pass stays
  pub looked : (note found : ℕ) (after : Visits) → IsIn held → pass.inside ≡ false
      → IsMade IsCounted IsPassage note seat held pass (loads 0) found after → (found ≡ 0) × (after ≡ pass)
  looked note found after h outside made =
      let moment = made.3 in (sym made.4 ∙ none_at made.0 made.1 made.2 moment h outside, some-injective _ _ (sym made.5 ∙ moment.own))

  -- a seat that goes in found nobody inside
  pub went_in : (note found : ℕ) (after : Visits) → IsWriterIn held → pass.inside ≡ false
      → IsMade IsCounted IsPassage note seat held pass (adds 0 1) found after → (found ≡ 0) × (after ≡ pass_inside pass note)
  went_in note found after h outside made =
      let moment = made.3 in let step = made.5.3 in
      let same : step.0 ≡ pass = some-injective _ _ (sym step.1 ∙ moment.own) in (
        sym made.4 ∙ none_at made.0 made.1 made.2 moment (h.0, h.1, h.2) outside,
        ⊎_elim (λ t. t.2 ∙ ap (λ v. pass_inside v note) same)
            (λ t. absurd (false≢true (sym outside ∙ (ap (λ (v : Visits). v.inside) (sym same) ∙ t.1)))) step.2,
      )

  -- a seat that goes out found itself alone inside
  pub went_out : (note found : ℕ) (after : Visits) → pass.inside ≡ true → IsMade IsCounted IsPassage note seat held pass (adds 0 (2 ^ 64 - 1)) found after
      → (found ≡ 1) × (after ≡ pass_outside pass)
  went_out note found after inside made =
      let moment = made.3 in let step = made.5.3 in
      let same : step.0 ≡ pass = some-injective _ _ (sym step.1 ∙ moment.own) in (
        sym made.4 ∙ ⊎_elim (λ one. one.0) (λ none. absurd (none.1 seat (pass, moment.own, inside))) moment.met.count,
        ⊎_elim (λ t. absurd (false≢true (sym t.1 ∙ (ap (λ (v : Visits). v.inside) same ∙ inside)))) (λ t. t.2 ∙ ap pass_outside same) step.2,
      )
