-- What a step of any kind does to the held ranges, and that what is gained conflicts with no other grant, since the
-- state after the step is a lock too.
use Rattle.std.proofs.Common.{ℕ, set, inl, inr, ⊎_elim, ap, ◌∙◌}
use Rattle.std.specs.Prelude.{Some, None}
use lib.ListN.{get_elem?}
use Rattle.lock_core.specs.declared.steps.Step.{Step}
use Rattle.lock_core.specs.declared.steps.Step.TheVariants.{Walk, ReadHi, Unlink, Mark}
use Rattle.lock_core.specs.declared.steps.Step.TheVariants.{QuickLink, QuickUnlink}
use Rattle.lock_core.specs.Grants.{IsFree}
use Rattle.lock_core.specs.Machine.{Machine, held_by_seat}
use Rattle.lock_laws.specs.Laws.{IsLock}
use Rattle.lock_laws.specs.HeldSteps.{HoldsOn, Gains, Where, MayGain, Change, GrantsAfter, StepsChangeOneGrant, StepsChangeGrants}
use Rattle.lock_core.proofs.ByPlace.{to_get, from_get}
use Rattle.lock_core.proofs.ByView.{kept_view, new_view}
use Rattle.lock_laws.proofs.Exclusion.{exclusive}
use Rattle.lock_laws.proofs.Running.{every_step_keeps}
use Rattle.lock_laws.proofs.Holding.{Does}
use Rattle.lock_laws.proofs.WordGrants.{each_does}

may_gain : (step : Step) (m next : Machine) (s : ℕ) {P : Type 0} → Where P (Gains m next s) (HoldsOn m next) → Change step m next s
may_gain step m next s t = ⊎_elim (λ g. inr (inl g.1)) (λ h. inl h.1) t

change_of : (step : Step) (m next : Machine) (s : ℕ) → Does step m next s → Change step m next s
change_of Walk m next s t = may_gain Walk m next s t
change_of ReadHi m next s t = may_gain ReadHi m next s t
change_of Unlink m next s t = may_gain Unlink m next s t
change_of Mark m next s t = ⊎_elim (λ g. inr (inr (tt, g.1))) (λ h. inl h.1) t
change_of QuickLink m next s t = may_gain QuickLink m next s t
change_of QuickUnlink m next s t = ⊎_elim (λ g. inr (inr (tt, g.1))) (λ h. inl h.1) t
change_of _ m next s t = inl t

-- each step changes no grant, or its seat gains or gives back
pub change : StepsChangeOneGrant
change step m next s e = change_of step m next s (each_does step m next s e)

-- what is gained is free
free : (m next : Machine) (s : ℕ) → IsLock next → (g : Gains m next s) → IsFree (held_by_seat m) s g.held
free m next s lock g other k differ there c =
    exclusive next lock other s k g.held differ
    (ap (λ l. get_elem? l other) g.gained ∙ from_get (set (held_by_seat m) s (Some g.held)) other (Some k)
    (kept_view (held_by_seat m) s other (Some g.held) (Some k) differ (to_get (held_by_seat m) other (Some k) there)))
    (ap (λ l. get_elem? l s) g.gained ∙ from_get (set (held_by_seat m) s (Some g.held)) s (Some g.held)
    (new_view (held_by_seat m) s (Some g.held) None g.nothing))
    c

gains_free : (P : Type 0) (m next : Machine) (s : ℕ) → IsLock next → Where P (Gains m next s) (HoldsOn m next) → MayGain P m next s
gains_free P m next s lock t = ⊎_elim (λ g. inl (g.0, (g.1, free m next s lock g.1))) (λ h. inr h) t

outcome_of : (step : Step) (m next : Machine) (s : ℕ) → IsLock next → Does step m next s → GrantsAfter step m next s
outcome_of Walk m next s lock t = gains_free _ m next s lock t
outcome_of ReadHi m next s lock t = gains_free _ m next s lock t
outcome_of Unlink m next s lock t = gains_free _ m next s lock t
outcome_of QuickLink m next s lock t = gains_free _ m next s lock t
outcome_of _ m next s lock t = t

-- each kind of step does so in exactly its case, and what is gained is free
pub outcome : StepsChangeGrants
outcome step m next s l e = outcome_of step m next s (every_step_keeps step m next s l e) (each_does step m next s e)
