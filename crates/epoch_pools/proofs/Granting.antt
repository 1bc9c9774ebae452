-- What a lock step makes of the held ranges, for every kind of step, and that the guard's rule holds after it: by
-- nothing, by its law of gain, or by its law of loss.
use Rattle.std.proofs.Common.{◌≡◌, ℕ, List, set, sym, refl, ap, ◌∙◌, subst, ⊎_elim}
use Rattle.std.specs.Prelude.{slice_get, Option, Some, None}
use mathlib.Core.Option.{some}
use lib.ListN.{get_elem?}
use Rattle.atomic_table.proofs.Lists.{set_again, set_else, set_here}
use Rattle.lock_core.specs.Grants.{Grants, IsFree}
use Rattle.lock_core.specs.declared.range.Held.{Held}
use Rattle.lock_core.specs.declared.views.View.{View}
use Rattle.lock_core.specs.declared.steps.Step.{Step}
use Rattle.lock_core.specs.Machine.{Machine, after, held_at, held_by_seat}
use Rattle.lock_core.proofs.ByPlace.{below as at_below, from_get}
use Rattle.lock_laws.specs.HeldSteps.{HoldsOn, Gains, GivesBack, IsGiving}
use Rattle.lock_laws.specs.Laws.{IsLock}
use Rattle.lock_laws.proofs.Exclusion.{exclusive}
use Rattle.lock_laws.proofs.Holding.{held_there}
use Rattle.lock_laws.proofs.Outcomes.{change}
use Rattle.epoch_pools.specs.Running.{pass_kept}

-- where what is held stays, the pass stays
pub kept_again : {P : Type 0} (rested : P → P) (o : Option Held) (pass : P) → pass_kept rested o o pass ≡ pass
kept_again rested None pass = refl
kept_again rested (Some h) pass = refl

-- the guard's law for a range that is gained, and for one that is given back
abbrev pub GainLaw : {P : Type 0} → (Grants → List ℕ → List P → Type 0) → Type 0
GainLaw {P} holds = (grants : Grants) (words : List ℕ) (passes : List P) (seat : ℕ) (h : Held) → holds grants words passes
    → get_elem? grants seat ≡ some None → IsFree grants seat h → holds (set grants seat (Some h)) words passes

abbrev pub LossLaw : {P : Type 0} → (Grants → List ℕ → List P → Type 0) → (P → P) → (P → Type 0) → Type 0
LossLaw {P} holds rested is_at_rest = (grants : Grants) (words : List ℕ) (passes : List P) (seat : ℕ) (pass : P) → holds grants words passes
    → get_elem? passes seat ≡ some pass → is_at_rest pass → holds (set grants seat None) words (set passes seat (rested pass))

module _ {P : Type 0} (holds : Grants → List ℕ → List P → Type 0) (rested : P → P) (is_at_rest : P → Type 0) (gains : GainLaw holds)
    (loses : LossLaw holds rested is_at_rest) where
  module _ (m next : Machine) (s : ℕ) (step : Step) (v now : View) (client : List ℕ) (passes : List P) (pass : P)
      (lock : IsLock next) (at : slice_get m.views s ≡ Some v) (at' : slice_get next.views s ≡ Some now)
      (own : get_elem? passes s ≡ some pass) (rests : IsGiving step → (h : Held) → held_at v.own ≡ Some h → is_at_rest pass)
      (g : holds (held_by_seat m) client passes) where
    before : get_elem? (held_by_seat m) s ≡ some (held_at v.own)
    before = from_get (held_by_seat m) s (held_at v.own) (held_there m.views s v at)

    behind : get_elem? (held_by_seat next) s ≡ some (held_at now.own)
    behind = from_get (held_by_seat next) s (held_at now.own) (held_there next.views s now at')

    -- the guard's rule holds after the step
    abbrev pub Good : Type 0
    Good = holds (held_by_seat next) client (set passes s (pass_kept rested (held_at v.own) (held_at now.own) pass))

    -- the pass stays where nothing was held, or is held on
    stays : (pass' : P) → pass' ≡ pass → holds (held_by_seat next) client passes → holds (held_by_seat next) client (set passes s pass')
    stays pass' e h = subst (λ l. holds (held_by_seat next) client l) (sym (ap (set passes s) e ∙ set_again passes s pass own)) h

    held_on : HoldsOn m next → Good
    held_on q = let same : held_at now.own ≡ held_at v.own = let a = sym behind ∙ (ap (λ l. get_elem? l s) q ∙ before) in cc in
        stays _ (ap (λ o. pass_kept rested (held_at v.own) o pass) same ∙ kept_again rested (held_at v.own) pass) (subst (λ l. holds l client passes) (sym q) g)

    free : (h : Held) → held_by_seat next ≡ set (held_by_seat m) s (Some h) → IsFree (held_by_seat m) s h
    free h q other k differ there c =
        exclusive next lock other s k h differ (ap (λ l. get_elem? l other) q ∙ (set_else (held_by_seat m) s other (Some h) differ ∙ there))
        (ap (λ l. get_elem? l s) q ∙ set_here (held_by_seat m) s (Some h) (at_below (held_by_seat m) s (held_at v.own) before)) c

    gained : Gains m next s → Good
    gained t = let none : held_at v.own ≡ None = let a = sym (held_there m.views s v at) ∙ t.nothing in cc in
        stays _ (ap (λ o. pass_kept rested o (held_at now.own) pass) none) (subst (λ l. holds l client passes) (sym t.gained)
        (gains (held_by_seat m) client passes s t.held g (from_get (held_by_seat m) s None t.nothing) (free t.held t.gained)))

    given_back : IsGiving step → GivesBack m next s → Good
    given_back giving q = let gone : held_at now.own ≡ None = let a = sym behind ∙ (ap (λ l. get_elem? l s) q ∙ set_here (held_by_seat m) s None
        (at_below (held_by_seat m) s (held_at v.own) before)) in cc in by_held (held_at v.own) refl gone
      where
        by_held : (o : Option Held) → held_at v.own ≡ o → held_at now.own ≡ None → Good
        by_held None e gone = stays _ (ap (λ o. pass_kept rested o (held_at now.own) pass) e)
            (subst (λ l. holds l client passes) (sym (q ∙ set_again (held_by_seat m) s None (before ∙ ap some e))) g)
        by_held (Some h) e gone = subst (λ (z : Grants × P). holds z.0 client (set passes s z.1))
            (λ i. (sym q i, (sym (ap (λ o. pass_kept rested o (held_at now.own) pass) e ∙ ap (λ o. pass_kept rested (Some h) o pass) gone)) i))
            (loses (held_by_seat m) client passes s pass g own (rests giving h e))

    -- it does after each step that the machine makes
    pub guard_after : after m s step ≡ Some next → Good
    guard_after e = ⊎_elim held_on (λ t. ⊎_elim gained (λ k. given_back k.0 k.1) t) (change step m next s e)
