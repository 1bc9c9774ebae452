-- Loads of rows one after another, as one: the hand may load again, it finds the same rows at the same places, and what
-- the loads leave of it is what one load leaves.
use Rattle.std.proofs.Common.{ℕ, ◌≡◌, ◌∙◌, List, sym, subst}
use Rattle.row_plans.specs.declared.rows.Rows.{Ghosts}

-- what loads from one hand up to another leave
pub record HasLoaded {Old Hand Place : Type 0} (R : Ghosts Old Hand Place) (old : Old) (hand next : Hand) : Type 0 where
  pub may : R.may_load old next
  pub same : R.words old next ≡ R.words old hand
  pub placed : R.number old next ≡ R.number old hand
  pub loaded : R.loaded old hand next

module _ {Old Hand Place : Type 0} where
  -- the first load
  pub loads_first : (R : Ghosts Old Hand Place) (old : Old) (hand next : Hand) → R.may_load old hand → R.loaded old hand next → HasLoaded R old hand next
  loads_first R old hand next may loaded =
      let s = R.same_words old hand next may loaded in
      record { may = s.0; same = s.1; placed = R.same_places old hand next may loaded; loaded = loaded }

  -- and one more
  pub loads_on : {R : Ghosts Old Hand Place} {old : Old} {hand mid : Hand} (next : Hand) → HasLoaded R old hand mid → R.loaded old mid next
      → HasLoaded R old hand next
  loads_on {R} {old} {hand} {mid} next so_far loaded =
      let s = R.same_words old mid next so_far.may loaded in
      record {
        may = s.0;
        same = s.1 ∙ so_far.same;
        placed = R.same_places old mid next so_far.may loaded ∙ so_far.placed;
        loaded = R.loads_on old hand mid next so_far.loaded loaded;
      }

  -- what is so of the rows and their places behind the loads was so before them
  pub as_before : {R : Ghosts Old Hand Place} {old : Old} {hand next : Hand} (what : List ℕ → (Place → ℕ) → Type 0) → HasLoaded R old hand next
      → what (R.words old next) (R.number old next) → what (R.words old hand) (R.number old hand)
  as_before {R} {old} {hand} {next} what loads is =
      subst (λ (z : List ℕ × (Place → ℕ)). what z.0 z.1) (λ i. (loads.same i, loads.placed i)) is

  -- and the other way round
  pub as_behind : {R : Ghosts Old Hand Place} {old : Old} {hand next : Hand} (what : List ℕ → (Place → ℕ) → Type 0) → HasLoaded R old hand next
      → what (R.words old hand) (R.number old hand) → what (R.words old next) (R.number old next)
  as_behind {R} {old} {hand} {next} what loads is =
      subst (λ (z : List ℕ × (Place → ℕ)). what z.0 z.1) (λ i. (sym loads.same i, sym loads.placed i)) is
