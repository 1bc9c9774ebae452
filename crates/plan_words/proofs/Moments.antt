-- What is so at a moment of the running space of a caller that holds everything: what it knows of the words stands
-- there.
use Rattle.std.proofs.Common.{◌≡◌, ℕ, ◌+◌, List, [], ◌∷◌, refl, subst, ⊎_elim}
use Rattle.std.proofs.lemmas.List.Elements.{All-head, All-tail}
use Rattle.std.specs.Prelude.{All, Option, Some, slice_index}
use mathlib.Core.Option.{some}
use lib.ListN.{get_elem?}
use Rattle.lock_core.specs.declared.range.Held.{Held}
use Rattle.lock_core.specs.Grants.{Grants, Holds}
use Rattle.lock_core.specs.Client.{Moment}
use Rattle.area_guard.specs.declared.guard.ReadRow.{ReadRow}
use Rattle.area_guard.specs.declared.guard.Pass.{Pass}
use Rattle.area_guard.specs.declared.guard.Pending.TheVariants.{Planned}
use Rattle.area_guard.specs.declared.guard.Splice.{Splice}
use Rattle.area_guard.specs.Reads.{everything, HasRead, StillStands}
use Rattle.area_guard.specs.History.{IsPart, Backs, HasHistory, Here}

-- a row that was read, among those that stand still
pub stands : (held : Option Held) (words : List ℕ) (rows : List ReadRow) (i w : ℕ) → All (StillStands held words) rows
    → HasRead rows i w → StillStands held words (record { index = i; word = w })
stands held words [] i w all h = absurd h
stands held words (r ∷ rest) i w all h = ⊎_elim (λ t. subst (λ (z : ℕ × ℕ). StillStands held words (record { index = z.0; word = z.1 })) (λ k. (t.0 k, t.1 k))
    (All-head (StillStands held words) r rest all)) (λ t. stands held words rest i w (All-tail (StillStands held words) r rest all) t) h

-- the caller's moment, as the guard speaks of it
abbrev pub here_at : {grants : Grants} {words : List ℕ} {passes : List Pass} {seat : ℕ} {held : Option Held} {pass : Pass}
    → Moment HasHistory seat held pass grants words passes → Here grants words passes seat
here_at {pass} m = record {
  start = m.met.0;
  history = m.met.1;
  state = m.met.2;
  pass = pass;
  running = m.met.3;
  backed = m.met.4;
  exclusive = m.exclusive;
  own = m.own;
}

module _ (grants : Grants) (words : List ℕ) (passes : List Pass) (worker : ℕ) (pass : Pass) (kept : HasHistory grants words passes)
    (own : get_elem? passes worker ≡ some pass) where
  pub part_at : IsPart kept.0 kept.1 words worker pass
  part_at = kept.3.parts worker pass own

  pub backs_at : (plan : Splice) → pass.pending ≡ Planned plan → Backs grants kept.2 worker (Planned plan)
  backs_at plan planned = subst (Backs grants kept.2 worker) planned (kept.4 worker pass own).pending

  -- where it holds everything the word of each slot that it has read stands there
  pub rows_at : Holds grants worker everything → (slot word : ℕ) → HasRead pass.rows slot word → slice_index words (3 + slot) ≡ word
  rows_at holds slot word has = (stands (Some everything) words pass.rows slot word ((kept.4 worker pass own).rows (Some everything) holds) has).word refl
