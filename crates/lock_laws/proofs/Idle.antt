-- A seat that is between two calls and outside its epoch changes a word only by a step that its view shows.
use Rattle.std.proofs.Common.{◌≡◌, ◌⊎◌, ℕ, ◌%◌, ◌∷◌, Some, None, inl, inr, refl, sym, ◌∙◌, arith}
use Rattle.std.specs.Prelude.{Option}
use Rattle.lock_core.specs.declared.views.View.{View}
use Rattle.lock_core.specs.declared.views.Own.{Own}
use Rattle.lock_core.specs.declared.views.Own.TheVariants.{Nothing}
use Rattle.lock_core.specs.declared.steps.Step.{Step}
use Rattle.lock_core.specs.Nodes.{Filled, Listed, filling, listed}
use Rattle.lock_core.specs.Views.{next_epoch}
use Rattle.lock_core.specs.StepTable.{Plan, IsLine, enter, leave, read_epoch, read_home, give_home, fill_lo, fill_hi, aim, clear_home, walk}
use Rattle.lock_core.specs.StepTable.{read_lo, read_hi, link, unlink, mark, quick_link, quick_unlink, settle}

-- nothing isn't something
no_some : {A : Type 0} {o : Option A} {x : A} → o ≡ None → o ≡ Some x → ⊥
no_some {A} {o} {x} none some = let z : ◌≡◌ {A = Option A} None (Some x) = sym none ∙ some in cc

no_filling : {o : Own} (f : Filled) → o ≡ Nothing → o ≡ filling f → ⊥
no_filling f none some = let z : ◌≡◌ {A = Own} Nothing (filling f) = sym none ∙ some in cc

no_listed : {o : Own} (k : Listed) → o ≡ Nothing → o ≡ listed k → ⊥
no_listed k none some = let z : ◌≡◌ {A = Own} Nothing (listed k) = sym none ∙ some in cc

-- each line of such a seat leaves its word, or enters the epoch, or takes the first ready node
pub shows : (seats s : ℕ) (v : View) (step : Step) (p : Plan) → IsLine seats s v step p → v.epoch % 2 ≡ 0 → v.own ≡ Nothing → v.hand ≡ None
    → v.cursor ≡ None → (w : ℕ) → (p.write w ≡ w) ⊎ (((p.view w).epoch ≡ next_epoch v.epoch) ⊎ ((n : ℕ) × (v.ready ≡ n ∷ (p.view w).ready)))
shows seats s v step p (enter even hand) out own free gone w = inr (inl refl)
shows seats s v step p (leave odd hand todo) out own free gone w = absurd (omega arith)
shows seats s v step p (read_epoch j even homes less other) out own free gone w = inl refl
shows seats s v step p (read_home n even used homes) out own free gone w = inl refl
shows seats s v step p (give_home n hand) out own free gone w = absurd (no_some free hand)
shows seats s v step p (fill_lo f lo is aimed cursor) out own free gone w = absurd (no_filling f own is)
shows seats s v step p (fill_hi f lo hi mode is low less most aimed cursor) out own free gone w = absurd (no_filling f own is)
shows seats s v step p (aim f lo hi u is low high aims) out own free gone w = absurd (no_filling f own is)
shows seats s v step p (clear_home n rest none even ready) out own free gone w = inr (inr (n, ready))
shows seats s v step p (walk cell odd hand at) out own free gone w = absurd (omega arith)
shows seats s v step p (read_lo c y n cursor node next plain) out own free gone w = absurd (no_some gone cursor)
shows seats s v step p (read_hi c y n lo cursor node next plain low known) out own free gone w = absurd (no_some gone cursor)
shows seats s v step p (link f c lo hi is cursor low high aimed plain place) out own free gone w = absurd (no_filling f own is)
shows seats s v step p (unlink c y n cursor node next marked hand) out own free gone w = absurd (no_some gone cursor)
shows seats s v step p (mark k is) out own free gone w = absurd (no_listed k own is)
shows seats s v step p (quick_link f lo hi is low high aimed even) out own free gone w = absurd (no_filling f own is)
shows seats s v step p (quick_unlink k is done hand) out own free gone w = absurd (no_listed k own is)
shows seats s v step p (settle c cursor prev low) out own free gone w = absurd (no_some gone cursor)
