-- Each step leaves a hand's pools whole, and a hand that is alone without homes.
use Rattle.std.proofs.Common.{◌≡◌, ℕ, suc, ◌-◌, ◌*◌, ◌+◌, ◌<◌, Bool, true, false, List, [], Some, None, refl, ap, ◌∙◌, eq-eqb}
use Rattle.std.specs.Prelude.{Option, ◌==◌, if◌then◌else◌}
use Rattle.lock_core.specs.declared.views.View.{View}
use Rattle.lock_core.specs.declared.views.Cursor.{Cursor}
use Rattle.lock_core.specs.declared.steps.Step.{Step}
use Rattle.lock_core.specs.declared.compare.Verdict.{Verdict}
use Rattle.lock_core.specs.declared.compare.Verdict.TheVariants.{Past, Stop, Conflict}
use Rattle.lock_core.specs.Views.{released, came_home, walked, hi_judged, linked, unlinked, dropped, todo_of, quick_linked, quick_unlinked, settled}
use Rattle.lock_core.specs.Compare.{verdict_of}
use Rattle.lock_core.specs.StepTable.{Plan, IsLine, read_epoch, read_home, walk, read_hi, link, unlink, quick_link, quick_unlink, settle}
use Rattle.lock_core.specs.Operations.{planned, IsEnabled}
use Rattle.lock_core.proofs.Enabled.{line_of}
use Rattle.epoch_pools.specs.Pools.{IsWhole, IsPooled}

-- the homes of a view that is one of two
homes_if : (b : Bool) (x y : View) (hs : List ℕ) → x.homes ≡ hs → y.homes ≡ hs → (if b then x else y).homes ≡ hs
homes_if true x y hs e e' = e
homes_if false x y hs e e' = e'

homes_walked : (v : View) (o : Option Cursor) (w : ℕ) → (walked v o w).homes ≡ v.homes
homes_walked v None w = refl
homes_walked v (Some c) w = refl

homes_judged : (v : View) (c : Cursor) (y n : ℕ) (d : Verdict) → (hi_judged v c y n d).homes ≡ v.homes
homes_judged v c y n Past = refl
homes_judged v c y n Stop = refl
homes_judged v c y n Conflict = refl

-- with one seat a node that came home is ready at once
homes_home : (seats : ℕ) (v : View) (n w : ℕ) → seats ≡ 1 → v.homes ≡ []
    → (if w == 1 then (if seats == 1 then released (came_home seats v n) else came_home seats v n) else v).homes ≡ []
homes_home seats v n w one none = homes_if (w == 1) (if seats == 1 then released (came_home seats v n) else came_home seats v n) v []
    (ap (λ (b : Bool). (if b then released (came_home seats v n) else came_home seats v n).homes) (eq-eqb seats 1 one)) none

-- a seat that is alone reads no other epoch
alone_line : (seats s : ℕ) (v : View) (step : Step) (p : Plan) → IsLine seats s v step p → s < seats → seats ≡ 1 → v.homes ≡ []
    → (w : ℕ) → (p.view w).homes ≡ []
alone_line seats s v _ _ (read_epoch j even some less other) below one none w = absurd (some none)
alone_line seats s v _ _ (read_home n even used new) below one none w = homes_home seats v n w one none
alone_line seats s v _ _ (walk cell odd hand at) below one none w = homes_walked v v.cursor w ∙ none
alone_line seats s v _ _ (read_hi c y n lo cursor node next plain low own) below one none w = homes_judged v c y n (verdict_of v.own lo w) ∙ none
alone_line seats s v _ _ (link f c lo hi own cursor low high aimed plain place) below one none w =
    homes_if (w == c.cur) (linked v f.node lo hi f.mode (todo_of f.mode)) (dropped v) [] none none
alone_line seats s v _ _ (unlink c y n cursor node next odd hand) below one none w = homes_if (w == c.cur) (unlinked v c y (n - 1)) (dropped v) [] none none
alone_line seats s v _ _ (quick_link f lo hi own low high aimed even) below one none w = homes_if (w == 0) (quick_linked v f.node lo hi f.mode) v [] none none
alone_line seats s v _ _ (quick_unlink k own done hand) below one none w = homes_if (w == 2 * suc k.node + 1) (quick_unlinked v k.node) v [] none none
alone_line seats s v _ _ (settle c cursor prev odd) below one none w = homes_if (w == c.cur) (settled v c) (dropped v) [] none none
alone_line seats s v _ _ _ below one none w = none

-- a step that the hand's view enables leaves its pools so, where the running rule tells that no node was lost
pub pooled_after : (seats s : ℕ) (v : View) (step : Step) (w : ℕ) → s < seats → IsEnabled seats s v step → IsPooled seats s v
    → IsWhole s ((planned seats s v step).view w) → IsPooled seats s ((planned seats s v step).view w)
pooled_after seats s v step w below may pooled whole = record {
  whole = whole;
  alone = λ one. alone_line seats s v step (planned seats s v step) (line_of seats s v step may) below one (pooled.alone one) w;
}
