-- A node leaves the ready ones of a seat only by that seat's ClearHome of it.
use Rattle.std.proofs.Common.{◌≡◌, ◌≢◌, ℕ, suc, ◌+◌, ◌-◌, ◌*◌, ◌<◌, ◌≤◌, Bool, true, false, List, ◌∷◌, Some, None}
use Rattle.std.proofs.Common.{⊎_elim, refl, sym, ap, ◌∙◌, subst, arith, eqb-true}
use Rattle.std.specs.Prelude.{Option, slice_get, slice_index, slice_set, ◌==◌, ◌%◌, if◌then◌else◌}
use Rattle.lock_core.specs.Counted.{are_others_passed, times}
use Rattle.lock_core.specs.declared.views.View.{View}
use Rattle.lock_core.specs.declared.views.Cursor.{Cursor}
use Rattle.lock_core.specs.declared.views.Own.{Own}
use Rattle.lock_core.specs.declared.views.Own.TheVariants.{Filling}
use Rattle.lock_core.specs.declared.compare.Verdict.{Verdict}
use Rattle.lock_core.specs.declared.compare.Verdict.TheVariants.{Past, Stop, Conflict}
use Rattle.lock_core.specs.declared.steps.Step.{Step}
use Rattle.lock_core.specs.declared.steps.Step.TheVariants.{ClearHome}
use Rattle.lock_core.specs.Compare.{verdict_of}
use Rattle.lock_core.specs.Views.{ready_left, released, is_passed, note_of, passes, noted, looked_at, came_home, walked}
use Rattle.lock_core.specs.Views.{hi_judged, dropped, linked, todo_of, unlinked, quick_linked, quick_unlinked, settled}
use Rattle.lock_core.specs.StepTable.{Plan, IsLine, leave, read_epoch, read_home}
use Rattle.lock_core.specs.StepTable.{clear_home, walk, read_hi, link, unlink, quick_link}
use Rattle.lock_core.specs.StepTable.{quick_unlink, settle}
use Rattle.lock_core.specs.Machine.{Machine, after}
use Rattle.lock_core.proofs.ByView.{set_view, same_view}
use Rattle.lock_core.proofs.Counts.{times_joined}
use Rattle.lock_core.proofs.Stepping.{stepped}

module _ (seats s x : ℕ) (v : View) where
  -- x isn't fewer times ready in the view u
  abbrev Stays : View → Type 0
  Stays u = times x v.ready ≤ times x u.ready

  same : Stays v
  same = omega arith

  either : (b : Bool) (u w : View) → Stays u → Stays w → Stays (if b then u else w)
  either true u w e e' = e
  either false u w e e' = e'

  at_leave : (own : Own) → times x v.ready ≤ times x (ready_left own v.ready)
  at_leave (Filling node lo hi mode aimed) = omega arith
  at_leave _ = same

  at_note : (j w : ℕ) (note : Option ℕ) → (noted v j w note).ready ≡ v.ready
  at_note j w None = refl
  at_note j w (Some n) = go (n == w)
    where
      go : (b : Bool) → (if b then v else passes v j).ready ≡ v.ready
      go true = refl
      go false = refl

  at_look : (j w : ℕ) → (looked_at v j w).ready ≡ v.ready
  at_look j w = go (is_passed v j) (w % 2 == 0)
    where
      go : (b d : Bool) → (if b then v else (if d then passes v j else noted v j w (note_of v j))).ready ≡ v.ready
      go true d = refl
      go false true = refl
      go false false = at_note j w (note_of v j)

  at_release : (u : View) → Stays u → Stays (released u)
  at_release u e = let j = times_joined x u.ready u.homes in omega arith

  at_walk : (o : Option Cursor) (w : ℕ) → Stays (walked v o w)
  at_walk None w = same
  at_walk (Some c) w = same

  at_judge : (c : Cursor) (y n : ℕ) (verdict : Verdict) → Stays (hi_judged v c y n verdict)
  at_judge c y n Past = same
  at_judge c y n Stop = same
  at_judge c y n Conflict = same

  at_take : (n : ℕ) (rest : List ℕ) → v.ready ≡ n ∷ rest → times x rest < times x v.ready → n ≡ x
  at_take n rest e l = go (n == x) refl (ap (times x) e)
    where
      go : (b : Bool) → (n == x) ≡ b → times x v.ready ≡ (if b then 1 else 0) + times x rest → n ≡ x
      go true q t = eqb-true n x q
      go false q t = absurd (omega arith)

  -- a line leaves x as often ready as before, or is that of its ClearHome
  by_line : (step : Step) (p : Plan) (w : ℕ) → IsLine seats s v step p → times x (p.view w).ready < times x v.ready → step ≡ ClearHome x
  by_line step p w (leave odd hand todo) l = absurd (let e = at_leave v.own in omega arith)
  by_line step p w (read_epoch j even homes less other) l =
      absurd (let r = ap (times x) (at_look j w) in
      let e = either (are_others_passed s (looked_at v j w).passed) (released (looked_at v j w)) (looked_at v j w)
      (at_release (looked_at v j w) (omega arith)) (omega arith) in omega arith)
  by_line step p w (read_home n even used homes) l =
      absurd (let e = either (w == 1) (if seats == 1 then released (came_home seats v n) else came_home seats v n) v
      (either (seats == 1) (released (came_home seats v n)) (came_home seats v n) (at_release (came_home seats v n) same)
      same) same in omega arith)
  by_line step p w (clear_home n rest own even ready) l = ap (λ (m : ℕ). ClearHome m) (at_take n rest ready l)
  by_line step p w (walk cell odd hand at) l = absurd (let e = at_walk v.cursor w in omega arith)
  by_line step p w (read_hi c y n lo cursor node next plain low own) l = absurd (let e = at_judge c y n (verdict_of v.own lo w) in omega arith)
  by_line step p w (link f c lo hi own cursor low high aimed plain place) l =
      absurd (let e = either (w == c.cur) (linked v f.node lo hi f.mode (todo_of f.mode)) (dropped v) same same in omega arith)
  by_line step p w (unlink c y n cursor node next marked hand) l =
      absurd (let e = either (w == c.cur) (unlinked v c y (n - 1)) (dropped v) same same in omega arith)
  by_line step p w (quick_link f lo hi own low high aimed even) l =
      absurd (let e = either (w == 0) (quick_linked v f.node lo hi f.mode) v same same in omega arith)
  by_line step p w (quick_unlink k own done hand) l = absurd (let e = either (w == 2 * suc k.node + 1) (quick_unlinked v k.node) v same same in omega arith)
  by_line step p w (settle c cursor prev low) l = absurd (let e = either (w == c.cur) (settled v c) (dropped v) same same in omega arith)
  by_line step p w _ l = absurd (omega arith)

-- a node that is ready less often after a step was taken by its own seat's ClearHome
pub leaves : (m next : Machine) (s i x : ℕ) (step : Step) (v u : View) → after m s step ≡ Some next → slice_get m.views i ≡ Some v
    → slice_get next.views i ≡ Some u → times x u.ready < times x v.ready → (i ≡ s) × (step ≡ ClearHome x)
leaves m next s i x step v u e at at' l =
    let t = stepped m next s step e in
    let w = slice_index m.words t.plan.place in
    let there : slice_get (slice_set m.views s (t.plan.view w)) i ≡ Some u = ap (λ (n : Machine). slice_get n.views i) t.is ∙ at' in
    ⊎_elim
    (λ (q : (i ≡ s) × (t.plan.view w ≡ u)).
    let old : t.view ≡ v = same_view m.views i t.view v (subst (λ k. slice_get m.views k ≡ Some t.view) (sym q.0) t.at) at in
    let less : times x (t.plan.view w).ready < times x t.view.ready = let a = ap (λ (z : View). times x z.ready) q.1 in
    let b = ap (λ (z : View). times x z.ready) old in omega arith in
    (q.0, by_line m.seats s x t.view step t.plan w t.line less))
    (λ (q : (i ≢ s) × (slice_get m.views i ≡ Some u)). absurd (let old = same_view m.views i v u at q.1 in
    let a = ap (λ (z : View). times x z.ready) old in omega arith))
    (set_view m.views s i (t.plan.view w) u there)
