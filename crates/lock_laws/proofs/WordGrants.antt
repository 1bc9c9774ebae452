-- The held ranges after a step of each kind. Of those that change no path a walk gains where its validation comes to
-- its end, and no other changes a grant.
use Rattle.std.proofs.Common.{◌≡◌, ℕ, Some, None, ⊎_elim, refl, sym, ap, ◌∙◌, subst}
use Rattle.std.specs.Prelude.{slice_get, slice_index, Option, ◌==◌}
use Rattle.lock_core.specs.declared.compare.Verdict.{Verdict}
use Rattle.lock_core.specs.declared.compare.Verdict.TheVariants.{Past, Stop, Conflict}
use Rattle.lock_core.specs.declared.views.View.{View}
use Rattle.lock_core.specs.declared.views.Cursor.{Cursor}
use Rattle.lock_core.specs.declared.views.Own.{Own}
use Rattle.lock_core.specs.declared.views.Own.TheVariants.{Nothing, Filling, Linked}
use Rattle.lock_core.specs.declared.views.Todo.TheVariants.{Forward}
use Rattle.lock_core.specs.declared.steps.Step.{Step}
use Rattle.lock_core.specs.Compare.{verdict_of}
use Rattle.lock_core.specs.Views.{kept_own, own_at, own_stopped, walked, hi_read, hi_judged, settled, dropped}
use Rattle.lock_core.specs.StepTable.{Plan, IsLine, enter, leave, read_epoch, read_home, give_home, fill_lo, fill_hi}
use Rattle.lock_core.specs.StepTable.{aim, clear_home, walk, read_lo, read_hi, settle, link, unlink, mark, quick_link, quick_unlink}
use Rattle.lock_core.specs.Machine.{Machine, carried_out, held_at}
use Rattle.lock_laws.specs.HeldSteps.{HoldsOn, EachStep}
use Rattle.lock_core.proofs.OwnNodes.{own_if, own_epoch, own_home}
use Rattle.lock_core.proofs.Stepping.{stepped}
use Rattle.lock_laws.proofs.Holding.{Arriving, Does, holds_on, stays, arrives, came_undone}
use Rattle.lock_laws.proofs.Holding.{link_holds, unlink_gains, mark_gives_back, quick_link_gains, quick_unlink_gives_back}
use Rattle.lock_laws.proofs.Coming.{CameHome, coming}

held_left : (o : Own) → held_at (kept_own o) ≡ held_at o
held_left Nothing = refl
held_left (Filling node lo hi mode aimed) = refl
held_left (Linked node range mode todo) = refl

module _ (m : Machine) (s : ℕ) (v : View) (at : slice_get m.views s ≡ Some v) where
  -- the view that a plan leaves
  abbrev left_by : Plan → View
  left_by p = p.view (slice_index m.words p.place)

  same_own : (p : Plan) → (left_by p).own ≡ v.own → HoldsOn m (carried_out m s p)
  same_own p e = holds_on m s v at p (ap held_at e)

  -- a validation that is done by this step gains the range of its node
  came : (p : Plan) (w : ℕ) → (left_by p).own ≡ own_at v.own w → Arriving m s p
  came p w e =
      ⊎_elim
      (λ (q : own_at v.own w ≡ v.own). stays m s v at p (ap held_at (e ∙ q)))
      (λ (c : CameHome v.own w (own_at v.own w)). arrives m s v at p c.was c.is (came_undone v.own w c) (e ∙ c.now))
      (coming v.own w)

  stopped : (p : Plan) → (left_by p).own ≡ own_stopped v.own → Arriving m s p
  stopped p e = by_own v.own refl
    where
      by_own : (o : Own) → v.own ≡ o → Arriving m s p
      by_own (Linked node range mode Forward) q = arrives m s v at p
          (record { node = node; range = range; mode = mode; todo = Forward }) q (λ t. cc) (e ∙ ap own_stopped q)
      by_own _ q = stays m s v at p (ap held_at (e ∙ ap own_stopped q ∙ sym q))

  -- what a line of each kind does to the held ranges
  line_does : (step : Step) (p : Plan) → IsLine m.seats s v step p → Does step m (carried_out m s p) s
  line_does step p (enter even hand) = same_own p refl
  line_does step p (leave odd hand todo) = holds_on m s v at p (held_left v.own)
  line_does step p (read_epoch j even homes less other) = same_own p (own_epoch s v j (slice_index m.words p.place))
  line_does step p (read_home n even used homes) = same_own p (own_home m.seats v n (slice_index m.words p.place))
  line_does step p (give_home n hand) = same_own p refl
  line_does step p (clear_home n rest own even ready) = holds_on m s v at p (sym (ap held_at own))
  line_does step p (fill_lo f lo own aimed cursor) = holds_on m s v at p (sym (ap held_at own))
  line_does step p (fill_hi f lo hi mode own low less most aimed cursor) = holds_on m s v at p (sym (ap held_at own))
  line_does step p (aim f lo hi w own low high place) = holds_on m s v at p (sym (ap held_at own))
  line_does step p (walk cell odd hand there) = by_cursor v.cursor refl
    where
      by_cursor : (o : Option Cursor) → v.cursor ≡ o → Arriving m s p
      by_cursor None e = came p (slice_index m.words p.place) (ap (λ (c : Option Cursor). (walked v c (slice_index m.words p.place)).own) e)
      by_cursor (Some c) e = stays m s v at p (ap held_at (ap (λ (c : Option Cursor). (walked v c (slice_index m.words p.place)).own) e))
  line_does step p (read_lo c y n cursor node next plain) = same_own p refl
  line_does step p (read_hi c y n lo cursor node next plain low ends) = by_verdict (verdict_of v.own lo (slice_index m.words p.place)) refl
    where
      view_is : (t : Verdict) → verdict_of v.own lo (slice_index m.words p.place) ≡ t
          → (hi_read v c y n lo (slice_index m.words p.place)).own ≡ (hi_judged v c y n t).own
      view_is t e = ap (λ (a : Verdict). (hi_judged v c y n a).own) e

      by_verdict : (t : Verdict) → verdict_of v.own lo (slice_index m.words p.place) ≡ t → Arriving m s p
      by_verdict Past e = came p n (view_is Past e)
      by_verdict Stop e = stopped p (view_is Stop e)
      by_verdict Conflict e = stays m s v at p (ap held_at (view_is Conflict e))
  line_does step p (settle c cursor prev odd) = same_own p (own_if (slice_index m.words 0 == c.cur) (settled v c) (dropped v) v.own refl refl)
  line_does step p (link f c lo hi own cursor low high aimed plain place) = link_holds m s v at p (link f c lo hi own cursor low high aimed plain place)
  line_does step p (unlink c y n cursor node next odd empty) = unlink_gains m s v at p (unlink c y n cursor node next odd empty)
  line_does step p (mark k own) = mark_gives_back m s v at p (mark k own)
  line_does step p (quick_link f lo hi own low high aimed even) = quick_link_gains m s v at p (quick_link f lo hi own low high aimed even)
  line_does step p (quick_unlink k own done empty) = quick_unlink_gives_back m s v at p (quick_unlink k own done empty)

-- a step does to the held ranges what its kind does
pub each_does : (step : Step) → EachStep step (Does step)
each_does step m next s e = let t = stepped m next s step e in subst (λ (n : Machine). Does step m n s) t.is (line_does m s t.view t.at step t.plan t.line)
