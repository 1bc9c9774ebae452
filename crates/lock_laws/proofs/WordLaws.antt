-- The steps, whole: from a lock, each where it is enabled, to a lock. Those that change no path stand here.
use Rattle.std.proofs.Common.{◌≡◌, ℕ, suc, ◌+◌, ◌-◌, ◌/◌, ◌%◌, ◌<◌, ◌≤◌, Bool, true, false, List, length, Some, None}
use Rattle.std.proofs.Common.{refl, sym, ap, ◌∙◌, subst, arith, eqb-true, eq-eqb}
use Rattle.std.specs.Prelude.{slice_set, slice_index, option_map, Option, ◌==◌, if◌then◌else◌}
use Rattle.std.proofs.lemmas.List.{set-get_or}
use Rattle.std.proofs.lemmas.Option.{slice_get_within}
use Rattle.lock_core.specs.Counted.{times}
use Rattle.lock_core.specs.declared.views.View.{View}
use Rattle.lock_core.specs.declared.views.Cursor.{Cursor}
use Rattle.lock_core.specs.declared.steps.Step.{Step}
use Rattle.lock_core.specs.Words.{Heap, heap_of, cell_of, cell_place, epoch_place, lo_place, hi_place, home_place, plain_node_of}
use Rattle.lock_core.specs.Nodes.{Filled, filling, own_times}
use Rattle.lock_core.specs.Views.{next_epoch, epoch_read, home_read, lo_read, hi_read, walk_cell, walked, start_of, dropped, settled}
use Rattle.lock_core.specs.StepTable.{Plan, IsLine, loads, enter, leave, read_epoch, read_home, give_home, fill_lo}
use Rattle.lock_core.specs.StepTable.{fill_hi, aim, clear_home, walk, read_lo, read_hi, settle, link, unlink, mark, quick_link, quick_unlink}
use Rattle.lock_core.specs.Machine.{Machine, heap, carried_out}
use Rattle.lock_core.specs.Sizes.{IsNode}
use Rattle.lock_laws.specs.Invariant.{IsViewOf}
use Rattle.lock_laws.specs.Laws.{IsLock}
use Rattle.lock_core.proofs.Counts.{own_filling}
use Rattle.lock_laws.proofs.Frames.Owns.{same_some}
use Rattle.lock_core.proofs.Words.{wrote_cell, wrote_lo, wrote_hi, wrote_home, wrote_epoch}
use Rattle.lock_laws.proofs.Frames.Parts.{Parts, parts_of, invariant_of}
use Rattle.lock_core.proofs.SizedSteps.{plain_is}
use Rattle.lock_core.proofs.Sizing.{looked_sized}
use Rattle.lock_laws.proofs.WordSteps.Homing.{AreSeats, gives_home, clears_home}
use Rattle.lock_laws.proofs.WordSteps.Entering.{enters, leaves}
use Rattle.lock_laws.proofs.WordSteps.Barring.{reads_epoch, reads_home}
use Rattle.lock_laws.proofs.WordSteps.FillSteps.{fills_lo, fills_hi, aims_at}
use Rattle.lock_laws.proofs.WordSteps.Walking.{begins}
use Rattle.lock_laws.proofs.WordSteps.Reading.{loads_next, reads_lo}
use Rattle.lock_laws.proofs.WordSteps.Judged.{judges}
use Rattle.lock_laws.proofs.PathLaws.{Holds, node_there, link_holds, unlink_holds, mark_holds, quick_link_holds, quick_unlink_holds}
use Rattle.lock_laws.proofs.Exchanges.Dropping.{drops}
use Rattle.lock_laws.proofs.WordSteps.Settling.{settles}

-- a word without low bit that names a node
plain_parts : (w y : ℕ) → plain_node_of w ≡ Some y → (w % 2 ≡ 0) × (w / 2 ≡ suc y)
plain_parts w y e = let p = plain_is w y e in (omega (arith, p), omega (arith, p))

module _ (m : Machine) (s : ℕ) (v : View) (l : IsLock m) (at : IsViewOf m.views s v) where
  abbrev h : Heap
  h = heap m

  parts : Parts h m.views
  parts = parts_of h m.views l.invariant

  seats : AreSeats m.seats m.views
  seats j w e = let a = slice_get_within m.views j w e in let b = l.sized.views in omega (arith, a, b)

  seat_there : s < m.seats
  seat_there = seats s v at

  filled_there : (f : Filled) → v.own ≡ filling f → IsNode m.seats f.node
  filled_there f own = let o = own_filling v f own in node_there m s f.node v l at (omega (arith, o))

  -- the invariant after a plan, from its parts
  by_parts : (p : Plan) → Parts (heap (carried_out m s p)) (slice_set m.views s (p.view (slice_index m.words p.place))) → Holds (carried_out m s p)
  by_parts p after = invariant_of (heap (carried_out m s p)) (slice_set m.views s (p.view (slice_index m.words p.place))) after

  -- a load leaves the words as they are
  by_load : (place : ℕ) (view : ℕ → View) → Parts h (slice_set m.views s (view (slice_index m.words place))) → Holds (carried_out m s (loads place view))
  by_load place view after =
      by_parts (loads place view)
      (subst (λ (ws : List ℕ). Parts (heap_of m.seats ws) (slice_set m.views s (view (slice_index m.words place)))) (sym (set-get_or m.words place 0)) after)

  epoch_there : epoch_place s < length m.words
  epoch_there = let a = seat_there in let b = l.sized.words in omega (arith, a, b)

  home_there : (x : ℕ) → IsNode m.seats x → home_place m.seats x < length m.words
  home_there x n = let b = l.sized.words in omega (arith, n, b)

  -- an enabled step of a lock, of each kind, leaves a state that meets the invariant
  pub line_holds : (step : Step) (p : Plan) → IsLine m.seats s v step p → Holds (carried_out m s p)
  line_holds step p (enter even hand) =
      by_parts p
      (enters h _ m.views s v parts at even (wrote_epoch m.seats (next_epoch (h.epoch s)) m.words s seat_there epoch_there))
  line_holds step p (leave odd hand done) =
      by_parts p
      (leaves h _ m.views s v parts at done (wrote_epoch m.seats (next_epoch (h.epoch s)) m.words s seat_there epoch_there))
  line_holds step p (read_epoch j even homes less other) =
      by_load (epoch_place j) (epoch_read s v j)
      (reads_epoch h m.views s j v parts at even ((looked_sized m.seats s v j (h.epoch j) (l.sized.each s v at)).passed ∙ sym l.sized.views))
  line_holds step p (read_home n even used homes) =
      by_load (home_place m.seats n) (home_read m.seats v n)
      (reads_home h m.views s n m.seats v parts at even used homes l.sized.views)
  line_holds step p (give_home n hand) =
      by_parts p
      (gives_home m.seats h _ m.views s n v seats parts at hand (wrote_home m.seats 1 m.words n (home_there n ((l.sized.each s v at).hand n hand))))
  line_holds step p (clear_home n rest own even ready) =
      by_parts p
      (clears_home m.seats h _ m.views s n rest v seats parts at own even ready (wrote_home m.seats 0 m.words n (home_there n (node_there m s n v l at first))))
    where
      first : 1 ≤ own_times n v.own + times n v.ready + times n v.used
      first = let a = ap (times n) ready in let b = ap (λ (t : Bool). (if t then 1 else 0) + times n rest) (eq-eqb n n refl) in omega (arith, a, b)
  line_holds step p (fill_lo f lo own aimed cursor) =
      by_parts p (fills_lo m.seats h _ m.views s lo v f seats parts at own aimed cursor
      (wrote_lo m.seats lo m.words f.node (let n = filled_there f own in let b = l.sized.words in omega (arith, n, b))))
  line_holds step p (fill_hi f lo hi mode own low less most aimed cursor) =
      by_parts p
      (fills_hi m.seats h _ m.views s lo hi mode v f seats parts at own low less most aimed cursor
      (wrote_hi m.seats _ m.words f.node (let n = filled_there f own in let b = l.sized.words in omega (arith, n, b))))
  line_holds step p (aim f lo hi w own low high place) =
      by_parts p
      (aims_at m.seats h _ m.views s lo hi w v f seats parts at own low high
      (wrote_cell m.seats w m.words (suc f.node) (let n = filled_there f own in let b = l.sized.words in omega (arith, n, b))))
  line_holds step p (walk cell odd hand there) =
      by_load (cell_place m.seats cell) (walked v v.cursor) (by_cursor v.cursor refl)
    where
      by_cursor : (o : Option Cursor) → v.cursor ≡ o → Parts h (slice_set m.views s (walked v o (h.next cell)))
      by_cursor None e =
          let same : cell_of (start_of v.own) ≡ cell = same_some _ cell (sym (ap (walk_cell v.own) e) ∙ there) in
          subst (λ a. Parts h (slice_set m.views s (walked v None (h.next a)))) same (begins h m.views s v parts at e odd)
      by_cursor (Some c) e = by_node (plain_node_of c.cur) refl (sym (ap (walk_cell v.own) e) ∙ there)
        where
          by_node : (o : Option ℕ) → plain_node_of c.cur ≡ o → option_map suc o ≡ Some cell → Parts h (slice_set m.views s (walked v (Some c) (h.next cell)))
          by_node None q r = absurd (cc)
          by_node (Some y) q r =
              let t = plain_parts c.cur y q in
              subst (λ a. Parts h (slice_set m.views s (walked v (Some c) (h.next a)))) (same_some (suc y) cell r)
              (loads_next h m.views s v c y parts at e t.0 t.1)
  line_holds step p (read_lo c y n cursor node next plain) =
      let t = plain_parts c.cur y node in
      by_load (lo_place m.seats y) (lo_read v c) (reads_lo h m.views s v c y parts at cursor t.0 t.1 n next)
  line_holds step p (read_hi c y n lo cursor node next plain low ends) =
      let t = plain_parts c.cur y node in
      by_load (hi_place m.seats y) (hi_read v c y n lo) (judges h m.views s v c y n lo parts at cursor t.0 t.1 next plain low)
  line_holds step p (settle c cursor prev odd) =
      by_parts p (by_found (h.next 0 == c.cur) refl)
    where
      by_found : (t : Bool) → h.next 0 == c.cur ≡ t
          → Parts (heap_of m.seats (slice_set m.words 0 (if t then c.cur - 1 else h.next 0)))
          (slice_set m.views s (if t then settled v c else dropped v))
      by_found true e = settles m.seats h _ m.views s v c seats parts at cursor prev odd (eqb-true (h.next 0) c.cur e)
          (wrote_cell m.seats (c.cur - 1) m.words 0 (let b = l.sized.words in omega (arith, b)))
      by_found false e = subst (λ (ws : List ℕ). Parts (heap_of m.seats ws) (slice_set m.views s (dropped v)))
          (sym (set-get_or m.words 0 0)) (drops h m.views s v parts at)
  line_holds step p (link f c lo hi own cursor low high aimed plain place) =
      link_holds m s v l at p (link f c lo hi own cursor low high aimed plain place)
  line_holds step p (unlink c y n cursor node next odd empty) = unlink_holds m s v l at p (unlink c y n cursor node next odd empty)
  line_holds step p (mark g own) = mark_holds m s v l at p (mark g own)
  line_holds step p (quick_link f lo hi own low high aimed even) = quick_link_holds m s v l at p (quick_link f lo hi own low high aimed even)
  line_holds step p (quick_unlink g own done empty) = quick_unlink_holds m s v l at p (quick_unlink g own done empty)
