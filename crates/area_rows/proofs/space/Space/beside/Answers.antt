use Rattle.std.proofs.Common.{ℕ, ◌≡◌, ◌+◌, ◌*◌, ◌/◌, ◌%◌, ◌<◌, List, length, sym, ap, ◌∙◌, subst, arith}
use Rattle.std.specs.Prelude.{Some, IsSome, slice_index}
use Rattle.atomic_table.specs.Seated.{TableId}
use Rattle.range_rw.specs.Contract.{SeatState}
use Rattle.area_guard.specs.Rows.{blocks_by, layout_in, slots_of, slot_at, IsNextOf, IsPreviousOf}
use Rattle.area_guard.specs.Reads.{layout_by}
use Rattle.area_guard.specs.declared.guard.Pass.{Pass}
use Rattle.plan_words.specs.Reading.{reading_on}
use Rattle.area_rows.specs.Callers.{AreInReach, IsReading}
use Rattle.area_rows.specs.Layouts.{IsLayout}
use Rattle.area_rows.proofs.LayoutLoads.{seen_reads, own_blocks}
use Rattle.area_rows.proofs.Reading.{step_taken}
use Rattle.area_rows.proofs.BlockSlots.{place_slot}
use Rattle.area_rows.proofs.space.Space.beside.Goals.{After-load_told-told, After-slot_in}
use Rattle.area_rows.proofs.space.Space.beside.Goals as goal

-- the layout that was noted before is the one that stands there
layout_same : (c : After-load_told-told) → layout_in c.load_told-told.ensures.seen.words ≡ layout_by c.args.caller.now.seat.pass.laid
layout_same c = c.load_told-told.ensures.seen.again (layout_by c.args.caller.now.seat.pass.laid) c.requires.laid

-- it is a layout
is_layout : (c : After-load_told-told) → IsLayout (blocks_by c.args.caller.now.seat.table) (layout_by c.args.caller.now.seat.pass.laid)
is_layout c = subst (IsLayout (blocks_by c.args.caller.now.seat.table)) (layout_same c) c.load_told-told.ensures.seen.layout

-- with this body word of the block
told_is : (c : After-load_told-told) → slice_index (layout_by c.args.caller.now.seat.pass.laid) (2 + c.args.index / 128) ≡ c.load_told-told.result
told_is c = ap (λ (l : List ℕ). slice_index l (2 + c.args.index / 128)) (sym (layout_same c)) ∙ c.load_told-told.ensures.seen.word

-- all slots are in reach
pub returns-clause-reach : goal.returns-clause-reach
returns-clause-reach c =
    let k = (goal.at.returns-clause-reach c).After-load_told-told in
    subst (λ (l : List ℕ). AreInReach c.args.caller.now.seat.table (slots_of l)) (layout_same k) c.load_told-told.ensures.seen.reach

-- so it is after any more loads
record IsStill (c : After-load_told-told) (b : SeatState Pass) : Type 0 where
  reading : IsReading c.args.caller.now.seat b
  laid : b.pass.laid ≡ Some (layout_by b.pass.laid)
  same : layout_by b.pass.laid ≡ layout_by c.args.caller.now.seat.pass.laid
  blocks : b.pass.blocks ≡ blocks_by b.table
  layout : IsLayout (blocks_by b.table) (layout_by b.pass.laid)

still : (c : After-load_told-told) (b : SeatState Pass) → IsReading c.args.caller.now.seat b → IsStill c b
still c b r =
    let l = r.read.laid (layout_by c.args.caller.now.seat.pass.laid) c.requires.laid in
    let same = ap layout_by l in
    record {
      reading = r;
      laid = l ∙ ap (λ (x : List ℕ). Some x) (sym same);
      same = same;
      blocks = r.read.blocks ∙ (c.load_told-told.ensures.seen.blocks ∙ ap blocks_by (sym r.table));
      layout = subst (λ (z : TableId × List ℕ). IsLayout (blocks_by z.0) z.1) (λ i. (sym r.table i, sym same i)) (is_layout c);
    }

-- the slot before
pub slot_before-before-requires : goal.slot_before-before-requires
slot_before-before-requires c =
    let k = (goal.at.slot_before-before-requires c).After-load_told-told in
    let s = still k c.load_told-told.new.caller.seat (seen_reads c.load_told-told.ensures.seen) in
    let told = told_is k in
    let rows = ap (λ (x : ℕ). x % 128) told in
    let there = c.requires.there.1 in
    record {
      table = s.reading.table ∙ c.requires.table;
      held = subst IsSome (sym s.reading.held) c.requires.held;
      rest = s.reading.read.pending ∙ c.requires.rest;
      laid = s.laid;
      blocks = s.blocks;
      layout = s.layout;
      block = subst (λ (l : List ℕ). c.args.index / 128 < slice_index l 1) (sym s.same) c.requires.there.0;
      place = omega arith;
      told = ap (λ (l : List ℕ). slice_index l (2 + c.args.index / 128)) s.same ∙ told;
    }

-- and the one behind
pub slot_behind-behind-requires : goal.slot_behind-behind-requires
slot_behind-behind-requires c =
    let k = (goal.at.slot_behind-behind-requires c).After-load_told-told in
    let s = still k c.slot_before-before.new.caller.seat (reading_on _ _ _ (seen_reads c.load_told-told.ensures.seen) c.slot_before-before.ensures.reading) in
    let told = told_is k in
    let rows = ap (λ (x : ℕ). x % 128) told in
    let there = c.requires.there.1 in
    record {
      table = s.reading.table ∙ c.requires.table;
      held = subst IsSome (sym s.reading.held) c.requires.held;
      rest = s.reading.read.pending ∙ c.requires.rest;
      laid = s.laid;
      blocks = s.blocks;
      layout = s.layout;
      block = subst (λ (l : List ℕ). c.args.index / 128 < slice_index l 1) (sym s.same) c.requires.there.0;
      place = omega arith;
      told = ap (λ (l : List ℕ). slice_index l (2 + c.args.index / 128)) s.same ∙ told;
    }

-- the body is one of the table's
pub slot_in-requires-clause-body : goal.slot_in-requires-clause-body
slot_in-requires-clause-body c =
    let k = (goal.at.slot_in-requires-clause-body c).After-load_told-told in
    let table = own_blocks c.requires.table c.self.view_is c.self.invariant.1 in
    let layout = is_layout k in let free = layout.free in let block = c.requires.there.0 in
    let told = ap (λ (x : ℕ). x / 128 % 2048) (told_is k) in
    let body = layout.bodies (c.args.index / 128) (omega arith) in omega arith

-- the row's slot
place_is : (c : After-slot_in) → After-load_told-told → slot_at (layout_by c.args.caller.now.seat.pass.laid)
    (128 * (c.args.index / 128) + c.args.index % 128) ≡ c.slot_in.result
place_is c k =
    let layout = layout_by c.args.caller.now.seat.pass.laid in
    let table = own_blocks c.requires.table c.self.view_is c.self.invariant.1 in
    let n = c.load_told-told.ensures.seen in let same = n.again layout c.requires.laid in
    let long = subst (λ (l : List ℕ). length l ≡ blocks_by c.args.caller.now.seat.table + 2) same n.layout.long in
    let told = ap (λ (l : List ℕ). slice_index l (2 + c.args.index / 128)) (sym same) ∙ n.word in
    place_slot layout c.self.inside.blocks (c.args.index / 128) (c.args.index % 128) c.slot_in.result (omega arith) told (omega arith) c.slot_in.ensures.head
    c.slot_in.ensures.body

pub returns-clause-own : goal.returns-clause-own
returns-clause-own c =
    let at : 128 * (c.args.index / 128) + c.args.index % 128 ≡ c.args.index = omega arith in
    sym (place_is (goal.at.returns-clause-own c).After-slot_in (goal.at.returns-clause-own c).After-load_told-told)
    ∙ ap (slot_at (layout_by c.args.caller.now.seat.pass.laid)) at

-- the slot before it
pub returns-clause-before : goal.returns-clause-before
returns-clause-before c =
    let at = goal.at.returns-clause-before c in let k = at.After-load_told-told in
    let s = still k c.load_told-told.new.caller.seat (seen_reads c.load_told-told.ensures.seen) in
    subst (λ (n : ℕ). IsPreviousOf (slots_of (layout_by c.args.caller.now.seat.pass.laid)) n c.slot_before-before.result) (place_is at.After-slot_in k)
    (subst (λ (l : List ℕ). IsPreviousOf (slots_of l) (slot_at l (128 * (c.args.index / 128) + c.args.index % 128)) c.slot_before-before.result) s.same
    c.slot_before-before.ensures.before)

-- and the one behind it
pub returns-clause-behind : goal.returns-clause-behind
returns-clause-behind c =
    let at = goal.at.returns-clause-behind c in let k = at.After-load_told-told in
    let s = still k c.slot_before-before.new.caller.seat (reading_on _ _ _ (seen_reads c.load_told-told.ensures.seen) c.slot_before-before.ensures.reading) in
    subst (λ (n : ℕ). IsNextOf (slots_of (layout_by c.args.caller.now.seat.pass.laid)) n c.slot_behind-behind.result) (place_is at.After-slot_in k)
    (subst (λ (l : List ℕ). IsNextOf (slots_of l) (slot_at l (128 * (c.args.index / 128) + c.args.index % 128)) c.slot_behind-behind.result) s.same
    c.slot_behind-behind.ensures.behind)

-- all loads are a reading
pub returns-clause-reading : goal.returns-clause-reading
returns-clause-reading c = reading_on _ _ _ (seen_reads c.load_told-told.ensures.seen)
    (reading_on _ _ _ c.slot_before-before.ensures.reading c.slot_behind-behind.ensures.reading)

-- and at most three steps
pub returns-clause-loads : goal.returns-clause-loads
returns-clause-loads c =
    let t = step_taken _ _ _ _ c.load_told-told.ensures.seen.step in let b = c.slot_before-before.ensures.loads in
    let d = c.slot_behind-behind.ensures.loads in omega arith
