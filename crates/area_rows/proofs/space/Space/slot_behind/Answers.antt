use Rattle.std.proofs.Common.{ℕ, ◌≡◌, ◌+◌, ◌/◌, ◌%◌, List, sym, ap, ◌∙◌, arith}
use Rattle.std.specs.Prelude.{slice_index}
use Rattle.area_guard.specs.Reads.{layout_by}
use Rattle.area_rows.proofs.LayoutLoads.{seen_reads, own_blocks}
use Rattle.area_rows.proofs.Reading.{step_taken}
use Rattle.area_rows.proofs.BlockSlots.{place_slot, place_behind, block_behind, none_behind}
use Rattle.area_rows.proofs.space.Space.slot_behind.Goals as goal

-- the body of the block is one of the table's
pub slot_in-requires-clause-body : goal.slot_in-requires-clause-body
slot_in-requires-clause-body c =
    let table = own_blocks c.requires.table c.self.view_is c.self.invariant.1 in
    let free = c.requires.layout.free in let block = c.requires.block in
    let told = ap (λ (x : ℕ). x / 128 % 2048) c.requires.told in
    let body = c.requires.layout.bodies c.args.block (omega arith) in omega arith

-- behind a place comes the one behind it
pub returns-then-place-told-clause-behind : goal.returns-then-place-told-clause-behind
returns-then-place-told-clause-behind c =
    let layout = layout_by c.args.caller.now.seat.pass.laid in
    let table = own_blocks c.requires.table c.self.view_is c.self.invariant.1 in
    let long = c.requires.layout.long in
    let rows = ap (λ (x : ℕ). x % 128) c.requires.told in
    let less = c.if-place-told.true in
    place_behind layout c.args.block c.args.place c.requires.block (omega arith) (place_slot layout c.self.inside.blocks c.args.block (c.args.place + 1)
    c.slot_in.result (omega arith) c.requires.told (omega arith) c.slot_in.ensures.head c.slot_in.ensures.body)

-- behind the last row of a block the next head
pub returns-then-block-load_used-clause-behind : goal.returns-then-block-load_used-clause-behind
returns-then-block-load_used-clause-behind c =
    let layout = layout_by c.args.caller.now.seat.pass.laid in let n = c.load_used.ensures.seen in
    let used = ap (λ (l : List ℕ). slice_index l 1) (sym (n.again layout c.requires.laid)) ∙ n.word in
    let rows = ap (λ (x : ℕ). x % 128) c.requires.told in
    let place = c.requires.place in let all = c.if-place-told.false in let more = c.if-block-load_used.true in
    block_behind layout c.args.block c.args.place c.requires.block (omega arith) (omega arith)

pub returns-then-block-load_used-clause-reading : goal.returns-then-block-load_used-clause-reading
returns-then-block-load_used-clause-reading c = seen_reads c.load_used.ensures.seen

-- or none
pub returns-clause-behind : goal.returns-clause-behind
returns-clause-behind c =
    let layout = layout_by c.args.caller.now.seat.pass.laid in let n = c.load_used.ensures.seen in
    let used = ap (λ (l : List ℕ). slice_index l 1) (sym (n.again layout c.requires.laid)) ∙ n.word in
    let rows = ap (λ (x : ℕ). x % 128) c.requires.told in
    let place = c.requires.place in let block = c.requires.block in let all = c.if-place-told.false in let none = c.if-block-load_used.false in
    none_behind layout c.args.block c.args.place c.requires.block (omega arith) (omega arith)

-- the load is a reading
pub returns-clause-reading : goal.returns-clause-reading
returns-clause-reading c = seen_reads c.load_used.ensures.seen

-- and one step
pub returns-clause-loads : goal.returns-clause-loads
returns-clause-loads c = let t = step_taken _ _ _ _ c.load_used.ensures.seen.step in omega arith

pub returns-then-block-load_used-clause-loads : goal.returns-then-block-load_used-clause-loads
returns-then-block-load_used-clause-loads c = let t = step_taken _ _ _ _ c.load_used.ensures.seen.step in omega arith
