use Rattle.std.proofs.Common.{ℕ, ◌≡◌, ◌+◌, ◌-◌, ◌/◌, ◌%◌, ◌<◌, List, sym, ap, ◌∙◌, arith}
use Rattle.std.specs.Prelude.{slice_index}
use Rattle.range_rw.specs.Contract.{SeatState}
use Rattle.area_guard.specs.Rows.{blocks_by}
use Rattle.area_guard.specs.Reads.{layout_by}
use Rattle.area_guard.specs.declared.guard.Pass.{Pass}
use Rattle.area_rows.specs.Layouts.{IsSeen}
use Rattle.area_rows.proofs.LayoutLoads.{seen_reads, own_blocks}
use Rattle.area_rows.proofs.Reading.{step_taken}
use Rattle.area_rows.proofs.BlockSlots.{rows_by, place_slot, place_before, block_before, none_before}
use Rattle.area_rows.proofs.space.Space.slot_before.Goals as goal

-- a body word that was loaded names a body of the table
told_body : (a b : SeatState Pass) (block told : ℕ) → IsSeen a (2 + block) told b → block < blocks_by a.table → told / 128 % 2048 < blocks_by a.table
told_body a b block told n lt = let word = ap (λ (x : ℕ). x / 128 % 2048) n.word in let body = n.layout.bodies block lt in omega arith

-- the body of the block is one of the table's
pub slot_in-requires-clause-body : goal.slot_in-requires-clause-body
slot_in-requires-clause-body c =
    let table = own_blocks c.requires.table c.self.view_is c.self.invariant.1 in
    let free = c.requires.layout.free in let block = c.requires.block in
    let told = ap (λ (x : ℕ). x / 128 % 2048) c.requires.told in
    let body = c.requires.layout.bodies c.args.block (omega arith) in omega arith

-- before a place comes the one before it
pub returns-then-place-gt0-clause-before : goal.returns-then-place-gt0-clause-before
returns-then-place-gt0-clause-before c =
    let layout = layout_by c.args.caller.now.seat.pass.laid in
    let table = own_blocks c.requires.table c.self.view_is c.self.invariant.1 in
    let long = c.requires.layout.long in
    let rows = ap (λ (x : ℕ). x % 128) c.requires.told in
    let place = c.requires.place in let some_place = c.if-place-gt0.true in
    place_before layout c.args.block c.args.place c.requires.block some_place (omega arith) (place_slot layout c.self.inside.blocks c.args.block
    (c.args.place - 1) c.slot_in.result (omega arith) c.requires.told (omega arith) c.slot_in.ensures.head c.slot_in.ensures.body)

-- before the first row none
pub returns-then-block-eq0-clause-before : goal.returns-then-block-eq0-clause-before
returns-then-block-eq0-clause-before c =
    let head = c.if-place-gt0.false in
    none_before (layout_by c.args.caller.now.seat.pass.laid) c.args.block c.args.place c.requires.block c.if-block-eq0.true (omega arith)

-- there is a block before
pub load_told-last-requires-clause-there : goal.load_told-last-requires-clause-there
load_told-last-requires-clause-there c = let free = c.requires.layout.free in let block = c.requires.block in let blocks = c.requires.blocks in omega arith

-- and its body is one of the table's
pub slot_in-requires-2-clause-body : goal.slot_in-requires-2-clause-body
slot_in-requires-2-clause-body c =
    let table = own_blocks c.requires.table c.self.view_is c.self.invariant.1 in
    let free = c.requires.layout.free in let block = c.requires.block in
    let body = told_body _ _ _ _ c.load_told-last.ensures.seen (omega arith) in omega arith

-- before a head the last row of that block
pub returns-clause-before : goal.returns-clause-before
returns-clause-before c =
    let layout = layout_by c.args.caller.now.seat.pass.laid in
    let table = own_blocks c.requires.table c.self.view_is c.self.invariant.1 in
    let n = c.load_told-last.ensures.seen in
    let last : slice_index layout (2 + (c.args.block - 1)) ≡ c.load_told-last.result =
    ap (λ (l : List ℕ). slice_index l (2 + (c.args.block - 1))) (sym (n.again layout c.requires.laid)) ∙ n.word in
    let rows = ap (λ (x : ℕ). x % 128) last in
    let long = c.requires.layout.long in let head = c.if-place-gt0.false in let more = c.if-block-eq0.false in
    block_before layout c.args.block c.args.place c.requires.block (omega arith) (omega arith) (place_slot layout c.self.inside.blocks (c.args.block - 1)
    (rows_by layout (c.args.block - 1)) c.slot_in-2.result (omega arith) last (omega arith) (λ none. c.slot_in-2.ensures.head (omega arith))
    (λ some_place. let b = c.slot_in-2.ensures.body (omega arith) in omega arith))

-- the load is a reading
pub returns-clause-reading : goal.returns-clause-reading
returns-clause-reading c = seen_reads c.load_told-last.ensures.seen

-- and one step
pub returns-clause-loads : goal.returns-clause-loads
returns-clause-loads c = let t = step_taken _ _ _ _ c.load_told-last.ensures.seen.step in omega arith
