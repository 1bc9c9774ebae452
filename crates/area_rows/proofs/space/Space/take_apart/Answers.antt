use Rattle.std.specs.Prelude.{None}
use Rattle.std.proofs.Common.{replicate, ◌≡◌, ◌≤◌, ℕ, List, map, drop, length, sym, ap, ◌∙◌, subst, arith}
use Rattle.std.proofs.lemmas.List.{length-map}
use Rattle.area_guard.specs.declared.guard.Pass.{Pass}
use Rattle.area_guard.specs.History.{HasHistory}
use Rattle.area_guard.specs.Rows.{blocks_by, nb_in, room_of, rows_in}
use Rattle.area_rows.specs.Callers.{AreIdle}
use Rattle.area_rows.specs.Closing.{caller_pass}
use Rattle.area_rows.proofs.Gathering.{caller_at, closes_blocks}
use Rattle.area_rows.proofs.Pairing.{pairs_length, pairs_passes, pairs_blocks, seats_idle, join_ready}
use Rattle.area_rows.proofs.space.Space.take_apart.Goals.{In-Ok-close}
use Rattle.row_blocks.specs.Blocks.{IsLaidOut}
use Rattle.area_rows.proofs.space.Space.take_apart.Goals as goal

-- there are as many seats as the table has
pub close-requires-clause-count : goal.close-requires-clause-count
close-requires-clause-count c = (pairs_length _ _ c.args.callers.items c.part-callers.ensures.pairs).0
    ∙ (c.requires.count ∙ sym (ap (λ t. t.seats) c.self.view_is))

-- no seat holds anything
pub close-requires-clause-idle : goal.close-requires-clause-idle
close-requires-clause-idle c = seats_idle _ _ _ c.args.callers.items c.part-callers.ensures.pairs
    (subst (λ t. AreIdle t c.args.callers.items) (sym (ap (λ t. t.table) c.self.view_is)) c.requires.idle)

-- the words meet the guard with what the callers knew
guarded : (c : In-Ok-close) → HasHistory (replicate (length c.args.callers.items) None) c.in-Ok-close.words.items (map caller_pass c.args.callers.items)
guarded c =
    let seats = c.requires.count ∙ sym (ap (λ t. t.seats) c.self.view_is) in
    let passes = pairs_passes _ _ c.args.callers.items c.part-callers.ensures.pairs in
    subst (λ (z : ℕ × List Pass). HasHistory (replicate z.0 None) c.in-Ok-close.words.items z.1) (λ i. (sym seats i, passes i)) c.in-Ok-close.ensures.guard

pub returns-in-Ok-close-clause-guard : goal.returns-in-Ok-close-clause-guard
returns-in-Ok-close-clause-guard c = guarded (goal.at.returns-in-Ok-close-clause-guard c).In-Ok-close

-- what is kept belongs to the seats
pub returns-in-Ok-close-clause-kept : goal.returns-in-Ok-close-clause-kept
returns-in-Ok-close-clause-kept c = (c.part-callers.result.1.items, c.part-callers.ensures.pairs)

-- the seats that come back belong to the rest that was kept
pub join-requires : goal.join-requires
join-requires c =
    let r = join_ready _ c.args.callers.items c.in-Err.ensures.refused.1 c.part-callers.ensures.pairs in
    let n = ap length r.1 in let empty = c.part-callers.ensures.empty in
    (r.0, (empty.0, omega (arith, n, empty.1, c.args.callers.ok.0, c.args.callers.ok.1)))

-- a closing that was refused gives the space and all callers back as they were
pub returns-in-Err-clause-refused : goal.returns-in-Err-clause-refused
returns-in-Err-clause-refused c =
    let r = join_ready _ c.args.callers.items c.in-Err.ensures.refused.1 c.part-callers.ensures.pairs in
    (c.in-Err.ensures.refused.0 ∙ c.self.view_is, c.join.ensures ∙ r.1)

-- the words of the closed table have as many blocks as the space, which are laid out, and so many rows at most
blocks_are : (c : In-Ok-close) → (c.self.inside.blocks ≡ nb_in c.in-Ok-close.words.items)
    × IsLaidOut (nb_in c.in-Ok-close.words.items) (drop 3 c.in-Ok-close.words.items)
    × (length (rows_in c.in-Ok-close.words.items) ≤ room_of c.self.inside.blocks)
blocks_are c =
    let callers = c.args.callers.items in let many = length-map callers caller_pass in
    let seats = c.requires.count ∙ sym (ap (λ t. t.seats) c.self.view_is) in let some_seats = c.self.invariant.4 in
    closes_blocks (length callers) c.self.inside.blocks c.in-Ok-close.words.items (map caller_pass callers) (guarded c) (omega arith) (λ k p at.
    let v = caller_at callers k p at in let idle = c.requires.idle k v.0 v.1 in
    ap (λ (x : Pass). x.blocks) (sym v.2) ∙ (pairs_blocks _ _ callers c.part-callers.ensures.pairs k v.0 v.1
    ∙ (ap blocks_by (idle.0 ∙ sym (ap (λ t. t.table) c.self.view_is)) ∙ sym c.self.invariant.1)))

pub returns-in-Ok-close-clause-blocks : goal.returns-in-Ok-close-clause-blocks
returns-in-Ok-close-clause-blocks c = ((blocks_are (goal.at.returns-in-Ok-close-clause-blocks c).In-Ok-close).0, let few = c.self.invariant.2 in omega arith)

pub returns-in-Ok-close-clause-laid : goal.returns-in-Ok-close-clause-laid
returns-in-Ok-close-clause-laid c = (blocks_are (goal.at.returns-in-Ok-close-clause-laid c).In-Ok-close).1

-- so there is room for the rows, and for their areas
pub returns-in-Ok-close-clause-room : goal.returns-in-Ok-close-clause-room
returns-in-Ok-close-clause-room c =
    let few = (blocks_are (goal.at.returns-in-Ok-close-clause-room c).In-Ok-close).2 in
    let room = c.in-Ok.ensures.room in let rows = room.2 in let areas = room.3 in
    let made = c.room_in.ensures in (omega arith, omega arith)
