use Rattle.std.specs.Prelude.{None}
use Rattle.std.proofs.Common.{replicate, ◌≡◌, ℕ, List, map, drop, length, sym, ap, refl, ◌∙◌, subst, arith}
use Rattle.area_guard.specs.History.{HasHistory}
use Rattle.area_guard.specs.Rows.{keeps_by, nb_in, rows_in}
use lib.ListN.{get_elem?}
use Rattle.area_rows.specs.Callers.{CallerView}
use Rattle.area_rows.specs.Closing.{AreKept, AreKeeping, callers_count, caller_pass}
use Rattle.area_rows.proofs.Gathering.{closes_below}
use Rattle.area_rows.proofs.Pairing.{pairs_kept}
use Rattle.row_blocks.specs.Blocks.{IsLaidOut}
use Rattle.area_rows.proofs.space.Space.close.Goals as goal

-- all callers are of a space that keeps its history
pub count_entries-total-requires-clause-keep : goal.count_entries-total-requires-clause-keep
count_entries-total-requires-clause-keep c = λ k v at.
    ap keeps_by (c.requires.idle k v (ap (λ (l : List CallerView). get_elem? l k) (sym c.as_slice.ensures.value) ∙ at)).0 ∙ c.requires.keeps

-- the number of each entry is below the count of all entries
pub collect-requires-clause-below : goal.collect-requires-clause-below
collect-requires-clause-below c =
    let callers = c.args.callers.items in
    let keep : AreKeeping callers = λ k v at. ap keeps_by (c.requires.idle k v at).0 ∙ c.requires.keeps in
    let kept : AreKept c.as_slice-in-Ok-2.result.now callers =
    rw c.as_slice-in-Ok-2.ensures.value (pairs_kept _ _ callers c.in-Ok.ensures.kept.1 keep) in
    closes_below _ c.in-Ok.apart.words.items callers c.as_slice-in-Ok-2.result.now refl c.in-Ok.ensures.guard kept
    (c.in-Ok.ensures.entries ∙ (c.count_entries-total.ensures ∙ ap callers_count c.as_slice.ensures.value))

-- what comes back is the whole history and the areas that it leaves
pub returns-in-Ok-clause-whole : goal.returns-in-Ok-clause-whole
returns-in-Ok-clause-whole c =
    let callers = c.args.callers.items in
    let keep : AreKeeping callers = λ k v at. ap keeps_by (c.requires.idle k v at).0 ∙ c.requires.keeps in
    let kept : AreKept c.as_slice-in-Ok-2.result.now callers =
    rw c.as_slice-in-Ok-2.ensures.value (pairs_kept _ _ callers c.in-Ok.ensures.kept.1 keep) in
    let history = subst (λ (l : List ℕ). HasHistory (replicate (length callers) None) l (map caller_pass callers))
    (sym c.as_slice-in-Ok.ensures.value) c.in-Ok.ensures.guard in
    c.collect.ensures callers history kept (c.in-Ok.ensures.entries ∙ (c.count_entries-total.ensures ∙ ap callers_count c.as_slice.ensures.value))

pub collect-requires-clause-blocks : goal.collect-requires-clause-blocks
collect-requires-clause-blocks c = c.in-Ok.ensures.blocks.0 ∙ ap nb_in (sym c.as_slice-in-Ok.ensures.value)

pub collect-requires-clause-laid : goal.collect-requires-clause-laid
collect-requires-clause-laid c = subst (λ (l : List ℕ). IsLaidOut (nb_in l) (drop 3 l)) (sym c.as_slice-in-Ok.ensures.value) c.in-Ok.ensures.laid

-- there is room for the rows, and for their areas
pub collect-requires-clause-room : goal.collect-requires-clause-room
collect-requires-clause-room c =
    let room = c.in-Ok.ensures.room in let rows = room.0 in let areas = room.1 in
    let same = ap (λ (w : List ℕ). length (rows_in w)) c.as_slice-in-Ok.ensures.value in (omega arith, omega arith)
