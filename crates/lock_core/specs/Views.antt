-- What each step makes of the stepping seat's view, by the value that its word had. A view changes at its own seat's
-- steps alone. The definitions stand in the order of the steps; the lines of the table and the computing plan both
-- cite them. Cursors follow Kogan, Dice and Issa 2020; epochs, homes, notes and the barrier are this project's own
-- profile.
use Rattle.std.specs.Prelude.{ℕ, suc, ◌+◌, ◌-◌, ◌*◌, ◌/◌, ◌%◌, ◌^◌, ◌==◌, min, Bool, true, false, if◌then◌else◌, List}
use Rattle.std.specs.Prelude.{[], ◌∷◌, ◌++◌, replicate, slice_get, slice_set, unwrap_or, option_map, Option, Some, None}
use Rattle.view_lists.specs.Counted.{without, are_others_passed}
use Rattle.lock_core.specs.declared.range.Mode.{Mode}
use Rattle.lock_core.specs.declared.range.Mode.TheVariants.{Reader, Writer}
use Rattle.lock_core.specs.declared.views.View.{View}
use Rattle.lock_core.specs.declared.views.Cursor.{Cursor}
use Rattle.lock_core.specs.declared.views.Todo.{Todo}
use Rattle.lock_core.specs.declared.views.Todo.TheVariants.{Forward, FromHead, Done}
use Rattle.lock_core.specs.declared.views.Own.{Own}
use Rattle.lock_core.specs.declared.views.Own.TheVariants.{Nothing, Filling, Linked}
use Rattle.lock_core.specs.declared.compare.Verdict.{Verdict}
use Rattle.lock_core.specs.declared.compare.Verdict.TheVariants.{Past, Stop, Conflict}
use Rattle.lock_core.specs.Words.{cell_of, plain_node_of}
use Rattle.lock_core.specs.Nodes.{Filled}
use Rattle.lock_core.specs.Compare.{verdict_of}

-- an epoch counts on, and wraps
abbrev pub next_epoch : ℕ → ℕ
next_epoch e = (e + 1) % 2 ^ 64

-- Enter: inside an operation, without a cursor
abbrev pub entered : View → View
entered v = record v { epoch = next_epoch v.epoch; cursor = None }

-- Leave: outside again; a node that was being filled is the first of the ready ones, since nobody could reach it
abbrev pub kept_own : Own → Own
kept_own Nothing = Nothing
kept_own (Filling node lo hi mode aimed) = Nothing
kept_own (Linked node range mode todo) = Linked node range mode todo

abbrev pub ready_left : Own → List ℕ → List ℕ
ready_left Nothing ready = ready
ready_left (Filling node lo hi mode aimed) ready = node ∷ ready
ready_left (Linked node range mode todo) ready = ready

abbrev pub left : View → View
left v = record v { epoch = next_epoch v.epoch; cursor = None; own = kept_own v.own; ready = ready_left v.own v.ready }

-- the homes become ready
abbrev pub released : View → View
released v = record v { ready = v.ready ++ v.homes; used = without v.homes v.used; homes = [] }

abbrev pub is_passed : View → ℕ → Bool
is_passed v j = unwrap_or (slice_get v.passed j) false

abbrev pub note_of : View → ℕ → Option ℕ
note_of v j = unwrap_or (slice_get v.notes j) None

abbrev pub passes : View → ℕ → View
passes v j = record v { passed = slice_set v.passed j true }

-- an odd epoch is noted where there is no note, and passes its seat where it differs from the note
abbrev pub noted : View → ℕ → ℕ → Option ℕ → View
noted v j w None = record v { notes = slice_set v.notes j (Some w) }
noted v j w (Some n) = if n == w then v else passes v j

-- ReadEpoch of seat j found w: a seat that is passed stays so, and an even epoch passes its seat
abbrev pub looked_at : View → ℕ → ℕ → View
looked_at v j w =
    if is_passed v j then v
    else if w % 2 == 0 then passes v j
    else noted v j w (note_of v j)

-- and when all others are passed the homes become ready
abbrev pub released_if_passed : ℕ → View → View
released_if_passed s v = if are_others_passed s v.passed then released v else v

abbrev pub epoch_read : ℕ → View → ℕ → ℕ → View
epoch_read s v j w = released_if_passed s (looked_at v j w)

-- ReadHome found w: a node found home joins the homes, and the barrier begins anew; with one seat alone it is ready
-- at once
abbrev pub came_home : ℕ → View → ℕ → View
came_home seats v n = record v { homes = v.homes ++ n ∷ []; notes = replicate seats None; passed = replicate seats false }

abbrev pub home_read : ℕ → View → ℕ → ℕ → View
home_read seats v n w =
    if w == 1
    then (if seats == 1 then released (came_home seats v n) else came_home seats v n)
    else v

-- GiveHome
abbrev pub gave_home : View → View
gave_home v = record v { hand = None }

-- FillLo, FillHi and Aim: what was written is known
abbrev pub lo_filled : View → Filled → ℕ → View
lo_filled v f lo = record v { own = Filling f.node (Some lo) None f.mode f.aimed }

abbrev pub hi_filled : View → Filled → ℕ → Mode → View
hi_filled v f hi mode = record v { own = Filling f.node f.lo (Some hi) mode f.aimed }

abbrev pub aimed_at : View → Filled → ℕ → View
aimed_at v f w = record v { own = Filling f.node f.lo f.hi f.mode (Some w) }

-- ClearHome: node n is taken, and nothing is known of its words
abbrev pub taken : View → ℕ → List ℕ → View
taken v n rest = record v { ready = rest; own = Filling n None None Writer None }

-- a cursor has looked at one node more where its word names one; the count stands still at its type's end
abbrev pub seen_after : ℕ → ℕ → ℕ
seen_after seen w = if w / 2 == 0 then seen else min (seen + 1) (2 ^ 32 - 1)

-- the own node once the cursor came to this word: a reader that came to the end, and a writer that came to its own
-- node, holds its range
abbrev pub own_at : Own → ℕ → Own
own_at Nothing w = Nothing
own_at (Filling node lo hi mode aimed) w = Filling node lo hi mode aimed
own_at (Linked node range mode Forward) w = if w == 0 then Linked node range mode Done else Linked node range mode Forward
own_at (Linked node range mode FromHead) w = if w == 2 * suc node then Linked node range mode Done else Linked node range mode FromHead
own_at (Linked node range mode Done) w = Linked node range mode Done

-- the cursor comes to this word from this previous node
abbrev pub came_to : View → Option ℕ → ℕ → ℕ → View
came_to v prev w seen = record v { cursor = Some (record { prev = prev; cur = w; next = None; lo = None; seen = seen_after seen w }); own = own_at v.own w }

-- where a cursor begins: behind the own node of a reader that validates, and otherwise at the head
abbrev pub start_of : Own → Option ℕ
start_of Nothing = None
start_of (Filling node lo hi mode aimed) = None
start_of (Linked node range mode Forward) = Some node
start_of (Linked node range mode FromHead) = None
start_of (Linked node range mode Done) = None

-- Walk: the cell whose word is loaded, if there is one, and the view afterwards
abbrev pub walk_cell : Own → Option Cursor → Option ℕ
walk_cell own None = Some (cell_of (start_of own))
walk_cell own (Some c) = option_map suc (plain_node_of c.cur)

abbrev pub walked : View → Option Cursor → ℕ → View
walked v None w = came_to v (start_of v.own) w 0
walked v (Some c) w = record v { cursor = Some (record c { next = Some w; lo = None }) }

-- ReadLo
abbrev pub lo_read : View → Cursor → ℕ → View
lo_read v c w = record v { cursor = Some (record c { lo = Some w }) }

-- a reader that validates holds its range once it stops
abbrev pub own_stopped : Own → Own
own_stopped Nothing = Nothing
own_stopped (Filling node lo hi mode aimed) = Filling node lo hi mode aimed
own_stopped (Linked node range mode Forward) = Linked node range mode Done
own_stopped (Linked node range mode FromHead) = Linked node range mode FromHead
own_stopped (Linked node range mode Done) = Linked node range mode Done

-- ReadHi of node y with next word n: it goes on past y, stops before y, or leaves the cursor at a conflict
abbrev pub hi_judged : View → Cursor → ℕ → ℕ → Verdict → View
hi_judged v c y n Past = came_to v (Some y) n c.seen
hi_judged v c y n Stop = record v { cursor = Some (record c { next = None }); own = own_stopped v.own }
hi_judged v c y n Conflict = v

abbrev pub hi_read : View → Cursor → ℕ → ℕ → ℕ → ℕ → View
hi_read v c y n lo w = hi_judged v c y n (verdict_of v.own lo w)

-- an exchange that failed lets the cursor go
abbrev pub dropped : View → View
dropped v = record v { cursor = None }

-- Link: a reader validates forward from now on, a writer from the head
abbrev pub todo_of : Mode → Todo
todo_of Reader = Forward
todo_of Writer = FromHead

abbrev pub linked : View → ℕ → ℕ → ℕ → Mode → Todo → View
linked v node lo hi mode todo = record v { own = Linked node (record { lo = lo; hi = hi }) mode todo; cursor = None }

-- Unlink of node y, whose next word without mark is w: it is in the hand from now on
abbrev pub unlinked : View → Cursor → ℕ → ℕ → View
unlinked v c y w = record (came_to v c.prev w c.seen) { hand = Some y }

-- Mark, and a QuickUnlink that succeeds: the own node is used from now on
abbrev pub marked : View → ℕ → View
marked v node = record v { own = Nothing; used = v.used ++ node ∷ [] }

abbrev pub quick_unlinked : View → ℕ → View
quick_unlinked v node = record v { own = Nothing; used = v.used ++ node ∷ []; hand = Some node }

-- QuickLink that succeeds: the range is held at once, and a cursor stays as it is
abbrev pub quick_linked : View → ℕ → ℕ → ℕ → Mode → View
quick_linked v node lo hi mode = record v { own = Linked node (record { lo = lo; hi = hi }) mode Done }

-- Settle: the cursor's word without its low bit
abbrev pub settled : View → Cursor → View
settled v c = record v { cursor = Some (record c { cur = c.cur - 1 }) }
