-- The list lock as a pure machine: its state, and a step of a seat as a function. `plan` computes the line of the
-- table that a view enables; that it is the relation `IsLine`, for every step, is proved. A state with all its words
-- and views is a `Machine`; `start` is the state before any step. This project's own profile.
use Rattle.std.specs.Prelude.{◌≡◌, ℕ, zero, suc, ◌+◌, ◌-◌, ◌*◌, ◌%◌, ◌^◌, ◌==◌, ◌&&◌, nat_lt, nat_le, Bool, true, false}
use Rattle.std.specs.Prelude.{not, if◌then◌else◌, List, [], ◌∷◌, map, replicate, slice_get, slice_index, slice_set}
use Rattle.std.specs.Prelude.{is_some, is_none, unwrap_or, option_map, Option, Some, None, ◌++◌}
use Rattle.view_lists.specs.Counted.{times, is_empty}
use Rattle.lock_core.specs.declared.range.Held.{Held}
use Rattle.lock_core.specs.declared.range.Grant.{Grant}
use Rattle.lock_core.specs.declared.views.View.{View}
use Rattle.lock_core.specs.declared.views.Cursor.{Cursor}
use Rattle.lock_core.specs.declared.views.Todo.{Todo}
use Rattle.lock_core.specs.declared.views.Todo.TheVariants.{Forward, FromHead, Done}
use Rattle.lock_core.specs.declared.views.Own.{Own}
use Rattle.lock_core.specs.declared.views.Own.TheVariants.{Nothing, Filling, Linked}
use Rattle.lock_core.specs.declared.steps.Step.{Step}
use Rattle.lock_core.specs.declared.steps.Step.TheVariants.{Enter, Leave, ReadEpoch, ReadHome, GiveHome, FillLo, FillHi}
use Rattle.lock_core.specs.declared.steps.Step.TheVariants.{Aim, ClearHome, Walk, ReadLo, ReadHi, Link, Unlink, Mark}
use Rattle.lock_core.specs.declared.steps.Step.TheVariants.{QuickLink, QuickUnlink, Settle}
use Rattle.lock_core.specs.Words.{Heap, heap_of, word_count, cell_place, epoch_place, lo_place, hi_place, home_place, hi_word, cell_of, plain_node_of}
use Rattle.lock_core.specs.Nodes.{filled_of, listed_of}
use Rattle.lock_core.specs.Views.{entered, left, epoch_read, home_read, gave_home, lo_filled, hi_filled, aimed_at}
use Rattle.lock_core.specs.Views.{taken, walk_cell, walked, lo_read, hi_read, dropped, todo_of, linked, unlinked}
use Rattle.lock_core.specs.Views.{marked, quick_linked, quick_unlinked, settled}
use Rattle.lock_core.specs.StepTable.{Plan, loads, stores, adds_one, counts_on, exchanges}

-- what follows where there is a value
abbrev pub given : {A B : Type 0} → Option A → (A → Option B) → Option B
given None f = None
given (Some a) f = f a

abbrev pub when : {A : Type 0} → Bool → A → Option A
when false a = None
when true a = Some a

abbrev pub is_done : Todo → Bool
is_done Done = true
is_done Forward = false
is_done FromHead = false

-- outside the time between a link and the end of its validation
abbrev pub may_leave : Own → Bool
may_leave Nothing = true
may_leave (Filling node lo hi mode aimed) = true
may_leave (Linked node range mode todo) = is_done todo

-- a node that is being filled has its ends
abbrev pub may_judge : Own → Bool
may_judge Nothing = true
may_judge (Filling node lo hi mode aimed) = is_some lo && is_some hi
may_judge (Linked node range mode todo) = true

abbrev pub is_nothing : Own → Bool
is_nothing Nothing = true
is_nothing (Filling node lo hi mode aimed) = false
is_nothing (Linked node range mode todo) = false

abbrev pub is_at_place : Cursor → Bool
is_at_place c = if c.cur == 0 then true else is_none c.next && is_some c.lo

-- the word at which Aim aims
abbrev pub aim_of : Option Cursor → Option ℕ
aim_of None = Some 0
aim_of (Some c) = when (c.cur % 2 == 0 && is_at_place c) c.cur

abbrev pub first_of_list : List ℕ → Option (ℕ × List ℕ)
first_of_list [] = None
first_of_list (n ∷ rest) = Some (n, rest)

-- the line that the view enables for a step, or none
abbrev pub plan : ℕ → ℕ → View → Step → Option Plan
plan seats s v Enter = when (v.epoch % 2 == 0 && is_none v.hand) (counts_on (epoch_place s) (entered v))
plan seats s v Leave = when (v.epoch % 2 == 1 && is_none v.hand && may_leave v.own) (counts_on (epoch_place s) (left v))
plan seats s v (ReadEpoch j) = when (v.epoch % 2 == 0 && not (is_empty v.homes) && nat_lt j seats && not (j == s)) (loads (epoch_place j) (epoch_read s v j))
plan seats s v (ReadHome n) = when (v.epoch % 2 == 0 && not (times n v.used == 0) && times n v.homes == 0) (loads (home_place seats n) (home_read seats v n))
plan seats s v GiveHome = given v.hand (λ n. Some (stores (home_place seats n) 1 (gave_home v)))
plan seats s v (FillLo lo) = given (filled_of v.own) (λ f. when (is_none f.aimed && is_none v.cursor) (stores (lo_place seats f.node) lo (lo_filled v f lo)))
plan seats s v (FillHi hi mode) =
    given (filled_of v.own) (λ f. given f.lo (λ lo.
    when (nat_lt lo hi && nat_le hi (2 ^ 62) && is_none f.aimed && is_none v.cursor)
    (stores (hi_place seats f.node) (hi_word hi mode) (hi_filled v f hi mode))))
plan seats s v Aim =
    given (filled_of v.own) (λ f. given f.lo (λ _. given f.hi (λ _. given (aim_of v.cursor) (λ w.
    Some (stores (cell_place seats (suc f.node)) w (aimed_at v f w))))))
plan seats s v (ClearHome n) =
    given (first_of_list v.ready) (λ t. when (is_nothing v.own && v.epoch % 2 == 0 && t.0 == n) (stores (home_place seats n) 0 (taken v n t.1)))
plan seats s v Walk = given (walk_cell v.own v.cursor) (λ cell. when (v.epoch % 2 == 1 && is_none v.hand) (loads (cell_place seats cell) (walked v v.cursor)))
plan seats s v ReadLo =
    given v.cursor (λ c. given (plain_node_of c.cur) (λ y. given c.next (λ n.
    when (n % 2 == 0) (loads (lo_place seats y) (lo_read v c)))))
plan seats s v ReadHi =
    given v.cursor (λ c. given (plain_node_of c.cur) (λ y. given c.next (λ n. given c.lo (λ lo.
    when (n % 2 == 0 && may_judge v.own) (loads (hi_place seats y) (hi_read v c y n lo))))))
plan seats s v Link =
    given (filled_of v.own) (λ f. given v.cursor (λ c. given f.lo (λ lo. given f.hi (λ hi. given f.aimed (λ w.
    when (w == c.cur && c.cur % 2 == 0 && is_at_place c)
    (exchanges (cell_place seats (cell_of c.prev)) c.cur (2 * suc f.node) (linked v f.node lo hi f.mode (todo_of f.mode)) (dropped v)))))))
plan seats s v Unlink =
    given v.cursor (λ c. given (plain_node_of c.cur) (λ y. given c.next (λ n.
    when (n % 2 == 1 && is_none v.hand)
    (exchanges (cell_place seats (cell_of c.prev)) c.cur (n - 1) (unlinked v c y (n - 1)) (dropped v)))))
plan seats s v Mark = given (listed_of v.own) (λ k. Some (adds_one (cell_place seats (suc k.node)) (marked v k.node)))
plan seats s v QuickLink =
    given (filled_of v.own) (λ f. given f.lo (λ lo. given f.hi (λ hi. given f.aimed (λ w.
    when (w == 0 && v.epoch % 2 == 0) (exchanges 0 0 (2 * suc f.node + 1) (quick_linked v f.node lo hi f.mode) v)))))
plan seats s v QuickUnlink =
    given (listed_of v.own) (λ k.
    when (is_done k.todo && is_none v.hand) (exchanges 0 (2 * suc k.node + 1) 0 (quick_unlinked v k.node) v))
plan seats s v Settle =
    given v.cursor (λ c.
    when (is_none c.prev && c.cur % 2 == 1) (exchanges 0 c.cur (c.cur - 1) (settled v c) (dropped v)))

-- what a planned step makes of the words and of the view
abbrev pub made : List ℕ → Option Plan → Option (List ℕ × View)
made words None = None
made words (Some p) = Some (slice_set words p.place (p.write (slice_index words p.place)), p.view (slice_index words p.place))

-- whether a plan was carried out: the words and the view are then as it makes them, and otherwise there is no plan
-- and both stay
abbrev pub Makes : Option Plan → Bool → List ℕ → View → List ℕ → View → Type 0
Makes p true words v words_now v_now = made words p ≡ Some (words_now, v_now)
Makes p false words v words_now v_now = (p ≡ None) × (words_now ≡ words) × (v_now ≡ v)

-- the whole state: the words, and the view of each seat
pub record Machine : Type 0 where
  pub seats : ℕ
  pub words : List ℕ
  pub views : List View

abbrev pub heap : Machine → Heap
heap m = heap_of m.seats m.words

-- the state after a plan of seat s is carried out
abbrev pub carried_out : Machine → ℕ → Plan → Machine
carried_out m s p =
    record {
      seats = m.seats;
      words = slice_set m.words p.place (p.write (slice_index m.words p.place));
      views = slice_set m.views s (p.view (slice_index m.words p.place));
    }

-- the state after a step of a seat, or none where it isn't enabled
abbrev pub after : Machine → ℕ → Step → Option Machine
after m s step = given (slice_get m.views s) (λ v. given (plan m.seats s v step) (λ p. Some (carried_out m s p)))

-- a step that isn't enabled leaves the state as it is
abbrev pub after_or_same : Machine → ℕ → Step → Machine
after_or_same m s step = unwrap_or (after m s step) m

-- the state after a whole run: one pair of a seat and a step after another
abbrev pub run : Machine → List (ℕ × Step) → Machine
run m [] = m
run m (t ∷ ts) = run (after_or_same m t.0 t.1) ts

-- the numbers from the first one on, so many
abbrev pub numbers_from : ℕ → ℕ → List ℕ
numbers_from a zero = []
numbers_from a (suc k) = a ∷ numbers_from (a + 1) k

-- what seat i of so many seats knows before any step
abbrev pub start_view : ℕ → ℕ → View
start_view seats i =
    record {
      epoch = 0;
      ready = numbers_from (16 * i) 16;
      used = [];
      homes = [];
      notes = replicate seats None;
      passed = replicate seats false;
      own = Nothing;
      cursor = None;
      hand = None;
    }

-- the state before any step
abbrev pub start : ℕ → Machine
start seats = record { seats = seats; words = replicate (word_count seats) 0; views = map (start_view seats) (numbers_from 0 seats) }

-- what a view holds: a linked node with nothing left to do
abbrev pub held_at : Own → Option Held
held_at Nothing = None
held_at (Filling node lo hi mode aimed) = None
held_at (Linked node range mode Done) = Some (record { range = range; mode = mode })
held_at (Linked node range mode Forward) = None
held_at (Linked node range mode FromHead) = None

-- the held ranges by seat number
abbrev pub held_by_seat : Machine → List (Option Held)
held_by_seat m = map (λ v. held_at v.own) m.views

-- and as a list of grants, by rising seat numbers
abbrev pub grant_of : ℕ → Option Held → List Grant
grant_of s None = []
grant_of s (Some h) = record { seat = s; range = h.range; mode = h.mode } ∷ []

abbrev pub grants_from : ℕ → List (Option Held) → List Grant
grants_from s [] = []
grants_from s (o ∷ os) = grant_of s o ++ grants_from (s + 1) os

-- the ready pool of a seat
abbrev pub ready_of : Machine → ℕ → Option (List ℕ)
ready_of m s = option_map (λ v. v.ready) (slice_get m.views s)

-- the number of a kind of step, counted from 1 in the order of `Step`
abbrev pub kind_of : Step → ℕ
kind_of Enter = 1
kind_of Leave = 2
kind_of (ReadEpoch seat) = 3
kind_of (ReadHome node) = 4
kind_of GiveHome = 5
kind_of (FillLo lo) = 6
kind_of (FillHi hi mode) = 7
kind_of Aim = 8
kind_of (ClearHome node) = 9
kind_of Walk = 10
kind_of ReadLo = 11
kind_of ReadHi = 12
kind_of Link = 13
kind_of Unlink = 14
kind_of Mark = 15
kind_of QuickLink = 16
kind_of QuickUnlink = 17
kind_of Settle = 18
