-- What contracts see of a table and of a hand, when it is new and when it is idle. A hand is its table and all that
-- belongs to its number, as the list shows it to which the hand is turned: the view of that list, and beside it the
-- views of the others, the pass of the layer above, and the record. The steps and their views are those of the step
-- table in `lock_core`, after Kogan, Dice and Issa 2020; the rest is this project's own profile.
use Rattle.std.specs.Prelude.{◌≡◌, ◌≢◌, ℕ, zero, suc, ◌+◌, ◌-◌, ◌*◌, ◌%◌, ◌^◌, ◌<◌, ◌≤◌, ◌==◌, if◌then◌else◌, List, [], ◌∷◌, length, map, replicate}
use Rattle.std.specs.Prelude.{slice_get, slice_set, true, Some, None}
use Rattle.std.specs.Global.{Box}
use mathlib.Core.Option.{some}
use lib.ListN.{get_elem?}
use Rattle.atomic_table.specs.Seated.{TableId}
use Rattle.list_cuts.specs.Cut.{Regions, IsCut, list_count}
use Rattle.lock_core.specs.declared.views.View.{View}
use Rattle.lock_core.specs.declared.views.Cursor.{Cursor}
use Rattle.lock_core.specs.declared.views.Own.TheVariants.{Nothing}
use Rattle.lock_core.specs.declared.steps.Step.{Step}
use Rattle.lock_core.specs.declared.steps.Step.TheVariants.{Enter, Leave, ReadEpoch, ReadHome, GiveHome, ClearHome}
use Rattle.lock_core.specs.Words.{word_count}
use Rattle.lock_core.specs.Machine.{start_view}
use Rattle.lock_core.specs.Sizes.{IsViewSound}
use Rattle.epoch_pools.specs.declared.record.Looked.{Looked}
use Rattle.epoch_pools.specs.declared.views.SeatLists.{SeatLists}
use Rattle.epoch_pools.specs.declared.views.SeatPart.{SeatPart}
use Rattle.epoch_pools.specs.declared.views.Beside.{Beside}
use Rattle.epoch_pools.specs.declared.views.Standing.TheVariants.{Free}
use Rattle.epoch_pools.specs.Record.{no_steps, record_after}
use Rattle.epoch_pools.specs.Pools.{IsPooled}
use Rattle.epoch_pools.specs.Beside.{blank, core_at, shown, shown_core}

-- a table: which one it is, how many seats and client words it has, and how the numbers are cut for its lists
pub record ListShape : Type 0 where
  pub table : TableId
  pub seats : ℕ
  pub client : ℕ
  pub cut : Regions

-- a hand: its table, and all that belongs to its number
pub record HandState (P : Type 0) : Type 0 where
  pub table : TableId
  pub part : SeatPart P

-- a list has from 1 to 16 seats
abbrev pub IsSeatCount : ℕ → Type 0
IsSeatCount n = (0 < n) × (n ≤ 16)

-- the cut that a table is told of when it is made
abbrev pub cut_of : List ℕ → Regions
cut_of [] = record { count = 1; bits = 62 }
cut_of (count ∷ []) = record { count = 1; bits = 62 }
cut_of (count ∷ bits ∷ rest) = record { count = count; bits = bits }

-- a table of so many seats and client words under that cut: its key's shares, seats and words, its words and its slots,
-- and the place of its first client word
pub record IsTable (shares : List ℕ) (key_seats key_words words slots : ℕ) (cut : Regions) (seats client start : ℕ) : Type 0 where
  pub same_cut : cut_of shares ≡ cut
  pub is_cut : IsCut cut.count cut.bits
  pub same_seats : key_seats ≡ seats
  pub same_words : key_words - list_count cut * word_count seats ≡ client
  pub wide : words ≡ list_count cut * word_count seats + client
  pub no_slots : slots ≡ 0
  pub seat_count : IsSeatCount seats
  pub client_count : client ≤ 2 ^ 20
  pub begins : start ≡ list_count cut * word_count seats
  pub low : start ≤ 17697

-- the kinds of step on nodes and the list; those of epochs and pools have calls of their own
abbrev pub IsListStep : Step → Type 0
IsListStep Enter = ⊥
IsListStep Leave = ⊥
IsListStep (ReadEpoch j) = ⊥
IsListStep (ReadHome n) = ⊥
IsListStep GiveHome = ⊥
IsListStep (ClearHome n) = ⊥
IsListStep _ = Unit {0}

-- a view outside its epoch, with no node in use and none still to be given home
pub record IsIdle (v : View) : Type 0 where
  pub outside : v.epoch % 2 ≡ 0
  pub own : v.own ≡ Nothing
  pub hand : v.hand ≡ None

-- a view of a list to which the hand isn't turned: it is outside its epoch there, without a cursor and without an
-- unlinked node still to be given home
pub record IsResting (v : View) : Type 0 where
  pub outside : v.epoch % 2 ≡ 0
  pub cursor : v.cursor ≡ None
  pub hand : v.hand ≡ None

-- what may be relied on of such a view, whatever other seats do
pub record IsOther (seats number : ℕ) (v : View) : Type 0 where
  pub sound : IsViewSound seats number v
  pub pooled : IsPooled seats number v
  pub resting : IsResting v

-- what a token says of its seat: its number, how many seats and lists there are, and the list to which it is turned,
-- with the place of that list's first word. The words of all lists are there
pub record IsSeatOf {P : Type 0} (p : SeatLists P) (number seats lists list first words : ℕ) : Type 0 where
  pub number_is : p.number ≡ number
  pub seats_are : p.seats ≡ seats
  pub there : number < seats
  pub few : seats ≤ 16
  pub full : length p.cores ≡ lists
  pub within : list < lists
  pub most : lists ≤ 17
  pub begins : first ≡ list * word_count seats
  pub low : first ≤ 16656
  pub words_there : lists * word_count seats ≤ words

-- the views that stand behind these boxes
abbrev pub views_in : List (Box View) → List View
views_in boxes = map (λ (b : Box View). b.value) boxes

-- where a hand that is turned to a list keeps its view of list j: those of the lists behind the first one stand in
-- order, and that of the first one stands in the place of the list to which the hand is turned
abbrev pub slot_of : ℕ → ℕ → ℕ
slot_of list j = (if j == 0 then list else j) - 1

-- a view and the views that are kept, after an exchange of the view for the one in the place of a list behind the first
abbrev pub view_of : ℕ → List View → View → View
view_of list views view = if list == 0 then view else core_at (list - 1) views

abbrev pub views_of : ℕ → List View → View → List View
views_of list views view = if list == 0 then views else slice_set views (list - 1) view

-- the views that a hand keeps of its other lists are those that belong to its number
pub record AreOthers (seats number lists list : ℕ) (others views : List View) : Type 0 where
  pub count : length views + 1 ≡ lists
  pub full : length others ≡ lists
  pub blank_at : slice_get others list ≡ Some blank
  pub there : (j : ℕ) → j < lists → j ≢ list → slice_get views (slot_of list j) ≡ Some (core_at j others)
  pub rest : (j : ℕ) → j < lists → j ≢ list → IsOther seats number (core_at j others)

-- a hand of that table, from what it shows of its number
abbrev pub hand_with : {P : Type 0} → TableId → SeatPart P → HandState P
hand_with table p = record { table = table; part = p }

module _ {P : Type 0} where
  -- what belongs to a seat before its first step: all its nodes are ready in each list
  abbrev pub fresh : P → ℕ → ℕ → ℕ → SeatLists P
  fresh pass lists seats n =
      record { number = n; seats = seats; cores = replicate lists (start_view seats n); standing = Free; pass = pass; trace = no_steps }

  -- the first of the parts in a view, or a fresh one where there is none
  abbrev pub part_in : P → List (SeatLists P) → SeatLists P
  part_in pass [] = fresh pass 0 0 0
  part_in pass (p ∷ parts) = p

  -- what a view shows of list i
  abbrev pub shown_of : P → ℕ → ℕ → List (SeatLists P) → SeatPart (Beside P)
  shown_of pass lists i parts = shown lists i (part_in pass parts)

  -- the pass of the layer above
  abbrev pub pass_in : HandState (Beside P) → P
  pass_in h = h.part.pass.pass

  -- the passes with which the seats from number n on begin, so many
  abbrev pub first_passes : (ℕ → P) → ℕ → ℕ → List P
  first_passes first n zero = []
  first_passes first n (suc k) = first n ∷ first_passes first (suc n) k

  -- what the hand of number k is when a table of so many lists is opened: it is turned to the first one
  abbrev pub new_hand : TableId → (ℕ → P) → ℕ → ℕ → ℕ → HandState (Beside P)
  new_hand table first lists seats k = hand_with table (shown lists 0 (fresh (first k) lists seats k))

  -- the hands are those of a new table, in order of their numbers
  abbrev pub AreNewHands : TableId → (ℕ → P) → ℕ → ℕ → List (HandState (Beside P)) → Type 0
  AreNewHands table first lists seats hands = (k : ℕ) (h : HandState (Beside P)) → get_elem? hands k ≡ some h → h ≡ new_hand table first lists seats k

  -- the hands are all of one table, and turned to some list each
  abbrev pub AreHandsOf : TableId → List (HandState P) → Type 0
  AreHandsOf table hands = (k : ℕ) (h : HandState P) → get_elem? hands k ≡ some h → h.table ≡ table

  -- the hands are of the table, and show these parts, each as some list has it
  abbrev pub AreShownAt : TableId → List (SeatLists P) → List (HandState (Beside P)) → Type 0
  AreShownAt table parts hands = (length parts ≡ length hands) × ((k : ℕ) (p : SeatLists P) → get_elem? parts k ≡ some p
      → (lists : ℕ) × (i : ℕ) × (length p.cores ≡ lists) × (i < lists) × (get_elem? hands k ≡ some (hand_with table (shown lists i p))))

  -- the hands are all of one table, in order of their numbers, and idle in the list to which each is turned
  abbrev pub AreIdleHands : TableId → List (HandState P) → Type 0
  AreIdleHands table hands = (k : ℕ) (h : HandState P) → get_elem? hands k ≡ some h → (h.table ≡ table) × (h.part.number ≡ k) × IsIdle h.part.core

  -- and in each other of so many lists
  abbrev pub AreOthersIdle : ℕ → List (HandState (Beside P)) → Type 0
  AreOthersIdle lists hands = (k : ℕ) (h : HandState (Beside P)) → get_elem? hands k ≡ some h → (j : ℕ) → j < lists → j ≢ h.part.pass.list
      → IsIdle (core_at j h.part.pass.others)

  -- what a cursor has looked at is in the record, by its count of nodes, that it is at the end, and its list
  abbrev pub IsLookedOn : SeatPart P → Type 0
  IsLookedOn p = (c : Cursor) → p.core.cursor ≡ Some c → (l : Looked) × (p.trace.looked ≡ Some l) × (l.nodes ≡ c.seen) × (c.cur ≡ 0 → l.ended ≡ true)
      × (l.list ≡ p.trace.list)

  -- what a hand may rely on of its own view and record, whatever other seats do
  pub record IsHandView (p : SeatPart P) : Type 0 where
    pub sound : IsViewSound p.seats p.number p.core
    pub pooled : IsPooled p.seats p.number p.core
    pub looked : IsLookedOn p

  -- what belongs to a seat after a step of that kind that is no exchange and neither gains nor gives back a range, and
  -- after which this is the view
  abbrev pub quiet_after : SeatPart P → Step → View → SeatPart P
  quiet_after p step now = record { number = p.number; seats = p.seats; core = now; pass = p.pass; trace = record_after p.trace p.core step 0 0 now }

  -- what a hand shows once it is turned to list i
  abbrev pub turned : SeatPart (Beside P) → ℕ → SeatPart (Beside P)
  turned p i =
      record {
        number = p.number;
        seats = p.seats;
        core = shown_core p i;
        pass = record {
          lists = p.pass.lists;
          list = i;
          others = slice_set (slice_set p.pass.others p.pass.list p.core) i blank;
          standing = p.pass.standing;
          pass = p.pass.pass;
        };
        trace = record p.trace { list = i };
      }
