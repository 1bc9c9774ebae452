-- The rule of the running table, which holds between any two steps of any threads. Its core part says of each list that
-- its words and the views by seat number are a state of the list lock that meets its invariant, and that what counts is
-- linked and looked at; its guard part is the rule of the layer above; its number part says that each seat number is in
-- exactly one view. The record is in no part of it. A step of the lock is one line of the step table, after Kogan, Dice
-- and Issa 2020, and leaves the words of the other lists and the client words.
use Rattle.std.specs.Prelude.{◌≡◌, ◌≢◌, ℕ, ◌+◌, ◌*◌, ◌<◌, ◌≤◌, List, [], ◌∷◌, map, take, drop, length, slice_get, slice_index, slice_set, Option, Some, None}
use mathlib.Core.Option.{some}
use lib.ListN.{get_elem?}
use Rattle.atomic_table.specs.Table.{State, Me}
use Rattle.lock_core.specs.Range.{IsRange}
use Rattle.lock_core.specs.Grants.{Grants, Conflicts}
use Rattle.lock_core.specs.Client.{ClientStep, place_of, IsMade}
use Rattle.list_cuts.specs.Cut.{Regions, list_count, Takes}
use Rattle.lock_core.specs.declared.range.Held.{Held}
use Rattle.lock_core.specs.declared.views.View.{View}
use Rattle.lock_core.specs.declared.steps.Step.{Step}
use Rattle.lock_core.specs.declared.ops.Act.{Act}
use Rattle.lock_core.specs.declared.ops.Act.TheVariants.{Load, Store, Add, Exchange}
use Rattle.lock_core.specs.Words.{word_count}
use Rattle.lock_core.specs.StepTable.{Plan}
use Rattle.lock_core.specs.Machine.{Machine, held_at}
use Rattle.lock_core.specs.Sizes.{IsViewSound}
use Rattle.lock_core.specs.Operations.{planned, IsEnabled, IsStoring}
use Rattle.lock_laws.specs.HeldSteps.{IsGiving}
use Rattle.lock_laws.specs.Laws.{IsLock}
use Rattle.epoch_pools.specs.declared.views.SeatLists.{SeatLists}
use Rattle.epoch_pools.specs.declared.views.SeatPart.{SeatPart}
use Rattle.epoch_pools.specs.declared.views.Beside.{Beside}
use Rattle.epoch_pools.specs.declared.views.ListView.{ListView}
use Rattle.epoch_pools.specs.declared.record.Record.{Record}
use Rattle.epoch_pools.specs.declared.views.Standing.{Standing}
use Rattle.epoch_pools.specs.declared.views.Standing.TheVariants.{Narrow, Wide}
use Rattle.epoch_pools.specs.Record.{record_after, client_trace}
use Rattle.epoch_pools.specs.Pools.{IsWhole}
use Rattle.epoch_pools.specs.Standings.{standing_after, counted_of}
use Rattle.epoch_pools.specs.Beside.{core_at, held_in, grant_in, shown_grant, inner_pass, beside_with, given_back}
use Rattle.epoch_pools.specs.Hands.{part_in, shown_of}

-- the pass after a step, by what the seat held before and what it holds after
abbrev pub pass_kept : {P : Type 0} → (P → P) → Option Held → Option Held → P → P
pass_kept rested None now pass = pass
pass_kept rested (Some h) None pass = rested pass
pass_kept rested (Some h) (Some g) pass = pass

-- what an operation returns: the value that the word had, and 0 for a store
abbrev pub IsAnswer : Act → ℕ → ℕ → Type 0
IsAnswer Load found answer = answer ≡ found
IsAnswer (Store value) found answer = answer ≡ 0
IsAnswer Add found answer = answer ≡ found
IsAnswer (Exchange old new) found answer = answer ≡ found

-- the state of list i: its slice of the table's words, and each seat's view of it
abbrev pub machine_at : ℕ → ℕ → List ℕ → List (List View) → Machine
machine_at i seats words all = record { seats = seats; words = take (word_count seats) (drop (i * word_count seats) words); views = map (core_at i) all }

-- of two ranges that conflict both take one of so many lists
abbrev pub IsCutBy : ℕ → (Held → ℕ → Type 0) → Type 0
IsCutBy lists takes = (g h : Held) → IsRange g.range.lo g.range.hi → IsRange h.range.lo h.range.hi → Conflicts g h → (i : ℕ) × (i < lists) × takes g i
    × takes h i

-- the lists that a held range takes
abbrev pub takes_in : Regions → Held → ℕ → Type 0
takes_in c h i = Takes c h.range i

module _ {P : Type 0} where
  abbrev pub cores_of : SeatLists P → List View
  cores_of w = w.cores

  abbrev pub pass_of : SeatLists P → P
  pass_of w = w.pass

  abbrev pub grants_in : ℕ → List (SeatLists P) → Grants
  grants_in lists parts = map (grant_in lists) parts

  abbrev pub view : List (SeatLists P) → ListView P
  view parts = record { parts = parts }

  -- a narrow range is held in its list, and takes no other
  pub record IsNarrow (lists : ℕ) (takes : Held → ℕ → Type 0) (w : SeatLists P) (i : ℕ) : Type 0 where
    pub there : i < lists
    pub range : Held
    pub held : held_in w i ≡ Some range
    pub only : (j : ℕ) → takes range j → j ≡ i

  -- a wide range is held in list 0
  pub record IsWide (lists : ℕ) (w : SeatLists P) (p : ℕ) : Type 0 where
    pub first : 0 < lists
    pub most : p ≤ lists
    pub range : Held
    pub held : held_in w 0 ≡ Some range

  -- each list is a lock, and what counts is held where its standing says; a narrow range of a list that a wide one has
  -- passed isn't in conflict with it
  pub record AreLocks (lists seats : ℕ) (takes : Held → ℕ → Type 0) (words : List ℕ) (parts : List (SeatLists P)) : Type 0 where
    pub many : (n : ℕ) (w : SeatLists P) → get_elem? parts n ≡ some w → length w.cores ≡ lists
    pub locks : (i : ℕ) → i < lists → IsLock (machine_at i seats words (map cores_of parts))
    pub narrow_one : (n i : ℕ) (w : SeatLists P) → get_elem? parts n ≡ some w → w.standing ≡ Narrow i → IsNarrow lists takes w i
    pub wide_one : (n p : ℕ) (w : SeatLists P) → get_elem? parts n ≡ some w → w.standing ≡ Wide p → IsWide lists w p
    pub passed : (a b i p : ℕ) (x y : SeatLists P) (g h : Held) → a ≢ b → get_elem? parts a ≡ some x → get_elem? parts b ≡ some y
        → x.standing ≡ Narrow i → y.standing ≡ Wide p → i < p → held_in x i ≡ Some g → held_in y 0 ≡ Some h → takes h i → ¬ (Conflicts g h)

  -- so it is, and the guard's rule holds of what counts
  pub record AreLists (lists seats : ℕ) (takes : Held → ℕ → Type 0) (holds : Grants → List ℕ → List P → Type 0) (words : List ℕ)
      (parts : List (SeatLists P)) : Type 0 where
    pub apart : AreLocks lists seats takes words parts
    pub guard : holds (grants_in lists parts) (drop (lists * word_count seats) words) (map pass_of parts)

  -- each part in a view is that of its number, and no number is in two views
  abbrev pub IsOwned : List (ListView P) → List (SeatLists P) → (ℕ → ℕ) → Type 0
  IsOwned views parts owner = (id : ℕ) (v : ListView P) → get_elem? views id ≡ some v
      → (k : ℕ) (p : SeatLists P) → get_elem? v.parts k ≡ some p → (get_elem? parts p.number ≡ some p) × (owner p.number ≡ id)

  -- the number is in that view
  pub record Stands (views : List (ListView P)) (id n : ℕ) : Type 0 where
    pub holder : ListView P
    pub at : get_elem? views id ≡ some holder
    pub place : ℕ
    pub part : SeatLists P
    pub has : get_elem? holder.parts place ≡ some part
    pub number : part.number ≡ n

  -- the rule, with the parts by seat number and the view that each number is in
  pub record Ruled (c : Regions) (seats clients : ℕ) (holds : Grants → List ℕ → List P → Type 0) (s : State (Unit {0}) (ListView P))
      (parts : List (SeatLists P)) (owner : ℕ → ℕ) : Type 0 where
    pub cut : 0 < c.count
    pub wide : length s.words ≡ list_count c * word_count seats + clients
    -- the number part; each part knows how many seats there are
    pub count : length parts ≡ seats
    pub owned : IsOwned s.views parts owner
    pub stands : (n : ℕ) → n < seats → Stands s.views (owner n) n
    pub same : (n : ℕ) (p : SeatLists P) → get_elem? parts n ≡ some p → p.seats ≡ seats
    -- the core part and the guard part
    pub lists_are : AreLists (list_count c) seats (takes_in c) holds s.words parts

  -- the rule of a table with so many seats and client words, under that cut
  abbrev pub IsRunningList : Regions → ℕ → ℕ → (Grants → List ℕ → List P → Type 0) → State (Unit {0}) (ListView P) → Type 0
  IsRunningList c seats clients holds s = (parts : List (SeatLists P)) × (owner : ℕ → ℕ) × Ruled c seats clients holds s parts owner

  -- the line of a step in list i
  abbrev pub line_in : SeatLists P → ℕ → Step → Plan
  line_in w i step = planned w.seats w.number (core_at i w.cores) step

  -- a seat with these views, this way to count and this record: its pass rests where the range that counted is gone
  abbrev pub lists_with : ℕ → (P → P) → SeatLists P → List View → Standing → Record → SeatLists P
  lists_with lists rested w cores standing trace =
      record {
        number = w.number;
        seats = w.seats;
        cores = cores;
        standing = standing;
        pass = pass_kept rested (grant_in lists w) (counted_of lists standing (λ i. held_at (core_at i cores).own)) w.pass;
        trace = trace;
      }

  -- all that belongs to a seat after a step in list i that found that value
  abbrev pub lists_after : ℕ → (P → P) → SeatLists P → ℕ → Step → ℕ → SeatLists P
  lists_after lists rested w i step found =
      lists_with lists rested w (slice_set w.cores i ((line_in w i step).view found))
      (standing_after w.standing i (held_at ((line_in w i step).view found).own))
      (record_after (record w.trace { list = i }) (core_at i w.cores) step (line_in w i step).place found ((line_in w i step).view found))

  -- the line of a step for a seat, and whether the seat's view enables the step
  abbrev pub line_for : SeatPart P → Step → Plan
  line_for p step = planned p.seats p.number p.core step

  abbrev pub Enables : SeatPart P → Step → Type 0
  Enables p step = IsEnabled p.seats p.number p.core step

  -- where a step may give a held range back, the pass is at rest
  abbrev pub MayRest : (P → Type 0) → SeatPart P → Step → Type 0
  MayRest is_at_rest p step = IsGiving step → (h : Held) → held_at p.core.own ≡ Some h → is_at_rest p.pass

  -- the view after a step that found that value, and all that belongs to the seat then: a pass rests where its range
  -- was given back, and the record has the step
  abbrev pub core_after : SeatPart P → Step → ℕ → View
  core_after p step found = (line_for p step).view found

  abbrev pub part_after : (P → P) → SeatPart P → Step → ℕ → SeatPart P
  part_after rested p step found =
      record {
        number = p.number;
        seats = p.seats;
        core = core_after p step found;
        pass = pass_kept rested (held_at p.core.own) (held_at (core_after p step found).own) p.pass;
        trace = record_after p.trace p.core step (line_for p step).place found (core_after p step found);
      }

  -- a moment of the running list at which the seat's view enables the step and the step's word has that value
  pub record LockMoment (p : SeatPart P) (step : Step) (found : ℕ) : Type 0 where
    pub machine : Machine
    pub lock : IsLock machine
    pub seats : machine.seats ≡ p.seats
    pub view : slice_get machine.views p.number ≡ Some p.core
    pub word : slice_index machine.words (line_for p step).place ≡ found

  -- what a step says beside: how many seats the table has; that the view after is sound, and none of the seat's nodes
  -- is lost; that what was held is held on by every step but one that gives back; and the moment of a step that returns
  -- what it found
  pub record Told (seats : ℕ) (p : SeatPart P) (step : Step) (found : ℕ) : Type 0 where
    pub many : p.seats ≡ seats
    pub sound : IsViewSound p.seats p.number (core_after p step found)
    pub whole : IsWhole p.number (core_after p step found)
    pub kept : (IsGiving step → ⊥) → (h : Held) → held_at p.core.own ≡ Some h → held_at (core_after p step found).own ≡ Some h
    pub moment : (IsStoring step → ⊥) → LockMoment p step found

module _ {P : Type 0} where
  -- what a step leaves of a seat's view of the table, but for what it shows: the one part, with as many lists
  pub record IsOneLeft (pass : P) (me me' : Me (Unit {0}) (ListView P)) : Type 0 where
    pub slots : me'.1 ≡ me.1
    pub one : me'.0.parts ≡ part_in pass me'.0.parts ∷ []
    pub full : length (part_in pass me'.0.parts).cores ≡ length (part_in pass me.0.parts).cores

  -- a step in list i says to its seat what the list shows of it after
  pub record IsLockPlay (pass : P) (rested : P → P) (lists i seats : ℕ) (step : Step) (me : Me (Unit {0}) (ListView P)) (found : ℕ)
      (me' : Me (Unit {0}) (ListView P)) : Type 0 where
    pub left : IsOneLeft pass me me'
    pub shows : shown_of pass lists i me'.0.parts ≡ part_after (given_back rested) (shown_of pass lists i me.0.parts) step found
    pub told : Told seats (shown_of pass lists i me.0.parts) step found

  -- what belongs to the seat after a step on client word i that left that pass
  abbrev pub client_lists : SeatLists P → ℕ → P → SeatLists P
  client_lists w i pass =
      record { number = w.number; seats = w.seats; cores = w.cores; standing = w.standing; pass = pass; trace = client_trace w.trace i }

  -- the same as a hand shows it
  abbrev pub client_part : SeatPart (Beside P) → ℕ → P → SeatPart (Beside P)
  client_part p i pass = record { number = p.number; seats = p.seats; core = p.core; pass = beside_with p.pass pass; trace = client_trace p.trace i }

  -- a step on a client word says to its seat that it was made at a moment of the running table, with the value found
  -- there
  pub record IsClientPlay {N : Type 0} (begin : P) (holds : Grants → List ℕ → List P → Type 0)
      (allows : Grants → List ℕ → List P → ℕ → ClientStep → N → P → Type 0) (note : N) (lists i : ℕ) (step : ClientStep)
      (me : Me (Unit {0}) (ListView P)) (found : ℕ) (me' : Me (Unit {0}) (ListView P)) : Type 0 where
    pub left : IsOneLeft begin me me'
    pub pass : P
    pub shows : shown_of begin lists i me'.0.parts ≡ client_part (shown_of begin lists i me.0.parts) (place_of step) pass
    pub made : IsMade holds allows note (shown_of begin lists i me.0.parts).number (shown_grant (shown_of begin lists i me.0.parts))
        (inner_pass (shown_of begin lists i me.0.parts)) step found pass
