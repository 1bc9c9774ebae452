-- How a walk begins and goes on from node to node, in the words of the hand's view, and what one look at a node may
-- come to. One look serves the walk for a place, both validations and the sweep, since the own node alone says how a
-- node is judged. The walk and its unlinking of marked nodes are those of Kogan, Dice and Issa 2020.
use Rattle.std.specs.Prelude.{◌≡◌, ◌≢◌, ◌⊎◌, ℕ, ◌+◌, ◌-◌, ◌*◌, ◌/◌, ◌%◌, ◌<◌, ◌≤◌, ◌==◌, ◌||◌, Bool, if◌then◌else◌, is_some, Option, Some, None}
use Rattle.lock_core.specs.declared.views.View.{View}
use Rattle.lock_core.specs.declared.views.Cursor.{Cursor}
use Rattle.lock_core.specs.declared.views.Own.{Own}
use Rattle.lock_core.specs.Words.{plain_node_of, mode_of}
use Rattle.lock_core.specs.Nodes.{Listed, listed, listed_of}
use Rattle.lock_core.specs.Views.{seen_after, own_at, start_of}
use Rattle.lock_core.specs.Machine.{held_at}
use Rattle.epoch_pools.specs.declared.views.SeatPart.{SeatPart}
use Rattle.marked_list.specs.declared.answers.Walked.{Walked}
use Rattle.marked_list.specs.declared.answers.Walked.TheVariants.{Place, Conflict, Lost}
use Rattle.marked_list.specs.declared.answers.Lost.{Lost as LostAnswer}
use Rattle.marked_list.specs.Causes.{nodes_in, judged_in, IsBoundedWalk}
use Rattle.marked_list.specs.Answers.{Answers}
use Rattle.marked_list.specs.Leaves.{IsSamePools, IsLaterInWalk, IsCall, IsSameWalk, HasJudged, IsNewWalk}
use Rattle.marked_list.specs.Order.{OwnMayWalk, IsInside, StandsAt, KnowsNext}

-- how many nodes a cursor has looked at; none where there is no cursor
abbrev pub seen_of : Option Cursor → ℕ
seen_of None = 0
seen_of (Some c) = c.seen

-- the cursor has come to its end: the range is held, or it is at the end of the list, or it has stopped before a node
abbrev pub has_arrived : Own → Cursor → Bool
has_arrived own c = is_some (held_at own) || (c.cur == 0 || is_some c.lo)

abbrev pub arrival_at : Own → Option Cursor → Option Walked
arrival_at own None = None
arrival_at own (Some c) = if has_arrived own c then Some Place else None

-- what a judgement left of the cursor tells, with the lower end and the hi word by which the node was judged: a cursor
-- that stays at its node, with its next word known, is in conflict
abbrev pub conflict_with : ℕ → ℕ → ℕ → Walked
conflict_with cur lo word = Conflict ((cur / 2 - 1) / 16) (record { lo = lo; hi = word / 2 }) (mode_of word)

abbrev pub judgement_at : Own → Option Cursor → ℕ → ℕ → Option Walked
judgement_at own None lo word = None
judgement_at own (Some c) lo word =
    if is_some c.next then Some (conflict_with c.cur lo word)
    else if has_arrived own c then Some Place
    else None

-- the lower end of the cursor's node is known too
pub record KnowsLo (v : View) (word low : ℕ) : Type 0 where
  pub knows : KnowsNext v word
  pub lo : knows.stands.cursor.lo ≡ Some low

-- a walk may begin: there is no cursor
pub record MayBeginWalk (v : View) : Type 0 where
  pub inside : IsInside v
  pub own : OwnMayWalk v.own
  pub cursor : v.cursor ≡ None

-- the cursor is at the head, which it found with the low bit, and no node of this seat is linked
pub record IsAtOddHead (v : View) : Type 0 where
  pub inside : IsInside v
  pub cursor : Cursor
  pub is : v.cursor ≡ Some cursor
  pub prev : cursor.prev ≡ None
  pub odd : cursor.cur % 2 ≡ 1
  pub unlinked : listed_of v.own ≡ None

-- the walk goes on: the own node stays, and the cursor is at one node more
pub record GoesOn (v w : View) : Type 0 where
  pub stands : StandsAt w
  pub own : w.own ≡ v.own
  pub seen : seen_of w.cursor ≡ seen_of v.cursor + 1

-- the cursor came to another word, without the low bit, and knows nothing of its node yet
pub record CursorCame (v w : View) : Type 0 where
  pub cursor : Cursor
  pub is : w.cursor ≡ Some cursor
  pub even : cursor.cur % 2 ≡ 0
  pub next : cursor.next ≡ None
  pub lo : cursor.lo ≡ None
  pub seen : cursor.seen ≡ seen_after (seen_of v.cursor) cursor.cur
  pub own : w.own ≡ own_at v.own cursor.cur

-- node y is another seat's, or the own linked one
abbrev pub IsOthers : ℕ → Own → ℕ → Type 0
IsOthers number own y = (y / 16 ≢ number) ⊎ (k : Listed) × (own ≡ listed k) × (k.node ≡ y)

module _ {P : Type 0} where
  -- the cursor's node is one
  abbrev pub IsAtOthers : SeatPart P → Type 0
  IsAtOthers p = (c : Cursor) (y : ℕ) → p.core.cursor ≡ Some c → plain_node_of c.cur ≡ Some y → IsOthers p.number p.core.own y

  -- the walk has not looked at as many nodes as it may, or a range is held, and it has looked at no more than that
  abbrev pub IsNotSpent : SeatPart P → Type 0
  IsNotSpent q = (nodes_in q.trace.looked ≤ 16 * q.seats) ⊎ ((held_at q.core.own ≢ None) × IsBoundedWalk q)

  -- what one look came to: the walk goes on, or it has an answer
  abbrev pub Outcome : ℕ → View → SeatPart P → Option Walked → Type 0
  Outcome first v q None = GoesOn v q.core
  Outcome first v q (Some answer) = Answers first v.own q answer × IsNotSpent q

  -- the cursor may look at one node more
  pub record HasRoom (p : SeatPart P) : Type 0 where
    pub seats : p.seats ≤ 16
    pub seen : seen_of p.core.cursor ≤ 16 * p.seats

  -- a load that leaves the cursor at its node
  pub record IsLoad (p q : SeatPart P) : Type 0 where
    pub later : IsLaterInWalk p q
    pub own : q.core.own ≡ p.core.own
    pub seen : seen_of q.core.cursor ≡ seen_of p.core.cursor
    pub walk : IsSameWalk p q
    pub judged : HasJudged 0 p q
    pub taken : q.trace.taken ≡ p.trace.taken + 1

  -- an exchange of the cursor's word that found another value, which is the walk's answer
  pub record IsFailed (p q : SeatPart P) (l : LostAnswer) : Type 0 where
    pub later : IsLaterInWalk p q
    pub outcome : Outcome p.trace.taken p.core q (Some (Lost l))
    pub walk : IsSameWalk p q
    pub judged : HasJudged 0 p q
    pub taken : q.trace.taken ≡ p.trace.taken + 1

  -- the cursor's node was unlinked, and is to be given home
  pub record IsUnlinked (p q : SeatPart P) (node : ℕ) : Type 0 where
    pub call : IsCall 1 p q
    pub epoch : q.core.epoch ≡ p.core.epoch
    pub pools : IsSamePools p.core q.core
    pub asked : q.trace.asked ≡ p.trace.asked
    pub occupied : q.trace.occupied ≡ p.trace.occupied
    pub walks : q.trace.walks ≡ p.trace.walks
    pub hand : q.core.hand ≡ Some node
    pub came : CursorCame p.core q.core
    pub walk : IsSameWalk p q
    pub judged : HasJudged 0 p q

  -- a cursor was made, which names that word, in a list of 1 to 16 seats; where the word has the low bit, the cursor
  -- is at the head, and no node of this seat is linked
  pub record IsCursorMade (p q : SeatPart P) (word : ℕ) : Type 0 where
    pub later : IsLaterInWalk p q
    pub cursor : q.core.cursor ≡ Some (record { prev = start_of p.core.own; cur = word; next = None; lo = None; seen = seen_after 0 word })
    pub own : q.core.own ≡ own_at p.core.own word
    pub walk : IsNewWalk p.trace.taken q
    pub judged : judged_in q.trace.looked ≡ 0
    pub unlinked : word % 2 ≡ 1 → listed_of p.core.own ≡ None
    pub seats : (0 < q.seats) × (q.seats ≤ 16)
    pub taken : q.trace.taken ≡ p.trace.taken + 1

  -- the head's low bit was taken away, and the cursor names the head's node
  pub record IsSettled (p q : SeatPart P) : Type 0 where
    pub later : IsLaterInWalk p q
    pub cursor : (c : Cursor) → p.core.cursor ≡ Some c → q.core.cursor ≡ Some (record c { cur = c.cur - 1 })
    pub own : q.core.own ≡ p.core.own
    pub walk : IsSameWalk p q
    pub judged : HasJudged 0 p q
    pub taken : q.trace.taken ≡ p.trace.taken + 1
