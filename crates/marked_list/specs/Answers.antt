-- What each answer of a walk, a validation, a sweep, a link and a quick call says of the hand after it. Each comes only
-- by its cause; `Long` comes exactly where the walk has looked at as many nodes as it may. The walk, the link and the
-- validations are those of Kogan, Dice and Issa 2020; the bound on a walk is this project's own.
use Rattle.std.specs.Prelude.{◌≡◌, ℕ, ◌+◌, ◌*◌, true, unwrap_or, Option, Some, None}
use Rattle.lock_core.specs.declared.range.Held.{Held as HeldRange}
use Rattle.lock_core.specs.declared.range.Mode.{Mode}
use Rattle.lock_core.specs.declared.views.View.{View}
use Rattle.lock_core.specs.declared.views.Cursor.{Cursor}
use Rattle.lock_core.specs.declared.views.Todo.{Todo}
use Rattle.lock_core.specs.declared.views.Todo.TheVariants.{Done as Held}
use Rattle.lock_core.specs.declared.views.Own.{Own}
use Rattle.lock_core.specs.declared.views.Own.TheVariants.{Nothing, Filling, Linked as InList}
use Rattle.lock_core.specs.declared.steps.Step.TheVariants.{Link, QuickLink, QuickUnlink}
use Rattle.lock_core.specs.Nodes.{Listed, listed}
use Rattle.lock_core.specs.Views.{todo_of, marked, quick_unlinked}
use Rattle.lock_core.specs.Machine.{held_at}
use Rattle.epoch_pools.specs.declared.record.Looked.{Looked}
use Rattle.epoch_pools.specs.declared.views.SeatPart.{SeatPart}
use Rattle.epoch_pools.specs.Record.{cursor_word}
use Rattle.marked_list.specs.declared.answers.Linked.{Linked}
use Rattle.marked_list.specs.declared.answers.Linked.TheVariants.{Done, Lost as NotLinked}
use Rattle.marked_list.specs.declared.answers.Walked.{Walked}
use Rattle.marked_list.specs.declared.answers.Walked.TheVariants.{Place, Conflict, Lost, Long}
use Rattle.marked_list.specs.Causes.{IsMet, IsLost, IsWalkLoss, IsSpent}
use Rattle.marked_list.specs.Leaves.{IsCall, IsSameLook}
use Rattle.marked_list.specs.Order.{StandsAtPlace, StandsInConflict}

-- the cursor is at the end of the list
abbrev pub IsAtEnd : Option Cursor → Type 0
IsAtEnd o = (c : Cursor) × (o ≡ Some c) × (c.cur ≡ 0)

-- a walk with this own node has come to its end: without one at the end of the list, with one that is being filled at
-- the place of that node, and in a validation where the range is held
abbrev pub Arrives : Own → View → Type 0
Arrives Nothing w = (w.own ≡ Nothing) × IsAtEnd w.cursor
Arrives (Filling node lo hi mode aimed) w = (w.own ≡ Filling node lo hi mode aimed) × StandsAtPlace w.cursor
Arrives (InList node range mode todo) w = w.own ≡ InList node range mode Held

-- an own node that is being filled, once it is aimed at a word, and once it is linked with this still to do
abbrev pub aimed_own : ℕ → Own → Own
aimed_own w Nothing = Nothing
aimed_own w (Filling node lo hi mode aimed) = Filling node lo hi mode (Some w)
aimed_own w (InList node range mode todo) = InList node range mode todo

abbrev pub linked_own : (Mode → Todo) → Own → Own
linked_own todo Nothing = Nothing
linked_own todo (Filling node lo hi mode aimed) = InList node (record { lo = unwrap_or lo 0; hi = unwrap_or hi 0 }) mode (todo mode)
linked_own todo (InList node range mode done) = InList node range mode done

-- the answer that a walk was too long
abbrev pub IsLong : Walked → Type 0
IsLong Place = ⊥
IsLong (Conflict owner range mode) = ⊥
IsLong (Lost l) = ⊥
IsLong (Long visits) = Unit {0}

module _ {P : Type 0} where
  -- why a walk of a hand with that own node, which began with the step of that number, gives an answer
  abbrev pub Answers : ℕ → Own → SeatPart P → Walked → Type 0
  Answers first own q Place = Arrives own q.core
  Answers first own q (Conflict owner range mode) = IsMet first q owner (record { range = range; mode = mode })
      × (q.core.own ≡ own) × StandsInConflict q.seats q.core
  Answers first own q (Lost l) = IsLost first q IsWalkLoss l.place l.expected l.found × (q.core.own ≡ own) × (q.core.cursor ≡ None)
  Answers first own q (Long visits) = (visits ≡ 16 * q.seats + 1) × (q.core.own ≡ own) × IsSpent q

  -- why a sweep gives an answer: at its end it has read the end of the list
  abbrev pub Sweeps : ℕ → SeatPart P → Walked → Type 0
  Sweeps first q Place = (l : Looked) × (q.trace.looked ≡ Some l) × (l.ended ≡ true)
  Sweeps first q (Conflict owner range mode) = ⊥
  Sweeps first q (Lost l) = IsLost first q IsWalkLoss l.place l.expected l.found
  Sweeps first q (Long visits) = (visits ≡ 16 * q.seats + 1) × IsSpent q

  -- the own node is aimed at the cursor's word, or at the end; nothing else of the view changes
  pub record IsAimed (p q : SeatPart P) : Type 0 where
    pub call : IsCall 1 p q
    pub core : q.core ≡ record p.core { own = aimed_own (cursor_word p.core.cursor) p.core.own }
    pub look : IsSameLook p q
    pub asked : q.trace.asked ≡ p.trace.asked

  -- why a link gives an answer: the node is linked and has its validation still to do, or the exchange found another
  -- value; the cursor is gone
  abbrev pub Links : SeatPart P → SeatPart P → Linked → Type 0
  Links p q Done = q.core ≡ record p.core { own = linked_own todo_of p.core.own; cursor = None }
  Links p q (NotLinked l) = IsLost p.trace.taken q (λ kind. kind ≡ Link) l.place l.expected l.found
      × (q.core ≡ record p.core { own = aimed_own (cursor_word p.core.cursor) p.core.own; cursor = None })

  -- why a quick link gives an answer: the range is held, or the head was no empty one
  abbrev pub QuickLinks : SeatPart P → SeatPart P → Linked → Type 0
  QuickLinks p q Done = q.core ≡ record p.core { own = linked_own (λ _. Held) p.core.own }
  QuickLinks p q (NotLinked l) = IsLost p.trace.taken q (λ kind. kind ≡ QuickLink) l.place l.expected l.found × (l.place ≡ 0) × (l.expected ≡ 0)
      × (q.core ≡ record p.core { own = aimed_own 0 p.core.own })

  -- the own node was marked: it is a used one now, and the pass is rested where its range was held
  pub record IsMarkCall (rested : P → P) (p q : SeatPart P) : Type 0 where
    pub number : q.number ≡ p.number
    pub seats : q.seats ≡ p.seats
    pub client : q.trace.client ≡ p.trace.client
    pub asked : q.trace.asked ≡ p.trace.asked
    pub occupied : q.trace.occupied ≡ p.trace.occupied
    pub list : q.trace.list ≡ p.trace.list
    pub taken : q.trace.taken ≡ p.trace.taken + 1
    pub core : (k : Listed) → p.core.own ≡ listed k → q.core ≡ marked p.core k.node
    pub held : (h : HeldRange) → held_at p.core.own ≡ Some h → q.pass ≡ rested p.pass
    pub free : held_at p.core.own ≡ None → q.pass ≡ p.pass
    -- what the record has of nodes, exchanges, walks, homes and epochs stays
    pub met : q.trace.met ≡ p.trace.met
    pub lost : q.trace.lost ≡ p.trace.lost
    pub looked : p.core.cursor ≡ None → q.trace.looked ≡ p.trace.looked
    pub look : IsSameLook p q
    pub away : q.trace.away ≡ p.trace.away
    pub noted : q.trace.noted ≡ p.trace.noted

  -- why a quick unlink gives an answer: the range was given back, and the node is to be given home; or the head was
  -- another, and the range is still held
  pub record IsQuickCall (p q : SeatPart P) : Type 0 where
    pub number : q.number ≡ p.number
    pub seats : q.seats ≡ p.seats
    pub client : q.trace.client ≡ p.trace.client
    pub asked : q.trace.asked ≡ p.trace.asked
    pub occupied : q.trace.occupied ≡ p.trace.occupied
    pub list : q.trace.list ≡ p.trace.list
    pub met : q.trace.met ≡ p.trace.met
    pub taken : q.trace.taken ≡ p.trace.taken + 1

  abbrev pub QuickUnlinks : (P → P) → SeatPart P → SeatPart P → Linked → Type 0
  QuickUnlinks rested p q Done = IsQuickCall p q × ((k : Listed) → p.core.own ≡ listed k → q.core ≡ quick_unlinked p.core k.node) × (q.pass ≡ rested p.pass)
  QuickUnlinks rested p q (NotLinked l) = IsQuickCall p q
      × IsLost p.trace.taken q (λ kind. kind ≡ QuickUnlink) l.place l.expected l.found × (q.core ≡ p.core) × (q.pass ≡ p.pass)
