-- What giving a range back leaves of a hand: it has no node of its own, and owes none its home; the pass is rested, and
-- an open scan stays. The fast path unlinks the node and gives it home, or finds the head changed and leaves the range
-- held. Kogan, Dice and Issa 2020.
use Rattle.std.specs.Prelude.{◌≡◌, ◌≢◌, ◌+◌, ◌≤◌, Bool, true, false, None}
use Rattle.lock_core.specs.declared.views.Own.TheVariants.{Nothing}
use Rattle.lock_core.specs.Machine.{held_at}
use Rattle.epoch_pools.specs.declared.views.SeatPart.{SeatPart}
use Rattle.epoch_pools.specs.Record.{KeepsOccupied}
use Rattle.range_rw.specs.Seats.{IsBetween, scan_of}

module _ {P : Type 0} where
  -- between two calls a hand holds a range, with a pass with which it may be given back
  pub record MayRelease (is_at_rest : P → Type 0) (p : SeatPart P) : Type 0 where
    pub between : IsBetween p.core
    pub holds : held_at p.core.own ≢ None
    pub rest : is_at_rest p.pass

  -- the range was given back, in one step or two
  pub record GivesBack (rested : P → P) (p q : SeatPart P) : Type 0 where
    pub number : q.number ≡ p.number
    pub seats : q.seats ≡ p.seats
    pub pass : q.pass ≡ rested p.pass
    pub client : q.trace.client ≡ p.trace.client
    pub occupied : KeepsOccupied p.trace q.trace
    pub asked : q.trace.asked ≡ p.trace.asked
    pub met : q.trace.met ≡ p.trace.met
    pub own : q.core.own ≡ Nothing
    pub hand : q.core.hand ≡ None
    pub epoch : q.core.epoch ≡ p.core.epoch
    pub cursor : q.core.cursor ≡ p.core.cursor
    pub ready : q.core.ready ≡ p.core.ready
    pub scan : scan_of q ≡ scan_of p
    pub least : p.trace.taken + 1 ≤ q.trace.taken
    pub most : q.trace.taken ≤ p.trace.taken + 2

  -- the range is still held, after one step
  pub record IsRefusedQuickly (p q : SeatPart P) : Type 0 where
    pub number : q.number ≡ p.number
    pub seats : q.seats ≡ p.seats
    pub core : q.core ≡ p.core
    pub pass : q.pass ≡ p.pass
    pub client : q.trace.client ≡ p.trace.client
    pub occupied : KeepsOccupied p.trace q.trace
    pub asked : q.trace.asked ≡ p.trace.asked
    pub met : q.trace.met ≡ p.trace.met
    pub taken : q.trace.taken ≡ p.trace.taken + 1

  abbrev pub IsQuickBack : (P → P) → SeatPart P → SeatPart P → Bool → Type 0
  IsQuickBack rested p q true = GivesBack rested p q
  IsQuickBack rested p q false = IsRefusedQuickly p q
