use Rattle.std.proofs.Common.{◌+◌, ℕ, ap, ◌∙◌, arith}
use Rattle.range_queue.specs.Looks.{look_behind, look_from, ticket_of}
use Rattle.range_queue.proofs.Looked.{looking_on, looking_none, look_below, look_over, meets_one}
use Rattle.range_queue.proofs.looking.look_round.Goals as goal

-- no seat is passed yet
pub seats-init : goal.seats-init
seats-init g c = record { looking = looking_none c.args.seat.now; look = c.requires.look; low = omega arith; last = c.requires.last }

-- the look is at the next seat
pub look_at-requires-clause-look : goal.look_at-requires-clause-look
look_at-requires-clause-look g c = c.seats.invariant.look ∙ look_below c.args.seats c.args.asked.now c.seats.k (omega arith)

pub look_at-requires-clause-there : goal.look_at-requires-clause-there
look_at-requires-clause-there g c = let e = c.seats.invariant.looking.seats in let s = c.requires.seats in (omega arith, omega arith)

pub look_at-requires-clause-mine : goal.look_at-requires-clause-mine
look_at-requires-clause-mine g c = ap ticket_of c.seats.invariant.looking.telling ∙ c.requires.mine

pub returns-in-Some-clause-looking : goal.returns-in-Some-clause-looking
returns-in-Some-clause-looking g c = looking_on c.seats.invariant.looking c.look_at.ensures.looking

pub returns-in-Some-clause-look : goal.returns-in-Some-clause-look
returns-in-Some-clause-look g c = c.look_at.ensures.look ∙ ap (look_behind c.seats.seat.pass.seats c.args.asked.now c.seats.k) c.in-Some.is

-- one seat more is passed
pub seats-preserved : goal.seats-preserved
seats-preserved g c = record {
  looking = looking_on c.seats.invariant.looking c.look_at.ensures.looking;
  look = c.look_at.ensures.look ∙ (ap (look_behind c.seats.seat.pass.seats c.args.asked.now c.seats.k) c.in-None.is
      ∙ ap (λ (n : ℕ). look_from n c.args.asked.now (c.seats.k + 1)) (c.seats.invariant.looking.seats ∙ c.requires.seats.0));
  low = omega arith;
  last = c.look_at.ensures.last;
}

pub returns-clause-looking : goal.returns-clause-looking
returns-clause-looking g c = c.seats.invariant.looking

-- all are
pub returns-clause-look : goal.returns-clause-look
returns-clause-look g c = c.seats.invariant.look ∙ look_over c.args.seats c.args.asked.now c.seats.k (omega arith)

pub look_at-requires-clause-free : goal.look_at-requires-clause-free
look_at-requires-clause-free g c = c.seats.invariant.looking.beside.held ∙ c.requires.free

-- what was met, and where
pub returns-in-Some-clause-met : goal.returns-in-Some-clause-met
returns-in-Some-clause-met g c = meets_one c.args.asked.now c.args.mine c.args.seats c.seats.k c.look_at.result _ c.in-Some.is (omega arith)
    c.look_at.ensures.met
