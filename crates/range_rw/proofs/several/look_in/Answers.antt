use Rattle.std.proofs.Common.{inl, inr, ap, ◌∙◌, arith}
use Rattle.epoch_pools.specs.declared.views.SeatPart.{SeatPart}
use Rattle.range_rw.specs.Looks.{MeetsMore, standing_for}
use Rattle.range_rw.proofs.Calls.{counted_on}
use Rattle.range_rw.proofs.Moves.{holds_in, holds_seen, seen_shows}
use Rattle.range_rw.proofs.Meeting.{look_met, more_still, err_any}
use Rattle.range_rw.proofs.Dues.{due_on, look_quiet, look_clear, looks_from}
use Rattle.range_rw.proofs.several.look_in.Goals as goal

-- the range may be looked for in that list
-- a look that found the list empty
pub returns-then-look : goal.returns-then-look
returns-then-look g c = let done = c.look.ensures.look in record {
  looks = record { counted = done.counted; is = look_clear c.requires.holds done.is c.if-look.true };
  once = inl (
    ap (λ (x : SeatPart _). x.trace.taken) done.is,
    seen_shows c.args.hand.now.part c.args.at c.look.result
        (standing_for c.args.own c.args.up) done.is c.args.at,
  );
  more = tt;
  bound = let l = ap (λ (x : SeatPart _). x.trace.taken) done.is in omega arith;
}

-- the list is due still
pub look_swept-requires-clause-due : goal.look_swept-requires-clause-due
look_swept-requires-clause-due g c = let done = c.look.ensures.look in record {
  table = done.counted.table ∙ c.requires.due.table;
  is = due_on c.requires.due.is c.look.new.hand.part (ap (λ (x : SeatPart _). x.pass.lists) done.is)
      (look_quiet (standing_for c.args.own c.args.up) {at = c.args.at} {p = c.args.hand.now.part} done.is c.if-look.false).standing;
}

-- and the range is held as it was
pub look_swept-requires-clause-holds : goal.look_swept-requires-clause-holds
look_swept-requires-clause-holds g c = holds_in (holds_seen c.args.at c.look.result (standing_for c.args.own c.args.up) c.look.ensures.look.is c.requires.holds)

-- otherwise it comes to what the sweep and the rest come to
pub returns : goal.returns
returns g c =
    let done = c.look.ensures.look in let rest = c.look_swept.ensures in let s = standing_for c.args.own c.args.up in
    let met : MeetsMore c.args.at c.args.hand.now.part c.look_swept.new.hand.part = more_still c.args.at c.args.hand.now.part c.look.new.hand.part
    c.look_swept.new.hand.part (look_met c.args.at s c.args.hand.now.part done.is c.if-look.false) rest.looks.is.later.occupied in record {
      looks = record {
        counted = counted_on done.counted rest.looks.counted;
        is = looks_from done.counted.table (look_quiet (standing_for c.args.own c.args.up) done.is c.if-look.false) rest.looks.is;
      };
      -- the list was found not empty
      once = inr met.1;
      more = err_any c.look_swept.result met;
      -- the steps of the look and of the rest
      bound = let l = ap (λ (x : SeatPart _). x.trace.taken) done.is in let s = ap (λ (x : SeatPart _). x.seats) done.is in let b = rest.bound in omega arith;
    }
