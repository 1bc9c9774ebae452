use Rattle.std.proofs.Common.{rules, suc, ◌∙◌, arith}
use Rattle.range_wait.specs.Seats.{both}
use Rattle.range_wait.proofs.Waited.{kept_on, last_try}
use Rattle.range_wait.proofs.trying.tries_awake.Goals as goal

-- a try that holds the range comes after the refused ones
pub returns-in-Ok-clause-tried : goal.returns-in-Ok-clause-tried
returns-in-Ok-clause-tried g c = let r = c.tries.invariant.refused in
    (r.0, both c.tries.seat c.tries.event, let n = r.1 in search rules, r.2, c.in-Ok.ensures.tried)

-- one more is refused
pub tries-preserved : goal.tries-preserved
tries-preserved g c = let i = c.tries.invariant in let e = c.in-Err.ensures in record {
  events = e.events ∙ i.events;
  held = e.free;
  out = e.out;
  kept = kept_on i.kept e.kept;
  refused = (suc i.refused.0, let n = i.refused.1 in omega arith, (both c.tries.seat c.tries.event, i.refused.2, (c.in-Err.field-0, e.tried)));
}

-- the last one has the answer of the call
pub returns-clause-tried : goal.returns-clause-tried
returns-clause-tried g c = let i = c.tries.invariant in
    last_try (record { range = c.args.range; mode = c.args.mode }) (both c.args.seat.now c.args.event.now) c.args.tries i.refused.0
    (let n = i.refused.1 in search rules) (both c.tries.seat c.tries.event) c.try_awake-2.result
    (both c.try_awake-2.new.seat c.try_awake-2.new.event) i.refused.2 c.try_awake-2.ensures.tried
