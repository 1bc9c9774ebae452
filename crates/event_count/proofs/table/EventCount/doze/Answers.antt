use Rattle.std.proofs.Common.{rules, ◌≡◌}
use Rattle.event_count.proofs.Dozing.{one_turn}
use Rattle.event_count.proofs.table.EventCount.doze.Goals as goal

-- one turn more found the number seen
pub loop-preserved : goal.loop-preserved
loop-preserved g c =
    let same : c.read-found.result ≡ c.args.seen = search rules in
    record {
      table = search rules;
      counted = search rules;
      turned = one_turn c.args.seen c.read-found.result c.args.seat.now.steps c.loop.seat.steps c.read-found.new.seat.steps
          c.loop.invariant.turned c.read-found.ensures.steps same;
    }
