use Rattle.std.proofs.Common.{rules, ◌∙◌, arith}
use Rattle.range_rw.proofs.Asking.{for_from, for_only}
use Rattle.range_rw.proofs.Calls.{counted_on}
use Rattle.range_rw.proofs.Later.{later_on}
use Rattle.range_rw.proofs.Taking.{may_fill_on, slow_node}
use Rattle.range_rw.proofs.trying.link_swept_node.Goals as goal

-- the node was just taken
pub fill_and_link-requires-clause-order : goal.fill_and_link-requires-clause-order
fill_and_link-requires-clause-order g c = record {
  table = c.sweep_and_take.ensures.later.counted.table ∙ c.requires.empty.table;
  is = may_fill_on c.args.hand.now.part c.sweep_and_take.new.hand.part c.in-Ok.node c.in-Ok.ensures.node;
}

-- the node that the sweep made ready was tried
pub returns-in-Ok : goal.returns-in-Ok
returns-in-Ok g c =
    let p = c.args.hand.now.part in let q = c.sweep_and_take.new.hand.part in let f = c.fill_and_link.new.hand.part in
    let swept = c.sweep_and_take.ensures in let filled = c.fill_and_link.ensures in let asks = for_from swept.asked filled.asks in record {
      link = record {
        counted = counted_on swept.later.counted filled.later.counted;
        is = record {
          later = record { later = later_on p q f swept.later.is filled.later.is; outside = search rules; cursor = filled.cursor };
          -- it is filled with the range
          asks = for_only asks;
          tried = slow_node p q f c.in-Ok.node c.args.range c.args.mode c.in-Ok.ensures.node filled.ready c.fill_and_link.result filled.held filled.filled asks;
          missed = tt;
          seats = swept.seats;
          few = let a = swept.bound in let b = filled.taken in omega arith;
          quick = λ some. absurd (some c.requires.empty.is.empty);
        };
      };
    }

-- without a node nothing is asked for
