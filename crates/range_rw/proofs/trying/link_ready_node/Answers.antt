use Rattle.std.proofs.Common.{rules, ap, ◌∙◌, arith}
use Rattle.epoch_pools.specs.declared.views.SeatPart.{SeatPart}
use Rattle.range_rw.proofs.Asking.{for_only}
use Rattle.range_rw.proofs.Taking.{quick_later, quick_outside, quick_node, quick_met}
use Rattle.range_rw.proofs.trying.link_ready_node.Goals as goal

-- the fast path is a call of a try, and the hand is still outside, where there is no cursor
pub returns : goal.returns
returns g c =
    let p = c.args.hand.now.part in let q = c.quick_take.new.hand.part in let r = c.quick_take.result in let free = c.requires.some.is.free in
    let quick = c.quick_take.ensures.taken in let node = quick_node p q c.args.range c.args.mode r quick in
    let taken = ap (λ (x : SeatPart _). x.trace.taken) quick.after in record {
      link = record {
        counted = search rules;
        is = record {
          later = record {
            later = quick_later p q c.args.range c.args.mode r quick;
            outside = quick_outside p q c.args.range c.args.mode r quick free.outside;
            cursor = ap (λ (x : SeatPart _). x.core.cursor) quick.after ∙ c.view.ensures.sound.sound.outside free.outside.even;
          };
          -- the first ready node was tried
          asks = for_only node.asks;
          tried = node;
          missed = tt;
          seats = search rules;
          few = omega arith;
          -- in five steps, and where the head was another, that is in the record
          quick = λ some. (taken, quick_met p q c.args.range c.args.mode r quick);
        };
      };
    }
