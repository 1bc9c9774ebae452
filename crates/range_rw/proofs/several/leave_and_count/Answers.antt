use Rattle.std.proofs.Common.{sym, ap, ◌∙◌, subst, arith}
use Rattle.epoch_pools.specs.Hands.{HandState}
use Rattle.range_rw.specs.Several.{HasLeft}
use Rattle.range_rw.proofs.several.leave_and_count.Goals as goal

-- that the lists are counted changes nothing of the hand
pub returns : goal.returns
returns g c =
    let out = c.leave_epoch.ensures.left in let is = c.lists_of.ensures.hand in record {
      left = record {
        -- no step is made but the one by which it leaves
        counted = record {
          table = ap (λ (h : HandState _). h.table) is ∙ out.counted.table;
          steps = let e = ap (λ (h : HandState _). h.part.trace.taken) is in let b = out.counted.steps in let n = c.lists_of.ensures.counted in omega arith;
        };
        is = subst (λ (h : HandState _). HasLeft c.args.list.now.cut c.lists_of.result c.args.hand.now.part h.part) (sym is) (record {
          left = out.is;
          -- outside its epoch the hand has no cursor
          rests = record {
            outside = out.is.free.outside.even;
            cursor = c.view.ensures.sound.sound.outside out.is.free.outside.even;
            hand = out.is.free.outside.hand;
          };
          lists = record { shown = c.lists_of.ensures.lists.0; many = c.lists_of.ensures.lists.1; regions = c.lists_of.ensures.regions };
          -- it is turned to one of the lists, of which there are so many
          there = let e = c.list.ensures.list in let t = c.list.ensures.there in omega arith;
        });
      };
    }
