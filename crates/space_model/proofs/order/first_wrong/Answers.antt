-- The areas stay in order exactly where the next one is right.
use Rattle.std.proofs.Common.{true≢false, sym, ◌∙◌}
use Rattle.space_model.proofs.InOrder.{area_list_more, area_list_right}
use Rattle.space_model.proofs.order.first_wrong.Goals as goal

-- an area that isn't right at its index is the first wrong one
pub returns-then-not-is_right_at : goal.returns-then-not-is_right_at
returns-then-not-is_right_at c =
    record {
      within = c.loop-i-test.true;
      right_before = c.loop-i.invariant;
      wrong = λ w.
          true≢false
          (sym (c.is_right_at.ensures.1 (area_list_right c.args.list.now c.loop-i.i c.loop-i-test.true w)) ∙
          c.if-not-is_right_at.true);
    }

-- with a right area more the areas are still in order
pub loop-i-preserved : goal.loop-i-preserved
loop-i-preserved c =
    area_list_more c.args.list.now c.loop-i.i c.loop-i-test.true c.loop-i.invariant
    (c.is_right_at.ensures.0 c.if-not-is_right_at.false)
