use Rattle.std.proofs.Common.{rules, sym, ap, ◌∙◌}
use Rattle.page_touch.specs.Touches.{seat_quota}
use Rattle.page_touch.proofs.Seats.{quotas_kept}
use Rattle.test_worker.proofs.touch_tests.touch_beside.Goals as goal

-- each seat comes back with its quota, so they are the same together
pub returns-clause-quotas : goal.returns-clause-quotas
returns-clause-quotas g c = quotas_kept c.args.seats.now c.for_each_mut.new.s (search rules) (λ k d lt. let r = c.for_each_mut.ensures k d lt in
    ap seat_quota (sym r.1.left) ∙ (r.1.call.1 ∙ ap seat_quota r.1.argument_is))
