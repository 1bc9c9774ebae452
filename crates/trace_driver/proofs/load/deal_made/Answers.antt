use Rattle.trace_driver.proofs.LoadLemmas.{next_made}
use Rattle.trace_driver.proofs.load.deal_made.Goals as goal

-- one made line more is dealt out
pub made-preserved : goal.made-preserved
made-preserved c =
    let i = c.made.invariant in
    let d = c.in_ok-deal_line.ensures in (
      next_made c.args.threads c.made.line-index c.args.made.now _ c.line_of.result _ c.made-test.true c.line_of.ensures.is (d.dealt _ i.0),
      d.count,
      d.few _ i.2,
      d.named i.3,
    )
