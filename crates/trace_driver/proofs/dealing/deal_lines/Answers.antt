use Rattle.trace_driver.proofs.DealtLemmas.{next_dealt}
use Rattle.trace_driver.proofs.dealing.deal_lines.Goals as goal

-- one line more is dealt out
pub lines-preserved : goal.lines-preserved
lines-preserved c =
    let i = c.lines.invariant in let d = c.in_ok-deal_line.ensures in
    (next_dealt c.args.threads c.lines.line-index c.args.lines.now _ _ c.lines-test.true (d.dealt _ i.0), d.count, d.few _ i.2, d.named i.3)
