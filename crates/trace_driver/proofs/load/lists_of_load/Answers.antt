use Rattle.std.proofs.Common.{length, ap, ◌∙◌, arith}
use Rattle.trace_driver.proofs.LoadLemmas.{made_count}
use Rattle.trace_driver.proofs.load.lists_of_load.Goals as goal

-- there are as many made lines as calls, so no more than may be played
pub deal_made-requires-clause-few : goal.deal_made-requires-clause-few
deal_made-requires-clause-few c =
    let made = c.deref.ensures.value ∙ c.in_ok-made.ensures.lines in
    omega (arith, ap length made, made_count c.args.seed c.args.threads c.args.calls, c.requires.calls)
