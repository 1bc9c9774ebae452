use Rattle.std.proofs.Common.{subst, List, arith}
use Rattle.trace_threads.specs.declared.worker.Line.{Line as Turn}
use Rattle.trace_threads.specs.Collected.{IsPlayed as WerePlayed}
use Rattle.trace_driver.proofs.PlayLemmas.{played, dealt_total}
use Rattle.trace_driver.proofs.TouchedPages.{counts}
use Rattle.trace_driver.proofs.play.play_touched.Goals as goal

-- the lists have as many lines as were dealt out
pub play_touched_trace-requires-clause-total : goal.play_touched_trace-requires-clause-total
play_touched_trace-requires-clause-total g c =
    omega (arith, dealt_total c.args.threads c.args.lines.now c.in_ok-lists.lists.items c.requires.some c.in_ok-lists.ensures.dealt, c.requires.few)

-- what the workers of the dealt lines have played is what is said of the lines
pub returns-in-Ok-clause-played : goal.returns-in-Ok-clause-played
returns-in-Ok-clause-played g c = played c.args.threads _ c.args.lines.now _ _
    (subst (λ (l : List (List Turn)). WerePlayed c.args.opening.now l c.in-Ok.closed.entries c.in-Ok.closed.areas) c.in_ok-lists.ensures.dealt
    c.in-Ok.ensures.played)

-- the pages that were touched are those of granted faults
pub returns-in-Ok-clause-touched : goal.returns-in-Ok-clause-touched
returns-in-Ok-clause-touched g c = counts _ _ _ c.in-Ok.ensures.touched (omega (arith, c.len.ensures, c.in-Ok.pages.ok.0))
    (omega (arith, c.len.ensures, c.in-Ok.pages.ok.0, c.in-Ok.ensures.few))
