use Rattle.std.proofs.Common.{subst, List}
use Rattle.trace_threads.specs.declared.worker.Line.{Line as Turn}
use Rattle.trace_threads.specs.Collected.{IsPlayed as WerePlayed}
use Rattle.trace_driver.proofs.PlayLemmas.{played}
use Rattle.trace_driver.proofs.play.play_lists.Goals as goal

-- what the workers of the dealt lines have played is what is said of the lines
pub returns-in-Ok : goal.returns-in-Ok
returns-in-Ok g c = λ lines is. played c.args.threads _ lines _ _
    (subst (λ (l : List (List Turn)). WerePlayed c.args.opening.now l c.in-Ok.closed.entries c.in-Ok.closed.areas) is c.in-Ok.ensures.played)
