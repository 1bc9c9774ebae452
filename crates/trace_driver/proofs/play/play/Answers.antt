use Rattle.std.proofs.lemmas.Result.{IfOk-weaker}
use Rattle.std.specs.Prelude.{List, map, vec_items, ◌≡◌}
use Rattle.trace_driver.specs.declared.trace.Line.{Line}
use Rattle.trace_driver.specs.Dealt.{dealt}
use Rattle.trace_driver.specs.Play.{IsHistoryOf}
use Rattle.trace_driver.proofs.play.play.Goals as goal

-- what is played of the dealt lines is played of the lines
pub returns : goal.returns
returns g c = IfOk-weaker c.play_lists.result (λ closed. (lines : List Line) → map vec_items c.in_ok-lists.lists.items ≡ dealt c.args.threads lines
    → IsHistoryOf c.args.threads c.args.opening.now lines closed.entries closed.areas)
    (λ closed. IsHistoryOf c.args.threads c.args.opening.now c.args.lines.now closed.entries closed.areas)
    (λ closed h. h c.args.lines.now c.in_ok-lists.ensures.dealt) c.play_lists.ensures
