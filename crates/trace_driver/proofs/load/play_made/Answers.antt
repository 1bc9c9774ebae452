use Rattle.std.proofs.Common.{◌≡◌, ◌≤◌, List, length, map, arith}
use Rattle.std.specs.Prelude.{vec_items}
use Rattle.std.proofs.lemmas.Result.{IfOk-weaker}
use Rattle.trace_driver.specs.declared.trace.Line.{Line}
use Rattle.trace_driver.specs.declared.trace.TheConstants.{LINES_LIMIT}
use Rattle.trace_driver.specs.Dealt.{dealt}
use Rattle.load_lines.specs.Calls.{drawn_lines}
use Rattle.trace_driver.specs.Play.{line_of, IsHistoryOf}
use Rattle.trace_driver.proofs.LoadLemmas.{load_count}
use Rattle.trace_driver.proofs.PlayLemmas.{as_many}
use Rattle.trace_driver.proofs.load.play_made.Goals as goal

-- there are as many entries as calls, so no more than lines may be played
pub returns-clause-few : goal.returns-clause-few
returns-clause-few g c = IfOk-weaker c.play_lists-2.result (λ closed. (lines : List Line) → map vec_items c.in_ok-lists.lists.items ≡ dealt c.args.threads lines
    → IsHistoryOf c.args.threads c.new.result lines closed.entries closed.areas) (λ closed. length closed.entries ≤ LINES_LIMIT) (λ closed h.
    let played = h (map line_of (drawn_lines c.args.seed c.args.threads c.args.calls)) c.in_ok-lists.ensures.dealt in
    let many = as_many c.args.threads _ _ c.requires.some_threads played.own played.no_other in
    omega (arith, many, load_count c.args.seed c.args.threads c.args.calls, c.requires.calls)) c.play_lists-2.ensures
