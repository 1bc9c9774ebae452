use Rattle.std.proofs.lemmas.Result.{IfOk-weaker}
use Rattle.raw_logs.specs.Log.{line_of}
use Rattle.raw_trace.proofs.TextPlaces.{got_left}
use Rattle.raw_trace.proofs.writing.text_at.Goals as goal

-- the line there
pub returns : goal.returns
returns c =
    IfOk-weaker c.at.result _ _
    (λ found e lines is line got. got_left lines c.args.left.now c.args.gone c.args.place (line_of found.0 found.1.now) line c.requires.gone is e got)
    c.at.ensures
