use Rattle.std.proofs.Common.{◌==◌, ◌∙◌, ap}
use Rattle.std.proofs.lemmas.Result.{on_ok_weaker}
use Rattle.raw_trace.specs.Order.{Entry, pick, put}
use Rattle.raw_trace.specs.Waiting.{entry}
use Rattle.raw_trace.proofs.OwnCalls.{none_picked}
use Rattle.raw_trace.proofs.Waits.{others_apart}
use Rattle.raw_trace.proofs.waiting.Waiting.insert.Goals as goal

-- none of the process waits any more
pub add-requires : goal.add-requires
add-requires c =
    let test = λ (other : Entry). other.process == c.args.piece.process in
    ap (pick test) c.take_of.ensures.others ∙ none_picked test _ (others_apart c.args.piece.process c.args.self.now)

-- the call is in its place
pub returns : goal.returns
returns c = on_ok_weaker c.add.result (λ e. e ∙ ap (put (entry c.args.piece)) c.take_of.ensures.others) c.add.ensures
