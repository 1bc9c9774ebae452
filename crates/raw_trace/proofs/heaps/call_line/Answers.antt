use Rattle.std.proofs.Common.{take, ◌++◌, ap, ◌∙◌}
use Rattle.std.proofs.lemmas.Result.{IfOk-weaker}
use Rattle.raw_trace.specs.Heaps.{call_line}
use Rattle.raw_trace.proofs.heaps.call_line.Goals as goal

-- the sink held nothing before
pub returns-in-Ok : goal.returns-in-Ok
returns-in-Ok c =
    IfOk-weaker c.from_slice.result _ _
    (λ line e. e ∙ c.written.ensures ∙ c.in-Ok.ensures ∙ ap (λ n. take n c.new-sink.result.store.items ++ call_line c.args.read) c.new-sink.ensures.used)
    c.from_slice.ensures.items
