use Rattle.std.proofs.Common.{[], codes}
use Rattle.std.proofs.KnownBytes.{Appends-trans}
use Rattle.std.proofs.lemmas.Result.{on_err_weaker, on_ok_weaker}
use Rattle.byte_ports.proofs.Pieces.{AppendsPrefix-more, AppendsPrefix-after, on_err}
use Rattle.byte_ports.specs.Bytes.{numbered}
use Rattle.strace_lines.specs.Texts.{cause_text}
use Rattle.strace_lines.proofs.said.write_unreadable.Goals as goal

-- a first part of the part with the line is a first part of the text
pub returns-in_err-write_numbered-clause-failed_prefix : goal.returns-in_err-write_numbered-clause-failed_prefix
returns-in_err-write_numbered-clause-failed_prefix g c =
    on_err c.from_residual.result (AppendsPrefix-more _ c.in_err-write_numbered.ensures.failed_prefix)

-- both parts are the text
pub returns-clause-all : goal.returns-clause-all
returns-clause-all g c =
    let same = c.why.ensures in
    on_ok_weaker _
    (λ last. Appends-trans (g.K.Sink.contents c.args.err.now) (g.K.Sink.contents c.write_numbered.new.out)
    (g.K.Sink.contents c.write_numbered-2.new.out) (numbered (codes "strace_lines: line ") c.args.line (codes " column "))
    (numbered [] c.args.column (cause_text c.args.cause)) c.in_ok-write_numbered.ensures.all last)
    (rw same at c.write_numbered-2.ensures.all)

-- so is the part with the line and a first part of the rest
pub returns-clause-failed_prefix : goal.returns-clause-failed_prefix
returns-clause-failed_prefix g c =
    let same = c.why.ensures in
    on_err_weaker _ (λ last. AppendsPrefix-after _ _ c.in_ok-write_numbered.ensures.all last)
    (rw same at c.write_numbered-2.ensures.failed_prefix)
