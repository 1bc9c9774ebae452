use Rattle.std.proofs.Common.{◌++◌}
use Rattle.std.proofs.KnownBytes.{Appends-trans}
use Rattle.std.proofs.lemmas.Result.{on_err_weaker, on_ok_weaker}
use Rattle.byte_ports.proofs.Pieces.{AppendsPrefix-more, AppendsPrefix-after, on_err}
use Rattle.strace_lines.specs.Texts.{calls_text, counts_text, cut_text, named_counts}
use Rattle.strace_lines.proofs.said.write_done.Goals as goal

-- a first part of the first text is a first part of the whole
pub returns-in_err-write_calls-clause-failed_prefix : goal.returns-in_err-write_calls-clause-failed_prefix
returns-in_err-write_calls-clause-failed_prefix g c = on_err c.from_residual.result (AppendsPrefix-more _ c.in_err-write_calls.ensures.failed_prefix)

-- so is what goes before and a first part of the counts
pub returns-in_err-write_counts-clause-failed_prefix : goal.returns-in_err-write_counts-clause-failed_prefix
returns-in_err-write_counts-clause-failed_prefix g c =
    let same = c.named_counts.ensures in
    on_err c.from_residual-in_err-write_counts.result
    (AppendsPrefix-after _ _ c.in_ok-write_calls.ensures.all (AppendsPrefix-more _ (rw same at c.in_err-write_counts.ensures.failed_prefix)))

-- and all with a first part of the last
pub returns-clause-failed_prefix : goal.returns-clause-failed_prefix
returns-clause-failed_prefix g c =
    let same = c.named_counts.ensures in
    let counts = rw same at c.in_ok-write_counts.ensures.all in
    on_err_weaker _ (λ last. AppendsPrefix-after _ _ c.in_ok-write_calls.ensures.all (AppendsPrefix-after _ _ counts last))
    c.write_cut.ensures.failed_prefix

-- all parts are the text
pub returns-clause-all : goal.returns-clause-all
returns-clause-all g c =
    let same = c.named_counts.ensures in
    let counts = rw same at c.in_ok-write_counts.ensures.all in
    on_ok_weaker _
    (λ last.
    Appends-trans (g.K.Sink.contents c.args.err.now) (g.K.Sink.contents c.write_calls.new.err) (g.K.Sink.contents c.write_cut.new.err)
    (calls_text c.args.calls.calls) (counts_text (named_counts c.args.calls c.args.counts.now) ++ cut_text c.args.ends_cut)
    c.in_ok-write_calls.ensures.all
    (Appends-trans (g.K.Sink.contents c.write_calls.new.err) (g.K.Sink.contents c.write_counts.new.err) (g.K.Sink.contents c.write_cut.new.err)
    (counts_text (named_counts c.args.calls c.args.counts.now)) (cut_text c.args.ends_cut) counts last))
    c.write_cut.ensures.all
