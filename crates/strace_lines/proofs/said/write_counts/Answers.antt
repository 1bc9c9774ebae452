use Rattle.std.proofs.Common.{ℕ, List, [], ◌+◌, arith, sym, subst}
use Rattle.std.specs.Borrow.{Bor}
use Rattle.std.specs.Io.KnownBytes.{Appends}
use Rattle.std.proofs.KnownBytes.{Appends-trans}
use Rattle.byte_ports.specs.Bytes.{AppendsPrefix}
use Rattle.byte_ports.proofs.Pieces.{AppendsPrefix-after, on_err}
use Rattle.strace_lines.specs.Texts.{named_count}
use Rattle.strace_lines.proofs.CountLemmas.{counts_next, counts_stop}
use Rattle.strace_lines.proofs.said.write_counts.Goals as goal

-- with one count more its line was written too
pub loop-text-preserved : goal.loop-text-preserved
loop-text-preserved g c =
    let nothing : Bor (List ℕ) = record { ref_ptr = (0, 0); now = [] } in (
      subst (Appends (g.K.Sink.contents c.args.err.now) (g.K.Sink.contents c.write_count.new.err))
          (sym (counts_next named_count c.args.counts.now c.loop-text.text-index (nothing, 0) c.loop-text-test.true))
          (Appends-trans _ _ _ _ _ c.loop-text.invariant.0 c.in_ok-write_count.ensures.all),
      omega arith,
    )

-- where the line isn't written whole, a first part of all lines was
pub returns-in_err-write_count-clause-failed_prefix : goal.returns-in_err-write_count-clause-failed_prefix
returns-in_err-write_count-clause-failed_prefix g c =
    let nothing : Bor (List ℕ) = record { ref_ptr = (0, 0); now = [] } in
    on_err c.from_residual.result
    (counts_stop named_count c.args.counts.now (c.loop-text.text-index + 1)
    (subst (AppendsPrefix (g.K.Sink.contents c.args.err.now) (g.K.Sink.contents c.write_count.new.err))
    (sym (counts_next named_count c.args.counts.now c.loop-text.text-index (nothing, 0) c.loop-text-test.true))
    (AppendsPrefix-after _ _ c.loop-text.invariant.0 c.in_err-write_count.ensures.failed_prefix)))
