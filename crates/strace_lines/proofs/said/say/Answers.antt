use Rattle.std.proofs.Common.{sym, subst}
use Rattle.std.specs.Prelude.{OnOk, OnErr}
use Rattle.std.specs.Io.KnownBytes.{Appends}
use Rattle.byte_ports.specs.Bytes.{AppendsPrefix}
use Rattle.strace_lines.specs.Texts.{said}
use Rattle.strace_lines.proofs.said.say.Goals as goal

-- the counts
pub returns-in-Done-clause-all : goal.returns-in-Done-clause-all
unfolding said
returns-in-Done-clause-all g c =
    subst (λ s. OnOk c.write_done.result (Appends (g.K.Sink.contents c.args.err.now) (g.K.Sink.contents c.write_done.new.err) (said s)))
    (sym c.in-Done.is) c.write_done.ensures.all

-- a first part of them
pub returns-in-Done-clause-failed_prefix : goal.returns-in-Done-clause-failed_prefix
unfolding said
returns-in-Done-clause-failed_prefix g c =
    subst (λ s. OnErr c.write_done.result (AppendsPrefix (g.K.Sink.contents c.args.err.now) (g.K.Sink.contents c.write_done.new.err) (said s)))
    (sym c.in-Done.is) c.write_done.ensures.failed_prefix

-- the usage line
pub returns-in-Usage-clause-all : goal.returns-in-Usage-clause-all
unfolding said
returns-in-Usage-clause-all g c =
    subst (λ s. OnOk c.write_all.result (Appends (g.K.Sink.contents c.args.err.now) (g.K.Sink.contents c.write_all.new.out) (said s)))
    (sym c.in-Usage.is) c.write_all.ensures.all

-- that the input failed
pub returns-in-ReadFault-clause-all : goal.returns-in-ReadFault-clause-all
unfolding said
returns-in-ReadFault-clause-all g c =
    subst (λ s. OnOk c.write_all-in-ReadFault.result (Appends (g.K.Sink.contents c.args.err.now) (g.K.Sink.contents c.write_all-in-ReadFault.new.out) (said s)))
    (sym c.in-ReadFault.is) c.write_all-in-ReadFault.ensures.all

-- that there was no memory
pub returns-in-Memory-clause-all : goal.returns-in-Memory-clause-all
unfolding said
returns-in-Memory-clause-all g c =
    subst (λ s. OnOk c.write_all-in-Memory.result (Appends (g.K.Sink.contents c.args.err.now) (g.K.Sink.contents c.write_all-in-Memory.new.out) (said s)))
    (sym c.in-Memory.is) c.write_all-in-Memory.ensures.all
