use Rattle.std.proofs.Common.{sym, ap, ◌∙◌, arith}
use Rattle.raw_logs.specs.Buffer.{start_at}
use Rattle.raw_logs.proofs.BufferFacts.{start_first, start_behind}
use Rattle.raw_logs.proofs.lines.start_of.Goals as goal

-- the first text begins where the buffer does
pub returns-then-place-eq0 : goal.returns-then-place-eq0
returns-then-place-eq0 c = sym (ap (start_at 0 c.args.ends.now) c.if-place-eq0.true ∙ start_first 0 c.args.ends.now)

-- every other where the one before it ends
pub returns : goal.returns
returns c = let never = c.if-place-eq0.false in sym (start_behind 0 c.args.ends.now c.args.place _ (omega arith) c.requires)
