use Rattle.std.proofs.Common.{refl, inl, inr}
use Rattle.strace_reader.proofs.JoinFacts.{counts}
use Rattle.strace_reader.proofs.joiner.Joiner.end.Goals as goal

-- where more halves are held than can be told, the greatest count stands for them
pub returns-then-count-gt-MOST : goal.returns-then-count-gt-MOST
returns-then-count-gt-MOST c = λ fed f. counts c.args.self fed 4294967295 c.len-count.result f c.len-count.ensures.ordered
    c.len-count.ensures.len (inr (refl, c.if-count-gt-MOST.true))

-- the count is that of the processes for which a half is kept
pub returns : goal.returns
returns c = λ fed f. counts c.args.self fed c.len-count.result c.len-count.result f c.len-count.ensures.ordered c.len-count.ensures.len (inl refl)
