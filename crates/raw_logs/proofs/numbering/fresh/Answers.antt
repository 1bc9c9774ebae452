use Rattle.std.proofs.Common.{sym, ◌∙◌}
use Rattle.raw_logs.specs.Numbering.{IsLater}
use Rattle.raw_logs.proofs.FirstThreads.{each_none, each_one}
use Rattle.raw_logs.proofs.numbering.fresh.Goals as goal

-- there is no number
pub returns-in_default : goal.returns-in_default
returns-in_default c = λ log all known. each_none (IsLater log all) c.args.text.now c.in_default.ensures

-- the number came later
pub returns-then-contains : goal.returns-then-contains
returns-then-contains c = λ log all known.
    each_one (IsLater log all) c.args.text.now _ c.in-Some.ensures.0 c.in-Some.ensures.1 ((known c.in-Some.pid).0 (sym c.contains.ensures ∙ c.if-contains.true))
