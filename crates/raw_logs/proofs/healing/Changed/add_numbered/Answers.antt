use Rattle.raw_logs.specs.declared.counts.Sort.TheVariants.{Numbered as OfNumbered}
use Rattle.raw_logs.specs.declared.numbering.Numbering.TheVariants.{Plain}
use Rattle.raw_logs.specs.Log.{line_of}
use Rattle.raw_logs.specs.Numbering.{IsRenumbered}
use Rattle.raw_logs.proofs.MadeLines.{made_more}
use Rattle.std.proofs.Common.{Some, None, refl}
use Rattle.raw_logs.proofs.healing.Changed.add_numbered.Goals as goal

-- the number stays
pub returns-in_default-clause-made : goal.returns-in_default-clause-made
returns-in_default-clause-made c = λ texts h.
    made_more (IsRenumbered (Plain c.args.first)) OfNumbered texts _ _ _ _ (line_of c.args.number c.args.text.now) None h c.in_default.ensures
    c.in_ok-push.ensures refl

-- it is counted
pub returns-clause-made : goal.returns-clause-made
returns-clause-made c = λ texts h.
    made_more (IsRenumbered (Plain c.args.first)) OfNumbered texts _ _ _ _ (line_of c.args.number c.args.text.now) (Some _) h c.in-Some.ensures
    c.in_ok-push_numbered.ensures c.add.ensures
