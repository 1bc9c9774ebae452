use Rattle.std.proofs.Common.{◌++◌, None, refl, sym, subst}
use Rattle.raw_logs.specs.declared.counts.Sort.TheVariants.{Numbered as OfNumbered}
use Rattle.raw_logs.specs.Log.{line_of}
use Rattle.raw_logs.specs.Numbering.{IsRenumbered}
use Rattle.raw_logs.proofs.MadeLines.{made_more}
use Rattle.raw_logs.proofs.healing.Changed.add_plain.Goals as goal

-- no number changes
pub returns-in_ok-push-in-AsPrinted-clause-made : goal.returns-in_ok-push-in-AsPrinted-clause-made
returns-in_ok-push-in-AsPrinted-clause-made c = λ texts h.
    let line = line_of c.args.number (c.args.front.now ++ c.args.end.now) in
    made_more (IsRenumbered c.args.self.now.numbering) OfNumbered texts _ _ _ _ line None h
    (subst (λ n. IsRenumbered n line None) (sym c.in-AsPrinted.is) (λ other never. never)) c.in_ok-push-in-AsPrinted.ensures refl
