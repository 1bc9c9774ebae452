use Rattle.std.proofs.Common.{◌∷◌, length, sym, ap, ◌∙◌, arith}
use Rattle.raw_logs.specs.Buffer.{kept_in, rest_in}
use Rattle.raw_logs.proofs.SieveFacts.{left_line, together}
use Rattle.raw_logs.proofs.lines.Lines.without_first.Goals as goal

-- the next text moves from those that are left to those that were kept
pub texts-preserved : goal.texts-preserved
texts-preserved c =
    let x = left_line (rest_in c.texts.sieve) (c.has_next.ensures.left c.texts-test.true) in (
      c.keep.ensures.is,
      together (kept_in c.texts.sieve) (rest_in c.texts.sieve) (kept_in c.keep.new.self) (rest_in c.keep.new.self) x.0
          (x.2 ∙ ap (λ more. x.0 ∷ more) (sym (c.keep.ensures.rest x.0 x.1 x.2))) (c.keep.ensures.kept x.0 x.1 x.2)
          ∙ c.texts.invariant.1,
    )

-- so one less is left
pub texts-smaller : goal.texts-smaller
texts-smaller c =
    let x = left_line (rest_in c.texts.sieve) (c.has_next.ensures.left c.texts-test.true) in
    let was = ap length x.2 in
    let is = ap length (c.keep.ensures.rest x.0 x.1 x.2) in
    omega arith
