use Rattle.std.proofs.Common.{refl}
use Rattle.raw_lines.proofs.mends.mend_detached.Goals as goal

-- a line that doesn't end so isn't mended so
pub returns-in_err-front : goal.returns-in_err-front
returns-in_err-front c = rw c.from_residual.ensures (λ mended h. c.in_err-front.ensures h.0 h.1)

-- one that does is, with this behind what is left
pub returns : goal.returns
returns c = (c.in_ok-front.front.now, c.in_ok-front.ensures, refl)
