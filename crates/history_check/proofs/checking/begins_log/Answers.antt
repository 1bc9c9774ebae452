use Rattle.std.proofs.Common.{sym, ap, ◌∙◌}
use Rattle.line_parts.specs.Parts.{starts}
use Rattle.line_parts.specs.Leaves.{is}
use Rattle.history_check.proofs.Beginnings.{ends_log, log_ends, no_rest, same_rest}
use Rattle.history_check.proofs.checking.begins_log.Goals as goal

-- the digits end at this byte
pub returns-in-Ok : goal.returns-in-Ok
returns-in-Ok c = (
  λ yes. ends_log _ c.args.line.now c.in-Ok.rest.now c.in-Ok.ensures (sym c.begins.ensures ∙ yes),
  λ begins. let ends = log_ends _ c.args.line.now begins in c.begins.ensures ∙ ap (starts (is 32)) (same_rest _ _ _ c.in-Ok.ensures ends.1),
)

-- there is no digit at the front
pub returns-in-Err : goal.returns-in-Err
returns-in-Err c = (λ never. absurd cc, λ begins. let ends = log_ends _ c.args.line.now begins in absurd (no_rest _ _ _ c.in-Err.ensures ends.1))
