use Rattle.std.proofs.Common.{sym, ◌∙◌}
use Rattle.trace_driver.proofs.CheckLemmas.{begins_behind, begins_not}
use Rattle.trace_driver.proofs.checking.begins_log.Goals as goal

-- the digits end at this byte
pub returns-in-Ok : goal.returns-in-Ok
returns-in-Ok c =
    let tells = begins_behind _ c.args.text.now c.in-Ok.rest.now c.in-Ok.ensures in (
      (λ yes. tells.0 (sym c.begins.ensures ∙ yes)),
      (λ begins. c.begins.ensures ∙ tells.1 begins),
    )

-- there is no digit at the front
pub returns-in-Err : goal.returns-in-Err
returns-in-Err c = begins_not _ c.args.text.now _ c.in-Err.ensures
