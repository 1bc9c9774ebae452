use Rattle.std.proofs.Common.{◌++◌, ap, ◌∙◌, append_assoc}
use Rattle.maps_printer.specs.Words.{log_kind}
use Rattle.maps_printer.proofs.log.push_reply.Goals as goal

-- of a granted fault the word and the kind were added, which is its text
pub returns-in-Granted-clause-text : goal.returns-in-Granted-clause-text
returns-in-Granted-clause-text c = rw c.in-Granted.is
    (c.push_log_kind.ensures.text ∙ ap (λ l. l ++ log_kind c.in-Granted.kind) c.push-in-Granted.ensures ∙ append_assoc c.args.buffer.now _ _)
