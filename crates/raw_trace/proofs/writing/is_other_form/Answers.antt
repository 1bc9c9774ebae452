use Rattle.std.proofs.Common.{subst}
use Rattle.strace_reader.specs.Grammar.{Spells}
use Rattle.raw_trace.proofs.TakenTexts.{other_changes, call_doubles}
use Rattle.raw_trace.proofs.writing.is_other_form.Goals as goal

-- a line that is passed over
pub returns-in-Ok-Other : goal.returns-in-Ok-Other
returns-in-Ok-Other c = other_changes c.changes.result c.args.line.now
    (subst (Spells c.args.line.now) c.in-Ok-Other.field-0-is c.in-Ok-Other.ensures.found) c.changes.ensures

-- a call
pub returns-in-Ok-Played : goal.returns-in-Ok-Played
returns-in-Ok-Played c = call_doubles c.doubles.result c.args.line.now _ _ _
    (subst (Spells c.args.line.now) c.in-Ok-Played.field-0-is c.in-Ok-Played.ensures.found) c.doubles.ensures
