use Rattle.std.proofs.Common.{sym, ◌∙◌}
use Rattle.area_guard.specs.Reads.{everything}
use Rattle.space_c.proofs.Making.{plain_made}
use Rattle.space_c.proofs.rounds.make_call.Goals as goal

-- the arguments decide the call
pub returns-in-Some-clause-made : goal.returns-in-Some-clause-made
returns-in-Some-clause-made c = plain_made c.args.caller.now c.call_plain.new.caller c.call_plain.result everything c.args.call c.args.keep
    (sym c.plain.ensures ∙ c.in-Some.is) c.requires.free c.call_plain.ensures.called c.call_plain.ensures.asked
