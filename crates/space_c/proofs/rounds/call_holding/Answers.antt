use Rattle.space_c.proofs.Making.{unless_kept}
use Rattle.area_guard.specs.Reads.{everything}
use Rattle.space_c.proofs.rounds.call_holding.Goals as goal

-- the call under all pages, and keeping them or giving them back
pub returns : goal.returns
returns c =
    let m = c.call_held-entry.ensures in
    unless_kept c.args.keep everything c.args.call c.args.caller.now c.call_held-entry.new.caller c.give_unless.new.caller c.call_held-entry.result
    c.give_unless.ensures m.held m.asked m.called
