use Rattle.area_guard.specs.Reads.{everything}
use Rattle.space_c.proofs.Making.{round_made, round_refused}
use Rattle.space_c.proofs.rounds.call_under.Goals as goal

-- all pages were got, and the call was made under them
pub returns-in-Ok-clause-made : goal.returns-in-Ok-clause-made
returns-in-Ok-clause-made c =
    let a = c.acquire_round.ensures in let r = c.requires in
    round_made c.args.caller.now c.acquire_round.new.caller c.call_holding.new.caller c.call_holding.result everything c.args.call c.args.keep r.undecided
    r.free a.call a.left a.asks c.call_holding.ensures

-- they weren't got
pub returns-in-Err-clause-refused : goal.returns-in-Err-clause-refused
returns-in-Err-clause-refused c =
    let a = c.acquire_round.ensures in let r = c.requires in
    round_refused c.args.space.now.cut c.args.caller.now c.acquire_round.new.caller everything c.args.call c.args.refused r.undecided a.call
    c.in-Err.ensures.free a.left a.asks c.in-Err.ensures.kept
