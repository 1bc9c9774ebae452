use Rattle.range_c.proofs.Shows.{value_in, is_there}
use Rattle.range_c.proofs.showing.look.Goals as goal

-- the scan that was open is the one that the call went on with
pub returns-clause-look : goal.returns-clause-look
returns-clause-look c =
    let o = value_in c.args.seat.now.scan c.requires.inside in let e = c.scan_next.ensures in
    record { was = o.0; is = o.1; call = e.call; next = e.next o.0 o.1; bound = e.bound o.0 o.1 }

-- it is open still
pub returns-clause-inside : goal.returns-clause-inside
returns-clause-inside c =
    let o = value_in c.args.seat.now.scan c.requires.inside in is_there (c.scan_next.ensures.next o.0 o.1).is
