use Rattle.std.proofs.Common.{rules, ◌≡◌, ◌∙◌, length, vec_len}
use Rattle.list_cuts.specs.Cut.{list_count}
use Rattle.range_c.proofs.Rows.{taken, longer, fewer}
use Rattle.range_c.proofs.Places.{last_fits}
use Rattle.range_c.proofs.opening.put_spare.Goals as goal

-- the last of the seats that are left fits each place
pub put-requires : goal.put-requires
put-requires c =
    let table = c.args.lock.now.table in
    let count : vec_len c.pop.new.self ≡ length c.pop.new.self.items = search rules in
    record {
      fits = last_fits (list_count table.cut) table.seats c.args.number c.args.seat.now c.in-Some.seat c.pop.new.self.items c.args.lock.now.shelf.places.items
          c.requires.table c.in-Some.ensures.items c.spare.invariant.0 c.spare.invariant.1 c.requires.count.1 (c.len-number.ensures ∙ count) c.requires.places;
    }

-- the others are new ones of the table still
pub spare-preserved : goal.spare-preserved
spare-preserved c =
    let table = c.args.lock.now.table in
    let one = longer c.pop.new.self.items c.in-Some.seat c.in-Some.ensures.items in (
      (taken (list_count table.cut) table.table c.args.seat.now.pass.opened c.pop.new.self.items c.in-Some.seat c.in-Some.ensures.items c.spare.invariant.0).1,
      fewer one c.spare.invariant.1,
    )
