use Rattle.std.proofs.Common.{rules, arith, ◌≡◌, ◌≤◌, ◌<◌, sym, ap, ◌∙◌, subst, length, vec_len}
use Rattle.std.specs.Arc.{arc_value}
use Rattle.list_cuts.specs.Cut.{list_count}
use Rattle.range_c.specs.Behind.{RecordingSeat}
use Rattle.range_c.proofs.Rows.{Row, taken, longer, fewer, put_back, shares}
use Rattle.range_c.proofs.Places.{IsOver, over_popped, new_free}
use Rattle.range_c.proofs.state.State.share_spare.Goals as goal

-- the seats that are left to share are new ones of the table still
pub invariant_of-self : goal.invariant_of-self
invariant_of-self c = over_popped (arc_value c.self.inside.lock) c.self.inside.seat c.self.inside.number c.self.inside.words c.pop.new.self.items
    c.in-Some.seat c.in-Some.ensures.items c.self.invariant

-- the seat that was taken out is free, and its number is how many are left
pub beside-requires : goal.beside-requires
beside-requires c =
    let table = (arc_value c.self.inside.lock).table in
    let all = taken (list_count table.cut) table.table c.self.inside.seat.pass.opened c.pop.new.self.items c.in-Some.seat c.in-Some.ensures.items
    c.self.invariant.1 in let one = longer c.pop.new.self.items c.in-Some.seat c.in-Some.ensures.items in
    let least : length c.pop.new.self.items ≤ c.self.inside.number = fewer one c.self.invariant.4 in
    let top : c.self.inside.number < table.seats = c.self.invariant.5 in
    let below : length c.pop.new.self.items < table.seats = omega arith in
    let count : vec_len c.pop.new.self ≡ length c.pop.new.self.items = search rules in
    record {
      seat = (
        new_free (list_count table.cut) (length c.pop.new.self.items) c.self.inside.seat c.self.invariant.0 below all.0,
        ap (λ (s : RecordingSeat). s.number) all.0 ∙ sym (c.len-number.ensures ∙ count),
      );
    }

-- so are they where the seat went behind a handle
pub invariant_of-self-in-Ok : goal.invariant_of-self-in-Ok
invariant_of-self-in-Ok c = over_popped (arc_value c.self.inside.lock) c.self.inside.seat c.self.inside.number c.self.inside.words c.pop.new.self.items
    c.in-Some.seat c.in-Some.ensures.items c.self.invariant

-- where there was no memory, the seat is put back and all are left to share as before
pub invariant_of-self-in-Err : goal.invariant_of-self-in-Err
invariant_of-self-in-Err c = subst (λ (l : Row). IsOver (arc_value c.self.inside.lock) c.self.inside.seat c.self.inside.number c.self.inside.words l)
    (sym (put_back c.pop.new.self.items c.in-Some.ensures.items c.in-Err.ensures.back.0 c.push_reserved.ensures.items)) c.self.invariant

-- what is in the new box got the last of the seats that were left to share
pub returns-in-Ok-clause-shared : goal.returns-in-Ok-clause-shared
returns-in-Ok-clause-shared c =
    let table = (arc_value c.self.inside.lock).table in
    shares c.pop.new.self.items c.self.inside.seat c.in-Some.seat c.self.inside.words table.seats table.cut c.self.view_is c.self.invariant.0
    c.in-Some.ensures.items c.self.invariant.1 c.in-Ok.ensures.made
