use Rattle.std.proofs.Common.{rules, arith, ◌≡◌, ◌≤◌, ◌<◌, ◌+◌, ◌-◌, ◌^◌, ℕ, List, refl, sym, ap, ◌∙◌, subst, length}
use Rattle.std.specs.Arc.{arc_value}
use Rattle.std.specs.List.{All}
use Rattle.atomic_table.specs.Seated.{TableId}
use Rattle.list_cuts.specs.Cut.{Regions, list_count}
use Rattle.range_rw.specs.Contract.{AreNewSeatsIn}
use Rattle.range_c.specs.declared.shelf.Shelf.{Shelf}
use Rattle.range_c.specs.declared.state.Lock.{Lock}
use Rattle.range_c.specs.Behind.{RecordingSeat, IsPlaceOf}
use Rattle.range_c.specs.Recording.{begun}
use Rattle.range_c.proofs.Places.{places_of}
use Rattle.range_c.proofs.Rows.{taken, longer, opens}
use Rattle.range_c.proofs.Steps.{begins}
use Rattle.range_c.proofs.opening.open_lists.Goals as goal

-- before the first step the words are those of the opening
pub open_cut-requires-clause-rule : goal.open_cut-requires-clause-rule
open_cut-requires-clause-rule c = λ counted. begins c.args.client.now c.args.seats

-- the seat of the highest number and the others are of the new table, which has these words
pub invariant_of-state : goal.invariant_of-state
invariant_of-state c =
    let all = taken (list_count c.args.cut) c.in-Ok.opened.0.table c.args.client.now c.pop.new.self.items c.in-Some.seat c.in-Some.ensures.items
    c.in-Ok.ensures.seats.1 in let table = sym (ap (λ (l : Lock). l.table.table) c.in-Ok-new.ensures.ok) in
    let cuts = ap (λ (l : Lock). l.table.cut) c.in-Ok-new.ensures.ok ∙ c.in-Ok.ensures.shape.2 in
    let opened = sym (ap (λ (s : RecordingSeat). s.pass.opened) all.0) in
    let one : length c.pop.new.self.items + 1 ≡ c.args.seats = longer c.pop.new.self.items c.in-Some.seat c.in-Some.ensures.items ∙ c.in-Ok.ensures.seats.0 in
    let own : c.in-Some.seat.number ≡ length c.pop.new.self.items = ap (λ (s : RecordingSeat). s.number) all.0 in
    let number : c.in-Some.seat.number ≡ c.args.seats - 1 = omega arith in
    let least : length c.pop.new.self.items ≤ c.args.seats - 1 = omega arith in
    let all_seats = ap (λ (l : Lock). l.table.seats) c.in-Ok-new.ensures.ok ∙ c.in-Ok.ensures.shape.0 in
    let below : c.args.seats - 1 < (arc_value c.in-Ok-new.lock).table.seats = omega arith in
    let last : c.in-Some.seat.number + 1 ≡ (arc_value c.in-Ok-new.lock).table.seats = omega arith in
    let shelf = ap (λ (l : Lock). l.shelf) c.in-Ok-new.ensures.ok in
    let made = places_of c.in-Some.seat c.in-Ok-of.shelf.places.items (ap (λ (s : RecordingSeat). s.table) all.0 ∙ table) last refl c.in-Ok-of.ensures in
    let places = subst (λ (s : Shelf). All (IsPlaceOf (arc_value c.in-Ok-new.lock).table.table (arc_value c.in-Ok-new.lock).table.seats
    c.in-Some.seat.pass.opened) s.places.items) (sym shelf) made in (
      ap (λ (s : RecordingSeat). s.table) all.0 ∙ table,
      subst (λ (z : TableId × Regions × List ℕ). AreNewSeatsIn (list_count z.1) z.0 (begun z.2) c.pop.new.self.items)
          (λ i. (table i, sym cuts i, opened i)) all.1,
      ap (λ (l : Lock). l.table.client) c.in-Ok-new.ensures.ok ∙ c.in-Ok.ensures.shape.1,
      number,
      least,
      below,
      places,
      ap (λ (s : RecordingSeat). s.scan) all.0,
    )

-- what is in the box is what is behind a new handle of a new table
pub returns-in-Ok-new-2-clause-opened : goal.returns-in-Ok-new-2-clause-opened
returns-in-Ok-new-2-clause-opened c =
    let most : length c.args.client.now ≤ 2 ^ 20 = search rules in
    let seats = ap (λ (l : Lock). l.table.seats) c.in-Ok-new.ensures.ok ∙ c.in-Ok.ensures.shape.0 in
    let cuts = ap (λ (l : Lock). l.table.cut) c.in-Ok-new.ensures.ok ∙ c.in-Ok.ensures.shape.2 in
    opens c.in-Ok.opened.0.table c.pop.new.self.items c.in-Some.seat c.in-Ok.ensures.count most c.in-Ok.ensures.seats.0 c.in-Some.ensures.items
    c.in-Ok.ensures.seats.1 seats cuts c.in-Ok-new-2.ensures.ok
