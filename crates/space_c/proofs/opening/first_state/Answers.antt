use Rattle.std.proofs.Common.{rules, ◌≡◌, ◌+◌, ◌∙◌, sym, ap, subst, length}
use Rattle.std.specs.Arc.{arc_value}
use Rattle.atomic_table.specs.Seated.{TableId}
use Rattle.list_cuts.specs.Cut.{Regions, list_count}
use Rattle.range_rw.specs.Contract.{TableShape}
use Rattle.area_guard.specs.Rows.{keeps_by}
use Rattle.area_rows.specs.Callers.{CallerView}
use Rattle.space_c.specs.Behind.{AreNewCallers}
use Rattle.space_c.proofs.News.{new_callers, opens, taken}
use Rattle.space_c.proofs.opening.first_state.Goals as goal

-- the caller of the highest number and the others are new ones of the space
pub invariant_of-state : goal.invariant_of-state
invariant_of-state c =
    let r = c.requires in
    let old = new_callers (list_count c.args.space.cut) c.args.callers c.args.spare.items r.shape.1 r.unkept r.new in
    let all = taken (list_count c.args.space.cut) c.args.space.table c.pop.new.self.items c.in-Some.caller c.in-Some.ensures.items old in
    let is = c.in-Ok.ensures.ok in let table = sym (ap (λ (t : TableShape). t.table) is) in let cut = sym (ap (λ (t : TableShape). t.cut) is) in
    let own = ap (λ (v : CallerView). v.seat.table) all.0 in (
      own ∙ table,
      ap keeps_by own ∙ r.unkept,
      ap (λ (v : CallerView). v.seat.pass.pending) all.0,
      subst (λ (z : TableId × Regions). AreNewCallers (list_count z.1) z.0 c.pop.new.self.items) (λ i. (table i, cut i)) all.1,
    )

-- what is in the box is what is behind a new handle
pub returns-in-Ok-new-clause-opened : goal.returns-in-Ok-new-clause-opened
returns-in-Ok-new-clause-opened c =
    let r = c.requires in
    let old = new_callers (list_count c.args.space.cut) c.args.callers c.args.spare.items r.shape.1 r.unkept r.new in
    let is = c.in-Ok.ensures.ok in
    opens c.pop.new.self.items c.in-Some.caller r.counted r.shape.1 c.in-Some.ensures.items old
    (ap (λ (t : TableShape). t.seats) is ∙ r.shape.0) (ap (λ (t : TableShape). t.cut) is) c.in-Ok-new.ensures.ok
