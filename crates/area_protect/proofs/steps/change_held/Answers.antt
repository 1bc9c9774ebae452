use Rattle.std.proofs.Common.{◌∙◌, ap, refl}
use Rattle.area_rows.specs.History.{change_pending}
use Rattle.range_rw.specs.Contract.{Record}
use Rattle.area_protect.proofs.Stages.{changed_area, nothing_to_store, stored_one}
use Rattle.area_protect.proofs.steps.change_held.Goals as goal

-- a plan that changes no row says that the reply may be numbered
pub number-entry-requires-clause-right : goal.number-entry-requires-clause-right
number-entry-requires-clause-right g c = rw c.call-call.ensures c.in-Same.ensures.plan.1

-- a plan that sets a row's kind says that the reply may be numbered
pub number-entry-requires-in-SetKind-clause-right : goal.number-entry-requires-in-SetKind-clause-right
number-entry-requires-in-SetKind-clause-right g c = rw c.call-call.ensures c.in-SetKind.ensures.plan.number

-- the store that the plan asks for may be made behind the draw
pub set_kind-requires-clause-store : goal.set_kind-requires-clause-store
set_kind-requires-clause-store g c =
    let plan = c.in-SetKind.ensures.plan in
    (c.in-SetKind.change, c.number-entry-in-SetKind.ensures.store c.args.wide c.in-SetKind.change refl plan.chosen plan.round, refl, refl)

-- a plan that moves a row's start says that the reply may be numbered
pub number-entry-requires-in-MoveStart-clause-right : goal.number-entry-requires-in-MoveStart-clause-right
number-entry-requires-in-MoveStart-clause-right g c = rw c.call-call.ensures c.in-MoveStart.ensures.plan.number

-- the store of the start that the plan asks for may be made behind the draw
pub move_start-requires-clause-store : goal.move_start-requires-clause-store
move_start-requires-clause-store g c =
    let plan = c.in-MoveStart.ensures.plan in
    (c.in-MoveStart.change, c.number-entry-in-MoveStart.ensures.store c.args.wide c.in-MoveStart.change refl plan.chosen plan.round, refl, refl)

-- a plan in a sealed area says that the refusal may be numbered
pub number-entry-requires-in-Sealed-clause-right : goal.number-entry-requires-in-Sealed-clause-right
number-entry-requires-in-Sealed-clause-right g c = rw c.call-call.ensures c.in-Sealed.ensures.plan.1

-- a plan that isn't simple needs more rows, and the area is held still
pub returns-in-NotSimple : goal.returns-in-NotSimple
returns-in-NotSimple g c =
    let p = c.in-NotSimple.ensures in
    record {
      asked = p.reading.asked;
      changed = record { reading = p.reading; left = p.left; shows = p.plan };
    }

-- a change that leaves each row as it is got its entry, with nothing to store
pub returns-in-Same : goal.returns-in-Same
returns-in-Same g c =
    let r = c.plan_area-plan in let p = c.in-Same.ensures in let n = c.number-entry in let e = n.ensures in let d = c.release in
    record {
      asked = d.ensures.release.asked ∙ (ap (λ (t : Record). t.asked) e.drawn.trace ∙ p.reading.asked);
      changed = changed_area c.args.caller.now r.new.caller n.new.caller n.new.caller d.new.caller c.args.request c.args.wide p.reading p.left
          c.requires.rest e.line (e.call ∙ c.call-call.ensures) e.under e.named e.drawn e.left
          (nothing_to_store n.new.caller.seat (e.drawn.writes ∙ ap change_pending p.plan.0)) refl d.ensures.release d.ensures.left;
    }

-- a change of one row's kind got its entry, and the row is stored
pub returns-in-SetKind : goal.returns-in-SetKind
returns-in-SetKind g c =
    let r = c.plan_area-plan in let p = c.in-SetKind.ensures in let n = c.number-entry-in-SetKind in let e = n.ensures in
    let s = c.set_kind in let d = c.release-in-SetKind in
    record {
      asked = d.ensures.release.asked ∙ (ap (λ (t : Record). t.asked) s.ensures.stored.trace ∙ (ap (λ (t : Record). t.asked) e.drawn.trace ∙ p.reading.asked));
      changed = changed_area c.args.caller.now r.new.caller n.new.caller s.new.caller d.new.caller c.args.request c.args.wide p.reading p.left
          c.requires.rest e.line (e.call ∙ c.call-call.ensures) e.under e.named e.drawn e.left (stored_one s.ensures.stored) s.ensures.left
          d.ensures.release d.ensures.left;
    }

-- a change of one row's start got its entry, and the row is stored
pub returns-in-MoveStart : goal.returns-in-MoveStart
returns-in-MoveStart g c =
    let r = c.plan_area-plan in let p = c.in-MoveStart.ensures in let n = c.number-entry-in-MoveStart in let e = n.ensures in
    let s = c.move_start in let d = c.release-in-MoveStart in
    record {
      asked = d.ensures.release.asked ∙ (ap (λ (t : Record). t.asked) s.ensures.stored.trace ∙ (ap (λ (t : Record). t.asked) e.drawn.trace ∙ p.reading.asked));
      changed = changed_area c.args.caller.now r.new.caller n.new.caller s.new.caller d.new.caller c.args.request c.args.wide p.reading p.left
          c.requires.rest e.line (e.call ∙ c.call-call.ensures) e.under e.named e.drawn e.left (stored_one s.ensures.stored) s.ensures.left
          d.ensures.release d.ensures.left;
    }

-- a change that a sealed area refuses got its entry, with nothing to store
pub returns-in-Sealed : goal.returns-in-Sealed
returns-in-Sealed g c =
    let r = c.plan_area-plan in let p = c.in-Sealed.ensures in let n = c.number-entry-in-Sealed in let e = n.ensures in let d = c.release-in-Sealed in
    record {
      asked = d.ensures.release.asked ∙ (ap (λ (t : Record). t.asked) e.drawn.trace ∙ p.reading.asked);
      changed = changed_area c.args.caller.now r.new.caller n.new.caller n.new.caller d.new.caller c.args.request c.args.wide p.reading p.left
          c.requires.rest e.line (e.call ∙ c.call-call.ensures) e.under e.named e.drawn e.left
          (nothing_to_store n.new.caller.seat (e.drawn.writes ∙ ap change_pending p.plan.0)) refl d.ensures.release d.ensures.left;
    }
