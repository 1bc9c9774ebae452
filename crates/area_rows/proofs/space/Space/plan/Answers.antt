use Rattle.std.proofs.Common.{ℕ, ◌∙◌, length, ap, sym, subst, arith}
use Rattle.area_guard.specs.Rows.{blocks_by, room_of}
use Rattle.area_guard.specs.declared.guard.Pass.{Pass}
use Rattle.area_guard.specs.Reads.{known_rows, known_words}
use Rattle.row_plans.specs.Plans.{IsRowList}
use Rattle.row_plans.specs.Loads.{TakesLoads}
use Rattle.plan_words.specs.Reading.{reading_on}
use Rattle.area_rows.specs.Callers.{place_loads}
use Rattle.area_rows.proofs.LayoutLoads.{seen_reads}
use Rattle.area_rows.proofs.Reading.{step_taken}
use Rattle.area_rows.proofs.Wholes.{plan_shows, rows_left}
use Rattle.area_rows.proofs.space.Space.plan.Goals as goal

-- with the row count the caller knows all rows
pub plan_call-requires-clause-may : goal.plan_call-requires-clause-may
plan_call-requires-clause-may c =
    let n = c.load_count-count.ensures.seen in let all = n.all c.requires.held in let fits = all.3 in let rows = ap length all.1 in let many = n.rows in
    let found = n.word in let table = ap (λ t. room_of (blocks_by t)) c.requires.table in
    record {
      table_is = n.step.table ∙ c.requires.table;
      held = n.step.held ∙ c.requires.held;
      rest = ap (λ (x : Pass). x.pending) n.step.pass ∙ c.requires.rest;
      knows = all.0;
      counted = omega arith;
      fits = omega arith;
      list = subst IsRowList (sym all.1) all.2;
    }

-- the plan on the rows that are known is the plan of the call while they stand
pub returns-clause-planned : goal.returns-clause-planned
returns-clause-planned c =
    let n = c.load_count-count.ensures.seen in let e = c.plan_call.ensures in
    plan_shows c.plan_call.new.self (e.reading.held ∙ (n.step.held ∙ c.requires.held))
    (e.reading.read.pending ∙ (ap (λ (x : Pass). x.pending) n.step.pass ∙ c.requires.rest)) e.known e.plan

-- the plan of a refused call leaves the rows as they are
pub returns-clause-refused : goal.returns-clause-refused
returns-clause-refused c = λ why is.
    let v = c.plan_call.new.self in
    rows_left v.seat.pass v.cut v.more (c.plan_call.ensures.leaves why is)

-- all that was done is a reading
pub returns-clause-reading : goal.returns-clause-reading
returns-clause-reading c =
    let n = c.load_count-count.ensures in
    reading_on c.args.caller.now.seat c.load_count-count.new.caller.seat c.plan_call.new.self.seat (seen_reads n.seen) c.plan_call.ensures.reading

-- no row goes by it, and none comes
pub returns-clause-leaves : goal.returns-clause-leaves
returns-clause-leaves c = c.plan_call.ensures.leaves

-- it knows of as many blocks as the space has room for
pub returns-clause-blocks : goal.returns-clause-blocks
returns-clause-blocks c =
    let n = c.load_count-count.ensures.seen in
    c.plan_call.ensures.reading.read.blocks ∙ (ap (λ (x : Pass). x.blocks) n.step.pass ∙ (n.blocks ∙ ap blocks_by c.requires.table))

-- behind the load of the count it takes those of the plan
pub returns-clause-loads : goal.returns-clause-loads
returns-clause-loads c =
    let new = c.plan_call.new.self.seat in
    let count = step_taken _ _ _ _ c.load_count-count.ensures.seen.step in
    subst (λ (n : ℕ). TakesLoads (known_rows new.pass) (place_loads new.pass.blocks (known_words new.pass)) c.args.call.now n new.trace.taken) count
    c.plan_call.ensures.loads
