use Rattle.std.proofs.Common.{◌∙◌, ◌+◌, length, ap, refl, sym, subst, arith}
use Rattle.std.specs.Prelude.{None}
use Rattle.space_model.specs.declared.entries.Under.{Under}
use Rattle.row_blocks.specs.declared.positions.Position.{Position}
use Rattle.page_types.specs.declared.calls.Call.{Call}
use Rattle.row_plans.specs.Loads.{TakesLoads}
use Rattle.row_plans.specs.declared.planning.Cut.{Cut}
use Rattle.area_guard.specs.Reads.{known_rows, known_words}
use Rattle.area_guard.specs.Rows.{blocks_by}
use Rattle.area_rows.specs.Callers.{place_loads}
use Rattle.area_rows.specs.Called.{IsLastStep}
use Rattle.area_rows.proofs.Wholes.{planned_right, numbered_held, last_held, ends_soon}
use Rattle.range_rw.specs.Contract.{Record}
use Rattle.area_rows.proofs.space.Space.call_held.Goals as goal

-- the call may be numbered with the reply of its plan
pub draw-entry-requires-clause-right : goal.draw-entry-requires-clause-right
draw-entry-requires-clause-right c = planned_right c.plan-reply.ensures.planned (c.plan-reply.ensures.reading.held ∙ c.requires.held)
    (c.plan-reply.ensures.reading.read.pending ∙ c.requires.rest) c.requires.undecided c.requires.call

-- after the draw the caller has that plan to write
pub write_plan-requires-clause-planned : goal.write_plan-requires-clause-planned
write_plan-requires-clause-planned c = c.draw-entry.ensures.write refl c.plan-reply.ensures.planned.known

-- planning, drawing and writing are the whole call, but that everything is held before and afterwards
pub returns-clause-called : goal.returns-clause-called
returns-clause-called c =
    let p = c.plan-reply.ensures in let n = c.draw-entry.ensures in let w = c.write_plan.ensures in
    record {
      line_is = n.line;
      call_is = n.call;
      named = n.named;
      numbered = numbered_held p.reading n.drawn w.written;
      last = subst (λ (u : Under). IsLastStep (record c.args.caller.now.seat { held = None }) u (record c.write_plan.new.caller.seat { held = None }))
          (sym n.under) (last_held p.reading n.drawn w.written);
      written = w.written.rest;
      left = ap (λ k. k + 1) w.left ∙ (n.left ∙ p.left);
    }

-- it holds everything
pub returns-clause-held : goal.returns-clause-held
returns-clause-held c = c.write_plan.ensures.written.held
    ∙ (c.draw-entry.ensures.drawn.numbered.held ∙ (c.plan-reply.ensures.reading.held ∙ c.requires.held))

-- it asked for nothing
pub returns-clause-asked : goal.returns-clause-asked
returns-clause-asked c = c.write_plan.ensures.written.asked
    ∙ (ap (λ (t : Record). t.asked) c.draw-entry.ensures.drawn.trace ∙ c.plan-reply.ensures.reading.asked)

-- and made no look
pub returns-clause-looks : goal.returns-clause-looks
returns-clause-looks c = c.write_plan.ensures.written.looks ∙ (c.draw-entry.ensures.drawn.looks ∙ c.plan-reply.ensures.reading.looks)

-- from its draw on it took as many steps as the writing
pub returns-clause-soon : goal.returns-clause-soon
returns-clause-soon c =
    let p = c.plan-reply.ensures in let n = c.draw-entry.ensures in let w = c.write_plan.ensures in let more = ap length n.rows.more in
    let gone = ap (λ (x : Cut Position). x.gone) n.rows.cut in
    let table = ap blocks_by c.requires.table in let steps = w.steps in let seat = c.plan-reply.new.caller.seat in
    ends_soon p.reading (p.reading.held ∙ c.requires.held) (p.reading.read.pending ∙ c.requires.rest) p.planned.known (p.blocks ∙ sym table) n.drawn w.written
    (subst (λ (call : Call). TakesLoads (known_rows seat.pass) (place_loads seat.pass.blocks (known_words seat.pass)) call
    (c.args.caller.now.seat.trace.taken + 1) seat.trace.taken) (sym n.call) p.loads) (omega arith)
    (λ why is. let none = p.leaves why (sym n.reply ∙ is) in let none_comes = ap length none.1 in w.none (omega arith) (omega arith))

-- the last of them raised the sequence word
pub returns-clause-last : goal.returns-clause-last
returns-clause-last c = let w = c.write_plan.ensures.written in (w.step, w.client, w.last)
