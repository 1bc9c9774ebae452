use Rattle.std.proofs.Common.{[], ◌∷◌, ◌++◌, ◌∙◌, ap, arith}
use Rattle.std.proofs.lemmas.Result.{err_from_is_err_and}
use Rattle.raw_trace.proofs.Turns.{due_first, due_smaller, due_turn, due_ends, due_done, none_left}
use Rattle.raw_trace.proofs.order.Ordering.write.Goals as goal

-- at first the line is due alone
pub due-init : goal.due-init
due-init c =
    due_first c.args.strict c.args.self.now c.args.piece c.push.new.pieces.items
    (c.in_ok-push.ensures.items ∙ ap (λ x. x ++ (c.args.piece ∷ [])) c.new-due.ensures.items)

-- fewer turns are left
pub due-smaller : goal.due-smaller
due-smaller c =
    due_smaller c.args.strict c.in-Some.next c.due.self c.turn.new.self c.due.due.items c.pop.new.self.items c.turn.new.due.items c.in-Some.ensures.items
    c.in_ok-turn.ensures.took

-- a turn leaves the rest
pub due-preserved : goal.due-preserved
due-preserved c =
    due_turn c.args.strict c.args.self.now c.due.self c.turn.new.self _ c.in-Some.next c.due.due.items c.pop.new.self.items c.turn.new.due.items
    c.due.invariant c.in-Some.ensures.items c.in_ok-turn.ensures.took

-- a turn ended the writing
pub returns-in_err-turn-clause-fault : goal.returns-in_err-turn-clause-fault
returns-in_err-turn-clause-fault c =
    let p = err_from_is_err_and c.from_residual-in_err-turn.result c.from_residual-in_err-turn.ensures.1 in
    rw (p.1, p.2) (due_ends c.args.strict c.args.self.now c.due.self _ c.in-Some.next c.due.due.items c.pop.new.self.items c.in_err-turn.field-0.0
    c.due.invariant c.in-Some.ensures.items c.in_err-turn.ensures.fault)

-- nothing is due
pub returns-clause-wrote : goal.returns-clause-wrote
returns-clause-wrote c =
    due_done c.args.strict c.args.self.now c.due.self _ c.due.due.items c.due.invariant
    (none_left c.due.due.items (let len = c.due.due.ok.0 in let none = c.in_default.ensures.cases in omega (arith, none)))
