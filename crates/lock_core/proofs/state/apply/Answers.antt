use Rattle.std.proofs.Common.{ℕ, Some, List, length, sym, ap, ◌∙◌}
use Rattle.lock_core.specs.declared.views.View.{View}
use Rattle.lock_core.proofs.SizedSteps.{sized_after}
use Rattle.lock_core.proofs.Applying.{rewritten, at_seat, after_made, after_none}
use Rattle.lock_core.proofs.state.apply.Goals as goal

-- the view of the seat has its sizes
pub make-requires-clause-sized : goal.make-requires-clause-sized
make-requires-clause-sized c =
    let at = at_seat _ c.args.seat c.index_mut.result.now c.state.invariant c.if-seat-state.false ∙ ap (λ (u : View). Some u) (sym c.index_mut.ensures.value) in
    c.state.invariant.each c.args.seat c.index_mut.result.now at

-- the next word of the seat's own node, where the node is bound, is even
pub make-requires-clause-even : goal.make-requires-clause-even
make-requires-clause-even c =
    let at = at_seat _ c.args.seat c.index_mut.result.now c.state.invariant c.if-seat-state.false ∙ ap (λ (u : View). Some u) (sym c.index_mut.ensures.value) in
    rw c.deref_mut.ensures.value (c.state.invariant.even c.args.seat c.index_mut.result.now at)

-- the state after the step has its sizes
pub invariant_of-state : goal.invariant_of-state
invariant_of-state c =
    let e = ap (λ (l : List ℕ). length l) c.deref_mut.ensures.value in let l = sym c.deref_mut.ensures.len ∙ e in let k = c.make.auto.words ∙ e in
    let at = at_seat _ c.args.seat c.index_mut.result.now c.state.invariant c.if-seat-state.false ∙ ap (λ (u : View). Some u) (sym c.index_mut.ensures.value) in
    let m = rw c.deref_mut.ensures.value at (c.if-make.ensures {u = tt}) in
    rw (rewritten c.state.inside.words.items c.make.new.words c.state.inside.words.len l k)
    (sized_after _ _ c.args.seat c.args.step c.state.invariant
    (after_made _ c.args.seat c.args.step c.index_mut.result.now c.make.new.view c.make.new.words at m))

-- where the step was made the state is the one after it
pub returns-then-make-clause-made : goal.returns-then-make-clause-made
returns-then-make-clause-made c =
    let e = ap (λ (l : List ℕ). length l) c.deref_mut.ensures.value in let l = sym c.deref_mut.ensures.len ∙ e in let k = c.make.auto.words ∙ e in
    let at = at_seat _ c.args.seat c.index_mut.result.now c.state.invariant c.if-seat-state.false ∙ ap (λ (u : View). Some u) (sym c.index_mut.ensures.value) in
    let m = rw c.deref_mut.ensures.value at (c.if-make.ensures {u = tt}) in
    rw (← c.state.view_is, rewritten c.state.inside.words.items c.make.new.words c.state.inside.words.len l k)
    (after_made _ c.args.seat c.args.step c.index_mut.result.now c.make.new.view c.make.new.words at m)

-- where it wasn't made there is no state after it
pub returns-clause-refused : goal.returns-clause-refused
returns-clause-refused c =
    let at = at_seat _ c.args.seat c.index_mut.result.now c.state.invariant c.if-seat-state.false ∙ ap (λ (u : View). Some u) (sym c.index_mut.ensures.value) in
    rw (← c.state.view_is) (after_none _ c.args.seat c.args.step c.index_mut.result.now at (c.if-make.ensures {u = tt}).0)
