use Rattle.std.proofs.Common.{refl, sym, ap, ◌∙◌, subst, arith}
use Rattle.std.specs.Prelude.{Option}
use Rattle.lock_core.specs.declared.views.View.{View}
use Rattle.marked_list.specs.declared.answers.Walked.{Walked}
use Rattle.marked_list.specs.Walking.{arrival_at, Outcome}
use Rattle.marked_list.proofs.Beginning.{made_room, made_even, made_odd, settled_outcome}
use Rattle.marked_list.proofs.walk_loop.begin_walk.Goals as goal

-- a cursor that found the low bit is at the head
pub settle-requires-clause-head : goal.settle-requires-clause-head
settle-requires-clause-head g c = let far = c.if-word-eq0.false in
    made_odd c.requires.begins c.make_cursor-word.ensures.made (omega arith)

-- a cursor that was just made may look at a node
pub settle-requires-clause-room : goal.settle-requires-clause-room
settle-requires-clause-room g c = made_room c.requires.begins c.make_cursor-word.ensures.made

-- the cursor is at the first node, or the walk has come to its end
pub returns-then-word-eq0-clause-outcome : goal.returns-then-word-eq0-clause-outcome
returns-then-word-eq0-clause-outcome g c = let p = c.args.hand.now.part in let q = c.make_cursor-word.new.hand.part in
    subst (λ (o : Option Walked). Outcome p.trace.taken p.core q o) (sym (c.arrival.ensures ∙ ap (λ (v : View). arrival_at v.own v.cursor) c.view.ensures.view))
    (made_even c.requires.begins c.make_cursor-word.ensures.made c.if-word-eq0.true c.view.ensures.sound)

-- the same once the head is settled
pub returns-in-Ok-clause-outcome : goal.returns-in-Ok-clause-outcome
returns-in-Ok-clause-outcome g c =
    let p = c.args.hand.now.part in let q = c.make_cursor-word.new.hand.part in let r = c.settle.new.hand.part in let far = c.if-word-eq0.false in
    subst (λ (o : Option Walked). Outcome p.trace.taken p.core r o)
    (sym (c.arrival-in-Ok.ensures ∙ ap (λ (v : View). arrival_at v.own v.cursor) c.view-in-Ok.ensures.view))
    (settled_outcome c.requires.begins c.make_cursor-word.ensures.made r (omega arith)
    (c.in-Ok.ensures.settled refl) c.view-in-Ok.ensures.sound)
