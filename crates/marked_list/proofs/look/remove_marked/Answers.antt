use Rattle.std.proofs.Common.{sym, ap, ◌∙◌, subst}
use Rattle.std.specs.Prelude.{Option}
use Rattle.lock_core.specs.declared.views.View.{View}
use Rattle.marked_list.specs.declared.answers.Walked.{Walked}
use Rattle.marked_list.specs.Walking.{arrival_at, Outcome}
use Rattle.marked_list.proofs.Unlinking.{home_on, home_walk, home_judged, home_outcome}
use Rattle.marked_list.proofs.look.remove_marked.Goals as goal

-- unlinking and giving home leave what a call that walks leaves
pub returns-in-Ok-clause-later : goal.returns-in-Ok-clause-later
returns-in-Ok-clause-later g c = home_on c.in-Ok.ensures.unlinked c.give_home.ensures.made

-- it is the same walk
pub returns-in-Ok-clause-walk : goal.returns-in-Ok-clause-walk
returns-in-Ok-clause-walk g c = home_walk c.in-Ok.ensures.unlinked c.give_home.ensures.made

-- no node was judged
pub returns-in-Ok-clause-judged : goal.returns-in-Ok-clause-judged
returns-in-Ok-clause-judged g c = home_judged c.in-Ok.ensures.unlinked c.give_home.ensures.made

-- behind the node the walk goes on, or has come to its end
pub returns-in-Ok-clause-outcome : goal.returns-in-Ok-clause-outcome
returns-in-Ok-clause-outcome g c = let p = c.args.hand.now.part in
    subst (λ (o : Option Walked). Outcome p.trace.taken p.core c.give_home.new.hand.part o)
    (sym (c.arrival.ensures ∙ ap (λ (v : View). arrival_at v.own v.cursor) c.view.ensures.view))
    (home_outcome c.in-Ok.ensures.unlinked c.give_home.ensures.made c.requires.knows.1.stands c.view.ensures.sound c.requires.room)
