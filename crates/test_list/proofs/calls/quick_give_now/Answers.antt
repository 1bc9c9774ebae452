use Rattle.std.proofs.Common.{rules, ◌≡◌, ap, ◌∙◌}
use Rattle.std.specs.Prelude.{None}
use Rattle.lock_core.specs.declared.views.Own.TheVariants.{Linked}
use Rattle.lock_core.specs.declared.views.Todo.{Todo}
use Rattle.epoch_pools.specs.Beside.{given_back}
use Rattle.test_list.specs.Calls.{IsHeld}
use Rattle.test_list.proofs.Hands.{gives_number}
use Rattle.test_list.proofs.calls.quick_give_now.Goals as goal

-- a range is held, and a guard that promises nothing is always at rest
pub quick_give-given-requires-clause-holds : goal.quick_give-given-requires-clause-holds
quick_give-given-requires-clause-holds g c =
    let held : IsHeld c.args.hand.now.part.core.own = search rules in
    let none : c.args.hand.now.part.core.hand ≡ None = search rules in
    let node = held.node in (
      node.node,
      record {
        range = node.range;
        mode = node.mode;
        own = held.is ∙ ap (λ (t : Todo). Linked node.node node.range node.mode t) held.done;
        hand = none;
        rest = λ counted. tt;
      },
    )

-- and the hand is of its list and number
pub returns-then-given : goal.returns-then-given
returns-then-given g c =
    let held : IsHeld c.args.hand.now.part.core.own = search rules in
    let number : c.quick_give-given.new.hand.part.number ≡ c.args.hand.now.part.number =
    gives_number (given_back (λ (p : Unit {0}). p)) c.args.hand.now.part c.quick_give-given.new.hand.part c.quick_give-given.result held.node held.is
    c.quick_give-given.ensures.given in
    record { tried = record { same = record { table = c.quick_give-given.ensures.table; number = number }; refused = search rules } }
