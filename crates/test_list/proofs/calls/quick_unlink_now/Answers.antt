use Rattle.std.proofs.Common.{rules, ◌≡◌}
use Rattle.std.specs.Prelude.{None}
use Rattle.test_list.specs.Calls.{IsHeld}
use Rattle.test_list.proofs.calls.quick_unlink_now.Goals as goal

-- a range is held, and a guard that promises nothing is always at rest
pub quick_unlink-requires-clause-order : goal.quick_unlink-requires-clause-order
quick_unlink-requires-clause-order g c =
    let held : IsHeld c.args.hand.now.part.core.own = search rules in
    let none : c.args.hand.now.part.core.hand ≡ None = search rules in
    record { node = held.node; is = held.is; held = held.done; hand = none; rest = λ counted. tt }
