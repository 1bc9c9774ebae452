use Rattle.test_list.specs.Trials.{AreInOrder}
use Rattle.test_list.proofs.rows.play.Given as goal

-- after each row the hands are in order
abbrev pub invariant-script : goal.invariant-script
invariant-script l = AreInOrder l.list.table l.hands
