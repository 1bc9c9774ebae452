use Rattle.std.proofs.Common.{◌≡◌, rules}
use Rattle.std.specs.Prelude.{None}
use Rattle.marked_list.proofs.Lines.{cursor_read}
use Rattle.marked_list.proofs.Unlinking.{may_unlink, unlink_lost}
use Rattle.marked_list.proofs.look.unlink.Goals as goal

-- a marked node may be unlinked
pub step-found-requires-clause-enabled : goal.step-found-requires-clause-enabled
step-found-requires-clause-enabled g c = let k = c.requires.knows in may_unlink c.args.hand.now.part k.1 k.2

-- without a node in the hand the exchange was lost
pub returns-in_default-hand-clause-lost : goal.returns-in_default-hand-clause-lost
returns-in_default-hand-clause-lost g c = let k = c.requires.knows in let p = c.args.hand.now.part in let q = c.step-found.new.hand.part in
    let none : q.core.hand ≡ None = search rules in
    unlink_lost p k.1 k.2 (record { made = c.step-found.ensures.made }) none c.view.ensures.sound c.requires.room
    (cursor_read c.view.ensures.view c.in-Some.is) c.seats.result (search rules) c.lost_at.result
    c.lost_at.ensures.place c.lost_at.ensures.values.0 c.lost_at.ensures.values.1
