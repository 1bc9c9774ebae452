use Rattle.std.proofs.Common.{ap, ◌∙◌, subst}
use Rattle.queue_laws.specs.declared.places.Telling.TheVariants.{Silent}
use Rattle.queue_guard.specs.declared.passes.QueuePass.{QueuePass}
use Rattle.queue_guard.specs.Acts.{with_telling}
use Rattle.range_queue.specs.Settled.{IsToldBy}
use Rattle.range_queue.proofs.Looked.{beside_none, beside_on, client_beside}
use Rattle.range_queue.proofs.Announced.{is_shown_by, is_silent_by}
use Rattle.range_queue.proofs.announcing.withdraw.Goals as goal

-- the announcement stands
pub hide-requires-clause-shown : goal.hide-requires-clause-shown
hide-requires-clause-shown g c = is_shown_by c.args.seat.now.pass.telling _ (subst (IsToldBy c.args.seat.now.pass.telling) c.in-Some.is c.requires.told)

pub count_out-requires-clause-counted : goal.count_out-requires-clause-counted
count_out-requires-clause-counted g c = ap (λ (x : QueuePass _). x.telling) c.hide.ensures.pass

-- it is taken back, and the seat counted out
pub returns-in-Some-clause-beside : goal.returns-in-Some-clause-beside
returns-in-Some-clause-beside g c = beside_on (client_beside c.hide.ensures.call) (client_beside c.count_out.ensures.call)

pub returns-in-Some-clause-pass : goal.returns-in-Some-clause-pass
returns-in-Some-clause-pass g c = c.count_out.ensures.pass ∙ ap (λ (x : QueuePass _). with_telling x Silent) c.hide.ensures.pass

-- there was none
pub returns-in-None-clause-beside : goal.returns-in-None-clause-beside
returns-in-None-clause-beside g c = beside_none c.args.seat.now

pub returns-in-None-clause-pass : goal.returns-in-None-clause-pass
returns-in-None-clause-pass g c = ap (with_telling c.args.seat.now.pass)
    (is_silent_by c.args.seat.now.pass.telling (subst (IsToldBy c.args.seat.now.pass.telling) c.in-None.is c.requires.told))
