use Rattle.std.proofs.Common.{ap, ◌∙◌}
use Rattle.std.proofs.lemmas.Bool.{eq-eqb, ne_eqb}
use Rattle.queue_guard.specs.declared.passes.QueuePass.{QueuePass}
use Rattle.range_queue.specs.Looks.{ticket_of}
use Rattle.range_queue.proofs.Looked.{client_last, begin_step, looking_on, begun_none, begun_some}
use Rattle.range_queue.proofs.looking.look.Goals as goal

-- somebody is counted
pub look_round-requires-clause-look : goal.look_round-requires-clause-look
look_round-requires-clause-look g c = ap (λ (x : QueuePass _). x.look) c.begin-count.ensures.pass
    ∙ begun_some c.args.seats c.args.asked.now c.begin-count.result c.requires.seats.2 (ne_eqb c.begin-count.result 0 c.if-nobody.false)

pub look_round-requires-clause-seats : goal.look_round-requires-clause-seats
look_round-requires-clause-seats g c = (ap (λ (x : QueuePass _). x.seats) c.begin-count.ensures.pass ∙ c.requires.seats.0, c.requires.seats.1)

pub look_round-requires-clause-mine : goal.look_round-requires-clause-mine
look_round-requires-clause-mine g c = ap (λ (x : QueuePass _). ticket_of x.telling) c.begin-count.ensures.pass ∙ c.requires.mine

pub returns-then-nobody-clause-looking : goal.returns-then-nobody-clause-looking
returns-then-nobody-clause-looking g c = begin_step c.begin-count.ensures.call c.begin-count.ensures.pass

-- nobody is
pub returns-then-nobody-clause-look : goal.returns-then-nobody-clause-look
returns-then-nobody-clause-look g c = ap (λ (x : QueuePass _). x.look) c.begin-count.ensures.pass
    ∙ begun_none c.args.asked.now c.begin-count.result (eq-eqb c.begin-count.result 0 c.if-nobody.true)

pub returns-clause-looking : goal.returns-clause-looking
returns-clause-looking g c = looking_on (begin_step c.begin-count.ensures.call c.begin-count.ensures.pass) c.look_round.ensures.looking

pub look_round-requires-clause-last : goal.look_round-requires-clause-last
look_round-requires-clause-last g c = client_last c.begin-count.ensures.call

pub returns-then-nobody-clause-last : goal.returns-then-nobody-clause-last
returns-then-nobody-clause-last g c = client_last c.begin-count.ensures.call

pub look_round-requires-clause-free : goal.look_round-requires-clause-free
look_round-requires-clause-free g c = c.begin-count.ensures.call.held ∙ c.requires.free
