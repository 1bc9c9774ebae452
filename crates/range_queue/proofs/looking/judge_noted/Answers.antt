use Rattle.std.proofs.Common.{ℕ, ap, sym, ◌∙◌, arith}
use Rattle.queue_guard.specs.declared.passes.QueuePass.{QueuePass}
use Rattle.queue_guard.specs.Acts.{look_judged}
use Rattle.range_queue.specs.Looks.{look_behind}
use Rattle.range_queue.proofs.Looked.{client_last, look_step, read_step, looking_on, both_read, judged_met}
use Rattle.range_queue.proofs.looking.judge_noted.Goals as goal

-- the look is still at that announcement
pub read_hi-hi-requires-clause-look : goal.read_hi-hi-requires-clause-look
read_hi-hi-requires-clause-look g c = ap (λ (x : QueuePass _). x.look) c.read_lo-lo.ensures.pass ∙ c.requires.look

pub read_hi-hi-requires-clause-there : goal.read_hi-hi-requires-clause-there
read_hi-hi-requires-clause-there g c = let e = ap (λ (x : QueuePass _). x.seats) c.read_lo-lo.ensures.pass in let t = c.requires.there in (omega arith, t.1)

pub judge-again-requires-clause-look : goal.judge-again-requires-clause-look
judge-again-requires-clause-look g c = ap (λ (x : QueuePass _). x.look) c.read_hi-hi.ensures.pass
    ∙ (ap (λ (x : QueuePass _). x.look) c.read_lo-lo.ensures.pass ∙ c.requires.look)

-- both ends are read
pub judge-again-requires-clause-read : goal.judge-again-requires-clause-read
judge-again-requires-clause-read g c = both_read c.args.seat.now.pass c.read_lo-lo.new.seat.pass c.read_hi-hi.new.seat.pass
    c.read_lo-lo.result c.read_hi-hi.result
    c.read_lo-lo.ensures.pass c.read_hi-hi.ensures.pass

pub judge-again-requires-clause-there : goal.judge-again-requires-clause-there
judge-again-requires-clause-there g c =
    let e = ap (λ (x : QueuePass _). x.seats) c.read_lo-lo.ensures.pass in
    let f = ap (λ (x : QueuePass _). x.seats) c.read_hi-hi.ensures.pass in
    let t = c.requires.there in
    (omega arith, t.1)

-- three loads of a look
pub returns-clause-looking : goal.returns-clause-looking
returns-clause-looking g c = looking_on
    (looking_on (read_step c.read_lo-lo.ensures.call c.read_lo-lo.ensures.pass) (read_step c.read_hi-hi.ensures.call c.read_hi-hi.ensures.pass))
    (look_step c.judge-again.ensures.call c.judge-again.ensures.pass)

-- the look is what the answer says
pub returns-clause-look : goal.returns-clause-look
returns-clause-look g c =
    let n = ap (λ (x : QueuePass _). x.seats) c.read_hi-hi.ensures.pass ∙ ap (λ (x : QueuePass _). x.seats) c.read_lo-lo.ensures.pass in
    let seats = c.args.seat.now.pass.seats in
    ap (λ (x : QueuePass _). x.look) c.judge-again.ensures.pass
    ∙ (ap (λ (m : ℕ). look_judged m c.args.asked.now c.args.k c.args.ticket c.read_lo-lo.result c.read_hi-hi.result c.judge-again.result) n
    ∙ (judged_met seats c.args.asked.now c.args.k c.args.ticket c.read_lo-lo.result c.read_hi-hi.result c.judge-again.result
    ∙ ap (look_behind seats c.args.asked.now c.args.k) (sym c.met_by.ensures.is)))

pub judge-again-requires-clause-free : goal.judge-again-requires-clause-free
judge-again-requires-clause-free g c = c.read_hi-hi.ensures.call.held ∙ (c.read_lo-lo.ensures.call.held ∙ c.requires.free)

-- the last of them is the last step
pub returns-clause-last : goal.returns-clause-last
returns-clause-last g c = client_last c.judge-again.ensures.call

-- what was met
pub returns-clause-met : goal.returns-clause-met
returns-clause-met g c = c.met_by.ensures.some
