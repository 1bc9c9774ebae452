use Rattle.std.proofs.Common.{ℕ, ap, sym, ◌∙◌, arith}
use Rattle.queue_guard.specs.declared.passes.QueuePass.{QueuePass}
use Rattle.range_queue.specs.Looks.{look_behind}
use Rattle.range_queue.proofs.Looked.{client_last, gives_way, look_step, looking_on, noted_older, noted_not}
use Rattle.range_queue.proofs.looking.look_at.Goals as goal

-- an older announcement was noted
pub judge_noted-requires-clause-look : goal.judge_noted-requires-clause-look
judge_noted-requires-clause-look g c = ap (λ (x : QueuePass _). x.look) c.note-ticket.ensures.pass
    ∙ noted_older c.args.seat.now.pass.seats c.args.seat.now.pass.telling c.args.mine c.args.asked.now c.args.k c.note-ticket.result c.requires.mine
    (sym c.is_noted-older.ensures ∙ c.if-older.true)

pub judge_noted-requires-clause-there : goal.judge_noted-requires-clause-there
judge_noted-requires-clause-there g c =
    let e = ap (λ (x : QueuePass _). x.seats) c.note-ticket.ensures.pass in let t = c.requires.there in (omega arith, t.1)

pub returns-then-older-clause-looking : goal.returns-then-older-clause-looking
returns-then-older-clause-looking g c = looking_on (look_step c.note-ticket.ensures.call c.note-ticket.ensures.pass) c.judge_noted.ensures.looking

pub returns-then-older-clause-look : goal.returns-then-older-clause-look
returns-then-older-clause-look g c = c.judge_noted.ensures.look
    ∙ ap (λ (n : ℕ). look_behind n c.args.asked.now c.args.k c.judge_noted.result) (ap (λ (x : QueuePass _). x.seats) c.note-ticket.ensures.pass)

pub returns-clause-looking : goal.returns-clause-looking
returns-clause-looking g c = look_step c.note-ticket.ensures.call c.note-ticket.ensures.pass

-- nothing older was there
pub returns-clause-look : goal.returns-clause-look
returns-clause-look g c = ap (λ (x : QueuePass _). x.look) c.note-ticket.ensures.pass
    ∙ noted_not c.args.seat.now.pass.seats c.args.seat.now.pass.telling c.args.mine c.args.asked.now c.args.k c.note-ticket.result c.requires.mine
    (sym c.is_noted-older.ensures ∙ c.if-older.false)

pub judge_noted-requires-clause-free : goal.judge_noted-requires-clause-free
judge_noted-requires-clause-free g c = c.note-ticket.ensures.call.held ∙ c.requires.free

pub returns-clause-last : goal.returns-clause-last
returns-clause-last g c = client_last c.note-ticket.ensures.call

-- what was met is older, and conflicts
pub returns-then-older-clause-met : goal.returns-then-older-clause-met
returns-then-older-clause-met g c = gives_way c.args.asked.now c.args.mine c.note-ticket.result c.judge_noted.result
    (sym c.is_noted-older.ensures ∙ c.if-older.true)
    c.judge_noted.ensures.met
