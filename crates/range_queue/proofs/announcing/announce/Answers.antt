use Rattle.std.specs.Prelude.{Result, IfErr}
use Rattle.std.proofs.Common.{ℕ, ap, sym, ◌∙◌, subst}
use Rattle.queue_guard.specs.declared.passes.QueuePass.{QueuePass}
use Rattle.range_queue.specs.declared.answers.NotAnnounced.{NotAnnounced}
use Rattle.range_queue.specs.Settled.{HasDrawn, HasNoneLeft, IsSameBut}
use Rattle.range_queue.proofs.Looked.{beside_on, client_beside}
use Rattle.range_queue.proofs.Announced.{full_call, same_on, told_same}
use Rattle.range_queue.proofs.announcing.announce.Goals as goal

-- a seat that was counted has drawn its ticket
pub show-requires-clause-number : goal.show-requires-clause-number
show-requires-clause-number g c = (c.draw_next.ensures.beside.number ∙ (c.enter.ensures.beside.number ∙ c.requires.number.0), c.requires.number.1)

pub show-requires-clause-drawn : goal.show-requires-clause-drawn
show-requires-clause-drawn g c =
    ap (λ (x : QueuePass _). x.telling)
    (subst (λ (r : Result ℕ NotAnnounced). HasDrawn r c.enter.new.seat.pass c.draw_next.new.seat.pass) c.in-Ok.is c.draw_next.ensures.drawn)

-- its ends are written
pub show-requires-clause-ends : goal.show-requires-clause-ends
show-requires-clause-ends g c =
    ap (λ (x : QueuePass _). x.own)
    (subst (λ (r : Result ℕ NotAnnounced). HasDrawn r c.enter.new.seat.pass c.draw_next.new.seat.pass) c.in-Ok.is c.draw_next.ensures.drawn)
    ∙ c.enter.ensures.entered.own

pub draw_next-requires-clause-counted : goal.draw_next-requires-clause-counted
draw_next-requires-clause-counted g c = c.enter.ensures.entered.telling

pub returns-in-Ok-clause-beside : goal.returns-in-Ok-clause-beside
returns-in-Ok-clause-beside g c = beside_on c.enter.ensures.beside (beside_on c.draw_next.ensures.beside (client_beside c.show.ensures.call))

pub returns-in-Ok-clause-same : goal.returns-in-Ok-clause-same
returns-in-Ok-clause-same g c = same_on c.enter.ensures.entered.same
    (same_on (told_same
    (subst (λ (r : Result ℕ NotAnnounced). HasDrawn r c.enter.new.seat.pass c.draw_next.new.seat.pass) c.in-Ok.is c.draw_next.ensures.drawn))
    (told_same c.show.ensures.pass))

pub returns-in-Ok-clause-told : goal.returns-in-Ok-clause-told
returns-in-Ok-clause-told g c = ap (λ (x : QueuePass _). x.telling) c.show.ensures.pass

-- no ticket was drawn
pub count_out-requires-clause-counted : goal.count_out-requires-clause-counted
count_out-requires-clause-counted g c =
    ap (λ (x : QueuePass _). x.telling)
    (subst (λ (r : Result ℕ NotAnnounced). HasDrawn r c.enter.new.seat.pass c.draw_next.new.seat.pass) c.in-Err.is c.draw_next.ensures.drawn).0
    ∙ c.enter.ensures.entered.telling

pub returns-in-Err-clause-beside : goal.returns-in-Err-clause-beside
returns-in-Err-clause-beside g c = beside_on c.enter.ensures.beside (beside_on c.draw_next.ensures.beside (client_beside c.count_out.ensures.call))

pub returns-in-Err-clause-same : goal.returns-in-Err-clause-same
returns-in-Err-clause-same g c = same_on
    (subst (λ (q : QueuePass _). IsSameBut c.args.seat.now.pass q)
    (sym (subst (λ (r : Result ℕ NotAnnounced). HasDrawn r c.enter.new.seat.pass c.draw_next.new.seat.pass) c.in-Err.is c.draw_next.ensures.drawn).0)
    c.enter.ensures.entered.same)
    (told_same c.count_out.ensures.pass)

pub returns-in-Err-clause-told : goal.returns-in-Err-clause-told
returns-in-Err-clause-told g c = (
  ap (λ (x : QueuePass _). x.telling) c.count_out.ensures.pass,
  (subst (λ (r : Result ℕ NotAnnounced). HasDrawn r c.enter.new.seat.pass c.draw_next.new.seat.pass) c.in-Err.is c.draw_next.ensures.drawn).1,
)

pub returns-in-Err-clause-full : goal.returns-in-Err-clause-full
returns-in-Err-clause-full g c = full_call c.enter.ensures.beside (client_beside c.count_out.ensures.call) c.in-Err.why
    (subst (λ (r : Result ℕ NotAnnounced). IfErr r (λ why. HasNoneLeft why c.enter.new.seat c.draw_next.new.seat)) c.in-Err.is c.draw_next.ensures.full)

-- the seat is still of the table
pub draw_next-requires-clause-table : goal.draw_next-requires-clause-table
draw_next-requires-clause-table g c = c.enter.ensures.beside.table ∙ c.requires.table

pub show-requires-clause-table : goal.show-requires-clause-table
show-requires-clause-table g c = c.draw_next.ensures.beside.table ∙ (c.enter.ensures.beside.table ∙ c.requires.table)

pub count_out-requires-clause-table : goal.count_out-requires-clause-table
count_out-requires-clause-table g c = c.draw_next.ensures.beside.table ∙ (c.enter.ensures.beside.table ∙ c.requires.table)
