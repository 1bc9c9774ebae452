use Rattle.std.specs.Prelude.{None, Result, OnOk, OnErr}
use Rattle.std.proofs.Common.{◌≡◌, sym, ◌∙◌, subst}
use Rattle.queue_laws.specs.declared.places.Telling.{Telling}
use Rattle.range_rw.specs.Contract.{StandsIn}
use Rattle.range_queue.specs.declared.answers.NotYet.{NotYet}
use Rattle.range_queue.specs.Settled.{IsToldBy}
use Rattle.range_queue.specs.Tries.{IsTried}
use Rattle.range_queue.proofs.Announced.{ticket_told}
use Rattle.range_queue.proofs.Tried.{gained_all, tried_free}
use Rattle.range_queue.proofs.trying.try_acquire.Goals as goal

pub try_in-requires-clause-mine : goal.try_in-requires-clause-mine
try_in-requires-clause-mine g c = ticket_told c.args.seat.now.pass.telling c.args.mine c.requires.told

-- what the seat has told still stands
pub withdraw-requires-clause-number : goal.withdraw-requires-clause-number
withdraw-requires-clause-number g c = (c.try_in.ensures.kept.number ∙ c.requires.number.0, c.requires.number.1)

pub withdraw-requires-clause-told : goal.withdraw-requires-clause-told
withdraw-requires-clause-told g c = subst (λ (t : Telling). IsToldBy t c.args.mine) (sym c.try_in.ensures.kept.telling) c.requires.told

-- the range is held
pub returns-in-Ok-clause-tried : goal.returns-in-Ok-clause-tried
returns-in-Ok-clause-tried g c =
    gained_all c.args.asked.now c.args.seat.now c.try_in.new.seat c.withdraw.new.seat
    (subst (λ (r : Result _ NotYet). IsTried c.args.asked.now r c.args.seat.now c.try_in.new.seat) c.in-Ok.is c.try_in.ensures.tried)
    c.try_in.ensures.kept c.requires.free (record { beside = c.withdraw.ensures.beside; pass = c.withdraw.ensures.pass })

pub returns-in-Ok-clause-held : goal.returns-in-Ok-clause-held
returns-in-Ok-clause-held g c = c.withdraw.ensures.beside.held
    ∙ (subst (λ (r : Result _ NotYet). IsTried c.args.asked.now r c.args.seat.now c.try_in.new.seat) c.in-Ok.is c.try_in.ensures.tried).2.1

pub returns-in-Ok-clause-stands : goal.returns-in-Ok-clause-stands
returns-in-Ok-clause-stands g c = subst (StandsIn c.args.table.now.cut c.args.asked.now.range) (sym c.withdraw.ensures.beside.list)
    (subst (λ (r : Result _ NotYet). OnOk r (StandsIn c.args.table.now.cut c.args.asked.now.range c.try_in.new.seat.list)) c.in-Ok.is c.try_in.ensures.stands)

pub returns-in-Ok-clause-outside : goal.returns-in-Ok-clause-outside
returns-in-Ok-clause-outside g c = c.withdraw.ensures.beside.scan ∙ c.try_in.ensures.outside

-- it isn't
pub returns-in-Err-clause-tried : goal.returns-in-Err-clause-tried
returns-in-Err-clause-tried g c =
    (subst (λ (r : Result _ NotYet). IsTried c.args.asked.now r c.args.seat.now c.try_in.new.seat) c.in-Err.is c.try_in.ensures.tried, c.try_in.ensures.kept)

pub returns-in-Err-clause-free : goal.returns-in-Err-clause-free
returns-in-Err-clause-free g c = subst (λ (r : Result _ NotYet). OnErr r (c.try_in.new.seat.held ≡ None)) c.in-Err.is
    (tried_free c.args.asked.now c.args.seat.now c.try_in.new.seat c.try_in.result c.try_in.ensures.tried c.requires.free)
