use Rattle.std.proofs.Common.{rules, ◌<◌, length, refl}
use Rattle.std.specs.Arc.{arc_value}
use Rattle.lock_core.specs.Client.{loads, stores, adds, exchanges}
use Rattle.range_c.proofs.Steps.{may_step, exchanged, unexchanged, exchange_told}
use Rattle.range_c.proofs.state.State.step.Goals as goal
use Rattle.range_c.proofs.state.State.step.Goals.{in-Ok, in-Err}

-- every load is allowed, at whatever the seat holds and knows
pub load_as_uncounted-requires-clause-allowed : goal.load_as_uncounted-requires-clause-allowed
load_as_uncounted-requires-clause-allowed c =
    may_step c.self.inside.seat.number c.self.inside.seat.held c.self.inside.seat.pass (loads _)

-- so is every store
pub store_as_uncounted-requires-clause-allowed : goal.store_as_uncounted-requires-clause-allowed
store_as_uncounted-requires-clause-allowed c =
    may_step c.self.inside.seat.number c.self.inside.seat.held c.self.inside.seat.pass (stores _ _)

-- so is every addition
pub add_as_uncounted-requires-clause-allowed : goal.add_as_uncounted-requires-clause-allowed
add_as_uncounted-requires-clause-allowed c =
    may_step c.self.inside.seat.number c.self.inside.seat.held c.self.inside.seat.pass (adds _ _)

-- so is every exchange
pub exchange_as_uncounted-requires-clause-allowed : goal.exchange_as_uncounted-requires-clause-allowed
exchange_as_uncounted-requires-clause-allowed c =
    may_step c.self.inside.seat.number c.self.inside.seat.held c.self.inside.seat.pass (exchanges _ _ _)

-- what an exchange is told as is what it came to
pub returns-after-exchange_as_uncounted : goal.returns-after-exchange_as_uncounted
returns-after-exchange_as_uncounted c =
    let there : c.args.i < c.self.inside.words = search rules in let table = (arc_value c.self.inside.lock).table in
    let s = c.self.inside.seat in let x = c.in-Exchange in let call = c.exchange_as_uncounted.ensures.call in
    let after = c.exchange_as_uncounted.new.seat.pass in
    record {
      stepped = elim c.match-exchange_as_uncounted.branch [
        | in-Ok w ↦ let made = w.in-Ok.ensures.made in
            exchange_told x.expected x.new _ _ c.args.told (length c.self.inside.spare.items) c.self.inside.words table.seats table.cut _ x.is w.result-is
            c.self.view_is there call made (exchanged s.number s.held s.pass c.args.i x.expected x.new after made) (λ t. (refl, t))
        | in-Err w ↦ let made = w.in-Err.ensures.made in
            exchange_told x.expected x.new _ _ c.args.told (length c.self.inside.spare.items) c.self.inside.words table.seats table.cut _ x.is w.result-is
            c.self.view_is there call made.1 (unexchanged s.number s.held s.pass c.args.i x.expected x.new w.in-Err.found after made.0 made.1)
            (λ t. (made.0, t))
      ];
    }
