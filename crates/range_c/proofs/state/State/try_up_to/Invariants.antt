use Rattle.std.proofs.Common.{◌≡◌, ◌≤◌, ◌-◌, None}
use Rattle.range_c.specs.Behind.{IsTrial, IsTrialAnswer}
use Rattle.range_c.proofs.state.State.try_up_to.Given as goal

-- the tries so far were refused, so the seat holds nothing
abbrev pub invariant-tries : goal.invariant-tries
invariant-tries l = IsTrial l.fn.self l.self × (l.self.seat.held ≡ None) × (l.made ≤ l.fn.tries)
    × IsTrialAnswer (record { range = l.fn.range; mode = l.fn.mode }) l.made l.made l.fn.self l.self l.answer

-- there is one try less to make each time
abbrev pub decreases-tries : goal.decreases-tries
decreases-tries l = l.fn.tries - l.made
