use Rattle.std.proofs.Common.{ℕ, ◌≡◌, ◌+◌, ap, subst}
use Rattle.std.specs.Prelude.{IsSome}
use Rattle.area_guard.specs.Keeping.{no_note}
use Rattle.area_rows.specs.Callers.{CallerView, IsReading, CountsWhole}
use Rattle.range_rw.specs.Contract.{Record}
use Rattle.area_rows.specs.Seen.{HasMoment}
use Rattle.area_rows.proofs.Stepping.{may_sequence, sequence_is}
use Rattle.area_rows.proofs.Seeing.{sequence_at}
use Rattle.area_rows.proofs.space.Space.sequence.Goals as goal

-- the guard allows the load of the sequence word
pub load_as_uncounted-requires-clause-allowed : goal.load_as_uncounted-requires-clause-allowed
load_as_uncounted-requires-clause-allowed c = may_sequence no_note _ _ _ c.caller.invariant.5

-- the load is a reading
pub returns-clause-reading : goal.returns-clause-reading
returns-clause-reading c =
    let s = c.caller.inside.seat in let u = c.load_as_uncounted.new.seat in
    subst (λ (v : CallerView). IsReading v.seat u) c.caller.view_is
    (sequence_is c.load_as_uncounted.result c.caller.invariant.5 c.load_as_uncounted.ensures.call c.load_as_uncounted.ensures.made).0

-- while a range is held it counts the entries under everything
pub returns-clause-counts : goal.returns-clause-counts
returns-clause-counts c =
    let s = c.caller.inside.seat in let u = c.load_as_uncounted.new.seat in
    subst (λ (v : CallerView). IsSome v.seat.held → CountsWhole u c.load_as_uncounted.result) c.caller.view_is
    (sequence_is c.load_as_uncounted.result c.caller.invariant.5 c.load_as_uncounted.ensures.call c.load_as_uncounted.ensures.made).1

-- it is made at a moment of the running space
pub returns-clause-moment : goal.returns-clause-moment
returns-clause-moment c =
    let s = c.caller.inside.seat in let u = c.load_as_uncounted.new.seat in
    subst (λ (v : CallerView). HasMoment v.seat) c.caller.view_is (sequence_at s u c.load_as_uncounted.result c.load_as_uncounted.ensures.made)

-- by one step
pub returns-clause-taken : goal.returns-clause-taken
returns-clause-taken c =
    let s = c.caller.inside.seat in let u = c.load_as_uncounted.new.seat in
    subst (λ (v : CallerView). u.trace.taken ≡ v.seat.trace.taken + 1) c.caller.view_is (ap (λ (t : Record). t.taken) c.load_as_uncounted.ensures.call.trace)
