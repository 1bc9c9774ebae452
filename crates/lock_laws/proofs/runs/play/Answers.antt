use Rattle.std.proofs.Common.{◌≡◌, ℕ, suc, ◌+◌, ◌<◌, List, get_or, drop, drop-cons, length, refl, sym, ap, ◌∙◌, arith}
use lib.Seq.{drop-length}
use Rattle.lock_core.specs.declared.steps.Step.{Step}
use Rattle.lock_core.specs.Machine.{Machine, run, after_or_same}
use Rattle.lock_laws.proofs.runs.play.Goals as goal

-- the rest of a run after one step more
next_turn : (m new : Machine) (ts : List (ℕ × Step)) (i : ℕ) (d : ℕ × Step) → i < length ts
    → new ≡ after_or_same m (get_or ts i d).0 (get_or ts i d).1 → run new (drop (i + 1) ts) ≡ run m (drop i ts)
next_turn m new ts i d within is =
    let z : i + 1 ≡ suc i = omega arith in
    ap (λ n. run n (drop (i + 1) ts)) is ∙ ap (λ k. run (after_or_same m (get_or ts i d).0 (get_or ts i d).1) (drop k ts)) z
    ∙ sym (ap (run m) (drop-cons ts i d within))

-- before the first turn the whole run is left
pub loop-seat-init : goal.loop-seat-init
loop-seat-init c = refl

-- after one turn more the rest of the run leads to the same state
pub loop-seat-preserved : goal.loop-seat-preserved
loop-seat-preserved c = next_turn c.loop-seat.state c.take.new.state c.args.turns.now c.loop-seat.seat-index _
    c.loop-seat-test.true c.take.ensures ∙ c.loop-seat.invariant

-- after the last turn nothing is left, so the state is that of the whole run
pub returns : goal.returns
returns c =
    let all : c.loop-seat.seat-index ≡ length c.args.turns.now = let a = c.loop-seat.auto.seat-index-end in omega (arith, c.loop-seat-test.false) in
    sym (ap (λ n. run c.loop-seat.state (drop n c.args.turns.now)) all ∙ ap (run c.loop-seat.state) (drop-length c.args.turns.now)) ∙ c.loop-seat.invariant
