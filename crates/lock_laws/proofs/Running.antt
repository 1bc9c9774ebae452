-- A run of a lock is a lock: every kind of step keeps one, and a step that isn't enabled leaves the state as it is.
use Rattle.std.proofs.Common.{◌≡◌, ℕ, List, [], ◌∷◌, refl, subst}
use Rattle.std.specs.Prelude.{Option, Some, None, unwrap_or}
use Rattle.lock_core.specs.declared.steps.Step.{Step}
use Rattle.lock_core.specs.Machine.{Machine, after, after_or_same, run, start, held_by_seat}
use Rattle.lock_core.proofs.Stepping.{stepped}
use Rattle.lock_core.proofs.SizedSteps.{sized_after}
use Rattle.lock_laws.specs.Laws.{IsLock, Keeps, RunsAreExclusive, RunsGrantApart, RunsHaveNoReuse}
use Rattle.lock_laws.proofs.Exclusion.{exclusive}
use Rattle.lock_laws.proofs.Listing.{listed_apart}
use Rattle.lock_laws.proofs.PathLaws.{Holds}
use Rattle.lock_laws.proofs.WordLaws.{line_holds}
use Rattle.lock_laws.proofs.Starting.{start_lock}

-- every step keeps the invariant and the sizes
pub every_step_keeps : (step : Step) → Keeps step
every_step_keeps step m next s l e = let t = stepped m next s step e in record {
  sized = sized_after m next s step l.sized e;
  invariant = subst Holds t.is (line_holds m s t.view l t.at step t.plan t.line);
}

-- a lock stays one by a step, enabled or not
pub step_or_same : (m : Machine) (s : ℕ) (step : Step) → IsLock m → IsLock (after_or_same m s step)
step_or_same m s step l = by_answer (after m s step) refl
  where
    by_answer : (o : Option Machine) → after m s step ≡ o → IsLock (unwrap_or o m)
    by_answer None e = l
    by_answer (Some next) e = every_step_keeps step m next s l e

-- and by a whole run
pub run_lock : (steps : List (ℕ × Step)) (m : Machine) → IsLock m → IsLock (run m steps)
run_lock [] m l = l
run_lock (t ∷ ts) m l = run_lock ts (after_or_same m t.0 t.1) (step_or_same m t.0 t.1 l)

-- after any run from the start no two conflicting ranges are held
pub runs_are_exclusive_law : RunsAreExclusive
runs_are_exclusive_law seats steps some few = exclusive (run (start seats) steps) (run_lock steps (start seats) (start_lock seats some few))

-- so no two grants of the list conflict, and no seat stands twice in it
pub runs_grant_apart_law : RunsGrantApart
runs_grant_apart_law seats steps some few = listed_apart (held_by_seat (run (start seats) steps)) (runs_are_exclusive_law seats steps some few)

-- after any run from the start no seat may reach a node that is ready or being filled
pub runs_have_no_reuse_law : RunsHaveNoReuse
runs_have_no_reuse_law seats steps some few = (run_lock steps (start seats) (start_lock seats some few)).invariant.no_reuse
