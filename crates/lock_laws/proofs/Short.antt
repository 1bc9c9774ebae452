-- A path that ends comes to no node twice, so it has no more nodes than there are.
use Rattle.std.proofs.Common.{◌≡◌, ◌≢◌, ℕ, suc, ◌+◌, ◌*◌, ◌<◌, ◌≤◌, Bool, true, false, List, ⊎_elim, refl, sym, subst, arith, eqb-true}
use Rattle.std.specs.Prelude.{◌==◌, if◌then◌else◌}
use Rattle.std.proofs.lemmas.Bool.{cases_eq}
use Rattle.lock_laws.specs.Paths.{Reach, here, there, PathEnds, end, on}
use Rattle.lock_core.specs.Counted.{times}
use Rattle.lock_core.specs.Words.{to}
use Rattle.lock_core.specs.Machine.{heap}
use Rattle.lock_laws.specs.PathLengths.{path_nodes, PathsAreShort}
use Rattle.lock_laws.proofs.Paths.{no_cycle}
use Rattle.lock_core.proofs.Pigeons.{pigeons}

reached_step : (to : ℕ → ℕ) (x n : ℕ) (rest : List ℕ) (b : Bool) → (n == x) ≡ b → (1 ≤ times x rest → Reach to x (to (suc n)))
    → 1 ≤ (if b then 1 else 0) + times x rest → Reach to x (suc n)
reached_step to x n rest true e ih l = subst (λ a. Reach to x (suc a)) (sym (eqb-true n x e)) here
reached_step to x n rest false e ih l = there (ih (omega arith))

-- the nodes of a path are reached
pub reached : (to : ℕ → ℕ) (x t : ℕ) (e : PathEnds to t) → 1 ≤ times x (path_nodes to t e) → Reach to x t
reached to x t end l = absurd (omega arith)
reached to x t (on {n = n} e) l = reached_step to x n (path_nodes to (to (suc n)) e) (n == x) refl (reached to x (to (suc n)) e) l

once_step : (to : ℕ → ℕ) (x n : ℕ) (rest : List ℕ) (b : Bool) → (n == x) ≡ b → (1 ≤ times x rest → Reach to x (to (suc n)))
    → (Reach to n (to (suc n)) → ⊥) → times x rest ≤ 1 → (if b then 1 else 0) + times x rest ≤ 1
once_step to x n rest true e got away ih =
    ⊎_elim (λ (z : times x rest ≡ 0). omega arith)
    (λ (d : times x rest ≢ 0). absurd (away (subst (λ a. Reach to a (to (suc n))) (sym (eqb-true n x e))
    (got (omega arith))))) (cases_eq (times x rest) 0)
once_step to x n rest false e got away ih = omega arith

-- and stand there once
pub nodes_once : (to : ℕ → ℕ) (x t : ℕ) (e : PathEnds to t) → times x (path_nodes to t e) ≤ 1
nodes_once to x t end = omega arith
nodes_once to x t (on {n = n} e) =
    once_step to x n (path_nodes to (to (suc n)) e) (n == x) refl (reached to x (to (suc n)) e)
    (λ r. no_cycle to n (suc n) (on e) here r) (nodes_once to x (to (suc n)) e)

-- where every target is there, so is each reached node
reach_there : (to : ℕ → ℕ) (n x t : ℕ) → ((c : ℕ) → c ≤ n → to c ≤ n) → t ≤ n → Reach to x t → x < n
reach_there to n x t cells l here = omega (arith, l)
reach_there to n x t cells l (there {n = k} r) = reach_there to n x (to (suc k)) cells (cells (suc k) l) r

-- in a lock a path that ends has at most sixteen nodes for each seat
pub paths_are_short_law : PathsAreShort
paths_are_short_law m t ends l few =
    pigeons 0 (16 * m.seats) (path_nodes (to (heap m)) t ends) (λ x. nodes_once (to (heap m)) x t ends)
    (λ x some. (omega arith, let b = reach_there (to (heap m)) (16 * m.seats) x t l.sized.cells few (reached (to (heap m)) x t ends some) in omega (arith, b)))
