-- Where next words lead, low bits aside. A cell is 0 for the head, and n + 1 for the next word of node n; a target is
-- 0 for the end, and n + 1 for node n. So the head is a cell like any other, and marks stand in no path. The list of
-- Kogan, Dice and Issa 2020, as two inductive families over the function `to` that gives the target of a cell.
use Rattle.std.specs.Prelude.{ℕ}
use Prim.Native.Nat.{zero, suc}

-- node x is in the path that begins with the target
pub data Reach (to : ℕ → ℕ) (x : ℕ) : ℕ → Type 0 where
  here : Reach to x (suc x)
  there : {n : ℕ} → Reach to x (to (suc n)) → Reach to x (suc n)

-- the path that begins with the target meets the end
pub data PathEnds (to : ℕ → ℕ) : ℕ → Type 0 where
  end : PathEnds to zero
  on : {n : ℕ} → PathEnds to (to (suc n)) → PathEnds to (suc n)
