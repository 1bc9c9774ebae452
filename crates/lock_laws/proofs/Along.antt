-- The order along a path, and which of two nodes of one path stands before the other.
use Rattle.std.proofs.Common.{◌≡◌, ◌≢◌, ◌⊎◌, ℕ, suc, ◌/◌, ◌%◌, ◌≤◌, inl, inr, ⊎_elim, refl, ap, ◌∙◌, subst, sym, arith, le_trans}
use Rattle.lock_laws.specs.Paths.{Reach, here, there}
use Rattle.lock_core.specs.Words.{Heap, to}
use Rattle.lock_core.specs.Range.{Overlaps}
use Rattle.lock_core.specs.declared.range.Mode.TheVariants.{Writer}
use Rattle.lock_core.specs.Nodes.{Listed}
use Rattle.lock_laws.specs.Invariant.{InChain, IsBefore, IsOrdered, IsWritten}
use Rattle.lock_laws.proofs.Judging.{hi_is, writer_odd}
use Rattle.lock_laws.proofs.Paths.{reach_on}

-- of two nodes of one path, one is reached from the other
pub in_line : (to : ℕ → ℕ) (w q t : ℕ) → Reach to w t → Reach to q t → Reach to w (to (suc q)) ⊎ ((w ≡ q) ⊎ Reach to q (to (suc w)))
in_line to w q t here b = in_line_at to w q b
  where
    in_line_at : (to : ℕ → ℕ) (w q : ℕ) → Reach to q (suc w) → Reach to w (to (suc q)) ⊎ ((w ≡ q) ⊎ Reach to q (to (suc w)))
    in_line_at to w q here = inr (inl refl)
    in_line_at to w q (there r) = inr (inr r)
in_line to w q t (there {n = n} r) b = in_line_on to w q n r b (in_line to w q (to (suc n)) r)
  where
    in_line_on : (to : ℕ → ℕ) (w q n : ℕ) → Reach to w (to (suc n)) → Reach to q (suc n)
        → (Reach to q (to (suc n)) → Reach to w (to (suc q)) ⊎ ((w ≡ q) ⊎ Reach to q (to (suc w))))
        → Reach to w (to (suc q)) ⊎ ((w ≡ q) ⊎ Reach to q (to (suc w)))
    in_line_on to w q n r here ih = inl r
    in_line_on to w q n r (there s) ih = ih s

-- the node that the next word of a reached node names is reached
pub reach_next : (h : Heap) (x w t : ℕ) → Reach (to h) x t → to h (suc x) ≡ suc w → Reach (to h) w t
reach_next h x w t r e = reach_on (to h) w x t r (subst (Reach (to h) w) (sym e) here)

-- where each node of a path starts no later than the next, what bounds the first bounds all
pub along : (h : Heap) (low q t : ℕ) → ((x y : ℕ) → Reach (to h) x t → to h (suc x) ≡ suc y → IsBefore h x y)
    → ((n : ℕ) → t ≡ suc n → low ≤ h.lo n) → Reach (to h) q t → low ≤ h.lo q
along h low q t order first here = first q refl
along h low q t order first (there {n = n} r) =
    along h low q (to h (suc n)) (λ x y s. order x y (there s)) (λ m e. le_trans (first n refl) (order n m here e).starts) r

-- a writer of a path ends before each node behind it starts
pub clear_behind : (h : Heap) (w q t : ℕ) → IsOrdered h t → Reach (to h) w t → h.hi w % 2 ≡ 1 → Reach (to h) q (to h (suc w)) → h.hi w / 2 ≤ h.lo q
clear_behind h w q t ordered at writer r =
    along h (h.hi w / 2) q (to h (suc w)) (λ x y s e. ordered.sorted x y (reach_on (to h) x w t at s) e) (λ n e. (ordered.sorted w n at e).clear writer) r

-- an overlapping reader stands before the writer
pub reader_first : (h : Heap) (r w : Listed) → IsOrdered h (to h 0) → InChain h r.node → InChain h w.node → IsWritten h r
    → IsWritten h w → w.node ≢ r.node → w.mode ≡ Writer → Overlaps r.range w.range → Reach (to h) w.node (to h (suc r.node))
reader_first h r w ordered at at' known known' apart writer over =
    ⊎_elim (λ r. r)
    (λ t. absurd (⊎_elim apart
    (λ (b : Reach (to h) r.node (to h (suc w.node))).
    let odd = ap (λ a. a % 2) known'.hi ∙ writer_odd w.range.hi w.mode writer in
    let low = clear_behind h w.node r.node (to h 0) ordered at' odd b in
    let hi = ap (λ a. a / 2) known'.hi ∙ hi_is w.range.hi w.mode in let lo = known.lo in let o = over.0 in omega arith)
    t))
    (in_line (to h) w.node r.node (to h 0) at' at)
