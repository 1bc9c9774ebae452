-- What a validation still has to see, and when it has nothing left to see.
use Rattle.std.proofs.Common.{◌≡◌, ◌≢◌, ◌⊎◌, ℕ, suc, ◌/◌, ◌%◌, ◌≤◌, List, None, ⊎_elim, refl, sym, ap, ◌∙◌, subst, arith}
use Rattle.lock_core.specs.declared.range.Mode.TheVariants.{Reader, Writer}
use Rattle.lock_core.specs.declared.views.View.{View}
use Rattle.lock_core.specs.declared.views.Todo.{Todo}
use Rattle.lock_core.specs.declared.views.Todo.TheVariants.{Forward, FromHead}
use Rattle.lock_laws.specs.Paths.{Reach}
use Rattle.lock_core.specs.Words.{Heap, to}
use Rattle.lock_core.specs.Nodes.{Listed, listed}
use Rattle.lock_laws.specs.Invariant.{IsViewOf, InChain, IsOrdered, IsWritten, HasToSee, first_cell_of}
use Rattle.lock_laws.proofs.Along.{along, clear_behind, reader_first}
use Rattle.lock_laws.proofs.Paths.{unreach}
use Rattle.lock_laws.proofs.Judging.{hi_is, writer_odd, reader_low}
use Rattle.lock_laws.proofs.Frames.Parts.{Parts}
use Rattle.lock_laws.proofs.Frames.Quiet.{Calm}
use Rattle.lock_laws.proofs.Frames.Steady.{Rival}

-- words that don't change at all are calm
pub calm_same : (h : Heap) → Calm h h
calm_same h = record { head = refl; next = λ x. refl; lo = λ x. refl; hi = λ x. refl }

-- the high end in the words of a linked node, and its mode
pub end_is : (h : Heap) (k : Listed) → IsWritten h k → h.hi k.node / 2 ≡ k.range.hi
end_is h k w = ap (λ a. a / 2) w.hi ∙ hi_is k.range.hi k.mode

-- the hi word of a linked writer is odd
pub writer_is : (h : Heap) (k : Listed) → IsWritten h k → k.mode ≡ Writer → h.hi k.node % 2 ≡ 1
writer_is h k w e = ap (λ a. a % 2) w.hi ∙ writer_odd k.range.hi k.mode e

-- the hi word of a linked reader is even
pub reader_is : (h : Heap) (k : Listed) → IsWritten h k → k.mode ≡ Reader → h.hi k.node % 2 ≡ 0
reader_is h k w e = ap (λ a. a % 2) w.hi ∙ reader_low k.range.hi k.mode e

-- a reader and a writer are two nodes
pub two_nodes : (h : Heap) (r w : Listed) → IsWritten h r → IsWritten h w → r.mode ≡ Reader → w.mode ≡ Writer → r.node ≡ w.node → ⊥
two_nodes h r w a b reader writer e = let x = reader_is h r a reader in let y = writer_is h w b writer in
    let z = ap (λ n. h.hi n % 2) e in omega (arith, x, y, z)

module _ (h : Heap) (views : List View) (s : ℕ) (v : View) (k g : Listed) (parts : Parts h views) (at : IsViewOf views s v)
    (own : v.own ≡ listed k) (rival : Rival views k g) where
  -- the words of the own node have its range and mode
  pub mine_written : IsWritten h k
  mine_written = (parts.each s v at).linked k own

  -- the own node is in the chain
  pub mine_chain : InChain h k.node
  mine_chain = (parts.places.linked s v k at own).0

  -- the words of the rival have its range and mode
  pub rival_written : IsWritten h g
  rival_written = (parts.each rival.seat rival.view rival.there).linked g rival.own

  -- the rival is in the chain
  pub rival_chain : InChain h g.node
  rival_chain = (parts.places.linked rival.seat rival.view g rival.there rival.own).0

  abbrev Way : Type 0
  Way = ((k.todo ≡ Forward) × (k.mode ≡ Reader) × (g.mode ≡ Writer)) ⊎ ((k.todo ≡ FromHead) × (k.mode ≡ Writer) × (g.mode ≡ Reader))

  -- they are two nodes, and neither is behind the writer
  pub apart : k.node ≢ g.node
  apart e = ⊎_elim
      (λ (t : (k.todo ≡ Forward) × (k.mode ≡ Reader) × (g.mode ≡ Writer)). two_nodes h k g mine_written rival_written t.1 t.2 e)
      (λ (t : (k.todo ≡ FromHead) × (k.mode ≡ Writer) × (g.mode ≡ Reader)). two_nodes h g k rival_written mine_written t.2 t.1 (sym e))
      rival.way

  -- where the own node is the writer, the rival isn't behind it
  pub not_behind_mine : k.mode ≡ Writer → Reach (to h) g.node (to h (suc k.node)) → ⊥
  not_behind_mine writer r =
      let b = clear_behind h k.node g.node (to h 0) parts.chain.ordered mine_chain (writer_is h k mine_written writer) r in
      let e = end_is h k mine_written in let l = rival_written.lo in let o = rival.over.1 in omega (arith, b, e, l, o)

  -- from where a validation begins it has every rival to see
  pub sees_anew : HasToSee h k None g.node
  sees_anew = ⊎_elim
      (λ (t : (k.todo ≡ Forward) × (k.mode ≡ Reader) × (g.mode ≡ Writer)). subst
      (λ (a : Todo). Reach (to h) g.node (to h (first_cell_of a k.node))) (sym t.0)
      (reader_first h k g parts.chain.ordered mine_chain rival_chain mine_written rival_written (λ e. apart (sym e)) t.2 rival.over))
      (λ (t : (k.todo ≡ FromHead) × (k.mode ≡ Writer) × (g.mode ≡ Reader)). subst
      (λ (a : Todo). Reach (to h) g.node (to h (first_cell_of a k.node))) (sym t.0) rival_chain)
      rival.way

  -- at its own node a writer has nothing left to see
  pub blind_at_own : k.mode ≡ Writer → Reach (to h) g.node (suc k.node) → ⊥
  blind_at_own writer r = ⊎_elim (λ (e : g.node ≡ k.node). apart (sym e))
      (λ (b : Reach (to h) g.node (to h (suc k.node))). not_behind_mine writer b) (unreach (to h) g.node k.node r)

  -- and a reader before a node that starts at its end or later
  pub blind_behind : (y : ℕ) → IsOrdered h (suc y) → k.range.hi ≤ h.lo y → Reach (to h) g.node (suc y) → ⊥
  blind_behind y order far r =
      let l = along h k.range.hi g.node (suc y) order.sorted (λ n e. subst (λ a. k.range.hi ≤ h.lo a) (let q : y ≡ n = omega (arith, e) in q) far) r in
      let e = rival_written.lo in let o = rival.over.1 in omega (arith, l, e, o)

-- a writer has its own node to see, from the head on
pub sees_own_anew : (h : Heap) (k : Listed) → InChain h k.node → k.todo ≡ FromHead → HasToSee h k None k.node
sees_own_anew h k r e = subst (λ (a : Todo). Reach (to h) k.node (to h (first_cell_of a k.node))) (sym e) r
