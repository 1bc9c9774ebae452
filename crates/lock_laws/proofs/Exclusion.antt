-- The invariant gives exclusion: no two held ranges of different seats conflict.
use Rattle.std.proofs.Common.{◌≡◌, ◌≢◌, ◌⊎◌, ℕ, zero, suc, List, [], ◌∷◌, map, Some, ⊎_elim, refl, sym, ap, ◌∙◌, subst, arith}
use Rattle.std.specs.Prelude.{slice_get}
use mathlib.Core.Option.{some}
use lib.ListN.{get_elem?}
use Rattle.lock_core.specs.Range.{Interval, Overlaps}
use Rattle.lock_core.specs.Grants.{Conflicts, Holds}
use Rattle.lock_core.specs.declared.range.Mode.{Mode}
use Rattle.lock_core.specs.declared.range.Mode.TheVariants.{Reader, Writer}
use Rattle.lock_core.specs.declared.range.Held.{Held}
use Rattle.lock_core.specs.declared.views.View.{View}
use Rattle.lock_core.specs.declared.views.Todo.TheVariants.{Done}
use Rattle.lock_core.specs.declared.views.Own.{Own}
use Rattle.lock_core.specs.declared.views.Own.TheVariants.{Linked}
use Rattle.lock_laws.specs.Paths.{Reach}
use Rattle.lock_core.specs.Words.{Heap, to, hi_word}
use Rattle.lock_core.specs.Nodes.{Listed, listed, own_times}
use Rattle.lock_core.specs.Machine.{Machine, heap, held_at, held_by_seat}
use Rattle.lock_laws.specs.Invariant.{IsViewOf, LockInvariant}
use Rattle.lock_laws.specs.Laws.{IsLock}
use Rattle.lock_laws.proofs.Along.{in_line, clear_behind, reader_first as linked_first}
use Rattle.lock_laws.proofs.Frames.Seeing.{two_nodes}
use Rattle.lock_core.proofs.Counts.{own_linked}
use Rattle.lock_laws.proofs.Seats.{one_seat}

-- a seat that holds something has a linked node with nothing left to do
pub record Holding (own : Own) (g : Held) : Type 0 where
  -- the linked node
  pub node : Listed
  -- it is the own node
  pub is : own ≡ listed node
  -- nothing is left to do for it
  pub done : node.todo ≡ Done
  -- its range is the held one
  pub range : node.range ≡ g.range
  -- its mode is the held one
  pub mode : node.mode ≡ g.mode

-- an own node that holds a range is linked, has nothing left to do, and has that range and mode
pub holding : (own : Own) (g : Held) → held_at own ≡ Some g → Holding own g
holding (Linked node range mode Done) g e =
    let same : record { range = range; mode = mode } ≡ g = cc in
    record {
      node = record { node = node; range = range; mode = mode; todo = Done };
      is = refl;
      done = refl;
      range = ap (λ (h : Held). h.range) same;
      mode = ap (λ (h : Held). h.mode) same;
    }
holding _ g e = absurd (cc)

-- the view of a seat that holds something
pub holder : (views : List View) (a : ℕ) (g : Held) → get_elem? (map (λ (v : View). held_at v.own) views) a ≡ some (Some g)
    → (v : View) × (slice_get views a ≡ Some v) × (held_at v.own ≡ Some g)
holder [] a g e = absurd (cc)
holder (v ∷ vs) zero g e = (v, refl, cc)
holder (v ∷ vs) (suc a) g e = holder vs a g e

module _ (h : Heap) (views : List View) (l : LockInvariant h views) where
  -- two writers in the chain don't overlap
  writers : (i j : ℕ) (v u : View) (a b : Listed) → i ≢ j → IsViewOf views i v → IsViewOf views j u → v.own ≡ listed a
      → u.own ≡ listed b → a.mode ≡ Writer → b.mode ≡ Writer → Overlaps a.range b.range → ⊥
  writers i j v u a b d at at' own own' w w' over =
      let wa = l.fields.linked i v a at own in let wb = l.fields.linked j u b at' own' in
      let ca = (l.places.linked i v a at own).0 in let cb = (l.places.linked j u b at' own').0 in
      let la = wa.lo in let lb = wb.lo in
      let ha = wa.hi ∙ ap (hi_word a.range.hi) w in let hb = wb.hi ∙ ap (hi_word b.range.hi) w' in
      let o = over.0 in let p = over.1 in
      ⊎_elim
      (λ (r : Reach (to h) a.node (to h (suc b.node))). let q = clear_behind h b.node a.node (to h 0) l.order.chain cb (omega arith) r in omega arith)
      (λ (s : (a.node ≡ b.node) ⊎ Reach (to h) b.node (to h (suc a.node))). ⊎_elim
      (λ (e : a.node ≡ b.node).
      let ta = own_linked v a own in let tb = ap (λ n. own_times n u.own) e ∙ own_linked u b own' in
      d (one_seat h views l.places i j a.node v u at at' (omega arith) (omega arith)))
      (λ (r : Reach (to h) b.node (to h (suc a.node))). let q = clear_behind h a.node b.node (to h 0) l.order.chain ca (omega arith) r in omega arith)
      s)
      (in_line (to h) a.node b.node (to h 0) ca cb)

  -- a reader and a writer that overlap aren't both done
  mixed : (i j : ℕ) (v u : View) (r w : Listed) → IsViewOf views i v → IsViewOf views j u → v.own ≡ listed r → u.own ≡ listed w
      → r.mode ≡ Reader → w.mode ≡ Writer → r.todo ≡ Done → w.todo ≡ Done → Overlaps r.range w.range → ⊥
  mixed i j v u r w at at' own own' reader writer done done' over =
      ⊎_elim (λ t. let e = t.0 in cc) (λ t. let e = t.0 in cc) (l.pairs i j v u r w at at' own own' reader writer over)

  apart : (i j : ℕ) (v u : View) (a b : Listed) (m n : Mode) → i ≢ j → IsViewOf views i v → IsViewOf views j u → v.own ≡ listed a
      → u.own ≡ listed b → a.todo ≡ Done → b.todo ≡ Done → a.mode ≡ m → b.mode ≡ n → Overlaps a.range b.range
      → (m ≡ Writer) ⊎ (n ≡ Writer) → ⊥
  apart i j v u a b Reader Reader d at at' own own' done done' e e' over w = ⊎_elim (λ q. cc) (λ q. cc) w
  apart i j v u a b Reader Writer d at at' own own' done done' e e' over w = mixed i j v u a b at at' own own' e e' done done' over
  apart i j v u a b Writer Reader d at at' own own' done done' e e' over w = mixed j i u v b a at' at own' own e' e done' done (over.1, over.0)
  apart i j v u a b Writer Writer d at at' own own' done done' e e' over w = writers i j v u a b d at at' own own' e e' over

-- no two held ranges of different seats conflict
pub exclusive : (m : Machine) → IsLock m → (i j : ℕ) (g k : Held) → i ≢ j → Holds (held_by_seat m) i g → Holds (held_by_seat m) j k → Conflicts g k → ⊥
exclusive m l i j g k d at at' c =
    let a = holder m.views i g at in let b = holder m.views j k at' in
    let x = holding a.0.own g a.2 in let y = holding b.0.own k b.2 in
    let over : Overlaps x.node.range y.node.range = subst (λ (t : Interval × Interval). Overlaps t.0 t.1) (λ i. (sym x.range i, sym y.range i)) c.0 in
    apart (heap m) m.views l.invariant i j a.0 b.0 x.node y.node g.mode k.mode d a.1 b.1 x.is y.is x.done y.done x.mode y.mode over c.1

-- of a linked reader and a linked writer that overlap the reader stands first
pub reader_first : (m : Machine) (i j : ℕ) (v u : View) (r w : Listed) → IsLock m → slice_get m.views i ≡ Some v
    → slice_get m.views j ≡ Some u → v.own ≡ listed r → u.own ≡ listed w → r.mode ≡ Reader → w.mode ≡ Writer
    → Overlaps r.range w.range → Reach (to (heap m)) w.node (to (heap m) (suc r.node))
reader_first m i j v u r w l at at' own own' reader writer over =
    let p = l.invariant.places in let a = l.invariant.fields.linked i v r at own in let b = l.invariant.fields.linked j u w at' own' in
    linked_first (heap m) r w l.invariant.order.chain (p.linked i v r at own).0 (p.linked j u w at' own').0 a b
    (λ e. two_nodes (heap m) r w a b reader writer (sym e)) writer over
