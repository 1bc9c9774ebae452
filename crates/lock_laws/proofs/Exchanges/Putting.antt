-- A node is put into the list behind a cell: what that does to the paths and to their order.
use Rattle.std.proofs.Common.{◌≡◌, ◌≢◌, ◌⊎◌, ℕ, suc, ◌/◌, ◌%◌, List, inl, inr, ⊎_elim, sym, ap, ◌∙◌, subst, arith}
use Rattle.std.proofs.lemmas.Bool.{cases_eq}
use Rattle.lock_core.specs.declared.views.View.{View}
use Rattle.lock_laws.specs.Paths.{Reach, here}
use Rattle.lock_core.specs.Words.{Heap, to, IsUnmarked}
use Rattle.lock_laws.specs.Invariant.{IsViewOf, InChain, IsBefore, HasRange, LockInvariant}
use Rattle.lock_laws.proofs.Paths.{Puts, reach_on, put_keeps, put_adds, put_ends, put_keeps_from, put_adds_from, put_ends_from, put_via}
use Rattle.lock_core.proofs.Words.{WroteCell}
use Rattle.lock_laws.proofs.Judging.{before_same}
use Rattle.lock_laws.proofs.PathSteps.{Change}

-- an exchange of seat s that succeeds: cell p gets word w
pub record Exchange (seats : ℕ) (h now : Heap) (views : List View) (s : ℕ) (v : View) (p w : ℕ) : Type 0 where
  -- the invariant holds before the step
  pub invariant : LockInvariant h views
  -- v is the view of seat s before the step
  pub at : IsViewOf views s v
  -- no epoch that a view has changes
  pub epochs : (i : ℕ) (u : View) → IsViewOf views i u → now.epoch i ≡ h.epoch i
  -- the cell has that word afterwards, and no other word changed
  pub wrote : WroteCell seats h now p w

-- a cell that a step may write: the head, or the next word of an unmarked chain node
abbrev pub IsLive : Heap → ℕ → Type 0
IsLive h p = (p ≡ 0) ⊎ ((q : ℕ) × (p ≡ suc q) × InChain h q × IsUnmarked h q)

module _ {seats : ℕ} {h now : Heap} {views : List View} {s : ℕ} {v : View} {p w : ℕ} (x : Exchange seats h now views s v p w) where
  -- another cell names what it named
  pub others : (c : ℕ) → c ≢ p → to now c ≡ to h c
  others c d = ap (λ w. w / 2) (x.wrote.others c d)

  -- only a cell that a step may write is written
  pub written : IsLive h p → (c : ℕ) → (c ≡ 0) ⊎ ((q : ℕ) × (c ≡ suc q) × InChain h q × IsUnmarked h q) ⊎ (now.next c ≡ h.next c)
  written live c = ⊎_elim
      (λ (e : c ≡ p). ⊎_elim (λ (z : p ≡ 0). inl (e ∙ z))
      (λ (q : (q : ℕ) × (p ≡ suc q) × InChain h q × IsUnmarked h q). inr (inl (q.0, e ∙ q.1, q.2, q.3))) live)
      (λ (d : c ≢ p). inr (inr (x.wrote.others c d)))
      (cases_eq c p)

  -- where the cell's node, if it is one, has no mark afterwards, no node gets one
  pub unmarked_on : ((q : ℕ) → p ≡ suc q → now.next p % 2 ≡ 0) → (y : ℕ) → IsUnmarked h y → IsUnmarked now y
  unmarked_on even y low = ⊎_elim (λ (e : suc y ≡ p). ap (λ a. now.next a % 2) e ∙ even y (sym e))
      (λ (d : suc y ≢ p). ap (λ w. w % 2) (x.wrote.others (suc y) d) ∙ low) (cases_eq (suc y) p)

-- node o, whose next word names what cell p names, is put behind p
pub record Put (h now : Heap) (p o : ℕ) : Type 0 where
  -- node o named what the cell names
  pub was : to h (suc o) ≡ to h p
  -- afterwards the cell names node o
  pub is : to now p ≡ suc o
  -- the cell isn't that of node o
  pub apart : suc o ≢ p
  -- the cell is one that a step may write
  pub live : IsLive h p
  -- where it is a node's cell, that node has no mark afterwards
  pub even : (q : ℕ) → p ≡ suc q → now.next p % 2 ≡ 0
  -- it stands in order between that cell's node and the node that it names
  pub after : (y : ℕ) → to h (suc o) ≡ suc y → IsBefore h o y
  -- the node of the cell, if it has a range, stands in order before node o
  pub before : (q : ℕ) → p ≡ suc q → HasRange h q → IsBefore h q o

module _ {seats : ℕ} {h now : Heap} {views : List View} {s : ℕ} {v : View} {p w o : ℕ} (x : Exchange seats h now views s v p w) (k : Put h now p o) where
  -- node o is put behind the cell
  pub puts : Puts (to h) (to now) p o
  puts = record { others = others x; was = k.was; is = k.is; apart = k.apart }

  -- node o is reached from the cell
  reach_own : Reach (to now) o (to now p)
  reach_own = subst (Reach (to now) o) (sym k.is) here

  -- what was in the chain still is
  pub chain_keeps : (y : ℕ) → InChain h y → InChain now y
  chain_keeps y r = put_keeps_from puts y 0 r

  -- node o is in the chain
  pub own_in_chain : InChain now o
  own_in_chain =
      ⊎_elim
      (λ (e : p ≡ 0). subst (λ a. Reach (to now) o (to now a)) e reach_own)
      (λ (q : (q : ℕ) × (p ≡ suc q) × InChain h q × IsUnmarked h q).
      reach_on (to now) o q.0 (to now 0) (chain_keeps q.0 q.2) (subst (λ a. Reach (to now) o (to now a)) q.1 reach_own))
      k.live

  edge : (y z : ℕ) → ((y ≡ o) ⊎ HasRange h y × ((c : ℕ) → to h (suc y) ≡ suc c → IsBefore h y c)) → to now (suc y) ≡ suc z → IsBefore now y z
  edge y z live e =
      before_same h now x.wrote.lo x.wrote.hi y z
      (⊎_elim
      (λ (q : y ≡ o). subst (λ a. IsBefore h a z) (sym q) (k.after z (sym (others x (suc o) k.apart) ∙ subst (λ a. to now (suc a) ≡ suc z) q e)))
      (λ (old : HasRange h y × ((c : ℕ) → to h (suc y) ≡ suc c → IsBefore h y c)).
      ⊎_elim
      (λ (q : suc y ≡ p). let same : o ≡ z = let a = ap (to now) q in let b = k.is in omega arith in subst (IsBefore h y) same (k.before y (sym q) old.0))
      (λ (d : suc y ≢ p). old.1 z (sym (others x (suc y) d) ∙ e))
      (cases_eq (suc y) p))
      live)

  -- the paths gain node o and lose none, no node gets a mark, and the chain stays in order
  pub put_change : Change h now (λ y. y ≡ o) (λ _. ⊥) (λ _. ⊥)
  put_change = record {
    adds = put_adds puts;
    keeps = λ y t r. inr (put_keeps puts y t r);
    adds_from = put_adds_from puts;
    keeps_from = λ y c r. inr (put_keeps_from puts y c r);
    ordered = λ t ordered range. record {
      ends = put_ends puts t ordered.ends;
      sorted = λ y z r e. edge y z (⊎_elim inl (λ (b : Reach (to h) y t). inr (range y b, λ c. ordered.sorted y c b)) (put_adds puts y t r)) e;
    };
    chain = let o = x.invariant.order.chain in record {
      ends = put_ends_from puts 0 o.ends;
      sorted = λ y z r e. edge y z (⊎_elim inl (λ (b : InChain h y). inr (x.invariant.fields.chain_range y b, λ c. o.sorted y c b))
          (put_adds_from puts y 0 r)) e;
    };
    written = written x k.live;
    stays = λ y low. inr (unmarked_on x k.even y low);
    lo = x.wrote.lo;
    hi = x.wrote.hi;
    home = x.wrote.home;
  }

  -- a cursor that can't reach the new node itself reaches it from its next word only through its node
  pub put_next : (n cur : ℕ) → (Reach (to h) o (n / 2) → ⊥)
      → ((y : ℕ) → InChain h y → IsUnmarked h y → Reach (to h) y (n / 2) → Reach (to h) y (to h (cur / 2)))
      → Reach (to now) o (n / 2) → Reach (to now) o (to now (cur / 2))
  put_next n cur away read r =
      ⊎_elim
      (λ (old : Reach (to h) o (n / 2)). absurd (away old))
      (λ (by : (q : ℕ) × (p ≡ suc q) × Reach (to h) q (n / 2)).
      ⊎_elim
      (λ (z : p ≡ 0). let b = by.1 in absurd (omega arith))
      (λ (q : (q : ℕ) × (p ≡ suc q) × InChain h q × IsUnmarked h q).
      let same : q.0 ≡ by.0 = let b = by.1 in let c = q.1 in omega arith in
      reach_on (to now) o by.0 (to now (cur / 2))
      (put_keeps_from puts by.0 (cur / 2) (read by.0 (subst (InChain h) same q.2) (subst (IsUnmarked h) same q.3) by.2))
      (subst (λ a. Reach (to now) o (to now a)) by.1 reach_own))
      k.live)
      (put_via puts (n / 2) r)
