-- The invariant by what it says of the chain, of each view alone, and of two views together.
-- A step's proof says of the chain and of each view what is so afterwards; the nine parts follow.
use Rattle.std.proofs.Common.{◌≡◌, ℕ, suc, ◌+◌, ◌*◌, ◌/◌, ◌%◌, List, Some, None}
use Rattle.std.specs.Prelude.{◌⊎◌}
use Rattle.lock_core.specs.declared.views.View.{View}
use Rattle.lock_core.specs.declared.views.Cursor.{Cursor}
use Rattle.lock_core.specs.declared.views.Own.{Own}
use Rattle.lock_core.specs.declared.views.Todo.TheVariants.{FromHead}
use Rattle.lock_core.specs.declared.compare.Verdict.TheVariants.{Past, Stop}
use Rattle.lock_core.specs.Words.{Heap, to, IsMarked}
use Rattle.lock_core.specs.Nodes.{Filled, Listed, filling, listed}
use Rattle.lock_core.specs.Compare.{compared}
use Rattle.lock_core.specs.StepTable.{IsAtPlace}
use Rattle.lock_laws.specs.Invariant.{IsViewOf, InChain, Names, MayReach, IsOrdered, Places, IsKnown, IsWritten}
use Rattle.lock_laws.specs.Invariant.{HasRange, IsRead, IsAlone, HasToSee, Pairs, Barrier, NoReuse, LockInvariant}

-- what is kept of a cursor beside this own node
pub record IsCursorKept (h : Heap) (own : Own) (c : Cursor) : Type 0 where
  -- the path of each target that it names is in order
  pub seen : (t : ℕ) → Names c t → IsOrdered h t
  -- what it knows of its node is so of the words
  pub read : IsRead h c
  -- each node that it may reach has a range
  pub range : (x : ℕ) → MayReach h c x → HasRange h x
  -- each is in the chain, or marked, or was found with the low bit of the head
  pub kept : (x : ℕ) → MayReach h c x → InChain h x ⊎ (IsMarked h x ⊎ (c.cur ≡ 2 * suc x + 1))
  -- a cursor with the low bit has no previous node and knows nothing of its node
  pub low : c.cur % 2 ≡ 1 → (c.prev ≡ None) × (c.next ≡ None) × (c.lo ≡ None)
  -- the node before it is one that the compare rule goes past
  pub past : (f : Filled) (lo hi p : ℕ) → own ≡ filling f → f.lo ≡ Some lo → f.hi ≡ Some hi → c.prev ≡ Some p → compared f.mode lo hi (h.lo p) (h.hi p) ≡ Past
  -- at its place its node is one that the compare rule stops before
  pub stop : (f : Filled) (lo hi y : ℕ) → own ≡ filling f → f.lo ≡ Some lo → f.hi ≡ Some hi → IsAtPlace c → c.cur / 2 ≡ suc y
      → compared f.mode lo hi (h.lo y) (h.hi y) ≡ Stop

-- what is kept of the view of seat i alone
pub record IsViewKept (h : Heap) (i : ℕ) (v : View) : Type 0 where
  -- the epoch is that of the words
  pub epoch : v.epoch ≡ h.epoch i
  -- outside an operation there is no cursor
  pub even : v.epoch % 2 ≡ 0 → v.cursor ≡ None
  -- what it knows of a node that it fills is so of the words
  pub filled : (f : Filled) → v.own ≡ filling f → IsKnown h f
  -- the words of its linked node have its range and mode
  pub linked : (k : Listed) → v.own ≡ listed k → IsWritten h k
  -- what is kept of a cursor is so of its own
  pub cursor : (c : Cursor) → v.cursor ≡ Some c → IsCursorKept h v.own c
  -- a writer that validates has its own node to see
  pub to_see : (k : Listed) → v.own ≡ listed k → k.todo ≡ FromHead → HasToSee h k v.cursor k.node

-- what is kept of the chain alone
pub record IsChainKept (h : Heap) : Type 0 where
  -- the chain is in order
  pub ordered : IsOrdered h (to h 0)
  -- each of its nodes has a range
  pub range : (x : ℕ) → InChain h x → HasRange h x

-- the invariant, put together of the chain, of each view alone, and of the parts that join views
pub record Parts (h : Heap) (views : List View) : Type 0 where
  -- what is kept of the chain alone
  pub chain : IsChainKept h
  -- what is kept of each view alone
  pub each : (i : ℕ) (v : View) → IsViewOf views i v → IsViewKept h i v
  -- each node is at one place
  pub places : Places h views
  -- where the head has the low bit, one node stands alone
  pub alone : h.next 0 % 2 ≡ 1 → IsAlone h views
  -- of an overlapping reader and writer one has the other to see
  pub pairs : Pairs h views
  -- a seat that is known to be out reaches none of the homes
  pub barrier : Barrier h views
  -- no seat may reach a node that is ready or being filled
  pub no_reuse : NoReuse h views

-- the invariant gives what is kept of the chain, of each view and of the views together
pub parts_of : (h : Heap) (views : List View) → LockInvariant h views → Parts h views
parts_of h views l = record {
  chain = record { ordered = l.order.chain; range = l.fields.chain_range };
  each = λ i v at. record {
    epoch = l.fields.epoch i v at;
    even = l.fields.even i v at;
    filled = λ f own. l.fields.filled i v f at own;
    linked = λ k own. l.fields.linked i v k at own;
    cursor = λ c has. record {
      seen = λ t n. l.order.seen i v c t at has n;
      read = l.fields.cursor i v c at has;
      range = λ x m. l.fields.range i x v c at has m;
      kept = λ x m. l.fast_path.kept i x v c at has m;
      low = l.fast_path.cursor i v c at has;
      past = λ f lo hi p own a b prev. l.way.past i v c f lo hi p at has own a b prev;
      stop = λ f lo hi y own a b place cur. l.way.stop i v c f lo hi y at has own a b place cur;
    };
    to_see = λ k own todo. l.to_see i v k at own todo;
  };
  places = l.places;
  alone = l.fast_path.alone;
  pairs = l.pairs;
  barrier = l.barrier;
  no_reuse = l.no_reuse;
}

-- and these give the invariant
pub invariant_of : (h : Heap) (views : List View) → Parts h views → LockInvariant h views
invariant_of h views p = record {
  order = record { chain = p.chain.ordered; seen = λ i v c t at has n. ((p.each i v at).cursor c has).seen t n };
  places = p.places;
  fields = record {
    epoch = λ i v at. (p.each i v at).epoch;
    filled = λ i v f at own. (p.each i v at).filled f own;
    linked = λ i v k at own. (p.each i v at).linked k own;
    cursor = λ i v c at has. ((p.each i v at).cursor c has).read;
    even = λ i v at. (p.each i v at).even;
    chain_range = p.chain.range;
    range = λ i x v c at has m. ((p.each i v at).cursor c has).range x m;
  };
  fast_path = record {
    alone = p.alone;
    kept = λ i x v c at has m. ((p.each i v at).cursor c has).kept x m;
    cursor = λ i v c at has. ((p.each i v at).cursor c has).low;
  };
  way = record {
    past = λ i v c f lo hi q at has own a b prev. ((p.each i v at).cursor c has).past f lo hi q own a b prev;
    stop = λ i v c f lo hi y at has own a b place cur. ((p.each i v at).cursor c has).stop f lo hi y own a b place cur;
  };
  pairs = p.pairs;
  to_see = λ i v k at own todo. (p.each i v at).to_see k own todo;
  barrier = p.barrier;
  no_reuse = p.no_reuse;
}
