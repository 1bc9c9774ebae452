-- The state before any step is a lock: the list is empty, every node is ready, and no view has a cursor or an own node.
use Rattle.std.proofs.Common.{◌≡◌, ℕ, ◌+◌, ◌/◌, ◌%◌, ◌<◌, ◌≤◌, None, sym, ap, ◌∙◌, subst, arith}
use Rattle.std.specs.Prelude.{◌==◌, if◌then◌else◌}
use Rattle.lock_core.specs.Counted.{times}
use Rattle.lock_core.specs.declared.views.View.{View}
use Rattle.lock_core.specs.declared.views.Own.TheVariants.{Nothing}
use Rattle.lock_laws.specs.Paths.{Reach, PathEnds, end}
use Rattle.lock_core.specs.Words.{Heap, to, cell_place, word_count}
use Rattle.lock_core.specs.Nodes.{own_times}
use Rattle.lock_core.specs.Machine.{start, heap}
use Rattle.lock_laws.specs.Invariant.{IsViewOf, InChain, InHand, LockInvariant}
use Rattle.lock_laws.specs.Laws.{IsLock}
use Rattle.lock_laws.proofs.Paths.{nothing_at_end}
use Rattle.lock_core.proofs.Opening.{zeros, started, start_once, start_sized}

module _ (seats : ℕ) where
  abbrev h : Heap
  h = heap (start seats)

  empty : to h 0 ≡ 0
  empty = ap (λ n. n / 2) (zeros (word_count seats) (cell_place seats 0))

  nobody : (x : ℕ) → InChain h x → ⊥
  nobody x r = nothing_at_end (to h) x (subst (Reach (to h) x) empty r)

  no_cursor : (i : ℕ) (v : View) → IsViewOf (start seats).views i v → v.cursor ≡ None
  no_cursor i v at = sym (ap (λ (u : View). u.cursor) (started seats i v at))

  no_own : (i : ℕ) (v : View) → IsViewOf (start seats).views i v → v.own ≡ Nothing
  no_own i v at = sym (ap (λ (u : View). u.own) (started seats i v at))

  no_used : (i x : ℕ) (v : View) → IsViewOf (start seats).views i v → times x v.used ≡ 0
  no_used i x v at = sym (ap (λ (u : View). times x u.used) (started seats i v at))

  no_homes : (i x : ℕ) (v : View) → IsViewOf (start seats).views i v → times x v.homes ≡ 0
  no_homes i x v at = sym (ap (λ (u : View). times x u.homes) (started seats i v at))

  no_hand : (x : ℕ) → InHand (start seats).views x → ⊥
  no_hand x a = let e = ap (λ (u : View). u.hand) (started seats a.seat a.view a.at) in let q = a.hand in cc

  -- the words and views before any step meet the invariant
  pub start_invariant : LockInvariant h (start seats).views
  start_invariant = record {
    order = record {
      chain = record { ends = subst (PathEnds (to h)) (sym empty) end; sorted = λ a c r e. absurd (nobody a r) };
      seen = λ i v c t at q n. absurd (let z = no_cursor i v at in cc);
    };
    places = record {
      once = λ i x v at.
          subst (λ (u : View). own_times x u.own + times x u.ready + times x u.used ≡ (if x / 16 == i then 1 else 0))
          (started seats i v at) (let e = start_once i x in omega arith);
      homes = λ i x v at. let z = no_homes i x v at in omega arith;
      at_home = λ i x v at l. absurd (let z = no_homes i x v at in omega arith);
      linked = λ i v k at q. absurd (let z = no_own i v at in cc);
      chain = λ x r. absurd (nobody x r);
      in_hand = λ x a. absurd (no_hand x a);
      one_hand = λ x a b. absurd (no_hand x a);
      used = λ i x v at q. absurd (let z = no_used i x v at in omega arith);
      apart = λ x r a. nobody x r;
      chain_home = λ x r. absurd (nobody x r);
      filling_home = λ i v f at q. absurd (let z = no_own i v at in cc);
    };
    fields = record {
      epoch = λ i v at. sym (ap (λ (u : View). u.epoch) (started seats i v at)) ∙ sym (zeros (word_count seats) (1 + i));
      filled = λ i v f at q. absurd (let z = no_own i v at in cc);
      linked = λ i v k at q. absurd (let z = no_own i v at in cc);
      cursor = λ i v c at q. absurd (let z = no_cursor i v at in cc);
      even = λ i v at e. no_cursor i v at;
      chain_range = λ x r. absurd (nobody x r);
      range = λ i x v c at q m. absurd (let z = no_cursor i v at in cc);
    };
    fast_path = record {
      alone = λ low. absurd (let z = ap (λ n. n % 2) (zeros (word_count seats) (cell_place seats 0)) in omega arith);
      kept = λ i x v c at q m. absurd (let z = no_cursor i v at in cc);
      cursor = λ i v c at q low. absurd (let z = no_cursor i v at in cc);
    };
    way = record {
      past = λ i v c f lo hi p at q. absurd (let z = no_cursor i v at in cc);
      stop = λ i v c f lo hi y at q. absurd (let z = no_cursor i v at in cc);
    };
    pairs = λ i j v u r w at at' q. absurd (let z = no_own i v at in cc);
    to_see = λ i v k at q. absurd (let z = no_own i v at in cc);
    barrier = λ i j x v u c at at' q. absurd (let z = no_cursor j u at' in cc);
    no_reuse = λ i j x v u c at at' q. absurd (let z = no_cursor j u at' in cc);
  }

-- the state before any step, with one to sixteen seats, is a lock
pub start_lock : (seats : ℕ) → 0 < seats → seats ≤ 16 → IsLock (start seats)
start_lock seats some few = record { sized = start_sized seats some few; invariant = start_invariant seats }
