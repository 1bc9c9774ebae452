-- What a seat may rely on when it makes a step follows from what its view keeps.
use Rattle.std.proofs.Common.{◌≡◌, ℕ, ◌+◌, ◌/◌, ◌<◌, ◌≤◌, Bool, true, false, List, [], ◌∷◌, ◌++◌, length, Some, refl}
use Rattle.std.proofs.Common.{sym, ap, subst, arith, eqb-true, eq-eqb, length-append}
use Rattle.std.specs.Prelude.{◌==◌, if◌then◌else◌, slice_get}
use Rattle.view_lists.specs.Counted.{times}
use Rattle.lock_core.specs.Range.{IsRange}
use Rattle.lock_core.specs.declared.views.View.{View}
use Rattle.lock_core.specs.Nodes.{own_times}
use Rattle.lock_core.specs.Sizes.{IsNode, IsViewSized, MayStep}
use Rattle.lock_core.proofs.Counts.{times_joined}
use Rattle.lock_core.proofs.Pigeons.{few_of_seat, some_true}

itself : (b : Bool) → b ≡ true → 1 ≤ (if b then 1 else 0)
itself true e = omega arith
itself false e = absurd (cc)

first_some : (x : ℕ) (l : List ℕ) → slice_get l 0 ≡ Some x → 1 ≤ times x l
first_some x [] e = absurd (cc)
first_some x (y ∷ ys) e = let same : y ≡ x = cc in let l = itself (y == x) (eq-eqb y x same) in omega arith

module _ (seats s : ℕ) (v : View) (few : seats ≤ 16) (there : s < seats) (old : IsViewSized seats s v) where
  -- a node that is counted in the lists of a seat is there
  counted : (x : ℕ) → 1 ≤ own_times x v.own + times x v.ready + times x v.used → IsNode seats x
  counted x l =
      let e = eqb-true _ _ (some_true (x / 16 == s) (own_times x v.own + times x v.ready + times x v.used) (old.nodes.nodes x) l) in
      omega arith

  -- a list whose nodes are counted no more often has room
  room : (l : List ℕ) → ((x : ℕ) → times x l ≤ own_times x v.own + times x v.ready + times x v.used) → length l ≤ 16
  room l le = few_of_seat s l (λ x. let a = le x in let b = old.nodes.nodes x in omega arith)

  own_counts : (node x : ℕ) → own_times x v.own ≡ (if node == x then 1 else 0) → (l : List ℕ) → times x (node ∷ l) ≡ own_times x v.own + times x l
  own_counts node x e l = ap (λ n. n + times x l) (sym e)

  homes_counted : (x : ℕ) → times x (v.ready ++ v.homes) ≤ own_times x v.own + times x v.ready + times x v.used
  homes_counted x = let j = times_joined x v.ready v.homes in let h = old.nodes.homes_used x in omega arith

  came_counted : (n x : ℕ) → 1 ≤ times n v.used → times n v.homes ≡ 0 → times x (n ∷ v.ready ++ v.homes) ≤ own_times x v.own + times x v.ready + times x v.used
  came_counted n x used homes = go (n == x) refl (times_joined x v.ready v.homes) (old.nodes.homes_used x)
    where
      go : (b : Bool) → (n == x) ≡ b → times x (v.ready ++ v.homes) ≡ times x v.ready + times x v.homes → times x v.homes ≤ times x v.used →
          (if b then 1 else 0) + times x (v.ready ++ v.homes) ≤ own_times x v.own + times x v.ready + times x v.used
      go true e j l = let q = eqb-true n x e in let a = ap (λ y. times y v.used) q in let b = ap (λ y. times y v.homes) q in omega arith
      go false e j l = omega arith

  -- a view with its sizes, of a seat that is there, has all that the functions of the steps ask for
  pub may_step : MayStep seats s v
  may_step = record {
    few = few;
    seat = there;
    filling = λ node lo hi mode aimed e. counted node (let t = ap (own_times node) e in let i = itself (node == node) (eq-eqb node node refl) in omega arith);
    ends = λ node lo hi mode aimed e.
        let o = old.own.filled (record { node = node; lo = Some lo; hi = Some hi; mode = mode; aimed = aimed }) e in
        let r = o.hi hi refl in let same : lo ≡ r.0 = let q = r.1 in cc in subst (λ (l : ℕ). IsRange l hi) (sym same) r.2;
    linked = λ node range mode todo e. counted node (let t = ap (own_times node) e in let i = itself (node == node) (eq-eqb node node refl) in omega arith);
    hand = old.hand;
    prev = λ c p e. (old.cursor c e).prev p;
    cur = λ c e. (old.cursor c e).cur;
    first = λ n e. counted n (let l = first_some n v.ready e in omega arith);
    used = λ n l. counted n (omega arith);
    notes = old.notes;
    passed = old.passed;
    ready_room = λ node lo hi mode aimed e.
        let l = room (node ∷ v.ready) (λ x. let o = own_counts node x (ap (own_times x) e) v.ready in omega arith) in omega arith;
    used_room = λ node range mode todo e.
        let l = room (node ∷ v.used) (λ x. let o = own_counts node x (ap (own_times x) e) v.used in omega arith) in omega arith;
    release_room = let l = room (v.ready ++ v.homes) homes_counted in let e = length-append v.ready v.homes in omega arith;
    home_room = λ n used homes. let l = room (n ∷ v.ready ++ v.homes) (λ x. came_counted n x used homes) in
        let e = length-append v.ready v.homes in omega arith;
  }
