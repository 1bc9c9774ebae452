-- What the counts of a node in a seat's lists say: a node that is counted is of that seat, and stands there once.
use Rattle.std.proofs.Common.{◌≡◌, ◌≢◌, ◌⊎◌, ℕ, ◌+◌, ◌≤◌, Bool, true, false, List, [], ◌∷◌, ◌++◌, inl, inr, ⊎_elim, refl, sym, ap, ◌∙◌, arith, eqb-true, eq-eqb}
use Rattle.std.specs.Prelude.{◌==◌, if◌then◌else◌}
use Rattle.std.proofs.lemmas.Bool.{cases_eq}
use Rattle.view_lists.specs.Counted.{times, without}
use Rattle.lock_core.specs.declared.views.View.{View}
use Rattle.lock_core.specs.Nodes.{Filled, Listed, filling, listed, own_times}

-- a node that is being filled counts once as the own one
pub own_filling : (v : View) (f : Filled) → v.own ≡ filling f → own_times f.node v.own ≡ 1
own_filling v f e = ap (own_times f.node) e ∙ ap (λ (b : Bool). if b then 1 else 0) (eq-eqb f.node f.node refl)

-- a linked node counts once as the own one
pub own_linked : (v : View) (k : Listed) → v.own ≡ listed k → own_times k.node v.own ≡ 1
own_linked v k e = ap (own_times k.node) e ∙ ap (λ (b : Bool). if b then 1 else 0) (eq-eqb k.node k.node refl)

-- in two lists joined a number counts as often as in both together
pub times_joined : (x : ℕ) (a b : List ℕ) → times x (a ++ b) ≡ times x a + times x b
times_joined x [] b = omega arith
times_joined x (y ∷ a) b = let ih = times_joined x a b in omega arith

times_first : (x y : ℕ) (b : Bool) → (y == x) ≡ b → x ≢ y → ◌≡◌ {A = ℕ} (if b then 1 else 0) 0
times_first x y true e d = absurd (d (sym (eqb-true y x e)))
times_first x y false e d = refl

-- of a list of one node
pub times_other : (x y : ℕ) → x ≢ y → times x (y ∷ []) ≡ 0
times_other x y d = ap (λ n. n + 0) (times_first x y (y == x) refl d)

-- in a list of one node that node counts once
pub times_itself : (x : ℕ) → times x (x ∷ []) ≡ 1
times_itself x = ap (λ (b : Bool). (if b then 1 else 0) + 0) (eq-eqb x x refl)

keep_none : (x y : ℕ) (hs rest ys : List ℕ) (b c : Bool) → (times y hs == 0) ≡ b → (y == x) ≡ c → times x hs ≡ 0
    → times x rest ≡ times x ys → times x (if b then y ∷ rest else rest) ≡ (if c then 1 else 0) + times x ys
keep_none x y hs rest ys true c eb ec e ih = ap (λ (d : Bool). (if d then 1 else 0) + times x rest) ec ∙ ap (λ n. (if c then 1 else 0) + n) ih
keep_none x y hs rest ys false true eb ec e ih =
    let same : y ≡ x = eqb-true y x ec in absurd (let f : (times y hs == 0) ≡ true = eq-eqb (times y hs) 0 (ap (λ a. times a hs) same ∙ e) in cc)
keep_none x y hs rest ys false false eb ec e ih = omega arith

-- a node that isn't in the first list stays in the second without the first
pub without_none : (x : ℕ) (hs l : List ℕ) → times x hs ≡ 0 → times x (without hs l) ≡ times x l
without_none x hs [] e = refl
without_none x hs (y ∷ ys) e = keep_none x y hs (without hs ys) ys (times y hs == 0) (y == x) refl refl e (without_none x hs ys e)

keep_some : (x y : ℕ) (hs rest : List ℕ) (b c : Bool) → (times y hs == 0) ≡ b → (y == x) ≡ c → 1 ≤ times x hs → times x rest ≡ 0
    → times x (if b then y ∷ rest else rest) ≡ 0
keep_some x y hs rest false c eb ec e ih = ih
keep_some x y hs rest true true eb ec e ih = absurd (let z = eqb-true (times y hs) 0 eb in let same : y ≡ x = eqb-true y x ec in
    let t = ap (λ a. times a hs) same in omega arith)
keep_some x y hs rest true false eb ec e ih = ap (λ (d : Bool). (if d then 1 else 0) + times x rest) ec ∙ omega arith

-- and one that is in it isn't there
pub without_some : (x : ℕ) (hs l : List ℕ) → 1 ≤ times x hs → times x (without hs l) ≡ 0
without_some x hs [] e = refl
without_some x hs (y ∷ ys) e = keep_some x y hs (without hs ys) (times y hs == 0) (y == x) refl refl e (without_some x hs ys e)

-- the counts after the homes became ready
pub once_after : (x own one : ℕ) (ready homes used : List ℕ) → own + times x ready + times x used ≡ one → one ≤ 1
    → times x homes ≤ times x used → own + times x (ready ++ homes) + times x (without homes used) ≡ one
once_after x own one ready homes used e few le =
    ⊎_elim
    (λ (z : times x homes ≡ 0). let a = without_none x homes used z in let b = times_joined x ready homes in omega arith)
    (λ (d : times x homes ≢ 0). let a = without_some x homes used (omega arith) in let b = times_joined x ready homes in omega arith)
    (cases_eq (times x homes) 0)

-- the own node is used from now on: it stands there once, and the counts stay
module _ (v : View) (k : Listed) (own : v.own ≡ listed k) where
  -- after the move every node counts as often over the own node and the used ones as before
  pub counts_moved : (x : ℕ) → 0 + times x (v.used ++ k.node ∷ []) ≡ own_times x v.own + times x v.used
  counts_moved x = let a = times_joined x v.used (k.node ∷ []) in let b = ap (own_times x) own in omega arith

  -- a node that counts once among the used ones then is the own one, or did so before
  pub used_or_own : (x : ℕ) → times x (v.used ++ k.node ∷ []) ≡ 1 → (x ≡ k.node) ⊎ (times x v.used ≡ 1)
  used_or_own x e = ⊎_elim inl (λ (d : x ≢ k.node). inr (let a = times_joined x v.used (k.node ∷ []) in
      let z = times_other x k.node d in omega arith)) (cases_eq x k.node)

  -- no node counts less often among the used ones
  pub used_grows : (x : ℕ) → times x v.used ≤ times x (v.used ++ k.node ∷ [])
  used_grows x = let a = times_joined x v.used (k.node ∷ []) in omega arith
