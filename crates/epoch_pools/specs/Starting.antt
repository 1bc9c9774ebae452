-- The table at its opening: the first view holds what all seats begin with, and is cut into one view for each number.
-- The lemmas are here, and not among the proofs, since the laws of the table's rule cite them.
use Rattle.std.specs.Prelude.{◌≡◌, ℕ, zero, suc, ◌+◌, ◌-◌, ◌*◌, ◌<◌, ◌≤◌, List, [], ◌∷◌, ◌++◌, drop, length, cond, refl}
use Rattle.std.proofs.Common.{set, ltb, sym, ap, ◌∙◌, subst, arith, length-set, ⊎_elim}
use Rattle.std.proofs.lemmas.Bool.{lt-ltb, le-ltb}
use mathlib.Core.Option.{some, some-injective, some-ne-none}
use mathlib.Core.Logic.{dite}
use native.Mathlib.Decide.{dec_le, ℕ_discrete}
use lib.ListN.{get_elem?}
use Rattle.atomic_table.specs.Table.{Splits}
use Rattle.atomic_table.proofs.Lists.{at_set, set_here, set_else, at_longer, at_last}
use Rattle.lock_core.specs.Grants.{Grants}
use Rattle.list_cuts.specs.Cut.{Regions}
use Rattle.lock_core.specs.Words.{word_count}
use Rattle.lock_core.proofs.ByPlace.{below, snoc_at}
use Rattle.epoch_pools.specs.declared.views.SeatLists.{SeatLists}
use Rattle.epoch_pools.specs.declared.views.ListView.{ListView}
use Rattle.epoch_pools.specs.Running.{view, IsOwned, Stands, IsRunningList}
use Rattle.epoch_pools.specs.Hands.{fresh}

-- what the seat of number n begins with, over all words of a table of so many lists
abbrev pub begin : {P : Type 0} → (List ℕ → ℕ → P) → ℕ → ℕ → List ℕ → ℕ → SeatLists P
begin first lists seats words n = fresh (first (drop (lists * word_count seats) words) n) lists seats n

-- the parts from number n on, so many
abbrev pub parts_from : {P : Type 0} → (ℕ → SeatLists P) → ℕ → ℕ → List (SeatLists P)
parts_from f n zero = []
parts_from f n (suc k) = f n ∷ parts_from f (suc n) k

module _ {P : Type 0} (f : ℕ → SeatLists P) where
  pub parts_at : (s k i : ℕ) (p : SeatLists P) → get_elem? (parts_from f s k) i ≡ some p → (i < k) × (p ≡ f (s + i))
  parts_at s zero i p e = absurd (some-ne-none p (sym e))
  parts_at s (suc k) zero p e = let z : s ≡ s + 0 = omega arith in (omega arith, sym (some-injective (f s) p e) ∙ ap f z)
  parts_at s (suc k) (suc i) p e = let r = parts_at (suc s) k i p e in let z : suc s + i ≡ s + suc i = omega arith in (omega (arith, r.0), r.1 ∙ ap f z)

  pub at_parts : (s k i : ℕ) → i < k → get_elem? (parts_from f s k) i ≡ some (f (s + i))
  at_parts s zero i h = absurd (omega arith)
  at_parts s (suc k) zero h = let z : s ≡ s + 0 = omega arith in ap (λ n. some (f n)) z
  at_parts s (suc k) (suc i) h = let z : suc s + i ≡ s + suc i = omega arith in at_parts (suc s) k i (omega arith) ∙ ap (λ n. some (f n)) z

  pub length-parts_from : (s k : ℕ) → length (parts_from f s k) ≡ k
  length-parts_from s zero = refl
  length-parts_from s (suc k) = ap suc (length-parts_from (suc s) k)

  last_part : (s : ℕ) → parts_from f s ((s + 1) - s) ≡ f s ∷ []
  last_part s = let z : (s + 1) - s ≡ 1 = omega arith in ap (λ k. parts_from f s k) z

  module _ (numbered : (n : ℕ) → (f n).number ≡ n) (views : List (ListView P)) (parts : List (SeatLists P)) (owner : ℕ → ℕ) (seats s id : ℕ)
      (count : length parts ≡ seats) (o : IsOwned views parts owner) (more : s + 1 < seats)
      (at : get_elem? views id ≡ some (view (parts_from f s (seats - s)))) where
    -- every number from s on stands in the view that is cut
    mine : (n : ℕ) → s ≤ n → n < seats → (get_elem? parts n ≡ some (f n)) × (owner n ≡ id)
    mine n le lt = let i = n - s in let back : s + i ≡ n = omega arith in
        let e : get_elem? (parts_from f s (seats - s)) i ≡ some (f n) = at_parts s (seats - s) i (omega arith) ∙ ap (λ m. some (f m)) back in
        let r = o id (view (parts_from f s (seats - s))) at i (f n) e in
        (ap (get_elem? parts) (sym (numbered n)) ∙ r.0, ap owner (sym (numbered n)) ∙ r.1)

    abbrev owner' : ℕ → ℕ
    owner' n = cond (ltb s n) (length views) (owner n)

    above : (n : ℕ) → s < n → owner' n ≡ length views
    above n lt = ap (λ b. cond b (length views) (owner n)) (lt-ltb s n lt)

    kept : (n : ℕ) → n ≤ s → owner' n ≡ owner n
    kept n le = ap (λ b. cond b (length views) (owner n)) (le-ltb s n le)

    pub cut_owned : IsOwned (set views id (view (f s ∷ [])) ++ view (parts_from f (s + 1) (seats - (s + 1))) ∷ []) parts owner'
    cut_owned id' v at' k p there = ⊎_elim
        (λ old. ⊎_elim
        (λ t.  -- the view that was cut
        let e : get_elem? (f s ∷ []) k ≡ some p = subst (λ (z : ListView P). get_elem? z.parts k ≡ some p) (sym t.1) there in
        let q = parts_at s 1 k p e in
        let i : s + k ≡ s = let lt = q.0 in omega arith in
        let is : p ≡ f s = q.1 ∙ ap f i in
        let m = mine s (omega arith) (omega arith) in
        let num : p.number ≡ s = ap (λ (x : SeatLists P). x.number) is ∙ numbered s in
        (ap (get_elem? parts) num ∙ (m.0 ∙ ap some (sym is)), ap owner' num ∙ (kept s (omega arith) ∙ (m.1 ∙ sym t.0))))
        (λ t. let r = o id' v t.1 k p there in
        let lt = below parts p.number p r.0 in
        dite (dec_le p.number s)
        (λ le. (r.0, kept p.number le ∙ r.1))
        (λ no. absurd (t.0 (sym r.1 ∙ (mine p.number (omega arith) (omega arith)).1))))
        (at_set views id id' (view (f s ∷ [])) v old))
        (λ new. let e : get_elem? (parts_from f (s + 1) (seats - (s + 1))) k ≡ some p =
        subst (λ (z : ListView P). get_elem? z.parts k ≡ some p) (sym new.1) there in
        let q = parts_at (s + 1) (seats - (s + 1)) k p e in
        let n = (s + 1) + k in
        let num : p.number ≡ n = ap (λ (x : SeatLists P). x.number) q.1 ∙ numbered n in
        let lt = q.0 in
        let m = mine n (omega arith) (omega arith) in (
          ap (get_elem? parts) num ∙ (m.0 ∙ ap some (sym q.1)),
          ap owner' num
              ∙ (above n (omega arith) ∙ (sym (length-set views id (view (f s ∷ []))) ∙ sym new.0)),
        ))
        (snoc_at (set views id (view (f s ∷ []))) (view (parts_from f (s + 1) (seats - (s + 1)))) v id' at')

    abbrev views' : List (ListView P)
    views' = set views id (view (f s ∷ [])) ++ view (parts_from f (s + 1) (seats - (s + 1))) ∷ []

    -- the view that was cut
    here : get_elem? views' id ≡ some (view (f s ∷ []))
    here = at_longer (set views id (view (f s ∷ []))) (view (parts_from f (s + 1) (seats - (s + 1))) ∷ []) id (view (f s ∷ []))
        (set_here views id (view (f s ∷ [])) (below views id (view (parts_from f s (seats - s))) at))

    pub cut_stands : (n : ℕ) → n < seats → Stands views (owner n) n → Stands views' (owner' n) n
    cut_stands n lt st = dite (dec_le n s)
        (λ le. dite (ℕ_discrete (owner n) id)
        (λ e.  -- a number of the view that was cut, at most its first
        let is : view (parts_from f s (seats - s)) ≡ st.holder = some-injective _ _ (sym at ∙ (ap (get_elem? views) (sym e) ∙ st.at)) in
        let q = parts_at s (seats - s) st.place st.part (subst (λ (z : ListView P). get_elem? z.parts st.place ≡ some st.part) (sym is) st.has) in
        let num : s + st.place ≡ n = sym (numbered (s + st.place)) ∙ (ap (λ (x : SeatLists P). x.number) (sym q.1) ∙ st.number) in
        record {
          holder = view (f s ∷ []);
          at = ap (get_elem? views') (kept n le ∙ e) ∙ here;
          place = 0;
          part = f s;
          has = refl;
          number = let first : s ≡ n = omega arith in numbered s ∙ first;
        })
        (λ differ. record {
          holder = st.holder;
          at = ap (get_elem? views') (kept n le) ∙ at_longer (set views id (view (f s ∷ [])))
              (view (parts_from f (s + 1) (seats - (s + 1))) ∷ []) (owner n) st.holder
              (set_else views id (owner n) (view (f s ∷ [])) differ ∙ st.at);
          place = st.place;
          part = st.part;
          has = st.has;
          number = st.number;
        }))
        (λ no. let back : (s + 1) + (n - (s + 1)) ≡ n = omega arith in
        record {
          holder = view (parts_from f (s + 1) (seats - (s + 1)));
          at = ap (get_elem? views') (above n (omega arith))
              ∙ at_last (set views id (view (f s ∷ []))) (view (parts_from f (s + 1) (seats - (s + 1)))) (length views)
              (length-set views id (view (f s ∷ [])));
          place = n - (s + 1);
          part = f n;
          has = at_parts (s + 1) (seats - (s + 1)) (n - (s + 1)) (omega arith) ∙ ap (λ m. some (f m)) back;
          number = numbered n;
        })

-- one seat can be cut off
pub cuts : {P : Type 0} (first : List ℕ → ℕ → P) (holds : Grants → List ℕ → List P → Type 0) (c : Regions) (lists seats clients : ℕ) (words : List ℕ) (s id : ℕ)
    → s + 1 < seats → Splits (IsRunningList c seats clients holds) id (view (parts_from (begin first lists seats words) s (seats - s)))
    (view (begin first lists seats words s ∷ [])) (view (parts_from (begin first lists seats words) (s + 1) (seats - (s + 1))))
cuts first holds c lists seats clients words s id more st running at = let r = running.2 in (
  running.0,
  owner' (begin first lists seats words) (λ n. refl) st.views running.0 running.1 seats s id r.count r.owned more at,
  record {
    cut = r.cut;
    count = r.count;
    wide = r.wide;
    owned = cut_owned (begin first lists seats words) (λ n. refl) st.views running.0 running.1 seats s id r.count r.owned more at;
    stands = λ n lt. cut_stands (begin first lists seats words) (λ n. refl) st.views running.0 running.1 seats s id r.count r.owned more at n lt
        (r.stands n lt);
    same = r.same;
    lists_are = r.lists_are;
  },
)

-- what is left for the last seat is its own view
pub last_view : {P : Type 0} (first : List ℕ → ℕ → P) (lists : ℕ) (words : List ℕ) (s : ℕ)
    → view (parts_from (begin first lists (s + 1) words) s ((s + 1) - s)) ≡ view (begin first lists (s + 1) words s ∷ [])
last_view first lists words s = ap view (last_part (begin first lists (s + 1) words) s)
