-- Two seats are joined into one, and the rule still holds.
use Rattle.std.proofs.Common.{◌≡◌, ℕ, ◌+◌, List, ◌++◌, set, sum_by, Contains, Some, sym, subst, ◌∙◌, ⊎_elim, arith, length-append}
use Rattle.std.proofs.lemmas.List.Sums.{sum_by-append}
use Rattle.std.proofs.lemmas.List.Elements.{Contains-append_left, Contains-append_right, Contains-append_cases}
use mathlib.Core.Option.{some}
use lib.ListN.{get_elem?}
use Rattle.atomic_table.specs.Table.{Joins}
use Rattle.atomic_table.proofs.Lists.{at_set}
use Rattle.page_touch.specs.declared.records.SeatRecord.{SeatRecord}
use Rattle.page_touch.specs.Touched.{IsTouchTable, IsWithin, IsIn, AreOthers, begin, quota_of, first_count, first_times, times, one_if}
use Rattle.page_touch.specs.Gathering.{gathered}
use Rattle.page_touch.specs.Starting.{sum_after, begin_within, none_in}

both_within : {v w : SeatRecord} → IsWithin v → IsWithin w → IsWithin (gathered v w)
both_within {v} {w} a b =
    let t = length-append v.touched w.touched in let f = length-append v.firsts w.firsts in
    let a1 = a.quota in let a2 = a.firsts in let b1 = b.quota in let b2 = b.firsts in
    record {
      quota = omega arith;
      firsts = omega arith;
      member = λ page h. ⊎_elim (λ l. Contains-append_left v.touched w.touched page (a.member page l))
          (λ r. Contains-append_right v.touched w.touched page (b.member page r)) (Contains-append_cases v.firsts w.firsts page h);
    }

-- the seat that stays has what belonged to both, the other one nothing, so no sum changes
pub joins : (room total id other : ℕ) (v w : SeatRecord) → Joins (IsTouchTable room total) id v other w (gathered v w) (begin 0)
joins room total id other v w s r at differ there =
    let both : SeatRecord = gathered v w in let none : SeatRecord = begin 0 in
    let views : List SeatRecord = set s.views id both in
    let was : get_elem? s.views other ≡ some w = ⊎_elim (λ t. absurd (differ t.0)) (λ t. t.1) (at_set s.views id other both w there) in
    let of_view : (P : SeatRecord → Type 0) → P both → P none → ((j : ℕ) (u : SeatRecord) → get_elem? s.views j ≡ some u → P u) → (j : ℕ) (u : SeatRecord)
    → get_elem? (set views other none) j ≡ some u → P u = λ P p q old j u e. ⊎_elim (λ t. subst P t.1 q) (λ t. ⊎_elim (λ x. subst P x.1 p) (λ x. old j u x.1)
    (at_set s.views id j both u t.1)) (at_set views other j none u e) in
    let sums : (f : SeatRecord → ℕ) → f both + f none ≡ f v + f w → sum_by f (set views other none) ≡ sum_by f s.views =
    λ f e. let a = sum_after f s.views id v both at in let b = sum_after f views other w none there in omega arith in
    record {
      wide = r.wide;
      some_room = r.some_room;
      enough = r.enough;
      shares = sums quota_of (omega arith) ∙ r.shares;
      within = of_view IsWithin (both_within (r.within id v at) (r.within other w was)) (begin_within 0) r.within;
      full = r.full ∙ sym (sums first_count (let l = length-append v.firsts w.firsts in omega arith));
      told = λ page. sums (first_times page) (let l : times page
          (v.firsts ++ w.firsts) ≡ times page v.firsts + times page w.firsts = sum_by-append (one_if page) v.firsts w.firsts in omega arith) ∙ r.told page;
      alone = r.alone;
      probed = r.probed;
      looked = λ j u l e is. of_view (λ x. x.looking ≡ Some l
          → AreOthers room s.words l.page l.count) (λ i. absurd cc) (λ i. absurd cc) (λ k x a i. r.looked k x l a i) j u e is;
      kept = λ j page u e has. of_view (λ x. Contains x.touched page → IsIn room s.words page)
          (λ h. ⊎_elim (λ l. r.kept id page v at l) (λ m. r.kept other page w was m) (Contains-append_cases v.touched w.touched page h))
          (λ h. absurd (none_in page h)) (λ k x a i. r.kept k page x a i) j u e has;
    }
