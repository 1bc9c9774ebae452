-- New callers by their places: those of an opening are so, and with the last one taken out the others are so still; put
-- back, the row is as it was.
use Rattle.std.proofs.Common.{arith, ◌≡◌, ℕ, ◌+◌, ◌<◌, ◌^◌, ◌∙◌, List, [], ◌∷◌, ◌++◌, Bool, false, Result, Ok, Err, inl, inr, length}
use Rattle.std.proofs.Common.{sym, refl, ap, subst, true}
use Rattle.std.specs.Prelude.{None, IfOk, IfErr, IsOk, replicate, slice_index, ◌↔◌}
use Rattle.std.proofs.lemmas.List.{get_or-replicate, length-append}
use mathlib.Core.Option.{some}
use lib.ListN.{get_elem?}
use Rattle.atomic_table.specs.Seated.{TableId}
use Rattle.atomic_table.proofs.Lists.{at_last, at_longer}
use Rattle.lock_core.proofs.ByPlace.{below}
use Rattle.list_cuts.specs.Cut.{Regions, IsCut, list_count}
use Rattle.range_rw.specs.Contract.{IsSeatCount, new_seat_in}
use Rattle.area_guard.specs.Rows.{blocks_by, keeps_by}
use Rattle.area_rows.specs.Callers.{CallerView, AreNewCallersIn, new_pass}
use Rattle.space_c.specs.declared.answers.Answer.{Answer}
use Rattle.space_c.specs.declared.answers.Answer.TheVariants.{BadCut, Callers, Memory}
use Rattle.c_handles.specs.Asked.{cut_into}
use Rattle.space_c.specs.Behind.{AreNewCallers, Behind, IsNewBehind, IsNewOf, IsNotCounted, IsNotOpened, IsShared, new_caller}

-- the caller of a number, by the calls that it may make and whether its space keeps its history
abbrev pub caller_with : ℕ → TableId → ℕ → ℕ → Bool → CallerView
caller_with lists table k calls keeps = record {
  seat = new_seat_in lists table (λ _. new_pass [] (blocks_by table) keeps calls) k;
  left = calls;
  count = 0;
  cut = record { at = record { block = 0; place = 0 }; gone = 0 };
  more = [];
  change = None;
}

-- the callers of an opening are new ones
pub new_callers : (lists : ℕ) {t : TableId} (n : ℕ) (l : List CallerView) → length l ≡ n → keeps_by t ≡ false
    → AreNewCallersIn lists t [] (replicate n (2 ^ 56)) l → AreNewCallers lists t l
new_callers lists {t} n l len unkept all k c at =
    let here : k < n = subst (λ m. k < m) len (below l k c at) in
    let calls : slice_index (replicate n (2 ^ 56)) k ≡ 2 ^ 56 = get_or-replicate n k (2 ^ 56) 0 here in
    all k c at ∙ (λ i. caller_with lists t k (calls i) (unkept i))

-- a list is one longer than without its last element
pub longer : {A : Type 0} {old : List A} (new : List A) (a : A) → old ≡ new ++ a ∷ [] → length new + 1 ≡ length old
longer new a e = sym (ap length e ∙ length-append new (a ∷ []))

-- the last caller of a row of new ones is new, and so are the others
pub taken : (lists : ℕ) (t : TableId) {old : List CallerView} (new : List CallerView) (c : CallerView) → old ≡ new ++ c ∷ [] → AreNewCallers lists t old
    → (c ≡ new_caller lists t (length new)) × AreNewCallers lists t new
taken lists t new c e all = (
  all (length new) c (subst (λ l. get_elem? l (length new) ≡ some c) (sym e) (at_last new c (length new) refl)),
  λ k b at. all k b (subst (λ l. get_elem? l k ≡ some b) (sym e) (at_longer new (c ∷ []) k b at)),
)

-- a caller put back at the end
pub put_back : {old : List CallerView} (new : List CallerView) {again : List CallerView} {c x : CallerView} → old ≡ new ++ c ∷ [] → x ≡ c
    → again ≡ new ++ x ∷ [] → again ≡ old
put_back new e is f = f ∙ (ap (λ y. new ++ y ∷ []) is ∙ sym e)

-- what is behind a handle with this caller
abbrev pub behind : CallerView → ℕ → ℕ → Regions → Behind
behind caller spare callers cut = record { caller = caller; spare = spare; callers = callers; cut = cut }

own_table : (lists : ℕ) (t : TableId) (k : ℕ) {c : CallerView} → c ≡ new_caller lists t k → c ≡ new_caller lists c.seat.table k
own_table lists t k {c} e = subst (λ x. c ≡ new_caller lists x k) (sym (ap (λ (x : CallerView). x.seat.table) e)) e

-- what is behind the first handle of a new space over a cut
pub opens : {t : TableId} {cut c : Regions} {callers n : ℕ} {old : List CallerView} (new : List CallerView) (x : CallerView) {b : Behind}
    → IsSeatCount callers → length old ≡ callers → old ≡ new ++ x ∷ [] → AreNewCallers (list_count cut) t old → n ≡ callers → c ≡ cut
    → b ≡ behind x (length new) n c → IsNewBehind cut callers b
opens {t} {cut} {callers} new x counted len e all same kept is = subst (λ z. IsNewBehind cut callers z) (sym is) (record {
  counted = counted;
  spare = longer new x e ∙ len;
  caller = own_table (list_count cut) t (length new) (taken (list_count cut) t new x e all).0;
  all = same;
  regions = kept;
})

-- what is behind a handle that shares the last of its callers, and behind the new one
pub shares : {t : TableId} {old : List CallerView} (new : List CallerView) (mine x : CallerView) (callers : ℕ) (cut : Regions) {before b : Behind}
    → behind mine (length old) callers cut ≡ before → mine.seat.table ≡ t → old ≡ new ++ x ∷ [] → AreNewCallers (list_count cut) t old
    → b ≡ behind x 0 callers cut → IsShared before (behind mine (length new) callers cut) b
shares {t} {old} new mine x callers cut {b} was table e all is =
    let now = behind mine (length new) callers cut in
    subst (λ z. IsShared z now b) was (subst (λ z. IsShared (behind mine (length old) callers cut) now z) (sym is) (record {
      kept = refl;
      spare = longer new x e;
      caller = subst (λ y. x ≡ new_caller (list_count cut) y (length new)) (sym table) (taken (list_count cut) t new x e all).0;
      rest = refl;
    }))

-- what a space over a cut begins with, by the two numbers of the cut
pub opens_cut : {A E : Type 0} (r : Result A E) (of : A → Behind) {regions bits : ℕ} (callers : ℕ) (cut : Regions) → cut.count ≡ regions
    → cut.bits ≡ bits → IsCut regions bits → IfOk r (λ b. IsNewBehind cut callers (of b))
    → IfOk r (λ b. IsCut regions bits × IsNewBehind (cut_into regions bits) callers (of b))
opens_cut (Ok b) of callers cut count size is new =
    (is, subst (λ (k : Regions). IsNewBehind k callers (of b)) (λ i. record { count = count i; bits = size i }) new)
opens_cut (Err e) of callers cut count size is new = tt

not_opened : (regions bits callers : ℕ) (why : Answer) → IsCut regions bits → IsNotCounted callers why → IsNotOpened regions bits callers why
not_opened regions bits callers Callers is why = (is, why)
not_opened regions bits callers Memory is why = (is, why)
not_opened regions bits callers _ is why = absurd why

-- where the numbers make a cut, why no space was opened is as without one
pub opens_no_cut : {A : Type 0} (r : Result A Answer) (regions bits callers : ℕ) → IsCut regions bits
    → IfErr r (IsNotCounted callers) → IfErr r (IsNotOpened regions bits callers)
opens_no_cut (Ok b) regions bits callers is why = tt
opens_no_cut (Err e) regions bits callers is why = not_opened regions bits callers e is why

-- where they make none, that is the cause
pub no_cut : {A E : Type 0} (r : Result A E) (e : E) (regions bits callers : ℕ) → r ≡ Err e → (IsOk r ↔ IsCut regions bits)
    → IsNotOpened regions bits callers BadCut
no_cut (Ok a) e regions bits callers is exactly = absurd cc
no_cut (Err x) e regions bits callers is exactly = λ cut. absurd (let never : false ≡ true = exactly.1 cut in cc)
