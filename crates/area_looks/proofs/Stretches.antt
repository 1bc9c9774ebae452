-- Stretches of pages of one kind, one behind the other, make the area list of the pages that they cover, where the kind
-- changes from each to the next.
use Rattle.std.proofs.Common.{◌≡◌, ◌≢◌, ℕ, ◌+◌, ◌-◌, ◌*◌, ◌<◌, ◌≤◌, ◌⊎◌, length, inl, inr, List, [], ◌∷◌, ◌++◌, Option, Some, None}
use Rattle.std.proofs.Common.{sym, ◌∙◌, ap, subst, refl, arith, ⊎_elim}
use Rattle.std.proofs.lemmas.List.{append-nil}
use Rattle.std.proofs.lemmas.Bool.{cases_lt}
use Rattle.std.proofs.lemmas.Bool.Decides.{nat_tests}
use Rattle.page_types.specs.declared.TheConstants.{LIMIT}
use Rattle.page_types.specs.declared.calls.Kind.{Kind}
use Rattle.space_model.specs.declared.areas.Area.{Area}
use Rattle.space_model.specs.Areas.{IsInRange, MayFollow, IsAreaList, HasKinds, kind_at}
use Rattle.space_model.proofs.AreaKinds.{kind_at-here, kind_at-after}
use Rattle.space_model.proofs.Joining.{first_of, first_of-none, kind_at-append, IsFreeFrom, ends_below}
use Rattle.row_plans.specs.RowLists.{with_row}
use Rattle.area_looks.specs.Shown.{kinds_within, AreAreasIn, AreRead}

-- a page of the stretch has the kind of the state
pub within_in : (lo hi : ℕ) (state : List Area) (p : ℕ) → lo ≤ p → p < hi → kinds_within lo hi state p ≡ kind_at state p
within_in lo hi state p l h = grind (arith, nat_tests)

-- a page before it has none
pub within_before : (lo hi : ℕ) (state : List Area) (p : ℕ) → p < lo → kinds_within lo hi state p ≡ None
within_before lo hi state p l = grind (arith, nat_tests)

-- nor has one behind it
pub within_behind : (lo hi : ℕ) (state : List Area) (p : ℕ) → hi ≤ p → kinds_within lo hi state p ≡ None
within_behind lo hi state p l = grind (arith, nat_tests)

-- an area behind an area list, whose kind isn't that of the page before it, makes an area list with it
list_more : (A : List Area) (a : Area) → IsAreaList A → IsFreeFrom A a.lo → IsInRange a → kind_at A (a.lo - 1) ≢ Some a.kind
    → IsAreaList (A ++ a ∷ [])
list_more [] a w free r apart = (r, tt, tt)
list_more (b ∷ []) a w free r apart =
    let l : b.hi ≤ a.lo = ends_below b [] a.lo w.0 free in
    let some_page : b.lo < b.hi = w.0.has_page in
    let follows : MayFollow b a = record {
      after = l;
      differs = λ touch same. apart (kind_at-here b [] (a.lo - 1) (omega arith) (omega arith) ∙ ap Some same);
    } in
    (w.0, follows, (r, tt, tt))
list_more (b ∷ c ∷ rest) a w free r apart =
    let l : b.hi ≤ a.lo = ends_below b (c ∷ rest) a.lo w.0 free in
    let tail : IsFreeFrom (c ∷ rest) a.lo = λ p low. sym (kind_at-after b (c ∷ rest) p (omega arith)) ∙ free p low in
    let end : c.hi ≤ a.lo = ends_below c rest a.lo w.2.0 tail in
    let some_page : c.lo < c.hi = w.2.0.has_page in
    let follows : b.hi ≤ c.lo = w.1.after in
    (w.0, w.1, list_more (c ∷ rest) a w.2 tail r (λ e. apart (kind_at-after b (c ∷ rest) (a.lo - 1) (omega arith) ∙ e)))

-- the kinds up to a page, and behind it those of an area, are the kinds up to its end
more_kinds : (lo page end : ℕ) (state : List Area) (k : Kind) (p : ℕ) → lo ≤ page → page < end
    → ((q : ℕ) → page ≤ q → q < end → kind_at state q ≡ Some k)
    → first_of (kinds_within lo page state p) (kind_at (record { lo = page; hi = end; kind = k } ∷ []) p) ≡ kinds_within lo end state p
more_kinds lo page end state k p from some_page kinds =
    let a : Area = record { lo = page; hi = end; kind = k } in
    elim (cases_lt p page) [
      | inl low ↦
          elim (cases_lt p lo) [
            | inl out ↦
                ap (λ o. first_of o (kind_at (a ∷ []) p)) (within_before lo page state p out)
                ∙ (before_one a p low ∙ sym (within_before lo end state p out))
            | inr in_it ↦
                ap (λ o. first_of (kinds_within lo page state p) o) (before_one a p low)
                ∙ (first_of-none (kinds_within lo page state p)
                ∙ (within_in lo page state p in_it low ∙ sym (within_in lo end state p in_it (omega arith))))
          ]
      | inr high ↦
          elim (cases_lt p end) [
            | inl here ↦
                ap (λ o. first_of o (kind_at (a ∷ []) p)) (within_behind lo page state p high)
                ∙ (kind_at-here a [] p high here ∙ (sym (kinds p high here) ∙ sym (within_in lo end state p (omega arith) here)))
            | inr behind ↦
                ap (λ o. first_of o (kind_at (a ∷ []) p)) (within_behind lo page state p high)
                ∙ (kind_at-after a [] p behind ∙ sym (within_behind lo end state p behind))
          ]
    ]
  where
    before_one : (a : Area) (p : ℕ) → p < a.lo → kind_at (a ∷ []) p ≡ None
    before_one a p low = grind (arith, nat_tests)

-- the kinds up to a page, where those behind it up to another have none, are the kinds up to that
gap_kinds : (lo page end : ℕ) (state : List Area) (p : ℕ) → lo ≤ page → page < end → ((q : ℕ) → page ≤ q → q < end → kind_at state q ≡ None)
    → kinds_within lo page state p ≡ kinds_within lo end state p
gap_kinds lo page end state p from some_page kinds =
    elim (cases_lt p page) [
      | inl low ↦
          elim (cases_lt p lo) [
            | inl out ↦ within_before lo page state p out ∙ sym (within_before lo end state p out)
            | inr in_it ↦ within_in lo page state p in_it low ∙ sym (within_in lo end state p in_it (omega arith))
          ]
      | inr high ↦
          elim (cases_lt p end) [
            | inl here ↦ within_behind lo page state p high ∙ (sym (kinds p high here) ∙ sym (within_in lo end state p (omega arith) here))
            | inr behind ↦ within_behind lo page state p high ∙ sym (within_behind lo end state p behind)
          ]
    ]

-- no page is read yet
pub none_read : (lo hi : ℕ) (state : List Area) → AreRead lo hi lo 0 [] state
none_read lo hi state = record {
  areas = record {
    areas = tt;
    kinds_are = λ p. elim (cases_lt p lo) [
      | inl out ↦ sym (within_before lo lo state p out)
      | inr behind ↦ sym (within_behind lo lo state p behind)
    ];
  };
  turns = λ l. absurd (omega arith);
  few = omega arith;
  fewer = λ way. omega arith;
}

-- the areas up to a page with a gap behind them
gap_more : (lo hi page end rows : ℕ) (list state : List Area) → AreRead lo hi page rows list state → lo ≤ page → page < end → end ≤ hi
    → ((p : ℕ) → page ≤ p → p < end → kind_at state p ≡ None) → (end < hi → kind_at state end ≢ None) → AreRead lo hi end (rows + 1) (list ++ []) state
gap_more lo hi page end rows list state r from some_page until kinds turn =
    let last : kind_at state (end - 1) ≡ None = kinds (end - 1) (omega arith) (omega arith) in
    let here : kind_at state page ≡ None = kinds page (omega arith) (omega arith) in
    let wide : length (list ++ []) ≡ length list = ap length (append-nil list) in
    let before : rows ≤ 2 * length list =
    elim (cases_lt lo page) [
      | inl on ↦ r.fewer (inr (λ none. r.turns on (omega arith) (none ∙ sym here)))
      | inr first ↦ r.fewer (inl (omega arith))
    ] in
    record {
      areas = subst (λ l. AreAreasIn lo end l state) (sym (append-nil list))
          (record { areas = r.areas.areas; kinds_are = λ p. r.areas.kinds_are p ∙ gap_kinds lo page end state p from some_page kinds });
      turns = λ l h same. turn h (sym same ∙ last);
      few = omega arith;
      fewer = λ way. ⊎_elim (λ same. absurd (omega arith)) (λ some_kind. absurd (some_kind last)) way;
    }

-- and with an area behind them
area_more : (lo hi page end rows : ℕ) (k : Kind) (list state : List Area) → AreRead lo hi page rows list state → lo ≤ page → page < end → end ≤ hi
    → hi ≤ LIMIT → ((p : ℕ) → page ≤ p → p < end → kind_at state p ≡ Some k) → (end < hi → kind_at state end ≢ Some k)
    → AreRead lo hi end (rows + 1) (list ++ record { lo = page; hi = end; kind = k } ∷ []) state
area_more lo hi page end rows k list state r from some_page until limit kinds turn =
    let a : Area = record { lo = page; hi = end; kind = k } in
    let last : kind_at state (end - 1) ≡ Some k = kinds (end - 1) (omega arith) (omega arith) in
    let here : kind_at state page ≡ Some k = kinds page (omega arith) (omega arith) in
    let before = r.few in
    let wide : length (list ++ a ∷ []) ≡ length list + 1 = longer list a in
    let free : IsFreeFrom list page = λ p low. r.areas.kinds_are p ∙ within_behind lo page state p low in
    let apart : kind_at list (page - 1) ≢ Some k = λ same.
    elim (cases_lt lo page) [
      | inl on ↦ r.turns on (omega arith)
          (sym (within_in lo page state (page - 1) (omega arith) (omega arith)) ∙ (sym (r.areas.kinds_are (page - 1)) ∙ (same ∙ sym here)))
      | inr first ↦ none_some (sym (none_before r first) ∙ same)
    ] in
    record {
      areas = record {
        areas = list_more list a r.areas.areas free (record { has_page = some_page; below_limit = omega arith }) apart;
        kinds_are = λ p. kind_at-append list (a ∷ []) p
            ∙ (ap (λ o. first_of o (kind_at (a ∷ []) p)) (r.areas.kinds_are p) ∙ more_kinds lo page end state k p from some_page kinds);
      };
      turns = λ l h same. turn h (sym same ∙ last);
      few = omega arith;
      fewer = λ way. omega arith;
    }
  where
    longer : (l : List Area) (a : Area) → length (l ++ a ∷ []) ≡ length l + 1
    longer [] a = refl
    longer (b ∷ l) a = let more : length (l ++ a ∷ []) ≡ length l + 1 = longer l a in omega arith

    none_some : {k : Kind} → None ≡ Some k → ⊥
    none_some e = cc

    none_before : AreRead lo hi page rows list state → page ≤ lo → kind_at list (page - 1) ≡ None
    none_before r first = r.areas.kinds_are (page - 1) ∙ elim (cases_lt (page - 1) lo) [
      | inl out ↦ within_before lo page state (page - 1) out
      | inr in_it ↦ within_behind lo page state (page - 1) (omega arith)
    ]

-- one row more, from the page up to which the others reach
pub row_more : (lo hi page end rows : ℕ) (kind : Option Kind) (list state : List Area) → AreRead lo hi page rows list state → lo ≤ page → page < end
    → end ≤ hi → hi ≤ LIMIT → ((p : ℕ) → page ≤ p → p < end → kind_at state p ≡ kind) → (end < hi → kind_at state end ≢ kind)
    → AreRead lo hi end (rows + 1) (list ++ with_row page kind end []) state
row_more lo hi page end rows None list state r from some_page until limit kinds turn = gap_more lo hi page end rows list state r from some_page until kinds turn
row_more lo hi page end rows (Some k) list state r from some_page until limit kinds turn =
    area_more lo hi page end rows k list state r from some_page until limit kinds turn
