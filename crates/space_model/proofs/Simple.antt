-- When a Protect within one area keeps the number of areas and of gaps.
use Rattle.std.proofs.Common.{◌≡◌, ℕ, zero, suc, ◌+◌, ◌-◌, ◌<◌, ◌≤◌, ◌⊎◌, inl, inr, IsTrue, Bool, true, not, ◌&&◌, List, [], ◌∷◌, length, Option, Some, None}
use Rattle.std.proofs.Common.{is_some, is_none, sym, ◌∙◌, ap, subst, refl, arith}
use Rattle.std.proofs.lemmas.Bool.{cases_lt}
use Rattle.std.proofs.lemmas.Bool.Decides.{nat_tests}
use Rattle.std.specs.List.{Contains}
use Rattle.std.specs.Option.{option_map}
use Rattle.page_types.specs.declared.TheConstants.{LIMIT}
use Rattle.page_types.specs.declared.calls.Kind.{Kind}
use Rattle.page_types.specs.declared.calls.Call.TheVariants.{Protect}
use Rattle.page_types.specs.declared.sets.Prot.{Prot}
use Rattle.page_types.specs.Pages.{page_of, end_page}
use Rattle.space_model.specs.declared.areas.Area.{Area}
use Rattle.space_model.specs.Areas.{IsInRange, IsAreaList, HasKinds, kind_at, gaps_from, row_count}
use Rattle.space_model.specs.declared.paint.Paint.TheVariants.{Protects}
use Rattle.space_model.specs.declared.paint.Patch.{Patch}
use Rattle.space_model.specs.Effect.{protected_kind, patch, with_patch}
use Rattle.space_model.specs.Held.{LiesIn, kind_before, IsSimpleIn, IsSimple}
use Rattle.space_model.specs.Starts.{same_option, count_if, border, KeepsRows}
use Rattle.space_model.specs.Building.{changed_list}
use Rattle.space_model.proofs.AreaKinds.{kind_at-here, kind_at-after, kind_at-below, LeadsTo-above}
use Rattle.space_model.proofs.Changing.{patch-outside, patch-inside, changed_list-kinds, kind_at-limit}
use Rattle.space_model.proofs.Counting.{row_at, rows_to, rows_none, rows_step, rows_same, rows_first, every, every-rows, gaps-rows}

-- an area of a list is in range
pub member_in_range : (A : List Area) (a : Area) → IsAreaList A → Contains A a → IsInRange a
member_in_range [] a w (k, l, e) = absurd (omega arith)
member_in_range (x ∷ rest) a w (zero, l, e) = subst IsInRange e w.0
member_in_range (x ∷ rest) a w (suc k, l, e) = member_in_range rest a w.2 (k, omega arith, e)

-- and gives its pages their kind
pub kind_at-member : (A : List Area) (a : Area) (p : ℕ) → IsAreaList A → Contains A a → a.lo ≤ p → p < a.hi →
    kind_at A p ≡ Some a.kind
kind_at-member [] a p w (k, l, e) low high = absurd (omega arith)
kind_at-member (x ∷ rest) a p w (zero, l, e) low high =
    subst (λ y. kind_at (x ∷ rest) p ≡ Some y.kind) e
    (kind_at-here x rest p (subst (λ y. y.lo ≤ p) (sym e) low) (subst (λ y. p < y.hi) (sym e) high))
kind_at-member (x ∷ rest) a p w (suc k, l, e) low high =
    let some : kind_at rest p ≡ Some a.kind = kind_at-member rest a p w.2 (k, omega arith, e) low high in
    elim (cases_lt p x.hi) [
      | inl lt ↦
          let none : kind_at rest p ≡ None = kind_at-below rest x.hi p w.2 (LeadsTo-above x rest w.1) lt in cc
      | inr ge ↦ kind_at-after x rest p ge ∙ some
    ]

-- a row starts alike where two pages and the ones before them have the same kinds
row_same : (sort : Option Kind → Bool) (f g : ℕ → Option Kind) (p : ℕ) → g p ≡ f p → (0 < p → g (p - 1) ≡ f (p - 1)) →
    row_at sort g p ≡ row_at sort f p
row_same sort f g zero e h = ap (λ o. count_if (sort o && true)) e
row_same sort f g (suc q) e h =
    let back : suc q - 1 ≡ q = omega arith in
    let d : g q ≡ f q = ap g (sym back) ∙ h (omega arith) ∙ ap f back in
    λ i. count_if (sort (e i) && not (same_option (d i) (e i)))

-- a row starts at a page as its kind differs from that of the page before
starts_border : (f : ℕ → Option Kind) (A : List Area) (lo : ℕ) (k : Kind) → f lo ≡ Some k →
    ((q : ℕ) → lo ≡ suc q → f q ≡ kind_at A q) → row_at every f lo ≡ border (kind_before A lo) (Some k)
starts_border f A zero k e h = refl
starts_border f A (suc q) k e h = λ i. border (h q refl i) (e i)

ends_border : (f : ℕ → Option Kind) (hi : ℕ) (k : Kind) → 0 < hi → f (hi - 1) ≡ Some k → row_at every f hi ≡ border (Some k) (f hi)
ends_border f zero k l e = absurd (omega arith)
ends_border f (suc q) k l e =
    let back : suc q - 1 ≡ q = omega arith in ap (λ o. border o (f (suc q))) (ap f (sym back) ∙ e)

module _ (A B : List Area) (prot : Prot) (lo hi : ℕ) (a : Area) (w : IsAreaList A) (lies : LiesIn A a lo hi)
    (l : lo < hi) (after_call : HasKinds (with_patch (patch lo hi (Protects prot)) (kind_at A)) B) where
  new : Kind
  new = protected_kind prot a.kind

  abbrev change : Patch
  change = patch lo hi (Protects prot)

  was : (p : ℕ) → lo ≤ p → p < hi → kind_at A p ≡ Some a.kind
  was p low high = kind_at-member A a p w lies.member (omega (arith, lies.from)) (omega (arith, lies.within))

  is_new : (p : ℕ) → lo ≤ p → p < hi → kind_at B p ≡ Some new
  unfolding new
  is_new p low high =
      after_call.kinds_are p ∙ patch-inside change (kind_at A) p low high ∙ ap (option_map (protected_kind prot)) (was p low high)

  still : (p : ℕ) → (p < lo) ⊎ (hi ≤ p) → kind_at B p ≡ kind_at A p
  still p out = after_call.kinds_are p ∙ patch-outside change (kind_at A) p out

  -- rows before and after, with those that start at the two ends
  rows-after :
      row_count B + (border (kind_before A lo) (Some a.kind) + border (Some a.kind) (kind_at A hi)) ≡
      row_count A + (border (kind_before A lo) (Some new) + border (Some new) (kind_at A hi))
  rows-after =
      let f : ℕ → Option Kind = kind_at A in
      let g : ℕ → Option Kind = kind_at B in
      let below = rows_same every f g 0 lo (omega arith) (λ p _ h. row_same every f g p (still p (inl h)) (λ _. still (p - 1) (inl (omega arith)))) in
      let left_old = starts_border f A lo a.kind (was lo (omega arith) l) (λ q e. refl) in
      let left_new = starts_border g A lo new (is_new lo (omega arith) l) (λ q e. still q (inl (omega arith))) in
      let first_old = rows_first every f lo hi (Some a.kind) l was in
      let first_new = rows_first every g lo hi (Some new) l is_new in
      let old_rows = every-rows A w in let new_rows = every-rows B after_call.areas in
      elim (cases_lt hi LIMIT) [
        | inl lt ↦
            let above = rows_same every f g (suc hi) LIMIT lt
            (λ p h _. row_same every f g p (still p (inr (omega arith))) (λ _. still (p - 1) (inr (omega arith)))) in
            let right_old = ends_border f hi a.kind (omega arith) (was (hi - 1) (omega arith) (omega arith)) in
            let right_new = ends_border g hi new (omega arith) (is_new (hi - 1) (omega arith) (omega arith)) ∙
            ap (border (Some new)) (still hi (inr (omega arith))) in
            omega (arith, rows_none, rows_step)
        | inr ge ↦
            let end : hi ≡ LIMIT = omega (arith, lies.within, (member_in_range A a w lies.member).below_limit) in
            let none : kind_at A hi ≡ None = kind_at-limit A w hi ge in
            omega (arith, rows_none, ap (border (Some a.kind)) none, ap (border (Some new)) none, ap (rows_to every f) end, ap (rows_to every g) end)
      ]

-- a gap starts where a page without kind follows one with a kind
gap_starts : (o q : Option Kind) → count_if (is_none q && not (same_option o q)) ≡ count_if (is_none q && is_some o)
gap_starts None None = refl
gap_starts (Some k) None = refl
gap_starts o (Some m) = refl

gap_row : (f g : ℕ → Option Kind) → ((p : ℕ) → is_some (g p) ≡ is_some (f p)) → (p : ℕ) → row_at is_none g p ≡ row_at is_none f p
gap_row f g e zero = ap (λ b. count_if (not b && true)) (e zero)
gap_row f g e (suc q) =
    gap_starts (g q) (g (suc q)) ∙ (λ i. count_if (not (e (suc q) i) && e q i)) ∙ sym (gap_starts (f q) (f (suc q)))

still_some : (prot : Prot) (o : Option Kind) → is_some (option_map (protected_kind prot) o) ≡ is_some o
still_some prot None = refl
still_some prot (Some k) = refl

mapped_still : (A B : List Area) (prot : Prot) (lo hi p : ℕ) →
    HasKinds (with_patch (patch lo hi (Protects prot)) (kind_at A)) B → is_some (kind_at B p) ≡ is_some (kind_at A p)
mapped_still A B prot lo hi p k = grind (arith, nat_tests, k.kinds_are p, still_some prot (kind_at A p))

-- a Protect keeps the number of gaps
gaps-after : (A B : List Area) (prot : Prot) (lo hi : ℕ) → IsAreaList A →
    HasKinds (with_patch (patch lo hi (Protects prot)) (kind_at A)) B → gaps_from 0 B ≡ gaps_from 0 A
gaps-after A B prot lo hi w k =
    let same = rows_same is_none (kind_at A) (kind_at B) 0 LIMIT (omega arith)
    (λ p _ _. gap_row (kind_at A) (kind_at B) (λ q. mapped_still A B prot lo hi q k) p) in
    omega (arith, gaps-rows A w, gaps-rows B k.areas, rows_none)

-- so the number of areas changes as the rows do that start at the two ends
length-after : (A B : List Area) (prot : Prot) (lo hi : ℕ) (a : Area) → IsAreaList A → LiesIn A a lo hi → lo < hi →
    HasKinds (with_patch (patch lo hi (Protects prot)) (kind_at A)) B →
    length B + (border (kind_before A lo) (Some a.kind) + border (Some a.kind) (kind_at A hi)) ≡
    length A + (border (kind_before A lo) (Some (protected_kind prot a.kind)) + border (Some (protected_kind prot a.kind)) (kind_at A hi))
unfolding new
length-after A B prot lo hi a w lies l k = omega (arith, rows-after A B prot lo hi a w lies l k, gaps-after A B prot lo hi w k)

-- the list that the change of the pages gives has as many areas and as many gaps
pub record KeepsCounts (A : List Area) (change : Patch) (B : List Area) : Type 0 where
  pub changed : HasKinds (with_patch change (kind_at A)) B
  pub areas : length B ≡ length A
  pub gaps : gaps_from 0 B ≡ gaps_from 0 A

-- so a Protect within one area keeps the counts exactly where it keeps the rows that start at its ends
pub keeps_counts : (A : List Area) (prot : Prot) (lo hi : ℕ) (a : Area) → IsAreaList A → LiesIn A a lo hi →
    lo < hi → hi ≤ LIMIT → KeepsRows (kind_before A lo) a.kind (protected_kind prot a.kind) (kind_at A hi) →
    (B : List Area) × KeepsCounts A (patch lo hi (Protects prot)) B
keeps_counts A prot lo hi a w lies l h b =
    let B = changed_list A (patch lo hi (Protects prot) ∷ []) in
    let k = changed_list-kinds A (patch lo hi (Protects prot) ∷ []) w (omega arith, omega arith, h) in
    let n = length-after A B prot lo hi a w lies l k in
    (B, record { changed = k; areas = omega (arith, n, b); gaps = gaps-after A B prot lo hi w k })

-- a Protect within one area that keeps the counts keeps the rows that start at its ends
pub keeps_borders : (A B : List Area) (prot : Prot) (lo hi : ℕ) (a : Area) → IsAreaList A → LiesIn A a lo hi →
    lo < hi → KeepsCounts A (patch lo hi (Protects prot)) B → KeepsRows (kind_before A lo) a.kind (protected_kind prot a.kind) (kind_at A hi)
keeps_borders A B prot lo hi a w lies l k =
    omega (arith, length-after A B prot lo hi a w lies l k.changed, k.areas)

-- the same, of the span of the call; one within a sealed area is simple whatever it does to the rows
pub simple_in : (A : List Area) (addr len : ℕ) (prot : Prot) (lo hi : ℕ) (a : Area) → lo ≡ page_of addr →
    hi ≡ end_page addr len → IsAreaList A → LiesIn A a lo hi → lo < hi → hi ≤ LIMIT →
    IsTrue a.kind.sealed ⊎ KeepsRows (kind_before A lo) a.kind (protected_kind prot a.kind) (kind_at A hi) →
    IsSimpleIn A (Protect addr len prot) a
simple_in A addr len prot lo hi a e f w lies l h (inl sealed) =
    let its = subst (λ (z : ℕ × ℕ). LiesIn A a z.0 z.1) (λ i. (e i, f i)) lies in
    (its.member, its.from, its.within, inl sealed)
simple_in A addr len prot lo hi a e f w lies l h (inr b) =
    let both =
    subst (λ (z : ℕ × ℕ). LiesIn A a z.0 z.1 × ((B : List Area) × KeepsCounts A (patch z.0 z.1 (Protects prot)) B)) (λ i. (e i, f i))
    (lies, keeps_counts A prot lo hi a w lies l h b) in
    let its = both.0 in let kept = both.1.1 in
    (its.member, its.from, its.within, inr (both.1.0, kept.changed, kept.areas, kept.gaps))

-- two areas of a list that have a page in common are of one kind
one_kind : (A : List Area) (a other : Area) (p : ℕ) → kind_at A p ≡ Some a.kind → kind_at A p ≡ Some other.kind → other.kind ≡ a.kind
one_kind A a other p e d = let same : Some other.kind ≡ Some a.kind = sym d ∙ e in cc

-- of a simple Protect of pages within an area the area is sealed, or it keeps the rows that start at its ends
pub simple_borders : (A : List Area) (addr len : ℕ) (prot : Prot) (lo hi : ℕ) (a : Area) → lo ≡ page_of addr →
    hi ≡ end_page addr len → IsAreaList A → LiesIn A a lo hi → lo < hi → IsSimple A (Protect addr len prot) →
    IsTrue a.kind.sealed ⊎ KeepsRows (kind_before A lo) a.kind (protected_kind prot a.kind) (kind_at A hi)
simple_borders A addr len prot lo hi a e f w lies l (other, (member, from, within, inl sealed)) =
    let there : LiesIn A other (page_of addr) (end_page addr len) = record { member = member; from = from; within = within } in
    let its = subst (λ (z : ℕ × ℕ). LiesIn A other z.0 z.1) (λ i. (sym e i, sym f i)) there in
    let same =
    one_kind A a other lo (kind_at-member A a lo w lies.member lies.from (omega (arith, lies.within)))
    (kind_at-member A other lo w its.member its.from (omega (arith, its.within))) in
    inl (subst (λ (k : Kind). IsTrue k.sealed) same sealed)
simple_borders A addr len prot lo hi a e f w lies l (other, (member, from, within, inr (B, changed, areas, gaps))) =
    let k : KeepsCounts A (patch (page_of addr) (end_page addr len) (Protects prot)) B = record { changed = changed; areas = areas; gaps = gaps } in
    inr (keeps_borders A B prot lo hi a w lies l
    (subst (λ (z : ℕ × ℕ). KeepsCounts A (patch z.0 z.1 (Protects prot)) B) (λ i. (sym e i, sym f i)) k))
