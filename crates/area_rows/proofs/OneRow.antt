-- One row word of a list is replaced: its start moves between those of its neighbours, or its kind changes to one that
-- neither has. The rows then show the changed kinds.
use Rattle.std.proofs.Common.{◌≡◌, ◌≢◌, ℕ, zero, suc, ◌<◌, ◌≤◌, ◌⊎◌, List, [], ◌∷◌, drop, length, get_or, set, sym, refl, ap, ◌∙◌, subst, arith, inl, inr}
use Rattle.std.proofs.Common.{⊎_elim}
use Rattle.std.proofs.lemmas.Bool.{cases_lt}
use Rattle.std.specs.Prelude.{Option, Some, None}
use mathlib.Core.Option.{some}
use lib.ListN.{get_elem?}
use Rattle.page_types.specs.declared.calls.Kind.{Kind}
use Rattle.area_guard.specs.declared.guard.Change.{Change}
use Rattle.area_guard.specs.Changes.{IsIn, with_change}
use Rattle.area_guard.specs.RowStores.{in_change, out_of_change}
use Rattle.area_rows.specs.declared.row.Row.{Row}
use Rattle.area_rows.specs.OneStore.{IsOneStore}
use Rattle.area_rows.specs.OneStore.IsOneStore.{whole, first_part, last_part}
use Rattle.area_rows.proofs.Moments.{first_start}
use Rattle.row_plans.specs.RowWords.{row_start, row_kind}
use Rattle.row_plans.specs.RowLists.{rows_start, DiffersFrom, ShowFrom}
use Rattle.row_plans.proofs.RowLists.{some_none}

-- kinds that agree from a page on are shown alike
same_from : (page : ℕ) (rows : List ℕ) (kinds others : ℕ → Option Kind) → ((p : ℕ) → page ≤ p → others p ≡ kinds p)
    → ShowFrom page rows kinds → ShowFrom page rows others
same_from page [] kinds others same show = show
same_from page (w ∷ rest) kinds others same show = let l = show.1 in
    (show.0, show.1, show.2, λ p low high. same p low ∙ show.3 p low high, same_from (rows_start rest) rest kinds others (λ p low. same p (omega arith)) show.4)

-- a word fits in the place of the row behind row i, and leaves these kinds
record Fits (rows : List ℕ) (i word : ℕ) (kinds others : ℕ → Option Kind) : Type 0 where
  above : row_start (get_or rows i 0) < row_start word
  under : row_start word < rows_start (drop (suc (suc i)) rows)
  differs : row_kind (get_or rows i 0) ≢ row_kind word
  next : DiffersFrom word (drop (suc (suc i)) rows)
  left : (p : ℕ) → row_start (get_or rows i 0) ≤ p → p < row_start word → others p ≡ row_kind (get_or rows i 0)
  own : (p : ℕ) → row_start word ≤ p → p < rows_start (drop (suc (suc i)) rows) → others p ≡ row_kind word
  low : (p : ℕ) → p < row_start (get_or rows i 0) → others p ≡ kinds p
  high : (p : ℕ) → rows_start (drop (suc (suc i)) rows) ≤ p → others p ≡ kinds p

-- the start of the row that is kept before
first_low : (page : ℕ) (rows : List ℕ) (kinds : ℕ → Option Kind) (i : ℕ) → ShowFrom page rows kinds → i < length rows → page ≤ row_start (get_or rows i 0)
first_low page [] kinds i show lt = absurd (omega arith)
first_low page (w ∷ rest) kinds zero show lt = let e = show.0 in omega arith
first_low page (w ∷ rest) kinds (suc i) show lt = let r = first_low (rows_start rest) rest kinds i show.4 (omega arith) in let l = show.1 in omega arith

set_row_shows : (page : ℕ) (rows : List ℕ) (i : ℕ) {word : ℕ} {kinds others : ℕ → Option Kind} → ShowFrom page rows kinds → suc i < length rows
    → Fits rows i word kinds others → ShowFrom page (set rows (suc i) word) others
set_row_shows page [] i show lt f = absurd (omega arith)
set_row_shows page (v ∷ []) i show lt f = absurd (omega arith)
set_row_shows page (v ∷ w ∷ rest) zero {kinds} {others} show lt f =
    let e = show.0 in (
      show.0,
      (let a = f.above in omega arith),
      f.differs,
      (λ p low high. f.left p (omega arith) high),
      (refl, f.under, f.next, f.own, same_from (rows_start rest) rest kinds others f.high show.4.4),
    )
set_row_shows page (v ∷ w ∷ rest) (suc i) {kinds} show lt f =
    let more = first_low (row_start w) (w ∷ rest) kinds i show.4 (omega arith) in (
      show.0,
      show.1,
      show.2,
      (λ p low high. f.low p (omega arith) ∙ show.3 p low high),
      set_row_shows (row_start w) (w ∷ rest) i show.4 (omega arith)
          (record { above = f.above; under = f.under; differs = f.differs; next = f.next; left = f.left; own = f.own; low = f.low; high = f.high }),
    )

-- the first row keeps its start
set_first_shows : (rows : List ℕ) (word : ℕ) (kinds others : ℕ → Option Kind) → ShowFrom 0 rows kinds → 0 < length rows
    → row_start word ≡ 0 → DiffersFrom word (drop 1 rows) → ((p : ℕ) → p < rows_start (drop 1 rows) → others p ≡ row_kind word)
    → ((p : ℕ) → rows_start (drop 1 rows) ≤ p → others p ≡ kinds p) → ShowFrom 0 (set rows 0 word) others
set_first_shows [] word kinds others show lt start differs own high = absurd (omega arith)
set_first_shows (w ∷ rest) word kinds others show lt start differs own high =
    (start, show.1, differs, λ p low less. own p less, same_from (rows_start rest) rest kinds others high show.4)

-- a row ends behind its start, its pages have its kind, and the next one differs
pub record ShownAt (rows : List ℕ) (kinds : ℕ → Option Kind) (i : ℕ) : Type 0 where
  -- it ends behind its start
  pub grows : row_start (get_or rows i 0) < rows_start (drop (suc i) rows)
  -- its pages have its kind
  pub within : (p : ℕ) → row_start (get_or rows i 0) ≤ p → p < rows_start (drop (suc i) rows) → kinds p ≡ row_kind (get_or rows i 0)
  -- the row behind it has another kind
  pub differs : DiffersFrom (get_or rows i 0) (drop (suc i) rows)

-- each row of a list that shows kinds is shown like that
pub shown_at : (page : ℕ) (rows : List ℕ) (kinds : ℕ → Option Kind) (i : ℕ) → ShowFrom page rows kinds → i < length rows → ShownAt rows kinds i
shown_at page [] kinds i show lt = absurd (omega arith)
shown_at page (w ∷ rest) kinds zero show lt =
    record { grows = (let e = show.0 in let l = show.1 in omega arith); within = λ p low high. show.3 p (let e = show.0 in omega arith) high; differs = show.2 }
shown_at page (w ∷ rest) kinds (suc i) show lt = let r = shown_at (rows_start rest) rest kinds i show.4 (omega arith) in
    record { grows = r.grows; within = r.within; differs = r.differs }

-- the next row starts where this one ends
pub next_is : (rows : List ℕ) (i : ℕ) → i < length rows → rows_start (drop i rows) ≡ row_start (get_or rows i 0)
next_is [] i lt = absurd (omega arith)
next_is (w ∷ rest) zero lt = refl
next_is (w ∷ rest) (suc i) lt = next_is rest i (omega arith)

differs_drop : (rows : List ℕ) (i word : ℕ) → (i < length rows → row_kind word ≢ row_kind (get_or rows i 0)) → DiffersFrom word (drop i rows)
differs_drop [] zero word h = tt
differs_drop [] (suc i) word h = tt
differs_drop (w ∷ rest) zero word h = h (omega arith)
differs_drop (w ∷ rest) (suc i) word h = differs_drop rest i word (λ lt. h (omega arith))

differs_at : (rows : List ℕ) (i word : ℕ) → i < length rows → DiffersFrom word (drop i rows) → row_kind word ≢ row_kind (get_or rows i 0)
differs_at [] i word lt d = absurd (omega arith)
differs_at (w ∷ rest) zero word lt d = d
differs_at (w ∷ rest) (suc i) word lt d = differs_at rest i word (omega arith) d

differs_like : (rows : List ℕ) (a b : ℕ) → row_kind b ≡ row_kind a → DiffersFrom a rows → DiffersFrom b rows
differs_like [] a b same d = tt
differs_like (w ∷ rest) a b same d = λ e. d (sym same ∙ e)

-- the row has these ends and this kind at a place of the list, and its neighbours have these kinds
pub record IsRowIn (rows : List ℕ) (k : ℕ) (row : Row) (before behind : Option Kind) : Type 0 where
  -- the list has a row at that place
  pub there : k < length rows
  -- this row starts where the row does
  pub lo : row_start (get_or rows k 0) ≡ row.lo
  -- what is behind it starts where the row ends
  pub hi : rows_start (drop (suc k) rows) ≡ row.hi
  -- it has the row's kind
  pub kind : row_kind (get_or rows k 0) ≡ row.kind
  -- the row before it has the kind before, or there is none
  pub left : ((k ≡ 0) × (before ≡ None)) ⊎ ((i : ℕ) × (suc i ≡ k) × (row_kind (get_or rows i 0) ≡ before))
  -- the row behind it has the kind behind, or there is none
  pub right : ((suc k ≡ length rows) × (behind ≡ None)) ⊎ ((suc k < length rows) × (row_kind (get_or rows (suc k) 0) ≡ behind))

-- the row is first, or there is one before it
pub first_or : (n : ℕ) → (n ≡ 0) ⊎ ((i : ℕ) × (suc i ≡ n))
first_or zero = inl refl
first_or (suc i) = inr (i, refl)

module _ {rows : List ℕ} (kinds : ℕ → Option Kind) {k : ℕ} {row : Row} {before behind : Option Kind} (c : Change) (word : ℕ) (show : ShowFrom 0 rows kinds)
    (f : IsRowIn rows k row before behind) (old : row.kind ≡ Some c.old) (start : row_start word ≡ c.start) (kind : row_kind word ≡ Some c.kind)
    (from : row.lo ≤ c.place.lo) (pages : c.place.lo < c.place.hi) (until : c.place.hi ≤ row.hi) where
  -- pages beside the row keep their kind
  below_row : (p : ℕ) → p < row.lo → with_change c kinds p ≡ kinds p
  below_row p lt = out_of_change c kinds p (λ i. let l = i.0 in absurd (omega arith))

  above_row : (p : ℕ) → row.hi ≤ p → with_change c kinds p ≡ kinds p
  above_row p ge = out_of_change c kinds p (λ i. let h = i.1 in absurd (omega arith))

  own_row : ShownAt rows kinds k
  own_row = shown_at 0 rows kinds k show f.there

  -- the pages of the change are mapped before it
  pub mapped_there : (p : ℕ) → IsIn c.place p → kinds p ≡ Some c.old
  mapped_there p i =
      let low = i.0 in let high = i.1 in let lo = f.lo in let hi = f.hi in
      own_row.within p (omega arith) (omega arith) ∙ (f.kind ∙ old)

  -- the row before, where there is one
  row_before : (i : ℕ) → suc i ≡ k → ShownAt rows kinds i
  row_before i is = shown_at 0 rows kinds i show (let t = f.there in omega arith)

  ends_here : (i : ℕ) → suc i ≡ k → rows_start (drop (suc i) rows) ≡ row.lo
  ends_here i is = ap (λ n. rows_start (drop n rows)) is ∙ (next_is rows k f.there ∙ f.lo)

  kind_before_is : (i : ℕ) → suc i ≡ k → row_kind (get_or rows i 0) ≡ before
  kind_before_is i is = ⊎_elim (λ t. absurd (let z = t.0 in omega arith))
      (λ t. ap (λ n. row_kind (get_or rows n 0)) (let s = t.1 in let e : i ≡ t.0 = omega arith in e) ∙ t.2) f.left

  differs_behind : behind ≢ Some c.kind → DiffersFrom word (drop (suc k) rows)
  differs_behind no_match = differs_drop rows (suc k) word (λ lt same. ⊎_elim (λ t. absurd (let e = t.0 in omega arith))
      (λ t. no_match (sym t.1 ∙ (sym same ∙ kind))) f.right)

  -- the whole row gets another kind
  whole_shows : c.start ≡ row.lo → c.kind ≡ c.new → c.place.lo ≡ row.lo → c.place.hi ≡ row.hi → before ≢ Some c.new
      → behind ≢ Some c.new → ShowFrom 0 (set rows k word) (with_change c kinds)
  whole_shows at new lo hi not_before not_behind =
      let is_new : row_kind word ≡ Some c.new = kind ∙ ap Some new in
      let next : DiffersFrom word (drop (suc k) rows) = differs_behind (λ e. not_behind (e ∙ ap Some new)) in
      let mine : (p : ℕ) → row.lo ≤ p → p < row.hi → with_change c kinds p ≡ row_kind word =
      λ p low high. in_change c kinds p (omega arith, omega arith) ∙ sym is_new in
      let end = f.hi in
      ⊎_elim (λ (z : k ≡ 0).
      let none : row.lo ≡ 0 = sym f.lo ∙ (ap (λ n. row_start (get_or rows n 0)) z ∙ first_start rows kinds show (let t = f.there in omega arith)) in
      let end_z : rows_start (drop 1 rows) ≡ row.hi = ap (λ n. rows_start (drop (suc n) rows)) (sym z) ∙ f.hi in
      subst (λ n. ShowFrom 0 (set rows n word) (with_change c kinds)) (sym z)
      (set_first_shows rows word kinds (with_change c kinds) show (let t = f.there in omega arith) (start ∙ (at ∙ none))
      (subst (λ n. DiffersFrom word (drop (suc n) rows)) z next) (λ p less. mine p (omega arith) (omega arith)) (λ p ge. above_row p (omega arith))))
      (λ (t : (i : ℕ) × (suc i ≡ k)).
      let i = t.0 in let b = row_before i t.1 in let e = ends_here i t.1 in let grows = b.grows in let of_before = kind_before_is i t.1 in
      let after : rows_start (drop (suc (suc i)) rows) ≡ row.hi = ap (λ n. rows_start (drop (suc n) rows)) t.1 ∙ f.hi in
      subst (λ n. ShowFrom 0 (set rows n word) (with_change c kinds)) t.1
      (set_row_shows 0 rows i show (let there = f.there in let s = t.1 in omega arith) (record {
        above = omega arith;
        under = omega arith;
        differs = λ same. not_before (sym of_before ∙ (same ∙ is_new));
        next = subst (λ n. DiffersFrom word (drop (suc n) rows)) (sym t.1) next;
        left = λ p low high. below_row p (omega arith) ∙ b.within p low (omega arith);
        own = λ p low high. mine p (omega arith) (omega arith);
        low = λ p less. below_row p (omega arith);
        high = λ p ge. above_row p (omega arith);
      }))) (first_or k)

  -- the row's first pages go to the row before it
  first_shows : c.start ≡ c.place.hi → c.kind ≡ c.old → c.place.lo ≡ row.lo → c.place.hi < row.hi → before ≡ Some c.new
      → ShowFrom 0 (set rows k word) (with_change c kinds)
  first_shows at same_kind lo hi is_before =
      let as_was : row_kind word ≡ row_kind (get_or rows k 0) = kind ∙ (ap Some same_kind ∙ (sym old ∙ sym f.kind)) in
      ⊎_elim (λ (z : k ≡ 0). absurd (⊎_elim (λ t. some_none c.new before t.1 is_before) (λ t. let n = t.1 in absurd (omega arith)) f.left))
      (λ (t : (i : ℕ) × (suc i ≡ k)).
      let i = t.0 in let b = row_before i t.1 in let e = ends_here i t.1 in let grows = b.grows in
      let of_before : row_kind (get_or rows i 0) ≡ Some c.new = kind_before_is i t.1 ∙ is_before in
      let after : rows_start (drop (suc (suc i)) rows) ≡ row.hi = ap (λ n. rows_start (drop (suc n) rows)) t.1 ∙ f.hi in
      let was : row_kind (get_or rows i 0) ≢ row_kind (get_or rows k 0) =
      subst (λ n. row_kind (get_or rows i 0) ≢ row_kind (get_or rows n 0)) t.1
      (differs_at rows (suc i) (get_or rows i 0) (let there = f.there in let s = t.1 in omega arith) b.differs) in
      let own_start = f.lo in
      subst (λ n. ShowFrom 0 (set rows n word) (with_change c kinds)) t.1
      (set_row_shows 0 rows i show (let there = f.there in let s = t.1 in omega arith) (record {
        above = omega arith;
        under = omega arith;
        differs = λ same. was (same ∙ as_was);
        next = subst (λ n. DiffersFrom word (drop (suc n) rows)) (sym t.1) (differs_like (drop (suc k) rows) (get_or rows k 0) word as_was own_row.differs);
        left = λ p low high. elim (cases_lt p row.lo) [
          | inl less ↦ below_row p less ∙ b.within p low (omega arith)
          | inr ge ↦ in_change c kinds p (omega arith, omega arith) ∙ sym of_before
        ];
        own = λ p low high. out_of_change c kinds p (λ j. let h = j.1 in absurd (omega arith))
            ∙ (own_row.within p (omega arith) (let h = f.hi in omega arith) ∙ sym as_was);
        low = λ p less. below_row p (omega arith);
        high = λ p ge. above_row p (omega arith);
      }))) (first_or k)

  -- the row's last pages go to the row behind it
  last_shows : c.start ≡ c.place.lo → c.kind ≡ c.new → row.lo < c.place.lo → c.place.hi ≡ row.hi → behind ≡ Some c.new
      → ShowFrom 0 (set rows (suc k) word) (with_change c kinds)
  last_shows at new lo hi is_behind = ⊎_elim (λ (t : (suc k ≡ length rows) × (behind ≡ None)). absurd (some_none c.new behind t.1 is_behind))
      (λ (t : (suc k < length rows) × (row_kind (get_or rows (suc k) 0) ≡ behind)).
      let i = k in let next_row = shown_at 0 rows kinds (suc i) show t.0 in
      let begins : row_start (get_or rows (suc i) 0) ≡ row.hi = sym (next_is rows (suc i) t.0) ∙ f.hi in
      let grows = next_row.grows in let own_start = f.lo in
      let as_was : row_kind word ≡ row_kind (get_or rows (suc i) 0) = kind ∙ (ap Some new ∙ (sym is_behind ∙ sym t.1)) in
      let was : row_kind (get_or rows i 0) ≢ row_kind (get_or rows (suc i) 0) = differs_at rows (suc i) (get_or rows i 0) t.0 own_row.differs in
      set_row_shows 0 rows i show t.0 (record {
        above = omega arith;
        under = omega arith;
        differs = λ same. was (same ∙ as_was);
        next = differs_like (drop (suc (suc i)) rows) (get_or rows (suc i) 0) word as_was next_row.differs;
        left = λ p low high. out_of_change c kinds p (λ j. let l = j.0 in absurd (omega arith)) ∙ own_row.within p low (let h = f.hi in omega arith);
        own = λ p low high. elim (cases_lt p row.hi) [
          | inl less ↦ in_change c kinds p (omega arith, omega arith) ∙ (sym (ap Some new) ∙ sym kind)
          | inr ge ↦ above_row p ge ∙ (next_row.within p (omega arith) high ∙ sym as_was)
        ];
        low = λ p less. below_row p (omega arith);
        high = λ p ge. above_row p (omega arith);
      })) f.right

  -- so the rows show the changed kinds, with the word at the place of the slot that the change names
  pub replaced_shows : (slots : List ℕ) {slot next : ℕ} → get_elem? slots k ≡ some slot → (behind ≡ Some c.new → get_elem? slots (suc k) ≡ some next)
      → IsOneStore slot next row before behind c → (n : ℕ) × (get_elem? slots n ≡ some c.index) × ShowFrom 0 (set rows n word) (with_change c kinds)
  replaced_shows slots here there (whole index at new lo hi not_before not_behind) =
      (k, here ∙ ap some (sym index), whole_shows at new lo hi not_before not_behind)
  replaced_shows slots here there (first_part index at same_kind lo hi is_before) = (k, here ∙ ap some (sym index), first_shows at same_kind lo hi is_before)
  replaced_shows slots here there (last_part index at new lo hi is_behind) = (suc k, there is_behind ∙ ap some (sym index), last_shows at new lo hi is_behind)
