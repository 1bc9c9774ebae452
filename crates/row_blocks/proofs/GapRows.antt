-- The largest gap of some rows: how it grows row by row, and that a splice leaves those of the rows beside it.
use Rattle.std.proofs.Common.{◌≡◌, ℕ, ◌+◌, ◌-◌, ◌<◌, ◌≤◌, List, ◌++◌, length, get_or, take, drop, max, sym, ap, ◌∙◌, subst, arith, inl, inr}
use Rattle.std.proofs.lemmas.Bool.{cases_lt}
use Rattle.std.proofs.lemmas.List.{append_assoc, length-append, length-take-le, drop_at, drop-drop, get_or-drop, get_or-take, get_or_append_left}
use Rattle.std.specs.Prelude.{slice_index, Option, None, Some}
use Rattle.std.specs.List.{splice}
use Rattle.page_types.specs.declared.calls.Kind.{Kind}
use Rattle.row_plans.specs.RowWords.{row_start, row_kind}
use Rattle.row_plans.specs.RowLists.{rows_start}
use Rattle.row_plans.specs.Gaps.{free_pages, free_of}
use Rattle.row_plans.proofs.Splices.{start_at}
use Rattle.row_blocks.specs.Gaps.{IsLargestGap}
use Rattle.row_blocks.proofs.RowSplices.{length-splice}

-- no row has more free pages than it has pages below its end
pub free_low : (kind : Option Kind) (start end : ℕ) → free_pages kind start end ≤ end
free_low None start end = omega arith
free_low (Some kind) start end = omega arith

-- the free pages of a row, from its word and where the next one starts
pub free_is : (rows : List ℕ) (n : ℕ) {word end : ℕ} → word ≡ slice_index rows n → end ≡ rows_start (drop (n + 1) rows)
    → free_pages (row_kind word) (row_start word) end ≡ free_of rows n
free_is rows n word end i = free_pages (row_kind (word i)) (row_start (word i)) (end i)

-- rows that are the same from one on have the same free pages there
pub free_from : (rows others : List ℕ) (n m : ℕ) → drop n rows ≡ drop m others → free_of rows n ≡ free_of others m
free_from rows others n m same =
    let here : (l : List ℕ) (k : ℕ) → get_or (drop k l) 0 0 ≡ slice_index l k = λ (l : List ℕ) (k : ℕ).
    let zero : k + 0 ≡ k = omega arith in get_or-drop k l 0 0 ∙ ap (slice_index l) zero in
    let word : slice_index rows n ≡ slice_index others m = sym (here rows n) ∙ (ap (λ (l : List ℕ). get_or l 0 0) same ∙ here others m) in
    let end : rows_start (drop (n + 1) rows) ≡ rows_start (drop (m + 1) others) =
    ap rows_start (sym (drop-drop 1 n rows) ∙ (ap (drop 1) same ∙ drop-drop 1 m others)) in
    free_is others m word end

-- a gap is that of other rows too, if they have as many free pages one by one
pub largest_moved : {rows others : List ℕ} {from until gap : ℕ} (a b : ℕ) → a + until ≡ b + from
    → ((k : ℕ) → from + k < until → free_of others (a + k) ≡ free_of rows (from + k)) → IsLargestGap rows from until gap → IsLargestGap others a b gap
largest_moved {rows} {others} {from} {until} {gap} a b long same largest = record {
  most = λ n low high.
      let k : ℕ = n - a in
      let e : a + k ≡ n = omega arith in
      let s = same k (omega arith) in
      let m = largest.most (from + k) (omega arith) (omega arith) in
      subst (λ (j : ℕ). free_of others j ≤ gap) e (omega arith);
  some = λ more.
      let l = largest.some more in
      let k : ℕ = l.0 - from in
      let low = l.1 in
      let high = l.2 in
      let e : from + k ≡ l.0 = omega arith in
      let s = same k (omega arith) in
      let wide : gap ≤ free_of rows (from + k) = subst (λ (j : ℕ). gap ≤ free_of rows j) (sym e) l.3 in
      (a + k, omega arith, omega arith, omega arith);
}

-- no rows have no gap
pub largest_none : (rows : List ℕ) (from : ℕ) {until : ℕ} → until ≡ from → IsLargestGap rows from until 0
largest_none rows from none = record { most = λ n low high. absurd (omega arith); some = λ more. absurd (omega arith) }

-- one row more
pub largest_more : {rows : List ℕ} {from n gap free now : ℕ} → from ≤ n → free ≡ free_of rows n → now ≡ max gap free
    → IsLargestGap rows from n gap → IsLargestGap rows from (n + 1) now
largest_more {rows} {from} {n} {gap} {free} {now} low is all largest = record {
  most = λ m from_m until. elim (cases_lt m n) [
    | inl lt ↦ let f = largest.most m from_m lt in omega arith
    | inr ge ↦ let e : n ≡ m = omega arith in subst (λ (j : ℕ). free_of rows j ≤ now) e (omega arith)
  ];
  some = λ more. elim (cases_lt gap free) [
    | inl wide ↦ (n, low, omega arith, omega arith)
    | inr ge ↦ let l = largest.some (omega arith) in let a = l.1 in let b = l.2 in let c = l.3 in (l.0, a, omega arith, omega arith)
  ];
}

-- and of two runs of rows one behind the other it is the larger one
pub largest_both : {rows : List ℕ} {from mid until one two now : ℕ} → from ≤ mid → mid ≤ until → now ≡ max one two → IsLargestGap rows from mid one
    → IsLargestGap rows mid until two → IsLargestGap rows from until now
largest_both {rows} {from} {mid} {until} {one} {two} {now} low high all below above = record {
  most = λ m from_m to_m. elim (cases_lt m mid) [
    | inl lt ↦ let f = below.most m from_m lt in omega arith
    | inr ge ↦ let f = above.most m ge to_m in omega arith
  ];
  some = λ more. elim (cases_lt one two) [
    | inl wide ↦ let l = above.some (omega arith) in let a = l.1 in let b = l.2 in let c = l.3 in (l.0, omega arith, b, omega arith)
    | inr ge ↦ let l = below.some (omega arith) in let a = l.1 in let b = l.2 in let c = l.3 in (l.0, a, omega arith, omega arith)
  ];
}

-- a row behind a splice has its free pages still
pub free_behind : (rows more : List ℕ) (p q k : ℕ) → p ≤ length rows → free_of (splice rows p q more) (p + length more + k) ≡ free_of rows (q + k)
free_behind rows more p q k there =
    let front : List ℕ = take p rows ++ more in
    let back : List ℕ = drop q rows in
    let long : length front ≡ p + length more =
    let a = length-append (take p rows) more in let b = length-take-le p rows there in omega arith in
    let whole : take p rows ++ (more ++ back) ≡ front ++ back = sym (append_assoc (take p rows) more back) in
    let rest : drop (p + length more) (take p rows ++ (more ++ back)) ≡ back =
    ap (drop (p + length more)) whole ∙ drop_at front back (p + length more) long in
    free_from (splice rows p q more) rows (p + length more + k) (q + k)
    (sym (drop-drop k (p + length more) (splice rows p q more)) ∙ (ap (drop k) rest ∙ drop-drop k q rows))

-- and so has one before it, but for the last one
pub free_before : (rows more : List ℕ) (p q n : ℕ) → n + 1 < p → p ≤ q → q ≤ length rows → free_of (splice rows p q more) n ≡ free_of rows n
free_before rows more p q n low ordered there =
    let long = length-splice rows more p q ordered there in
    let t = length-take-le p rows (omega arith) in
    let word : (m : ℕ) → m < p → slice_index (splice rows p q more) m ≡ slice_index rows m = λ (m : ℕ) (lt : m < p).
    get_or_append_left (take p rows) (more ++ drop q rows) 0 m (omega arith) ∙ get_or-take p rows m 0 lt in
    let end : rows_start (drop (n + 1) (splice rows p q more)) ≡ rows_start (drop (n + 1) rows) =
    start_at (splice rows p q more) (n + 1) (omega arith) ∙ (ap row_start (word (n + 1) low) ∙ sym (start_at rows (n + 1) (omega arith))) in
    free_is rows n (word n (omega arith)) end
