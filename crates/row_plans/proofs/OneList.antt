-- Kinds have one list of row words: two that show the same kinds are equal, word by word.
use Rattle.std.proofs.Common.{◌≡◌, ℕ, ◌+◌, ◌/◌, ◌%◌, ◌<◌, ◌≤◌, Bool, true, false, cond, eqb, List, [], ◌∷◌, sym, refl, ap, ◌∙◌, subst, arith, inl, inr}
use Rattle.std.proofs.lemmas.Bool.{cases_lt, eqb-true, eqb-false}
use Rattle.std.proofs.lemmas.List.Elements.{All-head, All-tail}
use Rattle.std.specs.Prelude.{All, Option, Some, None}
use Rattle.page_types.specs.declared.calls.Kind.{Kind}
use Rattle.row_plans.specs.RowWords.{row_start, row_kind, kind_bits, row_word}
use Rattle.row_plans.specs.RowLists.{rows_start, ShowFrom, IsBareGap}
use Rattle.row_plans.proofs.RowLists.{starts_low}

-- the kind that the low six bits say, as three tests of them
abbrev low_kind : ℕ → Bool → Bool → Bool → Option Kind
low_kind word mapped sealed shared =
    cond mapped (Some (record { prot = record { 0 = word % 8 }; shared = shared; sealed = sealed })) None

low_bits : (word : ℕ) (mapped sealed shared : Bool) → eqb (word / 32 % 2) 1 ≡ mapped → eqb (word / 16 % 2) 1 ≡ sealed
    → eqb (word / 8 % 2) 1 ≡ shared → (low_kind word mapped sealed shared ≡ None → ⊥)
    → kind_bits (low_kind word mapped sealed shared) ≡ word % 64
low_bits word true true true m e s some_kind =
    let a = eqb-true (word / 32 % 2) 1 m in let b = eqb-true (word / 16 % 2) 1 e in let c = eqb-true (word / 8 % 2) 1 s in omega arith
low_bits word true true false m e s some_kind =
    let a = eqb-true (word / 32 % 2) 1 m in let b = eqb-true (word / 16 % 2) 1 e in let c = eqb-false (word / 8 % 2) 1 s in omega arith
low_bits word true false true m e s some_kind =
    let a = eqb-true (word / 32 % 2) 1 m in let b = eqb-false (word / 16 % 2) 1 e in let c = eqb-true (word / 8 % 2) 1 s in omega arith
low_bits word true false false m e s some_kind =
    let a = eqb-true (word / 32 % 2) 1 m in let b = eqb-false (word / 16 % 2) 1 e in let c = eqb-false (word / 8 % 2) 1 s in omega arith
low_bits word false sealed shared m e s some_kind = absurd (some_kind refl)

-- a row's kind says the low six bits of its word, unless it is a gap
bits_said : (word : ℕ) → (row_kind word ≡ None → ⊥) → kind_bits (row_kind word) ≡ word % 64
bits_said word some_kind =
    low_bits word (eqb (word / 32 % 2) 1) (eqb (word / 16 % 2) 1) (eqb (word / 8 % 2) 1) refl refl refl some_kind

none_or : (o : Option Kind) → (P : Type 0) → (o ≡ None → P) → ((o ≡ None → ⊥) → P) → P
none_or None P gap area = gap refl
none_or (Some k) P gap area = area (λ e. cc)

-- there is one word for each row
pub one_word : (word other : ℕ) → row_start word ≡ row_start other → row_kind word ≡ row_kind other → IsBareGap word → IsBareGap other → word ≡ other
one_word word other start kind bare other_bare = none_or (row_kind word) (word ≡ other)
    (λ gap. bare gap ∙ (ap (λ n. row_word n None) start ∙ sym (other_bare (sym kind ∙ gap))))
    (λ area.
    let a = bits_said word area in
    let b = bits_said other (λ gap. area (kind ∙ gap)) in
    let same : kind_bits (row_kind word) ≡ kind_bits (row_kind other) = ap kind_bits kind in
    omega arith)

-- the rows behind a row of theirs start no lower than those behind another row of the same kind, where both lists show
-- one kind at that start
no_lower : (page word other : ℕ) (rows more : List ℕ) (kinds others : ℕ → Option Kind) → row_kind word ≡ row_kind other
    → ShowFrom page (word ∷ rows) kinds → ShowFrom page (other ∷ more) others → kinds (rows_start rows) ≡ others (rows_start rows)
    → rows_start rows < rows_start more → ⊥
no_lower page word other [] more kinds others same s t agree lt = let l = starts_low (rows_start more) more others t.4 in omega arith
no_lower page word other (next ∷ rest) more kinds others same s t agree lt =
    let from = s.1 in
    let start : row_start next ≡ rows_start (next ∷ rest) = refl in
    let here : kinds (row_start next) ≡ row_kind next = s.4.3 (row_start next) (omega arith) s.4.1 in
    let there : others (row_start next) ≡ row_kind other = t.3 (row_start next) (omega arith) lt in
    s.2 (same ∙ (sym there ∙ (sym agree ∙ here)))

-- rows of one kind that are the first of two lists are followed by rows with one start, where that is below a page up
-- to which both lists show the same
module _ (page w v : ℕ) (rest more : List ℕ) (kinds others : ℕ → Option Kind) (kind : row_kind w ≡ row_kind v)
    (s : ShowFrom page (w ∷ rest) kinds) (t : ShowFrom page (v ∷ more) others) where
  one_start : (end : ℕ) → ((p : ℕ) → page ≤ p → p < end → kinds p ≡ others p) → rows_start rest < end → rows_start rest ≡ rows_start more
  one_start end same low = let from = s.1 in let other_from = t.1 in elim (cases_lt (rows_start rest) (rows_start more)) [
    | inl lt ↦ absurd (no_lower page w v rest more kinds others kind s t (same (rows_start rest) (omega arith) low) lt)
    | inr ge ↦ elim (cases_lt (rows_start more) (rows_start rest)) [
      | inl less ↦ absurd (no_lower page v w more rest others kinds (sym kind) t s
          (sym (same (rows_start more) (omega arith) (omega arith))) less)
      | inr le ↦ omega arith
    ]
  ]

-- rows that show kinds from a page on are the only ones
pub one_list : (page : ℕ) (rows others : List ℕ) (kinds : ℕ → Option Kind) → ShowFrom page rows kinds → ShowFrom page others kinds
    → All IsBareGap rows → All IsBareGap others → rows ≡ others
one_list page [] [] kinds s t bare other_bare = refl
one_list page [] (v ∷ more) kinds s t bare other_bare = let l = starts_low (rows_start more) more kinds t.4 in let h = t.1 in absurd (omega arith)
one_list page (w ∷ rest) [] kinds s t bare other_bare = let l = starts_low (rows_start rest) rest kinds s.4 in let h = s.1 in absurd (omega arith)
one_list page (w ∷ rest) (v ∷ more) kinds s t bare other_bare =
    let kind : row_kind w ≡ row_kind v = sym (s.3 page (omega arith) s.1) ∙ t.3 page (omega arith) t.1 in
    let word : w ≡ v = one_word w v (s.0 ∙ sym t.0) kind (All-head IsBareGap w rest bare) (All-head IsBareGap v more other_bare) in
    let start : rows_start rest ≡ rows_start more =
    one_start page w v rest more kinds kinds kind s t (rows_start rest + 1) (λ p from below. refl) (omega arith) in
    let tail : rest ≡ more = one_list (rows_start rest) rest more kinds s.4 (subst (λ p. ShowFrom p more kinds) (sym start) t.4)
    (All-tail IsBareGap w rest bare) (All-tail IsBareGap v more other_bare) in
    λ i. word i ∷ tail i
