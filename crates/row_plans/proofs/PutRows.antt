-- Rows that are put together show what was put: a stretch at the end, and rows cut out of others.
use Rattle.std.proofs.Common.{◌≡◌, ◌≢◌, ℕ, zero, suc, ◌+◌, ◌<◌, ◌≤◌, List, [], ◌∷◌, ◌++◌, ◌-◌, min, get_or, take, drop, length, Bool, true, false, cond, sym}
use Rattle.std.proofs.Common.{refl, ap, ◌∙◌, subst, arith, inl, inr}
use Rattle.std.proofs.lemmas.Bool.{cases_lt, true≢false}
use Rattle.std.proofs.lemmas.List.{length-drop}
use Rattle.std.proofs.Math.Seq.{drop-nil}
use Rattle.std.specs.Prelude.{Option}
use Rattle.page_types.specs.declared.calls.Kind.{Kind}
use Rattle.page_types.specs.Named.{IsNamedOption}
use Rattle.space_model.specs.Starts.{same_option}
use Rattle.space_model.proofs.Counting.{same_option-true, same_option-same, same_option-false}
use Rattle.row_plans.specs.RowWords.{row_start, row_kind, row_word}
use Rattle.row_plans.specs.RowLists.{rows_start, DiffersFrom, ShowFrom}
use Rattle.row_plans.specs.Planning.{start_or, ShowTo, ends_with, put, GoesOn, StartBefore}
use Rattle.row_plans.proofs.ReadBack.{start_back, kind_back}

-- what is put leaves the first row's start and kind
module _ (page end : ℕ) (kind : Option Kind) where
  put_head : (word : ℕ) (rest : List ℕ) → (more : List ℕ) × (put (word ∷ rest) page kind ≡ word ∷ more)
  put_head word [] = elim (same_option (row_kind word) kind)
      as (λ b. (more : List ℕ) × (cond b (word ∷ []) (word ∷ row_word page kind ∷ []) ≡ word ∷ more))
      [ true ↦ ([], refl) | false ↦ (row_word page kind ∷ [], refl) ]
  put_head word (next ∷ rest) = (put (next ∷ rest) page kind, refl)

  put_start : (word : ℕ) (rest : List ℕ) → start_or (put (word ∷ rest) page kind) end ≡ row_start word
  put_start word rest = ap (λ l. start_or l end) (put_head word rest).1

  put_differs : (before word : ℕ) (rest : List ℕ) → DiffersFrom before (word ∷ rest) → DiffersFrom before (put (word ∷ rest) page kind)
  put_differs before word rest d = subst (DiffersFrom before) (sym (put_head word rest).1) d

-- a stretch that is put at the end is shown as well
module _ (page end : ℕ) (kind : Option Kind) (kinds : ℕ → Option Kind) (named : IsNamedOption kind) (some : page < end)
    (all : (p : ℕ) → page ≤ p → p < end → kinds p ≡ kind) where
  put_new : ShowTo page (row_word page kind ∷ []) end kinds
  put_new = (start_back page kind named, some, tt, λ p from below. all p from below ∙ sym (kind_back page kind named), refl)

  put_same : (from word : ℕ) → ShowTo from (word ∷ []) page kinds → row_kind word ≡ kind → ShowTo from (word ∷ []) end kinds
  put_same from word show same = let l = show.1 in (
    show.0,
    omega arith,
    tt,
    λ p low high. elim (cases_lt p page) [
      | inl lt ↦ show.3 p low lt
      | inr ge ↦ all p ge high ∙ sym same
    ],
    refl,
  )

  put_other : (from word : ℕ) → ShowTo from (word ∷ []) page kinds → row_kind word ≢ kind → ShowTo from (word ∷ row_word page kind ∷ []) end kinds
  put_other from word show differs =
      let start : row_start (row_word page kind) ≡ page = start_back page kind named in (
        show.0,
        (let l = show.1 in omega arith),
        (λ e. differs (e ∙ kind_back page kind named)),
        (λ p low high. show.3 p low (omega arith)),
        subst (λ (x : ℕ). ShowTo x (row_word page kind ∷ []) end kinds) (sym start) put_new,
      )

  put_last : (from word : ℕ) (b : Bool) → (b ≡ true → row_kind word ≡ kind) → (b ≡ false → row_kind word ≢ kind)
      → ShowTo from (word ∷ []) page kinds → ShowTo from (cond b (word ∷ []) (word ∷ row_word page kind ∷ [])) end kinds
  put_last from word true is other show = put_same from word show (is refl)
  put_last from word false is other show = put_other from word show (other refl)

  -- rows up to a page, with a stretch of one kind put behind them, show the kinds up to its end
  pub put_shows : (from : ℕ) (rows : List ℕ) → ShowTo from rows page kinds → ShowTo from (put rows page kind) end kinds
  put_shows from [] show = subst (λ (x : ℕ). ShowTo x (row_word page kind ∷ []) end kinds) (sym show) put_new
  put_shows from (word ∷ []) show = put_last from word (same_option (row_kind word) kind) (same_option-true (row_kind word) kind)
      (λ e same. true≢false (sym (same_option-same (row_kind word)) ∙ (ap (same_option (row_kind word)) same ∙ e))) show
  put_shows from (word ∷ next ∷ rest) show =
      let start : start_or (put (next ∷ rest) page kind) end ≡ row_start next = put_start page end kind next rest in (
        show.0,
        subst (λ (x : ℕ). from < x) (sym start) show.1,
        put_differs page end kind word next rest show.2,
        (λ p low high. show.3 p low (subst (λ (x : ℕ). p < x) start high)),
        subst (λ (x : ℕ). ShowTo x (put (next ∷ rest) page kind) end kinds) (sym start) (put_shows (row_start next) (next ∷ rest) show.4),
      )

-- rows that show kinds up to a page start below it
below_end_of : (from : ℕ) (rows : List ℕ) (end : ℕ) (kinds : ℕ → Option Kind) → ShowTo from rows end kinds → from ≤ end
below_end_of from [] end kinds show = omega arith
below_end_of from (word ∷ []) end kinds show = let l = show.1 in omega arith
below_end_of from (word ∷ next ∷ rest) end kinds show = let l = show.1 in let r = below_end_of (row_start next) (next ∷ rest) end kinds show.4 in omega arith

-- rows cut out of others show what those showed up to a page in the last of them
slice_shows : (i from : ℕ) (rows : List ℕ) (to : ℕ) (kinds others : ℕ → Option Kind) → ShowFrom from rows kinds → i < length rows
    → rows_start (drop i rows) < to → to ≤ rows_start (drop (suc i) rows) → ((p : ℕ) → from ≤ p → p < to → others p ≡ kinds p)
    → ShowTo from (take (suc i) rows) to others
slice_shows i from [] to kinds others show lt low high same = absurd (omega arith)
slice_shows zero from (word ∷ rest) to kinds others show lt low high same =
    let start = show.0 in
    (start, omega arith, tt, λ p g l. same p g l ∙ show.3 p g (omega arith), refl)
slice_shows (suc i) from (word ∷ []) to kinds others show lt low high same = absurd (omega arith)
slice_shows (suc i) from (word ∷ next ∷ rest) to kinds others show lt low high same =
    let above = show.1 in
    let more = slice_shows i (row_start next) (next ∷ rest) to kinds others show.4 (omega arith) low high (λ p g l. same p (omega arith) l) in
    let end = below_end_of (row_start next) (take (suc i) (next ∷ rest)) to others more in
    (show.0, show.1, show.2, λ p g l. same p g (omega arith) ∙ show.3 p g l, more)

inside : (word : ℕ) (rows : List ℕ) (new : ℕ) (b : Bool) → word ∷ cond b rows (rows ++ new ∷ []) ≡ cond b (word ∷ rows) (word ∷ rows ++ new ∷ [])
inside word rows new true = refl
inside word rows new false = refl

-- what the code does is to put
put_if : (rows : List ℕ) (page : ℕ) (kind : Option Kind) → put rows page kind ≡ cond (ends_with rows kind) rows (rows ++ row_word page kind ∷ [])
put_if [] page kind = refl
put_if (word ∷ []) page kind = refl
put_if (word ∷ next ∷ rest) page kind = ap (λ l. word ∷ l) (put_if (next ∷ rest) page kind)
    ∙ inside word (next ∷ rest) (row_word page kind) (ends_with (next ∷ rest) kind)

-- a stretch of the last row's kind adds no row
pub put_kept : (rows : List ℕ) (page : ℕ) (kind : Option Kind) → ends_with rows kind ≡ true → put rows page kind ≡ rows
put_kept rows page kind e = put_if rows page kind ∙ ap (λ b. cond b rows (rows ++ row_word page kind ∷ [])) e

-- a stretch of another kind adds one row at the end
pub put_more : (rows : List ℕ) (page : ℕ) (kind : Option Kind) → ends_with rows kind ≡ false → put rows page kind ≡ rows ++ row_word page kind ∷ []
put_more rows page kind e = put_if rows page kind ∙ ap (λ b. cond b rows (rows ++ row_word page kind ∷ [])) e

-- the last row, as the code finds it
last_at : (rows : List ℕ) (kind : Option Kind) (n : ℕ) → length rows ≡ suc n → ends_with rows kind ≡ same_option (row_kind (get_or rows n 0)) kind
last_at [] kind n e = absurd (omega arith)
last_at (word ∷ []) kind zero e = refl
last_at (word ∷ []) kind (suc n) e = absurd (omega arith)
last_at (word ∷ next ∷ rest) kind zero e = absurd (omega arith)
last_at (word ∷ next ∷ rest) kind (suc n) e = last_at (next ∷ rest) kind n (omega arith)

-- whether the rows end with a kind is whether the last word's kind is the same
pub last_ends : (rows : List ℕ) (kind : Option Kind) (last : ℕ) → 0 < length rows → last ≡ get_or rows (length rows - 1) 0
    → ends_with rows kind ≡ same_option (row_kind last) kind
last_ends rows kind last more is = let e : length rows ≡ suc (length rows - 1) = omega arith in
    last_at rows kind (length rows - 1) e ∙ ap (λ w. same_option (row_kind w) kind) (sym is)

-- a stretch of no page, or of some
pub no_part : (first : ℕ) (rows : List ℕ) (from to : ℕ) (kinds : ℕ → Option Kind) → from ≤ to → ¬ (from < to) → ShowTo first rows from kinds
    → ShowTo first rows to kinds
no_part first rows from to kinds le none show = let e : from ≡ to = omega arith in subst (λ (x : ℕ). ShowTo first rows x kinds) e show

-- a row whose kind is the last one's isn't of another kind
pub ends_other : (rows : List ℕ) (kind other : Option Kind) → ends_with rows kind ≡ true → kind ≢ other → ends_with rows other ≡ false
ends_other [] kind other e differs = absurd (true≢false (sym e))
ends_other (word ∷ []) kind other e differs = same_option-false (row_kind word) other (λ same. differs (sym (same_option-true (row_kind word) kind e) ∙ same))
ends_other (word ∷ next ∷ rest) kind other e differs = ends_other (next ∷ rest) kind other e differs

-- rows of other kinds go on after those before a page
append_shows : (from : ℕ) (rows more : List ℕ) (page end : ℕ) (kinds : ℕ → Option Kind) → 0 < length rows
    → ShowTo from rows page kinds → ((next : ℕ) (rest : List ℕ) → more ≡ next ∷ rest → ends_with rows (row_kind next) ≡ false)
    → ShowTo page more end kinds → ShowTo from (rows ++ more) end kinds
append_shows from [] more page end kinds some show differs then = absurd (omega arith)
append_shows from (word ∷ []) [] page end kinds some show differs then = (
  show.0,
  subst (λ (x : ℕ). from < x) then show.1,
  tt,
  (λ p low high. show.3 p low (subst (λ (x : ℕ). p < x) (sym then) high)),
  refl,
)
append_shows from (word ∷ []) (next ∷ rest) page end kinds some show differs then =
    let start : row_start next ≡ page = then.0 in (
      show.0,
      subst (λ (x : ℕ). from < x) (sym start) show.1,
      (λ e. true≢false (sym (same_option-same (row_kind word)) ∙ (ap (same_option (row_kind word)) e ∙ differs next rest refl))),
      (λ p low high. show.3 p low (subst (λ (x : ℕ). p < x) start high)),
      subst (λ (x : ℕ). ShowTo x (next ∷ rest) end kinds) (sym start) then,
    )
append_shows from (word ∷ next ∷ rest) more page end kinds some show differs then =
    (show.0, show.1, show.2, show.3, append_shows (row_start next) (next ∷ rest) more page end kinds (omega arith) show.4 differs then)

-- rows are put behind others, where the first isn't of the kind of the last before it or one of the two is missing
pub rows_added : (from : ℕ) (rows more : List ℕ) (page end : ℕ) (kinds : ℕ → Option Kind) → GoesOn rows more
    → ShowTo from rows page kinds → ShowTo page more end kinds → ShowTo from (rows ++ more) end kinds
rows_added from [] more page end kinds differs show then = subst (λ (x : ℕ). ShowTo x more end kinds) (sym show) then
rows_added from (word ∷ rows) more page end kinds differs show then =
    append_shows from (word ∷ rows) more page end kinds (omega arith) show differs then

-- the rows from one on show the kinds from its start on
pub drop_shows : (i page : ℕ) (rows : List ℕ) (kinds : ℕ → Option Kind) → ShowFrom page rows kinds → ShowFrom (rows_start (drop i rows)) (drop i rows) kinds
drop_shows zero page [] kinds show = refl
drop_shows zero page (word ∷ rest) kinds show = subst (λ (x : ℕ). ShowFrom x (word ∷ rest) kinds) (sym show.0) show
drop_shows (suc i) page [] kinds show = refl
drop_shows (suc i) page (word ∷ rest) kinds show = drop_shows i (rows_start rest) rest kinds show.4

drop_more : (i j : ℕ) (rows : List ℕ) → drop j (drop i rows) ≡ drop (i + j) rows
drop_more zero j rows = let e : j ≡ 0 + j = omega arith in ap (λ n. drop n rows) e
drop_more (suc i) j [] = drop-nil j ∙ sym (drop-nil (suc i + j))
drop_more (suc i) j (word ∷ rest) = let e : suc (i + j) ≡ suc i + j = omega arith in drop_more i j rest ∙ ap (λ n. drop n (word ∷ rest)) e

-- the old rows between two pages, as they are
pub kept_shows : (old : List ℕ) (next stop from to : ℕ) (kinds others : ℕ → Option Kind) → ShowFrom 0 old kinds
    → StartBefore old from next → StartBefore old to stop → next ≤ stop → ((p : ℕ) → from ≤ p → p < to → others p ≡ kinds p)
    → ShowTo (min (rows_start (drop next old)) to) (take (stop - next) (drop next old)) to others
kept_shows old next stop from to kinds others show low high ordered same =
    elim (cases_lt next stop) [
      | inl lt ↦
          let i : ℕ = stop - next - 1 in
          let rest : List ℕ = drop next old in
          let start : ℕ = rows_start rest in
          let last_is : next + i ≡ stop - 1 = omega arith in
          let stop_is : next + suc i ≡ stop = omega arith in
          let last : rows_start (drop i rest) < to =
          subst (λ (l : List ℕ). rows_start l < to) (sym (drop_more next i old ∙ ap (λ n. drop n old) last_is)) (high.behind (omega arith)) in
          let next_one : to ≤ rows_start (drop (suc i) rest) =
          subst (λ (l : List ℕ). to ≤ rows_start l) (sym (drop_more next (suc i) old ∙ ap (λ n. drop n old) stop_is)) high.ahead in
          let below : from ≤ start = low.ahead in
          let show_rest = slice_shows i start rest to kinds others (drop_shows next 0 old kinds show)
          (omega (arith, length-drop next old, high.there)) last next_one (λ p g l. same p (omega arith) l) in
          let end = below_end_of start (take (suc i) rest) to others show_rest in
          let count : suc i ≡ stop - next = omega arith in
          let first : start ≡ min start to = omega arith in
          subst (λ (n : ℕ). ShowTo (min start to) (take n rest) to others) count
          (subst (λ (x : ℕ). ShowTo x (take (suc i) rest) to others) first show_rest)
      | inr ge ↦
          let none : stop - next ≡ 0 = omega arith in
          let same_stop : stop ≡ next = omega arith in
          let end : to ≤ rows_start (drop next old) = subst (λ (n : ℕ). to ≤ rows_start (drop n old)) same_stop high.ahead in
          subst (λ (n : ℕ). ShowTo (min (rows_start (drop next old)) to) (take n (drop next old)) to others) (sym none) (omega arith)
    ]
