-- A splice of rows shows the changed kinds, where the rows that come show those of the pages that change and the rows
-- that stay are of pages that don't.
use Rattle.std.proofs.Common.{◌≡◌, ◌≢◌, ℕ, zero, suc, ◌+◌, ◌-◌, ◌<◌, ◌≤◌, List, [], ◌∷◌, ◌++◌, length, get_or, take, drop, true, false, sym, refl, ap, ◌∙◌}
use Rattle.std.proofs.Common.{subst, arith}
use Rattle.std.proofs.lemmas.List.{length-append, length-take-le, length-drop}
use Rattle.std.specs.List.{splice}
use Rattle.std.specs.Prelude.{Option}
use Rattle.page_types.specs.declared.TheConstants.{LIMIT}
use Rattle.page_types.specs.declared.calls.Kind.{Kind}
use Rattle.page_types.specs.Named.{IsNamedOption}
use Rattle.row_plans.specs.RowWords.{row_start, row_kind}
use Rattle.row_plans.specs.RowLists.{rows_start, ShowFrom}
use Rattle.row_plans.specs.Planning.{ShowTo, ends_with, GoesOn}
use Rattle.row_plans.proofs.RowLists.{RowSays, starts_low, row_says}
use Rattle.row_plans.proofs.PutRows.{rows_added, drop_shows, put_kept, put_shows, ends_other}

-- the rows from one on start where it starts
pub start_at : (rows : List ℕ) (i : ℕ) → i < length rows → rows_start (drop i rows) ≡ row_start (get_or rows i 0)
start_at [] i lt = absurd (omega arith)
start_at (word ∷ rest) zero lt = refl
start_at (word ∷ rest) (suc i) lt = start_at rest i (omega arith)

-- rows that show kinds are some
pub some_shown : (rows : List ℕ) (kinds : ℕ → Option Kind) → ShowFrom 0 rows kinds → 0 < length rows
some_shown [] kinds show = let e : 0 ≡ LIMIT = show in absurd (omega arith)
some_shown (word ∷ rest) kinds show = omega arith

-- to show kinds up to LIMIT is to show them
pub shows_all : (page : ℕ) (rows : List ℕ) (kinds : ℕ → Option Kind) → ShowTo page rows LIMIT kinds → ShowFrom page rows kinds
shows_all page [] kinds show = show
shows_all page (word ∷ []) kinds show = (show.0, show.1, tt, show.3, show.4)
shows_all page (word ∷ next ∷ rest) kinds show = (show.0, show.1, show.2, show.3, shows_all (row_start next) (next ∷ rest) kinds show.4)

-- and they show others that are the same from there on
to_limit : (page : ℕ) (rows : List ℕ) (kinds other : ℕ → Option Kind) → ShowFrom page rows kinds
    → ((p : ℕ) → page ≤ p → p < LIMIT → other p ≡ kinds p) → ShowTo page rows LIMIT other
to_limit page [] kinds other show same = show
to_limit page (word ∷ []) kinds other show same = let l = show.1 in
    (show.0, show.1, tt, λ p low high. same p low (omega arith) ∙ show.3 p low high, refl)
to_limit page (word ∷ next ∷ rest) kinds other show same =
    let above = show.1 in let low_end = starts_low (row_start next) (next ∷ rest) kinds show.4 in (
      show.0,
      show.1,
      show.2,
      λ p low high. same p low (omega arith) ∙ show.3 p low high,
      to_limit (row_start next) (next ∷ rest) kinds other show.4 (λ p low high. same p (omega arith) high),
    )

-- behind one row there come others in the place of those that were there, with the same kind at their first page
one_front : (page word : ℕ) (rest tail : List ℕ) (kinds after : ℕ → Option Kind) → ShowFrom page (word ∷ rest) kinds
    → ShowFrom (rows_start rest) tail after → ((p : ℕ) → page ≤ p → p < rows_start rest → after p ≡ kinds p)
    → (rows_start rest < LIMIT → after (rows_start rest) ≡ kinds (rows_start rest)) → ShowFrom page (word ∷ tail) after
one_front page word [] [] kinds after show then same here = (show.0, show.1, tt, λ p low high. same p low high ∙ show.3 p low high, then)
one_front page word (v ∷ rest) [] kinds after show then same here =
    let l = starts_low (rows_start rest) rest kinds show.4.4 in let b = show.4.1 in absurd (omega (arith, then))
one_front page word [] (next ∷ more) kinds after show then same here =
    let l = starts_low (rows_start more) more after then.4 in let b = then.1 in absurd (omega arith)
one_front page word (v ∷ rest) (next ∷ more) kinds after show then same here =
    let l = starts_low (rows_start rest) rest kinds show.4.4 in
    let b = show.4.1 in
    let start : row_start next ≡ row_start v = then.0 in
    let there : kinds (row_start v) ≡ row_kind v = show.4.3 (row_start v) (omega arith) b in
    let new : after (row_start v) ≡ row_kind next = then.3 (row_start v) (omega arith) then.1 in (
      show.0,
      subst (λ (x : ℕ). page < x) (sym start) show.1,
      (λ e. show.2 (e ∙ (sym new ∙ (here (omega arith) ∙ there)))),
      (λ p low high. same p low (subst (λ (x : ℕ). p < x) start high) ∙ show.3 p low (subst (λ (x : ℕ). p < x) start high)),
      subst (λ (x : ℕ). ShowFrom x (next ∷ more) after) (sym start) then,
    )

-- the rows behind some of those that show kinds start no lower
starts_up : (i page : ℕ) (rows : List ℕ) (kinds : ℕ → Option Kind) → ShowFrom page rows kinds → page ≤ rows_start (drop i rows)
starts_up zero page [] kinds show = omega (arith, show)
starts_up zero page (word ∷ rest) kinds show = let s = show.0 in omega arith
starts_up (suc i) page [] kinds show = omega (arith, show)
starts_up (suc i) page (word ∷ rest) kinds show =
    let l = show.1 in let r = starts_up i (rows_start rest) rest kinds show.4 in omega arith

starts_at_zero : (rows : List ℕ) (kinds : ℕ → Option Kind) → ShowFrom 0 rows kinds → 0 ≡ rows_start rows
starts_at_zero [] kinds show = show
starts_at_zero (word ∷ rest) kinds show = sym show.0

-- the rows before the splice stay
front_stays : (first page : ℕ) (rows tail : List ℕ) (kinds after : ℕ → Option Kind) → ShowFrom page rows kinds → first ≤ length rows
    → ShowFrom (rows_start (drop first rows)) tail after
    → ((p : ℕ) → page ≤ p → p < rows_start (drop first rows) → after p ≡ kinds p)
    → (0 < first → rows_start (drop first rows) < LIMIT → after (rows_start (drop first rows)) ≡ kinds (rows_start (drop first rows)))
    → (first ≡ 0 → page ≡ rows_start rows) → ShowFrom page (take first rows ++ tail) after
front_stays zero page rows tail kinds after show lt then same here at = subst (λ (x : ℕ). ShowFrom x tail after) (sym (at refl)) then
front_stays (suc first) page [] tail kinds after show lt then same here at = absurd (omega arith)
front_stays (suc zero) page (word ∷ rest) tail kinds after show lt then same here at =
    one_front page word rest tail kinds after show then same (here (omega arith))
front_stays (suc (suc first)) page (word ∷ []) tail kinds after show lt then same here at = absurd (omega arith)
front_stays (suc (suc first)) page (word ∷ next ∷ rest) tail kinds after show lt then same here at =
    let above = show.1 in
    let up = starts_up (suc first) (row_start next) (next ∷ rest) kinds show.4 in (
      show.0,
      show.1,
      show.2,
      (λ p low high. same p low (omega arith) ∙ show.3 p low high),
      front_stays (suc first) (row_start next) (next ∷ rest) tail kinds after show.4 (omega arith) then
          (λ p low high. same p (omega arith) high) (λ l. here (omega arith)) (λ e. absurd (omega arith)),
    )

-- a splice shows the changed kinds
pub splice_shows : (rows more : List ℕ) (first end : ℕ) (kinds after : ℕ → Option Kind) → ShowFrom 0 rows kinds → first ≤ length rows
    → ((p : ℕ) → p < rows_start (drop first rows) → after p ≡ kinds p)
    → (0 < first → rows_start (drop first rows) < LIMIT → after (rows_start (drop first rows)) ≡ kinds (rows_start (drop first rows)))
    → ShowTo (rows_start (drop first rows)) more (rows_start (drop end rows)) after → GoesOn more (drop end rows)
    → ((p : ℕ) → rows_start (drop end rows) ≤ p → p < LIMIT → after p ≡ kinds p)
    → ShowFrom 0 (splice rows first end more) after
splice_shows rows more first end kinds after show there before here come differs behind =
    let tail : ShowTo (rows_start (drop end rows)) (drop end rows) LIMIT after =
    to_limit (rows_start (drop end rows)) (drop end rows) kinds after (drop_shows end 0 rows kinds show) behind in
    let all : ShowFrom (rows_start (drop first rows)) (more ++ drop end rows) after =
    shows_all (rows_start (drop first rows)) (more ++ drop end rows) after
    (rows_added (rows_start (drop first rows)) more (drop end rows) (rows_start (drop end rows)) LIMIT after differs come tail) in
    front_stays first 0 rows (more ++ drop end rows) kinds after show there all (λ p low high. before p high) here
    (λ none. starts_at_zero rows kinds show)

-- the first of the rows from one on
head_of : (rows : List ℕ) (i next : ℕ) (rest : List ℕ) → drop i rows ≡ next ∷ rest → (i < length rows) × (get_or rows i 0 ≡ next)
head_of [] zero next rest e = absurd (omega (arith, ap length e))
head_of [] (suc i) next rest e = absurd (omega (arith, ap length e))
head_of (word ∷ more) zero next rest e = (omega arith, ap (λ l. get_or l 0 0) e)
head_of (word ∷ more) (suc i) next rest e = let r = (head_of more i next rest e).0 in (omega arith, (head_of more i next rest e).1)

-- rows that end with a kind show it further on
pub last_longer : (from : ℕ) (rows : List ℕ) (page end : ℕ) (kind : Option Kind) (kinds : ℕ → Option Kind) → IsNamedOption kind
    → ends_with rows kind ≡ true → page < end → ((p : ℕ) → page ≤ p → p < end → kinds p ≡ kind)
    → ShowTo from rows page kinds → ShowTo from rows end kinds
last_longer from rows page end kind kinds named same some all show =
    subst (λ (l : List ℕ). ShowTo from l end kinds) (put_kept rows page kind same) (put_shows page end kind kinds named some all from rows show)

-- a row of another kind than the last one may stay behind it
pub row_stays : (rows words : List ℕ) (i : ℕ) (kind : Option Kind) → kind ≡ row_kind (get_or words i 0) → ends_with rows kind ≡ false
    → GoesOn rows (drop i words)
row_stays rows words i kind is other next rest e =
    subst (λ (k : Option Kind). ends_with rows k ≡ false) (is ∙ ap row_kind (head_of words i next rest e).1) other

-- and so may the one behind a row of that kind
pub next_stays : (rows words : List ℕ) (i : ℕ) (kinds : ℕ → Option Kind) (kind : Option Kind) → ShowFrom 0 words kinds → i < length words
    → kind ≡ row_kind (get_or words i 0) → ends_with rows kind ≡ true → GoesOn rows (drop (i + 1) words)
next_stays rows words i kinds kind show lt is same next rest e =
    let h : (i + 1 < length words) × (get_or words (i + 1) 0 ≡ next) = head_of words (i + 1) next rest e in
    let says : RowSays words kinds i = row_says 0 words kinds i show lt in
    let differs : row_kind (get_or words i 0) ≢ row_kind (get_or words (i + 1) 0) = says.differs h.0 in
    ends_other rows kind (row_kind next) same (λ (k : kind ≡ row_kind next). differs (sym is ∙ (k ∙ ap row_kind (sym h.1))))

-- no row starts behind LIMIT
pub start_low : (rows : List ℕ) (i : ℕ) (kinds : ℕ → Option Kind) → ShowFrom 0 rows kinds → rows_start (drop i rows) ≤ LIMIT
start_low rows i kinds show = starts_low (rows_start (drop i rows)) (drop i rows) kinds (drop_shows i 0 rows kinds show)

-- how many rows a splice has
pub splice_length : (rows more : List ℕ) (first end : ℕ) → first ≤ end → end ≤ length rows
    → length (splice rows first end more) ≡ length rows - (end - first) + length more
splice_length rows more first end ordered there =
    let all = length-append (take first rows) (more ++ drop end rows) in
    let behind = length-append more (drop end rows) in
    let front : length (take first rows) ≡ first = length-take-le first rows (omega arith) in
    let back : length (drop end rows) ≡ length rows - end = length-drop end rows in
    omega arith
