-- How many loads a plan takes. A search finds the row of its first page, or of its last one, and goes through the rows
-- that start among its pages, and to one more; a change does so from the row before its pages to the one behind them.
-- The numbers are those of rows in blocks: at most 20 loads find a row, and one or two more tell a word, the row behind
-- and the row before. How many a search for a place takes is told by who keeps the rows.
use Rattle.std.proofs.Common.{ap, true, false, refl, ◌∙◌, inl, inr, arith}
use Rattle.std.proofs.lemmas.Bool.{cases_lt, lt-ltb, le-ltb}
use Rattle.std.specs.Prelude.{ℕ, ◌≡◌, ◌<◌, ◌≤◌, ◌+◌, ◌-◌, ◌*◌, ◌⊎◌, Bool, ◌&&◌, nat_lt, if◌then◌else◌, Some, None, List, [], ◌∷◌}
use Rattle.page_types.specs.declared.calls.Call.{Call}
use Rattle.page_types.specs.declared.calls.Reply.{Reply}
use Rattle.page_types.specs.PlainReply.{plain_reply}
use Rattle.space_model.specs.declared.judged.Judged.{Judged}
use Rattle.space_model.specs.declared.judged.Judged.TheVariants.{Refused, Keeps, Changes}
use Rattle.space_model.specs.Areas.{kind_at}
use Rattle.space_model.specs.Cutting.{last_end}
use Rattle.space_model.specs.Judges.{IsJudged, patches_of}
use Rattle.space_model.specs.Looking.{TakesLooks}
use Rattle.row_plans.specs.RowWords.{row_start}
use Rattle.row_plans.specs.RowLists.{areas_from}

-- 1 where a page lies between two others
abbrev pub is_between : ℕ → ℕ → ℕ → ℕ
is_between lo hi page = if nat_lt lo page && nat_lt page hi then 1 else 0

-- how many of the rows start between two pages
abbrev pub rows_between : List ℕ → ℕ → ℕ → ℕ
rows_between [] lo hi = 0
rows_between (word ∷ rest) lo hi = is_between lo hi (row_start word) + rows_between rest lo hi

-- a search from one page up to another, or down to it
abbrev pub search_loads : List ℕ → ℕ → ℕ → ℕ
search_loads rows lo hi = 24 + 4 * rows_between rows lo hi

-- a change of the pages from one up to another
abbrev pub change_loads : List ℕ → ℕ → ℕ → ℕ
change_loads rows lo hi = 24 + 6 * rows_between rows (lo - 1) hi

-- the change that a judged call comes to, if it comes to one: that of the pages from its first one up to the end of its
-- last patch
abbrev pub judged_loads : List ℕ → Judged → ℕ
judged_loads rows (Refused why) = 0
judged_loads rows (Keeps reply) = 0
judged_loads rows (Changes change) = change_loads rows change.first.lo (last_end 0 (patches_of change))

-- planning a call on these rows takes no more loads, from one number of them up to another, where a search for a place
-- takes so many: none where its arguments decide it, and otherwise those of judging it and of the change that it comes
-- to
pub data TakesLoads (rows : List ℕ) (fit : ℕ) (c : Call) (before after : ℕ) : Type 0 where
  by_arguments : (reply : Reply) → plain_reply c ≡ Some reply → after ≡ before → TakesLoads rows fit c before after
  by_pages :
      (j : Judged) → plain_reply c ≡ None → IsJudged (kind_at (areas_from rows)) c j →
      TakesLooks (kind_at (areas_from rows)) (search_loads rows) fit c (before + judged_loads rows j) after → TakesLoads rows fit c before after

-- how many loads a search for a place takes: one row is found, and then whoever keeps the rows goes down by so many
abbrev pub fit_loads : ℕ → ℕ
fit_loads gap = 20 + gap

-- a page between two others is counted
pub between_yes : (lo hi page : ℕ) → lo < page → page < hi → is_between lo hi page ≡ 1
between_yes lo hi page low high =
    ap (λ (b : Bool). if b && nat_lt page hi then 1 else 0) (lt-ltb lo page low) ∙ ap (λ (b : Bool). if b then 1 else 0) (lt-ltb page hi high)

counts_none : (b : Bool) → ◌≡◌ {A = ℕ} (if b && false then 1 else 0) 0
counts_none true = refl
counts_none false = refl

-- and another one isn't
pub between_no : (lo hi page : ℕ) → (page ≤ lo) ⊎ (hi ≤ page) → is_between lo hi page ≡ 0
between_no lo hi page (inl low) = ap (λ (b : Bool). if b && nat_lt page hi then 1 else 0) (le-ltb lo page low)
between_no lo hi page (inr high) =
    ap (λ (b : Bool). if nat_lt lo page && b then 1 else 0) (le-ltb page hi high) ∙ counts_none (nat_lt lo page)

between_one : (lo hi from to page : ℕ) → from ≤ lo → hi ≤ to → is_between lo hi page ≤ is_between from to page
between_one lo hi from to page low high = elim (cases_lt lo page) [
  | inr le ↦ let none = between_no lo hi page (inl le) in omega arith
  | inl above ↦ elim (cases_lt page hi) [
    | inr le ↦ let none = between_no lo hi page (inr le) in omega arith
    | inl below ↦
        let one = between_yes lo hi page above below in
        let more = between_yes from to page (omega arith) (omega arith) in omega arith
  ]
]

-- no more rows start between two pages than between others round them
pub between_within : (rows : List ℕ) (lo hi from to : ℕ) → from ≤ lo → hi ≤ to → rows_between rows lo hi ≤ rows_between rows from to
between_within [] lo hi from to low high = omega arith
between_within (word ∷ rest) lo hi from to low high =
    let one = between_one lo hi from to (row_start word) low high in let more = between_within rest lo hi from to low high in omega arith

-- so searching pages takes no more loads than searching others round them
pub search_within : (rows : List ℕ) (lo hi from to : ℕ) → from ≤ lo → hi ≤ to → search_loads rows lo hi ≤ search_loads rows from to
search_within rows lo hi from to low high = let b = between_within rows lo hi from to low high in omega arith
