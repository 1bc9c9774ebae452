-- What the private functions say to each other: which pages a call may have changed, the runs of one kind in a stretch
-- of pages, and the changes of the pages below one. This is the project's own way; what callers see is `AreChanges`.
use Rattle.std.specs.Prelude.{ℕ, ◌≡◌, ◌<◌, ◌≤◌, ◌⊎◌, Bool, ◌&&◌, ◌==◌, if◌then◌else◌, Option, List, [], ◌∷◌, ◌++◌}
use Rattle.page_types.specs.declared.calls.Kind.{Kind}
use Rattle.space_model.specs.Starts.{same_option}
use Rattle.area_changes.specs.declared.changes.AreaChange.{AreaChange}
use Rattle.area_changes.specs.declared.runs.Run.{Run}
use Rattle.area_changes.specs.declared.stretches.Touched.{Touched}
use Rattle.area_changes.specs.Changes.{AreInOrder, LiesIn, change_at}

-- the page lies before the pages from lo up to hi, or behind them
abbrev pub IsApart : ℕ → ℕ → ℕ → Type 0
IsApart lo hi page = (page < lo) ⊎ (hi ≤ page)

-- the page is none of the touched ones
abbrev pub IsUntouched : Touched → ℕ → Type 0
IsUntouched t page = (page < t.lo) ⊎ (((t.hi ≤ page) × (page < t.next)) ⊎ (t.end ≤ page))

-- each page from lo up to hi is of this kind
abbrev pub HasKind : (ℕ → Option Kind) → ℕ → ℕ → Option Kind → Type 0
HasKind kinds lo hi kind = (page : ℕ) → lo ≤ page → page < hi → kinds page ≡ kind

-- the runs go from page lo on up to page hi, each right behind the one before it
abbrev pub AreRuns : (ℕ → Option Kind) → ℕ → List Run → ℕ → Type 0
AreRuns kinds lo [] hi = lo ≡ hi
AreRuns kinds lo (r ∷ rest) hi = (r.pages.lo ≡ lo) × HasKind kinds lo r.pages.hi r.kind × AreRuns kinds r.pages.hi rest hi

-- with the runs from a page on these are all from lo up to hi
abbrev pub Completes : (ℕ → Option Kind) → ℕ → ℕ → List Run → ℕ → Type 0
Completes kinds lo hi so_far at = (rest : List Run) → AreRuns kinds at rest hi → AreRuns kinds lo (so_far ++ rest) hi

-- no change ends above the page
abbrev pub EndBelow : ℕ → List AreaChange → Type 0
EndBelow to [] = Unit {0}
EndBelow to (c ∷ rest) = (c.hi ≤ to) × EndBelow to rest

-- the changes of the pages below one
pub record AreBelow (before after : ℕ → Option Kind) (to : ℕ) (changes : List AreaChange) : Type 0 where
  pub in_order : AreInOrder changes
  pub end_below : EndBelow to changes
  pub pages : (page : ℕ) → page < to → LiesIn (change_at changes page) (before page) (after page)

-- the second change goes on where the first ends, with the same two kinds
abbrev pub goes_on : AreaChange → AreaChange → Bool
goes_on c d = (c.hi == d.lo) && (same_option c.before d.before && same_option c.after d.after)

-- the two changes as one
abbrev pub merged : AreaChange → AreaChange → AreaChange
merged c d = record { lo = c.lo; hi = d.hi; before = c.before; after = c.after }

-- two changes, as one where the second goes on with the first
abbrev pub pair_joined : AreaChange → AreaChange → List AreaChange
pair_joined c d = if goes_on c d then merged c d ∷ [] else c ∷ d ∷ []

-- the list with a change at its end
abbrev pub joined : List AreaChange → AreaChange → List AreaChange
joined [] d = d ∷ []
joined (c ∷ []) d = pair_joined c d
joined (c ∷ e ∷ rest) d = c ∷ joined (e ∷ rest) d
