-- Sorts of pages, and what bars a call: the lowest page of a sort in its span. The manual pages of mmap(2),
-- mprotect(2), mseal(2) and mremap(2) name such errors, and the bars of a call are a list in the order in which they
-- are looked for: the first that has such a page refuses the call. Everything is said of kinds by page, so it serves
-- areas and rows alike.
use Rattle.std.specs.Prelude.{ℕ, ◌≡◌, ◌<◌, ◌≤◌, ◌⊎◌, Bool, true, false, not, ◌&&◌, is_some, is_none, Option, Some, None, List, [], ◌∷◌}
use Rattle.page_types.specs.declared.calls.Kind.{Kind}
use Rattle.page_types.specs.declared.calls.Why.{Why}
use Rattle.page_types.specs.declared.calls.Why.TheVariants.{Enomem, Eexist, Eperm, Efault}
use Rattle.page_types.specs.declared.calls.Short.TheVariants.{Missing as MissingPage}
use Rattle.space_model.specs.Starts.{same_option}
use Rattle.space_model.specs.declared.sorts.Sort.{Sort}
use Rattle.space_model.specs.declared.sorts.Sort.TheVariants.{Mapped, Missing, Sealed, Unlike}

-- a page of this kind is of the sort; one that isn't mapped is unlike every kind, and unlike none
abbrev pub is_sort : Sort → Option Kind → Bool
is_sort Mapped kind = is_some kind
is_sort Missing kind = is_none kind
is_sort Sealed None = false
is_sort Sealed (Some kind) = kind.sealed
is_sort (Unlike first) kind = not (is_some kind && same_option first kind)

-- no page from lo up to hi is of the sort
abbrev pub NoneOf : (ℕ → Option Kind) → Sort → ℕ → ℕ → Type 0
NoneOf kinds sort lo hi = (page : ℕ) → lo ≤ page → page < hi → is_sort sort (kinds page) ≡ false

-- the lowest page of the sort of those from lo up to hi
pub record IsLowest (kinds : ℕ → Option Kind) (sort : Sort) (lo hi page : ℕ) : Type 0 where
  pub from : lo ≤ page
  pub within : page < hi
  pub such : is_sort sort (kinds page) ≡ true
  pub none_below : NoneOf kinds sort lo page

-- that page, or hi where there is none
pub record IsEnd (kinds : ℕ → Option Kind) (sort : Sort) (lo hi end : ℕ) : Type 0 where
  pub from : lo ≤ end
  pub within : end ≤ hi
  pub such : end < hi → is_sort sort (kinds end) ≡ true
  pub none_below : NoneOf kinds sort lo end

-- the pages of a sort, from one page up to another, bar a call
pub data Bar : Type 0 where
  bar : Sort → ℕ → ℕ → Bar

-- how the lowest of them refuses it
abbrev pub why_of : Sort → ℕ → Why
why_of Mapped page = Eexist page
why_of Missing page = Enomem (MissingPage page)
why_of Sealed page = Eperm page
why_of (Unlike first) page = Efault page

-- the first bar that has such a page refuses for its lowest one
abbrev pub IsBarred : (ℕ → Option Kind) → List Bar → Why → Type 0
IsBarred kinds [] why = ⊥
IsBarred kinds (bar sort lo hi ∷ rest) why =
    ((page : ℕ) × IsLowest kinds sort lo hi page × (why ≡ why_of sort page)) ⊎ (NoneOf kinds sort lo hi × IsBarred kinds rest why)

-- no bar has such a page
abbrev pub IsClear : (ℕ → Option Kind) → List Bar → Type 0
IsClear kinds [] = Unit {0}
IsClear kinds (bar sort lo hi ∷ rest) = NoneOf kinds sort lo hi × IsClear kinds rest
