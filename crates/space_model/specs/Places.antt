-- Where pages are put that a call asks for. mmap(2) and mremap(2) leave much of this to the kernel, so the places that
-- are tried, and their order, are this project's own. A place is defined by what no other place has, and not by a
-- search, so a reader may check it against the manual. Places end in a window: as with 5-level paging on Linux, pages
-- above the addresses of 4-level paging are chosen only for a hint that is there itself.
use Rattle.std.specs.Prelude.{ℕ, ◌≡◌, ◌<◌, ◌≤◌, ◌+◌, ◌⊎◌, Bool, ◌&&◌, not, ◌==◌, nat_lt, if◌then◌else◌, Option, None, List, [], ◌∷◌, ◌++◌}
use Rattle.page_types.specs.declared.TheConstants.{LIMIT, LOW, LOWEST}
use Rattle.page_types.specs.declared.calls.Kind.{Kind}
use Rattle.page_types.specs.declared.sets.MapFlags.{MapFlags}
use Rattle.page_types.specs.Pages.{page_of, is_aligned}
use Rattle.page_types.specs.Sets.{is_fixed}

-- no page from lo up to hi is mapped
abbrev pub IsUnmapped : (ℕ → Option Kind) → ℕ → ℕ → Type 0
IsUnmapped kinds lo hi = (page : ℕ) → lo ≤ page → page < hi → kinds page ≡ None

-- so many free pages start there, at or above LOWEST, and end at or below the window's end
pub record FitsAt (kinds : ℕ → Option Kind) (window pages start : ℕ) : Type 0 where
  pub low : LOWEST ≤ start
  pub high : start + pages ≤ window
  pub free : IsUnmapped kinds start (start + pages)

-- no place of so many free pages in the window starts higher
pub record IsHighestFit (kinds : ℕ → Option Kind) (window pages start : ℕ) : Type 0 where
  pub fits : FitsAt kinds window pages start
  pub highest : (other : ℕ) → FitsAt kinds window pages other → other ≤ start

-- the pages from lo up to hi are free, and are user addresses
abbrev pub HasRoom : (ℕ → Option Kind) → ℕ → ℕ → Type 0
HasRoom kinds lo hi = (hi ≤ LIMIT) × IsUnmapped kinds lo hi

-- a place that is tried: just there, whatever is there; in a window, there, if the pages are free; from a page on, if
-- those from another one on are free, where pages stand that are to be more; in a window, as high as they fit
pub data Place : Type 0 where
  fixed : ℕ → Place
  free_at : ℕ → ℕ → Place
  longer : ℕ → ℕ → Place
  highest_in : ℕ → Place

-- so many pages start there by this place
abbrev pub StartsBy : (ℕ → Option Kind) → ℕ → Place → ℕ → Type 0
StartsBy kinds pages (fixed at) start = start ≡ at
StartsBy kinds pages (free_at window at) start = FitsAt kinds window pages at × (start ≡ at)
StartsBy kinds pages (longer at end) start = HasRoom kinds end (at + pages) × (start ≡ at)
StartsBy kinds pages (highest_in window) start = IsHighestFit kinds window pages start

-- the place doesn't apply
abbrev pub NoStart : (ℕ → Option Kind) → ℕ → Place → Type 0
NoStart kinds pages (fixed at) = ⊥
NoStart kinds pages (free_at window at) = ¬ FitsAt kinds window pages at
NoStart kinds pages (longer at end) = ¬ HasRoom kinds end (at + pages)
NoStart kinds pages (highest_in window) = (start : ℕ) → ¬ FitsAt kinds window pages start

-- the pages start there by the first place that applies
abbrev pub StartsAt : (ℕ → Option Kind) → ℕ → List Place → ℕ → Type 0
StartsAt kinds pages [] start = ⊥
StartsAt kinds pages (place ∷ rest) start =
    StartsBy kinds pages place start ⊎ (NoStart kinds pages place × StartsAt kinds pages rest start)

-- no place applies
abbrev pub HasNoPlace : (ℕ → Option Kind) → ℕ → List Place → Type 0
HasNoPlace kinds pages [] = Unit {0}
HasNoPlace kinds pages (place ∷ rest) = NoStart kinds pages place × HasNoPlace kinds pages rest

-- where the window of a hint's page ends
abbrev pub window_of : ℕ → ℕ
window_of hint = if nat_lt hint LOW then LOW else LIMIT

-- mmap(2): where the address binds the pages are put there, and otherwise in the hint's window, at the hint or as high
-- as they fit
abbrev pub map_places : MapFlags → ℕ → List Place
map_places flags hint = if is_fixed flags then fixed hint ∷ [] else free_at (window_of hint) hint ∷ highest_in (window_of hint) ∷ []

-- mremap(2): pages from lo up to end that are to be more are put at the hint, if they may move and it is that of a
-- page; or stay where they are, if those behind them are free; or, if they may move, as high as they fit in the low
-- window. What is free is so before the call, so no place has an old page but the one where they stay
abbrev pub remap_places : ℕ → ℕ → Bool → ℕ → List Place
remap_places lo end may hint =
    (if may && not (hint == 0) && is_aligned hint then free_at LIMIT (page_of hint) ∷ [] else []) ++
    longer lo end ∷ (if may then highest_in LOW ∷ [] else [])
