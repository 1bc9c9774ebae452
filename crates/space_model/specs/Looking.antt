-- How many looks judging a call takes, where `reach` says how many it takes to find a page and to go through the pages
-- from there up to another, and `fit` how many a search for a place takes: one search over the pages that the call
-- names, two where two things are asked of them. A search whose end the call doesn't name goes on to the end of a heap.
-- This is the project's own profile; mmap(2) and the pages like it say nothing of what a call costs.
use Rattle.std.proofs.Common.{arith}
use Rattle.std.specs.Prelude.{ℕ, ◌≤◌, ◌+◌, Bool, if◌then◌else◌, nat_lt, Option}
use Rattle.page_types.specs.declared.calls.Kind.{Kind}
use Rattle.page_types.specs.declared.calls.Call.{Call}
use Rattle.page_types.specs.declared.calls.Call.TheVariants.{Map, Unmap, Protect, Fault, Seal, Brk, Remap}
use Rattle.page_types.specs.Pages.{page_of, page_count, end_page}
use Rattle.page_types.specs.Sets.{is_fixed}
use Rattle.space_model.specs.Answers.{IsHeapEnd}

-- where the search stops at the latest whose end the call doesn't name
abbrev pub StopsAt : (ℕ → Option Kind) → Call → ℕ → Type 0
StopsAt kinds (Map addr len prot flags) at = Unit {0}
StopsAt kinds (Unmap addr len) at = Unit {0}
StopsAt kinds (Protect addr len prot) at = Unit {0}
StopsAt kinds (Fault addr access) at = Unit {0}
StopsAt kinds (Seal addr len flags) at = Unit {0}
StopsAt kinds (Brk base addr) at = IsHeapEnd kinds base at
StopsAt kinds (Remap addr old new may hint) at = Unit {0}

-- so many pages at the hint's page, if the old ones may move
abbrev pub hint_looks : (ℕ → ℕ → ℕ) → ℕ → Bool → ℕ → ℕ
hint_looks reach count may hint = if may then reach hint (hint + count) else 0

-- pages from lo up to end that are to be so many: those at the hint, those behind, and a place as high as they fit
abbrev pub longer_looks : (ℕ → ℕ → ℕ) → ℕ → ℕ → ℕ → ℕ → Bool → ℕ → ℕ
longer_looks reach fit lo end count may hint = hint_looks reach count may hint + reach end (lo + count) + (if may then fit else 0)

-- the looks of a call
abbrev pub looks_of : (ℕ → ℕ → ℕ) → ℕ → Call → ℕ → ℕ
looks_of reach fit (Map addr len prot flags) at = reach (page_of addr) (page_of addr + page_count len) + (if is_fixed flags then 0 else fit)
looks_of reach fit (Unmap addr len) at = reach (page_of addr) (end_page addr len)
looks_of reach fit (Protect addr len prot) at = reach (page_of addr) (end_page addr len) + reach (page_of addr) (end_page addr len)
looks_of reach fit (Fault addr access) at = reach (page_of addr) (page_of addr)
looks_of reach fit (Seal addr len flags) at = reach (page_of addr) (end_page addr len)
looks_of reach fit (Brk base addr) at = reach (page_of base) at + reach at (page_count addr)
looks_of reach fit (Remap addr old new may hint) at =
    reach (page_of addr) (page_of addr) + reach (page_of addr) (end_page addr old) + reach (page_of addr) (end_page addr old) +
    (if nat_lt (page_count old) (page_count new) then longer_looks reach fit (page_of addr) (end_page addr old) (page_count new) may (page_of hint) else 0)

-- judging a call on pages of these kinds takes no more looks, from one number of them up to another
abbrev pub TakesLooks : (ℕ → Option Kind) → (ℕ → ℕ → ℕ) → ℕ → Call → ℕ → ℕ → Type 0
TakesLooks kinds reach fit c before after = (at : ℕ) → StopsAt kinds c at → after ≤ before + looks_of reach fit c at

-- who counts no look takes none, however many pages there are
pub none_at_most : 0 ≤ 0
none_at_most = omega arith
