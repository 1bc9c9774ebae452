-- What one look at a page comes to, while pages round it are held, and what the last of several does. Of these
-- `IsFound` is what a caller that waits by itself sees of a round.
use Rattle.std.specs.Prelude.{ℕ, ◌<◌, ◌≤◌, Some, None}
use Rattle.page_types.specs.declared.pages.Span.{Span}
use Rattle.lock_core.specs.declared.range.Mode.TheVariants.{Reader}
use Rattle.range_rw.specs.Contract.{SeatState}
use Rattle.area_guard.specs.declared.guard.Pass.{Pass}
use Rattle.area_rows.specs.Callers.{held_span}
use Rattle.area_looks.specs.declared.at.Found.{Found}
use Rattle.area_looks.specs.declared.at.Found.TheVariants.{Free, Whole, Wider}
use Rattle.area_looks.specs.Shown.{IsAreaAt, WasSeen}

-- what a look under these pages came to
abbrev pub IsFound : SeatState Pass → ℕ → Span → Found → Type 0
IsFound before page wide Free = WasSeen before (Some (held_span wide Reader)) (IsAreaAt page None)
IsFound before page wide (Whole a) = WasSeen before (Some (held_span wide Reader)) (IsAreaAt page (Some a))
IsFound before page wide (Wider span) = (span.lo ≤ page) × (page < span.hi)

-- and the last of several, under some pages round it
abbrev pub IsLast : SeatState Pass → ℕ → Found → Type 0
IsLast before page Free = (span : Span) × WasSeen before (Some (held_span span Reader)) (IsAreaAt page None)
IsLast before page (Whole a) = (span : Span) × WasSeen before (Some (held_span span Reader)) (IsAreaAt page (Some a))
IsLast before page (Wider span) = Unit {0}

-- more pages are to be held
abbrev pub IsWider : Found → Type 0
IsWider Free = ⊥
IsWider (Whole a) = ⊥
IsWider (Wider span) = Unit {0}
