-- What a look for the areas of a span answers, shows and leaves of what is behind a handle, and of the places that C
-- gives for them. It is no call of the history: what was seen is said by `WasSeen` and `AreAreasIn` of `area_looks`.
use Rattle.std.specs.Prelude.{◌≡◌, ◌≢◌, ℕ, ◌<◌, ◌≤◌, Bool, true, Option, Some, None, List, Result, Ok, Err}
use Rattle.list_cuts.specs.Cut.{TakesTwo}
use Rattle.word_rows.specs.declared.backoff.TheConstants.{REFUSED_ROUNDS, KEPT_LOOKS}
use Rattle.lock_core.specs.declared.range.Mode.TheVariants.{Reader}
use Rattle.page_types.specs.declared.TheConstants.{LIMIT}
use Rattle.page_types.specs.declared.pages.Span.{Span}
use Rattle.range_rw.specs.declared.patience.Anew.{Anew}
use Rattle.range_rw.specs.declared.patience.Anew.TheVariants.{AtOnce as Again, Later as Wait}
use Rattle.range_rw.specs.Contract.{AsksOnly, IsRefusedAfter}
use Rattle.area_rows.specs.Callers.{held_span}
use Rattle.area_looks.specs.declared.told.Counts.{Counts}
use Rattle.area_looks.specs.Places.{Tells, held_if}
use Rattle.area_looks.specs.Shown.{AreAreasIn, HasLookedAt, ShowsAreas, WasSeen}
use Rattle.c_handles.specs.Handles.{OnOpenTelling}
use Rattle.space_c.specs.declared.answers.Answer.{Answer}
use Rattle.space_c.specs.declared.answers.Answer.TheVariants.{Done, Later, AtOnce, Holds, BadCall, Closed}
use Rattle.space_c.specs.declared.looks.GzArea.{GzArea}
use Rattle.space_c.specs.declared.areas.GzCounts.{GzCounts}
use Rattle.space_c.specs.declared.areas.SpanAsked.{SpanAsked}
use Rattle.space_c.specs.Behind.{Behind, WithCaller}
use Rattle.space_c.specs.Looks.{area_shown}

-- what C is shown where nothing was counted
abbrev pub no_counts : GzCounts
no_counts = record { areas = 0; pages = 0 }

-- the pages that C names are a span
abbrev pub IsSpan : SpanAsked → Type 0
IsSpan asked = (asked.lo < asked.hi) × (asked.hi ≤ LIMIT)

-- they are this one
abbrev pub Names : SpanAsked → Span → Type 0
Names asked span = (span.lo ≡ asked.lo) × (span.hi ≡ asked.hi)

-- what one round came to, as an answer, and as it is shown
abbrev pub round_answer : Result Counts Anew → Answer
round_answer (Ok counts) = Done
round_answer (Err Wait) = Later
round_answer (Err Again) = AtOnce

abbrev pub round_shown : Result Counts Anew → GzCounts
round_shown (Ok counts) = record { areas = counts.areas; pages = counts.pages }
round_shown (Err why) = no_counts

-- a round for a span by a caller that held nothing: nothing was called, and the span alone was asked for, as a reader
pub record IsSpanRound (span : Span) (before after : Behind) : Type 0 where
  pub free : before.caller.seat.held ≡ None
  pub looked : HasLookedAt before.caller after.caller
  pub asks : AsksOnly (held_span span Reader) before.caller.seat.trace.asked after.caller.seat.trace.asked
  pub kept : WithCaller before after

-- what it saw while it held the whole span: these areas at one moment, each clipped to the span. As many of them as
-- there are places are shown there from the first place on, and other places are as they were. With `keep` the span is
-- held afterwards, and the areas are those of every moment until it is given back; else nothing is held
pub record SawAreas (span : Span) (keep : Bool) (places now : List GzArea) (counts : Counts) (before after : Behind) : Type 0 where
  pub told : Tells (λ a. area_shown (Some a)) places now counts (λ list.
      WasSeen before.caller.seat (Some (held_span span Reader)) (AreAreasIn span.lo span.hi list)
      × (keep ≡ true → ShowsAreas after.caller.seat span.lo span.hi list))
  pub held : after.caller.seat.held ≡ held_if keep (held_span span Reader)

-- it got no pages, and told nothing. After 16 refused rounds a range of several lists kept its node, as with calls
pub record GotNoSpan (span : Span) (refused : ℕ) (places now : List GzArea) (before after : Behind) : Type 0 where
  pub untold : now ≡ places
  pub held : after.caller.seat.held ≡ None
  pub looks : TakesTwo before.cut (held_span span Reader).range → REFUSED_ROUNDS ≤ refused
      → IsRefusedAfter before.cut KEPT_LOOKS before.caller.seat after.caller.seat

-- nothing was told, and nothing has changed
abbrev pub IsUntold : List GzArea → List GzArea → GzCounts → Behind → Behind → Type 0
IsUntold places now shown before after = (now ≡ places) × (shown ≡ no_counts) × (after ≡ before)

-- what a look for the areas of a span answers, shows and leaves
abbrev pub IsAreasTry : SpanAsked → List GzArea → List GzArea → GzCounts → Answer → Behind → Behind → Type 0
IsAreasTry asked places now shown BadCall before after = ¬ (IsSpan asked) × IsUntold places now shown before after
IsAreasTry asked places now shown Holds before after = IsSpan asked × (before.caller.seat.held ≢ None) × IsUntold places now shown before after
IsAreasTry asked places now shown Done before after = (span : Span) × Names asked span × IsSpanRound span before after
    × (counts : Counts) × (shown ≡ record { areas = counts.areas; pages = counts.pages }) × SawAreas span asked.keep places now counts before after
IsAreasTry asked places now shown Later before after = (span : Span) × Names asked span × IsSpanRound span before after
    × (shown ≡ no_counts) × GotNoSpan span asked.refused places now before after
IsAreasTry asked places now shown AtOnce before after = (span : Span) × Names asked span × IsSpanRound span before after
    × (shown ≡ no_counts) × GotNoSpan span asked.refused places now before after
IsAreasTry asked places now shown _ before after = ⊥

-- the same by a handle: where it is closed, nothing is told
abbrev pub OnAreas : SpanAsked → List GzArea → List GzArea → GzCounts → Answer → Option Behind → Option Behind → Type 0
OnAreas asked places now shown answer before after =
    OnOpenTelling Closed ((now ≡ places) × (shown ≡ no_counts)) (IsAreasTry asked places now shown) answer before after
