-- What a look for the area at a page answers, shows and leaves of what is behind a handle. It is no call of the
-- history: what was seen is said by `WasSeen` and `IsAreaAt` of `area_looks`.
use Rattle.std.specs.Prelude.{◌≡◌, ◌≢◌, ◌⊎◌, ℕ, ◌<◌, ◌≤◌, Option, Some, None, Result, Ok, Err}
use Rattle.list_cuts.specs.Cut.{TakesTwo}
use Rattle.word_rows.specs.declared.backoff.TheConstants.{REFUSED_ROUNDS, KEPT_LOOKS}
use Rattle.lock_core.specs.declared.range.Mode.TheVariants.{Reader}
use Rattle.page_types.specs.declared.TheConstants.{LIMIT}
use Rattle.page_types.specs.declared.pages.Span.{Span}
use Rattle.page_types.specs.Sets.{prot_bits}
use Rattle.space_model.specs.declared.areas.Area.{Area}
use Rattle.range_rw.specs.declared.patience.Anew.{Anew}
use Rattle.range_rw.specs.declared.patience.Anew.TheVariants.{AtOnce as Again, Later as Wait}
use Rattle.range_rw.specs.Contract.{AsksAmong, IsRefusedAfter}
use Rattle.area_rows.specs.Callers.{CallerView, held_span}
use Rattle.area_looks.specs.declared.at.Found.{Found}
use Rattle.area_looks.specs.declared.at.Found.TheVariants.{Free, Whole, Wider}
use Rattle.area_looks.specs.Shown.{HasLookedAt, IsAreaAt, IsReadAround, WasSeen}
use Rattle.c_handles.specs.Handles.{OnOpenTelling}
use Rattle.space_c.specs.declared.answers.Answer.{Answer}
use Rattle.space_c.specs.declared.answers.Answer.TheVariants.{Done, Later, AtOnce, Holds, BadCall, Closed}
use Rattle.space_c.specs.declared.looks.GzArea.{GzArea}
use Rattle.space_c.specs.declared.looks.GzSpan.{GzSpan}
use Rattle.space_c.specs.Behind.{Behind, WithCaller}
use Rattle.space_c.specs.Shown.{bit_of}

-- what C is shown where no area is told
abbrev pub no_area : GzArea
no_area = record { lo = 0; hi = 0; prot = 0; shared = 0; sealed = 0; mapped = 0 }

-- what C is shown of the area at a page, if the page is mapped
abbrev pub area_shown : Option Area → GzArea
area_shown None = no_area
area_shown (Some a) = record {
  lo = a.lo;
  hi = a.hi;
  prot = prot_bits a.kind.prot;
  shared = bit_of a.kind.shared;
  sealed = bit_of a.kind.sealed;
  mapped = 1;
}

-- the pages round this one that a look asks for: those that C names, where this page is one of them and all are pages
abbrev pub IsAround : ℕ → GzSpan → Span → Type 0
IsAround page named span = (span.lo ≤ page) × (page < span.hi)
    × (named.lo ≤ page → page < named.hi → named.hi ≤ LIMIT → (span.lo ≡ named.lo) × (span.hi ≡ named.hi))

-- what one round came to, as an answer, as it is shown, and with the pages of the next one
abbrev pub look_answer : Result Found Anew → Answer
look_answer (Ok Free) = Done
look_answer (Ok (Whole a)) = Done
look_answer (Ok (Wider span)) = AtOnce
look_answer (Err Wait) = Later
look_answer (Err Again) = AtOnce

abbrev pub look_shown : Result Found Anew → GzArea
look_shown (Ok Free) = area_shown None
look_shown (Ok (Whole a)) = area_shown (Some a)
look_shown (Ok (Wider span)) = no_area
look_shown (Err why) = no_area

abbrev pub look_next : GzSpan → Result Found Anew → GzSpan
look_next named (Ok Free) = named
look_next named (Ok (Whole a)) = named
look_next named (Ok (Wider span)) = record { lo = span.lo; hi = span.hi }
look_next named (Err why) = named

-- a round for pages round this one, by a caller that held nothing: nothing is held afterwards, nothing was called, and
-- only such pages were asked for, as a reader
pub record IsLookRound (page : ℕ) (before after : Behind) : Type 0 where
  pub page_below : page < LIMIT
  pub free : before.caller.seat.held ≡ None
  pub given : after.caller.seat.held ≡ None
  pub looked : HasLookedAt before.caller after.caller
  pub asks : AsksAmong (IsReadAround page) before.caller.seat.trace.asked after.caller.seat.trace.asked
  pub kept : WithCaller before after

-- what the round saw, under pages that it held: the area at the page at one moment, or that it wasn't mapped then
abbrev pub SawArea : ℕ → GzSpan → GzArea → Behind → Type 0
SawArea page named shown before = (found : Option Area) × (shown ≡ area_shown found) × (span : Span) × IsAround page named span
    × WasSeen before.caller.seat (Some (held_span span Reader)) (IsAreaAt page found)

-- the round got no pages. After 16 refused ones a range of several lists kept its node, as with calls
abbrev pub GotNone : ℕ → GzSpan → ℕ → Behind → Behind → Type 0
GotNone page named refused before after = (span : Span) × IsAround page named span
    × (TakesTwo before.cut (held_span span Reader).range → REFUSED_ROUNDS ≤ refused
    → IsRefusedAfter before.cut KEPT_LOOKS before.caller.seat after.caller.seat)

-- what a look for the area at a page answers, shows and leaves, and the pages that the next one is to be given
abbrev pub IsAreaTry : ℕ → GzSpan → ℕ → GzSpan → GzArea → Answer → Behind → Behind → Type 0
IsAreaTry page named refused next shown BadCall before after = (LIMIT ≤ page) × (next ≡ named) × (shown ≡ no_area) × (after ≡ before)
IsAreaTry page named refused next shown Holds before after = (page < LIMIT) × (before.caller.seat.held ≢ None) × (next ≡ named) × (shown ≡ no_area)
    × (after ≡ before)
IsAreaTry page named refused next shown Done before after = IsLookRound page before after × (next ≡ named) × SawArea page named shown before
IsAreaTry page named refused next shown Later before after = IsLookRound page before after × (next ≡ named) × (shown ≡ no_area)
    × GotNone page named refused before after
IsAreaTry page named refused next shown AtOnce before after = IsLookRound page before after × (shown ≡ no_area)
    × (((next ≡ named) × GotNone page named refused before after) ⊎ ((next.lo ≤ page) × (page < next.hi)))
IsAreaTry page named refused next shown _ before after = ⊥

-- the same by a handle: where it is closed, no area is shown
abbrev pub OnArea : ℕ → GzSpan → ℕ → GzSpan → GzArea → Answer → Option Behind → Option Behind → Type 0
OnArea page named refused next shown answer before after =
    OnOpenTelling Closed ((next ≡ named) × (shown ≡ no_area)) (IsAreaTry page named refused next shown) answer before after
