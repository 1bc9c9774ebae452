-- What a round of a look came to is what the look answers.
use Rattle.std.proofs.Common.{◌≡◌, ℕ, ◌<◌, ◌≤◌, Some, None, Result, Ok, Err, inl, inr, refl, sym, subst}
use Rattle.std.specs.Prelude.{IfOk, OnErr}
use Rattle.list_cuts.specs.Cut.{Regions, TakesTwo}
use Rattle.word_rows.specs.declared.backoff.TheConstants.{REFUSED_ROUNDS, KEPT_LOOKS}
use Rattle.lock_core.specs.declared.range.Held.{Held}
use Rattle.lock_core.specs.declared.range.Mode.TheVariants.{Reader}
use Rattle.page_types.specs.declared.pages.Span.{Span}
use Rattle.range_rw.specs.declared.patience.Anew.{Anew}
use Rattle.range_rw.specs.declared.patience.Anew.TheVariants.{AtOnce as Again, Later as Wait}
use Rattle.range_rw.specs.Contract.{AsksAmong, AsksOnly, IsRefusedAfter}
use Rattle.range_rw.proofs.Asking.{asks_wider}
use Rattle.area_rows.specs.Callers.{CallerView, held_span}
use Rattle.area_looks.specs.declared.at.Found.{Found}
use Rattle.area_looks.specs.declared.at.Found.TheVariants.{Free, Whole, Wider}
use Rattle.area_looks.specs.Found.{IsFound}
use Rattle.area_looks.specs.Shown.{IsReadAround}
use Rattle.space_c.specs.declared.looks.GzSpan.{GzSpan}
use Rattle.space_c.specs.Behind.{Behind}
use Rattle.space_c.specs.Looks.{IsAreaTry, IsAround, IsLookRound, look_answer, look_next, look_shown}

-- after 16 refused rounds a range of several lists kept its node
abbrev pub refused_in : Regions → Span → ℕ → CallerView → CallerView → Type 0
refused_in cut span refused a b = TakesTwo cut (held_span span Reader).range → REFUSED_ROUNDS ≤ refused → IsRefusedAfter cut KEPT_LOOKS a.seat b.seat

-- what was asked for is pages round this one, as a reader
pub round_asks : (page : ℕ) (span : Span) (a b : CallerView) → span.lo ≤ page → page < span.hi
    → AsksOnly (held_span span Reader) a.seat.trace.asked b.seat.trace.asked → AsksAmong (IsReadAround page) a.seat.trace.asked b.seat.trace.asked
round_asks page span a b low high asks = asks_wider (λ (h : Held) is. subst (IsReadAround page) (sym is) (refl, low, high)) asks

-- what the round came to is what the look answers
pub looked_of : (r : Result Found Anew) (page : ℕ) (named : GzSpan) (span : Span) (refused : ℕ) (before after : Behind) → IsLookRound page before after
    → IsAround page named span → IfOk r (λ found. IsFound before.caller.seat page span found)
    → OnErr r (refused_in before.cut span refused before.caller after.caller)
    → IsAreaTry page named refused (look_next named r) (look_shown r) (look_answer r) before after
looked_of (Ok Free) page named span refused before after round around found none = (round, refl, (None, refl, span, around, found))
looked_of (Ok (Whole a)) page named span refused before after round around found none = (round, refl, (Some a, refl, span, around, found))
looked_of (Ok (Wider next)) page named span refused before after round around found none = (round, refl, inr found)
looked_of (Err Wait) page named span refused before after round around found none = (round, refl, refl, (span, around, none))
looked_of (Err Again) page named span refused before after round around found none = (round, refl, inl (refl, (span, around, none)))
