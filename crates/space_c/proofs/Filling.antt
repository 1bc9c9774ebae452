-- What a round for the areas of a span came to is what the look answers.
use Rattle.std.proofs.Common.{◌≡◌, ℕ, None, List, Result, Ok, Err, refl}
use Rattle.std.specs.Prelude.{IfOk, OnErr}
use Rattle.page_types.specs.declared.pages.Span.{Span}
use Rattle.range_rw.specs.declared.patience.Anew.{Anew}
use Rattle.range_rw.specs.declared.patience.Anew.TheVariants.{AtOnce as Again, Later as Wait}
use Rattle.area_looks.specs.declared.told.Counts.{Counts}
use Rattle.space_c.specs.declared.looks.GzArea.{GzArea}
use Rattle.space_c.specs.declared.areas.SpanAsked.{SpanAsked}
use Rattle.space_c.specs.Behind.{Behind}
use Rattle.space_c.specs.Spans.{GotNoSpan, IsAreasTry, IsSpanRound, Names, SawAreas, round_answer, round_shown}
use Rattle.space_c.proofs.Looking.{refused_in}

-- a round that got no pages told nothing, and holds nothing
pub got_none : (r : Result Counts Anew) (span : Span) (refused : ℕ) (places now : List GzArea) (before after : Behind) → OnErr r (now ≡ places)
    → OnErr r (after.caller.seat.held ≡ None) → OnErr r (refused_in before.cut span refused before.caller after.caller)
    → OnErr r (GotNoSpan span refused places now before after)
got_none (Ok counts) span refused places now before after untold held looks = looks
got_none (Err why) span refused places now before after untold held looks = record { untold = untold; held = held; looks = looks }

-- what the round came to is what the look answers
pub told_of : (r : Result Counts Anew) (asked : SpanAsked) (span : Span) (places now : List GzArea) (before after : Behind) → Names asked span
    → IsSpanRound span before after → IfOk r (λ counts. SawAreas span asked.keep places now counts before after)
    → OnErr r (GotNoSpan span asked.refused places now before after)
    → IsAreasTry asked places now (round_shown r) (round_answer r) before after
told_of (Ok counts) asked span places now before after names round saw none = (span, names, round, counts, refl, saw)
told_of (Err Wait) asked span places now before after names round saw none = (span, names, round, refl, none)
told_of (Err Again) asked span places now before after names round saw none = (span, names, round, refl, none)
