-- A fault's reply is right where its arguments decide it, and where the row of its page shows the kind; and the parts
-- of a call make the whole. The range of one page takes one list alone, and what is said of the ready nodes of list 0
-- is so in each list.
use Rattle.std.proofs.Common.{Bool, ◌≡◌, ℕ, zero, suc, map, get_or, ◌+◌, ◌<◌, ◌≤◌, List, [], ◌∷◌, ◌++◌, sym, refl, ap, ◌∙◌, subst, arith, inl, inr}
use Rattle.std.specs.Prelude.{Option, Some, None}
use lib.ListN.{get_or-map}
use Rattle.list_cuts.specs.Cut.{Regions, list_of}
use Rattle.lock_core.specs.Range.{Interval}
use Rattle.lock_core.specs.declared.range.Held.{Held}
use Rattle.lock_core.specs.declared.range.Mode.{Mode}
use Rattle.lock_core.specs.declared.range.Mode.TheVariants.{Reader as Shared, Writer as Alone}
use Rattle.page_types.specs.declared.pages.Span.{Span}
use Rattle.page_types.specs.declared.sets.Access.{Access}
use Rattle.page_types.specs.declared.calls.Kind.{Kind}
use Rattle.page_types.specs.declared.calls.Call.{Call}
use Rattle.page_types.specs.declared.calls.Call.TheVariants.{Fault}
use Rattle.page_types.specs.declared.calls.Reply.{Reply}
use Rattle.page_types.specs.Classes.{IsFault}
use Rattle.page_types.specs.Named.{IsNamedReply}
use Rattle.page_types.specs.Pages.{page_of}
use Rattle.page_types.specs.PlainReply.{plain_reply}
use Rattle.space_model.specs.declared.areas.Area.{Area}
use Rattle.space_model.specs.declared.entries.Entry.{Entry}
use Rattle.space_model.specs.declared.entries.Under.TheVariants.{Nothing, Reader}
use Rattle.space_model.specs.Areas.{kind_at}
use Rattle.space_model.specs.Held.{FitsByState}
use Rattle.space_model.specs.Answers.{AnswersFault}
use Rattle.space_model.proofs.Judgements.{fault_answers}
use Rattle.range_rw.specs.Contract.{SeatState, AsksOnly, IsReadyLeft, Pools, Record, ready_in, pools_at}
use Rattle.range_rw.specs.Several.{TakesAlone}
use Rattle.range_rw.proofs.Asking.{asks_stay, asks_kept, asks_wider}
use Rattle.area_guard.specs.declared.guard.Pass.{Pass}
use Rattle.area_guard.specs.declared.guard.Pending.TheVariants.{AtRest}
use Rattle.area_rows.specs.declared.row.Row.{Row}
use Rattle.area_rows.specs.History.{IsRight, HoldsFor}
use Rattle.area_rows.specs.Seated.{TableId}
use Rattle.area_rows.specs.Rows.{blocks_by, number_place}
use Rattle.area_rows.specs.Reads.{IsHeldPage}
use Rattle.area_rows.specs.Callers.{CallerView, held_span, MayNumber, IsReading, IsDrawn, RowIs, Shows}
use Rattle.area_rows.specs.Called.{IsCalled, IsLastPlace}
use Rattle.area_rows.proofs.Wholes.{match_none, seen_read, numbered_on}
use Rattle.page_fault.specs.Faults.{AsksPage, AsksPageAs, AsksPageOf, IsAccess, MayHold, page_held_as}

-- the page's kind decides
held_right : (state : List Area) (addr : ℕ) (access : Access) {kind : Option Kind} (reply : Reply) (span : Span) → plain_reply (Fault addr access) ≡ None
    → span.lo ≡ page_of addr → span.hi ≡ page_of addr + 1 → kind_at state (page_of addr) ≡ kind → AnswersFault kind (page_of addr) access reply
    → IsRight state (Fault addr access) reply (Reader span) state
held_right state addr access reply span undecided lo hi is answers = record {
  fits = match_none (plain_reply (Fault addr access)) (FitsByState state (Fault addr access) (Reader span)) (λ _. Reader span ≡ Nothing) undecided (lo, hi);
  answers = fault_answers state addr access reply undecided (subst (λ k. AnswersFault k (page_of addr) access reply) (sym is) answers);
}

-- under the held page, whose row shows its kind, the reply of this access may be numbered
shows_access : (c : CallerView) (held : Option Held) (row : Row) (addr : ℕ) (access : Access) (reply : Reply) (span : Span)
    → Shows c.seat (RowIs held (page_of addr) row) → IsHeldPage held (page_of addr) → row.lo ≤ page_of addr → page_of addr < row.hi
    → plain_reply (Fault addr access) ≡ None → span.lo ≡ page_of addr → span.hi ≡ page_of addr + 1 → AnswersFault row.kind (page_of addr) access reply
    → MayNumber c (Fault addr access) reply (Reader span)
shows_access c held row addr access reply span shows here from until undecided lo hi answers start history state words moment =
    let r = shows start history state words moment in
    (state, held_right state addr access reply span undecided lo hi (r.kind (page_of addr) here from until) answers, refl)

-- under the held page of a fault that its arguments don't decide, the reply that its row gives may be numbered
pub shows_fault : (c : CallerView) (held : Option Held) (row : Row) (call : Call) (access : Access) (reply : Reply) (span : Span)
    → Shows c.seat (RowIs held span.lo row) → IsHeldPage held span.lo → row.lo ≤ span.lo → span.lo < row.hi → plain_reply call ≡ None
    → IsAccess call access span → AnswersFault row.kind span.lo access reply → MayNumber c call reply (Reader span)
shows_fault c held row (Fault addr wanted) access reply span shows here from until undecided is answers =
    let at = subst (λ (z : ℕ × Access). Shows c.seat (RowIs held z.0 row) × IsHeldPage held z.0 × (row.lo ≤ z.0) × (z.0 < row.hi)
    × AnswersFault row.kind z.0 z.1 reply) (λ i. (is.1 i, is.0 i)) (shows, here, from, until, answers) in
    shows_access c held row addr wanted reply span at.0 at.1 at.2 at.3 undecided is.1 is.2 at.4
shows_fault c held row call access reply span shows here from until undecided is answers = absurd is

-- what is held for a fault's entry holds its page
pub holds_page : (keeps : Bool) (held : Option Held) (span : Span) → span.lo < span.hi → HoldsFor keeps held (Reader span) → IsHeldPage held span.lo
holds_page keeps held span some_page (inl shared) = (record { range = record { lo = span.lo; hi = span.hi }; mode = Shared }, shared, omega arith, some_page)
holds_page keeps held span some_page (inr alone) = (record { range = record { lo = span.lo; hi = span.hi }; mode = Alone }, alone.1, omega arith, some_page)

-- a page that may be held in this mode is held as its entry may name it
pub holds_for : (mode : Mode) (keeps : Bool) (held : Option Held) (span : Span) → MayHold mode keeps → held ≡ Some (held_span span mode)
    → HoldsFor keeps held (Reader span)
holds_for Shared keeps held span may is = inl is
holds_for Alone keeps held span may is = inr (may, is)

-- reading and numbering are one call that holds what it held
pub called_holding : (b r n : CallerView) {e : Entry} {line : ℕ} {call : Call} (span : Span) → IsReading b.seat r.seat → r.left ≡ b.left → e.line ≡ line
    → e.call ≡ call → e.under ≡ Reader span → IsNamedReply e.reply → IsDrawn r.seat e AtRest n.seat → n.left + 1 ≡ r.left
    → IsCalled (record b { seat = record b.seat { held = None } }) line call e (record n { seat = record n.seat { held = None } })
called_holding b r n span reading same line_is call_is under named drawn left =
    let taken : n.seat.trace.taken ≡ r.seat.trace.taken + 1 = ap (λ (t : Record). t.taken) drawn.trace in
    record {
      line_is = line_is;
      call_is = call_is;
      named = named;
      numbered = numbered_on (seen_read reading) drawn.numbered (refl, refl, refl, refl, refl) refl refl;
      last = record {
        place = number_place (blocks_by r.seat.table);
        step = r.seat.trace.taken;
        word = subst (λ u. IsLastPlace (blocks_by b.seat.table) u (number_place (blocks_by r.seat.table))) (sym under)
            (ap (λ (t : TableId). number_place (blocks_by t)) reading.table);
        client = ap (λ (t : Record). t.client) drawn.trace;
        since = reading.taken;
        until = omega arith;
      };
      written = drawn.writes;
      left = left ∙ same;
    }

-- pools that stay are ready nodes as they were
pub pools_left : {a b : Pools} → b ≡ a → IsReadyLeft a.ready b.ready
pools_left same = inr (inl (ap (λ (p : Pools). p.ready) same))

-- the same in each list
pub lists_left : (a b : SeatState Pass) → b.pools ≡ a.pools → b.further ≡ a.further → (j : ℕ) → IsReadyLeft (pools_at a j).ready (pools_at b j).ready
lists_left a b same more zero = pools_left same
lists_left a b same more (suc j) = inr (inl (λ i. (get_or (more i) j (same i)).ready))

-- ready nodes that stay in list 0 and in each further list stay in each list
pub lists_ready : (a b : SeatState Pass) → b.pools.ready ≡ a.pools.ready → map ready_in b.further ≡ map ready_in a.further → (j : ℕ)
    → (pools_at b j).ready ≡ (pools_at a j).ready
lists_ready a b same more zero = same
lists_ready a b same more (suc j) = sym (get_or-map ready_in b.further j b.pools)
    ∙ ((λ i. get_or (more i) j (same i)) ∙ get_or-map ready_in a.further j a.pools)

-- the range of one page takes the list of that page alone, however the pages are cut
pub one_page : (c : Regions) (range : Interval) → range.hi ≡ range.lo + 1 → TakesAlone c range
one_page c range one = (
  list_of c range.lo,
  record {
    takes = record { number = range.lo; low = omega arith; high = omega arith; is = refl };
    alone = λ other takes.
        let low = takes.low in let high = takes.high in
        let here : takes.number ≡ range.lo = omega arith in
        sym takes.is ∙ ap (list_of c) here;
  },
)

-- a fault that asks for nothing asks for nothing but its page
pub asks_none : (call : Call) {a b : List Held} → IsFault call → b ≡ a → AsksPageOf call a b
asks_none (Fault addr access) is same = asks_stay same
asks_none call is same = absurd is

-- the span that a fault holds is its page
pub span_page : (mode : Mode) (addr : ℕ) (access wanted : Access) (span : Span) → IsAccess (Fault addr access) wanted span
    → held_span span mode ≡ page_held_as mode addr
span_page mode addr access wanted span is = λ i. record { range = record { lo = is.1 i; hi = is.2 i }; mode = mode }

-- so one that holds it, and asks for nothing behind that, asks for its page alone
pub asks_page_as : (mode : Mode) (addr : ℕ) (access wanted : Access) (span : Span) (a : List Held) {m b : List Held}
    → IsAccess (Fault addr access) wanted span → plain_reply (Fault addr access) ≡ None → AsksOnly (held_span span mode) a m → b ≡ m
    → AsksPageAs mode addr access a b
asks_page_as mode addr access wanted span a is undecided asks same =
    asks_kept (asks_wider (λ h e. (e ∙ span_page mode addr access wanted span is, undecided)) asks) same

pub asks_page : (addr : ℕ) (access wanted : Access) (span : Span) (a : List Held) {m b : List Held} → IsAccess (Fault addr access) wanted span
    → plain_reply (Fault addr access) ≡ None → AsksOnly (held_span span Shared) a m → b ≡ m → AsksPage addr access a b
asks_page addr access wanted span a is undecided asks same = asks_page_as Shared addr access wanted span a is undecided asks same

-- whichever fault it is
pub asks_span : (call : Call) (access : Access) (span : Span) (a : List Held) {m b : List Held} → IsAccess call access span → plain_reply call ≡ None
    → AsksOnly (held_span span Shared) a m → b ≡ m → AsksPageOf call a b
asks_span (Fault addr access) wanted span a is undecided asks same = asks_page addr access wanted span a is undecided asks same
asks_span call access span a is undecided asks same = absurd is
