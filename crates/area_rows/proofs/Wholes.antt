-- A call in one piece: its parts make the whole, whether its arguments decide it or the rows do.
use Rattle.std.proofs.Common.{true, ◌≡◌, ℕ, ◌+◌, ◌*◌, ◌≤◌, List, [], ◌∷◌, ◌++◌, length, sym, refl, ap, ◌∙◌, subst, arith, inl}
use Rattle.std.specs.List.{splice}
use Rattle.std.specs.Prelude.{All, Option, Some, None, MatchOption}
use mathlib.Core.Option.{some}
use lib.ListN.{get_elem?}
use Rattle.page_types.specs.declared.calls.Call.{Call}
use Rattle.page_types.specs.declared.calls.Call.TheVariants.{Map, Unmap, Protect, Fault, Seal, Brk, Remap}
use Rattle.page_types.specs.declared.calls.Reply.{Reply}
use Rattle.page_types.specs.declared.calls.Reply.TheVariants.{Refused}
use Rattle.page_types.specs.declared.calls.Why.{Why}
use Rattle.page_types.specs.PlainReply.{plain_reply}
use Rattle.page_types.specs.Classes.{IsFault}
use Rattle.space_model.specs.declared.areas.Area.{Area}
use Rattle.space_model.specs.declared.entries.Entry.{Entry}
use Rattle.space_model.specs.declared.entries.Under.TheVariants.{Nothing, Whole}
use Rattle.space_model.specs.Answers.Answers.{by_arguments}
use Rattle.space_model.specs.Held.{FitsByState}
use Rattle.space_model.specs.Areas.{kind_at, row_count}
use Rattle.atomic_table.specs.Seated.{TableId}
use Rattle.lock_core.specs.declared.range.Held.{Held}
use Rattle.range_rw.specs.Contract.{SeatState, IsLockCall, IsRelease, Record}
use Rattle.area_guard.specs.declared.guard.Pass.{Pass}
use Rattle.area_guard.specs.declared.guard.Pending.{Pending}
use Rattle.area_guard.specs.Rows.{keeps_in, blocks_by, keeps_by, number_place, rows_in}
use Rattle.area_guard.specs.Writes.{everything_pages}
use Rattle.area_guard.specs.Slots.{layout_long}
use Rattle.area_guard.specs.Reads.{everything, known_rows, known_words, KnowsRows, StillStands}
use Rattle.area_guard.specs.History.{HasBlocks, StartsWith, Runs, RowsStandFor, IsAtRest, HoldsFor, rest_of}
use Rattle.row_plans.specs.RowLists.{areas_from}
use Rattle.row_plans.specs.declared.planning.Cut.{Cut}
use Rattle.row_plans.specs.Loads.{TakesLoads}
use Rattle.row_plans.specs.Loads.TakesLoads.{by_arguments as no_load, by_pages}
use Rattle.row_plans.specs.Plans.{PlanShows, spliced, IsPlan, IsRowList, LeavesRows}
use Rattle.row_plans.proofs.PlanLeft.{counted_rows}
use Rattle.area_rows.specs.Callers.{CallerView, IsMoment, MayNumber, IsKnown, HasPlanned, IsReading, entry_in, IsNumbered, IsDrawn, IsWritten, place_loads}
use Rattle.area_rows.specs.Called.{IsLastPlace, IsLastStep, IsCalled, EndsAtOnce, EndsSoon}
use Rattle.area_rows.proofs.Moments.{stands, nobody_plans, rows_are, here_of}
use Rattle.row_blocks.specs.Blocks.{IsLaidOut, rows_in as rows_by}
use Rattle.row_blocks.specs.declared.positions.Position.{Position}
use Rattle.row_blocks.proofs.RowSplices.{splice_none}
use Rattle.plan_words.specs.Places.{number_at}
use Rattle.plan_words.proofs.Knowing.{known_at}
use Rattle.plan_words.proofs.Seeing.{known_blocks}

-- what is held fits a call where its arguments don't decide it, and where they do
pub match_none : (o : Option Reply) (P : Type 0) (Q : Reply → Type 0) → o ≡ None → P → MatchOption o P Q
match_none o P Q e p = subst (λ (x : Option Reply). MatchOption x P Q) (sym e) p

match_some : {o : Option Reply} (r : Reply) (P : Type 0) (Q : Reply → Type 0) → o ≡ Some r → Q r → MatchOption o P Q
match_some r P Q e q = subst (λ (x : Option Reply). MatchOption x P Q) (sym e) q

-- a call whose arguments decide it may be numbered under nothing
pub plain_right : (c : CallerView) (call : Call) (reply : Reply) → plain_reply call ≡ Some reply → MayNumber c call reply Nothing
plain_right c call reply decided start history state words m = (
  state,
  record { fits = match_some reply (FitsByState state call Nothing) (λ (_ : Reply). Nothing ≡ Nothing) decided refl; answers = by_arguments decided refl },
  refl,
)

-- a call that its arguments don't decide fits under everything, unless it is a fault
fits_whole : (A : List Area) (call : Call) → (IsFault call → ⊥) → FitsByState A call Whole
fits_whole A (Map addr len prot flags) no_fault = refl
fits_whole A (Unmap addr len) no_fault = refl
fits_whole A (Protect addr len prot) no_fault = inl refl
fits_whole A (Fault addr access) no_fault = absurd (no_fault tt)
fits_whole A (Seal addr len flags) no_fault = refl
fits_whole A (Brk base addr) no_fault = refl
fits_whole A (Remap addr old new may hint) no_fault = refl

-- the row words of a moment are those that a caller knows which holds everything
pub rows_now : (c : CallerView) → c.seat.held ≡ Some everything → IsAtRest c.seat.pass → KnowsRows c.seat.pass
    → (start : List Area) (history : List Entry) (state : List Area) (words : List ℕ) → IsMoment c.seat start history state words
    → rows_in words ≡ known_rows c.seat.pass
rows_now c held rest knows start history state words m =
    let granted : get_elem? m.grants c.seat.number ≡ some (Some everything) = m.granted ∙ ap some held in
    let stood : All (StillStands (Some everything) words) m.pass.rows = (m.backed c.seat.number m.pass m.own).rows (Some everything) granted in
    let part = m.running.parts c.seat.number m.pass m.own in
    let stand : RowsStandFor state m.passes words = m.running.rows (nobody_plans (here_of m) (m.read.pending ∙ rest) (everything, granted, everything_pages)) in
    let w = knows.words in
    let still = ap length (part.laid w.layout (m.read.laid w.layout w.laid)) in
    let all = layout_long words stand.2.room in let long = w.long in
    let has : HasBlocks words c.seat.pass.blocks (keeps_in words) = (omega arith, stand.2.room, refl) in
    let at = known_at words c.seat.pass has w
    (λ slot word read. (stands (Some everything) words m.pass.rows slot word stood (m.read.rows slot word read)).word refl)
    (λ layout e. part.laid layout (m.read.laid layout e)) in
    sym (known_blocks words stand.0 c.seat.pass has stand.2 w at).1

-- and may be numbered with what its plan says
pub planned_right : {c : CallerView} {call : Call} {reply : Reply} {count : ℕ} → HasPlanned call reply count c → c.seat.held ≡ Some everything
    → IsAtRest c.seat.pass → plain_reply call ≡ None → (IsFault call → ⊥) → MayNumber c call reply Whole
planned_right {c} {call} planned held rest undecided no_fault start history state words m =
    let p = planned.shows start history state words m in
    let rows = rows_now c held rest planned.known.rows start history state words m in (
      p.left,
      record {
        fits = match_none (plain_reply call) (FitsByState state call Whole) (λ (_ : Reply). Whole ≡ Nothing) undecided (fits_whole state call no_fault);
        answers = p.answers;
      },
      subst (λ (l : List ℕ). PlanShows (spliced (λ (at : Position). number_at c.seat.pass at) l c.cut c.more) (kind_at p.left)) rows p.shows,
    )

-- the plan of a call on the rows that are known is its plan at every moment until they change
pub plan_shows : (c : CallerView) {call : Call} {reply : Reply} {count : ℕ} → c.seat.held ≡ Some everything → IsAtRest c.seat.pass → IsKnown c → IsPlan call
    reply count (spliced (λ (at : Position). number_at c.seat.pass at) (known_rows c.seat.pass) c.cut c.more) (areas_from (known_rows c.seat.pass))
    → HasPlanned call reply count c
plan_shows c {call} {reply} {count} held rest known plan = record {
  shows = λ start history state words m.
      let rows = known_rows c.seat.pass in
      let granted : get_elem? m.grants c.seat.number ≡ some (Some everything) = m.granted ∙ ap some held in
      let now = rows_now c held rest known.rows start history state words m in
      let are = rows_are (here_of m) granted (m.read.pending ∙ rest) now in
      subst (λ (z : List ℕ × List Area). IsPlan call reply count (spliced (λ (at : Position). number_at c.seat.pass at) z.0 c.cut c.more) z.1)
      (λ i. (sym now i, are.1 i)) plan;
  known = known;
}

-- where no row goes and none comes the rows are as they were
pub rows_left : (pass : Pass) (cut : Cut Position) (more : List ℕ) → LeavesRows cut more
    → spliced (λ (at : Position). number_at pass at) (known_rows pass) cut more ≡ known_rows pass
rows_left pass cut more leaves =
    let none = leaves.0 in
    let end : number_at pass cut.at + cut.gone ≡ number_at pass cut.at = omega arith in
    (λ i. splice (known_rows pass) (number_at pass cut.at) (end i) (leaves.1 i)) ∙ splice_none (known_rows pass) (number_at pass cut.at)

-- where the space keeps its history a call's entry is the history's
pub kept_entry : {a b : SeatState Pass} {e : Entry} (num : IsNumbered a e b) → keeps_by a.table ≡ true → entry_in num.history e ≡ e
kept_entry {e} num keeps = λ i. record e { number = sym (num.counted keeps) i }

-- two seats are of one table and number, and have begun with, seen and numbered the same
abbrev pub HasSeenSame : SeatState Pass → SeatState Pass → Type 0
HasSeenSame before after = (after.table ≡ before.table) × (after.number ≡ before.number) × (after.pass.start ≡ before.pass.start)
    × (after.pass.seen ≡ before.pass.seen) × (after.pass.mine ≡ before.pass.mine)

-- steps that read leave that
pub seen_read : {a b : SeatState Pass} → IsReading a b → HasSeenSame a b
seen_read r = (r.table, r.number, r.start, r.seen, r.mine)

-- so do steps of the lock
pub seen_locked : {a b : SeatState Pass} → IsLockCall a b → HasSeenSame a b
seen_locked l = (l.table, l.number, ap (λ (x : Pass). x.start) l.pass, ap (λ (x : Pass). x.seen) l.pass, ap (λ (x : Pass). x.mine) l.pass)

-- and giving a range back
pub seen_released : {a b : SeatState Pass} → IsRelease rest_of a b → HasSeenSame a b
seen_released l = (l.table, l.number, ap (λ (x : Pass). x.start) l.pass, ap (λ (x : Pass). x.seen) l.pass, ap (λ (x : Pass). x.mine) l.pass)

-- a numbering is one still between seats that have seen the same as its own
pub numbered_on : {a b n d : SeatState Pass} {e : Entry} → HasSeenSame a b → IsNumbered b e n → HasSeenSame n d → d.pass.drew ≡ n.pass.drew
    → d.held ≡ a.held → IsNumbered a e d
numbered_on {e} from num to drew held = record {
  history = num.history;
  state = num.state;
  more = subst (StartsWith num.history) from.3 num.more;
  runs = subst (λ (l : List Area). Runs 0 l num.history num.state) from.2 num.runs;
  in_order = num.in_order;
  counted = λ keeps. num.counted (ap keeps_by from.0 ∙ keeps);
  unkept = λ none. num.unkept (ap keeps_by from.0 ∙ none);
  worker = num.worker ∙ from.1;
  left = num.left;
  right = num.right;
  seen = to.3 ∙ num.seen;
  mine = to.4 ∙ (num.mine ∙ ap (λ m. m ++ entry_in num.history e ∷ []) from.4);
  drew = subst (λ (z : TableId × Option Held). HoldsFor (keeps_by z.0) z.1 e.under) (λ i. (from.0 i, sym drew i)) num.drew;
  start = to.2 ∙ (num.start ∙ from.2);
  table = to.0 ∙ (num.table ∙ from.0);
  number = to.1 ∙ (num.number ∙ from.1);
  held = held;
}

-- what the lock does before leaves the call as it is
pub called_from : (a b c : CallerView) (e : Entry) (line : ℕ) (call : Call) → a.seat.held ≡ None → IsLockCall a.seat b.seat
    → b.left ≡ a.left → IsCalled (record b { seat = record b.seat { held = None } }) line call e c → IsCalled a line call e c
called_from a b c e line call free lock same called = record {
  line_is = called.line_is;
  call_is = called.call_is;
  named = called.named;
  numbered = numbered_on (seen_locked lock) called.numbered (refl, refl, refl, refl, refl) refl (called.numbered.held ∙ sym free);
  last = record {
    place = called.last.place;
    step = called.last.step;
    word = subst (λ (t : TableId). IsLastPlace (blocks_by t) e.under called.last.place) lock.table called.last.word;
    client = called.last.client;
    since = let l = lock.taken in let m = called.last.since in omega arith;
    until = called.last.until;
  };
  written = called.written;
  left = called.left ∙ same;
}

-- and so does giving the range back behind it
pub called_back : (a w d : CallerView) {e : Entry} {line : ℕ} {call : Call} → a.seat.held ≡ None → IsRelease rest_of w.seat d.seat → d.left ≡ w.left
    → IsCalled a line call e (record w { seat = record w.seat { held = None } }) → IsCalled a line call e d
called_back a w d free release same called = record {
  line_is = called.line_is;
  call_is = called.call_is;
  named = called.named;
  numbered = numbered_on (refl, refl, refl, refl, refl) called.numbered (seen_released release) (ap (λ (x : Pass). x.drew) release.pass)
      (release.held ∙ sym free);
  last = record {
    place = called.last.place;
    step = called.last.step;
    word = called.last.word;
    client = release.client ∙ called.last.client;
    since = called.last.since;
    until = let u = called.last.until in let l = release.least in omega arith;
  };
  written = ap (λ (x : Pass). x.pending) release.pass ∙ called.written;
  left = ap (λ k. k + 1) same ∙ called.left;
}

-- by a caller that holds everything before and afterwards planning, numbering and writing are one numbering
pub numbered_held : {b p n w : SeatState Pass} {e : Entry} {pending : Pending} → IsReading b p → IsDrawn p e pending n → IsWritten n w
    → IsNumbered (record b { held = None }) e (record w { held = None })
numbered_held reading drawn w = numbered_on (seen_read reading) drawn.numbered (w.table, w.number, w.start, w.seen, w.mine) w.drew refl

-- and its last step on a client word raised the sequence word
pub last_held : {b p n w : SeatState Pass} {pending : Pending} {e : Entry} → IsReading b p → IsDrawn p e pending n → IsWritten n w
    → IsLastStep (record b { held = None }) Whole (record w { held = None })
last_held {b} {p} {n} reading drawn written = record {
  place = 1;
  step = written.step;
  word = refl;
  client = written.client;
  since = let r = reading.taken in
      let t : n.trace.taken ≡ p.trace.taken + 1 = ap (λ (x : Record). x.taken) drawn.trace in let s = written.since in omega arith;
  until = written.until;
}

-- a caller that holds everything knows as many rows as the state has
rows_counted : (c : CallerView) → c.seat.held ≡ Some everything → IsAtRest c.seat.pass → IsKnown c
    → (start : List Area) (history : List Entry) (state : List Area) (words : List ℕ) → IsMoment c.seat start history state words
    → length (known_rows c.seat.pass) ≡ row_count state
rows_counted c held rest known start history state words m =
    let rows = known_rows c.seat.pass in
    let are = rows_are (here_of m) (m.granted ∙ ap some held) (m.read.pending ∙ rest) (rows_now c held rest known.rows start history state words m) in
    counted_rows rows known.list ∙ ap row_count are.1

-- and these rows show it
rows_shown : (c : CallerView) → c.seat.held ≡ Some everything → IsAtRest c.seat.pass → IsKnown c
    → (start : List Area) (history : List Entry) (state : List Area) (words : List ℕ) → IsMoment c.seat start history state words
    → areas_from (known_rows c.seat.pass) ≡ state
rows_shown c held rest known start history state words m =
    (rows_are (here_of m) (m.granted ∙ ap some held) (m.read.pending ∙ rest) (rows_now c held rest known.rows start history state words m)).1

-- as many loads between two other numbers of steps
loads_from : (rows : List ℕ) (fit : ℕ) (c : Call) (before after from until : ℕ) → until + before ≡ from + after → TakesLoads rows fit c before after
    → TakesLoads rows fit c from until
loads_from rows fit c before after from until same (no_load reply is none) = no_load reply is (omega arith)
loads_from rows fit c before after from until same (by_pages judged undecided is looks) =
    by_pages judged undecided is (λ at stops. let l = looks at stops in omega arith)

-- its steps from the draw on are those of the writing
pub ends_soon : {b n w : SeatState Pass} {p : CallerView} {e : Entry} {pending : Pending} → IsReading b p.seat → p.seat.held ≡ Some everything
    → IsAtRest p.seat.pass → IsKnown p → p.seat.pass.blocks ≡ blocks_by b.table → IsDrawn p.seat e pending n → IsWritten n w
    → TakesLoads (known_rows p.seat.pass) (place_loads p.seat.pass.blocks (known_words p.seat.pass)) e.call (b.trace.taken + 1) p.seat.trace.taken
    → w.trace.taken ≤ n.trace.taken + (3 * length p.more + 16 * blocks_by b.table + 2362)
    → ((why : Why) → e.reply ≡ Refused why → w.trace.taken ≡ n.trace.taken + 1) → EndsSoon b e w
ends_soon {b} {n} {w} {p} {e} reading held rest known blocks drawn written loads steps refused =
    let num = drawn.numbered in let words = known_words p.seat.pass in
    let counted = written.counted in let none = drawn.since in
    record {
      history = num.history;
      state = num.state;
      runs = subst (λ (l : List Area). Runs 0 l num.history num.state) reading.start num.runs;
      in_order = num.in_order;
      words = words;
      laid = subst (λ (nb : ℕ). IsLaidOut nb words) blocks known.rows.blocks.laid;
      list = subst (λ (nb : ℕ). IsRowList (rows_by nb words)) blocks known.list;
      shown = subst (λ (nb : ℕ). areas_from (rows_by nb words) ≡ num.state) blocks (rows_shown p held rest known _ _ _ _ drawn.moment);
      took = subst (λ (z : ℕ × ℕ). TakesLoads (rows_by z.0 words) (place_loads z.0 words) e.call (b.pass.since + 1) z.1)
          (λ i. (blocks i, sym (written.took ∙ drawn.took) i)) (loads_from _ _ e.call _ _ _ _ (let all = reading.counted in omega arith) loads);
      seen = written.seen ∙ num.seen;
      since =
          let rows = rows_counted p held rest known _ _ _ _ drawn.moment in
          let grows = known.grows in let there = known.there in omega arith;
      refused = λ why is. let one = refused why is in omega arith;
      step = written.step;
      client = written.client;
      back = let l = written.last in omega arith;
    }

-- what the lock does before leaves the end of a call as it is
pub ends_from : {a b w : SeatState Pass} {e : Entry} → IsLockCall a b → EndsSoon b e w → EndsSoon a e w
ends_from {a} {b} {w} {e} call soon =
    let blocks : blocks_by b.table ≡ blocks_by a.table = ap blocks_by call.table in
    record {
      history = soon.history;
      state = soon.state;
      runs = subst (λ (x : Pass). Runs 0 x.start soon.history soon.state) call.pass soon.runs;
      in_order = soon.in_order;
      words = soon.words;
      laid = subst (λ (nb : ℕ). IsLaidOut nb soon.words) blocks soon.laid;
      list = subst (λ (nb : ℕ). IsRowList (rows_by nb soon.words)) blocks soon.list;
      shown = subst (λ (nb : ℕ). areas_from (rows_by nb soon.words) ≡ soon.state) blocks soon.shown;
      took = subst (λ (z : ℕ × Pass). TakesLoads (rows_by z.0 soon.words) (place_loads z.0 soon.words) e.call (z.1.since + 1) w.pass.took)
          (λ i. (blocks i, call.pass i)) soon.took;
      seen = soon.seen;
      since = let most = soon.since in omega arith;
      refused = soon.refused;
      step = soon.step;
      client = soon.client;
      back = soon.back;
    }

-- and one or two steps more give the pages back
pub ends_back : {a w d : SeatState Pass} {e : Entry} → EndsSoon a e w → EndsAtOnce w → IsRelease rest_of w d → EndsSoon a e d
ends_back {a} {w} {d} {e} soon last release =
    let since = ap (λ (x : Pass). x.since) release.pass in
    record {
      history = soon.history;
      state = soon.state;
      runs = soon.runs;
      in_order = soon.in_order;
      words = soon.words;
      laid = soon.laid;
      list = soon.list;
      shown = soon.shown;
      took = subst (λ (x : Pass). TakesLoads (rows_by (blocks_by a.table) soon.words) (place_loads (blocks_by a.table) soon.words) e.call
          (a.pass.since + 1) x.took) (sym release.pass) soon.took;
      seen = ap (λ (x : Pass). x.seen) release.pass ∙ soon.seen;
      since = let most = soon.since in omega arith;
      refused = λ why is. since ∙ soon.refused why is;
      step = last.0;
      client = release.client ∙ last.1;
      back = let l = last.2 in let most = release.most in omega arith;
    }

-- a draw is the last step of a call under nothing
pub last_drawn : {a n : SeatState Pass} {e : Entry} {pending : Pending} → IsDrawn a e pending n → IsLastStep a Nothing n
last_drawn {a} {n} drawn = record {
  place = number_place (blocks_by a.table);
  step = a.trace.taken;
  word = refl;
  client = ap (λ (x : Record). x.client) drawn.trace;
  since = omega arith;
  until = let t : n.trace.taken ≡ a.trace.taken + 1 = ap (λ (x : Record). x.taken) drawn.trace in omega arith;
}
