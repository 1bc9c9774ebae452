-- What rows that were read under one hold show together.
use Rattle.std.proofs.Common.{◌≡◌, ◌≢◌, ℕ, ◌+◌, ◌-◌, ◌*◌, ◌<◌, ◌≤◌, List, [], ◌∷◌, ◌++◌, length, Option, Some, None, sym, ◌∙◌, ap, subst, refl, arith}
use Rattle.std.specs.Prelude.{min, Result, Ok, Err, OnOk, OnErr}
use Rattle.page_types.specs.declared.TheConstants.{LIMIT, SEARCH}
use Rattle.page_types.specs.declared.calls.Kind.{Kind}
use Rattle.page_types.specs.declared.pages.Span.{Span}
use Rattle.space_model.specs.declared.areas.Area.{Area}
use Rattle.space_model.specs.declared.entries.Entry.{Entry}
use Rattle.space_model.specs.Areas.{IsAreaList, kind_at}
use Rattle.lock_core.specs.declared.range.Held.{Held}
use Rattle.row_plans.specs.RowLists.{with_row}
use Rattle.range_rw.specs.Contract.{SeatState, IsLockCall, IsRelease}
use Rattle.area_guard.specs.declared.guard.Pass.{Pass}
use Rattle.area_rows.specs.declared.row.Row.{Row}
use Rattle.area_rows.specs.Reads.{IsHeldPage}
use Rattle.area_rows.specs.Reading.{no_reading}
use Rattle.area_rows.specs.History.{IsAtRest, StartsWith, rest_of}
use Rattle.area_rows.specs.Seen.{HasMoment}
use Rattle.area_rows.specs.Callers.{CallerView, HasSameRows, IsReading, RowIs, Shows, reading_on}
use Rattle.area_rows.proofs.Reading.{shows_on}
use Rattle.area_looks.specs.Shown.{HoldsSpan, AreRead, HasReadTo, HasReadAll, HasReadPart, HasLookedAt, HasSeenSame, AreAreasIn, ShowsAreas, ShowsPart, WasSeen}
use Rattle.area_looks.proofs.Stretches.{none_read, row_more}

-- each page of a held span is held
pub page_held : (held : Option Held) (span : Span) → HoldsSpan held span → (p : ℕ) → span.lo ≤ p → p < span.hi → IsHeldPage held p
page_held held span holds p low high = let from = holds.2 in let until = holds.3 in (holds.0, holds.1, omega arith, omega arith)

-- the row of the page up to which the others reach goes on with them
pub row_shows : (seat : SeatState Pass) (held : Option Held) (span : Span) (page rows : ℕ) (row : Row) (list : List Area) (end : ℕ)
    → Shows seat (λ words state. AreRead span.lo span.hi page rows list state) → Shows seat (RowIs held page row) → HoldsSpan held span
    → span.lo ≤ page → span.hi ≤ LIMIT → row.lo ≤ page → page < end → end ≤ row.hi → end ≤ span.hi → (end < span.hi → end ≡ row.hi)
    → Shows seat (λ words state. AreRead span.lo span.hi end (rows + 1) (list ++ with_row page row.kind end []) state)
row_shows seat held span page rows row list end before shows holds from limit row_from some_page row_until until clipped start history state words m =
    let r = shows start history state words m in
    row_more span.lo span.hi page end rows row.kind list state (before start history state words m) from some_page until limit
    (λ p low high. r.kind p (page_held held span holds p (omega arith) (omega arith)) (omega arith) (omega arith))
    (λ on. let at = clipped on in
    subst (λ (n : ℕ). kind_at state n ≢ row.kind) (sym at) (r.next (subst (IsHeldPage held) at (page_held held span holds end (omega arith) on))))

-- rows that are the same twice over are the same
same_twice : (a b c : CallerView) → HasSameRows a b → HasSameRows b c → HasSameRows a c
same_twice a b c f g = record {
  count = g.count ∙ f.count;
  cut = g.cut ∙ f.cut;
  more = g.more ∙ f.more;
  change = g.change ∙ f.change;
}

-- no row is read yet
pub reads_none : (c : CallerView) (span : Span) (page : ℕ) (list : List Area) → span.lo ≤ span.hi → page ≡ span.lo → list ≡ []
    → HasReadTo c span page 0 0 list c
reads_none c span page list wide at none = record {
  reading = no_reading c.seat;
  left = refl;
  same = record { count = refl; cut = refl; more = refl; change = refl };
  from = omega arith;
  until = omega arith;
  shows = λ start history state words m. subst (λ (z : ℕ × List Area). AreRead span.lo span.hi z.0 0 z.1 state) (λ i. (sym at i, sym none i))
      (none_read span.lo span.hi state);
  taken = omega arith;
}

-- one row more is read, and no page of it is among the areas yet
pub reads_part : (before now after : CallerView) (span : Span) (page rows : ℕ) (list : List Area) → HasReadTo before span page rows rows list now
    → IsReading now.seat after.seat → after.left ≡ now.left → HasSameRows now after → after.seat.trace.taken ≤ now.seat.trace.taken + (SEARCH + 3)
    → HasReadTo before span page rows (rows + 1) list after
reads_part before now after span page rows list r reading left same bound = record {
  reading = reading_on before.seat now.seat after.seat r.reading reading;
  left = left ∙ r.left;
  same = same_twice before now after r.same same;
  from = r.from;
  until = r.until;
  shows = shows_on (λ words state. AreRead span.lo span.hi page rows list state) reading r.shows;
  taken = let t = r.taken in omega arith;
}

-- one row more, with its pages
pub reads_more : (before now after : CallerView) (span : Span) (page rows end : ℕ) (row : Row) (list : List Area)
    → HasReadTo before span page rows rows list now → HoldsSpan before.seat.held span → span.hi ≤ LIMIT → IsReading now.seat after.seat
    → after.left ≡ now.left → HasSameRows now after → Shows after.seat (RowIs now.seat.held page row) → row.lo ≤ page → page < row.hi
    → end ≡ min row.hi span.hi → page < span.hi → after.seat.trace.taken ≤ now.seat.trace.taken + (SEARCH + 3)
    → HasReadTo before span end (rows + 1) (rows + 1) (list ++ with_row page row.kind end []) after
reads_more before now after span page rows end row list r holds limit reading left same row_is row_from row_until is on bound =
    let part = reads_part before now after span page rows list r reading left same bound in
    let held : HoldsSpan now.seat.held span = subst (λ (h : Option Held). HoldsSpan h span) (sym r.reading.held) holds in
    let from = r.from in
    record {
      reading = part.reading;
      left = part.left;
      same = part.same;
      from = omega arith;
      until = omega arith;
      shows = row_shows after.seat now.seat.held span page rows row list end part.shows row_is held from limit row_from (omega arith) (omega arith)
          (omega arith) (λ short. omega arith);
      taken = part.taken;
    }

-- all rows show the areas of the span
pub all_shown : (before after : CallerView) (span : Span) (list : List Area) → HasReadAll before span list after → ShowsAreas after.seat span.lo span.hi list
all_shown before after span list read start history state words m = (read.1.shows start history state words m).areas

-- those of a first part are the areas of its pages
pub part_shown : (before after : CallerView) (span : Span) (list : List Area) → HasReadPart before span list after → ShowsPart after.seat span list
part_shown before after span list read = (read.0, read.1, λ start history state words m. (read.2.1.shows start history state words m).areas)

-- steps that read are no calls of the history
pub seen_same : {a b : SeatState Pass} → IsReading a b → HasSeenSame a b
seen_same r = record { table = r.table; number = r.number; start = r.start; seen = r.seen; mine = r.mine; looks = r.looks }

-- what is shown by what was read under a held range was so at the moment of a step behind that
pub seen_here : (b r : SeatState Pass) (held : Option Held) (what : List Area → Type 0) → b.held ≡ held → IsReading b r → HasMoment r
    → Shows r (λ words state. what state) → WasSeen b held what
seen_here b r held what is reading m shows = record {
  seat = r;
  same = seen_same reading;
  holds = reading.held ∙ is;
  history = m.history;
  state = m.state;
  words = m.words;
  moment = m.moment;
  more = subst (λ (seen : List Entry). StartsWith m.history seen) reading.seen m.more;
  shows = shows;
  so = shows r.pass.start m.history m.state m.words m.moment;
}

-- so they were at the moment of a step behind them
pub all_were : (before after : CallerView) (span : Span) (list : List Area) → HasReadAll before span list after → HasMoment after.seat
    → WasSeen before.seat before.seat.held (AreAreasIn span.lo span.hi list)
all_were before after span list read m =
    seen_here before.seat after.seat before.seat.held (AreAreasIn span.lo span.hi list) refl read.1.reading m (all_shown before after span list read)

-- and they are an area list
pub read_list : (before after : CallerView) (span : Span) (page rows made : ℕ) (list : List Area) → HasReadTo before span page rows made list after
    → HasMoment after.seat → IsAreaList list
read_list before after span page rows made list read m = (read.shows after.seat.pass.start m.history m.state m.words m.moment).areas.areas

-- so many steps were made
pub read_steps : (before after : CallerView) (span : Span) (page rows made : ℕ) (list : List Area) → HasReadTo before span page rows made list after
    → HasMoment after.seat → made ≤ rows + 1 → after.seat.trace.taken ≤ before.seat.trace.taken + (SEARCH + 3) * (2 * length list + 2)
read_steps before after span page rows made list read m few =
    let some = (read.shows after.seat.pass.start m.history m.state m.words m.moment).few in let t = read.taken in omega arith

-- what was seen behind a look was seen behind what came before it
pub was_on : {a b : SeatState Pass} {held : Option Held} {what : List Area → Type 0} → HasSeenSame a b → WasSeen b held what → WasSeen a held what
was_on {a} {b} {held} {what} f w = record {
  seat = w.seat;
  same = record {
    table = w.same.table ∙ f.table;
    number = w.same.number ∙ f.number;
    start = w.same.start ∙ f.start;
    seen = w.same.seen ∙ f.seen;
    mine = w.same.mine ∙ f.mine;
    looks = w.same.looks ∙ f.looks;
  };
  holds = w.holds;
  history = w.history;
  state = w.state;
  words = w.words;
  moment = w.moment;
  more = subst (λ (seen : List Entry). StartsWith w.history seen) f.seen w.more;
  shows = w.shows;
  so = w.so;
}

-- looks, one after another, are a look
pub looked_on : {a b c : CallerView} → HasLookedAt a b → HasLookedAt b c → HasLookedAt a c
looked_on {a} {b} {c} f g = record {
  same = record {
    table = g.same.table ∙ f.same.table;
    number = g.same.number ∙ f.same.number;
    start = g.same.start ∙ f.same.start;
    seen = g.same.seen ∙ f.same.seen;
    mine = g.same.mine ∙ f.same.mine;
    looks = g.same.looks ∙ f.same.looks;
  };
  left = g.left ∙ f.left;
  rest = g.rest;
}

-- a call of the lock leaves what its caller has seen
pub lock_same : {a b : SeatState Pass} → IsLockCall a b → HasSeenSame a b
lock_same l = record {
  table = l.table;
  number = l.number;
  start = ap (λ (p : Pass). p.start) l.pass;
  seen = ap (λ (p : Pass). p.seen) l.pass;
  mine = ap (λ (p : Pass). p.mine) l.pass;
  looks = ap (λ (p : Pass). p.looks) l.pass;
}

-- holding and reading are a look
pub held_and_read : (a b c : CallerView) → IsLockCall a.seat b.seat → b.left ≡ a.left → IsAtRest b.seat.pass → IsReading b.seat c.seat → c.left ≡ b.left
    → HasLookedAt a c
held_and_read a b c lock same rest reading left =
    let l = lock_same lock in
    record {
      same = record {
        table = reading.table ∙ l.table;
        number = reading.number ∙ l.number;
        start = reading.start ∙ l.start;
        seen = reading.seen ∙ l.seen;
        mine = reading.mine ∙ l.mine;
        looks = reading.looks ∙ l.looks;
      };
      left = left ∙ same;
      rest = reading.read.pending ∙ rest;
    }

-- giving back leaves what was seen
pub back_same : {c d : CallerView} → IsRelease rest_of c.seat d.seat → d.left ≡ c.left → IsAtRest c.seat.pass → HasLookedAt c d
back_same r left rest = record {
  same = record {
    table = r.table;
    number = r.number;
    start = ap (λ (p : Pass). p.start) r.pass;
    seen = ap (λ (p : Pass). p.seen) r.pass;
    mine = ap (λ (p : Pass). p.mine) r.pass;
    looks = ap (λ (p : Pass). p.looks) r.pass;
  };
  left = left;
  rest = ap (λ (p : Pass). p.pending) r.pass ∙ rest;
}

-- rows that were read up to some page, with at most one more
pub record IsSomeRead (before : CallerView) (span : Span) (list : List Area) (after : CallerView) : Type 0 where
  pub page : ℕ
  pub rows : ℕ
  pub made : ℕ
  pub read : HasReadTo before span page rows made list after
  pub few : made ≤ rows + 1

-- whichever the answer is
pub some_read : {A E : Type 0} (r : Result A E) (before after : CallerView) (span : Span) (list : List Area) → OnOk r (HasReadAll before span list after)
    → OnErr r (HasReadPart before span list after) → IsSomeRead before span list after
some_read (Ok x) before after span list all part = record { page = span.hi; rows = all.0; made = all.0; read = all.1; few = omega arith }
some_read (Err e) before after span list all part =
    record { page = part.0; rows = part.2.0; made = part.2.0 + 1; read = part.2.1; few = omega arith }

-- what follows where the answer is an error
pub err_on : {A E X Y : Type 0} (r : Result A E) → (X → Y) → OnErr r X → OnErr r Y
err_on (Ok x) f t = t
err_on (Err e) f t = f t

-- what is so in any case
pub err_any : {A E X : Type 0} (r : Result A E) → X → OnErr r X
err_any (Ok x) t = tt
err_any (Err e) t = t

-- what follows where it is none
pub ok_then : {A E X Y : Type 0} (r : Result A E) → (X → Y) → OnOk r X → OnOk r Y
ok_then (Ok x) f t = f t
ok_then (Err e) f t = t

-- a part that is shown stays so while the caller reads on
pub part_on : (a b : SeatState Pass) (span : Span) (list : List Area) → IsReading a b → ShowsPart a span list → ShowsPart b span list
part_on a b span list reading part = (part.0, part.1, shows_on (λ words state. AreAreasIn span.lo part.0 list state) reading part.2)

-- a caller that is at rest has looked as often as before
pub looked_none : (a : CallerView) → IsAtRest a.seat.pass → HasLookedAt a a
looked_none a rest = record {
  same = record { table = refl; number = refl; start = refl; seen = refl; mine = refl; looks = refl };
  left = refl;
  rest = rest;
}
