-- The steps of a change of protection, each from what the calls of `area_rows` promise: what a look has found, and that
-- planning, numbering, storing and giving back are one call.
use Rattle.std.proofs.Common.{true, ◌≡◌, ℕ, ◌+◌, ◌<◌, ◌≤◌, ◌⊎◌, List, [], ◌∷◌, ◌++◌, take, length, sym, refl, ap, ◌∙◌, subst, arith, inl, inr, ⊎_elim}
use Rattle.std.proofs.lemmas.List.{append-nil, take-append-le, take_all}
use Rattle.std.specs.Prelude.{Bool, Option, Some, None}
use mathlib.Core.Option.{some}
use lib.ListN.{get_elem?}
use Rattle.page_types.specs.declared.calls.Call.{Call}
use Rattle.page_types.specs.declared.calls.Call.TheVariants.{Protect}
use Rattle.page_types.specs.declared.pages.Span.{Span}
use Rattle.page_types.specs.Named.{IsNamedReply}
use Rattle.space_model.specs.declared.areas.Area.{Area}
use Rattle.space_model.specs.declared.entries.Entry.{Entry}
use Rattle.space_model.specs.declared.entries.Under.TheVariants.{Area as OverArea}
use Rattle.space_model.specs.Areas.{kind_at}
use Rattle.space_model.specs.History.{StateAfter}
use Rattle.space_model.specs.Held.{HoldsSomeArea}
use Rattle.lock_core.specs.declared.range.Held.{Held}
use Rattle.lock_core.specs.declared.range.Mode.TheVariants.{Reader}
use Rattle.range_rw.specs.Contract.{SeatState, IsLockCall, IsRelease, Record, client_trace}
use Rattle.area_guard.specs.declared.guard.Look.{Look}
use Rattle.area_guard.specs.declared.guard.Pass.{Pass}
use Rattle.area_guard.specs.declared.guard.Pending.{Pending}
use Rattle.area_rows.specs.declared.row.Row.{Row}
use Rattle.area_rows.specs.AreaPlans.{IsOneKind}
use Rattle.area_rows.specs.Seated.{TableId}
use Rattle.area_rows.specs.Rows.{keeps_by, blocks_by, number_place}
use Rattle.area_rows.specs.Reads.{IsHeldPage}
use Rattle.area_rows.specs.History.{StartsWith, Runs, whole_count, planned_calls, IsAtRest, HoldsFor, rest_of}
use Rattle.area_rows.specs.Called.{IsCalled, IsLastPlace}
use Rattle.area_rows.specs.Callers.{entry_in, CallerView, CountsWhole, IsReading, IsLook, IsDrawn, IsNumbered, IsStoredRow, RowIs, Shows, keeps_on}
use Rattle.area_rows.proofs.Wholes.{numbered_on, seen_read, seen_released}
use Rattle.row_plans.proofs.RowLists.{some_none}
use Rattle.area_protect.specs.declared.steps.Request.{Request}
use Rattle.area_protect.specs.Attempts.{IsChanged}
use Rattle.area_protect.specs.Looks.{IsAfter, HasWhole, HasMade, LooksFirst, HasLooked, IsLookedAt}
use Rattle.area_protect.proofs.Looking.{longer, look_shows}

-- pages that the row of the first one doesn't hold, or that aren't mapped there, are not of one kind
pub other_kind : (held : Held) (pages : Span) {row : Row} {words : List ℕ} {state : List Area} → held.range.lo ≡ pages.lo → held.range.hi ≡ pages.hi
    → RowIs (Some held) pages.lo row words state → row.lo ≤ pages.lo → pages.lo < row.hi → (row.kind ≡ None) ⊎ (row.hi < pages.hi)
    → IsOneKind state pages.lo pages.hi → ⊥
other_kind held pages {row} {state} lo hi is from until why one =
    let order = pages.ordered in
    let here : IsHeldPage (Some held) pages.lo = (held, refl, omega arith, omega arith) in
    let first : kind_at state pages.lo ≡ row.kind = is.kind pages.lo here from until in
    ⊎_elim (λ none. some_none one.0 (kind_at state pages.lo) (first ∙ none) (one.1 pages.lo (omega arith) (omega arith))) (λ short.
    let behind : IsHeldPage (Some held) row.hi = (held, refl, omega arith, omega arith) in
    is.next behind (one.1 row.hi (omega arith) short ∙ (sym (one.1 pages.lo (omega arith) (omega arith)) ∙ first))) why

-- so at a look under these pages they were not of one kind
pub other_shown : (seat : SeatState Pass) {held : Option Held} (h : Held) {page : ℕ} (pages : Span) (row : Row) → held ≡ Some h → h.range.lo ≡ pages.lo
    → h.range.hi ≡ pages.hi → page ≡ pages.lo → Shows seat (RowIs held page row) → row.lo ≤ page → page < row.hi → (row.kind ≡ None) ⊎ (row.hi < pages.hi)
    → Shows seat (λ _ state. ¬ IsOneKind state pages.lo pages.hi)
other_shown seat h pages row is lo hi first shows from until why start history state words m =
    other_kind h pages lo hi (subst (λ (z : Option Held × ℕ). RowIs z.0 z.1 row words state) (λ i. (is i, first i)) (shows start history state words m))
    (subst (λ n. row.lo ≤ n) first from) (subst (λ n. n < row.hi) first until) why

-- what a numbered call left is written, at the latest by a store of one row
pub record IsFinished (drawn after : SeatState Pass) : Type 0 where
  pub rest : IsAtRest after.pass
  pub start : after.pass.start ≡ drawn.pass.start
  pub seen : after.pass.seen ≡ drawn.pass.seen
  pub mine : after.pass.mine ≡ drawn.pass.mine
  pub drew : after.pass.drew ≡ drawn.pass.drew
  pub looks : after.pass.looks ≡ drawn.pass.looks
  pub table : after.table ≡ drawn.table
  pub number : after.number ≡ drawn.number
  pub held : after.held ≡ drawn.held
  pub trace : (after.trace ≡ drawn.trace) ⊎ ((index : ℕ) × (after.trace ≡ client_trace drawn.trace (3 + index)))

-- where nothing is left to be written, what was numbered is written as it stands
pub nothing_to_store : (n : SeatState Pass) → IsAtRest n.pass → IsFinished n n
nothing_to_store n rest = record {
  rest = rest;
  start = refl;
  seen = refl;
  mine = refl;
  drew = refl;
  looks = refl;
  table = refl;
  number = refl;
  held = refl;
  trace = inl refl;
}

-- the store of one row writes what a call left to be written
pub stored_one : {n w : SeatState Pass} {index : ℕ} → IsStoredRow n index w → IsFinished n w
stored_one {index} s = record {
  rest = s.rest;
  start = s.start;
  seen = s.seen;
  mine = s.mine;
  drew = s.drew;
  looks = s.looks;
  table = s.table;
  number = s.number;
  held = s.held;
  trace = inr (index, s.trace);
}

-- planning, numbering, storing and giving back are one call of a caller that held nothing before
pub called_area : (b r n w d : CallerView) {e : Entry} {line : ℕ} {call : Call} (span : Span) {pending : Pending} → IsReading b.seat r.seat → r.left ≡ b.left
    → e.line ≡ line → e.call ≡ call → e.under ≡ OverArea span → IsNamedReply e.reply → IsDrawn r.seat e pending n.seat → n.left + 1 ≡ r.left
    → IsFinished n.seat w.seat → w.left ≡ n.left → IsRelease rest_of w.seat d.seat → d.left ≡ w.left
    → IsCalled (record b { seat = record b.seat { held = None } }) line call e d
called_area b r n w d {e} span reading same line_is call_is under named drawn left finished stored_left release same_left =
    let back = seen_released release in
    let taken : n.seat.trace.taken ≡ r.seat.trace.taken + 1 = ap (λ (t : Record). t.taken) drawn.trace in
    record {
      line_is = line_is;
      call_is = call_is;
      named = named;
      numbered = numbered_on (seen_read reading) drawn.numbered
          (back.0 ∙ finished.table, back.1 ∙ finished.number, back.2 ∙ finished.start, back.3 ∙ finished.seen, back.4 ∙ finished.mine)
          (ap (λ (p : Pass). p.drew) release.pass ∙ finished.drew) release.held;
      last = ⊎_elim (λ same_trace. record {
        place = number_place (blocks_by r.seat.table);
        step = r.seat.trace.taken;
        word = subst (λ u. IsLastPlace (blocks_by b.seat.table) u (number_place (blocks_by r.seat.table))) (sym under)
            (inl (ap (λ (t : TableId). number_place (blocks_by t)) reading.table));
        client = release.client ∙ (ap (λ (t : Record). t.client) same_trace ∙ ap (λ (t : Record). t.client) drawn.trace);
        since = reading.taken;
        until = let m = release.least in let t = ap (λ (t : Record). t.taken) same_trace in omega arith;
      }) (λ one. record {
        place = 3 + one.0;
        step = n.seat.trace.taken;
        word = subst (λ u. IsLastPlace (blocks_by b.seat.table) u (3 + one.0)) (sym under) (inr (omega arith));
        client = release.client ∙ ap (λ (t : Record). t.client) one.1;
        since = let m = reading.taken in omega arith;
        until = let m = release.least in let t : w.seat.trace.taken ≡ n.seat.trace.taken + 1 = ap (λ (t : Record). t.taken) one.1 in omega arith;
      }) finished.trace;
      written = ap (λ (p : Pass). p.pending) release.pass ∙ finished.rest;
      left = ap (λ k. k + 1) (same_left ∙ stored_left) ∙ (left ∙ same);
    }

-- a range that is given back leaves what was seen
module _ {d e : SeatState Pass} (release : IsRelease rest_of d e) where
  seen_back : e.pass.seen ≡ d.pass.seen
  seen_back = ap (λ (p : Pass). p.seen) release.pass

  start_back : e.pass.start ≡ d.pass.start
  start_back = ap (λ (p : Pass). p.start) release.pass

  -- what a look showed of the state is so still when the range was given back
  pub after_back : {s : SeatState Pass} {found : ℕ} (what : List Area → Type 0) → IsLook s found d → Shows s (λ _ state. what state) → IsAfter e found what
  after_back {s} {found} what look shows =
      let t = look_shows what look shows in
      (t.0, subst (λ (z : List Area × List Entry). StateAfter z.0 (take found z.1) t.0) (λ i. (sym start_back i, sym seen_back i)) t.1, t.2)

  -- so many of the first entries are under everything as before the range was given back
  pub whole_back : (m n : ℕ) → HasWhole d m n → HasWhole e m n
  whole_back m n t = ap (λ l. whole_count (take m l)) seen_back ∙ t

-- the look that is made between holding and giving back: it is the only one, and was made under what was held
abbrev looked_of : (a b c d e : CallerView) {found : ℕ} → IsLockCall a.seat b.seat → IsReading b.seat c.seat → IsLook c.seat found d.seat
    → IsRelease rest_of d.seat e.seat → Look
looked_of a b c d e {found} lock reading look release = record { found = length d.seat.pass.seen; held = c.seat.held }

looks_round : (a b c d e : CallerView) {found : ℕ} (lock : IsLockCall a.seat b.seat) (reading : IsReading b.seat c.seat) (look : IsLook c.seat found d.seat)
    (release : IsRelease rest_of d.seat e.seat) → HasMade a.seat (looked_of a b c d e lock reading look release ∷ []) e.seat
looks_round a b c d e {found} lock reading look release = ap (λ (p : Pass). p.looks) release.pass ∙ (ap (λ (p : Pass). p.looks) look.step.pass
    ∙ ap (λ l. record { found = length d.seat.pass.seen; held = c.seat.held } ∷ l) (reading.looks ∙ ap (λ (p : Pass). p.looks) lock.pass))

-- so it is the first look where none was made before
pub first_round : (a b c d e : CallerView) {found : ℕ} (lo hi : ℕ) → IsLockCall a.seat b.seat
    → b.seat.held ≡ Some (record { range = record { lo = lo; hi = hi }; mode = Reader }) → IsReading b.seat c.seat → IsLook c.seat found d.seat
    → IsRelease rest_of d.seat e.seat → LooksFirst a.seat lo hi e.seat
first_round a b c d e {found} lo hi lock held reading look release = (
  [],
  record { found = length d.seat.pass.seen; held = c.seat.held },
  looks_round a b c d e lock reading look release,
  reading.held ∙ held,
)

-- holding and reading are a look at which nothing more was seen
pub looked_held : (a b c : CallerView) → IsLockCall a.seat b.seat → b.left ≡ a.left → IsAtRest b.seat.pass → IsReading b.seat c.seat
    → c.left ≡ b.left → HasLooked a c
looked_held a b c lock same_b rest reading same_c =
    let seen : c.seat.pass.seen ≡ a.seat.pass.seen = reading.seen ∙ ap (λ (p : Pass). p.seen) lock.pass in
    record {
      table = reading.table ∙ lock.table;
      number = reading.number ∙ lock.number;
      start = reading.start ∙ ap (λ (p : Pass). p.start) lock.pass;
      mine = reading.mine ∙ ap (λ (p : Pass). p.mine) lock.pass;
      more = ([], seen ∙ sym (append-nil a.seat.pass.seen));
      looks = ([], reading.looks ∙ ap (λ (p : Pass). p.looks) lock.pass);
      rest = reading.read.pending ∙ rest;
      taken = let l = lock.taken in let r = reading.taken in omega arith;
      left = same_c ∙ same_b;
    }

-- it is one still when the range was given back
pub looked_back : (a c e : CallerView) → HasLooked a c → IsRelease rest_of c.seat e.seat → e.left ≡ c.left → HasLooked a e
looked_back a c e looked release same = record {
  table = release.table ∙ looked.table;
  number = release.number ∙ looked.number;
  start = start_back release ∙ looked.start;
  mine = ap (λ (p : Pass). p.mine) release.pass ∙ looked.mine;
  more = subst (λ (l : List Entry). StartsWith l a.seat.pass.seen) (sym (seen_back release)) looked.more;
  looks = (looked.looks.0, ap (λ (p : Pass). p.looks) release.pass ∙ looked.looks.1);
  rest = ap (λ (p : Pass). p.pending) release.pass ∙ looked.rest;
  taken = let l = looked.taken in let m = release.least in omega arith;
  left = same ∙ looked.left;
}

-- holding, reading, looking and giving back are a look
pub looked_round : (a b c d e : CallerView) {found : ℕ} → IsLockCall a.seat b.seat → b.left ≡ a.left → IsAtRest b.seat.pass → IsReading b.seat c.seat
    → c.left ≡ b.left → IsLook c.seat found d.seat → d.left ≡ c.left → IsRelease rest_of d.seat e.seat → e.left ≡ d.left
    → HasLooked a e × IsLookedAt a.seat found e.seat
looked_round a b c d e {found} lock same_b rest reading same_c look same_d release same_e =
    let more : StartsWith e.seat.pass.seen a.seat.pass.seen =
    subst (λ (z : List Entry × List Entry). StartsWith z.0 z.1)
    (λ i. (sym (ap (λ (p : Pass). p.seen) release.pass) i, (reading.seen ∙ ap (λ (p : Pass). p.seen) lock.pass) i)) look.more in
    let counted : length e.seat.pass.seen ≡ found = ap (λ (p : Pass). length p.seen) release.pass ∙ look.count in (
      record {
        table = release.table ∙ (look.step.table ∙ (reading.table ∙ lock.table));
        number = release.number ∙ (look.step.number ∙ (reading.number ∙ lock.number));
        start = ap (λ (p : Pass). p.start) release.pass ∙ (ap (λ (p : Pass). p.start) look.step.pass ∙ (reading.start ∙ ap (λ (p : Pass). p.start) lock.pass));
        mine = ap (λ (p : Pass). p.mine) release.pass ∙ (ap (λ (p : Pass). p.mine) look.step.pass ∙ (reading.mine ∙ ap (λ (p : Pass). p.mine) lock.pass));
        more = more;
        looks = (looked_of a b c d e lock reading look release ∷ [], looks_round a b c d e lock reading look release);
        rest = ap (λ (p : Pass). p.pending) release.pass ∙ (ap (λ (p : Pass). p.pending) look.step.pass ∙ (reading.read.pending ∙ rest));
        taken = let l = lock.taken in let r = reading.taken in
            let t : d.seat.trace.taken ≡ c.seat.trace.taken + 1 = ap (λ (x : Record). x.taken) look.step.trace in
            let m = release.least in omega arith;
        left = same_e ∙ (same_d ∙ (same_c ∙ same_b));
      },
      (
        (let l = longer a.seat.pass.seen e.seat.pass.seen more in omega arith),
        (let c = counted in omega arith),
        (looked_of a b c d e lock reading look release ∷ [], looks_round a b c d e lock reading look release, inl (look.count)),
      ),
    )

-- holding, reading and giving back, without a look
pub held_and_back : (a b c e : CallerView) → IsLockCall a.seat b.seat → b.left ≡ a.left → IsAtRest b.seat.pass
    → IsReading b.seat c.seat → c.left ≡ b.left → IsRelease rest_of c.seat e.seat → e.left ≡ c.left → HasLooked a e
held_and_back a b c e lock same_b rest reading same_c release same_e = record {
  table = release.table ∙ (reading.table ∙ lock.table);
  number = release.number ∙ (reading.number ∙ lock.number);
  start = ap (λ (p : Pass). p.start) release.pass ∙ (reading.start ∙ ap (λ (p : Pass). p.start) lock.pass);
  mine = ap (λ (p : Pass). p.mine) release.pass ∙ (reading.mine ∙ ap (λ (p : Pass). p.mine) lock.pass);
  more = ([], ap (λ (p : Pass). p.seen) release.pass ∙ (reading.seen ∙ (ap (λ (p : Pass). p.seen) lock.pass ∙ sym (append-nil a.seat.pass.seen))));
  looks = ([], ap (λ (p : Pass). p.looks) release.pass ∙ (reading.looks ∙ ap (λ (p : Pass). p.looks) lock.pass));
  rest = ap (λ (p : Pass). p.pending) release.pass ∙ (reading.read.pending ∙ rest);
  taken = let l = lock.taken in let r = reading.taken in let m = release.least in omega arith;
  left = same_e ∙ (same_c ∙ same_b);
}

-- and holding and reading alone, where the range is kept
pub held_and_read : (a b c : CallerView) → IsLockCall a.seat b.seat → b.left ≡ a.left → IsAtRest b.seat.pass
    → IsReading b.seat c.seat → c.left ≡ b.left → HasLooked a c
held_and_read a b c lock same_b rest reading same_c = record {
  table = reading.table ∙ lock.table;
  number = reading.number ∙ lock.number;
  start = reading.start ∙ ap (λ (p : Pass). p.start) lock.pass;
  mine = reading.mine ∙ ap (λ (p : Pass). p.mine) lock.pass;
  more = ([], reading.seen ∙ (ap (λ (p : Pass). p.seen) lock.pass ∙ sym (append-nil a.seat.pass.seen)));
  looks = ([], reading.looks ∙ ap (λ (p : Pass). p.looks) lock.pass);
  rest = reading.read.pending ∙ rest;
  taken = let l = lock.taken in let r = reading.taken in omega arith;
  left = same_c ∙ same_b;
}

-- so many entries are under everything as were at the look before, while the caller holds its area
pub counts_on : {b c : SeatState Pass} (n : ℕ) → IsReading b c → CountsWhole b n → CountsWhole c n
counts_on {b} {c} n reading counts start history state words m =
    let same : planned_calls c.pass.pending ≡ planned_calls b.pass.pending = ap planned_calls reading.read.pending in
    let h = counts start history state words (record {
      grants = m.grants;
      passes = m.passes;
      pass = m.pass;
      running = m.running;
      backed = m.backed;
      exclusive = m.exclusive;
      granted = ap (get_elem? m.grants) (sym reading.number) ∙ (m.granted ∙ ap some reading.held);
      own = ap (get_elem? m.passes) (sym reading.number) ∙ m.own;
      read = keeps_on b.pass c.pass m.pass reading.read m.read;
    }) in
    omega arith

-- what was seen before a numbered entry is the history that it found
pub before_entry : {r n : SeatState Pass} {e : Entry} (num : IsNumbered r e n) → keeps_by r.table ≡ true → take e.number n.pass.seen ≡ num.history
before_entry {e} num keeps =
    let c = num.counted keeps in
    ap (take e.number) num.seen ∙ (take-append-le e.number num.history (entry_in num.history e ∷ []) (omega arith)
    ∙ take_all e.number num.history (omega arith))

-- and at the draw they are those before the entry
pub drawn_counts : {r n : SeatState Pass} {e : Entry} {pending : Pending} (k : ℕ) → keeps_by r.table ≡ true
    → IsDrawn r e pending n → IsAtRest r.pass → CountsWhole r k → HasWhole n e.number k
drawn_counts {r} {n} {e} k keeps drawn rest counts =
    let num = drawn.numbered in
    let c : k + planned_calls r.pass.pending ≡ whole_count num.history = counts r.pass.start num.history num.state drawn.words drawn.moment in
    let none : planned_calls r.pass.pending ≡ 0 = ap planned_calls rest in
    ap whole_count (before_entry num keeps) ∙ (let z : whole_count num.history ≡ k = omega arith in z)

-- so a change over the area that the caller holds got its entry, whether a row was to be stored or not
pub changed_area : (b r n w d : CallerView) (q : Request) {e : Entry} (span : Span) {pending : Pending} → IsReading b.seat r.seat → r.left ≡ b.left
    → IsAtRest b.seat.pass → e.line ≡ q.line → e.call ≡ Protect q.addr q.len q.prot → e.under ≡ OverArea span → IsNamedReply e.reply
    → IsDrawn r.seat e pending n.seat → n.left + 1 ≡ r.left → IsFinished n.seat w.seat → w.left ≡ n.left → IsRelease rest_of w.seat d.seat → d.left ≡ w.left
    → IsChanged b q d e
changed_area b r n w d q {e} span reading same rest line_is call_is under named drawn left finished stored_left release same_left = record {
  called = called_area b r n w d span reading same line_is call_is under named drawn left finished stored_left release same_left;
  area = subst HoldsSomeArea (sym under) tt;
  whole = λ keeps k counts.
      let drew : HasWhole n.seat e.number k =
      drawn_counts k (ap keeps_by reading.table ∙ keeps) drawn (reading.read.pending ∙ rest) (counts_on k reading counts) in
      let stored : HasWhole w.seat e.number k = ap (λ l. whole_count (take e.number l)) finished.seen ∙ drew in
      whole_back release e.number k stored;
  looks = ap (λ (p : Pass). p.looks) release.pass ∙ (finished.looks ∙ (drawn.looks ∙ reading.looks));
}

-- a caller that keeps its range has made no call of the lock
pub no_lock_call : (a : SeatState Pass) → IsLockCall a a
no_lock_call a = record { table = refl; number = refl; pass = refl; client = refl; taken = omega arith }
