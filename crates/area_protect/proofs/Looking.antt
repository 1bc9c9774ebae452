-- What a look has shown of the history stays so of what the caller sees later, and looks and a call after them are one
-- call.
use Rattle.std.proofs.Common.{true, ◌≡◌, ◌≢◌, ℕ, ◌+◌, ◌<◌, ◌≤◌, ◌⊎◌, ⊎_elim, List, [], ◌∷◌, ◌++◌, take, length, sym, refl, ap, ◌∙◌, subst, arith, inl, inr}
use Rattle.std.proofs.Common.{length-append, append_assoc}
use Rattle.std.proofs.lemmas.Bool.{cases_lt}
use Rattle.std.proofs.lemmas.List.{append-nil, take_all, take-append-le}
use Rattle.std.specs.Prelude.{Option, None}
use Rattle.page_types.specs.declared.calls.Call.{Call}
use Rattle.page_types.specs.declared.calls.Call.TheVariants.{Protect}
use Rattle.page_types.specs.declared.pages.Span.{Span}
use Rattle.page_types.specs.Pages.{page_of, end_page}
use Rattle.space_model.specs.declared.areas.Area.{Area}
use Rattle.space_model.specs.declared.entries.Entry.{Entry}
use Rattle.space_model.specs.History.{StateAfter}
use Rattle.lock_core.specs.declared.range.Held.{Held}
use Rattle.range_rw.specs.Contract.{SeatState}
use Rattle.area_rows.specs.Seated.{TableId}
use Rattle.area_rows.specs.AreaPlans.{IsOneKind}
use Rattle.area_rows.specs.Rows.{keeps_by, blocks_by}
use Rattle.area_rows.specs.History.{Runs, StartsWith, HoldsFor, whole_count, planned_calls, IsAtRest}
use Rattle.area_rows.specs.Callers.{entry_in, CallerView, CountsWhole, IsLook, Shows}
use Rattle.area_rows.specs.Called.{IsCalled, IsLastPlace}
use Rattle.area_rows.proofs.Storing.{all_legal}
use Rattle.area_guard.specs.declared.guard.Look.{Look}
use Rattle.area_guard.specs.declared.guard.Pass.{Pass}
use Rattle.area_protect.specs.declared.beside.Made.{Made}
use Rattle.area_protect.specs.declared.beside.Made.TheVariants.{Done as Entered, Again as OtherEnds, Whole as NeedsAll}
use Rattle.area_protect.specs.declared.path.Cause.{Cause}
use Rattle.area_protect.specs.declared.path.Cause.TheVariants.{NotOneArea, NotSimple, Moved}
use Rattle.area_protect.specs.declared.steps.Attempt.{Attempt}
use Rattle.area_protect.specs.declared.steps.Request.{Request}
use Rattle.area_protect.specs.declared.steps.Attempt.TheVariants.{Done, Again, Whole}
use Rattle.area_protect.specs.Protects.{HasCause, IsBetween, WereFound}
use Rattle.area_protect.specs.Looks.{IsAfter, HasWhole, HasMade, KeepsLooks, IsFoundBy, IsFoundSince, LooksFirst, HasLooked, IsLookedAt}
use Rattle.area_protect.specs.Attempts.{MayCall, ArePagesOf, IsReason, IsChanged, IsAttempt, CallIs, IsMade, NeedsMoreRows}

-- beginnings of beginnings
pub begins_on : (a b c : List Entry) → StartsWith b a → StartsWith c b → StartsWith c a
begins_on a b c f g = (f.0 ++ g.0, g.1 ∙ (ap (λ l. l ++ g.0) f.1 ∙ append_assoc a f.0 g.0))

-- a list is at least as long as one that it begins with
pub longer : (a b : List Entry) → StartsWith b a → length a ≤ length b
longer a b f = let e : length b ≡ length a + length f.0 = ap length f.1 ∙ length-append a f.0 in omega arith

-- the first entries of a beginning are those of the whole
same_first : (a b : List Entry) (m : ℕ) → StartsWith b a → m ≤ length a → take m b ≡ take m a
same_first a b m f le = ap (take m) f.1 ∙ take-append-le m a f.0 le

-- what was so after so many entries is so of what is seen later
pub after_on : (a b : SeatState Pass) (m : ℕ) (what : List Area → Type 0) → b.pass.start ≡ a.pass.start
    → StartsWith b.pass.seen a.pass.seen → m ≤ length a.pass.seen → IsAfter a m what → IsAfter b m what
after_on a b m what start more le t = (
  t.0,
  subst (λ (z : List Area × List Entry). StateAfter z.0 z.1 t.0) (λ i. (sym start i, sym (same_first a.pass.seen b.pass.seen m more le) i)) t.1,
  t.2,
)

-- what was counted under everything of the first entries is counted so of what is seen later
pub whole_on : (a b : SeatState Pass) (m n : ℕ) → StartsWith b.pass.seen a.pass.seen → m ≤ length a.pass.seen → HasWhole a m n → HasWhole b m n
whole_on a b m n more le t = ap whole_count (same_first a.pass.seen b.pass.seen m more le) ∙ t

-- looks, and then others
pub made_on : (a b c : SeatState Pass) (first later : List Look) → HasMade a first b → HasMade b later c → HasMade a (later ++ first) c
made_on a b c first later f g = g ∙ (ap (λ l. later ++ l) f ∙ sym (append_assoc later first a.pass.looks))

pub looks_on : (a b c : SeatState Pass) → KeepsLooks a b → KeepsLooks b c → KeepsLooks a c
looks_on a b c f g = (g.0 ++ f.0, made_on a b c f.0 g.0 f.1 g.1)

-- what was found is found still among more looks
by_later : (later looks : List Look) (m : ℕ) → IsFoundBy looks m → IsFoundBy (later ++ looks) m
by_later [] looks m h = h
by_later (l ∷ later) looks m h = inr (by_later later looks m h)

by_earlier : (looks earlier : List Look) (m : ℕ) → IsFoundBy looks m → IsFoundBy (looks ++ earlier) m
by_earlier [] earlier m h = absurd h
by_earlier (l ∷ looks) earlier m h = ⊎_elim (λ e. inl e) (λ t. inr (by_earlier looks earlier m t)) h

pub found_more : (a b c : SeatState Pass) (m : ℕ) → IsFoundSince a m b → KeepsLooks b c → IsFoundSince a m c
found_more a b c m f g = (g.0 ++ f.0, made_on a b c f.0 g.0 f.1 g.1, by_later g.0 f.0 m f.2)

pub found_since : (a b c : SeatState Pass) (m : ℕ) → KeepsLooks a b → IsFoundSince b m c → IsFoundSince a m c
found_since a b c m f g = (g.0 ++ f.0, made_on a b c f.0 g.0 f.1 g.1, by_earlier g.0 f.0 m g.2)

-- the first look of the first part is that of the whole
pub first_more : (a b c : SeatState Pass) (lo hi : ℕ) → LooksFirst a lo hi b → KeepsLooks b c → LooksFirst a lo hi c
first_more a b c lo hi f g = (
  g.0 ++ f.0,
  f.1,
  made_on a b c (f.0 ++ f.1 ∷ []) g.0 f.2 g.1 ∙ ap (λ l. l ++ a.pass.looks) (sym (append_assoc g.0 f.0 (f.1 ∷ []))),
  f.3,
)

-- and where no look was made before, it is that of the second part
pub first_since : (a b c : SeatState Pass) (lo hi : ℕ) → (b.pass.looks ≡ a.pass.looks) ⊎ LooksFirst a lo hi b → LooksFirst b lo hi c → LooksFirst a lo hi c
first_since a b c lo hi f g = ⊎_elim (λ same. (g.0, g.1, g.2 ∙ ap (λ l. (g.0 ++ g.1 ∷ []) ++ l) same, g.3))
    (λ first. first_more a b c lo hi first (g.0 ++ g.1 ∷ [], g.2)) f

-- so it is between two attempts
pub first_again : (a b c : SeatState Pass) (lo hi : ℕ) → (b.pass.looks ≡ a.pass.looks) ⊎ LooksFirst a lo hi b → LooksFirst b lo hi c
    → (c.pass.looks ≡ a.pass.looks) ⊎ LooksFirst a lo hi c
first_again a b c lo hi f g = inr (first_since a b c lo hi f g)

-- the pages of a request are those of its call
pub first_asked : (a b c : SeatState Pass) (r : Request) (pages : Span) → ArePagesOf r pages → LooksFirst a pages.lo pages.hi b
    → KeepsLooks b c → LooksFirst a (page_of r.addr) (end_page r.addr r.len) c
first_asked a b c r pages are first more = subst (λ (z : ℕ × ℕ). LooksFirst a z.0 z.1 c) (λ i. (are.0 i, are.1 i))
    (first_more a b c pages.lo pages.hi first more)

-- looks, one after another
pub looked_on : {a b c : CallerView} → HasLooked a b → HasLooked b c → HasLooked a c
looked_on {a} {b} {c} f g = record {
  table = g.table ∙ f.table;
  number = g.number ∙ f.number;
  start = g.start ∙ f.start;
  mine = g.mine ∙ f.mine;
  more = begins_on a.seat.pass.seen b.seat.pass.seen c.seat.pass.seen f.more g.more;
  looks = looks_on a.seat b.seat c.seat f.looks g.looks;
  rest = g.rest;
  taken = let l = f.taken in let m = g.taken in omega arith;
  left = g.left ∙ f.left;
}

-- the first look of an attempt is that of its first step, whatever follows
pub first_then : (a : CallerView) {b c : CallerView} (lo hi : ℕ) → LooksFirst a.seat lo hi b.seat → HasLooked b c → LooksFirst a.seat lo hi c.seat
first_then a {b} {c} lo hi first look = first_more a.seat b.seat c.seat lo hi first look.looks

-- a look shows the state after so many entries, and how many of them are under everything
pub look_shows : {s u : SeatState Pass} {found : ℕ} (what : List Area → Type 0) → IsLook s found u → Shows s (λ _ state. what state) → IsAfter u found what
look_shows {s} {u} {found} what look shows =
    let all : take found u.pass.seen ≡ u.pass.seen = take_all found u.pass.seen (let c = look.count in omega arith) in
    let run : StateAfter s.pass.start u.pass.seen look.state = (all_legal s.pass.start look.state u.pass.seen look.moment.running.runs).1 in
    let start : u.pass.start ≡ s.pass.start = ap (λ (p : Pass). p.start) look.step.pass in (
      look.state,
      subst (λ (z : List Area × List Entry). StateAfter z.0 z.1 look.state) (λ i. (sym start i, sym all i)) run,
      shows s.pass.start u.pass.seen look.state look.words look.moment,
    )

-- a look of a caller with nothing to write counts the entries under everything that were there
pub look_counts : {s u : SeatState Pass} {found : ℕ} (n : ℕ) → IsLook s found u → IsAtRest s.pass → CountsWhole s n → HasWhole u found n
look_counts {s} {u} {found} n look rest counts =
    let all : take found u.pass.seen ≡ u.pass.seen = take_all found u.pass.seen (let c = look.count in omega arith) in
    let c : n + planned_calls s.pass.pending ≡ whole_count u.pass.seen = counts s.pass.start u.pass.seen look.state look.words look.moment in
    let none : planned_calls s.pass.pending ≡ 0 = ap planned_calls rest in
    ap whole_count all ∙ (let e : whole_count u.pass.seen ≡ n = omega arith in e)

-- two different counts are of different lengths
pub rises : (s : SeatState Pass) (first second old new : ℕ) → first ≤ second → HasWhole s first old → HasWhole s second new → old ≢ new → first < second
rises s first second old new le f g differ = elim (cases_lt first second) [
  | inl lt ↦ lt
  | inr ge ↦ let same : first ≡ second = omega arith in absurd (differ (sym f ∙ (ap (λ m. whole_count (take m s.pass.seen)) same ∙ g)))
]

-- a call after looks is a call from before them, with whatever was held at it
pub called_after : {a b c : CallerView} {line : ℕ} {call : Call} {e : Entry} (h : Option Held) → HasLooked a b → h ≡ a.seat.held
    → IsCalled (record b { seat = record b.seat { held = h } }) line call e c → IsCalled a line call e c
called_after {a} {b} {c} {e} h look held called =
    let num = called.numbered in
    record {
      line_is = called.line_is;
      call_is = called.call_is;
      named = called.named;
      numbered = record {
        history = num.history;
        state = num.state;
        more = begins_on a.seat.pass.seen b.seat.pass.seen num.history look.more num.more;
        runs = subst (λ (l : List Area). Runs 0 l num.history num.state) look.start num.runs;
        in_order = num.in_order;
        counted = λ keeps. num.counted (ap keeps_by look.table ∙ keeps);
        unkept = λ none. num.unkept (ap keeps_by look.table ∙ none);
        worker = num.worker ∙ look.number;
        left = num.left;
        right = num.right;
        seen = num.seen;
        mine = num.mine ∙ ap (λ (l : List Entry). l ++ entry_in num.history e ∷ []) look.mine;
        drew = subst (λ (t : TableId). HoldsFor (keeps_by t) c.seat.pass.drew e.under) look.table num.drew;
        start = num.start ∙ look.start;
        table = num.table ∙ look.table;
        number = num.number ∙ look.number;
        held = num.held ∙ held;
      };
      last = record {
        place = called.last.place;
        step = called.last.step;
        word = subst (λ (t : TableId). IsLastPlace (blocks_by t) e.under called.last.place) look.table called.last.word;
        client = called.last.client;
        since = let l = look.taken in let m = called.last.since in omega arith;
        until = called.last.until;
      };
      written = called.written;
      left = called.left ∙ look.left;
    }

-- what the caller had seen is seen still behind its entry
pub seen_on : {a b : CallerView} {line : ℕ} {call : Call} {e : Entry} → keeps_by a.seat.table ≡ true → IsCalled a line call e b
    → StartsWith b.seat.pass.seen a.seat.pass.seen × (length a.seat.pass.seen ≤ e.number)
seen_on {a} {b} {e} keeps called =
    let num = called.numbered in
    let more : StartsWith b.seat.pass.seen num.history = (entry_in num.history e ∷ [], num.seen) in (
      begins_on a.seat.pass.seen num.history b.seat.pass.seen num.more more,
      let l = longer a.seat.pass.seen num.history num.more in let c = num.counted keeps in omega arith,
    )

-- what was found at a look stands between what was seen before it and the entry of a call that follows
between : (a : CallerView) {b c : CallerView} {line : ℕ} {call : Call} {e : Entry} (m : ℕ) → keeps_by b.seat.table ≡ true
    → IsLookedAt a.seat m b.seat → IsCalled b line call e c → IsBetween a.seat m e
between a m keeps looked called = (looked.0, (let h = looked.1 in let l = (seen_on keeps called).1 in omega arith))

-- the reason of an attempt is the cause of the call that follows
pub cause_of : (a : CallerView) {b c : CallerView} (r : Request) {line : ℕ} {call : Call} {e : Entry} (cause : Cause)
    → keeps_by b.seat.table ≡ true → IsReason a r b cause → IsCalled b line call e c
    → HasCause a.seat (Protect r.addr r.len r.prot) (page_of r.addr) (end_page r.addr r.len) e c.seat cause
cause_of a {b} {c} r (NotOneArea at) keeps reason called =
    (between a at keeps reason.0 called, after_on b.seat c.seat at _ called.numbered.start (seen_on keeps called).0 reason.0.1 reason.1)
cause_of a {b} {c} r (NotSimple at) keeps reason called =
    (between a at keeps reason.0 called, after_on b.seat c.seat at _ called.numbered.start (seen_on keeps called).0 reason.0.1 reason.1)
cause_of a {b} {c} r (Moved first second old new) keeps reason called =
    let more = (seen_on keeps called).0 in (
      between a first keeps reason.0 called,
      between a second keeps reason.1 called,
      reason.2,
      whole_on b.seat c.seat first old more reason.0.1 reason.3,
      whole_on b.seat c.seat second new more reason.1.1 reason.4,
      reason.5,
    )

-- each number of entries that the reason names was found by a look, also of the call that follows
pub found_of : (a b c : CallerView) (r : Request) (cause : Cause) → IsReason a r b cause → c.seat.pass.looks ≡ b.seat.pass.looks → WereFound a.seat cause c.seat
found_of a b c r (NotOneArea at) reason same = found_more a.seat b.seat c.seat at reason.0.2 ([], same)
found_of a b c r (NotSimple at) reason same = found_more a.seat b.seat c.seat at reason.0.2 ([], same)
found_of a b c r (Moved first second old new) reason same = (
  found_more a.seat b.seat c.seat first reason.0.2 ([], same),
  found_more a.seat b.seat c.seat second reason.1.2 ([], same),
)

-- what was met between two looks was met between looks round them
pub at_more : (a : CallerView) {b c : CallerView} (m : ℕ) → IsLookedAt a.seat m b.seat → HasLooked b c → IsLookedAt a.seat m c.seat
at_more a {b} {c} m at look = (
  at.0,
  (let l = longer b.seat.pass.seen c.seat.pass.seen look.more in let h = at.1 in omega arith),
  found_more a.seat b.seat c.seat m at.2 look.looks,
)

-- what was met at a look since a later moment was met since an earlier one
pub at_since : {a b : CallerView} (c : CallerView) (m : ℕ) → HasLooked a b → IsLookedAt b.seat m c.seat → IsLookedAt a.seat m c.seat
at_since {a} {b} c m look at = (
  (let l = longer a.seat.pass.seen b.seat.pass.seen look.more in let h = at.0 in omega arith),
  at.1,
  found_since a.seat b.seat c.seat m look.looks at.2,
)

-- a call under everything came between the first look and the second
pub moved_between : {a b c : CallerView} (r : Request) (first second old new : ℕ) → HasLooked a b → HasLooked b c → IsLookedAt a.seat first b.seat
    → HasWhole b.seat first old → IsLookedAt b.seat second c.seat → HasWhole c.seat second new → (new ≡ old → ⊥) → IsReason a r c (Moved first second old new)
moved_between {a} {b} {c} r first second old new look next at_first of_first at_second of_second differ =
    let now : HasWhole c.seat first old = whole_on b.seat c.seat first old next.more at_first.1 of_first in
    let later : first ≤ second = (let h = at_first.1 in let l = at_second.0 in omega arith) in (
      at_more a first at_first next,
      at_since c second look at_second,
      rises c.seat first second old new later now of_second (λ e. differ (sym e)),
      now,
      of_second,
      λ e. differ (sym e),
    )

-- pages that lay in no area at the first look are the reason at once, and a change that needs more rows is one later
pub other_before : (a b : CallerView) (r : Request) (at : ℕ) {lo hi : ℕ} → lo ≡ page_of r.addr → hi ≡ end_page r.addr r.len → IsLookedAt a.seat at b.seat
    → IsAfter b.seat at (λ A. ¬ IsOneKind A lo hi) → IsReason a r b (NotOneArea at)
other_before a b r at is_lo is_hi looked other = (looked, subst (λ (z : ℕ × ℕ). IsAfter b.seat at (λ A. ¬ IsOneKind A z.0 z.1)) (λ i. (is_lo i, is_hi i)) other)

-- that a change needs more rows, found behind a look, is a reason for everything from before the look on
pub more_rows_later : {a b c : CallerView} {r : Request} {at : ℕ} → HasLooked a b → NeedsMoreRows b r c at → IsReason a r c (NotSimple at)
more_rows_later {c} {at} look needs = (at_since c at look needs.when, needs.state)

-- a change over the area that the caller holds, after looks, is one call from before them
pub changed_after : {a b c : CallerView} {r : Request} {e : Entry} → a.seat.held ≡ None → HasLooked a b → IsChanged b r c e → CallIs a r e c
changed_after free look changed = called_after None look (sym free) changed.called

-- who has nothing to write has looked, and seen no more
pub no_look : (a : CallerView) → IsAtRest a.seat.pass → HasLooked a a
no_look a rest = record {
  table = refl;
  number = refl;
  start = refl;
  mine = refl;
  more = ([], sym (append-nil a.seat.pass.seen));
  looks = ([], refl);
  rest = rest;
  taken = omega arith;
  left = refl;
}

-- what an attempt after looks came to, it came to from before them
reason_since : {a b : CallerView} (c : CallerView) (r : Request) (cause : Cause) → HasLooked a b → IsReason b r c cause → IsReason a r c cause
reason_since c r (NotOneArea at) look reason = (at_since c at look reason.0, reason.1)
reason_since c r (NotSimple at) look reason = (at_since c at look reason.0, reason.1)
reason_since c r (Moved first second old new) look reason =
    (at_since c first look reason.0, at_since c second look reason.1, reason.2, reason.3, reason.4, reason.5)

-- what an attempt after looks came to, it came to from before them, where the same is held
pub attempt_since : {a b : CallerView} (c : CallerView) (r : Request) (attempt : Attempt) → HasLooked a b → b.seat.held ≡ a.seat.held
    → IsAttempt b r c attempt → IsAttempt a r c attempt
attempt_since {b} c r (Done e seq) look held t = (called_after b.seat.held look held t.0, t.1, t.2)
attempt_since c r Again look held t = looked_on look t
attempt_since c r (Whole cause) look held t = (looked_on look t.0, reason_since c r cause look t.1)

-- an attempt's outcome may be told of equal callers and equal outcomes
pub same_attempt : (a : CallerView) {b c : CallerView} (r : Request) {x y : Attempt} → c ≡ b → y ≡ x → IsAttempt a r b x → IsAttempt a r c y
same_attempt a r e f t = subst (λ (z : CallerView × Attempt). IsAttempt a r z.0 z.1) (λ i. (sym e i, sym f i)) t

-- the same two of an attempt that makes no look at the history
pub made_since : {a b : CallerView} (c : CallerView) (r : Request) (made : Made) → HasLooked a b → b.seat.held ≡ a.seat.held
    → IsMade b r c made → IsMade a r c made
made_since {b} c r (Entered e) look held t = (called_after b.seat.held look held t.0, t.1)
made_since c r OtherEnds look held t = looked_on look t
made_since c r NeedsAll look held t = looked_on look t

pub same_made : (a : CallerView) {b c : CallerView} (r : Request) {x y : Made} → c ≡ b → y ≡ x → IsMade a r b x → IsMade a r c y
same_made a r e f t = subst (λ (z : CallerView × Made). IsMade a r z.0 z.1) (λ i. (sym e i, sym f i)) t

-- who has looked and holds nothing may call still
pub may_call_on : {table : TableId} {a b : CallerView} → MayCall table a → HasLooked a b → b.seat.held ≡ None → MayCall table b
may_call_on may look free = record { table_is = look.table ∙ may.table_is; free = free; left = subst (λ n. 0 < n) (sym look.left) may.left }
