-- The guard allows the steps by which a caller reads words and draws a number, and what each tells.
use Rattle.std.proofs.Common.{Bool, true, false, true≢false, ◌≡◌, ℕ, ⊎_elim, inl, inr, ◌⊎◌, ◌+◌, ◌*◌, ◌<◌, ◌≤◌, List, ◌++◌, drop, length, sym, refl}
use Rattle.std.proofs.Common.{ap, ◌∙◌, subst, arith}
use Rattle.std.specs.Prelude.{◌↔◌, All, Option, Some, None, IsSome, slice_index}
use mathlib.Core.Option.{some, some-injective}
use lib.ListN.{get_elem?}
use Rattle.page_types.specs.declared.TheConstants.{LIMIT}
use Rattle.page_types.specs.declared.calls.Kind.{Kind}
use Rattle.page_types.specs.declared.pages.Span.{Span}
use Rattle.page_types.specs.Named.{IsNamedCall}
use Rattle.lock_core.specs.declared.range.Held.{Held}
use Rattle.lock_core.specs.Grants.{Grants, Holds}
use Rattle.lock_core.specs.Client.{loads, adds, Moment, IsAllowed, IsMade}
use Rattle.range_rw.specs.Contract.{SeatState, IsClientCall, client_trace}
use Rattle.space_model.specs.declared.areas.Area.{Area}
use Rattle.space_model.specs.declared.entries.Entry.{Entry}
use Rattle.space_model.specs.declared.entries.Under.{Under}
use Rattle.space_model.specs.declared.entries.Under.TheVariants.{Area as OverArea, Whole}
use Rattle.area_guard.specs.declared.guard.Change.{Change}
use Rattle.area_guard.specs.declared.guard.Note.{Note}
use Rattle.area_guard.specs.declared.guard.Pass.{Pass}
use Rattle.area_guard.specs.declared.guard.Pending.{Pending}
use Rattle.area_guard.specs.declared.guard.Splice.{Splice}
use Rattle.area_guard.specs.Slots.{first_slot}
use Rattle.area_guard.specs.Keeping.{no_note}
use Rattle.area_guard.specs.Rows.{blocks_by, keeps_by, number_place, slots_to, IsOneOf, room_of, rows_in}
use Rattle.area_guard.specs.History.MayAdd.{draw, raise}
use Rattle.area_guard.specs.Parts.{none_is}
use Rattle.area_guard.specs.History.{rows_after, Runs, StartsWith, planned_calls, RowsStandFor, HasHistory, Allowed, Here, HasDrawn, MayLoad, MayAdd}
use Rattle.area_guard.specs.History.{IsAtRest, IsRight}
use Rattle.area_guard.specs.History.{Leaves, FitsIn, HoldsFor, pending_of, entry_of, after_look, after_step, after_sequence, after_row, after_draw}
use Rattle.area_guard.specs.declared.guard.Pending.TheVariants.{AtRest, Planned, OneRow}
use Rattle.area_guard.specs.History.MayLoad.{number, glance, sequence, layout, row}
use Rattle.area_guard.specs.Reads.{everything, slots_by, layout_by, IsHeldPage, HasRead, words_of, known_rows, known_words, KnowsRows, StillStands}
use Rattle.area_guard.specs.Draws.{only_load, kept_load, none_else, draw_keeps as draw_on, draw_pending, draw_mine, draw_seen, draw_start, draw_drew}
use Rattle.area_guard.specs.Draws.{draw_looks, draw_since, draw_took, draw_blocks, draw_most, plan_fits}
use Rattle.row_plans.specs.declared.planning.Cut.{Cut}
use Rattle.row_plans.specs.RowWords.{row_start}
use Rattle.row_plans.specs.Plans.{IsRowList, PlanShows}
use Rattle.area_rows.specs.Halving.{IsOnSameSide}
use Rattle.area_rows.specs.Callers.{IsMoment, Shows, KeepsRead, KeepsRows, CountsWhole, IsReading, IsLook, IsNumbered, IsDrawn, IsClientStep, CallerView}
use Rattle.area_rows.specs.Callers.{HasSameRows, plan_of, IsKnown, HasToWrite, HasToStore, IsReadRound, IsHeldPages}
use Rattle.area_rows.proofs.Reading.{step_reads}
use Rattle.area_rows.proofs.Neighbours.{slot_now, first_row, word_says}
use Rattle.area_rows.proofs.Moments.{held_some, held_pages, row_list, starts_below, stands, only_own_plan, nobody_plans, rows_are, here_of, here_at, moment_of}
use Rattle.row_blocks.specs.declared.positions.Position.{Position}
use Rattle.row_blocks.specs.Blocks.{rows_in as rows_by}
use Rattle.plan_words.specs.Places.{number_in, number_at}

module _ {own : Option Held → Type 0} {free held : Type 0} {words : List ℕ} {history : List Entry} {p after : Pass} where
  -- what a load tells of the pass
  look_tells : (place : ℕ) → place ≡ number_place p.blocks → MayLoad own free held words history place p after
      → (h : Option Held) × own h × (after ≡ after_look history h p)
  look_tells place at (number h o keeps e is) = (h, o, is)
  look_tells place at (glance f e is) = absurd (omega arith)
  look_tells place at (sequence h e is) = absurd (omega arith)
  look_tells place at (layout h among is) = absurd (⊎_elim (λ two. omega arith) (λ t. let a = t.1 in omega arith) among)
  look_tells place at (row i h few e is) = absurd (omega arith)

  sequence_tells : MayLoad own free held words history 1 p after → (free × (after ≡ after_step p)) ⊎ (after ≡ after_sequence (slice_index words 1) p)
  sequence_tells (number h o keeps e is) = absurd (omega arith)
  sequence_tells (glance f e is) = inl (f, is)
  sequence_tells (sequence h e is) = inr is
  sequence_tells (layout h at is) = absurd (⊎_elim (λ two. omega arith) (λ t. let a = t.0 in omega arith) at)
  sequence_tells (row i h few e is) = absurd (omega arith)

  row_tells : (index : ℕ) → index < 128 * p.blocks → MayLoad own free held words history (3 + index) p after
      → after ≡ after_row index (slice_index words (3 + index)) p
  row_tells index slot (number h o keeps e is) = absurd (omega arith)
  row_tells index slot (glance f e is) = absurd (omega arith)
  row_tells index slot (sequence h e is) = absurd (omega arith)
  row_tells index slot (layout h at is) = absurd (⊎_elim (λ two. omega arith) (λ t. let a = t.0 in omega arith) at)
  row_tells index slot (row i h few e is) = let same : i ≡ index = omega arith in is ∙ (λ k. after_row (same k) (slice_index words (3 + same k)) p)

draw_keeps : (history : List Entry) (e : Entry) (pending : Pending) (held : Option Held) (p : Pass) → KeepsRows pending p (after_draw history e pending held p)
draw_keeps history e AtRest held p = tt
draw_keeps history e (Planned plan) held p = (refl, refl)
draw_keeps history e (OneRow c) held p = (refl, refl)

-- a caller that holds a range remembers the sequence word
pub may_sequence : (note : Note) (seat : ℕ) (held : Option Held) (pass : Pass) → IsHeldPages held → IsAllowed HasHistory Allowed note seat held pass (loads 1)
may_sequence note seat None pass pages grants words passes m lt small = (after_step pass, (here_at m, inl (glance m.grant refl refl)))
may_sequence note seat (Some h) pass pages grants words passes m lt small = (
  after_sequence (slice_index words 1) pass,
  (here_at m, inl (sequence (h, m.grant, pages h refl) refl refl)),
)

module _ (note : Note) (seat : ℕ) (held : Option Held) (pass : Pass) where
  -- the guard allows a load of the number word at any time, where the space keeps its history
  pub may_look : (place : ℕ) → pass.keeps ≡ true → place ≡ number_place pass.blocks → IsAllowed HasHistory Allowed note seat held pass (loads place)
  may_look place keeps at grants words passes m lt small = (after_look m.met.1 held pass, (here_at m, inl (number held m.grant keeps at refl)))

  -- a load of a row, while pages are held
  pub may_row : (index : ℕ) → index < 128 * pass.blocks → IsSome held → IsHeldPages held → IsAllowed HasHistory Allowed note seat held pass (loads (3 + index))
  may_row index few some_held pages grants words passes m lt small = (
    after_row index (slice_index words (3 + index)) pass,
    (here_at m, inl (row index (held_pages grants seat held m.grant some_held pages) few refl refl)),
  )

  -- a draw of a number, by a caller at rest that holds what the entry names and whose reply is right
  -- at every moment
  module _ (place : ℕ) (at : place ≡ number_place pass.blocks) (s : SeatState Pass) (n : s.number ≡ seat) (h : s.held ≡ held) (p : s.pass ≡ pass)
      (few : length pass.mine + 1 ≤ pass.most) (named : IsNamedCall note.call) (rest : IsAtRest pass) (holds : HoldsFor pass.keeps held note.under)
      (shows : Shows s (λ (words : List ℕ) (state : List Area). (left : List Area) × IsRight state note.call note.reply note.under left
      × Leaves state note.under note.pending left)) where
    -- at each moment it may draw the number
    has_drawn : (grants : Grants) (words : List ℕ) (passes : List Pass) (m : Moment HasHistory seat held pass grants words passes)
        → HasDrawn grants words passes seat note (here_at m)
        (after_draw (here_at m).history (entry_of (length (here_at m).history) seat note) note.pending held pass)
    has_drawn grants words passes m =
        let here = here_at m in
        let right = shows _ here.history here.state words (moment_of here s (m.grant ∙ ap some (sym h)) n (sym p)) in
        (record { left = right.0; named = named; right = right.1; leaves = right.2; rest = rest; held = (held, m.grant, holds); few = few }, refl)

    -- by an addition where the space keeps its history
    pub may_draw : pass.keeps ≡ true → IsAllowed HasHistory Allowed note seat held pass (adds place 1)
    may_draw keeps grants words passes m lt small =
        let here = here_at m in (
          after_draw here.history (entry_of (length here.history) seat note) note.pending held pass,
          (refl, here, draw at keeps (has_drawn grants words passes m)),
        )

    -- and by a load where it keeps none
    pub may_draw_quietly : pass.keeps ≡ false → IsAllowed HasHistory Allowed note seat held pass (loads place)
    may_draw_quietly unkept grants words passes m lt small =
        let here = here_at m in (
          after_draw here.history (entry_of (length here.history) seat note) note.pending held pass,
          (here, inr (record { number = at; unkept = unkept; drawn = has_drawn grants words passes m })),
        )

  -- at a moment at which a caller at rest holds pages the rows show kinds
  pub rows_here : {grants : Grants} {words : List ℕ} {passes : List Pass} (here : Here grants words passes seat) → IsSome held → IsHeldPages held
      → get_elem? grants seat ≡ some held → IsAtRest here.pass → RowsStandFor here.state passes words
  rows_here {grants} {words} {passes} here some_held pages at rest = here.running.rows (nobody_plans here rest (held_pages grants seat held at some_held pages))

  -- and where it holds everything all rows of the moment are a list of rows
  pub whole_list : {grants : Grants} {words : List ℕ} {passes : List Pass} (here : Here grants words passes seat) → IsAtRest here.pass
      → Holds grants seat everything → IsRowList (rows_in words)
  whole_list {grants} here rest holds = let are = rows_are here holds rest refl in row_list are.0 are.1

  module _ (found : ℕ) (after : Pass) where
    -- of the rows that are loaded the first one starts at page 0, and each that is counted below the limit
    pub reads : (index : ℕ) → index < 128 * pass.blocks → IsSome held → IsHeldPages held → IsAtRest pass
        → IsMade HasHistory Allowed note seat held pass (loads (3 + index)) found after
        → (index ≡ 0 → row_start found ≡ 0) × (IsOneOf (slots_by pass.laid) index → row_start found < LIMIT)
    reads index slot some_held pages rest s =
        let m = s.3 in let here = s.5.0 in
        let same : here.pass ≡ pass = some-injective here.pass pass (sym here.own ∙ m.own) in
        let rows : RowsStandFor here.state s.2 s.1 = rows_here here some_held pages m.grant (ap (λ (x : Pass). x.pending) same ∙ rest) in
        let e = s.4 in (
          λ none. ap row_start (sym e ∙ ap (λ n. slice_index s.1 (3 + n)) none) ∙ first_row rows.2 0 (first_slot s.1 rows.0 rows.2),
          λ there. subst (λ w. row_start w < LIMIT) e (word_says rows.2 index (slot_now s.1 here.pass.laid index
              (here.running.parts seat here.pass here.own).laid (subst (λ (x : Pass). IsOneOf (slots_by x.laid) index) (sym same) there))).below,
        )

    -- a row that was read before starts on the same side of each held page
    pub reads_side : (index : ℕ) → IsMade HasHistory Allowed note seat held pass (loads (3 + index)) found after → (page : ℕ)
        → IsHeldPage held page → IsOnSameSide pass.rows index found page
    reads_side index s page h old has =
        let m = s.3 in let here = s.5.0 in
        let same : here.pass ≡ pass = some-injective here.pass pass (sym here.own ∙ m.own) in
        let stood : All (StillStands held s.1) here.pass.rows = (here.backed seat here.pass here.own).rows held m.grant in
        let still = stands held s.1 here.pass.rows index old stood (subst (λ (x : Pass). HasRead x.rows index old) (sym same) has) in
        subst (λ w. (row_start old ≤ page) ↔ (row_start w ≤ page)) s.4 (still.side page h)

    -- a draw is of the entry that the note becomes: with the number that it has in the history, where the space keeps
    -- one
    drawn_as : (given place : ℕ) (t u : SeatState Pass) → t.pass.keeps ≡ keeps_by t.table → place ≡ number_place (blocks_by t.table) → t.number ≡ seat
        → t.held ≡ held → t.pass ≡ pass → u.pass ≡ after → IsClientCall t place u → {grants : Grants} {words : List ℕ} {passes : List Pass}
        → Moment HasHistory seat held pass grants words passes → (here : Here grants words passes seat) → HasDrawn grants words passes seat note here after
        → (keeps_by t.table ≡ true → given ≡ length here.history) → (keeps_by t.table ≡ false → given ≡ 0) → IsDrawn t (entry_of given seat note) note.pending u
    drawn_as given place t u told at n h p q call {grants} {words} {passes} m here drew num none =
        let d = drew.0 in
        let is = drew.1 in
        let same : here.pass ≡ pass = some-injective here.pass pass (sym here.own ∙ m.own) in
        let part = here.running.parts seat here.pass here.own in
        let old : here.pass ≡ t.pass = same ∙ sym p in
        let f : Entry = entry_of (length here.history) seat note in
        let new : u.pass ≡ after_draw here.history f note.pending d.held.0 t.pass = q
        ∙ (is ∙ (λ i. after_draw here.history f note.pending d.held.0 (old i))) in
        let granted : get_elem? grants seat ≡ some t.held = m.grant ∙ ap some (sym h) in
        let drew : u.pass.drew ≡ d.held.0 = ap (λ (x : Pass). x.drew) new ∙ draw_drew here.history f d.held.0 t.pass note.pending in
        let held_then : d.held.0 ≡ t.held = some-injective d.held.0 t.held (sym d.held.1 ∙ granted) in
        let blocks_are : u.pass.blocks ≡ t.pass.blocks = ap (λ (x : Pass). x.blocks) new ∙ draw_blocks here.history f d.held.0 t.pass note.pending in
        let num_is : IsNumbered t (entry_of given seat note) u = record {
          history = here.history;
          state = here.state;
          more = subst (λ (x : Pass). StartsWith here.history x.seen) old part.seen;
          runs = subst (λ (a : List Area). Runs 0 a here.history here.state) (sym part.began ∙ ap (λ (x : Pass). x.start) old) here.running.runs;
          in_order = here.running.in_order;
          counted = num;
          unkept = none;
          worker = sym n;
          left = d.left;
          right = d.right;
          seen = ap (λ (x : Pass). x.seen) new ∙ draw_seen here.history f d.held.0 t.pass note.pending;
          mine = ap (λ (x : Pass). x.mine) new ∙ draw_mine here.history f d.held.0 t.pass note.pending;
          drew = subst (λ (z : Bool × Option Held). HoldsFor z.0 z.1 note.under) (λ i. ((ap (λ (x : Pass). x.keeps) old ∙ told) i, sym drew i)) d.held.2;
          start = ap (λ (x : Pass). x.start) new ∙ draw_start here.history f d.held.0 t.pass note.pending;
          table = call.table;
          number = call.number;
          held = call.held;
        } in
        record {
          numbered = num_is;
          words = words;
          moment = moment_of here t granted n old;
          drew = drew ∙ held_then;
          looks = ap (λ (x : Pass). x.looks) new ∙ draw_looks here.history f d.held.0 t.pass note.pending;
          since = ap (λ (x : Pass). x.since) new ∙ draw_since here.history f d.held.0 t.pass note.pending;
          took = ap (λ (x : Pass). x.took) new ∙ draw_took here.history f d.held.0 t.pass note.pending;
          pools = call.pools;
          further = call.further;
          blocks = blocks_are;
          keeps_on = ap (λ (x : Pass). x.keeps) new ∙ draw_on here.history f d.held.0 t.pass note.pending;
          most = ap (λ (x : Pass). x.most) new ∙ draw_most here.history f d.held.0 t.pass note.pending;
          fits = subst (FitsIn note.pending) (ap (λ (x : Pass). x.blocks) old ∙ sym blocks_are)
              (plan_fits here.start here.history here.state d.left words passes seat here.pass note.call note.reply note.under note.pending
              here.running here.own d.few d.right.answers d.leaves);
          writes = ap (λ (x : Pass). x.pending) new ∙ draw_pending here.history f d.held.0 t.pass note.pending;
          keeps = subst (λ (x : Pass). KeepsRows note.pending t.pass x) (sym new) (draw_keeps here.history f note.pending d.held.0 t.pass);
          trace = call.trace ∙ ap (client_trace t.trace) at;
        }

    -- an addition to the number word draws the number that it found, with the entry that the note becomes
    added : (place : ℕ) (s : IsMade HasHistory Allowed note seat held pass (adds place 1) found after) → place ≡ number_place pass.blocks
        → MayAdd s.0 s.1 s.2 seat note s.5.1 place after → HasDrawn s.0 s.1 s.2 seat note s.5.1 after × (found ≡ length s.5.1.history)
    added place s at (raise rows e pends written is) = absurd (omega arith)
    added place s at (draw e keeps drew) =
        let here = s.5.1 in
        let part = here.running.parts seat here.pass here.own in
        (drew, sym s.4 ∙ (ap (slice_index s.1) (e ∙ ap number_place part.room.0) ∙ here.running.number (sym part.room.2 ∙ keeps)))

    pub draws : (place : ℕ) (t u : SeatState Pass) → t.pass.blocks ≡ blocks_by t.table → t.pass.keeps ≡ keeps_by t.table → keeps_by t.table ≡ true
        → place ≡ number_place (blocks_by t.table) → t.number ≡ seat → t.held ≡ held → t.pass ≡ pass → u.pass ≡ after → IsClientCall t place u
        → IsMade HasHistory Allowed note seat held pass (adds place 1) found after → IsDrawn t (entry_of found seat note) note.pending u
    draws place t u blocks told kept at n h p q call s =
        let here = s.5.1 in
        let a = added place s (at ∙ ap number_place (sym (ap (λ (x : Pass). x.blocks) (sym p) ∙ blocks))) s.5.2 in
        drawn_as found place t u told at n h p q call s.3 here a.0 (λ keeps. a.1) (λ none. absurd (true≢false (sym kept ∙ none)))

    -- and a load of it draws one where the space keeps no history
    pub draws_quietly : (place : ℕ) (t u : SeatState Pass) → t.pass.blocks ≡ blocks_by t.table → t.pass.keeps ≡ keeps_by t.table → keeps_by t.table ≡ false
        → place ≡ number_place (blocks_by t.table) → t.number ≡ seat → t.held ≡ held → t.pass ≡ pass → u.pass ≡ after → IsClientCall t place u
        → IsMade HasHistory Allowed note seat held pass (loads place) found after → IsDrawn t (entry_of 0 seat note) note.pending u
    draws_quietly place t u blocks told unkept at n h p q call s =
        let here = s.5.0 in
        let same : here.pass ≡ t.pass = some-injective here.pass pass (sym here.own ∙ s.3.own) ∙ sym p in
        let drew = ⊎_elim (λ load. absurd (none_else (ap (λ (x : Pass). x.keeps) same ∙ (told ∙ unkept))
        (at ∙ ap number_place (sym (ap (λ (x : Pass). x.blocks) same ∙ blocks))) load)) (λ q. q.drawn) s.5.1 in
        drawn_as 0 place t u told at n h p q call s.3 here drew (λ keeps. absurd (true≢false (sym keeps ∙ unkept))) (λ none. refl)

-- a call of the lock's client word is one step, which leaves the pass that is told
pub step_of : {s u : SeatState Pass} {place : ℕ} {left_pass : Pass} → IsClientCall s place u → u.pass ≡ left_pass → IsClientStep s place left_pass u
step_of call is = record {
  table = call.table;
  number = call.number;
  held = call.held;
  pools = call.pools;
  further = call.further;
  pass = is;
  trace = call.trace;
}

-- a load of the number word is a look
pub look_is : (place : ℕ) {s u : SeatState Pass} (found : ℕ) → s.pass.keeps ≡ true → s.pass.blocks ≡ blocks_by s.table
    → place ≡ number_place (blocks_by s.table) → IsClientCall s place u
    → IsMade HasHistory Allowed no_note s.number s.held s.pass (loads place) found u.pass → IsLook s found u
look_is place {s} {u} found kept blocks at call made =
    let m = made.3 in let here = made.5.0 in
    let same : here.pass ≡ s.pass = some-injective here.pass s.pass (sym here.own ∙ m.own) in
    let part = here.running.parts s.number here.pass here.own in
    let there : place ≡ number_place here.pass.blocks = at ∙ ap number_place (sym (ap (λ (x : Pass). x.blocks) same ∙ blocks)) in
    let keeps = ap (λ (x : Pass). x.keeps) same ∙ kept in
    let told = look_tells place there (kept_load keeps made.5.1) in
    let held : told.0 ≡ s.held = some-injective told.0 s.held (sym told.1 ∙ m.grant) in
    let is : u.pass ≡ after_look here.history s.held s.pass = told.2 ∙ (λ i. after_look here.history (held i) (same i)) in
    let seen : u.pass.seen ≡ here.history = ap (λ (x : Pass). x.seen) is in
    record {
      state = here.state;
      words = made.1;
      moment = subst (λ h. IsMoment s s.pass.start h here.state made.1) (sym seen) (moment_of here s m.grant refl same);
      step = step_of (subst (λ (n : ℕ). IsClientCall s n u) at call) (is ∙ ap (λ h. after_look h s.held s.pass) (sym seen));
      more = subst (λ h. StartsWith h s.pass.seen) (sym seen) (subst (λ (x : Pass). StartsWith here.history x.seen) same part.seen);
      count =
          let counts = here.running.number (sym part.room.2 ∙ keeps) in
          ap length seen ∙ (sym counts ∙ (ap (slice_index made.1) (sym (there ∙ ap number_place part.room.0)) ∙ made.4));
    }

-- a pass that remembers the sequence word still has what it had read
remembers : (p : Pass) (n : ℕ) → ((k : ℕ) → p.sequence ≡ Some k → n ≡ k) → KeepsRead p (after_sequence n p)
remembers p n again = record {
  laid = λ old e. e;
  rows = λ index word h. h;
  sequence = λ k e. ap Some (again k e);
  pending = refl;
  blocks = refl;
}

keeps_all : (p : Pass) → KeepsRead p (after_step p)
keeps_all p = record { laid = λ old e. e; rows = λ index word h. h; sequence = λ k e. e; pending = refl; blocks = refl }

-- how many entries are under everything, by the sequence word that a caller remembers
counts_whole : (u : SeatState Pass) (found : ℕ) → u.pass.sequence ≡ Some found → IsSome u.held → IsHeldPages u.held → CountsWhole u found
counts_whole u found known some_held pages start history state words m =
    let part = m.running.parts u.number m.pass m.own in
    let word : slice_index words 1 ≡ found = part.sequence found (m.read.sequence found known) in
    let only = only_own_plan (here_of m) (held_pages m.grants u.number u.held m.granted some_held pages) in
    let mine : planned_calls m.pass.pending ≡ planned_calls u.pass.pending = ap planned_calls m.read.pending in
    let s = m.running.sequence in omega arith

-- a load of the sequence word is a reading, and while a range is held it counts the entries under everything
pub sequence_is : {s u : SeatState Pass} (found : ℕ) → IsHeldPages s.held → IsClientCall s 1 u
    → IsMade HasHistory Allowed no_note s.number s.held s.pass (loads 1) found u.pass → IsReading s u × (IsSome s.held → CountsWhole u found)
sequence_is {s} {u} found pages call made =
    let m = made.3 in let here = made.5.0 in
    let same : here.pass ≡ s.pass = some-injective here.pass s.pass (sym here.own ∙ m.own) in
    let part = here.running.parts s.number here.pass here.own in
    let again : (k : ℕ) → s.pass.sequence ≡ Some k → found ≡ k = λ k e. sym made.4 ∙ part.sequence k (ap (λ (x : Pass). x.sequence) same ∙ e) in
    ⊎_elim (λ t.
    let is : u.pass ≡ after_step s.pass = t.1 ∙ ap after_step same in
    let free : s.held ≡ None = some-injective s.held None (sym m.grant ∙ t.0) in (
      step_reads (step_of call is) refl refl refl refl refl (keeps_all s.pass),
      λ some_held. let h = held_some s.held some_held in absurd (none_is h.0 (sym free ∙ h.1)),
    )) (λ is_then.
    let is : u.pass ≡ after_sequence found s.pass = is_then ∙ (λ i. after_sequence (made.4 i) (same i)) in (
      step_reads (step_of call is) refl refl refl refl refl (remembers s.pass found again),
      λ some_held. counts_whole u found (ap (λ (x : Pass). x.sequence) is) (subst IsSome (sym call.held) some_held) (subst IsHeldPages (sym call.held) pages),
    )) (sequence_tells (only_load (λ e. omega arith) made.5.1))

-- a pass that has read the same over as many blocks knows the same
pub knows_on : {p : Pass} (q : Pass) → q.laid ≡ p.laid → q.rows ≡ p.rows → q.blocks ≡ p.blocks → KnowsRows p → KnowsRows q
knows_on {p} q same_laid same_rows same_blocks knows =
    let k : KnowsRows (record p { laid = q.laid; rows = q.rows; blocks = q.blocks }) =
    coe 1 0 (i. KnowsRows (record p { laid = same_laid i; rows = same_rows i; blocks = same_blocks i })) knows in
    record {
      words = record { layout = k.words.layout; laid = k.words.laid; long = k.words.long; slots = k.words.slots };
      blocks = record { laid = k.blocks.laid; free = k.blocks.free; short = k.blocks.short; told = k.blocks.told };
      counted = k.counted;
    }

-- a caller that has drawn a number under everything has its plan to write
pub writes_plan : {before after : CallerView} {e : Entry} {under : Under} {kinds : ℕ → Option Kind} → HasSameRows before after
    → before.seat.held ≡ Some everything → IsDrawn before.seat e (pending_of under (plan_of before) before.change) after.seat → under ≡ Whole → IsKnown before
    → PlanShows (rows_after (plan_of before)) kinds → HasToWrite after
writes_plan {before} {after} {under} {kinds} same held d whole known shows =
    let is : pending_of under (plan_of before) before.change ≡ Planned (plan_of before) =
    ap (λ (w : Under). pending_of w (plan_of before) before.change) whole in
    let k : KeepsRows (Planned (plan_of before)) before.seat.pass after.seat.pass =
    subst (λ (q : Pending). KeepsRows q before.seat.pass after.seat.pass) is d.keeps in
    let fits : length (rows_after (plan_of before)) ≤ room_of after.seat.pass.blocks = subst (λ (q : Pending). FitsIn q after.seat.pass.blocks) is d.fits in
    let words : known_words after.seat.pass ≡ known_words before.seat.pass = λ i. words_of (k.1 i) (slots_to (d.blocks i)) ++ drop 1 (layout_by (k.0 i)) in
    let rows : known_rows after.seat.pass ≡ known_rows before.seat.pass = λ i. rows_by (d.blocks i) (words i) in
    let from : number_at after.seat.pass after.cut.at ≡ number_at before.seat.pass before.cut.at = λ i. number_in (d.blocks i) (words i) (same.cut i).at in
    let gone : after.cut.gone ≡ before.cut.gone = ap (λ (x : Cut Position). x.gone) same.cut in
    let more : length after.more ≡ length before.more = ap length same.more in
    let plan : plan_of after ≡ plan_of before = λ i. record { old = rows i; first = from i; end = from i + (same.cut i).gone; more = same.more i } in
    let long = ap length rows in let at = known.at in let there = known.there in let grows = known.grows in
    record {
      held = d.numbered.held ∙ held;
      pending = d.writes ∙ (is ∙ ap Planned (sym plan));
      known = record {
        rows = knows_on after.seat.pass k.0 k.1 d.blocks known.rows;
        list = subst IsRowList (sym rows) known.list;
        counted = same.count ∙ (known.counted ∙ ap length (sym rows));
        at = omega arith;
        there = omega arith;
        grows = omega arith;
        stays = λ some_rows. let s = known.stays (omega arith) in omega arith;
      };
      some = subst (λ (s : Splice). 0 < length (rows_after s)) (sym plan) shows.some;
      fits = subst (λ (s : Splice). length (rows_after s) ≤ room_of after.seat.pass.blocks) (sym plan) fits;
      low = subst (λ (s : Splice). All (λ w. row_start w ≤ LIMIT) (rows_after s)) (sym plan) (starts_below 0 _ _ shows.show);
    }

-- what was read round a change is read still where the range and the rows are the same
pub round_on : {a : SeatState Pass} (b : SeatState Pass) {change : Change} → b.table ≡ a.table → b.held ≡ a.held → b.pass.laid ≡ a.pass.laid
    → b.pass.rows ≡ a.pass.rows → b.pass.blocks ≡ a.pass.blocks → IsReadRound a change → IsReadRound b change
round_on {a} b {change} same_table same_held same_laid same_rows same_blocks was =
    let pass : Pass = record a.pass { laid = b.pass.laid; rows = b.pass.rows; blocks = b.pass.blocks } in
    let r : IsReadRound (record a { table = b.table; held = b.held; pass = pass }) change = coe 1 0 (i. IsReadRound (record a {
      table = same_table i;
      held = same_held i;
      pass = record a.pass { laid = same_laid i; rows = same_rows i; blocks = same_blocks i };
    }) change) was in
    let read = r.read in
    record {
      row = r.row;
      next = r.next;
      before = r.before;
      behind = r.behind;
      held = r.held;
      round = r.round;
      pages = r.pages;
      limit = r.limit;
      read = record { layout = read.layout; laid = read.laid; block = read.block; place = read.place; in_slot = read.in_slot };
      reach = r.reach;
      kind = r.kind;
      named = r.named;
      read_before = r.read_before;
      read_behind = r.read_behind;
      store = r.store;
    }

-- a caller that has drawn a number over its area has the row that it has chosen to store
pub writes_row : (before after : CallerView) {e : Entry} {under : Under} (span : Span) {change : Change} → after.change ≡ before.change
    → IsDrawn before.seat e (pending_of under (plan_of before) before.change) after.seat → under ≡ OverArea span → before.change ≡ Some change
    → IsReadRound before.seat change → HasToStore after change
writes_row before after {under} span {change} same d over chosen round =
    let is : pending_of under (plan_of before) before.change ≡ OneRow change = λ i. pending_of (over i) (plan_of before) (chosen i) in
    let k : KeepsRows (OneRow change) before.seat.pass after.seat.pass = subst (λ (q : Pending). KeepsRows q before.seat.pass after.seat.pass) is d.keeps in
    record { pending = d.writes ∙ is; chosen = same ∙ chosen; round = round_on after.seat d.numbered.table d.numbered.held k.0 k.1 d.blocks round }

-- a load of a row was one step of the seat, after which its pass has that row as well
pub row_loaded : {s u : SeatState Pass} (index found : ℕ) → index < 128 * s.pass.blocks → IsClientCall s (3 + index) u
    → IsMade HasHistory Allowed no_note s.number s.held s.pass (loads (3 + index)) found u.pass → IsClientStep s (3 + index) (after_row index found s.pass) u
row_loaded {s} index found slot call made =
    let m = made.3 in let here = made.5.0 in
    let same : here.pass ≡ s.pass = some-injective here.pass s.pass (sym here.own ∙ m.own) in
    let here_slot : index < 128 * here.pass.blocks = subst (λ (x : Pass). index < 128 * x.blocks) (sym same) slot in
    step_of call (row_tells index here_slot (only_load (λ e. omega arith) made.5.1) ∙ (λ i. after_row index (made.4 i) (same i)))
