-- A seat may make an act of the queue at every moment, if it may over any words; and an act that was made found the
-- value that it returns at a moment at which the rule of the queue held.
use Rattle.std.specs.Prelude.{Option, Some, None, Result, Ok, Err, MatchResult, slice_index, if◌then◌else◌, true}
use Rattle.std.proofs.Common.{◌≡◌, ◌≢◌, ℕ, ◌+◌, ◌*◌, ◌/◌, ◌%◌, ◌<◌, ◌≤◌}
use Rattle.std.proofs.Common.{Bool, List, sym, refl, ap, ◌∙◌, subst, arith}
use Rattle.std.proofs.lemmas.Bool.{true≢false, eq-eqb, ne_eqb}
use mathlib.Core.Option.{some, some-injective}
use lib.ListN.{get_elem?}
use Rattle.lock_core.proofs.ByPlace.{there as stands}
use Rattle.lock_core.specs.Grants.{Grants}
use Rattle.lock_core.specs.Range.{IsRange}
use Rattle.lock_core.specs.Words.{hi_word, mode_of}
use Rattle.lock_core.specs.declared.range.Mode.{Mode}
use Rattle.lock_core.specs.declared.range.Mode.TheVariants.{Reader, Writer}
use Rattle.lock_core.specs.declared.range.Held.{Held}
use Rattle.lock_core.specs.Client.{ClientStep, loads, stores, exchanges, place_of, IsAllowed, IsMade}
use Rattle.queue_laws.specs.declared.places.Announcement.{Announcement}
use Rattle.queue_laws.specs.declared.places.Telling.{Telling}
use Rattle.queue_laws.specs.declared.places.Telling.TheVariants.{Silent, Counted, Drawn, Shown}
use Rattle.queue_laws.specs.declared.places.Look.TheVariants.{At}
use Rattle.queue_guard.specs.declared.passes.Act.{Act}
use Rattle.queue_guard.specs.declared.passes.Act.TheVariants.{Glances, Begins, Notes, ReadsLo, ReadsHi, Judges, WritesLo, WritesHi, Counts, Draws, Shows}
use Rattle.queue_guard.specs.declared.passes.Act.TheVariants.{Hides, Uncounts}
use Rattle.queue_guard.specs.declared.passes.Ends.{Ends}
use Rattle.queue_guard.specs.declared.passes.QueuePass.{QueuePass}
use Rattle.queue_guard.specs.declared.passes.Doing.TheVariants.{Queue}
use Rattle.queue_guard.specs.Places.{count_place, next_place, ticket_place, lo_place, hi_place, held_from}
use Rattle.queue_guard.specs.Acts.{IsAct, both_ends, is_shown, look_begun, look_noted, look_judged}
use Rattle.queue_guard.specs.Acts.{told_drawn, with_begun, with_look, with_read, with_own, with_telling}
use Rattle.queue_guard.specs.Rule.{IsQueue, HasQueue, IsAllowedBy, Fits, IsTold, ticket_word}

-- the higher end and the mode are read back from their word
hi_half : (hi : ℕ) (mode : Mode) → hi_word hi mode / 2 ≡ hi
hi_half hi Reader = omega arith
hi_half hi Writer = omega arith

mode_back : (hi : ℕ) (mode : Mode) → mode_of (hi_word hi mode) ≡ mode
mode_back hi Reader = ap (λ (b : Bool). if b then Writer else Reader) (ne_eqb (2 * hi % 2) 1 (λ e. omega arith))
mode_back hi Writer = ap (λ (b : Bool). if b then Writer else Reader) (eq-eqb ((2 * hi + 1) % 2) 1 (omega arith))

-- a range and its mode are read back from their words
pub held_back : (h : Held) → held_from h.range.lo (hi_word h.range.hi h.mode) ≡ h
held_back h = λ i. record { range = record { lo = h.range.lo; hi = hi_half h.range.hi h.mode i }; mode = mode_back h.range.hi h.mode i }

-- so are its bounds
pub range_back : (h : Held) → IsRange h.range.lo h.range.hi → IsRange h.range.lo (hi_word h.range.hi h.mode / 2)
range_back h range = subst (IsRange h.range.lo) (sym (hi_half h.range.hi h.mode)) range

-- who has shown an announcement
pub shown_one : (t : Telling) → is_shown t ≡ true → (a : Announcement) × (t ≡ Shown a)
shown_one Silent e = absurd (true≢false (sym e))
shown_one Counted e = absurd (true≢false (sym e))
shown_one (Drawn d) e = absurd (true≢false (sym e))
shown_one (Shown a) e = (a, refl)

-- the ends of an announcement that stands are those of a range
range_of : (t : Telling) (ends : Ends) (ticket lo hi : ℕ) → IsTold t ends → Fits ticket (both_ends lo hi) t ends
    → ticket_word t ≡ ticket → 1 ≤ ticket
    → IsRange lo (hi / 2)
range_of Silent ends ticket lo hi told fits e least = absurd (omega arith)
range_of Counted ends ticket lo hi told fits e least = absurd (omega arith)
range_of (Drawn d) ends ticket lo hi told fits e least = absurd (omega arith)
range_of (Shown a) ends ticket lo hi told fits e least =
    let read = fits e in
    let low : Some told.0 ≡ Some lo = sym (ap (λ (x : Ends). x.lo) told.2) ∙ read.0 lo refl in
    let high : Some told.1 ≡ Some hi = sym (ap (λ (x : Ends). x.hi) told.2) ∙ read.1 hi refl in
    let l : told.0 ≡ lo = cc in let h : told.1 ≡ hi = cc in
    let end : a.held.range.hi ≡ hi / 2 = ap (λ (x : Held). x.range.hi) told.3 ∙ ap (λ (n : ℕ). n / 2) h in
    subst (λ (z : ℕ × ℕ). IsRange z.0 z.1) (λ i. (l i, end i)) told.4

module _ {P N : Type 0} (holds : Grants → List ℕ → List P → Type 0)
    (allows : Grants → List ℕ → List P → ℕ → ClientStep → N → P → Type 0)
    (seat : ℕ) (held : Option Held) (pass : QueuePass P) where
  -- an act that the seat may make over any words is allowed
  pub may : (act : Act) (step : ClientStep) → ((words : List ℕ) → (q : QueuePass P) × IsAct words seat held pass step act q)
      → IsAllowed (HasQueue holds) (IsAllowedBy allows) (Queue act) seat held pass step
  may act step can grants words passes moment there small = let q = can words in (q.0, (pass, moment.own, held, moment.grant, q.1))

  -- words that meet the rule of the queue, over which an act was made that found this value
  pub record Made (act : Act) (step : ClientStep) (found : ℕ) (after : QueuePass P) : Type 0 where
    pub words : List ℕ
    pub passes : List (QueuePass P)
    pub rule : IsQueue words passes
    pub own : get_elem? passes seat ≡ some pass
    pub word : slice_index words (place_of step) ≡ found
    pub acted : IsAct words seat held pass step act after

  -- a step that was made is such an act
  pub made : (act : Act) (step : ClientStep) (found : ℕ) (after : QueuePass P)
      → IsMade (HasQueue holds) (IsAllowedBy allows) (Queue act) seat held pass step found after → Made act step found after
  made act step found after m =
      let moment = m.3 in let by = m.5 in
      let same : by.0 ≡ pass = some-injective _ _ (sym by.1 ∙ moment.own) in
      let holding : by.2 ≡ held = some-injective _ _ (sym by.3 ∙ moment.grant) in
      record {
        words = m.1;
        passes = m.2;
        rule = moment.met.0;
        own = moment.own;
        word = m.4;
        acted = subst (λ (z : QueuePass P × Option Held). IsAct m.1 seat z.1 z.0 step act after) (λ i. (same i, holding i)) by.4;
      }

  -- what the seat knows after each act, by the value that was found
  pub begun_by : (asked : Held) (found : ℕ) (after : QueuePass P) → Made (Begins asked) (loads count_place) found after
      → after ≡ with_begun pass (look_begun asked found)
  begun_by asked found after m = m.acted.2 ∙ ap (λ (n : ℕ). with_begun pass (look_begun asked n)) m.word

  -- a look that is at a seat is at one seat, and has noted one ticket
  at_same : (asked : Held) (k : ℕ) (seen : Option ℕ) (by : Held) (j : ℕ) (met : Option ℕ) → At asked k seen ≡ At by j met
      → (asked ≡ by) × (k ≡ j) × (seen ≡ met)
  at_same asked k seen by j met e = (cc, cc, cc)

  -- a ticket that was loaded at the seat where the look is: it is noted, or the look goes on
  pub noted_by : (asked : Held) (k found : ℕ) (after : QueuePass P) → pass.look ≡ At asked k None → Made Notes (loads (ticket_place k)) found after
      → after ≡ with_look pass (look_noted pass.seats pass.telling asked k found)
  noted_by asked k found after look m =
      let same = at_same m.acted.0 m.acted.1 None asked k None (sym m.acted.3 ∙ look) in
      m.acted.5 ∙ (λ i. with_look pass (look_noted pass.seats pass.telling (same.0 i) (same.1 i) (slice_index m.words (ticket_place (same.1 i)))))
      ∙ ap (λ (n : ℕ). with_look pass (look_noted pass.seats pass.telling asked k n)) m.word

  -- the lower end that was loaded is what the seat has read
  pub read_lo_by : (asked : Held) (k ticket found : ℕ) (after : QueuePass P) → pass.look ≡ At asked k (Some ticket)
      → Made ReadsLo (loads (lo_place k)) found after
      → after ≡ with_read pass (record { lo = Some found; hi = None })
  read_lo_by asked k ticket found after look m =
      let same = at_same m.acted.0 m.acted.1 (Some m.acted.2) asked k (Some ticket) (sym m.acted.4 ∙ look) in
      m.acted.6 ∙ (λ i. with_read pass (record { lo = Some (slice_index m.words (lo_place (same.1 i))); hi = None }))
      ∙ ap (λ (n : ℕ). with_read pass (record { lo = Some n; hi = None })) m.word

  -- so is the higher end, beside the lower one
  pub read_hi_by : (asked : Held) (k ticket found : ℕ) (after : QueuePass P) → pass.look ≡ At asked k (Some ticket)
      → Made ReadsHi (loads (hi_place k)) found after
      → after ≡ with_read pass (record { lo = pass.read.lo; hi = Some found })
  read_hi_by asked k ticket found after look m =
      let same = at_same m.acted.0 m.acted.1 (Some m.acted.2) asked k (Some ticket) (sym m.acted.4 ∙ look) in
      m.acted.6 ∙ (λ i. with_read pass (record { lo = pass.read.lo; hi = Some (slice_index m.words (hi_place (same.1 i))) }))
      ∙ ap (λ (n : ℕ). with_read pass (record { lo = pass.read.lo; hi = Some n })) m.word

  ends_same : (lo hi low high : ℕ) → both_ends lo hi ≡ both_ends low high → (lo ≡ low) × (hi ≡ high)
  ends_same lo hi low high e =
      let l : Some lo ≡ Some low = ap (λ (x : Ends). x.lo) e in let h : Some hi ≡ Some high = ap (λ (x : Ends). x.hi) e in (cc, cc)

  some_same : (a b : ℕ) → Some a ≡ Some b → a ≡ b
  some_same a b e = cc

  -- the ticket was loaded again: the look has met that announcement, or goes on
  pub judged_by : (asked : Held) (k ticket lo hi found : ℕ) (after : QueuePass P) → pass.look ≡ At asked k (Some ticket) → pass.read ≡ both_ends lo hi
      → Made Judges (loads (ticket_place k)) found after → after ≡ with_look pass (look_judged pass.seats asked k ticket lo hi found)
  judged_by asked k ticket lo hi found after look read m =
      let same = at_same m.acted.0 m.acted.1 (Some m.acted.2) asked k (Some ticket) (sym m.acted.6 ∙ look) in
      let ends = ends_same m.acted.3 m.acted.4 lo hi (sym m.acted.7 ∙ read) in
      let t = some_same m.acted.2 ticket same.2 in
      m.acted.9 ∙ (λ i. with_look pass (look_judged pass.seats (same.0 i) (same.1 i) (t i) (ends.0 i) (ends.1 i)
      (slice_index m.words (ticket_place (same.1 i)))))
      ∙ ap (λ (n : ℕ). with_look pass (look_judged pass.seats asked k ticket lo hi n)) m.word

  -- a ticket that is found again shows the ends of a range
  pub judged_range : (asked : Held) (k ticket lo hi found : ℕ) (after : QueuePass P) → pass.look ≡ At asked k (Some ticket)
      → pass.read ≡ both_ends lo hi
      → k < pass.seats → Made Judges (loads (ticket_place k)) found after → found ≡ ticket → IsRange lo (hi / 2)
  judged_range asked k ticket lo hi found after look read low m same =
      let known = m.rule.reads seat pass m.own asked k ticket look in
      let y = stands m.passes k (let e = m.rule.seats seat pass m.own in omega arith) in
      let part = m.rule.parts k y.0 y.1 in
      range_of y.0.telling y.0.own ticket lo hi part.told (subst (λ (e : Ends). Fits ticket e y.0.telling y.0.own) read (known.2 y.0 y.1))
      (sym part.ticket ∙ (m.word ∙ same)) known.0

  value_same : (i v j w : ℕ) → stores i v ≡ stores j w → v ≡ w
  value_same i v j w e = cc

  -- a lower end that was stored is that of the own range
  pub wrote_lo_by : (place value found : ℕ) (after : QueuePass P) → Made WritesLo (stores place value) found after
      → after ≡ with_own pass (record { lo = Some value; hi = pass.own.hi })
  wrote_lo_by place value found after m = m.acted.3
      ∙ ap (λ (v : ℕ). with_own pass (record { lo = Some v; hi = pass.own.hi })) (sym (value_same place value _ m.acted.0 m.acted.1))

  -- so is a higher end
  pub wrote_hi_by : (place value found : ℕ) (after : QueuePass P) → Made WritesHi (stores place value) found after
      → after ≡ with_own pass (record { lo = pass.own.lo; hi = Some value })
  wrote_hi_by place value found after m = m.acted.3
      ∙ ap (λ (v : ℕ). with_own pass (record { lo = pass.own.lo; hi = Some v })) (sym (value_same place value _ m.acted.0 m.acted.1))

  -- a seat that added itself is counted
  pub counted_by : (step : ClientStep) (found : ℕ) (after : QueuePass P) → Made Counts step found after → after ≡ with_telling pass Counted
  counted_by step found after m = m.acted.2

  -- and silent once it took itself out
  pub uncounted_by : (step : ClientStep) (found : ℕ) (after : QueuePass P) → Made Uncounts step found after → after ≡ with_telling pass Silent
  uncounted_by step found after m = m.acted.2

  -- a load of the next ticket leaves what the seat knows
  pub glanced_by : (step : ClientStep) (found : ℕ) (after : QueuePass P) → Made Glances step found after → after ≡ pass
  glanced_by step found after m = m.acted.1

  expected_same : (i e n j f o : ℕ) → exchanges i e n ≡ exchanges j f o → e ≡ f
  expected_same i e n j f o eq = cc

  -- an exchange of the next ticket draws it, if the value found is the one expected
  pub drawn_by : (ticket found : ℕ) (after : QueuePass P) → Made Draws (exchanges next_place ticket (ticket + 1)) found after
      → after ≡ with_telling pass (told_drawn ticket found)
  drawn_by ticket found after m = m.acted.4
      ∙ (λ i. with_telling pass (told_drawn (sym (expected_same next_place ticket (ticket + 1) next_place m.acted.0 (m.acted.0 + 1) m.acted.1) i)
      (m.word i)))

  -- where it is, the ticket is drawn
  pub drew : (ticket : ℕ) (after : QueuePass P) → Made Draws (exchanges next_place ticket (ticket + 1)) ticket after
      → after ≡ with_telling pass (Drawn ticket)
  drew ticket after m = drawn_by ticket ticket after m
      ∙ ap (λ (b : Bool). with_telling pass (if b then Drawn ticket else Counted)) (eq-eqb ticket ticket refl)

  -- where it is not, the seat is counted as before
  pub lost : (ticket found : ℕ) (after : QueuePass P) → found ≢ ticket → Made Draws (exchanges next_place ticket (ticket + 1)) found after
      → after ≡ with_telling pass Counted
  lost ticket found after other m = drawn_by ticket found after m
      ∙ ap (λ (b : Bool). with_telling pass (if b then Drawn found else Counted)) (ne_eqb found ticket other)

  -- an exchange of the next ticket drew it, or found another one
  pub drawn_match : {A : Type 0} (ticket : ℕ) (r : Result A ℕ) (after : QueuePass P)
      → MatchResult r (λ _. IsMade (HasQueue holds) (IsAllowedBy allows) (Queue Draws) seat held pass
      (exchanges next_place ticket (ticket + 1)) ticket after)
      (λ found. (found ≢ ticket)
      × IsMade (HasQueue holds) (IsAllowedBy allows) (Queue Draws) seat held pass (exchanges next_place ticket (ticket + 1)) found after)
      → MatchResult r (λ _. after ≡ with_telling pass (Drawn ticket)) (λ found. (found ≢ ticket) × (after ≡ with_telling pass Counted))
  drawn_match ticket (Ok a) after m = drew ticket after (made Draws (exchanges next_place ticket (ticket + 1)) ticket after m)
  drawn_match ticket (Err found) after m =
      (m.0, lost ticket found after m.0 (made Draws (exchanges next_place ticket (ticket + 1)) found after m.1))

  drawn_same : (a b : ℕ) → Drawn a ≡ Drawn b → a ≡ b
  drawn_same a b e = cc

  -- a ticket that was stored shows the range whose ends were written
  pub shown_by : (ticket : ℕ) (h : Held) (step : ClientStep) (found : ℕ) (after : QueuePass P) → pass.telling ≡ Drawn ticket
      → pass.own ≡ both_ends h.range.lo (hi_word h.range.hi h.mode) → Made Shows step found after
      → after ≡ with_telling pass (Shown (record { ticket = ticket; held = h }))
  shown_by ticket h step found after drawn own m =
      let t = drawn_same m.acted.0 ticket (sym m.acted.4 ∙ drawn) in
      let ends = ends_same m.acted.1 m.acted.2 h.range.lo (hi_word h.range.hi h.mode) (sym m.acted.5 ∙ own) in
      let held_is : held_from m.acted.1 m.acted.2 ≡ h = (λ i. held_from (ends.0 i) (ends.1 i)) ∙ held_back h in
      m.acted.7 ∙ (λ i. with_telling pass (Shown (record { ticket = t i; held = held_is i })))

  -- and 0 in its place takes that back, and the seat is counted still
  pub hidden_by : (step : ClientStep) (found : ℕ) (after : QueuePass P) → Made Hides step found after → after ≡ with_telling pass Counted
  hidden_by step found after m = m.acted.3
