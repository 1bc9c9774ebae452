-- The acts of a look keep the rule of the queue: they change what their own seat knows alone, and what it has read of
-- an announcement is what stands there while that stands. These are parts of the proofs in `Keeping`.
use Rattle.std.specs.Prelude.{Option, Some, None, slice_index, if◌then◌else◌, ◌==◌, ◌&&◌}
use Rattle.std.proofs.Common.{◌≡◌, ◌≢◌, ℕ, ◌+◌, ◌<◌, Bool, true, false, List, set, sym, refl, ap, ◌∙◌, subst, arith, inl, inr}
use Rattle.std.proofs.lemmas.Bool.{eq-eqb, ne_eqb, cases_eq}
use mathlib.Core.Option.{some}
use lib.ListN.{get_elem?}
use Rattle.lock_core.proofs.ByPlace.{there as stands}
use Rattle.lock_core.specs.declared.range.Held.{Held}
use Rattle.queue_laws.specs.declared.places.Announcement.{Announcement}
use Rattle.queue_laws.specs.declared.places.Telling.{Telling}
use Rattle.queue_laws.specs.declared.places.Telling.TheVariants.{Silent, Counted, Drawn, Shown}
use Rattle.queue_laws.specs.declared.places.Look.TheVariants.{At, Clear, Way}
use Rattle.queue_laws.specs.Machine.{conflicts, is_older, past_seat, is_silent}
use Rattle.queue_guard.specs.declared.passes.Ends.{Ends}
use Rattle.queue_guard.specs.declared.passes.QueuePass.{QueuePass}
use Rattle.queue_guard.specs.Places.{count_place, ticket_place, lo_place, hi_place, held_from}
use Rattle.queue_guard.specs.Acts.{no_ends, both_ends, look_begun, look_noted, look_judged, with_look, with_begun, with_read}
use Rattle.queue_guard.specs.Rule.{IsQueue, IsRead, Fits, HasTicket, IsTold, ticket_word, counts}
use Rattle.queue_guard.specs.Parts.{moved, nothing_changed}

-- ---- looks

-- a look that goes on has noted nothing
past_notes : (seats : ℕ) (asked : Held) (k : ℕ) (b : Bool) (by : Held) (j ticket : ℕ)
    → (if b then Clear asked else At asked (k + 1) None) ≡ At by j (Some ticket) → ⊥
past_notes seats asked k true by j ticket e = absurd cc
past_notes seats asked k false by j ticket e = absurd cc

begun_notes : (asked : Held) (b : Bool) (by : Held) (j ticket : ℕ) → (if b then Clear asked else At asked 0 None) ≡ At by j (Some ticket) → ⊥
begun_notes asked true by j ticket e = absurd cc
begun_notes asked false by j ticket e = absurd cc

judged_notes : (seats : ℕ) (asked : Held) (k ticket lo hi again : ℕ) (b : Bool) (by : Held) (j t : ℕ)
    → (if b then Way asked k (record { ticket = ticket; held = held_from lo hi }) else past_seat seats asked k) ≡ At by j (Some t) → ⊥
judged_notes seats asked k ticket lo hi again true by j t e = absurd cc
judged_notes seats asked k ticket lo hi again false by j t e = past_notes seats asked k _ by j t e

-- what a look notes is the ticket that it found there
noted_older : (seats : ℕ) (asked : Held) (k ticket : ℕ) (b : Bool) (by : Held) (j t : ℕ)
    → (if b then At asked k (Some ticket) else past_seat seats asked k) ≡ At by j (Some t) → (k ≡ j) × (ticket ≡ t)
noted_older seats asked k ticket true by j t e = (cc, cc)
noted_older seats asked k ticket false by j t e = absurd (past_notes seats asked k _ by j t e)

noted_there : (seats : ℕ) (mine : Telling) (asked : Held) (k ticket : ℕ) (by : Held) (j t : ℕ) → look_noted seats mine asked k ticket ≡ At by j (Some t)
    → (k ≡ j) × (ticket ≡ t) × (ticket ≢ 0)
noted_there seats mine asked k ticket by j t e = elim (cases_eq ticket 0) [
  | inl none ↦ absurd (past_notes seats asked k _ by j t
      (sym (ap (λ (b : Bool). if b then past_seat seats asked k else if is_older ticket mine then At asked k (Some ticket) else past_seat seats asked k)
      (eq-eqb ticket 0 none)) ∙ e))
  | inr other ↦ let r = noted_older seats asked k ticket (is_older ticket mine) by j t
      (sym (ap (λ (b : Bool). if b then past_seat seats asked k else if is_older ticket mine then At asked k (Some ticket) else past_seat seats asked k)
      (ne_eqb ticket 0 other)) ∙ e) in (r.0, r.1, other)
]

-- a ticket word that isn't 0 shows an announcement
shows : (t : Telling) → ticket_word t ≢ 0 → (a : Announcement) × (t ≡ Shown a) × (a.ticket ≡ ticket_word t)
shows Silent n = absurd (n refl)
shows Counted n = absurd (n refl)
shows (Drawn d) n = absurd (n refl)
shows (Shown a) n = (a, refl, refl)

-- nothing that was read fits anything
fits_none : (ticket : ℕ) (t : Telling) (stands : Ends) → ticket_word t ≡ ticket → ticket ≢ 0 → Fits ticket no_ends t stands
fits_none ticket Silent stands e n = tt
fits_none ticket Counted stands e n = tt
fits_none ticket (Drawn d) stands e n = absurd (n (sym e))
fits_none ticket (Shown a) stands e n = λ same. ((λ v h. absurd cc), (λ v h. absurd cc))

-- one end more that was read
fits_lo : (ticket : ℕ) (read : Ends) (t : Telling) (stands : Ends) (v : ℕ) → Fits ticket read t stands → ((a : Announcement) → t ≡ Shown a → stands.lo ≡ Some v)
    → Fits ticket (record { lo = Some v; hi = None }) t stands
fits_lo ticket read Silent stands v f g = tt
fits_lo ticket read Counted stands v f g = tt
fits_lo ticket read (Drawn d) stands v f g = f
fits_lo ticket read (Shown a) stands v f g = λ same. ((λ w h. let e : v ≡ w = cc in g a refl ∙ ap (λ (x : ℕ). Some x) e), (λ w h. absurd cc))

fits_hi : (ticket : ℕ) (read : Ends) (t : Telling) (stands : Ends) (v : ℕ) → Fits ticket read t stands → ((a : Announcement) → t ≡ Shown a → stands.hi ≡ Some v)
    → Fits ticket (record { lo = read.lo; hi = Some v }) t stands
fits_hi ticket read Silent stands v f g = tt
fits_hi ticket read Counted stands v f g = tt
fits_hi ticket read (Drawn d) stands v f g = f
fits_hi ticket read (Shown a) stands v f g = λ same. ((f same).0, (λ w h. let e : v ≡ w = cc in g a refl ∙ ap (λ (x : ℕ). Some x) e))

-- the ends of an announcement that stands are known
told_ends : (t : Telling) (ends : Ends) (a : Announcement) → IsTold t ends → t ≡ Shown a → (lo : ℕ) × (hi : ℕ) × (ends ≡ both_ends lo hi)
told_ends Silent ends a told e = absurd cc
told_ends Counted ends a told e = absurd cc
told_ends (Drawn d) ends a told e = absurd cc
told_ends (Shown b) ends a told e = (told.0, told.1, told.2)

at_place : (asked : Held) (k : ℕ) (seen : Option ℕ) (by : Held) (j : ℕ) (then_seen : Option ℕ) → At asked k seen ≡ At by j then_seen → k ≡ j
at_place asked k seen by j then_seen e = cc

module _ {P : Type 0} where
  -- a load that changes what the seat knows of its look alone
  pub loaded : (words : List ℕ) (passes : List (QueuePass P)) (s : ℕ) (p q : QueuePass P) → IsQueue words passes → get_elem? passes s ≡ some p
      → q.seats ≡ p.seats → q.telling ≡ p.telling → q.own ≡ p.own
      → IsRead words passes q → IsQueue words (set passes s q)
  loaded words passes s p q r own seats told ends read = let part = r.parts s p own in moved words words passes s p q r own (record {
    seats = seats;
    wide = refl;
    else_where = nothing_changed words s;
    rises = omega arith;
    last = r.last;
    count = let e : counts p ≡ counts q = ap (λ (t : Telling). if is_silent t then 0 else 1) (sym told) in omega arith;
    part = record {
      ticket = part.ticket ∙ ap ticket_word (sym told);
      drawn = λ n h. part.drawn n (subst (λ (t : Telling). HasTicket t n) told h);
      lo = λ v e. part.lo v (ap (λ (x : Ends). x.lo) (sym ends) ∙ e);
      hi = λ v e. part.hi v (ap (λ (x : Ends). x.hi) (sym ends) ∙ e);
      told = subst (λ (z : Telling × Ends). IsTold z.0 z.1) (λ i. (sym told i, sym ends i)) part.told;
    };
    read = read;
    others = λ ticket seen low fits. subst (λ (z : Telling × Ends). Fits ticket seen z.0 z.1) (λ i. (sym told i, sym ends i)) fits;
  })

  -- a look that has noted nothing has read nothing
  reads_nothing : (words : List ℕ) (passes : List (QueuePass P)) (q : QueuePass P) → ((by : Held) (j ticket : ℕ) → q.look ≡ At by j (Some ticket) → ⊥)
      → IsRead words passes q
  reads_nothing words passes q none by j ticket e = absurd (none by j ticket e)

  module _ (words : List ℕ) (passes : List (QueuePass P)) (s : ℕ) (p : QueuePass P) (r : IsQueue words passes) (own : get_elem? passes s ≡ some p) where
    -- a look that begins
    pub begins_keeps : (asked : Held) → IsQueue words (set passes s (with_begun p (look_begun asked (slice_index words count_place))))
    begins_keeps asked = let q : QueuePass P = with_begun p (look_begun asked (slice_index words count_place)) in
        loaded words passes s p q r own refl refl refl (reads_nothing words passes q
        (λ by j ticket e. begun_notes asked (slice_index words count_place == 0) by j ticket e))

    -- a load of its ticket once more
    pub judges_keeps : (asked : Held) (k ticket lo hi : ℕ)
        → IsQueue words (set passes s (with_look p (look_judged p.seats asked k ticket lo hi (slice_index words (ticket_place k)))))
    judges_keeps asked k ticket lo hi = let again : ℕ = slice_index words (ticket_place k) in
        let q : QueuePass P = with_look p (look_judged p.seats asked k ticket lo hi again) in
        loaded words passes s p q r own refl refl refl (reads_nothing words passes q
        (λ by j t e. judged_notes p.seats asked k ticket lo hi again ((again == ticket) && conflicts asked (held_from lo hi)) by j t e))

    -- a load of a ticket, which may note an announcement
    pub notes_keeps : (asked : Held) (k : ℕ) → k < p.seats
        → IsQueue words (set passes s (with_look p (look_noted p.seats p.telling asked k (slice_index words (ticket_place k)))))
    notes_keeps asked k low = loaded words passes s p (with_look p (look_noted p.seats p.telling asked k (slice_index words
        (ticket_place k)))) r own refl refl refl read
      where
        read : IsRead words passes (with_look p (look_noted p.seats p.telling asked k (slice_index words (ticket_place k))))
        read by j ticket e =
            let n = noted_there p.seats p.telling asked k (slice_index words (ticket_place k)) by j ticket e in
            let y = stands passes k (let e = r.seats s p own in omega arith) in
            let part = r.parts k y.0 y.1 in
            let a = shows y.0.telling (λ z. n.2 (part.ticket ∙ z)) in
            let d = part.drawn a.0.ticket (subst (λ (t : Telling). HasTicket t a.0.ticket) (sym a.1) refl) in
            let is : a.0.ticket ≡ ticket = a.2 ∙ (sym part.ticket ∙ n.1) in
            let least = d.0 in let below_next = d.1 in
            let some_ticket : ticket ≢ 0 = λ z. n.2 (n.1 ∙ z) in (
              omega arith,
              omega arith,
              λ x at. fits_none ticket x.telling x.own
                  (sym (r.parts j x at).ticket ∙ (ap (λ (m : ℕ). slice_index words (ticket_place m)) (sym n.0) ∙ n.1)) some_ticket,
            )

    -- a load of its lower end
    pub reads_lo_keeps : (asked : Held) (k ticket : ℕ) → p.look ≡ At asked k (Some ticket)
        → IsQueue words (set passes s (with_read p (record { lo = Some (slice_index words (lo_place k)); hi = None })))
    reads_lo_keeps asked k ticket look = loaded words passes s p (with_read p (record {
      lo = Some (slice_index words
          (lo_place k));
      hi = None;
    })) r own refl refl refl
        (λ by j t e. let old = r.reads s p own by j t e in
        let same : k ≡ j = at_place asked k (Some ticket) by j (Some t) (sym look ∙ e) in (
          old.0,
          old.1,
          λ x at. let part = r.parts j x at in fits_lo t p.read x.telling x.own (slice_index words (lo_place k)) (old.2 x at)
              (λ a shown. let ends = told_ends x.telling x.own a part.told shown in
              let lo : x.own.lo ≡ Some ends.0 = ap (λ (z : Ends). z.lo) ends.2 in
              lo ∙ ap (λ (v : ℕ). Some v) (sym (part.lo ends.0 lo) ∙ ap (λ (m : ℕ). slice_index words (lo_place m)) (sym same))),
        ))

    -- a load of its higher end
    pub reads_hi_keeps : (asked : Held) (k ticket : ℕ) → p.look ≡ At asked k (Some ticket)
        → IsQueue words (set passes s (with_read p (record { lo = p.read.lo; hi = Some (slice_index words (hi_place k)) })))
    reads_hi_keeps asked k ticket look =
        loaded words passes s p (with_read p (record { lo = p.read.lo; hi = Some (slice_index words (hi_place k)) })) r own refl refl refl
        (λ by j t e. let old = r.reads s p own by j t e in
        let same : k ≡ j = at_place asked k (Some ticket) by j (Some t) (sym look ∙ e) in (
          old.0,
          old.1,
          λ x at. let part = r.parts j x at in fits_hi t p.read x.telling x.own (slice_index words (hi_place k)) (old.2 x at)
              (λ a shown. let ends = told_ends x.telling x.own a part.told shown in
              let hi : x.own.hi ≡ Some ends.1 = ap (λ (z : Ends). z.hi) ends.2 in
              hi ∙ ap (λ (v : ℕ). Some v) (sym (part.hi ends.1 hi) ∙ ap (λ (m : ℕ). slice_index words (hi_place m)) (sym same))),
        ))
