-- The words that an act finds tell what the machine's line asks for, by the rule of the queue.
use Rattle.std.specs.Prelude.{Option, Some, None, slice_index, sum_by, if◌then◌else◌, ◌==◌, ◌&&◌}
use Rattle.std.proofs.Common.{◌≡◌, ℕ, ◌<◌, ◌≤◌, Bool, true, false, List, [], ◌∷◌, length, map, sym, refl, ap, ◌∙◌, subst, arith, inl, inr}
use Rattle.std.proofs.lemmas.Bool.{eq-eqb, ne_eqb}
use Rattle.std.proofs.lemmas.List.{length-map}
use Rattle.std.proofs.lemmas.List.Sums.{sum_by-cons}
use mathlib.Core.Option.{some}
use mathlib.Core.Logic.{dite}
use native.Mathlib.Decide.{ℕ_discrete}
use lib.ListN.{get_elem?}
use Rattle.lock_core.proofs.ByPlace.{there as stands}
use Rattle.lock_core.specs.declared.range.Held.{Held}
use Rattle.queue_laws.specs.declared.places.Announcement.{Announcement}
use Rattle.queue_laws.specs.declared.places.Telling.{Telling}
use Rattle.queue_laws.specs.declared.places.Telling.TheVariants.{Silent, Counted, Drawn, Shown}
use Rattle.queue_laws.specs.declared.places.Look.{Look}
use Rattle.queue_laws.specs.declared.places.Look.TheVariants.{At, Clear, Way}
use Rattle.queue_laws.specs.Machine.{conflicts, is_older, past_seat, is_silent, are_silent, telling_at, begun, noted, judged}
use Rattle.queue_laws.proofs.Waiting.{told_in}
use Rattle.queue_guard.specs.declared.passes.Act.TheVariants.{Glances, Begins, Notes, ReadsLo, ReadsHi, Judges, WritesLo, WritesHi, Counts, Draws, Shows}
use Rattle.queue_guard.specs.declared.passes.Act.TheVariants.{Hides, Uncounts}
use Rattle.queue_guard.specs.declared.passes.Ends.{Ends}
use Rattle.queue_guard.specs.declared.passes.QueuePass.{QueuePass}
use Rattle.queue_guard.specs.Places.{count_place, next_place, ticket_place, held_from}
use Rattle.queue_guard.specs.Acts.{both_ends, look_begun, look_noted, look_judged, told_drawn}
use Rattle.queue_guard.specs.Rule.{IsQueue, Fits, HasTicket, IsTold, ticket_word, counts}
use Rattle.queue_guard.specs.Lines.{ActsAreLines, IsLineOf, telling_of, place_with}

-- the look that a word 0 or a ticket gives is the machine's
noted_same : (seats : ℕ) (mine : Telling) (asked : Held) (k : ℕ) (t : Telling) → ((n : ℕ) → HasTicket t n → 1 ≤ n)
    → look_noted seats mine asked k (ticket_word t) ≡ noted seats mine asked k t
noted_same seats mine asked k Silent least = refl
noted_same seats mine asked k Counted least = refl
noted_same seats mine asked k (Drawn d) least = refl
noted_same seats mine asked k (Shown a) least = let l = least a.ticket refl in
    ap (λ (b : Bool). if b then past_seat seats asked k else if is_older a.ticket mine then At asked k (Some a.ticket) else past_seat seats asked k)
    (ne_eqb a.ticket 0 (λ e. omega arith))

judged_none : (seats : ℕ) (asked : Held) (k ticket lo hi : ℕ) → 1 ≤ ticket → look_judged seats asked k ticket lo hi 0 ≡ past_seat seats asked k
judged_none seats asked k ticket lo hi least = ap (λ (b : Bool). if b && conflicts asked (held_from lo hi)
    then Way asked k (record { ticket = ticket; held = held_from lo hi }) else past_seat seats asked k) (ne_eqb 0 ticket (λ e. omega arith))

-- the judgement by what was read is the machine's
judged_same : (seats : ℕ) (asked : Held) (k ticket lo hi : ℕ) (t : Telling) → 1 ≤ ticket → ((a : Announcement) → t ≡ Shown a
    → a.ticket ≡ ticket → a.held ≡ held_from lo hi)
    → look_judged seats asked k ticket lo hi (ticket_word t) ≡ judged seats asked k ticket t
judged_same seats asked k ticket lo hi Silent least fits = judged_none seats asked k ticket lo hi least
judged_same seats asked k ticket lo hi Counted least fits = judged_none seats asked k ticket lo hi least
judged_same seats asked k ticket lo hi (Drawn d) least fits = judged_none seats asked k ticket lo hi least
judged_same seats asked k ticket lo hi (Shown a) least fits = dite (ℕ_discrete a.ticket ticket)
    (λ same. let is : record { ticket = ticket; held = held_from lo hi } ≡ a = λ i. record { ticket = sym same i; held = sym (fits a refl same) i } in
    ap (λ (x : Announcement). if (a.ticket == ticket) && conflicts asked x.held then Way asked k x else past_seat seats asked k) is)
    (λ other. let off = ne_eqb a.ticket ticket other in
    ap (λ (b : Bool). if b && conflicts asked (held_from lo hi) then Way asked k
    (record { ticket = ticket; held = held_from lo hi }) else past_seat seats asked k) off
    ∙ sym (ap (λ (b : Bool). if b && conflicts asked a.held then Way asked k a else past_seat seats asked k) off))

-- what was read of an announcement that stands is what it says
told_held : (t : Telling) (ticket lo hi : ℕ) (ends : Ends) → IsTold t ends → Fits ticket (both_ends lo hi) t ends
    → (a : Announcement) → t ≡ Shown a → a.ticket ≡ ticket → a.held ≡ held_from lo hi
told_held Silent ticket lo hi ends told fits a e same = absurd cc
told_held Counted ticket lo hi ends told fits a e same = absurd cc
told_held (Drawn d) ticket lo hi ends told fits a e same = absurd cc
told_held (Shown b) ticket lo hi ends told fits a e same =
    let is : b ≡ a = cc in
    let read = fits (ap (λ (x : Announcement). x.ticket) is ∙ same) in
    let low : Some told.0 ≡ Some lo = sym (ap (λ (x : Ends). x.lo) told.2) ∙ read.0 lo refl in
    let high : Some told.1 ≡ Some hi = sym (ap (λ (x : Ends). x.hi) told.2) ∙ read.1 hi refl in
    let l : told.0 ≡ lo = cc in let h : told.1 ≡ hi = cc in
    ap (λ (x : Announcement). x.held) (sym is) ∙ (told.3 ∙ (λ i. held_from (l i) (h i)))

module _ {P : Type 0} where
  -- nobody is counted where all are silent
  silent_none : (l : List (QueuePass P)) → are_silent (map telling_of l) ≡ (sum_by counts l == 0)
  silent_none [] = refl
  silent_none (x ∷ xs) = one_more (is_silent x.telling) refl (silent_none xs)
    where
      one_more : (b : Bool) → is_silent x.telling ≡ b → are_silent (map telling_of xs) ≡ (sum_by counts xs == 0)
          → (is_silent x.telling && are_silent (map telling_of xs)) ≡ (sum_by counts (x ∷ xs) == 0)
      one_more true e rest = let c = sum_by-cons counts x xs in let z : counts x ≡ 0 = ap (λ (b : Bool). if b then 0 else 1) e in
          let same : sum_by counts (x ∷ xs) ≡ sum_by counts xs = omega arith in
          ap (λ (b : Bool). b && are_silent (map telling_of xs)) e ∙ (rest ∙ ap (λ (n : ℕ). n == 0) (sym same))
      one_more false e rest = let c = sum_by-cons counts x xs in let z : counts x ≡ 1 = ap (λ (b : Bool). if b then 0 else 1) e in
          ap (λ (b : Bool). b && are_silent (map telling_of xs)) e ∙ sym (ne_eqb (sum_by counts (x ∷ xs)) 0 (λ n. omega arith))

  module _ (words : List ℕ) (passes : List (QueuePass P)) (s : ℕ) (held : Option Held) (p : QueuePass P) (r : IsQueue words passes)
      (own : get_elem? passes s ≡ some p) where
    abbrev tellings : List Telling
    tellings = map telling_of passes

    many : p.seats ≡ length (map telling_of passes)
    many = r.seats s p own ∙ sym (length-map passes telling_of)

    begun_line : (asked : Held) → look_begun asked (slice_index words count_place) ≡ begun (map telling_of passes) asked
    begun_line asked = ap (λ (b : Bool). if b then Clear asked else At asked 0 None) (ap (λ (n : ℕ). n == 0) r.count ∙ sym (silent_none passes))

    noted_line : (asked : Held) (k : ℕ) → k < p.seats → look_noted p.seats p.telling asked k (slice_index words (ticket_place k))
        ≡ noted (length (map telling_of passes)) p.telling asked k (telling_at (map telling_of passes) k)
    noted_line asked k low =
        let y = stands passes k (let e = r.seats s p own in omega arith) in
        let part = r.parts k y.0 y.1 in
        let told : telling_at (map telling_of passes) k ≡ y.0.telling = told_in telling_of passes k y.0 y.1 in
        let word : slice_index words (ticket_place k) ≡ ticket_word (telling_at (map telling_of passes) k) = part.ticket ∙ ap ticket_word (sym told) in
        (λ i. look_noted (many i) p.telling asked k (word i))
        ∙ noted_same (length (map telling_of passes)) p.telling asked k (telling_at (map telling_of passes) k)
        (λ n h. (part.drawn n (subst (λ (t : Telling). HasTicket t n) told h)).0)

    judged_line : (asked : Held) (k ticket lo hi : ℕ) → p.look ≡ At asked k (Some ticket) → p.read ≡ both_ends lo hi → k < p.seats
        → look_judged p.seats asked k ticket lo hi (slice_index words (ticket_place k))
        ≡ judged (length (map telling_of passes)) asked k ticket (telling_at (map telling_of passes) k)
    judged_line asked k ticket lo hi look read low =
        let y = stands passes k (let e = r.seats s p own in omega arith) in
        let part = r.parts k y.0 y.1 in
        let told : telling_at (map telling_of passes) k ≡ y.0.telling = told_in telling_of passes k y.0 y.1 in
        let word : slice_index words (ticket_place k) ≡ ticket_word (telling_at (map telling_of passes) k) = part.ticket ∙ ap ticket_word (sym told) in
        let known = r.reads s p own asked k ticket look in
        let fits : Fits ticket (both_ends lo hi) y.0.telling y.0.own = subst (λ (e : Ends). Fits ticket e y.0.telling y.0.own) read (known.2 y.0 y.1) in
        (λ i. look_judged (many i) asked k ticket lo hi (word i))
        ∙ judged_same (length (map telling_of passes)) asked k ticket lo hi (telling_at (map telling_of passes) k) known.0
        (λ a e same. told_held y.0.telling ticket lo hi y.0.own part.told fits a (sym told ∙ e) same)

    drawn_line : (expected : ℕ) (q : QueuePass P) → p.telling ≡ Counted → q ≡ record p { telling = told_drawn expected (slice_index words next_place) }
        → IsLineOf (slice_index words next_place) (map telling_of passes) (place_with p held) Draws (place_with q held)
    drawn_line expected q counted is = dite (ℕ_discrete (slice_index words next_place) expected)
        (λ same. inl (
          counted,
          ap (λ (x : QueuePass P). place_with x held) is
              ∙ ap (λ (b : Bool). place_with (record p { telling = if b then Drawn (slice_index words next_place) else Counted }) held)
              (eq-eqb (slice_index words next_place) expected same),
        ))
        (λ other. inr (ap (λ (x : QueuePass P). place_with x held) is
        ∙ (ap (λ (b : Bool). place_with (record p { telling = if b then Drawn (slice_index words next_place) else Counted }) held)
        (ne_eqb (slice_index words next_place) expected other) ∙ ap (λ (t : Telling). place_with (record p { telling = t }) held) (sym counted))))

  -- every act is a line of the machine
  pub acts_are_lines_law : ActsAreLines P
  acts_are_lines_law words passes s held p step Glances q r own a = ap (λ (x : QueuePass P). place_with x held) a.1
  acts_are_lines_law words passes s held p step (Begins asked) q r own a = (
    a.1,
    ap (λ (x : QueuePass P). place_with x held) a.2
        ∙ ap (λ (l : Look). record { telling = p.telling; look = l; held = held }) (begun_line words passes s held p r own asked),
  )
  acts_are_lines_law words passes s held p step Notes q r own a = (
    a.0,
    a.1,
    a.3,
    ap (λ (x : QueuePass P). place_with x held) a.5
        ∙ ap (λ (l : Look). record { telling = p.telling; look = l; held = held }) (noted_line words passes s held p r own a.0 a.1 a.4),
    a.6,
  )
  acts_are_lines_law words passes s held p step ReadsLo q r own a = ap (λ (x : QueuePass P). place_with x held) a.6
  acts_are_lines_law words passes s held p step ReadsHi q r own a = ap (λ (x : QueuePass P). place_with x held) a.6
  acts_are_lines_law words passes s held p step Judges q r own a = (
    a.0,
    a.1,
    a.2,
    a.6,
    ap (λ (x : QueuePass P). place_with x held) a.9
        ∙ ap (λ (l : Look). record { telling = p.telling; look = l; held = held }) (judged_line words passes s held p r own a.0 a.1 a.2 a.3 a.4 a.6 a.7 a.8),
    a.10,
  )
  acts_are_lines_law words passes s held p step WritesLo q r own a = ap (λ (x : QueuePass P). place_with x held) a.3
  acts_are_lines_law words passes s held p step WritesHi q r own a = ap (λ (x : QueuePass P). place_with x held) a.3
  acts_are_lines_law words passes s held p step Counts q r own a = (a.1, ap (λ (x : QueuePass P). place_with x held) a.2)
  acts_are_lines_law words passes s held p step Draws q r own a = drawn_line words passes s held p r own a.0 q a.2 a.4
  acts_are_lines_law words passes s held p step Shows q r own a = (held_from a.1 a.2, (a.0, a.4, ap (λ (x : QueuePass P). place_with x held) a.7))
  acts_are_lines_law words passes s held p step Hides q r own a = (a.0, a.2, ap (λ (x : QueuePass P). place_with x held) a.3)
  acts_are_lines_law words passes s held p step Uncounts q r own a = (a.1, ap (λ (x : QueuePass P). place_with x held) a.2)
