-- Every step that the guard with a queue allows keeps its rule, and so do a gain and a loss. A step of the guard behind
-- the queue leaves the queue's words, and an act of the queue leaves the words behind them.
use Rattle.std.specs.Prelude.{Option, Some, None, slice_index, slice_set, map, drop, if◌then◌else◌, ◌==◌}
use Rattle.std.proofs.Common.{◌≡◌, ℕ, ◌+◌, ◌%◌, ◌^◌, ◌<◌, Bool, List, set, sym, refl, ap, ◌∙◌, subst, arith, length-set}
use Rattle.std.proofs.lemmas.List.{get_or-set_other, set-get_or, drop-set-lt, drop-set-add, map-set, get_or-drop}
use Rattle.std.proofs.lemmas.Bool.{eq-eqb, ne_eqb}
use mathlib.Core.Option.{some}
use mathlib.Core.Logic.{dite}
use native.Mathlib.Decide.{ℕ_discrete}
use prog.Atomic.{either}
use lib.ListN.{get_elem?}
use Rattle.atomic_table.proofs.Lists.{set_again, at_map}
use Rattle.lock_core.proofs.ByPlace.{below}
use Rattle.lock_core.specs.Grants.{Grants, IsFree}
use Rattle.lock_core.specs.declared.range.Held.{Held}
use Rattle.lock_core.specs.Client.{ClientStep, loads, stores, adds, exchanges, words_after}
use Rattle.queue_laws.specs.declared.places.Telling.{Telling}
use Rattle.queue_laws.specs.declared.places.Telling.TheVariants.{Counted, Drawn}
use Rattle.queue_laws.specs.Machine.{is_silent}
use Rattle.queue_guard.specs.declared.passes.Act.{Act}
use Rattle.queue_guard.specs.declared.passes.Act.TheVariants.{Glances, Begins, Notes, ReadsLo, ReadsHi, Judges, WritesLo, WritesHi, Counts, Draws, Shows}
use Rattle.queue_guard.specs.declared.passes.Act.TheVariants.{Hides, Uncounts}
use Rattle.queue_guard.specs.declared.passes.Ends.{Ends}
use Rattle.queue_guard.specs.declared.passes.QueuePass.{QueuePass}
use Rattle.queue_guard.specs.declared.passes.Doing.{Doing}
use Rattle.queue_guard.specs.declared.passes.Doing.TheVariants.{Queue, Inner}
use Rattle.queue_guard.specs.Places.{count_place, next_place, ticket_place, lo_place, hi_place, queue_words, behind}
use Rattle.queue_guard.specs.Acts.{IsAct, told_drawn, with_telling, with_inner}
use Rattle.queue_guard.specs.Rule.{IsQueue, Fits, HasTicket, IsTold, ticket_word, counts, inner_of, HasQueue, IsAllowedBy, rested_pass, is_resting}
use Rattle.queue_guard.specs.Parts.{moved, one_changed}
use Rattle.queue_guard.specs.Looking.{loaded, begins_keeps, judges_keeps, notes_keeps, reads_lo_keeps, reads_hi_keeps}
use Rattle.queue_guard.specs.Telling.{writes_lo_keeps, writes_hi_keeps, counts_keeps, uncounts_keeps, draws_keeps, shows_keeps, hides_keeps}

-- the words behind the queue after a step that is this one
same_behind : (words : List ℕ) (step by : ClientStep) (i : ℕ) → step ≡ by → drop queue_words (words_after words by) ≡ drop queue_words words
    → drop queue_words (words_after words step) ≡ drop queue_words words
same_behind words step by i e kept = ap (λ (c : ClientStep). drop queue_words (words_after words c)) e ∙ kept

-- the words of the guard behind the queue after a step on one of them
pub behind_after : (words : List ℕ) (by : ClientStep) → drop queue_words (words_after words (behind by)) ≡ words_after (drop queue_words words) by
behind_after words (loads i) = refl
behind_after words (stores i value) = drop-set-add queue_words words i value
behind_after words (adds i by) = drop-set-add queue_words words i ((slice_index words (queue_words + i) + by) % 2 ^ 64)
    ∙ ap (λ (n : ℕ). set (drop queue_words words) i ((n + by) % 2 ^ 64)) (sym (get_or-drop queue_words words i 0))
behind_after words (exchanges i expected new) =
    drop-set-add queue_words words i (either (slice_index words (queue_words + i) == expected) new (slice_index words (queue_words + i)))
    ∙ ap (λ (n : ℕ). set (drop queue_words words) i (either (n == expected) new n)) (sym (get_or-drop queue_words words i 0))

module _ {P : Type 0} where
  -- the words and the passes after a step
  after_step : (words : List ℕ) (passes : List (QueuePass P)) (s : ℕ) {step by : ClientStep} {q now : QueuePass P} → step ≡ by → q ≡ now
      → IsQueue (words_after words by) (set passes s now) → IsQueue (words_after words step) (set passes s q)
  after_step words passes s e f kept = subst (λ (z : ClientStep
      × QueuePass P). IsQueue (words_after words z.0) (set passes s z.1)) (λ i. (sym e i, sym f i)) kept

  -- an exchange of the next ticket, where it found another
  lost_draw : (words : List ℕ) (passes : List (QueuePass P)) (s : ℕ) (p : QueuePass P) → IsQueue words passes → get_elem? passes s ≡ some p
      → p.telling ≡ Counted
      → IsQueue (set words next_place (slice_index words next_place)) (set passes s (with_telling p Counted))
  lost_draw words passes s p r own counted = subst (λ (l : List ℕ). IsQueue l (set passes s (with_telling p Counted))) (sym (set-get_or words next_place 0))
      (loaded words passes s p (with_telling p Counted) r own refl (sym counted) refl (r.reads s p own))

  drawn_or_lost : (words : List ℕ) (passes : List (QueuePass P)) (s : ℕ) (p : QueuePass P) (expected : ℕ) → IsQueue words passes → get_elem? passes s ≡ some p
      → p.telling ≡ Counted → expected < 2 ^ 62
      → IsQueue (set words next_place (either (slice_index words next_place == expected) (expected + 1) (slice_index words next_place)))
      (set passes s (with_telling p (told_drawn expected (slice_index words next_place))))
  drawn_or_lost words passes s p expected r own counted low = dite (ℕ_discrete (slice_index words next_place) expected)
      (λ found. subst (λ (b : Bool). IsQueue (set words next_place (either b (expected + 1) (slice_index words next_place)))
      (set passes s (with_telling p (if b then Drawn (slice_index words next_place) else Counted)))) (sym (eq-eqb
      (slice_index words next_place) expected found))
      (draws_keeps words passes s p r own expected counted low found))
      (λ other. subst (λ (b : Bool). IsQueue (set words next_place (either b (expected + 1) (slice_index words next_place)))
      (set passes s (with_telling p (if b then Drawn (slice_index words next_place) else Counted)))) (sym (ne_eqb
      (slice_index words next_place) expected other))
      (lost_draw words passes s p r own counted))

  -- each act keeps the rule of the queue
  pub act_keeps : (words : List ℕ) (passes : List (QueuePass P)) (s : ℕ) (held : Option Held) (p : QueuePass P) (step : ClientStep) (act : Act)
      (q : QueuePass P)
      → IsQueue words passes → get_elem? passes s ≡ some p → IsAct words s held p step act q → IsQueue (words_after words step) (set passes s q)
  act_keeps words passes s held p step Glances q r own a = after_step words passes s a.0 a.1 (loaded words passes s p p r own refl refl refl (r.reads s p own))
  act_keeps words passes s held p step (Begins asked) q r own a = after_step words passes s a.0 a.2 (begins_keeps words passes s p r own asked)
  act_keeps words passes s held p step Notes q r own a = after_step words passes s a.2 a.5 (notes_keeps words passes s p r own a.0 a.1 a.4)
  act_keeps words passes s held p step ReadsLo q r own a = after_step words passes s a.3 a.6 (reads_lo_keeps words passes s p r own a.0 a.1 a.2 a.4)
  act_keeps words passes s held p step ReadsHi q r own a = after_step words passes s a.3 a.6 (reads_hi_keeps words passes s p r own a.0 a.1 a.2 a.4)
  act_keeps words passes s held p step Judges q r own a = after_step words passes s a.5 a.9 (judges_keeps words passes s p r own a.0 a.1 a.2 a.3 a.4)
  act_keeps words passes s held p step WritesLo q r own a = after_step words passes s a.1 a.3 (writes_lo_keeps words passes s p r own a.0 a.2)
  act_keeps words passes s held p step WritesHi q r own a = after_step words passes s a.1 a.3 (writes_hi_keeps words passes s p r own a.0 a.2)
  act_keeps words passes s held p step Counts q r own a = after_step words passes s a.0 a.2 (counts_keeps words passes s p r own a.1)
  act_keeps words passes s held p step Draws q r own a = after_step words passes s a.1 a.4 (drawn_or_lost words passes s p a.0 r own a.2 a.3)
  act_keeps words passes s held p step Shows q r own a = after_step words passes s a.3 a.7 (shows_keeps words passes s p r own a.0 a.1 a.2 a.4 a.5 a.6)
  act_keeps words passes s held p step Hides q r own a = after_step words passes s a.1 a.3 (hides_keeps words passes s p r own a.0 a.2)
  act_keeps words passes s held p step Uncounts q r own a = after_step words passes s a.0 a.2 (uncounts_keeps words passes s p r own a.1)

  inner_kept : (p q now : QueuePass P) → q ≡ now → now.inner ≡ p.inner → q.inner ≡ p.inner
  inner_kept p q now e f = ap inner_of e ∙ f

  -- an act leaves the words behind the queue, and what the guard there has its seat know
  pub act_leaves : (words : List ℕ) (s : ℕ) (held : Option Held) (p : QueuePass P) (step : ClientStep) (act : Act) (q : QueuePass P) → s < 16
      → IsAct words s held p step act q → (drop queue_words (words_after words step) ≡ drop queue_words words) × (q.inner ≡ p.inner)
  act_leaves words s held p step Glances q lt a = (same_behind words step (loads next_place) 0 a.0 refl, inner_kept p q p a.1 refl)
  act_leaves words s held p step (Begins asked) q lt a = (same_behind words step _ 0 a.0 refl, ap inner_of a.2)
  act_leaves words s held p step Notes q lt a = (same_behind words step _ 0 a.2 refl, ap inner_of a.5)
  act_leaves words s held p step ReadsLo q lt a = (same_behind words step _ 0 a.3 refl, ap inner_of a.6)
  act_leaves words s held p step ReadsHi q lt a = (same_behind words step _ 0 a.3 refl, ap inner_of a.6)
  act_leaves words s held p step Judges q lt a = (same_behind words step _ 0 a.5 refl, ap inner_of a.9)
  act_leaves words s held p step WritesLo q lt a =
      (same_behind words step _ 0 a.1 (drop-set-lt queue_words words (lo_place s) a.0 (omega arith)), ap inner_of a.3)
  act_leaves words s held p step WritesHi q lt a =
      (same_behind words step _ 0 a.1 (drop-set-lt queue_words words (hi_place s) a.0 (omega arith)), ap inner_of a.3)
  act_leaves words s held p step Counts q lt a = (same_behind words step _ 0 a.0 (drop-set-lt queue_words words count_place _ (omega arith)), ap inner_of a.2)
  act_leaves words s held p step Draws q lt a = (same_behind words step _ 0 a.1 (drop-set-lt queue_words words next_place _ (omega arith)), ap inner_of a.4)
  act_leaves words s held p step Shows q lt a =
      (same_behind words step _ 0 a.3 (drop-set-lt queue_words words (ticket_place s) a.0 (omega arith)), ap inner_of a.7)
  act_leaves words s held p step Hides q lt a =
      (same_behind words step _ 0 a.1 (drop-set-lt queue_words words (ticket_place s) 0 (omega arith)), ap inner_of a.3)
  act_leaves words s held p step Uncounts q lt a =
      (same_behind words step _ 0 a.0 (drop-set-lt queue_words words count_place _ (omega arith)), ap inner_of a.2)

  -- the inner passes after one seat's pass has changed
  inner_set : (passes : List (QueuePass P)) (s : ℕ) (q : QueuePass P) → map inner_of (set passes s q) ≡ set (map inner_of passes) s q.inner
  inner_set passes s q = map-set inner_of passes s q

  inner_same : (passes : List (QueuePass P)) (s : ℕ) (p q : QueuePass P) → get_elem? passes s ≡ some p → q.inner ≡ p.inner
      → map inner_of (set passes s q) ≡ map inner_of passes
  inner_same passes s p q own e = inner_set passes s q ∙ (ap (set (map inner_of passes) s) e
      ∙ set_again (map inner_of passes) s p.inner (at_map inner_of passes s p own))

  set_far : (words : List ℕ) (passes : List (QueuePass P)) (s : ℕ) (p q : QueuePass P) (i v : ℕ) → IsQueue words passes → get_elem? passes s ≡ some p
      → q.seats ≡ p.seats → q.telling ≡ p.telling → q.own ≡ p.own → q.look ≡ p.look → q.read ≡ p.read → IsQueue (set words (queue_words + i) v) (set passes s q)
  set_far words passes s p q i v r own seats told ends look read =
      let next : slice_index (set words (queue_words + i) v) next_place ≡ slice_index words next_place =
      get_or-set_other words (queue_words + i) next_place v 0 (λ e. omega arith) in
      let count : slice_index (set words (queue_words + i) v) count_place ≡ slice_index words count_place =
      get_or-set_other words (queue_words + i) count_place v 0 (λ e. omega arith) in
      let part = r.parts s p own in
      let in_table : s < 16 = let lt = below passes s p own in let few = r.few in omega arith in
      moved words (set words (queue_words + i) v) passes s p q r own (record {
        seats = seats;
        wide = length-set words (queue_words + i) v;
        else_where = one_changed words s (queue_words + i) v (λ k lt n. ((λ e. omega arith), (λ e. omega arith), (λ e. omega arith)));
        rises = omega arith;
        last = let l = r.last in omega arith;
        count = let e : counts p ≡ counts q = ap (λ (t : Telling). if is_silent t then 0 else 1) (sym told) in omega arith;
        part = record {
          ticket = get_or-set_other words (queue_words + i) (ticket_place s) v 0 (λ e. omega arith) ∙ (part.ticket ∙ ap ticket_word (sym told));
          drawn = λ n h. let d = part.drawn n (subst (λ (t : Telling). HasTicket t n) told h) in let lt = d.1 in (d.0, omega arith);
          lo = λ w e. get_or-set_other words (queue_words + i) (lo_place s) v 0 (λ z. omega arith) ∙ part.lo w (ap (λ (x : Ends). x.lo) (sym ends) ∙ e);
          hi = λ w e. get_or-set_other words (queue_words + i) (hi_place s) v 0 (λ z. omega arith) ∙ part.hi w (ap (λ (x : Ends). x.hi) (sym ends) ∙ e);
          told = subst (λ (z : Telling × Ends). IsTold z.0 z.1) (λ i. (sym told i, sym ends i)) part.told;
        };
        read = λ by j ticket e. let old = r.reads s p own by j ticket (sym look ∙ e) in
            (old.0, old.1, λ x at. subst (λ (z : Ends). Fits ticket z x.telling x.own) (sym read) (old.2 x at));
        others = λ ticket seen low fits. subst (λ (z : Telling × Ends). Fits ticket seen z.0 z.1) (λ i. (sym told i, sym ends i)) fits;
      })

  -- a step on a word behind the queue leaves its rule
  aside : (words : List ℕ) (passes : List (QueuePass P)) (s : ℕ) (p : QueuePass P) (inner : P) (by : ClientStep) → IsQueue words passes
      → get_elem? passes s ≡ some p
      → IsQueue (words_after words (behind by))
      (set passes s (with_inner p inner))
  aside words passes s p inner (loads i) r own = loaded words passes s p (with_inner p inner)
      r own refl refl refl (r.reads s p own)
  aside words passes s p inner (stores i value) r own = set_far words passes s p
      (with_inner p inner) i value r own refl refl refl refl refl
  aside words passes s p inner (adds i by) r own = set_far words passes s p
      (with_inner p inner)
      i ((slice_index words (queue_words + i) + by) % 2 ^ 64) r own refl refl refl refl refl
  aside words passes s p inner (exchanges i expected new) r own = set_far words passes s p
      (with_inner p inner)
      i (either (slice_index words (queue_words + i) == expected) new (slice_index words (queue_words + i))) r own refl refl refl refl refl

  module _ (holds : Grants → List ℕ → List P → Type 0) where
    -- the law of gain
    pub gains_queue : ((grants : Grants) (words : List ℕ) (passes : List P) (seat : ℕ) (h : Held)
        → holds grants words passes → get_elem? grants seat ≡ some None → IsFree grants seat h → holds (slice_set grants seat (Some h)) words passes)
        → (grants : Grants) (words : List ℕ) (passes : List (QueuePass P)) (seat : ℕ) (h : Held)
        → HasQueue holds grants words passes → get_elem? grants seat ≡ some None → IsFree grants seat h
        → HasQueue holds (slice_set grants seat (Some h)) words passes
    gains_queue gains grants words passes seat h met nothing free =
        (met.0, gains grants (drop queue_words words) (map inner_of passes) seat h met.1 nothing free)

    -- the law of loss
    pub loses_queue : (rested : P → P) (is_at_rest : P → Type 0) → ((grants : Grants) (words : List ℕ) (passes : List P) (seat : ℕ) (pass : P)
        → holds grants words passes → get_elem? passes seat ≡ some pass → is_at_rest pass
        → holds (slice_set grants seat None) words (slice_set passes seat (rested pass)))
        → (grants : Grants) (words : List ℕ) (passes : List (QueuePass P)) (seat : ℕ) (pass : QueuePass P)
        → HasQueue holds grants words passes → get_elem? passes seat ≡ some pass → is_resting is_at_rest pass
        → HasQueue holds (slice_set grants seat None) words (slice_set passes seat (rested_pass rested pass))
    loses_queue rested is_at_rest loses grants words passes seat pass met own rest = (
      loaded words passes seat pass (rested_pass rested pass) met.0 own refl refl refl (λ by j ticket e. absurd cc),
      subst (λ (l : List P). holds (slice_set grants seat None) (drop queue_words words) l) (sym (inner_set passes seat (rested_pass rested pass)))
          (loses grants (drop queue_words words) (map inner_of passes) seat pass.inner met.1 (at_map inner_of passes seat pass own) rest.1),
    )

    module _ {N : Type 0} (allows : Grants → List ℕ → List P → ℕ → ClientStep → N → P → Type 0) where
      -- the law of steps
      pub keeps_queue : ((grants : Grants) (words : List ℕ) (passes : List P) (seat : ℕ) (step : ClientStep) (note : N) (after : P)
          → holds grants words passes → allows grants words passes seat step note after → holds grants (words_after words step) (slice_set passes seat after))
          → (grants : Grants) (words : List ℕ) (passes : List (QueuePass P)) (seat : ℕ) (step : ClientStep) (note : Doing N) (after : QueuePass P)
          → HasQueue holds grants words passes → IsAllowedBy allows grants words passes seat step note after
          → HasQueue holds grants (words_after words step) (slice_set passes seat after)
      keeps_queue keeps grants words passes seat step (Queue act) after met may =
          let in_table : seat < 16 = let lt = below passes seat may.0 may.1 in let few = met.0.few in omega arith in
          let left = act_leaves words seat may.2 may.0 step act after in_table may.4 in (
            act_keeps words passes seat may.2 may.0 step act after met.0 may.1 may.4,
            subst (λ (z : List ℕ × List P). holds grants z.0 z.1) (λ i. (sym left.0 i, sym (inner_same passes seat may.0 after may.1 left.1) i)) met.1,
          )
      keeps_queue keeps grants words passes seat step (Inner note) after met may =
          let p : QueuePass P = may.0 in
          let now : QueuePass P = with_inner p may.4 in
          let kept = keeps grants (drop queue_words words) (map inner_of passes) seat may.2 note may.4 met.1 may.5 in
          let here : HasQueue holds grants (words_after words (behind may.2)) (set passes seat now) = (
            aside words passes seat p may.4 may.2 met.0 may.1,
            subst (λ (z : List ℕ × List P). holds grants z.0 z.1) (λ i. (sym (behind_after words may.2) i, sym (inner_set passes seat now) i)) kept,
          ) in
          subst (λ (z : ClientStep × QueuePass P). HasQueue holds grants (words_after words z.0) (set passes seat z.1)) (λ i. (sym may.3 i, sym may.6 i)) here

  -- a rested pass is at rest
  pub stays_resting : (rested : P → P) (is_at_rest : P → Type 0) → ((pass : P) → is_at_rest pass → is_at_rest (rested pass))
      → (pass : QueuePass P) → is_resting is_at_rest pass → is_resting is_at_rest (rested_pass rested pass)
  stays_resting rested is_at_rest stays pass rest = (rest.0, stays pass.inner rest.1)
