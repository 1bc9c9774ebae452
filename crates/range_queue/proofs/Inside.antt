-- A step that the guard behind the queue allows is allowed over all words, and one that was made over all words was
-- made over that guard's.
use Rattle.std.specs.Prelude.{Option, Result, Ok, Err, MatchResult, ◌≢◌, slice_index}
use Rattle.std.proofs.Common.{◌≡◌, ℕ, ◌+◌, ◌-◌, List, length, map, drop, sym, refl, ap, ◌∙◌, subst, arith}
use Rattle.std.proofs.lemmas.List.{length-drop, get_or-drop}
use mathlib.Core.Option.{some, some-injective}
use Rattle.atomic_table.proofs.Lists.{at_map}
use Rattle.lock_core.specs.Grants.{Grants}
use Rattle.lock_core.specs.declared.range.Held.{Held}
use Rattle.lock_core.specs.Client.{ClientStep, loads, stores, adds, exchanges, place_of, Moment, IsAllowed, IsMade}
use Rattle.range_rw.specs.Contract.{SeatState}
use Rattle.queue_guard.specs.declared.passes.QueuePass.{QueuePass}
use Rattle.queue_guard.specs.declared.passes.Doing.TheVariants.{Inner}
use Rattle.queue_guard.specs.Places.{queue_words, behind}
use Rattle.queue_guard.specs.Acts.{with_inner}
use Rattle.queue_guard.specs.Rule.{HasQueue, IsAllowedBy, inner_of}

-- the place of a step behind the queue
place_behind : (by : ClientStep) → place_of (behind by) ≡ queue_words + place_of by
place_behind (loads i) = refl
place_behind (stores i value) = refl
place_behind (adds i by) = refl
place_behind (exchanges i expected new) = refl

-- a step behind the queue tells which it is
in_front : ClientStep → ClientStep
in_front (loads i) = loads (i - queue_words)
in_front (stores i value) = stores (i - queue_words) value
in_front (adds i by) = adds (i - queue_words) by
in_front (exchanges i expected new) = exchanges (i - queue_words) expected new

front_behind : (by : ClientStep) → in_front (behind by) ≡ by
unfolding in_front
front_behind (loads i) = let e : queue_words + i - queue_words ≡ i = omega arith in ap loads e
front_behind (stores i value) = let e : queue_words + i - queue_words ≡ i = omega arith in ap (λ (n : ℕ). stores n value) e
front_behind (adds i by) = let e : queue_words + i - queue_words ≡ i = omega arith in ap (λ (n : ℕ). adds n by) e
front_behind (exchanges i expected new) = let e : queue_words + i - queue_words ≡ i = omega arith in ap (λ (n : ℕ). exchanges n expected new) e

behind_same : (a b : ClientStep) → behind a ≡ behind b → a ≡ b
behind_same a b e = sym (front_behind a) ∙ (ap in_front e ∙ front_behind b)

module _ {P N : Type 0} (holds : Grants → List ℕ → List P → Type 0) (allows : Grants → List ℕ → List P → ℕ → ClientStep → N → P → Type 0) (note : N)
    (seat : ℕ) (held : Option Held) (pass : QueuePass P) where
  -- the moment as the guard behind the queue sees it
  moment_inside : (grants : Grants) (words : List ℕ) (passes : List (QueuePass P)) → Moment (HasQueue holds) seat held pass grants words passes
      → Moment holds seat held pass.inner grants (drop queue_words words) (map inner_of passes)
  moment_inside grants words passes moment = record {
    met = moment.met.1;
    exclusive = moment.exclusive;
    grant = moment.grant;
    own = at_map inner_of passes seat pass moment.own;
  }

  -- what that guard allows
  may_inside : (by : ClientStep) → IsAllowed holds allows note seat held pass.inner by
      → IsAllowed (HasQueue holds) (IsAllowedBy allows) (Inner note) seat held pass (behind by)
  may_inside by allowed grants words passes moment there small =
      let at = place_behind by in
      let word : slice_index (drop queue_words words) (place_of by) ≡ slice_index words (place_of (behind by)) =
      get_or-drop queue_words words (place_of by) 0 ∙ ap (slice_index words) (sym at) in
      let r = allowed grants (drop queue_words words) (map inner_of passes) (moment_inside grants words passes moment)
      (let l = length-drop queue_words words in omega arith) (omega arith) in
      (with_inner pass r.0, (pass, moment.own, by, refl, r.0, r.1, refl))

  -- and what was made
  made_inside : (by : ClientStep) (found : ℕ) (after : QueuePass P)
      → IsMade (HasQueue holds) (IsAllowedBy allows) (Inner note) seat held pass (behind by) found after
      → (after ≡ with_inner pass after.inner) × IsMade holds allows note seat held pass.inner by found after.inner
  made_inside by found after m =
      let grants = m.0 in let words = m.1 in let passes = m.2 in let moment = m.3 in let may = m.5 in
      let same : may.0 ≡ pass = some-injective _ _ (sym may.1 ∙ moment.own) in
      let step : may.2 ≡ by = sym (behind_same by may.2 may.3) in
      let left : after ≡ with_inner pass may.4 = may.6 ∙ ap (λ (p : QueuePass P). with_inner p may.4) same in
      let inner : may.4 ≡ after.inner = sym (ap inner_of left) in
      let at = place_behind by in (
        left ∙ ap (with_inner pass) inner,
        (
          grants,
          drop queue_words words,
          map inner_of passes,
          moment_inside grants words passes moment,
          get_or-drop queue_words words (place_of by) 0 ∙ (ap (slice_index words) (sym at) ∙ m.4),
          subst (λ (z : ClientStep × P). allows grants (drop queue_words words) (map inner_of passes) seat z.0 note z.1) (λ i. (step i, inner i)) may.5,
        ),
      )

  -- the same of an exchange, by its answer
  passes_match : {A : Type 0} (i expected new : ℕ) (r : Result A ℕ) (after : QueuePass P)
      → MatchResult r (λ _. IsMade (HasQueue holds) (IsAllowedBy allows) (Inner note) seat held pass (exchanges (queue_words + i) expected new) expected after)
      (λ found. (found ≢ expected)
      × IsMade (HasQueue holds) (IsAllowedBy allows) (Inner note) seat held pass (exchanges (queue_words + i) expected new) found after)
      → after ≡ with_inner pass after.inner
  passes_match i expected new (Ok a) after m = (made_inside (exchanges i expected new) expected after m).0
  passes_match i expected new (Err found) after m = (made_inside (exchanges i expected new) found after m.1).0

  made_match : {A : Type 0} (i expected new : ℕ) (r : Result A ℕ) (after : QueuePass P)
      → MatchResult r (λ _. IsMade (HasQueue holds) (IsAllowedBy allows) (Inner note) seat held pass (exchanges (queue_words + i) expected new) expected after)
      (λ found. (found ≢ expected)
      × IsMade (HasQueue holds) (IsAllowedBy allows) (Inner note) seat held pass (exchanges (queue_words + i) expected new) found after)
      → MatchResult r (λ _. IsMade holds allows note seat held pass.inner (exchanges i expected new) expected after.inner)
      (λ found. (found ≢ expected) × IsMade holds allows note seat held pass.inner (exchanges i expected new) found after.inner)
  made_match i expected new (Ok a) after m = (made_inside (exchanges i expected new) expected after m).1
  made_match i expected new (Err found) after m = (m.0, (made_inside (exchanges i expected new) found after m.1).1)

-- the same of a seat that is shown as another value of its state
module _ {P N : Type 0} (holds : Grants → List ℕ → List P → Type 0) (allows : Grants → List ℕ → List P → ℕ → ClientStep → N → P → Type 0) (note : N)
    (s t : SeatState (QueuePass P)) (same : s ≡ t) where
  pub seat_may : (by : ClientStep) → IsAllowed holds allows note t.number t.held t.pass.inner by
      → IsAllowed (HasQueue holds) (IsAllowedBy allows) (Inner note) s.number s.held s.pass (behind by)
  seat_may by allowed = may_inside holds allows note s.number s.held s.pass by
      (subst (λ (x : SeatState (QueuePass P)). IsAllowed holds allows note x.number x.held x.pass.inner by) (sym same) allowed)

  pub seat_made : (by : ClientStep) (found : ℕ) (after : QueuePass P)
      → IsMade (HasQueue holds) (IsAllowedBy allows) (Inner note) s.number s.held s.pass (behind by) found after
      → (after ≡ with_inner t.pass after.inner) × IsMade holds allows note t.number t.held t.pass.inner by found after.inner
  seat_made by found after m =
      subst (λ (x : SeatState (QueuePass P)). (after ≡ with_inner x.pass after.inner)
      × IsMade holds allows note x.number x.held x.pass.inner by found after.inner) same (made_inside holds allows note s.number s.held s.pass by found after m)

  pub seat_exchanged : {A : Type 0} (i expected new : ℕ) (r : Result A ℕ) (after : QueuePass P)
      → MatchResult r (λ _. IsMade (HasQueue holds) (IsAllowedBy allows) (Inner note) s.number s.held s.pass
      (exchanges (queue_words + i) expected new) expected after)
      (λ found. (found ≢ expected)
      × IsMade (HasQueue holds) (IsAllowedBy allows) (Inner note) s.number s.held s.pass (exchanges (queue_words + i) expected new) found after)
      → (after ≡ with_inner t.pass after.inner)
      × MatchResult r (λ _. IsMade holds allows note t.number t.held t.pass.inner (exchanges i expected new) expected after.inner)
      (λ found. (found ≢ expected) × IsMade holds allows note t.number t.held t.pass.inner (exchanges i expected new) found after.inner)
  seat_exchanged i expected new r after m =
      subst (λ (x : SeatState (QueuePass P)). (after ≡ with_inner x.pass after.inner)
      × MatchResult r (λ _. IsMade holds allows note x.number x.held x.pass.inner (exchanges i expected new) expected after.inner)
      (λ found. (found ≢ expected) × IsMade holds allows note x.number x.held x.pass.inner (exchanges i expected new) found after.inner)) same (
        passes_match holds allows note s.number s.held s.pass i expected new r after m,
        made_match holds allows note s.number s.held s.pass i expected new r after m,
      )
