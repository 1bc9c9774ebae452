-- Over a run each seat overtakes an announcement at most as often as its weight says, so all together at most once
-- each.
use Rattle.std.proofs.Common.{◌≡◌, ◌≢◌, ℕ, zero, suc, ◌+◌, ◌<◌, ◌≤◌, Bool, true, false, List, [], ◌∷◌, length, map, set, sym, refl, ap, ◌∙◌, subst}
use Rattle.std.proofs.Common.{arith, ⊎_elim}
use Rattle.std.specs.Prelude.{◌==◌, ◌&&◌, not, if◌then◌else◌}
use Rattle.std.proofs.lemmas.Bool.{eq-eqb, ne_eqb, cases_lt}
use mathlib.Core.Option.{some, some-injective}
use mathlib.Core.Logic.{dite}
use native.Mathlib.Decide.{ℕ_discrete}
use lib.ListN.{get_elem?}
use Rattle.atomic_table.proofs.Lists.{set_here, set_else}
use Rattle.lock_core.proofs.ByPlace.{below, there}
use Rattle.lock_core.proofs.Pigeons.{pigeons}
use Rattle.view_lists.specs.Counted.{times}
use Rattle.lock_core.specs.declared.range.Held.{Held}
use Rattle.queue_laws.specs.declared.places.Announcement.{Announcement}
use Rattle.queue_laws.specs.declared.places.Telling.{Telling}
use Rattle.queue_laws.specs.declared.places.Telling.TheVariants.{Shown}
use Rattle.queue_laws.specs.declared.steps.QueueStep.{QueueStep}
use Rattle.queue_laws.specs.Machine.{Place, Queue, IsMove, IsRun, start, told_by, tellings_in, telling_at}
use Rattle.queue_laws.specs.Laws.{IsShown, Keeps, Waits, overtakers, is_gain_against, may_overtake, OvertakesOnce, OvertakesFew}
use Rattle.queue_laws.proofs.Tickets.{HasTicket, IsSound, start_sound, move_sound, run_sound, start_many, run_many, move_many, stays_shown}
use Rattle.queue_laws.proofs.Weights.{bit, weight, falls}

-- what a seat has told stands in the list of all that was told
pub told_in : {A : Type 0} (f : A → Telling) (l : List A) (k : ℕ) (x : A) → get_elem? l k ≡ some x → telling_at (map f l) k ≡ f x
told_in f [] k x e = absurd (cc)
told_in f (y ∷ ys) zero x e = ap f (some-injective y x e)
told_in f (y ∷ ys) (suc k) x e = told_in f ys k x e

-- one more in a list of seats, where a test is met
counted : (b : Bool) (s other : ℕ) (l : List ℕ) → times other (if b then s ∷ l else l) ≡ bit (b && (s == other)) + times other l
counted true s other l = refl
counted false s other l = omega arith

bit_le : (b c : Bool) → bit (b && c) ≤ bit b
bit_le true true = omega arith
bit_le true false = omega arith
bit_le false c = omega arith

bit_and : (b c d : Bool) → bit (b && c && d) ≤ bit c
bit_and true true true = omega arith
bit_and true true false = omega arith
bit_and true false d = omega arith
bit_and false true d = omega arith
bit_and false false d = omega arith

bit_last : (b d : Bool) → d ≡ false → bit (b && d) ≡ 0
bit_last true true e = ap bit e
bit_last true false e = refl
bit_last false d e = refl

-- the seat that waits overtakes nobody
never_self : (seat : ℕ) (held : Held) (steps : List (ℕ × QueueStep)) → times seat (overtakers seat held steps) ≡ 0
never_self seat held [] = refl
never_self seat held (t ∷ ts) =
    let rest = never_self seat held ts in
    let one = counted (not (t.0 == seat) && is_gain_against held t.1) t.0 seat (overtakers seat held ts) in
    let none : bit (not (t.0 == seat) && is_gain_against held t.1 && (t.0 == seat)) ≡ 0 = both (t.0 == seat) (is_gain_against held t.1) in omega arith
  where
    both : (b g : Bool) → bit (not b && g && b) ≡ 0
    both true g = refl
    both false true = refl
    both false false = refl

-- over a run each other seat overtakes at most as often as its weight says
pub run_counts : (steps : List (ℕ × QueueStep)) (q r : Queue) (seat : ℕ) (a : Announcement) (other : ℕ) (p : Place) → IsSound q → IsShown q seat a
    → IsRun q steps r → Keeps seat steps → other ≢ seat → get_elem? q.places other ≡ some p
    → times other (overtakers seat a.held steps) ≤ weight seat a p
run_counts [] q r seat a other p sound shown goes keeps differ at = omega arith
run_counts (t ∷ ts) q r seat a other p sound shown goes keeps differ at =
    let m : Queue = goes.0 in let move : IsMove q t.0 t.1 m = goes.1 in
    let sound_m = move_sound q t.0 t.1 m move sound in
    let shown_m = stays_shown q t.0 t.1 m seat a move shown keeps.0 in
    let one = counted (not (t.0 == seat) && is_gain_against a.held t.1) t.0 other (overtakers seat a.held ts) in
    let told : telling_at (tellings_in q) seat ≡ Shown a = told_in told_by q.places seat shown.place shown.stood ∙ shown.told in
    let low : a.ticket < q.next = sound.low seat a.ticket shown.place shown.stood
    (subst (λ (x : Telling). HasTicket x a.ticket) (sym shown.told) refl) in
    dite (ℕ_discrete t.0 other)
    (λ same.
    let was : move.was ≡ p = some-injective _ _ (sym move.stood ∙ (ap (get_elem? q.places) same ∙ at)) in
    let here : get_elem? m.places other ≡ some move.now = subst (λ (l : List Place). get_elem? l other ≡ some move.now) (sym move.places)
    (subst (λ (k : ℕ). get_elem? (set q.places t.0 move.now) k ≡ some move.now) same (set_here q.places t.0 move.now
    (below q.places t.0 move.was move.stood))) in
    let rest = run_counts ts m r seat a other move.now sound_m shown_m goes.2 keeps.1 differ here in
    let none : HasTicket move.was.telling a.ticket → ⊥ = λ h. sound.apart other seat a.ticket p shown.place differ at shown.stood
    (subst (λ (x : Place). HasTicket x.telling a.ticket) was h) (subst (λ (x : Telling). HasTicket x a.ticket) (sym shown.told) refl) in
    let fall = falls seat a q.next (tellings_in q) told low move.was t.1 move.now move.line none in
    let less = bit_and (not (t.0 == seat)) (is_gain_against a.held t.1) (t.0 == other) in
    let w : weight seat a move.was ≡ weight seat a p = ap (weight seat a) was in
    omega arith)
    (λ away.
    let here : get_elem? m.places other ≡ some p = subst (λ (l : List Place). get_elem? l other ≡ some p) (sym move.places)
    (set_else q.places t.0 other move.now (λ e. away (sym e)) ∙ at) in
    let rest = run_counts ts m r seat a other p sound_m shown_m goes.2 keeps.1 differ here in
    let none = bit_last (not (t.0 == seat) && is_gain_against a.held t.1) (t.0 == other) (ne_eqb t.0 other away) in
    omega arith)

-- who overtakes has a seat
within : (steps : List (ℕ × QueueStep)) (q r : Queue) (seat : ℕ) (held : Held) (x : ℕ) → IsRun q steps r → 1 ≤ times x (overtakers seat held steps)
    → x < length q.places
within [] q r seat held x goes some_times = absurd (omega arith)
within (t ∷ ts) q r seat held x goes some_times =
    let m : Queue = goes.0 in let move : IsMove q t.0 t.1 m = goes.1 in
    let one = counted (not (t.0 == seat) && is_gain_against held t.1) t.0 x (overtakers seat held ts) in
    let many = move_many q t.0 t.1 m move in
    dite (ℕ_discrete t.0 x)
    (λ same. let lt = below q.places t.0 move.was move.stood in omega arith)
    (λ away. let none = bit_last (not (t.0 == seat) && is_gain_against held t.1) (t.0 == x) (ne_eqb t.0 x away) in
    let rest = within ts m r seat held x goes.2 (omega arith) in omega arith)

module _ (seats : ℕ) (q r : Queue) (seat : ℕ) (a : Announcement) (steps : List (ℕ × QueueStep)) (waits : Waits seats q r seat a steps) where
  sound : IsSound q
  sound = run_sound waits.before (start seats) q waits.came (start_sound seats)

  many : length q.places ≡ seats
  many = run_many waits.before (start seats) q waits.came ∙ start_many seats

  -- each seat overtakes at most as often as its weight says
  pub once : (other : ℕ) (p : Place) → get_elem? q.places other ≡ some p → times other (overtakers seat a.held steps) ≤ weight seat a p
  once other p at = dite (ℕ_discrete other seat)
      (λ same. let none = never_self seat a.held steps in let e = ap (λ (x : ℕ). times x (overtakers seat a.held steps)) same in omega arith)
      (λ differ. run_counts steps q r seat a other p sound waits.shown waits.goes waits.keeps differ at)

  at_most : (b : Bool) → bit b ≤ 1
  at_most true = omega arith
  at_most false = omega arith

  -- no seat stands twice among those that overtake and the one that waits
  pub few : length (overtakers seat a.held steps) + 1 ≤ seats
  few =
      let l : List ℕ = overtakers seat a.held steps in
      let inside : seat < seats = let lt = below q.places seat waits.shown.place waits.shown.stood in let n = many in omega arith in
      let c = pigeons 0 seats (seat ∷ l)
      (λ x. dite (ℕ_discrete seat x)
      (λ same. let none = never_self seat a.held steps in let e = ap (λ (y : ℕ). times y l) same in
      let b : bit (seat == x) ≡ 1 = ap bit (eq-eqb seat x same) in omega arith)
      (λ differ. let b : bit (seat == x) ≡ 0 = ap bit (ne_eqb seat x differ) in let o = at_most_once x in omega arith))
      (λ x some_times. dite (ℕ_discrete seat x)
      (λ same. (omega arith, omega arith))
      (λ differ. let b : bit (seat == x) ≡ 0 = ap bit (ne_eqb seat x differ) in
      let lt = within steps q r seat a.held x waits.goes (omega arith) in let n = many in (omega arith, omega arith))) in
      omega arith
    where
      at_most_once : (x : ℕ) → times x (overtakers seat a.held steps) ≤ 1
      at_most_once x = ⊎_elim
          (λ (none : times x (overtakers seat a.held steps) < 1). omega arith)
          (λ (some_times : 1 ≤ times x (overtakers seat a.held steps)).
          let lt = within steps q r seat a.held x waits.goes some_times in
          let t = there q.places x lt in
          let o = once x t.0 t.1 in let b = at_most (may_overtake seat a t.0) in omega arith)
          (cases_lt (times x (overtakers seat a.held steps)) 1)

pub overtakes_once_law : OvertakesOnce
overtakes_once_law seats q r seat a steps waits other p at = once seats q r seat a steps waits other p at

pub overtakes_few_law : OvertakesFew
overtakes_few_law seats q r seat a steps waits = few seats q r seat a steps waits
