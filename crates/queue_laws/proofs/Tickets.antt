-- No two seats have one ticket, and each ticket is below the next one. An announcement stands until its seat takes it
-- back.
use Rattle.std.proofs.Common.{◌≡◌, ◌≢◌, ℕ, ◌+◌, ◌<◌, ◌≤◌, false, List, [], ◌∷◌, length, set, sym, refl, ap, ◌∙◌, subst, arith, ◌⊎◌, inl, inr, ⊎_elim}
use Rattle.std.proofs.Common.{length-set}
use Rattle.std.specs.Prelude.{None, ◌==◌, ◌&&◌}
use Rattle.std.proofs.lemmas.Bool.{true≢false}
use Rattle.std.proofs.lemmas.List.{length-replicate}
use mathlib.Core.Option.{some, some-injective}
use mathlib.Core.Logic.{dite}
use native.Mathlib.Decide.{ℕ_discrete}
use lib.ListN.{get_elem?}
use Rattle.atomic_table.proofs.Lists.{at_set, set_here, set_else}
use Rattle.lock_core.proofs.ByPlace.{below, at_replicate}
use Rattle.queue_laws.specs.declared.places.Announcement.{Announcement}
use Rattle.queue_laws.specs.declared.places.Telling.{Telling}
use Rattle.queue_laws.specs.declared.places.Telling.TheVariants.{Silent, Counted, Drawn, Shown}
use Rattle.queue_laws.specs.declared.places.Look.TheVariants.{Idle}
use Rattle.queue_laws.specs.declared.steps.QueueStep.{QueueStep}
use Rattle.queue_laws.specs.declared.steps.QueueStep.TheVariants.{Count, Draw, Show, Hide, Uncount, Begin, Note, Judge, Gain, Give}
use Rattle.queue_laws.specs.Machine.{Place, Queue, IsLine, IsMove, IsRun, start, next_after, told_by, tellings_in}
use Rattle.queue_laws.specs.Laws.{IsShown, is_hide}

-- a seat has this ticket
abbrev pub HasTicket : Telling → ℕ → Type 0
HasTicket Silent n = ⊥
HasTicket Counted n = ⊥
HasTicket (Drawn t) n = t ≡ n
HasTicket (Shown a) n = a.ticket ≡ n

-- tickets are below the next one, and no two seats have the same
pub record IsSound (q : Queue) : Type 0 where
  pub low : (k n : ℕ) (p : Place) → get_elem? q.places k ≡ some p → HasTicket p.telling n → n < q.next
  pub apart : (j k n : ℕ) (p r : Place) → j ≢ k → get_elem? q.places j ≡ some p → get_elem? q.places k ≡ some r
      → HasTicket p.telling n → HasTicket r.telling n → ⊥

-- a ticket that a seat has after a step it had before, or it was the next one
pub ticket_from : (next : ℕ) (tellings : List Telling) (p : Place) (step : QueueStep) (now : Place) → IsLine next tellings p step now
    → (n : ℕ) → HasTicket now.telling n → HasTicket p.telling n ⊎ ((n ≡ next) × (next_after next step ≡ next + 1))
ticket_from next tellings p Count now line n h = absurd (subst (λ (t : Telling). HasTicket t n) (ap told_by line.1) h)
ticket_from next tellings p Draw now line n h = inr (sym (subst (λ (t : Telling). HasTicket t n) (ap told_by line.1) h), refl)
ticket_from next tellings p (Show held) now line n h =
    inl (subst (λ (t : Telling). HasTicket t n) (sym line.1) (subst (λ (t : Telling). HasTicket t n) (ap told_by line.2) h))
ticket_from next tellings p Hide now line n h = absurd (subst (λ (t : Telling). HasTicket t n) (ap told_by line.2) h)
ticket_from next tellings p Uncount now line n h = absurd (subst (λ (t : Telling). HasTicket t n) (ap told_by line.1) h)
ticket_from next tellings p (Begin asked) now line n h = inl (subst (λ (t : Telling). HasTicket t n) (ap told_by line.1) h)
ticket_from next tellings p Note now line n h = inl (subst (λ (t : Telling). HasTicket t n) (ap told_by line.3) h)
ticket_from next tellings p Judge now line n h = inl (subst (λ (t : Telling). HasTicket t n) (ap told_by line.4) h)
ticket_from next tellings p (Gain held) now line n h = inl (subst (λ (t : Telling). HasTicket t n) (ap told_by line.2) h)
ticket_from next tellings p Give now line n h = inl (subst (λ (t : Telling). HasTicket t n) (ap told_by line.3) h)

-- the next ticket never falls
next_rises : (next : ℕ) (step : QueueStep) → next ≤ next_after next step
next_rises next Count = omega arith
next_rises next Draw = omega arith
next_rises next (Show held) = omega arith
next_rises next Hide = omega arith
next_rises next Uncount = omega arith
next_rises next (Begin asked) = omega arith
next_rises next Note = omega arith
next_rises next Judge = omega arith
next_rises next (Gain held) = omega arith
next_rises next Give = omega arith

-- before any step nobody has a ticket
pub start_sound : (seats : ℕ) → IsSound (start seats)
start_sound seats =
    let none : (k n : ℕ) (p : Place) → get_elem? (start seats).places k ≡ some p → HasTicket p.telling n → ⊥ = λ k n p at h.
    let same = at_replicate seats (record { telling = Silent; look = Idle; held = None }) p k at in
    subst (λ (x : Place). HasTicket x.telling n) (sym same) h in
    record {
      low = λ k n p at h. absurd (none k n p at h);
      apart = λ j k n p r differ at_j at_k h g. none j n p at_j h;
    }

-- each step keeps this
pub move_sound : (q : Queue) (s : ℕ) (step : QueueStep) (m : Queue) → IsMove q s step m → IsSound q → IsSound m
move_sound q s step m move sound =
    let tells = ticket_from q.next (tellings_in q) move.was step move.now move.line in
    let rises = next_rises q.next step in
    let next = move.next in
    let place : (k : ℕ) (p : Place) → get_elem? m.places k ≡ some p → ((k ≡ s) × (move.now ≡ p)) ⊎ ((k ≢ s) × (get_elem? q.places k ≡ some p)) =
    λ k p at. at_set q.places s k move.now p (subst (λ (l : List Place). get_elem? l k ≡ some p) move.places at) in
    let alone : (k n : ℕ) (r : Place) → k ≢ s → get_elem? q.places k ≡ some r → HasTicket move.now.telling n → HasTicket r.telling n → ⊥ =
    λ k n r differ at_k h g. ⊎_elim (λ old. sound.apart s k n move.was r (λ e. differ (sym e)) move.stood at_k old g)
    (λ new. let low = sound.low k n r at_k g in let is = new.0 in absurd (omega arith)) (tells n h) in
    record {
      low = λ k n p at h. ⊎_elim
          (λ here. ⊎_elim (λ old. let low = sound.low s n move.was move.stood old in omega arith)
          (λ new. let is = new.0 in let one = new.1 in omega arith) (tells n (subst (λ (x : Place). HasTicket x.telling n) (sym here.1) h)))
          (λ away. let low = sound.low k n p away.1 h in omega arith) (place k p at);
      apart = λ j k n p r differ at_j at_k h g. ⊎_elim
          (λ here. ⊎_elim (λ both. differ (here.0 ∙ sym both.0))
          (λ away. alone k n r away.0 away.1 (subst (λ (x : Place). HasTicket x.telling n) (sym here.1) h) g) (place k r at_k))
          (λ away. ⊎_elim (λ there. alone j n p away.0 away.1 (subst (λ (x : Place). HasTicket x.telling n) (sym there.1) g) h)
          (λ other. sound.apart j k n p r differ away.1 other.1 h g) (place k r at_k)) (place j p at_j);
    }

-- so it holds after a run
pub run_sound : (steps : List (ℕ × QueueStep)) (q r : Queue) → IsRun q steps r → IsSound q → IsSound r
run_sound [] q r e sound = subst IsSound e sound
run_sound (t ∷ ts) q r goes sound = run_sound ts goes.0 r goes.2 (move_sound q t.0 t.1 goes.0 goes.1 sound)

-- there are as many seats as before
pub move_many : (q : Queue) (s : ℕ) (step : QueueStep) (m : Queue) → IsMove q s step m → length m.places ≡ length q.places
move_many q s step m move = ap (λ (l : List Place). length l) move.places ∙ length-set q.places s move.now

-- the same of a run
pub run_many : (steps : List (ℕ × QueueStep)) (q r : Queue) → IsRun q steps r → length r.places ≡ length q.places
run_many [] q r e = ap (λ (x : Queue). length x.places) (sym e)
run_many (t ∷ ts) q r goes = run_many ts goes.0 r goes.2 ∙ move_many q t.0 t.1 goes.0 goes.1

-- so many seats begin
pub start_many : (seats : ℕ) → length (start seats).places ≡ seats
start_many seats = length-replicate seats (record { telling = Silent; look = Idle; held = None })

-- a seat whose announcement stands has it after any step but one that takes it back
kept : (next : ℕ) (tellings : List Telling) (p : Place) (step : QueueStep) (now : Place) (a : Announcement) → IsLine next tellings p step now
    → p.telling ≡ Shown a → is_hide step ≡ false → now.telling ≡ Shown a
kept next tellings p Count now a line is stays = let never : Silent ≡ Shown a = sym line.0 ∙ is in absurd cc
kept next tellings p Draw now a line is stays = let never : Counted ≡ Shown a = sym line.0 ∙ is in absurd cc
kept next tellings p (Show held) now a line is stays = let never : Drawn line.0 ≡ Shown a = sym line.1 ∙ is in absurd cc
kept next tellings p Hide now a line is stays = absurd (true≢false stays)
kept next tellings p Uncount now a line is stays = let never : Counted ≡ Shown a = sym line.0 ∙ is in absurd cc
kept next tellings p (Begin asked) now a line is stays = ap told_by line.1 ∙ is
kept next tellings p Note now a line is stays = ap told_by line.3 ∙ is
kept next tellings p Judge now a line is stays = ap told_by line.4 ∙ is
kept next tellings p (Gain held) now a line is stays = ap told_by line.2 ∙ is
kept next tellings p Give now a line is stays = ap told_by line.3 ∙ is

-- the announcement of a seat stands after a step that doesn't take it back
pub stays_shown : (q : Queue) (s : ℕ) (step : QueueStep) (m : Queue) (seat : ℕ) (a : Announcement) → IsMove q s step m → IsShown q seat a
    → ((s == seat) && is_hide step) ≡ false → IsShown m seat a
stays_shown q s step m seat a move shown stays = dite (ℕ_discrete s seat)
    (λ same. record {
      place = move.now;
      stood = subst (λ (l : List Place). get_elem? l seat ≡ some move.now) (sym move.places)
          (subst (λ (k : ℕ). get_elem? (set q.places s move.now) k ≡ some move.now) same
          (set_here q.places s move.now (below q.places s move.was move.stood)));
      told = kept q.next (tellings_in q) move.was step move.now a move.line
          (ap told_by (some-injective _ _ (sym move.stood ∙ (ap (get_elem? q.places) same ∙ shown.stood))) ∙ shown.told) (no_hide same);
    })
    (λ differ. record {
      place = shown.place;
      stood = subst (λ (l : List Place). get_elem? l seat ≡ some shown.place) (sym move.places)
          (set_else q.places s seat move.now (λ e. differ (sym e)) ∙ shown.stood);
      told = shown.told;
    })
  where
    no_hide : s ≡ seat → is_hide step ≡ false
    no_hide same = grind (arith, stays, same)
