-- Calls of a try one after another: what each leaves is carried through the next, and so is the cause of a refusal.
use Rattle.std.proofs.Common.{◌≡◌, ◌↔◌, ℕ, ◌+◌, ◌*◌, ◌%◌, ◌≤◌, Bool, true, false, [], refl, sym, ap, ◌∙◌, arith}
use Rattle.std.specs.Prelude.{Option, None}
use Rattle.lock_core.specs.declared.range.Held.{Held}
use Rattle.lock_core.specs.declared.views.Own.{Own}
use Rattle.lock_core.specs.declared.steps.Step.{Step}
use Rattle.lock_core.specs.declared.steps.Step.TheVariants.{Unlink, Settle}
use Rattle.lock_core.specs.Machine.{held_at}
use Rattle.epoch_pools.specs.declared.views.SeatPart.{SeatPart}
use Rattle.epoch_pools.proofs.Stepping.{occupied_on}
use Rattle.marked_list.specs.declared.answers.Walked.{Walked}
use Rattle.marked_list.specs.declared.answers.Walked.TheVariants.{Place, Conflict, Lost, Long}
use Rattle.marked_list.specs.Order.{IsInside}
use Rattle.marked_list.specs.Leaves.{IsCall, IsLaterInWalk, IsSameLook, IsNewWalk}
use Rattle.marked_list.specs.Causes.{asked_of, IsLost, IsWalkLoss, IsSpent}
use Rattle.marked_list.specs.Answers.{Answers, IsLong}
use Rattle.range_rw.specs.Contract.{RefusesTry}
use Rattle.range_rw.specs.Trying.{Comes, has_come, IsLaterInTry, IsLaterInEpoch, Refuses}

-- ---- calls

-- two calls of a try after each other are one
pub later_on : {P : Type 0} (p q r : SeatPart P) → IsLaterInTry p q → IsLaterInTry q r → IsLaterInTry p r
later_on p q r a b = record {
  number = b.number ∙ a.number;
  seats = b.seats ∙ a.seats;
  pass = b.pass ∙ a.pass;
  client = b.client ∙ a.client;
  occupied = occupied_on p.trace q.trace r.trace a.occupied b.occupied;
  taken = let x = a.taken in let y = b.taken in omega arith;
}

-- a call of so many steps
pub call_later : {P : Type 0} {n : ℕ} (p q : SeatPart P) → IsCall n p q → IsLaterInTry p q
call_later p q x = record {
  number = x.number;
  seats = x.seats;
  pass = x.pass;
  client = x.client;
  occupied = x.occupied;
  taken = let t = x.taken in omega arith;
}

-- so are two calls of so many steps
pub calls_later : {P : Type 0} {a b : ℕ} (p q r : SeatPart P) → IsCall a p q → IsCall b q r → IsLaterInTry p r
calls_later p q r x y = later_on p q r (call_later p q x) (call_later q r y)

-- two calls in one epoch after each other are one
pub still_on : {P : Type 0} (p q r : SeatPart P) → IsLaterInEpoch p q → IsLaterInEpoch q r → IsLaterInEpoch p r
still_on p q r a b =
    record { later = later_on p q r a.later b.later; epoch = b.epoch ∙ a.epoch; hand = b.hand; ready = b.ready ∙ a.ready; asked = b.asked ∙ a.asked }

-- a call that walks stays in its epoch
pub walk_still : {P : Type 0} (p q : SeatPart P) → IsLaterInWalk p q → IsLaterInEpoch p q
walk_still p q on = record {
  later = record { number = on.number; seats = on.seats; pass = on.pass; client = on.client; occupied = ([], on.occupied); taken = on.taken };
  epoch = on.epoch;
  hand = on.hand;
  ready = on.pools.ready;
  asked = on.asked;
}

-- such a call leaves a hand inside that was inside
pub inside_still : {P : Type 0} (p q : SeatPart P) → IsInside p.core → IsLaterInEpoch p q → IsInside q.core
inside_still p q in_epoch s = record { odd = ap (λ n. n % 2) s.epoch ∙ in_epoch.odd; hand = s.hand }

-- ---- whether a walk came to its end

pub come_held : {Held Refused : Type 0} {c : Bool} → c ≡ true → Held → Comes c Held Refused
come_held came x = record { held = λ _. x; refused = λ isnt. absurd (let e : ◌≡◌ {A = Bool} true false = sym came ∙ isnt in cc) }

pub come_refused : {Held Refused : Type 0} {c : Bool} → c ≡ false → Refused → Comes c Held Refused
come_refused isnt x = record { held = λ came. absurd (let e : ◌≡◌ {A = Bool} true false = sym came ∙ isnt in cc); refused = λ _. x }

pub come_any : {Held Refused Any : Type 0} (c : Bool) → Comes c Held Refused → (Held → Any) → (Refused → Any) → Any
come_any true x f g = f (x.held refl)
come_any false x f g = g (x.refused refl)

-- ---- causes

-- what is so of an answer stays so while the record keeps its node, its exchange and its walk
pub record Keeps {P : Type 0} (p q : SeatPart P) : Type 0 where
  -- the hand is of the same seat
  pub number : q.number ≡ p.number
  -- of as many seats
  pub seats : q.seats ≡ p.seats
  -- steps may have been made
  pub taken : p.trace.taken ≤ q.trace.taken
  -- the hand is turned to the same list
  pub list : q.trace.list ≡ p.trace.list
  -- the node that was met last stays
  pub met : q.trace.met ≡ p.trace.met
  -- the exchange that was lost last stays
  pub lost : q.trace.lost ≡ p.trace.lost
  -- the walk has looked at no more nodes
  pub look : IsSameLook p q

new_after : {P : Type 0} (first : ℕ) (p q : SeatPart P) → IsSameLook p q → q.trace.list ≡ p.trace.list → p.trace.taken ≤ q.trace.taken
    → IsNewWalk first p → IsNewWalk first q
new_after first p q look list le new = let m = look.1 new.0 new.1 in let s = m.2 in let f = new.2 in let b = new.3 in
    (m.0, m.1, omega arith, omega arith, m.3 ∙ (new.4 ∙ sym list))

-- what the record keeps is kept where nothing was done
pub keeps_all : {P : Type 0} (p : SeatPart P) → Keeps p p
keeps_all p = record { number = refl; seats = refl; taken = omega arith; list = refl; met = refl; lost = refl; look = (refl, λ l is. (l, is, refl, refl)) }

-- an exchange that was lost in a later call of the try, and that the record keeps, is one of the try, of a wider kind
pub lost_on : {P : Type 0} {first later : ℕ} {p q : SeatPart P} {Kind Wide : Step → Type 0} {place expected found : ℕ} → Keeps p q
    → IsLost later p Kind place expected found → ((s : Step) → Kind s → Wide s) → first ≤ later → IsLost first q Wide place expected found
lost_on k l wide le = record {
  lost = l.lost;
  is = k.lost ∙ l.is;
  kind = wide l.lost.kind l.kind;
  from = let f = l.from in omega arith;
  below = let b = l.below in let t = k.taken in omega arith;
  listed = l.listed ∙ sym k.list;
  placed = l.placed;
  wanted = l.wanted;
  had = l.had;
  differ = l.differ;
}

-- an answer whose cause is in a later call of the try, and that the record keeps, refuses the try
pub refuses_on : {P : Type 0} (first later : ℕ) (asked now : Option Held) (p q : SeatPart P) (a : Walked) → first ≤ later → now ≡ asked → Keeps p q
    → Refuses later now p a → Refuses first asked q a
refuses_on first later asked now p q Place le same k x = x
refuses_on first later asked now p q (Conflict owner range mode) le same k x = record {
  met = x.met;
  is = k.met ∙ x.is;
  from = let f = x.from in omega arith;
  below = let b = x.below in let t = k.taken in omega arith;
  listed = x.listed ∙ sym k.list;
  owned = x.owned;
  holds = x.holds;
  other = λ e. x.other (e ∙ k.number);
  wants = x.wants;
  asks = sym same ∙ x.asks;
  conflicts = x.conflicts;
}
refuses_on first later asked now p q (Lost l) le same k x = lost_on k x (λ s kind. kind) le
refuses_on first later asked now p q (Long visits) le same k x = let new = new_after later p q k.look k.list k.taken x.1 in
    (x.0 ∙ ap (λ n. 16 * n + 1) (sym k.seats), (new.0, new.1, (let f = new.2 in omega arith), new.3, new.4))

-- an exchange of a walk is one whose loss refuses a try
pub walk_loss : (s : Step) → IsWalkLoss s → RefusesTry s
walk_loss Unlink k = k
walk_loss Settle k = k
walk_loss _ k = absurd k

-- an answer of a walk or a validation that isn't its end
pub walk_refuses : {P : Type 0} (first : ℕ) (own : Own) (q : SeatPart P) (a : Walked) → has_come a ≡ false → Answers first own q a
    → IsNewWalk first q → (q.core.own ≡ own) × Refuses first (asked_of own) q a
walk_refuses first own q Place isnt x new = absurd (let e : ◌≡◌ {A = Bool} true false = isnt in cc)
walk_refuses first own q (Conflict owner range mode) isnt x new = (
  x.1,
  record {
    met = x.0.met;
    is = x.0.is;
    from = x.0.from;
    below = x.0.below;
    listed = x.0.listed;
    owned = x.0.owned;
    holds = x.0.holds;
    other = x.0.other;
    wants = x.0.asked;
    asks = ap asked_of (sym x.1) ∙ x.0.asks;
    conflicts = x.0.conflicts;
  },
)
walk_refuses first own q (Lost l) isnt x new = (x.1, lost_on (keeps_all q) x.0 walk_loss (omega arith))
walk_refuses first own q (Long visits) isnt x new = (x.1, (x.0, new))

-- it leaves the own node
pub answer_stays : {P : Type 0} (first : ℕ) (own : Own) (q : SeatPart P) (a : Walked) → has_come a ≡ false → Answers first own q a → q.core.own ≡ own
answer_stays first own q Place isnt x = absurd (let e : ◌≡◌ {A = Bool} true false = isnt in cc)
answer_stays first own q _ isnt x = x.1

-- a walk that is spent after a call that looks at no more nodes was spent before it
pub spent_look : {P : Type 0} (p q : SeatPart P) → IsSameLook p q → q.seats ≡ p.seats → held_at p.core.own ≡ None → IsSpent q → IsSpent p
spent_look p q look seats free s = (sym look.0 ∙ (s.0 ∙ ap (λ n. 16 * n + 1) seats), free)

-- and the other way round
look_spent : {P : Type 0} (p q : SeatPart P) → IsSameLook p q → q.seats ≡ p.seats → held_at q.core.own ≡ None → IsSpent p → IsSpent q
look_spent p q look seats free s = (look.0 ∙ (s.0 ∙ ap (λ n. 16 * n + 1) (sym seats)), free)

-- Long still comes exactly where the walk is spent, after a call that looks at no more nodes
pub long_after : {P : Type 0} (p q : SeatPart P) (a : Walked) → IsSameLook p q → q.seats ≡ p.seats → held_at p.core.own ≡ None
    → held_at q.core.own ≡ None → (IsLong a ↔ IsSpent p) → (IsLong a ↔ IsSpent q)
long_after p q a look seats before now long = (λ l. look_spent p q look seats now (long.0 l), λ s. long.1 (spent_look p q look seats before s))
