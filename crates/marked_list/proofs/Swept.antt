-- A sweep: the walk is one without an own node, between the two steps of the epoch.
use Rattle.std.proofs.Common.{◌≡◌, ◌↔◌, ◌+◌, ◌*◌, ◌≤◌, ◌<◌, sym, ap, ◌∙◌, subst, arith}
use Rattle.std.specs.Prelude.{Option, Some, None}
use Rattle.lock_core.specs.declared.range.Held.{Held}
use Rattle.lock_core.specs.declared.views.Own.{Own}
use Rattle.lock_core.specs.declared.views.Own.TheVariants.{Nothing}
use Rattle.lock_core.specs.declared.steps.Step.TheVariants.{Enter, Leave}
use Rattle.lock_core.specs.Views.{entered, left, kept_own, ready_left}
use Rattle.lock_core.specs.Machine.{held_at}
use Rattle.epoch_pools.specs.declared.views.SeatPart.{SeatPart}
use Rattle.epoch_pools.specs.Record.{is_judging, gained_by}
use Rattle.epoch_pools.specs.Hands.{IsHandView, quiet_after}
use Rattle.marked_list.specs.declared.answers.Walked.{Walked}
use Rattle.marked_list.specs.declared.answers.Walked.TheVariants.{Place, Conflict, Lost, Long}
use Rattle.marked_list.specs.Order.{OwnMayWalk, IsOutside, IsInside, MaySweep}
use Rattle.marked_list.specs.Leaves.{IsLaterInWalk, IsNewWalk, IsSwept}
use Rattle.marked_list.specs.Causes.{IsSpent, IsBoundedWalk, nodes_in, asked_of}
use Rattle.marked_list.specs.Answers.{Answers, IsLong, Sweeps}
use Rattle.marked_list.specs.Walking.{MayBeginWalk}
use Rattle.marked_list.proofs.Unlinking.{gone_looked}

module _ {P : Type 0} (p : SeatPart P) {e : SeatPart P} (may : MaySweep p.core) (entering : e ≡ quiet_after p Enter (entered p.core)) where
  own_in : e.core.own ≡ Nothing
  own_in = ap (λ (x : SeatPart P). x.core.own) entering ∙ may.own

  -- a hand that entered its epoch without an own node may begin a walk
  pub may_begin : IsInside e.core → MayBeginWalk e.core
  may_begin inside = record { inside = inside; own = subst OwnMayWalk (sym own_in) tt; cursor = ap (λ (x : SeatPart P). x.core.cursor) entering }

-- a sweep's parts: what the hand was, inside its epoch, behind the walk, and outside again; and what the walk answered
pub record Sweeping {P : Type 0} (p e q r : SeatPart P) (a : Walked) : Type 0 where
  pub may : MaySweep p.core
  pub entering : e ≡ quiet_after p Enter (entered p.core)
  pub on : IsLaterInWalk e q
  pub answer : Answers e.trace.taken e.core.own q a
  pub leaving : r ≡ quiet_after q Leave (left q.core)

module _ {P : Type 0} {p e q r : SeatPart P} {a : Walked} (s : Sweeping p e q r a) where
  bare : Answers e.trace.taken Nothing q a
  bare = subst (λ (o : Own). Answers e.trace.taken o q a) (own_in p s.may s.entering) s.answer

  own_out : q.core.own ≡ Nothing
  own_out = by_answer a bare
    where
      by_answer : (b : Walked) → Answers e.trace.taken Nothing q b → q.core.own ≡ Nothing
      by_answer Place x = x.0
      by_answer (Conflict owner range mode) x = x.1
      by_answer (Lost l) x = x.1
      by_answer (Long visits) x = x.1

  looked_out : r.trace.looked ≡ q.trace.looked
  looked_out = ap (λ (x : SeatPart P). x.trace.looked) s.leaving ∙ gone_looked q.trace q.core.cursor (is_judging Leave) (gained_by q.core (left q.core))

  taken_in : p.trace.taken ≤ e.trace.taken
  taken_in = let t = ap (λ (x : SeatPart P). x.trace.taken) s.entering in omega arith

  taken_out : q.trace.taken ≤ r.trace.taken
  taken_out = let t = ap (λ (x : SeatPart P). x.trace.taken) s.leaving in omega arith

  list_out : r.trace.list ≡ q.trace.list
  list_out = ap (λ (x : SeatPart P). x.trace.list) s.leaving

  seats_out : r.seats ≡ q.seats
  seats_out = ap (λ (x : SeatPart P). x.seats) s.leaving

  held_out : held_at r.core.own ≡ None
  held_out = ap (λ (x : SeatPart P). held_at x.core.own) s.leaving ∙ ap (λ (o : Own). held_at (kept_own o)) own_out

  spent_out : IsSpent q → IsSpent r
  spent_out t = (ap nodes_in looked_out ∙ (t.0 ∙ ap (λ n. 16 * n + 1) (sym seats_out)), held_out)

  spent_back : IsSpent r → IsSpent q
  spent_back t = (ap nodes_in (sym looked_out) ∙ (t.0 ∙ ap (λ n. 16 * n + 1) seats_out), ap held_at own_out)

  -- Long comes exactly where the walk is spent, also behind the leaving
  pub swept_long : IsLong a ↔ IsSpent q → IsLong a ↔ IsSpent r
  swept_long both = ((λ l. spent_out (both.0 l)), (λ t. both.1 (spent_back t)))

  -- it has looked at no more nodes than a walk may
  pub swept_bounded : IsBoundedWalk q → IsBoundedWalk r
  swept_bounded le = let n = ap nodes_in looked_out in let m = seats_out in omega arith

  -- the walk was begun in the call
  pub swept_walk : IsNewWalk e.trace.taken q → IsNewWalk p.trace.taken r
  swept_walk new = let f = new.2 in let b = new.3 in let i = taken_in in let o = taken_out in
      (new.0, looked_out ∙ new.1, omega arith, omega arith, new.4 ∙ sym list_out)

  -- the answer of the walk is that of the sweep
  pub swept_answer : IsHandView q → Sweeps p.trace.taken r a
  swept_answer view = by_answer a bare
    where
      by_answer : (b : Walked) → Answers e.trace.taken Nothing q b → Sweeps p.trace.taken r b
      by_answer Place x = let l = view.looked x.1.0 x.1.1 in (l.0, looked_out ∙ l.1, l.3 x.1.2)
      by_answer (Conflict owner range mode) x = let asks = x.0.asks in let own = ap asked_of own_out in
          absurd (let n : ◌≡◌ {A = Option Held} None (Some x.0.asked) = sym own ∙ asks in cc)
      by_answer (Lost l) x = let m = x.0 in let from : p.trace.taken ≤ m.lost.step = (let f = m.from in let i = taken_in in omega arith) in
          let below : m.lost.step < r.trace.taken = (let b = m.below in let o = taken_out in omega arith) in
          let is = ap (λ (z : SeatPart P). z.trace.lost) s.leaving ∙ m.is in let list = m.listed ∙ sym list_out in search (is, list, m)
      by_answer (Long visits) x = (x.0 ∙ ap (λ n. 16 * n + 1) (sym seats_out), spent_out x.2)

  -- the sweep leaves the hand outside, with the pools that it had
  pub swept_is : IsOutside r.core → IsSwept p r
  swept_is outside = let walk : IsLaterInWalk (quiet_after p Enter (entered p.core)) q = subst (λ (x : SeatPart P). IsLaterInWalk x q) s.entering s.on in
      subst (λ (x : SeatPart P). IsOutside x.core → IsSwept p x) (sym s.leaving)
      (λ out. assumption (walk, ap (λ (o : Own). ready_left o q.core.ready) own_out ∙ walk.pools.ready, ap kept_own own_out)) outside
