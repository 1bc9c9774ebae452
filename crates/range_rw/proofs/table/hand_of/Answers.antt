use Rattle.std.proofs.Common.{rules, refl, sym, ap, ◌∙◌, subst, arith}
use mathlib.Core.Logic.{dite}
use native.Mathlib.Decide.{ℕ_discrete}
use Rattle.lock_core.specs.declared.views.View.{View}
use Rattle.epoch_pools.specs.declared.views.SeatPart.{SeatPart}
use Rattle.epoch_pools.specs.declared.views.Beside.{Beside}
use Rattle.epoch_pools.specs.Hands.{IsIdle}
use Rattle.range_rw.specs.Contract.{SeatState}
use Rattle.range_rw.proofs.Pieces.{own_at}
use Rattle.range_rw.proofs.Seated.{seat_left}
use Rattle.range_rw.proofs.table.hand_of.Goals as goal

-- the hand has no node of its own, and none in its hand
-- so it has none in any list
pub all-init : goal.all-init
all-init g c =
    let l = c.leave_and_count-lists.ensures.left.is in
    record {
      table = refl;
      number = refl;
      pass = refl;
      lists = (l.lists.shown, l.lists.many);
      most = omega arith;
      free = (seat_left c.seat.inside.hand c.seat.view_is c.seat.invariant c.requires.free l).free;
      rests = l.rests;
      idle = λ j less. absurd (omega arith);
    }

-- the list to which the hand was just turned is idle too
pub all-preserved : goal.all-preserved
all-preserved g c =
    let i = c.all.invariant in
    let is = c.turn.ensures.part in
    let there = ap (λ (x : SeatPart _). x.pass.list) is in
    record {
      table = c.turn.ensures.table ∙ i.table;
      number = ap (λ (x : SeatPart _). x.number) is ∙ i.number;
      pass = ap (λ (x : SeatPart _). x.pass.pass) is ∙ i.pass;
      lists = (i.lists.0 ∙ sym (ap (λ (x : SeatPart _). x.pass.lists) is), i.lists.1);
      most = search rules;
      free = λ j. ap (λ (v : View). v.own) (c.turn.ensures.stays j) ∙ i.free j;
      rests = c.turn.ensures.rests;
      idle = λ j less. dite (ℕ_discrete j c.all.at)
          (λ e. subst IsIdle (sym (own_at c.turn.new.self.part j (there ∙ sym e)))
          (record {
            outside = c.turn.ensures.rests.outside;
            own = ap (λ (v : View). v.own) (sym (own_at c.turn.new.self.part c.all.at there) ∙ c.turn.ensures.stays c.all.at) ∙ i.free c.all.at;
            hand = c.turn.ensures.rests.hand;
          }))
          (λ before. subst IsIdle (sym (c.turn.ensures.stays j)) (i.idle j (omega arith)));
    }

-- it is of the same seat, and idle where it is turned
pub returns-clause-hand : goal.returns-clause-hand
returns-clause-hand g c =
    let i = c.all.invariant in let l = c.leave_and_count-lists.ensures.left.is in let q = c.all.hand.part in (
      i.table ∙ (c.leave_and_count-lists.ensures.left.counted.table ∙ ap (λ (s : SeatState _). s.table) c.seat.view_is),
      i.number ∙ (l.left.later.number ∙ ap (λ (s : SeatState _). s.number) c.seat.view_is),
      i.pass ∙ (ap (λ (b : Beside _). b.pass) l.left.later.pass ∙ ap (λ (s : SeatState _). s.pass) c.seat.view_is),
      record {
        outside = i.rests.outside;
        own = ap (λ (v : View). v.own) (sym (own_at q q.pass.list refl)) ∙ i.free q.pass.list;
        hand = i.rests.hand;
      },
    )

-- so it is idle in every list
pub returns-clause-others : goal.returns-clause-others
returns-clause-others g c = λ j less. c.all.invariant.idle j (let m = c.all.invariant.most in let n = c.all.invariant.lists.1 in omega arith)
