use Rattle.std.proofs.Common.{◌≡◌, ◌+◌, ◌<◌, ap, ◌∙◌, arith}
use Rattle.lock_core.specs.declared.steps.Step.TheVariants.{Enter, Leave}
use Rattle.lock_core.specs.Views.{entered, left}
use Rattle.lock_core.specs.Machine.{may_leave}
use Rattle.epoch_pools.specs.declared.views.SeatPart.{SeatPart}
use Rattle.epoch_pools.specs.declared.views.Beside.{Beside}
use Rattle.epoch_pools.specs.Record.{is_judging, gained_by, with_walk}
use Rattle.marked_list.proofs.Unlinking.{gone_looked}
use Rattle.range_rw.proofs.SeatedScans.{own_free, leaves, left_rests, turn_later, scan_on, enters}
use Rattle.range_rw.proofs.scan.next_list.Goals as goal

-- without a node of its own the hand may leave its epoch
pub leave-requires-clause-settled : goal.leave-requires-clause-settled
leave-requires-clause-settled g c = ap may_leave (own_free c.args.hand.now.part c.requires.inside.is.seat)

-- outside it the hand rests
pub turn-requires-clause-resting : goal.turn-requires-clause-resting
turn-requires-clause-resting g c = let p = c.args.hand.now.part in let m = c.leave.new.hand.part in
    left_rests p m (leaves p m c.requires.inside.is.seat c.requires.inside.is.inside c.leave.ensures.made)

-- there is a next list
pub turn-requires-clause-there : goal.turn-requires-clause-there
turn-requires-clause-there g c = let e : c.leave.new.hand.part.pass.lists ≡ c.args.hand.now.part.pass.lists = ap (λ (x : SeatPart (Beside _)). x.pass.lists)
    c.leave.ensures.made in let l = c.list-next.ensures.list in let m = c.requires.more in omega arith

-- in which the hand enters an epoch
pub returns : goal.returns
returns g c =
    let p = c.args.hand.now.part in let m = c.leave.new.hand.part in let t = c.turn.new.self.part in let q = c.enter.new.hand.part in
    let out = leaves p m c.requires.inside.is.seat c.requires.inside.is.inside c.leave.ensures.made in
    let lists : m.pass.lists ≡ p.pass.lists = ap (λ (x : SeatPart (Beside _)). x.pass.lists) c.leave.ensures.made in
    let there : t.pass.list ≡ p.pass.list + 1 =
    ap (λ (x : SeatPart (Beside _)). x.pass.list) c.turn.ensures.part ∙ ap (λ n. n + 1) c.list-next.ensures.list in
    let less : c.list-next.result + 1 < m.pass.lists = let l = c.list-next.ensures.list in let more = c.requires.more in omega arith in
    -- in two steps, neither of which looks at a node
    let a : m.trace.taken ≡ p.trace.taken + 1 = ap (λ (x : SeatPart (Beside _)). x.trace.taken) c.leave.ensures.made in
    let b : t.trace.taken ≡ m.trace.taken = ap (λ (x : SeatPart (Beside _)). x.trace.taken) c.turn.ensures.part in
    let n : q.trace.taken ≡ t.trace.taken + 1 = ap (λ (x : SeatPart (Beside _)). x.trace.taken) c.enter.ensures.made in record {
      inside = record {
        counted = record {
          table = c.enter.ensures.table ∙ (c.turn.ensures.table ∙ c.leave.ensures.table);
          steps = let first = c.leave.ensures.counted in let second = c.enter.ensures.counted in omega arith;
        };
        is = enters p t q (p.pass.list + 1) (scan_on p m t out.later (turn_later m t (c.list-next.result + 1) out.later.seat c.turn.ensures.part
            c.turn.ensures.stays c.turn.ensures.rests less)) there c.turn.ensures.rests.outside c.enter.ensures.made;
      };
      taken = omega arith;
      looked = ap (λ (x : SeatPart (Beside _)). x.trace.looked) c.enter.ensures.made
          ∙ (gone_looked t.trace t.core.cursor (is_judging Enter) (gained_by t.core (entered t.core))
          ∙ (ap (λ (x : SeatPart (Beside _)). x.trace.looked) c.turn.ensures.part ∙ (ap (λ (x : SeatPart (Beside _)). x.trace.looked) c.leave.ensures.made
          ∙ gone_looked p.trace p.core.cursor (is_judging Leave) (gained_by p.core (left p.core)))));
      -- and the walk that stood at the end is left
      walks = λ walk is. ap (λ (x : SeatPart (Beside _)). x.trace.walks) c.enter.ensures.made
          ∙ (ap (λ (x : SeatPart (Beside _)). x.trace.walks) c.turn.ensures.part ∙ (ap (λ (x : SeatPart (Beside _)). x.trace.walks) c.leave.ensures.made
          ∙ (λ i. with_walk (c.requires.end.1 i) (is i) p.trace.walks)));
    }
