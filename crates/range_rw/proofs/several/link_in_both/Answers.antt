use Rattle.std.proofs.Common.{◌≡◌, true, refl, sym, ap, ◌∙◌, subst, arith}
use Rattle.lock_core.specs.declared.views.View.{View}
use Rattle.lock_core.specs.Machine.{held_at}
use Rattle.epoch_pools.specs.declared.views.SeatPart.{SeatPart}
use Rattle.epoch_pools.specs.Hands.{IsResting}
use Rattle.epoch_pools.specs.Standings.{is_counted}
use Rattle.range_rw.specs.Looks.{standing_for}
use Rattle.range_rw.proofs.Calls.{counted_on, counted_turn}
use Rattle.range_rw.proofs.Moves.{some_held, seen_shows}
use Rattle.range_rw.proofs.Moves.{Crossing, Return, both_list, both_held, both_lists, both_standing, both_other, both_too, both_looked}
use Rattle.range_rw.proofs.Dues.{due_differ, due_there, due_own, due_on, due_beside, due_back, may_look, look_refused}
use Rattle.range_rw.proofs.several.link_in_both.Given.{Over}
use Rattle.range_rw.proofs.several.link_in_both.Goals.{After-turn, After-turn-in-Ok, After-look_held}
use Rattle.range_rw.proofs.several.link_in_both.Goals as goal

-- the range is linked in list 0 too, and the hand is turned back
over : (g : Over) (c : After-turn g) → Crossing c.args.own c.args.at (record { range = c.args.range; mode = c.args.mode }) c.args.hand.now.part
    c.link_piece.new.hand.part c.turn.new.self.part
over g c = record {
  differ = λ e. due_differ c.requires.due.is (sym e);
  holds = c.requires.holds;
  link = c.link_piece.ensures.link.is.piece;
  standing = c.link_piece.ensures.link.is.standing;
  held = c.in-Ok.ensures.link.is.held;
  turn = c.turn.ensures.part;
  stays = c.turn.ensures.stays;
}

-- it counts, that node is given back, and the hand is turned back once more
after : (g : Over) (c : After-turn-in-Ok g) → Return c.args.own c.args.at c.turn.new.self.part (standing_for c.args.own c.args.up)
    c.look_held.new.hand.part c.give_piece.new.hand.part c.turn-in-Ok.new.self.part
after g c = record {
  look = c.look_held.ensures.look.is;
  give = c.give_piece.ensures.given.is;
  back = due_back c.requires.due.is;
  turn = c.turn-in-Ok.ensures.part;
  stays = c.turn-in-Ok.ensures.stays;
  rests = c.turn-in-Ok.ensures.rests;
}

-- a node may be linked in that list
-- the hand turns back to the list that holds the range
pub turn-requires-clause-there : goal.turn-requires-clause-there
turn-requires-clause-there g c = let e = c.link_piece.ensures.link.is.piece.later.lists in let a = due_own c.requires.due.is in omega arith

-- from one in which it rests
pub turn-requires-clause-resting : goal.turn-requires-clause-resting
turn-requires-clause-resting g c = c.link_piece.ensures.link.is.piece.rests

-- the range may be looked for in that list still
pub look_held-requires-clause-may : goal.look_held-requires-clause-may
look_held-requires-clause-may g c = let way = over g (goal.at.look_held-requires-clause-may g c).After-turn in record {
  table = c.turn.ensures.table ∙ (c.link_piece.ensures.link.counted.table ∙ c.requires.due.table);
  is = may_look (record { range = c.args.range; mode = c.args.mode })
      (due_on c.requires.due.is c.turn.new.self.part (both_lists way) (both_standing way)) (both_list way) (both_held way);
}

-- and it is held there too
pub look_held-requires-clause-too : goal.look_held-requires-clause-too
look_held-requires-clause-too g c = both_too (over g (goal.at.look_held-requires-clause-too g c).After-turn)

-- there are the lists still behind the look
lists : (g : Over) (c : After-look_held g) → c.look_held.new.hand.part.pass.lists ≡ c.args.hand.now.part.pass.lists
lists g c = ap (λ (x : SeatPart _). x.pass.lists) c.look_held.ensures.look.is
    ∙ (ap (λ (x : SeatPart _). x.pass.lists) c.turn.ensures.part ∙ c.link_piece.ensures.link.is.piece.later.lists)

-- the other list holds the range, which doesn't count through it
pub give_piece-requires : goal.give_piece-requires
give_piece-requires g c =
    let h = goal.at.give_piece-requires g c in let e = lists g h.After-look_held in let look = c.look_held.ensures.look in record {
      may = record {
        table = look.counted.table ∙ (c.turn.ensures.table ∙ (c.link_piece.ensures.link.counted.table ∙ c.requires.due.table));
        is = record {
          there = let a = due_there c.requires.due.is in omega arith;
          resting = subst (λ (x : SeatPart _). IsResting x.core) (sym look.is) c.turn.ensures.rests;
          holds = some_held (ap (λ (v : View). held_at v.own) (seen_shows c.turn.new.self.part c.args.at true (standing_for c.args.own c.args.up) look.is
              c.args.at) ∙ both_other (over g h.After-turn));
          beside = (λ i. is_counted (e i) ((ap (λ (x : SeatPart _). x.pass.standing) look.is) i) c.args.at) ∙ due_beside c.requires.due.is;
        };
      };
    }

-- the hand turns back
pub turn-requires-in-Ok-clause-there : goal.turn-requires-in-Ok-clause-there
turn-requires-in-Ok-clause-there g c = let e = c.give_piece.ensures.given.is.piece.later.lists
    ∙ lists g (goal.at.turn-requires-in-Ok-clause-there g c).After-look_held in let a = due_own c.requires.due.is in omega arith

-- from one in which it rests
pub turn-requires-in-Ok-clause-resting : goal.turn-requires-in-Ok-clause-resting
turn-requires-in-Ok-clause-resting g c = c.give_piece.ensures.given.is.piece.rests

-- the range counts
pub returns-in-Ok : goal.returns-in-Ok
returns-in-Ok g c =
    let way = over g (goal.at.returns-in-Ok g c).After-turn in let back = after g c in let look = c.look_held.ensures.look in
    let turned = counted_turn c.turn.ensures.table c.turn.ensures.part in record {
      looks = record {
        -- the steps of the link, the look and the release, which are counted
        counted = counted_on (counted_on (counted_on (counted_on c.link_piece.ensures.link.counted turned) look.counted) c.give_piece.ensures.given.counted)
            (counted_turn c.turn-in-Ok.ensures.table c.turn-in-Ok.ensures.part);
        is = both_looked way back c.link_piece.ensures.link.is.asks c.link_piece.ensures.link.is.ready;
      };
      bound = let a = c.link_piece.ensures.bound refl in let t = ap (λ (x : SeatPart _). x.trace.taken) c.turn.ensures.part in
          let l = ap (λ (x : SeatPart _). x.trace.taken) look.is in let b = c.give_piece.ensures.bound in
          let u = ap (λ (x : SeatPart _). x.trace.taken) c.turn-in-Ok.ensures.part in omega arith;
    }

-- after a refusal the range is still held, and nothing more stands for it
pub returns-in-Err-clause-looks : goal.returns-in-Err-clause-looks
returns-in-Err-clause-looks g c = let link = c.link_piece.ensures.link in record {
  counted = link.counted;
  is = look_refused (due_differ c.requires.due.is) c.requires.holds link.is.piece link.is.asks link.is.standing c.in-Err.ensures.link.is.free
      link.is.ready (c.in-Err.ensures.link.is.cause refl) c.in-Err.ensures.link.is.long;
}
