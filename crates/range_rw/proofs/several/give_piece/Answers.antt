use Rattle.std.proofs.Common.{ap, ◌∙◌, arith}
use Rattle.lock_core.specs.declared.views.View.{View}
use Rattle.epoch_pools.specs.declared.views.SeatPart.{SeatPart}
use Rattle.epoch_pools.specs.Beside.{given_back}
use Rattle.marked_list.specs.Causes.{nodes_in}
use Rattle.range_rw.proofs.Calls.{counted_on, counted_turn}
use Rattle.range_rw.proofs.Pieces.{own_at, turned_beside, given_piece, given_standing, causes_kept}
use Rattle.range_rw.proofs.several.give_piece.Goals as goal

-- the list holds the range, and what doesn't count may be given back with any pass
-- the release is a piece of work in that list
pub returns : goal.returns
returns g c =
    let given = c.unlink_or_mark.ensures.back in let back = given.is in let q = c.unlink_or_mark.new.hand.part in let is = c.turn.ensures.part in
    let piece = given_piece c.args.at c.args.hand.now.part c.turn.new.self.part q is c.turn.ensures.stays g.G.Guard.rested c.turn.ensures.rests
    (turned_beside c.requires.may.is is) back in record {
      given = record {
        counted = counted_on (counted_turn c.turn.ensures.table is) given.counted;
        is = record {
          piece = piece;
          -- turn and release ask for nothing
          asked = back.asked ∙ ap (λ (x : SeatPart _). x.trace.asked) is;
          -- what counts through another list counts on
          standing = given_standing c.args.at c.args.hand.now.part c.turn.new.self.part q is c.turn.ensures.stays g.G.Guard.rested back.pass;
          -- the hand has no node of its own there, and the ready nodes stay
          free = back.own;
          ready = ap (λ (v : View). v.ready) (own_at q c.args.at piece.turned) ∙ (back.ready ∙ ap (λ (x : SeatPart _). x.core.ready) is);
        };
      };
      -- the mark leaves what the record has of other lists
      kept = λ no. let m = c.unlink_or_mark.ensures.marks no in (
        causes_kept c.args.hand.now.table c.args.at c.args.hand.now.part c.turn.new.self.part q is piece c.turn.ensures.rests
            (given_back g.G.Guard.rested) m,
        ap nodes_in (m.looked c.turn.ensures.rests.cursor ∙ ap (λ (x : SeatPart _). x.trace.looked) is),
      );
      -- in one step or two, which are counted
      bound = let e = ap (λ (x : SeatPart _). x.trace.taken) is in let b = back.most in omega arith;
    }
