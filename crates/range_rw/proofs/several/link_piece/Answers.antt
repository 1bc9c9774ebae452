use Rattle.std.proofs.Common.{◌≢◌, ℕ, List, [], sym, subst, ap, ◌∙◌, arith}
use Rattle.epoch_pools.specs.declared.views.SeatPart.{SeatPart}
use Rattle.range_rw.specs.Contract.{Meets}
use Rattle.range_rw.proofs.Asking.{asks_from, for_from}
use Rattle.range_rw.proofs.Calls.{counted_on, counted_turn}
use Rattle.range_rw.proofs.Meeting.{fast_from}
use Rattle.range_rw.proofs.Pieces.{err_on, err_free, ok_if, ok_on, try_piece, try_standing, ready_piece, cause_piece}
use Rattle.range_rw.proofs.several.link_piece.Goals as goal

-- the hand rests in the list, without a node of its own
-- the try is a piece of work in that list
pub returns : goal.returns
returns g c =
    let p = c.args.hand.now.part in let t = c.turn.new.self.part in let q = c.try_range.new.hand.part in let is = c.turn.ensures.part in
    let done = c.try_range.ensures.tried in let piece = try_piece c.args.at p t q is c.turn.ensures.stays done.is.later in
    let asked = ap (λ (x : SeatPart _). x.trace.asked) is in let ready = ap (λ (x : SeatPart _). x.core.ready) is in record {
      link = record {
        counted = counted_on (counted_turn c.turn.ensures.table is) done.counted;
        is = record {
          piece = piece;
          asks = asks_from asked done.is.asks;
          gets = ok_on c.try_range.result (λ gets. for_from asked gets) done.is.gets;
          standing = try_standing c.args.at p t q is c.turn.ensures.stays done.is.later.later;
          held = done.is.held;
          free = done.is.free;
          -- the ready nodes of that list are as before, or without the first
          ready = ready_piece c.args.at p t q is c.turn.ensures.stays piece.turned done.is.ready;
          -- the cause of a refusal is that of the try
          cause = λ once. err_on _ _ c.try_range.result (cause_piece c.args.at p t q is c.turn.ensures.stays c.args.hand.now.table c.turn.new.self.table
              c.turn.ensures.table piece.turned (record { range = c.args.range; mode = c.args.mode })) (done.is.cause once);
          long = done.is.long;
          -- with a ready node there it makes five steps, or meets another
          fast = ok_if c.try_range.result (λ quick f some. fast_from p t q (ap (λ (x : SeatPart _). x.trace.taken) is)
              (f (subst (λ (l : List ℕ). l ≢ []) (sym ready) some))) done.is.fast;
          met = err_free c.try_range.result (λ f some. subst (λ n. Meets n q.trace) (ap (λ (x : SeatPart _). x.trace.taken) is)
              (f (subst (λ (l : List ℕ). l ≢ []) (sym ready) some))) done.is.met;
          -- the table has as many seats as the hand's part says
          seats = sym (ap (λ (x : SeatPart _). x.seats) is) ∙ done.is.seats;
        };
      };
      -- the turn makes no step, so the steps are those of the try
      bound = λ once. let e = ap (λ (x : SeatPart _). x.trace.taken) is in let s = ap (λ (x : SeatPart _). x.seats) is in
          let b = c.try_range.ensures.once once once in omega arith;
    }
