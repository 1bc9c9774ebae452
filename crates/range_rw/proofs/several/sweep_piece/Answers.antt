use Rattle.std.proofs.Common.{sym, ap, ◌∙◌, arith}
use Rattle.lock_core.specs.declared.views.View.{View}
use Rattle.epoch_pools.specs.declared.views.Beside.{Beside}
use Rattle.epoch_pools.specs.declared.views.SeatPart.{SeatPart}
use Rattle.range_rw.proofs.Taking.{sweep_later, swept_refuses, long_told}
use Rattle.range_rw.proofs.Calls.{counted_on, counted_turn}
use Rattle.range_rw.proofs.Pieces.{err_on, own_at, turned_free, try_piece, try_standing, cause_piece}
use Rattle.range_rw.proofs.several.sweep_piece.Goals as goal

-- the hand rests in the list, without a node of its own
pub sweep-walked-requires-clause-order : goal.sweep-walked-requires-clause-order
sweep-walked-requires-clause-order g c = turned_free c.requires.may.is c.turn.ensures.part c.turn.ensures.rests

-- the sweep is a piece of work in that list
pub returns : goal.returns
returns g c =
    let p = c.args.hand.now.part in let t = c.turn.new.self.part in let s = c.sweep-walked.new.hand.part in let is = c.turn.ensures.part in
    let done = c.sweep-walked.ensures in let on = sweep_later t s done.swept done.walk in
    let piece = try_piece c.args.at p t s is c.turn.ensures.stays (record { later = on; outside = done.swept.outside; cursor = done.swept.cursor }) in
    let same = ap (λ (b : Beside _). b.list) done.swept.pass in
    record {
      -- turn and sweep ask for nothing, and nothing comes to count by them. The hand has no node of its own there, and
      -- the ready nodes stay
      swept = record {
        counted = counted_on (counted_turn c.turn.ensures.table is) (record { table = done.table; steps = done.counted });
        is = record {
          piece = piece;
          asked = done.swept.asked ∙ ap (λ (x : SeatPart _). x.trace.asked) is;
          standing = try_standing c.args.at p t s is c.turn.ensures.stays on;
          free = done.swept.own;
          ready = ap (λ (v : View). v.ready) (own_at s c.args.at piece.turned) ∙ (done.swept.pools.ready ∙ ap (λ (x : SeatPart _). x.core.ready) is);
        };
      };
      -- the cause of a refusal is that of the sweep, and Long comes exactly where its walk is spent
      cause = err_on _ _ c.outcome_of.result (λ why e asked. cause_piece c.args.at p t s is c.turn.ensures.stays c.args.hand.now.table
          c.turn.new.self.table c.turn.ensures.table piece.turned asked why (swept_refuses c.list-here.result c.turn.new.self.table t s done.walk
          (c.list-here.ensures.noted ∙ same) (c.list-here.ensures.list ∙ same) c.sweep-walked.result why (sym c.refusal_of.ensures ∙ e) done.answer asked))
          c.outcome_of.ensures.refused;
      long = err_on _ _ c.outcome_of.result (λ why e. long_told c.list-here.result c.sweep-walked.result why (sym c.refusal_of.ensures ∙ e) done.long)
          c.outcome_of.ensures.refused;
      -- the turn makes no step, so the steps are those of the sweep
      bound = let e = ap (λ (x : SeatPart _). x.trace.taken) is in let n = ap (λ (x : SeatPart _). x.seats) is in let b = done.bound in omega arith;
    }
