use Rattle.std.proofs.Common.{◌≡◌, ◌≤◌, ◌+◌, ◌*◌, false, inl, inr, ap, ◌∙◌, arith}
use Rattle.epoch_pools.specs.declared.views.SeatPart.{SeatPart}
use Rattle.range_rw.specs.Looks.{standing_for}
use Rattle.range_rw.specs.Calls.{IsCounted}
use Rattle.range_rw.proofs.Asking.{asks_stay}
use Rattle.range_rw.proofs.Calls.{counted_on, counted_turn}
use Rattle.range_rw.proofs.Moves.{holds_in, holds_seen}
use Rattle.range_rw.proofs.Dues.{due_differ, due_own, due_on, may_look, Swept, swept_by, swept_alone, swept_quiet, Quiet}
use Rattle.range_rw.proofs.Dues.{look_quiet, quiet_on, looks_from, look_clear, look_refused}
use Rattle.range_rw.proofs.several.look_swept.Given.{Over}
use Rattle.range_rw.proofs.several.look_swept.Goals.{After-look}
use Rattle.range_rw.proofs.several.look_swept.Goals as goal

-- the list is swept, and the hand is turned back
swept : (g : Over) (c : After-look g) → Swept c.args.own c.args.at (record { range = c.args.range; mode = c.args.mode }) c.args.hand.now.part
    c.sweep_piece.new.hand.part c.turn.new.self.part
swept g c = let turn = c.turn.ensures in swept_by c.requires.due.is c.requires.holds c.sweep_piece.ensures.swept.is turn.part turn.stays turn.rests

-- the list may be swept
-- the hand turns back to the list that holds the range
pub turn-requires-clause-there : goal.turn-requires-clause-there
turn-requires-clause-there g c = let a = due_own c.requires.due.is in let e = c.sweep_piece.ensures.swept.is.piece.later.lists in omega arith

-- from one in which it rests
pub turn-requires-clause-resting : goal.turn-requires-clause-resting
turn-requires-clause-resting g c = c.sweep_piece.ensures.swept.is.piece.rests

-- the range may be looked for in the swept list
pub look-requires : goal.look-requires
look-requires g c = let turn = c.turn.ensures in let sweep = c.sweep_piece.ensures.swept in
    let way = swept_by c.requires.due.is c.requires.holds sweep.is turn.part turn.stays turn.rests in let still = swept_quiet way in
    let alone = swept_alone way in record {
      may = record {
        table = turn.table ∙ (sweep.counted.table ∙ c.requires.due.table);
        is = may_look (record { range = c.args.range; mode = c.args.mode })
            (due_on c.requires.due.is c.turn.new.self.part still.later.lists still.standing) alone.turned alone.held;
      };
    }

-- sweep, turn and look are counted
so_far : (g : Over) (c : After-look g) → IsCounted c.args.hand.now c.look.new.hand c.args.steps.now c.look.new.steps
so_far g c = counted_on (counted_on c.sweep_piece.ensures.swept.counted (counted_turn c.turn.ensures.table c.turn.ensures.part))
    c.look.ensures.look.counted

-- and are few
few : (g : Over) (c : After-look g) → c.look.new.hand.part.trace.taken ≤ c.args.hand.now.part.trace.taken + 8 + 48 * c.args.hand.now.part.seats
few g c = let w = c.sweep_piece.ensures.bound in let t = ap (λ (x : SeatPart _). x.trace.taken) c.turn.ensures.part in
    let l = ap (λ (x : SeatPart _). x.trace.taken) c.look.ensures.look.is in omega arith

-- the second look found the list empty
pub returns-then-look : goal.returns-then-look
returns-then-look g c =
    let h = (goal.at.returns-then-look g c).After-look in let way = swept g h in record {
      -- so the range counts there
      looks = record {
        counted = so_far g h;
        is = looks_from (c.turn.ensures.table ∙ c.sweep_piece.ensures.swept.counted.table) (swept_quiet way)
            (look_clear (swept_alone way) c.look.ensures.look.is c.if-look.true);
      };
      bound = let f = few g h in omega arith;
    }

-- where it didn't, nothing has changed yet
quiet : (g : Over) (c : After-look g) → c.look.result ≡ false → Quiet c.args.at c.args.hand.now.part c.look.new.hand.part
quiet g c isnt = quiet_on (swept_quiet (swept g c)) (look_quiet (standing_for c.args.own c.args.up) c.look.ensures.look.is isnt)

-- the look is due still
pub link_in_both-requires-clause-due : goal.link_in_both-requires-clause-due
link_in_both-requires-clause-due g c = let still = quiet g (goal.at.link_in_both-requires-clause-due g c).After-look c.if-look.false in
    record {
      table = (so_far g (goal.at.link_in_both-requires-clause-due g c).After-look).table ∙ c.requires.due.table;
      is = due_on c.requires.due.is c.look.new.hand.part still.later.lists still.standing;
    }

-- and the range is held
pub link_in_both-requires-clause-holds : goal.link_in_both-requires-clause-holds
link_in_both-requires-clause-holds g c =
    holds_in (holds_seen c.args.at c.look.result (standing_for c.args.own c.args.up) c.look.ensures.look.is
    (swept_alone (swept g (goal.at.link_in_both-requires-clause-holds g c).After-look)))

-- otherwise it comes to what the link in the other list comes to
pub returns : goal.returns
returns g c =
    let h = (goal.at.returns g c).After-look in let still = quiet g h c.if-look.false in let so = so_far g h in record {
      looks = record {
        counted = counted_on so c.link_in_both.ensures.looks.counted;
        is = looks_from so.table still c.link_in_both.ensures.looks.is;
      };
      bound = let f = few g h in let s = still.later.seats in let b = c.link_in_both.ensures.bound in omega arith;
    }

-- a refused sweep leaves the range held
pub returns-in-Err-clause-looks : goal.returns-in-Err-clause-looks
returns-in-Err-clause-looks g c = let swept = c.sweep_piece.ensures.swept in record {
  counted = swept.counted;
  is = look_refused (due_differ c.requires.due.is) c.requires.holds swept.is.piece (asks_stay swept.is.asked) swept.is.standing swept.is.free
      (inr (inl swept.is.ready)) (c.in-Err.ensures.cause (record { range = c.args.range; mode = c.args.mode })) c.in-Err.ensures.long;
}
