use Rattle.std.proofs.Common.{◌≡◌, rules, true, false, Bool, inl, inr, sym, ap, ◌∙◌}
use Rattle.epoch_pools.specs.declared.views.SeatPart.{SeatPart}
use Rattle.epoch_pools.specs.Beside.{given_back}
use Rattle.range_rw.proofs.Giving.{holder, may_mark, holds_node, quick_given, marked_back, may_mark_still, marked_later, head_lost}
use Rattle.range_rw.proofs.release.unlink_or_mark.Goals as goal

-- the held node may be marked
pub mark-requires-clause-order : goal.mark-requires-clause-order
mark-requires-clause-order g c = may_mark c.requires.may.is

-- the mark gave the range back
pub returns-then-not-quick : goal.returns-then-not-quick
returns-then-not-quick g c = record {
  back = record { counted = search rules; is = marked_back c.requires.may.is (given_back g.G.Guard.rested) c.mark.new.hand.part c.mark.ensures.marked };
  fast = λ is. absurd (let f : ◌≡◌ {A = Bool} true false = sym is ∙ c.if-not-quick.true in cc);
  marks = λ _. c.mark.ensures.marked;
}

-- the own node is held, and the pass is at rest
pub quick_give-requires-clause-holds : goal.quick_give-requires-clause-holds
quick_give-requires-clause-holds g c = holds_node c.requires.may.is

-- the fast path gave the range back
pub returns-then-quick_give : goal.returns-then-quick_give
returns-then-quick_give g c = record {
  back = record {
    counted = search rules;
    is = quick_given c.requires.may.is (given_back g.G.Guard.rested) c.quick_give.new.hand.part true c.if-quick_give.ensures.given;
  };
  -- in two steps
  fast = λ _. let node = (holder c.requires.may.is).node in
      inl (ap (λ (y : SeatPart _). y.trace) (c.if-quick_give.ensures.given node (holder c.requires.may.is).is));
  marks = λ no. absurd (let f : ◌≡◌ {A = Bool} true false = sym c.if-not-quick.false ∙ no in cc);
}

-- the range is still held, so its node may be marked
pub mark-requires-2-clause-order : goal.mark-requires-2-clause-order
mark-requires-2-clause-order g c = may_mark_still c.requires.may.is
    (quick_given c.requires.may.is (given_back g.G.Guard.rested) c.quick_give.new.hand.part false c.if-quick_give.ensures.given)

-- the mark gave the range back, after a fast path that was lost
pub returns : goal.returns
returns g c =
    let rested = given_back g.G.Guard.rested in record {
      back = record {
        counted = search rules;
        is = marked_later c.requires.may.is (quick_given c.requires.may.is rested c.quick_give.new.hand.part false c.if-quick_give.ensures.given) rested
            c.mark-2.new.hand.part c.mark-2.ensures.marked;
      };
      -- whose exchange is in the record
      fast = λ _. inr (head_lost c.requires.may.is rested c.quick_give.new.hand.part c.mark-2.new.hand.part c.if-quick_give.ensures.given
          c.mark-2.ensures.marked);
      marks = λ no. absurd (let f : ◌≡◌ {A = Bool} true false = sym c.if-not-quick.false ∙ no in cc);
    }
