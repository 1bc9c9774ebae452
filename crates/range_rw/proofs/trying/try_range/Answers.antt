use Rattle.std.proofs.Common.{◌≡◌, ◌≢◌, Bool, true, false, [], inl, inr, sym, ◌∙◌}
use Rattle.range_rw.specs.Contract.{Meets}
use Rattle.range_rw.proofs.Asking.{asks_kept, asks_on, for_then}
use Rattle.range_rw.proofs.Calls.{outside_on, counted_on}
use Rattle.range_rw.proofs.Later.{later_on}
use Rattle.range_rw.proofs.Meeting.{met_still, ok_each, err_any}
use Rattle.range_rw.proofs.Pieces.{ok_on}
use Rattle.range_rw.proofs.Taking.{some_again, ready_again, cause_again, tried_inserts, inserted, not_inserted, held_at_once}
use Rattle.range_rw.proofs.trying.try_range.Goals as goal

-- without a node nothing is held, by the cause for which there is none
pub returns-in-Err-clause-tried : goal.returns-in-Err-clause-tried
returns-in-Err-clause-tried g c =
    let link = c.link_if_empty.ensures.link in let missed = c.in-Err.ensures.link.is.missed in record {
      counted = link.counted;
      is = record {
        later = link.is.later;
        asks = link.is.asks;
        gets = tt;
        held = tt;
        free = missed.own;
        ready = inl missed.empty;
        cause = λ _. missed.cause (record { range = c.args.range; mode = c.args.mode });
        long = missed.long;
        fast = tt;
        met = λ some. absurd (some missed.empty);
        seats = link.is.seats;
      };
    }

-- the node that the fast path left is filled
pub insert_in_epoch-requires : goal.insert_in_epoch-requires
insert_in_epoch-requires g c = record { own = tried_inserts c.in-Ok.ensures.link c.if-held.false c.requires.free.table }

-- what it links is held
pub returns-then-held-clause-tried : goal.returns-then-held-clause-tried
returns-then-held-clause-tried g c = held_at_once c.in-Ok.ensures.link c.if-held.true

-- the node that it didn't link is inserted, and the validation holds the range
pub returns-in-None-clause-tried : goal.returns-in-None-clause-tried
returns-in-None-clause-tried g c = let epoch = c.insert_in_epoch.ensures in inserted c.in-Ok.ensures.link c.in-Some.walked c.if-held.false epoch.left
    epoch.asked
    c.in-Some.ensures.ends c.list.result (sym c.refusal_of.ensures ∙ c.in-None.is)

-- or the list's answer refuses the try
pub returns-in-Some-refusal_of-clause-tried : goal.returns-in-Some-refusal_of-clause-tried
returns-in-Some-refusal_of-clause-tried g c = let epoch = c.insert_in_epoch.ensures in not_inserted c.in-Ok.ensures.link c.in-Some.walked c.if-held.false
    epoch.left epoch.asked
    c.in-Some.ensures.ends c.list.result c.in-Some.ensures.long c.list.ensures.noted c.list.ensures.list
    (sym c.refusal_of.ensures ∙ c.in-Some-refusal_of.is)

-- where the list was found empty there is a ready node
pub try_again-requires : goal.try_again-requires
try_again-requires g c =
    let link = c.link_if_empty.ensures.link in let epoch = c.insert_in_epoch.ensures.left in
    let left = c.in_default.ensures.ends.0 in record {
      some = record {
        table = epoch.counted.table ∙ (link.counted.table ∙ c.requires.free.table);
        is = record {
          free = record { outside = epoch.is.outside; own = left.0 };
          some = some_again c.in-Ok.ensures.link.is.tried c.if-held.false c.insert_in_epoch.new.hand.part left;
        };
      };
    }

-- what the second attempt comes to is what the whole try comes to
pub returns-in_default-clause-tried : goal.returns-in_default-clause-tried
returns-in_default-clause-tried g c =
    let link = c.link_if_empty.ensures.link in let epoch = c.insert_in_epoch.ensures in let again = c.try_again.ensures.tried in
    let r = c.insert_in_epoch.new.hand.part in let tried = c.in-Ok.ensures.link.is.tried in let left = c.in_default.ensures.ends.0 in
    let before = outside_on (record { counted = link.counted; is = link.is.later }) epoch.left in
    let met : c.args.hand.now.part.core.ready ≢ [] → Meets c.args.hand.now.part.trace.taken c.try_again.new.hand.part.trace = λ some.
    met_still c.args.hand.now.part.trace.taken c.link_if_empty.new.hand.part.trace c.try_again.new.hand.part.trace
    (later_on c.link_if_empty.new.hand.part r c.try_again.new.hand.part epoch.left.is.later again.is.later.later).occupied
    ((c.in-Ok.ensures.link.is.quick some).1 c.if-held.false) in record {
      counted = counted_on before.counted again.counted;
      is = record {
        later = (outside_on before (record { counted = again.counted; is = again.is.later })).is;
        asks = asks_on (asks_kept link.is.asks epoch.asked) again.is.asks;
        gets = ok_on c.try_again.result (λ gets. for_then (asks_kept link.is.asks epoch.asked) gets) again.is.gets;
        held = again.is.held;
        free = again.is.free;
        ready = ready_again tried c.if-held.false r left c.try_again.new.hand.part again.is.ready;
        cause = λ once. cause_again c.insert_in_epoch.new.hand.table c.args.hand.now.table c.args.hand.now.table c.args.hand.now.part r
            c.try_again.new.hand.part before.is.later (λ none. absurd (some_again tried c.if-held.false r left none))
            (record { range = c.args.range; mode = c.args.mode }) c.try_again.result (again.is.cause once);
        long = again.is.long;
        fast = ok_each c.try_again.result (λ quick some. inr (met some));
        met = err_any c.try_again.result met;
        seats = link.is.seats;
      };
    }

-- which is made only where it is asked for
pub returns-in_default-clause-once : goal.returns-in_default-clause-once
returns-in_default-clause-once g c = λ _ no. absurd (let z : ◌≡◌ {A = Bool} true false = sym c.in_default.ensures.ends.1 ∙ no in cc)
