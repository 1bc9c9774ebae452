use Rattle.std.proofs.Common.{◌≡◌, ◌+◌, ◌-◌, ◌*◌, ◌≤◌, refl, sym, ◌∙◌, subst, arith}
use Rattle.std.proofs.lemmas.Nat.{mul-le}
use Rattle.std.specs.Prelude.{Option, Some, None}
use Rattle.list_cuts.specs.Cut.{list_count}
use Rattle.epoch_pools.specs.declared.views.SeatPart.{SeatPart}
use Rattle.marked_list.specs.declared.answers.Passed.{Passed}
use Rattle.marked_list.specs.declared.answers.Passed.TheVariants.{Long as TooLong}
use Rattle.marked_list.specs.Answers.{IsAtEnd}
use Rattle.range_rw.specs.Contract.{fresh_in}
use Rattle.range_rw.specs.Seats.{seat_state_of}
use Rattle.range_rw.specs.Scan.{scanned_as}
use Rattle.range_rw.proofs.SeatedScans.{scan_same, stays_on, opened_ended, spent_still, most_still, next_none, next_more, last_gives}
use Rattle.range_rw.proofs.scan.pass_on.Goals as goal

-- the hand is inside its epoch in each list
-- no list is passed yet
pub all-init : goal.all-init
all-init g c = record {
  later = record {
    counted = record { table = refl; steps = refl };
    is = record { later = scan_same c.args.hand.now.part c.requires.inside.is.seat; inside = c.requires.inside.is.inside };
  };
  lists = c.requires.lists;
  gone = (0, (omega arith), (omega arith));
  now = λ was opened. (was, opened, λ after answer next. next);
  ended = λ was opened ended. refl;
  spent = λ was opened spent. refl;
}

-- one list more is passed
pub all-preserved : goal.all-preserved
all-preserved g c =
    let i = c.all.invariant in let p = c.args.hand.now.part in let n = c.in_default.ensures in let u = c.pass_or_turn.ensures in
    record {
      later = stays_on i.later u.later;
      lists = (i.lists.0 ∙ sym u.later.is.later.later.lists, i.lists.1);
      gone = (
        i.gone.0 + 1,
        (let a = i.gone.1 in let b = n.turned in omega arith),
        (let a = i.gone.2 in let b = u.bound in let s = i.later.is.later.later.seats in omega arith),
      );
      now = λ was opened.
          let w = i.now was opened in let passed = n.passed w.0 w.1 in (
            fresh_in (w.0.list + 1) w.0.most,
            passed.begun,
            λ after answer next. w.2 after answer
                (next_more (seat_state_of c.all.hand) (seat_state_of c.pass_or_turn.new.hand) after w.0 answer passed next),
          );
      ended = λ was opened ended.
          absurd (let e = (opened_ended p was c.requires.inside.is.inside opened ended).1 in let a = i.gone.1 in let b = c.list.ensures.list in
          let l = i.later.is.later.later.lists in let m = i.lists.0 in omega arith);
      spent = λ was opened spent.
          let same = i.spent was opened spent in
          absurd (let s = (u.spent (spent_still p was c.requires.inside.is.inside opened same spent)).1 in
          let z : ◌≡◌ {A = Option Passed} None (Some (TooLong (16 * c.all.hand.part.seats + 1))) = sym c.in_default.is ∙ s in cc);
    }

-- the seat still holds nothing
pub returns-in-Some-clause-later : goal.returns-in-Some-clause-later
returns-in-Some-clause-later g c = let on = stays_on c.all.invariant.later c.pass_or_turn.ensures.later in record { counted = on.counted; is = on.is.later }

-- the answer of a list is that of the call
pub returns-in-Some-clause-next : goal.returns-in-Some-clause-next
returns-in-Some-clause-next g c = λ was opened. let i = c.all.invariant in let w = i.now was opened in let after = seat_state_of c.pass_or_turn.new.hand in w.2
    after (scanned_as c.in-Some.answer) (next_none c.all.hand.table c.all.hand.part after w.0 (scanned_as c.in-Some.answer) i.later.is.later.seat
    i.later.is.inside w.1
    (c.in-Some.ensures.gives w.0 w.1))

-- a scan at the end of the last list makes no step here
pub returns-in-Some-clause-ended : goal.returns-in-Some-clause-ended
returns-in-Some-clause-ended g c = λ was opened ended. let i = c.all.invariant in absurd (let e = (opened_ended c.args.hand.now.part was
    c.requires.inside.is.inside
    opened ended).1 in let a = i.gone.1 in let b = c.list.ensures.list in let l = i.later.is.later.later.lists in let m = i.lists.0 in omega arith)

-- and one that has looked at as many nodes as it may none at all
pub returns-in-Some-clause-spent : goal.returns-in-Some-clause-spent
returns-in-Some-clause-spent g c = λ was opened spent. let i = c.all.invariant in let p = c.args.hand.now.part in let same = i.spent was opened spent in let s =
    c.pass_or_turn.ensures.spent (spent_still p was c.requires.inside.is.inside opened same spent) in
    let f : ◌≡◌ {A = Option Passed} (Some c.in-Some.answer) (Some (TooLong (16 * c.all.hand.part.seats + 1))) = sym c.in-Some.is ∙ s.1 in
    let z : c.in-Some.answer ≡ TooLong (16 * c.all.hand.part.seats + 1) = cc in
    (s.0 ∙ same, z ∙ most_still p was c.requires.inside.is.inside opened same)

-- its steps are those of the lists so far
pub returns-in-Some-clause-bound : goal.returns-in-Some-clause-bound
returns-in-Some-clause-bound g c = let i = c.all.invariant in let p = c.args.hand.now.part in let few = c.in-Some.ensures.few in
    let s = i.later.is.later.later.seats in
    let a = i.gone.1 in let t = i.gone.2 in let m = i.lists.0 in let k = i.lists.1 in let e = c.list.ensures.list in
    let w = i.later.is.later.seat.within in let le :
    (4 + 3 * (16 * p.seats + 1)) * i.gone.0 ≤ (4 + 3 * (16 * p.seats + 1)) * (list_count c.args.list.now.cut - 1 - p.pass.list) = mul-le _ _ _ _ (omega arith)
    (omega arith) in omega arith

-- in the last list the same
pub returns-clause-later : goal.returns-clause-later
returns-clause-later g c = let on = stays_on c.all.invariant.later c.pass_here.ensures.later in record { counted = on.counted; is = on.is.later }

-- its answer is that of the call
pub returns-clause-next : goal.returns-clause-next
returns-clause-next g c = λ was opened. let i = c.all.invariant in let w = i.now was opened in let after = seat_state_of c.pass_here.new.hand in
    let q = c.pass_here.new.hand.part in let last : q.pass.list + 1 ≡ q.pass.lists = (let a = c.pass_here.ensures.list in let b =
    c.pass_here.ensures.later.is.later.later.lists in let e = c.list.ensures.list in let m = i.lists.0 in
    let t = i.later.is.later.seat.within in omega arith) in w.2 after
    (scanned_as c.pass_here.result) (next_none c.all.hand.table c.all.hand.part after w.0 (scanned_as c.pass_here.result) i.later.is.later.seat
    i.later.is.inside w.1 (last_gives
    (q.pass.list + 1 ≡ q.pass.lists) (seat_state_of c.all.hand) after w.0 c.pass_here.result last (c.pass_here.ensures.gives w.0 w.1)))

-- at its end nothing changes
pub returns-clause-ended : goal.returns-clause-ended
returns-clause-ended g c = λ was opened ended. let same = c.all.invariant.ended was opened ended in let s = c.pass_here.ensures.ended (subst
    (λ (x : SeatPart _). IsAtEnd x.core.cursor) (sym same) (opened_ended c.args.hand.now.part was c.requires.inside.is.inside opened ended).0) in (
      s.0 ∙
          same,
      s.1,
    )

-- nor where the walk has looked at as many nodes as it may
pub returns-clause-spent : goal.returns-clause-spent
returns-clause-spent g c = λ was opened spent. let i = c.all.invariant in let p = c.args.hand.now.part in let same = i.spent was opened spent in let s =
    c.pass_here.ensures.spent (spent_still p was c.requires.inside.is.inside opened same spent) in
    (s.0 ∙ same, s.1 ∙ most_still p was c.requires.inside.is.inside opened same)

-- and its steps are those of all lists
pub returns-clause-bound : goal.returns-clause-bound
returns-clause-bound g c = let i = c.all.invariant in let p = c.args.hand.now.part in let few = c.pass_here.ensures.bound in
    let s = i.later.is.later.later.seats in
    let a = i.gone.1 in let t = i.gone.2 in let m = i.lists.0 in let k = i.lists.1 in let w = i.later.is.later.seat.within in
    let le : (4 + 3 * (16 * p.seats + 1)) *
    i.gone.0 ≤ (4 + 3 * (16 * p.seats + 1)) * (list_count c.args.list.now.cut - 1 - p.pass.list) = mul-le _ _ _ _ (omega arith) (omega arith) in omega arith
