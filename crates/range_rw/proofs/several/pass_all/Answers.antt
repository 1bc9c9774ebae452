use Rattle.std.proofs.Common.{◌≡◌, ◌≢◌, ◌≤◌, ℕ, suc, ◌+◌, ◌-◌, ◌*◌, inl, inr, refl, sym, ap, ◌∙◌, subst, arith}
use Rattle.std.proofs.lemmas.Nat.{mul-le}
use Rattle.std.proofs.Math.Nat.{mul-suc}
use mathlib.Core.Logic.{dite}
use native.Mathlib.Decide.{ℕ_discrete}
use Rattle.lock_core.specs.declared.views.View.{View}
use Rattle.list_cuts.specs.Cut.{list_count, Takes}
use Rattle.epoch_pools.specs.declared.views.SeatPart.{SeatPart}
use Rattle.epoch_pools.specs.declared.views.Standing.TheVariants.{Wide}
use Rattle.epoch_pools.specs.Standings.{is_counted, standing_back}
use Rattle.epoch_pools.specs.Beside.{shown_core}
use Rattle.range_rw.specs.Contract.{IsReadyLeft}
use Rattle.range_rw.specs.Several.{IsWorkFor, TakesNone}
use Rattle.range_rw.proofs.Calls.{counted_on, counted_turn}
use Rattle.range_rw.proofs.Meeting.{IsApart, apart_after, apart_both, few_both, few_more, found_met, met_before, met_still, no_fewer, once_apart, once_few}
use Rattle.range_rw.proofs.Moves.{cause_on, ready_next, none_first, holds_turned, turn_on}
use Rattle.range_rw.proofs.Moves.{all_passed, passed_on, passed_beside, passed_back}
use Rattle.range_rw.proofs.Dues.{standing_wide, due_next, lists_still, work_first, work_on, work_look, work_turned}
use Rattle.range_rw.proofs.TakenLists.{below_none, below_one, fewer_below}
use Rattle.range_rw.proofs.several.pass_all.Given.{Over}
use Rattle.range_rw.proofs.several.pass_all.Goals.{After-look_in}
use Rattle.range_rw.proofs.several.pass_all.Goals as goal

-- one list more takes so many steps more
one_more : (n m looks : ℕ) → n * (suc m + looks) ≡ n * (m + looks) + n
one_more n m looks = let e : suc m + looks ≡ suc (m + looks) = omega arith in ap (λ k. n * k) e ∙ mul-suc n (m + looks)

-- behind the list that was tried the range takes none before the next one
gap : (g : Over) (c : After-look_in g) → TakesNone c.args.list.now.cut c.args.range (c.all.at + 1) c.next_taken-up.result
gap g c = subst (λ x. TakesNone x c.args.range (c.all.at + 1) c.next_taken-up.result) c.all.invariant.cut c.next_taken-up.ensures.first

-- that one it takes
here : (g : Over) (c : After-look_in g) → Takes c.args.list.now.cut c.args.range c.all.at
here g c = c.all.invariant.takes (omega arith)

-- the call works for the range alone, whatever came of it
work : (g : Over) (c : After-look_in g) → IsWorkFor c.args.list.now.cut (record { range = c.args.range; mode = c.args.mode }) c.args.hand.now.part
    c.look_in.new.hand.part
work g c = work_on c.all.invariant.work (work_look (inr (here g c)) c.look_in.ensures.looks.is)

-- list 0 isn't the list that was tried
home : (g : Over) (c : After-look_in g) → shown_core c.look_in.new.hand.part 0 ≡ shown_core c.args.hand.now.part 0
home g c = c.look_in.ensures.looks.is.only 0 (λ e. let l = c.all.invariant.low in omega arith) ∙ c.all.invariant.home

-- each list's ready nodes are as before or without the first, where none is tried again
left : (g : Over) (c : After-look_in g) → c.args.looks ≡ 0 → (j : ℕ) → IsReadyLeft (shown_core c.args.hand.now.part j).ready
    (shown_core c.look_in.new.hand.part j).ready
left g c none = ready_next c.all.at c.args.hand.now.part c.all.hand.part c.look_in.new.hand.part
    (ap (λ (v : View). v.ready) (c.all.invariant.ahead none c.all.at (omega arith))) c.look_in.ensures.looks.is.ready c.look_in.ensures.looks.is.only
    (c.all.invariant.ready none)

-- a list is as it was, or was found not empty, behind the one that was tried
apart : (g : Over) (c : After-look_in g) (j : ℕ) → j ≢ 0 → IsApart j c.args.hand.now.part c.look_in.new.hand.part
apart g c j away = let later = c.look_in.ensures.looks.is.later in dite (ℕ_discrete j c.all.at)
    (λ e. apart_both j c.args.hand.now.part c.all.hand.part c.look_in.new.hand.part (c.all.invariant.apart j away)
    (subst (λ n. IsApart n c.all.hand.part c.look_in.new.hand.part) (sym e)
    (once_apart c.all.at c.all.hand.part c.look_in.new.hand.part c.look_in.ensures.once)) c.all.invariant.work.later.taken later.occupied)
    (λ other. apart_after j c.args.hand.now.part c.all.hand.part c.look_in.new.hand.part (c.all.invariant.apart j away)
    later.occupied (c.look_in.ensures.looks.is.only j other))

-- there is a list behind list 0
-- nothing is passed yet
pub all-init : goal.all-init
all-init g c =
    let cut = c.cut-cut.ensures in
    let first = subst (λ x. TakesNone x c.args.range 1 c.next_taken-at.result) cut c.next_taken-at.ensures.first in
    let none = none_first c.args.list.now.cut c.args.range c.requires.due.is.lists.regions (c.requires.due.is.home.wide refl) in
    let k = 55 + 193 * c.args.hand.now.part.seats in
    record {
      counted = record { table = refl; steps = refl };
      cut = cut;
      lists = c.requires.due.is.lists;
      low = c.next_taken-at.ensures.from;
      most = let e = ap list_count cut in let m = c.next_taken-at.ensures.most in let l = c.requires.due.is.lists.many in omega arith;
      work = work_first;
      home = refl;
      alone = c.requires.due.is.holds;
      passed = inl (
        c.requires.due.is.free,
        λ list a b t. dite (ℕ_discrete list 0)
            (λ e. none (subst (Takes c.args.list.now.cut c.args.range) e t))
            (λ behind. first list (omega arith) b t),
      );
      fewer = omega arith;
      ahead = λ _ j le. refl;
      ready = λ _ j. inr (inl refl);
      takes = λ less. subst (λ x. Takes x c.args.range c.next_taken-at.result) cut
          (c.next_taken-at.ensures.taken (let e = ap list_count cut in let l = c.requires.due.is.lists.many in omega arith));
      each = (
        0,
        below_none c.args.list.now.cut c.args.range 1 c.next_taken-at.result 0 c.next_taken-at.ensures.from first (inr (none, refl)),
        (let le : k * c.args.looks ≤ k * (0 + c.args.looks) = mul-le _ _ _ _ (omega arith) (omega arith) in omega arith),
        inl (omega arith),
      );
      apart = λ j away. inl refl;
      met = omega arith;
    }

-- that list is due
pub look_in-requires-clause-due : goal.look_in-requires-clause-due
look_in-requires-clause-due g c = let i = c.all.invariant in record {
  table = i.counted.table ∙ c.requires.due.table;
  is = due_next c.args.list.now.cut c.all.at c.next_taken-up.result c.args.range c.all.hand.part i.low
      i.passed (subst (λ x. TakesNone x c.args.range (c.all.at + 1) c.next_taken-up.result) i.cut c.next_taken-up.ensures.first) c.next_taken-up.ensures.from
      (let e = i.lists.shown in let f = i.lists.many in let m = ap list_count i.cut in let n = c.next_taken-up.ensures.most in omega arith);
}

-- with one list more passed
pub all-preserved-in-Ok : goal.all-preserved-in-Ok
all-preserved-in-Ok g c =
    let h = (goal.at.all-preserved-in-Ok g c).After-look_in in let i = c.all.invariant in let one = c.look_in.ensures in
    let up = c.next_taken-up.result in let cut = c.args.list.now.cut in let k = 55 + 193 * c.args.hand.now.part.seats in record {
      counted = counted_on i.counted one.looks.counted;
      cut = i.cut;
      lists = lists_still i.lists one.looks.is.later;
      low = let a = i.low in let b = c.next_taken-up.ensures.from in omega arith;
      most = let f = i.lists.many in let m = ap list_count i.cut in let n = c.next_taken-up.ensures.most in omega arith;
      work = work g h;
      home = home g h;
      alone = c.in-Ok.ensures.looks.is.done.0;
      passed = inr (c.in-Ok.ensures.looks.is.done.1 ∙ standing_wide 0 up refl);
      fewer = i.fewer;
      ahead = λ none j le. one.looks.is.only j (λ e. let b = c.next_taken-up.ensures.from in omega arith)
          ∙ i.ahead none j (let b = c.next_taken-up.ensures.from in omega arith);
      ready = left g h;
      takes = λ less. subst (λ x. Takes x c.args.range up) i.cut
          (c.next_taken-up.ensures.taken (let e = ap list_count i.cut in let l = i.lists.many in omega arith));
      -- it is one more of those that the range takes
      each = (
        suc i.each.0,
        below_none cut c.args.range (suc c.all.at) up (suc i.each.0) (let b = c.next_taken-up.ensures.from in omega arith)
            (λ list from. gap g h list (omega arith)) (below_one cut c.args.range c.all.at i.each.0 (here g h) i.each.1),
        (let s = i.work.later.seats in let a = i.each.2 in let b = one.bound in let more = one_more k i.each.0 c.args.looks in omega arith),
        few_both i.each.0 1 c.args.hand.now.part c.all.hand.part c.look_in.new.hand.part i.each.3
            (once_few c.all.at c.all.hand.part c.look_in.new.hand.part one.once) (omega arith) i.work.later.taken one.looks.is.later.occupied,
      );
      apart = apart g h;
      met = let m = i.met in let n = no_fewer c.all.hand.part.trace c.look_in.new.hand.part.trace one.looks.is.later.occupied in omega arith;
    }

-- with one look more made, and the hand turned back to list 0
pub all-preserved : goal.all-preserved
all-preserved g c =
    let h = (goal.at.all-preserved g c).After-look_in in let i = c.all.invariant in let one = c.look_in.ensures in let turn = c.turn.ensures in
    let on = turn_on c.look_in.new.hand.part turn.part in
    let k = 55 + 193 * c.args.hand.now.part.seats in record {
      counted = counted_on (counted_on i.counted one.looks.counted) (counted_turn turn.table turn.part);
      cut = i.cut;
      lists = lists_still (lists_still i.lists one.looks.is.later) (turn_on c.look_in.new.hand.part turn.part);
      low = i.low;
      most = i.most;
      work = work_on (work g h) (work_turned turn.part turn.stays);
      home = turn.stays 0 ∙ home g h;
      alone = holds_turned turn.part turn.stays turn.rests c.in-Err.ensures.looks.is.kept.0;
      passed = passed_on c.args.list.now.cut c.all.at c.args.range c.all.hand.part c.turn.new.self.part
          (ap (λ (x : SeatPart _). x.pass.standing) turn.part ∙ c.in-Err.ensures.looks.is.kept.1) i.passed;
      fewer = let f = i.fewer in omega arith;
      -- so this isn't a call in which no list is tried again
      ahead = λ none. absurd (let f = i.fewer in omega arith);
      ready = λ none. absurd (let f = i.fewer in omega arith);
      takes = i.takes;
      each = (
        i.each.0,
        i.each.1,
        (let s = i.work.later.seats in let a = i.each.2 in let b = one.bound in let e = ap (λ (x : SeatPart _). x.trace.taken) turn.part in
            let n : c.all.left ≡ suc (c.all.left - 1) = omega arith in
            let more : k * c.all.left ≡ k * (c.all.left - 1) + k = ap (λ m. k * m) n ∙ mul-suc k (c.all.left - 1) in omega arith),
        -- another was met there
        inr (met_still c.args.hand.now.part.trace.taken c.look_in.new.hand.part.trace c.turn.new.self.part.trace on.occupied
            (met_before c.look_in.new.hand.part.trace i.work.later.taken
            (found_met c.all.hand.part.trace.taken c.all.at c.look_in.new.hand.part.trace c.in-Err.ensures.more.1))),
      );
      apart = λ j away. apart_after j c.args.hand.now.part c.look_in.new.hand.part c.turn.new.self.part (apart g h j away) on.occupied (turn.stays j);
      met = let m = i.met in let n = c.in-Err.ensures.more.0 in
          let t = no_fewer c.look_in.new.hand.part.trace c.turn.new.self.part.trace on.occupied in omega arith;
    }

-- the hand turns back to list 0
pub turn-requires-clause-there : goal.turn-requires-clause-there
turn-requires-clause-there g c = let e = c.look_in.ensures.looks.is.later.lists in let l = c.all.invariant.lists.shown in omega arith

-- from one in which it rests
pub turn-requires-clause-resting : goal.turn-requires-clause-resting
turn-requires-clause-resting g c = c.in-Err.ensures.looks.is.kept.0.rests

-- all lists are passed
pub returns : goal.returns
returns g c =
    let i = c.all.invariant in
    let end : c.all.at ≡ list_count c.args.list.now.cut = let a = i.most in let b = i.lists.many in omega arith in
    let all : c.all.at ≡ c.all.hand.part.pass.lists = let a = i.most in let b = i.lists.shown in omega arith in record {
      looks = record {
        counted = i.counted;
        is = record {
          work = i.work;
          home = i.home;
          ready = i.ready;
          done = (
            i.alone,
            all_passed c.args.list.now.cut c.all.at c.args.range c.all.hand.part i.lists.regions end (c.requires.due.is.home.wide refl) i.passed
                ∙ (ap Wide all ∙ sym (standing_wide 0 c.all.hand.part.pass.lists refl)),
          );
          kept = tt;
          cause = tt;
          long = tt;
          apart = i.apart;
          few = λ k many. let le : i.each.0 ≤ k = fewer_below c.args.list.now.cut c.args.range c.all.at (list_count c.args.list.now.cut) i.each.0 k
              (let a = i.most in let b = i.lists.many in omega arith) i.each.1 many in
              few_more c.args.hand.now.part c.all.hand.part i.each.3 le;
          each = λ k many. let n = 55 + 193 * c.args.hand.now.part.seats in
              let few : i.each.0 ≤ k = fewer_below c.args.list.now.cut c.args.range c.all.at (list_count c.args.list.now.cut) i.each.0 k
              (let a = i.most in let b = i.lists.many in omega arith) i.each.1 many in
              let le : n * (i.each.0 + c.args.looks) ≤ n * (k + c.args.looks) = mul-le _ _ _ _ (omega arith) (omega arith) in
              let a = i.each.2 in omega arith;
          narrow = λ away. absurd (away refl);
          met = tt;
          more = tt;
        };
      };
    }

-- a list refused the range, and no look is left
pub returns-then-left-eq0 : goal.returns-then-left-eq0
returns-then-left-eq0 g c =
    let h = (goal.at.returns-then-left-eq0 g c).After-look_in in let i = c.all.invariant in let one = c.look_in.ensures in
    let cut = c.args.list.now.cut in let n = 55 + 193 * c.args.hand.now.part.seats in record {
      looks = record {
        counted = counted_on i.counted one.looks.counted;
        is = record {
          work = work g h;
          home = home g h;
          ready = left g h;
          done = tt;
          -- before that list the range doesn't count, and nothing stands for it once it is given back
          kept = (
            c.in-Err.ensures.looks.is.kept.0,
            (λ k. is_counted (one.looks.is.later.lists k) (c.in-Err.ensures.looks.is.kept.1 k) 0)
                ∙ passed_beside cut c.all.at c.args.range c.all.hand.part (let e = i.lists.shown in omega arith) i.low i.passed,
            ap (λ s. standing_back s 0) c.in-Err.ensures.looks.is.kept.1 ∙ passed_back cut c.all.at c.args.range c.all.hand.part i.passed,
          );
          -- what refused it in that list refuses the call
          cause = λ none. (
            c.all.at,
            (λ e. let l = i.low in omega arith),
            (let e = i.lists.shown in let f = i.work.later.lists in omega arith),
            inr (here g h),
            cause_on c.all.at c.look_in.new.hand.part i.counted.table i.work.later (ap (λ (v : View). v.ready) (i.ahead none c.all.at (omega arith)))
                (record { range = c.args.range; mode = c.args.mode }) c.in-Err.why c.in-Err.ensures.looks.is.cause,
          );
          long = c.in-Err.ensures.looks.is.long;
          apart = apart g h;
          few = tt;
          -- with the list that refused, the lists that were passed are no more than it takes
          each = λ k many. let few : suc i.each.0 ≤ k = fewer_below cut c.args.range (suc c.all.at) (list_count cut) (suc i.each.0) k
              (let b = i.lists.many in omega arith) (below_one cut c.args.range c.all.at i.each.0 (here g h) i.each.1) many in
              let le : n * (suc i.each.0 + c.args.looks) ≤ n * (k + c.args.looks) = mul-le _ _ _ _ (omega arith) (omega arith) in
              let more = one_more n i.each.0 c.args.looks in let s = i.work.later.seats in let a = i.each.2 in let b = one.bound in omega arith;
          narrow = λ away. absurd (away refl);
          met = met_before c.look_in.new.hand.part.trace i.work.later.taken
              (found_met c.all.hand.part.trace.taken c.all.at c.look_in.new.hand.part.trace c.in-Err.ensures.more.1);
          -- it was refused once more than looks were left
          more = λ _. let m = i.met in let n = c.in-Err.ensures.more.0 in let l = c.if-left-eq0.true in omega arith;
        };
      };
    }
