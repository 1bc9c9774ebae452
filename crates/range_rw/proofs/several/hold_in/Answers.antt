use Rattle.std.proofs.Common.{◌≡◌, ◌≢◌, ◌+◌, ◌*◌, ◌≤◌, ℕ, false, [], inl, inr, refl, sym, ap, ◌∙◌, subst, arith}
use Rattle.epoch_pools.specs.Beside.{shown_core}
use Rattle.range_rw.specs.Contract.{IsReadyLeft, StandsIn, TakesMany}
use Rattle.range_rw.specs.Several.{IsOnce, IsWorkFor}
use Rattle.range_rw.proofs.Asking.{for_on}
use Rattle.range_rw.proofs.Calls.{counted_on}
use Rattle.range_rw.proofs.Moves.{linked_cause, ready_each, ready_all, ready_kept, spent_kept}
use Rattle.range_rw.proofs.Meeting.{IsApart, apart_after, apart_before, fast_few, fast_both, met_before, met_still, no_fewer}
use Rattle.range_rw.proofs.Dues.{home_is, work_on, work_link, work_freed, home_works, home_granted, link_free, given_free}
use Rattle.range_rw.proofs.several.hold_in.Given.{Over}
use Rattle.range_rw.proofs.several.hold_in.Goals.{After-look_in_all}
use Rattle.range_rw.proofs.several.hold_in.Goals as goal

-- so many lists of the same seats take the same steps, where no look is made again
so_many : {m n looks : ℕ} → m ≡ n → looks ≡ 0 → (k : ℕ) → (55 + 193 * m) * (k + looks) ≡ (55 + 193 * n) * k
so_many {m} {n} {looks} same none k = let e : k + looks ≡ k = omega arith in ap (λ x. (55 + 193 * m) * x) e ∙ ap (λ x. (55 + 193 * x) * k) same

-- the seat works for the range alone
work : (g : Over) (c : After-look_in_all g) → IsWorkFor c.args.list.now.cut (record { range = c.args.range; mode = c.args.mode }) c.args.hand.now.part
    c.look_in_all.new.hand.part
work g c = work_on (work_link (home_works c.requires.home) c.link_piece.ensures.link.is) c.look_in_all.ensures.looks.is.work

-- each list's ready nodes are as before or without the first
ready : (g : Over) (c : After-look_in_all g) → c.args.looks ≡ 0 → (j : ℕ)
    → IsReadyLeft (shown_core c.args.hand.now.part j).ready (shown_core c.look_in_all.new.hand.part j).ready
ready g c none = let link = c.link_piece.ensures.link.is in ready_all c.args.own c.args.hand.now.part c.link_piece.new.hand.part c.look_in_all.new.hand.part
    link.ready link.piece.only (c.look_in_all.ensures.looks.is.ready none) c.look_in_all.ensures.looks.is.home

-- each other list is as before, or was found not empty
apart : (g : Over) (c : After-look_in_all g) (own : ℕ) → StandsIn c.args.list.now.cut c.args.range own → (j : ℕ) → j ≢ own
    → IsApart j c.args.hand.now.part c.look_in_all.new.hand.part
apart g c own stands j away = let same = home_is stands c.requires.home in let link = c.link_piece.ensures.link.is.piece in
    apart_before j c.args.hand.now.part c.link_piece.new.hand.part c.look_in_all.new.hand.part (link.only j (λ e. away (e ∙ sym same)))
    link.later.taken (c.look_in_all.ensures.looks.is.apart j (λ e. away (e ∙ sym same)))

-- the steps of the link and the looks
steps : (g : Over) (c : After-look_in_all g) → IsOnce c.args.patient c.args.looks → (k : ℕ) → TakesMany c.args.list.now.cut c.args.range k
    → c.look_in_all.new.hand.part.trace.taken ≤ c.args.hand.now.part.trace.taken + 43 + 145 * c.args.hand.now.part.seats
    + (55 + 193 * c.args.hand.now.part.seats) * k
steps g c once k many = let same = so_many c.link_piece.ensures.link.is.piece.later.seats once.1 k in let a = c.link_piece.ensures.bound once.0 in
    let b = c.look_in_all.ensures.looks.is.each k many in omega arith

-- a node may be linked in that list
-- a refused link leaves nothing held
pub returns-in-Err-clause-tried : goal.returns-in-Err-clause-tried
returns-in-Err-clause-tried g c =
    let link = c.link_piece.ensures.link in let works = home_works c.requires.home in record {
      counted = link.counted;
      is = record {
        call = record { work = work_link works link.is; held = tt; free = link_free c.requires.free.is.free c.in-Err.ensures.link.is };
        gets = tt;
        -- no other list has changed
        ready = λ _. ready_each c.args.own c.args.hand.now.part c.link_piece.new.hand.part link.is.ready link.is.piece.only;
        -- what refused the link refuses the call
        cause = λ once. (
          c.args.own,
          (let t = c.requires.home.there in let l = c.requires.free.is.lists.shown in omega arith),
          works,
          c.in-Err.ensures.link.is.cause once.0,
        );
        long = λ _. c.in-Err.ensures.link.is.long;
        fast = tt;
        -- with a ready node there it met another
        met = λ own stands some. c.in-Err.ensures.link.is.met
            (subst (λ n. (shown_core c.args.hand.now.part n).ready ≢ []) (home_is stands c.requires.home) some);
        kept = λ two. inl (λ j away. link.is.piece.only j (λ e. away (e ∙ sym (home_is (inr (two, refl)) c.requires.home))));
        apart = λ own stands j away. inl (link.is.piece.only j (λ e. away (e ∙ sym (home_is stands c.requires.home))));
        seats = link.is.seats;
      };
    }

-- its steps
pub returns-in-Err-clause-each : goal.returns-in-Err-clause-each
returns-in-Err-clause-each g c = λ once k _. let a = c.link_piece.ensures.bound once.0 in omega arith

-- the range is held in its list, and nothing counts yet
-- the range is held, and counts
pub returns-in-Ok-look_in_all : goal.returns-in-Ok-look_in_all
returns-in-Ok-look_in_all g c =
    let h = (goal.at.returns-in-Ok-look_in_all g c).After-look_in_all in let all = work g h in let done = c.in-Ok-look_in_all.ensures.looks.is.done in record {
      tried = record {
        counted = counted_on c.link_piece.ensures.link.counted c.look_in_all.ensures.looks.counted;
        is = record {
          call = record {
            work = all;
            held = home_granted c.requires.home (c.requires.free.is.lists.shown ∙ sym all.later.lists) done.0 done.1;
            free = tt;
          };
          gets = for_on c.in-Ok.ensures.link.is.gets c.look_in_all.ensures.looks.is.work.asks;
          ready = ready g h;
          cause = λ _. tt;
          long = λ _. tt;
          -- five steps for the link, and one for each look, or another was met
          fast = λ k many some. let link = c.link_piece.ensures.link.is.piece in
              fast_both 5 k c.args.hand.now.part c.link_piece.new.hand.part c.look_in_all.new.hand.part
              (fast_few c.args.hand.now.part c.link_piece.new.hand.part (c.in-Ok.ensures.link.is.fast
              (subst (λ n. (shown_core c.args.hand.now.part n).ready ≢ []) done.0.turned some)))
              (c.in-Ok-look_in_all.ensures.looks.is.few k many) (omega arith) link.later.taken c.look_in_all.ensures.looks.is.work.later.occupied;
          met = tt;
          kept = tt;
          apart = apart g h;
          seats = c.link_piece.ensures.link.is.seats;
        };
      };
      -- the steps of the link and the looks
      each = λ once k many. let s = steps g h once k many in omega arith;
    }

-- the range is held, and doesn't count
-- after a refusal in another list it is given up
pub returns-in-Err-look_in_all : goal.returns-in-Err-look_in_all
returns-in-Err-look_in_all g c =
    let h = (goal.at.returns-in-Err-look_in_all g c).After-look_in_all in let link = c.link_piece.ensures.link in
    let all = c.look_in_all.ensures.looks in let looks = c.in-Err-look_in_all.ensures.looks.is in let given = c.give_piece.ensures.given in
    let kept = λ (once : c.args.patient ≡ false). c.give_piece.ensures.kept (c.unlinks.ensures.once once) in record {
      tried = record {
        counted = counted_on (counted_on link.counted all.counted) given.counted;
        is = record {
          -- the seat holds nothing
          call = record {
            work = work_on (work g h) (work_freed (home_works c.requires.home) given.is);
            held = tt;
            free = given_free looks.kept.0 looks.kept.2 given.is;
          };
          gets = tt;
          ready = λ none. ready_kept c.args.own c.args.hand.now.part c.look_in_all.new.hand.part c.give_piece.new.hand.part (ready g h none) given.is.ready
              given.is.piece.only;
          -- what refused it in a list refuses the call, and is still in the record
          cause = λ once. let x = looks.cause once.1 in (
            x.0,
            (let a = x.2 in let e = link.is.piece.later.lists in omega arith),
            x.3,
            linked_cause link.counted.table all.counted.table link.is.piece x.0 x.1 c.look_in_all.new.hand.part
                c.give_piece.new.hand.part (kept once.0).0 (record { range = c.args.range; mode = c.args.mode }) c.in-Err-look_in_all.why x.4,
          );
          -- Long comes exactly where the last walk is spent
          long = λ once. spent_kept c.look_in_all.new.hand.part c.give_piece.new.hand.part (kept once.0).1 given.is.piece.later.seats given.is.free
              looks.long;
          fast = tt;
          met = λ own stands some. met_still c.args.hand.now.part.trace.taken c.look_in_all.new.hand.part.trace c.give_piece.new.hand.part.trace
              given.is.piece.later.occupied (met_before c.look_in_all.new.hand.part.trace link.is.piece.later.taken looks.met);
          kept = λ two. inr (let m = looks.more (sym (home_is (inr (two, refl)) c.requires.home)) in
              let a = no_fewer c.args.hand.now.part.trace c.link_piece.new.hand.part.trace link.is.piece.later.occupied in
              let b = no_fewer c.look_in_all.new.hand.part.trace c.give_piece.new.hand.part.trace given.is.piece.later.occupied in omega arith);
          apart = λ own stands j away. apart_after j c.args.hand.now.part c.look_in_all.new.hand.part c.give_piece.new.hand.part
              (apart g h own stands j away) given.is.piece.later.occupied
              (given.is.piece.only j (λ e. away (e ∙ sym (home_is stands c.requires.home))));
          seats = link.is.seats;
        };
      };
      -- the steps of the link, the looks and the mark
      each = λ once k many. let s = steps g h once k many in let b = c.give_piece.ensures.bound in omega arith;
    }
