use Rattle.std.proofs.Common.{◌≡◌, ℕ, suc, ◌+◌, ◌-◌, ◌*◌, ◌≤◌, inl, sym, ap, ◌∙◌, arith}
use Rattle.lock_core.specs.declared.range.Held.{Held}
use Rattle.list_cuts.proofs.Cutting.{takes_there}
use Rattle.std.proofs.Math.Nat.{mul-suc}
use Rattle.range_rw.specs.Contract.{StandsIn}
use Rattle.range_rw.proofs.Dues.{home_many}
use Rattle.range_rw.proofs.Meeting.{fast_few, fast_more, err_any}
use Rattle.range_rw.proofs.Pieces.{is_there, err_on, err_free, ok_if, ready_at_home}
use Rattle.range_rw.proofs.Choosing.{Here, free_sweeps, here_call, here_ready, here_cause, here_only, ready_here, one_home}
use Rattle.range_rw.proofs.TakenLists.{takes_first}
use Rattle.range_rw.proofs.several.try_hold.Goals as goal

-- the hand may try in its list
pub try_range-requires : goal.try_range-requires
try_range-requires g c = let free = c.requires.free in
    record { free = record { table = free.table; is = free_sweeps c.args.hand.now.part free.is.free } }

-- with one list the try is the list's
pub returns-then-lists-eq1 : goal.returns-then-lists-eq1
returns-then-lists-eq1 g c =
    let tried = c.try_range.ensures.tried in let asked : Held = record { range = c.args.range; mode = c.args.mode } in let cut = c.args.list.now.cut in
    let p = c.args.hand.now.part in let q = c.try_range.new.hand.part in let may = c.requires.free.is in
    let h : Here p q = record { free = may.free; later = tried.is.later } in
    let there = is_there c.list.ensures.list c.list.ensures.there in let one = sym may.lists.shown ∙ c.if-lists-eq1.true in
    let one_list = sym may.lists.many ∙ c.if-lists-eq1.true in
    let home : (own : ℕ) → StandsIn cut c.args.range own → p.pass.list ≡ own = λ own stands. one_home cut c.args.range may.lists.regions one_list
    (let z : p.pass.list ≡ 0 = omega arith in z) stands in record {
      tried = record {
        counted = tried.counted;
        is = record {
          call = here_call h cut asked there one (takes_first cut c.args.range may.lists.regions one_list c.lo.ensures.bounds.0) tried.is.asks
              tried.is.held tried.is.free;
          gets = tried.is.gets;
          -- the list's ready nodes are as before or without the first, and there is no other list
          ready = λ _. here_ready h tried.is.ready;
          -- the cause of a refusal is that of the try
          cause = λ once. err_on _ _ c.try_range.result (here_cause h c.args.hand.now.table c.args.hand.now.table cut (λ i. c.args.hand.now.table) there
              asked (inl (omega arith))) (tried.is.cause once.0);
          long = λ _. tried.is.long;
          -- its steps are five, or it met another; and each other list is as before
          fast = ok_if c.try_range.result (λ quick f k many some. fast_more p q (fast_few p q (f (ready_here h some))) (omega arith)) tried.is.fast;
          met = err_free c.try_range.result (λ f own stands some. f (ready_at_home p (home own stands) some)) tried.is.met;
          -- with one list no range takes two
          kept = err_any c.try_range.result (λ two. absurd (let a = takes_there cut c.args.range two.one may.lists.regions two.takes_one in
              let b = takes_there cut c.args.range two.two may.lists.regions two.takes_two in two.differ (omega arith)));
          apart = λ own stands j away. inl (here_only h j (λ e. away (e ∙ home own stands)));
          seats = tried.is.seats;
        };
      };
      -- its steps are few
      each = λ once k _. let b = c.try_range.ensures.bound once.0 in omega arith;
    }

-- the steps of a try that takes so many lists: at least one
pub returns-clause-each : goal.returns-clause-each
returns-clause-each g c = λ once k many. let n = c.args.hand.now.part.seats in let cut = c.args.list.now.cut in
    let s = c.seats.ensures.some in let y = c.seats.ensures.seats in
    let more : 1 ≤ k = home_many c.home_of-own.ensures c.requires.free.is.lists.many c.requires.free.is.lists.regions many in
    let whole : k ≡ suc (k - 1) = omega arith in
    let product : (55 + 193 * n) * k ≡ (55 + 193 * n) * (k - 1) + (55 + 193 * n) = ap (λ m. (55 + 193 * n) * m) whole ∙ mul-suc (55 + 193 * n) (k - 1) in
    let b = c.hold_in.ensures.each once k many in omega arith
