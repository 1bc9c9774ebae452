use Rattle.std.proofs.Common.{◌∙◌, subst, arith}
use Rattle.list_cuts.specs.Cut.{Regions, TakesOne, TakesTwo}
use Rattle.list_cuts.proofs.Cutting.{takes_behind, takes_there}
use Rattle.range_rw.proofs.several.home_of.Goals as goal

-- the list that a narrow range takes is one behind list 0, and there
pub returns-in-Some : goal.returns-in-Some
returns-in-Some g c =
    let cut = c.args.list.now.cut in let at = c.in-Some.at in
    let one = subst (λ (x : Regions). TakesOne x c.args.range at) c.cut.ensures c.in-Some.ensures.narrow in
    let there = takes_there cut c.args.range at c.requires.regions one.takes in
    let low = takes_behind cut c.args.range at c.requires.regions (λ e. c.requires.several (c.requires.many ∙ e)) one.takes in
    record {
      several = let m = c.requires.many in omega arith;
      there = let m = c.requires.many in omega arith;
      narrow = λ _. one;
      wide = λ e. absurd (omega arith);
    }

-- and a wide one takes two
pub returns-in-None : goal.returns-in-None
returns-in-None g c =
    let two = subst (λ (x : Regions). TakesTwo x c.args.range) c.cut.ensures (c.only.ensures.wide c.in-None.is) in
    let there = takes_there c.args.list.now.cut c.args.range two.one c.requires.regions two.takes_one in
    record {
      several = let m = c.requires.many in let s = c.requires.several in omega arith;
      there = let m = c.requires.many in omega arith;
      narrow = λ differ. absurd (differ (omega arith));
      wide = λ _. two;
    }
