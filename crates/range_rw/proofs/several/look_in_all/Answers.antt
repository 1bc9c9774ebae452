use Rattle.std.proofs.Common.{ℕ, sym, subst, arith}
use Rattle.range_rw.specs.Looks.{LooksAtAll}
use Rattle.range_rw.proofs.Dues.{home_many, looks_narrow}
use Rattle.range_rw.proofs.several.look_in_all.Goals as goal

-- list 0 holds a wide range
-- so it passes all that it takes
pub returns-then-own-eq0 : goal.returns-then-own-eq0
returns-then-own-eq0 g c = let all = c.pass_all.ensures.looks in record {
  looks = record {
    counted = all.counted;
    is = subst (λ (n : ℕ). LooksAtAll c.args.hand.now.table c.args.list.now.cut n c.args.looks (record { range = c.args.range; mode = c.args.mode })
        c.pass_all.result c.args.hand.now.part c.pass_all.new.hand.part) (sym c.if-own-eq0.true) all.is;
  };
}

-- a narrow one has list 0 to look at
-- and no other
pub returns-else-own-eq0 : goal.returns-else-own-eq0
returns-else-own-eq0 g c = let due = c.requires.due.is in let one = c.look_in.ensures.looks in record {
  looks = record {
    counted = one.counted;
    is = looks_narrow c.if-own-eq0.false (let s = due.home.several in let l = due.lists.shown in omega arith) due.free one.is
        c.look_in.ensures.once (λ k many. home_many due.home due.lists.many due.lists.regions many) c.look_in.ensures.bound c.look_in.ensures.more;
  };
}
