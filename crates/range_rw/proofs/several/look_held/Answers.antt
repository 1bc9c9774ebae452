use Rattle.std.proofs.Common.{true, sym, ap, ◌∙◌, subst}
use Rattle.epoch_pools.specs.declared.views.Standing.{Standing}
use Rattle.epoch_pools.specs.declared.views.Standing.TheVariants.{Narrow}
use Rattle.epoch_pools.specs.Passing.{after_look_at, HoldsToo}
use Rattle.range_rw.specs.Looks.{standing_for}
use Rattle.range_rw.proofs.Calls.{counted_look_at}
use Rattle.range_rw.proofs.Dues.{standing_wide, standing_narrow}
use Rattle.range_rw.proofs.several.look_held.Goals as goal

-- a wide range has passed all below `up`
pub returns-then-own-eq0 : goal.returns-then-own-eq0
returns-then-own-eq0 g c = let done = c.pass_held.ensures in record {
  look = counted_look_at c.args.at true (standing_for c.args.own c.args.up) done.table
      (done.part ∙ ap (λ (s : Standing). after_look_at c.args.at true s c.args.hand.now.part)
      (sym (standing_wide c.args.own c.args.up c.if-own-eq0.true))) done.counted;
}

-- a narrow one, which the hand's list holds, counts
pub returns-else-own-eq0 : goal.returns-else-own-eq0
returns-else-own-eq0 g c = let done = c.count_held.ensures in record {
  look = counted_look_at c.args.at true (standing_for c.args.own c.args.up) done.table
      (done.part ∙ ap (λ (s : Standing). after_look_at c.args.at true s c.args.hand.now.part)
      (ap Narrow c.requires.may.is.turned ∙ sym (standing_narrow c.args.own c.args.up c.if-own-eq0.false))) done.counted;
}

-- list 0 is the one that a narrow range looks at
pub count_held-requires-clause-too : goal.count_held-requires-clause-too
count_held-requires-clause-too g c = subst (HoldsToo c.args.hand.now.part) (c.requires.may.is.first c.if-own-eq0.false) c.requires.too
