use Rattle.std.proofs.Common.{rules, ◌≡◌, ◌<◌, ◌≤◌, ◌^◌, ◌∙◌, ◌∷◌, arith}
use Rattle.epoch_pools.specs.Beside.{given_back}
use Rattle.marked_list.proofs.Owning.{may_fill_lo, filled_asks}
use Rattle.marked_list.proofs.own.fill.Goals as goal

-- a node that was just taken may be given its lower end
pub step-requires-clause-enabled : goal.step-requires-clause-enabled
step-requires-clause-enabled g c = may_fill_lo c.args.hand.now.part c.args.node c.lo.result c.requires.order

-- the second step asks for the range
pub returns-clause-asked : goal.returns-clause-asked
returns-clause-asked g c = let b = c.hi.ensures.bounds in let l = c.lo.ensures.low in let h = c.hi.ensures.high in
    let less : c.lo.result < c.hi.result = omega arith in let most : c.hi.result ≤ 2 ^ 62 = omega arith in
    filled_asks c.args.hand.now.part c.args.node c.lo.result c.requires.order (given_back g.G.Guard.rested) c.step.new.hand.part c.step.result
    c.hi.result c.args.mode c.step.ensures.made less most c.step-2.new.hand.part c.step-2.result c.step-2.ensures.made
    ∙ (λ i. record { range = record { lo = l i; hi = h i }; mode = c.args.mode } ∷ c.args.hand.now.part.trace.asked)
