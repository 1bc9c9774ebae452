use Rattle.std.proofs.Common.{arith, ℕ, ap, ◌∙◌}
use Rattle.std.specs.Ordering.{is_gt}
use Rattle.std.specs.Range.{range_inclusive_start, range_inclusive_end}
use Rattle.raw_logs.proofs.HomeFacts.{pair_le, range_is, range_last, range_none}
use Rattle.raw_logs.specs.Stages.{pair_cmp}
use Rattle.raw_logs.proofs.spaces.last_home.Goals as goal

-- the range doesn't run backwards
pub range-found-requires : goal.range-found-requires
range-found-requires c =
    ap (λ (q : ℕ × ℕ). is_gt (pair_cmp q (range_inclusive_end c.new.result))) c.new.ensures.start
    ∙ ap (λ (q : ℕ × ℕ). is_gt (pair_cmp (c.args.pid, 0) q)) c.new.ensures.end
    ∙ pair_le c.args.pid 0 c.args.place (omega arith)

pub returns-in-Some : goal.returns-in-Some
returns-in-Some c =
    range_last c.args.homes.now c.args.pid c.args.place c.range-found.result c.next_back.new.self
    (c.in-Some.field-0-0.now, c.in-Some.home.now)
    (range_is c.args.homes.now c.args.pid c.args.place (range_inclusive_start c.new.result) (range_inclusive_end c.new.result)
    c.range-found.result c.new.ensures.start c.new.ensures.end (c.range-found.ensures.in_range c.new.ensures.exhausted))
    c.in-Some.ensures.steps

pub returns-in-None : goal.returns-in-None
returns-in-None c =
    range_none c.args.homes.now c.args.pid c.args.place c.range-found.result
    (range_is c.args.homes.now c.args.pid c.args.place (range_inclusive_start c.new.result) (range_inclusive_end c.new.result)
    c.range-found.result c.new.ensures.start c.new.ensures.end (c.range-found.ensures.in_range c.new.ensures.exhausted))
    c.in-None.ensures.steps.0
