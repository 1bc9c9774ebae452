use Rattle.std.proofs.Common.{rules, ◌≡◌, None}
use Rattle.lock_core.specs.Range.{IsRange}
use Rattle.c_handles.specs.Asked.{mode_for}
use Rattle.range_c.specs.Behind.{IsTriedIn}
use Rattle.range_c.proofs.Tries.{tried_for}
use Rattle.range_c.proofs.state.State.try_asked.Goals as goal

-- the tries for the range with these ends are those that the call asks for
asked_tries : (c : goal.After-try_up_to) → IsTriedIn c.args.asked.lo c.args.asked.hi c.args.asked.writer c.args.asked.tries c.try_up_to.result.1
    c.try_up_to.result.0 c.args.self.now c.try_up_to.new.self
asked_tries c =
    let lo : c.in-Ok.range.lo ≡ c.args.asked.lo = search rules in
    let hi : c.in-Ok.range.hi ≡ c.args.asked.hi = search rules in
    let mode : c.mode_of.result ≡ mode_for c.args.asked.writer = search rules in
    let is : IsRange c.args.asked.lo c.args.asked.hi = search rules in
    let free : c.args.self.now.seat.held ≡ None = search rules in
    tried_for c.in-Ok.range c.args.asked.writer c.args.asked.tries c.try_up_to.result.1 c.try_up_to.result.0 lo hi mode is free c.try_up_to.ensures.kept
    c.try_up_to.ensures.answer

pub returns-clause-made : goal.returns-clause-made
returns-clause-made c = asked_tries c

pub returns-clause-tried : goal.returns-clause-tried
returns-clause-tried c = (c.try_up_to.result.1, asked_tries c)
