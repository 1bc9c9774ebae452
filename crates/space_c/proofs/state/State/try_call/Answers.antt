use Rattle.std.proofs.Common.{rules, ◌≡◌, None, sym, subst}
use Rattle.area_guard.specs.Reads.{everything}
use Rattle.space_c.specs.declared.answers.Answer.{Answer}
use Rattle.space_c.specs.declared.shown.GzReply.{GzReply}
use Rattle.space_c.specs.Behind.{IsTried}
use Rattle.space_c.proofs.Making.{barred_of, tried_of}
use Rattle.space_c.proofs.state.State.try_call.Goals as goal

-- what the round came to is what the try answers
pub returns : goal.returns
returns c =
    let free : c.args.self.now.caller.seat.held ≡ None = search rules in
    let t = c.tell.ensures in let o = c.call_once.ensures in
    subst (λ (z : Answer × GzReply). IsTried c.args.asked everything c.args.keep c.args.refused z.1 z.0 c.args.self.now c.call_once.new.self)
    (λ i. (sym t.answer i, sym t.shown i))
    (tried_of c.call_once.result c.in-Some.call everything c.args.keep c.args.refused c.args.self.now c.call_once.new.self c.in-Some.is free
    o.made o.refused o.kept)
