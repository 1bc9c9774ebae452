use Rattle.std.proofs.Common.{sym, subst}
use Rattle.space_c.specs.declared.answers.Answer.{Answer}
use Rattle.space_c.specs.declared.areas.GzCounts.{GzCounts}
use Rattle.space_c.specs.Spans.{IsAreasTry}
use Rattle.space_c.proofs.Filling.{told_of}
use Rattle.space_c.proofs.state.State.try_areas.Goals as goal

-- what the round came to is what the look answers
pub returns : goal.returns
returns c =
    let t = c.tell_areas.ensures in let o = c.areas_once-seen in let asked = c.args.asked in
    subst (λ (z : Answer × GzCounts). IsAreasTry asked c.args.places.now o.new.places z.1 z.0 c.args.self.now o.new.self)
    (λ i. (sym t.answer i, sym t.shown i))
    (told_of o.result asked c.in-Some.span c.args.places.now o.new.places c.args.self.now o.new.self c.in-Some.ensures.names o.ensures.round o.ensures.saw
    o.ensures.none)
