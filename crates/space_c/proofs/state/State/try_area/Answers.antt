use Rattle.std.proofs.Common.{sym, subst}
use Rattle.space_c.specs.declared.answers.Answer.{Answer}
use Rattle.space_c.specs.declared.looks.GzArea.{GzArea}
use Rattle.space_c.specs.declared.looks.GzSpan.{GzSpan}
use Rattle.space_c.specs.Looks.{IsAreaTry}
use Rattle.space_c.proofs.Looking.{looked_of}
use Rattle.space_c.proofs.state.State.try_area.Goals as goal

-- what the round came to is what the look answers
pub returns : goal.returns
returns c =
    let t = c.tell_look.ensures in let o = c.area_once-seen.ensures in let asked = c.args.asked in
    subst (λ (z : Answer × (GzSpan × GzArea)). IsAreaTry asked.page asked.named asked.refused z.1.0 z.1.1 z.0 c.args.self.now c.area_once-seen.new.self)
    (λ i. (sym t.answer i, (sym t.next i, sym t.shown i)))
    (looked_of c.area_once-seen.result asked.page asked.named c.around_of-wide.result asked.refused c.args.self.now c.area_once-seen.new.self o.round
    c.around_of-wide.ensures o.found o.none)
