use Rattle.std.proofs.Common.{refl}
use Rattle.strace_reader.proofs.FormFacts.{half_yes}
use Rattle.strace_reader.proofs.forms.first_half.Goals as goal

-- what is kept is what stands before the spaces and the ending, and its bytes are counted
pub returns-in-Some : goal.returns-in-Some
returns-in-Some c =
    let t = c.trim.ensures in (c.trim.result.now, half_yes c.args.text.now c.in-Some.front.now c.trim.result.now t.0 c.in-Some.ensures t.2 t.1 t.3, refl)

-- a text without the ending doesn't end as a first half
pub returns-in-None : goal.returns-in-None
returns-in-None c = λ h. c.in-None.ensures h.0 h.1
