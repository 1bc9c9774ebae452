use Rattle.strace_reader.specs.Words.{resumed_head}
use Rattle.strace_reader.specs.Grammar.{NoHead}
use Rattle.strace_reader.proofs.BodyAnswers.{each_name}
use Rattle.strace_reader.proofs.forms.resumed.Goals as goal

-- a text that begins with none of the seven begins as no second half
pub returns : goal.returns
returns c = let m = c.in_default.ensures in each_name (λ name. NoHead resumed_head name c.args.text.now)
    (m.0, m.1, m.2, c.in_default-strip_front-2.ensures, c.in_default-strip_front-3.ensures, c.in_default-strip_front.ensures, m.3)
