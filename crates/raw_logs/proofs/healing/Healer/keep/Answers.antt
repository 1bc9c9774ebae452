use Rattle.std.proofs.Common.{ap, ◌∙◌}
use Rattle.raw_logs.specs.Log.{line_of}
use Rattle.raw_logs.specs.Stages.{part_of}
use Rattle.raw_logs.proofs.HealedLines.{kept_made}
use Rattle.raw_logs.proofs.healing.Healer.keep.Goals as goal

-- the text is written
pub returns-clause-made : goal.returns-clause-made
returns-clause-made c =
    kept_made (part_of c.args.self.now) c.args.number c.args.text.now _ c.args.self.now.written _ _
    (ap (line_of c.in_ok-part.part.number) c.as_slice.ensures.value
    ∙ c.in_ok-part.ensures.part) c.in_ok-part.ensures.written c.in_ok-add.ensures.made
