use Rattle.raw_lines.proofs.LineFacts.{front_of}
use Rattle.raw_lines.proofs.plain.split.Goals as goal

-- what stands before the body is what is left when as many bytes are cut off as it has
pub returns : goal.returns
returns c = (c.cut.result.0, c.cut.ensures, front_of c.args.text.now c.cut.result.0 c.cut.result.1.now c.cut.ensures)
