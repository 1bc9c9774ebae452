use Rattle.std.proofs.Common.{is_some}
use Rattle.std.proofs.lemmas.Bool.Decides.{Decides-at}
use Rattle.raw_lines.proofs.MakerFacts.{holds_is}
use Rattle.raw_lines.proofs.makers.holds.Goals as goal

-- the word is held where it is found
pub returns : goal.returns
returns c = Decides-at c.is_some.result (is_some c.find.result) c.is_some.ensures (holds_is c.args.text.now c.args.word.now c.find.result c.find.ensures)
