use Rattle.std.proofs.lemmas.Bool.Decides.{Decides-eqb}
use Rattle.std.proofs.lemmas.Slice.Eq.{strip_prefix_is}
use Rattle.strace_reader.proofs.forms.strip_front.Goals as goal

-- what is left stands behind the word, and where nothing is given the text doesn't begin with it
pub returns : goal.returns
returns c = strip_prefix_is Decides-eqb c.args.text.now c.args.word.now c.strip_prefix.result c.strip_prefix.ensures.cases
