use Rattle.std.proofs.lemmas.Bool.Decides.{Decides-eqb}
use Rattle.std.proofs.lemmas.Slice.Eq.{strip_suffix_is}
use Rattle.strace_reader.proofs.forms.strip_back.Goals as goal

-- what is left stands before the word, and where nothing is given the text doesn't end with it
pub returns : goal.returns
returns c = strip_suffix_is Decides-eqb c.args.text.now c.args.word.now c.strip_suffix.result c.strip_suffix.ensures.cases
