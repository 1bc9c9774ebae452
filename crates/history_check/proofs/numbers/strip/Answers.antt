use Rattle.std.proofs.lemmas.Bool.Decides.{Decides-eqb}
use Rattle.std.proofs.lemmas.Slice.Eq.{strip_prefix_is}
use Rattle.history_check.proofs.WordsBack.{strip_is}
use Rattle.history_check.proofs.numbers.strip.Goals as goal

-- what is left behind the word
pub returns : goal.returns
returns c = strip_is (λ x. x.now) c.args.word.now c.args.text.now c.strip_prefix.result
    (strip_prefix_is Decides-eqb c.args.text.now c.args.word.now c.strip_prefix.result c.strip_prefix.ensures.cases)
