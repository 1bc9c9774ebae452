use Rattle.std.proofs.lemmas.Bool.Decides.{Decides-eqb}
use Rattle.std.proofs.lemmas.Slice.Eq.{starts_is}
use Rattle.history_check.proofs.rest.begins_with.Goals as goal

-- the result says whether the text begins with the word
pub returns : goal.returns
returns c = let k = starts_is Decides-eqb c.args.text.now c.args.word.now c.starts_with.result c.starts_with.ensures.value in
    (λ h. (_, k.0 h), λ h. k.1 h.0 h.1)
