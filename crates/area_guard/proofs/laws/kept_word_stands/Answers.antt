use Rattle.area_guard.proofs.Storing.{all_stand_still}
use Rattle.area_guard.proofs.laws.kept_word_stands.Goals as goal

-- no allowed step stores the word
pub returns : goal.returns
returns c = all_stand_still
