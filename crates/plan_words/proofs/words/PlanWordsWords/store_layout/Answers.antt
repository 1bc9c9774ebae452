use Rattle.std.proofs.Common.{arith}
use Rattle.plan_words.proofs.Knowing.{known_long}
use Rattle.plan_words.proofs.words.PlanWordsWords.store_layout.Goals as goal

-- the places are few
pub overflow_cast-place : goal.overflow_cast-place
overflow_cast-place c = let long = known_long c.requires.may.0.holds.knows in omega arith

-- and each is one of the words that the seat knows
pub store_layout-requires-clause-place : goal.store_layout-requires-clause-place
store_layout-requires-clause-place c = let long = known_long c.requires.may.0.holds.knows in omega arith
