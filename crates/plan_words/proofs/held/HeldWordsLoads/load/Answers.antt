use Rattle.std.proofs.Common.{arith}
use Rattle.plan_words.proofs.Knowing.{known_long}
use Rattle.plan_words.proofs.HeldPlaces.{word_reads}
use Rattle.plan_words.proofs.held.HeldWordsLoads.load.Goals as goal

-- the places are few
pub overflow_cast-place : goal.overflow_cast-place
overflow_cast-place c = let long = known_long c.requires.may.0.knows in omega arith

-- and each is one of the words that the seat knows
pub load_word-requires-clause-place : goal.load_word-requires-clause-place
load_word-requires-clause-place c = let long = known_long c.requires.may.0.knows in omega arith

-- the step reads
pub returns-clause-kept : goal.returns-clause-kept
returns-clause-kept c = let r = c.load_word.ensures in word_reads r.writing r.read r.words r.count r.holds.knows
