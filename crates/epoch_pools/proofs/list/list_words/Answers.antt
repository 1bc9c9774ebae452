use Rattle.std.proofs.Common.{arith}
use Rattle.std.proofs.lemmas.Nat.{mul-le}
use Rattle.epoch_pools.proofs.list.list_words.Goals as goal

-- there are few lists, and each has few words
pub returns-clause-few : goal.returns-clause-few
returns-clause-few c = let words = c.lock_word_count.ensures in let few = c.requires.seats.1 in
    mul-le c.args.lists c.lock_word_count.result 17 1041 c.requires.lists (omega arith)
