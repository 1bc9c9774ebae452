use Rattle.plan_words.proofs.Storing.{may_load_word, word_loaded}
use Rattle.plan_words.proofs.steps.load_word.Goals as goal

-- the guard allows the load of a word while everything is held
pub load_as_uncounted-requires-clause-allowed : goal.load_as_uncounted-requires-clause-allowed
load_as_uncounted-requires-clause-allowed c = let s = c.args.seat.now in let h = c.requires.holds in
    may_load_word s.number h.held h.knows c.args.place c.requires.place

-- it was one step, which found the word that the seat knew
pub returns : goal.returns
returns c =
    let l = word_loaded c.load_as_uncounted.new.seat c.requires.holds c.args.place c.load_as_uncounted.result c.requires.place
    c.load_as_uncounted.ensures.call c.load_as_uncounted.ensures.made in
    record { word = l.word; words = l.words; count = l.count; read = l.read; holds = l.step.holds; writing = l.step.writing; taken = l.step.taken }
