use Rattle.std.proofs.Common.{rules}
use Rattle.raw_lines.proofs.MendFacts.{word_yes, word_no}
use Rattle.raw_lines.proofs.mends.mend_word.Goals as goal

-- the word at the place of the refusal is mended
pub returns-in-Ok : goal.returns-in-Ok
returns-in-Ok c =
    let s = c.split_at.ensures in
    word_yes c.args.text.now c.split_at.result.0.now c.split_at.result.1.now c.in-Ok.field-0-0.now c.in-Ok.back.now c.args.bad (search rules)
    s.by_index.0 s.front_len c.requires.1 c.in-Ok.ensures

-- where none stands there nothing is mended
pub returns-in-Err : goal.returns-in-Err
returns-in-Err c = let s = c.split_at.ensures in
    word_no c.args.text.now c.split_at.result.0.now c.split_at.result.1.now c.args.bad _ s.by_index.0 s.front_len c.requires.1 c.in-Err.ensures
