use Rattle.std.proofs.Common.{◌∙◌, sym}
use Rattle.line_parts.specs.declared.refusal.What.TheVariants.{Word}
use Rattle.line_parts.specs.Leaves.{is_capital, is_word_byte}
use Rattle.line_parts.proofs.Leaves.{taken_shorter, run_cut, run_missing, capital_is_word}
use Rattle.line_parts.proofs.bytes.word.Goals as goal

-- what is left behind the word isn't longer than the text
pub slice_bounds-result-count : goal.slice_bounds-result-count
slice_bounds-result-count c = rw c.skip_word_bytes-rest.ensures (taken_shorter is_word_byte c.args.text.now)

-- the word is cut off where the bytes of a word end, and the rest is left
pub returns : goal.returns
returns c = run_cut is_capital is_word_byte Word c.args.text.now c.skip_word_bytes-rest.result.now capital_is_word
    (sym c.begins_capital.ensures ∙ c.if-not-begins_capital.false) c.skip_word_bytes-rest.ensures

-- a text that begins with no capital is refused at its front
pub returns-then-not-begins_capital : goal.returns-then-not-begins_capital
returns-then-not-begins_capital c = run_missing is_capital is_word_byte Word c.args.text.now (sym c.begins_capital.ensures ∙ c.if-not-begins_capital.true)
