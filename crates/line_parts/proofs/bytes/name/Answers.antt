use Rattle.std.proofs.Common.{◌∙◌, sym}
use Rattle.line_parts.specs.Leaves.{is_word_byte}
use Rattle.line_parts.proofs.Leaves.{taken_shorter, run_cut, run_missing}
use Rattle.line_parts.proofs.bytes.name.Goals as goal

-- what is left behind the name isn't longer than the text
pub slice_bounds-result-count : goal.slice_bounds-result-count
slice_bounds-result-count c = rw c.skip_word_bytes-rest.ensures (taken_shorter is_word_byte c.args.text.now)

-- the name is cut off where the bytes of a name end, and the rest is left
pub returns : goal.returns
returns c = run_cut is_word_byte is_word_byte c.args.due c.args.text.now c.skip_word_bytes-rest.result.now (λ b h. h)
    (sym c.begins_word_byte.ensures ∙ c.if-not-begins_word_byte.false) c.skip_word_bytes-rest.ensures

-- a text that begins with no byte of a name is refused at its front
pub returns-then-not-begins_word_byte : goal.returns-then-not-begins_word_byte
returns-then-not-begins_word_byte c = run_missing is_word_byte is_word_byte c.args.due c.args.text.now
    (sym c.begins_word_byte.ensures ∙ c.if-not-begins_word_byte.true)
