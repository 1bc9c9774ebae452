use Rattle.std.proofs.Common.{◌-◌, length, take, drop, get_or, false, sym, ap, ◌∙◌, arith}
use Rattle.raw_logs.specs.Log.{line_of}
use Rattle.raw_logs.specs.Buffer.{shown}
use Rattle.raw_logs.proofs.BufferFacts.{cut_text, start_within}
use Rattle.raw_logs.proofs.lines.text_of.Goals as goal

-- a text begins no later than it ends
pub between-requires-clause-from : goal.between-requires-clause-from
between-requires-clause-from c =
    let k = start_within 0 (length c.args.bytes.now) c.args.ends.now c.args.place (record { number = 0; behind = 0; numbered = false })
    c.requires.ends c.requires.place in
    let from = k.0 in
    let is = c.start_of-from.ensures in
    omega arith

-- and ends within the buffer
pub between-requires-clause-behind : goal.between-requires-clause-behind
between-requires-clause-behind c =
    (start_within 0 (length c.args.bytes.now) c.args.ends.now c.args.place (record { number = 0; behind = 0; numbered = false })
    c.requires.ends c.requires.place).1

-- it is the text at the place
pub returns : goal.returns
returns c =
    let end = get_or c.args.ends.now c.args.place (record { number = 0; behind = 0; numbered = false }) in
    ap (line_of end.number)
    (c.in_ok-text.ensures ∙ ap (shown c.args.first end.numbered)
    (c.between.ensures ∙ ap (λ n. take (end.behind - n) (drop n c.args.bytes.now)) c.start_of-from.ensures))
    ∙ sym (cut_text c.args.first 0 c.args.bytes.now c.args.ends.now c.args.place (line_of end.number c.in_ok-text.text.now)
    (record { number = 0; behind = 0; numbered = false }) c.requires.place)
