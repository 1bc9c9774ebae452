use Rattle.std.proofs.Common.{◌-◌, length, take, drop, sym, ap, ◌∙◌, arith}
use Rattle.raw_logs.specs.Log.{line_of}
use Rattle.raw_logs.specs.Buffer.{shown}
use Rattle.raw_logs.proofs.SieveFacts.{is_next, next_line}
use Rattle.raw_logs.proofs.lines.Sieve.next.Goals as goal

-- the text ends within the buffer
pub between-requires-clause-behind : goal.between-requires-clause-behind
between-requires-clause-behind c =
    let to = (is_next c.args.self.now c.index-end.result.now c.requires.is c.requires.left c.index-end.ensures).within in
    let n = ap length c.as_slice.ensures.value in
    omega arith

-- it is the first of those that are left
pub returns : goal.returns
returns c = λ line more is.
    let end = c.index-end.result.now in
    let n = is_next c.args.self.now end c.requires.is c.requires.left c.index-end.ensures in
    next_line n is
    ∙ sym (ap (line_of end.number) (c.in_ok-text.ensures ∙ ap (shown c.args.self.now.first end.numbered) (c.between.ensures
    ∙ ap (λ x. take (end.behind - c.args.self.now.from) (drop c.args.self.now.from x)) c.as_slice.ensures.value)))
