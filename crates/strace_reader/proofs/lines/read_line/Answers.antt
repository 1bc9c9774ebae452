use Rattle.std.proofs.Common.{Ok, Err, sym, ◌∙◌, arith}
use Rattle.strace_reader.proofs.FormFacts.{cut_length}
use Rattle.strace_reader.proofs.BodyAnswers.{BodyAnswers}
use Rattle.strace_reader.proofs.LineAnswers.{LineAnswers, body_fits, blank_line, read_body_line, refused_body_line, empty_line, full_line}
use Rattle.strace_reader.proofs.lines.read_line.Goals as goal

-- an empty text is an empty line, and nothing else
pub returns-then-is_empty : goal.returns-then-is_empty
returns-then-is_empty c = let a = blank_line c.args.text.now (empty_line c.args.text.now (sym c.is_empty.ensures ∙ c.if-is_empty.true)) in
    record { found = a.found; only = a.only; refused = a.refused; only_there = a.only_there; named = a.named }

-- what is kept of a body isn't longer than the body
pub item-requires-clause-fits : goal.item-requires-clause-fits
item-requires-clause-fits c = body_fits c.cut-pid.result.1.now c.in-Ok.found c.in-Ok.ensures.found

-- a body isn't longer than its line
pub item-requires-clause-within : goal.item-requires-clause-within
item-requires-clause-within c = cut_length c.args.text.now c.cut-pid.result.0 c.cut-pid.result.1.now c.cut-pid.ensures

-- a line is the item of what its body was read as, and nothing else
pub returns-in-Ok : goal.returns-in-Ok
returns-in-Ok c =
    let text = c.args.text.now in let body = c.cut-pid.result.1.now in let e = c.in-Ok.ensures in
    let b : BodyAnswers body (Ok c.in-Ok.found) =
    record { found = e.found; only = e.only; refused = tt; only_there = e.only_there; named = e.named; within = tt } in
    let a : LineAnswers text (Ok c.item.result) = rw c.item.ensures (read_body_line text body c.cut-pid.result.0 c.in-Ok.found
    (full_line text (sym c.is_empty.ensures ∙ c.if-is_empty.false)) c.cut-pid.ensures b) in
    record { found = a.found; only = a.only; refused = a.refused; only_there = a.only_there; named = a.named }

-- no more bytes are left at a refusal than the line has
pub overflow_sub-result : goal.overflow_sub-result
overflow_sub-result c =
    let k = cut_length c.args.text.now c.cut-pid.result.0 c.cut-pid.result.1.now c.cut-pid.ensures in let l = c.in-Err.ensures.within in omega arith

-- a line is refused where its body is, and is nothing
pub returns-in-Err : goal.returns-in-Err
returns-in-Err c =
    let text = c.args.text.now in let body = c.cut-pid.result.1.now in let e = c.in-Err.ensures in
    let b : BodyAnswers body (Err c.in-Err.refusal) =
    record { found = tt; only = e.only; refused = e.refused; only_there = e.only_there; named = tt; within = e.within } in
    let a = refused_body_line text body c.cut-pid.result.0 c.in-Err.refusal
    (full_line text (sym c.is_empty.ensures ∙ c.if-is_empty.false)) c.cut-pid.ensures b in
    record { found = a.found; only = a.only; refused = a.refused; only_there = a.only_there; named = a.named }
