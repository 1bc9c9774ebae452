use Rattle.std.proofs.Common.{arith}
use Rattle.raw_lines.proofs.MakerFacts.{space_no_digit, if_some}
use Rattle.raw_logs.proofs.AttachedLines.{attached_no_verb, attached_by, attached_to}
use Rattle.raw_logs.proofs.numbering.attached.Goals as goal

-- no verb at the end
pub returns-in_err-front-clause-none : goal.returns-in_err-front-clause-none
returns-in_err-front-clause-none c = λ none. attached_no_verb c.args.line.now c.in_err-front.ensures

-- a space is no digit
pub number_end-requires-clause-mark : goal.number_end-requires-clause-mark
number_end-requires-clause-mark c = let k = space_no_digit in omega arith

-- the number before the verb
pub returns-clause-some : goal.returns-clause-some
returns-clause-some c = if_some _ _ _ (λ n h. attached_by c.args.line.now c.in_ok-front.front.now n c.in_ok-front.ensures h) c.number_end.ensures.some

-- there is none
pub returns-clause-none : goal.returns-clause-none
returns-clause-none c = λ none n h.
    c.number_end.ensures.none none n (attached_to c.args.line.now c.in_ok-front.front.now n c.in_ok-front.ensures h)
