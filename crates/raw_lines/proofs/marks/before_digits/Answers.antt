use Rattle.raw_lines.proofs.Searches.{digit_worth, other_worth, digits_on, last_other}
use Rattle.raw_lines.proofs.marks.before_digits.Goals as goal

-- one digit more is passed
pub digits-preserved : goal.digits-preserved
digits-preserved c = let i = c.digits.invariant in let last = c.in-Some.last.now in let digit = c.if-not-is_ascii_digit.ensures.cases in
    digits_on c.args.text.now c.digits.left.now c.in-Some.front.now i.0 last i.2 i.1 c.in-Some.ensures.cases.0 (digit_worth last digit.0 digit.1)

-- a byte that is no digit ends them
pub returns-then-not-is_ascii_digit-clause-all : goal.returns-then-not-is_ascii_digit-clause-all
returns-then-not-is_ascii_digit-clause-all c = let last = c.in-Some.last.now in
    last_other c.digits.left.now c.in-Some.front.now last c.in-Some.ensures.cases.0 (other_worth last c.if-not-is_ascii_digit.ensures.cases)
