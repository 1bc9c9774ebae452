use Rattle.std.proofs.Common.{refl, inl, inr, arith}
use Rattle.raw_lines.proofs.MakerFacts.{space_no_digit, x_no_digit}
use Rattle.raw_lines.proofs.makers.plain_result.Goals as goal

-- a space is no digit
pub number_end-requires-clause-mark : goal.number_end-requires-clause-mark
number_end-requires-clause-mark c = let k = space_no_digit in omega arith

-- nor is x
pub number_end-requires-in-None-clause-mark : goal.number_end-requires-in-None-clause-mark
number_end-requires-in-None-clause-mark c = x_no_digit

-- neither form
pub returns-in-None-clause-none : goal.returns-in-None-clause-none
returns-in-None-clause-none c = λ none n h. elim h [ inl d ↦ c.in-None.ensures.none refl n d | inr x ↦ c.number_end-in-None.ensures.none none n x ]
