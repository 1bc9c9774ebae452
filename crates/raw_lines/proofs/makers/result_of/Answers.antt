use Rattle.std.proofs.Common.{ℕ, List, sym, subst, ◌∙◌, codes, inl, inr, arith}
use Rattle.std.proofs.lemmas.List.{append_cancel_right}
use Rattle.raw_lines.specs.Numbers.{EndsInNumber}
use Rattle.raw_lines.specs.Makers.{outer_words}
use Rattle.raw_lines.proofs.MakerFacts.{space_no_digit, if_some}
use Rattle.raw_lines.proofs.makers.result_of.Goals as goal

-- a space is no digit
pub number_end-requires-clause-mark : goal.number_end-requires-clause-mark
number_end-requires-clause-mark c = let k = space_no_digit in omega arith

-- the number before strace's words
pub returns-in-Some-clause-some : goal.returns-in-Some-clause-some
returns-in-Some-clause-some c = if_some _ _ _ (λ n h. inl (c.in-Some.front.now, c.in-Some.ensures, h)) c.number_end.ensures.some

-- there is none
pub returns-in-Some-clause-none : goal.returns-in-Some-clause-none
returns-in-Some-clause-none c = λ none n h. elim h [
  | inl x ↦ c.number_end.ensures.none none n
      (subst (λ (y : List ℕ). EndsInNumber 10 (codes "/*") 32 y n) (append_cancel_right x.0 c.in-Some.front.now outer_words (sym x.1 ∙ c.in-Some.ensures)) x.2)
  | inr y ↦ y.0 (c.in-Some.front.now, c.in-Some.ensures)
]

-- a result without those words
pub returns-in-None-clause-some : goal.returns-in-None-clause-some
returns-in-None-clause-some c = if_some _ _ _ (λ n h. inr (λ e. c.in-None.ensures e.0 e.1, h)) c.plain_result.ensures.some

-- there is none
pub returns-in-None-clause-none : goal.returns-in-None-clause-none
returns-in-None-clause-none c = λ none n h. elim h [ inl x ↦ c.in-None.ensures x.0 x.1 | inr y ↦ c.plain_result.ensures.none none n y.1 ]
