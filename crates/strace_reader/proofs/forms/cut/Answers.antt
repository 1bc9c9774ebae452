use Rattle.std.proofs.Common.{ℕ, List, refl, subst, sym, inl, inr}
use Rattle.strace_reader.specs.Grammar.{IsBehindSpaces}
use Rattle.strace_reader.proofs.FormFacts.{behind_spaces}
use Rattle.strace_reader.proofs.forms.cut.Goals as goal

-- the body of a line with a prefix is what stands behind the prefix and its spaces
pub returns-in-Some : goal.returns-in-Some
returns-in-Some c = inl (
  c.in-Some.rest.now,
  c.in-Some.ensures,
  subst (λ (x : List ℕ). IsBehindSpaces c.in-Some.rest.now x) (sym c.skip_spaces.ensures) (behind_spaces c.in-Some.rest.now),
)

-- a line with no prefix is its body, of process 0
pub returns-in-None : goal.returns-in-None
returns-in-None c = inr (refl, refl, c.in-None.ensures)
