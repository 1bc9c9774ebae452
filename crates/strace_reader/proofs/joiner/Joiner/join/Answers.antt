use Rattle.std.proofs.Common.{rules, ◌≡◌, ◌≢◌, List, ◌++◌, ℕ, refl, sym, subst, inl, inr}
use Rattle.strace_reader.specs.Grammar.{Spells, Refuses}
use Rattle.strace_reader.proofs.joiner.Joiner.join.Goals as goal
use Rattle.strace_reader.specs.declared.joiner.FeedFault.{FeedFault}
use Rattle.strace_reader.specs.declared.joiner.FeedFault.TheVariants.{Bad, Memory}
use Rattle.strace_reader.specs.declared.joiner.Joiner.{Joiner}
use Rattle.strace_reader.specs.declared.half.Half.{Half}
use Rattle.strace_reader.specs.declared.item.Name.{Name}
use Rattle.strace_reader.specs.Joiner.{half_of, IsJoinRefusal, IsJoinFault}
use Rattle.std.specs.Prelude.{Some}

fault_of : (j : Joiner) (p : ℕ) (n : Name) (rest half : List ℕ) (k : Half) (fault : FeedFault) → half_of j p ≡ Some k → k.name ≡ n
    → half ≡ k.text.items → IsJoinRefusal (half ++ rest) fault → IsJoinFault j p n rest fault
fault_of j p n rest half k (Bad bad) e same is h = (k, e, same, subst (λ (x : List ℕ). Refuses (x ++ rest) bad) is h)
fault_of j p n rest half k Memory e same is h = tt

-- a half of another name that is held passes two lines over
pub returns-then-ne-clause-answer : goal.returns-then-ne-clause-answer
returns-then-ne-clause-answer c =
    let other : c.in-Some.half.now.name ≢ c.args.name = search rules in inr (inl (c.in-Some.half.now, sym c.in-Some.ensures.value, other, refl))

-- a half of the same name is read with the second half, and that is the answer
pub returns-in-Ok-clause-answer : goal.returns-in-Ok-clause-answer
returns-in-Ok-clause-answer c =
    let a = c.in-Ok.ensures.answer in let same : c.in-Some.half.now.name ≡ c.args.name = search rules in
    inr (inr (
      c.in-Some.half.now,
      a.0,
      sym c.in-Some.ensures.value,
      same,
      subst (λ (x : List ℕ). Spells (x ++ c.args.rest.now) a.0) c.as_slice.ensures.value a.1,
      a.2,
    ))

-- what the joined halves are refused for is what the second half is refused for
pub returns-in-Err-clause-fault : goal.returns-in-Err-clause-fault
returns-in-Err-clause-fault c =
    let same : c.in-Some.half.now.name ≡ c.args.name = search rules in
    fault_of c.args.self.now c.args.pid c.args.name c.args.rest.now c.as_slice.result.now c.in-Some.half.now c.in-Err.fault
    (sym c.in-Some.ensures.value) same c.as_slice.ensures.value c.in-Err.ensures.fault
