use Rattle.std.proofs.Common.{◌≡◌, ◌≢◌, ℕ, List, ◌++◌, codes}
use Rattle.strace_reader.proofs.FormFacts.{either_way}
use Rattle.raw_lines.specs.Fields.{IsSince}
use Rattle.raw_lines.proofs.RunFacts.{since_no_clock, since_no_end, since_yes}
use Rattle.raw_lines.proofs.fields.since.Goals as goal

-- where no clock stands behind the parenthesis and the spaces, there is no such time
pub returns-in_err-left : goal.returns-in_err-left
returns-in_err-left c = rw c.from_residual-in_err-left.ensures
    (since_no_clock c.args.text.now c.in_ok-rest.rest.now c.skip_spaces.result.now c.in_ok-rest.ensures c.skip_spaces.ensures c.in_err-left.ensures)

-- behind the clock the parenthesis is closed, or there is no such time
pub returns : goal.returns
returns c =
    let text = c.args.text.now in let rest = c.in_ok-rest.rest.now in let left = c.in_ok-left.left.now in
    let k = c.in_ok-left.ensures in
    either_way c.strip_front-2.result ((x : List ℕ) → left ≢ codes ")" ++ x) ((front other : List ℕ) → IsSince front → text ≡ front ++ other → ⊥)
    (λ x. left ≡ codes ")" ++ x.now) (λ x. (front : List ℕ) × IsSince front × (text ≡ front ++ x.now))
    (since_no_end text rest c.skip_spaces.result.now k.0 left c.in_ok-rest.ensures c.skip_spaces.ensures k.1 k.2 k.3)
    (λ x e. since_yes text rest c.skip_spaces.result.now k.0 left x.now c.in_ok-rest.ensures c.skip_spaces.ensures k.1 k.2 e) c.strip_front-2.ensures
