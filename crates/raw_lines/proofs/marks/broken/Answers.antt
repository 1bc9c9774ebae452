use Rattle.std.proofs.Common.{◌≡◌, ◌≢◌, ℕ, List, ◌++◌, codes}
use Rattle.strace_reader.proofs.FormFacts.{either_way}
use Rattle.raw_lines.specs.Marks.{IsBroken}
use Rattle.raw_lines.proofs.MarkFacts.{broken_no_verb, broken_at, broken_yes}
use Rattle.raw_lines.proofs.marks.broken.Goals as goal

-- where no verb ends the line no message broke into it
pub returns-in_err-numbered : goal.returns-in_err-numbered
returns-in_err-numbered c = rw c.from_residual.ensures (broken_no_verb c.args.text.now c.in_err-numbered.ensures.0 c.in_err-numbered.ensures.1)

-- where no digit stands before the verb neither
pub returns-then-front-numbered : goal.returns-then-front-numbered
returns-then-front-numbered c = λ f h.
    let d = c.before_digits-front.ensures.digits in
    (broken_at c.args.text.now c.in_ok-numbered.numbered.now c.before_digits-front.result.now d.0 f c.in_ok-numbered.ensures d.2 d.1
    c.before_digits-front.ensures.all h).long c.if-front-numbered.true

-- before the digits the message's words stand, or none broke into the line
pub returns : goal.returns
returns c =
    let text = c.args.text.now in let numbered = c.in_ok-numbered.numbered.now in
    let front = c.before_digits-front.result.now in let d = c.before_digits-front.ensures.digits in
    either_way c.strip_back.result ((f : List ℕ) → front ≢ f ++ codes "strace: Process ") ((f : List ℕ) → IsBroken text f → ⊥)
    (λ x. front ≡ x.now ++ codes "strace: Process ") (λ x. IsBroken text x.now)
    (λ none f h. none f (broken_at text numbered front d.0 f c.in_ok-numbered.ensures d.2 d.1 c.before_digits-front.ensures.all h).words)
    (λ x e. broken_yes text numbered front x.now d.0 c.in_ok-numbered.ensures d.2 d.1 c.if-front-numbered.false e) c.strip_back.ensures
