use Rattle.std.proofs.Common.{rules, ◌++◌, arith}
use Rattle.std.proofs.lemmas.List.{length-append}
use Rattle.raw_lines.specs.Plain.{IsTaken}
use Rattle.raw_lines.proofs.LineFacts.{taken_short}
use Rattle.raw_lines.proofs.plain.taken.Goals as goal

-- what is left isn't longer than the line
pub returns-clause-short : goal.returns-clause-short
returns-clause-short c =
    let front = c.split.result.0.now in let left = c.untimed.result.now in
    let t : IsTaken c.args.text.now (front ++ left) = search rules in
    let k = taken_short c.args.text.now (front ++ left) t in let l = length-append front left in omega arith
