use Rattle.std.proofs.Common.{arith}
use Rattle.std.proofs.lemmas.Bool.{ltb-true, ltb-false}
use Rattle.raw_logs.proofs.SieveFacts.{text_left, none_left}
use Rattle.raw_logs.proofs.lines.Sieve.has_next.Goals as goal

-- an end is left
pub returns-clause-left : goal.returns-clause-left
returns-clause-left c = λ is.
    let sieve = c.args.self.now in
    let ok = sieve.ends.ok.0 in
    let less = ltb-true sieve.place c.len.result is in
    text_left sieve.first sieve.from sieve.bytes.items sieve.ends.items sieve.place (omega arith)

-- none is
pub returns-clause-none : goal.returns-clause-none
returns-clause-none c = λ is.
    let sieve = c.args.self.now in
    let ok = sieve.ends.ok.0 in
    let less = ltb-false sieve.place c.len.result is in
    none_left sieve.first sieve.from sieve.bytes.items sieve.ends.items sieve.place (omega arith)
