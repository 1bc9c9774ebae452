use Rattle.std.proofs.Common.{arith, sym, ◌∙◌}
use Rattle.line_parts.proofs.LineLemmas.{lines_found, lines_none}
use Rattle.line_parts.proofs.lines.next_line.Goals as goal

-- the bytes before the newline that was found are the first line
pub returns-in-Some-clause-line : goal.returns-in-Some-clause-line
returns-in-Some-clause-line c =
    let found = c.in-Some.ensures in lines_found c.args.text.now c.in-Some.at found.0.high found.1 (λ k below. found.0.before k (omega arith) below)

-- a text without a newline is its one line
pub returns-in-None-clause-line : goal.returns-in-None-clause-line
returns-in-None-clause-line c = lines_none c.args.text.now (sym c.is_empty.ensures ∙ c.if-is_empty.false) (λ k below. c.in-None.ensures k (omega arith) below)
