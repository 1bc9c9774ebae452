use Rattle.std.proofs.Common.{ap, length, arith}
use Rattle.raw_logs.proofs.BufferFacts.{cut_length}
use Rattle.raw_logs.proofs.lines.Lines.at.Goals as goal

-- there is an end for each text
pub text_of-requires-clause-place : goal.text_of-requires-clause-place
text_of-requires-clause-place c =
    let is = c.requires in
    let same = cut_length c.self.inside.first 0 c.self.inside.bytes.items c.self.inside.ends.items in
    let all = ap length c.self.view_is in
    let ends = ap length c.as_slice-2.ensures.value in
    omega arith
