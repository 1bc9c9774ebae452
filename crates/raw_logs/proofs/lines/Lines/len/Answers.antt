use Rattle.std.proofs.Common.{ap, length, arith}
use Rattle.raw_logs.proofs.BufferFacts.{cut_length}
use Rattle.raw_logs.proofs.lines.Lines.len.Goals as goal

-- there is a text for each end
pub returns : goal.returns
returns c =
    let count = c.self.inside.ends.ok.0 in
    let same = cut_length c.self.inside.first 0 c.self.inside.bytes.items c.self.inside.ends.items in
    let all = ap length c.self.view_is in
    omega arith
