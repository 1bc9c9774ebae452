use Rattle.std.proofs.Common.{arith}
use Rattle.raw_logs.proofs.SieveFacts.{IsNext, is_next, kept_sieve, kept_one, rest_kept}
use Rattle.raw_logs.proofs.lines.Sieve.keep.Goals as goal

-- the text ends within the buffer
pub copy_within-requires-clause-in_bounds : goal.copy_within-requires-clause-in_bounds
copy_within-requires-clause-in_bounds c =
    let to = (is_next c.args.self.now c.index-end.result.now c.requires.is c.requires.left c.index-end.ensures).within in
    let ok = c.args.self.now.bytes.ok.0 in
    omega arith

-- so it does where it moves to
pub copy_within-requires-clause-dest_in_bounds : goal.copy_within-requires-clause-dest_in_bounds
copy_within-requires-clause-dest_in_bounds c =
    let n = is_next c.args.self.now c.index-end.result.now c.requires.is c.requires.left c.index-end.ensures in
    let from = n.from in
    let to = n.within in
    let short = c.requires.is.short in
    let ok = c.args.self.now.bytes.ok.0 in
    omega arith

-- the end of the next text
next : (c : goal.After-self-5-1) → IsNext c.args.self.now c.index-end.result.now
next c = is_next c.args.self.now c.index-end.result.now c.requires.is c.requires.left c.index-end.ensures

-- it stands behind those that were kept
pub returns-clause-is : goal.returns-clause-is
returns-clause-is c = kept_sieve c.copy_within.new.self c.requires.is (next c) c.copy_within.ensures.items

pub returns-clause-kept : goal.returns-clause-kept
returns-clause-kept c = kept_one c.copy_within.new.self c.requires.is (next c) c.copy_within.ensures.items

-- and the others are left
pub returns-clause-rest : goal.returns-clause-rest
returns-clause-rest c = rest_kept c.copy_within.new.self c.requires.is (next c) c.copy_within.ensures.items
