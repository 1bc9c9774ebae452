use Rattle.std.proofs.Common.{◌≡◌, ◌∙◌, ◌++◌, ℕ, ap, arith}
use Rattle.row_blocks.specs.Blocks.{pieces, block, blocks_of}
use Rattle.row_blocks.proofs.Fills.{gathered_next, room_next}
use Rattle.row_blocks.proofs.filling.gather.Goals as goal

-- there is room for one block more
pub gather_block-requires-clause-room : goal.gather_block-requires-clause-room
gather_block-requires-clause-room c = let few = room_next c.args.out.now.items c.next.i c.requires.laid (omega arith) c.next.invariant.all in omega arith

-- it is read
pub next-preserved : goal.next-preserved
next-preserved c =
    let inv = c.next.invariant in
    record {
      high = omega arith;
      all = gathered_next c.args.blocks c.args.words.now c.args.out.now.items c.next.i inv.all c.gather_block.ensures.rows;
      capacity = c.gather_block.ensures.room ∙ inv.capacity;
    }

-- all are
pub returns-clause-same : goal.returns-clause-same
returns-clause-same c =
    let all : c.next.i ≡ blocks_of c.args.blocks c.args.words.now = omega arith in
    c.next.invariant.all ∙ ap (λ (n : ℕ). c.args.out.now.items ++ pieces (block c.args.blocks c.args.words.now) n) all
