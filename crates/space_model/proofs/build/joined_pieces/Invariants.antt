use Rattle.std.proofs.Common.{◌≡◌, ◌≤◌, [], drop, length}
use Rattle.space_model.specs.Building.{join_all}
use Rattle.space_model.proofs.build.joined_pieces.Given as goal

-- with the pieces that are left the list is the whole one
abbrev pub invariant-loop-piece : goal.invariant-loop-piece
invariant-loop-piece l =
    (join_all l.list.items (drop l.piece-index l.pieces) ≡ join_all [] l.pieces) × (length l.list.items ≤ l.piece-index)
