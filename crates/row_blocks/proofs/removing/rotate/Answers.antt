use Rattle.std.proofs.Common.{◌≡◌, subst, arith}
use Rattle.row_blocks.specs.Moves.{IsRotated}
use Rattle.row_blocks.proofs.Steps.{steps_none, steps_more}
use Rattle.row_blocks.proofs.Removals.{rotates_none, rotates_on}
use Rattle.row_blocks.proofs.removing.rotate.Goals as goal

-- nothing has moved yet
pub bodies-init : goal.bodies-init
bodies-init g c = search (arith, rotates_none, steps_none)

-- one body word more has moved down
pub bodies-preserved : goal.bodies-preserved
bodies-preserved g c =
    let inv = c.bodies.invariant in
    let rotated = rotates_on c.requires.some inv.rotated c.swap.ensures.swapped in
    let stepped = steps_more _ inv.stepped c.swap.ensures.may c.swap.ensures.rows c.swap.ensures.kept in
    search arith

-- all have
pub returns-clause-rotated : goal.returns-clause-rotated
returns-clause-rotated g c =
    let ws = c.args.words.now in
    let all : c.bodies.k ≡ c.args.count = omega arith in
    subst (IsRotated c.args.blocks (g.W.Loads.words ws c.args.hand.now) (g.W.Loads.words ws c.bodies.hand) c.args.to c.args.gap) all c.bodies.invariant.rotated
