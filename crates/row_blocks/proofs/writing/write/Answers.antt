use Rattle.std.proofs.Common.{◌≡◌, ◌+◌, ◌-◌, ◌<◌, ℕ, List, length, ap, sym, subst, ◌∙◌}
use Rattle.std.specs.Prelude.{min}
use Rattle.row_blocks.specs.Blocks.{blocks_of, rank}
use Rattle.row_blocks.specs.Limits.{HasSettled}
use Rattle.row_blocks.proofs.Settlings.{settles}
use Rattle.row_blocks.proofs.Writes.{all_written}
use Rattle.row_blocks.proofs.Steps.{three_steps}
use Rattle.row_blocks.proofs.writing.write.Goals as goal

-- what stands behind the change are rows
pub settle-requires-clause-rows : goal.settle-requires-clause-rows
settle-requires-clause-rows g c =
    let was = c.put-near.ensures in
    let load = c.load-before.ensures in
    let same = rw load.words at was.spliced in
    all_written (g.W.Loads.is_row c.args.words.now c.args.hand.now) _ _ _ _ _ (λ w p. was.rows w (load.rows w p)) same c.requires.rows c.requires.new

-- a block is split, blocks go, or two are merged, or as many blocks stay
pub returns-clause-settled : goal.returns-clause-settled
returns-clause-settled g c =
    let was = c.put-near.ensures in
    let load = c.load-before.ensures in
    let nb = c.args.blocks in
    let ws = c.args.words.now in
    let one = g.W.Loads.words ws c.load-before.new.hand in
    let two = g.W.Loads.words ws c.settle.new.hand in
    let at = c.args.at in
    let gone = c.args.gone in
    let long = length c.args.more.now in
    let counted : c.load-before.result ≡ blocks_of nb one = load.word ∙ ap (blocks_of nb) (sym load.words) in
    let free = subst (λ (l : List ℕ). blocks_of nb l < nb) (sym load.words) c.requires.free in
    let settle = c.settle.ensures in
    let all : HasSettled nb one two (long - gone) (rank nb one at.block at.place + min gone long) (rank nb one at.block at.place + gone) = record {
      block = c.put-near.result;
      place = was.near;
      how = settles free was.laid.spare settle.freed (λ x y. settle.left x (λ e. y (e ∙ counted))) (λ x y. settle.few x (y ∙ sym counted)) settle.many was.grew;
    } in
    subst (λ (l : List ℕ). HasSettled nb l two (long - gone) (rank nb l at.block at.place + min gone long) (rank nb l at.block at.place + gone)) load.words all

pub returns-clause-kept : goal.returns-clause-kept
returns-clause-kept g c = three_steps g.W.Loads _ _ _ _ _ c.load-before.ensures.kept c.put-near.ensures.kept c.settle.ensures.kept

-- each block tells its gap
pub returns-clause-told : goal.returns-clause-told
returns-clause-told g c = c.settle.ensures.told c.put-near.ensures.told
