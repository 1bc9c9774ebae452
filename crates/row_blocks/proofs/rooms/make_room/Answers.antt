use Rattle.std.proofs.Common.{ℕ, List, ◌≡◌, ◌+◌, ◌-◌, ◌∙◌, ap, arith}
use Rattle.std.proofs.lemmas.List.Elements.{All-weaker}
use Rattle.row_blocks.specs.Blocks.{blocks_of, told}
use Rattle.row_blocks.proofs.Steps.{three_steps}
use Rattle.row_blocks.proofs.KeptGaps.{beside_none}
use Rattle.row_blocks.proofs.rooms.make_room.Goals as goal

pub split_near-requires : goal.split_near-requires
split_near-requires g c =
    let body = c.body_of-body.ensures in
    let same = body.words ∙ c.load-count.ensures.words in
    record {
      blocks = c.requires.blocks;
      few = c.requires.few;
      may = body.may;
      laid = rw same c.requires.laid;
      rows = rw same (All-weaker (g.W.Loads.is_row c.args.words.now c.args.hand.now) (g.W.Loads.is_row c.args.words.now c.body_of-body.new.hand)
          (λ w p. body.stay w (c.load-count.ensures.rows w p)) _ c.requires.rows);
      there = rw same c.requires.there;
      place = rw same c.requires.place;
      rows_told = rw body.words body.rows;
      big = omega arith;
      free = rw same c.requires.free;
      short = rw same c.requires.short;
    }

pub returns-clause-same : goal.returns-clause-same
returns-clause-same g c = let same = c.body_of-body.ensures.words ∙ c.load-count.ensures.words in rw same at c.split_near.ensures.same

pub returns-clause-rank : goal.returns-clause-rank
returns-clause-rank g c = let same = c.body_of-body.ensures.words ∙ c.load-count.ensures.words in rw same at c.split_near.ensures.rank

-- all steps are one
pub returns-clause-kept : goal.returns-clause-kept
returns-clause-kept g c = three_steps g.W.Loads _ _ _ _ _ c.load-count.ensures.kept c.body_of-body.ensures.kept c.split_near.ensures.kept

-- the blocks beside it tell what they told
pub returns-clause-beside : goal.returns-clause-beside
returns-clause-beside g c = let same = c.body_of-body.ensures.words ∙ c.load-count.ensures.words in rw same at c.split_near.ensures.beside

pub returns-then-body-more-clause-beside : goal.returns-then-body-more-clause-beside
returns-then-body-more-clause-beside g c =
    let same = c.body_of-body.ensures.words ∙ c.load-count.ensures.words in
    let nb = c.args.blocks in
    beside_none c.args.at.block _ 0 (ap (blocks_of nb) same) (λ k. ap (λ (l : List ℕ). told nb l k) same) (omega arith)
