use Rattle.std.proofs.Common.{ℕ, List, ap, ◌∙◌}
use Rattle.std.specs.Prelude.{slice_index}
use Rattle.std.proofs.lemmas.List.Elements.{All-weaker}
use Rattle.row_blocks.proofs.laying.lay.Goals as goal

pub lay_rows-requires : goal.lay_rows-requires
lay_rows-requires g c =
    let same = c.body_of-body.ensures.words in
    record {
      blocks = c.requires.blocks;
      few = c.requires.few;
      may = c.body_of-body.ensures.may;
      laid = rw same c.requires.laid;
      there = rw same c.requires.there;
      place = rw same c.requires.place;
      body = rw same c.body_of-body.ensures.at;
      count = rw same c.body_of-body.ensures.rows;
      fits = rw same c.requires.fits;
      more = All-weaker (g.W.Loads.is_row c.args.words.now c.args.hand.now) (g.W.Loads.is_row c.args.words.now c.body_of-body.new.hand)
          c.body_of-body.ensures.stay c.args.more.now c.requires.more;
    }

pub returns-clause-spliced : goal.returns-clause-spliced
returns-clause-spliced g c = rw c.body_of-body.ensures.words at c.lay_rows.ensures.spliced

pub returns-clause-layout : goal.returns-clause-layout
returns-clause-layout g c = λ t le. c.lay_rows.ensures.layout t le ∙ ap (λ (l : List ℕ). slice_index l t) c.body_of-body.ensures.words

pub returns-clause-there : goal.returns-clause-there
returns-clause-there g c = rw c.body_of-body.ensures.words at c.lay_rows.ensures.there

pub returns-clause-place : goal.returns-clause-place
returns-clause-place g c = rw c.body_of-body.ensures.words at c.lay_rows.ensures.place

pub returns-clause-rank : goal.returns-clause-rank
returns-clause-rank g c = rw c.body_of-body.ensures.words at c.lay_rows.ensures.rank
