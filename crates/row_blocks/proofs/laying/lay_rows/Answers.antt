use Rattle.std.proofs.Common.{ℕ, ◌+◌, ◌<◌, List, length, refl, ap, ◌∙◌, arith, rules}
use Rattle.std.specs.Prelude.{slice_index}
use Rattle.std.proofs.lemmas.List.Elements.{All-get_or}
use Rattle.row_blocks.specs.Blocks.{rows_in, rank}
use Rattle.row_blocks.proofs.Steps.{steps_none, steps_more}
use Rattle.row_blocks.proofs.RowSplices.{all_come}
use Rattle.row_blocks.proofs.Lays.{SameLayout, IsSpot, same_layout, spot_now, spot_on, spot_below, lays_none, laid_more, next_below, lay_steps}
use Rattle.row_blocks.proofs.laying.lay_rows.Given.{Over}
use Rattle.row_blocks.proofs.laying.lay_rows.Goals.{In-rows}
use Rattle.row_blocks.proofs.laying.lay_rows.Goals as goal

-- while rows are laid the layout is that of the beginning
same : (g : Over) (c : In-rows g) → SameLayout c.args.blocks (g.W.Loads.words c.args.words.now c.args.hand.now) (g.W.Loads.words c.args.words.now c.rows.hand)
same g c = same_layout c.rows.invariant.layout

-- and the place behind those that are laid is one of now
spot : (g : Over) (c : In-rows g) → IsSpot c.args.blocks (g.W.Loads.words c.args.words.now c.rows.hand) c.rows.spot.at.block c.rows.spot.at.place
    c.rows.spot.body.at c.rows.spot.body.rows
    (rank c.args.blocks (g.W.Loads.words c.args.words.now c.args.hand.now) c.args.from.at.block c.args.from.at.place + c.rows.k)
spot g c = spot_now (same g c) c.rows.invariant.spot

-- nothing is laid yet
pub rows-init : goal.rows-init
rows-init g c = record {
  laid = c.requires.laid;
  spliced = lays_none c.args.blocks (g.W.Loads.words c.args.words.now c.args.hand.now) c.args.more.now
      (rank c.args.blocks (g.W.Loads.words c.args.words.now c.args.hand.now) c.args.from.at.block c.args.from.at.place);
  layout = λ t le. refl;
  spot = record { there = c.requires.there; place = c.requires.place; body = c.requires.body; count = c.requires.count; rank = omega arith };
  on = omega arith;
  high = omega arith;
  stepped = steps_none _ _ _ c.requires.may;
  steps = omega arith;
}

-- its block is there, its body stands there, and a row stands behind it
pub go_on-here-requires : goal.go_on-here-requires
go_on-here-requires g c =
    let h = (goal.at.go_on-here-requires g c).In-rows in
    let lt : c.rows.k < length c.args.more.now = search rules in
    let s = spot g h in
    record {
      few = c.requires.few;
      may = c.rows.invariant.stepped.may;
      laid = c.rows.invariant.laid;
      there = s.there;
      place = s.place;
      body = s.body;
      count = s.count;
      more = spot_below (rank c.args.blocks (g.W.Loads.words c.args.words.now c.args.hand.now) c.args.from.at.block c.args.from.at.place) c.rows.k
          (length c.args.more.now) c.requires.laid c.rows.invariant.laid (same g h) s lt c.requires.fits;
    }

pub lay_row-requires-clause-laid : goal.lay_row-requires-clause-laid
lay_row-requires-clause-laid g c = rw c.go_on-here.ensures.words c.rows.invariant.laid

pub lay_row-requires-clause-there : goal.lay_row-requires-clause-there
lay_row-requires-clause-there g c = rw c.go_on-here.ensures.words c.go_on-here.ensures.there

pub lay_row-requires-clause-place : goal.lay_row-requires-clause-place
lay_row-requires-clause-place g c = rw c.go_on-here.ensures.words c.go_on-here.ensures.place

pub lay_row-requires-clause-body : goal.lay_row-requires-clause-body
lay_row-requires-clause-body g c = rw c.go_on-here.ensures.words c.go_on-here.ensures.body

pub lay_row-requires-clause-row : goal.lay_row-requires-clause-row
lay_row-requires-clause-row g c =
    let w = slice_index c.args.more.now c.rows.k in
    c.go_on-here.ensures.rows w (c.rows.invariant.stepped.rows w
    (All-get_or (g.W.Loads.is_row c.args.words.now c.args.hand.now) c.args.more.now c.rows.k 0 (omega arith) c.requires.more))

-- one row more is laid
pub rows-preserved : goal.rows-preserved
rows-preserved g c =
    let h = (goal.at.rows-preserved g c).In-rows in
    let inv = c.rows.invariant in
    let lt : c.rows.k < length c.args.more.now = search rules in
    let to = c.go_on-here.result in
    let go = c.go_on-here.ensures in
    let here = go.rank ∙ (spot g h).rank in
    let laid = rw go.words at c.lay_row.ensures.laid_row in
    record {
      laid = c.lay_row.ensures.laid;
      spliced = laid_more c.args.blocks _ _ _ c.args.more.now _ c.rows.k (next_below _ c.rows.k _ _ lt c.requires.fits) lt inv.spliced laid here refl;
      layout = λ t le. c.lay_row.ensures.layout t le ∙ (ap (λ (l : List ℕ). slice_index l t) go.words ∙ inv.layout t le);
      spot = spot_on to.at.place _ c.rows.k (same g h) go.there go.place go.body go.count here;
      on = let on = inv.on in let from = go.from in omega arith;
      high = search rules;
      stepped = steps_more _ (steps_more _ inv.stepped go.may go.rows go.kept) c.lay_row.ensures.may c.lay_row.ensures.rows c.lay_row.ensures.kept;
      steps = lay_steps _ _ _ _ _ _ _ _ inv.steps go.steps c.lay_row.ensures.steps;
    }

-- all are laid
pub returns-clause-spliced : goal.returns-clause-spliced
returns-clause-spliced g c =
    let rows = rows_in c.args.blocks (g.W.Loads.words c.args.words.now c.args.hand.now) in
    let r : ℕ = rank c.args.blocks (g.W.Loads.words c.args.words.now c.args.hand.now) c.args.from.at.block c.args.from.at.place in
    all_come rows c.args.more.now r (r + c.rows.k) (r + length c.args.more.now) c.rows.k (omega arith) (omega arith) c.rows.invariant.spliced
