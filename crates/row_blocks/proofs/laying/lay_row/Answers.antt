use Rattle.std.proofs.Common.{ℕ, ◌+◌, List, sym, ap, subst, ◌∙◌, arith}
use Rattle.std.specs.Prelude.{slice_index}
use Rattle.row_blocks.specs.Blocks.{IsLaidOut, rows_in}
use Rattle.row_blocks.proofs.Slots.{IsSlot, slot_below, layout_stays, laid_stored}
use Rattle.row_blocks.proofs.Counts.{set_there}
use Rattle.row_blocks.proofs.laying.lay_row.Given.{Over}
use Rattle.row_blocks.proofs.laying.lay_row.Goals.{After-slot_of-slot}
use Rattle.row_blocks.proofs.laying.lay_row.Goals as goal

-- where the row stands
is_slot : (g : Over) (c : After-slot_of-slot g) → IsSlot c.args.blocks (g.W.Loads.words c.args.words.now c.args.hand.now) c.args.spot.at.block
    c.args.spot.at.place c.slot_of-slot.result
is_slot g c = record {
  there = c.requires.there;
  below = c.requires.place;
  head = c.slot_of-slot.ensures.first;
  body = λ some. c.slot_of-slot.ensures.rest some ∙ ap (λ (x : ℕ). x + c.args.spot.at.place) c.requires.body;
}

pub exchange-requires : goal.exchange-requires
exchange-requires g c =
    let below = slot_below _ _ _ _ _ c.requires.laid (is_slot g (goal.at.exchange-requires g c).After-slot_of-slot) in
    record { may = c.requires.may; slot = omega arith; there = omega arith; row = c.requires.row }

pub returns : goal.returns
returns g c =
    let is = is_slot g (goal.at.returns g c).After-slot_of-slot in
    let laid = c.requires.laid in
    let call = c.exchange.ensures in
    record {
      laid = subst (IsLaidOut c.args.blocks) (sym call.words) (laid_stored _ _ _ _ _ c.args.word laid is);
      laid_row = ap (rows_in c.args.blocks) call.words ∙ set_there c.args.word laid is;
      layout = λ t le. ap (λ (l : List ℕ). slice_index l t) call.words ∙ layout_stays _ _ _ _ _ c.args.word laid is t le;
      may = call.may;
      rows = call.rows;
      kept = call.kept;
      steps = call.steps;
    }
