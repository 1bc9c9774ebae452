use Rattle.std.proofs.Common.{◌∙◌, sym}
use Rattle.std.specs.Prelude.{Some}
use Rattle.row_plans.specs.RowWords.{row_word}
use Rattle.area_rows.proofs.ReplacingRows.{chosen_store}
use Rattle.area_rows.proofs.space.Space.move_start.Goals as goal

-- the word with the new start is that of the change which the caller has chosen
pub store_change-requires-clause-change : goal.store_change-requires-clause-change
store_change-requires-clause-change c = let w = c.requires.store in
    chosen_store c.in-Some.change c.write_row-word.result c.caller.view_is w.1 w.2 c.in-Some.is
    (λ e. c.write_row-word.ensures.word ∙ (λ i. row_word (sym w.3 i) (Some (e i).kind)))
