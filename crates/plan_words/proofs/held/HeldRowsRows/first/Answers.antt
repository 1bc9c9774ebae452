use Rattle.std.proofs.Common.{refl, sym, arith}
use Rattle.plan_words.proofs.HeldPlaces.{number_known}
use Rattle.plan_words.proofs.held.HeldRowsRows.first.Goals as goal

-- the head of the first block has the number 0
pub returns : goal.returns
returns c = λ hand may. sym (number_known hand.pass refl (record { block = 0; place = 0 }) may.knows.blocks.laid.some (omega arith))
