use Rattle.std.proofs.Common.{ℕ, [], ◌∷◌, ◌≡◌, ◌+◌, refl, sym, ◌∙◌, arith}
use Rattle.std.specs.Prelude.{slice_index}
use Rattle.std.proofs.lemmas.List.Elements.{All-get_or, All-nil, All-cons}
use Rattle.row_blocks.specs.Blocks.{blocks_of, rows_in, rank}
use Rattle.row_blocks.proofs.Steps.{steps_none, steps_more}
use Rattle.row_blocks.proofs.RowSplices.{splice_none, all_come}
use Rattle.row_blocks.proofs.Counts.{count_next, count_up}
use Rattle.row_blocks.proofs.Comings.{comes_on}
use Rattle.row_blocks.proofs.Cuts.{count_told}
use Rattle.row_blocks.proofs.Writes.{all_written}
use Rattle.row_blocks.proofs.Slots.{length-rows_in}
use Rattle.row_blocks.proofs.coming.insert_all.Goals as goal

-- none has come
pub rows-init : goal.rows-init
rows-init g c = record {
  laid = c.requires.laid;
  spliced = sym (splice_none (rows_in c.args.blocks (g.W.Loads.words c.args.words.now c.args.hand.now))
      (rank c.args.blocks (g.W.Loads.words c.args.words.now c.args.hand.now) c.args.at.block c.args.at.place));
  count = refl;
  grown = omega arith;
  others = λ i lt differ. refl;
  all = c.requires.rows;
  high = omega arith;
  stepped = steps_none _ _ _ c.requires.may;
  steps = omega arith;
}

-- the row that comes is a row
pub insert-requires-clause-row : goal.insert-requires-clause-row
insert-requires-clause-row g c =
    c.rows.invariant.stepped.rows (slice_index c.args.more.now c.rows.k)
    (All-get_or (g.W.Loads.is_row c.args.words.now c.args.hand.now) c.args.more.now c.rows.k 0 (omega arith) c.requires.new)

-- one more has come
pub rows-preserved : goal.rows-preserved
rows-preserved g c =
    let ws = c.args.words.now in
    let nb = c.args.blocks in
    let one = g.W.Loads.words ws c.args.hand.now in
    let two = g.W.Loads.words ws c.rows.hand in
    let inv = c.rows.invariant in
    let i = c.args.at.block in
    let k = c.rows.k in
    let w = slice_index c.args.more.now k in
    let r : ℕ = rank nb one i c.args.at.place in
    let call = c.insert.ensures in
    let before = count_told nb one two i (λ j less. inv.others j (omega arith) (λ e. omega arith)) in
    let at : rank nb two i (c.args.at.place + k) ≡ r + k = omega arith in
    let long = length-rows_in nb one c.requires.laid in
    let next = count_next nb one i in
    let up = count_up nb one (i + 1) (blocks_of nb one) (omega arith) in
    let is = All-get_or (g.W.Loads.is_row ws c.args.hand.now) c.args.more.now k 0 (omega arith) c.requires.new in
    let P = g.W.Loads.is_row ws c.rows.hand in
    record {
      laid = call.laid;
      spliced = comes_on (rows_in nb one) c.args.more.now r k (omega arith) (omega arith) inv.spliced call.spliced at refl;
      count = call.count ∙ inv.count;
      grown = omega arith;
      others = λ j less differ. call.others j less differ ∙ inv.others j less differ;
      all = all_written P (g.W.Loads.is_row ws c.insert.new.hand) (rows_in nb two) (w ∷ []) _ _ call.rows call.spliced inv.all
          (All-cons P w [] (inv.stepped.rows w is) (All-nil P));
      high = omega arith;
      stepped = steps_more _ inv.stepped call.may call.rows call.kept;
      steps = omega arith;
    }

-- all have come
pub returns-clause-spliced : goal.returns-clause-spliced
returns-clause-spliced g c =
    let rows = rows_in c.args.blocks (g.W.Loads.words c.args.words.now c.args.hand.now) in
    all_come rows c.args.more.now _ _ _ c.rows.k (omega arith) refl c.rows.invariant.spliced
