use Rattle.std.proofs.Common.{ℕ, List, ◌≡◌, ◌+◌, ◌-◌, ◌*◌, ◌<◌, ◌≤◌, ◌∙◌, length, min, sym, ap, subst, arith}
use Rattle.std.specs.Prelude.{All}
use Rattle.page_types.specs.declared.TheConstants.{LIMIT}
use Rattle.row_plans.specs.RowWords.{row_start}
use Rattle.row_blocks.specs.Blocks.{blocks_of, rows_in, rank, count_to}
use Rattle.row_blocks.specs.Gaps.{IsBeside}
use Rattle.row_blocks.proofs.RowSplices.{all_spliced}
use Rattle.row_blocks.proofs.KeptGaps.{gaps_kept, rows_same, count_still, laid_same, rows_in_same}
use Rattle.row_blocks.proofs.Tells.{each_low}
use Rattle.row_blocks.proofs.Puttings.{one_more, replaces_by, touched_before, touched_rows}
use Rattle.row_blocks.proofs.Steps.{three_steps}
use Rattle.row_blocks.proofs.writing.put.Given.{Over}
use Rattle.row_blocks.proofs.writing.put.Goals.{After-end_touched-end}
use Rattle.row_blocks.proofs.writing.put.Goals as goal

-- the blocks beside those that are told anew tell what they told
beside : (g : Over) (c : After-end_touched-end g) → IsBeside c.args.blocks (g.W.Loads.words c.args.words.now c.args.hand.now)
    (g.W.Loads.words c.args.words.now c.replace-near.new.hand) c.replace-near.result c.end_touched-end.result
    (rank c.args.blocks (g.W.Loads.words c.args.words.now c.args.hand.now) c.args.at.block c.args.at.place + length c.args.more.now)
beside g c =
    let nb = c.args.blocks in
    let one = g.W.Loads.words c.args.words.now c.args.hand.now in
    let two = g.W.Loads.words c.args.words.now c.replace-near.new.hand in
    let after : c.load-after.result ≡ blocks_of nb two = c.load-after.ensures.word in
    let before = c.requires.before in
    let end : c.end_touched-end.result
    ≡ c.replace-near.result + 1 + (blocks_of nb two - blocks_of nb one) + min 1 (c.args.gone - length c.args.more.now) =
    c.end_touched-end.ensures
    ∙ (λ j. c.replace-near.result + 1 + (after j - before j) + min 1 (c.args.gone - length c.args.more.now)) in
    subst (λ (e : ℕ). IsBeside nb one two c.replace-near.result e (rank nb one c.args.at.block c.args.at.place + length c.args.more.now)) (sym end)
    c.replace-near.ensures.beside

-- they are few
few : (g : Over) (c : After-end_touched-end g) → (c.end_touched-end.result ≤ c.replace-near.result + 2)
    × (c.first_touched-first.result ≤ c.replace-near.result)
few g c =
    let nb = c.args.blocks in
    let one = g.W.Loads.words c.args.words.now c.args.hand.now in
    let two = g.W.Loads.words c.args.words.now c.replace-near.new.hand in
    let was = c.replace-near.ensures in
    let more = one_more (length c.args.more.now) c.args.gone was.grew in
    let after : c.load-after.result ≡ blocks_of nb two = c.load-after.ensures.word in
    let before = c.requires.before in
    let end = c.end_touched-end.ensures in
    (omega arith, omega arith)

-- no row starts above the limit
low : (g : Over) (c : After-end_touched-end g) → All (λ w. row_start w ≤ LIMIT)
    (rows_in c.args.blocks (g.W.Loads.words c.args.words.now c.replace-near.new.hand))
low g c =
    let P = λ (w : ℕ). row_start w ≤ LIMIT in
    subst (All P) (sym c.replace-near.ensures.spliced) (all_spliced P _ c.args.more.now _ _ c.requires.low c.requires.low_new)

-- so all gaps but theirs are told
pub tell_gaps-requires : goal.tell_gaps-requires
tell_gaps-requires g c =
    let h = (goal.at.tell_gaps-requires g c).After-end_touched-end in
    let nb = c.args.blocks in
    let one = g.W.Loads.words c.args.words.now c.args.hand.now in
    let two = g.W.Loads.words c.args.words.now c.replace-near.new.hand in
    let was = c.replace-near.ensures in
    let load = c.load-after.ensures in
    let end = c.end_touched-end.ensures in
    let spare = c.requires.laid.spare in
    let close = few g h in
    let most = close.0 in
    let first = close.1 in
    let near = was.near.there in
    let touched = c.first_touched-first.ensures in
    let but = gaps_kept c.requires.laid was.laid (beside g h) (rank nb one c.args.at.block c.args.at.place)
    (rank nb one c.args.at.block c.args.at.place + c.args.gone) c.args.more.now (omega arith) c.requires.fits was.spliced (omega arith) c.requires.told
    c.first_touched-first.result first (touched_before nb one touched.most touched.least touched.begins) in
    record {
      blocks = c.requires.blocks;
      few = c.requires.few;
      may = load.may;
      laid = rw load.words was.laid;
      low = rw load.words (each_low (rows_in nb two) (low g h));
      ordered = omega arith;
      within = omega arith;
      but = rw load.words but;
    }

-- the words are the same but for these gaps
pub returns : goal.returns
returns g c =
    let h = (goal.at.returns g c).After-end_touched-end in
    let nb = c.args.blocks in
    let was = c.replace-near.ensures in
    let load = c.load-after.ensures in
    let tell = c.tell_gaps.ensures in
    let same = rw load.words at tell.same in
    let count = count_still same in
    let touched = c.first_touched-first.ensures in
    let most = (few g h).0 in
    let rows = touched_rows c.args.gone (length c.args.more.now) (beside g h) most was.near touched.most touched.least (few g h).1 c.requires.place in
    let steps = rw load.words at tell.steps in
    let near = was.near.there in
    let spare = c.requires.laid.spare in
    let first = rows_same same 0 in
    record {
      laid = laid_same same was.laid;
      spliced = rows_in_same same was.laid ∙ was.spliced;
      near = was.near;
      grew = replaces_by count was.grew;
      short = omega (arith, was.short);
      told = tell.told;
      may = tell.may;
      rows = λ w r. tell.rows w (load.rows w (was.rows w r));
      kept = three_steps g.W.Loads _ _ _ _ _ was.kept load.kept tell.kept;
      steps = omega (arith, was.steps, load.step);
      none_went = λ fewer. let none = was.none_went (omega arith) in omega (arith, load.step);
    }
