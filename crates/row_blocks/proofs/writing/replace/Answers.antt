use Rattle.std.proofs.Common.{ℕ, [], ◌≡◌, ◌+◌, ◌-◌, ◌*◌, List, ◌++◌, min, length, take, drop, ap, ◌∙◌, arith}
use Rattle.std.proofs.lemmas.List.{append-nil, take-append-drop, length-take-le, length-drop, take_all}
use Rattle.std.proofs.lemmas.List.Elements.{All-weaker, All-take, All-drop}
use Rattle.row_blocks.specs.Blocks.{blocks_of}
use Rattle.row_blocks.proofs.Lays.{same_layout, rows_long}
use Rattle.row_blocks.proofs.Settlings.{place_in, grows_or_keeps, shrinks_or_keeps}
use Rattle.row_blocks.proofs.Writes.{all_written, laid_then}
use Rattle.row_blocks.proofs.Counts.{count_up}
use Rattle.row_blocks.proofs.KeptGaps.{beside_wide, laid_beside}
use Rattle.row_blocks.proofs.writing.replace.Goals as goal

-- rows that are laid are rows
pub come-requires-clause-rows : goal.come-requires-clause-rows
come-requires-clause-rows g c =
    let P = g.W.Loads.is_row c.args.words.now c.args.hand.now in let lay = c.lay-to.ensures in
    all_written P _ _ _ _ _ lay.rows lay.spliced c.requires.rows (All-take P c.args.gone c.args.more.now c.requires.new)

-- and those that come
pub come-requires-clause-new : goal.come-requires-clause-new
come-requires-clause-new g c =
    let P = g.W.Loads.is_row c.args.words.now c.args.hand.now in
    let more = c.args.more.now in
    let rest : List ℕ = drop c.args.gone more in
    All-weaker P (g.W.Loads.is_row c.args.words.now c.lay-to.new.hand) c.lay-to.ensures.rows (take (length more - c.args.gone) rest)
    (All-take P (length more - c.args.gone) rest (All-drop P c.args.gone more c.requires.new))

-- the place behind those that were laid is in the block that is given
pub returns-then-gone-more-clause-near : goal.returns-then-gone-more-clause-near
returns-then-gone-more-clause-near g c =
    let lay = c.lay-to.ensures in
    let less = c.if-gone-more.true in
    let long = length-take-le c.args.gone c.args.more.now (omega arith) in
    let rank_two = lay.rank in
    place_in lay.there lay.place (omega arith)

-- which is split where rows that come are too many for it
pub returns-then-gone-more-clause-grew : goal.returns-then-gone-more-clause-grew
returns-then-gone-more-clause-grew g c =
    let more = c.args.more.now in
    let gone = c.args.gone in
    let come = c.come.ensures in
    let less = c.if-gone-more.true in
    let same = same_layout c.lay-to.ensures.layout in
    let rest : length (take (length more - gone) (drop gone more)) ≡ length more - gone =
    length-take-le (length more - gone) (drop gone more) (let l = length-drop gone more in omega arith) in
    grows_or_keeps _ _ (omega arith) same.count (same.rows c.lay-to.result.block) rest come.split come.stays

-- others stand over all rows that go, and more have come behind them
pub returns-then-gone-more-clause-spliced : goal.returns-then-gone-more-clause-spliced
returns-then-gone-more-clause-spliced g c =
    let more = c.args.more.now in
    let gone = c.args.gone in
    let u : List ℕ = take gone more in
    let lay = c.lay-to.ensures in
    let fewer = c.if-gone-more.true in
    let fits = c.requires.fits in
    let same = same_layout lay.layout in
    let long : length u ≡ gone = length-take-le gone more (omega arith) in
    let before = same.before c.lay-to.result.block in
    let rank_two = lay.rank in
    let rest : take (length more - gone) (drop gone more) ≡ drop gone more =
    take_all (length more - gone) (drop gone more) (let l = length-drop gone more in omega arith) in
    laid_then _ u (take (length more - gone) (drop gone more)) _ 0 (omega arith) lay.spliced c.come.ensures.spliced (omega arith) (omega arith)
    (omega arith) (ap (λ (l : List ℕ). u ++ l) rest ∙ take-append-drop gone more)

-- rows that are laid are rows
pub cut-requires-clause-rows : goal.cut-requires-clause-rows
cut-requires-clause-rows g c =
    let lay = c.lay-to-2.ensures in all_written _ _ _ _ _ _ lay.rows lay.spliced c.requires.rows c.requires.new

-- there are as many rows as before
pub cut-requires-clause-fits : goal.cut-requires-clause-fits
cut-requires-clause-fits g c =
    let lay = c.lay-to-2.ensures in
    let same = same_layout lay.layout in
    let before = same.before c.lay-to-2.result.block in
    let rank_two = lay.rank in
    let long = rows_long c.requires.laid lay.laid same in
    let fits = c.requires.fits in
    let all = c.if-gone-more.false in
    omega arith

-- the place behind those that were laid is in the block that is given
pub returns-clause-near : goal.returns-clause-near
returns-clause-near g c =
    let lay = c.lay-to-2.ensures in
    let all = c.if-gone-more.false in
    let rank_two = lay.rank in
    place_in lay.there lay.place (omega arith)

-- and blocks go where all of their rows go
pub returns-clause-grew : goal.returns-clause-grew
returns-clause-grew g c =
    let lay = c.lay-to-2.ensures in
    let all = c.if-gone-more.false in
    let same = same_layout lay.layout in
    let before = same.before c.lay-to-2.result.block in
    let rank_two = lay.rank in
    shrinks_or_keeps _ _ _ (omega arith) same.count same.before (omega arith) (omega arith) c.cut.ensures.count c.cut.ensures.went

-- others stand over some rows that go, and the rest has gone
pub returns-clause-spliced : goal.returns-clause-spliced
returns-clause-spliced g c =
    let more = c.args.more.now in
    let lay = c.lay-to-2.ensures in
    let all = c.if-gone-more.false in
    let fits = c.requires.fits in
    let same = same_layout lay.layout in
    let before = same.before c.lay-to-2.result.block in
    let rank_two = lay.rank in
    laid_then _ more [] _ (c.args.gone - length more) (omega arith) lay.spliced c.cut.ensures.spliced (omega arith) (omega arith) (omega arith)
    (append-nil more)

-- the blocks beside those in which rows came tell what they told
pub returns-then-gone-more-clause-beside : goal.returns-then-gone-more-clause-beside
returns-then-gone-more-clause-beside g c =
    let more = c.args.more.now in
    let gone = c.args.gone in
    let nb = c.args.blocks in
    let lay = c.lay-to.ensures in
    let same = same_layout lay.layout in
    let count = same.count in
    let before = same.before c.lay-to.result.block in
    let rank_two = lay.rank in
    let b = c.come.ensures.beside in
    let until = b.until in
    let less = c.if-gone-more.true in
    let long = length-take-le gone more (omega arith) in
    let rest : length (take (length more - gone) (drop gone more)) ≡ length more - gone =
    length-take-le (length more - gone) (drop gone more) (let l = length-drop gone more in omega arith) in
    let one = g.W.Loads.words c.args.words.now c.args.hand.now in
    let mid = g.W.Loads.words c.args.words.now c.lay-to.new.hand in
    let two = g.W.Loads.words c.args.words.now c.come.new.hand in
    let near = c.lay-to.result.block in
    let up = count_up nb two (near + 1 + (blocks_of nb two - blocks_of nb mid)) (near + 1 + (blocks_of nb two - blocks_of nb one) + min 1 (gone - length more))
    (omega arith) in
    laid_beside same (λ k. lay.layout (128 * nb + 1 + k) (omega arith)) (omega arith)
    (beside_wide (near + 1 + (blocks_of nb two - blocks_of nb one) + min 1 (gone - length more)) _ (omega arith) (omega arith) b)

-- and so do those beside the blocks of which rows went
pub returns-clause-beside : goal.returns-clause-beside
returns-clause-beside g c =
    let more = c.args.more.now in
    let gone = c.args.gone in
    let nb = c.args.blocks in
    let lay = c.lay-to-2.ensures in
    let same = same_layout lay.layout in
    let count = same.count in
    let before = same.before c.lay-to-2.result.block in
    let rank_two = lay.rank in
    let b = c.cut.ensures.beside in
    let until = b.until in
    let fewer = c.cut.ensures.count in
    let one = g.W.Loads.words c.args.words.now c.args.hand.now in
    let two = g.W.Loads.words c.args.words.now c.cut.new.hand in
    let near = c.lay-to-2.result.block in
    let up = count_up nb two (near + 1 + min 1 (gone - length more)) (near + 1 + (blocks_of nb two - blocks_of nb one) + min 1 (gone - length more))
    (omega arith) in
    laid_beside same (λ k. lay.layout (128 * nb + 1 + k) (omega arith)) (omega arith)
    (beside_wide (near + 1 + (blocks_of nb two - blocks_of nb one) + min 1 (gone - length more)) _ (omega arith) (omega arith) b)
