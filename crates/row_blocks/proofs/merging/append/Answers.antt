use Rattle.std.proofs.Common.{ℕ, ◌≡◌, ◌+◌, ◌*◌, ◌/◌, ◌%◌, List, max, refl, sym, ap, subst, ◌∙◌, arith}
use Rattle.std.specs.Prelude.{slice_index, slice_set}
use Rattle.std.proofs.lemmas.List.{get_or-set_other}
use Rattle.row_blocks.proofs.Settlings.{stands_other}
use Rattle.row_blocks.proofs.Puts.{still_laid, count_stays, body_word_stays, other_block}
use Rattle.row_blocks.proofs.Appends.{is_appended, started_stays, append_only, append_more, append_gap, both}
use Rattle.row_blocks.proofs.Places.{first_loaded, others_loaded}
use Rattle.row_blocks.proofs.merging.append.Goals as goal

-- the head of the upper block is a row
pub exchange-requires-clause-row : goal.exchange-requires-clause-row
exchange-requires-clause-row g c =
    subst (g.W.Loads.is_row c.args.words.now c.load-head.new.hand) (sym c.load-head.ensures.word)
    (c.load-head.ensures.rows _ (first_loaded _ _ (c.args.i + 1) c.requires.laid c.requires.there (g.W.Loads.is_row c.args.words.now c.args.hand.now) _
    (λ w r. c.load-other.ensures.rows w (c.load-packed.ensures.rows w r)) (c.load-other.ensures.words ∙ c.load-packed.ensures.words) c.requires.rows))

-- and so are those of its body, which stand as they stood
pub copy-requires-clause-rows : goal.copy-requires-clause-rows
copy-requires-clause-rows g c =
    let ws = c.args.words.now in
    let nb = c.args.blocks in
    let one = g.W.Loads.words ws c.args.hand.now in
    let same_1 = c.load-packed.ensures.words in
    let same_3 = c.load-head.ensures.words ∙ (c.load-other.ensures.words ∙ same_1) in
    let other = c.load-other.ensures.word ∙ ap (λ (l : List ℕ). slice_index l (128 * nb + 1 + (c.args.i + 1))) same_1 in
    λ m lt.
    let s : ℕ = nb + 127 * (c.load-other.result / 128 % 2048) + m in
    let here : slice_index (g.W.Loads.words ws c.exchange.new.hand) s ≡ slice_index one s =
    started_stays c.args.i c.load-head.result m c.requires.laid c.requires.there c.requires.room same_3 c.load-packed.ensures.word other lt
    c.exchange.ensures.words in
    subst (g.W.Loads.is_row ws c.exchange.new.hand) (sym here)
    (c.exchange.ensures.rows _ (c.load-head.ensures.rows _ (c.load-other.ensures.rows _ (c.load-packed.ensures.rows _
    (others_loaded nb one (c.args.i + 1) c.requires.laid c.requires.there (g.W.Loads.is_row ws c.args.hand.now) (g.W.Loads.is_row ws c.args.hand.now)
    (λ w r. r) refl other c.requires.rows s (omega arith) (omega arith))))))

-- more rows are another body word
pub store_layout-requires-clause-differs : goal.store_layout-requires-clause-differs
store_layout-requires-clause-differs g c =
    let nb = c.args.blocks in
    let body = c.requires.laid.bodies c.args.i (omega arith) in
    let told : ℕ = 128 * nb + 1 + c.args.i in
    let loaded = c.load-head.ensures.words ∙ (c.load-other.ensures.words ∙ c.load-packed.ensures.words) in
    let other = c.load-other.ensures.word ∙ ap (λ (l : List ℕ). slice_index l (128 * nb + 1 + (c.args.i + 1))) c.load-packed.ensures.words in
    let room = c.requires.room in
    let mid = g.W.Loads.words c.args.words.now c.load-head.new.hand in
    let head = ap (λ (l : List ℕ). slice_index l told) c.exchange.ensures.words
    ∙ get_or-set_other mid (nb + 127 * (c.load-packed.result / 128 % 2048) + c.load-packed.result % 128) told c.load-head.result 0 (λ e. omega arith) in
    stands_other _ told loaded c.load-packed.ensures.word (c.copy.ensures.copied.above told (omega arith) ∙ head)
    (λ e. omega (arith, c.max-gap.ensures))

-- what stands after all stores: only the lower block has changed, and has the rows of both
pub returns : goal.returns
returns g c =
    let same_1 = c.load-packed.ensures.words in
    let same_2 = c.load-other.ensures.words ∙ same_1 in
    let same_3 = c.load-head.ensures.words ∙ same_2 in
    let other = c.load-other.ensures.word ∙ ap (λ (l : List ℕ). slice_index l (128 * c.args.blocks + 1 + (c.args.i + 1))) same_1 in
    let head = c.load-head.ensures.word ∙ ap (λ (l : List ℕ). slice_index l (c.args.i + 1)) same_2 in
    let packed = c.load-packed.result in
    let more = c.load-other.result in
    let middle = g.W.Loads.words c.args.words.now c.copy.new.hand in
    let gap : c.max-gap.result ≡ max (packed / 262144) (more / 262144) = omega (arith, c.max-gap.ensures) in
    let stored = c.store_layout.ensures.words
    ∙ (λ j. slice_set middle (128 * c.args.blocks + 1 + c.args.i) (gap j * 262144 + packed % 262144 + (more % 128 + 1))) in
    let done = is_appended same_3 c.load-packed.ensures.word other head c.exchange.ensures.words c.copy.ensures.copied stored in
    let there = c.requires.there in
    let only = append_only c.requires.laid there c.requires.room done in
    let loads = g.W.Loads.steps_on _ _ _ _ (g.W.Loads.steps_on _ _ _ _ c.load-packed.ensures.kept c.load-other.ensures.kept) c.load-head.ensures.kept in
    let rows = g.W.Loads.steps_on _ _ _ _ (g.W.Loads.steps_on _ _ _ _ loads c.exchange.ensures.kept) c.copy.ensures.kept in
    record {
      laid = still_laid c.requires.laid (omega arith) only;
      count = count_stays c.requires.laid (omega arith) only;
      both = both c.requires.laid there c.requires.room done;
      blocks = other_block c.requires.laid (omega arith) only;
      more = append_more c.requires.laid there c.requires.room done;
      gap = append_gap c.requires.laid there c.requires.room done;
      others = body_word_stays c.requires.laid (omega arith) only;
      may = c.store_layout.ensures.may;
      rows = λ w r. c.store_layout.ensures.rows w (c.copy.ensures.rows w (c.exchange.ensures.rows w (c.load-head.ensures.rows w
          (c.load-other.ensures.rows w (c.load-packed.ensures.rows w r)))));
      kept = g.W.Loads.steps_on _ _ _ _ rows c.store_layout.ensures.kept;
      steps = omega arith;
    }
