use Rattle.std.proofs.Common.{ℕ, ◌≡◌, ◌+◌, ◌-◌, ◌*◌, ◌/◌, ◌%◌, ◌∙◌, ap, sym, subst, arith, rules, List}
use Rattle.std.specs.Prelude.{slice_index}
use Rattle.std.proofs.lemmas.Grind.{common_steps}
use Rattle.row_blocks.specs.Blocks.{body_at}
use Rattle.std.proofs.lemmas.List.{get_or-set_other}
use Rattle.row_blocks.proofs.Splits.{HasRead, layout_still, split_copied, lower_stays, split_done, laid_split, rows_split, split_lower, split_upper}
use Rattle.row_blocks.proofs.Places.{head_is_row, body_is_row, others_loaded}
use Rattle.row_blocks.proofs.splitting.split.Given.{Over}
use Rattle.row_blocks.proofs.splitting.split.Goals.{After-load-free, After-load-head}
use Rattle.row_blocks.proofs.splitting.split.Goals as goal

-- what the loads found, among the words of before
loaded : (g : Over) (c : After-load-free g) → HasRead c.args.blocks (g.W.Loads.words c.args.words.now c.args.hand.now)
    (g.W.Loads.words c.args.words.now c.load-free.new.hand) c.args.i c.load-packed.result c.load-count.result c.load-free.result
loaded g c =
    let same_1 = c.load-count.ensures.words in
    let same_2 = c.load-packed.ensures.words ∙ same_1 in
    record {
      same = c.load-free.ensures.words ∙ same_2;
      read = c.load-packed.ensures.word ∙ ap (λ (l : List ℕ). slice_index l (128 * c.args.blocks + 1 + c.args.i)) same_1;
      counted = c.load-count.ensures.word;
      freed = c.load-free.ensures.word ∙ ap (λ (l : List ℕ). slice_index l (128 * c.args.blocks + 1 + c.load-count.result)) same_2;
    }

-- a word that was a row is one still
row_still : (g : Over) (c : After-load-head g) (w : ℕ) → g.W.Loads.is_row c.args.words.now c.args.hand.now w
    → g.W.Loads.is_row c.args.words.now c.load-head.new.hand w
row_still g c w r =
    c.load-head.ensures.rows w (c.copy.ensures.rows w (c.load-free.ensures.rows w (c.load-packed.ensures.rows w (c.load-count.ensures.rows w r))))

-- what is copied is a row
pub copy-requires-clause-rows : goal.copy-requires-clause-rows
copy-requires-clause-rows g c =
    let ws = c.args.words.now in let nb = c.args.blocks in let found = loaded g (goal.at.copy-requires-clause-rows g c).After-load-free in
    λ m lt. others_loaded nb _ c.args.i c.requires.laid c.requires.there (g.W.Loads.is_row ws c.args.hand.now) (g.W.Loads.is_row ws c.load-free.new.hand)
    (λ w r. c.load-free.ensures.rows w (c.load-packed.ensures.rows w (c.load-count.ensures.rows w r))) found.same found.read c.requires.rows
    (nb + 127 * (c.load-packed.result / 128 % 2048) + c.args.place + m) (omega arith) (omega arith)

-- so is the head of the upper half
pub raise-requires-clause-row : goal.raise-requires-clause-row
raise-requires-clause-row g c =
    let h = goal.at.raise-requires-clause-row g c in let found = loaded g h.After-load-free in
    let ws = c.args.words.now in
    let nb = c.args.blocks in
    let one = g.W.Loads.words ws c.args.hand.now in
    let i = c.args.i in
    let laid = c.requires.laid in
    let copied = split_copied found c.args.place c.copy.ensures.copied in
    let at : ℕ = body_at nb one i + (c.args.place - 1) in
    let here : c.load-head.result ≡ slice_index one at = c.load-head.ensures.word
    ∙ (ap (λ (x : ℕ). slice_index (g.W.Loads.words ws c.copy.new.hand) (nb + 127 * (x / 128 % 2048) + (c.args.place - 1))) found.read
    ∙ lower_stays i c.args.place (c.args.place - 1) laid c.requires.there c.requires.free (omega arith) copied) in
    subst (g.W.Loads.is_row ws c.load-head.new.hand) (sym here) (row_still g h.After-load-head _
    (body_is_row nb one i laid c.requires.there (g.W.Loads.is_row ws c.args.hand.now) c.requires.rows at (omega arith) (omega arith)))

-- and the heads behind
pub raise-requires-clause-rows : goal.raise-requires-clause-rows
raise-requires-clause-rows g c =
    let h = goal.at.raise-requires-clause-rows g c in let ws = c.args.words.now in
    let one = g.W.Loads.words ws c.args.hand.now in
    λ s from until.
    let here : slice_index (g.W.Loads.words ws c.load-head.new.hand) s ≡ slice_index one s = ap (λ (l : List ℕ). slice_index l s) c.load-head.ensures.words
    ∙ (c.copy.ensures.copied.below s (omega arith) ∙ ap (λ (l : List ℕ). slice_index l s) (loaded g h.After-load-free).same) in
    subst (g.W.Loads.is_row ws c.load-head.new.hand) (sym here) (row_still g h.After-load-head _
    (head_is_row _ one s c.requires.laid (omega arith) (g.W.Loads.is_row ws c.args.hand.now) c.requires.rows))

-- the lower half's body word is another one
pub store_layout-requires-clause-differs : goal.store_layout-requires-clause-differs
store_layout-requires-clause-differs g c =
    let h = goal.at.store_layout-requires-clause-differs g c in
    let nb = c.args.blocks in
    let told : ℕ = 128 * nb + 1 + c.args.i in
    let found = loaded g h.After-load-free in
    let still = layout_still found _ _ c.args.place _ _ told c.requires.laid c.requires.free (omega arith) c.copy.ensures.copied c.load-head.ensures.words
    c.raise.ensures.pushed c.raise_layout.ensures.pushed (omega arith) in
    λ e. let read = found.read in let within = c.requires.place in omega arith

-- and there is one block more
pub store_layout-requires-2-clause-differs : goal.store_layout-requires-2-clause-differs
store_layout-requires-2-clause-differs g c =
    let h = goal.at.store_layout-requires-2-clause-differs g c in
    let ws = c.args.words.now in
    let nb = c.args.blocks in
    let place : ℕ = 128 * nb in
    let found = loaded g h.After-load-free in
    let still = layout_still found _ _ c.args.place _ _ place c.requires.laid c.requires.free (omega arith) c.copy.ensures.copied c.load-head.ensures.words
    c.raise.ensures.pushed c.raise_layout.ensures.pushed (omega arith) in
    let less = ap (λ (l : List ℕ). slice_index l place) c.store_layout.ensures.words
    ∙ get_or-set_other (g.W.Loads.words ws c.raise_layout.new.hand) (128 * nb + 1 + c.args.i) place _ 0 (λ e. omega arith) in
    λ e. let counted = found.counted in omega arith

-- what stands then: the same rows, in one block more
pub returns : goal.returns
returns g c =
    let found = loaded g (goal.at.returns g c).After-load-free in
    let d = split_done found c.requires.laid c.requires.there c.requires.free c.requires.some c.requires.place
    c.copy.ensures.copied c.load-head.ensures.words c.load-head.ensures.word c.raise.ensures.pushed c.raise_layout.ensures.pushed
    c.store_layout.ensures.words c.store_layout-2.ensures.words in
    let loads = g.W.Loads.steps_on _ _ _ _ (g.W.Loads.steps_on _ _ _ _ c.load-count.ensures.kept c.load-packed.ensures.kept) c.load-free.ensures.kept in
    let copied = g.W.Loads.steps_on _ _ _ _ (g.W.Loads.steps_on _ _ _ _ loads c.copy.ensures.kept) c.load-head.ensures.kept in
    let raised = g.W.Loads.steps_on _ _ _ _ (g.W.Loads.steps_on _ _ _ _ copied c.raise.ensures.kept) c.raise_layout.ensures.kept in
    record {
      laid = laid_split c.requires.laid c.requires.there c.requires.free c.requires.some c.requires.place d;
      same = rows_split c.requires.laid c.requires.there c.requires.free c.requires.some c.requires.place d;
      count = d.count;
      before = d.told;
      behind = d.later;
      lower = split_lower c.requires.some c.requires.place d;
      upper = split_upper c.requires.place d;
      may = c.store_layout-2.ensures.may;
      rows = search rules;
      kept = g.W.Loads.steps_on _ _ _ _ (g.W.Loads.steps_on _ _ _ _ raised c.store_layout.ensures.kept) c.store_layout-2.ensures.kept;
      steps = grind (arith, common_steps);
    }
