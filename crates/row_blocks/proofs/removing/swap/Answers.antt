use Rattle.std.proofs.Common.{ℕ, ◌+◌, ◌*◌, ◌/◌, ◌%◌, List, ap, sym, ◌∙◌, arith}
use Rattle.std.specs.Prelude.{slice_index}
use Rattle.std.proofs.lemmas.List.{get_or-set_other}
use Rattle.row_blocks.specs.Moves.{IsSwapped}
use Rattle.row_blocks.proofs.Removals.{swapped, swap_done}
use Rattle.row_blocks.proofs.Settlings.{stands_other}
use Rattle.row_blocks.proofs.Steps.{three_steps}
use Rattle.row_blocks.proofs.removing.swap.Given.{Over}
use Rattle.row_blocks.proofs.removing.swap.Goals.{After-store_layout}
use Rattle.row_blocks.proofs.removing.swap.Goals as goal

-- the words once both are stored
done : (g : Over) (c : After-store_layout g) → IsSwapped (g.W.Loads.words c.args.words.now c.args.hand.now)
    (g.W.Loads.words c.args.words.now c.store_layout.new.hand) (128 * c.args.blocks + 1 + c.args.one) (128 * c.args.blocks + 1 + c.args.other)
done g c =
    swap_done (128 * c.args.blocks + 1 + c.args.one) (128 * c.args.blocks + 1 + c.args.other) (omega arith) (omega arith) c.load-first.ensures.words
    c.load-first.ensures.word c.exchange_layout-second.ensures.stood c.exchange_layout-second.ensures.words c.store_layout.ensures.words

-- the other word is of another body
pub store_layout-requires-clause-differs : goal.store_layout-requires-clause-differs
store_layout-requires-clause-differs g c =
    let ws = c.args.words.now in
    let told : ℕ = 128 * c.args.blocks + 1 in
    let mid = g.W.Loads.words ws c.load-first.new.hand in
    let load = c.load-first.ensures in
    let still = ap (λ (l : List ℕ). slice_index l (told + c.args.one)) c.exchange_layout-second.ensures.words
    ∙ get_or-set_other mid (told + c.args.other) (told + c.args.one) c.load-first.result 0 (λ e. c.requires.apart (omega arith)) in
    let second = c.exchange_layout-second.ensures.stood ∙ ap (λ (l : List ℕ). slice_index l (told + c.args.other)) load.words in
    stands_other _ (told + c.args.one) load.words load.word still (λ e. c.requires.apart (c.requires.bodies.apart c.args.one c.args.other c.requires.one
    c.requires.other (ap (λ (x : ℕ). x / 128 % 2048) (sym load.word ∙ (e ∙ second)))))

-- each body still is of one block
pub returns-clause-bodies : goal.returns-clause-bodies
returns-clause-bodies g c = swapped c.args.one c.args.other c.requires.bodies c.requires.one c.requires.other (done g c)

-- each stands where the other one stood
pub returns-clause-swapped : goal.returns-clause-swapped
returns-clause-swapped g c = done g c

-- all steps are one
pub returns-clause-kept : goal.returns-clause-kept
returns-clause-kept g c = three_steps g.W.Loads _ _ _ _ _ c.load-first.ensures.kept c.exchange_layout-second.ensures.kept c.store_layout.ensures.kept
