use Rattle.std.proofs.Common.{◌≡◌, ℕ, ◌+◌, ◌-◌, ◌∙◌, List, length, sym, ap, arith}
use Rattle.std.specs.Prelude.{slice_index}
use Rattle.row_blocks.specs.Blocks.{rows_in, rank}
use Rattle.row_blocks.proofs.Places.{head_there, row_there}
use Rattle.row_blocks.proofs.positions.row_at.Goals as goal

-- a head stands before the bodies
pub load-requires-clause-there : goal.load-requires-clause-there
load-requires-clause-there g c = let wide = c.requires.laid.wide in let spare = c.requires.laid.spare in let there = c.requires.there in omega arith

-- and is the first row of its block
pub returns-then-at-eq0-clause-word : goal.returns-then-at-eq0-clause-word
returns-then-at-eq0-clause-word g c =
    let nb = c.args.blocks in
    let one = g.W.Loads.words c.args.words.now c.args.hand.now in
    let zero : 0 ≡ c.args.at.place = sym c.if-at-eq0.true in
    c.load.ensures.word
    ∙ (sym (head_there nb one c.args.at.block c.requires.laid c.requires.there)
    ∙ ap (λ (j : ℕ). slice_index (rows_in nb one) (rank nb one c.args.at.block j)) zero)

-- the body stands before the layout
pub load-requires-2-clause-there : goal.load-requires-2-clause-there
load-requires-2-clause-there g c =
    let laid = c.requires.laid in
    let spare = laid.spare in
    let there = c.requires.there in
    let body = laid.bodies c.args.at.block (omega arith) in
    let wide = laid.wide in
    let long = ap length c.body_of-body.ensures.words in
    let place = c.requires.place in
    omega arith

-- and has the other rows
pub returns-clause-word : goal.returns-clause-word
returns-clause-word g c =
    let one = g.W.Loads.words c.args.words.now c.args.hand.now in
    let behind = c.if-at-eq0.false in
    c.load-2.ensures.word
    ∙ (ap (λ (l : List ℕ). slice_index l (c.body_of-body.result.at - 1 + c.args.at.place)) c.body_of-body.ensures.words
    ∙ (ap (λ (s : ℕ). slice_index one (s - 1 + c.args.at.place)) c.body_of-body.ensures.at
    ∙ sym (row_there _ one c.args.at.block c.requires.laid c.requires.there c.args.at.place (omega arith) c.requires.place)))
