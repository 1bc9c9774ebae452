use Rattle.std.proofs.Common.{◌≡◌, ℕ, ◌+◌, ◌*◌, ◌∙◌, List, ap, arith}
use Rattle.std.specs.Prelude.{slice_index}
use Rattle.row_blocks.specs.Blocks.{blocks_of, count_to}
use Rattle.row_blocks.proofs.Counts.{count_next}
use Rattle.row_blocks.proofs.Slots.{length-rows_in}
use Rattle.row_blocks.proofs.positions.next.Given.{Over}
use Rattle.row_blocks.proofs.positions.next.Goals.{After-load-used}
use Rattle.row_blocks.proofs.positions.next.Goals as goal

-- behind a row comes the next one of its block
pub returns-then-at-body-clause-next : goal.returns-then-at-body-clause-next
returns-then-at-body-clause-next g c =
    let rows = c.body_of-body.ensures.rows in
    let lt = c.if-at-body.true in
    record { there = c.requires.there; place = omega arith; number = omega arith }

-- so many blocks are in use
used : (g : Over) (c : After-load-used g) → c.load-used.result ≡ blocks_of c.args.blocks (g.W.Loads.words c.args.words.now c.args.hand.now)
used g c = c.load-used.ensures.word ∙ ap (λ (l : List ℕ). slice_index l (128 * c.args.blocks)) c.body_of-body.ensures.words

-- and behind the last one the head of the next block
pub returns-then-at-used-clause-next : goal.returns-then-at-used-clause-next
returns-then-at-used-clause-next g c =
    let one = g.W.Loads.words c.args.words.now c.args.hand.now in
    let next = count_next c.args.blocks one c.args.at.block in
    let rows = c.body_of-body.ensures.rows in
    let full = c.if-at-body.false in
    let place = c.requires.place in
    let used = used g (goal.at.returns-then-at-used-clause-next g c).After-load-used in
    let more = c.if-at-used.true in
    record { there = omega arith; place = omega arith; number = omega arith }

-- or there is none
pub returns-clause-next : goal.returns-clause-next
returns-clause-next g c =
    let nb = c.args.blocks in
    let one = g.W.Loads.words c.args.words.now c.args.hand.now in
    let next = count_next nb one c.args.at.block in
    let rows = c.body_of-body.ensures.rows in
    let full = c.if-at-body.false in
    let place = c.requires.place in
    let there = c.requires.there in
    let used = used g (goal.at.returns-clause-next g c).After-load-used in
    let none = c.if-at-used.false in
    let last : c.args.at.block + 1 ≡ blocks_of nb one = omega arith in
    let all = ap (count_to nb one) last in
    let long = length-rows_in nb one c.requires.laid in
    omega arith
