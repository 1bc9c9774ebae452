use Rattle.std.proofs.Common.{ℕ, ◌≡◌, sym, subst, rules}
use Rattle.row_blocks.specs.Moves.{IsPutIn}
use Rattle.row_blocks.proofs.MovedWords.{put_front, put_behind}
use Rattle.row_blocks.proofs.inserting.put_at.Goals as goal

-- behind the head a row comes into the body
pub returns-else-place-eq0-clause-put : goal.returns-else-place-eq0-clause-put
returns-else-place-eq0-clause-put g c = put_behind (search rules) c.requires.there c.requires.head c.requires.wide c.raise-else-place-eq0.ensures.pushed

-- or it takes the place of the head
pub returns-then-place-eq0-clause-put : goal.returns-then-place-eq0-clause-put
returns-then-place-eq0-clause-put g c =
    let one = g.W.Loads.words c.args.words.now c.args.hand.now in
    let two = g.W.Loads.words c.args.words.now c.raise.new.hand in
    let none : c.args.place ≡ 0 = search rules in
    subst (λ (p : ℕ). IsPutIn one two c.args.head c.args.at c.args.count p c.args.word) (sym none)
    (put_front c.requires.head c.requires.wide c.exchange-first.ensures.stood c.exchange-first.ensures.words c.raise.ensures.pushed)
