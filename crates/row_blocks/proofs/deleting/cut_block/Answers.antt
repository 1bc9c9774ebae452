use Rattle.std.proofs.Common.{ℕ, ◌≡◌, ◌+◌, ◌-◌, sym, subst, rules, arith, List}
use Rattle.row_blocks.specs.Moves.{IsCutOut, IsCopied}
use Rattle.row_blocks.proofs.MovedWords.{cut_front, cut_behind}
use Rattle.row_blocks.proofs.Steps.{three_steps}
use Rattle.row_blocks.proofs.deleting.cut_block.Goals as goal

-- behind the head rows of the body go
pub returns-else-from-eq0-clause-cut : goal.returns-else-from-eq0-clause-cut
returns-else-from-eq0-clause-cut g c =
    cut_behind (search rules) c.requires.ordered c.requires.there c.requires.head c.requires.wide c.copy-else-from-eq0.ensures.copied

-- or the head goes, and the first row of the body that stays takes its place
pub returns-then-from-eq0-clause-cut : goal.returns-then-from-eq0-clause-cut
returns-then-from-eq0-clause-cut g c =
    let ws = c.args.words.now in
    let one = g.W.Loads.words ws c.args.hand.now in
    let mid = g.W.Loads.words ws c.copy.new.hand in
    let two = g.W.Loads.words ws c.exchange.new.hand in
    let none : c.args.from ≡ 0 = search rules in
    subst (λ (p : ℕ). IsCutOut one two c.args.head c.args.at c.args.count p c.args.until) (sym none)
    (cut_front (omega arith) (omega arith) c.requires.head c.requires.wide c.load-first.ensures.word (subst
    (λ (l : List ℕ). IsCopied l mid (c.args.at + c.args.until) c.args.at (c.args.count - c.args.until)) c.load-first.ensures.words c.copy.ensures.copied)
    c.exchange.ensures.words)

-- all steps are one
pub returns-then-from-eq0-clause-kept : goal.returns-then-from-eq0-clause-kept
returns-then-from-eq0-clause-kept g c = three_steps g.W.Loads _ _ _ _ _ c.load-first.ensures.kept c.copy.ensures.kept c.exchange.ensures.kept
