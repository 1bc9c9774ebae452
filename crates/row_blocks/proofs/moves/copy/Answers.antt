use Rattle.std.proofs.Common.{ℕ, ◌≡◌, ◌+◌, List, sym, ap, subst, ◌∙◌, arith}
use Rattle.std.specs.Prelude.{slice_set}
use Rattle.row_blocks.specs.Moves.{IsCopied}
use Rattle.row_blocks.proofs.Steps.{steps_none, steps_more}
use Rattle.row_blocks.proofs.MovedWords.{copies_none, copy_source, copies_on}
use Rattle.row_blocks.proofs.moves.copy.Goals as goal

-- nothing is laid yet
pub rows-init : goal.rows-init
rows-init g c = search (arith, copies_none, steps_none)

-- what is loaded is a row that stood there
pub exchange-requires-clause-row : goal.exchange-requires-clause-row
exchange-requires-clause-row g c =
    let inv = c.rows.invariant in
    subst (g.W.Loads.is_row c.args.words.now c.load-row.new.hand)
    (sym (c.load-row.ensures.word ∙ copy_source c.args.count (omega arith) c.requires.apart inv.copied))
    (c.load-row.ensures.rows _ (inv.stepped.rows _ (c.requires.rows c.rows.k (omega arith))))

-- one row more is laid
pub rows-preserved : goal.rows-preserved
rows-preserved g c =
    let inv = c.rows.invariant in
    let load = c.load-row in
    let call = c.exchange in
    let copied = copies_on c.args.count (omega arith) c.requires.to c.requires.apart inv.copied load.ensures.word
    (call.ensures.words ∙ ap (λ (l : List ℕ). slice_set l (c.args.to + c.rows.k) load.result) load.ensures.words) in
    let loaded = steps_more _ inv.stepped load.ensures.may load.ensures.rows load.ensures.kept in
    let stepped = steps_more _ loaded call.ensures.may call.ensures.rows call.ensures.kept in
    search arith

-- all are
pub returns-clause-copied : goal.returns-clause-copied
returns-clause-copied g c =
    let inv = c.rows.invariant in
    let all : c.rows.k ≡ c.args.count = omega arith in
    subst (IsCopied (g.W.Loads.words c.args.words.now c.args.hand.now) (g.W.Loads.words c.args.words.now c.rows.hand) c.args.from c.args.to) all inv.copied
