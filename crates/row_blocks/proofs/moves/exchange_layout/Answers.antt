use Rattle.std.proofs.Common.{ℕ, ◌≡◌, List, ap, ◌∙◌, sym, rules}
use Rattle.std.specs.Prelude.{slice_set}
use Rattle.std.proofs.lemmas.List.{set-get_or}
use Rattle.row_blocks.proofs.moves.exchange_layout.Goals as goal

-- where the word stands there already, nothing changes
pub returns-then-stood-word-clause-words : goal.returns-then-stood-word-clause-words
returns-then-stood-word-clause-words g c =
    let old = g.W.Loads.words c.args.words.now c.args.hand.now in
    let e : c.load-stood.result ≡ c.args.word = search rules in
    c.load-stood.ensures.words ∙ (sym (set-get_or old c.args.place 0) ∙ ap (λ (w : ℕ). slice_set old c.args.place w) (sym c.load-stood.ensures.word ∙ e))

-- and elsewhere it is stored
pub returns-clause-words : goal.returns-clause-words
returns-clause-words g c = c.store_layout.ensures.words ∙ ap (λ (l : List ℕ). slice_set l c.args.place c.args.word) c.load-stood.ensures.words
