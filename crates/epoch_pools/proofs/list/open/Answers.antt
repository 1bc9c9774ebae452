use Rattle.std.proofs.Common.{length, ◌∙◌, subst}
use Rattle.std.proofs.lemmas.Result.{IfOk-weaker}
use Rattle.list_cuts.specs.Cut.{Regions, list_count}
use Rattle.lock_core.specs.Words.{word_count}
use Rattle.epoch_pools.specs.Hands.{AreNewHands}
use Rattle.epoch_pools.proofs.Opening.{words_of_one}
use Rattle.epoch_pools.proofs.list.open.Goals as goal

-- the table is under the cut into one region
pub returns-clause-one : goal.returns-clause-one
returns-clause-one g c = IfOk-weaker c.open_cut.result _ _ (λ r h. h.2 ∙ c.one.ensures) c.open_cut.ensures.shape

-- it has the words of one list, and the client's
pub returns-clause-words : goal.returns-clause-words
returns-clause-words g c = IfOk-weaker c.open_cut.result _ _
    (λ r h. h ∙ words_of_one c.one.result (word_count c.args.seats) (length c.args.client.now) c.one.ensures) c.open_cut.ensures.words

-- and its hands are of a table with one list
pub returns-clause-hands : goal.returns-clause-hands
returns-clause-hands g c = IfOk-weaker c.open_cut.result _ _
    (λ r h. (h.0, subst (λ (x : Regions). AreNewHands r.0.table (g.G.Guard.first c.args.client.now) (list_count x) c.args.seats r.1.items) c.one.ensures h.1))
    c.open_cut.ensures.hands
