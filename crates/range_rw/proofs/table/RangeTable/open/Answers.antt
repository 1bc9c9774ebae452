use Rattle.std.proofs.Common.{length, ap, ◌∙◌, subst}
use Rattle.std.proofs.lemmas.Result.{IfOk-weaker}
use Rattle.list_cuts.specs.Cut.{Regions, list_count}
use Rattle.lock_core.specs.Words.{word_count}
use Rattle.epoch_pools.proofs.Opening.{words_of_one}
use Rattle.range_rw.specs.Contract.{AreNewSeatsIn}
use Rattle.range_rw.proofs.table.RangeTable.open.Goals as goal

-- the table is of the shape that is asked for
pub returns-clause-shape : goal.returns-clause-shape
returns-clause-shape g c = IfOk-weaker c.open_cut.result _ _ (λ r h. (h.0, h.1)) c.open_cut.ensures.shape

-- with one list
pub returns-clause-one : goal.returns-clause-one
returns-clause-one g c = IfOk-weaker c.open_cut.result _ _ (λ r h. ap list_count (h.2 ∙ c.one.ensures)) c.open_cut.ensures.shape

-- it has the words of one list, and the client's
pub returns-clause-words : goal.returns-clause-words
returns-clause-words g c = IfOk-weaker c.open_cut.result _ _
    (λ r h. h ∙ words_of_one c.one.result (word_count c.args.seats) (length c.args.client.now) c.one.ensures) c.open_cut.ensures.words

-- and its seats are new ones of one list
pub returns-clause-seats : goal.returns-clause-seats
returns-clause-seats g c = IfOk-weaker c.open_cut.result _ _
    (λ r h. (h.0, subst (λ (x : Regions). AreNewSeatsIn (list_count x) r.0.table (g.G.Guard.first c.args.client.now) r.1.items) c.one.ensures h.1))
    c.open_cut.ensures.seats
