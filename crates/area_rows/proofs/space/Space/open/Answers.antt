use Rattle.std.proofs.Common.{◌≤◌, ◌+◌, ◌*◌, length, ap, ◌∙◌, subst, arith}
use Rattle.std.proofs.lemmas.Result.{IfOk-weaker}
use Rattle.list_cuts.specs.Cut.{Regions, list_count}
use Rattle.lock_core.specs.Words.{word_count}
use Rattle.area_guard.specs.Rows.{blocks_by}
use Rattle.area_rows.specs.Callers.{AreNewCallersIn}
use Rattle.area_rows.proofs.space.Space.open.Goals as goal

-- a cut into one region gives one list
pub returns-clause-one : goal.returns-clause-one
returns-clause-one c = IfOk-weaker c.open_cut.result _ _ (λ r h. ap list_count (h ∙ c.one.ensures)) c.open_cut.ensures.cut

-- and the callers are new ones of one list
pub returns-clause-callers : goal.returns-clause-callers
returns-clause-callers c = IfOk-weaker c.open_cut.result _ _
    (λ r h. subst (λ (x : Regions). AreNewCallersIn (list_count x) r.0.table c.args.start.now c.args.calls.now r.1.items) c.one.ensures h)
    c.open_cut.ensures.callers

-- it has the words of one list
pub returns-clause-words : goal.returns-clause-words
returns-clause-words c = IfOk-weaker c.open_cut.result _ _ (λ r h.
    let one : r.0.table.words ≤ 1 * word_count (length c.args.calls.now) + 549 + 129 * blocks_by r.0.table =
    subst (λ (x : Regions). r.0.table.words ≤ list_count x * word_count (length c.args.calls.now) + 549 + 129 * blocks_by r.0.table) c.one.ensures h in
    omega arith) c.open_cut.ensures.words
