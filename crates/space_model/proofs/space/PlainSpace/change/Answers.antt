-- The planned list is the area list with the kinds of the change, and its rows are known before it is taken.
use Rattle.std.proofs.Common.{◌≡◌, ◌∙◌, ◌<◌, ◌≤◌, sym, ap, subst, refl}
use Rattle.page_types.specs.declared.TheConstants.{ROWS}
use Rattle.page_types.specs.Named.{IsNamedReply}
use Rattle.space_model.specs.Areas.{HasKinds, kind_at, row_count}
use Rattle.space_model.specs.Effect.{patched}
use Rattle.space_model.specs.Judges.{patches_of}
use Rattle.space_model.specs.Judges.Makes.{within, beyond}
use Rattle.space_model.specs.Answers.{full_reply}
use Rattle.space_model.proofs.Stepping.{length-fits, full-named}
use Rattle.space_model.proofs.Splicing.{plan_for}
use Rattle.space_model.proofs.NamedKinds.{named-after}
use Rattle.space_model.proofs.space.PlainSpace.change.Goals as goal

-- where the plan has more than ROWS rows, the reply is the full one
pub returns-then-rows-gt-ROWS-clause-made : goal.returns-then-rows-gt-ROWS-clause-made
returns-then-rows-gt-ROWS-clause-made c =
    let plan = plan_for _ _ _ _ _ _ _ (c.as_slice-areas.ensures.value ∙ c.self.view_is) c.in_ok-plan.ensures.plan in
    beyond _ plan.list (subst (λ n. ROWS < n) plan.counted c.if-rows-gt-ROWS.true)
    (c.full_reply.ensures ∙ ap (full_reply c.args.change.full) plan.counted) c.self.view_is

-- it has named bits alone
pub returns-then-rows-gt-ROWS-clause-named : goal.returns-then-rows-gt-ROWS-clause-named
returns-then-rows-gt-ROWS-clause-named c =
    subst IsNamedReply (sym c.full_reply.ensures) (full-named c.args.change.full _ c.requires.named.2)

-- the new list is an area list with named bits alone, few areas, and as many rows as were counted
pub invariant_of-self-2 : goal.invariant_of-self-2
invariant_of-self-2 c =
    let A = c.self.inside.areas.items in let B = c.replace.new.list.items in
    let plan = plan_for _ A _ _ _ _ _ c.as_slice-areas.ensures.value c.in_ok-plan.ensures.plan in
    let list : HasKinds (patched (patches_of c.args.change) (kind_at A)) B =
    subst (HasKinds (patched (patches_of c.args.change) (kind_at A))) (sym c.in_ok-replace.ensures.items) plan.list in
    let counted : c.in_ok-plan.plan.rows ≡ row_count B = plan.counted ∙ ap row_count (sym c.in_ok-replace.ensures.items) in (
      list.areas,
      named-after A B (patches_of c.args.change) c.self.invariant.1 c.requires.named.0 list,
      length-fits B (subst (λ n. n ≤ ROWS) counted c.if-rows-gt-ROWS.false),
      counted,
    )

-- the change is made, with the new list
pub returns-clause-made : goal.returns-clause-made
returns-clause-made c =
    let A = c.self.inside.areas.items in let B = c.replace.new.list.items in
    let plan = plan_for _ A _ _ _ _ _ c.as_slice-areas.ensures.value c.in_ok-plan.ensures.plan in
    let list : HasKinds (patched (patches_of c.args.change) (kind_at A)) B =
    subst (HasKinds (patched (patches_of c.args.change) (kind_at A))) (sym c.in_ok-replace.ensures.items) plan.list in
    let counted : c.in_ok-plan.plan.rows ≡ row_count B = plan.counted ∙ ap row_count (sym c.in_ok-replace.ensures.items) in
    within
    (subst (λ X. HasKinds (patched (patches_of c.args.change) (kind_at X)) B) c.self.view_is list)
    (subst (λ n. n ≤ ROWS) counted c.if-rows-gt-ROWS.false) refl
