use Rattle.std.proofs.Common.{rules, ◌<◌, ◌-◌, ◌∙◌, length, get_or, sym, ap, refl}
use Rattle.std.specs.Prelude.{Option}
use Rattle.page_types.specs.declared.calls.Kind.{Kind}
use Rattle.space_model.specs.Starts.{same_option}
use Rattle.row_plans.proofs.PutRows.{last_ends}
use Rattle.row_plans.proofs.planning.ends_with.Goals as goal

-- whether the rows end with a kind is told by the last word
pub returns : goal.returns
returns c =
    let rows = c.args.rows.now in
    let more : 0 < length rows = search rules in
    c.same_option.ensures ∙ (ap (λ (k : Option Kind). same_option k c.args.kind) c.read_row-last.ensures.kind
    ∙ sym (last_ends rows c.args.kind (get_or rows (length rows - 1) 0) more refl))
