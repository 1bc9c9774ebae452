use Rattle.std.proofs.Common.{List, ◌++◌, ◌+◌, drop, map, sym, subst, ap, ◌∙◌}
use Rattle.space_model.specs.declared.areas.Area.{Area}
use Rattle.space_model.specs.declared.entries.Entry.{Entry}
use Rattle.space_model.specs.Answers.{Answers}
use Rattle.area_changes.specs.Changes.{of_entry}
use Rattle.area_changes.proofs.Running.{GoesOnWith, next_right, goes_on_at, goes_on_end}
use Rattle.area_changes.proofs.history.changes_of.Goals as goal

-- the next entry has the right reply
pub change-requires-clause-right : goal.change-requires-clause-right
change-requires-clause-right c =
    subst (λ (e : Entry). (B : List Area) × Answers c.entries.space e.call e.reply B) (sym c.entry-item.is)
    (next_right c.args.start.now c.args.entries.now c.entries.space c.entries.entry-index c.entry-item.result c.entries.list.items
    c.entries-test.true c.entries.invariant)

-- with its changes the list goes on
pub entries-preserved : goal.entries-preserved
entries-preserved c =
    let start = c.args.start.now in let entries = c.args.entries.now in let i = c.entries.entry-index in let e = c.entry-item.result in
    let list = c.entries.list.items in
    let appended = c.in_ok-append.ensures ∙ ap (λ l. list ++ map (of_entry e.number) l) c.as_slice.ensures.value in
    subst (GoesOnWith start entries c.change.new.space (drop (i + 1) entries)) (sym appended)
    (goes_on_at start entries c.entries.space c.change.new.space i e list _ c.entries-test.true c.entry-item.is c.entries.invariant
    c.in_ok-change.ensures.answer c.in_ok-change.ensures.changes)

-- behind the last entry it is that of all
pub returns : goal.returns
returns c = goes_on_end c.args.start.now c.args.entries.now c.entries.space c.entries.entry-index c.entries.list.items c.entries-test.false c.entries.invariant
