use Rattle.std.proofs.Common.{ap, sym, inl, ◌∙◌}
use Rattle.std.specs.Prelude.{Some}
use Rattle.lock_core.specs.declared.range.Mode.TheVariants.{Reader as Shared}
use Rattle.page_fault.proofs.Numbering.{span_page}
use Rattle.page_fault.proofs.faults.fault_held.Goals as goal

-- the page is held as the entry may name it
pub answer_held-requires-clause-held : goal.answer_held-requires-clause-held
answer_held-requires-clause-held g c =
    let r = c.requires in let page = ap Some (sym (span_page Shared c.args.addr c.args.access c.access_of-access.result.0 c.access_of-access.result.1
    c.access_of-access.ensures)) in
    inl (r.held ∙ page)
