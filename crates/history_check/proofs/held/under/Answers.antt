use Rattle.std.proofs.Common.{Some, None, ap, sym}
use Rattle.space_model.specs.declared.entries.Under.TheVariants.{Reader, Area}
use Rattle.history_check.proofs.LinesBack.{span_held, span_found, none_some, reader_is, area_is, nothing_is, all_is}
use Rattle.history_check.proofs.held.under.Goals as goal

-- a reader's span was found
pub returns-in-Some-span : goal.returns-in-Some-span
returns-in-Some-span c = λ u fits e. span_found Reader u c.in-Some-span.held (span_held Reader u c.in-Some.rest.now (Some c.in-Some-span.held)
    (reader_is u c.args.text.now c.in-Some.rest.now fits e c.in-Some.ensures) c.in-Some-span.ensures)

-- none can be missing
pub returns-in-None : goal.returns-in-None
returns-in-None c = λ u fits e.
    let h = span_held Reader u c.in-Some.rest.now None (reader_is u c.args.text.now c.in-Some.rest.now fits e c.in-Some.ensures) c.in-None.ensures in
    absurd (none_some h.0 h.2)

-- an area's span was found
pub returns-in-Some-span-2 : goal.returns-in-Some-span-2
returns-in-Some-span-2 c = λ u fits e. span_found Area u c.in-Some-span-2.held (span_held Area u c.in-Some-strip.rest.now (Some c.in-Some-span-2.held)
    (area_is u c.args.text.now c.in-Some-strip.rest.now fits e c.in-Some-strip.ensures) c.in-Some-span-2.ensures)

-- none can be missing
pub returns-in-None-span : goal.returns-in-None-span
returns-in-None-span c = λ u fits e.
    let h = span_held Area u c.in-Some-strip.rest.now None (area_is u c.args.text.now c.in-Some-strip.rest.now fits e c.in-Some-strip.ensures)
    c.in-None-span.ensures in absurd (none_some h.0 h.2)

-- nothing was held
pub returns-in-Some-strip-2 : goal.returns-in-Some-strip-2
returns-in-Some-strip-2 c = λ u fits e. ap Some (sym (nothing_is u c.args.text.now c.in-Some-strip-2.field-0.now e (sym c.in-Some-strip-2.ensures)))

-- all pages were
pub returns-in-None-strip : goal.returns-in-None-strip
returns-in-None-strip c = λ u fits e.
    ap Some (sym (all_is u c.args.text.now e (sym c.in_default.ensures) (sym c.in_default-strip.ensures) (sym c.in-None-strip.ensures)))
