use Rattle.std.proofs.Common.{length, refl, ap, ◌∙◌, arith}
use Rattle.std.proofs.lemmas.List.{length-drop}
use Rattle.std.proofs.lemmas.Result.{err_from_is_err_and}
use Rattle.raw_trace.proofs.GivenSteps.{did_none, did_all, stands_at}
use Rattle.raw_trace.proofs.writing.write_lines.Goals as goal

-- nothing was done yet
pub places-init : goal.places-init
places-init c = (
  did_none c.args.strict c.args.lines c.args.roles.now c.args.counts _ c.requires.roles c.new.ensures c.new-2.ensures.items refl c.new-3.ensures,
  refl,
  omega arith,
)

-- so many texts are left
pub without-left-requires : goal.without-left-requires
without-left-requires c =
    let i = c.places.invariant in
    let l = ap length i.1 ∙ length-drop c.places.gone c.args.lines in
    let g = i.2 in
    let k = c.let_go-more.ensures in
    let t = c.places-test.true in
    let n = c.len-count.ensures in
    omega arith

-- of the texts so far all was done
pub take_text-requires-clause-stands : goal.take_text-requires-clause-stands
take_text-requires-clause-stands c = (
  c.args.lines,
  c.args.counts,
  stands_at c.args.strict c.args.lines c.args.roles.now c.places.left _ c.places.gone c.let_go-more.result c.places.place c.args.counts c.places.ordering
      c.requires.roles (omega (arith, c.places-test.true, c.len-count.ensures)) c.places.invariant c.let_go-more.ensures c.without-left.ensures,
)

-- a text more was done
pub places-preserved : goal.places-preserved
places-preserved c =
    let s = stands_at c.args.strict c.args.lines c.args.roles.now c.places.left _ c.places.gone c.let_go-more.result c.places.place c.args.counts
    c.places.ordering c.requires.roles (omega (arith, c.places-test.true, c.len-count.ensures)) c.places.invariant c.let_go-more.ensures
    c.without-left.ensures in
    let b = s.before in (
      c.in_ok-take_text.ensures.did c.args.lines c.args.counts s,
      s.left_are,
      omega arith,
    )

-- the writing ended at a text
pub returns-in_err-take_text-clause-fault : goal.returns-in_err-take_text-clause-fault
returns-in_err-take_text-clause-fault c =
    let p = err_from_is_err_and c.from_residual.result c.from_residual.ensures.1 in
    let s = stands_at c.args.strict c.args.lines c.args.roles.now c.places.left _ c.places.gone c.let_go-more.result c.places.place c.args.counts
    c.places.ordering c.requires.roles (omega (arith, c.places-test.true, c.len-count.ensures)) c.places.invariant c.let_go-more.ensures
    c.without-left.ensures in
    rw (p.1, p.2) (c.in_err-take_text.ensures.fault c.args.lines c.args.counts s)

-- all was done
pub returns-clause-wrote : goal.returns-clause-wrote
returns-clause-wrote c =
    did_all c.args.strict c.args.lines c.places.place c.args.counts c.places.ordering c.places.invariant.0
    (omega (arith, c.places-test.false, c.len-count.ensures))
