use Rattle.std.proofs.Common.{◌≡◌, ◌+◌, ◌*◌, sym, ap, ◌∙◌, subst, arith}
use Rattle.range_rw.specs.Contract.{TableShape}
use Rattle.area_guard.specs.Rows.{blocks_by, keeps_by, number_place}
use Rattle.area_guard.specs.Keeping.{no_note}
use Rattle.area_rows.specs.Callers.{CallerView, IsLook}
use Rattle.area_rows.proofs.Stepping.{may_look, look_is}
use Rattle.area_rows.proofs.space.Space.look.Goals as goal

-- the guard allows the load of the number word
pub load_as_uncounted-requires-clause-allowed : goal.load_as_uncounted-requires-clause-allowed
load_as_uncounted-requires-clause-allowed c =
    let table : blocks_by c.caller.inside.seat.table ≡ c.self.inside.blocks =
    ap (λ (v : CallerView). blocks_by v.seat.table) c.caller.view_is
    ∙ (ap blocks_by (c.requires.table ∙ sym (ap (λ (t : TableShape). t.table) c.self.view_is)) ∙ sym c.self.invariant.1) in
    let keeps = c.caller.invariant.10 ∙ (ap (λ (v : CallerView). keeps_by v.seat.table) c.caller.view_is
    ∙ (ap keeps_by c.requires.table ∙ c.requires.keeps)) in
    may_look no_note _ _ c.caller.inside.seat.pass (11 + 129 * c.self.inside.blocks) keeps (ap number_place (sym (c.caller.invariant.7 ∙ table)))

-- there is a client word for it
pub load_as_uncounted-requires-clause-place : goal.load_as_uncounted-requires-clause-place
load_as_uncounted-requires-clause-place c = let wide = c.self.invariant.0 in omega arith

-- the load is a look, at a moment of the running space
pub returns-clause-look : goal.returns-clause-look
returns-clause-look c =
    let s = c.caller.inside.seat in let u = c.load_as_uncounted.new.seat in
    let table : blocks_by s.table ≡ c.self.inside.blocks =
    ap (λ (v : CallerView). blocks_by v.seat.table) c.caller.view_is
    ∙ (ap blocks_by (c.requires.table ∙ sym (ap (λ (t : TableShape). t.table) c.self.view_is)) ∙ sym c.self.invariant.1) in
    let keeps = c.caller.invariant.10 ∙ (ap (λ (v : CallerView). keeps_by v.seat.table) c.caller.view_is
    ∙ (ap keeps_by c.requires.table ∙ c.requires.keeps)) in
    subst (λ (v : CallerView). IsLook v.seat c.load_as_uncounted.result u) c.caller.view_is
    (look_is (11 + 129 * c.self.inside.blocks) c.load_as_uncounted.result keeps c.caller.invariant.7 (ap number_place (sym table))
    c.load_as_uncounted.ensures.call c.load_as_uncounted.ensures.made)
