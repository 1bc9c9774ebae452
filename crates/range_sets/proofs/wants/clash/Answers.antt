use Rattle.std.proofs.Common.{rules, length, refl, arith}
use Rattle.std.proofs.lemmas.Option.{slice_get_read}
use Rattle.range_sets.proofs.Clashing.{first_pairs, next_pair, next_first, no_pair, breaks}
use Rattle.range_sets.proofs.wants.clash.Goals as goal

-- before the first second place, no earlier pair conflicts
pub others-init : goal.others-init
others-init c = (omega arith, search rules, first_pairs c.args.wants.now c.firsts.i c.firsts.invariant.1)

-- the pair that conflicts is the first
pub returns-then-conflicts-clause-found : goal.returns-then-conflicts-clause-found
returns-then-conflicts-clause-found c = let i = c.others.invariant in
    let ei = slice_get_read c.args.wants.now (length c.args.wants.now) c.firsts.i c.index-wants-i.result refl (search rules) c.index-wants-i.is in
    let ej = slice_get_read c.args.wants.now (length c.args.wants.now) c.others.j c.index-wants-j.result refl (search rules) c.index-wants-j.is in
    record { order = i.0; clashes = (_, _, ei, ej, c.conflicts.ensures.0 c.if-conflicts.true); first = i.2 }

-- where a pair was found, not all are apart
pub returns-then-conflicts-clause-none : goal.returns-then-conflicts-clause-none
returns-then-conflicts-clause-none c =
    let i = c.others.invariant in
    let ei = slice_get_read c.args.wants.now (length c.args.wants.now) c.firsts.i c.index-wants-i.result refl (search rules) c.index-wants-i.is in
    let ej = slice_get_read c.args.wants.now (length c.args.wants.now) c.others.j c.index-wants-j.result refl (search rules) c.index-wants-j.is in (
      (λ e. absurd (search rules)),
      λ no. absurd (breaks c.args.wants.now c.firsts.i c.others.j i.0 no
          (_, _, ei, ej, c.conflicts.ensures.0 c.if-conflicts.true)),
    )

-- this pair doesn't conflict, so each that does is behind it
pub others-preserved : goal.others-preserved
others-preserved c = let i = c.others.invariant in
    let ei = slice_get_read c.args.wants.now (length c.args.wants.now) c.firsts.i c.index-wants-i.result refl (search rules) c.index-wants-i.is in
    let ej = slice_get_read c.args.wants.now (length c.args.wants.now) c.others.j c.index-wants-j.result refl (search rules) c.index-wants-j.is in
    (omega arith, search rules, next_pair c.args.wants.now c.firsts.i c.others.j _ _ ei ej (λ clash. absurd (search rules)) i.2)

-- all second places of this first one were asked
pub firsts-preserved : goal.firsts-preserved
firsts-preserved c = (search rules, next_first c.args.wants.now c.firsts.i c.others.j (search rules) c.others.invariant.2)

-- all pairs were asked, so no two conflict
pub returns-clause-none : goal.returns-clause-none
returns-clause-none c = ((λ e. no_pair c.args.wants.now c.firsts.i (search rules) c.firsts.invariant.1), λ no. refl)
