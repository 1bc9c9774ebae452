use Rattle.std.proofs.Common.{◌≡◌, ◌+◌, length, ap, ◌∙◌, arith}
use Rattle.std.specs.Prelude.{slice_set}
use Rattle.std.specs.BTreeMap.{get}
use Rattle.std.specs.Ordering.{nat_cmp}
use Rattle.std.proofs.lemmas.Result.{on_ok_weaker}
use Rattle.raw_trace.proofs.RoleMaps.{roles_count, role_set}
use Rattle.raw_trace.proofs.roles.Roles.set.Goals as goal

-- no place behind has a role
pub invariant_of-self : goal.invariant_of-self
invariant_of-self c = λ q l.
    let is = c.requires in
    let all = ap length c.self.view_is in
    let count = roles_count c.self.inside.halves 0 c.self.inside.count in
    c.put.ensures.others q (λ same. omega (arith, l)) ∙ c.self.invariant q l

-- the role at the place is another
pub returns : goal.returns
returns c =
    let is = c.requires in
    let all = ap length c.self.view_is in
    let count = roles_count c.self.inside.halves 0 c.self.inside.count in
    let at : 0 + c.args.place ≡ c.args.place = omega arith in
    on_ok_weaker c.put.result
    (λ put. role_set c.self.inside.halves c.put.new.halves 0 c.self.inside.count c.args.place c.args.role (omega arith)
    (ap (get nat_cmp c.put.new.halves) at ∙ put) (λ q other. c.put.ensures.others q (λ same. other (same ∙ omega arith)))
    ∙ ap (λ x. slice_set x c.args.place c.args.role) c.self.view_is)
    c.put.ensures.is
