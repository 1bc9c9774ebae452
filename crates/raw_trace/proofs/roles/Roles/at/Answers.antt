use Rattle.std.proofs.Common.{◌≡◌, ◌+◌, length, get_or, sym, ap, ◌∙◌, arith}
use Rattle.std.specs.BTreeMap.{get}
use Rattle.std.specs.Ordering.{nat_cmp}
use Rattle.raw_trace.specs.declared.halves.Role.TheVariants.{Alone}
use Rattle.raw_trace.specs.Roles.{role_or}
use Rattle.raw_trace.proofs.RoleMaps.{roles_count, role_at}
use Rattle.raw_trace.proofs.roles.Roles.at.Goals as goal

-- the role at the place
pub returns : goal.returns
returns c =
    let old = c.self.inside in
    let is = c.requires in
    let all = ap length c.self.view_is in
    let count = roles_count old.halves 0 old.count in
    let at : c.args.place ≡ 0 + c.args.place = omega arith in
    c.role_in.ensures ∙ ap (λ q. role_or (get nat_cmp old.halves q)) at ∙ sym (role_at old.halves 0 old.count c.args.place (omega arith))
    ∙ ap (λ x. get_or x c.args.place Alone) c.self.view_is
