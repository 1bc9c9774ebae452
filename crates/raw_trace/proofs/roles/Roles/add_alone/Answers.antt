use Rattle.std.proofs.Common.{◌≡◌, ◌+◌, ◌++◌, ◌∷◌, [], suc, length, ap, ◌∙◌, arith}
use Rattle.raw_trace.specs.declared.halves.Role.TheVariants.{Alone}
use Rattle.raw_trace.specs.Roles.{roles_in}
use Rattle.raw_trace.proofs.RoleMaps.{roles_count, roles_behind}
use Rattle.raw_trace.proofs.roles.Roles.add_alone.Goals as goal

-- no place behind has a role
pub invariant_of-self : goal.invariant_of-self
invariant_of-self c = λ q l.
    let is = c.requires.place in
    let all = ap length c.self.view_is in
    let count = roles_count c.self.inside.halves 0 c.self.inside.count in
    c.self.invariant q (omega (arith, l))

-- a place more
pub returns : goal.returns
returns c =
    let old = c.self.inside in
    let is = c.requires.place in
    let all = ap length c.self.view_is in
    let count = roles_count old.halves 0 old.count in
    let next : c.args.place + 1 ≡ suc old.count = omega arith in
    ap (roles_in old.halves 0) next ∙ roles_behind old.halves 0 old.count (c.self.invariant (0 + old.count) (omega arith))
    ∙ ap (λ x. x ++ (Alone ∷ [])) c.self.view_is
