use Rattle.std.proofs.Common.{ap, ◌∙◌}
use Rattle.std.specs.Prelude.{slice_set}
use Rattle.raw_trace.specs.declared.halves.Role.TheVariants.{Alone}
use Rattle.raw_trace.proofs.RoleMaps.{set_last}
use Rattle.raw_trace.proofs.roles.Roles.push.Goals as goal

-- the last place has the role
pub returns : goal.returns
returns c =
    c.in_ok-set.ensures ∙ ap (λ x. slice_set x c.args.place c.args.role) c.add_alone.ensures
    ∙ set_last c.args.self.now Alone c.args.role c.args.place c.requires.place
