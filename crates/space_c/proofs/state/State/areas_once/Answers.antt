use Rattle.std.proofs.Common.{subst}
use Rattle.std.specs.Prelude.{OnErr}
use Rattle.range_rw.specs.Contract.{TableShape}
use Rattle.space_c.specs.Behind.{Behind}
use Rattle.space_c.proofs.Filling.{got_none}
use Rattle.space_c.proofs.Looking.{refused_in}
use Rattle.space_c.proofs.state.State.areas_once.Goals as goal

-- a round that got no pages told nothing
pub returns-clause-none : goal.returns-clause-none
returns-clause-none c =
    let r = c.fill_round in let span = c.args.span in let after = r.new.caller in
    let here = subst (λ (t : TableShape). OnErr r.result (refused_in t.cut span c.args.refused c.self.inside.caller after)) c.deref.ensures r.ensures.kept in
    got_none r.result span c.args.refused c.args.places.now r.new.into c.args.self.now _ r.ensures.untold r.ensures.free
    (subst (λ (b : Behind). OnErr r.result (refused_in b.cut span c.args.refused b.caller after)) c.self.view_is here)
