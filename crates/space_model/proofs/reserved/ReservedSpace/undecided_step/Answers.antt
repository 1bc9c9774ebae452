-- What the call comes to on the kinds of the areas is its answer.
use Rattle.std.proofs.Common.{refl, subst}
use Rattle.space_model.specs.Areas.{HasNamedKinds, kind_at}
use Rattle.space_model.specs.Answers.Answers.{refused}
use Rattle.space_model.specs.Judges.{Makes}
use Rattle.space_model.specs.Blocks.{areas_of}
use Rattle.space_model.proofs.NamedKinds.{named_at}
use Rattle.space_model.proofs.Stepping.{kept-named, judged-named}
use Rattle.space_model.proofs.Judgements.{made_answers}
use Rattle.space_model.proofs.reserved.ReservedSpace.undecided_step.Goals as goal

-- a refusal is the answer
pub returns-in-Refused-clause-answer : goal.returns-in-Refused-clause-answer
returns-in-Refused-clause-answer c = refused c.in-Refused.why c.requires.undecided c.in-Refused.ensures.judged refl refl

-- a reply alone has named bits, since the kinds of the areas have
pub returns-in-Keeps-clause-named : goal.returns-in-Keeps-clause-named
returns-in-Keeps-clause-named c =
    let A = c.args.self.now in
    kept-named (kind_at A) c.args.call.now c.in-Keeps.reply
    (λ p. named_at A p (subst HasNamedKinds c.self.view_is c.self.invariant.named)) c.in-Keeps.ensures.judged

-- so has a change
pub change-requires-clause-named : goal.change-requires-clause-named
change-requires-clause-named c =
    let A = c.args.self.now in
    judged-named A c.args.call.now c.in-Changes.change (subst HasNamedKinds c.self.view_is c.self.invariant.named) c.requires.named
    c.in-Changes.ensures.judged

-- a change is made, and that is the answer
pub returns-in-Changes-clause-answer : goal.returns-in-Changes-clause-answer
returns-in-Changes-clause-answer c =
    let B = areas_of c.change.new.self.blocks.items in
    made_answers c.args.self.now c.args.call.now c.in-Changes.change c.change.result B c.requires.undecided c.in-Changes.ensures.judged
    (subst (λ A. Makes A c.in-Changes.change c.change.result B) c.self.view_is c.change.ensures.made)
