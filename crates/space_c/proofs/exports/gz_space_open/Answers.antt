use Rattle.c_handles.proofs.Refusals.{opening_of_open}
use Rattle.space_c.specs.declared.answers.Answer.TheVariants.{Open}
use Rattle.space_c.specs.Behind.{IsNotOpened}
use Rattle.space_c.specs.Codes.{code_of}
use Rattle.space_c.proofs.exports.gz_space_open.Goals as goal

-- a handle that is open is told so, and nothing else is the cause
pub returns-then-is_open-clause-cause : goal.returns-then-is_open-clause-cause
returns-then-is_open-clause-cause c = λ _. opening_of_open code_of Open (IsNotOpened c.args.regions c.args.bits c.args.callers) c.args.handle.now.pointer.behind
    (c.is_open.ensures.open c.if-is_open.true) c.code.ensures
