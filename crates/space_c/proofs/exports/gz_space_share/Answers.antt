use Rattle.c_handles.proofs.Refusals.{sharing_of_open}
use Rattle.space_c.specs.declared.answers.Answer.TheVariants.{Closed, Open}
use Rattle.space_c.specs.Behind.{IsUnshared}
use Rattle.space_c.specs.Codes.{code_of}
use Rattle.space_c.proofs.exports.gz_space_share.Goals as goal

-- a handle that is open and was to get the seat is told so
pub returns-then-is_open-clause-cause : goal.returns-then-is_open-clause-cause
returns-then-is_open-clause-cause c =
    λ _. sharing_of_open code_of Open Closed (λ b. IsUnshared b.spare) c.args.from.now.pointer.behind c.args.handle.now.pointer.behind
    (c.is_open.ensures.open c.if-is_open.true) c.code.ensures
