use Rattle.std.proofs.Common.{refl, [], ◌∷◌}
use Rattle.raw_logs.specs.Numbering.{IsAttached}
use Rattle.raw_logs.proofs.AttachedLines.{attached_one}
use Rattle.raw_logs.proofs.Following.{has_more, more_none, more_one}
use Rattle.raw_logs.proofs.numbering.add_attached.Goals as goal

-- no number
pub returns-in_default : goal.returns-in_default
returns-in_default c = more_none _ (IsAttached (c.args.line.now ∷ [])) (c.in_default.ensures.none refl)

-- this number
pub returns-in-Ok : goal.returns-in-Ok
returns-in-Ok c =
    more_one _ _ (IsAttached (c.args.line.now ∷ [])) c.in-Some.pid c.in-Some.ensures.some
    (λ q h. attached_one c.args.line.now q c.in-Some.pid h c.in-Some.ensures.some) (has_more _ _ _ c.in-Ok.ensures.updates)
