use Rattle.std.proofs.Common.{refl}
use Rattle.raw_logs.specs.Numbering.{Gives}
use Rattle.raw_logs.proofs.Following.{has_more, more_none, more_one}
use Rattle.raw_logs.proofs.GivenNumbers.{gives_one}
use Rattle.raw_logs.proofs.numbering.add_given.Goals as goal

-- no number
pub returns-in_default : goal.returns-in_default
returns-in_default c = more_none _ (Gives c.args.text.now) (c.in_default.ensures.none refl)

-- this number
pub returns-in-Ok : goal.returns-in-Ok
returns-in-Ok c =
    more_one _ _ (Gives c.args.text.now) c.in-Some.pid c.in-Some.ensures.some
    (λ q h. gives_one c.args.text.now q c.in-Some.pid h c.in-Some.ensures.some) (has_more _ _ _ c.in-Ok.ensures.updates)
