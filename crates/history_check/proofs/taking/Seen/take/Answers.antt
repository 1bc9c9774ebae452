use Rattle.std.proofs.Common.{Option, inr, subst}
use Rattle.history_check.specs.declared.verdict.WrongLog.{WrongLog}
use Rattle.history_check.specs.Checking.{TellsCall}
use Rattle.history_check.proofs.taking.Seen.take.Goals as goal

-- its entry isn't in its place
pub returns-in-Some-wrong_place : goal.returns-in-Some-wrong_place
returns-in-Some-wrong_place c before seen = inr (c.in-Some.entry, c.in-Some.ensures.found, c.in-Some-wrong_place.ensures before seen c.args.space.now)

-- it goes on rightly
pub returns : goal.returns
returns c before seen =
    let place = c.in_default-wrong_place.ensures before seen in (
      c.in-Some.entry,
      c.in-Some.ensures.found,
      place,
      subst (λ (w : Option WrongLog). TellsCall c.args.space.now c.in-Some.entry w c.wrong_call.new.space) c.in_default-wrong_call.is c.wrong_call.ensures,
      c.add.ensures before seen place,
    )
