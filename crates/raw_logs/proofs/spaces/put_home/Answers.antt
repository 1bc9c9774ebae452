use Rattle.raw_logs.proofs.HomeFacts.{other_key}
use Rattle.raw_logs.proofs.spaces.put_home.Goals as goal

pub returns-in-Ok-clause-others : goal.returns-in-Ok-clause-others
returns-in-Ok-clause-others c q n = c.in-Ok.ensures.updates.2 q (other_key c.args.key q n)
