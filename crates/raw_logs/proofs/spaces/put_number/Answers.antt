use Rattle.raw_logs.proofs.SpaceFacts.{put_more}
use Rattle.raw_logs.proofs.spaces.put_number.Goals as goal

-- the number is put in
pub returns-in-Ok : goal.returns-in-Ok
returns-in-Ok c = put_more _ _ c.args.pid c.in-Ok.ensures.updates
