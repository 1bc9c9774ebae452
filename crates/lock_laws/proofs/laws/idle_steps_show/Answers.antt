use Rattle.lock_laws.proofs.Idle.{shows}
use Rattle.lock_laws.proofs.laws.idle_steps_show.Goals as goal

-- each line of a seat between two calls, outside its epoch
pub returns : goal.returns
returns c = λ seats s v step p line out own free gone w. shows seats s v step p line out own free gone w
