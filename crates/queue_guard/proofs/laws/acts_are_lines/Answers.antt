use Rattle.queue_guard.proofs.Lining.{acts_are_lines_law}
use Rattle.queue_guard.proofs.laws.acts_are_lines.Goals as goal

-- every act is a line of the machine
pub returns : goal.returns
returns g c = acts_are_lines_law
