use Rattle.epoch_pools.proofs.Apart.{are_seen}
use Rattle.epoch_pools.proofs.Lines.{is_one_line}
use Rattle.epoch_pools.proofs.laws.steps_are_lines.Goals as goal

-- each enabled step is a line of the table and a step of the list's machine, and is counted
pub returns : goal.returns
returns g c = λ cut seats clients s running i less p seen step may low. let parts = running.0 in (
  parts,
  are_seen cut seats clients g.G.Guard.holds s parts running.1 running.2,
  is_one_line cut seats clients g.G.Guard.holds g.G.Guard.rested s parts running.1 running.2 i less p seen step may low,
)
