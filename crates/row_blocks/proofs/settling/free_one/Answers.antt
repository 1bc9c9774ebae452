use Rattle.row_blocks.proofs.settling.free_one.Goals as goal

-- each block tells its gap still
pub returns-clause-told : goal.returns-clause-told
returns-clause-told g c = λ all. c.merge.ensures.told (rw c.find_pair-pair.ensures.words all)
