use Rattle.space_model.proofs.calls.judge.Goals as goal

-- the looks of each call are those of its own function
pub returns-in-Unmap-clause-looks : goal.returns-in-Unmap-clause-looks
returns-in-Unmap-clause-looks g c = rw c.in-Unmap.is c.judge_unmap.ensures.looks

-- also of a Protect
pub returns-in-Protect-clause-looks : goal.returns-in-Protect-clause-looks
returns-in-Protect-clause-looks g c = rw c.in-Protect.is c.judge_protect.ensures.looks

-- of a fault
pub returns-in-Fault-clause-looks : goal.returns-in-Fault-clause-looks
returns-in-Fault-clause-looks g c = rw c.in-Fault.is c.judge_fault.ensures.looks

-- of a Seal
pub returns-in-Seal-clause-looks : goal.returns-in-Seal-clause-looks
returns-in-Seal-clause-looks g c = rw c.in-Seal.is c.judge_seal.ensures.looks

-- of both sorts of a Map
pub returns-then-is_fixed-clause-looks : goal.returns-then-is_fixed-clause-looks
returns-then-is_fixed-clause-looks g c = rw c.in-Map.is c.judge_fixed.ensures.looks

pub returns-else-is_fixed-clause-looks : goal.returns-else-is_fixed-clause-looks
returns-else-is_fixed-clause-looks g c = rw c.in-Map.is c.judge_hinted.ensures.looks

-- and of a Remap
pub returns-in-Remap-clause-looks : goal.returns-in-Remap-clause-looks
returns-in-Remap-clause-looks g c = rw c.in-Remap.is c.judge_remap.ensures.looks
