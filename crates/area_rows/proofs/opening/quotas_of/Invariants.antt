use Rattle.std.proofs.Common.{◌≡◌, ◌≤◌, take, length, vec_capacity}
use Rattle.area_rows.proofs.opening.quotas_of.Given as goal

-- the numbers so far, and room for all
abbrev pub invariant-calls : goal.invariant-calls
invariant-calls l = record { items : l.quotas.items ≡ take l.count-index l.calls; room : length l.calls ≤ vec_capacity l.quotas }
