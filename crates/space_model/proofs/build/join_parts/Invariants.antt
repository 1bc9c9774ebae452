use Rattle.std.proofs.Common.{◌≡◌, ◌≤◌, ◌+◌, drop, length, vec_capacity}
use Rattle.space_model.specs.Building.{join_all, parts}
use Rattle.space_model.proofs.build.join_parts.Given as goal

-- with the parts that are left the list is the whole one, and each area has made it longer by one at most
abbrev pub invariant-loop-area : goal.invariant-loop-area
invariant-loop-area l =
    (join_all l.list.items (parts l.from l.to l.paint (drop l.area-index l.areas)) ≡
    join_all l.initial.list.items (parts l.from l.to l.paint l.areas)) ×
    (length l.list.items ≤ length l.initial.list.items + l.area-index) ×
    (vec_capacity l.initial.list ≤ vec_capacity l.list)
