use Rattle.std.proofs.Common.{◌≡◌, ◌≤◌, [], map, All, vec_capacity, vec_len}
use Rattle.std.specs.Prelude.{vec_items}
use Rattle.page_types.specs.Named.{IsNamedCall}
use Rattle.trace_driver.specs.Dealt.{dealt}
use Rattle.trace_driver.proofs.dealing.no_lines.Given as goal

-- so many workers have an empty list
abbrev pub invariant-workers : goal.invariant-workers
invariant-workers l = (map vec_items l.all.items ≡ dealt l.counter []) × (vec_len l.all ≡ l.counter) × All (λ own. vec_len own ≤ 0) l.all.items
    × All (λ own. All (λ line. IsNamedCall line.call) own) (map vec_items l.all.items) × (vec_capacity l.all ≡ vec_capacity l.initial.all)
