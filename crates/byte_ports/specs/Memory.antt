-- When the two ports in memory fail: at the calls whose numbers were listed. Calls are counted from 1. A call with no
-- room or nothing to write moves nothing, isn't counted and never fails. These rules are this project's own profile, so
-- that a test can make any call fail.
use Rattle.std.specs.Prelude.{ℕ, ◌<◌, ◌==◌, List, Contains, if◌then◌else◌}
use Rattle.byte_ports.specs.Counts.{one_more}

-- the number of the last counted call, after a call that has this many bytes to move
abbrev pub calls_after : ℕ → ℕ → ℕ
calls_after size calls = if size == 0 then calls else one_more 32 calls

-- a call that has this many bytes to move is one of those that were listed to fail
abbrev pub IsListed : List ℕ → ℕ → ℕ → Type 0
IsListed fails calls size = (0 < size) × Contains fails (one_more 32 calls)
