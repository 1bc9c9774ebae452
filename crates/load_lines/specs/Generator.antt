-- The generator of numbers of a load, which is the example of `rand` in the C standard (ISO C, 7.22.2): a state of 31
-- bits that each draw moves on, and numbers below 2^15 that are the state's upper bits.
use Rattle.std.specs.Prelude.{ℕ, zero, suc, ◌+◌, ◌*◌, ◌/◌, ◌%◌}

-- the state behind a draw
abbrev pub next_state : ℕ → ℕ
next_state state = (1103515245 * state + 12345) % 2147483648

-- the state behind so many draws
abbrev pub state_after : ℕ → ℕ → ℕ
state_after state zero = state
state_after state (suc draws) = next_state (state_after state draws)

-- the number that the n-th draw gives, counted from 1
abbrev pub draw : ℕ → ℕ → ℕ
draw state n = state_after state n / 65536
