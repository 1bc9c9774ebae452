use Rattle.std.proofs.Common.{◌≡◌}
use Rattle.raw_trace.specs.Order.{freed, meet, Entry}
use Rattle.raw_trace.specs.Waiting.{first_key}
use Rattle.raw_trace.proofs.waiting.key_that_frees.Given as goal

-- the first of those that are left is the first of all
abbrev pub invariant-pieces : goal.invariant-pieces
invariant-pieces l =
    first_key (λ (other : Entry). meet (freed other.call) l.pages) l.key-iterator ≡ first_key (λ (other : Entry). meet (freed other.call) l.pages)
    l.fn.pieces.entries
