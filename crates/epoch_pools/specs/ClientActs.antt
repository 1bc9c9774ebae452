-- The operations on a client word as data: which step each is, and which of them say what they found. The steps are
-- those of the layer above, in the words of `lock_core`; this project's own profile.
use Rattle.std.specs.Prelude.{ℕ}
use Rattle.lock_core.specs.Client.{ClientStep, loads, stores, adds, exchanges}
use Rattle.epoch_pools.specs.declared.client.ClientAct.{ClientAct}
use Rattle.epoch_pools.specs.declared.client.ClientAct.TheVariants.{Load, Store, Add, Exchange}

-- the step on client word i
abbrev pub client_step : ClientAct → ℕ → ClientStep
client_step Load i = loads i
client_step (Store value) i = stores i value
client_step (Add by) i = adds i by
client_step (Exchange expected new) i = exchanges i expected new

-- every operation but a store returns what its word was
abbrev pub IsAnswering : ClientAct → Type 0
IsAnswering (Store value) = ⊥
IsAnswering _ = Unit {0}
