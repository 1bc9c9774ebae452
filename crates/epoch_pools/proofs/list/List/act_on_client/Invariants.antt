use Rattle.epoch_pools.specs.ClientActs.{client_step}
use Rattle.epoch_pools.proofs.list.List.act_on_client.Given as goal

-- the step that is made is that of the operation on that word
abbrev pub ghosts-act_at_client : goal.ghosts-act_at_client
ghosts-act_at_client g a = record { acting = client_step a.act a.i; lists = a.token.now.part.pass.lists; list = a.token.now.part.pass.list }
