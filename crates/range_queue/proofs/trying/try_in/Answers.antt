use Rattle.std.proofs.Common.{ap, ◌∙◌, subst}
use Rattle.range_queue.specs.Looks.{MeetsOne, look_ended}
use Rattle.range_queue.proofs.Tried.{behind_by, tried_all, looking_kept, kept_on}
use Rattle.range_queue.proofs.trying.try_in.Goals as goal

-- an announcement was met
pub returns-in-Some-clause-tried : goal.returns-in-Some-clause-tried
returns-in-Some-clause-tried g c =
    behind_by c.look.ensures.looking (c.look.ensures.look ∙ ap (look_ended c.args.asked.now) c.in-Some.is)
    (subst (MeetsOne c.args.asked.now c.args.mine c.args.seats) c.in-Some.is c.look.ensures.met) c.requires.mine c.requires.seats.0

pub returns-in-Some-clause-kept : goal.returns-in-Some-clause-kept
returns-in-Some-clause-kept g c = looking_kept c.look.ensures.looking

pub returns-in-Some-clause-outside : goal.returns-in-Some-clause-outside
returns-in-Some-clause-outside g c = c.look.ensures.looking.beside.scan ∙ c.requires.scan

-- nothing was met
pub try_clear-requires-clause-table : goal.try_clear-requires-clause-table
try_clear-requires-clause-table g c = c.look.ensures.looking.beside.table ∙ c.requires.table

pub try_clear-requires-clause-free : goal.try_clear-requires-clause-free
try_clear-requires-clause-free g c = c.look.ensures.looking.beside.held ∙ c.requires.free

pub returns-in-None-clause-tried : goal.returns-in-None-clause-tried
returns-in-None-clause-tried g c = tried_all c.args.seat.now c.look.new.seat c.try_clear.new.seat c.try_clear.result (record {
  looked = c.look.ensures.looking;
  clear = c.look.ensures.look ∙ ap (look_ended c.args.asked.now) c.in-None.is;
  last = c.look.ensures.last;
}) c.try_clear.ensures.next

pub returns-in-None-clause-kept : goal.returns-in-None-clause-kept
returns-in-None-clause-kept g c = kept_on (looking_kept c.look.ensures.looking) c.try_clear.ensures.kept
