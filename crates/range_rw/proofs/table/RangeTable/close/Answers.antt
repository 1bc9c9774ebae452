use Rattle.std.proofs.Common.{sym, ap, ◌∙◌}
use Rattle.range_rw.specs.Contract.{TableShape}
use Rattle.range_rw.proofs.table.RangeTable.close.Goals as goal

-- the seats are idle ones of the list behind the table
pub hands_of-requires-clause-idle : goal.hands_of-requires-clause-idle
hands_of-requires-clause-idle g c = λ k s at. let i = c.requires.idle k s at in (i.0 ∙ sym (ap (λ (t : TableShape). t.table) c.self.view_is), i.1, i.2)

-- and each other list of theirs is idle too
pub close_into-requires-clause-others : goal.close_into-requires-clause-others
close_into-requires-clause-others g c = λ several. c.hands_of.ensures.others
