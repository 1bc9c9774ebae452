use Rattle.std.proofs.Common.{rules, Ok, Err}
use Rattle.std.proofs.lemmas.List.Sorted.{answers_always}
use Rattle.trace_driver.proofs.Differences.{searched}
use Rattle.trace_driver.proofs.report.place_of.Goals as goal

-- the place that the search ends at is that of the number's line
pub returns-in-Ok-clause-found : goal.returns-in-Ok-clause-found
returns-in-Ok-clause-found c =
    let by_number = c.in-Ok.ensures.position (λ line. line.number) (answers_always _ _ _ (λ f a r g called. search rules)) in
    (searched c.args.lines.now c.args.number c.requires.rising (Ok c.in-Ok.place) c.in-Ok.ensures.bound by_number).0

-- a search that ends in a gap says that no line has the number
pub returns-in-Err-clause-none : goal.returns-in-Err-clause-none
returns-in-Err-clause-none c none =
    let by_number = c.in-Err.ensures.position (λ line. line.number) (answers_always _ _ _ (λ f a r g called. search rules)) in
    (searched c.args.lines.now c.args.number c.requires.rising (Err c.in-Err.field-0) c.in-Err.ensures.bound by_number).1
