use Rattle.lock_core.proofs.Operating.{made_by}
use Rattle.lock_core.proofs.state.make.Goals as goal

-- the operation on the word and the view that follows carry out the plan
pub returns : goal.returns
returns c =
    made_by c.args.seats c.args.seat c.args.view.now c.follow.new.view c.args.step c.in-Some.op c.args.words.now
    c.perform-found.new.words c.perform-found.result
    c.in-Some.ensures.op c.requires.even c.perform-found.ensures.found c.perform-found.ensures.fits c.perform-found.ensures.written c.follow.ensures
