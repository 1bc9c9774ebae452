use Rattle.std.proofs.Common.{sym, ap, subst}
use Rattle.range_rw.specs.Contract.{Record}
use Rattle.space_model.specs.declared.entries.Under.{Under}
use Rattle.area_rows.specs.Called.{IsLastStep}
use Rattle.area_rows.proofs.Wholes.{plain_right, last_drawn}
use Rattle.area_rows.proofs.space.Space.call_plain.Goals as goal

-- a call that its arguments decide may be numbered under nothing
pub draw-requires-clause-right : goal.draw-requires-clause-right
draw-requires-clause-right c = plain_right c.args.caller.now c.args.call c.args.reply c.requires.decided

-- the draw alone is the whole call
pub returns-clause-called : goal.returns-clause-called
returns-clause-called c =
    let f = c.draw.ensures in
    record {
      line_is = f.line;
      call_is = f.call;
      named = f.named;
      numbered = f.drawn.numbered;
      last = subst (λ (u : Under). IsLastStep c.args.caller.now.seat u c.draw.new.caller.seat) (sym f.under) (last_drawn f.drawn);
      written = f.drawn.writes;
      left = f.left;
    }

-- it asks for no range
pub returns-clause-asked : goal.returns-clause-asked
returns-clause-asked c = ap (λ (t : Record). t.asked) c.draw.ensures.drawn.trace
