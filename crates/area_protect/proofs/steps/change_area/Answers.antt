use Rattle.std.proofs.Common.{◌∙◌, ap, refl}
use Rattle.range_rw.specs.Contract.{Record}
use Rattle.area_protect.proofs.Stages.{after_back, looked_round, no_lock_call}
use Rattle.area_protect.proofs.steps.change_area.Goals as goal

-- a call with its entry holds nothing
pub returns-in-Some : goal.returns-in-Some
returns-in-Some g c =
    let e = c.in-Some.ensures in
    record { free = e.changed.called.numbered.held; asked = e.asked; changed = e.changed; rows = tt }

-- a plan that needs more rows needs them after so many entries as the look found
pub returns-in-None : goal.returns-in-None
returns-in-None g c =
    let b = c.args.caller.now in let r = c.change_held in let p = c.in-None.ensures in let n = p.changed in let l = c.look-at in let d = c.release in
    let looked = looked_round b b r.new.caller l.new.caller d.new.caller (no_lock_call b.seat) refl c.requires.rest n.reading n.left l.ensures.look
    l.ensures.left d.ensures.release d.ensures.left in
    record {
      free = d.ensures.release.held;
      asked = d.ensures.release.asked ∙ (ap (λ (t : Record). t.asked) l.ensures.look.step.trace ∙ p.asked);
      changed = tt;
      rows = record { looked = looked.0; when = looked.1; state = after_back d.ensures.release _ l.ensures.look n.shows };
    }
