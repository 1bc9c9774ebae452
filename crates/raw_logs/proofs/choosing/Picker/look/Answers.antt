use Rattle.std.proofs.Common.{Bool, [], ap, ◌∙◌}
use Rattle.std.specs.Prelude.{if◌then◌else◌}
use Rattle.raw_logs.specs.Log.{line_of}
use Rattle.raw_logs.specs.Choosing.{Picked, with_line}
use Rattle.raw_logs.proofs.PickFacts.{look_step}
use Rattle.raw_logs.proofs.choosing.Picker.look.Goals as goal

-- a line more
pub returns-clause-picked : goal.returns-clause-picked
returns-clause-picked c = λ here_of lines tolds text h dl dt e.
    let line = line_of c.args.number text in
    let same = ap (λ (p : Picked). p.ended) (c.start_at.ensures.seen []) in
    let from = λ (b : Bool). if b then c.args.self.now.start else c.args.place in
    look_step here_of lines tolds c.args.place line c.args.told c.args.here c.add.result c.args.self.now c.add.new.self h dl dt e
    (λ others. c.add.ensures.seen text others ∙ ap (with_line c.args.here line c.args.told) (c.start_at.ensures.seen others))
    (λ is. (c.add.ensures.begins (same ∙ is), c.add.ensures.start ∙ c.start_at.ensures.start ∙ ap from is))
    (λ is. let s = c.add.ensures.stays (same ∙ is) in (s.0, c.add.ensures.start ∙ c.start_at.ensures.start ∙ ap from is, s.1))

-- lines are written from there on
pub returns-clause-start : goal.returns-clause-start
returns-clause-start c = c.add.ensures.start ∙ c.start_at.ensures.start
