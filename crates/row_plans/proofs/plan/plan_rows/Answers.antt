use Rattle.std.proofs.Common.{rules, ◌≡◌, ◌≤◌, ◌+◌, ◌∙◌, length, refl, sym, ap, arith}
use Rattle.std.specs.Prelude.{None, Some, List, ℕ}
use Rattle.page_types.specs.PlainReply.{plain_reply}
use Rattle.space_model.specs.declared.judged.Judged.TheVariants.{Refused, Keeps, Changes}
use Rattle.space_model.specs.Cutting.{last_end}
use Rattle.space_model.specs.Judges.{patches_of}
use Rattle.space_model.proofs.Stepping.{patches_few, judged-named}
use Rattle.row_plans.specs.RowLists.{areas_from}
use Rattle.row_plans.specs.Plans.{spliced}
use Rattle.row_plans.specs.Planning.{IsMade}
use Rattle.row_plans.specs.Loads.{change_loads}
use Rattle.row_plans.specs.Loads.TakesLoads.{by_arguments, by_pages}
use Rattle.row_plans.proofs.PlanLeft.{areas_named, change_made, change_refused, plan_plain, plan_refused, plan_kept, plan_made}
use Rattle.row_plans.proofs.Loading.{HasLoaded, loads_first, loads_on, as_before}
use Rattle.row_plans.proofs.plan.plan_rows.Given.{Over}
use Rattle.row_plans.proofs.plan.plan_rows.Goals.{After-judge}
use Rattle.row_plans.proofs.plan.plan_rows.Goals as goal

-- what the arguments decide is the plan
pub returns-in-Some-clause-plan : goal.returns-in-Some-clause-plan
returns-in-Some-clause-plan g c =
    let same = c.unchanged.ensures.same c.args.hand.now c.requires.may in
    let decided : plain_reply c.args.call.now ≡ Some c.unchanged.result.reply = sym c.in-Some.ensures ∙ ap (λ r. Some r) (sym c.unchanged.ensures.reply) in
    plan_plain c.args.call.now (g.R.Rows.are_rows c.args.old.now c.args.hand.now c.requires.may) same.same same.counted decided

-- what the rows refuse is the plan
pub returns-in-Refused-clause-plan : goal.returns-in-Refused-clause-plan
returns-in-Refused-clause-plan g c =
    let same = c.unchanged-in-Refused.ensures.same c.args.hand.now c.requires.may in
    plan_refused c.args.call.now (g.R.Rows.are_rows c.args.old.now c.args.hand.now c.requires.may) same.same same.counted c.in-Refused.why
    (search rules) c.in-Refused.ensures.judged c.unchanged-in-Refused.ensures.reply

-- so is a reply alone, with the rows as they are
pub returns-in-Keeps-clause-plan : goal.returns-in-Keeps-clause-plan
returns-in-Keeps-clause-plan g c =
    let same = c.unchanged-in-Keeps.ensures.same c.args.hand.now c.requires.may in
    plan_kept c.args.call.now (g.R.Rows.are_rows c.args.old.now c.args.hand.now c.requires.may) same.same same.counted c.in-Keeps.reply
    (search rules) c.in-Keeps.ensures.judged c.unchanged-in-Keeps.ensures.reply

-- the looks, as one load
looked : (g : Over) (c : After-judge g) → HasLoaded g.R.Rows c.args.old.now c.args.hand.now c.judge.new.hand
looked g c = loads_first g.R.Rows _ _ _ c.requires.may c.judge.ensures.looked

-- the hand may load again
pub changed-requires-clause-may : goal.changed-requires-clause-may
changed-requires-clause-may g c = (looked g (goal.at.changed-requires-clause-may g c).After-judge).may

-- the loads leave the rows as they were, so there is room for what comes
pub changed-requires-clause-room : goal.changed-requires-clause-room
changed-requires-clause-room g c =
    let wide = ap (λ (l : List ℕ). length l) (looked g (goal.at.changed-requires-clause-room g c).After-judge).same in
    let two = patches_few c.in-Changes.change in
    let room = c.requires.room in
    omega arith

-- a change has named bits alone
pub changed-requires-clause-named : goal.changed-requires-clause-named
changed-requires-clause-named g c =
    judged-named _ c.args.call.now c.in-Changes.change (areas_named (g.R.Rows.words c.args.old.now c.args.hand.now)) c.requires.named
    c.in-Changes.ensures.judged

-- and is the plan, as it is made after the looks
pub returns-in-Changes-clause-plan : goal.returns-in-Changes-clause-plan
returns-in-Changes-clause-plan g c =
    let undecided : plain_reply c.args.call.now ≡ None = search rules in
    plan_made (g.R.Rows.words c.args.old.now c.args.hand.now) c.args.call.now undecided c.in-Changes.ensures.judged
    (as_before (λ l n. IsMade c.in-Changes.change c.changed.result.reply c.changed.result.rows
    (spliced n l c.changed.result.cut c.changed.new.new.items) (areas_from l))
    (looked g (goal.at.returns-in-Changes-clause-plan g c).After-judge) c.changed.ensures.made)

-- the loads are one
pub returns-in-Changes-clause-loaded : goal.returns-in-Changes-clause-loaded
returns-in-Changes-clause-loaded g c =
    (loads_on _ (looked g (goal.at.returns-in-Changes-clause-loaded g c).After-judge) c.changed.ensures.loaded).loaded

-- a change has two patches at most, so at most SPARE rows more come than go
pub returns-in-Changes-clause-few : goal.returns-in-Changes-clause-few
returns-in-Changes-clause-few g c =
    let two = patches_few c.in-Changes.change in
    let few = c.changed.ensures.few in
    omega arith

-- what it does are its patches, where it doesn't leave the rows
pub returns-in-Changes-clause-changes : goal.returns-in-Changes-clause-changes
returns-in-Changes-clause-changes g c =
    let undecided : plain_reply c.args.call.now ≡ None = search rules in
    change_made _ c.args.call.now c.in-Changes.change c.changed.result.reply c.changed.result.cut c.changed.new.new.items undecided
    c.in-Changes.ensures.judged c.changed.ensures.changes

-- a refused change leaves them
pub returns-in-Changes-clause-refused : goal.returns-in-Changes-clause-refused
returns-in-Changes-clause-refused g c =
    change_refused _ c.args.call.now c.in-Changes.change c.changed.result.reply c.changed.result.cut c.changed.new.new.items
    c.in-Changes.ensures.judged c.changed.ensures.changes

-- a call that its arguments decide takes no load
pub returns-in-Some-clause-loads : goal.returns-in-Some-clause-loads
returns-in-Some-clause-loads g c = by_arguments c.in-Some.reply (sym c.in-Some.ensures) refl

-- one that is refused takes those of judging it
pub returns-in-Refused-clause-loads : goal.returns-in-Refused-clause-loads
returns-in-Refused-clause-loads g c =
    let undecided : plain_reply c.args.call.now ≡ None = search rules in
    by_pages (Refused c.in-Refused.why) undecided c.in-Refused.ensures.judged
    (λ at stop. let looks = c.in-Refused.ensures.looks at stop in omega arith)

-- so does one that changes nothing
pub returns-in-Keeps-clause-loads : goal.returns-in-Keeps-clause-loads
returns-in-Keeps-clause-loads g c =
    let undecided : plain_reply c.args.call.now ≡ None = search rules in
    by_pages (Keeps c.in-Keeps.reply) undecided c.in-Keeps.ensures.judged
    (λ at stop. let looks = c.in-Keeps.ensures.looks at stop in omega arith)

-- and a change takes its own beside them
pub returns-in-Changes-clause-loads : goal.returns-in-Changes-clause-loads
returns-in-Changes-clause-loads g c =
    let old = c.args.old.now in let hand = c.args.hand.now in let change = c.in-Changes.change in let steps = g.R.Rows.steps old in
    let undecided : plain_reply c.args.call.now ≡ None = search rules in
    let own = as_before (λ l n. steps c.changed.new.hand ≤ steps c.judge.new.hand + change_loads l change.first.lo (last_end 0 (patches_of change)))
    (looked g (goal.at.returns-in-Changes-clause-loads g c).After-judge) c.changed.ensures.steps in
    by_pages (Changes change) undecided c.in-Changes.ensures.judged
    (λ at stop. let looks = c.in-Changes.ensures.looks at stop in omega arith)
