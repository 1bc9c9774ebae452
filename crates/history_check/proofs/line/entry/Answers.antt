use Rattle.history_check.proofs.LinesBack.{none_some, no_front, front_found, no_back, back_found, behind_call, whole_found}
use Rattle.history_check.proofs.line.entry.Goals as goal

-- a line has its numbers
pub returns-in_default : goal.returns-in_default
returns-in_default c = λ e it. absurd (no_front c.args.text.now e it c.in_default.ensures)

-- its call
pub returns-in_default-call : goal.returns-in_default-call
returns-in_default-call c = λ e it.
    let front = front_found c.args.text.now e c.in-Some.number c.in-Some.worker c.in-Some.line c.in-Some.rest.now it c.in-Some.ensures in
    absurd (c.in_default-call.ensures e.call (behind_call e) it.0.named.0 it.0.words.call front.3)

-- its reply
pub returns-in_default-outcome : goal.returns-in_default-outcome
returns-in_default-outcome c = λ e it.
    let front = front_found c.args.text.now e c.in-Some.number c.in-Some.worker c.in-Some.line c.in-Some.rest.now it c.in-Some.ensures in
    let call = c.in-Some-call.ensures e.call (behind_call e) it.0.named.0 it.0.words.call front.3 in
    absurd (no_back c.args.text.now e c.in-Some-call.rest.now it call.1 c.in_default-outcome.ensures)

-- and what was held
pub returns-in_default-under : goal.returns-in_default-under
returns-in_default-under c = λ e it.
    let front = front_found c.args.text.now e c.in-Some.number c.in-Some.worker c.in-Some.line c.in-Some.rest.now it c.in-Some.ensures in
    let call = c.in-Some-call.ensures e.call (behind_call e) it.0.named.0 it.0.words.call front.3 in
    let back = back_found c.args.text.now e c.in-Some-call.rest.now c.in-Some-outcome.reply c.in-Some-outcome.rest.now it call.1 c.in-Some-outcome.ensures in
    absurd (none_some e.under (c.in_default-under.ensures e.under it.0.words.under back.1))

-- which make its entry
pub returns : goal.returns
returns c = λ e it.
    let front = front_found c.args.text.now e c.in-Some.number c.in-Some.worker c.in-Some.line c.in-Some.rest.now it c.in-Some.ensures in
    let call = c.in-Some-call.ensures e.call (behind_call e) it.0.named.0 it.0.words.call front.3 in
    let back = back_found c.args.text.now e c.in-Some-call.rest.now c.in-Some-outcome.reply c.in-Some-outcome.rest.now it call.1 c.in-Some-outcome.ensures in
    whole_found e _ _ _ c.in-Some-call.call c.in-Some-outcome.reply c.in-Some-under.under front.0 front.1 front.2 call.0 back.0
    (c.in-Some-under.ensures e.under it.0.words.under back.1)
