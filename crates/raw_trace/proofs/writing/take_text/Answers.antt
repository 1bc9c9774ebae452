use Rattle.std.proofs.Common.{length, ap, ◌∙◌, arith}
use Rattle.std.proofs.lemmas.List.{length-drop}
use Rattle.std.proofs.lemmas.Result.{IfErr-weaker, on_ok_weaker}
use Rattle.raw_trace.proofs.TextPlaces.{roles_count}
use Rattle.raw_trace.proofs.TakenTexts.{kept_halves, alone_did, alone_ends, first_did, second_did, second_ends}
use Rattle.raw_trace.proofs.writing.take_text.Goals as goal

-- each place has a role
pub at-role-requires : goal.at-role-requires
at-role-requires c =
    let s = c.requires.stands.2 in
    let k = roles_count c.requires.stands.0 c.args.roles.now s.roles_are in
    let w = s.within in
    omega arith

-- the text is one of those that are left
pub text_at-requires-clause-gone : goal.text_at-requires-clause-gone
text_at-requires-clause-gone c = c.requires.stands.2.before

pub text_at-requires-clause-place : goal.text_at-requires-clause-place
text_at-requires-clause-place c =
    let s = c.requires.stands.2 in
    let l = ap length s.left_are ∙ length-drop c.args.gone c.requires.stands.0 in
    let w = s.within in
    let b = s.before in
    omega arith

-- a text alone comes
pub returns-in_ok-piece-in-Alone-clause-did : goal.returns-in_ok-piece-in-Alone-clause-did
returns-in_ok-piece-in-Alone-clause-did c =
    on_ok_weaker c.write.result
    (λ w lines counts s. alone_did c.args.strict lines c.args.place c.args.roles.now _ c.args.ordering.now s.roles_are c.at-role.ensures
    s.within _ _ _ _ c.in-Alone.is (c.in_ok-number.ensures lines s.left_are) c.in_ok-piece-in-Alone.ensures w counts s.did)
    c.write.ensures.wrote

-- the writing ended at it
pub returns-in_ok-piece-in-Alone-clause-fault : goal.returns-in_ok-piece-in-Alone-clause-fault
returns-in_ok-piece-in-Alone-clause-fault c =
    IfErr-weaker c.write.result _ _
    (λ fault h lines counts s. alone_ends c.args.strict lines c.args.place c.args.roles.now _ c.args.ordering.now s.roles_are c.at-role.ensures
    s.within _ _ _ fault c.in-Alone.is (c.in_ok-number.ensures lines s.left_are) c.in_ok-piece-in-Alone.ensures h (counts, s.did))
    c.write.ensures.fault

-- the second half is one of those that are left too
pub text_at-requires-in-First-clause-gone : goal.text_at-requires-in-First-clause-gone
text_at-requires-in-First-clause-gone c =
    let s = c.requires.stands.2 in
    let k = (kept_halves c.args.strict c.requires.stands.0 c.args.place _ _ _ c.args.roles.now _ c.args.ordering.now (c.requires.stands.1, s.did) s.roles_are
    c.at-role.ensures s.within c.in-First.is).later in
    let b = s.before in
    omega arith

pub text_at-requires-in-First-clause-place : goal.text_at-requires-in-First-clause-place
text_at-requires-in-First-clause-place c =
    let s = c.requires.stands.2 in
    let k = kept_halves c.args.strict c.requires.stands.0 c.args.place _ _ _ c.args.roles.now _ c.args.ordering.now (c.requires.stands.1, s.did) s.roles_are
    c.at-role.ensures s.within c.in-First.is in
    let l = ap length s.left_are ∙ length-drop c.args.gone c.requires.stands.0 in
    let w = k.within in
    let n = k.later in
    let b = s.before in
    omega arith

-- what is kept of both halves is within them
pub line_of_halves-requires-clause-first : goal.line_of_halves-requires-clause-first
line_of_halves-requires-clause-first c =
    let s = c.requires.stands.2 in
    (kept_halves c.args.strict c.requires.stands.0 c.args.place _ _ _ c.args.roles.now _ c.args.ordering.now (c.requires.stands.1, s.did) s.roles_are
    c.at-role.ensures s.within c.in-First.is).first _ _ (c.in_ok-number.ensures c.requires.stands.0 s.left_are)

-- of the second too
pub line_of_halves-requires-clause-second : goal.line_of_halves-requires-clause-second
line_of_halves-requires-clause-second c =
    let s = c.requires.stands.2 in
    (kept_halves c.args.strict c.requires.stands.0 c.args.place _ _ _ c.args.roles.now _ c.args.ordering.now (c.requires.stands.1, s.did) s.roles_are
    c.at-role.ensures s.within c.in-First.is).second _ _ (c.in_ok-second-in-First.ensures c.requires.stands.0 s.left_are)

-- a first half begins its call
pub returns-in_ok-piece-in-First-clause-did : goal.returns-in_ok-piece-in-First-clause-did
returns-in_ok-piece-in-First-clause-did c =
    on_ok_weaker c.begin.result
    (λ w lines counts s. first_did c.args.strict lines c.args.place c.args.roles.now _ c.args.ordering.now s.roles_are c.at-role.ensures s.within
    _ _ _ _ _ _ _ _ _ _ c.in-First.is (c.in_ok-number.ensures lines s.left_are) (c.in_ok-second-in-First.ensures lines s.left_are)
    (c.as_slice.ensures.value ∙ c.in_ok-line-in-First.ensures) c.in_ok-piece-in-First.ensures w c.begin.ensures.written counts s.did)
    c.begin.ensures.waits

-- a second half ends it
pub returns-in-Second-clause-did : goal.returns-in-Second-clause-did
returns-in-Second-clause-did c =
    on_ok_weaker c.end.result
    (λ w lines counts s. second_did c.args.strict lines c.args.place c.args.roles.now _ c.args.ordering.now s.roles_are c.at-role.ensures s.within
    _ _ c.in-Second.is w counts s.did)
    c.end.ensures.wrote

-- the writing ended at it
pub returns-in-Second-clause-fault : goal.returns-in-Second-clause-fault
returns-in-Second-clause-fault c =
    IfErr-weaker c.end.result _ _
    (λ fault h lines counts s. second_ends c.args.strict lines c.args.place c.args.roles.now _ c.args.ordering.now s.roles_are c.at-role.ensures s.within
    _ fault c.in-Second.is h (counts, s.did))
    c.end.ensures.fault
