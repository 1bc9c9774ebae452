use Rattle.std.proofs.Common.{ℕ, List, Ok, sym, subst, inl, inr}
use Rattle.line_parts.proofs.Leaves.{not_both}
use Rattle.strace_reader.specs.declared.item.Body.TheVariants.{FirstHalf, Other}
use Rattle.strace_reader.specs.Grammar.{IsBehindSpaces}
use Rattle.strace_reader.proofs.FormFacts.{behind_spaces}
use Rattle.strace_reader.proofs.BodyAnswers.{BodyAnswers, signal_body, never_body, no_form_body, second_body, first_body, is_call, read_call, refused_call}
use Rattle.strace_reader.proofs.lines.read_body.Goals.{then-begins_with-via-then-begins_with, then-begins_with-via-else-begins_with+then-begins_with-2}
use Rattle.strace_reader.proofs.lines.read_body.Goals as goal

-- what begins with three dashes or three pluses is passed over, and nothing else
pub returns-then-begins_with : goal.returns-then-begins_with
returns-then-begins_with c = let a = elim c.then-begins_with.branch as (λ x. BodyAnswers c.args.text.now (Ok Other)) [
  | then-begins_with-via-then-begins_with w ↦ signal_body c.args.text.now (inl (c.begins_with.ensures.0 w.if-begins_with.true))
  | then-begins_with-via-else-begins_with+then-begins_with-2 w ↦
      signal_body c.args.text.now (inr (w.begins_with-else-begins_with.ensures.0 w.if-begins_with-2.true))
] in record { found = a.found; only = a.only; refused = a.refused; only_there = a.only_there; named = a.named; within = a.within }

-- what begins as a second half is that half alone, of what stands behind its spaces
pub returns-in-Some : goal.returns-in-Some
returns-in-Some c =
    let rest = c.in-Some.rest.now in let skipped = c.skip_spaces-left.result.now in
    let b : IsBehindSpaces rest skipped = subst (λ (x : List ℕ). IsBehindSpaces rest x) (sym c.skip_spaces-left.ensures) (behind_spaces rest) in
    let a = second_body c.in-Some.name c.args.text.now skipped (rest, c.in-Some.ensures, b) in
    record { found = a.found; only = a.only; refused = a.refused; only_there = a.only_there; named = a.named; within = a.within }

-- what has none of the four forms is passed over, and nothing else
pub returns-in_default-named : goal.returns-in_default-named
returns-in_default-named c =
    let a = no_form_body c.args.text.now (record {
      no_signal = λ h. let k = c.begins_with.ensures.1 h in let l = c.if-begins_with.false in not_both k l;
      no_exit = λ h. let k = c.begins_with-else-begins_with.ensures.1 h in let l = c.if-begins_with-2.false in not_both k l;
      no_resumption = λ name h. c.in_default.ensures name h.0 h.1;
      no_call = λ name h. c.in_default-named.ensures name h.0 h.1;
    }) in record { found = a.found; only = a.only; refused = a.refused; only_there = a.only_there; named = a.named; within = a.within }

-- a call that never returned is passed over, and nothing else
pub returns-then-never_returned : goal.returns-then-never_returned
returns-then-never_returned c =
    let a = never_body c.in-Some-named.name c.args.text.now (c.in-Some-named.rest.now, c.in-Some-named.ensures)
    (c.never_returned.ensures.0 c.if-never_returned.true) in
    record { found = a.found; only = a.only; refused = a.refused; only_there = a.only_there; named = a.named; within = a.within }

-- what ends as a first half is that half alone
pub returns-in-Some-first_half : goal.returns-in-Some-first_half
returns-in-Some-first_half c =
    let h = c.in-Some-first_half.ensures in
    let a : BodyAnswers c.args.text.now (Ok (FirstHalf c.in-Some-named.name c.in-Some-first_half.len)) =
    rw h.2 (first_body c.in-Some-named.name c.args.text.now h.0 (c.in-Some-named.rest.now, c.in-Some-named.ensures) h.1) in
    record { found = a.found; only = a.only; refused = a.refused; only_there = a.only_there; named = a.named; within = a.within }

-- what the arguments are read as is what the body is, and nothing else
pub returns-in-Ok : goal.returns-in-Ok
returns-in-Ok c =
    let text = c.args.text.now in
    let form = is_call c.in-Some-named.name text c.in-Some-named.rest.now c.in-Some-named.ensures
    (λ h. not_both (c.never_returned.ensures.1 h) c.if-never_returned.false) c.in_default-first_half.ensures in
    let a = read_call c.in-Some-named.name text c.in-Some-named.rest.now c.in-Ok.field-0-1.now c.in-Ok.body c.in-Some-named.ensures form c.in-Ok.ensures in
    record { found = a.found; only = a.only; refused = a.refused; only_there = a.only_there; named = a.named; within = a.within }

-- where the arguments are refused, the body is, and it is nothing
pub returns-in-Err : goal.returns-in-Err
returns-in-Err c =
    let text = c.args.text.now in
    let form = is_call c.in-Some-named.name text c.in-Some-named.rest.now c.in-Some-named.ensures
    (λ h. not_both (c.never_returned.ensures.1 h) c.if-never_returned.false) c.in_default-first_half.ensures in
    let a = refused_call c.in-Some-named.name text c.in-Some-named.rest.now c.in-Err.refusal c.in-Some-named.ensures form c.in-Err.ensures in
    record { found = a.found; only = a.only; refused = a.refused; only_there = a.only_there; named = a.named; within = a.within }
