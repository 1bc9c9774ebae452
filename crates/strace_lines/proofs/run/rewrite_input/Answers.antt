use Rattle.std.proofs.Common.{ℕ, ◌≤◌, List, length, Bool, Option, inl, inr, sym, subst}
use Rattle.byte_ports.specs.Input.{Drains, IsUnread}
use Rattle.raw_trace.specs.Rewriting.{IsRewriting}
use Rattle.raw_trace.specs.declared.rewriting.Rewriting.{Rewriting}
use Rattle.strace_lines.specs.Run.{Heard, IsOnlyOutcome, status_of}
use Rattle.strace_lines.specs.Words.{AskFor}
use Rattle.strace_lines.specs.declared.words.Asked.TheVariants.{Rewrite}
use Rattle.strace_lines.proofs.RunLemmas.{long_complete, fault_cause, fault_complete, caused_only, same_bytes, no_fault, done_complete}
use Rattle.strace_lines.proofs.run.rewrite_input.Given.{Over}
use Rattle.strace_lines.proofs.run.rewrite_input.Goals as goal
use Rattle.strace_lines.proofs.run.rewrite_input.Goals.{After-as_slice}

-- an input that is too long has that status alone
pub returns-in-Err-Long-clause-complete : goal.returns-in-Err-Long-clause-complete
returns-in-Err-Long-clause-complete g c words asked one bytes known =
    inl (long_complete words bytes c.args.process c.args.strict _ one asked known
    (subst (IsUnread 67108864 (g.S.Source.remaining c.args.input.now) (g.S.Source.fault_count c.args.input.now)
    (g.S.Source.fault_count c.read_all.new.input)) c.in-Err-Long.field-0-is c.in-Err-Long.ensures.unread))

-- the bytes that are rewritten are the whole input, within its limit
read : (g : Over) (c : After-as_slice g)
    → Drains (g.S.Source.remaining c.args.input.now) (g.S.Source.remaining c.read_all.new.input) c.as_slice.result.now
    × (length c.as_slice.result.now ≤ 67108864)
read g c =
    subst (λ (b : List ℕ). Drains (g.S.Source.remaining c.args.input.now) (g.S.Source.remaining c.read_all.new.input) b × (length b ≤ 67108864))
    (sym c.as_slice.ensures.value) (c.in-Ok.ensures.whole, c.in-Ok.ensures.within)

-- and what holds of them was heard
heard : (g : Over) (c : After-as_slice g) (words : List (List ℕ)) (P : Option ℕ → Bool → List ℕ → Type 0) → AskFor words (Rewrite c.args.process c.args.strict)
    → P c.args.process c.args.strict c.as_slice.result.now
    → Heard words (g.S.Source.remaining c.args.input.now) (g.S.Source.remaining c.read_all.new.input) P
heard g c words P asked holds = record {
  process = c.args.process;
  strict = c.args.strict;
  accepted = asked;
  bytes = c.as_slice.result.now;
  drained = (read g c).0;
  within = (read g c).1;
  holds = holds;
}

-- the status of a log that isn't rewritten has its cause
pub returns-in-Err-clause-cause : goal.returns-in-Err-clause-cause
returns-in-Err-clause-cause g c words asked =
    let k = (goal.at.returns-in-Err-clause-cause g c).After-as_slice in
    rw c.status_of.ensures
    (fault_cause words _ _ _ _ c.in-Err.fault (heard g k words _ asked c.in-Err.ensures.fault))

-- and is the only one, unless there was no memory
pub returns-in-Err-clause-complete : goal.returns-in-Err-clause-complete
returns-in-Err-clause-complete g c words asked one bytes known =
    let (drained, within) = read g (goal.at.returns-in-Err-clause-complete g c).After-as_slice in
    let fault = c.in-Err.fault in
    rw c.status_of.ensures
    (fault_complete words bytes c.as_slice.result.now c.args.process c.args.strict _ _ fault c.in-Err.ensures.fault (λ some caused.
    subst (λ (b : List ℕ). IsOnlyOutcome words b (status_of fault)) (sym (same_bytes _ _ bytes c.as_slice.result.now known drained))
    (caused_only {T = Rewriting} words c.as_slice.result.now c.args.process c.args.strict fault one asked within some caused
    c.in-Err.ensures.complete)))

-- a log that is rewritten has that status alone
pub returns-in-Ok-write_all-clause-complete : goal.returns-in-Ok-write_all-clause-complete
returns-in-Ok-write_all-clause-complete g c words asked one bytes known =
    let (drained, within) = read g (goal.at.returns-in-Ok-write_all-clause-complete g c).After-as_slice in
    inl (done_complete words _ _ c.args.process c.args.strict bytes c.as_slice.result.now c.in-Ok-rewrite.found drained within
    c.in-Ok-rewrite.ensures.is c.in-Ok-rewrite.ensures.only c.in-Ok-rewrite.ensures.cut c.in-Ok-rewrite.ensures.complete asked one known)

-- what was written is the rewriting
pub returns-in-Ok-write_all-clause-out : goal.returns-in-Ok-write_all-clause-out
returns-in-Ok-write_all-clause-out g c words asked =
    let k = (goal.at.returns-in-Ok-write_all-clause-out g c).After-as_slice in
    let found = c.in-Ok-rewrite.found in
    let is = subst (λ (x : List ℕ). IsRewriting c.args.process c.as_slice.result.now x found.counts found.calls) (sym c.as_slice-2.ensures.value)
    c.in-Ok-rewrite.ensures.is in
    (c.as_slice-2.result.now, c.in-Ok-write_all.ensures.all, heard g k words _ asked (is, c.in-Ok-rewrite.ensures.cut))

-- where the output failed it has a first part of the lines
pub returns-clause-out : goal.returns-clause-out
returns-clause-out g c words asked =
    let k = (goal.at.returns-clause-out g c).After-as_slice in
    let found = c.in-Ok-rewrite.found in
    let is = subst (λ (x : List ℕ). IsRewriting c.args.process c.as_slice.result.now x found.counts found.calls) (sym c.as_slice-2.ensures.value)
    c.in-Ok-rewrite.ensures.is in (
      c.as_slice-2.result.now,
      c.in-Err-write_all.ensures.failed_prefix,
      inl (heard g k words _ asked
          (found.counts, found.calls, is, λ fault caused. no_fault found fault (c.in-Ok-rewrite.ensures.complete fault caused))),
    )

-- and that is a hindrance
pub returns-clause-complete : goal.returns-clause-complete
returns-clause-complete g c words asked one bytes known = inr c.in-Err-write_all.ensures.failed_rose
