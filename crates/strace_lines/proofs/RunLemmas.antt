-- How the parts of a run make its clauses: the reading of the input, the rewriting of its bytes and the words that ask
-- for it. Words and bytes call for one status, since words ask for one thing, and a log has one rewriting or one fault.
use Rattle.std.proofs.Common.{◌≡◌, ◌⊎◌, ℕ, ◌<◌, ◌≤◌, List, length, Bool, Option, Some, Result, Ok, Err, IfSome}
use Rattle.std.proofs.Common.{inl, inr, refl, sym, subst, ap, ◌∙◌, arith}
use Rattle.raw_logs.specs.declared.counts.Counts.{Counts}
use Rattle.raw_trace.specs.declared.fault.Fault.{Fault}
use Rattle.raw_trace.specs.declared.fault.Fault.TheVariants.{Unreadable as CantRead, LongLine as TooLong, NoProcess as Silent, Memory as NoMemory}
use Rattle.raw_trace.specs.declared.rewriting.Rewriting.{Rewriting}
use Rattle.raw_trace.specs.Faults.{IsFault, IsCausedFault}
use Rattle.raw_trace.specs.declared.tally.Tally.{Tally}
use Rattle.raw_trace.specs.Rewriting.{IsRewriting}
use Rattle.raw_logs.specs.Reading.{EndsCut}
use Rattle.raw_logs.proofs.OneEnd.{one_end}
use Rattle.strace_lines.specs.declared.status.Status.{Status}
use Rattle.strace_lines.specs.declared.status.Status.TheVariants.{Done, Helped, Usage, LongInput}
use Rattle.strace_lines.specs.declared.words.Asked.TheVariants.{Help, Rewrite}
use Rattle.strace_lines.specs.Words.{AskFor, AskForOne, RefusesWords}
use Rattle.byte_ports.specs.Input.{Drains}
use Rattle.strace_lines.specs.Run.{Heard, HasCause, status_of, IsOutcome, IsOnlyOutcome, IsHindered}
use Rattle.strace_lines.specs.Run.IsOutcome.{usage, helped, input_too_long, not_rewritten, done}

-- ---- the one status

-- words that ask for a log to be rewritten ask so of one process alone, and strictly or not
same_asked : (words : List (List ℕ)) (process other : Option ℕ) (strict flag : Bool) → AskForOne words → AskFor words (Rewrite process strict)
    → AskFor words (Rewrite other flag) → (process ≡ other) × (strict ≡ flag)
same_asked words process other strict flag one a b =
    let e : Rewrite process strict ≡ Rewrite other flag = one (Rewrite process strict) (Rewrite other flag) a b in (cc, cc)

-- An outcome of an input is the only one if it is the one of each way in which an input may end.
only_outcome : (words : List (List ℕ)) (bytes : List ℕ) (process : Option ℕ) (strict : Bool) (status : Status) → AskForOne words
    → AskFor words (Rewrite process strict)
    → (67108864 < length bytes → LongInput ≡ status)
    → (length bytes ≤ 67108864 → (cause : Fault) → IsCausedFault process strict bytes cause → status_of cause ≡ status)
    → (length bytes ≤ 67108864 → ((cause : Fault) → IsCausedFault process strict bytes cause → ⊥) → (out : List ℕ) (counts : Counts) (calls : Tally)
    (ends : Bool) → IsRewriting process bytes out counts calls → EndsCut bytes ends → Done calls counts ends ≡ status)
    → (other : Status) → IsOutcome words bytes other → other ≡ status
only_outcome words bytes process strict status one asked long fault whole other (usage refused) = absurd (refused (Rewrite process strict) asked)
only_outcome words bytes process strict status one asked long fault whole other (helped help) =
    let e : Help ≡ Rewrite process strict = one Help (Rewrite process strict) help asked in absurd cc
only_outcome words bytes process strict status one asked long fault whole other (input_too_long words_ask above) = long above
only_outcome words bytes process strict status one asked long fault whole other (not_rewritten {process = p} {strict = s} words_ask within cause caused is) =
    let same = same_asked words p process s strict one words_ask asked in
    let here : IsCausedFault process strict bytes cause =
    subst (λ f. IsCausedFault process f bytes cause) same.1 (subst (λ (q : Option ℕ). IsCausedFault q s bytes cause) same.0 caused) in
    is ∙ fault within cause here
only_outcome words bytes process strict status one asked long fault whole other
    (done {process = p} {strict = s} {out = out} {counts = counts} {calls = calls} {ends_cut = ends} words_ask within none is cut) =
    let same = same_asked words p process s strict one words_ask asked in
    whole within
    (λ cause caused. none cause (subst (λ f. IsCausedFault p f bytes cause) (sym same.1)
    (subst (λ (q : Option ℕ). IsCausedFault q strict bytes cause) (sym same.0) caused)))
    out counts calls ends (subst (λ (q : Option ℕ). IsRewriting q bytes out counts calls) same.0 is) cut

-- an input that is too long has that status alone
long_only : (words : List (List ℕ)) (bytes : List ℕ) (process : Option ℕ) (strict : Bool) → AskForOne words
    → AskFor words (Rewrite process strict) → 67108864 < length bytes → IsOnlyOutcome words bytes LongInput
long_only words bytes process strict one asked above = record {
  called_for = input_too_long asked above;
  only = only_outcome words bytes process strict LongInput one asked (λ _. refl)
      (λ within cause caused. absurd (omega (arith, within, above)))
      (λ within none out counts calls ends is cut. absurd (omega (arith, within, above)));
}

-- where the input that is too long is known
pub long_complete : (words : List (List ℕ)) (bytes : List ℕ) (process : Option ℕ) (strict : Bool) (input_old : Option (List ℕ)) → AskForOne words
    → AskFor words (Rewrite process strict) → input_old ≡ Some bytes → IfSome input_old (λ all. 67108864 < length all) → IsOnlyOutcome words bytes LongInput
long_complete words bytes process strict input_old one asked known above =
    long_only words bytes process strict one asked (subst (λ (o : Option (List ℕ)). IfSome o (λ all. 67108864 < length all)) known above)

-- the bytes that were read are those that the input had
pub same_bytes : (input_old input_new : Option (List ℕ)) (bytes all : List ℕ) → input_old ≡ Some bytes → Drains input_old input_new all → bytes ≡ all
same_bytes input_old input_new bytes all known drains =
    let here : Drains (Some bytes) input_new all = subst (λ (o : Option (List ℕ)). Drains o input_new all) known drains in here.0

-- ---- the log isn't rewritten

-- the status has its cause
pub fault_cause : (words : List (List ℕ)) (input_old input_new : Option (List ℕ)) (reads writes : ℕ × ℕ) (fault : Fault)
    → Heard words input_old input_new (λ process strict bytes. IsFault process strict bytes fault)
    → HasCause words input_old input_new reads writes (status_of fault)
fault_cause words input_old input_new reads writes (CantRead line column cause) heard = heard
fault_cause words input_old input_new reads writes (TooLong line) heard = heard
fault_cause words input_old input_new reads writes Silent heard = heard
fault_cause words input_old input_new reads writes NoMemory heard = tt

-- a fault is the one that came, unless that is want of memory
only_fault : {T : Type 0} (fault other : Fault) → (◌≡◌ {A = Result T Fault} (Err fault) (Err other)) ⊎ (◌≡◌ {A = Result T Fault} (Err fault) (Err NoMemory))
    → (fault ≡ NoMemory → ⊥) → other ≡ fault
only_fault fault other (inl e) some = cc
only_fault fault other (inr e) some = absurd (some cc)

-- a log that isn't rewritten, whose fault has its cause, has that status alone
pub caused_only : {T : Type 0} (words : List (List ℕ)) (bytes : List ℕ) (process : Option ℕ) (strict : Bool) (fault : Fault) → AskForOne words
    → AskFor words (Rewrite process strict) → length bytes ≤ 67108864 → (fault ≡ NoMemory → ⊥) → IsCausedFault process strict bytes fault
    → ((other : Fault) → IsCausedFault process strict bytes other
    → (◌≡◌ {A = Result T Fault} (Err fault) (Err other)) ⊎ (◌≡◌ {A = Result T Fault} (Err fault) (Err NoMemory)))
    → IsOnlyOutcome words bytes (status_of fault)
caused_only {T = T} words bytes process strict fault one asked within some caused complete = record {
  called_for = not_rewritten asked within fault caused refl;
  only = only_outcome words bytes process strict (status_of fault) one asked (λ above. absurd (omega (arith, within, above)))
      (λ _ other h. ap status_of (only_fault {T = T} fault other (complete other h) some))
      (λ _ none out counts calls ends is cut. absurd (none fault caused));
}

-- the status is the only one, unless there was no memory
pub fault_complete : (words : List (List ℕ)) (bytes log : List ℕ) (process : Option ℕ) (strict : Bool) (reads writes : ℕ × ℕ) (fault : Fault)
    → IsFault process strict log fault
    → ((fault ≡ NoMemory → ⊥) → IsCausedFault process strict log fault → IsOnlyOutcome words bytes (status_of fault))
    → IsOnlyOutcome words bytes (status_of fault) ⊎ IsHindered reads writes (status_of fault)
fault_complete words bytes log process strict reads writes (CantRead line column cause) is only = inl (only (λ no. absurd cc) is)
fault_complete words bytes log process strict reads writes (TooLong line) is only = inl (only (λ no. absurd cc) is)
fault_complete words bytes log process strict reads writes Silent is only = inl (only (λ no. absurd cc) is)
fault_complete words bytes log process strict reads writes NoMemory is only = inr tt

-- ---- the log is rewritten

-- where a rewriting was found, no fault is called for
pub no_fault : {T : Type 0} (found : T) (fault : Fault)
    → (◌≡◌ {A = Result T Fault} (Ok found) (Err fault)) ⊎ (◌≡◌ {A = Result T Fault} (Ok found) (Err NoMemory)) → ⊥
no_fault found fault (inl e) = absurd cc
no_fault found fault (inr e) = absurd cc

-- a log that is rewritten has that status alone
pub done_complete : (words : List (List ℕ)) (input_old input_new : Option (List ℕ)) (process : Option ℕ) (strict : Bool) (known bytes : List ℕ)
    (found : Rewriting) → Drains input_old input_new bytes → length bytes ≤ 67108864
    → IsRewriting process bytes found.out.items found.counts found.calls
    → ((out : List ℕ) (counts : Counts) (calls : Tally) → IsRewriting process bytes out counts calls
    → (found.out.items ≡ out) × (found.counts ≡ counts) × (found.calls ≡ calls))
    → EndsCut bytes found.ends_cut
    → ((fault : Fault) → IsCausedFault process strict bytes fault
    → (◌≡◌ {A = Result Rewriting Fault} (Ok found) (Err fault)) ⊎ (◌≡◌ {A = Result Rewriting Fault} (Ok found) (Err NoMemory)))
    → AskFor words (Rewrite process strict) → AskForOne words → input_old ≡ Some known
    → IsOnlyOutcome words known (Done found.calls found.counts found.ends_cut)
done_complete words input_old input_new process strict known bytes found drained within is only cut complete asked one e =
    let same = same_bytes input_old input_new known bytes e drained in
    let none : (fault : Fault) → IsCausedFault process strict bytes fault → ⊥ = λ fault caused. no_fault found fault (complete fault caused) in
    subst (λ (b : List ℕ). IsOnlyOutcome words b (Done found.calls found.counts found.ends_cut)) (sym same) (record {
      called_for = done asked within none is cut;
      only = only_outcome words bytes process strict (Done found.calls found.counts found.ends_cut) one asked (λ above. absurd (omega (arith, within, above)))
          (λ _ other h. absurd (none other h))
          (λ _ _ out counts calls ends other_is other_cut. let o = only out counts calls other_is in
          λ i. Done (sym o.2 i) (sym o.1 i) (one_end bytes ends found.ends_cut other_cut cut i));
    })

-- ---- help, and words that aren't accepted

-- where help is asked for, that is the only status
pub help_only : (words : List (List ℕ)) (bytes : List ℕ) → AskForOne words → AskFor words Help → IsOnlyOutcome words bytes Helped
help_only words bytes one asked = record { called_for = helped asked; only = same }
  where
    not_both : (process : Option ℕ) (strict : Bool) → AskFor words (Rewrite process strict) → ⊥
    not_both process strict other = let e : Help ≡ Rewrite process strict = one Help (Rewrite process strict) asked other in absurd cc

    same : (other : Status) → IsOutcome words bytes other → other ≡ Helped
    same other (usage refused) = absurd (refused Help asked)
    same other (helped help) = refl
    same other (input_too_long {process = p} {strict = s} words_ask above) = absurd (not_both p s words_ask)
    same other (not_rewritten {process = p} {strict = s} words_ask within cause caused is) = absurd (not_both p s words_ask)
    same other (done {process = p} {strict = s} words_ask within none is cut) = absurd (not_both p s words_ask)

-- where the words aren't accepted, that is the only status
pub usage_only : (words : List (List ℕ)) (bytes : List ℕ) → RefusesWords words → IsOnlyOutcome words bytes Usage
usage_only words bytes refused = record { called_for = usage refused; only = same }
  where
    same : (other : Status) → IsOutcome words bytes other → other ≡ Usage
    same other (usage r) = refl
    same other (helped help) = absurd (refused Help help)
    same other (input_too_long {process = p} {strict = s} words_ask above) = absurd (refused (Rewrite p s) words_ask)
    same other (not_rewritten {process = p} {strict = s} words_ask within cause caused is) = absurd (refused (Rewrite p s) words_ask)
    same other (done {process = p} {strict = s} words_ask within none is cut) = absurd (refused (Rewrite p s) words_ask)
