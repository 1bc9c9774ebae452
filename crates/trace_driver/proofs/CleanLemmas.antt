-- Runs whose sinks have room: no sink is ever full, so no count rises, and the run ends as it is called for. A sized
-- sink's meaning is the length of its store and then the bytes that it holds, so it tells that the store is as long
-- afterwards as before.
use Rattle.std.proofs.Common.{◌≡◌, ◌⊎◌, inl, inr, Bool, ℕ, ◌+◌, ◌-◌, ◌^◌, ◌<◌, ◌≤◌, List, [], ◌∷◌, ◌++◌, length, take, vec_len, codes, decimal, Option, None}
use Rattle.std.proofs.Common.{Some, refl, sym, ap, ◌∙◌, subst, arith, length-append}
use Rattle.std.proofs.lemmas.Fmt.{length-decimal-le}
use Rattle.std.proofs.lemmas.List.{length-take-le}
use Rattle.std.specs.Io.KnownBytes.{Appends, Keeps}
use Rattle.byte_ports.specs.Bytes.{AppendsPrefix}
use Rattle.byte_ports.specs.Counts.{Rose}
use Rattle.byte_ports.specs.declared.clean.CleanSink.{CleanSink}
use Rattle.byte_ports.proofs.Pieces.{AppendsPrefix-itself, AppendsPrefix-none}
use Rattle.line_parts.specs.declared.refusal.What.{What}
use Rattle.line_parts.specs.declared.refusal.What.TheVariants.{Number}
use Rattle.trace_driver.specs.declared.status.Status.{Status}
use Rattle.trace_driver.specs.declared.status.Status.TheVariants.{Done, Usage, ReadFault, WriteFault, Memory, Wrong}
use Rattle.trace_driver.specs.declared.status.Which.{Which}
use Rattle.trace_driver.specs.declared.status.Which.TheVariants.{Input}
use Rattle.trace_driver.specs.Clean.{held_by, free_in, HasRoomForLine, HasRoomForReports, CallForDone, EndsAsCalledFor, IsDoneOrMemory}
use Rattle.byte_ports.specs.Bytes.{numbered}
use Rattle.trace_driver.specs.ErrorLine.{error_line, what_text, which_text, bad_line_text}
use Rattle.history_check.specs.declared.verdict.Verdict.{Verdict}
use Rattle.history_check.specs.declared.verdict.Verdict.TheVariants.{Legal, Wrong as WrongVerdict}
use Rattle.history_check.specs.declared.verdict.WrongLog.{WrongLog}
use Rattle.history_check.specs.declared.verdict.WrongLog.TheVariants.{Form as FormWrong}
use Rattle.trace_driver.specs.Checking.{Judged, IsChecked, ChecksAs, verdict_line, wrong_text}
use Rattle.trace_driver.specs.Judging.{HasNumbers}
use Rattle.trace_driver.proofs.JudgeLemmas.{small_numbers}
use Rattle.trace_driver.specs.Run.{Wrote, Complains, IsDone, IsOnlyOutcome, IsHindered}
use Rattle.trace_driver.specs.Status.{ending}

-- ---- lines on standard error

short_what : (what : What) → length (what_text what) ≤ 40
short_what Number = omega arith
short_what other = omega arith

short_which : (which : Which) → length (which_text which) ≤ 40
short_which Input = omega arith
short_which other = omega arith

length_numbered : (before behind : List ℕ) (n : ℕ) → length (numbered before n behind) ≡ length before + (length (decimal n) + length behind)
length_numbered before behind n = length-append before (decimal n ++ behind) ∙ ap (λ k. length before + k) (length-append (decimal n) behind)

short_decimal : (n : ℕ) → n < 2 ^ 64 → length (decimal n) ≤ 20
short_decimal n lt = length-decimal-le 20 n (omega arith) (omega (arith, lt)) lt

-- the text of a refused line has at most 200 bytes
pub short_bad_line : (line column : ℕ) (what : What) → line < 2 ^ 32 → column < 2 ^ 32 → length (bad_line_text line column what) ≤ 200
short_bad_line line column what l c =
    let whole = length-append (numbered (codes "line ") line (codes " column ")) (numbered [] column (what_text what)) in
    let first = length_numbered (codes "line ") (codes " column ") line in
    let second = length_numbered [] (what_text what) column in let one = short_decimal line (omega (arith, l)) in
    let other = short_decimal column (omega (arith, c)) in let rest = short_what what in omega arith

-- the text of a limit has at most 200 bytes
pub short_limit : (which : Which) (value : ℕ) → value < 2 ^ 64 → length (numbered (which_text which) value (codes "\n")) ≤ 200
short_limit which value v =
    let whole = length_numbered (which_text which) (codes "\n") value in let one = short_decimal value v in let rest = short_which which in omega arith

short_why : (why : WrongLog) → length (wrong_text why) ≤ 40
short_why FormWrong = omega arith
short_why other = omega arith

-- the line of a verdict with small numbers has at most 200 bytes
short_verdict : (before : ℕ) (verdict : Verdict) → HasNumbers before verdict → length (verdict_line before verdict) ≤ 200
short_verdict before (Legal entries) small =
    let whole = length_numbered (codes "legal ") (codes "\n") entries in let one = short_decimal entries (omega (arith, small)) in omega arith
short_verdict before (WrongVerdict line why) small =
    let whole = length_numbered (codes "wrong line ") (wrong_text why) (before + line) in
    let one = short_decimal (before + line) (omega (arith, small)) in let rest = short_why why in omega arith

short_judged : {opening : Bool} {input : Option (List ℕ) × Option (List ℕ)} {P : ℕ → Verdict → Type 0} → (h : Judged opening input P)
    → length (verdict_line h.before h.verdict) ≤ 200
short_judged {opening = opening} h = short_verdict h.before h.verdict (small_numbers opening h.bytes h.before h.verdict h.is h.read.1)

-- ---- what a sized sink tells

-- the length of its store, and then the bytes that it holds
abbrev told : CleanSink → Option (List ℕ)
told sink = Some (vec_len sink.store ∷ take sink.used sink.store.items)

abbrev first_of : List ℕ → ℕ
first_of [] = 0
first_of (x ∷ l) = x

abbrev rest_of : List ℕ → List ℕ
rest_of [] = []
rest_of (x ∷ l) = l

prefix_alone : (n m : ℕ) (old new text : List ℕ) → AppendsPrefix (Some (n ∷ old)) (Some (m ∷ new)) text → AppendsPrefix (Some old) (Some new) text
prefix_alone n m old new text p = record { front = p.front; rest = p.rest; whole = p.whole; appended = ap rest_of p.appended }

-- what is so of a verdict is so in each weaker form
judged_weaker : {opening : Bool} {input : Option (List ℕ) × Option (List ℕ)} (P Q : ℕ → Verdict → Type 0)
    → ((before : ℕ) (verdict : Verdict) → P before verdict → Q before verdict) → Judged opening input P → Judged opening input Q
judged_weaker P Q weaker h = record {
  bytes = h.bytes;
  read = h.read;
  before = h.before;
  verdict = h.verdict;
  is = h.is;
  holds = weaker h.before h.verdict h.holds;
}

-- what a run wrote, of the bytes alone
wrote_alone : (words : List (List ℕ)) (input_old input_new : Option (List ℕ)) (n m : ℕ) (old new : List ℕ) (status : Status)
    → Wrote words input_old input_new (Some (n ∷ old)) (Some (m ∷ new)) status → Wrote words input_old input_new (Some old) (Some new) status
wrote_alone words i j n m old new (Done None) h = h
wrote_alone words i j n m old new (Done (Some closed)) h = (h.0, h.1, ap rest_of h.2)
wrote_alone words i j n m old new (WriteFault None) h = h
wrote_alone words i j n m old new (WriteFault (Some closed)) h = (h.0, h.1, prefix_alone n m old new h.0 h.2)
wrote_alone words i j n m old new (Wrong line) h = h
wrote_alone words i j n m old new other h = ap rest_of h

-- what a check said, of the bytes alone
checked_alone : (opening : Bool) (input : Option (List ℕ) × Option (List ℕ)) (n m : ℕ) (old new : List ℕ) (status : Status)
    → IsChecked opening input (Some (n ∷ old), Some (m ∷ new)) status → IsChecked opening input (Some old, Some new) status
checked_alone opening input n m old new (Done closed) h = judged_weaker _ _ (λ before verdict x. (x.0, ap rest_of x.1)) h
checked_alone opening input n m old new (WriteFault closed) h =
    (h.0, judged_weaker _ _ (λ before verdict x. prefix_alone n m old new (verdict_line before verdict) x) h.1)
checked_alone opening input n m old new Usage h = h
checked_alone opening input n m old new (Wrong line) h = judged_weaker _ _ (λ before verdict x. (x.0, ap rest_of x.1)) h
checked_alone opening input n m old new other h = ap rest_of h

-- the store is as long as before, and longer than the bytes, where a first part of a text was taken and there was room
-- for more than the text
still_room : (n m used_old used_new : ℕ) (old new text : List ℕ) → length old ≡ used_old → length new ≡ used_new
    → AppendsPrefix (Some (n ∷ old)) (Some (m ∷ new)) text → length text < n - used_old → used_new < m
still_room n m used_old used_new old new text long_old long_new p less =
    let e : m ∷ new ≡ n ∷ (old ++ p.front) = p.appended in let same : m ≡ n = ap first_of e in
    let grown : length new ≡ length old + length p.front = ap (λ l. length (rest_of l)) e ∙ length-append old p.front in
    let whole : length text ≡ length p.front + length p.rest = ap length p.whole ∙ length-append p.front p.rest in omega arith

-- ---- counts that are 0

never_rose : (before after : ℕ) → after ≡ 0 → Rose before after → ⊥
never_rose before after none rose = let lt = rose (omega (arith, none)) in omega (arith, none, lt)

-- a sink holds as many bytes as it says
long_enough : (sink : CleanSink) → length (held_by sink) ≡ sink.used
long_enough sink = length-take-le sink.used sink.store.items (omega (arith, sink.within, sink.store.ok.0))

module _ (before after : CleanSink) where
  -- a sink that took a first part of a text, and had room for more, counts no failure
  no_fault : (text : List ℕ) → AppendsPrefix (told before) (told after) text → length text < free_in before → after.faults ≡ 0
  no_fault text p less = after.clean (still_room (vec_len before.store) (vec_len after.store) before.used after.used (held_by before) (held_by after) text
      (long_enough before) (long_enough after) p less)

  no_fault_before : HasRoomForLine before → before.faults ≡ 0
  no_fault_before some = before.clean (omega (arith, some))

  no_fault_kept : HasRoomForLine before → Keeps (told before) (told after) → after.faults ≡ 0
  no_fault_kept some h = no_fault [] (AppendsPrefix-none (told before) (told after) [] h) (omega (arith, some))

  no_fault_verdict : (number : ℕ) (verdict : Verdict) → length (verdict_line number verdict) ≤ 200 → HasRoomForLine before
      → Appends (told before) (told after) (verdict_line number verdict) → after.faults ≡ 0
  no_fault_verdict number verdict short some h =
      no_fault (verdict_line number verdict) (AppendsPrefix-itself (told before) (told after) (verdict_line number verdict) h) (omega (arith, some, short))

  -- whatever a run wrote, its output counts no failure
  no_fault_out : (words : List (List ℕ)) (bytes : List ℕ) (j : Option (List ℕ)) (status : Status) → HasRoomForLine before → HasRoomForReports words bytes before
      → Wrote words (Some bytes) j (told before) (told after) status → ChecksAs words (Some bytes, j) (told before, told after) status → after.faults ≡ 0
  no_fault_out words bytes j (Done None) some room h says = let c = says h.0 h.1 in no_fault_verdict c.before c.verdict (short_judged c) some c.holds.1
  no_fault_out words bytes j (Done (Some closed)) some room h says =
      no_fault h.0 (AppendsPrefix-itself (told before) (told after) h.0 h.2) (room j closed h.0 h.1)
  no_fault_out words bytes j (WriteFault None) some room h says =
      let c = (says h.0 h.1).1 in no_fault (verdict_line c.before c.verdict) c.holds (omega (arith, some, short_judged c))
  no_fault_out words bytes j (WriteFault (Some closed)) some room h says = no_fault h.0 h.2 (room j closed h.0 h.1)
  no_fault_out words bytes j (Wrong line) some room h says = let c = says h.0 h.1 in no_fault_verdict c.before c.verdict (short_judged c) some c.holds.1
  no_fault_out words bytes j other some room h says = no_fault_kept some h

  -- nor does the other one, whose line is short
  no_fault_err : (status : Status) → length (error_line status) ≤ 200 → HasRoomForLine before
      → Complains (told before) (told after) before.faults after.faults status → after.faults ≡ 0
  no_fault_err status short some (inl h) = no_fault (error_line status)
      (AppendsPrefix-itself (told before) (told after) (error_line status) h) (omega (arith, short, some))
  no_fault_err status short some (inr h) = no_fault (error_line status) h.0 (omega (arith, short, some))

  -- so it has the whole line
  line_where_none : (status : Status) → after.faults ≡ 0 → Complains (told before) (told after) before.faults after.faults status
      → Appends (Some (held_by before)) (Some (held_by after)) (error_line status)
  line_where_none status none (inl h) = ap rest_of h
  line_where_none status none (inr h) = absurd (never_rose before.faults after.faults none h.1)

-- the run ended as it is called for, or for want of memory
called_for : (words : List (List ℕ)) (bytes : List ℕ) (before after : ℕ) (status : Status) → after ≡ 0
    → IsOnlyOutcome words bytes status ⊎ IsHindered (0, 0) (before, after) status → EndsAsCalledFor words bytes status
called_for words bytes before after status none (inl h) = inl h
called_for words bytes before after ReadFault none (inr h) = absurd (never_rose 0 0 refl h)
called_for words bytes before after (WriteFault closed) none (inr h) = absurd (never_rose before after none h)
called_for words bytes before after Memory none (inr h) = inr refl
called_for words bytes before after other none (inr h) = absurd h

done_alone : (status : Status) → Done None ≡ ending status → IsDone status
done_alone (Done closed) e = tt
done_alone other e = absurd cc

-- where being done is called for, the run is done
pub is_done : (words : List (List ℕ)) (bytes : List ℕ) (status : Status) → EndsAsCalledFor words bytes status → CallForDone words bytes → IsDoneOrMemory status
is_done words bytes status (inl h) asked = inl (done_alone status (h.only (Done None) asked))
is_done words bytes status (inr h) asked = inr h

-- ---- the clauses, where the run took its sinks out of their places

pub run_wrote : (words : List (List ℕ)) (i j : Option (List ℕ)) (before taken after : CleanSink) (status : Status) → taken ≡ before
    → Wrote words i j (told taken) (told after) status → Wrote words i j (Some (held_by before)) (Some (held_by after)) status
run_wrote words i j before taken after status same h =
    wrote_alone words i j _ _ _ _ status (subst (λ sink. Wrote words i j (told sink) (told after) status) same h)

-- so it is with what a check said
pub run_checked : (words : List (List ℕ)) (input : Option (List ℕ) × Option (List ℕ)) (before taken after : CleanSink) (status : Status) → taken ≡ before
    → ChecksAs words input (told taken, told after) status → ChecksAs words input (Some (held_by before), Some (held_by after)) status
run_checked words input before taken after status same says opening asked =
    checked_alone opening input _ _ _ _ status (subst (λ sink. IsChecked opening input (told sink, told after) status) same (says opening asked))

module _ (before taken after : CleanSink) (same : taken ≡ before) (some : HasRoomForLine before) where
  module _ (status : Status) (short : length (error_line status) ≤ 200) (h : Complains (told taken) (told after) taken.faults after.faults status) where
    complained : Complains (told before) (told after) before.faults after.faults status
    complained = subst (λ sink. Complains (told sink) (told after) sink.faults after.faults status) same h

    -- the sink for errors counts no failure that it hadn't counted before
    pub err_faults : after.faults ≡ before.faults
    err_faults = no_fault_err before after status short some complained ∙ sym (no_fault_before before after some)

    -- it has the whole line of the status behind what it held
    pub err_line : Appends (Some (held_by before)) (Some (held_by after)) (error_line status)
    err_line = line_where_none before after status (no_fault_err before after status short some complained) complained

  module _ (words : List (List ℕ)) (bytes : List ℕ) (j : Option (List ℕ)) (status : Status)
      (room : HasRoomForReports words bytes before) (h : Wrote words (Some bytes) j (told taken) (told after) status)
      (says : ChecksAs words (Some bytes, j) (told taken, told after) status) where
    out_none : after.faults ≡ 0
    out_none = no_fault_out before after words bytes j status some room (subst (λ sink. Wrote words (Some bytes) j (told sink) (told after) status) same h)
        (subst (λ sink. ChecksAs words (Some bytes, j) (told sink, told after) status) same says)

    -- the sink for the report counts no failure that it hadn't counted before
    pub out_faults : after.faults ≡ before.faults
    out_faults = out_none ∙ sym (no_fault_before before after some)

    -- the run ended as its words and its bytes call for, or for want of memory
    pub out_complete : IsOnlyOutcome words bytes status ⊎ IsHindered (0, 0) (taken.faults, after.faults) status → EndsAsCalledFor words bytes status
    out_complete end = called_for words bytes taken.faults after.faults status out_none end
