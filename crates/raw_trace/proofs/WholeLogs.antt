-- A whole log: what was written of it is its rewriting, its lines are short, and no other fault is called for than the
-- one that was found.
use Rattle.std.proofs.Common.{◌≡◌, ◌≢◌, ◌⊎◌, ℕ, ◌≤◌, ◌<◌, Bool, true, false, List, [], ◌∷◌, ◌++◌, length, Option, Some, None, refl, sym, ap, subst, ◌∙◌, inl, inr, arith}
use Rattle.std.specs.Prelude.{All, IfOk, IfErr, OnOk, Result, Ok, Err, if◌then◌else◌}
use Rattle.std.proofs.lemmas.List.Elements.{All-cons, All-nil}
use Rattle.raw_logs.specs.declared.counts.Counts.{Counts}
use Rattle.raw_logs.specs.declared.fault.LogFault.{LogFault}
use Rattle.raw_logs.specs.declared.fault.LogFault.TheVariants.{Memory as LogMemory}
use Rattle.raw_logs.specs.Counting.{one_more_of}
use Rattle.raw_logs.specs.declared.counts.Sort.{Sort}
use Rattle.raw_logs.specs.declared.counts.Sort.TheVariants.{Joined, Forms, Unanswered}
use Rattle.raw_logs.specs.Log.{Numbered}
use Rattle.raw_logs.specs.Reading.{AreTexts, IsFirstUnknown, IsLogFault}
use Rattle.raw_logs.proofs.OneLog.{texts_one, unknown_one, texts_no_fault}
use Rattle.raw_logs.proofs.UnreadLogs.{texts_unread}
use Rattle.raw_trace.specs.declared.fault.Fault.{Fault}
use Rattle.raw_trace.specs.declared.fault.Fault.TheVariants.{Unreadable, LongLine, Memory}
use Rattle.raw_trace.specs.declared.fault.Trouble.{Trouble}
use Rattle.raw_trace.specs.declared.rewriting.Rewriting.{Rewriting}
use Rattle.raw_trace.specs.declared.settling.Ending.{Ending}
use Rattle.raw_trace.specs.declared.settling.Ending.TheVariants.{AsUnread}
use Rattle.raw_trace.specs.declared.writing.Written.{Written}
use Rattle.raw_trace.specs.Order.{Entry, Step, frees_for, order}
use Rattle.raw_trace.specs.Places.{Becomes, becomes_undone, becomes_unread, IsTrouble, IsEntry, ReadText, part, AreSteps}
use Rattle.raw_trace.specs.declared.tally.Tally.{Tally}
use Rattle.raw_trace.specs.Heaps.{shown}
use Rattle.raw_trace.specs.Rewriting.{lines_as, is_form, is_unanswered, counted, counted_entry, counted_all, no_calls, counted_call, shown_all, IsRewriting}
use Rattle.raw_trace.specs.Faults.{of_log, Stops, asked_unknown, earlier_of, unknown_at, IsTextsFault, IsCausedFault, IsFault}
use Rattle.raw_trace.specs.Laws.{HasShortLines, HasOneRewriting, HasOneFault}
use Rattle.raw_trace.specs.Stages.{EachEntry, MayBeWritten, WroteAll, EndsAll}
use Rattle.raw_trace.proofs.HeapLines.{line_short, IsShown, stays, turns_into, shows}
use Rattle.raw_trace.proofs.LineCalls.{IsWritten, instead_small, lines_written}
use Rattle.raw_trace.proofs.EachEntries.{EachStep, line_in, done_each, order_each}
use Rattle.raw_trace.proofs.OneFault.{never_stops}

-- ---- the whole

-- what is written of its texts is the rewriting
pub rewriting_is : (process : Option ℕ) (strict : Bool) (bytes : List ℕ) (chosen : List Numbered) (before : Counts) (found : Written)
    → AreTexts process bytes chosen before → WroteAll strict chosen before found → IsRewriting process bytes found.out.items found.counts found.calls
rewriting_is process strict bytes chosen before found are w =
    record {
      chosen = chosen;
      before = before;
      texts = are;
      read = w.texts;
      reads = w.reads;
      steps = w.steps;
      are = w.are;
      bytes_of = w.out;
      sum = w.sum;
      number = w.calls;
    }

-- ---- the lines of what is written

-- an entry that may be written is short
may_short : (strict : Bool) (e : Entry) → MayBeWritten strict e → length e.line ≤ 65535
may_short strict e may = let never : 65535 < length e.line → ⊥ = λ l. may (LongLine e.number) (l, refl) in omega (arith, never)

shown_short : (strict : Bool) (t : Tally) (e : Entry) → MayBeWritten strict e → IsWritten e → length (shown t e).line ≤ 65535
shown_short strict t e may w = by (shows t e)
  where
    by : IsShown t e → length (shown t e).line ≤ 65535
    by (stays k) = subst (λ (x : Entry). length x.line ≤ 65535) (sym k) (may_short strict e may)
    by (turns_into read k is) = subst (λ (x : Entry). length x.line ≤ 65535) (sym is) (line_short read (instead_small e read w k) k.plain)

entries_short : (strict : Bool) (t : Tally) (entries : List Entry) → EachEntry (MayBeWritten strict) entries → EachEntry IsWritten entries
    → All (λ line. length line ≤ 65535) (lines_as (shown_all t entries))
entries_short strict t [] h w = All-nil (λ (y : List ℕ). length y ≤ 65535)
entries_short strict t (e ∷ entries) h w =
    let more = shown_all (counted_call e.call t) entries in
    All-cons (λ (y : List ℕ). length y ≤ 65535) (shown t e).line (lines_as more) (shown_short strict t e h.0 w.0)
    (entries_short strict (counted_call e.call t) entries h.1 w.1)

-- so are the lines that are written, which are the lines of what is written
pub written_short : (process : Option ℕ) (strict : Bool) (bytes : List ℕ) (texts : List Numbered) (before : Counts) (found : Written)
    → AreTexts process bytes texts before → WroteAll strict texts before found → HasShortLines found.out.items
unfolding rewriting_is
written_short process strict bytes texts before found are w =
    let lines = lines_written process bytes found.out.items found.counts found.calls (rewriting_is process strict bytes texts before found are w) in
    subst (All (λ (line : List ℕ). length line ≤ 65535)) (sym lines.1) (entries_short strict no_calls (order frees_for [] w.steps) w.may lines.0)

-- ---- lines that are left unread

-- a line that is left unread has a cause, or is too long
abbrev IsTold : Entry → Type 0
IsTold e = e.ending ≡ AsUnread → e.trouble ≡ None → 65535 < length e.line

unread_long : (line written : List ℕ) (ending : Ending) → Becomes line written ending → ending ≡ AsUnread → 65535 < length line → 65535 < length written
unread_long line written ending (becomes_undone k) e l = omega (arith, l)
unread_long line written ending (becomes_unread never half left none) e l = omega (arith, l)
unread_long line written ending becomes e l = absurd cc

entry_told : (number : ℕ) (joined : Bool) (line : List ℕ) (e : Entry) → IsEntry number joined line e → IsTold e
entry_told number joined line e is u n =
    let t : IsTrouble line e.line e.ending None = subst (IsTrouble line e.line e.ending) n is.troubled in
    unread_long line e.line e.ending is.becomes u (t.0 u)

steps_told : (fed texts later : List ReadText) (steps : List Step) → AreSteps fed texts later steps → EachStep IsTold steps
steps_told fed [] later [] are = tt
steps_told fed (text ∷ texts) later (step ∷ steps) are =
    let o = part fed text (texts ++ later) text.reading in
    done_each IsTold text.line o step steps (λ number two e h. entry_told number two (line_in text.line o) e h) are.0
    (steps_told (text ∷ fed) texts later steps are.1)
steps_told fed texts later steps are = absurd are

-- where every line has to be read, one that may be written isn't left unread
may_not_unread : (e : Entry) → MayBeWritten true e → IsTold e → e.ending ≢ AsUnread
may_not_unread e may told u = by e.trouble refl
  where
    by : (t : Option Trouble) → e.trouble ≡ t → ⊥
    by None n = may (LongLine e.number) (told u n, refl)
    by (Some t) n = may (Unreadable e.number t.column t.cause) (refl, may_short true e may, refl, n)

more_unread : (b : Bool) (sort : Sort) (c : Counts) → (one_more_of sort c).unread ≡ c.unread → (if b then one_more_of sort c else c).unread ≡ c.unread
more_unread true sort c e = e
more_unread false sort c e = refl

counted_unread : (e : Ending) (c : Counts) → e ≢ AsUnread → (counted e c).unread ≡ c.unread
counted_unread AsUnread c n = absurd (n refl)
counted_unread ending c n = refl

all_unread : (entries : List Entry) (c : Counts) → EachEntry (MayBeWritten true) entries → EachEntry IsTold entries
    → (counted_all c entries).unread ≡ c.unread
all_unread [] c may told = refl
all_unread (e ∷ entries) c may told =
    let j = if e.joined then one_more_of Joined c else c in
    let k = if is_form e.trouble then one_more_of Forms j else j in
    all_unread entries (counted_entry e c) may.1 told.1
    ∙ counted_unread e.ending (if is_unanswered e.call then one_more_of Unanswered k else k) (may_not_unread e may.0 told.0)
    ∙ more_unread (is_unanswered e.call) Unanswered k refl ∙ more_unread (is_form e.trouble) Forms j refl ∙ more_unread e.joined Joined c refl

-- no line is left unread
pub none_unread : (process : Option ℕ) (strict : Bool) (bytes : List ℕ) (texts : List Numbered) (before : Counts) (found : Written)
    → AreTexts process bytes texts before → WroteAll strict texts before found → strict ≡ true → found.counts.unread ≡ 0
none_unread process strict bytes texts before found are w s =
    let may : EachEntry (MayBeWritten true) (order frees_for [] w.steps) =
    subst (λ (b : Bool). EachEntry (MayBeWritten b) (order frees_for [] w.steps)) s w.may in
    ap (λ (c : Counts). c.unread) w.sum
    ∙ all_unread (order frees_for [] w.steps) before may (order_each IsTold frees_for [] w.steps tt (steps_told [] w.texts [] w.steps w.are))
    ∙ texts_unread process bytes texts before are

-- ---- faults

-- the writing that was done ends nowhere
wrote_never : (strict : Bool) (texts : List Numbered) (before : Counts) (found : Written) → WroteAll strict texts before found
    → (fault : Fault) → ¬ Stops strict texts fault
wrote_never strict texts before found w fault = never_stops strict texts w.texts w.steps w.reads w.are w.may fault

-- where each line may be written and every beginning is known, nothing is a fault
pub no_cause : (process : Option ℕ) (strict : Bool) (bytes : List ℕ) (texts : List Numbered) (before : Counts) (unknown : Option ℕ) (found : Written)
    → AreTexts process bytes texts before → IsFirstUnknown process bytes unknown → asked_unknown strict unknown ≡ None → WroteAll strict texts before found
    → (fault : Fault) → ¬ IsCausedFault process strict bytes fault
no_cause process strict bytes texts before unknown found are u k w fault (inl h) = texts_no_fault process bytes texts before h.0 are h.1
no_cause process strict bytes texts before unknown found are u k w fault (inr h) = by h.5
  where
    same : texts ≡ h.0
    same = (texts_one process bytes texts h.0 before h.1 are h.3).0

    by : IsTextsFault strict h.0 (asked_unknown strict h.2) fault → ⊥
    by (inl s) = wrote_never strict texts before found w s.0 (subst (λ (x : List Numbered). Stops strict x s.0) (sym same) s.1)
    by (inr s) =
        let e : asked_unknown strict unknown ≡ asked_unknown strict h.2 = ap (asked_unknown strict) (unknown_one process bytes unknown h.2 u h.4) in
        let n : ◌≡◌ {A = Option ℕ} None (Some s.1) = sym k ∙ (e ∙ s.2) in cc

-- a fault of the reading
pub log_fault : (process : Option ℕ) (strict : Bool) (bytes : List ℕ) (why : LogFault) (fault : Fault) → IsLogFault process bytes why → fault ≡ of_log why
    → IsFault process strict bytes fault
log_fault process strict bytes why Memory h e = tt
log_fault process strict bytes why fault h e = inl (why, h, e)

-- what the reading ends with
pub read_fault : (process : Option ℕ) (strict : Bool) (bytes : List ℕ) (why : LogFault) (fault : Fault) → fault ≡ of_log why
    → (why ≡ LogMemory) ⊎ IsLogFault process bytes why → IsFault process strict bytes fault
read_fault process strict bytes why fault e (inl m) = subst (IsFault process strict bytes) (sym (e ∙ ap of_log m)) tt
read_fault process strict bytes why fault e (inr h) = log_fault process strict bytes why fault h e

-- a caused fault is one
caused_is : (process : Option ℕ) (strict : Bool) (bytes : List ℕ) (fault : Fault) → IsCausedFault process strict bytes fault
    → IsFault process strict bytes fault
caused_is process strict bytes Memory h = tt
caused_is process strict bytes fault h = h

-- want of memory comes before any line
memory_earlier : (unknown : Option ℕ) → earlier_of unknown Memory ≡ Memory
memory_earlier None = refl
memory_earlier (Some number) = refl

-- a fault of the writing, or of a line whose beginning isn't known
pub written_fault : (process : Option ℕ) (strict : Bool) (bytes : List ℕ) (texts : List Numbered) (before : Counts) (unknown asked : Option ℕ)
    (r : Result Written Fault) (fault : Fault) → AreTexts process bytes texts before → IsFirstUnknown process bytes unknown
    → asked ≡ asked_unknown strict unknown
    → IfOk r (WroteAll strict texts before) → IfErr r (EndsAll strict texts)
    → ((found : Fault) × (r ≡ Err found) × (fault ≡ earlier_of asked found))
    ⊎ ((found : Written) × (r ≡ Ok found) × (number : ℕ) × (asked ≡ Some number) × (fault ≡ unknown_at number))
    → IsFault process strict bytes fault
written_fault process strict bytes texts before unknown asked r fault are u same wrote ends (inl h) =
    by (subst (λ (x : Result Written Fault). IfErr x (EndsAll strict texts)) h.1 ends)
  where
    by : EndsAll strict texts h.0 → IsFault process strict bytes fault
    by (inl m) = subst (IsFault process strict bytes)
        (sym (h.2 ∙ ap (earlier_of asked) m ∙ memory_earlier asked)) tt
    by (inr stops) =
        caused_is process strict bytes fault
        (inr (texts, before, unknown, are, u, inl (h.0, stops, h.2 ∙ ap (λ (x : Option ℕ). earlier_of x h.0) same)))
written_fault process strict bytes texts before unknown asked r fault are u same wrote ends (inr h) =
    let w = subst (λ (x : Result Written Fault). IfOk x (WroteAll strict texts before)) h.1 wrote in
    caused_is process strict bytes fault (inr (texts, before, unknown, are, u, inr (wrote_never strict texts before h.0 w, h.2, sym same ∙ h.3, h.4)))

-- ---- what a run comes to

-- what was found is what any rewriting is
pub only_rewriting : (process : Option ℕ) (bytes : List ℕ) (r : Result Rewriting Fault) → HasOneRewriting
    → IfOk r (λ found. IsRewriting process bytes found.out.items found.counts found.calls)
    → (out : List ℕ) (counts : Counts) (calls : Tally) → IsRewriting process bytes out counts calls
    → IfOk r (λ found. (found.out.items ≡ out) × (found.counts ≡ counts) × (found.calls ≡ calls))
only_rewriting process bytes (Ok found) one h out counts calls g = one process bytes found.out.items out found.counts counts found.calls calls h g
only_rewriting process bytes (Err fault) one h out counts calls g = tt

-- a fault that is called for comes
pub fault_comes : (process : Option ℕ) (strict : Bool) (bytes : List ℕ) (r : Result Rewriting Fault) → HasOneFault
    → IfErr r (IsFault process strict bytes) → OnOk r ((fault : Fault) → ¬ IsCausedFault process strict bytes fault)
    → (fault : Fault) → IsCausedFault process strict bytes fault → (r ≡ Err fault) ⊎ (r ≡ Err Memory)
fault_comes process strict bytes (Ok found) one h never fault g = absurd (never fault g)
fault_comes process strict bytes (Err Memory) one h never fault g = inr refl
fault_comes process strict bytes (Err other) one h never fault g = inl (ap (λ (x : Fault). Err x) (one process strict bytes other fault h g))
