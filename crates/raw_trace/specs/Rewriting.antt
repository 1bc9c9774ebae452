-- The whole: from the bytes of a raw log to the bytes that are written. `AreTexts` of `raw_logs` has its texts; each
-- does a step (Places.antt), the steps give the lines in their order (Order.antt), and where the heap is mapped over
-- those of brk are written as what they did (Heaps.antt). A log has one rewriting.
use Rattle.std.specs.Prelude.{◌≡◌, ℕ, ◌+◌, List, [], ◌∷◌, ◌++◌, map, Bool, true, false, if◌then◌else◌, Option, Some, None, option_to_list, is_none, is_some}
use Rattle.raw_logs.specs.declared.counts.Counts.{Counts}
use Rattle.raw_logs.specs.declared.counts.Sort.TheVariants.{Joined, Mended, Unreturned, Unread, Forms, Injected, Outside, Unanswered}
use Rattle.raw_logs.specs.Counting.{one_more_of, within_32_bits}
use Rattle.raw_logs.specs.Log.{Numbered, Each}
use Rattle.raw_logs.specs.Reading.{AreTexts}
use Rattle.page_types.specs.declared.calls.Call.{Call}
use Rattle.page_types.specs.declared.calls.Call.TheVariants.{Protect}
use Rattle.strace_reader.specs.declared.item.Recorded.{Recorded}
use Rattle.strace_reader.specs.declared.item.Recorded.TheVariants.{Failed}
use Rattle.strace_reader.specs.declared.item.Errno.TheVariants.{Einval}
use Rattle.raw_trace.specs.declared.calls.ReadCall.{ReadCall}
use Rattle.raw_trace.specs.declared.tally.Tally.{Tally}
use Rattle.raw_trace.specs.declared.fault.Cause.{Cause}
use Rattle.raw_trace.specs.declared.fault.Cause.TheVariants.{Form, Alone, Unclear, OtherForm, Unknown}
use Rattle.raw_trace.specs.declared.fault.Trouble.{Trouble}
use Rattle.raw_trace.specs.declared.settling.Ending.{Ending}
use Rattle.raw_trace.specs.declared.settling.Ending.TheVariants.{AsItIs, ByMends, AsUnreturned, AsUnread, AsInjected, AsOutside}
use Rattle.raw_trace.specs.Heaps.{heap_end, is_moved, heap_start, heap_pages, changed_pages, instead, shown}
use Rattle.raw_trace.specs.Order.{Entry, Step, meet, frees_for, order}
use Rattle.raw_trace.specs.Places.{ReadText, IsReadText, AreSteps}

-- lines as a text: each with its newline
abbrev pub text_of : List (List ℕ) → List ℕ
text_of [] = []
text_of (line ∷ lines) = line ++ (10 ∷ text_of lines)

-- the lines
abbrev pub lines_as : List Entry → List (List ℕ)
lines_as entries = map (λ entry. entry.line) entries

-- the calls that they are read as
abbrev pub calls_of : List Entry → List ReadCall
calls_of [] = []
calls_of (entry ∷ entries) = option_to_list entry.call ++ calls_of entries

-- a line is counted so
abbrev pub counted : Ending → Counts → Counts
counted AsItIs = λ counts. counts
counted ByMends = one_more_of Mended
counted AsUnreturned = one_more_of Unreturned
counted AsUnread = one_more_of Unread
counted AsInjected = one_more_of Injected
counted AsOutside = one_more_of Outside

-- the cause is the form of a call
abbrev pub is_form_cause : Cause → Bool
is_form_cause OtherForm = true
is_form_cause (Form what) = false
is_form_cause Alone = false
is_form_cause Unclear = false
is_form_cause Unknown = false

-- a call isn't played for its form
abbrev pub is_form : Option Trouble → Bool
is_form None = false
is_form (Some t) = is_form_cause t.cause

-- the call's result isn't told: it never returned, or the line ends before it
abbrev pub is_unanswered : Option ReadCall → Bool
is_unanswered None = false
is_unanswered (Some call) = is_none call.recorded

abbrev pub counted_entry : Entry → Counts → Counts
counted_entry entry counts =
    let joined = if entry.joined then one_more_of Joined counts else counts in
    let formed = if is_form entry.trouble then one_more_of Forms joined else joined in
    counted entry.ending (if is_unanswered entry.call then one_more_of Unanswered formed else formed)

-- the counts, with those of these lines
abbrev pub counted_all : Counts → List Entry → Counts
counted_all counts [] = counts
counted_all counts (entry ∷ entries) = counted_all (counted_entry entry counts) entries

-- no call
abbrev pub no_calls : Tally
no_calls = record { calls = 0; start = None; heap = None; over = false; programs = 0; brks = 0; protects = 0 }

-- the call is an mprotect that failed, and may have changed the pages before the fault
abbrev pub is_part_done : Call → Option Recorded → Bool
is_part_done (Protect addr len prot) (Some (Failed Einval)) = false
is_part_done (Protect addr len prot) (Some (Failed errno)) = true
is_part_done call recorded = false

-- one call more, where it is one: one that is told another end of the heap shows that another program began, and from
-- one that changes pages of the heap on, those of brk are written as what they did
abbrev pub counted_call : Option ReadCall → Tally → Tally
counted_call None t = t
counted_call (Some read) t =
    let moved = is_moved read.call read.recorded t.heap in record {
      calls = within_32_bits (t.calls + 1);
      start = heap_start moved read.call read.recorded t.start;
      heap = heap_end read.call read.recorded t.heap;
      over = if t.over then true else meet (changed_pages read.call read.recorded) (heap_pages t.start t.heap);
      programs = if moved then within_32_bits (t.programs + 1) else t.programs;
      brks = if is_some (instead t (Some read)) then within_32_bits (t.brks + 1) else t.brks;
      protects = if is_part_done read.call read.recorded then within_32_bits (t.protects + 1) else t.protects;
    }

-- the calls among lines, behind these
abbrev pub calls_after : Tally → List Entry → Tally
calls_after t [] = t
calls_after t (entry ∷ entries) = calls_after (counted_call entry.call t) entries

-- these lines, behind such calls, with what is written instead
abbrev pub shown_all : Tally → List Entry → List Entry
shown_all t [] = []
shown_all t (entry ∷ entries) = shown t entry ∷ shown_all (counted_call entry.call t) entries

-- the log is rewritten so
pub record IsRewriting (process : Option ℕ) (bytes out : List ℕ) (counts : Counts) (calls : Tally) : Type 0 where
  pub chosen : List Numbered
  pub before : Counts
  pub texts : AreTexts process bytes chosen before
  pub read : List ReadText
  pub reads : Each IsReadText chosen read
  pub steps : List Step
  pub are : AreSteps [] read [] steps
  pub bytes_of : out ≡ text_of (lines_as (shown_all no_calls (order frees_for [] steps)))
  pub sum : counts ≡ counted_all before (order frees_for [] steps)
  pub number : calls ≡ calls_after no_calls (order frees_for [] steps)
