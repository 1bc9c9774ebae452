-- A heap that is mapped over. brk(2) moves the end of the heap, which the kernel keeps; `space_model` looks for it in
-- the pages. Where another call changes pages of the heap they differ, so from there on a brk is written as the mapping
-- or the unmapping that it was by the ends that were recorded. One that left the pages as they were asks for the end
-- there.
use Rattle.std.specs.Prelude.{ℕ, ◌+◌, ◌-◌, ◌*◌, ◌^◌, ◌==◌, List, Bool, false, not, if◌then◌else◌, nat_lt, max, Option, Some, None, option_map, unwrap_or}
use Rattle.page_types.specs.declared.calls.Call.{Call}
use Rattle.page_types.specs.declared.calls.Call.TheVariants.{Map, Unmap, Protect, Seal, Brk}
use Rattle.page_types.specs.Pages.{page_of, page_count, end_page}
use Rattle.strace_reader.specs.declared.item.Recorded.{Recorded}
use Rattle.strace_reader.specs.declared.item.Recorded.TheVariants.{Value}
use Rattle.maps_printer.specs.Calls.{call_text}
use Rattle.raw_logs.specs.Numbering.{with_number}
use Rattle.raw_trace.specs.declared.calls.Pages.{Pages}
use Rattle.raw_trace.specs.declared.calls.ReadCall.{ReadCall}
use Rattle.raw_trace.specs.declared.tally.Tally.{Tally}
use Rattle.raw_trace.specs.Order.{Entry, no_pages, pages_at, freed_by}

-- ---- where a heap is

-- where the heap ends behind a call, as it was recorded
abbrev pub heap_end : Call → Option Recorded → Option ℕ → Option ℕ
heap_end (Brk base addr) (Some (Value at)) heap = Some at
heap_end call recorded heap = heap

-- the call only asks where the heap ends, and is told another end than the last one
abbrev pub is_moved : Call → Option Recorded → Option ℕ → Bool
is_moved (Brk base addr) (Some (Value at)) (Some end) = if addr == 0 then not (at == end) else false
is_moved call recorded heap = false

-- where the heap begins: where it ended as it was first told, by each program
abbrev pub heap_start : Bool → Call → Option Recorded → Option ℕ → Option ℕ
heap_start moved (Brk base addr) (Some (Value at)) None = Some at
heap_start moved (Brk base addr) (Some (Value at)) (Some start) = if moved then Some at else Some start
heap_start moved call recorded start = start

-- the pages of the heap, as far as they were told, and the one behind them, where it would grow
abbrev pub heap_pages : Option ℕ → Option ℕ → Pages
heap_pages (Some start) (Some end) = record { from = page_of start; to = end_page start (end - start) + 1 }
heap_pages start end = no_pages

-- the pages that a call maps, frees, protects or seals; a protection may fail behind the first of them
abbrev pub changed_pages : Call → Option Recorded → Pages
changed_pages (Map addr len prot flags) (Some (Value at)) = pages_at at len
changed_pages (Protect addr len prot) recorded = pages_at addr len
changed_pages (Seal addr len flags) recorded = pages_at addr len
changed_pages call recorded = unwrap_or (option_map (freed_by call) recorded) no_pages

-- ---- what a brk is written as

-- a mapping to read and write of the process alone, or an unmapping, that moves the heap's end from a page to another;
-- where both are one, a brk that asks for the end of a heap that begins there
abbrev pub moving : ℕ → ℕ → Call
moving from to =
    if nat_lt from to then Map (from * 4096) ((to - from) * 4096) (record { 0 = 3 }) (record { 0 = 6 })
    else if nat_lt to from then Unmap (to * 4096) ((from - to) * 4096) else Brk (to * 4096) 0

-- what a brk did by the end that it was told and the one before; one with no address only asks. No end that counts is
-- 2^63 or above.
abbrev pub done_by : Call → Option Recorded → Option ℕ → Option Call
done_by (Brk base addr) (Some (Value end)) (Some old) =
    if nat_lt (max old end) (2 ^ 63) then Some (moving (page_count (if addr == 0 then end else old)) (page_count end)) else None
done_by call recorded heap = None

-- the call that is written instead of one behind such calls, if one is
abbrev pub instead : Tally → Option ReadCall → Option ReadCall
instead t None = None
instead t (Some read) = if t.over
    then option_map (λ call. record { pid = read.pid; call = call; recorded = None }) (done_by read.call read.recorded t.heap) else None

-- the line of a call: its process, if it has one, and the call, with no result
abbrev pub call_line : ReadCall → List ℕ
call_line read = if read.pid == 0 then call_text read.call else with_number read.pid (call_text read.call)

-- a line as it is written behind such calls
abbrev pub shown : Tally → Entry → Entry
shown t entry = unwrap_or (option_map (λ read. record {
  number = entry.number;
  process = entry.process;
  line = call_line read;
  ending = entry.ending;
  joined = entry.joined;
  trouble = entry.trouble;
  call = Some read;
}) (instead t entry.call)) entry
