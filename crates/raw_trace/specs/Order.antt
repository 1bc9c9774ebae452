-- In which order the lines of a log are written. The kernel took a call that was cut in two at some time between its
-- halves. It stands at its second half, unless a call that ends between them takes pages that it frees: then it stands
-- just before that one, and what it takes in turn before both; of several the one that frees the lowest page goes
-- first. So munmap(2) and mremap(2) free pages before another call has them. A mapping with MAP_FIXED takes the pages
-- that are there, so it needs none to be free. Each process keeps its order, since between the halves of a call it
-- makes no other. The rule is this project's own profile, after mmap(2) and the logs of programs with threads.
use Rattle.std.specs.Prelude.{ℕ, suc, zero, ◌+◌, ◌*◌, ◌==◌, List, [], ◌∷◌, ◌++◌, length, Bool, true, false, if◌then◌else◌, nat_lt, max, min}
use Rattle.std.specs.Prelude.{Option, Some, None, option_map, unwrap_or}
use Rattle.std.specs.declared.cmp.Ordering.{Ordering}
use Rattle.std.specs.Ordering.{ordering_then, match_ordering, nat_cmp}
use Rattle.page_types.specs.declared.calls.Call.{Call}
use Rattle.page_types.specs.declared.calls.Call.TheVariants.{Map, Unmap, Protect, Fault, Seal, Brk, Remap}
use Rattle.page_types.specs.Pages.{page_of, end_page}
use Rattle.page_types.specs.Sets.{flag_bits, has_bits}
use Rattle.strace_reader.specs.declared.item.Recorded.{Recorded}
use Rattle.strace_reader.specs.declared.item.Recorded.TheVariants.{Value, Failed}
use Rattle.raw_trace.specs.declared.calls.Pages.{Pages}
use Rattle.raw_trace.specs.declared.calls.ReadCall.{ReadCall}
use Rattle.raw_trace.specs.declared.fault.Trouble.{Trouble}
use Rattle.raw_trace.specs.declared.settling.Ending.{Ending}

-- ---- the pages of a call

-- no pages
abbrev pub no_pages : Pages
no_pages = record { from = 0; to = 0 }

-- so many bytes from an address on, in whole pages
abbrev pub pages_at : ℕ → ℕ → Pages
pages_at addr len = record { from = page_of addr; to = end_page addr len }

-- the pages between the ends of two lengths from one address
abbrev pub pages_between : ℕ → ℕ → ℕ → Pages
pages_between addr len longer = record { from = end_page addr len; to = end_page addr longer }

-- The pages that a call was recorded to free: those of an munmap; of an mremap those that it had and hasn't any more.
abbrev pub freed_by : Call → Recorded → Pages
freed_by (Unmap addr len) (Value n) = pages_at addr len
freed_by (Remap addr old_len new_len may_move hint) (Value at) =
    if at == addr then pages_between addr new_len old_len else pages_at addr old_len
freed_by (Map addr len prot flags) (Value n) = no_pages
freed_by (Protect addr len prot) (Value n) = no_pages
freed_by (Fault addr access) (Value n) = no_pages
freed_by (Seal addr len flags) (Value n) = no_pages
freed_by (Brk base addr) (Value n) = no_pages
freed_by call (Failed errno) = no_pages

-- The pages that a call was recorded to take, which have to be free: those of an mmap without MAP_FIXED; of an mremap
-- those that it has and hadn't before.
abbrev pub taken_by : Call → Recorded → Pages
taken_by (Map addr len prot flags) (Value at) = if has_bits (flag_bits flags) 4 then no_pages else pages_at at len
taken_by (Remap addr old_len new_len may_move hint) (Value at) =
    if at == addr then pages_between addr old_len new_len else pages_at at new_len
taken_by (Unmap addr len) (Value n) = no_pages
taken_by (Protect addr len prot) (Value n) = no_pages
taken_by (Fault addr access) (Value n) = no_pages
taken_by (Seal addr len flags) (Value n) = no_pages
taken_by (Brk base addr) (Value n) = no_pages
taken_by call (Failed errno) = no_pages

-- the same of a line, which may be no call or have no result
abbrev pub freed : Option ReadCall → Pages
freed None = no_pages
freed (Some call) = unwrap_or (option_map (freed_by call.call) call.recorded) no_pages

abbrev pub taken : Option ReadCall → Pages
taken None = no_pages
taken (Some call) = unwrap_or (option_map (taken_by call.call) call.recorded) no_pages

-- some page is one of both
abbrev pub meet : Pages → Pages → Bool
meet a b = nat_lt (max a.from b.from) (min a.to b.to)

-- ---- what is put in order

-- A line as it is written: the number of its line in the log, of two halves that of the first; its process; how it
-- became so; whether two halves make it; why it is left unread, or isn't played though it changes an address space; and
-- the call that it is read as.
pub record Entry : Type 0 where
  pub number : ℕ
  pub process : ℕ
  pub line : List ℕ
  pub ending : Ending
  pub joined : Bool
  pub trouble : Option Trouble
  pub call : Option ReadCall

-- What a text of a log does: a call that was cut in two begins, or the one of a process ends, or a whole line comes.
pub data Step : Type 0 where
  Begins : Entry → Step
  Ends : ℕ → Step
  Comes : Entry → Step

-- the first call frees pages that the second takes
abbrev pub frees_for : Entry → Entry → Bool
frees_for first second = meet (freed first.call) (taken second.call)

-- ---- the order

-- the first of some, and the others
pub record Picked : Type 0 where
  pub first : Entry
  pub others : List Entry

-- the first for which the test holds, and the others
abbrev pub pick : (Entry → Bool) → List Entry → Option Picked
pick test [] = None
pick test (entry ∷ entries) =
    if test entry then Some (record { first = entry; others = entries })
    else option_map (λ p. record { first = p.first; others = entry ∷ p.others }) (pick test entries)

-- where a call stands among those that wait: by the first page that it frees, then by its process
abbrev pub stand : Entry → ℕ × ℕ
stand entry = ((freed entry.call).from, entry.process)

-- of two such places
abbrev pub pair_cmp : ℕ × ℕ → ℕ × ℕ → Ordering
pair_cmp = λ a b. ordering_then (nat_cmp a.0 b.0) (nat_cmp a.1 b.1)

-- those that wait with one more, at its place
abbrev pub put : Entry → List Entry → List Entry
put entry [] = entry ∷ []
put entry (other ∷ others) =
    match_ordering (pair_cmp (stand entry) (stand other)) (entry ∷ (other ∷ others)) (entry ∷ others) (other ∷ put entry others)

-- those of other processes: a process has one call that waits at most
abbrev pub of_others : ℕ → List Entry → List Entry
of_others process [] = []
of_others process (entry ∷ entries) = if entry.process == process then of_others process entries else entry ∷ of_others process entries

-- what is written by now, and which calls wait still
pub record Written : Type 0 where
  pub lines : List Entry
  pub waiting : List Entry

abbrev pub behind : Entry → Written → Written
behind entry found = record { lines = entry ∷ found.lines; waiting = found.waiting }

-- Entries that are due are written, the first one first; but one that waits goes before an entry for which it frees
-- pages. It counts down: each turn writes an entry, or makes a waiting one due.
abbrev pub write_due : ℕ → (Entry → Entry → Bool) → List Entry → List Entry → Written
write_due zero frees due waiting = record { lines = []; waiting = waiting }
write_due (suc n) frees [] waiting = record { lines = []; waiting = waiting }
write_due (suc n) frees (entry ∷ due) waiting =
    unwrap_or (option_map (λ p. write_due n frees (p.first ∷ entry ∷ due) p.others) (pick (λ other. frees other entry) waiting))
    (behind entry (write_due n frees due waiting))

-- how many turns that takes
abbrev pub turns : List Entry → List Entry → ℕ
turns due waiting = length due + 2 * length waiting

-- one entry is written, behind what it needs
abbrev pub write_entry : (Entry → Entry → Bool) → Entry → List Entry → Written
write_entry frees entry waiting = write_due (turns (entry ∷ []) waiting) frees (entry ∷ []) waiting

-- What a step writes: a call that begins waits; one that ends is written, where it waits still; a whole line is
-- written.
abbrev pub does : (Entry → Entry → Bool) → Step → List Entry → Written
does frees (Begins entry) waiting = record { lines = []; waiting = put entry (of_others entry.process waiting) }
does frees (Comes entry) waiting = write_entry frees entry waiting
does frees (Ends process) waiting =
    unwrap_or (option_map (λ p. write_entry frees p.first p.others) (pick (λ entry. entry.process == process) waiting))
    (record { lines = []; waiting = waiting })

-- the lines in their order, where these calls wait
abbrev pub order : (Entry → Entry → Bool) → List Entry → List Step → List Entry
order frees waiting [] = []
order frees waiting (step ∷ steps) = let found = does frees step waiting in found.lines ++ order frees found.waiting steps
