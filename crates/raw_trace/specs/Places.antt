-- What each text of a log does: a whole line comes, or a call that another thread's line cut in two begins or ends. And
-- what a line becomes as it is written. The definitions speak of a text, of those before it, the last one first, and of
-- those behind it; the halves of a call are the nearest of its process, as `strace_reader` joins them.
use Rattle.std.specs.Prelude.{◌≡◌, ◌≢◌, ◌⊎◌, ℕ, ◌<◌, ◌≤◌, ◌==◌, List, [], ◌∷◌, ◌++◌, length, take, drop, Bool, true, false, if◌then◌else◌, codes}
use Rattle.std.specs.Prelude.{Option, Some, None, option_map, option_and_then, unwrap_or, Result, Ok, Err}
use Rattle.strace_reader.specs.declared.item.BadCall.{BadCall}
use Rattle.strace_reader.specs.declared.item.Item.{Item}
use Rattle.strace_reader.specs.declared.item.Item.TheVariants.{Played, Unfinished, Resumed, Other, Blank}
use Rattle.strace_reader.specs.declared.item.Name.{Name}
use Rattle.strace_reader.specs.declared.item.Name.TheVariants.{Mmap, Munmap, Mprotect, Fault, Mseal, Brk, Mremap}
use Rattle.strace_reader.specs.declared.item.Recorded.{Recorded}
use Rattle.strace_reader.specs.declared.item.Recorded.TheVariants.{Value, Failed}
use Rattle.strace_reader.specs.declared.item.Errno.TheVariants.{Einval, Enomem, Eexist, Eperm, Efault}
use Rattle.page_types.specs.declared.calls.Call.{Call}
use Rattle.page_types.specs.declared.calls.Call.TheVariants.{Map, Unmap, Brk, Remap}
use Rattle.strace_reader.specs.Grammar.{EndsWith, IsCut, Spells, Refuses}
use Rattle.raw_lines.specs.Beginnings.{ChangesSpace}
use Rattle.raw_lines.specs.Marks.{unread_text}
use Rattle.raw_lines.specs.Mends.{IsWhole, IsMended, unreturned_text}
use Rattle.raw_lines.specs.Plain.{IsStill}
use Rattle.raw_trace.specs.declared.calls.ReadCall.{ReadCall}
use Rattle.raw_trace.specs.Order.{Entry, Step, Begins, Ends, Comes}
use Rattle.raw_trace.specs.declared.fault.Cause.{Cause}
use Rattle.raw_trace.specs.declared.fault.Cause.TheVariants.{Form, Alone, Unclear, OtherForm, Unknown}
use Rattle.raw_trace.specs.declared.fault.Trouble.{Trouble}
use Rattle.raw_trace.specs.declared.settling.Ending.{Ending}
use Rattle.raw_trace.specs.declared.settling.Ending.TheVariants.{AsItIs, ByMends, AsUnreturned, AsUnread, AsInjected, AsOutside}
use Rattle.raw_logs.specs.Log.{Numbered}

-- ---- the halves of a call

-- a text is read so: as an item, or it is refused and is a line of this process
abbrev pub HasReading : List ℕ → Result Item ℕ → Type 0
HasReading text (Ok item) = Spells text item
HasReading text (Err process) = (bad : BadCall) × (body : List ℕ) × Refuses text bad × IsCut text process body

-- a text of a log with what it is read as
pub record ReadText : Type 0 where
  pub line : Numbered
  pub reading : Result Item ℕ

-- a line is this text, which is read so
abbrev pub IsReadText : Numbered → ReadText → Type 0
IsReadText line text = (text.line ≡ line) × HasReading line.text text.reading

-- what is read so is a call of the process or a half of one, or a line of it that is refused
abbrev pub is_of : ℕ → Result Item ℕ → Bool
is_of process (Ok (Played other call recorded)) = other == process
is_of process (Ok (Unfinished other name from to)) = other == process
is_of process (Ok (Resumed other name from)) = other == process
is_of process (Ok Other) = false
is_of process (Ok Blank) = false
is_of process (Err other) = other == process

-- the first of the texts that is one of the process
abbrev pub nearest : ℕ → List ReadText → Option ReadText
nearest process [] = None
nearest process (text ∷ texts) = if is_of process text.reading then Some text else nearest process texts

-- calls by number, so that names can be compared
abbrev pub name_number : Name → ℕ
name_number Mmap = 0
name_number Munmap = 1
name_number Mprotect = 2
name_number Fault = 3
name_number Mseal = 4
name_number Brk = 5
name_number Mremap = 6

-- the line that a first half and a second half of one name make, with the number of the first
abbrev pub joined : List ℕ → Result Item ℕ → List ℕ → Result Item ℕ → Option (List ℕ)
joined first (Ok (Unfinished process name from to)) second (Ok (Resumed other end behind)) =
    if name_number name == name_number end then Some (take to first ++ drop behind second) else None
joined first begin second end = None

-- The line of a call of the process that was cut in two here, behind the first texts, the last one first, and before
-- the others: the nearest texts of the process are its halves.
abbrev pub cut_call : ℕ → List ReadText → List ReadText → Option (List ℕ)
cut_call process fed later =
    option_and_then (λ first. option_and_then (λ second. joined first.line.text first.reading second.line.text second.reading) (nearest process later))
    (nearest process fed)

-- ---- what a line becomes

-- the call failed for a reason outside the address space: no rule of the profile gives its error, so it changed
-- nothing. An mprotect that failed may have changed pages before the fault, so it is none of these.
abbrev pub fails_outside : Call → Option Recorded → Bool
fails_outside (Map addr len prot flags) (Some (Failed Einval)) = false
fails_outside (Map addr len prot flags) (Some (Failed Enomem)) = false
fails_outside (Map addr len prot flags) (Some (Failed Eexist)) = false
fails_outside (Map addr len prot flags) (Some (Failed Eperm)) = false
fails_outside (Map addr len prot flags) (Some (Failed errno)) = true
fails_outside (Unmap addr len) (Some (Failed Einval)) = false
fails_outside (Unmap addr len) (Some (Failed Enomem)) = false
fails_outside (Unmap addr len) (Some (Failed Eperm)) = false
fails_outside (Unmap addr len) (Some (Failed errno)) = true
fails_outside (Remap addr old_len new_len may_move hint) (Some (Failed Einval)) = false
fails_outside (Remap addr old_len new_len may_move hint) (Some (Failed Enomem)) = false
fails_outside (Remap addr old_len new_len may_move hint) (Some (Failed Efault)) = false
fails_outside (Remap addr old_len new_len may_move hint) (Some (Failed Eperm)) = false
fails_outside (Remap addr old_len new_len may_move hint) (Some (Failed errno)) = true
fails_outside (Brk base addr) (Some (Failed errno)) = true
fails_outside call recorded = false

-- strace(1) made the result up, as it says behind it: the kernel didn't do the call
abbrev pub IsInjected : List ℕ → Type 0
IsInjected line = EndsWith (codes " (INJECTED)") line ⊎ EndsWith (codes " (INJECTED) (DELAYED)") line

-- the line is a call that changed nothing, and isn't played: its result was made up, or it failed for a reason outside
-- the address space
abbrev pub IsUndone : List ℕ → Ending → Type 0
IsUndone line AsInjected = (length line ≤ 65535) × IsInjected line
    × (pid : ℕ) × (call : Call) × (recorded : Option Recorded) × Spells line (Played pid call recorded)
IsUndone line AsOutside = (length line ≤ 65535) × (¬ IsInjected line)
    × (pid : ℕ) × (call : Call) × (recorded : Option Recorded) × Spells line (Played pid call recorded) × (fails_outside call recorded ≡ true)
IsUndone line ending = ⊥

-- the line stays as it is wherever it is read again, and isn't a call that changed nothing
abbrev pub IsStillPlayed : List ℕ → Type 0
IsStillPlayed line = IsStill line × ((why : Ending) → ¬ IsUndone line why)

-- the line is read as a whole, stays so wherever it is read again, isn't a call that changed nothing, and is no longer
-- than a line may be
abbrev pub IsGood : List ℕ → Type 0
IsGood line = ((item : Item) × Spells line item × IsWhole item) × IsStillPlayed line × (length line ≤ 65535)

-- the line is this one, or is mended into it
abbrev pub Shows : List ℕ → List ℕ → Type 0
Shows line shown = (shown ≡ line) ⊎ ((bad : BadCall) × Refuses line bad × (length line ≤ 65535) × IsMended line shown)

-- the line shows a call that changed nothing, and with the mark of an unread line it is good
abbrev pub IsLeftOut : List ℕ → Ending → Type 0
IsLeftOut line why = (shown : List ℕ) × Shows line shown × IsUndone shown why × IsGood (unread_text line)

-- the line is a first half, and as a call that never returned it is good
abbrev pub IsHalfAlone : List ℕ → Type 0
IsHalfAlone line = (process : ℕ) × (name : Name) × (from to : ℕ) × Spells line (Unfinished process name from to) × IsGood (unreturned_text line)

-- What a line becomes that no other half belongs to: it is as it is, or it is mended, or it never returned, or it isn't
-- played since it changed nothing. Where none of these is good the line bears the mark of an unread line.
pub data Becomes (line : List ℕ) : List ℕ → Ending → Type 0 where
  becomes_itself : IsGood line → Becomes line line AsItIs
  becomes_mended : {other : List ℕ} → (bad : BadCall) → Refuses line bad → length line ≤ 65535 → IsMended line other → IsGood other → Becomes line other ByMends
  becomes_unreturned : IsHalfAlone line → Becomes line (unreturned_text line) AsUnreturned
  becomes_undone : {why : Ending} → IsLeftOut line why → Becomes line (unread_text line) why
  becomes_unread : (¬ IsGood line) → (¬ IsHalfAlone line) → ((why : Ending) → ¬ IsLeftOut line why)
      → ((bad : BadCall) (other : List ℕ) → Refuses line bad → length line ≤ 65535 → IsMended line other → ¬ IsGood other)
      → Becomes line (unread_text line) AsUnread

-- the call that a line is read as
abbrev pub IsReadAs : List ℕ → Option ReadCall → Type 0
IsReadAs line (Some call) = Spells line (Played call.pid call.call call.recorded)
IsReadAs line None = (pid : ℕ) (call : Call) (recorded : Option Recorded) → ¬ Spells line (Played pid call recorded)

-- the line names a call that changes an address space, and isn't one of a call that never returned
abbrev pub Changes : List ℕ → Type 0
Changes line = (¬ EndsWith (codes "= ?") line) × (pid : ℕ) × (body : List ℕ) × IsCut line pid body × ChangesSpace body

-- the call gives pages a second mapping, which the profile hasn't: an mremap of no bytes that gave an address
abbrev pub doubles : Call → Option Recorded → Bool
doubles (Remap addr old_len new_len may_move hint) (Some (Value at)) = old_len == 0
doubles call recorded = false

-- the line changes an address space, and its form isn't one of the profile: it is passed over, or it doubles pages
abbrev pub IsOtherForm : List ℕ → Type 0
IsOtherForm line = (Spells line Other × Changes line)
    ⊎ ((pid : ℕ) × (call : Call) × (recorded : Option Recorded) × Spells line (Played pid call recorded) × (doubles call recorded ≡ true))

-- why a line can't be read, at this column
abbrev pub IsCauseAt : List ℕ → ℕ → Cause → Type 0
IsCauseAt line column (Form what) = Refuses line (record { column = column; what = what })
IsCauseAt line column Alone = (column ≡ 1) × (process : ℕ) × (name : Name) × (from : ℕ) × Spells line (Resumed process name from)
IsCauseAt line column Unclear = (column ≡ 1) × ((bad : BadCall) → ¬ Refuses line bad)
    × ((process : ℕ) (name : Name) (from : ℕ) → ¬ Spells line (Resumed process name from))
IsCauseAt line column OtherForm = ⊥
IsCauseAt line column Unknown = ⊥

-- why a line can't be read, and where
abbrev pub IsCause : List ℕ → Trouble → Type 0
IsCause line t = IsCauseAt line t.column t.cause

-- a form that the profile hasn't, at the beginning of a line
abbrev pub other_form : Trouble
other_form = record { column = 1; cause = OtherForm }

-- Why a line that became so is left unread, or isn't played though it changes an address space. One that is too long
-- has no cause.
abbrev pub IsTrouble : List ℕ → List ℕ → Ending → Option Trouble → Type 0
IsTrouble line written ending (Some t) = ((ending ≡ AsUnread) × (length line ≤ 65535) × IsCause line t)
    ⊎ ((ending ≢ AsUnread) × IsOtherForm written × (t ≡ other_form))
IsTrouble line written ending None = (ending ≡ AsUnread → 65535 < length line) × (ending ≢ AsUnread → ¬ IsOtherForm written)

-- the entry of a line, which has this number
pub record IsEntry (number : ℕ) (joined : Bool) (line : List ℕ) (entry : Entry) : Type 0 where
  pub number_is : entry.number ≡ number
  pub joined_is : entry.joined ≡ joined
  pub body : List ℕ
  pub process_is : IsCut line entry.process body
  pub becomes : Becomes line entry.line entry.ending
  pub troubled : IsTrouble line entry.line entry.ending entry.trouble
  pub read : IsReadAs entry.line entry.call

-- ---- what a text does

-- a whole line, or one that is left alone; the first half of a call, with its line; or the second half of one of the
-- process
pub data Part : Type 0 where
  Whole : Part
  Front : List ℕ → Part
  Back : ℕ → Part

-- what a text is that is read so, behind those that were fed and before later ones
abbrev pub part : List ReadText → ReadText → List ReadText → Result Item ℕ → Part
part fed text later (Ok (Unfinished process name from to)) = unwrap_or (option_map Front (cut_call process (text ∷ fed) later)) Whole
part fed text later (Ok (Resumed process name from)) = unwrap_or (option_map (λ line. Back process) (cut_call process fed (text ∷ later))) Whole
part fed text later reading = Whole

-- What a text does that is this part: a whole line comes, a first half begins its call, and a second half ends it. The
-- line of two halves has the number of the first.
abbrev pub IsDone : Numbered → Part → Step → Type 0
IsDone line Whole (Comes entry) = IsEntry line.number false line.text entry
IsDone line (Front joined) (Begins entry) = IsEntry line.number true joined entry
IsDone line (Back process) (Ends other) = other ≡ process
IsDone line one step = ⊥

-- what a text does
abbrev pub IsStep : List ReadText → ReadText → List ReadText → Step → Type 0
IsStep fed text later step = IsDone text.line (part fed text later text.reading) step

-- what these texts do, behind those that were fed and before later ones
abbrev pub AreSteps : List ReadText → List ReadText → List ReadText → List Step → Type 0
AreSteps fed [] later [] = Unit {0}
AreSteps fed [] later (step ∷ steps) = ⊥
AreSteps fed (text ∷ texts) later [] = ⊥
AreSteps fed (text ∷ texts) later (step ∷ steps) = IsStep fed text (texts ++ later) step × AreSteps (text ∷ fed) texts later steps
