-- What the private functions of this crate say of what they hold: what is found of halves, lines in their order, and
-- what was written. It ties the code to the other definitions, which speak of texts and of entries.
use Rattle.std.specs.Prelude.{◌≡◌, ◌⊎◌, ℕ, ◌<◌, ◌≤◌, List, [], ◌∷◌, ◌++◌, length, take, drop, reverse, Option, Some, None, Result, Ok, Bool, if◌then◌else◌, slice_get}
use Rattle.std.specs.BTreeMap.{get}
use Rattle.std.specs.Ordering.{nat_cmp}
use Rattle.strace_reader.specs.declared.item.Item.{Item}
use Rattle.strace_reader.specs.declared.item.Item.TheVariants.{Unfinished, Resumed}
use Rattle.strace_reader.specs.declared.item.Name.{Name}
use Rattle.raw_logs.specs.declared.counts.Counts.{Counts}
use Rattle.raw_logs.specs.Log.{Numbered, Each}
use Rattle.raw_trace.specs.declared.fault.Fault.{Fault}
use Rattle.raw_trace.specs.declared.fault.Fault.TheVariants.{Memory}
use Rattle.raw_trace.specs.declared.halves.Finder.{Finder}
use Rattle.raw_trace.specs.declared.halves.Role.{Role}
use Rattle.raw_trace.specs.declared.halves.Role.TheVariants.{Alone, First, Second}
use Rattle.raw_trace.specs.declared.halves.Waiting.{Waiting}
use Rattle.raw_trace.specs.declared.order.Ordering.{Ordering}
use Rattle.raw_trace.specs.declared.piece.Piece.{Piece}
use Rattle.raw_trace.specs.declared.writing.Written.{Written}
use Rattle.raw_trace.specs.Faults.{IsEntryFault, IsFirstFault, Stops}
use Rattle.raw_trace.specs.Order.{Entry, Step, Picked, Written as WrittenOf, frees_for, pick, turns, write_due, order}
use Rattle.raw_trace.specs.Places.{ReadText, IsReadText, is_of, Whole, Front, Back, part, AreSteps}
use Rattle.raw_trace.specs.Waiting.{entries}
use Rattle.raw_trace.specs.Rewriting.{text_of, lines_as, counted_all, no_calls, calls_after, shown_all}

-- ---- halves

-- what a text is to its other half, among all, behind those that were fed and before later ones; a place counts texts
-- from 0, and a second half stands behind its first
abbrev pub IsRole : List ReadText → List ReadText → ReadText → List ReadText → Role → Type 0
IsRole all fed text later Alone = part fed text later text.reading ≡ Whole
IsRole all fed text later (First other to behind) = (second : ReadText) × (slice_get all other ≡ Some second)
    × (process from : ℕ) × (name end : Name) × (text.reading ≡ Ok (Unfinished process name from to)) × (second.reading ≡ Ok (Resumed process end behind))
    × (part fed text later text.reading ≡ Front (take to text.line.text ++ drop behind second.line.text)) × (length fed < other)
IsRole all fed text later (Second process) = part fed text later text.reading ≡ Back process

-- each text has its role
abbrev pub HaveRoles : List ReadText → List ReadText → List ReadText → List Role → Type 0
HaveRoles all fed [] [] = Unit {0}
HaveRoles all fed [] (role ∷ roles) = ⊥
HaveRoles all fed (text ∷ texts) [] = ⊥
HaveRoles all fed (text ∷ texts) (role ∷ roles) = IsRole all fed text texts role × HaveRoles all (text ∷ fed) texts roles

-- each line is read so and has its role
pub record AreRoles (lines : List Numbered) (roles : List Role) : Type 0 where
  pub texts : List ReadText
  pub reads : Each IsReadText lines texts
  pub have : HaveRoles texts [] texts roles

-- the first half that waits behind a text at this place
abbrev pub begun_by : ℕ → Result Item ℕ → Option Waiting
begun_by place (Ok (Unfinished process name from to)) = Some (record { place = place; to = to; name = name })
begun_by place reading = None

-- the first half of the process that waits behind these texts, the last one first
abbrev pub waiting_in : ℕ → List ReadText → Option Waiting
waiting_in process [] = None
waiting_in process (text ∷ fed) = if is_of process text.reading then begun_by (length fed) text.reading else waiting_in process fed

-- texts behind others, the last one first
abbrev pub fed_by : List ReadText → List ReadText → List ReadText
fed_by fed [] = fed
fed_by fed (text ∷ texts) = fed_by (text ∷ fed) texts

-- these texts were looked at: what each is among them, and which first halves wait
pub record Finds (finder : Finder) (texts : List ReadText) : Type 0 where
  pub roles : HaveRoles texts [] texts finder.roles
  pub waits : (process : ℕ) → get nat_cmp finder.waiting process ≡ waiting_in process (fed_by [] texts)

-- the texts before a further one were looked at: what it is among them, and which first halves wait behind it
pub record FindsRole (finder : Finder) (texts : List ReadText) (role : Role) : Type 0 where
  pub roles : HaveRoles texts [] texts (finder.roles ++ (role ∷ []))
  pub waits : (process : ℕ) → get nat_cmp finder.waiting process ≡ waiting_in process (fed_by [] texts)

-- ---- lines in their order

-- each of the lines is so
abbrev pub EachEntry : (Entry → Type 0) → List Entry → Type 0
EachEntry P [] = Unit {0}
EachEntry P (one ∷ more) = P one × EachEntry P more

-- the line may be written
abbrev pub MayBeWritten : Bool → Entry → Type 0
MayBeWritten strict one = (fault : Fault) → ¬ IsEntryFault strict one fault

-- these lines were written and counted behind what was there, and each may be written
pub record WroteLines (strict : Bool) (old : Written) (lines : List Entry) (new : Written) : Type 0 where
  pub out : new.out.items ≡ old.out.items ++ text_of (lines_as (shown_all old.calls lines))
  pub counts : new.counts ≡ counted_all old.counts lines
  pub calls : new.calls ≡ calls_after old.calls lines
  pub may : EachEntry (MayBeWritten strict) lines

-- what the rule has written
pub record WroteDue (strict : Bool) (old : Ordering) (found : WrittenOf) (new : Ordering) : Type 0 where
  pub wrote : WroteLines strict old.written found.lines new.written
  pub waits : new.waiting ≡ found.waiting

-- the writing of these lines ends so, or for want of memory
abbrev pub EndsDue : Bool → List Entry → Fault → Type 0
EndsDue strict lines fault = (fault ≡ Memory) ⊎ IsFirstFault strict lines fault

-- the entries that are due, the last one pushed first
abbrev pub due_of : List Piece → List Entry
due_of pieces = reverse (entries pieces)

-- An entry was written, as no other frees pages for it; or the first that does is due before it.
pub data TookTurn (strict : Bool) (one : Entry) (old : Ordering) (due_old : List Piece) (new : Ordering) (due_new : List Piece) : Type 0 where
  wrote_one : pick (λ other. frees_for other one) old.waiting ≡ None → WroteLines strict old.written (one ∷ []) new.written →
      due_new ≡ due_old → new.waiting ≡ old.waiting → TookTurn strict one old due_old new due_new
  made_due : (p : Picked) → pick (λ other. frees_for other one) old.waiting ≡ Some p → new.written ≡ old.written →
      due_of due_new ≡ p.first ∷ (one ∷ due_of due_old) → new.waiting ≡ p.others → TookTurn strict one old due_old new due_new

-- the turn of an entry ends so
abbrev pub EndsTurn : Bool → Entry → List Entry → Fault → Type 0
EndsTurn strict one waiting fault = (fault ≡ Memory) ⊎ ((pick (λ other. frees_for other one) waiting ≡ None) × IsEntryFault strict one fault)

-- so far these lines were written, and what is due and waits gives the rest
pub record DueSome (strict : Bool) (old : Ordering) (found : WrittenOf) (due : List Piece) (now : Ordering) : Type 0 where
  pub lines : List Entry
  pub wrote : WroteLines strict old.written lines now.written
  pub left : WrittenOf
  pub turned : left ≡ write_due (turns (due_of due) now.waiting) frees_for (due_of due) now.waiting
  pub more : found.lines ≡ lines ++ left.lines
  pub waits : found.waiting ≡ left.waiting

-- what all the lines do was done, and each may be written
pub record WroteAll (strict : Bool) (lines : List Numbered) (counts : Counts) (found : Written) : Type 0 where
  pub texts : List ReadText
  pub reads : Each IsReadText lines texts
  pub steps : List Step
  pub are : AreSteps [] texts [] steps
  pub out : found.out.items ≡ text_of (lines_as (shown_all no_calls (order frees_for [] steps)))
  pub sum : found.counts ≡ counted_all counts (order frees_for [] steps)
  pub calls : found.calls ≡ calls_after no_calls (order frees_for [] steps)
  pub may : EachEntry (MayBeWritten strict) (order frees_for [] steps)

-- the writing of all the lines ends so
abbrev pub EndsAll : Bool → List Numbered → Fault → Type 0
EndsAll strict lines fault = (fault ≡ Memory) ⊎ Stops strict lines fault

-- Of the lines before this place all was done: the steps of the others follow theirs, and what these write is behind
-- what was written.
pub record DidSome (strict : Bool) (lines : List Numbered) (place : ℕ) (counts : Counts) (now : Ordering) : Type 0 where
  pub fed : List ReadText
  pub later : List ReadText
  pub reads : Each IsReadText lines (fed ++ later)
  pub count : length fed ≡ place
  pub steps : List Step
  pub are : AreSteps [] fed later steps
  pub written : List Entry
  pub follows : (more : List Step) → order frees_for [] (steps ++ more) ≡ written ++ order frees_for now.waiting more
  pub out : now.written.out.items ≡ text_of (lines_as (shown_all no_calls written))
  pub sum : now.written.counts ≡ counted_all counts written
  pub calls : now.written.calls ≡ calls_after no_calls written
  pub may : EachEntry (MayBeWritten strict) written

-- The lines and their roles stand so at a place: of the lines before it all was done, and the first ones, so many, were
-- let go.
pub record StandsAt (strict : Bool) (lines : List Numbered) (roles : List Role) (left : List Numbered) (gone place : ℕ) (counts : Counts)
    (now : Ordering) : Type 0 where
  pub roles_are : AreRoles lines roles
  pub within : place < length lines
  pub before : gone ≤ place
  pub left_are : left ≡ drop gone lines
  pub did : DidSome strict lines place counts now
