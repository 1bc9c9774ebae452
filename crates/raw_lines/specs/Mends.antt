-- Lines of calls that the reader refuses though their meaning is clear, and how each is mended. A line that ends as the
-- line of a call that was let go is mended at its end; each other form says where the reader refused the line. A mend
-- counts only where the mended line is then read. The forms are those that strace(1) was seen to print;
-- docs/FORMATS.md has them as a table.
use Rattle.std.specs.Prelude.{◌≡◌, ◌⊎◌, ℕ, ◌+◌, suc, List, ◌++◌, length, false, codes}
use Rattle.line_parts.specs.Parts.{starts}
use Rattle.line_parts.specs.Leaves.{IsRun, is_capital, is_word_byte, is_digit}
use Rattle.line_parts.specs.declared.refusal.What.TheVariants.{Number, Comma, Result as AtResult}
use Rattle.strace_reader.specs.declared.item.BadCall.{BadCall}
use Rattle.strace_reader.specs.declared.item.Item.{Item}
use Rattle.strace_reader.specs.declared.item.Item.TheVariants.{Played, Unfinished, Resumed, Other, Blank}
use Rattle.strace_reader.specs.Grammar.{EndsWith, IsCut, Spells, Refuses}

-- how the line of a call ends from which strace let its thread go
abbrev pub detached : List ℕ
detached = codes "<detached ...>"

-- how the line of a call ends that never returned, so that it is passed over
abbrev pub never_returned : List ℕ
never_returned = codes "<unfinished ...>) = ?"

-- a first half as the line of a call that never returned
abbrev pub unreturned_text : List ℕ → List ℕ
unreturned_text half = half ++ codes ") = ?"

-- strace let the thread go within the call: it never returned
abbrev pub MendsDetached : List ℕ → List ℕ → Type 0
MendsDetached text mended = (front : List ℕ) × (text ≡ front ++ detached) × (mended ≡ front ++ never_returned)

-- what stands behind the path of a file that was deleted
abbrev pub deleted : List ℕ
deleted = codes ">(deleted),"

-- the text holds the word nowhere before this end of it: no shorter front ends so
abbrev pub IsFirstAt : List ℕ → List ℕ → List ℕ → Type 0
IsFirstAt word text front = (shorter back : List ℕ) → text ≡ shorter ++ (word ++ back) → (more : List ℕ) × (shorter ≡ front ++ more)

-- a file that was deleted: 3</srv/a>(deleted), is 3</srv/a>,
abbrev pub MendsDeleted : List ℕ → BadCall → List ℕ → Type 0
MendsDeleted text bad mended = (front back : List ℕ) × (bad.what ≡ Comma) × (bad.column ≡ length text + 1)
    × (text ≡ front ++ (deleted ++ back)) × IsFirstAt deleted text front × (mended ≡ front ++ (codes ">," ++ back))

-- a descriptor that is a word, as AT_FDCWD, is -1: either is read and dropped
abbrev pub MendsWord : List ℕ → BadCall → List ℕ → Type 0
MendsWord text bad mended = (front word back : List ℕ) × (bad.what ≡ Number) × (bad.column ≡ length front + 1)
    × IsRun is_capital is_word_byte word × (starts is_word_byte back ≡ false)
    × (text ≡ front ++ (word ++ back)) × (mended ≡ front ++ (codes "-1" ++ back))

-- a descriptor below -1 that doesn't begin with -1, as -2, is -1
abbrev pub MendsNegative : List ℕ → BadCall → List ℕ → Type 0
MendsNegative text bad mended = (front digits back : List ℕ) × (bad.what ≡ Number) × (bad.column ≡ length front + 2)
    × IsRun is_digit is_digit digits × (starts is_digit back ≡ false)
    × (text ≡ front ++ (codes "-" ++ (digits ++ back))) × (mended ≡ front ++ (codes "-1" ++ back))

-- one that begins with -1, as -100, is -1
abbrev pub MendsLong : List ℕ → BadCall → List ℕ → Type 0
MendsLong text bad mended = (front digits back : List ℕ) × (bad.what ≡ Comma) × (bad.column ≡ length front + 3)
    × IsRun is_digit is_digit digits × (starts is_digit back ≡ false)
    × (text ≡ front ++ (codes "-1" ++ (digits ++ back))) × (mended ≡ front ++ (codes "-1" ++ back))

-- an error without a name, = -1 (errno 9999), has the name UNKNOWN
abbrev pub MendsError : List ℕ → BadCall → List ℕ → Type 0
MendsError text bad mended = (front back : List ℕ) × (bad.what ≡ AtResult) × (bad.column ≡ length front + 4)
    × (text ≡ front ++ (codes "-1 (errno " ++ back)) × (mended ≡ front ++ (codes "-1 UNKNOWN (errno " ++ back))

-- one place of a refused line is mended
abbrev pub Mends : List ℕ → BadCall → List ℕ → Type 0
Mends text bad mended = MendsDetached text mended ⊎ ((¬ EndsWith detached text)
    × (MendsDeleted text bad mended ⊎ (MendsWord text bad mended ⊎ (MendsNegative text bad mended
    ⊎ (MendsLong text bad mended ⊎ MendsError text bad mended)))))

-- the item is a whole call, or a line that is passed over
abbrev pub IsWhole : Item → Type 0
IsWhole (Played pid done recorded) = Unit {0}
IsWhole (Unfinished pid name from to) = ⊥
IsWhole (Resumed pid name from) = ⊥
IsWhole Other = Unit {0}
IsWhole Blank = Unit {0}

-- by at most so many mends the line becomes this one, which is read as a whole
pub data AreMends : ℕ → List ℕ → List ℕ → Type 0 where
  is_read : {k : ℕ} {text : List ℕ} → (item : Item) → Spells text item → IsWhole item → AreMends k text text
  one_mend : {k : ℕ} {text next mended : List ℕ} → (bad : BadCall) → Refuses text bad → Mends text bad next →
      AreMends k next mended → AreMends (suc k) text mended

-- how many mends a line may take: its descriptor, its path and its error
abbrev pub most_mends : ℕ
most_mends = 3

-- two lines are of one process
abbrev pub AreOfOne : List ℕ → List ℕ → Type 0
AreOfOne text other = (pid : ℕ) × (body behind : List ℕ) × IsCut text pid body × IsCut other pid behind

-- the line is mended so, and stays a line of its process
abbrev pub IsMended : List ℕ → List ℕ → Type 0
IsMended text mended = AreMends most_mends text mended × AreOfOne text mended
