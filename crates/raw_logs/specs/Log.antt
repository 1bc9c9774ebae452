-- From the bytes of a raw log to its texts. strace(1) ends each line with a newline, so what stands behind the last one
-- was cut off and is no line. Messages of strace's own, lines of stacks and empty lines are left out. A message that
-- broke into a line is taken out of it: the line goes on with the next one that is left in. Each text is then its plain
-- text.
use Rattle.std.specs.Prelude.{◌≡◌, ◌≢◌, ◌⊎◌, ℕ, ◌+◌, List, [], ◌∷◌, ◌++◌, map, Option, Some, None, Contains, Bool, true, false, if◌then◌else◌}
use Rattle.line_parts.specs.Lines.{lines_of}
use Rattle.strace_reader.specs.Grammar.{EndsWith}
use Rattle.raw_lines.specs.Marks.{IsMessage, IsStackLine, IsBroken, IsUnread}
use Rattle.raw_lines.specs.Plain.{IsPlain}
use Rattle.raw_logs.specs.declared.counts.Counts.{Counts}
use Rattle.raw_logs.specs.declared.counts.Sort.{Sort}
use Rattle.raw_logs.specs.declared.counts.Sort.TheVariants.{Messages, Stack}
use Rattle.raw_logs.specs.Counting.{no_counts, one_more_of}

-- the lines of a log, and what was cut off behind them
pub record IsLog (bytes : List ℕ) (lines : List (List ℕ)) (cut : List ℕ) : Type 0 where
  pub whole : List ℕ
  pub parts : bytes ≡ whole ++ cut
  pub ended : (whole ≡ []) ⊎ EndsWith (10 ∷ []) whole
  pub no_newline : ¬ Contains cut 10
  pub are : lines ≡ lines_of whole

-- a text with the number of its line, or of the first of its lines; lines are counted from 1
pub record Numbered : Type 0 where
  pub number : ℕ
  pub text : List ℕ

abbrev pub line_of : ℕ → List ℕ → Numbered
line_of number text = record { number = number; text = text }

-- the texts, without their numbers
abbrev pub texts_of : List Numbered → List (List ℕ)
texts_of lines = map (λ line. line.text) lines

-- a line with this number, behind the part of a line that a message broke off
abbrev pub goes_on : Option Numbered → ℕ → List ℕ → Numbered
goes_on None number line = line_of number line
goes_on (Some part) number line = line_of part.number (part.text ++ line)

-- ---- lines that are left in

-- the line is left in, and is no line that a message broke
pub record IsUnbroken (line : List ℕ) : Type 0 where
  pub no_message : ¬ IsMessage line
  pub no_stack : ¬ IsStackLine line
  pub whole : IsUnread line ⊎ ((front : List ℕ) → ¬ IsBroken line front)

-- a message broke into the line, which is left in up to it
pub record IsCutShort (line front : List ℕ) : Type 0 where
  pub no_message : ¬ IsMessage line
  pub no_stack : ¬ IsStackLine line
  pub no_mark : ¬ IsUnread line
  pub broken : IsBroken line front

-- what a line is: a message, a line of a stack, one that a message broke behind these bytes, or one that is left in
pub data LineKind : Type 0 where
  Message : LineKind
  OfStack : LineKind
  CutShort : List ℕ → LineKind
  LeftIn : LineKind

-- the line is this
abbrev pub IsKind : List ℕ → LineKind → Type 0
IsKind line Message = IsMessage line
IsKind line OfStack = (¬ IsMessage line) × IsStackLine line
IsKind line (CutShort front) = IsCutShort line front
IsKind line LeftIn = IsUnbroken line

-- each of some has the relation to its like among others
abbrev pub Each : {A B : Type 0} → (A → B → Type 0) → List A → List B → Type 0
Each R [] [] = Unit {0}
Each R [] (y ∷ ys) = ⊥
Each R (x ∷ xs) [] = ⊥
Each R (x ∷ xs) (y ∷ ys) = R x y × Each R xs ys

-- What lines come to: texts; the part of a line that a message broke off and that waits for its rest; and how many
-- lines are left out.
pub record Healed : Type 0 where
  pub texts : List Numbered
  pub part : Option Numbered
  pub counts : Counts

abbrev pub nothing_healed : Healed
nothing_healed = record { texts = []; part = None; counts = no_counts }

-- an empty line where no part waits
abbrev pub is_gap : Option Numbered → List ℕ → Bool
is_gap None [] = true
is_gap None (byte ∷ line) = false
is_gap (Some part) line = false

-- with a line more, which has this number
abbrev pub with_kind : ℕ → List ℕ → LineKind → Healed → Healed
with_kind number line Message h = record h { counts = one_more_of Messages h.counts }
with_kind number line OfStack h = record h { counts = one_more_of Stack h.counts }
with_kind number line (CutShort front) h = record h { part = Some (goes_on h.part number front); counts = one_more_of Messages h.counts }
with_kind number line LeftIn h = if is_gap h.part line then h else record h { texts = h.texts ++ (goes_on h.part number line ∷ []); part = None }

-- with these lines, the first of which has this number
abbrev pub healed_from : ℕ → Healed → List (List ℕ) → List LineKind → Healed
healed_from number h [] kinds = h
healed_from number h (line ∷ lines) [] = h
healed_from number h (line ∷ lines) (kind ∷ kinds) = healed_from (number + 1) (with_kind number line kind h) lines kinds

-- what the lines of a log come to
abbrev pub healed : List (List ℕ) → List LineKind → Healed
healed lines kinds = healed_from 1 nothing_healed lines kinds

-- ---- texts that change

-- the text with its number, where it stays, or another with that number
abbrev pub with_change : Numbered → Option (List ℕ) → Numbered
with_change line None = line
with_change line (Some text) = line_of line.number text

-- each text so
abbrev pub changed : List Numbered → List (Option (List ℕ)) → List Numbered
changed [] changes = []
changed (line ∷ lines) [] = []
changed (line ∷ lines) (change ∷ changes) = with_change line change ∷ changed lines changes

-- a text more, counted where it changes
abbrev pub with_counted : Sort → Option (List ℕ) → Counts → Counts
with_counted sort None counts = counts
with_counted sort (Some text) counts = one_more_of sort counts

-- so many texts of this sort changed
abbrev pub counted_from : Sort → Counts → List (Option (List ℕ)) → Counts
counted_from sort counts [] = counts
counted_from sort counts (change ∷ changes) = counted_from sort (with_counted sort change counts) changes

abbrev pub count_changes : Sort → List (Option (List ℕ)) → Counts
count_changes sort changes = counted_from sort no_counts changes

-- the plain text of a text, where it is another
abbrev pub IsStripped : Numbered → Option (List ℕ) → Type 0
IsStripped line None = IsPlain line.text line.text
IsStripped line (Some plain) = IsPlain line.text plain × (plain ≢ line.text)
