-- The plain text of a line: the line without what options of strace(1) add. Bytes are only taken away: the fields
-- between the number of the process and the call, carriage returns at the end, and the time that the call took (-T). So
-- a line with none of these is its own plain text, byte for byte. A line that bears the mark of an unread line is too.
use Rattle.std.specs.Prelude.{◌≡◌, ◌⊎◌, ℕ, List, [], ◌∷◌, ◌++◌, codes}
use Rattle.line_parts.specs.Leaves.{is, EachIs}
use Rattle.strace_reader.specs.Grammar.{IsCut, EndsWith}
use Rattle.raw_lines.specs.Marks.{IsUnread, IsMessage, IsStackLine, IsBroken}
use Rattle.raw_lines.specs.Fields.{IsClock, AreFields}

-- the number of the process with its spaces, and the body behind it; no number may stand there
abbrev pub IsFront : List ℕ → List ℕ → List ℕ → Type 0
IsFront text front body = (pid : ℕ) × IsCut text pid body × (text ≡ front ++ body)

-- the text before all the carriage returns at its end
abbrev pub IsBeforeReturns : List ℕ → List ℕ → Type 0
IsBeforeReturns text front = (returns : List ℕ) × EachIs (is 13) returns × (text ≡ front ++ returns) × ¬ EndsWith (13 ∷ []) front

-- the text before the time that its call took: <0.000021>
abbrev pub IsBeforeTime : List ℕ → List ℕ → Type 0
IsBeforeTime text front = (clock : List ℕ) × IsClock clock × (text ≡ front ++ (codes " <" ++ (clock ++ codes ">")))

-- the text before that time, where there is one
abbrev pub IsUntimed : List ℕ → List ℕ → Type 0
IsUntimed text front = IsBeforeTime text front ⊎ ((front ≡ text) × ((other : List ℕ) → ¬ IsBeforeTime text other))

-- the parts of a line, and what is left of them
pub record IsTaken (text plain : List ℕ) : Type 0 where
  pub front : List ℕ
  pub body : List ℕ
  pub begins : IsFront text front body
  pub behind : List ℕ
  pub fields : AreFields body behind
  pub before : List ℕ
  pub returns : IsBeforeReturns behind before
  pub left : List ℕ
  pub time : IsUntimed before left
  pub same : plain ≡ front ++ left

-- the plain text of a line
abbrev pub IsPlain : List ℕ → List ℕ → Type 0
IsPlain text plain = (IsUnread text × (plain ≡ text)) ⊎ ((¬ IsUnread text) × IsTaken text plain)

-- The line stays as it is wherever it is read again: nothing is taken away, it isn't left out, no message breaks it.
pub record IsStill (text : List ℕ) : Type 0 where
  pub plain : IsPlain text text
  pub no_message : ¬ IsMessage text
  pub no_stack : ¬ IsStackLine text
  pub whole : IsUnread text ⊎ ((front : List ℕ) → ¬ IsBroken text front)
