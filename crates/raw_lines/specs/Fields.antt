-- What options of strace(1) put between the number of a process and a call: the time of day (-t, -tt), seconds (-ttt),
-- the time since the call before (-r), the number of the call (-n), the address that it was made from (-i). Each is a
-- field with spaces behind it, and may have spaces before it. That there may be several, in any order, is this
-- project's own profile.
use Rattle.std.specs.Prelude.{◌≡◌, ◌⊎◌, ℕ, List, ◌∷◌, ◌++◌, Bool, true, ◌==◌, if◌then◌else◌, nat_lt, false, codes}
use Rattle.line_parts.specs.Leaves.{is, EachIs, IsRun, is_digit, worth}
use Rattle.line_parts.specs.Parts.{starts}
use Rattle.strace_reader.specs.Grammar.{IsBehindSpaces}

-- a digit, a colon or a point
abbrev pub is_clock_byte : ℕ → Bool
is_clock_byte byte = if is_digit byte then true else if byte == 58 then true else byte == 46

-- a time: digits with a colon or a point among them, as 18:50:03, 18:50:03.445394, 1795891803.501302 and 0.000110
abbrev pub IsClock : List ℕ → Type 0
IsClock text = IsRun is_digit is_clock_byte text × (EachIs is_digit text → ⊥)

-- the time since the call before, where the time of day stands too: (+     0.000434)
abbrev pub IsSince : List ℕ → Type 0
IsSince text = (more clock : List ℕ) × EachIs (is 32) more × IsClock clock × (text ≡ codes "(+" ++ (more ++ (clock ++ codes ")")))

-- a digit of an address, or the mark of one that isn't known
abbrev pub is_address_byte : ℕ → Bool
is_address_byte byte = if byte == 63 then true else nat_lt (worth byte) 16

-- the number of a call, or the address that it was made from: [   9], [00007f021608bca3], [????????????????]
abbrev pub IsBracket : List ℕ → Type 0
IsBracket text = (more inner : List ℕ) × EachIs (is 32) more × IsRun is_address_byte is_address_byte inner
    × (text ≡ codes "[" ++ (more ++ (inner ++ codes "]")))

-- what an option puts before a call
abbrev pub IsField : List ℕ → Type 0
IsField text = IsClock text ⊎ (IsSince text ⊎ IsBracket text)

-- A field and what stands behind it: a time is read to its end, so no byte of one stands behind it. The others end with
-- a byte of their own.
abbrev pub IsFieldTo : List ℕ → List ℕ → Type 0
IsFieldTo text rest = (IsClock text × (starts is_clock_byte rest ≡ false)) ⊎ (IsSince text ⊎ IsBracket text)

-- the text begins with a field, and this is left behind it and its spaces
abbrev pub IsBehindField : List ℕ → List ℕ → Type 0
IsBehindField text rest = (front field behind : List ℕ) × EachIs (is 32) front × IsField field
    × (text ≡ front ++ (field ++ (32 ∷ behind))) × IsBehindSpaces behind rest

-- what is left behind all the fields that come
pub data AreFields : List ℕ → List ℕ → Type 0 where
  last_field : {text : List ℕ} → ((rest : List ℕ) → IsBehindField text rest → ⊥) → AreFields text text
  one_field : {text behind rest : List ℕ} → IsBehindField text behind → AreFields behind rest → AreFields text rest
