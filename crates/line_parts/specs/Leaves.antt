-- The smallest parts of a line: a byte, spaces, a run of bytes, a number, bytes up to a pair. The forms are this
-- project's own profile of what strace(1) prints. Each is a relation between the bytes that are taken, the bytes
-- behind them, and a value.
use Rattle.std.specs.Prelude.{◌≡◌, ◌≢◌, ◌⊎◌, ℕ, ◌+◌, ◌-◌, ◌*◌, ◌^◌, ◌<◌, ◌≤◌, List, [], ◌∷◌, ◌++◌, length, Bool, true, false, nat_lt, ◌==◌, ◌&&◌, if◌then◌else◌}
use Rattle.line_parts.specs.declared.refusal.What.{What}
use Rattle.line_parts.specs.declared.refusal.What.TheVariants.{Wide}
use Rattle.line_parts.specs.Parts.{Part, chain, done, starts}

-- the test for one byte
abbrev pub is : ℕ → ℕ → Bool
is b c = c == b

-- w is due where the part begins, at a byte or an end that does not pass the test
abbrev pub AtFirst : (ℕ → Bool) → What → List ℕ → List ℕ → List ℕ → What → Type 0
AtFirst test due front over rest w = (front ≡ []) × (over ≡ []) × (w ≡ due) × (starts test rest ≡ false)

-- one byte
abbrev pub byte : ℕ → What → Part (Unit {0})
byte b due = record {
  takes = λ front rest u. front ≡ b ∷ [];
  refuses = AtFirst (is b) due;
}

-- the bytes of a text, one after the other
abbrev pub letters : List ℕ → What → Part (Unit {0})
letters [] due = done tt
letters (b ∷ word) due = chain (byte b due) (λ u. letters word due)

-- each byte passes the test
abbrev pub EachIs : (ℕ → Bool) → List ℕ → Type 0
EachIs test [] = Unit {0}
EachIs test (b ∷ text) = (test b ≡ true) × EachIs test text

-- a run: a first byte that passes the first test, and all the bytes that come and pass the second
abbrev pub IsRun : (ℕ → Bool) → (ℕ → Bool) → List ℕ → Type 0
IsRun first later [] = ⊥
IsRun first later (b ∷ text) = (first b ≡ true) × EachIs later text

abbrev pub run : (ℕ → Bool) → (ℕ → Bool) → What → Part (List ℕ)
run first later due = record {
  takes = λ front rest v. (v ≡ front) × IsRun first later front × (starts later rest ≡ false);
  refuses = AtFirst first due;
}

-- all the spaces that come
abbrev pub spaces : Part (Unit {0})
spaces = record {
  takes = λ front rest u. EachIs (is 32) front × (starts (is 32) rest ≡ false);
  refuses = λ front over rest w. ⊥;
}

-- a digit from 0 to 9
abbrev pub is_digit : ℕ → Bool
is_digit b = nat_lt 47 b && nat_lt b 58

-- digits, as many as there are
abbrev pub many_digits : What → Part (Unit {0})
many_digits due = chain (run is_digit is_digit due) (λ d. done tt)

-- what a digit is worth, and 99 where the byte is none
unfoldable pub worth : ℕ → ℕ
worth b = if nat_lt b 48 then 99
    else if nat_lt b 58 then b - 48
    else if nat_lt b 65 then 99
    else if nat_lt b 71 then b - 55
    else if nat_lt b 97 then 99
    else if nat_lt b 103 then b - 87
    else 99

-- a digit from 0 to 9, or from a to f in either case
abbrev pub is_hex : ℕ → Bool
is_hex b = nat_lt (worth b) 16

-- each byte is a digit of the base
abbrev pub AllDigits : ℕ → List ℕ → Type 0
AllDigits base [] = Unit {0}
AllDigits base (b ∷ text) = (worth b < base) × AllDigits base text

-- the text does not go on with a digit of the base
abbrev pub NoDigit : ℕ → List ℕ → Type 0
NoDigit base [] = Unit {0}
NoDigit base (b ∷ rest) = base ≤ worth b

-- the number that the digits stand for, behind n
abbrev pub value : ℕ → ℕ → List ℕ → ℕ
value base n [] = n
value base n (b ∷ text) = value base (n * base + worth b) text

-- the digits of n, at least one
abbrev pub Digits : ℕ → List ℕ → ℕ → Type 0
Digits base text n = (0 < length text) × AllDigits base text × (n ≡ value base 0 text)

-- the text does not begin with 0x
abbrev pub No0x : List ℕ → Type 0
No0x text = (t : List ℕ) → text ≡ 48 ∷ 120 ∷ t → ⊥

-- A numeral of any size: all the decimal digits that come, or 0x and all the hexadecimal digits that come.
abbrev pub Numeral : List ℕ → List ℕ → ℕ → Type 0
Numeral front rest n =
    (Digits 10 front n × NoDigit 10 rest × No0x (front ++ rest))
    ⊎ ((digits : List ℕ) × (front ≡ 48 ∷ 120 ∷ digits) × Digits 16 digits n × NoDigit 16 rest)

-- A number is due at its first byte, or behind 0x; one that is too wide is over.
abbrev pub DueNumber : What → List ℕ → List ℕ → List ℕ → What → Type 0
DueNumber due front over rest w =
    ((w ≡ due) × (over ≡ []) × (((front ≡ []) × NoDigit 10 rest) ⊎ ((front ≡ 48 ∷ 120 ∷ []) × NoDigit 16 rest)))
    ⊎ ((w ≡ Wide) × (front ≡ []) × (n : ℕ) × (2 ^ 64 ≤ n) × Numeral over rest n)

-- a number of at most 64 bits
abbrev pub number : What → Part ℕ
number due = record {
  takes = λ front rest n. Numeral front rest n × (n < 2 ^ 64);
  refuses = DueNumber due;
}

-- nowhere in the text does y stand behind x
abbrev pub NoPair : ℕ → ℕ → List ℕ → Type 0
NoPair x y [] = Unit {0}
NoPair x y (b ∷ text) = (b ≡ x → starts (is y) text ≡ false) × NoPair x y text

-- any bytes, to the first x behind which a y stands; the y is not taken
abbrev pub until : ℕ → ℕ → What → Part (Unit {0})
until x y due = record {
  takes = λ front rest u. (body : List ℕ) × (front ≡ body ++ (x ∷ [])) × NoPair x y body × (starts (is y) rest ≡ true);
  refuses = λ front over rest w. (over ≡ []) × (rest ≡ []) × (w ≡ due) × NoPair x y front;
}

-- the end of the text
abbrev pub end : {A : Type 0} → What → A → Part A
end due value = record {
  takes = λ front rest v. (front ≡ []) × (rest ≡ []) × (v ≡ value);
  refuses = λ front over rest w. (front ≡ []) × (over ≡ []) × (w ≡ due) × (rest ≢ []);
}

-- All that is left, whatever it is, where it does not go on with a byte that passes the test.
abbrev pub anything : {A : Type 0} → (ℕ → Bool) → A → Part A
anything test value = record {
  takes = λ front rest v. (rest ≡ []) × (v ≡ value) × (starts test front ≡ false);
  refuses = λ front over rest w. ⊥;
}

-- no byte passes
abbrev pub no_byte : ℕ → Bool
no_byte b = false

-- this text, where a line is known to begin with it
abbrev pub begun : List ℕ → Part (Unit {0})
begun word = record {
  takes = λ front rest u. front ≡ word;
  refuses = λ front over rest w. ⊥;
}

-- a capital letter
abbrev pub is_capital : ℕ → Bool
is_capital b = nat_lt 64 b && nat_lt b 91

-- a capital letter, a digit or an underscore
abbrev pub is_word_byte : ℕ → Bool
is_word_byte b = if is_capital b then true else if is_digit b then true else b == 95
