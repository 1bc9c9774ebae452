-- A grammar of lines by parts. A part says which bytes it takes as which value, with what stands behind them in view
-- (a number takes all the digits that come), and where and why it refuses a text. Parts are put together by
-- concatenation, where a later part may depend on an earlier value: the way of attribute grammars and of parser
-- combinators, as a relation and not as a program.
use Rattle.std.specs.Prelude.{◌≡◌, ◌⊎◌, ℕ, ◌+◌, List, [], ◌∷◌, ◌++◌, length, Bool, true, false}
use Rattle.line_parts.specs.declared.refusal.What.{What}

-- two texts go on alike: with the same byte, or not at all
abbrev pub Alike : List ℕ → List ℕ → Type 0
Alike [] [] = Unit {0}
Alike [] (b ∷ y) = ⊥
Alike (a ∷ x) [] = ⊥
Alike (a ∷ x) (b ∷ y) = a ≡ b

-- A part. `takes front rest v`: the bytes of front are taken as v where rest stands behind them.
-- `refuses front over rest w`: in the text front ++ over ++ rest the part reads front, and w is due behind it. What is
-- over is a number that is too wide or a word that is not allowed, else nothing.
pub record Part (A : Type 0) : Type 1 where
  pub takes : List ℕ → List ℕ → A → Type 0
  pub refuses : List ℕ → List ℕ → List ℕ → What → Type 0

-- one part, and behind it the next
abbrev pub chain : {A B : Type 0} → Part A → (A → Part B) → Part B
chain {A} first next = record {
  takes = λ front rest w. (a b : List ℕ) × (v : A) × (front ≡ a ++ b) × first.takes a (b ++ rest) v × (next v).takes b rest w;
  refuses = λ front over rest w. first.refuses front over rest w
      ⊎ ((a b : List ℕ) × (v : A) × (front ≡ a ++ b) × first.takes a (b ++ (over ++ rest)) v × (next v).refuses b over rest w);
}

-- whether the text begins with a byte that passes the test
abbrev pub starts : (ℕ → Bool) → List ℕ → Bool
starts test [] = false
starts test (b ∷ text) = test b

-- the one part, or the other
abbrev pub arm : {A : Type 0} → Part A → Part A → Bool → Part A
arm one other true = one
arm one other false = other

-- The first byte decides between two parts.
abbrev pub choice : {A : Type 0} → (ℕ → Bool) → Part A → Part A → Part A
choice test one other = record {
  takes = λ front rest v. (arm one other (starts test (front ++ rest))).takes front rest v;
  refuses = λ front over rest w. (arm one other (starts test (front ++ (over ++ rest)))).refuses front over rest w;
}

-- Nothing is taken, with this value.
abbrev pub done : {A : Type 0} → A → Part A
done value = record {
  takes = λ front rest v. (front ≡ []) × (v ≡ value);
  refuses = λ front over rest w. ⊥;
}

-- A line is refused where the bytes before the column begin a spelling, and no spelling goes on behind them, nor
-- behind the number or word that is over, as the line does.
pub record Refused {A : Type 0} (part : Part A) (text : List ℕ) (column : ℕ) (what : What) : Type 0 where
  pub front : List ℕ
  pub over : List ℕ
  pub rest : List ℕ
  pub parts : text ≡ front ++ (over ++ rest)
  pub place : column ≡ length front + 1
  pub due : part.refuses front over rest what
  pub begins : (more : List ℕ) × (v : A) × part.takes (front ++ more) [] v
  pub ends : (more : List ℕ) (v : A) → part.takes ((front ++ over) ++ more) [] v → Alike more rest → ⊥
