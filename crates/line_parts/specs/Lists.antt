-- Items that a bar joins, as the protections and flags of mmap(2) in a line of strace(1). Each adds its bits; one that
-- is not allowed takes all that is left of the line, which is this project's own profile. The value is all the bits
-- together, or None where an item took the rest.
use Rattle.std.specs.Prelude.{◌≡◌, ℕ, List, [], ◌∷◌, ◌++◌, false, Option, Some, None}
use Rattle.std.specs.Int.RustNames.{bit_or}
use Rattle.line_parts.specs.declared.refusal.What.{What}
use Rattle.line_parts.specs.Parts.{Part, starts}
use Rattle.line_parts.specs.Leaves.{is}

-- the bits with those of one more item
abbrev pub with_more : ℕ → Option ℕ → Option ℕ
with_more bits None = None
with_more bits (Some more) = Some (bit_or bits more)

-- behind the last item no bar stands
abbrev pub NoBar : Option ℕ → List ℕ → Type 0
NoBar None rest = Unit {0}
NoBar (Some bits) rest = starts (is 124) rest ≡ false

-- the items of these bits, each with a bar behind it, and one item more
abbrev pub Items : Part (Option ℕ) → ℕ → List ℕ → List ℕ → List ℕ → Option ℕ → Type 0
Items item bits [] front rest v = (u : Option ℕ) × item.takes front rest u × NoBar u rest × (v ≡ with_more bits u)
Items item bits (n ∷ before) front rest v = (a b : List ℕ) × (front ≡ a ++ (124 ∷ b))
    × item.takes a (124 ∷ (b ++ rest)) (Some n) × Items item (bit_or bits n) before b rest v

-- the items of these bits, each with a bar behind it, and a refusal in the next item
abbrev pub ItemRefuses : Part (Option ℕ) → List ℕ → List ℕ → List ℕ → List ℕ → What → Type 0
ItemRefuses item [] front over rest w = item.refuses front over rest w
ItemRefuses item (n ∷ before) front over rest w = (a b : List ℕ) × (front ≡ a ++ (124 ∷ b))
    × item.takes a (124 ∷ (b ++ (over ++ rest))) (Some n) × ItemRefuses item before b over rest w

-- one or more items, joined by bars, that add to these bits
abbrev pub listed : Part (Option ℕ) → ℕ → Part (Option ℕ)
listed item bits = record {
  takes = λ front rest v. (before : List ℕ) × Items item bits before front rest v;
  refuses = λ front over rest w. (before : List ℕ) × ItemRefuses item before front over rest w;
}
