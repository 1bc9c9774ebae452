-- The rest of a log from its front: each line of an area goes before what the other areas want of the other lines.
use Rattle.std.specs.Prelude.{MatchOption}
use Rattle.std.proofs.Common.{◌≡◌, ℕ, zero, suc, ◌+◌, List, [], ◌∷◌, ◌++◌, length, codes, Option, Some, None, refl, ap, subst, inl, inr, arith}
use Rattle.space_model.specs.declared.areas.Area.{Area}
use Rattle.strace_reader.specs.Grammar.{BeginsWith}
use Rattle.maps_printer.specs.Lines.{area_line}
use Rattle.history_check.specs.Logs.{AreRestLines}
use Rattle.history_check.specs.Verdicts.{FailsAt}
use Rattle.history_check.specs.Checking.{IsWholeRest, LacksArea}

some_is : (line text : List ℕ) → Some line ≡ Some text → line ≡ text
some_is line text e = cc

-- where the rest fails, if it does
abbrev pub Tells : List Area → List (List ℕ) → Option ℕ → Type 0
Tells B rest place = MatchOption place (IsWholeRest B rest) (FailsAt B rest)

-- a place that many lines further
abbrev pub further : ℕ → Option ℕ → Option ℕ
further count None = None
further count (Some place) = Some (count + place)

lines_on : (a : Area) (B : List Area) (line : List ℕ) (rest : List (List ℕ)) (count : ℕ) → line ++ 10 ∷ [] ≡ area_line a
    → AreRestLines B rest count → AreRestLines (a ∷ B) (line ∷ rest) (suc count)
lines_on a B line rest count is all zero text low at = subst (λ t. t ++ 10 ∷ [] ≡ area_line a) (some_is line text at) is
lines_on a B line rest count is all (suc i) text low at = all i text (omega arith) at

-- behind the line of its first area the rest is that of the others
pub rest_on : (a : Area) (B : List Area) (line : List ℕ) (rest : List (List ℕ)) (place : Option ℕ) → line ++ 10 ∷ [] ≡ area_line a
    → Tells B rest place → Tells (a ∷ B) (line ∷ rest) (further 1 place)
rest_on a B line rest None is w = record { lines = lines_on a B line rest (length rest) is w.lines; long = let l = w.long in omega arith }
rest_on a B line rest (Some count) is f = subst (FailsAt (a ∷ B) (line ∷ rest)) (let e : suc count ≡ 1 + count = omega arith in e) (record {
  before = lines_on a B line rest count is f.before;
  fails = elim f.fails [ inl other ↦ inl other | inr ended ↦ inr (omega (arith, ended.0), omega (arith, ended.1)) ];
})

-- what the areas and lines that are left tell, so many lines further, is what all tell
abbrev pub Leads : List Area → List (List ℕ) → ℕ → List Area → List (List ℕ) → Type 0
Leads B rest count A lines = (place : Option ℕ) → Tells B rest place → Tells A lines (further count place)

further_once : (count : ℕ) (place : Option ℕ) → further count (further 1 place) ≡ further (count + 1) place
further_once count None = refl
further_once count (Some place) = ap Some (let e : count + (1 + place) ≡ (count + 1) + place = omega arith in e)

-- an area and its line less are left
pub leads_on : (a : Area) (left B : List Area) (line : List ℕ) (all rest : List (List ℕ)) (count : ℕ) (A : List Area) (lines : List (List ℕ))
    → left ≡ a ∷ B → all ≡ line ∷ rest → line ++ 10 ∷ [] ≡ area_line a → Leads left all count A lines → Leads B rest (count + 1) A lines
leads_on a left B line all rest count A lines first cut is leads place t = subst (Tells A lines) (further_once count place)
    ((subst (λ ls. Leads (a ∷ B) ls count A lines) cut (subst (λ (X : List Area). Leads X all count A lines) first leads)) (further 1 place)
    (rest_on a B line rest place is t))

-- where the next area's line is missing, the rest fails there
pub leads_wrong : (a : Area) (left B : List Area) (rest : List (List ℕ)) (count : ℕ) (A : List Area) (lines : List (List ℕ)) → left ≡ a ∷ B
    → LacksArea a rest → Leads left rest count A lines → FailsAt A lines count
leads_wrong a left B rest count A lines cut lacks leads = subst (FailsAt A lines) (let e : count + 0 ≡ count = omega arith in e)
    ((subst (λ (X : List Area). Leads X rest count A lines) cut leads) (Some 0) (first a B rest lacks))
  where
    first : (a : Area) (B : List Area) (rest : List (List ℕ)) → LacksArea a rest → FailsAt (a ∷ B) rest 0
    first a B [] lacks = record { before = λ i text low at. absurd (omega arith); fails = inr (refl, omega arith) }
    first a B (line ∷ rest) lacks = record { before = λ i text low at. absurd (omega arith); fails = inl (line, refl, lacks) }

-- ---- behind the areas

-- without a line there the rest ends too early
pub no_end : FailsAt [] [] 0
no_end = record { before = λ i text low at. absurd (omega arith); fails = inr (refl, omega arith) }

-- another line in place of the one that begins `played `
pub wrong_played : (line : List ℕ) (rest : List (List ℕ)) → (BeginsWith (codes "played ") line → ⊥) → FailsAt [] (line ∷ rest) 0
wrong_played line rest other = record { before = λ i text low at. absurd (omega arith); fails = inl (line, refl, other) }

played_first : (line : List ℕ) (rest : List (List ℕ)) → BeginsWith (codes "played ") line → AreRestLines [] (line ∷ rest) 1
played_first line rest is zero text low at = subst (BeginsWith (codes "played ")) (some_is line text at) is
played_first line rest is (suc i) text low at = absurd (omega arith)

-- that line alone
pub only_played : (line : List ℕ) → BeginsWith (codes "played ") line → IsWholeRest [] (line ∷ [])
only_played line is = record { lines = played_first line [] is; long = omega arith }

-- another line in place of the one that begins `touched `
pub wrong_touched : (line next : List ℕ) (rest : List (List ℕ)) → BeginsWith (codes "played ") line → (BeginsWith (codes "touched ") next → ⊥)
    → FailsAt [] (line ∷ next ∷ rest) 1
wrong_touched line next rest is other = record { before = played_first line (next ∷ rest) is; fails = inl (next, refl, other) }

touched_next : (line next : List ℕ) (rest : List (List ℕ)) → BeginsWith (codes "played ") line → BeginsWith (codes "touched ") next
    → AreRestLines [] (line ∷ next ∷ rest) 2
touched_next line next rest is too zero text low at = subst (BeginsWith (codes "played ")) (some_is line text at) is
touched_next line next rest is too (suc zero) text low at = subst (BeginsWith (codes "touched ")) (some_is next text at) too
touched_next line next rest is too (suc (suc i)) text low at = absurd (omega arith)

-- both lines and no more
pub both_lines : (line next : List ℕ) → BeginsWith (codes "played ") line → BeginsWith (codes "touched ") next → IsWholeRest [] (line ∷ next ∷ [])
both_lines line next is too = record { lines = touched_next line next [] is too; long = omega arith }

-- both lines and one more
pub one_too_many : (line next more : List ℕ) (rest : List (List ℕ)) → BeginsWith (codes "played ") line → BeginsWith (codes "touched ") next
    → FailsAt [] (line ∷ next ∷ more ∷ rest) 2
one_too_many line next more rest is too = record { before = touched_next line next (more ∷ rest) is too; fails = inl (more, refl, λ more_than. more_than) }
