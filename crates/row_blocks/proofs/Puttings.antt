-- The blocks whose gaps a splice may change, and how many rows they have.
use Rattle.std.proofs.Common.{◌≡◌, ℕ, suc, ◌+◌, ◌-◌, ◌*◌, ◌%◌, ◌<◌, ◌≤◌, List, length, min, sym, ap, ◌∙◌, subst, arith, inl, inr}
use Rattle.std.proofs.lemmas.Bool.{cases_lt}
use Rattle.row_blocks.specs.Blocks.{blocks_of, rows_of, rank, count_to}
use Rattle.row_blocks.specs.Gaps.{IsBeside}
use Rattle.row_blocks.specs.Limits.{IsPlaceIn, Replaces}
use Rattle.row_blocks.specs.Limits.Replaces.{grows, shrinks, keeps}
use Rattle.row_blocks.proofs.Counts.{count_next, count_up}
use Rattle.row_blocks.proofs.Cuts.{count_told}

-- rows stand before the splice in the first of these blocks
pub touched_before : (nb : ℕ) (words : List ℕ) {b place first : ℕ} → first ≤ b → b ≤ first + 1 → (place ≡ 0 → 0 < b → first < b) → 0 < first
    → count_to nb words first < rank nb words b place
touched_before nb words {b} {place} {first} low near begins some = elim (cases_lt first b) [
  | inl lt ↦
      let e : first + 1 ≡ b = omega arith in
      let c = ap (count_to nb words) e in
      let next = count_next nb words first in omega arith
  | inr ge ↦
      let e : first ≡ b = omega arith in
      let c = ap (count_to nb words) e in
      elim (cases_lt 0 place) [
        | inl more ↦ omega arith
        | inr none ↦ let l = begins (omega arith) (omega arith) in absurd (omega arith)
      ]
]

-- a splice makes at most one block more, and none if more rows go than come
pub one_more : {nb : ℕ} {one two : List ℕ} {b from end : ℕ} (come gone : ℕ) → Replaces nb one two b (come - gone) from end
    → blocks_of nb two - blocks_of nb one + min 1 (gone - come) ≤ 1
one_more come gone (grows too more) = let some = too.0 in omega arith
one_more come gone (shrinks went fewer) = omega arith
one_more come gone (keeps few same) = omega arith

-- the same of words with as many blocks
pub replaces_by : {nb : ℕ} {one two three : List ℕ} {b more from end : ℕ} → blocks_of nb three ≡ blocks_of nb two → Replaces nb one two b more from end
    → Replaces nb one three b more from end
replaces_by count (grows too more) = grows too (count ∙ more)
replaces_by count (shrinks gone fewer) =
    let went = gone.went in
    shrinks (record { first = gone.first; count = gone.count; there = gone.there; begin = gone.begin; whole = gone.whole; went = omega arith }) (omega arith)
replaces_by count (keeps few same) = keeps few (count ∙ same)

-- two blocks have at most 256 rows
count_two : (nb : ℕ) (words : List ℕ) (i e : ℕ) → e ≤ i + 2 → count_to nb words e ≤ count_to nb words i + 256
count_two nb words i e le =
    let up = count_up nb words e (i + 2) le in
    let two : i + 2 ≡ i + 1 + 1 = omega arith in
    let c = ap (count_to nb words) two in
    let a = count_next nb words i in
    let b = count_next nb words (i + 1) in
    omega arith

-- the blocks that are told anew have as many rows as came, and those of four blocks
pub touched_rows : {nb : ℕ} {one two : List ℕ} {near end last b place first : ℕ} (gone more : ℕ) → IsBeside nb one two near end last → end ≤ near + 2
    → IsPlaceIn nb one near (rank nb one b place + min gone more) → first ≤ b → b ≤ first + 1 → first ≤ near → place ≤ rows_of nb one b + 1
    → count_to nb two end ≤ count_to nb two first + (more + 512)
touched_rows {nb} {one} {two} {near} {end} {b = b} {first = first} gone more beside close at low next before within =
    let high = count_two nb two near end close in
    let a = count_told nb one two near beside.before in
    let c = count_told nb one two first (λ k lt. beside.before k (omega arith)) in
    let from = at.from in
    let up = count_up nb one b (first + 1) next in
    let d = count_next nb one first in
    omega arith
