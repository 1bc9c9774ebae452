-- When a block is split, and when two are merged.
use Rattle.std.proofs.Common.{◌≡◌, ◌≢◌, ℕ, zero, suc, ◌+◌, ◌-◌, ◌*◌, ◌%◌, ◌<◌, ◌≤◌, List, sym, ap, subst, ◌∙◌, arith, inl, inr}
use Rattle.std.specs.Prelude.{slice_index}
use Rattle.std.proofs.lemmas.Bool.{cases_lt}
use Rattle.row_blocks.specs.Blocks.{blocks_of, rows_of, count_to, rank, told}
use Rattle.row_blocks.specs.Limits.{limit_of, AreTooMany, AreFew, IsMerged, HaveGone, IsPlaceIn, Replaces, Settles}
use Rattle.row_blocks.specs.Limits.Replaces.{grows, shrinks, keeps}
use Rattle.row_blocks.specs.Limits.Settles.{splits, frees, goes, merges, stays}
use Rattle.row_blocks.proofs.Counts.{count_next, count_up}
use Rattle.row_blocks.proofs.Cuts.{count_told}

-- a word that was loaded stands still, so another one is new at its place
pub stands_other : {one loaded : List ℕ} (now : List ℕ) (place : ℕ) {packed word : ℕ} → loaded ≡ one → packed ≡ slice_index one place
    → slice_index now place ≡ slice_index loaded place → packed ≢ word → slice_index now place ≢ word
stands_other now place same read still differ e = differ (read ∙ (ap (λ (l : List ℕ). slice_index l place) (sym same) ∙ (sym still ∙ e)))

-- a row stands in the block of its position, or right behind it
pub place_in : {nb : ℕ} {words : List ℕ} {b place number : ℕ} → b < blocks_of nb words → place ≤ rows_of nb words b + 1 → rank nb words b place ≡ number
    → IsPlaceIn nb words b number
place_in {nb} {words} {b} there place is = let next = count_next nb words b in record { there = there; from = omega arith; until = omega arith }

module _ {nb : ℕ} {one mid two : List ℕ} {b more from end : ℕ} (free : blocks_of nb one < nb) (spare : blocks_of nb mid ≤ nb)
    (freed : blocks_of nb mid ≡ nb → blocks_of nb two + 1 ≡ nb)
    (left : blocks_of nb mid ≢ nb → blocks_of nb mid ≢ blocks_of nb one → two ≡ mid)
    (few : blocks_of nb mid ≢ nb → blocks_of nb mid ≡ blocks_of nb one → AreFew nb mid b → IsMerged nb mid two b)
    (many : blocks_of nb mid ≢ nb → ¬ AreFew nb mid b → two ≡ mid) where
  -- where two have few rows
  two_merged : ¬ AreTooMany nb one b more → blocks_of nb mid ≡ blocks_of nb one → AreFew nb mid b → Settles nb one two b more from end
  two_merged low same are =
      let m = few (λ e. omega arith) same are in
      let one_less : blocks_of nb mid - 1 ≡ blocks_of nb two = let d = m.0 in omega arith in
      let limit = ap (λ (n : ℕ). limit_of nb n b) one_less in
      let half = are.1 in
      let rows = m.1 in
      merges low (omega arith) (m.0 ∙ same)

  -- where they haven't
  none_merged : ¬ AreTooMany nb one b more → blocks_of nb mid ≡ blocks_of nb one → ¬ AreFew nb mid b → Settles nb one two b more from end
  none_merged low same not =
      let still = many (λ e. omega arith) not in
      stays low (subst (λ (l : List ℕ). ¬ AreFew nb l b) (sym still) not) (ap (blocks_of nb) still ∙ same)

  -- what becomes of the blocks where rows are replaced, and then two are merged where there is cause
  pub settles : Replaces nb one mid b more from end → Settles nb one two b more from end
  settles (grows too one_more) = elim (cases_lt (blocks_of nb one + 1) nb) [
    | inl lt ↦ splits too lt (ap (blocks_of nb) (left (λ e. omega arith) (λ e. omega arith)) ∙ one_more)
    | inr ge ↦ let f = freed (omega arith) in frees too (omega arith) (omega arith)
  ]
  settles (shrinks gone less) =
      let count = ap (blocks_of nb) (left (λ e. omega arith) (λ e. omega arith)) in
      let went = gone.went in
      goes (record { first = gone.first; count = gone.count; there = gone.there; begin = gone.begin; whole = gone.whole; went = omega arith }) (omega arith)
  settles (keeps low same) = elim (cases_lt (b + 1) (blocks_of nb mid)) [
    | inr last ↦ none_merged low same (λ are. let a = are.0 in omega arith)
    | inl more_behind ↦ elim (cases_lt (limit_of nb (blocks_of nb mid - 1) b) (2 * (rows_of nb mid b + rows_of nb mid (b + 1) + 2))) [
      | inl many_rows ↦ none_merged low same (λ are. let a = are.1 in omega arith)
      | inr half ↦ two_merged low same (more_behind, half)
    ]
  ]

-- some blocks more have some rows more
count_more : (nb : ℕ) (words : List ℕ) (first n : ℕ) → 0 < n → count_to nb words first < count_to nb words (first + n)
count_more nb words first n some =
    let up = count_up nb words (first + 1) (first + n) (omega arith) in let next = count_next nb words first in omega arith

-- where the first rows of those that go are the end of a block, the blocks behind it stood as many rows further on
pub further_on : (nb : ℕ) (one mid : List ℕ) (i cut n : ℕ) → i < n → n ≤ nb → rows_of nb mid i + cut ≡ rows_of nb one i
    → ((k : ℕ) → k < nb → k ≢ i → told nb mid k ≡ told nb one k) → count_to nb mid n + cut ≡ count_to nb one n
further_on nb one mid i cut zero lt le less others = absurd (omega arith)
further_on nb one mid i cut (suc n) lt le less others = elim (cases_lt i n) [
  | inl before ↦
      let r = further_on nb one mid i cut n before (omega arith) less others in
      let same = ap (λ (x : ℕ). x % 128) (others n (omega arith) (λ e. omega arith)) in
      omega arith
  | inr ge ↦
      let e : i ≡ n = omega arith in
      let here = subst (λ (m : ℕ). rows_of nb mid m + cut ≡ rows_of nb one m) e less in
      let before = count_told nb one mid n (λ k below. others k (omega arith) (λ d. omega arith)) in
      omega arith
]

-- blocks that went behind the end of a block stood behind its place
pub gone_behind : {nb : ℕ} {one mid two : List ℕ} {i place gone left : ℕ} → i < blocks_of nb one → blocks_of nb one ≤ nb → place ≤ rows_of nb one i + 1
    → left ≤ gone → rows_of nb mid i + (gone - left) ≡ rows_of nb one i → ((k : ℕ) → k < nb → k ≢ i → told nb mid k ≡ told nb one k)
    → blocks_of nb mid ≡ blocks_of nb one → (0 < left → count_to nb mid (i + 1) ≡ rank nb one i place)
    → HaveGone nb mid two (count_to nb mid (i + 1)) (count_to nb mid (i + 1) + left) → blocks_of nb two < blocks_of nb one
    → HaveGone nb one two (rank nb one i place) (rank nb one i place + gone)
gone_behind {nb} {one} {mid} {two} {i} {place} {gone} {left} there few within le less others same rest h fewer =
    let c = h.count in
    let went = h.went in
    let begin = h.begin in
    let whole = h.whole in
    let there_then = h.there in
    let behind : i < h.first = elim (cases_lt i h.first) [
      | inl lt ↦ lt
      | inr ge ↦ let up = count_up nb mid h.first i ge in let next = count_next nb mid i in absurd (omega arith)
    ] in
    let first = further_on nb one mid i (gone - left) h.first behind (omega arith) less others in
    let last = further_on nb one mid i (gone - left) (h.first + c) (omega arith) (omega arith) less others in
    let next = count_next nb one i in
    let here = further_on nb one mid i (gone - left) (i + 1) (omega arith) (omega arith) less others in
    let more = count_more nb mid h.first c (omega arith) in
    let some : 0 < left = omega arith in
    let begins = rest some in
    record { first = h.first; count = c; there = omega arith; begin = omega arith; whole = omega arith; went = omega arith }

-- a block in which rows come is split where they are too many for it, behind rows that were laid over others
pub grows_or_keeps : {nb : ℕ} {one : List ℕ} (laid : List ℕ) {two : List ℕ} {b more : ℕ} (came : ℕ) {from end : ℕ} → 0 < more → blocks_of nb laid ≡
    blocks_of nb one
    → rows_of nb laid b ≡ rows_of nb one b → came ≡ more
    → (limit_of nb (blocks_of nb laid) b < rows_of nb laid b + 1 + came → blocks_of nb two ≡ blocks_of nb laid + 1)
    → (rows_of nb laid b + 1 + came ≤ limit_of nb (blocks_of nb laid) b → blocks_of nb two ≡ blocks_of nb laid)
    → Replaces nb one two b more from end
grows_or_keeps {nb} {one} laid {b = b} {more = more} came some count rows as_many split still =
    let limit : limit_of nb (blocks_of nb laid) b ≡ limit_of nb (blocks_of nb one) b = ap (λ (n : ℕ). limit_of nb n b) count in
    elim (cases_lt (limit_of nb (blocks_of nb one) b) (rows_of nb one b + 1 + more)) [
      | inl many ↦ grows (some, many) (let s = split (omega arith) in omega arith)
      | inr few ↦ keeps (λ too. let t = too.1 in omega arith) (let s = still (omega arith) in omega arith)
    ]

-- where no more rows come than go, blocks go of which no row stays
pub shrinks_or_keeps : {nb : ℕ} {one : List ℕ} (laid : List ℕ) {two : List ℕ} {b more from end : ℕ} (from_laid end_laid : ℕ) → more ≡ 0 → blocks_of
    nb laid ≡ blocks_of nb one
    → ((i : ℕ) → count_to nb laid i ≡ count_to nb one i) → from_laid ≡ from → end_laid ≡ end → blocks_of nb two ≤ blocks_of nb laid
    → (blocks_of nb two < blocks_of nb laid → HaveGone nb laid two from_laid end_laid) → Replaces nb one two b more from end
shrinks_or_keeps {nb} {one} laid {two} from_laid end_laid none count before from end fewer went = elim (cases_lt (blocks_of nb two) (blocks_of nb one)) [
  | inr ge ↦ keeps (λ too. let t = too.0 in omega arith) (omega arith)
  | inl less ↦
      let h = went (omega arith) in
      let there = h.there in
      let begin = h.begin in
      let whole = h.whole in
      let gone = h.went in
      let first = before h.first in
      let last = before (h.first + h.count) in
      shrinks (record { first = h.first; count = h.count; there = omega arith; begin = omega arith; whole = omega arith; went = omega arith }) less
]
