-- Rows that go from a position on, block by block.
use Rattle.std.proofs.Common.{◌≡◌, ◌≢◌, ℕ, zero, suc, ◌+◌, ◌-◌, ◌%◌, ◌<◌, ◌≤◌, List, [], length}
use Rattle.std.proofs.Common.{sym, ap, ◌∙◌, subst, arith}
use Rattle.std.specs.List.{splice}
use Rattle.row_blocks.specs.Blocks.{blocks_of, rows_of, rows_in, count_to, rank, told, IsLaidOut}
use Rattle.row_blocks.proofs.RowSplices.{length-splice, splice_none, splice_behind, cut_before}
use Rattle.row_blocks.proofs.Slots.{length-rows_in}
use Rattle.row_blocks.proofs.Counts.{count_next, count_same, count_up}

-- the rows of blocks whose body words stand as they stood are as many
pub count_told : (nb : ℕ) (one two : List ℕ) (n : ℕ) → ((k : ℕ) → k < n → told nb two k ≡ told nb one k) → count_to nb two n ≡ count_to nb one n
count_told nb one two n same = count_same nb one two n (λ k lt. ap (λ (x : ℕ). x % 128) (same k lt))

-- where the rows of a block from a place on have gone, as many stand before the next block as stood before the place
pub rest_gone : (nb : ℕ) (one two : List ℕ) (i place cut : ℕ) → i < nb → ((k : ℕ) → k < nb → k ≢ i → told nb two k ≡ told nb one k)
    → rows_of nb two i + cut ≡ rows_of nb one i → place + cut ≡ rows_of nb one i + 1 → count_to nb two (i + 1) ≡ rank nb one i place
rest_gone nb one two i place cut there others less all =
    let before = count_told nb one two i (λ k lt. others k (omega arith) (λ e. omega arith)) in
    let next = count_next nb two i in
    omega arith

-- the first blocks have no more rows than all
pub count_below : {nb : ℕ} {words : List ℕ} (i : ℕ) → IsLaidOut nb words → i ≤ blocks_of nb words → count_to nb words i ≤ length (rows_in nb words)
count_below {nb} {words} i laid le = let up = count_up nb words i (blocks_of nb words) le in let l = length-rows_in nb words laid in omega arith

-- the first rows of a block have gone
pub head_gone : (nb : ℕ) {one two : List ℕ} (three : List ℕ) (i left : ℕ) {end : ℕ} → i < nb → two ≡ one
    → rows_in nb three ≡ splice (rows_in nb two) (rank nb two i 0) (rank nb two i left) [] → ((k : ℕ) → k < nb → k ≢ i → told nb three k ≡ told nb two k)
    → count_to nb one i + left ≡ end → rows_in nb three ≡ splice (rows_in nb one) (count_to nb three i) end []
head_gone nb {one} {two} three i left there same cut others all =
    let R : List ℕ = rows_in nb one in
    let begin : rank nb one i 0 ≡ count_to nb three i =
    let before = count_told nb two three i (λ k lt. others k (omega arith) (λ e. omega arith)) in
    let was = ap (λ (l : List ℕ). count_to nb l i) same in
    omega arith in
    cut ∙ ((λ j. splice (rows_in nb (same j)) (rank nb (same j) i 0) (rank nb (same j) i left) []) ∙ (λ j. splice R (begin j) (all j) []))

-- no rows are left to go
pub none_left : (nb : ℕ) {one two : List ℕ} (i : ℕ) {left end : ℕ} → two ≡ one → left ≡ 0 → count_to nb one i + left ≡ end
    → rows_in nb two ≡ splice (rows_in nb one) (count_to nb two i) end []
none_left nb {one} {two} i {end} same none all =
    let R : List ℕ = rows_in nb one in
    let here : count_to nb two i ≡ end = let was = ap (λ (l : List ℕ). count_to nb l i) same in omega arith in
    ap (rows_in nb) same ∙ subst (λ (n : ℕ). R ≡ splice R (count_to nb two i) n []) here (sym (splice_none R (count_to nb two i)))

-- and then the blocks before them
pub blocks_gone : {nb : ℕ} {one : List ℕ} (two three : List ℕ) (first end until : ℕ) → IsLaidOut nb one → first ≤ end → end ≤ blocks_of nb one
    → ((k : ℕ) → k < end → told nb two k ≡ told nb one k) → rows_in nb two ≡ splice (rows_in nb one) (count_to nb two end) until []
    → rows_in nb three ≡ splice (rows_in nb two) (count_to nb two first) (count_to nb two end) []
    → rows_in nb three ≡ splice (rows_in nb one) (count_to nb one first) until []
blocks_gone {nb} {one} two three first end until laid ordered there before cut out =
    let R : List ℕ = rows_in nb one in
    let a : count_to nb two first ≡ count_to nb one first = count_told nb one two first (λ k lt. before k (omega arith)) in
    let b : count_to nb two end ≡ count_to nb one end = count_told nb one two end before in
    let up = count_up nb two first end ordered in
    let below = count_below end laid there in
    out ∙ ((λ j. splice (cut j) (count_to nb two first) (count_to nb two end) [])
    ∙ (cut_before R (count_to nb two first) (count_to nb two end) until up (omega arith) ∙ ap (λ (n : ℕ). splice R n until []) a))

-- the rows that are left to go where the rest of a block has gone
pub rest_fits : {nb : ℕ} {two : List ℕ} (R : List ℕ) (i r gone left : ℕ) → IsLaidOut nb two → i + 1 ≤ blocks_of nb two → left ≤ gone
    → rows_in nb two ≡ splice R r (r + (gone - left)) [] → (0 < left → count_to nb two (i + 1) ≡ r) → r + gone ≤ length R
    → count_to nb two (i + 1) + left ≤ length (rows_in nb two)
rest_fits R i r gone zero laid there le first next fits = let b = count_below (i + 1) laid there in omega arith
rest_fits R i r gone (suc left) laid there le first next fits =
    let long = ap (length {A = ℕ}) first in
    let l = length-splice R [] r (r + (gone - suc left)) (omega arith) (omega arith) in
    let e = next (omega arith) in
    omega arith

-- the rest of one block has gone, and then rows from the beginning of the next one on
pub cut_whole : (R : List ℕ) {two three : List ℕ} (r gone left c : ℕ) → r ≤ length R → left ≤ gone → two ≡ splice R r (r + (gone - left)) []
    → three ≡ splice two c (c + left) [] → (0 < left → c ≡ r) → three ≡ splice R r (r + gone) []
cut_whole R {two} r gone zero c there le first then next =
    let none : c + 0 ≡ c = omega arith in
    let all : r + (gone - 0) ≡ r + gone = omega arith in
    then ∙ (ap (λ (n : ℕ). splice two c n []) none ∙ (splice_none two c ∙ (first ∙ ap (λ (n : ℕ). splice R r n []) all)))
cut_whole R r gone (suc left) c there le first then next =
    let d : ℕ = suc left in
    let mid : ℕ = r + (gone - d) in
    let here : c ≡ r + 0 = omega arith in
    let all : mid + d ≡ r + gone = omega arith in
    let behind : splice (splice R r mid []) (r + 0) (r + 0 + d) [] ≡ splice R r (mid + d) [] = splice_behind R [] [] r mid d there in
    then ∙ ((λ j. splice (first j) (here j) (here j + d) []) ∙ (behind ∙ ap (λ (n : ℕ). splice R r n []) all))
