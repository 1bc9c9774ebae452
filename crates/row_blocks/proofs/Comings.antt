-- A few rows that come one after another.
use Rattle.std.proofs.Common.{◌≡◌, ◌≢◌, ℕ, ◌+◌, ◌<◌, ◌≤◌, List, [], ◌∷◌, ◌++◌, length, get_or, take}
use Rattle.std.proofs.Common.{sym, ap, ◌∙◌, arith}
use Rattle.std.specs.List.{splice}
use Rattle.std.proofs.lemmas.List.{take_more, length-take-le}
use Rattle.row_blocks.specs.Blocks.{rows_of, told}
use Rattle.row_blocks.proofs.RowSplices.{splice_behind}

-- one row more
pub comes_on : (R : List ℕ) {two three : List ℕ} (more : List ℕ) (r k : ℕ) {at w : ℕ} → r ≤ length R → k < length more → two ≡ splice R r r (take k more)
    → three ≡ splice two at at (w ∷ []) → at ≡ r + k → w ≡ get_or more k 0 → three ≡ splice R r r (take (k + 1) more)
comes_on R more r k {at} {w} there some was comes place word =
    let u : List ℕ = take k more in
    let long : length u ≡ k = length-take-le k more (omega arith) in
    let here : at ≡ r + length u = omega arith in
    let end : at ≡ r + length u + 0 = omega arith in
    let zero : r + 0 ≡ r = omega arith in
    let behind : splice (splice R r r u) (r + length u) (r + length u + 0) (w ∷ []) ≡ splice R r (r + 0) (u ++ (w ∷ [])) =
    splice_behind R u (w ∷ []) r r 0 there in
    let last : take (k + 1) more ≡ u ++ (get_or more k 0 ∷ []) = take_more more k 0 some in
    comes ∙ ((λ j. splice (was j) (here j) (end j) (w ∷ [])) ∙ (behind ∙ ((λ j. splice R r (zero j) (u ++ (word j ∷ []))) ∙ ap (splice R r r) (sym last))))

-- block 0 has at most 64 rows still
pub stays_short : (nb : ℕ) (two three : List ℕ) (i m : ℕ) → 0 < nb → (i ≡ 0 → rows_of nb two 0 + m < 64) → rows_of nb two 0 < 64
    → rows_of nb three i ≡ rows_of nb two i + m → ((k : ℕ) → k < nb → k ≢ i → told nb three k ≡ told nb two k) → rows_of nb three 0 < 64
stays_short nb two three i m some first short grown others = grind (arith, others 0)
