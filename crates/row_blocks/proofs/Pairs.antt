-- Were there 129 rows or more in each two of the blocks behind block 0, there were more rows than room.
use Rattle.std.proofs.Common.{ℕ, zero, suc, ◌≡◌, ◌+◌, ◌-◌, ◌*◌, ◌/◌, ◌<◌, ◌≤◌, List, length, ap, arith}
use Rattle.row_blocks.specs.Blocks.{blocks_of, rows_of, rows_in, count_to, IsLaidOut}
use Rattle.row_blocks.proofs.Slots.{length-rows_in}
use Rattle.row_blocks.proofs.Counts.{count_up}

-- so many pairs have so many rows
pairs_fill : (nb : ℕ) (words : List ℕ) (p : ℕ) → ((k : ℕ) → 0 < k → k < 2 * p → 127 < rows_of nb words k + 1 + rows_of nb words (suc k))
    → 129 * p ≤ count_to nb words (suc (2 * p))
pairs_fill nb words zero full = omega arith
pairs_fill nb words (suc p) full =
    let r = pairs_fill nb words p (λ k some lt. full k some (omega arith)) in
    let e : suc (2 * suc p) ≡ suc (suc (suc (2 * p))) = omega arith in
    let c : count_to nb words (suc (2 * suc p)) ≡ count_to nb words (suc (suc (suc (2 * p)))) = ap (count_to nb words) e in
    let f = full (suc (2 * p)) (omega arith) (omega arith) in
    omega arith

-- so there are two that can be merged where all blocks are in use
pub pair_there : {nb : ℕ} {words : List ℕ} → IsLaidOut nb words → blocks_of nb words ≡ nb → 2 * length (rows_in nb words) < 129 * (nb - 2)
    → ((k : ℕ) → 0 < k → k + 1 < nb → 127 < rows_of nb words k + 1 + rows_of nb words (k + 1)) → ⊥
pair_there {nb} {words} laid all room full =
    let p : ℕ = (nb - 1) / 2 in
    let next : (k : ℕ) → rows_of nb words (k + 1) ≡ rows_of nb words (suc k) = λ (k : ℕ). ap (rows_of nb words) (let e : k + 1 ≡ suc k = omega arith in e) in
    let fill = pairs_fill nb words p (λ k some lt. let f = full k some (omega arith) in let e = next k in omega arith) in
    let long = length-rows_in nb words laid in
    let whole : count_to nb words (blocks_of nb words) ≡ count_to nb words nb = ap (count_to nb words) all in
    let up = count_up nb words (suc (2 * p)) nb (omega arith) in
    omega arith
