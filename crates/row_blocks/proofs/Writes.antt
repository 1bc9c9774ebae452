-- A splice that is written in two steps: rows are laid over those that go, and then some come or go right behind them.
use Rattle.std.proofs.Common.{◌≡◌, ℕ, ◌+◌, ◌≤◌, List, ◌++◌, length}
use Rattle.std.proofs.Common.{sym, ◌∙◌, subst}
use Rattle.std.specs.Prelude.{All}
use Rattle.std.specs.List.{splice}
use Rattle.std.proofs.lemmas.List.Elements.{All-weaker}
use Rattle.row_blocks.proofs.RowSplices.{all_spliced, splice_behind}

-- what was a row, and what comes, is a row after it
pub all_written : (P Q : ℕ → Type 0) (R : List ℕ) {two : List ℕ} (more : List ℕ) (p q : ℕ) → ((w : ℕ) → P w → Q w) → two ≡ splice R p q more → All P R
    → All P more → All Q two
all_written P Q R more p q keep is rows new = subst (All Q) (sym is) (all_spliced Q R more p q (All-weaker P Q keep R rows) (All-weaker P Q keep more new))

-- both steps are one splice
pub laid_then : (R : List ℕ) {two three : List ℕ} (u v : List ℕ) {more : List ℕ} (r d : ℕ) {at until end : ℕ} → r ≤ length R
    → two ≡ splice R r (r + length u) u → three ≡ splice two at until v → at ≡ r + length u → until ≡ r + length u + d → r + length u + d ≡ end
    → u ++ v ≡ more → three ≡ splice R r end more
laid_then R u v r d there laid then from to all whole =
    then ∙ ((λ j. splice (laid j) (from j) (to j) v) ∙ (splice_behind R u v r (r + length u) d there ∙ (λ j. splice R r (all j) (whole j))))
