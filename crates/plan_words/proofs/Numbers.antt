-- The row of a number below the number of rows stands at its position.
use Rattle.std.proofs.Common.{◌≡◌, ℕ, ◌+◌, ◌<◌, ◌≤◌, Bool, true, false, cond, List, length, sym, refl, ap, ◌∙◌, subst, arith}
use Rattle.std.specs.Prelude.{nat_le, nat_lt, ◌&&◌}
use Rattle.std.proofs.lemmas.Bool.{ltb-true, leb-true}
use Rattle.row_blocks.specs.declared.positions.Position.{Position}
use Rattle.std.specs.List.{splice}
use Rattle.row_blocks.specs.Blocks.{blocks_of, rows_of, rank, rows_in as rows_by}
use Rattle.area_guard.specs.declared.guard.Pass.{Pass}
use Rattle.area_guard.specs.declared.guard.Splice.{Splice}
use Rattle.area_guard.specs.Reads.{known_rows, known_words}
use Rattle.area_guard.specs.History.{rows_after}
use Rattle.plan_words.specs.Places.{number_in, number_at}

-- a position at which a row stands, with its number, over so many blocks
pub record IsRowPlace (nb : ℕ) (pass : Pass) (at : Position) : Type 0 where
  pub there : at.block < blocks_of nb (known_words pass)
  pub place : at.place ≤ rows_of nb (known_words pass) at.block
  pub number : rank nb (known_words pass) at.block at.place ≡ number_at pass at

by_tests : (pass : Pass) (at : Position) (a b : Bool) → nat_lt at.block (blocks_of pass.blocks (known_words pass)) ≡ a
    → nat_le at.place (rows_of pass.blocks (known_words pass) at.block) ≡ b → number_at pass at < length (known_rows pass) → IsRowPlace pass.blocks pass at
unfolding number_in
by_tests pass at true true x y lt =
    let e : number_at pass at ≡ rank pass.blocks (known_words pass) at.block at.place =
    (λ i. cond (x i && y i) (rank pass.blocks (known_words pass) at.block at.place) (length (known_rows pass))) in record {
      there = ltb-true at.block (blocks_of pass.blocks (known_words pass)) x;
      place = leb-true at.place (rows_of pass.blocks (known_words pass) at.block) y;
      number = sym e;
    }
by_tests pass at true false x y lt =
    let e : number_at pass at ≡ length (known_rows pass) =
    (λ i. cond (x i && y i) (rank pass.blocks (known_words pass) at.block at.place) (length (known_rows pass))) in absurd (omega arith)
by_tests pass at false b x y lt =
    let e : number_at pass at ≡ length (known_rows pass) =
    (λ i. cond (x i && y i) (rank pass.blocks (known_words pass) at.block at.place) (length (known_rows pass))) in absurd (omega arith)

-- a number below the number of rows is that of a row
pub row_place : (pass : Pass) (at : Position) {nb : ℕ} {rows : List ℕ} → pass.blocks ≡ nb → known_rows pass ≡ rows → number_at pass at < length rows
    → IsRowPlace nb pass at
row_place pass at blocks are lt = subst (λ (n : ℕ). IsRowPlace n pass at) blocks (by_tests pass at (nat_lt at.block (blocks_of pass.blocks (known_words pass)))
    (nat_le at.place (rows_of pass.blocks (known_words pass) at.block)) refl refl (subst (λ (l : List ℕ). number_at pass at < length l) (sym are) lt))

-- what a splice of the known rows leaves is what the plan does
pub written_rows : (old new : Pass) (plan : Splice) {nb r : ℕ} (gone : ℕ) {more : List ℕ} → old.blocks ≡ nb → new.blocks ≡ old.blocks
    → known_rows old ≡ plan.old → plan.first ≡ r → plan.end ≡ plan.first + gone → more ≡ plan.more
    → rows_by nb (known_words new) ≡ splice (rows_by nb (known_words old)) r (r + gone) more → known_rows new ≡ rows_after plan
written_rows old new plan {nb} {r} gone blocks same are first end comes spliced =
    let stood : rows_by nb (known_words old) ≡ plan.old = ap (λ (n : ℕ). rows_by n (known_words old)) (sym blocks) ∙ are in
    let begins : r ≡ plan.first = sym first in
    let ends : r + gone ≡ plan.end = omega arith in
    ap (λ (n : ℕ). rows_by n (known_words new)) (same ∙ blocks) ∙ (spliced ∙ (λ i. splice (stood i) (begins i) (ends i) (comes i)))
