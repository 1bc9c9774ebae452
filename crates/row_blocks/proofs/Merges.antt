-- What is left where two blocks become one.
use Rattle.std.proofs.Common.{◌≡◌, ◌≢◌, ℕ, zero, suc, ◌+◌, ◌<◌, List, [], ◌++◌, length, take, drop}
use Rattle.std.proofs.Common.{sym, refl, ap, ◌∙◌, subst, arith, inl, inr}
use Rattle.std.proofs.lemmas.Bool.{cases_lt}
use Rattle.std.proofs.lemmas.List.{append_assoc, append-nil, take_at, drop_all, take-append-le, drop-append-le}
use Rattle.std.specs.Prelude.{All}
use Rattle.std.specs.List.{splice}
use Rattle.std.proofs.lemmas.List.Elements.{All-append, All-weaker}
use mathlib.Core.Logic.{dite}
use native.Mathlib.Decide.{ℕ_discrete}
use Rattle.row_blocks.specs.Blocks.{pieces, blocks_of, block, rows_in, count_to, IsLaidOut}
use Rattle.row_blocks.proofs.Pieces.{same_pieces, fewer_pieces, all_pieces, all_of_piece}
use Rattle.row_blocks.proofs.Puts.{count_is}

-- where a list is appended to the one before it, and then goes, the whole stays
pub pieces_joined : (f g : ℕ → List ℕ) (i n : ℕ) → suc i < n → ((k : ℕ) → k < n → k ≢ i → g k ≡ f k) → g i ≡ f i ++ f (suc i)
    → splice (pieces g n) (length (pieces g (suc i))) (length (pieces g (suc (suc i)))) [] ≡ pieces f n
pieces_joined f g i zero lt same both = absurd (omega arith)
pieces_joined f g i (suc n) lt same both = elim (cases_lt (suc i) n) [
  | inl less ↦
      let front = pieces_joined f g i n less (λ k l d. same k (omega arith) d) both in
      let last : g n ≡ f n = same n (omega arith) (λ e. omega arith) in
      let a = fewer_pieces g (suc i) n (omega arith) in
      let b = fewer_pieces g (suc (suc i)) n (omega arith) in
      let one = take-append-le (length (pieces g (suc i))) (pieces g n) (g n) a in
      let two = drop-append-le (length (pieces g (suc (suc i)))) (pieces g n) (g n) b in
      let apart : splice (pieces g n ++ g n) (length (pieces g (suc i))) (length (pieces g (suc (suc i)))) []
      ≡ splice (pieces g n) (length (pieces g (suc i))) (length (pieces g (suc (suc i)))) [] ++ g n = rw (one, two) (simp append_assoc) in
      apart ∙ (λ j. front j ++ last j)
  | inr ge ↦
      let e : suc i ≡ n = omega arith in
      let front : pieces g i ≡ pieces f i = same_pieces f g i (λ k l. same k (omega arith) (λ q. omega arith)) in
      let first : take (length (pieces g (suc i))) (pieces g (suc i) ++ g (suc i)) ≡ pieces g (suc i) =
      take_at (pieces g (suc i)) (g (suc i)) (length (pieces g (suc i))) refl in
      let none : drop (length (pieces g (suc (suc i)))) (pieces g (suc (suc i))) ≡ [] =
      drop_all (length (pieces g (suc (suc i)))) (pieces g (suc (suc i))) (omega arith) in
      let here : splice (pieces g (suc (suc i))) (length (pieces g (suc i))) (length (pieces g (suc (suc i)))) [] ≡ pieces f (suc (suc i)) =
      (λ j. first j ++ none j) ∙ (append-nil (pieces g (suc i)) ∙ ((λ j. front j ++ both j) ∙ sym (append_assoc (pieces f i) (f i) (f (suc i))))) in
      subst (λ (m : ℕ). splice (pieces g (suc m)) (length (pieces g (suc i))) (length (pieces g (suc (suc i)))) [] ≡ pieces f (suc m)) e here
]

-- so the rows are the same once the upper one of two blocks has been appended to the lower one and has gone
pub merged : {nb : ℕ} {one middle : List ℕ} (two : List ℕ) (i : ℕ) → IsLaidOut nb one → IsLaidOut nb middle → i + 1 < blocks_of nb one
    → blocks_of nb middle ≡ blocks_of nb one → block nb middle i ≡ block nb one i ++ block nb one (i + 1)
    → ((k : ℕ) → k < nb → k ≢ i → block nb middle k ≡ block nb one k)
    → rows_in nb two ≡ splice (rows_in nb middle) (count_to nb middle (i + 1)) (count_to nb middle (i + 2)) [] → rows_in nb two ≡ rows_in nb one
merged {nb} {one} {middle} two i laid after there count joined others out =
    let g : ℕ → List ℕ = block nb middle in
    let up : i + 1 ≡ suc i = omega arith in
    let over : i + 2 ≡ suc (suc i) = omega arith in
    let x : count_to nb middle (i + 1) ≡ length (pieces g (suc i)) = sym (count_is (i + 1) after (omega arith)) ∙ ap (λ (m : ℕ). length (pieces g m)) up in
    let y : count_to nb middle (i + 2) ≡ length (pieces g (suc (suc i))) =
    sym (count_is (i + 2) after (omega arith)) ∙ ap (λ (m : ℕ). length (pieces g m)) over in
    let both : g i ≡ block nb one i ++ block nb one (suc i) = joined ∙ ap (λ (m : ℕ). block nb one i ++ block nb one m) up in
    out ∙ ((λ j. splice (pieces g (count j)) (x j) (y j) [])
    ∙ pieces_joined (block nb one) g i (blocks_of nb one) (omega arith) (λ k l d. others k (omega arith) d) both)

-- rows that stand twice are rows
pub rows_appended : {nb : ℕ} {one : List ℕ} (middle : List ℕ) (i : ℕ) → IsLaidOut nb one → i + 1 < blocks_of nb one → (P Q : ℕ → Type 0)
    → ((w : ℕ) → P w → Q w) → blocks_of nb middle ≡ blocks_of nb one → block nb middle i ≡ block nb one i ++ block nb one (i + 1)
    → ((k : ℕ) → k < nb → k ≢ i → block nb middle k ≡ block nb one k) → All P (rows_in nb one) → All Q (rows_in nb middle)
rows_appended {nb} {one} middle i laid there P Q keep count joined others all =
    let more : (k : ℕ) → k < blocks_of nb one → All Q (block nb one k) = λ (k : ℕ) (lt : k < blocks_of nb one).
    All-weaker P Q keep (block nb one k) (all_of_piece P (block nb one) k (blocks_of nb one) lt all) in
    subst (λ (n : ℕ). All Q (pieces (block nb middle) n)) (sym count) (all_pieces Q (block nb middle) (blocks_of nb one) (λ k lt. dite (ℕ_discrete k i)
    (λ e. subst (λ (n : ℕ). All Q (block nb middle n)) (sym e)
    (subst (All Q) (sym joined) (All-append Q (block nb one i) (block nb one (i + 1)) (more i (omega arith)) (more (i + 1) there))))
    (λ differ. subst (All Q) (sym (others k (omega arith) differ)) (more k lt))))
