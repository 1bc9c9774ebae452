-- What is left where blocks go.
use Rattle.std.proofs.Common.{◌≡◌, ◌≢◌, ℕ, zero, suc, ◌+◌, ◌-◌, ◌*◌, ◌/◌, ◌%◌, ◌<◌, ◌≤◌, List, [], ◌++◌, length, take, drop}
use Rattle.std.proofs.Common.{sym, refl, ap, ◌∙◌, subst, arith}
use Rattle.std.proofs.lemmas.List.{append_assoc, append-nil, drop_all, take_all, take-append-le, drop-append-le}
use Rattle.std.proofs.lemmas.List.{length-set, get_or-set_same, get_or-set_other}
use Rattle.std.specs.Prelude.{slice_index, slice_set}
use Rattle.std.specs.List.{splice}
use mathlib.Core.Logic.{dite}
use native.Mathlib.Decide.{ℕ_discrete}
use Rattle.row_blocks.specs.Moves.{IsCopied, IsSwapped, IsRotated}
use Rattle.row_blocks.specs.Blocks.{pieces, blocks_of, body_of, body_at, block, rows_in, count_to, AreBodies, IsLaidOut}
use Rattle.row_blocks.proofs.Pieces.{same_pieces, fewer_pieces}
use Rattle.row_blocks.proofs.Puts.{same_block, count_is}

-- which of two that change places a number is after it
record Swapped (a b k m : ℕ) : Type 0 where
  one : k ≡ a → m ≡ b
  other : k ≡ b → m ≡ a
  stays : k ≢ a → k ≢ b → m ≡ k

swap_apart : {a b k l m : ℕ} → Swapped a b k m → Swapped a b l m → k ≡ l
swap_apart one two = grind arith

-- two body words change places, each by a load and a store
pub swap_done : {one loaded mid two : List ℕ} (a b : ℕ) {first second : ℕ} → a < length one → b < length one → loaded ≡ one → first ≡ slice_index one a
    → second ≡ slice_index loaded b → mid ≡ slice_set loaded b first → two ≡ slice_set mid a second → IsSwapped one two a b
swap_done {one} {two} a b low high same read found laid stored =
    let mid : List ℕ = slice_set one b (slice_index one a) in
    let value = found ∙ ap (λ (l : List ℕ). slice_index l b) same in
    let middle = laid ∙ (λ j. slice_set (same j) b (read j)) in
    let is : two ≡ slice_set mid a (slice_index one b) = stored ∙ (λ j. slice_set (middle j) a (value j)) in
    let long = length-set one b (slice_index one a) in
    let here : slice_index two a ≡ slice_index one b = ap (λ (l : List ℕ). slice_index l a) is ∙ get_or-set_same mid a (slice_index one b) 0 (omega arith) in
    record {
      long = ap length is ∙ (length-set mid a (slice_index one b) ∙ long);
      first = here;
      second = dite (ℕ_discrete b a) (λ e. ap (slice_index two) e ∙ (here ∙ ap (slice_index one) e)) (λ differ. ap (λ (l : List ℕ). slice_index l b) is
          ∙ (get_or-set_other mid a b (slice_index one b) 0 differ ∙ get_or-set_same one b (slice_index one a) 0 high));
      others = λ s x y. ap (λ (l : List ℕ). slice_index l s) is
          ∙ (get_or-set_other mid a s (slice_index one b) 0 x ∙ get_or-set_other one b s (slice_index one a) 0 y);
    }

module _ {nb : ℕ} {one two : List ℕ} (a b : ℕ) (bodies : AreBodies nb one) (low : a < nb) (high : b < nb)
    (s : IsSwapped one two (128 * nb + 1 + a) (128 * nb + 1 + b)) where
  source : (k : ℕ) → k < nb → (m : ℕ) × (m < nb) × Swapped a b k m × (body_of nb two k ≡ body_of nb one m)
  source k lt = dite (ℕ_discrete k a) (λ e. (b, high, omega (arith, e), grind (arith, e, s.first))) (λ differ. dite (ℕ_discrete k b)
      (λ e. (a, low, omega (arith, differ, e), grind (arith, e, s.second)))
      (λ apart. (k, lt, omega (arith, differ, apart), grind (arith, differ, apart, s.others (128 * nb + 1 + k)))))

  -- each body still is of one block where two body words have changed places
  pub swapped : AreBodies nb two
  swapped = record {
    there = λ k lt. let s = source k lt in let t = bodies.there s.0 s.1 in let e = s.3 in omega arith;
    apart = λ k l x y e.
        let s = source k x in
        let t = source l y in
        let same : s.0 ≡ t.0 = bodies.apart s.0 t.0 s.1 t.1 (sym s.3 ∙ (e ∙ t.3)) in
        swap_apart s.2 (subst (Swapped a b l) (sym same) t.2);
  }

-- no body word has moved yet
pub rotates_none : {nb : ℕ} {one : List ℕ} {to gap : ℕ} → IsRotated nb one one to gap 0
rotates_none = record { long = refl; moved = λ k le lt. absurd (omega arith); behind = λ k le. refl; below = λ s lt. refl }

-- and one more
pub rotates_on : {nb : ℕ} {one two three : List ℕ} {to gap k : ℕ} → 0 < gap → IsRotated nb one two to gap k
    → IsSwapped two three (128 * nb + 1 + (to + k)) (128 * nb + 1 + (to + k + gap)) → IsRotated nb one three to gap (k + 1)
rotates_on {nb} {one} {three} {to} {gap} {k} some r s = grind (arith, s.others, s.first)

-- the first lists are the front of more of them
take_pieces : (f : ℕ → List ℕ) (first more : ℕ) → take (length (pieces f first)) (pieces f (first + more)) ≡ pieces f first
take_pieces f first zero =
    let e : first + 0 ≡ first = omega arith in
    ap (λ (m : ℕ). take (length (pieces f first)) (pieces f m)) e ∙ take_all (length (pieces f first)) (pieces f first) (omega arith)
take_pieces f first (suc more) =
    let e : first + suc more ≡ suc (first + more) = omega arith in
    let a = fewer_pieces f first (first + more) (omega arith) in
    ap (λ (m : ℕ). take (length (pieces f first)) (pieces f m)) e
    ∙ (take-append-le (length (pieces f first)) (pieces f (first + more)) (f (first + more)) a ∙ take_pieces f first more)

-- where some lists go, the rest is a splice of the whole
pub pieces_cut : (f g : ℕ → List ℕ) (first gap n : ℕ) → ((i : ℕ) → i < first → g i ≡ f i) → ((i : ℕ) → first ≤ i → i < first + n → g i ≡ f (i + gap))
    → pieces g (first + n) ≡ splice (pieces f (first + n + gap)) (length (pieces f first)) (length (pieces f (first + gap))) []
pieces_cut f g first gap zero before behind =
    let e : first + 0 ≡ first = omega arith in
    let d : first + 0 + gap ≡ first + gap = omega arith in
    let front : pieces g first ≡ pieces f first = same_pieces f g first before in
    let none : drop (length (pieces f (first + gap))) (pieces f (first + gap)) ≡ [] = drop_all (length (pieces f (first + gap))) (pieces f (first + gap))
    (omega arith) in
    ap (pieces g) e ∙ (front ∙ sym (ap (λ (m : ℕ). splice (pieces f m) (length (pieces f first)) (length (pieces f (first + gap))) []) d
    ∙ ((λ j. take_pieces f first gap j ++ none j) ∙ append-nil (pieces f first))))
pieces_cut f g first gap (suc n) before behind =
    let e : first + suc n ≡ suc (first + n) = omega arith in
    let d : first + suc n + gap ≡ suc (first + n + gap) = omega arith in
    let front = pieces_cut f g first gap n before (λ i a b. behind i a (omega arith)) in
    let last : g (first + n) ≡ f (first + n + gap) = behind (first + n) (omega arith) (omega arith) in
    let a = fewer_pieces f first (first + n + gap) (omega arith) in
    let b = fewer_pieces f (first + gap) (first + n + gap) (omega arith) in
    let one = take-append-le (length (pieces f first)) (pieces f (first + n + gap)) (f (first + n + gap)) a in
    let two = drop-append-le (length (pieces f (first + gap))) (pieces f (first + n + gap)) (f (first + n + gap)) b in
    ap (pieces g) e ∙ ((λ j. front j ++ last j) ∙ sym (ap (λ (m : ℕ). splice (pieces f m) (length (pieces f first)) (length (pieces f (first + gap))) []) d
    ∙ rw (one, two) (simp append_assoc)))

-- what stands once blocks have gone
pub record IsTakenOut (nb : ℕ) (one two : List ℕ) (first gap n : ℕ) : Type 0 where
  pub laid : IsLaidOut nb two
  pub long : length two ≡ length one
  pub before : blocks_of nb one ≡ first + n + gap
  pub count : blocks_of nb two ≡ first + n
  pub region : (s : ℕ) → nb ≤ s → s < 128 * nb → slice_index two s ≡ slice_index one s
  pub heads : (k : ℕ) → k < first → slice_index two k ≡ slice_index one k
  pub later_heads : (k : ℕ) → first ≤ k → k < first + n → slice_index two k ≡ slice_index one (k + gap)
  pub told : (k : ℕ) → k < first → slice_index two (128 * nb + 1 + k) ≡ slice_index one (128 * nb + 1 + k)
  pub later : (k : ℕ) → first ≤ k → k < first + n → slice_index two (128 * nb + 1 + k) ≡ slice_index one (128 * nb + 1 + (k + gap))

module _ {nb : ℕ} {one two : List ℕ} {first gap n : ℕ} (laid : IsLaidOut nb one) (out : IsTakenOut nb one two first gap n) where
  -- blocks with the same body word and the same head are the same
  moved_block : (k l : ℕ) → k < nb → slice_index two (128 * nb + 1 + l) ≡ slice_index one (128 * nb + 1 + k)
      → slice_index two l ≡ slice_index one k → block nb two l ≡ block nb one k
  moved_block k l lt word head =
      let b = laid.bodies k lt in
      same_block nb one two k l (omega arith) out.long word head (λ m lm. out.region (body_at nb one k + m) (omega arith) (omega arith))

  -- the rows of the blocks that went are gone
  pub rows_taken : rows_in nb two ≡ splice (rows_in nb one) (count_to nb one first) (count_to nb one (first + gap)) []
  rows_taken =
      let from = count_is first laid (omega arith) in
      let until = count_is (first + gap) laid (omega arith) in
      ap (pieces (block nb two)) out.count ∙ (pieces_cut (block nb one) (block nb two) first gap n
      (λ i l. moved_block i i (omega arith) (out.told i l) (out.heads i l))
      (λ i a b. moved_block (i + gap) i (omega arith) (out.later i a b) (out.later_heads i a b))
      ∙ (λ j. splice (pieces (block nb one) (sym out.before j)) (from j) (until j) []))

-- the stores of a removal, one after another
module _ {nb : ℕ} {one heads told two : List ℕ} {first end count : ℕ} (laid : IsLaidOut nb one) (some : first < end)
    (there : end ≤ blocks_of nb one) (left : 0 < first) (count_told : count ≡ blocks_of nb one)
    (c : IsCopied one heads end first (count - end)) (r : IsRotated nb heads told first (end - first) (count - end))
    (bodies : AreBodies nb told) (stored : two ≡ slice_set told (128 * nb) (count - (end - first))) where
  other : (s : ℕ) → s ≢ 128 * nb → slice_index two s ≡ slice_index told s
  other s differ = ap (λ (l : List ℕ). slice_index l s) stored ∙ get_or-set_other told (128 * nb) s (count - (end - first)) 0 differ

  long_told : length told ≡ length one
  long_told = r.long ∙ c.long

  long_two : length two ≡ length one
  long_two = ap length stored ∙ (length-set told (128 * nb) (count - (end - first)) ∙ long_told)

  here : slice_index two (128 * nb) ≡ count - (end - first)
  here = let l = long_told in ap (λ (l : List ℕ). slice_index l (128 * nb)) stored ∙ get_or-set_same told (128 * nb) (count - (end - first)) 0 (omega arith)

  past : (s : ℕ) → count ≤ s → s < 128 * nb + 1 + first → s ≢ 128 * nb → slice_index two s ≡ slice_index one s
  past s le lt d = other s d ∙ (r.below s lt ∙ c.above s (omega arith))

  laid_out : IsLaidOut nb two
  laid_out =
      let stays : (k : ℕ) → body_of nb two k ≡ body_of nb told k = λ (k : ℕ). ap (λ (x : ℕ). x / 128 % 2048) (other (128 * nb + 1 + k) (λ e. omega arith)) in
      grind (arith, long_two, here, bodies.there, bodies.apart)

  -- what they come to
  pub is_out : IsTakenOut nb one two first (end - first) (count - end)
  is_out =
      let h = here in
      record {
        laid = laid_out;
        long = long_two;
        before = omega arith;
        count = omega arith;
        region = λ s le lt. past s (omega arith) (omega arith) (λ e. omega arith);
        heads = λ k lt. other k (λ e. omega arith) ∙ (r.below k (omega arith) ∙ c.below k lt);
        later_heads = λ k le lt.
            let e : first + (k - first) ≡ k = omega arith in
            let f : end + (k - first) ≡ k + (end - first) = omega arith in
            other k (λ e. omega arith)
            ∙ (r.below k (omega arith) ∙ (ap (slice_index heads) (sym e) ∙ (c.copied (k - first) (omega arith) ∙ ap (slice_index one) f)));
        told = λ k lt. past (128 * nb + 1 + k) (omega arith) (omega arith) (λ e. omega arith);
        later = λ k le lt. other (128 * nb + 1 + k) (λ e. omega arith) ∙ (r.moved k le lt ∙ c.above (128 * nb + 1 + (k + (end - first))) (omega arith));
      }
