-- Words that move, one step at a time.
use Rattle.std.proofs.Common.{◌≡◌, ◌≢◌, ℕ, suc, ◌+◌, ◌-◌, ◌*◌, ◌<◌, ◌≤◌, ◌⊎◌, List, [], ◌∷◌, length, get_or, take, drop}
use Rattle.std.proofs.Common.{sym, refl, ap, ◌∙◌, subst, arith, inl, inr}
use Rattle.std.proofs.lemmas.Bool.{cases_lt}
use Rattle.std.proofs.lemmas.List.{length-set, get_or-set_same, get_or-set_other, drop_more}
use Rattle.std.specs.Prelude.{slice_index, slice_set}
use Rattle.std.specs.List.{insert, splice}
use Rattle.row_blocks.specs.declared.words.Loads.{Ghosts}
use Rattle.row_blocks.specs.Moves.{IsPushed, IsPushing, IsCopied, IsPutIn, IsCutOut}
use Rattle.row_blocks.proofs.Steps.{HasStepped, steps_none, steps_more}
use Rattle.row_blocks.proofs.Puts.{same_runs, body_spliced, cut_head}

-- nothing has moved yet
pub pushes_none : {one : List ℕ} {at word : ℕ} → IsPushing one one at at word word
pushes_none = grind arith

-- one word more has moved up
pub pushes_on : {one two three : List ℕ} {at to word carried stood : ℕ} → at ≤ to → to < length one → IsPushing one two at to word carried
    → stood ≡ slice_index two to → three ≡ slice_set two to carried → IsPushing one three at (to + 1) word stood
pushes_on {one} {two} {three} {at} {to} {carried} ordered wide p stands laid =
    let here : slice_index three to ≡ carried = ap (λ (l : List ℕ). slice_index l to) laid ∙ get_or-set_same two to carried 0 (omega arith) in
    let stays : (s : ℕ) → s ≢ to → slice_index three s ≡ slice_index two s =
    λ (s : ℕ) (d : s ≢ to). ap (λ (l : List ℕ). slice_index l s) laid ∙ get_or-set_other two to s carried 0 d in
    let back : to + 1 - 1 ≡ to = omega arith in
    record {
      long = ap length laid ∙ (length-set two to carried ∙ p.long);
      below = λ s lt. stays s (λ e. omega arith) ∙ p.below s lt;
      here = λ l. elim (cases_lt at to) [
        | inl less ↦ stays at (λ e. omega arith) ∙ p.here less
        | inr ge ↦ let e : at ≡ to = omega arith in ap (slice_index three) e ∙ (here ∙ p.first (omega arith))
      ];
      moved = λ s le lt. elim (cases_lt (s + 1) to) [
        | inl less ↦ stays (s + 1) (λ e. omega arith) ∙ p.moved s le less
        | inr ge ↦ let e : s + 1 ≡ to = omega arith in
            let b : to - 1 ≡ s = omega arith in ap (slice_index three) e ∙ (here ∙ (p.next (omega arith) ∙ ap (slice_index one) b))
      ];
      above = λ s le. stays s (λ e. omega arith) ∙ p.above s (omega arith);
      first = λ e. absurd (omega arith);
      next = λ l. stands ∙ (p.above to (omega arith) ∙ ap (slice_index one) (sym back));
    }

-- and the one that is carried is laid
pub pushes_end : {one two three : List ℕ} {at to end word carried : ℕ} → at ≤ end → end < length one → to ≡ end → IsPushing one two at to word carried
    → three ≡ slice_set two end carried → IsPushed one three at end word
pushes_end {one} {two} {three} {at} {to} {end} {word} {carried} ordered wide is p laid =
    let all : IsPushing one two at end word carried = subst (λ (n : ℕ). IsPushing one two at n word carried) is p in
    let q = pushes_on ordered wide all refl laid in grind arith

-- a word was laid at a place, by at most two steps, and another one stood there
pub record IsExchanged {Words Hand : Type 0} (L : Ghosts Words Hand) (ws : Words) (two three : Hand) (place word was : ℕ) : Type 0 where
  pub stood : was ≡ slice_index (L.words ws two) place
  pub words : L.words ws three ≡ slice_set (L.words ws two) place word
  pub may : L.may_store ws three
  pub rows : (w : ℕ) → L.is_row ws two w → L.is_row ws three w
  pub kept : L.kept ws two three
  pub steps : L.steps ws three ≤ L.steps ws two + 2

-- words have moved up to a place, by at most two steps each
pub record HasPushed {Words Hand : Type 0} (L : Ghosts Words Hand) (ws : Words) (one two : Hand) (from to word carried : ℕ) : Type 0 where
  pub pushing : IsPushing (L.words ws one) (L.words ws two) from to word carried
  pub stepped : HasStepped L ws one two
  pub steps : L.steps ws two + 2 * from ≤ L.steps ws one + 2 * to

module _ {Words Hand : Type 0} where
  -- none has yet
  pub pushed_none : (L : Ghosts Words Hand) (ws : Words) (hand : Hand) (from word : ℕ) → L.may_store ws hand → HasPushed L ws hand hand from from word word
  pushed_none L ws hand from word may = record { pushing = pushes_none; stepped = steps_none L ws hand may; steps = omega arith }

  -- one more has
  pub pushed_on : {L : Ghosts Words Hand} {ws : Words} {one two three : Hand} {from to word carried stood : ℕ} → from ≤ to → to < length (L.words ws one)
      → HasPushed L ws one two from to word carried → IsExchanged L ws two three to carried stood → HasPushed L ws one three from (to + 1) word stood
  pushed_on {three = three} ordered wide p e = record {
    pushing = pushes_on ordered wide p.pushing e.stood e.words;
    stepped = steps_more three p.stepped e.may e.rows e.kept;
    steps = let a = p.steps in let b = e.steps in omega arith;
  }

-- nothing is copied yet
pub copies_none : {one : List ℕ} {from to : ℕ} → IsCopied one one from to 0
copies_none = grind arith

-- what is copied next stands as it stood
pub copy_source : {one two : List ℕ} {from to : ℕ} (count : ℕ) {k : ℕ} → k < count → (to ≤ from) ⊎ (from + count ≤ to) → IsCopied one two from to k
    → slice_index two (from + k) ≡ slice_index one (from + k)
copy_source {from} count {k} lt apart p = grind (arith, p.above (from + k), p.below (from + k))

-- one word more is copied
pub copies_on : {one two three : List ℕ} {from to : ℕ} (count : ℕ) {k row : ℕ} → k < count → to + count ≤ length one → (to ≤ from) ⊎ (from + count ≤ to)
    → IsCopied one two from to k → row ≡ slice_index two (from + k) → three ≡ slice_set two (to + k) row → IsCopied one three from to (k + 1)
copies_on {one} {two} {three} {from} {to} count {k} {row} lt wide apart p read laid =
    let here : slice_index three (to + k) ≡ row = ap (λ (l : List ℕ). slice_index l (to + k)) laid ∙ get_or-set_same two (to + k) row 0 (omega arith) in
    let stays : (s : ℕ) → s ≢ to + k → slice_index three s ≡ slice_index two s =
    λ (s : ℕ) (d : s ≢ to + k). ap (λ (l : List ℕ). slice_index l s) laid ∙ get_or-set_other two (to + k) s row 0 d in
    record {
      long = ap length laid ∙ (length-set two (to + k) row ∙ p.long);
      copied = λ m less. elim (cases_lt m k) [
        | inl before ↦ stays (to + m) (λ e. omega arith) ∙ p.copied m before
        | inr ge ↦ let e : m ≡ k = omega arith in
            subst (λ (n : ℕ). slice_index three (to + n) ≡ slice_index one (from + n)) (sym e) (here ∙ (read ∙ copy_source count lt apart p))
      ];
      below = λ s less. stays s (λ e. omega arith) ∙ p.below s less;
      above = λ s le. stays s (λ e. omega arith) ∙ p.above s (omega arith);
    }

-- the rows of a body, once those from one on have moved up and another one stands there
body_put : (old new : List ℕ) (at n p : ℕ) {w : ℕ} → p ≤ n → at + n < length old → length new ≡ length old
    → ((s : ℕ) → s < at + p → get_or new s 0 ≡ get_or old s 0) → get_or new (at + p) 0 ≡ w
    → ((s : ℕ) → at + p ≤ s → s < at + n → get_or new (s + 1) 0 ≡ get_or old s 0) → take (n + 1) (drop at new) ≡ insert (take n (drop at old)) p w
body_put old new at n p {w} there wide long below here moved =
    let all : p + (1 + (n - p)) ≡ n + 1 = omega arith in
    let was : p + (n - p) ≡ n = omega arith in
    coe 0 1 (j. take (all j) (drop at new) ≡ insert (take (was j) (drop at old)) p w) (body_spliced old new (w ∷ []) at p p (n - p) (omega arith)
    (omega arith) (omega arith) (λ k lt. below (at + k) (omega arith)) (ap (take 1) (drop_more new (at + p) 0 (omega arith)) ∙ ap (λ (x : ℕ). x ∷ []) here)
    (λ k lt. let e : at + p + 1 + k ≡ at + p + k + 1 = omega arith in ap (slice_index new) e ∙ moved (at + p + k) (omega arith) (omega arith)))

-- a row comes behind the head of a block
pub put_behind : {one two : List ℕ} {head at n place word : ℕ} → 0 < place → place ≤ n + 1 → head < at → at + n < length one
    → IsPushed one two (at + (place - 1)) (at + n) word → IsPutIn one two head at n place word
put_behind {one} {two} {head} {at} {n} {place} {word} some within low wide p =
    let up : suc (place - 1) ≡ place = omega arith in
    let first : slice_index two head ≡ slice_index one head = p.below head (omega arith) in
    let put = body_put one two at n (place - 1) (omega arith) wide p.long p.below p.here p.moved in
    record {
      long = p.long;
      put = coe 0 1 (j. slice_index two head ∷ take (n + 1) (drop at two) ≡ insert (slice_index one head ∷ take n (drop at one)) (up j) word)
          (λ j. first j ∷ put j);
      below = λ s differ lt. p.below s (omega arith);
      above = λ s lt. p.above s lt;
    }

-- or takes its place, and the head goes to the front of the body
pub put_front : {one mid two : List ℕ} {head at n word first : ℕ} → head < at → at + n < length one → first ≡ slice_index one head
    → mid ≡ slice_set one head word → IsPushed mid two at (at + n) first → IsPutIn one two head at n 0 word
put_front {one} {mid} {two} {head} {at} {n} {word} {first} low wide was laid p =
    let long_mid : length mid ≡ length one = ap length laid ∙ length-set one head word in
    let stays : (s : ℕ) → s ≢ head → slice_index mid s ≡ slice_index one s =
    λ (s : ℕ) (d : s ≢ head). ap (λ (l : List ℕ). slice_index l s) laid ∙ get_or-set_other one head s word 0 d in
    let here : slice_index two head ≡ word =
    p.below head (omega arith) ∙ (ap (λ (l : List ℕ). slice_index l head) laid ∙ get_or-set_same one head word 0 (omega arith)) in
    let at_is : at + 0 ≡ at = omega arith in
    let put = body_put mid two at n 0 (omega arith) (omega arith) p.long (λ s lt. p.below s (omega arith)) (ap (slice_index two) at_is ∙ p.here)
    (λ s le lt. p.moved s (omega arith) lt) in
    let rest = same_runs mid one at at n (omega arith) (omega arith) (λ k lt. stays (at + k) (λ e. omega arith)) in
    record {
      long = p.long ∙ long_mid;
      put = (λ j. here j ∷ put j) ∙ (λ j. word ∷ (was j ∷ rest j));
      below = λ s differ lt. p.below s (omega arith) ∙ stays s differ;
      above = λ s lt. p.above s lt ∙ stays s (λ e. omega arith);
    }

-- rows behind the head go
pub cut_behind : {one two : List ℕ} {head at n from until : ℕ} → 0 < from → from < until → until ≤ n + 1 → head < at → at + n ≤ length one
    → IsCopied one two (at + (until - 1)) (at + (from - 1)) (n - (until - 1)) → IsCutOut one two head at n from until
cut_behind {one} {two} {head} {at} {n} {from} {until} some ordered within low wide p =
    let up : suc (from - 1) ≡ from = omega arith in
    let over : suc (until - 1) ≡ until = omega arith in
    let left : from - 1 + (0 + (n - (until - 1))) ≡ n - (until - from) = omega arith in
    let all : until - 1 + (n - (until - 1)) ≡ n = omega arith in
    let long = p.long in
    let first : slice_index two head ≡ slice_index one head = p.below head (omega arith) in
    let cut = body_spliced one two [] at (from - 1) (until - 1) (n - (until - 1)) (omega arith) (omega arith) (omega arith)
    (λ k lt. p.below (at + k) (omega arith)) refl
    (λ k lt. let e : at + (from - 1) + 0 + k ≡ at + (from - 1) + k = omega arith in ap (slice_index two) e ∙ p.copied k lt) in
    record {
      long = p.long;
      cut = coe 0 1 (j. slice_index two head ∷ take (left j) (drop at two) ≡ splice (slice_index one head ∷ take (all j) (drop at one)) (up j) (over j) [])
          (λ j. first j ∷ cut j);
      below = λ s differ lt. p.below s (omega arith);
      above = λ s le. p.above s (omega arith);
    }

-- or the head goes, and the first row of the body that stays takes its place
pub cut_front : {one mid two : List ℕ} {head at n until first : ℕ} → 0 < until → until ≤ n → head < at → at + n ≤ length one
    → first ≡ slice_index one (at + (until - 1)) → IsCopied one mid (at + until) at (n - until) → two ≡ slice_set mid head first
    → IsCutOut one two head at n 0 until
cut_front {one} {mid} {two} {head} {at} {n} {until} {first} some within low wide was p laid =
    let long_two : length two ≡ length mid = ap length laid ∙ length-set mid head first in
    let stays : (s : ℕ) → s ≢ head → slice_index two s ≡ slice_index mid s =
    λ (s : ℕ) (d : s ≢ head). ap (λ (l : List ℕ). slice_index l s) laid ∙ get_or-set_other mid head s first 0 d in
    let here : slice_index two head ≡ first = ap (λ (l : List ℕ). slice_index l head) laid ∙ get_or-set_same mid head first 0 (omega arith) in
    let left : 0 + (0 + (n - until)) ≡ n - (until - 0) = omega arith in
    let all : until + (n - until) ≡ n = omega arith in
    let gone = body_spliced one mid [] at 0 until (n - until) (omega arith) (omega arith) (omega arith) (λ k lt. absurd (omega arith)) refl
    (λ k lt. let e : at + 0 + 0 + k ≡ at + k = omega arith in ap (slice_index mid) e ∙ p.copied k lt) in
    let rest = same_runs two mid at at (n - (until - 0)) (omega arith) (omega arith) (λ k lt. stays (at + k) (λ e. omega arith)) in
    let back = here ∙ was in
    let cut = rest ∙ coe 0 1 (j. take (left j) (drop at mid) ≡ splice (take (all j) (drop at one)) 0 until []) gone in
    record {
      long = long_two ∙ p.long;
      cut = (λ j. back j ∷ cut j) ∙ cut_head one at n (slice_index one head) until some within wide;
      below = λ s differ lt. stays s differ ∙ p.below s lt;
      above = λ s le. stays s (λ e. omega arith) ∙ p.above s (omega arith);
    }
