-- What stands after words have moved: each word by its place. These are the contracts of the private functions that
-- move them, as records, so that a proof can hand them on as one.
use Rattle.std.specs.Prelude.{ℕ, ◌≡◌, ◌≢◌, ◌<◌, ◌≤◌, ◌+◌, ◌-◌, ◌*◌, List, [], ◌∷◌, length, take, drop, slice_index}
use Rattle.std.specs.List.{insert, splice}

-- a word is laid at a place, and those from there on have moved up by one, up to another place
pub record IsPushed (one two : List ℕ) (at end word : ℕ) : Type 0 where
  pub long : length two ≡ length one
  pub below : (s : ℕ) → s < at → slice_index two s ≡ slice_index one s
  pub here : slice_index two at ≡ word
  pub moved : (s : ℕ) → at ≤ s → s < end → slice_index two (s + 1) ≡ slice_index one s
  pub above : (s : ℕ) → end < s → slice_index two s ≡ slice_index one s

-- the same half way: the words before a place have moved, and one is carried
pub record IsPushing (one two : List ℕ) (at to word carried : ℕ) : Type 0 where
  pub long : length two ≡ length one
  pub below : (s : ℕ) → s < at → slice_index two s ≡ slice_index one s
  pub here : at < to → slice_index two at ≡ word
  pub moved : (s : ℕ) → at ≤ s → s + 1 < to → slice_index two (s + 1) ≡ slice_index one s
  pub above : (s : ℕ) → to ≤ s → slice_index two s ≡ slice_index one s
  pub first : to ≡ at → carried ≡ word
  pub next : at < to → carried ≡ slice_index one (to - 1)

-- so many words stand at other places too
pub record IsCopied (one two : List ℕ) (from to count : ℕ) : Type 0 where
  pub long : length two ≡ length one
  pub copied : (m : ℕ) → m < count → slice_index two (to + m) ≡ slice_index one (from + m)
  pub below : (s : ℕ) → s < to → slice_index two s ≡ slice_index one s
  pub above : (s : ℕ) → to + count ≤ s → slice_index two s ≡ slice_index one s

-- a block, whose first row stands elsewhere, has one row more
pub record IsPutIn (one two : List ℕ) (head at count place word : ℕ) : Type 0 where
  pub long : length two ≡ length one
  pub put : slice_index two head ∷ take (count + 1) (drop at two) ≡ insert (slice_index one head ∷ take count (drop at one)) place word
  pub below : (s : ℕ) → s ≢ head → s < at → slice_index two s ≡ slice_index one s
  pub above : (s : ℕ) → at + count < s → slice_index two s ≡ slice_index one s

-- or has fewer
pub record IsCutOut (one two : List ℕ) (head at count from until : ℕ) : Type 0 where
  pub long : length two ≡ length one
  pub cut : slice_index two head ∷ take (count - (until - from)) (drop at two) ≡ splice (slice_index one head ∷ take count (drop at one)) from until []
  pub below : (s : ℕ) → s ≢ head → s < at → slice_index two s ≡ slice_index one s
  pub above : (s : ℕ) → at + count ≤ s → slice_index two s ≡ slice_index one s

-- two words have changed places
pub record IsSwapped (one two : List ℕ) (a b : ℕ) : Type 0 where
  pub long : length two ≡ length one
  pub first : slice_index two a ≡ slice_index one b
  pub second : slice_index two b ≡ slice_index one a
  pub others : (s : ℕ) → s ≢ a → s ≢ b → slice_index two s ≡ slice_index one s

-- so many body words have moved down over a gap, and those behind stand as they stood
pub record IsRotated (nb : ℕ) (one two : List ℕ) (to gap count : ℕ) : Type 0 where
  pub long : length two ≡ length one
  pub moved : (k : ℕ) → to ≤ k → k < to + count → slice_index two (128 * nb + 1 + k) ≡ slice_index one (128 * nb + 1 + (k + gap))
  pub behind : (k : ℕ) → to + count + gap ≤ k → slice_index two (128 * nb + 1 + k) ≡ slice_index one (128 * nb + 1 + k)
  pub below : (s : ℕ) → s < 128 * nb + 1 + to → slice_index two s ≡ slice_index one s
