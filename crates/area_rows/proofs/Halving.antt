-- A search by halving comes to the row of a held page, from what its loads tell: on which side of the page a row
-- starts, and that each row stays on its side.
use Rattle.std.proofs.Common.{◌≡◌, ℕ, zero, suc, ◌+◌, ◌-◌, ◌*◌, ◌/◌, ◌^◌, ◌<◌, ◌≤◌, List, ◌∷◌, ◌∙◌, sym, refl, subst, arith, ◌⊎◌, inl, inr, ⊎_elim}
use Rattle.std.proofs.Math.Nat.{pow-suc}
use Rattle.std.proofs.lemmas.Bool.{cases_lt}
use Rattle.area_guard.specs.declared.guard.ReadRow.{ReadRow}
use Rattle.area_guard.specs.Reads.{HasRead}
use Rattle.row_plans.specs.RowWords.{row_start}
use Rattle.area_rows.specs.Halving.{IsOnSameSide, StartsBehind, IsAmong}

-- among all rows that there are
pub all_rows : (rows : List ReadRow) (page count last : ℕ) (at : ℕ → ℕ) (word : ℕ) → 0 < count → IsAmong rows page count last at 0 count word last
all_rows rows page count last at word some_rows = record {
  some = some_rows;
  there = omega arith;
  from = inl refl;
  behind = (count, omega arith, omega arith, omega arith, inl (refl, refl));
}

-- a row that was read behind the page isn't found before it
not_behind : (rows : List ReadRow) (page count last : ℕ) (at : ℕ → ℕ) (index word end : ℕ) → index < count → IsOnSameSide rows (at index) word page
    → row_start word ≤ page → StartsBehind rows page count last at index end → ⊥
not_behind rows page count last at index word end there side low behind = ⊎_elim (λ none. absurd (let e = none.0 in omega arith))
    (λ t. let back : row_start t.0 ≤ page = (side t.0 t.1).1 low in let over = t.2 in absurd (omega arith)) behind

-- what was read stays so while more is read
pub behind_on : (rows : List ReadRow) (read : ReadRow) (page count last : ℕ) (at : ℕ → ℕ) (place end : ℕ)
    → StartsBehind rows page count last at place end → StartsBehind (read ∷ rows) page count last at place end
behind_on rows read page count last at place end behind = ⊎_elim (λ none. inl none) (λ t. inr (t.0, inr t.1, t.2, t.3, t.4)) behind

module _ (rows : List ReadRow) (page count last : ℕ) (at : ℕ → ℕ) (base size half word end read : ℕ)
    (among : IsAmong rows page count last at base size word end)
    (some_half : 0 < half) (two : half + half ≤ size) (odd : size ≤ half + half + 1) where
  -- the middle row starts at or before the page
  pub upper : IsOnSameSide rows (at (base + half)) read page → row_start read ≤ page
      → IsAmong (record { index = at (base + half); word = read } ∷ rows) page count last at (base + half) (size - half) read end
  upper side low =
      let next = among.behind.0 in let above = among.behind.1 in let within = among.behind.2 in let near = among.behind.3 in let there = among.there in
      let after : base + half < next = elim (cases_lt (base + half) next) [
        | inl lt ↦ lt
        | inr ge ↦ let here : next ≡ base + half = omega arith in
            absurd (not_behind rows page count last at (base + half) read end (omega arith) side low
            (subst (λ (n : ℕ). StartsBehind rows page count last at n end) here among.behind.4))
      ] in
      record {
        some = omega arith;
        there = omega arith;
        from = inr (inl (refl, refl), low);
        behind = (
          next,
          after,
          omega arith,
          omega arith,
          behind_on rows (record { index = at (base + half); word = read }) page count last at next end among.behind.4,
        );
      }

  -- the middle row starts behind it
  pub lower : page < row_start read
      → IsAmong (record { index = at (base + half); word = read } ∷ rows) page count last at base (size - half) word (row_start read)
  lower over =
      let there = among.there in
      record {
        some = omega arith;
        there = omega arith;
        from = ⊎_elim (λ first. inl first) (λ t. inr (inr t.0, t.1)) among.from;
        behind = (base + half, omega arith, omega arith, omega arith, inr (read, inl (refl, refl), over, refl, omega arith));
      }

-- one step of the search
pub narrowed : (rows : List ReadRow) (page count last : ℕ) (at : ℕ → ℕ) (base size word end read start next kept stop : ℕ)
    → IsAmong rows page count last at base size word end → 1 < size → IsOnSameSide rows (at (base + size / 2)) read page → start ≡ row_start read
    → (start ≤ page → (next ≡ base + size / 2) × (kept ≡ read) × (stop ≡ end)) → (page < start → (next ≡ base) × (kept ≡ word) × (stop ≡ start))
    → IsAmong (record { index = at (base + size / 2); word = read } ∷ rows) page count last at next (size - size / 2) kept stop
narrowed rows page count last at base size word end read start next kept stop among more side is up down =
    let after : List ReadRow = record { index = at (base + size / 2); word = read } ∷ rows in
    elim (cases_lt page start) [
      | inl lt ↦
          let d = down lt in
          let ends : stop ≡ row_start read = d.2 ∙ is in
          subst (λ (z : ℕ × ℕ × ℕ). IsAmong after page count last at z.0 (size - size / 2) z.1 z.2) (λ i. (sym d.0 i, sym d.1 i, sym ends i))
          (lower rows page count last at base size (size / 2) word end read among (omega arith) (omega arith) (omega arith) (omega arith))
      | inr ge ↦
          let u = up ge in
          subst (λ (z : ℕ × ℕ × ℕ). IsAmong after page count last at z.0 (size - size / 2) z.1 z.2) (λ i. (sym u.0 i, sym u.1 i, sym u.2 i))
          (upper rows page count last at base size (size / 2) word end read among (omega arith) (omega arith) (omega arith) side (omega arith))
    ]

-- and it leaves at most half of the rows, rounded up
pub halved : (size k : ℕ) → 1 < size → size ≤ 2 ^ k → (m : ℕ) × (k ≡ m + 1) × (size - size / 2 ≤ 2 ^ m)
halved size zero more few = absurd (omega arith)
halved size (suc m) more few = let p : 2 ^ suc m ≡ 2 ^ m * 2 = pow-suc 2 m in (m, omega arith, omega arith)

-- one row is left, and its word was read: it starts at or before the page
pub found_word : (rows : List ReadRow) (page count last : ℕ) (at : ℕ → ℕ) (place word end : ℕ) → IsAmong rows page count last at place 1 word end
    → 0 < place → HasRead rows (at place) word × (row_start word ≤ page)
found_word rows page count last at place word end among some_before = ⊎_elim (λ none. absurd (omega arith)) (λ t. t) among.from

-- the page comes before the end, where it comes before what is behind all
pub found_until : (rows : List ReadRow) (page count last : ℕ) (at : ℕ → ℕ) (place word end : ℕ) → IsAmong rows page count last at place 1 word end
    → page < last → page < end
found_until rows page count last at place word end among until =
    ⊎_elim (λ none. let e = none.1 in omega arith) (λ t. let over = t.2 in let e = t.3 in omega arith) among.behind.4

-- and the end is where the row at the next place starts, or what is behind all
pub found_end : (rows : List ReadRow) (page count last : ℕ) (at : ℕ → ℕ) (place word end : ℕ) → IsAmong rows page count last at place 1 word end
    → ((place + 1 ≡ count) × (end ≡ last)) ⊎ ((next : ℕ) × HasRead rows (at (place + 1)) next × (end ≡ row_start next) × (place + 1 < count))
found_end rows page count last at place word end among =
    let above = among.behind.1 in let within = among.behind.2 in
    let here : among.behind.0 ≡ place + 1 = omega arith in
    ⊎_elim (λ none. inl (sym here ∙ none.0, none.1))
    (λ t. inr (t.0, subst (λ (n : ℕ). HasRead rows (at n) t.0) here t.1, t.3, subst (λ (n : ℕ). n < count) here t.4)) among.behind.4
