-- A range has a number in a region exactly where the next block of that region isn't behind its last block. A block is
-- a whole number of rounds and its region; two blocks of one region are a whole number of rounds apart.
use Rattle.std.proofs.Common.{◌≡◌, ◌≢◌, ◌⊎◌, ℕ, suc, ◌+◌, ◌-◌, ◌*◌, ◌/◌, ◌%◌, ◌^◌, ◌<◌, ◌≤◌, Bool, true, false, inl, inr, ⊎_elim}
use Rattle.std.proofs.Common.{refl, sym, ap, ◌∙◌, subst, arith, mul-le-mul_right, suc-mul, eqb-true}
use Rattle.std.specs.Prelude.{◌==◌, if◌then◌else◌, nat_le, IsTrue}
use Rattle.std.proofs.lemmas.Bool.{leb-true, le-leb}
use Rattle.std.proofs.Math.Nat.{mod-lt, div-add-mod', div-mul-le_self, le-div_iff_mul-le, le_trans, mul-div_cancel, lt-div-mul-add}
use Rattle.std.proofs.lemmas.Nat.{mod-mul-add, pow_pos}
use mathlib.Core.Logic.{dite}
use native.Mathlib.Decide.{dec_le}
use Rattle.lock_core.specs.Range.{Interval}
use Rattle.list_cuts.specs.Cut.{Regions, first_list, list_of, Takes, TakesOne, TakesTwo, Meets, OverlapsMeet}
use Rattle.list_cuts.specs.Blocks.{IsNextBlock}

further : (x y n : ℕ) → x < y → x * n + n ≤ y * n
further x y n h = let a : suc x * n ≤ y * n = mul-le-mul_right n h in omega (arith, suc-mul x n)

-- two whole numbers of rounds
rounds : (k q r : ℕ) → (q * k ≡ r * k) ⊎ ((q * k + k ≤ r * k) ⊎ (r * k + k ≤ q * k))
rounds k q r = dite (dec_le (suc q) r)
    (λ less. inr (inl (further q r k less)))
    (λ no. dite (dec_le (suc r) q)
    (λ more. inr (inr (further r q k more)))
    (λ neither. let e : q ≡ r = omega arith in inl (ap (λ x. x * k) e)))

-- the remainder of a number that is so many rounds and a region
remains : (k a q region : ℕ) → region < k → a ≡ q * k + region → a % k ≡ region
remains k a q region low e = ap (λ x. x % k) e ∙ mod-mul-add q k region low

-- any block of that region that isn't before the first one is at least so far from it, as plain numbers
ahead_least : (k a b of region first more blocks : ℕ) → of < k → region < k → a + of ≡ first → b + region ≡ first + more
    → ((region < of) × (blocks + of ≡ region + k)) ⊎ ((of ≤ region) × (blocks + of ≡ region))
    → (a ≡ b) ⊎ ((a + k ≤ b) ⊎ (b + k ≤ a)) → blocks ≤ more
ahead_least k a b of region first more blocks low_of low_region at_first at_more is apart = ⊎_elim
    (λ (e : a ≡ b). ⊎_elim
    (λ (p : (region < of) × (blocks + of ≡ region + k)). let x = p.0 in let y = p.1 in omega arith)
    (λ (p : (of ≤ region) × (blocks + of ≡ region)). let x = p.0 in let y = p.1 in omega arith) is)
    (λ (d : (a + k ≤ b) ⊎ (b + k ≤ a)). ⊎_elim
    (λ (e : a + k ≤ b). ⊎_elim
    (λ (p : (region < of) × (blocks + of ≡ region + k)). let x = p.0 in let y = p.1 in omega arith)
    (λ (p : (of ≤ region) × (blocks + of ≡ region)). let x = p.0 in let y = p.1 in omega arith) is)
    (λ (e : b + k ≤ a). absurd (omega arith)) d)
    apart

-- the block that is so far behind the first one is the next of that region
pub next_block : (k first region blocks : ℕ) → region < k
    → ((region < first % k) × (blocks + first % k ≡ region + k)) ⊎ ((first % k ≤ region) × (blocks + first % k ≡ region))
    → IsNextBlock k first region blocks
next_block k first region blocks low is =
    let some : 0 < k = omega arith in
    let of_low : first % k < k = mod-lt first some in
    let at : first / k * k + first % k ≡ first = div-add-mod' first k in
    record {
      is = ⊎_elim
          (λ (p : (region < first % k) × (blocks + first % k ≡ region + k)).
          let next : suc (first / k) * k ≡ first / k * k + k = suc-mul (first / k) k in
          let e : first + blocks ≡ suc (first / k) * k + region = (let y = p.1 in omega arith) in
          remains k (first + blocks) (suc (first / k)) region low e)
          (λ (p : (first % k ≤ region) × (blocks + first % k ≡ region)).
          let e : first + blocks ≡ first / k * k + region = (let y = p.1 in omega arith) in
          remains k (first + blocks) (first / k) region low e)
          is;
      least = λ more e.
          let back : (first + more) / k * k + (first + more) % k ≡ first + more = div-add-mod' (first + more) k in
          let back_to : (first + more) / k * k + region ≡ first + more = ap (λ r. (first + more) / k * k + r) (sym e) ∙ back in
          ahead_least k (first / k * k) ((first + more) / k * k) (first % k) region first more blocks of_low low at back_to is
          (rounds k (first / k) ((first + more) / k));
    }

-- blocks are in the order of their numbers
mono : (s a c : ℕ) → 0 < s → a ≤ c → a / s ≤ c / s
mono s a c some le = (le-div_iff_mul-le some).1 (le_trans (div-mul-le_self a s) le)

-- of the numbers from lo on and below hi one is in each block from the first to the last
number_in : (s lo hi block : ℕ) → 0 < s → lo < hi → lo / s ≤ block → block ≤ (hi - 1) / s → (n : ℕ) × (lo ≤ n) × (n < hi) × (n / s ≡ block)
number_in s lo hi block some range low high = dite (dec_le lo (block * s))
    (λ le. let under : block * s ≤ hi - 1 = (le-div_iff_mul-le some).0 high in (block * s, le, omega arith, mul-div_cancel block some))
    (λ no.
    let same : lo / s ≡ block = dite (dec_le (suc (lo / s)) block)
    (λ less.
    let more : lo / s * s + s ≤ block * s = further (lo / s) block s less in
    let below : lo < lo / s * s + s = lt-div-mul-add some in absurd (omega arith))
    (λ neither. omega arith) in
    (lo, omega arith, range, same))

-- a range has a number in a region exactly where the next block of that region isn't behind its last block
pub takes_next : (c : Regions) (range : Interval) (list region blocks : ℕ) → 0 < c.count → range.lo < range.hi → list ≡ first_list c + region
    → IsNextBlock c.count (range.lo / 2 ^ c.bits) region blocks → blocks ≤ (range.hi - 1) / 2 ^ c.bits - range.lo / 2 ^ c.bits → Takes c range list
takes_next c range list region blocks more some is next le =
    let size : 0 < 2 ^ c.bits = pow_pos c.bits in
    let up : range.lo / 2 ^ c.bits ≤ (range.hi - 1) / 2 ^ c.bits = mono (2 ^ c.bits) range.lo (range.hi - 1) size (omega arith) in
    let t = number_in (2 ^ c.bits) range.lo range.hi (range.lo / 2 ^ c.bits + blocks) size some (omega arith) (omega arith) in
    record {
      number = t.0;
      low = t.1;
      high = t.2;
      is = ap (λ b. first_list c + b % c.count) t.3 ∙ (ap (λ r. first_list c + r) next.is ∙ sym is);
    }

pub next_of_taken : (c : Regions) (range : Interval) (list region blocks : ℕ) → list ≡ first_list c + region
    → IsNextBlock c.count (range.lo / 2 ^ c.bits) region blocks → Takes c range list → blocks ≤ (range.hi - 1) / 2 ^ c.bits - range.lo / 2 ^ c.bits
next_of_taken c range list region blocks is next t =
    let size : 0 < 2 ^ c.bits = pow_pos c.bits in
    let low : range.lo / 2 ^ c.bits ≤ t.number / 2 ^ c.bits = mono (2 ^ c.bits) range.lo t.number size t.low in
    let below = t.high in
    let high : t.number / 2 ^ c.bits ≤ (range.hi - 1) / 2 ^ c.bits = mono (2 ^ c.bits) t.number (range.hi - 1) size (omega arith) in
    let there = t.is in
    let of : t.number / 2 ^ c.bits % c.count ≡ region = omega arith in
    let more : range.lo / 2 ^ c.bits + (t.number / 2 ^ c.bits - range.lo / 2 ^ c.bits) ≡ t.number / 2 ^ c.bits = omega arith in
    let least = next.least (t.number / 2 ^ c.bits - range.lo / 2 ^ c.bits) (ap (λ b. b % c.count) more ∙ of) in
    omega arith

-- the same with the names that the code has
pub takes_exactly : (c : Regions) (range : Interval) (list count before lo first last blocks : ℕ) → count ≡ c.count → before ≡ first_list c → before ≤ list
    → lo ≡ range.lo → first ≡ lo / 2 ^ c.bits → last ≡ (range.hi - 1) / 2 ^ c.bits → 0 < count → range.lo < range.hi
    → IsNextBlock count first (list - before) blocks
    → (IsTrue (nat_le blocks (last - first)) → Takes c range list) × (Takes c range list → IsTrue (nat_le blocks (last - first)))
takes_exactly c range list count before lo first last blocks is at le low first_is last_is more some next =
    let begins : first ≡ range.lo / 2 ^ c.bits = first_is ∙ ap (λ n. n / 2 ^ c.bits) low in
    let next_is : IsNextBlock c.count (range.lo / 2 ^ c.bits) (list - before) blocks =
    subst (λ (z : ℕ × ℕ). IsNextBlock z.0 z.1 (list - before) blocks) (λ i. (is i, begins i)) next in
    let far : last - first ≡ (range.hi - 1) / 2 ^ c.bits - range.lo / 2 ^ c.bits = λ i. last_is i - begins i in
    let region : list ≡ first_list c + (list - before) = omega arith in (
      (λ yes. takes_next c range list (list - before) blocks (omega arith) some region next_is
          (subst (λ n. blocks ≤ n) far (leb-true blocks (last - first) yes))),
      (λ t. le-leb blocks (last - first) (subst (λ n. blocks ≤ n) (sym far) (next_of_taken c range list (list - before) blocks region next_is t))),
    )

-- a range over as many blocks as there are regions takes the list of each, with the names that the code has
pub takes_each : (c : Regions) (range : Interval) (list count before lo first last : ℕ) → count ≡ c.count → before ≡ first_list c → before ≤ list
    → list - before < count → lo ≡ range.lo → first ≡ lo / 2 ^ c.bits → last ≡ (range.hi - 1) / 2 ^ c.bits → range.lo < range.hi
    → count - 1 ≤ last - first → Takes c range list
takes_each c range list count before lo first last is at le there low first_is last_is some far = dite (dec_le (suc (list - before)) (first % count))
    (λ round. with_next (list - before + count - first % count) (omega arith)
    (next_block count first (list - before) (list - before + count - first % count) there (inl (round, omega arith))))
    (λ no. with_next (list - before - first % count) (omega arith)
    (next_block count first (list - before) (list - before - first % count) there (inr (omega arith, omega arith))))
  where
    of_low : first % count < count
    of_low = mod-lt first (omega arith)

    with_next : (blocks : ℕ) → blocks ≤ count - 1 → IsNextBlock count first (list - before) blocks → Takes c range list
    with_next blocks near next = (takes_exactly c range list count before lo first last blocks is at le low first_is last_is (omega arith) some next).0
        (le-leb blocks (last - first) (omega arith))

-- a list that a range takes is there
pub takes_there : (c : Regions) (range : Interval) (list : ℕ) → 0 < c.count → Takes c range list → list < first_list c + c.count
takes_there c range list more t =
    let e = t.is in let less : t.number / 2 ^ c.bits % c.count < c.count = mod-lt (t.number / 2 ^ c.bits) more in omega arith

-- where there are several lists, no number is in list 0
pub takes_behind : (c : Regions) (range : Interval) (list : ℕ) → 0 < c.count → first_list c + c.count ≢ 1 → Takes c range list → 0 < list
takes_behind c range list more many t = by_first (c.count == 1) refl
  where
    by_first : (b : Bool) → (c.count == 1) ≡ b → 0 < list
    by_first true e =
        let one : c.count ≡ 1 = eqb-true c.count 1 e in
        let first : first_list c ≡ 0 = ap (λ (x : Bool). if x then 0 else 1) e in
        absurd (many (omega arith))
    by_first false e =
        let first : first_list c ≡ 1 = ap (λ (x : Bool). if x then 0 else 1) e in
        let is = t.is in omega arith

-- no number is in a list before that of the first region
pub none_before : (c : Regions) (range : Interval) (list : ℕ) → list < first_list c → Takes c range list → ⊥
none_before c range list less t = let e = t.is in omega arith

-- a number of the range has its list among those that the range takes
pub takes_own : (c : Regions) (range : Interval) (n : ℕ) → range.lo ≤ n → n < range.hi → Takes c range (list_of c n)
takes_own c range n low high = record { number = n; low = low; high = high; is = refl }

-- two ranges that overlap have the higher one of their lower ends in common
pub overlaps_meet_law : OverlapsMeet
overlaps_meet_law c a b more range_a range_b both =
    let x = both.0 in let y = both.1 in let p = range_a.0 in let q = range_b.0 in
    dite (dec_le a.lo b.lo)
    (λ le. at b.lo le (omega arith) (omega arith) (omega arith))
    (λ no. at a.lo (omega arith) (omega arith) (omega arith) (omega arith))
  where
    at : (n : ℕ) → a.lo ≤ n → n < a.hi → b.lo ≤ n → n < b.hi → Meets c a b
    at n low_a high_a low_b high_b = record {
      list = list_of c n;
      there = let less : n / 2 ^ c.bits % c.count < c.count = mod-lt (n / 2 ^ c.bits) more in omega arith;
      left = takes_own c a n low_a high_a;
      right = takes_own c b n low_b high_b;
    }

-- a range in one block, or over one region, takes one list alone
pub takes_one : (c : Regions) (range : Interval) → 0 < c.count → range.lo < range.hi → (c.count ≡ 1) ⊎ (range.lo / 2 ^ c.bits ≡ (range.hi - 1) / 2 ^ c.bits)
    → TakesOne c range (list_of c range.lo)
takes_one c range more some is = record {
  takes = takes_own c range range.lo (omega arith) some;
  alone = λ other t. sym t.is ∙ ⊎_elim
      (λ (one : c.count ≡ 1).
      let a : t.number / 2 ^ c.bits % c.count < c.count = mod-lt (t.number / 2 ^ c.bits) more in
      let b : range.lo / 2 ^ c.bits % c.count < c.count = mod-lt (range.lo / 2 ^ c.bits) more in
      omega arith)
      (λ (same : range.lo / 2 ^ c.bits ≡ (range.hi - 1) / 2 ^ c.bits).
      let size : 0 < 2 ^ c.bits = pow_pos c.bits in
      let low : range.lo / 2 ^ c.bits ≤ t.number / 2 ^ c.bits = mono (2 ^ c.bits) range.lo t.number size t.low in
      let below = t.high in
      let high : t.number / 2 ^ c.bits ≤ (range.hi - 1) / 2 ^ c.bits = mono (2 ^ c.bits) t.number (range.hi - 1) size (omega arith) in
      let block : t.number / 2 ^ c.bits ≡ range.lo / 2 ^ c.bits = omega arith in
      ap (λ b. first_list c + b % c.count) block)
      is;
}

-- a block and the next one are of different regions, where there are several
turns : (k b : ℕ) → 1 < k → b % k ≢ (b + 1) % k
turns k b more same =
    let some : 0 < k = omega arith in
    let low : b % k < k = mod-lt b some in
    let x : b / k * k + b % k ≡ b = div-add-mod' b k in
    let y : (b + 1) / k * k + (b + 1) % k ≡ b + 1 = div-add-mod' (b + 1) k in
    ⊎_elim
    (λ (e : b / k * k ≡ (b + 1) / k * k). omega arith)
    (λ (d : (b / k * k + k ≤ (b + 1) / k * k) ⊎ ((b + 1) / k * k + k ≤ b / k * k)). ⊎_elim
    (λ (e : b / k * k + k ≤ (b + 1) / k * k). omega arith)
    (λ (e : (b + 1) / k * k + k ≤ b / k * k). omega arith) d)
    (rounds k (b / k) ((b + 1) / k))

-- a range in several blocks takes two lists where there are several regions
pub takes_two : (c : Regions) (range : Interval) → 0 < c.count → range.lo < range.hi → c.count ≢ 1
    → range.lo / 2 ^ c.bits ≢ (range.hi - 1) / 2 ^ c.bits → TakesTwo c range
takes_two c range more some several differ =
    let size : 0 < 2 ^ c.bits = pow_pos c.bits in
    let up : range.lo / 2 ^ c.bits ≤ (range.hi - 1) / 2 ^ c.bits = mono (2 ^ c.bits) range.lo (range.hi - 1) size (omega arith) in
    let t = number_in (2 ^ c.bits) range.lo range.hi (range.lo / 2 ^ c.bits + 1) size some (omega arith) (omega arith) in
    record {
      one = list_of c range.lo;
      two = list_of c t.0;
      differ = λ e.
          let next : list_of c t.0 ≡ first_list c + (range.lo / 2 ^ c.bits + 1) % c.count = ap (λ b. first_list c + b % c.count) t.3 in
          turns c.count (range.lo / 2 ^ c.bits) (omega arith) (omega arith);
      takes_one = takes_own c range range.lo (omega arith) some;
      takes_two = takes_own c range t.0 t.1 t.2;
    }

-- a narrow range takes the list of its lower end alone, with the names that the code has
pub only_list : (c : Regions) (range : Interval) (list count lo low first last : ℕ) → count ≡ c.count → lo ≡ range.lo → low ≡ range.lo
    → first ≡ lo / 2 ^ c.bits → last ≡ (range.hi - 1) / 2 ^ c.bits → 0 < count → range.lo < range.hi → list ≡ list_of c low
    → (count ≡ 1) ⊎ (first ≡ last) → TakesOne c range list
only_list c range list count lo low first last is lo_is low_is first_is last_is more some at one =
    subst (TakesOne c range) (sym (at ∙ ap (list_of c) low_is))
    (takes_one c range (omega arith) some (⊎_elim (λ (e : count ≡ 1). inl (sym is ∙ e))
    (λ (e : first ≡ last). inr (sym (first_is ∙ ap (λ n. n / 2 ^ c.bits) lo_is) ∙ (e ∙ last_is))) one))

-- a wide range takes two lists, with the names that the code has
pub two_lists : (c : Regions) (range : Interval) (count lo first last : ℕ) → count ≡ c.count → lo ≡ range.lo → first ≡ lo / 2 ^ c.bits
    → last ≡ (range.hi - 1) / 2 ^ c.bits → 0 < count → range.lo < range.hi → count ≢ 1 → first ≢ last → TakesTwo c range
two_lists c range count lo first last is lo_is first_is last_is more some several differ =
    takes_two c range (omega arith) some (λ e. several (is ∙ e))
    (λ e. differ (first_is ∙ (ap (λ n. n / 2 ^ c.bits) lo_is ∙ (e ∙ sym last_is))))
