-- What a write of one word does to the heap: one field changes at one index, since all places differ.
use Rattle.std.proofs.Common.{◌≡◌, ◌≢◌, ℕ, zero, suc, ◌<◌, List, length, set, get_or, arith, get_or-set_other, get_or-set_same}
use Rattle.lock_core.specs.Words.{Heap, heap_of, cell_place, lo_place, hi_place, home_place, epoch_place}

-- the next word of a cell was written
pub record WroteCell (seats : ℕ) (h now : Heap) (p w : ℕ) : Type 0 where
  pub is : now.next p ≡ w
  pub others : (c : ℕ) → c ≢ p → now.next c ≡ h.next c
  pub lo : (n : ℕ) → now.lo n ≡ h.lo n
  pub hi : (n : ℕ) → now.hi n ≡ h.hi n
  pub home : (n : ℕ) → now.home n ≡ h.home n
  pub epoch : (s : ℕ) → s < seats → now.epoch s ≡ h.epoch s

-- the lo word of a node was written
pub record WroteLo (seats : ℕ) (h now : Heap) (o w : ℕ) : Type 0 where
  pub is : now.lo o ≡ w
  pub others : (n : ℕ) → n ≢ o → now.lo n ≡ h.lo n
  pub next : (c : ℕ) → now.next c ≡ h.next c
  pub hi : (n : ℕ) → now.hi n ≡ h.hi n
  pub home : (n : ℕ) → now.home n ≡ h.home n
  pub epoch : (s : ℕ) → s < seats → now.epoch s ≡ h.epoch s

-- the hi word of a node was written
pub record WroteHi (seats : ℕ) (h now : Heap) (o w : ℕ) : Type 0 where
  pub is : now.hi o ≡ w
  pub others : (n : ℕ) → n ≢ o → now.hi n ≡ h.hi n
  pub next : (c : ℕ) → now.next c ≡ h.next c
  pub lo : (n : ℕ) → now.lo n ≡ h.lo n
  pub home : (n : ℕ) → now.home n ≡ h.home n
  pub epoch : (s : ℕ) → s < seats → now.epoch s ≡ h.epoch s

-- the home word of a node was written
pub record WroteHome (seats : ℕ) (h now : Heap) (o w : ℕ) : Type 0 where
  pub is : now.home o ≡ w
  pub others : (n : ℕ) → n ≢ o → now.home n ≡ h.home n
  pub next : (c : ℕ) → now.next c ≡ h.next c
  pub lo : (n : ℕ) → now.lo n ≡ h.lo n
  pub hi : (n : ℕ) → now.hi n ≡ h.hi n
  pub epoch : (s : ℕ) → s < seats → now.epoch s ≡ h.epoch s

-- the epoch of a seat was written
pub record WroteEpoch (h now : Heap) (i w : ℕ) : Type 0 where
  pub is : now.epoch i ≡ w
  pub others : (s : ℕ) → s ≢ i → now.epoch s ≡ h.epoch s
  pub next : (c : ℕ) → now.next c ≡ h.next c
  pub lo : (n : ℕ) → now.lo n ≡ h.lo n
  pub hi : (n : ℕ) → now.hi n ≡ h.hi n
  pub home : (n : ℕ) → now.home n ≡ h.home n

cells_apart : (seats a b : ℕ) → a ≢ b → cell_place seats a ≢ cell_place seats b
cells_apart seats zero zero d e = d (omega arith)
cells_apart seats zero (suc b) d e = omega arith
cells_apart seats (suc a) zero d e = omega arith
cells_apart seats (suc a) (suc b) d e = d (omega arith)

lo_apart : (seats n p : ℕ) → lo_place seats n ≢ cell_place seats p
lo_apart seats n zero e = omega arith
lo_apart seats n (suc p) e = omega arith

hi_apart : (seats n p : ℕ) → hi_place seats n ≢ cell_place seats p
hi_apart seats n zero e = omega arith
hi_apart seats n (suc p) e = omega arith

home_apart : (seats n p : ℕ) → home_place seats n ≢ cell_place seats p
home_apart seats n zero e = omega arith
home_apart seats n (suc p) e = omega arith

epoch_apart : (seats s p : ℕ) → s < seats → epoch_place s ≢ cell_place seats p
epoch_apart seats s zero l e = omega arith
epoch_apart seats s (suc p) l e = omega arith

module _ (seats w : ℕ) (words : List ℕ) where
  -- a word at another place than the one written is as it was
  kept : {p q : ℕ} → q ≢ p → get_or (set words p w) q 0 ≡ get_or words q 0
  kept {p} {q} apart = get_or-set_other words p q w 0 apart

  -- the word at the place written is the one that was stored
  put : {p : ℕ} → p < length words → get_or (set words p w) p 0 ≡ w
  put {p} there = get_or-set_same words p w 0 there

  -- a write of a next word changes that next word alone
  pub wrote_cell : (p : ℕ) → cell_place seats p < length words → WroteCell seats (heap_of seats words) (heap_of seats (set words (cell_place seats p) w)) p w
  wrote_cell p there = record {
    is = put there;
    others = λ c d. kept (cells_apart seats c p d);
    lo = λ n. kept (lo_apart seats n p);
    hi = λ n. kept (hi_apart seats n p);
    home = λ n. kept (home_apart seats n p);
    epoch = λ s l. kept (epoch_apart seats s p l);
  }

  -- a write of a lo word changes that lo word alone
  pub wrote_lo : (o : ℕ) → lo_place seats o < length words → WroteLo seats (heap_of seats words) (heap_of seats (set words (lo_place seats o) w)) o w
  wrote_lo o there = record {
    is = put there;
    others = λ n d. kept (λ e. d (omega arith));
    next = λ c. kept (λ e. lo_apart seats o c (omega arith));
    hi = λ n. kept (λ e. omega arith);
    home = λ n. kept (λ e. omega arith);
    epoch = λ s l. kept (λ e. omega arith);
  }

  -- a write of a hi word changes that hi word alone
  pub wrote_hi : (o : ℕ) → hi_place seats o < length words → WroteHi seats (heap_of seats words) (heap_of seats (set words (hi_place seats o) w)) o w
  wrote_hi o there = record {
    is = put there;
    others = λ n d. kept (λ e. d (omega arith));
    next = λ c. kept (λ e. hi_apart seats o c (omega arith));
    lo = λ n. kept (λ e. omega arith);
    home = λ n. kept (λ e. omega arith);
    epoch = λ s l. kept (λ e. omega arith);
  }

  -- a write of a home word changes that home word alone
  pub wrote_home : (o : ℕ) → home_place seats o < length words → WroteHome seats (heap_of seats words) (heap_of seats (set words (home_place seats o) w)) o w
  wrote_home o there = record {
    is = put there;
    others = λ n d. kept (λ e. d (omega arith));
    next = λ c. kept (λ e. home_apart seats o c (omega arith));
    lo = λ n. kept (λ e. omega arith);
    hi = λ n. kept (λ e. omega arith);
    epoch = λ s l. kept (λ e. omega arith);
  }

  -- a write of an epoch changes that epoch alone
  pub wrote_epoch : (i : ℕ) → i < seats → epoch_place i < length words → WroteEpoch (heap_of seats words) (heap_of seats (set words (epoch_place i) w)) i w
  wrote_epoch i few there = record {
    is = put there;
    others = λ s d. kept (λ e. d (omega arith));
    next = λ c. kept (λ e. epoch_apart seats i c few (omega arith));
    lo = λ n. kept (λ e. omega arith);
    hi = λ n. kept (λ e. omega arith);
    home = λ n. kept (λ e. omega arith);
  }
