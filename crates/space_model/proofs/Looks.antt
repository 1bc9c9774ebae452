-- Looks one after another, as one: the hand may look again, as many looks as before go through pages or find a place,
-- and how many were made.
use Rattle.std.proofs.Common.{ℕ, ◌≡◌, ◌≤◌, ◌+◌, ◌∙◌, Bool, if◌then◌else◌, IsFalse, sym, subst, arith}
use Rattle.page_types.specs.declared.calls.Call.TheVariants.{Map}
use Rattle.page_types.specs.declared.sets.Prot.{Prot}
use Rattle.page_types.specs.declared.sets.MapFlags.{MapFlags}
use Rattle.page_types.specs.Pages.{page_of, page_count}
use Rattle.page_types.specs.Sets.{is_fixed}
use Rattle.space_model.specs.declared.judging.Pages.{Ghosts}
use Rattle.space_model.specs.Looking.{looks_of}

-- what looks made from one hand up to another leave
pub record HasSeen {Pages Hand : Type 0} (P : Ghosts Pages Hand) (pages : Pages) (hand next : Hand) : Type 0 where
  pub may : P.may_look pages next
  pub same : P.kinds pages next ≡ P.kinds pages hand
  pub reach : P.reach pages next ≡ P.reach pages hand
  pub fit : P.fit_looks pages next ≡ P.fit_looks pages hand
  pub looked : P.looked pages hand next

-- and so many were made
pub record HasLooked {Pages Hand : Type 0} (P : Ghosts Pages Hand) (pages : Pages) (hand next : Hand) (count : ℕ) : Type 0 where
  pub seen : HasSeen P pages hand next
  pub looks : P.looks pages next ≤ P.looks pages hand + count

module _ {Pages Hand : Type 0} where
  -- the first looks
  pub sees : (P : Ghosts Pages Hand) {pages : Pages} {hand next : Hand} → P.may_look pages hand → P.looked pages hand next →
      HasSeen P pages hand next
  sees P {pages} {hand} {next} may looked =
      let s = P.same_kinds pages hand next may looked in
      record {
        may = s.0;
        same = s.1;
        reach = P.same_reach pages hand next may looked;
        fit = P.same_fit pages hand next may looked;
        looked = looked;
      }

  -- and more
  pub sees_on : {P : Ghosts Pages Hand} {pages : Pages} {hand mid next : Hand} → HasSeen P pages hand mid → P.looked pages mid next →
      HasSeen P pages hand next
  sees_on {P} {pages} {hand} {mid} {next} seen looked =
      let s = sees P seen.may looked in
      record {
        may = s.may;
        same = s.same ∙ seen.same;
        reach = s.reach ∙ seen.reach;
        fit = s.fit ∙ seen.fit;
        looked = P.looks_on pages hand mid next seen.looked looked;
      }

  -- the first looks, counted
  pub looks_first : (P : Ghosts Pages Hand) (pages : Pages) (hand next : Hand) (count : ℕ) → P.may_look pages hand → P.looked pages hand next
      → P.looks pages next ≤ P.looks pages hand + count → HasLooked P pages hand next count
  looks_first P pages hand next count may looked few = record { seen = sees P may looked; looks = few }

  -- looks behind others, as many for the hand before as for the one behind these
  pub looks_then : {P : Ghosts Pages Hand} {pages : Pages} {hand mid : Hand} {count : ℕ} (next : Hand) (more : (ℕ → ℕ → ℕ) → ℕ → ℕ)
      → HasLooked P pages hand mid count → P.looks pages next ≤ P.looks pages mid + more (P.reach pages mid) (P.fit_looks pages mid)
      → P.looks pages next ≤ P.looks pages hand + (count + more (P.reach pages hand) (P.fit_looks pages hand))
  looks_then {P} {pages} {hand} {mid} {count} next more so_far few =
      let same : P.looks pages next ≤ P.looks pages mid + more (P.reach pages hand) (P.fit_looks pages hand) =
      subst (λ (z : (ℕ → ℕ → ℕ) × ℕ). P.looks pages next ≤ P.looks pages mid + more z.0 z.1) (λ i. (so_far.seen.reach i, so_far.seen.fit i)) few in
      let before = so_far.looks in omega arith

  -- and one search more
  pub looks_on : {P : Ghosts Pages Hand} {pages : Pages} {hand mid : Hand} {count : ℕ} (next : Hand) (lo hi : ℕ) → HasLooked P pages hand mid count
      → P.looked pages mid next → P.looks pages next ≤ P.looks pages mid + P.reach pages mid lo hi
      → HasLooked P pages hand next (count + P.reach pages hand lo hi)
  looks_on next lo hi so_far looked few = record { seen = sees_on so_far.seen looked; looks = looks_then next (λ r fit. r lo hi) so_far few }

  -- a Map whose pages don't fit at its hint looks for a place
  pub looks_hinted : {P : Ghosts Pages Hand} {pages : Pages} {hand mid : Hand} (next : Hand) (addr len : ℕ) (prot : Prot) (flags : MapFlags)
      (count at : ℕ) → IsFalse (is_fixed flags) → count ≡ page_count len
      → HasLooked P pages hand mid (P.reach pages hand (page_of addr) (page_of addr + count))
      → P.looks pages next ≤ P.looks pages mid + P.fit_looks pages mid
      → P.looks pages next ≤ P.looks pages hand + looks_of (P.reach pages hand) (P.fit_looks pages hand) (Map addr len prot flags) at
  looks_hinted {P} {pages} {hand} {mid} next addr len prot flags count at hints c so_far few =
      let hint = page_of addr in
      subst (λ (z : ℕ × Bool).
      P.looks pages next ≤ P.looks pages hand + (P.reach pages hand hint (hint + z.0) + (if z.1 then 0 else P.fit_looks pages hand)))
      (λ i. (c i, sym hints i)) (looks_then next (λ r fit. fit) so_far few)
