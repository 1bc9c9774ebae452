-- Where a region is met next: the blocks of numbers are dealt out to the regions in turn, so from each block on the
-- next one of a region is at most one round away. Only functions inside this crate have it in their contracts. This
-- project's own profile.
use Rattle.std.specs.Prelude.{◌≡◌, ℕ, ◌+◌, ◌%◌, ◌≤◌}

-- so many blocks behind this first one is the next block of a region, among so many regions
pub record IsNextBlock (count first region blocks : ℕ) : Type 0 where
  pub is : (first + blocks) % count ≡ region
  pub least : (more : ℕ) → (first + more) % count ≡ region → blocks ≤ more
