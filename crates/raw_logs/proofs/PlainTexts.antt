-- A plain text as long as its line is the line.
use Rattle.std.proofs.Common.{◌≡◌, ℕ, List, length, inl, inr}
use Rattle.raw_lines.specs.Plain.{IsPlain}
use Rattle.raw_lines.proofs.PlainFacts.{taken_long}

-- nothing was taken away
pub plain_long : (text plain : List ℕ) → IsPlain text plain → length plain ≡ length text → plain ≡ text
plain_long text plain (inl h) e = h.1
plain_long text plain (inr h) e = taken_long text plain h.1 e
