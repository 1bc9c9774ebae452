-- Steps of writing, one after another, are such steps: the laws of `Words` for a space. A reader who trusts the check
-- may pass them over.
use Rattle.std.proofs.Common.{◌≡◌, ◌∙◌, refl, arith}
use Rattle.range_rw.specs.Contract.{SeatState}
use Rattle.area_guard.specs.declared.guard.Pass.{Pass}
use Rattle.area_guard.specs.Reads.{known_count}
use Rattle.plan_words.specs.Writing.{IsWriting}

-- steps of writing that leave the row count
abbrev pub HasWritten : SeatState Pass → SeatState Pass → Type 0
HasWritten before after = IsWriting before after × (known_count after.pass ≡ known_count before.pass)

-- no step at all is a writing
pub no_writing : (a : SeatState Pass) → IsWriting a a
no_writing a = search arith

-- one after another is one
pub writing_on : (a b c : SeatState Pass) → IsWriting a b → IsWriting b c → IsWriting a c
writing_on a b c f g = grind arith

-- the same with the row count
pub no_writing_at : (a : SeatState Pass) → HasWritten a a
no_writing_at a = (no_writing a, refl)

-- one after another
pub writing_on_at : (a b c : SeatState Pass) → HasWritten a b → HasWritten b c → HasWritten a c
writing_on_at a b c f g = (writing_on a b c f.0 g.0, g.1 ∙ f.1)
