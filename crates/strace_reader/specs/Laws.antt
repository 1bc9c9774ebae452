-- Laws of the two relations that the readers are. A whole text has at most one outcome, whatever its length: one
-- item, or one refusal, and never both. That follows from the forms of Grammar.antt and Maps.antt alone; a public
-- function of src/laws.rt carries it for each kind of line, so that crates above may rest on it.
use Rattle.std.specs.Prelude.{◌≡◌}
use Rattle.strace_reader.specs.declared.item.BadCall.{BadCall}

-- Of what a text may be, and where and why it may be refused: one item at most, one column and cause at most, and
-- never an item and a refusal.
pub record HasOneOutcome {A : Type 0} (spells : A → Type 0) (refuses : BadCall → Type 0) : Type 0 where
  pub item : (a b : A) → spells a → spells b → a ≡ b
  pub refusal : (a b : BadCall) → refuses a → refuses b → a ≡ b
  pub never_both : (a : A) (bad : BadCall) → spells a → refuses bad → ⊥
