-- One step of the lock as an operation on one word: a load, a store, an addition or an exchange. The table's line of a
-- step says what becomes of the word as a function; an operation says it as what a running lock can do atomically.
-- Whoever runs the lock on atomic words may rely on it that `op_of` and `follow` are the line, split in two. This
-- project's own profile.
use Rattle.std.specs.Prelude.{◌≡◌, ℕ, ◌+◌, ◌%◌, ◌^◌, ◌<◌, ◌==◌, if◌then◌else◌, Option, Some, None, unwrap_or, is_some, true}
use Rattle.lock_core.specs.declared.views.View.{View}
use Rattle.lock_core.specs.declared.steps.Step.{Step}
use Rattle.lock_core.specs.declared.steps.Step.TheVariants.{GiveHome, FillLo, FillHi, Aim, ClearHome, Mark}
use Rattle.lock_core.specs.declared.ops.Op.{Op}
use Rattle.lock_core.specs.declared.ops.Act.{Act}
use Rattle.lock_core.specs.declared.ops.Act.TheVariants.{Load, Store, Add, Exchange}
use Rattle.lock_core.specs.StepTable.{Plan, loads}
use Rattle.lock_core.specs.Machine.{plan}

-- the line of a step that the view enables; of another step, one that changes nothing
abbrev pub planned : ℕ → ℕ → View → Step → Plan
planned seats s v step = unwrap_or (plan seats s v step) (loads 0 (λ _. v))

-- the view of seat s enables the step
abbrev pub IsEnabled : ℕ → ℕ → View → Step → Type 0
IsEnabled seats s v step = is_some (plan seats s v step) ≡ true

-- the kinds that store
abbrev pub IsStoring : Step → Type 0
IsStoring GiveHome = Unit {0}
IsStoring (FillLo lo) = Unit {0}
IsStoring (FillHi hi mode) = Unit {0}
IsStoring Aim = Unit {0}
IsStoring (ClearHome n) = Unit {0}
IsStoring _ = ⊥

-- what the operation makes of a word; an addition wraps
abbrev pub written : Act → ℕ → ℕ
written Load w = w
written (Store value) w = value
written Add w = (w + 1) % 2 ^ 64
written (Exchange old new) w = if w == old then new else w

-- what the operation makes of the word is what the line says. An addition finds an even word where it marks; after a
-- store the view doesn't depend on what the word was
abbrev pub Writes : Step → Plan → Act → Type 0
Writes step p Load = (w : ℕ) → p.write w ≡ w
Writes step p (Store value) = ((w : ℕ) → p.write w ≡ value) × ((w u : ℕ) → p.view w ≡ p.view u) × IsStoring step
Writes step p Add = (w : ℕ) → w < 2 ^ 64 → (step ≡ Mark → w % 2 ≡ 0) → p.write w ≡ (w + 1) % 2 ^ 64
Writes step p (Exchange old new) = (w : ℕ) → p.write w ≡ (if w == old then new else w)

-- the operation is that of the line
abbrev pub IsOp : Step → Plan → Op → Type 0
IsOp step p op = (op.place ≡ p.place) × Writes step p op.act

-- there is an operation exactly where there is a line, and then it is that of the line
abbrev pub IsOpOf : Step → Option Plan → Option Op → Type 0
IsOpOf step None None = Unit {0}
IsOpOf step None (Some op) = ⊥
IsOpOf step (Some p) None = ⊥
IsOpOf step (Some p) (Some op) = IsOp step p op
