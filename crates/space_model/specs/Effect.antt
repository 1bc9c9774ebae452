-- What an accepted call does, as a function from pages to kinds: mmap(2), munmap(2), mprotect(2), mseal(2), brk(2) and
-- mremap(2) paint stretches of pages and leave every other page as it is. Nothing here speaks of areas that are cut or
-- joined.
use Rattle.std.specs.Prelude.{ℕ, ◌≤◌, true, false, if◌then◌else◌, Option, List, [], ◌∷◌}
use Rattle.std.specs.Option.{option_map}
use Rattle.page_types.specs.declared.TheConstants.{LIMIT}
use Rattle.page_types.specs.Sets.{has_bits, flag_bits}
use Rattle.page_types.specs.declared.sets.Prot.{Prot}
use Rattle.page_types.specs.declared.sets.MapFlags.{MapFlags}
use Rattle.page_types.specs.declared.calls.Kind.{Kind}
use Rattle.space_model.specs.declared.paint.Paint.{Paint}
use Rattle.space_model.specs.declared.paint.Paint.TheVariants.{Gives, Protects, Seals}
use Rattle.space_model.specs.declared.paint.Patch.{Patch}
use Rattle.space_model.specs.Areas.{is_within}

-- the kind that a Map gives: its protection, shared where SHARED is set, and not sealed
abbrev pub mapped_kind : Prot → MapFlags → Kind
mapped_kind prot flags = record { prot = prot; shared = has_bits (flag_bits flags) 1; sealed = false }

-- mprotect(2): the new protection, with the rest kept
abbrev pub protected_kind : Prot → Kind → Kind
protected_kind prot kind = record { prot = prot; shared = kind.shared; sealed = kind.sealed }

-- mseal(2): sealed, with the rest kept
abbrev pub sealed_kind : Kind → Kind
sealed_kind kind = record { prot = kind.prot; shared = kind.shared; sealed = true }

-- brk(2): the heap's pages may be read and written, their writes are its own, and they aren't sealed
abbrev pub heap_kind : Kind
heap_kind = record { prot = record { 0 = 3 }; shared = false; sealed = false }

-- what becomes of the kind of a page that is painted
abbrev pub painted : Paint → Option Kind → Option Kind
painted (Gives new) kind = new
painted (Protects prot) kind = option_map (protected_kind prot) kind
painted Seals kind = option_map sealed_kind kind

-- the pages from lo up to hi, and their paint
abbrev pub patch : ℕ → ℕ → Paint → Patch
patch lo hi paint = record { lo = lo; hi = hi; paint = paint }

-- the kinds after one patch: every page outside keeps its kind
abbrev pub with_patch : Patch → (ℕ → Option Kind) → ℕ → Option Kind
with_patch p kinds page = if is_within p.lo p.hi page then painted p.paint (kinds page) else kinds page

-- the kinds after patches, one after another
abbrev pub patched : List Patch → (ℕ → Option Kind) → ℕ → Option Kind
patched [] kinds = kinds
patched (p ∷ rest) kinds = patched rest (with_patch p kinds)

-- the patches rise from a page on: none begins before the one before it ends, and the last ends at or below LIMIT; a
-- patch may have no page
abbrev pub AreRising : ℕ → List Patch → Type 0
AreRising from [] = from ≤ LIMIT
AreRising from (p ∷ rest) = (from ≤ p.lo) × (p.lo ≤ p.hi) × AreRising p.hi rest
