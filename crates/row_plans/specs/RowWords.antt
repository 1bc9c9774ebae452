-- A row word: the page where the row starts, and the kind of its pages in the low six bits, mapped, sealed, shared and
-- the three of the protection. The form is this project's own; docs/PROFILE.md has a picture of it. `read_row` and
-- `write_row` of the code are the two ways, and what is written reads back.
use Rattle.std.specs.Prelude.{ℕ, ◌+◌, ◌*◌, ◌/◌, ◌%◌, ◌==◌, if◌then◌else◌, Option, Some, None}
use Rattle.page_types.specs.declared.calls.Kind.{Kind}
use Rattle.page_types.specs.Sets.{prot_bits}

-- the page where the row starts
abbrev pub row_start : ℕ → ℕ
row_start word = word / 64

-- the kind of the row's pages, or none where it is a gap
abbrev pub row_kind : ℕ → Option Kind
row_kind word =
    if word / 32 % 2 == 1 then
    Some (record { prot = record { 0 = word % 8 }; shared = word / 8 % 2 == 1; sealed = word / 16 % 2 == 1 }) else None

-- the low six bits of a kind
abbrev pub kind_bits : Option Kind → ℕ
kind_bits None = 0
kind_bits (Some kind) = 32 + (if kind.sealed then 16 else 0) + (if kind.shared then 8 else 0) + prot_bits kind.prot

-- the word of a row that starts at a page
abbrev pub row_word : ℕ → Option Kind → ℕ
row_word start kind = start * 64 + kind_bits kind
