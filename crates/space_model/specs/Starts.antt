-- Where rows start: at page 0, and at each page whose kind isn't that of the page before it; a page that isn't mapped
-- counts as one of a kind of its own. The number of rows is the number of these pages. That is this project's own
-- count; a Protect that keeps it is the speculative mprotect of Kogan, Dice and Issa, EuroSys 2020.
use Rattle.std.specs.Prelude.{ℕ, zero, suc, ◌+◌, Bool, true, false, ◌&&◌, not, ◌==◌, ◌≡◌, Option, Some, None}
use Rattle.page_types.specs.declared.calls.Kind.{Kind}
use Rattle.page_types.specs.Sets.{prot_bits}

-- two bools are equal
abbrev pub same_bool : Bool → Bool → Bool
same_bool true b = b
same_bool false b = not b

-- two kinds are equal
abbrev pub same_kind : Kind → Kind → Bool
same_kind k m = (prot_bits k.prot == prot_bits m.prot) && (same_bool k.shared m.shared && same_bool k.sealed m.sealed)

-- two kinds, or none, are equal
abbrev pub same_option : Option Kind → Option Kind → Bool
same_option None None = true
same_option None (Some m) = false
same_option (Some k) None = false
same_option (Some k) (Some m) = same_kind k m

-- 1 where it is so
abbrev pub count_if : Bool → ℕ
count_if true = 1
count_if false = 0

-- 1 where two neighbouring pages differ in kind, so that a row starts between them
abbrev pub border : Option Kind → Option Kind → ℕ
border o q = count_if (not (same_option o q))

-- pages of one kind, between a page of a kind and another, may get a new kind with as many rows starting at their first
-- page and right behind their last one as before
abbrev pub KeepsRows : Option Kind → Kind → Kind → Option Kind → Type 0
KeepsRows before old new after = border before (Some old) + border (Some old) after ≡ border before (Some new) + border (Some new) after

-- a row starts at a page: page 0, or a page of another kind than the one before it
abbrev pub starts_row : (ℕ → Option Kind) → ℕ → Bool
starts_row kinds zero = true
starts_row kinds (suc page) = not (same_option (kinds page) (kinds (suc page)))

-- how many of so many pages, counted from page 0 on, start a row
unfoldable pub start_count : (ℕ → Option Kind) → ℕ → ℕ
start_count kinds zero = 0
start_count kinds (suc page) = start_count kinds page + count_if (starts_row kinds page)
