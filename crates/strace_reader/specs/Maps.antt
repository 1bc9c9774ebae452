-- The lines of a maps file, as proc_pid_maps(5) shows them: two addresses, four characters, and what follows them,
-- which is not looked at. That the addresses are multiples of a page's bytes and that a line past the user addresses
-- has an answer of its own is this project's own profile.
use Rattle.std.specs.Prelude.{◌≡◌, ◌⊎◌, ℕ, ◌*◌, ◌%◌, ◌^◌, ◌<◌, ◌≤◌, List, [], ◌∷◌, ◌++◌, true, false}
use Rattle.std.specs.Int.RustNames.{bit_or}
use Rattle.line_parts.specs.declared.refusal.What.TheVariants.{Form, Order}
use Rattle.line_parts.specs.Parts.{starts}
use Rattle.line_parts.specs.Leaves.{is, Digits}
use Rattle.page_types.specs.declared.calls.Kind.{Kind}
use Rattle.page_types.specs.Named.{IsNamedKind}
use Rattle.strace_reader.specs.declared.item.BadCall.{BadCall}
use Rattle.strace_reader.specs.declared.maps.MapsItem.{MapsItem}
use Rattle.strace_reader.specs.declared.maps.MapsItem.TheVariants.{Area, Past}

-- hexadecimal digits of either case; the number fits 64 bits and is the first byte of a page
pub record IsAddress (digits : List ℕ) (addr : ℕ) : Type 0 where
  pub hexadecimal : Digits 16 digits addr
  pub fits : addr < 2 ^ 64
  pub aligned : addr % 4096 ≡ 0

-- a letter, which stands for a bit, or a dash for none
abbrev pub IsMark : ℕ → ℕ → ℕ → ℕ → Type 0
IsMark letter bit char value = ((char ≡ letter) × (value ≡ bit)) ⊎ ((char ≡ 45) × (value ≡ 0))

-- r, w and x or dashes, and then s where writes are shared, p where they are not; a line can't say that pages are
-- sealed, so they aren't
pub record IsKind (chars : List ℕ) (kind : Kind) : Type 0 where
  pub r : ℕ
  pub w : ℕ
  pub x : ℕ
  pub s : ℕ
  pub read : ℕ
  pub write : ℕ
  pub exec : ℕ
  pub four : chars ≡ r ∷ w ∷ x ∷ s ∷ []
  pub read_mark : IsMark 114 1 r read
  pub write_mark : IsMark 119 2 w write
  pub exec_mark : IsMark 120 4 x exec
  pub rights : kind.prot ≡ record { 0 = bit_or (bit_or read write) exec }
  pub sharing : ((s ≡ 115) × (kind.shared ≡ true)) ⊎ ((s ≡ 112) × (kind.shared ≡ false))
  pub unsealed : kind.sealed ≡ false

-- a whole line, with its addresses in bytes and its kind
pub record IsMapsLine (text : List ℕ) (start stop : ℕ) (kind : Kind) : Type 0 where
  pub start_digits : List ℕ
  pub stop_digits : List ℕ
  pub chars : List ℕ
  pub tail : List ℕ
  pub parts : text ≡ start_digits ++ (45 ∷ (stop_digits ++ (32 ∷ (chars ++ tail))))
  pub starts_at : IsAddress start_digits start
  pub stops_at : IsAddress stop_digits stop
  pub is_kind : IsKind chars kind
  pub behind : (tail ≡ []) ⊎ (starts (is 32) tail ≡ true)

-- the first address behind the user addresses, which are those of LIMIT pages
abbrev pub user_end : ℕ
user_end = 0xfffffffffff000

-- a line and what it is
unfoldable pub SpellsMaps : List ℕ → MapsItem → Type 0
SpellsMaps text (Area area) = IsMapsLine text (area.lo * 4096) (area.hi * 4096) area.kind × (area.lo < area.hi) × (area.hi * 4096 ≤ user_end)
SpellsMaps text (Past start stop) = (kind : Kind) × IsMapsLine text start stop kind × (start < stop) × (user_end < stop)

-- a line of another form is refused for that, and one whose start is not below its end for its order
unfoldable pub RefusesMaps : List ℕ → BadCall → Type 0
RefusesMaps text bad =
    (((start stop : ℕ) (kind : Kind) → IsMapsLine text start stop kind → ⊥) × (bad ≡ record { column = 1; what = Form }))
    ⊎ ((start stop : ℕ) × (kind : Kind) × IsMapsLine text start stop kind × (stop ≤ start) × (bad ≡ record { column = 1; what = Order }))

-- the protection has no bit but the named ones
abbrev pub IsNamedMapsItem : MapsItem → Type 0
IsNamedMapsItem (Area area) = IsNamedKind area.kind
IsNamedMapsItem (Past start stop) = Unit {0}
