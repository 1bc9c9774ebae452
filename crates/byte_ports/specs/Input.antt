-- What it is to read an input to its end, and why one isn't read so. A source that doesn't say which bytes it has is
-- said nothing of. The words are this project's own profile.
use Rattle.std.specs.Prelude.{◌≡◌, ℕ, ◌<◌, List, [], length, Option, Some, IfSome, ⊤}
use Rattle.byte_ports.specs.Counts.{Rose}
use Rattle.byte_ports.specs.declared.input.Unread.{Unread}
use Rattle.byte_ports.specs.declared.input.Unread.TheVariants.{Failed, Long, Memory}

-- the known bytes are all, and none of them is left
abbrev pub Drains : Option (List ℕ) → Option (List ℕ) → List ℕ → Type 0
Drains old new all = IfSome old (λ bytes. (bytes ≡ all) × (new ≡ Some []))

-- why an input isn't read to its end: the source's count of failed calls rose, or it has more bytes than this limit.
-- Out of memory has no cause to show
abbrev pub IsUnread : ℕ → Option (List ℕ) → ℕ → ℕ → Unread → Type 0
IsUnread limit bytes before after Failed = Rose before after
IsUnread limit bytes before after Long = IfSome bytes (λ all. limit < length all)
IsUnread limit bytes before after Memory = ⊤
