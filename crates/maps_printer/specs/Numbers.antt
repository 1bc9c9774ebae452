-- Numbers as text: decimal as std's `decimal` prints them, and lower hexadecimal without leading zeros. An address that
-- a call takes comes after `0x`, as strace(1) prints it. One of a maps line is padded with zeros, as in
-- proc_pid_maps(5).
use Rattle.std.specs.Prelude.{ℕ, ◌-◌, ◌*◌, ◌==◌, false, if◌then◌else◌, List, ◌++◌, length, replicate, codes}
use Rattle.std.specs.Fmt.{digits}

-- a number in lower hexadecimal, without leading zeros
abbrev pub hex_digits : ℕ → List ℕ
hex_digits n = digits 16 false n

-- the same with zeros before it up to a width
abbrev pub padded_hex : ℕ → ℕ → List ℕ
padded_hex width n = replicate (width - length (hex_digits n)) 48 ++ hex_digits n

-- the same after `0x`, as strace(1) prints an address
abbrev pub prefixed_hex : ℕ → List ℕ
prefixed_hex n = codes "0x" ++ hex_digits n

-- an address that a call takes: strace(1) prints `NULL` for 0
abbrev pub address_text : ℕ → List ℕ
address_text n = if n == 0 then codes "NULL" else prefixed_hex n

-- proc_pid_maps(5): the address of a page's first byte, with at least eight digits
abbrev pub page_address : ℕ → List ℕ
page_address page = padded_hex 8 (page * 4096)
