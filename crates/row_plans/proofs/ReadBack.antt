-- A row word reads back as the row that it was written for.
use Rattle.std.proofs.Common.{◌≡◌, ℕ, ◌+◌, ◌*◌, ◌/◌, ◌%◌, ◌<◌, eqb, true, false, Bool, cond, arith}
use Rattle.std.specs.Prelude.{Option, Some, None}
use Rattle.page_types.specs.declared.calls.Kind.{Kind}
use Rattle.page_types.specs.Sets.{prot_bits}
use Rattle.page_types.specs.Named.{IsNamedOption}
use Rattle.row_plans.specs.RowWords.{row_start, row_kind, row_word}

start_bits : (start prot : ℕ) (sealed shared : Bool) → prot < 8
    → (start * 64 + (32 + cond sealed 16 0 + cond shared 8 0 + prot)) / 64 ≡ start
start_bits start prot true true named = omega arith
start_bits start prot true false named = omega arith
start_bits start prot false true named = omega arith
start_bits start prot false false named = omega arith

-- the start of a written row reads back
pub start_back : (start : ℕ) (kind : Option Kind) → IsNamedOption kind → row_start (row_word start kind) ≡ start
start_back start None named = omega arith
start_back start (Some kind) named = start_bits start (prot_bits kind.prot) kind.sealed kind.shared named

-- the kind that the low six bits say
abbrev said : ℕ → ℕ → ℕ → ℕ → Option Kind
said mapped sealed shared prot =
    cond (eqb mapped 1) (Some (record { prot = record { 0 = prot }; shared = eqb shared 1; sealed = eqb sealed 1 })) None

said_is : (m e s p m' e' s' p' : ℕ) → m ≡ m' → e ≡ e' → s ≡ s' → p ≡ p' → said m e s p ≡ said m' e' s' p'
said_is m e s p m' e' s' p' a b c d = λ i. said (a i) (b i) (c i) (d i)

said_kind : (start prot : ℕ) (sealed shared : Bool) → prot < 8
    → row_kind (start * 64 + (32 + cond sealed 16 0 + cond shared 8 0 + prot))
    ≡ Some (record { prot = record { 0 = prot }; shared = shared; sealed = sealed })
said_kind start prot true true named = let w = start * 64 + (32 + 16 + 8 + prot) in
    said_is (w / 32 % 2) (w / 16 % 2) (w / 8 % 2) (w % 8) 1 1 1 prot (omega arith) (omega arith) (omega arith) (omega arith)
said_kind start prot true false named = let w = start * 64 + (32 + 16 + 0 + prot) in
    said_is (w / 32 % 2) (w / 16 % 2) (w / 8 % 2) (w % 8) 1 1 0 prot (omega arith) (omega arith) (omega arith) (omega arith)
said_kind start prot false true named = let w = start * 64 + (32 + 0 + 8 + prot) in
    said_is (w / 32 % 2) (w / 16 % 2) (w / 8 % 2) (w % 8) 1 0 1 prot (omega arith) (omega arith) (omega arith) (omega arith)
said_kind start prot false false named = let w = start * 64 + (32 + 0 + 0 + prot) in
    said_is (w / 32 % 2) (w / 16 % 2) (w / 8 % 2) (w % 8) 1 0 0 prot (omega arith) (omega arith) (omega arith) (omega arith)

-- and so does its kind
pub kind_back : (start : ℕ) (kind : Option Kind) → IsNamedOption kind → row_kind (row_word start kind) ≡ kind
kind_back start None named = let w = start * 64 + 0 in
    said_is (w / 32 % 2) (w / 16 % 2) (w / 8 % 2) (w % 8) 0 0 0 0 (omega arith) (omega arith) (omega arith) (omega arith)
kind_back start (Some kind) named = said_kind start (prot_bits kind.prot) kind.sealed kind.shared named
