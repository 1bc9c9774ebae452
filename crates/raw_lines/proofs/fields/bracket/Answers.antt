use Rattle.std.proofs.Common.{◌≡◌, ◌≢◌, ℕ, List, ◌++◌, codes}
use Rattle.strace_reader.proofs.FormFacts.{either_way}
use Rattle.raw_lines.specs.Fields.{is_address_byte, IsBracket}
use Rattle.raw_lines.proofs.RunFacts.{none_taken, some_taken, bracket_no_address, bracket_no_end, bracket_yes}
use Rattle.raw_lines.proofs.fields.bracket.Goals as goal

-- where no byte of an address stands behind the bracket and the spaces, there is no such field
pub returns-then-rest-inner : goal.returns-then-rest-inner
returns-then-rest-inner c =
    let inner = c.skip_spaces-inner.result.now in let rest = c.skip_address-rest.result.now in
    bracket_no_address c.args.text.now c.in_ok-behind.behind.now inner c.in_ok-behind.ensures c.skip_spaces-inner.ensures
    (none_taken is_address_byte inner rest c.skip_address-rest.ensures c.if-rest-inner.true)

-- behind the address the bracket is closed, or there is no such field
pub returns : goal.returns
returns c =
    let text = c.args.text.now in let behind = c.in_ok-behind.behind.now in
    let inner = c.skip_spaces-inner.result.now in let rest = c.skip_address-rest.result.now in
    let k = some_taken is_address_byte inner rest c.skip_address-rest.ensures c.if-rest-inner.false in
    either_way c.strip_front-2.result ((x : List ℕ) → rest ≢ codes "]" ++ x) ((front other : List ℕ) → IsBracket front → text ≡ front ++ other → ⊥)
    (λ x. rest ≡ codes "]" ++ x.now) (λ x. (front : List ℕ) × IsBracket front × (text ≡ front ++ x.now))
    (bracket_no_end text behind inner k.0 rest c.in_ok-behind.ensures c.skip_spaces-inner.ensures k.1 k.2 k.3)
    (λ x e. bracket_yes text behind inner k.0 rest x.now c.in_ok-behind.ensures c.skip_spaces-inner.ensures k.1 k.2 e) c.strip_front-2.ensures
