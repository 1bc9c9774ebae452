use Rattle.std.proofs.Common.{◌≡◌, ◌-◌, ℕ, List, ◌++◌, arith, length, take, drop, replicate, sym, ap, ◌∙◌, append_assoc}
use Rattle.std.proofs.lemmas.List.{take_rest}
use Rattle.maps_printer.specs.Numbers.{hex_digits}
use Rattle.maps_printer.proofs.Hex.{page_address_parts}
use Rattle.maps_printer.proofs.numbers.push_page_address.Goals as goal

-- three texts one after the other are one
three_join : (old one two three a b c text : List ℕ) → one ≡ old ++ a → two ≡ one ++ b → three ≡ two ++ c → text ≡ (a ++ b) ++ c → three ≡ old ++ text
three_join old one two three a b c text p q r whole = cc (append_assoc (old ++ a) b c, append_assoc old a (b ++ c), append_assoc a b c)

-- the zeros, the page's number and the three zeros behind it are the address of the page
pub returns-clause-text : goal.returns-clause-text
returns-clause-text c =
    let start = c.write_hex-start.result in let digits = c.write_hex-start.new.digits in let page = c.args.page in
    let zeros : c.saturating_sub.result ≡ 5 - length (hex_digits page) = omega (arith, c.write_hex-start.ensures.start) in
    let number = ap (λ n. take (n - start) (drop start digits)) (sym c.write_hex-start.array_long) ∙ take_rest digits start
    ∙ c.write_hex-start.ensures.written in
    three_join _ _ _ _ _ _ _ _ (c.push_zeros.ensures ∙ ap (λ n. c.args.buffer.now ++ replicate n 48) zeros)
    (c.push.ensures ∙ ap (λ l. c.push_zeros.new.buffer ++ l) number) c.push-2.ensures (page_address_parts page (omega arith))
