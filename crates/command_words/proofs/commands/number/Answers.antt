use Rattle.std.proofs.Common.{◌≡◌, true, Ok, ap, sym, ◌∙◌, arith}
use Rattle.std.specs.Fmt.{decimal}
use Rattle.std.proofs.lemmas.Fmt.{parse-decimal}
use Rattle.std.proofs.lemmas.Slice.Eq.{bytes_eq-Decides}
use Rattle.command_words.proofs.commands.number.Goals as goal

-- a text that isn't read as a number is the text of none of 32 bits
pub returns-in_default-clause-none : goal.returns-in_default-clause-none
returns-in_default-clause-none c _ n fits same =
    c.in_default.not-Ok n (parse-decimal 32 n c.args.text.now c.parse.result fits (omega arith) same c.parse.ensures.value.0)

-- nor is one that is read but differs from the text of its number
pub returns-else-eq-clause-none : goal.returns-else-eq-clause-none
returns-else-eq-clause-none c _ n fits same =
    let read : c.parse.result ≡ Ok n = parse-decimal 32 n c.args.text.now c.parse.result fits (omega arith) same c.parse.ensures.value.0 in
    let is : c.in-Ok.number ≡ n = cc (read, c.in-Ok.is) in
    let text : c.format.result.now ≡ c.args.text.now = c.format.ensures.text ∙ ap decimal is ∙ sym same in
    let equal : c.eq.result ≡ true = c.eq.ensures ∙ (bytes_eq-Decides c.format.result.now c.args.text.now).1 text in cc (equal, c.if-eq.false)
