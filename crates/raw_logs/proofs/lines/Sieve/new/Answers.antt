use Rattle.std.proofs.Common.{◌≡◌, length, drop, refl, sym, ap, ◌∙◌, arith}
use Rattle.raw_logs.specs.Buffer.{cut_at, start_at}
use Rattle.raw_logs.proofs.BufferFacts.{cut_length}
use Rattle.raw_logs.proofs.SieveFacts.{cut_from, sieve_new}
use Rattle.raw_logs.proofs.lines.Sieve.new.Goals as goal

-- there is an end for each text
pub start_of-from-requires : goal.start_of-from-requires
start_of-from-requires c =
    let is = c.requires in
    let same = cut_length c.lines.inside.first 0 c.lines.inside.bytes.items c.lines.inside.ends.items in
    let all = ap length c.lines.view_is in
    let ends = ap length c.as_slice.ensures.value in
    omega arith

-- no text was looked at
pub returns-clause-is : goal.returns-clause-is
returns-clause-is c =
    sieve_new _ refl refl (c.start_of-from.ensures ∙ ap (λ x. start_at 0 x c.args.start) c.as_slice.ensures.value) c.lines.invariant

-- those from the place on are left
pub returns-clause-rest : goal.returns-clause-rest
returns-clause-rest c =
    let bytes = c.lines.inside.bytes.items in
    let ends = c.lines.inside.ends.items in
    let from : c.start_of-from.result ≡ start_at 0 ends c.args.start =
    c.start_of-from.ensures ∙ ap (λ x. start_at 0 x c.args.start) c.as_slice.ensures.value in
    ap (λ x. cut_at c.lines.inside.first x bytes (drop c.args.start ends)) from
    ∙ sym (cut_from c.lines.inside.first 0 bytes ends c.args.start) ∙ ap (drop c.args.start) c.lines.view_is
