use Rattle.std.proofs.Common.{◌≡◌, ◌+◌, ◌≤◌, ◌++◌, ℕ, List, arith, length, take, drop, sym, ap, ◌∙◌}
use Rattle.std.proofs.lemmas.List.{take_at, take_rest, take-append-drop, drop-drop, length-take-le, length-drop}
use Rattle.byte_ports.proofs.moves.move_into.Goals as goal

-- what was copied to the front of the buffer, and what is left, are the bytes from before
moved_whole : (xs front tail : List ℕ) (at n : ℕ) → front ≡ take n (drop at xs) → n ≤ length (drop at xs)
    → drop at xs ≡ take n (front ++ tail) ++ drop (at + n) xs
moved_whole xs front tail at n e h =
    let ys = drop at xs in
    sym (take-append-drop n ys)
    ∙ ap (λ l. l ++ drop n ys) (sym (ap (λ l. take n (l ++ tail)) e ∙ take_at (take n ys) tail n (length-take-le n ys h)))
    ∙ ap (λ l. take n (front ++ tail) ++ l) (drop-drop n at xs)

-- the bytes that stood before the call are those that were copied, and then those that are left
pub returns-clause-moved : goal.returns-clause-moved
returns-clause-moved c =
    let at = c.args.at in
    let n = c.min-amount.result in
    let copied = c.copy_from_slice.ensures.after ∙ ap (take n) (take_rest c.args.bytes.now at) in
    moved_whole c.args.bytes.now _ _ at n copied (omega (arith, length-drop {A = ℕ}))
