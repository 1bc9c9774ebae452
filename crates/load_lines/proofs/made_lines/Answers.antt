use Rattle.std.proofs.Common.{◌≡◌, ℕ, zero, suc, ◌+◌, ◌*◌, List, [], ◌∷◌, ◌++◌, sym, ap, ◌∙◌, add-zero, add-one, arith}
use Rattle.std.proofs.Math.Nat.{add-suc}
use Rattle.std.proofs.lemmas.List.Elements.{All-push, All-same}
use Rattle.load_lines.specs.declared.calls.MadeLine.{MadeLine}
use Rattle.load_lines.specs.Calls.{drawn_lines, line_at, IsNamedLine}
use Rattle.load_lines.specs.Generator.{state_after, next_state}
use Rattle.load_lines.proofs.made_lines.Goals as goal

-- draws behind draws
draws_more : (seed a b : ℕ) → state_after (state_after seed a) b ≡ state_after seed (a + b)
draws_more seed a zero = ap (state_after seed) (sym (add-zero a))
draws_more seed a (suc b) = ap next_state (draws_more seed a b) ∙ ap (state_after seed) (sym (add-suc a b))

-- a line draws four times
four_more : (seed made before after : ℕ) → before ≡ state_after seed (4 * made) → after ≡ state_after before 4
    → after ≡ state_after seed (4 * (made + 1))
four_more seed made before after b a =
    let sum : 4 * made + 4 ≡ 4 * (made + 1) = omega arith in
    a ∙ ap (λ (state : ℕ). state_after state 4) b ∙ draws_more seed (4 * made) 4 ∙ ap (state_after seed) sum

-- one line more
one_more : (seed threads made state : ℕ) (xs ys : List MadeLine) (line : MadeLine) → ys ≡ xs ++ line ∷ []
    → xs ≡ drawn_lines seed threads made → state ≡ state_after seed (4 * made) → line ≡ line_at state threads made
    → ys ≡ drawn_lines seed threads (made + 1)
one_more seed threads made state xs ys line p q s l =
    let last : line ≡ line_at (state_after seed (4 * made)) threads made = l ∙ ap (λ (at : ℕ). line_at at threads made) s in
    rw add-one (p ∙ ap (λ (zs : List MadeLine). zs ++ line ∷ []) q ∙ ap (λ (z : MadeLine). drawn_lines seed threads made ++ z ∷ []) last)

-- with one line more the lines are still the first of the load, and the state the one that their draws left
pub loop-made-preserved : goal.loop-made-preserved
loop-made-preserved c = record {
  lines = one_more c.args.seed c.args.threads c.loop-made.made _ _ _ _ c.in_ok-push.ensures.items c.loop-made.invariant.lines
      c.loop-made.invariant.state c.next_line.ensures.line;
  state = four_more c.args.seed c.loop-made.made _ _ c.loop-made.invariant.state c.next_line.ensures.state;
  bound = c.next_line.ensures.bound;
  named = All-same IsNamedLine _ _ c.in_ok-push.ensures.items (All-push IsNamedLine _ _ c.loop-made.invariant.named c.next_line.ensures.named);
}

-- the lines are those of the load, since as many were made as calls were asked for
pub returns-clause-lines : goal.returns-clause-lines
returns-clause-lines c =
    let end : c.loop-made.made ≡ c.args.calls = omega arith in
    c.loop-made.invariant.lines ∙ ap (drawn_lines c.args.seed c.args.threads) end
