-- A load has as many lines as calls, and its lines are dealt out one by one.
use Rattle.std.proofs.Common.{◌≡◌, ℕ, zero, suc, ◌+◌, ◌*◌, ◌<◌, List, [], ◌∷◌, ◌++◌, length, map, take, get_or, refl, sym, ap, subst, ◌∙◌, arith, length-append}
use Rattle.std.proofs.lemmas.List.{length-map, map-append, take_more}
use Rattle.load_lines.specs.declared.calls.MadeLine.{MadeLine}
use Rattle.load_lines.specs.Calls.{drawn_lines, line_at}
use Rattle.load_lines.specs.Generator.{state_after}
use Rattle.trace_threads.specs.declared.worker.Line.{Line as Turn}
use Rattle.trace_driver.specs.declared.trace.Line.{Line}
use Rattle.trace_driver.specs.Dealt.{dealt}
use Rattle.trace_driver.specs.Play.{line_of}

-- a generator makes as many lines as calls are asked for
pub made_count : (seed threads calls : ℕ) → length (drawn_lines seed threads calls) ≡ calls
made_count seed threads zero = refl
made_count seed threads (suc made) =
    let before = made_count seed threads made in
    let more = length-append (drawn_lines seed threads made) (line_at (state_after seed (4 * made)) threads made ∷ []) in omega (arith, before, more)

-- a load has as many lines as calls
pub load_count : (seed threads calls : ℕ) → length (map line_of (drawn_lines seed threads calls)) ≡ calls
load_count seed threads calls = length-map (drawn_lines seed threads calls) line_of ∙ made_count seed threads calls

-- with the next made line dealt out the made lines up to it are
pub next_made : (threads i : ℕ) (made : List MadeLine) (d : MadeLine) (line : Line) (all : List (List Turn)) → i < length made
    → line ≡ line_of (get_or made i d) → all ≡ dealt threads (map line_of (take i made) ++ line ∷ []) → all ≡ dealt threads (map line_of (take (i + 1) made))
next_made threads i made d line all low is h =
    let lines : map line_of (take i made) ++ line ∷ [] ≡ map line_of (take (i + 1) made) = ap (λ (l : Line). map line_of (take i made) ++ l ∷ []) is
    ∙ sym (map-append line_of (take i made) (get_or made i d ∷ [])) ∙ ap (map line_of) (sym (take_more made i d low)) in
    subst (λ (l : List Line). all ≡ dealt threads l) lines h
