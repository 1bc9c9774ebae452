-- The line of two halves is a line of their process: it begins with the first half's number and name.
use Rattle.std.proofs.Common.{◌≡◌, ℕ, ◌+◌, List, [], ◌∷◌, ◌++◌, length, take, drop}
use Rattle.std.proofs.Common.{Bool, false, refl, sym, ap, subst, ◌∙◌, append_assoc, arith}
use Rattle.std.specs.Prelude.{◌==◌, if◌then◌else◌}
use Rattle.std.proofs.lemmas.List.{length-append}
use Rattle.std.proofs.Math.Seq.{take-append_seam, take-append-add}
use Rattle.line_parts.specs.Parts.{starts}
use Rattle.line_parts.specs.Leaves.{is, EachIs}
use Rattle.line_parts.proofs.Leaves.{not_both, same_is}
use Rattle.strace_reader.specs.declared.item.Item.TheVariants.{Unfinished}
use Rattle.strace_reader.specs.declared.item.Name.{Name}
use Rattle.strace_reader.specs.declared.item.Name.TheVariants.{Mmap}
use Rattle.strace_reader.specs.Words.{call_head}
use Rattle.strace_reader.specs.Grammar.{BeginsWith, IsCut, IsHalf, IsBody, Spells, unfinished}
use Rattle.raw_lines.proofs.Searches.{isnt}
use Rattle.raw_lines.proofs.MarkFacts.{each_by}
use Rattle.raw_lines.proofs.LineFacts.{cut_parts}
use Rattle.raw_trace.proofs.Prefixes.{same_prefix}

-- ---- what is kept of a first half

-- the byte is no space and no beginning of an ending
abbrev is_head_byte : ℕ → Bool
is_head_byte b = if b == 32 then false else isnt 60 b

head_bytes : (name : Name) → EachIs is_head_byte (call_head name)
head_bytes Mmap = each_by is_head_byte (call_head Mmap) refl
head_bytes name = each_by is_head_byte (call_head name) refl

-- a word of bytes that pass a test is not cut by one that fails it
pub head_within : (test : ℕ → Bool) (word rest half tail : List ℕ) → EachIs test word → starts test tail ≡ false → word ++ rest ≡ half ++ tail
    → BeginsWith word half
head_within test [] rest half tail each none e = (half, refl)
head_within test (b ∷ word) rest [] tail each none e = absurd (not_both (sym (ap (starts test) e) ∙ each.0) none)
head_within test (b ∷ word) rest (c ∷ half) tail each none e =
    let k : word ++ rest ≡ half ++ tail = cc in
    let h : c ≡ b = cc in
    let w = head_within test word rest half tail each.1 none k in
    (w.0, ap (λ (x : ℕ). x ∷ half) h ∙ ap (λ (x : List ℕ). b ∷ x) w.1)

ending_starts : (spaces : List ℕ) → EachIs (is 32) spaces → starts is_head_byte (spaces ++ unfinished) ≡ false
ending_starts [] h = refl
ending_starts (s ∷ spaces) h = ap is_head_byte (same_is 32 s h.0)

-- what is kept of a first half begins with its name
half_named : (name : Name) (body half : List ℕ) → BeginsWith (call_head name) body → IsHalf body half → BeginsWith (call_head name) half
half_named name body half named h =
    head_within is_head_byte (call_head name) named.0 half (h.spaces ++ unfinished) (head_bytes name) (ending_starts h.spaces h.only_spaces)
    (sym named.1 ∙ h.parts)

-- what is kept of a first half is its number and what is kept of its body
kept_front : (line front body half tail : List ℕ) (from to : ℕ) → line ≡ front ++ body → body ≡ half ++ tail → from + length body ≡ length line
    → to ≡ from + length half → take to line ≡ front ++ half
kept_front line front body half tail from to e k l t =
    let m = ap length e ∙ length-append front body in
    let n : to ≡ length front + length half = omega arith in
    ap (λ (x : ℕ). take x line) n ∙ ap (take (length front + length half)) e ∙ take-append-add front body (length half)
    ∙ ap (λ (x : List ℕ). front ++ take (length half) x) k ∙ ap (λ (x : List ℕ). front ++ x) (take-append_seam half tail)

-- ---- the line of two halves

-- the line of two halves is one of their process
pub joined_cut : (process : ℕ) (name : Name) (first second joined : List ℕ) (from to behind : ℕ) → Spells first (Unfinished process name from to)
    → joined ≡ take to first ++ drop behind second → (body : List ℕ) × IsCut joined process body
unfolding Spells IsBody
joined_cut process name first second joined from to behind h e =
    let c = cut_parts first process h.0 h.2 in
    let b = h.3 in
    let half = b.0 in
    let rest = drop behind second in
    let t : to ≡ from + length half = h.5 ∙ ap (λ (x : ℕ). from + x) b.3 in
    let kept = kept_front first c.0 h.0 half (b.2.spaces ++ unfinished) from to c.1 b.2.parts h.4 t in
    let head = half_named name h.0 half b.1 b.2 in
    let named : BeginsWith (call_head name) (half ++ rest) =
    (head.0 ++ rest, ap (λ (x : List ℕ). x ++ rest) head.1 ∙ append_assoc (call_head name) head.0 rest) in
    let k : joined ≡ c.0 ++ (half ++ rest) = e ∙ ap (λ (x : List ℕ). x ++ rest) kept ∙ append_assoc c.0 half rest in
    (half ++ rest, subst (λ (x : List ℕ). IsCut x process (half ++ rest)) (sym k) (same_prefix first c.0 h.0 (half ++ rest) process name h.2 c.1 named))
