-- One list of lines more behind those that were dealt out.
use Rattle.std.proofs.Common.{◌≡◌, ℕ, zero, suc, ◌<◌, ◌+◌, List, [], ◌∷◌, ◌++◌, map, get_or, length, sym, ap, ◌∙◌, subst, arith, Global}
use Rattle.std.proofs.lemmas.List.{map-append}
use Rattle.std.proofs.lemmas.List.Elements.{All-append}
use Rattle.std.specs.Prelude.{All, Vec, drop, vec_items}
use Rattle.atomic_table.proofs.Lists.{at_index, drop_at}
use Rattle.range_rw.proofs.Lists.{append_one}
use Rattle.trace_threads.specs.declared.worker.Line.{Line}

-- a list of one element, all of which is so
all_one : {A : Type 0} (P : A → Type 0) (a : A) → P a → All P (a ∷ [])
all_one P a h zero d lt = h
all_one P a h (suc k) d lt = absurd (omega arith)

-- one element more that is so
pub all_more : {A : Type 0} (P : A → Type 0) (l new : List A) (a : A) → new ≡ l ++ a ∷ [] → All P l → P a → All P new
all_more P l new a is all h = subst (λ m. All P m) (sym is) (All-append P l (a ∷ []) all (all_one P a h))

-- the lists as lists of lines, with one more
pub items_more : (lists new : List (Vec Line Global)) (x : Vec Line Global) → new ≡ lists ++ x ∷ []
    → map vec_items new ≡ map vec_items lists ++ vec_items x ∷ []
items_more lists new x is = ap (map vec_items) is ∙ map-append vec_items lists (x ∷ [])

-- their lengths, with those that are left
pub counts_more : (lists new : List (Vec Line Global)) (x : Vec Line Global) (counts : List ℕ) (i n : ℕ) → new ≡ lists ++ x ∷ []
    → i < length counts → n ≡ get_or counts i n → length (vec_items x) ≡ n
    → map length (map vec_items lists) ++ drop i counts ≡ counts → map length (map vec_items new) ++ drop (i + 1) counts ≡ counts
counts_more lists new x counts i n is lt at long so_far =
    let done = map length (map vec_items lists) in
    let behind : drop i counts ≡ n ∷ drop (suc i) counts = drop_at counts i n (at_index counts i n lt at) in
    let next : suc i ≡ i + 1 = omega arith in
    let more : map length (map vec_items new) ≡ done ++ n ∷ [] = ap (map length) (items_more lists new x is)
    ∙ (map-append length (map vec_items lists) (vec_items x ∷ []) ∙ ap (λ k. done ++ k ∷ []) long) in
    ap (λ l. l ++ drop (i + 1) counts) more ∙ (append_one done n (drop (i + 1) counts)
    ∙ (ap (λ k. done ++ n ∷ drop k counts) (sym next) ∙ (ap (λ l. done ++ l) (sym behind) ∙ so_far)))
