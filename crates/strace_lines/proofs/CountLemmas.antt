-- The lines of counts are written one by one: those so far, and where one isn't written whole, a first part of all.
use Rattle.std.proofs.Common.{◌≡◌, ℕ, ◌+◌, ◌<◌, List, [], ◌∷◌, ◌++◌, Option, length, get_or, map, take, drop, sym, ap, subst, ◌∙◌, append-nil}
use Rattle.std.proofs.lemmas.Grind.{flat_map-append}
use Rattle.std.proofs.lemmas.List.{map_more, take-append-drop, map-append}
use Rattle.byte_ports.specs.Bytes.{AppendsPrefix}
use Rattle.byte_ports.proofs.Pieces.{AppendsPrefix-more}
use Rattle.strace_lines.specs.Texts.{counted_text, counts_text}

-- the lines of some counts and of others are those of all
counts_joined : (front rest : List (List ℕ × ℕ)) → counts_text (front ++ rest) ≡ counts_text front ++ counts_text rest
counts_joined front rest = flat_map-append (λ (c : List ℕ × ℕ). counted_text c.0 c.1) front rest

-- with one count more its line is behind those before it
pub counts_next : {X : Type 0} (f : X → List ℕ × ℕ) (items : List X) (i : ℕ) (d : X) → i < length items
    → counts_text (map f (take (i + 1) items))
    ≡ counts_text (map f (take i items)) ++ counted_text (f (get_or items i d)).0 (f (get_or items i d)).1
counts_next f items i d within =
    let line = counted_text (f (get_or items i d)).0 (f (get_or items i d)).1 in
    ap counts_text (map_more f items i d within)
    ∙ counts_joined (map f (take i items)) (f (get_or items i d) ∷ [])
    ∙ ap (λ (t : List ℕ). counts_text (map f (take i items)) ++ t) (append-nil line)

-- a first part of the lines of the first counts is one of all lines
pub counts_stop : {X : Type 0} (f : X → List ℕ × ℕ) (items : List X) (i : ℕ) {a b : Option (List ℕ)}
    → AppendsPrefix a b (counts_text (map f (take i items))) → AppendsPrefix a b (counts_text (map f items))
counts_stop f items i {a = a} {b = b} h =
    subst (AppendsPrefix a b)
    (sym (counts_joined (map f (take i items)) (map f (drop i items)))
    ∙ ap counts_text (sym (map-append f (take i items) (drop i items)) ∙ ap (map f) (take-append-drop i items)))
    (AppendsPrefix-more (counts_text (map f (drop i items))) h)
