-- Splices one after another, as one.
use Rattle.std.proofs.Common.{◌≡◌, ℕ, ◌+◌, ◌-◌, ◌<◌, ◌≤◌, List, [], ◌∷◌, ◌++◌, length, get_or, set, take, drop}
use Rattle.std.proofs.Common.{sym, ap, ◌∙◌, arith}
use Rattle.std.specs.Prelude.{All}
use Rattle.std.specs.List.{splice}
use Rattle.std.proofs.Math.Seq.{set-append_seam}
use Rattle.std.proofs.lemmas.List.{append_assoc, length-append, length-take-le, length-drop, take_at, drop_at, drop-drop, drop_more, take_more}
use Rattle.std.proofs.lemmas.List.{take-append-le, take-append-drop, take_all}
use Rattle.std.proofs.lemmas.List.Elements.{All-append, All-take, All-drop}

-- how long a splice is
pub length-splice : (R u : List ℕ) (p q : ℕ) → p ≤ q → q ≤ length R → length (splice R p q u) + (q - p) ≡ length R + length u
length-splice R u p q ordered there =
    let a = length-append (take p R) (u ++ drop q R) in
    let b = length-append u (drop q R) in
    let c = length-take-le p R (omega arith) in
    let d = length-drop q R in
    omega arith

-- what is so of all rows before and of those that come is so of all after
pub all_spliced : (P : ℕ → Type 0) (R u : List ℕ) (p q : ℕ) → All P R → All P u → All P (splice R p q u)
all_spliced P R u p q all new = All-append P (take p R) (u ++ drop q R) (All-take P p R all) (All-append P u (drop q R) new (All-drop P q R all))

-- a splice, and another one right behind what came
pub splice_behind : (R u v : List ℕ) (p q d : ℕ) → p ≤ length R → splice (splice R p q u) (p + length u) (p + length u + d) v ≡ splice R p (q + d) (u ++ v)
splice_behind R u v p q d there =
    let front : List ℕ = take p R ++ u in
    let back : List ℕ = drop q R in
    let long : length front ≡ p + length u = let a = length-append (take p R) u in let b = length-take-le p R there in omega arith in
    let whole : take p R ++ (u ++ back) ≡ front ++ back = sym (append_assoc (take p R) u back) in
    let one : take (p + length u) (take p R ++ (u ++ back)) ≡ front = ap (take (p + length u)) whole ∙ take_at front back (p + length u) long in
    let rest : drop (p + length u) (take p R ++ (u ++ back)) ≡ back = ap (drop (p + length u)) whole ∙ drop_at front back (p + length u) long in
    let two : drop (p + length u + d) (take p R ++ (u ++ back)) ≡ drop (q + d) R =
    sym (drop-drop d (p + length u) (take p R ++ (u ++ back))) ∙ (ap (drop d) rest ∙ drop-drop d q R) in
    (λ j. one j ++ (v ++ two j))
    ∙ (append_assoc (take p R) u (v ++ drop (q + d) R) ∙ ap (λ (l : List ℕ). take p R ++ l) (sym (append_assoc u v (drop (q + d) R))))

-- rows that go, and then those right before them
pub cut_before : (R : List ℕ) (a b c : ℕ) → a ≤ b → b ≤ length R → splice (splice R b c []) a b [] ≡ splice R a c []
cut_before R a b c ordered there =
    let long : length (take b R) ≡ b = length-take-le b R there in
    let split : take b R ++ drop b R ≡ R = take-append-drop b R in
    let one : take a (take b R ++ drop c R) ≡ take a R = take-append-le a (take b R) (drop c R) (omega arith)
    ∙ (sym (take-append-le a (take b R) (drop b R) (omega arith)) ∙ ap (take a) split) in
    let two : drop b (take b R ++ drop c R) ≡ drop c R = drop_at (take b R) (drop c R) b long in
    λ j. one j ++ two j

-- nothing goes and nothing comes
pub splice_none : (R : List ℕ) (p : ℕ) → splice R p p [] ≡ R
splice_none R p = take-append-drop p R

-- one row more is laid over the next one
pub lays_on : (R more : List ℕ) (r k : ℕ) → r + k < length R → k < length more
    → set (splice R r (r + k) (take k more)) (r + k) (get_or more k 0) ≡ splice R r (r + (k + 1)) (take (k + 1) more)
lays_on R more r k there some =
    let w : ℕ = get_or more k 0 in
    let front : List ℕ = take r R ++ take k more in
    let long : length front ≡ r + k =
    let a = length-append (take r R) (take k more) in
    let b = length-take-le r R (omega arith) in
    let c = length-take-le k more (omega arith) in omega arith in
    let next : r + k + 1 ≡ r + (k + 1) = omega arith in
    let back : drop (r + k) R ≡ get_or R (r + k) 0 ∷ drop (r + (k + 1)) R = drop_more R (r + k) 0 there ∙ ap (λ (n : ℕ). get_or R (r + k) 0 ∷ drop n R) next in
    let whole : splice R r (r + k) (take k more) ≡ front ++ (get_or R (r + k) 0 ∷ drop (r + (k + 1)) R) =
    sym (append_assoc (take r R) (take k more) (drop (r + k) R)) ∙ ap (λ (l : List ℕ). front ++ l) back in
    let laid : set (front ++ (get_or R (r + k) 0 ∷ drop (r + (k + 1)) R)) (r + k) w ≡ front ++ (w ∷ drop (r + (k + 1)) R) =
    ap (λ (n : ℕ). set (front ++ (get_or R (r + k) 0 ∷ drop (r + (k + 1)) R)) n w) (sym long)
    ∙ set-append_seam front (get_or R (r + k) 0) (drop (r + (k + 1)) R) w in
    let last : take (k + 1) more ≡ take k more ++ (w ∷ []) = take_more more k 0 some in
    ap (λ (l : List ℕ). set l (r + k) w) whole ∙ (laid ∙ (append_assoc (take r R) (take k more) (w ∷ drop (r + (k + 1)) R)
    ∙ ap (λ (l : List ℕ). take r R ++ l) (sym (append_assoc (take k more) (w ∷ []) (drop (r + (k + 1)) R)) ∙ (λ j. sym last j ++ drop (r + (k + 1)) R))))

-- a splice of the same rows from and up to the same places
pub same_splice : {now R S : List ℕ} (u : List ℕ) {p q r s : ℕ} → now ≡ splice R p q u → R ≡ S → p ≡ r → q ≡ s → now ≡ splice S r s u
same_splice u spliced same from until = spliced ∙ (λ j. splice (same j) (from j) (until j) u)

-- where all of the rows have come that were to come, so has the list of them
pub all_come : (rows more : List ℕ) (from end last k : ℕ) {now : List ℕ} → k ≡ length more → end ≡ last → now ≡ splice rows from end (take k more)
    → now ≡ splice rows from last more
all_come rows more from end last k all same come =
    come ∙ (ap (λ n. splice rows from n (take k more)) same ∙ ap (splice rows from last) (take_all k more (omega arith)))
