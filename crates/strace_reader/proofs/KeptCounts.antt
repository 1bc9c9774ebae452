-- No more halves are left than texts were fed: each text is the half of one process at most.
use Rattle.std.proofs.Common.{◌≢◌, ℕ, suc, ◌+◌, ◌<◌, ◌≤◌, List, [], ◌∷◌, length, inl, inr, arith}
use Rattle.std.specs.Prelude.{◌⊎◌, All, AllPairs}
use Rattle.std.proofs.lemmas.List.Elements.{All-cons, All-head, All-tail, All-weaker, All-contains_itself}
use Rattle.std.proofs.lemmas.List.Kept.{AllPairs-from_increasing}
use Rattle.strace_reader.specs.declared.item.Item.TheVariants.{Unfinished}
use Rattle.strace_reader.specs.declared.item.Name.{Name}
use Rattle.strace_reader.specs.Grammar.{Spells}
use Rattle.strace_reader.specs.Joining.{IsKept, CountsKept}
use Rattle.strace_reader.proofs.JoinFacts.{kept_cases, kept_step, nothing_kept}

abbrev HasHalf : List (List ℕ) → ℕ → Type 0
HasHalf fed p = (name : Name) × (half : List ℕ) × IsKept fed p name half

-- each of them is another
abbrev AreApart : List ℕ → Type 0
AreApart [] = Unit {0}
AreApart (p ∷ ps) = All (λ q. p ≢ q) ps × AreApart ps

-- the text is a first half of the process
abbrev IsHalfOf : List ℕ → ℕ → Type 0
IsHalfOf text p = (name : Name) × (from to : ℕ) × Spells text (Unfinished p name from to)

half_cases : (text : List ℕ) (fed : List (List ℕ)) (p : ℕ) → HasHalf (text ∷ fed) p → IsHalfOf text p ⊎ HasHalf fed p
half_cases text fed p (n, half, k) = elim (kept_cases text fed p n half k) [ inl h ↦ inl (n, h.0, h.1, h.2) | inr r ↦ inr (n, half, r.1) ]

-- the halves of other processes were kept before
others_kept : (text : List ℕ) (fed : List (List ℕ)) (p : ℕ) → IsHalfOf text p → (ps : List ℕ) → All (λ q. p ≢ q) ps
    → All (HasHalf (text ∷ fed)) ps → All (HasHalf fed) ps
others_kept text fed p is [] apart all = λ k d l. absurd (omega (arith, l))
others_kept text fed p is (q ∷ ps) apart all =
    let h = All-head (HasHalf (text ∷ fed)) q ps all in
    let step = kept_step text (Unfinished p is.0 is.1 is.2) fed q h.0 h.1 is.3 (All-head (λ x. p ≢ x) q ps apart) h.2 in
    All-cons (HasHalf fed) q ps (h.0, h.1, step) (others_kept text fed p is ps (All-tail (λ x. p ≢ x) q ps apart) (All-tail (HasHalf (text ∷ fed)) q ps all))

-- the processes but for the one whose half the text is
record Before (fed : List (List ℕ)) (ps : List ℕ) : Type 0 where
  -- these processes
  pub others : List ℕ
  -- they are all different
  pub apart : AreApart others
  -- each has a first half that was kept before the text
  pub kept : All (HasHalf fed) others
  -- at most one of the processes is missing
  pub few : length ps ≤ length others + 1
  -- what is none of the processes is none of these
  pub among : (x : ℕ) → All (λ q. x ≢ q) ps → All (λ q. x ≢ q) others

before : (text : List ℕ) (fed : List (List ℕ)) (ps : List ℕ) → AreApart ps → All (HasHalf (text ∷ fed)) ps → Before fed ps
before text fed [] apart all = record { others = []; apart = tt; kept = λ k d l. absurd (omega (arith, l)); few = omega arith; among = λ x h. h }
before text fed (p ∷ ps) apart all = elim (half_cases text fed p (All-head (HasHalf (text ∷ fed)) p ps all)) [
  | inl is ↦ record {
    others = ps;
    apart = apart.1;
    kept = others_kept text fed p is ps apart.0 (All-tail (HasHalf (text ∷ fed)) p ps all);
    few = omega arith;
    among = λ x h. All-tail (λ q. x ≢ q) p ps h;
  }
  | inr is ↦
      let r = before text fed ps apart.1 (All-tail (HasHalf (text ∷ fed)) p ps all) in let few = r.few in
      record {
        others = p ∷ r.others;
        apart = (r.among p apart.0, r.apart);
        kept = All-cons (HasHalf fed) p r.others is r.kept;
        few = omega (arith, few);
        among = λ x h. All-cons (λ q. x ≢ q) p r.others (All-head (λ q. x ≢ q) p ps h) (r.among x (All-tail (λ q. x ≢ q) p ps h));
      }
]

no_more : (fed : List (List ℕ)) (ps : List ℕ) → AreApart ps → All (HasHalf fed) ps → length ps ≤ length fed
no_more [] [] apart all = omega arith
no_more [] (p ∷ ps) apart all = let k = (All-head (HasHalf []) p ps all).2 in absurd (nothing_kept k.later k.text k.earlier k.parts)
no_more (text ∷ fed) ps apart all = let r = before text fed ps apart all in omega (arith, r.few, no_more fed r.others r.apart r.kept)

are_apart : (ps : List ℕ) → AllPairs (λ x y. x < y) ps → AreApart ps
are_apart [] h = tt
are_apart (p ∷ ps) h = (
  λ k d l e. omega (arith, h 0 (suc k) d (omega arith) (omega (arith, l)), e),
  are_apart ps (λ i j d a b. h (suc i) (suc j) d (omega (arith, a)) (omega (arith, b))),
)

-- no more are left than were fed
pub few_kept : (fed : List (List ℕ)) (count : ℕ) → CountsKept fed count → count ≤ length fed
few_kept fed count c =
    let all = All-weaker _ (HasHalf fed) (λ p. (c.each p).0) c.processes (All-contains_itself c.processes) in
    let k = no_more fed c.processes (are_apart c.processes (AllPairs-from_increasing c.processes c.ascending)) all in
    elim c.is [ inl e ↦ omega (arith, e, k) | inr e ↦ omega (arith, e.1, k) ]
