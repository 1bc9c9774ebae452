-- A text that is fed has one outcome: the texts before it keep one half for each process, and a text and two joined
-- halves are each one item or one refusal.
use Rattle.std.proofs.Common.{◌≡◌, ◌≢◌, ℕ, ◌-◌, List, [], ◌∷◌, ◌++◌, take, drop, Result, Ok, Err, refl, sym, ap, subst, ◌∙◌, inl, inr}
use Rattle.std.specs.Prelude.{◌⊎◌}
use Rattle.strace_reader.specs.declared.item.BadCall.{BadCall}
use Rattle.strace_reader.specs.declared.item.Item.{Item}
use Rattle.strace_reader.specs.declared.item.Item.TheVariants.{Played, Unfinished, Resumed, Other as Passed, Blank as Nothing}
use Rattle.strace_reader.specs.declared.item.Name.{Name}
use Rattle.strace_reader.specs.declared.joiner.Fed.{Fed}
use Rattle.strace_reader.specs.declared.joiner.Fed.TheVariants.{Played as Answered, Kept, Skipped, Blank}
use Rattle.strace_reader.specs.Grammar.{Spells, Refuses}
use Rattle.strace_reader.specs.Joiner.{answer_of}
use Rattle.strace_reader.specs.Joining.{IsKept, KeepsNone, Drops, IsJoined, IsAnswer, RefusesFed}
use Rattle.strace_reader.specs.Laws.{HasOneOutcome}
use Rattle.strace_reader.proofs.JoinFacts.{kept_cases, nothing_kept, same_places}
use Rattle.strace_reader.proofs.OneOutcome.{one_outcome}

-- ---- one half is kept

abbrev IsSameHalf : Name → Name → List ℕ → List ℕ → Type 0
IsSameHalf n m h k = (n ≡ m) × (h ≡ k)

slices_same : (text : List ℕ) (p : ℕ) (n m : Name) (a b c d : ℕ) (h k : List ℕ) → Spells text (Unfinished p n a c)
    → Spells text (Unfinished p m b d) → h ≡ take (c - a) (drop a text) → k ≡ take (d - b) (drop b text) → IsSameHalf n m h k
slices_same text p n m a b c d h k s t e g = let same = same_places p n m a b c d ((one_outcome text).item (Unfinished p n a c) (Unfinished p m b d) s t) in
    (same.name, e ∙ ap (λ x. take (x - a) (drop a text)) same.to ∙ ap (λ x. take (d - x) (drop x text)) same.from ∙ sym g)

-- what is kept for a process is one first half
kept_one : (fed : List (List ℕ)) (p : ℕ) (n m : Name) (h k : List ℕ) → IsKept fed p n h → IsKept fed p m k → IsSameHalf n m h k
kept_one [] p n m h k x y = absurd (nothing_kept x.later x.text x.earlier x.parts)
kept_one (text ∷ fed) p n m h k x y = elim (kept_cases text fed p n h x) [
  | inl a ↦ elim (kept_cases text fed p m k y) [
    | inl b ↦ slices_same text p n m a.0 b.0 a.1 b.1 h k a.2 b.2 a.3 b.3
    | inr b ↦ absurd (b.0 (Unfinished p n a.0 a.1) a.2 refl)
  ]
  | inr a ↦ elim (kept_cases text fed p m k y) [ inl b ↦ absurd (a.0 (Unfinished p m b.0 b.1) b.2 refl) | inr b ↦ kept_one fed p n m h k a.1 b.1 ]
]

drops_one : (fed : List (List ℕ)) (p c d : ℕ) → Drops fed p c → Drops fed p d → c ≡ d
drops_one fed p c d (inl h) (inl g) = h.3 ∙ sym g.3
drops_one fed p c d (inl h) (inr g) = absurd (g.0 h.0 h.1 h.2)
drops_one fed p c d (inr h) (inl g) = absurd (h.0 g.0 g.1 g.2)
drops_one fed p c d (inr h) (inr g) = h.1 ∙ sym g.1

-- ---- the outcome by the text's item

abbrev Outcome : Type 0
Outcome = Result Fed BadCall

abbrev as_fed : Fed → Outcome
as_fed a = Ok a

abbrev as_bad : BadCall → Outcome
as_bad b = Err b

-- what joined halves come to
abbrev IsRead : ℕ → List ℕ → Outcome → Type 0
IsRead p joined r = ((item : Item) × Spells joined item × (r ≡ as_fed (answer_of p item))) ⊎ ((bad : BadCall) × Refuses joined bad × (r ≡ as_bad bad))

-- what a second half comes to
abbrev IsJoin : List (List ℕ) → ℕ → Name → List ℕ → Outcome → Type 0
IsJoin fed p n rest r = (KeepsNone fed p × (r ≡ as_fed (Skipped 1)))
    ⊎ ((other : Name) × (half : List ℕ) × IsKept fed p other half × (other ≢ n) × (r ≡ as_fed (Skipped 2)))
    ⊎ ((half : List ℕ) × IsKept fed p n half × IsRead p (half ++ rest) r)

abbrev IsBy : List (List ℕ) → List ℕ → Item → Outcome → Type 0
IsBy fed text (Played p c d) r = (count : ℕ) × Drops fed p count × (r ≡ as_fed (Answered p c d count))
IsBy fed text (Unfinished p n from to) r = (count : ℕ) × Drops fed p count × (r ≡ as_fed (Kept count))
IsBy fed text (Resumed p n from) r = IsJoin fed p n (drop from text) r
IsBy fed text Passed r = r ≡ as_fed (Skipped 1)
IsBy fed text Nothing r = r ≡ as_fed Blank

read_one : (p : ℕ) (joined : List ℕ) (r s : Outcome) → IsRead p joined r → IsRead p joined s → r ≡ s
read_one p joined r s (inl h) (inl g) = h.2 ∙ ap (λ x. as_fed (answer_of p x)) ((one_outcome joined).item h.0 g.0 h.1 g.1) ∙ sym g.2
read_one p joined r s (inl h) (inr g) = absurd ((one_outcome joined).never_both h.0 g.0 h.1 g.1)
read_one p joined r s (inr h) (inl g) = absurd ((one_outcome joined).never_both g.0 h.0 g.1 h.1)
read_one p joined r s (inr h) (inr g) = h.2 ∙ ap (λ x. as_bad x) ((one_outcome joined).refusal h.0 g.0 h.1 g.1) ∙ sym g.2

join_one : (fed : List (List ℕ)) (p : ℕ) (n : Name) (rest : List ℕ) (r s : Outcome) → IsJoin fed p n rest r → IsJoin fed p n rest s → r ≡ s
join_one fed p n rest r s (inl h) (inl g) = h.1 ∙ sym g.1
join_one fed p n rest r s (inl h) (inr (inl g)) = absurd (h.0 g.0 g.1 g.2)
join_one fed p n rest r s (inl h) (inr (inr g)) = absurd (h.0 n g.0 g.1)
join_one fed p n rest r s (inr (inl h)) (inl g) = absurd (g.0 h.0 h.1 h.2)
join_one fed p n rest r s (inr (inl h)) (inr (inl g)) = h.4 ∙ sym g.4
join_one fed p n rest r s (inr (inl h)) (inr (inr g)) = absurd (h.3 (kept_one fed p h.0 n h.1 g.0 h.2 g.1).0)
join_one fed p n rest r s (inr (inr h)) (inl g) = absurd (g.0 n h.0 h.1)
join_one fed p n rest r s (inr (inr h)) (inr (inl g)) = absurd (g.3 (kept_one fed p g.0 n g.1 h.0 g.2 h.1).0)
join_one fed p n rest r s (inr (inr h)) (inr (inr g)) =
    let same = (kept_one fed p n n h.0 g.0 h.1 g.1).1 in read_one p (g.0 ++ rest) r s (subst (λ x. IsRead p (x ++ rest) r) same h.2) g.2

by_one : (fed : List (List ℕ)) (text : List ℕ) (i : Item) (r s : Outcome) → IsBy fed text i r → IsBy fed text i s → r ≡ s
by_one fed text (Played p c d) r s h g = h.2 ∙ ap (λ x. as_fed (Answered p c d x)) (drops_one fed p h.0 g.0 h.1 g.1) ∙ sym g.2
by_one fed text (Unfinished p n from to) r s h g = h.2 ∙ ap (λ x. as_fed (Kept x)) (drops_one fed p h.0 g.0 h.1 g.1) ∙ sym g.2
by_one fed text (Resumed p n from) r s h g = join_one fed p n (drop from text) r s h g
by_one fed text Passed r s h g = h ∙ sym g
by_one fed text Nothing r s h g = h ∙ sym g

abbrev HasItem : List (List ℕ) → List ℕ → Outcome → Type 0
HasItem fed text r = (i : Item) × Spells text i × IsBy fed text i r

joined_by : (fed : List (List ℕ)) (text : List ℕ) (p : ℕ) (joined : List ℕ) (r : Outcome) → IsJoined fed text p joined → IsRead p joined r → HasItem fed text r
joined_by fed text p joined r j h = (Resumed p j.0 j.1, j.3, inr (inr (j.2, j.4, subst (λ x. IsRead p x r) j.5 h)))

skipped_by : (fed : List (List ℕ)) (text : List ℕ) (count : ℕ) → IsAnswer fed text (Skipped count) → HasItem fed text (as_fed (Skipped count))
skipped_by fed text count (inl h) = (Passed, h.0, ap (λ x. as_fed (Skipped x)) h.1)
skipped_by fed text count (inr (inl h)) = let a = h.0 in (Resumed a.0 a.1 a.2, a.3, inl (a.4, ap (λ x. as_fed (Skipped x)) h.1))
skipped_by fed text count (inr (inr (inl h))) = let a = h.0 in (Resumed a.0 a.1 a.3, a.5, inr (inl (a.2, a.4, a.6, a.7, ap (λ x. as_fed (Skipped x)) h.1)))
skipped_by fed text count (inr (inr (inr (inl h)))) =
    joined_by fed text h.0 h.1 (as_fed (Skipped count)) h.2 (inl (Passed, h.3, ap (λ x. as_fed (Skipped x)) h.4))
skipped_by fed text count (inr (inr (inr (inr h)))) =
    let a = h.3 in joined_by fed text h.0 h.1 (as_fed (Skipped count)) h.2 (inl (Unfinished a.0 a.1 a.2 a.3, a.4, ap (λ x. as_fed (Skipped x)) h.4))

answer_by : (fed : List (List ℕ)) (text : List ℕ) (a : Fed) → IsAnswer fed text a → HasItem fed text (as_fed a)
answer_by fed text (Answered p c d count) (inl h) = (Played p c d, h.0, (count, h.1, refl))
answer_by fed text (Answered p c d count) (inr h) = joined_by fed text p h.0 (as_fed (Answered p c d count)) h.1
    (inl (Played 0 c d, h.2, ap (λ x. as_fed (Answered p c d x)) h.3))
answer_by fed text (Kept count) h = (Unfinished h.0 h.1 h.2 h.3, h.4, (count, h.5, refl))
answer_by fed text (Skipped count) h = skipped_by fed text count h
answer_by fed text Blank h = (Nothing, h, refl)

-- two outcomes of a text that is one item are one
item_one : (fed : List (List ℕ)) (text : List ℕ) (r s : Outcome) → HasItem fed text r → HasItem fed text s → r ≡ s
item_one fed text r s h g = by_one fed text g.0 r s (subst (λ x. IsBy fed text x r) ((one_outcome text).item h.0 g.0 h.1 g.1) h.2) g.2

bad_one : (fed : List (List ℕ)) (text : List ℕ) (a b : BadCall) → RefusesFed fed text a → RefusesFed fed text b → a ≡ b
bad_one fed text a b (inl h) (inl g) = (one_outcome text).refusal a b h g
bad_one fed text a b (inl h) (inr g) = absurd ((one_outcome text).never_both (Resumed g.0 g.2.0 g.2.1) a g.2.3 h)
bad_one fed text a b (inr h) (inl g) = absurd ((one_outcome text).never_both (Resumed h.0 h.2.0 h.2.1) b h.2.3 g)
bad_one fed text a b (inr h) (inr g) = cc (item_one fed text (as_bad a) (as_bad b) (joined_by fed text h.0 h.1 (as_bad a) h.2 (inr (a, h.3, refl)))
    (joined_by fed text g.0 g.1 (as_bad b) g.2 (inr (b, g.3, refl))))

fed_or_bad : (fed : List (List ℕ)) (text : List ℕ) (a : Fed) (b : BadCall) → IsAnswer fed text a → RefusesFed fed text b → ⊥
fed_or_bad fed text a b h (inl g) = let k = answer_by fed text a h in (one_outcome text).never_both k.0 b k.1 g
fed_or_bad fed text a b h (inr g) = cc (item_one fed text (as_fed a) (as_bad b) (answer_by fed text a h)
    (joined_by fed text g.0 g.1 (as_bad b) g.2 (inr (b, g.3, refl))))

-- a text that is fed has one outcome
pub one_answer : (fed : List (List ℕ)) (text : List ℕ) → HasOneOutcome (IsAnswer fed text) (RefusesFed fed text)
one_answer fed text = record {
  item = λ a b x y. cc (item_one fed text (as_fed a) (as_fed b) (answer_by fed text a x) (answer_by fed text b y));
  refusal = bad_one fed text;
  never_both = fed_or_bad fed text;
}
