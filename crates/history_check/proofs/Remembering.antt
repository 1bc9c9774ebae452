-- What is remembered of the entries that were taken tells whether the next one is in its place: where its line number
-- is below what is kept of its worker, one entry of that worker has a line number that isn't below it.
use Rattle.std.specs.Prelude.{All, AllPairs, slice_index}
use Rattle.std.proofs.Common.{◌≡◌, ◌≢◌, ℕ, ◌+◌, ◌<◌, ◌≤◌, List, [], ◌∷◌, ◌++◌, length, get_or, set, refl, sym, ap, ◌∙◌, subst, inl, inr, arith, length-append}
use Rattle.std.proofs.Math.Seq.{get_or-append_seam}
use Rattle.std.proofs.lemmas.Bool.{cases_lt, cases_eq}
use Rattle.std.proofs.lemmas.List.{get_or_append_left, get_or-set_same, get_or-set_other}
use Rattle.std.proofs.lemmas.List.Elements.{All-append, All-cons, All-nil, Contains-append_left, Contains-append_right}
use Rattle.space_model.specs.declared.entries.Entry.{Entry}
use Rattle.history_check.specs.declared.taking.Seen.{Seen}
use Rattle.history_check.specs.Logs.{WorkersRise}
use Rattle.history_check.specs.Checking.{IsBelow, IsInPlace, IsSeen}

-- the second entry's line number is higher, where both are of one worker
abbrev Rises : Entry → Entry → Type 0
Rises one other = one.worker ≡ other.worker → one.line < other.line

-- one more at the end, which all others are paired with
pairs_more : {X : Type 0} (R : X → X → Type 0) (xs : List X) (y : X) → AllPairs R xs → All (λ x. R x y) xs → AllPairs R (xs ++ y ∷ [])
pairs_more R xs y pairs all i j d below within = let long = length-append xs (y ∷ []) in elim (cases_lt j (length xs)) [
  | inl lt ↦
      let first = get_or_append_left xs (y ∷ []) d i (omega (arith, below, lt)) in
      let second = get_or_append_left xs (y ∷ []) d j lt in
      subst (λ b. R (get_or (xs ++ y ∷ []) i d) b) (sym second) (subst (λ a. R a (get_or xs j d)) (sym first) (pairs i j d below lt))
  | inr ge ↦
      let at : length xs ≡ j = omega (arith, long, within, ge) in
      let first = get_or_append_left xs (y ∷ []) d i (omega (arith, below, at)) in
      let second : get_or (xs ++ y ∷ []) j d ≡ y = subst (λ k. get_or (xs ++ y ∷ []) k d ≡ y) at (get_or-append_seam xs y [] d) in
      subst (λ b. R (get_or (xs ++ y ∷ []) i d) b) (sym second) (subst (λ a. R a y) (sym first) (all i d (omega (arith, below, at))))
]

-- an entry whose line number is below what is kept of its worker isn't in order
pub out_of_order : (before : List Entry) (seen : Seen) (e : Entry) → IsSeen before seen → e.worker < 16 → e.line < slice_index seen.last e.worker
    → ¬ WorkersRise (before ++ e ∷ [])
out_of_order before seen e h small low rise = elim (h.last e.worker small) [
  | inl none ↦ omega (arith, none, low)
  | inr (f, (k, within, at), worker, line) ↦
      let long = length-append before (e ∷ []) in let pair = rise k (length before) f within (omega (arith, long)) in
      let first : get_or (before ++ e ∷ []) k f ≡ f = get_or_append_left before (e ∷ []) f k within ∙ at in
      let second : get_or (before ++ e ∷ []) (length before) f ≡ e = get_or-append_seam before e [] f in
      let lower = (subst (λ b. Rises f b) second (subst (λ a. Rises a (get_or (before ++ e ∷ []) (length before) f)) first pair)) worker in
      omega (arith, lower, line, low)
]

-- an entry with the next number, whose line number isn't below that, is in its place
pub in_place : (before : List Entry) (seen : Seen) (e : Entry) → IsSeen before seen → e.number ≡ seen.next → slice_index seen.last e.worker ≤ e.line
    → IsInPlace before e
in_place before seen e h number high = record {
  number = number ∙ h.number;
  order = pairs_more Rises before e h.rise (λ k d within same.
      let below = (h.above k d within).1 in
      let kept : slice_index seen.last (get_or before k d).worker ≡ slice_index seen.last e.worker = ap (slice_index seen.last) same in
      omega (arith, below, kept, high));
}

-- one entry more
pub seen_more : (before : List Entry) (old new : Seen) (e : Entry) → length old.last ≡ 16 → IsSeen before old → IsInPlace before e → e.worker < 16
    → new.next ≡ old.next + 1 → new.last ≡ set old.last e.worker (e.line + 1) → IsSeen (before ++ e ∷ []) new
seen_more before old new e size h place small next last =
    let long = length-append before (e ∷ []) in
    let here : slice_index new.last e.worker ≡ e.line + 1 =
    ap (λ l. slice_index l e.worker) last ∙ get_or-set_same old.last e.worker (e.line + 1) 0 (omega (arith, small, size)) in
    let there = λ (w : ℕ) (other : w ≢ e.worker).
    ap (λ l. slice_index l w) last ∙ get_or-set_other old.last e.worker w (e.line + 1) 0 other in
    record {
      number = omega (arith, next, h.number, long);
      rise = place.order;
      above = All-append (IsBelow new.last) before (e ∷ []) (λ k d within. let was = h.above k d within in (
        was.0,
        elim (cases_eq (get_or before k d).worker e.worker) [
          | inl same ↦
              let kept : slice_index new.last (get_or before k d).worker ≡ slice_index new.last e.worker = ap (slice_index new.last) same in
              let pair = earlier before e place.order k d within same in omega (arith, kept, here, pair)
          | inr other ↦ let kept = there (get_or before k d).worker other in omega (arith, kept, was.1)
        ],
      )) (All-cons (IsBelow new.last) e [] (small, omega (arith, here)) (All-nil (IsBelow new.last)));
      last = λ w low. elim (cases_eq w e.worker) [
        | inl same ↦ inr (e, Contains-append_right before (e ∷ []) e (0, omega arith, refl), sym same, sym here ∙ ap (slice_index new.last) (sym same))
        | inr other ↦ elim (h.last w low) [
          | inl none ↦ inl (there w other ∙ none)
          | inr (f, member, worker, line) ↦ inr (f, Contains-append_left before (e ∷ []) f member, worker, line ∙ sym (there w other))
        ]
      ];
    }
  where
    earlier : (before : List Entry) (e : Entry) → WorkersRise (before ++ e ∷ []) → (k : ℕ) (d : Entry) → k < length before
        → (get_or before k d).worker ≡ e.worker → (get_or before k d).line < e.line
    earlier before e rise k d within same =
        let long = length-append before (e ∷ []) in let pair = rise k (length before) d within (omega (arith, long)) in
        let first : get_or (before ++ e ∷ []) k d ≡ get_or before k d = get_or_append_left before (e ∷ []) d k within in
        let second : get_or (before ++ e ∷ []) (length before) d ≡ e = get_or-append_seam before e [] d in
        (subst (λ b. Rises (get_or before k d) b) second (subst (λ a. Rises a (get_or (before ++ e ∷ []) (length before) d)) first pair)) same
