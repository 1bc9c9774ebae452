-- Areas that are told one after another, in a row of places, and counted.
use Rattle.std.proofs.Common.{◌≡◌, ℕ, ◌+◌, ◌-◌, ◌<◌, ◌≤◌, ◌∙◌, List, [], ◌∷◌, ◌++◌, length, refl, sym, ap, subst, arith, zero, suc}
use Rattle.std.specs.Prelude.{map, take, slice_set}
use Rattle.std.proofs.lemmas.List.{append-nil, map-append, length-append}
use lib.ListN.{length-map}
use Rattle.space_model.specs.declared.areas.Area.{Area}
use Rattle.area_looks.specs.declared.told.Counts.{Counts}
use Rattle.area_looks.specs.Places.{IsPut, counts_of, pages_of, put_into}

take_none : {A : Type 0} (n : ℕ) → take {A = A} n [] ≡ []
take_none zero = refl
take_none (suc n) = refl

-- one value more, where there is a place for it
over_more : {A : Type 0} (list places : List A) (x : A) → length list < length places
    → slice_set (put_into list places) (length list) x ≡ put_into (list ++ x ∷ []) places
over_more [] [] x few = absurd (omega arith)
over_more [] (o ∷ places) x few = ap (λ l. x ∷ (l ++ places)) (sym (take_none (length places)))
over_more (y ∷ list) [] x few = absurd (omega arith)
over_more (y ∷ list) (o ∷ places) x few = ap (λ l. y ∷ l) (over_more list places x (omega arith))

-- and where there is none
over_full : {A : Type 0} (list places : List A) (x : A) → length places ≤ length list
    → put_into list places ≡ put_into (list ++ x ∷ []) places
over_full [] [] x many = refl
over_full [] (o ∷ places) x many = absurd (omega arith)
over_full (y ∷ list) [] x many = refl
over_full (y ∷ list) (o ∷ places) x many = ap (λ l. y ∷ l) (over_full list places x (omega arith))

-- there are as many places as before
over_length : {A : Type 0} (list places : List A) → length (put_into list places) ≡ length places
over_length [] places = ap (λ l. length (l ++ places)) (take_none (length places))
over_length (y ∷ list) [] = refl
over_length (y ∷ list) (o ∷ places) = ap suc (over_length list places)

-- nothing is written yet
pub put_none : {A : Type 0} (told : Area → A) (places : List A) → IsPut told [] places places (counts_of [])
put_none told places = (ap (λ l. l ++ places) (sym (take_none (length places))), refl)

-- one area more is counted
pages_more : (list : List Area) (a : Area) → pages_of (list ++ a ∷ []) ≡ pages_of list + (a.hi - a.lo)
pages_more [] a = omega arith
pages_more (b ∷ list) a = let more = pages_more list a in omega arith

counts_more : (list : List Area) (a : Area) (counts : Counts) → counts ≡ counts_of list
    → ◌≡◌ {A = Counts} (record { areas = counts.areas + 1; pages = counts.pages + (a.hi - a.lo) }) (counts_of (list ++ a ∷ []))
counts_more list a counts is = λ i. record {
  areas = (ap (λ (c : Counts). c.areas + 1) is ∙ sym (length-append list (a ∷ []))) i;
  pages = (ap (λ (c : Counts). c.pages + (a.hi - a.lo)) is ∙ sym (pages_more list a)) i;
}

-- one area more is written, where there is a place for it
pub put_more : {A : Type 0} (told : Area → A) (list : List Area) (places now : List A) (counts : Counts) (a : Area) → IsPut told list places now counts
    → counts.areas < length now
    → IsPut told (list ++ a ∷ []) places (slice_set now counts.areas (told a))
    (record { areas = counts.areas + 1; pages = counts.pages + (a.hi - a.lo) })
put_more told list places now counts a put few =
    let many : counts.areas ≡ length (map told list) = ap (λ (c : Counts). c.areas) put.1 ∙ sym (length-map list told) in
    let room : length now ≡ length places = ap length put.0 ∙ over_length (map told list) places in (
      (λ i. slice_set (put.0 i) (many i) (told a)) ∙ (over_more (map told list) places (told a) (omega arith)
          ∙ ap (λ l. put_into l places) (sym (map-append told list (a ∷ [])))),
      counts_more list a counts put.1,
    )

-- and counted alone, where there is none
pub put_past : {A : Type 0} (told : Area → A) (list : List Area) (places now : List A) (counts : Counts) (a : Area) → IsPut told list places now counts
    → length now ≤ counts.areas
    → IsPut told (list ++ a ∷ []) places now (record { areas = counts.areas + 1; pages = counts.pages + (a.hi - a.lo) })
put_past told list places now counts a put full =
    let many : counts.areas ≡ length (map told list) = ap (λ (c : Counts). c.areas) put.1 ∙ sym (length-map list told) in
    let room : length now ≡ length places = ap length put.0 ∙ over_length (map told list) places in (
      put.0 ∙ (over_full (map told list) places (told a) (omega arith) ∙ ap (λ l. put_into l places) (sym (map-append told list (a ∷ [])))),
      counts_more list a counts put.1,
    )

-- a gap is neither
pub put_gap : {A : Type 0} (told : Area → A) (list : List Area) (places now : List A) (counts : Counts) → IsPut told list places now counts
    → IsPut told (list ++ []) places now counts
put_gap told list places now counts put = subst (λ l. IsPut told l places now counts) (sym (append-nil list)) put
