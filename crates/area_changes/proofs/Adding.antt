-- A list of changes that goes on over pages of two kinds has the changes of these pages too.
use Rattle.std.proofs.Common.{◌≡◌, ◌≢◌, ℕ, ◌<◌, ◌≤◌, inl, inr, if◌then◌else◌, Bool, true, false, List, [], ◌∷◌, ◌++◌, Option, Some, None}
use Rattle.std.proofs.Common.{sym, ◌∙◌, ap, refl, arith, subst}
use Rattle.std.proofs.lemmas.Bool.{cases_lt, and_parts, and_from, eqb-true, eq-eqb, true≢false}
use Rattle.page_types.specs.declared.calls.Kind.{Kind}
use Rattle.space_model.specs.Starts.{same_option}
use Rattle.space_model.proofs.Counting.{same_option-true, same_option-same}
use Rattle.area_changes.specs.declared.changes.AreaChange.{AreaChange}
use Rattle.area_changes.specs.Changes.{MayFollow, AreInOrder, change_at, LiesIn, AreChanges}
use Rattle.area_changes.specs.Touching.{HasKind, EndBelow, AreBelow, goes_on, merged, pair_joined, joined}
use Rattle.area_changes.proofs.OneList.{at-here, at-before, at-after, LeadsTo}
use Rattle.space_model.proofs.AreaKinds.{side_of}
use Rattle.space_model.proofs.AreaKinds.Side.{before as is_before, inside as is_inside, after as is_after}

-- a list that ends below a page ends below each higher one
end_weaker : (list : List AreaChange) (lo hi : ℕ) → lo ≤ hi → EndBelow lo list → EndBelow hi list
end_weaker [] lo hi l w = tt
end_weaker (c ∷ rest) lo hi l w = (omega (arith, w.0), end_weaker rest lo hi l w.1)

-- a page at or above that one lies in no change
pub at-behind : (list : List AreaChange) (to p : ℕ) → EndBelow to list → to ≤ p → change_at list p ≡ None
at-behind [] to p w l = refl
at-behind (c ∷ rest) to p w l = at-after c rest p (omega (arith, w.0)) ∙ at-behind rest to p w.1 l

-- pages that have the same kind before and after add no change
pub below_same : (before after : ℕ → Option Kind) (lo hi : ℕ) (list : List AreaChange) → AreBelow before after lo list → lo ≤ hi →
    ((page : ℕ) → lo ≤ page → page < hi → before page ≡ after page) → AreBelow before after hi list
below_same before after lo hi list h l same = record {
  in_order = h.in_order;
  end_below = end_weaker list lo hi l h.end_below;
  pages = λ page w. elim (cases_lt page lo) [
    | inl below ↦ h.pages page below
    | inr above ↦
        subst (λ o. LiesIn o (before page) (after page)) (sym (at-behind list lo page h.end_below above)) (same page above w)
  ];
}

-- what it says that a change goes on with another
record GoesOn (d c : AreaChange) : Type 0 where
  touch : d.hi ≡ c.lo
  before : d.before ≡ c.before
  after : d.after ≡ c.after

goes_on-true : (d c : AreaChange) → goes_on d c ≡ true → GoesOn d c
goes_on-true d c e = let both = and_parts _ _ e in let kinds = and_parts _ _ both.1 in
    record { touch = eqb-true _ _ both.0; before = same_option-true _ _ kinds.0; after = same_option-true _ _ kinds.1 }

goes_on-from : (d c : AreaChange) → GoesOn d c → goes_on d c ≡ true
goes_on-from d c h =
    let befores : same_option d.before c.before ≡ true = subst (λ o. same_option d.before o ≡ true) h.before (same_option-same d.before) in
    let afters : same_option d.after c.after ≡ true = subst (λ o. same_option d.after o ≡ true) h.after (same_option-same d.after) in
    and_from _ _ (eq-eqb _ _ h.touch) (and_from _ _ befores afters)

module _ (c : AreaChange) (some : c.lo < c.hi) where
  -- a pair is one change or two, whichever it is
  pair_order : (d : AreaChange) (b : Bool) → goes_on d c ≡ b → d.lo < d.hi → d.hi ≤ c.lo →
      AreInOrder (if b then merged d c ∷ [] else d ∷ c ∷ [])
  pair_order d true e n l = (omega arith, tt, tt)
  pair_order d false e n l = (
    n,
    record {
      after = l;
      differs = λ touch p q. true≢false (sym (goes_on-from d c (record { touch = touch; before = p; after = q })) ∙ e);
    },
    (some, tt, tt),
  )

  pair_head : (x d : AreaChange) (b : Bool) → MayFollow x d → LeadsTo x (if b then merged d c ∷ [] else d ∷ c ∷ [])
  pair_head x d true l = record { after = l.after; differs = l.differs }
  pair_head x d false l = l

  -- the first change may still follow what it did
  joined_head : (x d : AreaChange) (rest : List AreaChange) → MayFollow x d → LeadsTo x (joined (d ∷ rest) c)
  joined_head x d [] l = pair_head x d (goes_on d c) l
  joined_head x d (e ∷ rest) l = l

  joined_order : (list : List AreaChange) → AreInOrder list → EndBelow c.lo list → AreInOrder (joined list c)
  joined_order [] w l = (some, tt, tt)
  joined_order (d ∷ []) w l = pair_order d (goes_on d c) refl w.0 l.0
  joined_order (d ∷ e ∷ rest) w l = (w.0, joined_head d e rest w.1, joined_order (e ∷ rest) w.2 l.1)

  pair_end : (d : AreaChange) (b : Bool) → d.hi ≤ c.lo → EndBelow c.hi (if b then merged d c ∷ [] else d ∷ c ∷ [])
  pair_end d true l = (omega arith, tt)
  pair_end d false l = (omega arith, (omega arith, tt))

  joined_end : (list : List AreaChange) → EndBelow c.lo list → EndBelow c.hi (joined list c)
  joined_end [] l = (omega arith, tt)
  joined_end (d ∷ []) l = pair_end d (goes_on d c) l.0
  joined_end (d ∷ e ∷ rest) l = (omega (arith, l.0), joined_end (e ∷ rest) l.1)

  module _ (p : ℕ) (b a : Option Kind) where
    -- where a page lies in a list with one change before, by where it lies in the others
    past : (d : AreaChange) (list other : List AreaChange) → (LiesIn (change_at list p) b a → LiesIn (change_at other p) b a) →
        LiesIn (change_at (d ∷ list) p) b a → LiesIn (change_at (d ∷ other) p) b a
    past d list other step h = elim (side_of d.lo d.hi p) [
      | is_before l ↦
          subst (λ o. LiesIn o b a) (sym (at-before d other p l)) (step (subst (λ o. LiesIn o b a) (at-before d list p l) h))
      | is_inside l r ↦ subst (λ o. LiesIn o b a) (at-here d list p l r ∙ sym (at-here d other p l r)) h
      | is_after r ↦ subst (λ o. LiesIn o b a) (sym (at-after d other p r)) (step (subst (λ o. LiesIn o b a) (at-after d list p r) h))
    ]

    pair_below : (d : AreaChange) (x : Bool) → goes_on d c ≡ x → d.hi ≤ c.lo → p < c.lo → LiesIn (change_at (d ∷ []) p) b a →
        LiesIn (change_at (if x then merged d c ∷ [] else d ∷ c ∷ []) p) b a
    pair_below d true e l low h = elim (side_of d.lo d.hi p) [
      | is_before l ↦
          subst (λ o. LiesIn o b a) (sym (at-before (merged d c) [] p l)) (subst (λ o. LiesIn o b a) (at-before d [] p l) h)
      | is_inside l r ↦
          let lies = subst (λ o. LiesIn o b a) (at-here d [] p l r) h in
          subst (λ o. LiesIn o b a) (sym (at-here (merged d c) [] p l (omega arith))) (lies.0, lies.1, lies.2)
      | is_after r ↦ absurd (omega (arith, (goes_on-true d c e).touch))
    ]
    pair_below d false e l low h = past d [] (c ∷ []) (λ k. subst (λ o. LiesIn o b a) (sym (at-before c [] p low)) k) h

    -- a page below the new change lies where it did
    joined_below : (list : List AreaChange) → EndBelow c.lo list → p < c.lo → LiesIn (change_at list p) b a →
        LiesIn (change_at (joined list c) p) b a
    joined_below [] l low h = subst (λ o. LiesIn o b a) (sym (at-before c [] p low)) h
    joined_below (d ∷ []) l low h = pair_below d (goes_on d c) refl l.0 low h
    joined_below (d ∷ e ∷ rest) l low h = past d (e ∷ rest) (joined (e ∷ rest) c) (joined_below (e ∷ rest) l.1 low) h

    pair_within : (d : AreaChange) (x : Bool) → goes_on d c ≡ x → d.lo < d.hi → d.hi ≤ c.lo → c.lo ≤ p → p < c.hi →
        LiesIn (Some c) b a → LiesIn (change_at (if x then merged d c ∷ [] else d ∷ c ∷ []) p) b a
    pair_within d true e n l low high h =
        let same = goes_on-true d c e in
        subst (λ o. LiesIn o b a) (sym (at-here (merged d c) [] p (omega arith) high)) (same.before ∙ h.0, same.after ∙ h.1, h.2)
    pair_within d false e n l low high h =
        subst (λ o. LiesIn o b a) (sym (at-after d (c ∷ []) p (omega arith) ∙ at-here c [] p low high)) h

    -- a page of the new change lies in it, or in the one that it lengthens
    joined_within : (list : List AreaChange) → AreInOrder list → EndBelow c.lo list → c.lo ≤ p → p < c.hi → LiesIn (Some c) b a →
        LiesIn (change_at (joined list c) p) b a
    joined_within [] w l low high h = subst (λ o. LiesIn o b a) (sym (at-here c [] p low high)) h
    joined_within (d ∷ []) w l low high h = pair_within d (goes_on d c) refl w.0 l.0 low high h
    joined_within (d ∷ e ∷ rest) w l low high h =
        subst (λ o. LiesIn o b a) (sym (at-after d (joined (e ∷ rest) c) p (omega (arith, l.0))))
        (joined_within (e ∷ rest) w.2 l.1 low high h)

-- pages of two kinds, one before and another after, are one more change, or lengthen the last one
pub below_joined : (before after : ℕ → Option Kind) (c : AreaChange) (list : List AreaChange) → c.lo < c.hi →
    AreBelow before after c.lo list → HasKind before c.lo c.hi c.before → HasKind after c.lo c.hi c.after → c.before ≢ c.after →
    AreBelow before after c.hi (joined list c)
below_joined before after c list some h was is differs = record {
  in_order = joined_order c some list h.in_order h.end_below;
  end_below = joined_end c some list h.end_below;
  pages = λ page w. elim (cases_lt page c.lo) [
    | inl below ↦ joined_below c some page (before page) (after page) list h.end_below below (h.pages page below)
    | inr above ↦
        let b = was page above w in let a = is page above w in
        joined_within c some page (before page) (after page) list h.in_order h.end_below above w
        (sym b, sym a, λ same. differs (sym b ∙ same ∙ a))
  ];
}

-- the changes of the pages below one, where no page from there on has another kind after, are all
pub all_changes : (before after : ℕ → Option Kind) (to : ℕ) (list : List AreaChange) → AreBelow before after to list →
    ((page : ℕ) → to ≤ page → before page ≡ after page) → AreChanges before after list
all_changes before after to list h same = record {
  in_order = h.in_order;
  pages = λ page. elim (cases_lt page to) [
    | inl below ↦ h.pages page below
    | inr above ↦
        subst (λ o. LiesIn o (before page) (after page)) (sym (at-behind list to page h.end_below above)) (same page above)
  ];
}

-- before any change
pub none_below : (before after : ℕ → Option Kind) (to : ℕ) → ((page : ℕ) → page < to → before page ≡ after page) → AreBelow before after to []
none_below before after to same = record { in_order = tt; end_below = tt; pages = same }

-- a change is joined with the last of a list, and those before it stay
pub joined-append : (list : List AreaChange) (c d : AreaChange) → joined (list ++ c ∷ []) d ≡ list ++ pair_joined c d
joined-append [] c d = refl
joined-append (x ∷ []) c d = refl
joined-append (x ∷ y ∷ list) c d = ap (λ rest. x ∷ rest) (joined-append (y ∷ list) c d)

-- which of the two a pair is, by the test
pub pair-true : (c d : AreaChange) → goes_on c d ≡ true → pair_joined c d ≡ merged c d ∷ []
pair-true c d e = rw e refl

pub pair-false : (c d : AreaChange) → goes_on c d ≡ false → pair_joined c d ≡ c ∷ d ∷ []
pair-false c d e = rw e refl
