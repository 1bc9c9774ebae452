-- The four ways in which a Protect within an area keeps the counts.
use Rattle.std.proofs.Common.{◌≡◌, ◌≢◌, ℕ, zero, suc, ◌+◌, ◌<◌, ◌≤◌, inl, inr, not, List, [], ◌∷◌, Option, Some, None, sym, ◌∙◌, ap, subst, refl, arith}
use Rattle.std.proofs.lemmas.Bool.{cases_lt, cases_Bool}
use Rattle.std.specs.List.{Contains}
use Rattle.page_types.specs.declared.calls.Kind.{Kind}
use Rattle.page_types.specs.declared.sets.Prot.{Prot}
use Rattle.page_types.specs.Pages.{page_of, end_page}
use Rattle.page_types.specs.PlainReply.{protect_reply}
use Rattle.page_types.proofs.Undecided.{protect-length, protect-end}
use Rattle.space_model.specs.declared.areas.Area.{Area}
use Rattle.space_model.specs.Areas.{IsAreaList, kind_at}
use Rattle.space_model.specs.Effect.{protected_kind}
use Rattle.space_model.specs.Held.{LiesIn, kind_before}
use Rattle.space_model.specs.Starts.{same_option, count_if, border, KeepsRows}
use Rattle.space_model.specs.Laws.{FourCases, SimpleInFourCases, SimpleKeepsRows}
use Rattle.space_model.specs.Laws.FourCases.{nothing, whole, first_part, last_part}
use Rattle.space_model.proofs.AreaKinds.{kind_at-here, kind_at-after, kind_at-below, kind_at-end, LeadsTo-above}
use Rattle.space_model.proofs.Counting.{same_option-true, same_option-same, same_option-false, one-le}
use Rattle.space_model.proofs.Remapping.{some_pages}
use Rattle.space_model.proofs.Simple.{member_in_range, kind_at-member, simple_in, simple_borders}

border-same : (o q : Option Kind) → o ≡ q → border o q ≡ 0
border-same o q e = ap (border o) (sym e) ∙ ap (λ b. count_if (not b)) (same_option-same o)

border-differs : (o q : Option Kind) → o ≢ q → border o q ≡ 1
border-differs o q n = ap (λ b. count_if (not b)) (same_option-false o q n)

border-back : (o q : Option Kind) → q ≢ o → border o q ≡ 1
border-back o q n = border-differs o q (λ e. n (sym e))

same_from_border : (o q : Option Kind) → border o q ≡ 0 → o ≡ q
same_from_border o q e =
    elim (cases_Bool (same_option o q)) [
      | inl t ↦ same_option-true o q t
      | inr f ↦ let n : border o q ≡ 1 = ap (λ b. count_if (not b)) f in absurd (omega arith)
    ]

differs_from_border : (o q : Option Kind) → border o q ≡ 1 → o ≢ q
differs_from_border o q e same = let z = border-same o q same in absurd (omega (arith, e, z))

border-le : (o q : Option Kind) → border o q ≤ 1
border-le o q = one-le (not (same_option o q))

-- an area of a list starts at or after the end of the first
pub starts_after : (x : Area) (rest : List Area) (a : Area) → IsAreaList (x ∷ rest) → Contains rest a → x.hi ≤ a.lo
starts_after x rest a w m =
    let r : a.lo < a.hi = (member_in_range rest a w.2 m).has_page in
    let some : kind_at rest a.lo ≡ Some a.kind = kind_at-member rest a a.lo w.2 m (omega arith) r in
    elim (cases_lt a.lo x.hi) [
      | inl lt ↦
          let none : kind_at rest a.lo ≡ None = kind_at-below rest x.hi a.lo w.2 (LeadsTo-above x rest w.1) lt in cc
      | inr ge ↦ ge
    ]

-- the page after an area isn't of its kind
pub after_member : (A : List Area) (a : Area) → IsAreaList A → Contains A a → kind_at A a.hi ≢ Some a.kind
after_member [] a w (k, l, e) = absurd (omega arith)
after_member (x ∷ rest) a w (zero, l, e) =
    subst (λ y. kind_at (x ∷ rest) y.hi ≢ Some y.kind) e
    (λ s. kind_at-end x rest w.1 w.2 (sym (kind_at-after x rest x.hi (omega arith)) ∙ s))
after_member (x ∷ rest) a w (suc k, l, e) =
    let m : Contains rest a = (k, omega arith, e) in
    let r : a.lo < a.hi = (member_in_range rest a w.2 m).has_page in
    let h : x.hi ≤ a.lo = starts_after x rest a w m in
    λ s. after_member rest a w.2 m (sym (kind_at-after x rest a.hi (omega arith)) ∙ s)

-- nor is the page before it
pub before_member : (A : List Area) (a : Area) (p : ℕ) → IsAreaList A → Contains A a → suc p ≡ a.lo → kind_at A p ≢ Some a.kind
before_member [] a p w (k, l, e) i = absurd (omega arith)
before_member (x ∷ rest) a p w (zero, l, e) i =
    λ s.
    let none : kind_at (x ∷ rest) p ≡ None =
    kind_at-below (x ∷ rest) x.lo p w (omega arith) (subst (λ y. p < y.lo) (sym e) (omega arith)) in cc
before_member (x ∷ rest) a p w (suc k, l, e) i =
    let m : Contains rest a = (k, omega arith, e) in
    let h : x.hi ≤ a.lo = starts_after x rest a w m in
    let n : x.lo < x.hi = w.0.has_page in
    let r : a.lo < a.hi = (member_in_range rest a w.2 m).has_page in
    λ s.
    elim (cases_lt p x.hi) [
      | inl lt ↦
          let touch : x.hi ≡ a.lo = omega arith in
          let mine : kind_at (x ∷ rest) p ≡ Some x.kind = kind_at-here x rest p (omega arith) lt in
          let next : kind_at rest x.hi ≡ Some a.kind =
          ap (kind_at rest) touch ∙ kind_at-member rest a a.lo w.2 m (omega arith) r in
          let same : Some a.kind ≡ Some x.kind = sym s ∙ mine in
          kind_at-end x rest w.1 w.2 (next ∙ same)
      | inr ge ↦ before_member rest a p w.2 m i (sym (kind_at-after x rest p ge) ∙ s)
    ]

module _ (A : List Area) (a : Area) (lo hi : ℕ) (w : IsAreaList A) (lies : LiesIn A a lo hi) (l : lo < hi) (kind : Kind) where
  old : Option Kind
  old = Some a.kind

  before_start : lo ≡ a.lo → kind_before A lo ≢ Some a.kind
  before_start e = go lo e
    where
      go : (p : ℕ) → p ≡ a.lo → kind_before A p ≢ Some a.kind
      go zero i = λ s. cc
      go (suc q) i = before_member A a q w lies.member i

  before_inside : a.lo < lo → kind_before A lo ≡ Some a.kind
  before_inside h = go lo h (omega (arith, lies.within))
    where
      go : (p : ℕ) → a.lo < p → p < a.hi → kind_before A p ≡ Some a.kind
      go zero i j = absurd (omega arith)
      go (suc q) i j = kind_at-member A a q w lies.member (omega arith) (omega arith)

  after_end : hi ≡ a.hi → kind_at A hi ≢ Some a.kind
  after_end e s = after_member A a w lies.member (ap (kind_at A) (sym e) ∙ s)

  after_inside : hi < a.hi → kind_at A hi ≡ Some a.kind
  after_inside h = kind_at-member A a hi w lies.member (omega (arith, lies.from)) h

  -- the borders stay exactly in the four cases
  Borders : Type 0
  Borders =
      border (kind_before A lo) (Some a.kind) + border (Some a.kind) (kind_at A hi) ≡
      border (kind_before A lo) (Some kind) + border (Some kind) (kind_at A hi)

  four_from : Borders → FourCases A a lo hi kind
  unfolding Borders
  four_from b =
      let left : Option Kind = kind_before A lo in
      let right : Option Kind = kind_at A hi in
      elim (cases_Bool (same_option (Some kind) (Some a.kind))) [
        | inl t ↦ let same = same_option-true (Some kind) (Some a.kind) t in nothing cc
        | inr f ↦
            let new_old : border (Some kind) (Some a.kind) ≡ 1 = ap (λ x. count_if (not x)) f in
            let old_new : border (Some a.kind) (Some kind) ≡ 1 =
            border-differs (Some a.kind) (Some kind) (λ e. differs_from_border (Some kind) (Some a.kind) new_old (sym e)) in
            elim (cases_lt a.lo lo) [
              | inl low ↦
                  let x : border left (Some a.kind) ≡ 0 = border-same left (Some a.kind) (before_inside low) in
                  let y : border left (Some kind) ≡ 1 = ap (λ o. border o (Some kind)) (before_inside low) ∙ old_new in
                  elim (cases_lt hi a.hi) [
                    | inl high ↦
                        absurd (omega (arith, b, x, y, border-same _ _ (sym (after_inside high))))
                    | inr end ↦
                        let e : hi ≡ a.hi = omega (arith, lies.within) in
                        let v : border (Some kind) right ≡ 0 = omega (arith, b, x, y, border-back _ _ (after_end e)) in
                        last_part low e (sym (same_from_border (Some kind) right v))
                  ]
              | inr start ↦
                  let d : lo ≡ a.lo = omega (arith, lies.from) in
                  let x : border left (Some a.kind) ≡ 1 = border-differs left (Some a.kind) (before_start d) in
                  elim (cases_lt hi a.hi) [
                    | inl high ↦
                        let v : border (Some kind) right ≡ 1 = ap (border (Some kind)) (after_inside high) ∙ new_old in
                        let y : border left (Some kind) ≡ 0 = omega (arith, b, x, border-same _ _ (sym (after_inside high)), v) in
                        first_part d high (same_from_border left (Some kind) y)
                    | inr end ↦
                        let e : hi ≡ a.hi = omega (arith, lies.within) in
                        let u : border (Some a.kind) right ≡ 1 = border-back _ _ (after_end e) in
                        let y : border left (Some kind) ≡ 1 = omega (arith, b, x, u, border-le left (Some kind), border-le (Some kind) right) in
                        let v : border (Some kind) right ≡ 1 = omega (arith, b, x, u, border-le left (Some kind), border-le (Some kind) right) in
                        whole d e (differs_from_border left (Some kind) y) (λ s. differs_from_border (Some kind) right v (sym s))
                  ]
            ]
      ]

  four_to : FourCases A a lo hi kind → Borders
  unfolding Borders
  four_to (nothing e) = ap (λ k. border (kind_before A lo) (Some k) + border (Some k) (kind_at A hi)) (sym e)
  four_to (whole d e m n) =
      omega (arith, border-differs _ _ (before_start d), border-back _ _ (after_end e), border-differs _ _ m, border-back _ _ n)
  four_to (first_part d h s) =
      let new = border-differs (Some kind) (kind_at A hi) (λ t. before_start d (s ∙ t ∙ after_inside h)) in
      omega (arith, border-differs _ _ (before_start d), border-same _ _ (sym (after_inside h)), border-same _ _ s, new)
  four_to (last_part h e s) =
      let new = border-differs (kind_before A lo) (Some kind) (λ t. after_end e (s ∙ sym t ∙ before_inside h)) in
      omega (arith, border-same _ _ (before_inside h), border-back _ _ (after_end e), border-same _ _ (sym s), new)

-- each of the four ways keeps the rows
pub rows_of_way : (A : List Area) (a : Area) (addr len : ℕ) (prot : Prot) → IsAreaList A → protect_reply addr len ≡ None →
    LiesIn A a (page_of addr) (end_page addr len) → FourCases A a (page_of addr) (end_page addr len) (protected_kind prot a.kind) →
    KeepsRows (kind_before A (page_of addr)) a.kind (protected_kind prot a.kind) (kind_at A (end_page addr len))
unfolding Borders
rows_of_way A a addr len prot w undecided lies way =
    four_to A a (page_of addr) (end_page addr len) w lies (some_pages addr len (protect-length addr len undecided))
    (protected_kind prot a.kind) way

-- a Protect within an area is simple exactly where the area is sealed, and in the four cases
pub four_ways : (A : List Area) (a : Area) (addr len : ℕ) (prot : Prot) → IsAreaList A → SimpleInFourCases A a addr len prot
unfolding Borders
four_ways A a addr len prot w undecided lies =
    let l = some_pages addr len (protect-length addr len undecided) in
    let h = protect-end addr len undecided in
    let kind = protected_kind prot a.kind in (
      λ s.
          elim (simple_borders A addr len prot (page_of addr) (end_page addr len) a refl refl w lies l (a, s)) [
            | inl sealed ↦ inl sealed
            | inr b ↦ inr (four_from A a (page_of addr) (end_page addr len) w lies l kind b)
          ],
      λ f.
          elim f [
            | inl sealed ↦ simple_in A addr len prot (page_of addr) (end_page addr len) a refl refl w lies l h (inl sealed)
            | inr way ↦
                simple_in A addr len prot (page_of addr) (end_page addr len) a refl refl w lies l h
                (inr (four_to A a (page_of addr) (end_page addr len) w lies l kind way))
          ],
    )

-- and exactly where the area is sealed or the change of kinds keeps the rows at its ends
pub keeps_rows : (A : List Area) (a : Area) (addr len : ℕ) (prot : Prot) → IsAreaList A → SimpleKeepsRows A a addr len prot
keeps_rows A a addr len prot w undecided lies =
    let l = some_pages addr len (protect-length addr len undecided) in
    let h = protect-end addr len undecided in (
      λ s. simple_borders A addr len prot (page_of addr) (end_page addr len) a refl refl w lies l (a, s),
      λ b. simple_in A addr len prot (page_of addr) (end_page addr len) a refl refl w lies l h b,
    )
