-- The areas of a list are the maximal runs of pages of one kind.
use Rattle.std.proofs.Common.{◌≡◌, ℕ, zero, suc, ◌-◌, ◌<◌, ◌≤◌, inl, inr, List, [], ◌∷◌, Some, sym, ◌∙◌, ap, subst, refl, arith}
use Rattle.std.proofs.lemmas.Bool.{cases_lt}
use Rattle.std.specs.List.{Contains}
use Rattle.page_types.specs.declared.calls.Kind.{Kind}
use Rattle.space_model.specs.declared.areas.Area.{Area}
use Rattle.space_model.specs.Areas.{IsAreaList, kind_at}
use Rattle.space_model.specs.Laws.{IsMaximalRun, AreasAreMaximalRuns}
use Rattle.space_model.proofs.AreaKinds.{kind_at-here, kind_at-before, kind_at-after, same_area, side_of}
use Rattle.space_model.proofs.AreaKinds.Side.{before, inside, after}
use Rattle.space_model.proofs.Simple.{member_in_range, kind_at-member}
use Rattle.space_model.proofs.FourWays.{after_member, before_member}

-- a page of a kind lies in an area of that kind
pub record IsAt (A : List Area) (p : ℕ) (k : Kind) : Type 0 where
  -- the area
  pub area : Area
  -- it is one of the list
  pub member : Contains A area
  -- it starts at or below the page
  pub low : area.lo ≤ p
  -- it ends above the page
  pub high : p < area.hi
  -- it is of this kind
  pub kind : area.kind ≡ k

at_later : (x : Area) (rest : List Area) (p : ℕ) (k : Kind) → IsAt rest p k → IsAt (x ∷ rest) p k
at_later x rest p k m =
    let (i, l, e) = m.member in
    record { area = m.area; member = (suc i, omega arith, e); low = m.low; high = m.high; kind = m.kind }

member_at : (A : List Area) (p : ℕ) (k : Kind) → kind_at A p ≡ Some k → IsAt A p k
member_at [] p k e = cc
member_at (x ∷ rest) p k e =
    elim (side_of x.lo x.hi p) [
      | before l ↦ at_later x rest p k (member_at rest p k (sym (kind_at-before x rest p l) ∙ e))
      | inside l h ↦
          let here = kind_at-here x rest p l h in
          record { area = x; member = (zero, omega arith, refl); low = l; high = h; kind = cc }
      | after h ↦ at_later x rest p k (member_at rest p k (sym (kind_at-after x rest p h) ∙ e))
    ]

run_of_member : (A : List Area) (a : Area) → IsAreaList A → Contains A a → IsMaximalRun (kind_at A) a
run_of_member A a w m = record {
  has_page = (member_in_range A a w m).has_page;
  one_kind = λ p l h. kind_at-member A a p w m l h;
  before = λ p e. before_member A a p w m (omega arith);
  behind = after_member A a w m;
}

member_of_run : (A : List Area) (a : Area) → IsAreaList A → IsMaximalRun (kind_at A) a → Contains A a
member_of_run A a w r =
    let n : a.lo < a.hi = r.has_page in
    let at = member_at A a.lo a.kind (r.one_kind a.lo (omega arith) n) in
    let b = at.area in
    let kind : Some b.kind ≡ Some a.kind = ap (λ k. Some k) at.kind in
    let low : b.lo ≡ a.lo =
    elim (cases_lt b.lo a.lo) [
      | inl lt ↦ absurd (r.before (a.lo - 1) (omega arith) (kind_at-member A b (a.lo - 1) w at.member (omega arith) (omega (arith, at.high)) ∙ kind))
      | inr ge ↦ omega (arith, at.low)
    ] in
    let high : b.hi ≡ a.hi =
    elim (cases_lt b.hi a.hi) [
      | inl lt ↦ absurd (after_member A b w at.member (r.one_kind b.hi (omega (arith, at.high)) lt ∙ sym kind))
      | inr ge ↦
          elim (cases_lt a.hi b.hi) [
            | inl lt ↦ absurd (r.behind (kind_at-member A b a.hi w at.member (omega arith) lt ∙ kind))
            | inr le ↦ omega arith
          ]
    ] in
    subst (Contains A) (same_area b a low high at.kind) at.member

-- the areas of an area list are exactly the maximal runs of its pages of one kind
pub maximal_runs : (A : List Area) → IsAreaList A → AreasAreMaximalRuns A
maximal_runs A w a = (run_of_member A a w, member_of_run A a w)
