-- What may be held for a call, told from what exactly has to be held: the same, or everything in place of an area.
use Rattle.std.specs.Prelude.{MatchOption, ◌+◌, ◌-◌, min}
use Rattle.std.specs.List.{Contains}
use Rattle.std.proofs.Common.{◌≡◌, ◌⊎◌, ◌↔◌, ℕ, zero, suc, ◌<◌, ◌≤◌, List, [], ◌∷◌, Option, Some, None, refl, sym, ap, ◌∙◌, subst, inl, inr, arith}
use Rattle.page_types.specs.declared.TheConstants.{LIMIT}
use Rattle.page_types.specs.declared.calls.Call.{Call}
use Rattle.page_types.specs.declared.calls.Call.TheVariants.{Protect, Fault}
use Rattle.page_types.specs.declared.calls.Reply.{Reply}
use Rattle.page_types.specs.declared.pages.Span.{Span}
use Rattle.page_types.specs.declared.sets.Prot.{Prot}
use Rattle.page_types.specs.Pages.{page_of, end_page}
use Rattle.page_types.specs.PlainReply.{plain_reply, protect_reply}
use Rattle.page_types.proofs.Undecided.{protect-length}
use Rattle.space_model.specs.declared.areas.Area.{Area}
use Rattle.space_model.specs.declared.entries.Under.{Under}
use Rattle.space_model.specs.declared.entries.Under.TheVariants.{Nothing, Reader, Area as Held, Whole}
use Rattle.space_model.specs.Areas.{IsAreaList}
use Rattle.space_model.specs.Held.{FitsByState, FitsUnder, HoldsSomeArea, IsSimple, ReadsPage}
use Rattle.space_model.proofs.AreaKinds.{LeadsTo-above, kind_at-below}
use Rattle.space_model.proofs.Simple.{kind_at-member}
use Rattle.round_trip.proofs.LogsRead.{same_ends}

-- what may be held where exactly this has to be held
abbrev pub MayBe : Under → Under → Type 0
MayBe exact under = (under ≡ exact) ⊎ (HoldsSomeArea exact × (under ≡ Whole))

-- spans with the same ends are equal
same_span : (s t : Span) → s.lo ≡ t.lo → s.hi ≡ t.hi → s ≡ t
same_span s t lo hi = same_ends s.lo s.hi s.ordered s.in_range t.lo lo t.hi hi t.ordered t.in_range

-- a page lies in one area of a list
one_area : (A : List Area) (a b : Area) (p : ℕ) → IsAreaList A → Contains A a → Contains A b → a.lo ≤ p → p < a.hi → b.lo ≤ p → p < b.hi → a ≡ b
one_area [] a b p w (k, l, e) n low high from to = absurd (omega arith)
one_area (x ∷ rest) a b p w (zero, l, e) (zero, m, f) low high from to = sym e ∙ f
one_area (x ∷ rest) a b p w (zero, l, e) (suc k, m, f) low high from to = let some = kind_at-member rest b p w.2 (k, omega arith, f) from to in
    let none = kind_at-below rest x.hi p w.2 (LeadsTo-above x rest w.1) (subst (λ y. p < y.hi) (sym e) high) in absurd cc
one_area (x ∷ rest) a b p w (suc k, l, e) (zero, m, f) low high from to = let some = kind_at-member rest a p w.2 (k, omega arith, e) low high in
    let none = kind_at-below rest x.hi p w.2 (LeadsTo-above x rest w.1) (subst (λ y. p < y.hi) (sym f) to) in absurd cc
one_area (x ∷ rest) a b p w (suc k, l, e) (suc j, m, f) low high from to = one_area rest a b p w.2 (k, omega arith, e) (j, omega arith, f) low high from to

-- a Protect that its arguments don't decide has a page
some_page : (addr len : ℕ) → protect_reply addr len ≡ None → page_of addr < end_page addr len
some_page addr len undecided = let some = protect-length addr len undecided in omega arith

-- the one page held as a reader
one_reader : (page : ℕ) (u v : Under) → ReadsPage page u → ReadsPage page v → u ≡ v
one_reader page (Reader s) (Reader t) a b = ap Reader (same_span s t (a.0 ∙ sym b.0) (a.1 ∙ sym b.1))
one_reader page (Reader s) v a b = absurd b
one_reader page u v a b = absurd a

-- a Protect that its arguments don't decide
protect_tells : (A : List Area) (addr len : ℕ) (prot : Prot) (exact under : Under) → IsAreaList A → protect_reply addr len ≡ None
    → (IsSimple A (Protect addr len prot) → HoldsSomeArea exact) → FitsByState A (Protect addr len prot) exact
    → FitsByState A (Protect addr len prot) under → MayBe exact under
protect_tells A addr len prot exact under w none area (inl e) (inl f) = inl (f ∙ sym e)
protect_tells A addr len prot exact under w none area (inr e) (inl f) = inr (area (e.0, e.1), f)
protect_tells A addr len prot exact under w none area (inl e) (inr f) = absurd (subst HoldsSomeArea e (area (f.0, f.1)))
protect_tells A addr len prot exact under w none area (inr e) (inr f) =
    let has_page = some_page addr len none in
    let one : f.0 ≡ e.0 = one_area A f.0 e.0 (page_of addr) w f.1.0 e.1.0 f.1.1 (omega (arith, has_page, f.1.2)) e.1.1 (omega (arith, has_page, e.1.2)) in
    let span : f.2 ≡ e.2 = same_span f.2 e.2 (f.4 ∙ ap (λ a. a.lo - 1) one ∙ sym e.4) (f.5 ∙ ap (λ a. min (a.hi + 1) LIMIT) one ∙ sym e.5) in
    inl (f.3 ∙ ap Held span ∙ sym e.3)

-- a call that its arguments don't decide
state_tells : (A : List Area) (c : Call) (exact under : Under) → IsAreaList A → plain_reply c ≡ None → (IsSimple A c → HoldsSomeArea exact)
    → FitsByState A c exact → FitsByState A c under → MayBe exact under
state_tells A (Protect addr len prot) exact under w none area e f = protect_tells A addr len prot exact under w none area e f
state_tells A (Fault addr access) exact under w none area e f = inl (one_reader (page_of addr) under exact f e)
state_tells A c exact under w none area e f = inl (f ∙ sym e)

-- everything fits a simple call
whole_fits : (A : List Area) (c : Call) → IsSimple A c → FitsByState A c Whole
whole_fits A (Protect addr len prot) simple = inl refl
whole_fits A c simple = absurd simple.1

-- where exactly this has to be held, that may be held which is the same, or everything in place of an area
pub fits_tells : (A : List Area) (c : Call) (exact under : Under) → IsAreaList A → FitsUnder A c exact
    → HoldsSomeArea exact ↔ ((plain_reply c ≡ None) × IsSimple A c) → MayBe exact under ↔ FitsUnder A c under
fits_tells A c exact under w fits area = (there, λ f. back (plain_reply c) refl fits f)
  where
    there : MayBe exact under → FitsUnder A c under
    there (inl same) = subst (λ u. FitsUnder A c u) (sym same) fits
    there (inr whole) =
        let simple = area.0 whole.0 in
        let held = subst (λ u. FitsByState A c u) (sym whole.1) (whole_fits A c simple.1) in
        subst (λ o. MatchOption o (FitsByState A c under) (λ reply. under ≡ Nothing)) (sym simple.0) held

    back : (o : Option Reply) → plain_reply c ≡ o → MatchOption o (FitsByState A c exact) (λ reply. exact ≡ Nothing)
        → MatchOption o (FitsByState A c under) (λ reply. under ≡ Nothing) → MayBe exact under
    back None is e f = state_tells A c exact under w is (λ simple. area.1 (is, simple)) e f
    back (Some reply) is e f = inl (f ∙ sym e)
