-- Kinds with no bit but the named ones, by area and by page.
use Rattle.std.proofs.Common.{ℕ, List, [], ◌∷◌, Option, Some, None, sym, subst, arith, inl, inr}
use Rattle.std.proofs.lemmas.Bool.{cases_lt}
use Rattle.std.proofs.lemmas.List.Elements.{All-nil, All-cons, All-head, All-tail}
use Rattle.page_types.specs.declared.calls.Kind.{Kind}
use Rattle.page_types.specs.Named.{IsNamedKind, IsNamedOption}
use Rattle.space_model.specs.declared.areas.Area.{Area}
use Rattle.space_model.specs.declared.paint.Paint.{Paint}
use Rattle.space_model.specs.Areas.{IsAreaList, HasKinds, HasNamedKinds, kind_at}
use Rattle.space_model.specs.declared.paint.Paint.TheVariants.{Gives, Protects, Seals}
use Rattle.space_model.specs.declared.paint.Patch.{Patch}
use Rattle.space_model.specs.Effect.{painted, with_patch, patched}
use Rattle.space_model.specs.Judges.{IsNamedPaint, AreNamedPaints}
use Rattle.space_model.proofs.AreaKinds.{kind_at-here, kind_at-before, kind_at-after, kind_at-below, LeadsTo-above, side_of}
use Rattle.space_model.proofs.AreaKinds.Side.{before, inside, after}
use Rattle.space_model.proofs.Changing.{patch-outside, patch-inside}

-- the kind of each page has named bits alone where those of the areas have
pub named_at : (A : List Area) (p : ℕ) → HasNamedKinds A → IsNamedOption (kind_at A p)
named_at [] p n = tt
named_at (a ∷ rest) p n =
    elim (side_of a.lo a.hi p) [
      | before l ↦ subst IsNamedOption (sym (kind_at-before a rest p l)) (named_at rest p (All-tail (λ x. IsNamedKind x.kind) a rest n))
      | inside l h ↦ subst IsNamedOption (sym (kind_at-here a rest p l h)) (All-head (λ x. IsNamedKind x.kind) a rest n)
      | after h ↦ subst IsNamedOption (sym (kind_at-after a rest p h)) (named_at rest p (All-tail (λ x. IsNamedKind x.kind) a rest n))
    ]

-- the areas of a list have named bits alone where the kinds of all pages have
pub named_all : (A : List Area) → IsAreaList A → ((p : ℕ) → IsNamedOption (kind_at A p)) → HasNamedKinds A
named_all [] w n = All-nil (λ x. IsNamedKind x.kind)
named_all (a ∷ rest) w n =
    All-cons (λ x. IsNamedKind x.kind) a rest
    (subst IsNamedOption (kind_at-here a rest a.lo (omega arith) w.0.has_page) (n a.lo))
    (named_all rest w.2 (λ p.
    elim (cases_lt p a.hi) [
      | inl l ↦ subst IsNamedOption (sym (kind_at-below rest a.hi p w.2 (LeadsTo-above a rest w.1) l)) tt
      | inr g ↦ subst IsNamedOption (kind_at-after a rest p g) (n p)
    ]))

-- a named paint leaves a kind with named bits alone
pub named_new : (paint : Paint) (o : Option Kind) → IsNamedPaint paint → IsNamedOption o → IsNamedOption (painted paint o)
named_new (Gives new) o n m = n
named_new (Protects prot) None n m = tt
named_new (Protects prot) (Some kind) n m = n
named_new Seals None n m = tt
named_new Seals (Some kind) n m = m

named_change : (kinds : ℕ → Option Kind) (change : Patch) → ((p : ℕ) → IsNamedOption (kinds p)) → IsNamedPaint change.paint →
    (p : ℕ) → IsNamedOption (with_patch change kinds p)
named_change kinds change n m p =
    elim (side_of change.lo change.hi p) [
      | before l ↦ subst IsNamedOption (sym (patch-outside change kinds p (inl l))) (n p)
      | inside l h ↦ subst IsNamedOption (sym (patch-inside change kinds p l h)) (named_new change.paint (kinds p) m (n p))
      | after h ↦ subst IsNamedOption (sym (patch-outside change kinds p (inr h))) (n p)
    ]

named_patched : (patches : List Patch) (kinds : ℕ → Option Kind) → ((p : ℕ) → IsNamedOption (kinds p)) → AreNamedPaints patches →
    (p : ℕ) → IsNamedOption (patched patches kinds p)
named_patched [] kinds n m p = n p
named_patched (change ∷ rest) kinds n m p = named_patched rest (with_patch change kinds) (named_change kinds change n m.0) m.1 p

-- named patches leave named bits
pub named-after : (A B : List Area) (patches : List Patch) → HasNamedKinds A → AreNamedPaints patches →
    HasKinds (patched patches (kind_at A)) B → HasNamedKinds B
named-after A B patches n m k =
    named_all B k.areas (λ p.
    subst IsNamedOption (sym (k.kinds_are p)) (named_patched patches (kind_at A) (λ q. named_at A q n) m p))
