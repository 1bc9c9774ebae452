-- A Brk changes no page outside of its heap, and where its heap ends there is one page.
use Rattle.std.proofs.Common.{◌≡◌, ℕ, ◌<◌, ◌≤◌, ◌⊎◌, inl, inr, List, Option, Some, ◌∙◌, ap, subst, arith}
use Rattle.page_types.specs.declared.TheConstants.{LIMIT}
use Rattle.page_types.specs.declared.calls.Kind.{Kind}
use Rattle.page_types.specs.declared.calls.Reply.{Reply}
use Rattle.page_types.specs.Pages.{page_of, page_count}
use Rattle.space_model.specs.declared.areas.Area.{Area}
use Rattle.space_model.specs.declared.paint.Patch.{Patch}
use Rattle.space_model.specs.declared.sorts.Sort.TheVariants.{Unlike}
use Rattle.space_model.specs.Areas.{kind_at}
use Rattle.space_model.specs.Effect.{heap_kind, patched}
use Rattle.space_model.specs.Answers.{Breaks}
use Rattle.space_model.specs.Answers.Effect.{changes}
use Rattle.space_model.specs.Answers.Breaks.{below_base, shrinks, grows, no_room}
use Rattle.space_model.specs.Answers.Answers.{by_arguments, refused, kept, done, too_many_rows}
use Rattle.space_model.specs.Laws.{KeepsToItsHeap}
use Rattle.space_model.proofs.Deciding.{end_one}
use Rattle.space_model.proofs.Effects.{one_outside}

-- what a Brk changes of a heap that ends there
broken_outside : (kinds : ℕ → Option Kind) (base addr end : ℕ) (ps : List Patch) (r : Reply) (f : Option Reply) (page : ℕ) →
    page_of base ≤ end → Breaks kinds base addr end (changes ps r f) →
    (page < page_of base) ⊎ ((end ≤ page) × (page_count addr ≤ page)) → patched ps kinds page ≡ kinds page
broken_outside kinds base addr end ps r f page from (below_base l d) out = cc
broken_outside kinds base addr end ps r f page from (shrinks m l d) out =
    one_outside kinds page d (elim out [ inl b ↦ inl (omega arith) | inr a ↦ inr a.0 ])
broken_outside kinds base addr end ps r f page from (grows m l h d) out =
    one_outside kinds page d (elim out [ inl b ↦ inl (omega arith) | inr a ↦ inr a.1 ])
broken_outside kinds base addr end ps r f page from (no_room m l h d) out = cc

-- so a Brk changes no page outside of its heap
pub keeps_outside : (A : List Area) (base addr : ℕ) → KeepsToItsHeap A base addr
keeps_outside A base addr r B end page (by_arguments e b) is out = ap (λ X. kind_at X page) b
keeps_outside A base addr r B end page (refused why u f e b) is out = ap (λ X. kind_at X page) b
keeps_outside A base addr r B end page (kept u g b) is out = ap (λ X. kind_at X page) b
keeps_outside A base addr r B end page (done ps f u (clear, (t, at, d)) k n) is out =
    let same : t ≡ end = end_one (kind_at A) (Unlike (Some heap_kind)) (page_of base) LIMIT t end at is in
    k.kinds_are page ∙
    broken_outside (kind_at A) base addr end ps r f page is.from
    (subst (λ (x : ℕ). Breaks (kind_at A) base addr x (changes ps r f)) same d) out
keeps_outside A base addr r B end page (too_many_rows ps t f C u p k n e b) is out = ap (λ X. kind_at X page) b
