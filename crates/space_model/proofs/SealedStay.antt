-- No call changes a sealed page or takes it away: where pages change or are replaced a bar has found none sealed, or
-- they were free, or of a heap, whose pages aren't sealed; and sealing a sealed page changes nothing.
use Rattle.std.proofs.Common.{◌≡◌, ℕ, ◌+◌, ◌<◌, ◌≤◌, inl, inr, Bool, true, false, ◌||◌, if◌then◌else◌, IsTrue, List, [], ◌∷◌, Option, Some, None, sym, ◌∙◌, ap}
use Rattle.std.proofs.Common.{nat_lt, arith}
use Rattle.std.proofs.lemmas.Bool.{cases_lt, true≢false}
use Rattle.std.proofs.lemmas.Bool.Decides.{nat_tests}
use Rattle.page_types.specs.declared.calls.Kind.{Kind}
use Rattle.page_types.specs.declared.calls.Call.{Call}
use Rattle.page_types.specs.declared.calls.Call.TheVariants.{Map, Unmap, Protect, Fault, Seal, Brk, Remap}
use Rattle.page_types.specs.declared.calls.Reply.{Reply}
use Rattle.page_types.specs.Pages.{page_of, page_count, end_page}
use Rattle.page_types.specs.Sets.{has_bits, flag_bits}
use Rattle.space_model.specs.declared.areas.Area.{Area}
use Rattle.space_model.specs.declared.entries.Entry.{Entry}
use Rattle.space_model.specs.declared.paint.Paint.TheVariants.{Gives, Seals}
use Rattle.space_model.specs.declared.paint.Patch.{Patch}
use Rattle.space_model.specs.declared.sorts.Sort.TheVariants.{Mapped, Sealed, Unlike}
use Rattle.space_model.specs.Areas.{kind_at}
use Rattle.space_model.specs.Effect.{sealed_kind, heap_kind, painted, patch, with_patch, patched}
use Rattle.space_model.specs.Sorts.{is_sort, IsClear}
use Rattle.space_model.specs.Sorts.Bar.{bar}
use Rattle.space_model.specs.Places.{StartsAt, window_of}
use Rattle.space_model.specs.Places.Place.{fixed, free_at, highest_in}
use Rattle.space_model.specs.Answers.{IsEffect, Answers}
use Rattle.space_model.specs.Answers.Effect.{changes}
use Rattle.space_model.specs.Answers.Breaks.{below_base, shrinks, grows, no_room}
use Rattle.space_model.specs.Answers.Remaps.{shorter, stays, moves}
use Rattle.space_model.specs.Answers.Answers.{by_arguments, refused, kept, done, too_many_rows}
use Rattle.space_model.specs.Laws.{SealedPagesStay}
use Rattle.space_model.proofs.Effects.{patches_by}
use Rattle.space_model.proofs.Remapping.{placed_free, placed_behind}

-- a sealed kind isn't the heap's
heap_open : (k : Kind) → IsTrue k.sealed → is_sort (Unlike (Some heap_kind)) (Some k) ≡ false → ⊥
heap_open k sealed f = grind (arith, nat_tests)

module _ (kinds : ℕ → Option Kind) (page : ℕ) (kind : Kind) (is : kinds page ≡ Some kind) (sealed : IsTrue kind.sealed) where
  -- the page isn't free
  isnt_free : kinds page ≡ None → ⊥
  isnt_free none = let both : Some kind ≡ None = sym is ∙ none in cc

  -- no bar finds it unmapped
  isnt_unmapped : is_sort Mapped (kinds page) ≡ false → ⊥
  isnt_unmapped f = true≢false (sym (ap (is_sort Mapped) is) ∙ f)

  -- or open
  isnt_open : is_sort Sealed (kinds page) ≡ false → ⊥
  isnt_open f = true≢false (sym sealed ∙ sym (ap (is_sort Sealed) is) ∙ f)

  -- a patch that doesn't have it leaves it its kind
  outside : (q : Patch) (f : ℕ → Option Kind) → f page ≡ Some kind → (q.lo ≤ page → page < q.hi → ⊥) → with_patch q f page ≡ Some kind
  outside q f at apart = grind (arith, nat_tests)

  -- no heap has it
  isnt_heap : is_sort (Unlike (Some heap_kind)) (kinds page) ≡ false → ⊥
  isnt_heap f = heap_open kind sealed (sym (ap (is_sort (Unlike (Some heap_kind))) is) ∙ f)

  -- sealed once more it is as it was
  same_sealed : sealed_kind kind ≡ kind
  same_sealed = λ i. record { prot = kind.prot; shared = kind.shared; sealed = sym sealed i }

  -- so a Seal leaves it its kind
  sealed_again : (lo hi : ℕ) → with_patch (patch lo hi Seals) kinds page ≡ Some kind
  sealed_again lo hi = grind (arith, nat_tests, is, ap (painted Seals) is ∙ ap (λ k. Some k) same_sealed)

  -- a Map isn't put over it
  map_apart : (four eight : Bool) (hint window pages start : ℕ) →
      IsClear kinds (if eight then bar Mapped hint (hint + pages) ∷ [] else if four then bar Sealed hint (hint + pages) ∷ [] else []) →
      StartsAt kinds pages (if four || eight then fixed hint ∷ [] else free_at window hint ∷ highest_in window ∷ []) start →
      start ≤ page → page < start + pages → ⊥
  map_apart true true hint window pages start clear (inl e) low high = isnt_unmapped (clear.0 page (omega arith) (omega arith))
  map_apart true true hint window pages start clear (inr (n, s)) low high = n
  map_apart true false hint window pages start clear (inl e) low high = isnt_open (clear.0 page (omega arith) (omega arith))
  map_apart true false hint window pages start clear (inr (n, s)) low high = n
  map_apart false true hint window pages start clear (inl e) low high = isnt_unmapped (clear.0 page (omega arith) (omega arith))
  map_apart false true hint window pages start clear (inr (n, s)) low high = n
  map_apart false false hint window pages start clear (inl (fit, e)) low high = isnt_free (fit.free page (omega arith) (omega arith))
  map_apart false false hint window pages start clear (inr (n, inl fit)) low high = isnt_free (fit.fits.free page low high)
  map_apart false false hint window pages start clear (inr (n, inr (m, s))) low high = s

  -- two patches that don't have it leave it its kind, in either order
  outside_both : (b : Bool) (p q : Patch) → (p.lo ≤ page → page < p.hi → ⊥) → (q.lo ≤ page → page < q.hi → ⊥) →
      patched (if b then p ∷ q ∷ [] else q ∷ p ∷ []) kinds page ≡ Some kind
  outside_both true p q one other = outside q (with_patch p kinds) (outside p kinds is one) other
  outside_both false p q one other = outside p (with_patch q kinds) (outside q kinds is other) one

  -- nor does one patch that doesn't have it
  one_keeps : {ps : List Patch} {r s : Reply} {f g : Option Reply} {q : Patch} → changes ps r f ≡ changes (q ∷ []) s g →
      (q.lo ≤ page → page < q.hi → ⊥) → patched ps kinds page ≡ Some kind
  one_keeps {q = q} d apart = patches_by (λ l. patched l kinds page ≡ Some kind) d (outside q kinds is apart)

  -- so what a call changes leaves it its kind: most bars find none sealed
  changes_keep : (c : Call) (ps : List Patch) (r : Reply) (f : Option Reply) → IsEffect kinds c (changes ps r f) →
      patched ps kinds page ≡ Some kind
  changes_keep (Map addr len prot flags) ps r f (clear, (start, s, d)) =
      one_keeps d (map_apart (has_bits (flag_bits flags) 4) (has_bits (flag_bits flags) 8) (page_of addr) (window_of (page_of addr))
      (page_count len) start clear s)
  changes_keep (Unmap addr len) ps r f (clear, d) = one_keeps d (λ low high. isnt_open (clear.0 page low high))
  changes_keep (Protect addr len prot) ps r f (clear, d) = one_keeps d (λ low high. isnt_open (clear.1.0 page low high))
  changes_keep (Fault addr access) ps r f (clear, (s, h, d)) = cc
  changes_keep (Seal addr len flags) ps r f (clear, d) =
      patches_by (λ l. patched l kinds page ≡ Some kind) d (sealed_again (page_of addr) (end_page addr len))
  -- no heap has it, and where one grows the pages were free
  changes_keep (Brk base addr) ps r f (clear, (end, heap, below_base l d)) = cc
  changes_keep (Brk base addr) ps r f (clear, (end, heap, shrinks m l d)) =
      one_keeps d (λ low high. isnt_heap (heap.none_below page (omega arith) high))
  changes_keep (Brk base addr) ps r f (clear, (end, heap, grows m l room d)) = one_keeps d (λ low high. isnt_free (room.1 page low high))
  changes_keep (Brk base addr) ps r f (clear, (end, heap, no_room m l room d)) = cc
  -- the old pages of a Remap aren't sealed, and its place was free
  changes_keep (Remap addr old new may hint) ps r f (clear, shorter l d) =
      one_keeps d (λ low high. isnt_open (clear.1.0 page (omega arith) high))
  changes_keep (Remap addr old new may hint) ps r f (clear, stays l s d) =
      one_keeps d (λ low high.
      elim (cases_lt page (end_page addr old)) [
        | inl own ↦ isnt_open (clear.1.0 page low own)
        | inr behind ↦ isnt_free (placed_behind kinds (page_count new) (page_of addr) (end_page addr old) may hint s page low behind high)
      ])
  changes_keep (Remap addr old new may hint) ps r f (clear, moves start l s n d) =
      patches_by (λ l. patched l kinds page ≡ Some kind) d
      (outside_both (nat_lt (page_of addr) start) (patch (page_of addr) (end_page addr old) (Gives None))
      (patch start (start + page_count new) (Gives (kinds (page_of addr)))) (λ low high. isnt_open (clear.1.0 page low high))
      (λ low high. isnt_free (placed_free kinds (page_count new) (page_of addr) (end_page addr old) may hint start s n page low high)))

-- one call leaves a sealed page its kind
pub sealed_stays : (A : List Area) (c : Call) (r : Reply) (B : List Area) (page : ℕ) (kind : Kind) → Answers A c r B →
    kind_at A page ≡ Some kind → IsTrue kind.sealed → kind_at B page ≡ Some kind
sealed_stays A c r B page kind (by_arguments e b) is sealed = ap (λ X. kind_at X page) b ∙ is
sealed_stays A c r B page kind (refused why u f e b) is sealed = ap (λ X. kind_at X page) b ∙ is
sealed_stays A c r B page kind (kept u g b) is sealed = ap (λ X. kind_at X page) b ∙ is
sealed_stays A c r B page kind (done ps f u p k n) is sealed = k.kinds_are page ∙ changes_keep (kind_at A) page kind is sealed c ps r f p
sealed_stays A c r B page kind (too_many_rows ps t f C u p k n e b) is sealed = ap (λ X. kind_at X page) b ∙ is

-- so do any calls, one after another
pub sealed_pages_stay : (A : List Area) (xs : List Entry) → SealedPagesStay A xs
sealed_pages_stay A [] B page kind s is sealed = ap (λ X. kind_at X page) s ∙ is
sealed_pages_stay A (x ∷ xs) B page kind (C, (r, h), s) is sealed =
    sealed_pages_stay C xs B page kind s (sealed_stays A x.call r C page kind h is sealed) sealed
