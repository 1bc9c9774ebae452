-- What a Remap leaves that was done: its place has the kind of the old pages, the old pages that aren't in the place
-- are free, and every other page is as before.
use Rattle.std.proofs.Common.{◌≡◌, ◌≢◌, ℕ, ◌+◌, ◌*◌, ◌<◌, ◌≤◌, ◌⊎◌, inl, inr, Bool, nat_lt, if◌then◌else◌, List, [], ◌∷◌, Option, Some, None, ◌∙◌, ap, arith}
use Rattle.std.proofs.lemmas.Bool.Decides.{nat_tests}
use Rattle.page_types.specs.declared.calls.Kind.{Kind}
use Rattle.page_types.specs.declared.calls.Call.TheVariants.{Remap}
use Rattle.page_types.specs.declared.calls.Reply.{Reply}
use Rattle.page_types.specs.declared.calls.Reply.TheVariants.{At}
use Rattle.page_types.specs.Pages.{page_of, page_count, end_page}
use Rattle.page_types.specs.PlainReply.{plain_reply}
use Rattle.space_model.specs.declared.areas.Area.{Area}
use Rattle.space_model.specs.declared.paint.Paint.TheVariants.{Gives}
use Rattle.space_model.specs.declared.paint.Patch.{Patch}
use Rattle.space_model.specs.declared.sorts.Sort.TheVariants.{Unlike}
use Rattle.space_model.specs.Areas.{kind_at, row_count}
use Rattle.space_model.specs.Effect.{painted, patch, patched}
use Rattle.space_model.specs.Sorts.{NoneOf}
use Rattle.space_model.specs.Places.{Place, remap_places}
use Rattle.space_model.specs.Answers.{Remaps}
use Rattle.space_model.specs.Answers.Effect.{changes}
use Rattle.space_model.specs.Answers.Remaps.{shorter, stays, moves}
use Rattle.space_model.specs.Answers.Answers.{by_arguments, refused, kept, done, too_many_rows}
use Rattle.space_model.specs.Laws.{IsRemapped, RemapsItsPages}
use Rattle.space_model.proofs.Changing.{patch-outside, patch-inside}
use Rattle.space_model.proofs.Effects.{patches_in, counted, remap_kept}
use Rattle.space_model.proofs.Remapping.{like_same, move_apart}

-- what two patches that lie apart make of the pages of each, and of the others, in either order
module _ (kinds : ℕ → Option Kind) (p q : Patch) (apart : (q.hi ≤ p.lo) ⊎ (p.hi ≤ q.lo)) (page : ℕ) where
  order_first : (b : Bool) → p.lo ≤ page → page < p.hi →
      patched (if b then p ∷ q ∷ [] else q ∷ p ∷ []) kinds page ≡ painted p.paint (kinds page)
  order_first b l h = grind (arith, nat_tests)

  order_second : (b : Bool) → q.lo ≤ page → page < q.hi →
      patched (if b then p ∷ q ∷ [] else q ∷ p ∷ []) kinds page ≡ painted q.paint (kinds page)
  order_second b l h = grind (arith, nat_tests)

  order_others : (b : Bool) → (page < p.lo) ⊎ (p.hi ≤ page) → (page < q.lo) ⊎ (q.hi ≤ page) →
      patched (if b then p ∷ q ∷ [] else q ∷ p ∷ []) kinds page ≡ kinds page
  order_others b one other = grind (arith, nat_tests)

module _ (A : List Area) (addr old new place : ℕ) (B : List Area) where
  -- what a Remap does that nothing refuses: fewer pages, or more, stay where they are, or more go elsewhere
  done_leaves : (may : Bool) (hint : ℕ) (ps : List Patch) (f : Option Reply) → plain_reply (Remap addr old new may hint) ≡ None →
      NoneOf (kind_at A) (Unlike (kind_at A (page_of addr))) (page_of addr) (end_page addr old) →
      Remaps (kind_at A) addr (page_count old) (page_count new) (remap_places (page_of addr) (end_page addr old) may hint)
      (changes ps (At place) f) →
      ((page : ℕ) → kind_at B page ≡ patched ps (kind_at A) page) → IsRemapped A addr old new place B
  done_leaves may hint ps f u like (shorter l d) k =
      let change = patch (page_of addr + page_count new) (end_page addr old) (Gives None) in
      let at : place ≡ addr = cc in
      let is = λ (page : ℕ). k page ∙ ap (λ e. patched (patches_in e) (kind_at A) page) d in
      record {
        placed = λ page low high.
            is page ∙ patch-outside change (kind_at A) page (inl (omega arith)) ∙
            like_same (kind_at A (page_of addr)) (kind_at A page) (like page (omega arith) (omega arith));
        left = λ page low high away.
            is page ∙ patch-inside change (kind_at A) page (elim away [ inl below ↦ absurd (omega arith) | inr above ↦ omega arith ]) high;
        others = λ page out away.
            is page ∙ patch-outside change (kind_at A) page (elim out [ inl below ↦ inl (omega arith) | inr above ↦ inr above ]);
      }
  done_leaves may hint ps f u like (stays l s d) k =
      let change = patch (page_of addr) (page_of addr + page_count new) (Gives (kind_at A (page_of addr))) in
      let at : place ≡ addr = cc in
      let is = λ (page : ℕ). k page ∙ ap (λ e. patched (patches_in e) (kind_at A) page) d in
      record {
        placed = λ page low high. is page ∙ patch-inside change (kind_at A) page (omega arith) (omega arith);
        left = λ page low high away. elim away [ inl below ↦ absurd (omega arith) | inr above ↦ absurd (omega arith) ];
        others = λ page out away.
            is page ∙ patch-outside change (kind_at A) page (elim away [ inl below ↦ inl (omega arith) | inr above ↦ inr (omega arith) ]);
      }
  done_leaves may hint ps f u like (moves start l s n d) k =
      let p = patch (page_of addr) (end_page addr old) (Gives None) in
      let q = patch start (start + page_count new) (Gives (kind_at A (page_of addr))) in
      let first = nat_lt (page_of addr) start in
      let apart = move_apart (kind_at A) addr old new may hint start u like s n in
      let at : place ≡ start * 4096 = cc in
      let is = λ (page : ℕ). k page ∙ ap (λ e. patched (patches_in e) (kind_at A) page) d in
      record {
        placed = λ page low high. is page ∙ order_second (kind_at A) p q apart page first (omega arith) (omega arith);
        left = λ page low high away. is page ∙ order_first (kind_at A) p q apart page first low high;
        others = λ page out away.
            is page ∙ order_others (kind_at A) p q apart page first out
            (elim away [ inl below ↦ inl (omega arith) | inr above ↦ inr (omega arith) ]);
      }

-- a Remap's arguments alone place nothing
plain_not_placed : (addr old new place : ℕ) (may : Bool) (hint : ℕ) → plain_reply (Remap addr old new may hint) ≢ Some (At place)
plain_not_placed addr old new place may hint e = grind (arith, nat_tests)

remap_full : (kinds : ℕ → Option Kind) (addr old new : ℕ) (places : List Place) (ps : List Patch) (r : Reply) (f : Option Reply) →
    Remaps kinds addr old new places (changes ps r f) → f ≡ None
remap_full kinds addr old new places ps r f (shorter l d) = cc
remap_full kinds addr old new places ps r f (stays l s d) = cc
remap_full kinds addr old new places ps r f (moves start l s n d) = cc

-- a Remap that was done leaves the pages of its place, and of the others none
pub remapped : (A : List Area) (addr old new : ℕ) (may : Bool) (hint : ℕ) → RemapsItsPages A addr old new may hint
remapped A addr old new may hint place B (by_arguments e b) = absurd (plain_not_placed addr old new place may hint e)
remapped A addr old new may hint place B (refused why u f e b) = cc
remapped A addr old new may hint place B (kept u g b) =
    absurd (remap_kept (kind_at A) addr (page_count old) (page_count new) (remap_places (page_of addr) (end_page addr old) may hint) (At place) g.1)
remapped A addr old new may hint place B (done ps f u p k n) = done_leaves A addr old new place B may hint ps f u p.0.0 p.1 k.kinds_are
remapped A addr old new may hint place B (too_many_rows ps t f C u p k n e b) =
    let none = remap_full (kind_at A) addr (page_count old) (page_count new) (remap_places (page_of addr) (end_page addr old) may hint) ps t f p.1 in
    let says = counted (At place) f (row_count C) none e in cc
