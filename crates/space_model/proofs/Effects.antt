-- The replies of what a call does, whichever call it is.
use Rattle.std.proofs.Common.{◌≡◌, ℕ, ◌*◌, ◌<◌, ◌≤◌, ◌⊎◌, inl, inr, List, [], ◌∷◌, Option, Some, None, sym, ◌∙◌, ap, subst}
use Rattle.page_types.specs.declared.calls.Kind.{Kind}
use Rattle.page_types.specs.declared.calls.Call.{Call}
use Rattle.page_types.specs.declared.calls.Call.TheVariants.{Map, Unmap, Protect, Fault, Seal, Brk, Remap}
use Rattle.page_types.specs.declared.calls.Reply.{Reply}
use Rattle.page_types.specs.declared.calls.Reply.TheVariants.{At, Zero, Refused}
use Rattle.page_types.specs.declared.calls.Why.{Why}
use Rattle.page_types.specs.declared.calls.Why.TheVariants.{Enomem}
use Rattle.page_types.specs.declared.calls.Short.TheVariants.{NoGap, Rows}
use Rattle.page_types.specs.Pages.{page_count}
use Rattle.space_model.specs.declared.paint.Patch.{Patch}
use Rattle.space_model.specs.declared.sorts.Sort.{Sort}
use Rattle.space_model.specs.Places.{Place}
use Rattle.space_model.specs.Effect.{patched}
use Rattle.space_model.specs.Sorts.{Bar, why_of, IsBarred}
use Rattle.space_model.specs.Sorts.Bar.{bar}
use Rattle.space_model.specs.Answers.{bars, RefusesByState, Effect, Breaks, Remaps, Does, full_reply}
use Rattle.space_model.specs.Answers.Effect.{keeps, changes}
use Rattle.space_model.specs.Answers.Breaks.{below_base, shrinks, grows, no_room}
use Rattle.space_model.specs.Answers.Remaps.{shorter, stays, moves}
use Rattle.space_model.proofs.Changing.{patch-outside}

-- the patches of what a call does
abbrev pub patches_in : Effect → List Patch
patches_in (keeps r) = []
patches_in (changes ps r f) = ps

-- what holds of these holds of the patches of the same effect
pub patches_by : (P : List Patch → Type 0) {ps : List Patch} {r : Reply} {f : Option Reply} {e : Effect} → changes ps r f ≡ e →
    P (patches_in e) → P ps
patches_by P d h = subst (λ e. P (patches_in e)) (sym d) h

-- outside of its one patch an effect leaves the kinds
pub one_outside : (kinds : ℕ → Option Kind) (page : ℕ) {ps : List Patch} {r s : Reply} {f g : Option Reply} {q : Patch} →
    changes ps r f ≡ changes (q ∷ []) s g → (page < q.lo) ⊎ (q.hi ≤ page) → patched ps kinds page ≡ kinds page
one_outside kinds page {q = q} d out = patches_by (λ l. patched l kinds page ≡ kinds page) d (patch-outside q kinds page out)

-- what holds of each reason that names a page of a sort, and of those that name a gap, holds of each refusal by the
-- state
pub refusal_by : (P : Why → Type 0) (kinds : ℕ → Option Kind) (c : Call) (why : Why) → ((sort : Sort) (page : ℕ) → P (why_of sort page)) →
    ((n : ℕ) → P (Enomem (NoGap n))) → RefusesByState kinds c why → P why
refusal_by P kinds c why pages gap (inl r) = barred (bars kinds c) r
  where
    barred : (list : List Bar) → IsBarred kinds list why → P why
    barred [] r = absurd r
    barred (bar sort lo hi ∷ rest) (inl (p, l, e)) = subst P (sym e) (pages sort p)
    barred (bar sort lo hi ∷ rest) (inr (n, r)) = barred rest r
refusal_by P kinds (Map addr len prot flags) why pages gap (inr (clear, r)) = subst P (sym r.1) (gap (page_count len))
refusal_by P kinds (Unmap addr len) why pages gap (inr (clear, r)) = absurd r
refusal_by P kinds (Protect addr len prot) why pages gap (inr (clear, r)) = absurd r
refusal_by P kinds (Fault addr access) why pages gap (inr (clear, r)) = absurd r
refusal_by P kinds (Seal addr len flags) why pages gap (inr (clear, r)) = absurd r
refusal_by P kinds (Brk base addr) why pages gap (inr (clear, r)) = absurd r
refusal_by P kinds (Remap addr old new may hint) why pages gap (inr (clear, r)) = subst P (sym r.2) (gap (page_count new))

-- a reply that counts rows, where no other one is named
pub counted : (r : Reply) (f : Option Reply) (rows : ℕ) → f ≡ None → r ≡ full_reply f rows → r ≡ Refused (Enomem (Rows rows))
counted r f rows none e = e ∙ ap (λ o. full_reply o rows) none

-- a change is answered by an address, or by that it was done
pub data Says (r : Reply) : Type 0 where
  says_at : (n : ℕ) → r ≡ At n → Says r
  says_done : r ≡ Zero → Says r

-- one that makes too many rows is refused with their number, or answered by an address
pub data SaysFull (f : Option Reply) : Type 0 where
  counts_rows : f ≡ None → SaysFull f
  full_at : (n : ℕ) → f ≡ Some (At n) → SaysFull f

module _ (kinds : ℕ → Option Kind) where
  -- so is what any call changes
  pub says : (c : Call) (ps : List Patch) (r : Reply) (f : Option Reply) → Does kinds c (changes ps r f) → Says r × SaysFull f
  says (Map addr len prot flags) ps r f (start, s, d) = (says_at (start * 4096) cc, counts_rows cc)
  says (Unmap addr len) ps r f d = (says_done cc, counts_rows cc)
  says (Protect addr len prot) ps r f d = (says_done cc, counts_rows cc)
  says (Fault addr access) ps r f (s, h, d) = cc
  says (Seal addr len flags) ps r f d = (says_done cc, counts_rows cc)
  says (Brk base addr) ps r f (end, is, below_base l d) = cc
  says (Brk base addr) ps r f (end, is, shrinks m l d) = (says_at addr cc, full_at (end * 4096) cc)
  says (Brk base addr) ps r f (end, is, grows m l h d) = (says_at addr cc, full_at (end * 4096) cc)
  says (Brk base addr) ps r f (end, is, no_room m l h d) = cc
  says (Remap addr old new may hint) ps r f (shorter l d) = (says_at addr cc, counts_rows cc)
  says (Remap addr old new may hint) ps r f (stays l s d) = (says_at addr cc, counts_rows cc)
  says (Remap addr old new may hint) ps r f (moves start l s n d) = (says_at (start * 4096) cc, counts_rows cc)

  -- a Brk that changes nothing answers the heap's end
  pub brk_kept : (base addr end : ℕ) (r : Reply) → Breaks kinds base addr end (keeps r) → r ≡ At (end * 4096)
  brk_kept base addr end r (below_base l d) = cc
  brk_kept base addr end r (shrinks m l d) = cc
  brk_kept base addr end r (grows m l h d) = cc
  brk_kept base addr end r (no_room m l h d) = cc

  -- a Remap that isn't refused is a change, of no page perhaps
  pub remap_kept : (addr old new : ℕ) (places : List Place) (r : Reply) → Remaps kinds addr old new places (keeps r) → ⊥
  remap_kept addr old new places r (shorter l d) = cc
  remap_kept addr old new places r (stays l s d) = cc
  remap_kept addr old new places r (moves start l s n d) = cc
