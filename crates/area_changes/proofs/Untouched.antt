-- A call changes no page but those that its arguments and its reply name.
use Rattle.std.proofs.Common.{◌≡◌, ℕ, ◌*◌, ◌<◌, ◌≤◌, ◌⊎◌, inl, inr, Bool, List, Option, sym, ◌∙◌, ap, arith}
use Rattle.page_types.specs.declared.TheConstants.{LIMIT}
use Rattle.page_types.specs.declared.calls.Call.{Call}
use Rattle.page_types.specs.declared.calls.Call.TheVariants.{Map, Unmap, Protect, Fault, Seal, Brk, Remap}
use Rattle.page_types.specs.declared.calls.Reply.{Reply}
use Rattle.page_types.specs.declared.calls.Reply.TheVariants.{At, Zero}
use Rattle.page_types.specs.declared.sets.Access.{Access}
use Rattle.page_types.specs.declared.sets.MapFlags.{MapFlags}
use Rattle.page_types.specs.declared.sets.Prot.{Prot}
use Rattle.page_types.specs.Pages.{page_of, page_count, end_page}
use Rattle.space_model.specs.declared.areas.Area.{Area}
use Rattle.space_model.specs.declared.paint.Patch.{Patch}
use Rattle.space_model.specs.Areas.{IsAreaList, kind_at}
use Rattle.space_model.specs.Effect.{patched}
use Rattle.space_model.specs.Answers.{Answers, Does, IsHeapEnd, Breaks}
use Rattle.space_model.specs.Answers.Effect.{changes}
use Rattle.space_model.specs.Answers.Answers.{by_arguments, refused, kept, done, too_many_rows}
use Rattle.space_model.specs.Answers.Breaks.{below_base, shrinks, grows, no_room}
use Rattle.space_model.proofs.Changing.{kind_at-limit}
use Rattle.space_model.proofs.Effects.{one_outside}
use Rattle.space_model.proofs.HeapEnds.{keeps_outside}
use Rattle.space_model.proofs.Remapped.{remapped}
use Rattle.area_changes.specs.Touching.{IsApart}

-- a page that is apart from pages is so from some of them
pub apart_within : (lo hi from to page : ℕ) → from ≤ lo → hi ≤ to → IsApart from to page → IsApart lo hi page
apart_within lo hi from to page l h (inl b) = inl (omega arith)
apart_within lo hi from to page l h (inr a) = inr (omega arith)

-- a page keeps its kind where no change that the call does would change it
kept_by : (A : List Area) (c : Call) (r : Reply) (B : List Area) (page : ℕ) → Answers A c r B →
    ((ps : List Patch) (f : Option Reply) → Does (kind_at A) c (changes ps r f) → patched ps (kind_at A) page ≡ kind_at A page) →
    kind_at A page ≡ kind_at B page
kept_by A c r B page (by_arguments e b) same = ap (λ X. kind_at X page) (sym b)
kept_by A c r B page (refused why u f e b) same = ap (λ X. kind_at X page) (sym b)
kept_by A c r B page (kept u g b) same = ap (λ X. kind_at X page) (sym b)
kept_by A c r B page (done ps f u is k n) same = sym (k.kinds_are page ∙ same ps f is.1)
kept_by A c r B page (too_many_rows ps t f C u p k n e b) same = ap (λ X. kind_at X page) (sym b)

module _ (A B : List Area) (page : ℕ) where
  -- a page behind the addresses of users has no kind before and after
  pub kept_high : IsAreaList A → IsAreaList B → LIMIT ≤ page → kind_at A page ≡ kind_at B page
  kept_high w v l = kind_at-limit A w page l ∙ sym (kind_at-limit B v page l)

  -- an Unmap, a Protect and a Seal keep the pages that they don't name
  pub unmap_keeps : (addr len : ℕ) → Answers A (Unmap addr len) Zero B → IsApart (page_of addr) (end_page addr len) page →
      kind_at A page ≡ kind_at B page
  unmap_keeps addr len h out = kept_by A (Unmap addr len) Zero B page h (λ ps f d. one_outside (kind_at A) page d out)

  pub protect_keeps : (addr len : ℕ) (prot : Prot) → Answers A (Protect addr len prot) Zero B →
      IsApart (page_of addr) (end_page addr len) page → kind_at A page ≡ kind_at B page
  protect_keeps addr len prot h out = kept_by A (Protect addr len prot) Zero B page h (λ ps f d. one_outside (kind_at A) page d out)

  pub seal_keeps : (addr len flags : ℕ) → Answers A (Seal addr len flags) Zero B → IsApart (page_of addr) (end_page addr len) page →
      kind_at A page ≡ kind_at B page
  seal_keeps addr len flags h out = kept_by A (Seal addr len flags) Zero B page h (λ ps f d. one_outside (kind_at A) page d out)

  -- a Map keeps those that aren't at its place
  pub map_keeps : (addr len at : ℕ) (prot : Prot) (flags : MapFlags) → Answers A (Map addr len prot flags) (At at) B →
      IsApart (page_of at) (end_page at len) page → kind_at A page ≡ kind_at B page
  map_keeps addr len at prot flags h out =
      kept_by A (Map addr len prot flags) (At at) B page h
      (λ ps f d.
      let is : at ≡ d.0 * 4096 = cc d.2 in
      let place : page_of at ≡ d.0 = omega arith in
      one_outside (kind_at A) page d.2 (elim out [ inl b ↦ inl (omega arith) | inr a ↦ inr (omega arith) ]))

  -- a Brk keeps those behind the ends that its heap had and was asked for
  pub brk_keeps : (base addr at end : ℕ) → Answers A (Brk base addr) (At at) B → IsHeapEnd (kind_at A) base end →
      (page < page_of base) ⊎ ((end ≤ page) × (page_count addr ≤ page)) → kind_at A page ≡ kind_at B page
  brk_keeps base addr at end h is out = sym (keeps_outside A base addr (At at) B end page h is out)

  -- a Remap keeps those that were not its old ones and aren't at its place
  pub remap_keeps : (addr old new at : ℕ) (may : Bool) (hint : ℕ) → Answers A (Remap addr old new may hint) (At at) B →
      IsApart (page_of addr) (end_page addr old) page → IsApart (page_of at) (end_page at new) page → kind_at A page ≡ kind_at B page
  remap_keeps addr old new at may hint h out away = sym ((remapped A addr old new may hint at B h).others page out away)

  -- a Fault and a refusal keep all
  pub fault_keeps : (addr : ℕ) (access : Access) (r : Reply) → Answers A (Fault addr access) r B → kind_at A page ≡ kind_at B page
  fault_keeps addr access r h = kept_by A (Fault addr access) r B page h (λ ps f d. cc d.2)

  -- so does what answers an address and no place of pages
  pub brk_elsewhere : (base addr at : ℕ) → (at ≡ addr → ⊥) → Answers A (Brk base addr) (At at) B → kind_at A page ≡ kind_at B page
  brk_elsewhere base addr at differs h = kept_by A (Brk base addr) (At at) B page h (λ ps f d. absurd (by_breaks ps f d.0 d.2))
    where
      by_breaks : (ps : List Patch) (f : Option Reply) (end : ℕ) → Breaks (kind_at A) base addr end (changes ps (At at) f) → ⊥
      by_breaks ps f end (below_base l d) = cc
      by_breaks ps f end (shrinks m l d) = let is : at ≡ addr = cc d in differs is
      by_breaks ps f end (grows m l h d) = let is : at ≡ addr = cc d in differs is
      by_breaks ps f end (no_room m l h d) = cc
