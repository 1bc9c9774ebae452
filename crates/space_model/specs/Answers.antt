-- The reply to a call on an area list, and the area list that the call leaves: the profile of mmap(2), munmap(2),
-- mprotect(2), mseal(2), brk(2), mremap(2) and page faults that this project follows. A call is decided by its
-- arguments, or barred by pages, or finds no place, or does what it asks for: it gives a reply alone, or a reply and
-- patches of pages.
use Rattle.std.specs.Prelude.{ℕ, ◌≡◌, ◌≢◌, ◌<◌, ◌≤◌, ◌+◌, ◌*◌, ◌⊎◌, IsTrue, nat_lt, if◌then◌else◌, Option, Some, None, List, [], ◌∷◌}
use Rattle.page_types.specs.declared.TheConstants.{LIMIT, ROWS}
use Rattle.page_types.specs.declared.sets.Access.{Access}
use Rattle.page_types.specs.declared.sets.MapFlags.{MapFlags}
use Rattle.page_types.specs.declared.calls.Kind.{Kind}
use Rattle.page_types.specs.declared.calls.Call.{Call}
use Rattle.page_types.specs.declared.calls.Call.TheVariants.{Map, Unmap, Protect, Fault, Seal, Brk, Remap}
use Rattle.page_types.specs.declared.calls.Reply.{Reply}
use Rattle.page_types.specs.declared.calls.Reply.TheVariants.{At, Zero, Granted, Refused}
use Rattle.page_types.specs.declared.calls.Why.{Why}
use Rattle.page_types.specs.declared.calls.Why.TheVariants.{Enomem, MapErr, AccErr}
use Rattle.page_types.specs.declared.calls.Short.TheVariants.{NoGap, Rows}
use Rattle.page_types.specs.Pages.{page_of, page_count, end_page}
use Rattle.page_types.specs.Sets.{has_bits, flag_bits, prot_bits, access_bit}
use Rattle.page_types.specs.PlainReply.{plain_reply}
use Rattle.space_model.specs.declared.areas.Area.{Area}
use Rattle.space_model.specs.declared.paint.Paint.TheVariants.{Gives, Protects, Seals}
use Rattle.space_model.specs.declared.paint.Patch.{Patch}
use Rattle.space_model.specs.declared.sorts.Sort.TheVariants.{Mapped, Missing, Sealed, Unlike}
use Rattle.space_model.specs.Areas.{kind_at, row_count, HasKinds}
use Rattle.space_model.specs.Effect.{mapped_kind, heap_kind, patch, patched}
use Rattle.space_model.specs.Sorts.{Bar, IsBarred, IsClear, IsEnd}
use Rattle.space_model.specs.Sorts.Bar.{bar}
use Rattle.space_model.specs.Places.{Place, HasRoom, StartsAt, HasNoPlace, map_places, remap_places}

-- mmap(2): with MAP_FIXED_NOREPLACE, which counts also beside MAP_FIXED, no page may be mapped; with MAP_FIXED alone
-- no page that is replaced may be sealed
abbrev pub map_bars : MapFlags → ℕ → ℕ → List Bar
map_bars flags lo hi =
    if has_bits (flag_bits flags) 8 then bar Mapped lo hi ∷ [] else if has_bits (flag_bits flags) 4 then bar Sealed lo hi ∷ [] else []

-- what bars a call, the first bar first; mprotect(2) and mseal(2) want all their pages mapped, and a sealed page
-- refuses to be unmapped or protected, as mseal(2) says; one that is sealed already is no bar for a Seal. mremap(2)
-- wants its old pages mapped and of one kind, the first one's, and then a sealed page bars it too. Nothing bars brk(2),
-- which changes pages of the heap and free ones alone
abbrev pub bars : (ℕ → Option Kind) → Call → List Bar
bars kinds (Map addr len prot flags) = map_bars flags (page_of addr) (page_of addr + page_count len)
bars kinds (Unmap addr len) = bar Sealed (page_of addr) (end_page addr len) ∷ []
bars kinds (Protect addr len prot) = bar Missing (page_of addr) (end_page addr len) ∷ bar Sealed (page_of addr) (end_page addr len) ∷ []
bars kinds (Fault addr access) = []
bars kinds (Seal addr len flags) = bar Missing (page_of addr) (end_page addr len) ∷ []
bars kinds (Brk base addr) = []
bars kinds (Remap addr old new may hint) =
    bar (Unlike (kinds (page_of addr))) (page_of addr) (end_page addr old) ∷ bar Sealed (page_of addr) (end_page addr old) ∷ []

-- pages are to be put somewhere, and no place applies
abbrev pub FindsNoPlace : (ℕ → Option Kind) → Call → Why → Type 0
FindsNoPlace kinds (Map addr len prot flags) why =
    HasNoPlace kinds (page_count len) (map_places flags (page_of addr)) × (why ≡ Enomem (NoGap (page_count len)))
FindsNoPlace kinds (Unmap addr len) why = ⊥
FindsNoPlace kinds (Protect addr len prot) why = ⊥
FindsNoPlace kinds (Fault addr access) why = ⊥
FindsNoPlace kinds (Seal addr len flags) why = ⊥
FindsNoPlace kinds (Brk base addr) why = ⊥
FindsNoPlace kinds (Remap addr old new may hint) why =
    (page_count old < page_count new) × HasNoPlace kinds (page_count new) (remap_places (page_of addr) (end_page addr old) may hint) ×
    (why ≡ Enomem (NoGap (page_count new)))

-- why the pages refuse a call that its arguments don't decide, before the row limit is asked
abbrev pub RefusesByState : (ℕ → Option Kind) → Call → Why → Type 0
RefusesByState kinds c why = IsBarred kinds (bars kinds c) why ⊎ (IsClear kinds (bars kinds c) × FindsNoPlace kinds c why)

-- what a call does: a reply alone; or patches, a reply, and the reply where they make too many rows, None for a refusal
-- that counts them
pub data Effect : Type 0 where
  keeps : Reply → Effect
  changes : List Patch → Reply → Option Reply → Effect

-- the bit that the access needs is in the kind's protection
abbrev pub LetsThrough : Kind → Access → Type 0
LetsThrough kind access = IsTrue (has_bits (prot_bits kind.prot) (access_bit access))

-- the reply to a fault on a page of this kind, or of none: SEGV_MAPERR where it has none, SEGV_ACCERR where the kind
-- lacks the bit
abbrev pub AnswersFault : Option Kind → ℕ → Access → Reply → Type 0
AnswersFault None page access reply = reply ≡ Refused (MapErr page)
AnswersFault (Some kind) page access reply =
    (LetsThrough kind access × (reply ≡ Granted kind)) ⊎ (¬ LetsThrough kind access × (reply ≡ Refused (AccErr page kind)))

-- what a Brk does to a heap that ends at a page: an address below the base changes nothing, and the reply is the heap's
-- end; below that end the pages from the address on, rounded up to pages, go; above it the pages up to it come, if they
-- are free, and otherwise nothing changes and the reply is the heap's end. It is so too where there would be too many
-- rows, since brk(2) isn't refused
pub data Breaks (kinds : ℕ → Option Kind) (base addr end : ℕ) (e : Effect) : Type 0 where
  below_base : addr < base → e ≡ keeps (At (end * 4096)) → Breaks kinds base addr end e
  shrinks :
      base ≤ addr → page_count addr ≤ end →
      e ≡ changes (patch (page_count addr) end (Gives None) ∷ []) (At addr) (Some (At (end * 4096))) → Breaks kinds base addr end e
  grows :
      base ≤ addr → end < page_count addr → HasRoom kinds end (page_count addr) →
      e ≡ changes (patch end (page_count addr) (Gives (Some heap_kind)) ∷ []) (At addr) (Some (At (end * 4096))) →
      Breaks kinds base addr end e
  no_room :
      base ≤ addr → end < page_count addr → ¬ HasRoom kinds end (page_count addr) → e ≡ keeps (At (end * 4096)) →
      Breaks kinds base addr end e

-- two patches in the order of their pages
abbrev pub in_order : Patch → Patch → List Patch
in_order p q = if nat_lt p.lo q.lo then p ∷ q ∷ [] else q ∷ p ∷ []

-- what a Remap does that makes so many pages so many: fewer stay where they are, and those behind them go; more get the
-- first page's kind where the first place that applies starts, and where that isn't the old start the old pages go
pub data Remaps (kinds : ℕ → Option Kind) (addr old new : ℕ) (places : List Place) (e : Effect) : Type 0 where
  shorter :
      new ≤ old → e ≡ changes (patch (page_of addr + new) (page_of addr + old) (Gives None) ∷ []) (At addr) None →
      Remaps kinds addr old new places e
  stays :
      old < new → StartsAt kinds new places (page_of addr) →
      e ≡ changes (patch (page_of addr) (page_of addr + new) (Gives (kinds (page_of addr))) ∷ []) (At addr) None →
      Remaps kinds addr old new places e
  moves :
      (start : ℕ) → old < new → StartsAt kinds new places start → start ≢ page_of addr →
      e ≡
      changes
      (in_order (patch (page_of addr) (page_of addr + old) (Gives None)) (patch start (start + new) (Gives (kinds (page_of addr)))))
      (At (start * 4096)) None →
      Remaps kinds addr old new places e

-- the heap ends at this page: its pages are those of its kind from the base on, whoever mapped them
abbrev pub IsHeapEnd : (ℕ → Option Kind) → ℕ → ℕ → Type 0
IsHeapEnd kinds base end = IsEnd kinds (Unlike (Some heap_kind)) (page_of base) LIMIT end

-- what a call does that nothing refuses
abbrev pub Does : (ℕ → Option Kind) → Call → Effect → Type 0
Does kinds (Map addr len prot flags) e =
    (start : ℕ) × StartsAt kinds (page_count len) (map_places flags (page_of addr)) start
    × (e ≡ changes (patch start (start + page_count len) (Gives (Some (mapped_kind prot flags))) ∷ []) (At (start * 4096)) None)
Does kinds (Unmap addr len) e = e ≡ changes (patch (page_of addr) (end_page addr len) (Gives None) ∷ []) Zero None
Does kinds (Protect addr len prot) e = e ≡ changes (patch (page_of addr) (end_page addr len) (Protects prot) ∷ []) Zero None
Does kinds (Fault addr access) e =
    (reply : Reply) × AnswersFault (kinds (page_of addr)) (page_of addr) access reply × (e ≡ keeps reply)
Does kinds (Seal addr len flags) e = e ≡ changes (patch (page_of addr) (end_page addr len) Seals ∷ []) Zero None
Does kinds (Brk base addr) e = (end : ℕ) × IsHeapEnd kinds base end × Breaks kinds base addr end e
Does kinds (Remap addr old new may hint) e =
    Remaps kinds addr (page_count old) (page_count new) (remap_places (page_of addr) (end_page addr old) may hint) e

-- no bar refuses the call, and this is what it does
abbrev pub IsEffect : (ℕ → Option Kind) → Call → Effect → Type 0
IsEffect kinds c e = IsClear kinds (bars kinds c) × Does kinds c e

-- the reply where there would be so many rows
abbrev pub full_reply : Option Reply → ℕ → Reply
full_reply None rows = Refused (Enomem (Rows rows))
full_reply (Some reply) rows = reply

-- on area list A the call has this reply and leaves area list B: what its arguments decide, else what the pages refuse,
-- else the reply alone, else the change, unless the result would have more than ROWS rows
pub data Answers (A : List Area) (c : Call) (reply : Reply) (B : List Area) : Type 0 where
  by_arguments : plain_reply c ≡ Some reply → B ≡ A → Answers A c reply B
  refused : (why : Why) → plain_reply c ≡ None → RefusesByState (kind_at A) c why → reply ≡ Refused why → B ≡ A → Answers A c reply B
  kept : plain_reply c ≡ None → IsEffect (kind_at A) c (keeps reply) → B ≡ A → Answers A c reply B
  done :
      (patches : List Patch) (full : Option Reply) → plain_reply c ≡ None → IsEffect (kind_at A) c (changes patches reply full) →
      HasKinds (patched patches (kind_at A)) B → row_count B ≤ ROWS → Answers A c reply B
  too_many_rows :
      (patches : List Patch) (said : Reply) (full : Option Reply) (C : List Area) → plain_reply c ≡ None →
      IsEffect (kind_at A) c (changes patches said full) → HasKinds (patched patches (kind_at A)) C → ROWS < row_count C →
      reply ≡ full_reply full (row_count C) → B ≡ A → Answers A c reply B
