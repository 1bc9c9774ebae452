-- What a step of the body has found gives the call's answer.
use Rattle.std.proofs.Common.{◌≡◌, ℕ, ◌+◌, ◌*◌, ◌^◌, ◌<◌, ◌≤◌, List, [], ◌∷◌, length, Option, Some, None, MatchOption, Bool, true, false, nat_lt, if◌then◌else◌}
use Rattle.std.proofs.Common.{inl, inr, sym, subst, arith}
use Rattle.std.proofs.lemmas.Bool.Decides.{nat_tests}
use Rattle.page_types.specs.declared.TheConstants.{LIMIT, ROWS}
use Rattle.page_types.specs.Pages.{page_of, page_count, end_page}
use Rattle.page_types.specs.Named.{IsNamedOption, IsNamedCall, IsNamedReply, IsNamedWhy}
use Rattle.page_types.specs.declared.calls.Kind.{Kind}
use Rattle.page_types.specs.declared.calls.Call.{Call}
use Rattle.page_types.specs.declared.calls.Call.TheVariants.{Map, Unmap, Protect, Fault, Seal, Brk, Remap}
use Rattle.page_types.specs.declared.calls.Reply.{Reply}
use Rattle.page_types.specs.declared.calls.Why.{Why}
use Rattle.page_types.specs.declared.sets.Access.{Access}
use Rattle.space_model.specs.declared.areas.Area.{Area}
use Rattle.space_model.specs.declared.judged.Change.{Change}
use Rattle.space_model.specs.declared.judged.Judged.TheVariants.{Changes}
use Rattle.space_model.specs.declared.paint.Patch.{Patch}
use Rattle.space_model.specs.declared.sorts.Sort.{Sort}
use Rattle.space_model.specs.declared.sorts.Sort.TheVariants.{Mapped, Missing, Sealed, Unlike}
use Rattle.space_model.specs.Areas.{IsAreaList, HasKinds, HasNamedKinds, kind_at, gaps_from, gap_between, row_count}
use Rattle.space_model.specs.Effect.{patched, AreRising}
use Rattle.space_model.specs.Sorts.{why_of}
use Rattle.space_model.specs.Places.{remap_places}
use Rattle.space_model.specs.Answers.{AnswersFault, RefusesByState, IsEffect, full_reply}
use Rattle.space_model.specs.Answers.Effect.{keeps, changes}
use Rattle.space_model.specs.Answers.Breaks.{below_base, shrinks, grows, no_room}
use Rattle.space_model.specs.Answers.Remaps.{shorter, stays, moves}
use Rattle.space_model.specs.Judges.{IsNamedPaint, AreNamedPaints, IsNamedChange, IsJudged, second_of, patches_of}
use Rattle.space_model.proofs.Effects.{patches_by, refusal_by, Says, SaysFull, says, brk_kept, remap_kept}
use Rattle.space_model.proofs.Effects.Says.{says_at, says_done}
use Rattle.space_model.proofs.Effects.SaysFull.{counts_rows, full_at}
use Rattle.space_model.proofs.NamedKinds.{named_at}
use Rattle.space_model.proofs.TwiceOnce.{row_count-patched}

gap_between-le : (lo hi : ℕ) → gap_between lo hi ≤ 1
gap_between-le lo hi = grind (arith, nat_tests)

gaps_from-le : (e : ℕ) (A : List Area) → gaps_from e A ≤ length A + 1
gaps_from-le e [] = omega (arith, gap_between-le e LIMIT)
gaps_from-le e (a ∷ rest) = omega (arith, gap_between-le e a.lo, gaps_from-le a.hi rest)

-- a list has at most twice as many rows as areas, and one more
pub row_count-le : (A : List Area) → row_count A ≤ 2 * length A + 1
row_count-le A = omega (arith, gaps_from-le 0 A)

second_few : (second : Option Patch) → length (second_of second) ≤ 1
second_few None = omega arith
second_few (Some p) = omega arith

-- a change has two patches at most
pub patches_few : (change : Change) → length (patches_of change) ≤ 2
patches_few change = omega (arith, second_few change.second)

-- a change makes not too many rows to count
pub rows-fit : (A B : List Area) (change : Change) → IsAreaList A → length A < 2 ^ 30 → AreRising 0 (patches_of change) →
    HasKinds (patched (patches_of change) (kind_at A)) B → row_count B < 2 ^ 32
rows-fit A B change w l r k =
    omega (arith, row_count-le A, row_count-patched A B 0 (patches_of change) w r k, second_few change.second)

-- a list within the row limit has few areas
pub length-fits : (B : List Area) → row_count B ≤ ROWS → length B < 2 ^ 30
length-fits B l = omega arith

-- the reason of a refusal by the state names no kind
pub refusal-named : (kinds : ℕ → Option Kind) (c : Call) (why : Why) → RefusesByState kinds c why → IsNamedWhy why
refusal-named kinds c why r = refusal_by IsNamedWhy kinds c why named (λ n. tt) r
  where
    named : (sort : Sort) (page : ℕ) → IsNamedWhy (why_of sort page)
    named Mapped page = tt
    named Missing page = tt
    named Sealed page = tt
    named (Unlike first) page = tt

-- the reply of a change, and the one where there are too many rows, have named bits alone
abbrev pub IsSaid : Reply → Option Reply → Type 0
IsSaid reply full = IsNamedReply reply × MatchOption full (Unit {0}) IsNamedReply

fault-named : (o : Option Kind) (page : ℕ) (access : Access) (r : Reply) → IsNamedOption o → AnswersFault o page access r → IsNamedReply r
fault-named None page access r n h = subst IsNamedReply (sym h) tt
fault-named (Some k) page access r n (inl h) = subst IsNamedReply (sym h.1) n
fault-named (Some k) page access r n (inr h) = subst IsNamedReply (sym h.1) n

-- a reply that changes nothing has named bits alone, where the kinds of the pages have
pub kept-named : (kinds : ℕ → Option Kind) (c : Call) (r : Reply) → ((p : ℕ) → IsNamedOption (kinds p)) → IsEffect kinds c (keeps r) →
    IsNamedReply r
kept-named kinds (Map addr len prot flags) r n (clear, (start, s, d)) = cc
kept-named kinds (Unmap addr len) r n (clear, d) = cc
kept-named kinds (Protect addr len prot) r n (clear, d) = cc
kept-named kinds (Seal addr len flags) r n (clear, d) = cc
kept-named kinds (Brk base addr) r n (clear, (end, is, d)) = subst IsNamedReply (sym (brk_kept kinds base addr end r d)) tt
kept-named kinds (Remap addr old new may hint) r n (clear, d) =
    absurd (remap_kept kinds addr (page_count old) (page_count new) (remap_places (page_of addr) (end_page addr old) may hint) r d)
kept-named kinds (Fault addr access) r n (clear, (s, h, d)) =
    let same : s ≡ r = cc in
    subst IsNamedReply same (fault-named (kinds (page_of addr)) (page_of addr) access s (n (page_of addr)) h)

said_reply : (r : Reply) → Says r → IsNamedReply r
said_reply r (says_at n e) = subst IsNamedReply (sym e) tt
said_reply r (says_done e) = subst IsNamedReply (sym e) tt

said_full : (f : Option Reply) → SaysFull f → MatchOption f (Unit {0}) IsNamedReply
said_full f (counts_rows e) = subst (λ (o : Option Reply). MatchOption o (Unit {0}) IsNamedReply) (sym e) tt
said_full f (full_at n e) = subst (λ (o : Option Reply). MatchOption o (Unit {0}) IsNamedReply) (sym e) tt

-- so have the replies of a change
pub said-named : (kinds : ℕ → Option Kind) (c : Call) (ps : List Patch) (r : Reply) (f : Option Reply) →
    IsEffect kinds c (changes ps r f) → IsSaid r f
said-named kinds c ps r f p = let s = says kinds c ps r f p.1 in (said_reply r s.0, said_full f s.1)

-- the paints of two patches, in either order
order_named : (b : Bool) (p q : Patch) → IsNamedPaint p.paint → IsNamedPaint q.paint →
    AreNamedPaints (if b then p ∷ q ∷ [] else q ∷ p ∷ [])
order_named true p q n m = (n, (m, tt))
order_named false p q n m = (m, (n, tt))

-- and its paints, where the call and the kinds of the pages have
pub paints-named : (kinds : ℕ → Option Kind) (c : Call) (ps : List Patch) (r : Reply) (f : Option Reply) →
    ((p : ℕ) → IsNamedOption (kinds p)) → IsNamedCall c → IsEffect kinds c (changes ps r f) → AreNamedPaints ps
paints-named kinds (Map addr len prot flags) ps r f n m (clear, (start, s, d)) = patches_by AreNamedPaints d (m.0, tt)
paints-named kinds (Unmap addr len) ps r f n m (clear, d) = patches_by AreNamedPaints d (tt, tt)
paints-named kinds (Protect addr len prot) ps r f n m (clear, d) = patches_by AreNamedPaints d (m, tt)
paints-named kinds (Fault addr access) ps r f n m (clear, (s, h, d)) = cc
paints-named kinds (Seal addr len flags) ps r f n m (clear, d) = patches_by AreNamedPaints d (tt, tt)
paints-named kinds (Brk base addr) ps r f n m (clear, (end, is, below_base l d)) = cc
paints-named kinds (Brk base addr) ps r f n m (clear, (end, is, shrinks k l d)) = patches_by AreNamedPaints d (tt, tt)
paints-named kinds (Brk base addr) ps r f n m (clear, (end, is, grows k l h d)) = patches_by AreNamedPaints d (omega arith, tt)
paints-named kinds (Brk base addr) ps r f n m (clear, (end, is, no_room k l h d)) = cc
paints-named kinds (Remap addr old new may hint) ps r f n m (clear, shorter l d) = patches_by AreNamedPaints d (tt, tt)
paints-named kinds (Remap addr old new may hint) ps r f n m (clear, stays l s d) = patches_by AreNamedPaints d (n (page_of addr), tt)
paints-named kinds (Remap addr old new may hint) ps r f n m (clear, moves start l s o d) =
    patches_by AreNamedPaints d (order_named (nat_lt (page_of addr) start) _ _ tt (n (page_of addr)))

-- a change of a call with named bits has named bits alone, where the areas have
pub judged-named : (A : List Area) (c : Call) (change : Change) → HasNamedKinds A → IsNamedCall c →
    IsJudged (kind_at A) c (Changes change) → IsNamedChange change
judged-named A c change n m j =
    let said = said-named (kind_at A) c (patches_of change) change.reply change.full j.0 in (
      paints-named (kind_at A) c (patches_of change) change.reply change.full (λ p. named_at A p n) m j.0,
      said.0,
      said.1,
    )

-- the reply where there are too many rows has named bits alone
pub full-named : (full : Option Reply) (n : ℕ) → MatchOption full (Unit {0}) IsNamedReply → IsNamedReply (full_reply full n)
full-named None n h = tt
full-named (Some reply) n h = h
