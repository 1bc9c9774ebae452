-- What an entry's reply and the list that its call leaves keep of the state before it: named bits, and the order of an
-- area list. These are parts of the proofs in `Keeping`; a reader who trusts the check may pass them over.
use Rattle.std.specs.Prelude.{All, Some, nat_le, nat_lt, ◌&&◌, ◌==◌}
use Rattle.std.proofs.Common.{◌≡◌, ◌≤◌, Bool, true, false, not, List, [], ◌∷◌, ◌++◌, sym, subst}
use Rattle.std.proofs.lemmas.List.Elements.{All-cons, All-head, All-tail}
use Rattle.page_types.specs.declared.TheConstants.{LIMIT, ROWS}
use Rattle.page_types.specs.declared.calls.Call.{Call}
use Rattle.page_types.specs.declared.calls.Call.TheVariants.{Map, Unmap, Protect, Fault, Seal, Brk, Remap}
use Rattle.page_types.specs.declared.calls.Reply.{Reply}
use Rattle.page_types.specs.declared.calls.Reply.TheVariants.{Zero, Refused}
use Rattle.page_types.specs.declared.calls.Why.TheVariants.{Einval, Enomem, MapErr}
use Rattle.page_types.specs.declared.calls.Short.TheVariants.{PastEnd}
use Rattle.page_types.specs.declared.pages.Field.TheVariants.{Addr, Len, Flags, End}
use Rattle.page_types.specs.Named.{IsNamedCall, IsNamedReply}
use Rattle.page_types.specs.Pages.{page_of, is_aligned, end_page}
use Rattle.page_types.specs.PlainReply.{plain_reply, first_that_applies}
use Rattle.page_types.specs.Sets.{is_fixed, has_one_sharing}
use Rattle.space_model.specs.declared.areas.Area.{Area}
use Rattle.space_model.specs.declared.entries.Entry.{Entry}
use Rattle.space_model.specs.Areas.{HasNamedKinds, kind_at, row_count}
use Rattle.space_model.specs.Answers.{Answers}
use Rattle.space_model.specs.Answers.Answers.{by_arguments, refused, kept, done, too_many_rows}
use Rattle.space_model.proofs.NamedKinds.{named_at, named-after}
use Rattle.space_model.proofs.Stepping.{refusal-named, kept-named, said-named, paints-named, full-named}
use Rattle.area_guard.specs.Parts.{some_is, none_is}

-- one more of a list of which all are so
pub all_more : (K : Entry → Type 0) (history : List Entry) (e : Entry) → All K history → K e → All K (history ++ e ∷ [])
all_more K [] e all own = All-cons K e [] own all
all_more K (x ∷ xs) e all own = All-cons K x (xs ++ e ∷ []) (All-head K x xs all) (all_more K xs e (All-tail K x xs all) own)

-- the replies of these checks have named bits alone
abbrev AllNamed : List (Bool × Reply) → Type 0
AllNamed [] = Unit {0}
AllNamed (c ∷ cs) = IsNamedReply c.1 × AllNamed cs

first_named : (checks : List (Bool × Reply)) (reply : Reply) → AllNamed checks → first_that_applies checks ≡ Some reply → IsNamedReply reply
first_named [] reply all e = absurd (none_is reply e)
first_named ((true, r) ∷ checks) reply all e = subst IsNamedReply (some_is r reply e) all.0
first_named ((false, r) ∷ checks) reply all e = first_named checks reply all.1 e

plain_named : (c : Call) (reply : Reply) → plain_reply c ≡ Some reply → IsNamedReply reply
plain_named (Map addr len prot flags) reply e = first_named ((is_fixed flags && not (is_aligned addr), Refused (Einval Addr)) ∷
    (len == 0, Refused (Einval Len)) ∷ (not (has_one_sharing flags), Refused (Einval Flags)) ∷
    (is_fixed flags && nat_lt LIMIT (end_page addr len), Refused (Enomem (PastEnd (end_page addr len)))) ∷ []) reply (tt, (tt, (tt, (tt, tt)))) e
plain_named (Unmap addr len) reply e = first_named ((not (is_aligned addr), Refused (Einval Addr)) ∷ (len == 0, Refused (Einval Len)) ∷
    (nat_lt LIMIT (end_page addr len), Refused (Einval End)) ∷ []) reply (tt, (tt, (tt, tt))) e
plain_named (Protect addr len prot) reply e = first_named ((not (is_aligned addr), Refused (Einval Addr)) ∷ (len == 0, Zero) ∷
    (nat_lt LIMIT (end_page addr len), Refused (Enomem (PastEnd (end_page addr len)))) ∷ []) reply (tt, (tt, (tt, tt))) e
plain_named (Fault addr access) reply e = first_named ((nat_le LIMIT (page_of addr), Refused (MapErr (page_of addr))) ∷ []) reply (tt, tt) e
plain_named (Seal addr len flags) reply e = first_named ((not (is_aligned addr), Refused (Einval Addr)) ∷ (len == 0, Zero) ∷
    (not (flags == 0), Refused (Einval Flags)) ∷
    (nat_lt LIMIT (end_page addr len), Refused (Enomem (PastEnd (end_page addr len)))) ∷ []) reply (tt, (tt, (tt, (tt, tt)))) e
plain_named (Brk base addr) reply e = first_named ((base == 0, Refused (Einval Addr)) ∷ (not (is_aligned base), Refused (Einval Addr)) ∷
    (nat_le LIMIT (page_of base), Refused (Einval Addr)) ∷ []) reply (tt, (tt, (tt, tt))) e
plain_named (Remap addr old new may hint) reply e = first_named ((not (is_aligned addr), Refused (Einval Addr)) ∷ (old == 0, Refused (Einval Len)) ∷
    (new == 0, Refused (Einval Len)) ∷ (nat_lt LIMIT (end_page addr old), Refused (Einval End)) ∷ []) reply (tt, (tt, (tt, (tt, tt)))) e

-- where the state's kinds have named bits alone so has the reply
pub reply_named : (A B : List Area) (c : Call) (reply : Reply) → HasNamedKinds A → Answers A c reply B → IsNamedReply reply
reply_named A B c reply named (by_arguments decided same) = plain_named c reply decided
reply_named A B c reply named (refused why none refuses is same) = subst IsNamedReply (sym is) (refusal-named (kind_at A) c why refuses)
reply_named A B c reply named (kept none keeps same) = kept-named (kind_at A) c reply (λ page. named_at A page named) keeps
reply_named A B c reply named (done patches full none does kinds few) = (said-named (kind_at A) c patches reply full does).0
reply_named A B c reply named (too_many_rows patches said full C none does kinds many is same) =
    subst IsNamedReply (sym is) (full-named full (row_count C) (said-named (kind_at A) c patches said full does).1)

-- where a call takes named bits, and the state has no others, the list that it leaves has no others
pub left_named : (A B : List Area) (c : Call) (reply : Reply) → HasNamedKinds A → IsNamedCall c → Answers A c reply B → HasNamedKinds B
left_named A B c reply named call (by_arguments decided same) = subst HasNamedKinds (sym same) named
left_named A B c reply named call (refused why none refuses is same) = subst HasNamedKinds (sym same) named
left_named A B c reply named call (kept none keeps same) = subst HasNamedKinds (sym same) named
left_named A B c reply named call (done patches full none does kinds few) =
    named-after A B patches named (paints-named (kind_at A) c patches reply full (λ page. named_at A page named) call does) kinds
left_named A B c reply named call (too_many_rows patches said full C none does kinds many is same) = subst HasNamedKinds (sym same) named

-- and what it leaves has no more rows than there is room for
pub left_few : (A B : List Area) (c : Call) (reply : Reply) → row_count A ≤ ROWS → Answers A c reply B → row_count B ≤ ROWS
left_few A B c reply few (by_arguments decided same) = subst (λ (l : List Area). row_count l ≤ ROWS) (sym same) few
left_few A B c reply few (refused why none refuses is same) = subst (λ (l : List Area). row_count l ≤ ROWS) (sym same) few
left_few A B c reply few (kept none keeps same) = subst (λ (l : List Area). row_count l ≤ ROWS) (sym same) few
left_few A B c reply few (done patches full none does kinds fits) = fits
left_few A B c reply few (too_many_rows patches said full C none does kinds many is same) = subst (λ (l : List Area). row_count l ≤ ROWS) (sym same) few
