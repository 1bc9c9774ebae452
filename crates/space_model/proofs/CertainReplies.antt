-- When a call is refused for its rows, and what a fault answers.
use Rattle.std.proofs.Common.{◌≡◌, ◌≢◌, ℕ, ◌+◌, ◌*◌, ◌<◌, ◌≤◌, Bool, true, false, if◌then◌else◌, List, [], ◌∷◌, Option, Some, None, sym, ◌∙◌, ap, subst, refl}
use Rattle.std.proofs.Common.{arith, inl, inr}
use Rattle.std.proofs.lemmas.Bool.{cases_lt, lt-leb}
use Rattle.std.proofs.lemmas.Bool.Decides.{nat_tests}
use Rattle.page_types.specs.declared.TheConstants.{LIMIT, LOWEST}
use Rattle.page_types.specs.declared.calls.Kind.{Kind}
use Rattle.page_types.specs.declared.calls.Call.{Call}
use Rattle.page_types.specs.declared.calls.Call.TheVariants.{Map, Unmap, Protect, Fault, Seal, Brk, Remap}
use Rattle.page_types.specs.declared.calls.Reply.{Reply}
use Rattle.page_types.specs.declared.calls.Reply.TheVariants.{At, Granted, Refused}
use Rattle.page_types.specs.declared.calls.Why.{Why}
use Rattle.page_types.specs.declared.calls.Why.TheVariants.{Enomem, MapErr}
use Rattle.page_types.specs.declared.calls.Short.TheVariants.{Rows}
use Rattle.page_types.specs.declared.sets.Access.{Access}
use Rattle.page_types.specs.declared.sets.MapFlags.{MapFlags}
use Rattle.page_types.specs.declared.sets.Prot.{Prot}
use Rattle.page_types.specs.Pages.{page_of, page_count, end_page}
use Rattle.page_types.specs.Sets.{is_fixed}
use Rattle.page_types.specs.PlainReply.{plain_reply}
use Rattle.space_model.specs.declared.areas.Area.{Area}
use Rattle.space_model.specs.declared.paint.Paint.TheVariants.{Gives}
use Rattle.space_model.specs.declared.sorts.Sort.{Sort}
use Rattle.space_model.specs.declared.sorts.Sort.TheVariants.{Mapped, Missing, Sealed, Unlike}
use Rattle.space_model.specs.Areas.{IsAreaList, kind_at, row_count}
use Rattle.space_model.specs.Effect.{mapped_kind, patch, patched}
use Rattle.space_model.specs.Sorts.{why_of}
use Rattle.space_model.specs.Places.{StartsAt, window_of, remap_places}
use Rattle.space_model.specs.Places.Place.{fixed, free_at, highest_in}
use Rattle.space_model.specs.Answers.{RefusesByState, AnswersFault, LetsThrough, Does, full_reply, Answers}
use Rattle.space_model.specs.Answers.Effect.{keeps}
use Rattle.space_model.specs.Answers.Answers.{by_arguments, refused, kept, done, too_many_rows}
use Rattle.space_model.specs.Laws.{AsksFewRowsMore, GrantsWhatThePageAllows, FaultFindsMapped, EndsInItsWindow}
use Rattle.space_model.proofs.Changing.{kind_at-limit, patch-inside}
use Rattle.space_model.proofs.Effects.{patches_in, counted, refusal_by, Says, SaysFull, says, brk_kept, remap_kept}
use Rattle.space_model.proofs.Effects.Says.{says_at, says_done}
use Rattle.space_model.proofs.Effects.SaysFull.{counts_rows, full_at}
use Rattle.space_model.proofs.TwiceOnce.{row_count-does}

-- no arguments alone are refused for rows
plain_not_rows : (c : Call) (n : ℕ) → plain_reply c ≢ Some (Refused (Enomem (Rows n)))
plain_not_rows (Map addr len prot flags) n e = grind (arith, nat_tests)
plain_not_rows (Unmap addr len) n e = grind (arith, nat_tests)
plain_not_rows (Protect addr len prot) n e = grind (arith, nat_tests)
plain_not_rows (Fault addr access) n e = grind (arith, nat_tests)
plain_not_rows (Seal addr len flags) n e = grind (arith, nat_tests)
plain_not_rows (Brk base addr) n e = grind (arith, nat_tests)
plain_not_rows (Remap addr old new may hint) n e = grind (arith, nat_tests)

-- or place a Map, or grant a fault
plain_not_at : (addr len place : ℕ) (prot : Prot) (flags : MapFlags) → plain_reply (Map addr len prot flags) ≢ Some (At place)
plain_not_at addr len place prot flags e = grind (arith, nat_tests)

plain_not_granted : (addr : ℕ) (access : Access) (kind : Kind) → plain_reply (Fault addr access) ≢ Some (Granted kind)
plain_not_granted addr access kind e = grind (arith, nat_tests)

-- nor is a refusal by the state
state_not_rows : (kinds : ℕ → Option Kind) (c : Call) (why : Why) (n : ℕ) → RefusesByState kinds c why → why ≢ Enomem (Rows n)
state_not_rows kinds c why n r = refusal_by (λ w. w ≢ Enomem (Rows n)) kinds c why other (λ m e. cc) r
  where
    other : (sort : Sort) (page : ℕ) → why_of sort page ≢ Enomem (Rows n)
    other Mapped page e = cc
    other Missing page e = cc
    other Sealed page e = cc
    other (Unlike first) page e = cc

-- nor a reply that changes nothing
kept_not_rows : (kinds : ℕ → Option Kind) (c : Call) (n : ℕ) → Does kinds c (keeps (Refused (Enomem (Rows n)))) → ⊥
kept_not_rows kinds (Map addr len prot flags) n (start, s, d) = cc
kept_not_rows kinds (Unmap addr len) n d = cc
kept_not_rows kinds (Protect addr len prot) n d = cc
kept_not_rows kinds (Seal addr len flags) n d = cc
kept_not_rows kinds (Brk base addr) n (end, is, d) = let e = brk_kept kinds base addr end (Refused (Enomem (Rows n))) d in cc
kept_not_rows kinds (Remap addr old new may hint) n d =
    remap_kept kinds addr (page_count old) (page_count new) (remap_places (page_of addr) (end_page addr old) may hint)
    (Refused (Enomem (Rows n))) d
kept_not_rows kinds (Fault addr access) n (r, h, d) = fault (kinds (page_of addr)) h cc
  where
    fault : (o : Option Kind) → AnswersFault o (page_of addr) access r → r ≢ Refused (Enomem (Rows n))
    fault None h e = cc
    fault (Some k) (inl h) e = let f = h.1 in cc
    fault (Some k) (inr h) e = let f = h.1 in cc

-- nor a change that was made
said_not_rows : (r : Reply) (n : ℕ) → Says r → r ≢ Refused (Enomem (Rows n))
said_not_rows r n (says_at m e) d = cc
said_not_rows r n (says_done e) d = cc

-- one that is refused for its rows says how many they would be
full_rows : (f : Option Reply) (n rows : ℕ) → SaysFull f → Refused (Enomem (Rows n)) ≡ full_reply f rows → n ≡ rows
full_rows f n rows (counts_rows e) d =
    let both : Refused (Enomem (Rows n)) ≡ Refused (Enomem (Rows rows)) = d ∙ ap (λ o. full_reply o rows) e in cc
full_rows f n rows (full_at m e) d =
    let both : Refused (Enomem (Rows n)) ≡ At m = d ∙ ap (λ o. full_reply o rows) e in cc

-- a call that is refused for its rows asks for more than ROWS, and for at most so many more than there are
pub few_rows_more : (A : List Area) (c : Call) → IsAreaList A → AsksFewRowsMore A c
few_rows_more A c w n B (by_arguments e b) = absurd (plain_not_rows c n e)
few_rows_more A c w n B (refused why u r e b) = absurd (state_not_rows (kind_at A) c why n r cc)
few_rows_more A c w n B (kept u g b) = absurd (kept_not_rows (kind_at A) c n g.1)
few_rows_more A c w n B (done ps f u p k m) =
    absurd (said_not_rows (Refused (Enomem (Rows n))) n (says (kind_at A) c ps (Refused (Enomem (Rows n))) f p.1).0 refl)
few_rows_more A c w n B (too_many_rows ps t f C u p k m e b) =
    let same : n ≡ row_count C = full_rows f n (row_count C) (says (kind_at A) c ps t f p.1).1 e in
    (omega (arith, m, same), omega (arith, same, row_count-does A C c ps t f w u p k))

-- what a fault answers that its arguments don't decide: the reply that its page gives
fault_from : (A : List Area) (addr : ℕ) (access : Access) (r : Reply) (B : List Area) → plain_reply (Fault addr access) ≡ None →
    Answers A (Fault addr access) r B → AnswersFault (kind_at A (page_of addr)) (page_of addr) access r × (B ≡ A)
fault_from A addr access r B v (by_arguments e b) = cc
fault_from A addr access r B v (refused why u (inl f) e b) = absurd f
fault_from A addr access r B v (refused why u (inr f) e b) = absurd f.1
fault_from A addr access r B v (kept u (clear, (s, h, d)) b) =
    let same : s ≡ r = cc in (subst (AnswersFault (kind_at A (page_of addr)) (page_of addr) access) same h, b)
fault_from A addr access r B v (done ps f u (clear, (s, h, d)) k n) = cc
fault_from A addr access r B v (too_many_rows ps t f C u (clear, (s, h, d)) k n e b) = cc

granted_by : (o : Option Kind) (page : ℕ) (access : Access) (kind : Kind) → AnswersFault o page access (Granted kind) →
    (o ≡ Some kind) × LetsThrough kind access
granted_by None page access kind h = cc
granted_by (Some k) page access kind (inl (t, e)) =
    let same : k ≡ kind = cc in (ap (λ x. Some x) same, subst (λ x. LetsThrough x access) same t)
granted_by (Some k) page access kind (inr (n, e)) = cc

granted_from : (A : List Area) (addr : ℕ) (access : Access) (kind : Kind) (B : List Area) → (o : Option Reply) →
    plain_reply (Fault addr access) ≡ o → Answers A (Fault addr access) (Granted kind) B →
    (kind_at A (page_of addr) ≡ Some kind) × LetsThrough kind access × (B ≡ A)
granted_from A addr access kind B None v answer =
    let (h, b) = fault_from A addr access (Granted kind) B v answer in
    let (e, t) = granted_by (kind_at A (page_of addr)) (page_of addr) access kind h in (e, t, b)
granted_from A addr access kind B (Some r) v (by_arguments e b) = absurd (plain_not_granted addr access kind e)
granted_from A addr access kind B (Some r) v (refused why u f e b) = cc
granted_from A addr access kind B (Some r) v (kept u g b) = cc
granted_from A addr access kind B (Some r) v (done ps f u p k n) = cc
granted_from A addr access kind B (Some r) v (too_many_rows ps t f C u p k n e b) = cc

-- a mapped page is below LIMIT, so a fault on it isn't decided by its arguments
undecided : (A : List Area) (addr : ℕ) (access : Access) (kind : Kind) → IsAreaList A → kind_at A (page_of addr) ≡ Some kind →
    plain_reply (Fault addr access) ≡ None
undecided A addr access kind w e =
    elim (cases_lt (page_of addr) LIMIT) [
      | inl lt ↦ ap (λ b. if b then Some (Refused (MapErr (page_of addr))) else None) (lt-leb LIMIT (page_of addr) lt)
      | inr ge ↦ let none = kind_at-limit A w (page_of addr) ge in cc
    ]

-- a fault is granted exactly where its page has a kind with the access's bit, and changes nothing
pub grants_allowed : (A : List Area) (addr : ℕ) (access : Access) → IsAreaList A → GrantsWhatThePageAllows A addr access
grants_allowed A addr access w kind B = (
  granted_from A addr access kind B (plain_reply (Fault addr access)) refl,
  λ g.
      let page = page_of addr in
      let h : AnswersFault (kind_at A page) page access (Granted kind) =
      subst (λ o. AnswersFault o page access (Granted kind)) (sym g.0) (inl (g.1, refl)) in
      kept (undecided A addr access kind w g.0) (tt, (Granted kind, h, refl)) g.2,
)

-- the pages of a Map that was done have its kind, and what it leaves is an area list
mapped_from : (A : List Area) (addr len place : ℕ) (prot : Prot) (flags : MapFlags) (B : List Area) (p : ℕ) →
    Answers A (Map addr len prot flags) (At place) B → page_of place ≤ p → p < page_of place + page_count len →
    IsAreaList B × (kind_at B p ≡ Some (mapped_kind prot flags))
mapped_from A addr len place prot flags B p (by_arguments e b) l h = absurd (plain_not_at addr len place prot flags e)
mapped_from A addr len place prot flags B p (refused why u f e b) l h = cc
mapped_from A addr len place prot flags B p (kept u (clear, (start, s, d)) b) l h = cc
mapped_from A addr len place prot flags B p (done ps f u (clear, (start, s, d)) k n) l h =
    let at : At place ≡ At (start * 4096) = cc in
    let there : place ≡ start * 4096 = cc in (
      k.areas,
      k.kinds_are p ∙ ap (λ e. patched (patches_in e) (kind_at A) p) d ∙
          patch-inside (patch start (start + page_count len) (Gives (Some (mapped_kind prot flags)))) (kind_at A) p (omega arith) (omega arith),
    )
mapped_from A addr len place prot flags B p (too_many_rows ps t f C u (clear, (start, s, d)) k n e b) l h =
    let says = counted (At place) f (row_count C) cc e in cc

-- a place that isn't bound lies in the hint's window
starts_within : (kinds : ℕ → Option Kind) (b : Bool) (hint window pages start : ℕ) → b ≡ false →
    StartsAt kinds pages (if b then fixed hint ∷ [] else free_at window hint ∷ highest_in window ∷ []) start →
    (LOWEST ≤ start) × (start + pages ≤ window)
starts_within kinds true hint window pages start e s = cc
starts_within kinds false hint window pages start e (inl (fit, at)) = (omega (arith, fit.low, at), omega (arith, fit.high, at))
starts_within kinds false hint window pages start e (inr (n, inl fit)) = (fit.fits.low, fit.fits.high)
starts_within kinds false hint window pages start e (inr (n, inr (m, s))) = absurd s

-- the pages of a Map that binds no address end in its hint's window
pub ends_in_window : (A : List Area) (addr len : ℕ) (prot : Prot) (flags : MapFlags) → EndsInItsWindow A addr len prot flags
ends_in_window A addr len prot flags place B hints (by_arguments e b) = absurd (plain_not_at addr len place prot flags e)
ends_in_window A addr len prot flags place B hints (refused why u f e b) = cc
ends_in_window A addr len prot flags place B hints (kept u (clear, (start, s, d)) b) = cc
ends_in_window A addr len prot flags place B hints (done ps f u (clear, (start, s, d)) k n) =
    let at : At place ≡ At (start * 4096) = cc in
    let there : place ≡ start * 4096 = cc in
    let w = starts_within (kind_at A) (is_fixed flags) (page_of addr) (window_of (page_of addr)) (page_count len) start hints s in
    (omega (arith, w.0, there), omega (arith, w.1, there))
ends_in_window A addr len prot flags place B hints (too_many_rows ps t f C u (clear, (start, s, d)) k n e b) =
    let says = counted (At place) f (row_count C) cc e in cc

-- a fault on a page that a Map has just placed finds the kind that the Map gave
pub finds_mapped : (A : List Area) (addr len : ℕ) (prot : Prot) (flags : MapFlags) (byte : ℕ) (access : Access) →
    FaultFindsMapped A addr len prot flags byte access
finds_mapped A addr len prot flags byte access place s B C first low high second =
    let kind = mapped_kind prot flags in let page = page_of byte in
    let (w, is) = mapped_from A addr len place prot flags B page first low high in
    let (h, b) = fault_from B byte access s C (undecided B byte access kind w is) second in
    elim (subst (λ o. AnswersFault o page access s) is h) [ inl g ↦ inl g.1 | inr g ↦ inr g.1 ]
