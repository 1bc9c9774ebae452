-- What a change of protection asks for: its attempts, one after another, ask for its pages as a reader first.
use Rattle.std.proofs.Common.{◌≡◌, ◌⊎◌, ℕ, ◌≤◌, List, [], ◌∷◌, refl, sym, subst, inl, inr, ⊎_elim}
use Rattle.std.specs.Prelude.{Option, Some, MatchOption}
use Rattle.page_types.specs.declared.calls.Call.{Call}
use Rattle.page_types.specs.declared.calls.Call.TheVariants.{Protect}
use Rattle.page_types.specs.declared.calls.Reply.{Reply}
use Rattle.page_types.specs.declared.pages.Span.{Span}
use Rattle.page_types.specs.declared.sets.Prot.{Prot}
use Rattle.page_types.specs.Classes.{IsProtect}
use Rattle.page_types.specs.PlainReply.{plain_reply}
use Rattle.page_types.specs.Pages.{page_of, end_page}
use Rattle.space_model.specs.declared.areas.Area.{Area}
use Rattle.space_model.specs.declared.entries.Entry.{Entry}
use Rattle.space_model.specs.declared.entries.Under.{Under}
use Rattle.space_model.specs.declared.entries.Under.TheVariants.{Nothing, Area as OverArea}
use Rattle.space_model.specs.Areas.{IsInRange}
use Rattle.space_model.specs.Held.{HoldsSomeArea, FitsByState, FitsUnder, IsWidened}
use Rattle.lock_core.specs.declared.range.Held.{Held}
use Rattle.range_rw.specs.Contract.{AsksOnly, AsksFor}
use Rattle.range_rw.proofs.Asking.{asks_on, asks_wider, for_first}
use Rattle.area_rows.specs.Changes.{alone}
use Rattle.area_protect.specs.declared.path.Path.{Path}
use Rattle.area_protect.specs.declared.path.Path.TheVariants.{Free}
use Rattle.area_protect.specs.declared.path.Protected.TheVariants.{Given, Spent}
use Rattle.area_protect.specs.declared.steps.Request.{Request}
use Rattle.area_protect.specs.Attempts.{ArePagesOf}
use Rattle.area_protect.specs.Protects.{read_pages, AsksPagesFirst, HasAsked, AskedUnder, AnswerAskedTo}

-- a look under the pages asks for them first
pub looks_first : (lo hi : ℕ) (a b : List Held) → AsksFor (read_pages lo hi) a b → AsksPagesFirst lo hi a b
looks_first lo hi a b f = asks_wider (λ h e. inl e) (for_first f)

-- the area that was found round them is one of an attempt
pub area_then : (lo hi : ℕ) {area : Area} {span : Span} (a b c : List Held) → IsInRange area → area.lo ≤ lo → hi ≤ area.hi → IsWidened area span
    → AsksPagesFirst lo hi a b → AsksOnly (alone span) b c → AsksPagesFirst lo hi a c
area_then lo hi {area} {span} a b c is from until wide first asks = asks_on first (asks_wider (λ h e. inr (area, span, is, from, until, wide, e)) asks)

-- attempts, one after another
pub first_and_first : (lo hi : ℕ) (a b c : List Held) → AsksPagesFirst lo hi a b → AsksPagesFirst lo hi b c → AsksPagesFirst lo hi a c
first_and_first lo hi a b c f g = asks_on f (asks_on (record { more = read_pages lo hi ∷ []; is = refl; all = (inl refl, tt) }) g)

-- behind others or as the first one
pub attempts_first : (lo hi : ℕ) (a b c : List Held) → (b ≡ a) ⊎ AsksPagesFirst lo hi a b → AsksPagesFirst lo hi b c → AsksPagesFirst lo hi a c
attempts_first lo hi a b c way g = ⊎_elim (λ (e : b ≡ a). subst (λ (x : List Held). AsksPagesFirst lo hi x c) e g)
    (λ (f : AsksPagesFirst lo hi a b). first_and_first lo hi a b c f g) way

-- the pages of a request are those of its call
pub asked_pages : (r : Request) (pages : Span) (a b : List Held) → ArePagesOf r pages → AsksPagesFirst pages.lo pages.hi a b
    → AsksPagesFirst (page_of r.addr) (end_page r.addr r.len) a b
asked_pages r pages a b are f = subst (λ (z : ℕ × ℕ). AsksPagesFirst z.0 z.1 a b) (λ i. (are.0 i, are.1 i)) f

-- a call without a number left asks for nothing
pub spent_asks : (call : Call) {a b : List Held} → IsProtect call → b ≡ a → AnswerAskedTo call Spent a b
spent_asks (Protect addr len prot) is same = same
spent_asks call is same = absurd is

-- nor does one that its arguments decide
pub free_asks : (call : Call) (e : Entry) {a b : List Held} → IsProtect call → b ≡ a → AnswerAskedTo call (Given e Free) a b
free_asks (Protect addr len prot) e is same = same
free_asks call e is same = absurd is

-- a call with these arguments asks for what they say
pub given_asks : {call : Call} (addr len : ℕ) (prot : Prot) (e : Entry) (path : Path) (a b : List Held) → call ≡ Protect addr len prot
    → HasAsked (page_of addr) (end_page addr len) path a b → AnswerAskedTo call (Given e path) a b
given_asks addr len prot e path a b is asked = subst (λ (x : Call). AnswerAskedTo x (Given e path) a b) (sym is) asked

-- an entry under an area asked as its attempts did
pub area_asked : (lo hi : ℕ) (u : Under) {a b : List Held} → HoldsSomeArea u → AsksPagesFirst lo hi a b → AskedUnder lo hi u a b
area_asked lo hi (OverArea span) holds asked = asked
area_asked lo hi u holds asked = absurd holds

-- and one that its arguments decide asked for nothing
pub plain_asked : (lo hi : ℕ) (A : List Area) (call : Call) (reply : Reply) (under : Under) {a b : List Held} → plain_reply call ≡ Some reply
    → FitsUnder A call under → b ≡ a → AskedUnder lo hi under a b
plain_asked lo hi A call reply under {a} {b} decided fits same =
    let nothing : under ≡ Nothing = subst (λ (o : Option Reply). MatchOption o (FitsByState A call under) (λ (_ : Reply). under ≡ Nothing)) decided fits in
    subst (λ u. AskedUnder lo hi u a b) (sym nothing) same
