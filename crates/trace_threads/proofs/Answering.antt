-- From what each crate says of its call to what is said of the call of a line.
use Rattle.std.proofs.Common.{◌≡◌, ◌<◌, ℕ, List, refl, subst, sym}
use Rattle.std.specs.Prelude.{◌↔◌, Option, Some, None, MatchOption}
use Rattle.page_types.specs.declared.calls.Call.{Call}
use Rattle.page_types.specs.declared.calls.Call.TheVariants.{Protect, Fault}
use Rattle.page_types.specs.declared.calls.Reply.{Reply}
use Rattle.page_types.specs.declared.sets.Prot.{Prot}
use Rattle.page_types.specs.Classes.{IsProtect}
use Rattle.page_types.specs.Pages.{page_of}
use Rattle.page_types.specs.PlainReply.{plain_reply}
use Rattle.space_model.specs.declared.areas.Area.{Area}
use Rattle.space_model.specs.declared.entries.Entry.{Entry}
use Rattle.space_model.specs.declared.entries.Under.{Under}
use Rattle.space_model.specs.declared.entries.Under.TheVariants.{Nothing, Reader, Area as Held, Whole}
use Rattle.space_model.specs.Held.{FitsByState, FitsUnder, HoldsSomeArea, IsSimple, ReadsPage}
use Rattle.area_rows.specs.declared.answer.Answer.{Answer}
use Rattle.area_rows.specs.declared.answer.Answer.TheVariants.{Given, Spent}
use Rattle.area_rows.specs.Callers.{CallerView}
use Rattle.area_rows.specs.Called.{IsAnswered}
use Rattle.area_protect.specs.declared.path.Path.{Path}
use Rattle.area_protect.specs.declared.path.Protected.TheVariants.{Given as Way, Spent as NoneLeft}
use Rattle.area_protect.specs.Protects.{IsProtected, IsAnswerTo}
use Rattle.area_protect.proofs.Lone.{lone_holds_area}
use Rattle.trace_threads.specs.declared.worker.Line.{Line}
use Rattle.trace_threads.specs.Workers.{IsPlayedAs, IsLineAnswer}

-- who holds an area makes a call that its arguments don't decide
undecided : (o : Option Reply) (P : Type 0) (under : Under) → MatchOption o P (λ (_ : Reply). under ≡ Nothing) → HoldsSomeArea under → (o ≡ None) × P
undecided None P under fits holds = (refl, fits)
undecided (Some r) P under fits holds = absurd (subst HoldsSomeArea fits holds)

reads_no_area : (page : ℕ) (under : Under) → ReadsPage page under → HoldsSomeArea under → ⊥
reads_no_area page Nothing reads holds = holds
reads_no_area page (Reader span) reads holds = holds
reads_no_area page (Held span) reads holds = reads
reads_no_area page Whole reads holds = holds

-- a call that changes no protection holds no area, and none is simple for it
area_of_other : (A : List Area) (call : Call) (under : Under) → (IsProtect call → ⊥) → FitsUnder A call under
    → HoldsSomeArea under ↔ ((plain_reply call ≡ None) × IsSimple A call)
area_of_other A (Protect addr len prot) under other fits = absurd (other tt)
area_of_other A (Fault addr access) under other fits = (
  λ holds. absurd (reads_no_area (page_of addr) under (undecided (plain_reply (Fault addr access)) (ReadsPage (page_of addr) under) under fits holds).1 holds),
  λ h. absurd h.1.1,
)
area_of_other A call under other fits = (
  λ holds. absurd (subst HoldsSomeArea (undecided (plain_reply call) (under ≡ Whole) under fits holds).1 holds),
  λ h. absurd h.1.1,
)

area_of_protect : (A : List Area) (addr len : ℕ) (prot : Prot) {call : Call} (under : Under) → call ≡ Protect addr len prot → FitsUnder A call under
    → (plain_reply (Protect addr len prot) ≡ None → HoldsSomeArea under ↔ IsSimple A (Protect addr len prot))
    → HoldsSomeArea under ↔ ((plain_reply call ≡ None) × IsSimple A call)
area_of_protect A addr len prot under is fits exact = subst (λ (c : Call). HoldsSomeArea under ↔ ((plain_reply c ≡ None) × IsSimple A c)) (sym is) (
  λ holds. let none = (undecided (plain_reply (Protect addr len prot)) (FitsByState A (Protect addr len prot) under) under
      (subst (λ (c : Call). FitsUnder A c under) is fits) holds).0 in (none, (exact none).0 holds),
  λ h. (exact h.0).1 h.1,
)

-- the entry of a change of protection
protect_entry : {before : CallerView} {line addr len : ℕ} {prot : Prot} {e : Entry} {path : Path} {after : CallerView}
    → IsProtected before line addr len prot e path after → IsPlayedAs before (record { line = line; call = Protect addr len prot }) e after
protect_entry {before} {line} {addr} {len} {prot} {e} {path} {after} p =
    let num = p.called.numbered in
    record {
      called = p.called;
      keeps = p.keeps;
      alone = λ lone. record {
        fits = num.right.fits;
        area = area_of_protect num.state addr len prot e.under p.called.call_is num.right.fits
            (λ none. lone_holds_area before after line addr len prot e path p none lone);
      };
    }

-- the same, of the whole call
protect_call : {before : CallerView} (line : ℕ) (call : Call) {e : Entry} (path : Path) {after : CallerView} → IsAnswerTo before line call (Way e path) after
    → (0 < before.left) × IsPlayedAs before (record { line = line; call = call }) e after
protect_call line (Protect addr len prot) path answer = (answer.0, protect_entry answer.1)
protect_call line call path answer = absurd answer

-- the answer of a line that changes protection, where it has an entry
pub protect_answer : (before : CallerView) (l : Line) (e : Entry) (path : Path) (after : CallerView)
    → IsAnswerTo before l.line l.call (Way e path) after → IsLineAnswer before l (Given e) after
protect_answer before l e path after answer = protect_call l.line l.call path answer

spent_call : (before : CallerView) (line : ℕ) (call : Call) (after : CallerView) → IsAnswerTo before line call NoneLeft after
    → (before.left ≡ 0) × (after ≡ before)
spent_call before line (Protect addr len prot) after answer = answer
spent_call before line call after answer = absurd answer
