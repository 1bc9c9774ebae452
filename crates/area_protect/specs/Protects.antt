-- What a change of protection answers, and what each answer says: mprotect(2), with the way that the call went. A way
-- is no claim about what the code did: it is a fact of the history after so many entries, which stands between what the
-- caller had seen before the call and the call's own entry.
use Rattle.area_rows.specs.Rows.{keeps_by}
use Rattle.std.specs.Prelude.{true, ℕ, ◌≡◌, ◌≢◌, ◌<◌, ◌≤◌, ◌⊎◌, ◌↔◌, List, ◌∷◌, IsSome, None, length}
use Rattle.page_types.specs.declared.calls.Call.{Call}
use Rattle.page_types.specs.declared.calls.Call.TheVariants.{Protect}
use Rattle.page_types.specs.declared.pages.Span.{Span}
use Rattle.page_types.specs.declared.sets.Prot.{Prot}
use Rattle.page_types.specs.Pages.{page_of, end_page}
use Rattle.page_types.specs.PlainReply.{plain_reply}
use Rattle.space_model.specs.declared.areas.Area.{Area}
use Rattle.space_model.specs.declared.entries.Entry.{Entry}
use Rattle.space_model.specs.declared.entries.Under.{Under}
use Rattle.space_model.specs.declared.entries.Under.TheVariants.{Nothing, Reader as UnderPage, Area as UnderArea, Whole as Everything}
use Rattle.space_model.specs.Areas.{IsInRange}
use Rattle.space_model.specs.Held.{HoldsSomeArea, IsSimple, IsWidened}
use Rattle.lock_core.specs.declared.range.Held.{Held}
use Rattle.lock_core.specs.declared.range.Mode.TheVariants.{Reader}
use Rattle.range_rw.specs.Contract.{SeatState, AsksAmong, AsksFor}
use Rattle.area_rows.specs.Reads.{everything}
use Rattle.area_rows.specs.Changes.{alone}
use Rattle.area_guard.specs.declared.guard.Pass.{Pass}
use Rattle.area_rows.specs.AreaPlans.{IsOneKind}
use Rattle.area_rows.specs.Callers.{CallerView}
use Rattle.area_rows.specs.Called.{IsCalled}
use Rattle.area_rows.specs.declared.answer.Answer.{Answer}
use Rattle.area_rows.specs.declared.answer.Answer.TheVariants.{Given as Entered, Spent as NoNumber}
use Rattle.area_protect.specs.declared.path.Cause.{Cause}
use Rattle.area_protect.specs.declared.path.Cause.TheVariants.{NotOneArea, NotSimple, Moved}
use Rattle.area_protect.specs.declared.path.Path.{Path}
use Rattle.area_protect.specs.declared.path.Path.TheVariants.{Free, Area as OverArea, Whole}
use Rattle.area_protect.specs.declared.path.Protected.{Protected}
use Rattle.area_protect.specs.declared.path.Protected.TheVariants.{Given, Spent}
use Rattle.area_protect.specs.Looks.{IsAfter, HasWhole, IsFoundSince, LooksFirst}

-- after so many entries: no fewer than the caller had seen before the call, and no more than came before its entry
abbrev pub IsBetween : SeatState Pass → ℕ → Entry → Type 0
IsBetween before m e = (length before.pass.seen ≤ m) × (m ≤ e.number)

-- why the call had to hold everything, by the history that the caller has seen at the end
abbrev pub HasCause : SeatState Pass → Call → ℕ → ℕ → Entry → SeatState Pass → Cause → Type 0
HasCause before call lo hi e after (NotOneArea at) = IsBetween before at e × IsAfter after at (λ A. ¬ IsOneKind A lo hi)
HasCause before call lo hi e after (NotSimple at) = IsBetween before at e × IsAfter after at (λ A. IsOneKind A lo hi × ¬ IsSimple A call)
HasCause before call lo hi e after (Moved first second old new) = IsBetween before first e × IsBetween before second e
    × (first < second) × HasWhole after first old × HasWhole after second new × (old ≢ new)

-- each number of entries that a cause names was found by a look of the call
abbrev pub WereFound : SeatState Pass → Cause → SeatState Pass → Type 0
WereFound before (NotOneArea at) after = IsFoundSince before at after
WereFound before (NotSimple at) after = IsFoundSince before at after
WereFound before (Moved first second old new) after = IsFoundSince before first after × IsFoundSince before second after

-- the looks of the call: the first one was made under its pages as a reader, unless its arguments decide it, and what
-- its cause names was found by them
abbrev pub HasLooks : SeatState Pass → ℕ → ℕ → Path → SeatState Pass → Type 0
HasLooks before lo hi Free after = Unit {0}
HasLooks before lo hi (OverArea seq) after = LooksFirst before lo hi after
HasLooks before lo hi (Whole cause) after = LooksFirst before lo hi after × WereFound before cause after

-- by which way the call went: free exactly where its arguments decide it
abbrev pub HasPath : SeatState Pass → Call → ℕ → ℕ → Entry → SeatState Pass → Path → Type 0
HasPath before call lo hi e after Free = IsSome (plain_reply call)
HasPath before call lo hi e after (OverArea seq) = (plain_reply call ≡ None) × HoldsSomeArea e.under × HasWhole after e.number seq
HasPath before call lo hi e after (Whole cause) = (plain_reply call ≡ None) × (e.under ≡ Everything) × HasCause before call lo hi e after cause

-- these pages as a reader holds them
abbrev pub read_pages : ℕ → ℕ → Held
read_pages lo hi = record { range = record { lo = lo; hi = hi }; mode = Reader }

-- a range that an attempt may ask for: the pages of the call as a reader, or an area round them, with a page on each
-- side, as a writer
abbrev pub IsOfAttempt : ℕ → ℕ → Held → Type 0
IsOfAttempt lo hi h = (h ≡ read_pages lo hi)
    ⊎ ((area : Area) × (span : Span) × IsInRange area × (area.lo ≤ lo) × (hi ≤ area.hi) × IsWidened area span × (h ≡ alone span))

-- attempts ask for the pages of the call as a reader before anything else, and then for such ranges alone
abbrev pub AsksPagesFirst : ℕ → ℕ → List Held → List Held → Type 0
AsksPagesFirst lo hi before after = AsksAmong (IsOfAttempt lo hi) (read_pages lo hi ∷ before) after

-- which ranges a call asks for, by its way: none where its arguments decide it, those of its attempts, and everything
-- behind these where it holds everything. What is held was asked for, so nothing else is held on the way
abbrev pub HasAsked : ℕ → ℕ → Path → List Held → List Held → Type 0
HasAsked lo hi Free before after = after ≡ before
HasAsked lo hi (OverArea seq) before after = AsksPagesFirst lo hi before after
HasAsked lo hi (Whole cause) before after = (mid : List Held) × AsksPagesFirst lo hi before mid × AsksFor everything mid after

-- the same by its answer
abbrev pub AnswerAsked : ℕ → ℕ → Protected → List Held → List Held → Type 0
AnswerAsked lo hi (Given e path) before after = HasAsked lo hi path before after
AnswerAsked lo hi Spent before after = after ≡ before

-- the same of a call that is a change of protection
abbrev pub AnswerAskedTo : Call → Protected → List Held → List Held → Type 0
AnswerAskedTo (Protect addr len prot) answer before after = AnswerAsked (page_of addr) (end_page addr len) answer before after
AnswerAskedTo call answer before after = ⊥

-- the same of a call that doesn't say its way, by what its entry was numbered under
abbrev pub AskedUnder : ℕ → ℕ → Under → List Held → List Held → Type 0
AskedUnder lo hi Nothing before after = after ≡ before
AskedUnder lo hi (UnderPage span) before after = ⊥
AskedUnder lo hi (UnderArea span) before after = AsksPagesFirst lo hi before after
AskedUnder lo hi Everything before after = (mid : List Held) × AsksPagesFirst lo hi before mid × AsksFor everything mid after

-- and by its answer
abbrev pub AskedBeside : ℕ → ℕ → Answer → List Held → List Held → Type 0
AskedBeside lo hi (Entered e) before after = AskedUnder lo hi e.under before after
AskedBeside lo hi NoNumber before after = after ≡ before

-- the call got one entry, as each call that gives one, and went that way, by its own looks. The space keeps its history
pub record IsProtected (before : CallerView) (line addr len : ℕ) (prot : Prot) (e : Entry) (path : Path) (after : CallerView) : Type 0 where
  pub called : IsCalled before line (Protect addr len prot) e after
  pub way : HasPath before.seat (Protect addr len prot) (page_of addr) (end_page addr len) e after.seat path
  pub keeps : keeps_by before.seat.table ≡ true
  pub looks : HasLooks before.seat (page_of addr) (end_page addr len) path after.seat

-- the answer: an entry where a number is left, and otherwise nothing has changed
abbrev pub IsAnswer : CallerView → ℕ → ℕ → ℕ → Prot → Protected → CallerView → Type 0
IsAnswer before line addr len prot (Given e path) after = (0 < before.left) × IsProtected before line addr len prot e path after
IsAnswer before line addr len prot Spent after = (before.left ≡ 0) × (after ≡ before)

-- the answer of a call that is a change of protection
abbrev pub IsAnswerTo : CallerView → ℕ → Call → Protected → CallerView → Type 0
IsAnswerTo before line (Protect addr len prot) answer after = IsAnswer before line addr len prot answer after
IsAnswerTo before line call answer after = ⊥

-- no entry came between what the caller had seen and its own entry
abbrev pub IsLone : CallerView → Entry → Type 0
IsLone before e = e.number ≡ length before.seat.pass.seen

-- where nothing was numbered meanwhile, a call that its arguments don't decide holds its area exactly where the change
-- is simple at the state that its entry finds
abbrev pub LoneHoldsArea : Type 0
LoneHoldsArea =
    (before after : CallerView) (line addr len : ℕ) (prot : Prot) (e : Entry) (path : Path) (p : IsProtected before line addr len prot e path after) →
    plain_reply (Protect addr len prot) ≡ None → IsLone before e → HoldsSomeArea e.under ↔ IsSimple p.called.numbered.state (Protect addr len prot)

-- and two such calls with the same arguments after the same entries from one start went the same way; so on one caller
-- alone the way is a function of the history
abbrev pub LonePathIsOne : Type 0
LonePathIsOne =
    (before after other_before other_after : CallerView) (line other_line addr len : ℕ) (prot : Prot) (e f : Entry) (path other : Path) →
    IsProtected before line addr len prot e path after → IsProtected other_before other_line addr len prot f other other_after
    → IsLone before e → IsLone other_before f →
    before.seat.pass.start ≡ other_before.seat.pass.start → before.seat.pass.seen ≡ other_before.seat.pass.seen → path ≡ other
