-- Laws of the definitions, each proved on a public function that does nothing: that the definitions hold together, as a
-- reader of mmap(2) and proc_pid_maps(5) expects. They follow from the definitions alone.
use Rattle.std.specs.Prelude.{ℕ, Bool, ◌≡◌, ◌≢◌, ◌<◌, ◌≤◌, ◌+◌, ◌⊎◌, ◌↔◌, IsTrue, IsFalse, Option, Some, None, List, ◌++◌, map}
use Rattle.std.specs.List.{Contains}
use Rattle.page_types.specs.declared.TheConstants.{LIMIT, LOWEST, ROWS}
use Rattle.page_types.specs.declared.calls.Kind.{Kind}
use Rattle.page_types.specs.declared.calls.Call.{Call}
use Rattle.page_types.specs.declared.calls.Call.TheVariants.{Map, Unmap, Protect, Fault, Seal, Brk, Remap}
use Rattle.page_types.specs.declared.calls.Reply.{Reply}
use Rattle.page_types.specs.declared.calls.Reply.TheVariants.{At, Zero, Granted, Refused}
use Rattle.page_types.specs.declared.calls.Why.TheVariants.{Enomem, AccErr}
use Rattle.page_types.specs.declared.calls.Short.TheVariants.{Rows}
use Rattle.page_types.specs.declared.sets.Access.{Access}
use Rattle.page_types.specs.declared.sets.MapFlags.{MapFlags}
use Rattle.page_types.specs.declared.sets.Prot.{Prot}
use Rattle.page_types.specs.Pages.{page_of, page_count, end_page}
use Rattle.page_types.specs.PlainReply.{protect_reply}
use Rattle.page_types.specs.Sets.{is_fixed}
use Rattle.space_model.specs.declared.areas.Area.{Area}
use Rattle.space_model.specs.Starts.{KeepsRows, start_count}
use Rattle.space_model.specs.Areas.{IsAreaList, row_count, kind_at}
use Rattle.space_model.specs.Effect.{mapped_kind, protected_kind}
use Rattle.space_model.specs.Places.{window_of}
use Rattle.space_model.specs.Answers.{LetsThrough, IsHeapEnd, Answers}
use Rattle.space_model.specs.declared.entries.Entry.{Entry}
use Rattle.space_model.specs.History.{StateAfter, IsLegal}
use Rattle.space_model.specs.Held.{LiesIn, IsSimpleIn, kind_before}

-- a call has at most one answer, and leaves at most one list of areas
abbrev pub HasOneAnswer : List Area → Call → Type 0
HasOneAnswer A c = (r s : Reply) (B C : List Area) → Answers A c r B → Answers A c s C → (r ≡ s) × (B ≡ C)

-- a call has an answer
abbrev pub HasSomeAnswer : List Area → Call → Type 0
HasSomeAnswer A c = (r : Reply) × (B : List Area) × Answers A c r B

-- what a call leaves is an area list
abbrev pub LeavesAreaList : List Area → Call → Type 0
LeavesAreaList A c = (r : Reply) (B : List Area) → Answers A c r B → IsAreaList B

-- a fault on a page that a Map has just placed finds the kind that the Map gave, and nothing else
abbrev pub FaultFindsMapped : List Area → ℕ → ℕ → Prot → MapFlags → ℕ → Access → Type 0
FaultFindsMapped A addr len prot flags byte access =
    (place : ℕ) (s : Reply) (B C : List Area) → Answers A (Map addr len prot flags) (At place) B →
    page_of place ≤ page_of byte → page_of byte < page_of place + page_count len → Answers B (Fault byte access) s C →
    (s ≡ Granted (mapped_kind prot flags)) ⊎ (s ≡ Refused (AccErr (page_of byte) (mapped_kind prot flags)))

-- a Map that binds no address is placed at or above LOWEST, and its pages end in its hint's window
abbrev pub EndsInItsWindow : List Area → ℕ → ℕ → Prot → MapFlags → Type 0
EndsInItsWindow A addr len prot flags =
    (place : ℕ) (B : List Area) → IsFalse (is_fixed flags) → Answers A (Map addr len prot flags) (At place) B →
    (LOWEST ≤ page_of place) × (page_of place + page_count len ≤ window_of (page_of addr))

-- a Remap that was done has left its pages so: those of the place have the kind of the old pages' first, each old page
-- that isn't in the place is free, and every other page is as before
pub record IsRemapped (A : List Area) (addr old new place : ℕ) (B : List Area) : Type 0 where
  pub placed :
      (page : ℕ) → page_of place ≤ page → page < page_of place + page_count new → kind_at B page ≡ kind_at A (page_of addr)
  pub left :
      (page : ℕ) → page_of addr ≤ page → page < end_page addr old →
      (page < page_of place) ⊎ (page_of place + page_count new ≤ page) → kind_at B page ≡ None
  pub others :
      (page : ℕ) → (page < page_of addr) ⊎ (end_page addr old ≤ page) →
      (page < page_of place) ⊎ (page_of place + page_count new ≤ page) → kind_at B page ≡ kind_at A page

-- so does every Remap that answers a place
abbrev pub RemapsItsPages : List Area → ℕ → ℕ → ℕ → Bool → ℕ → Type 0
RemapsItsPages A addr old new may hint =
    (place : ℕ) (B : List Area) → Answers A (Remap addr old new may hint) (At place) B → IsRemapped A addr old new place B

-- a Brk changes no page outside of its heap: none below the base, and none at or above both the end that the heap had
-- and the address, rounded up to pages
abbrev pub KeepsToItsHeap : List Area → ℕ → ℕ → Type 0
KeepsToItsHeap A base addr =
    (r : Reply) (B : List Area) (end page : ℕ) → Answers A (Brk base addr) r B → IsHeapEnd (kind_at A) base end →
    (page < page_of base) ⊎ ((end ≤ page) × (page_count addr ≤ page)) → kind_at B page ≡ kind_at A page

-- a call that was done is done again, and then changes nothing
abbrev pub DoneTwiceIsOnce : List Area → Call → Type 0
DoneTwiceIsOnce A c = (s : Reply) (B C : List Area) → Answers A c Zero B → Answers B c s C → (s ≡ Zero) × (C ≡ B)

-- how many rows more a call may make: two where one stretch of pages changes, and four where a Remap moves its pages,
-- which changes two
abbrev pub rows_added : Call → ℕ
rows_added (Map addr len prot flags) = 2
rows_added (Unmap addr len) = 2
rows_added (Protect addr len prot) = 2
rows_added (Fault addr access) = 0
rows_added (Seal addr len flags) = 2
rows_added (Brk base addr) = 2
rows_added (Remap addr old new may hint) = 4

-- one call makes at most so many rows more
abbrev pub AddsFewRows : List Area → Call → Type 0
AddsFewRows A c = (r : Reply) (B : List Area) → Answers A c r B → row_count B ≤ row_count A + rows_added c

-- a call that is refused for its rows asks for more than ROWS, and for at most so many more than there are
abbrev pub AsksFewRowsMore : List Area → Call → Type 0
AsksFewRowsMore A c =
    (rows : ℕ) (B : List Area) → Answers A c (Refused (Enomem (Rows rows))) B → (ROWS < rows) × (rows ≤ row_count A + rows_added c)

-- the number of rows is the number of pages where one starts
abbrev pub RowsAreStarts : List Area → Type 0
RowsAreStarts A = row_count A ≡ start_count (kind_at A) LIMIT

-- neighbouring pages of one kind, as many as there are
pub record IsMaximalRun (kinds : ℕ → Option Kind) (a : Area) : Type 0 where
  pub has_page : a.lo < a.hi
  pub one_kind : (page : ℕ) → a.lo ≤ page → page < a.hi → kinds page ≡ Some a.kind
  pub before : (page : ℕ) → page + 1 ≡ a.lo → kinds page ≢ Some a.kind
  pub behind : kinds a.hi ≢ Some a.kind

-- the areas of a list are exactly its maximal runs of pages of one kind
abbrev pub AreasAreMaximalRuns : List Area → Type 0
AreasAreMaximalRuns A = (a : Area) → Contains A a ↔ IsMaximalRun (kind_at A) a

-- a fault is granted exactly where its page has a kind with the access's bit, names that kind, and changes nothing
abbrev pub GrantsWhatThePageAllows : List Area → ℕ → Access → Type 0
GrantsWhatThePageAllows A addr access =
    (kind : Kind) (B : List Area) →
    Answers A (Fault addr access) (Granted kind) B ↔ ((kind_at A (page_of addr) ≡ Some kind) × LetsThrough kind access × (B ≡ A))

-- the four ways in which pages of one area get a new kind and the counts stay: nothing changes; the whole area changes
-- and equals no touching neighbour; its first part takes the kind of the touching area on its left; its last part takes
-- the kind of the touching area on its right
pub data FourCases (A : List Area) (a : Area) (lo hi : ℕ) (kind : Kind) : Type 0 where
  nothing : kind ≡ a.kind → FourCases A a lo hi kind
  whole : lo ≡ a.lo → hi ≡ a.hi → kind_before A lo ≢ Some kind → kind_at A hi ≢ Some kind → FourCases A a lo hi kind
  first_part : lo ≡ a.lo → hi < a.hi → kind_before A lo ≡ Some kind → FourCases A a lo hi kind
  last_part : a.lo < lo → hi ≡ a.hi → kind_at A hi ≡ Some kind → FourCases A a lo hi kind

-- a Protect within an area is simple exactly where the area is sealed, and in these four cases
abbrev pub SimpleInFourCases : List Area → Area → ℕ → ℕ → Prot → Type 0
SimpleInFourCases A a addr len prot =
    protect_reply addr len ≡ None → LiesIn A a (page_of addr) (end_page addr len) →
    IsSimpleIn A (Protect addr len prot) a ↔
    (IsTrue a.kind.sealed ⊎ FourCases A a (page_of addr) (end_page addr len) (protected_kind prot a.kind))

-- a Protect within an area is simple exactly where the area is sealed or its change of kinds keeps the rows
abbrev pub SimpleKeepsRows : List Area → Area → ℕ → ℕ → Prot → Type 0
SimpleKeepsRows A a addr len prot =
    protect_reply addr len ≡ None → LiesIn A a (page_of addr) (end_page addr len) →
    IsSimpleIn A (Protect addr len prot) a ↔
    (IsTrue a.kind.sealed ⊎
    KeepsRows (kind_before A (page_of addr)) a.kind (protected_kind prot a.kind) (kind_at A (end_page addr len)))

-- the entries leave at most one list of areas
abbrev pub LeavesOneList : List Area → List Entry → Type 0
LeavesOneList A entries = (B C : List Area) → StateAfter A entries B → StateAfter A entries C → B ≡ C

-- every beginning of a legal history is legal
abbrev pub BeginningsAreLegal : List Area → List Entry → List Entry → Type 0
BeginningsAreLegal A first more = IsLegal A (first ++ more) → IsLegal A first

-- the state after entries and then others is the state after both
abbrev pub StateAfterBoth : List Area → List Entry → List Entry → List Area → Type 0
StateAfterBoth A first more C = StateAfter A (first ++ more) C ↔ ((B : List Area) × StateAfter A first B × StateAfter B more C)

-- two legal histories from one area list with the same calls in the same order have the same numbers and replies
abbrev pub SameCallsSameReplies : List Area → List Entry → List Entry → Type 0
SameCallsSameReplies A entries others =
    IsLegal A entries → IsLegal A others → map (λ e. e.call) entries ≡ map (λ e. e.call) others →
    (map (λ e. e.number) entries ≡ map (λ e. e.number) others) × (map (λ e. e.reply) entries ≡ map (λ e. e.reply) others)

-- no call changes a sealed page or takes it away: whatever calls the entries make, it has its kind after them
abbrev pub SealedPagesStay : List Area → List Entry → Type 0
SealedPagesStay A entries =
    (B : List Area) (page : ℕ) (kind : Kind) → StateAfter A entries B → kind_at A page ≡ Some kind → IsTrue kind.sealed →
    kind_at B page ≡ Some kind

-- the entries leave an area list
abbrev pub LeavesAreaListAfter : List Area → List Entry → Type 0
LeavesAreaListAfter A entries = (B : List Area) × IsAreaList B × StateAfter A entries B

-- a legal history leaves a list of areas
abbrev pub LegalLeavesList : List Area → List Entry → Type 0
LegalLeavesList A entries = IsLegal A entries → (B : List Area) × StateAfter A entries B
