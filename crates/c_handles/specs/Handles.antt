-- A handle, whatever is behind it: what its pointer owns, and what a call answers and leaves of it, open or closed. Who
-- has the pointer has the box, as with the box's own pointer; the form is that of the kit's `futures` for a waker. Each
-- relation lifts one of what is behind handles, `B`, to handles; `A` are the answers.
use base.Fml.{Fml, ftrue}
use base.Stored.{Coded}
use denote.RattleType.{RattleType}
use denote.RawPtr.{Ptr}
use Rattle.std.specs.Prelude.{◌≡◌, ℕ, Option, None, Some}
use Rattle.std.specs.Coded.{coded_option}
use Rattle.std.specs.Box.Ownership.{box_owns}
use Rattle.std.specs.Global.{Global}
use Rattle.std_heap.specs.contracts.GlobalAllocator.TheImpl.{ghosts}

-- what the pointer of a handle owns: the box of what is behind it, or nothing where the handle is closed
abbrev pub handle_owns : (R : RattleType) → Global → Ptr → Option R.Denot → Fml
handle_owns R alloc p None = ftrue
handle_owns R alloc p (Some s) = box_owns (ghosts.dealloc_token alloc) R p s

abbrev pub behind_coded : (R : RattleType) → Coded (Option R.Denot)
behind_coded R = coded_option R.coded

-- a handle is open
abbrev pub IsOpen : {B : Type 0} → Option B → Type 0
IsOpen {B} h = (b : B) × (h ≡ Some b)

-- the flag of a handle
abbrev pub flag_of : {B : Type 0} → Option B → ℕ
flag_of None = 0
flag_of (Some b) = 1

-- a code is that of an answer of which this holds
abbrev pub SaysBy : {A : Type 0} → (A → ℕ) → (A → Type 0) → ℕ → Type 0
SaysBy {A} code_of Holds code = (answer : A) × (code ≡ code_of answer) × Holds answer

-- the handle is open, and this is so of what is behind it
abbrev pub Over : {B : Type 0} → (B → Type 0) → Option B → Type 0
Over R (Some b) = R b
Over R None = ⊥

-- the handle is open before and after, and this is so of what is behind it
abbrev pub Between : {B : Type 0} → (B → B → Type 0) → Option B → Option B → Type 0
Between R (Some before) (Some after) = R before after
Between R _ _ = ⊥

-- the same with a third handle, which the call opened
abbrev pub BetweenAnd : {B : Type 0} → (B → B → B → Type 0) → Option B → Option B → Option B → Type 0
BetweenAnd R (Some before) (Some after) (Some new) = R before after new
BetweenAnd R _ _ _ = ⊥

-- a call on a handle: where it is closed it stays so, and the answer says it; where it is open it stays open
abbrev pub OnOpen : {B A : Type 0} → A → (A → B → B → Type 0) → A → Option B → Option B → Type 0
OnOpen closed R answer None None = answer ≡ closed
OnOpen closed R answer (Some before) (Some after) = R answer before after
OnOpen closed R answer _ _ = ⊥

-- the same, and where the handle is closed the call tells this too
abbrev pub OnOpenTelling : {B A : Type 0} → A → Type 0 → (A → B → B → Type 0) → A → Option B → Option B → Type 0
OnOpenTelling closed tells R answer None None = (answer ≡ closed) × tells
OnOpenTelling closed tells R answer (Some before) (Some after) = R answer before after
OnOpenTelling closed tells R answer _ _ = ⊥

-- why nothing was opened behind a handle: it is open, or it is another cause
abbrev pub OpenRefusal : {B A : Type 0} → A → (A → Type 0) → Option B → A → Type 0
OpenRefusal opened R (Some b) why = why ≡ opened
OpenRefusal opened R None why = R why

-- why nothing of one handle was shared with another: that one is open, or this one is closed, or it is another cause
abbrev pub ShareRefusal : {B A : Type 0} → A → A → (B → A → Type 0) → Option B → Option B → A → Type 0
ShareRefusal opened closed R from (Some b) why = why ≡ opened
ShareRefusal opened closed R None None why = why ≡ closed
ShareRefusal opened closed R (Some b) None why = R b why

-- what an ending answers, with the handle that is to be put in the place of another: where that one is open nothing is
-- done, and otherwise the handle is closed, and the answer says whether there was anything to end
abbrev pub Ends : {B A : Type 0} → A → A → A → Option B → Option B → Option B → A → Type 0
Ends opened closed done (Some next) before after answer = (answer ≡ opened) × (after ≡ before)
Ends opened closed done None None after answer = (answer ≡ closed) × (after ≡ None)
Ends opened closed done None (Some before) after answer = (answer ≡ done) × (after ≡ None)
