-- Legal histories: calls taken one after another, each numbered by its place and each with the reply that the address
-- space gives at the state that the calls before it leave. This is the usual meaning of a sequential history of an
-- object (Herlihy and Wing, TOPLAS 1990). `Chains` is the one way through a history; what is asked of each entry is its
-- parameter, so a crate above may ask for more. Of an entry a legal history reads only its number, call and reply.
use Rattle.std.specs.Prelude.{ℕ, ◌≡◌, ◌<◌, ◌+◌, List, [], ◌∷◌, length, take, All}
use Rattle.page_types.specs.declared.calls.Reply.{Reply}
use Rattle.page_types.specs.Named.{IsNamedCall}
use Rattle.space_model.specs.declared.areas.Area.{Area}
use Rattle.space_model.specs.declared.entries.Entry.{Entry}
use Rattle.space_model.specs.Answers.{Answers}
use Rattle.space_model.specs.Held.{FitsUnder}

-- the entries, taken in their order, lead from area list A to area list B, each by a step of this kind
abbrev pub Chains : (List Area → Entry → List Area → Type 0) → List Area → List Entry → List Area → Type 0
Chains Step A [] B = B ≡ A
Chains Step A (e ∷ rest) B = (C : List Area) × Step A e C × Chains Step C rest B

-- the entry's call leaves area list B, whatever the entry says of its reply
abbrev pub CallLeaves : List Area → Entry → List Area → Type 0
CallLeaves A e B = (reply : Reply) × Answers A e.call reply B

-- the entry's reply is what its call answers, and the call leaves area list B
abbrev pub HasRightReply : List Area → Entry → List Area → Type 0
HasRightReply A e B = Answers A e.call e.reply B

-- from area list A the calls leave area list B
abbrev pub StateAfter : List Area → List Entry → List Area → Type 0
StateAfter A entries B = Chains CallLeaves A entries B

-- the entries are numbered n, n + 1 and so on
abbrev pub IsNumberedFrom : ℕ → List Entry → Type 0
IsNumberedFrom n [] = Unit {0}
IsNumberedFrom n (e ∷ rest) = (e.number ≡ n) × IsNumberedFrom (n + 1) rest

-- a legal history from area list A: numbered from 0, and each reply is right at the state before it
abbrev pub IsLegal : List Area → List Entry → Type 0
IsLegal A entries = IsNumberedFrom 0 entries × ((B : List Area) × Chains HasRightReply A entries B)

-- the entries before this index are a legal history, and with the one at the index they aren't
pub record IsFirstIllegal (A : List Area) (entries : List Entry) (index : ℕ) : Type 0 where
  pub within : index < length entries
  pub legal_before : IsLegal A (take index entries)
  pub illegal : ¬ IsLegal A (take (index + 1) entries)

-- the calls of the entries take no bit but the named ones
abbrev pub HasNamedCalls : List Entry → Type 0
HasNamedCalls = All (λ e. IsNamedCall e.call)

-- the entry fits what was held and answers what its call answers, which leaves area list B
abbrev pub FitsAndReplies : List Area → Entry → List Area → Type 0
FitsAndReplies A e B = FitsUnder A e.call e.under × Answers A e.call e.reply B

-- from one area list the entries are numbered n, n + 1 and so on, each fits what was held and has the reply that its
-- call has there, and they leave another
abbrev pub Runs : ℕ → List Area → List Entry → List Area → Type 0
Runs n A entries B = IsNumberedFrom n entries × Chains FitsAndReplies A entries B
