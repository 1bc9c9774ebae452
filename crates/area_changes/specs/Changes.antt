-- What calls change in an address space, page by page: a change is neighbouring pages whose kinds before a call are
-- one, and after it another. A kind is that of proc_pid_maps(5) with the seal of mseal(2), or none; that a call has a
-- list of changes, and how it is cut, is this project's own profile. Nothing here speaks of areas that are cut or
-- joined, so a reader may rely on the list for the pages alone.
use Rattle.std.specs.Prelude.{ℕ, ◌≡◌, ◌≢◌, ◌<◌, ◌≤◌, if◌then◌else◌, Option, Some, None, IfSome, List, [], ◌∷◌, ◌++◌, slice_get, map}
use Rattle.page_types.specs.declared.calls.Kind.{Kind}
use Rattle.space_model.specs.declared.areas.Area.{Area}
use Rattle.space_model.specs.declared.entries.Entry.{Entry}
use Rattle.space_model.specs.Areas.{is_within, kind_at}
use Rattle.space_model.specs.History.{HasRightReply}
use Rattle.area_changes.specs.declared.changes.AreaChange.{AreaChange}
use Rattle.area_changes.specs.declared.changes.EntryChange.{EntryChange}

-- the second change starts at or after the first one's end, and isn't of the same two kinds where they touch
pub record MayFollow (c d : AreaChange) : Type 0 where
  pub after : c.hi ≤ d.lo
  pub differs : c.hi ≡ d.lo → c.before ≡ d.before → c.after ≢ d.after

-- changes that have pages, sorted and disjoint, and no two that touch are of the same two kinds
abbrev pub AreInOrder : List AreaChange → Type 0
AreInOrder [] = Unit {0}
AreInOrder (c ∷ rest) = (c.lo < c.hi) × IfSome (slice_get rest 0) (MayFollow c) × AreInOrder rest

-- the change in which the page lies, or none
abbrev pub change_at : List AreaChange → ℕ → Option AreaChange
change_at [] page = None
change_at (c ∷ rest) page = if is_within c.lo c.hi page then Some c else change_at rest page

-- a page of these kinds, before and after, lies in this change: they are the change's, and they differ; one that lies
-- in none has the same kind before and after
abbrev pub LiesIn : Option AreaChange → Option Kind → Option Kind → Type 0
LiesIn None before after = before ≡ after
LiesIn (Some c) before after = (c.before ≡ before) × (c.after ≡ after) × (before ≢ after)

-- the changes of pages with these kinds before and after
pub record AreChanges (before after : ℕ → Option Kind) (changes : List AreaChange) : Type 0 where
  pub in_order : AreInOrder changes
  pub pages : (page : ℕ) → LiesIn (change_at changes page) (before page) (after page)

-- there is only one list of them
abbrev pub HasOneList : (ℕ → Option Kind) → (ℕ → Option Kind) → Type 0
HasOneList before after = (some other : List AreaChange) → AreChanges before after some → AreChanges before after other → some ≡ other

-- the change as one of the entry of this number
abbrev pub of_entry : ℕ → AreaChange → EntryChange
of_entry number change = record { number = number; change = change }

-- From area list A the entries make these changes, one entry after another: those between the areas before its call
-- and the areas that its call leaves.
abbrev pub Make : List Area → List Entry → List EntryChange → Type 0
Make A [] list = list ≡ []
Make A (e ∷ rest) list = (B : List Area) × (changes : List AreaChange) × (more : List EntryChange) × HasRightReply A e B ×
    AreChanges (kind_at A) (kind_at B) changes × Make B rest more × (list ≡ map (of_entry e.number) changes ++ more)

-- they make only one list of them
abbrev pub MakeOneList : List Area → List Entry → Type 0
MakeOneList A entries = (some other : List EntryChange) → Make A entries some → Make A entries other → some ≡ other
