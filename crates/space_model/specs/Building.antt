-- How the bodies of this crate put an area list together: areas are appended in order, and one that touches the last
-- and is of its kind lengthens it. This is the project's own way; only private functions speak of it, and what callers
-- see is the kinds of pages.
use Rattle.std.specs.Prelude.{ℕ, ◌-◌, ◌<◌, slice_index_or, Bool, false, ◌&&◌, ◌==◌, nat_lt, if◌then◌else◌, min, max}
use Rattle.std.specs.Prelude.{◌≡◌, ◌↔◌, IsTrue, Option, Some, None, List, [], ◌∷◌}
use Rattle.page_types.specs.declared.TheConstants.{LIMIT}
use Rattle.page_types.specs.declared.calls.Kind.{Kind}
use Rattle.page_types.specs.declared.calls.Reply.{Reply}
use Rattle.space_model.specs.Answers.{Answers}
use Rattle.space_model.specs.declared.entries.Entry.{Entry}
use Rattle.space_model.specs.declared.areas.Area.{Area}
use Rattle.space_model.specs.Starts.{same_kind}
use Rattle.space_model.specs.Areas.{IsInRange, MayFollow}
use Rattle.space_model.specs.Effect.{protected_kind, sealed_kind}
use Rattle.space_model.specs.declared.paint.Paint.{Paint}
use Rattle.space_model.specs.declared.paint.Paint.TheVariants.{Gives, Protects, Seals}
use Rattle.space_model.specs.declared.paint.Patch.{Patch}

-- the area that is taken where a list has none
abbrev pub no_area : Area
no_area = record { lo = 0; hi = 0; kind = record { prot = record { 0 = 0 }; shared = false; sealed = false } }

-- the area at an index of a list
abbrev pub area_at : List Area → ℕ → Area
area_at list index = slice_index_or list index no_area

-- the area at an index is in range and may follow the one before it
pub record IsRightAt (list : List Area) (index : ℕ) : Type 0 where
  pub in_range : IsInRange (area_at list index)
  pub follows : 0 < index → MayFollow (area_at list (index - 1)) (area_at list index)

-- the second area goes on where the first ends, in its kind
abbrev pub goes_on : Area → Area → Bool
goes_on b a = (b.hi == a.lo) && same_kind b.kind a.kind

-- the two areas as one
abbrev pub merged : Area → Area → Area
merged b a = record { lo = b.lo; hi = a.hi; kind = b.kind }

-- two areas, as one where the second goes on with the first
abbrev pub pair_joined : Area → Area → List Area
pair_joined b a = if goes_on b a then merged b a ∷ [] else b ∷ a ∷ []

-- the list with an area at its end
abbrev pub joined : List Area → Area → List Area
joined [] a = a ∷ []
joined (b ∷ []) a = pair_joined b a
joined (b ∷ c ∷ rest) a = b ∷ joined (c ∷ rest) a

-- the list with more areas at its end
abbrev pub join_all : List Area → List Area → List Area
join_all list [] = list
join_all list (a ∷ rest) = join_all (joined list a) rest

-- the kind of an area of which a part stays, painted where there is a paint; one that gives a kind keeps no part, and
-- isn't asked here
abbrev pub repainted : Option Paint → Kind → Kind
repainted None kind = kind
repainted (Some (Gives new)) kind = kind
repainted (Some (Protects prot)) kind = protected_kind prot kind
repainted (Some Seals) kind = sealed_kind kind

-- the part of an area from one page up to another
abbrev pub part_of : ℕ → ℕ → Option Paint → Area → Area
part_of from to paint a = record { lo = max a.lo from; hi = min a.hi to; kind = repainted paint a.kind }

-- the parts of the areas from one page up to another, where they have pages
abbrev pub parts : ℕ → ℕ → Option Paint → List Area → List Area
parts from to paint [] = []
parts from to paint (a ∷ rest) =
    if nat_lt (max a.lo from) (min a.hi to) then part_of from to paint a ∷ parts from to paint rest else parts from to paint rest

-- what a paint puts in the place of the pages from lo up to hi, if there are any
abbrev pub pieces_at : List Area → ℕ → ℕ → Paint → List Area
pieces_at A lo hi (Gives None) = []
pieces_at A lo hi (Gives (Some kind)) = if nat_lt lo hi then record { lo = lo; hi = hi; kind = kind } ∷ [] else []
pieces_at A lo hi (Protects prot) = parts lo hi (Some (Protects prot)) A
pieces_at A lo hi Seals = parts lo hi (Some Seals) A

-- the list with the areas from a page up to a patch at its end, and what the patch makes of its pages
abbrev pub with_next : List Area → ℕ → Patch → List Area → List Area
with_next list from p A = join_all (join_all list (parts from p.lo None A)) (pieces_at A p.lo p.hi p.paint)

-- the list with the areas from a page on at its end, after patches
abbrev pub changed_from : List Area → ℕ → List Patch → List Area → List Area
changed_from list from [] A = join_all list (parts from LIMIT None A)
changed_from list from (p ∷ rest) A = changed_from (with_next list from p A) p.hi rest A

-- the list after patches
abbrev pub changed_list : List Area → List Patch → List Area
changed_list A patches = changed_from [] 0 patches A

-- the call of an entry leaves area list B, and the test says whether the entry has this number and the call's reply
abbrev pub IsNextAnswer : List Area → ℕ → Entry → Bool → List Area → Type 0
IsNextAnswer A number e right B =
    (reply : Reply) × Answers A e.call reply B × (IsTrue right ↔ ((e.number ≡ number) × (e.reply ≡ reply)))
