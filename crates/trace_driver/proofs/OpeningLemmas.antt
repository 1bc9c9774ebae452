-- Maps lines are read one by one, as the lines of a trace are; and what was read is in order and in range.
use Rattle.std.proofs.Common.{◌≡◌, Bool, true, false, nat_eq, ℕ, ◌+◌, ◌*◌, ◌<◌, ◌≤◌, ◌^◌, List, [], ◌∷◌, ◌++◌, length}
use Rattle.std.proofs.Common.{subst, arith, add-zero, append-nil, append_assoc, length-append}
use Rattle.std.proofs.lemmas.List.Elements.{All-push}
use Rattle.std.proofs.lemmas.Bool.{eqb-true}
use Rattle.std.proofs.lemmas.List.{nil_from_length}
use Rattle.page_types.specs.Named.{IsNamedKind}
use Rattle.space_model.specs.declared.areas.Area.{Area}
use Rattle.space_model.specs.Areas.{IsInOrder, HasNamedKinds}
use Rattle.strace_reader.specs.declared.maps.MapsItem.{MapsItem}
use Rattle.strace_reader.specs.declared.maps.MapsItem.TheVariants.{Area as Mapped, Past}
use Rattle.strace_reader.specs.Maps.{SpellsMaps, IsNamedMapsItem}
use Rattle.trace_driver.specs.declared.status.EarlyEnd.{EarlyEnd}
use Rattle.trace_driver.specs.Script.{IsNext, ReadsMaps, map_start}
use Rattle.trace_driver.specs.Endings.{EndsMap, EndsMaps, map_stop}
use Rattle.trace_driver.specs.TraceReader.{Opens, areas_with, past_with}
use Rattle.trace_driver.specs.Script.ReadsMaps.{over, empty, mapped, past_end}
use Rattle.trace_driver.specs.Endings.EndsMaps.{here, later}

-- the addresses of a maps line are in order and have 64 bits; those of an area are user addresses
pub spells_fit : (text : List ℕ) (item : MapsItem) → SpellsMaps text item → (map_start item < map_stop item) × (map_stop item < 2 ^ 64)
unfolding SpellsMaps
spells_fit text (Mapped area) h = (omega (arith, h.1), omega (arith, h.2))
spells_fit text (Past start stop) h = (h.2, h.1.stops_at.fits)

-- before maps line `number`, behind a line that ends at this address, these areas were read, and so many lines past the
-- user addresses; these texts are left
pub record MapsSoFar (all : List (List ℕ)) (number from : ℕ) (left : List (List ℕ)) (areas : List Area) (past : ℕ) : Type 0 where
  pub reads : (more : List Area) (p next : ℕ) (rest : List (List ℕ)) → ReadsMaps number from left more p next rest
      → ReadsMaps 1 0 all (areas ++ more) (past + p) next rest
  pub ends : (end : EarlyEnd) → EndsMaps number from left end → EndsMaps 1 0 all end

-- behind a maps line what was read has its area too, or one line more past the user addresses
pub maps_next : (all : List (List ℕ)) (number from : ℕ) (text : List ℕ) (texts : List (List ℕ)) (areas new_areas : List Area) (past new_past : ℕ)
    (item : MapsItem) → MapsSoFar all number from (text ∷ texts) areas past → IsNext from text item → new_areas ≡ areas_with areas item
    → new_past ≡ past_with past item → MapsSoFar all (number + 1) (map_stop item) texts new_areas new_past
maps_next all number from text texts areas new_areas past new_past (Mapped area) so_far next is_areas is_past = rw (is_areas, is_past) (record {
  reads = λ more p n rest h. rw append_assoc (so_far.reads (area ∷ more) p n rest (mapped next h));
  ends = λ end h. so_far.ends end (later (Mapped area) next h);
})
maps_next all number from text texts areas new_areas past new_past (Past start stop) so_far next is_areas is_past = rw (is_areas, is_past) (record {
  reads = λ more p n rest h.
      let one_more : past + (1 + p) ≡ past + 1 + p = omega arith in
      subst (λ k. ReadsMaps 1 0 all (areas ++ more) k n rest) one_more (so_far.reads more (1 + p) n rest (past_end next h));
  ends = λ end h. so_far.ends end (later (Past start stop) next h);
})

-- at the empty line the opening is what was read so far, and the trace is behind it
pub maps_empty : (all : List (List ℕ)) (number from : ℕ) (texts : List (List ℕ)) (areas : List Area) (past : ℕ)
    → MapsSoFar all number from ([] ∷ texts) areas past → ReadsMaps 1 0 all areas past (number + 1) texts
maps_empty all number from texts areas past so_far =
    let h : ReadsMaps 1 0 all (areas ++ []) (past + 0) (number + 1) texts = so_far.reads [] 0 (number + 1) texts empty in rw (append-nil, add-zero) at h

-- where the text is over the opening is what was read so far
pub maps_over : (all : List (List ℕ)) (number from : ℕ) (areas : List Area) (past : ℕ)
    → MapsSoFar all number from [] areas past → ReadsMaps 1 0 all areas past number []
maps_over all number from areas past so_far =
    let h : ReadsMaps 1 0 all (areas ++ []) (past + 0) number [] = so_far.reads [] 0 number [] over in rw (append-nil, add-zero) at h

-- a line that ends the run ends the reading of all maps lines so
pub maps_end : (all : List (List ℕ)) (number from : ℕ) (text : List ℕ) (texts : List (List ℕ)) (areas : List Area) (past : ℕ) (end : EarlyEnd)
    → MapsSoFar all number from (text ∷ texts) areas past → EndsMap number from text end → EndsMaps 1 0 all end
maps_end all number from text texts areas past end so_far ends = so_far.ends end (here ends)

-- a maps line adds at most one line past the user addresses
pub past_by_one : (past : ℕ) (item : MapsItem) → past_with past item ≤ past + 1
past_by_one past (Mapped area) = omega arith
past_by_one past (Past start stop) = omega arith

-- a maps line adds at most one area
pub areas_by_one : (areas : List Area) (item : MapsItem) → length (areas_with areas item) ≤ length areas + 1
areas_by_one areas (Mapped area) = omega (arith, length-append areas (area ∷ []))
areas_by_one areas (Past start stop) = omega arith

-- areas with named kinds have them still with the area of a maps line that has named kinds
pub named_with : (areas new_areas : List Area) (item : MapsItem) → HasNamedKinds areas → IsNamedMapsItem item → new_areas ≡ areas_with areas item
    → HasNamedKinds new_areas
named_with areas new_areas (Mapped area) named item is = rw is (All-push (λ a. IsNamedKind a.kind) areas area named item)
named_with areas new_areas (Past start stop) named item is = rw is named

-- what was read is in order and in range
pub maps_in_order : {number from past next : ℕ} {texts left : List (List ℕ)} {areas : List Area} (page : ℕ) → page * 4096 ≤ from
    → ReadsMaps number from texts areas past next left → IsInOrder page areas
unfolding SpellsMaps
maps_in_order page low over = tt
maps_in_order page low empty = tt
maps_in_order page low (mapped {area = area} next rest) =
    let spells = next.spells in (
      omega (arith, next.in_order),
      record { has_page = spells.1; below_limit = omega (arith, spells.2) },
      maps_in_order area.hi (omega arith) rest,
    )
maps_in_order page low (past_end next rest) = maps_in_order page (omega (arith, next.in_order, next.spells.2)) rest

-- so are those that an input begins with
pub opens_in_order : (has : Bool) (texts left : List (List ℕ)) (areas : List Area) (past next : ℕ) → Opens has texts areas past next left → IsInOrder 0 areas
opens_in_order true texts left areas past next h = maps_in_order 0 (omega arith) h
opens_in_order false texts left areas past next h = rw h.0 tt

-- a text whose length is tested to be 0 is empty
pub nil : (text : List ℕ) → nat_eq (length text) 0 ≡ true → text ≡ []
nil text none = nil_from_length text (eqb-true (length text) 0 none)
