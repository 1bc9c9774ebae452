-- A process that is new gets the next place, and each other keeps its own.
use Rattle.std.proofs.Common.{◌≡◌, ◌≢◌, ℕ, suc, ◌+◌, Bool, true, false, List, [], ◌∷◌, ◌++◌, length, Option, None, Some, ap}
use Rattle.std.proofs.Common.{cond, not, subst, sym, refl, ◌∙◌, arith, inl, inr, length-append}
use Rattle.std.specs.Prelude.{◌==◌, ◌||◌, if◌then◌else◌}
use Rattle.std.specs.List.{list_any}
use Rattle.std.proofs.lemmas.Bool.{cases_eq}
use Rattle.std.proofs.lemmas.Bool.Decides.{eqb_tells}
use Rattle.std.specs.BTreeMap.{get}
use Rattle.std.specs.Ordering.{nat_cmp}
use Rattle.trace_driver.specs.declared.processes.Processes.{Processes}
use Rattle.trace_driver.specs.TraceReader.{IsIndexed, index_among, one_on, place_among, seen_with}

-- the place, or the next one where there is none
abbrev place_or : Option ℕ → ℕ → ℕ
place_or None next = next
place_or (Some place) next = place

index_behind : (here : Bool) (o : Option ℕ) (count index : ℕ) → place_or o count ≡ index
    → place_or (if here then Some 0 else one_on o) (suc count) ≡ cond (not here) (1 + index) 0
index_behind true o count index e = refl
index_behind false None count index e = omega (arith, e)
index_behind false (Some place) count index e = omega (arith, e)

-- the index of a process is its place, or how many were seen
index_is : (seen : List ℕ) (pid : ℕ) → place_or (place_among seen pid) (length seen) ≡ index_among seen pid
index_is [] pid = refl
index_is (first ∷ seen) pid = index_behind (first == pid) (place_among seen pid) (length seen) (index_among seen pid) (index_is seen pid)

-- the place of a process that was seen is its index
pub index_found : (seen : List ℕ) (pid place : ℕ) → place_among seen pid ≡ Some place → place ≡ index_among seen pid
index_found seen pid place e = sym (ap (λ (o : Option ℕ). place_or o (length seen)) e) ∙ index_is seen pid

-- the index of a process that wasn't seen is how many were
pub index_new : (seen : List ℕ) (pid : ℕ) → place_among seen pid ≡ None → length seen ≡ index_among seen pid
index_new seen pid e = sym (ap (λ (o : Option ℕ). place_or o (length seen)) e) ∙ index_is seen pid

abbrev is_there : Option ℕ → Bool
is_there None = false
is_there (Some place) = true

there_behind : (here : Bool) (o : Option ℕ) (later : Bool) → is_there o ≡ later → is_there (if here then Some 0 else one_on o) ≡ (here || later)
there_behind true o later e = refl
there_behind false None later e = e
there_behind false (Some place) later e = e

-- a process has a place where it is among those that were seen
there_is : (seen : List ℕ) (pid : ℕ) → is_there (place_among seen pid) ≡ list_any (λ first. first == pid) seen
there_is [] pid = refl
there_is (first ∷ seen) pid = there_behind (first == pid) (place_among seen pid) (list_any (λ f. f == pid) seen) (there_is seen pid)

seen_found : (seen : List ℕ) (pid place : ℕ) → place_among seen pid ≡ Some place → seen ≡ seen_with seen pid
seen_found seen pid place e =
    let any : list_any (λ first. first == pid) seen ≡ true = sym (there_is seen pid) ∙ ap is_there e in
    sym (ap (λ (b : Bool). if b then seen else seen ++ pid ∷ []) any)

seen_new : (seen : List ℕ) (pid : ℕ) → place_among seen pid ≡ None → seen ++ pid ∷ [] ≡ seen_with seen pid
seen_new seen pid e =
    let none : list_any (λ first. first == pid) seen ≡ false = sym (there_is seen pid) ∙ ap is_there e in
    sym (ap (λ (b : Bool). if b then seen else seen ++ pid ∷ []) none)

-- where a process is, by whether it is the first
abbrev found_at : Bool → Option ℕ → Option ℕ
found_at first behind = if first then Some 0 else one_on behind

other_byte : (a b : ℕ) → b ≢ a → (a == b) ≡ false
other_byte a b apart = elim (eqb_tells a b) [ inl h ↦ absurd (apart (sym h.1)) | inr h ↦ h.0 ]

place_other : (seen : List ℕ) (pid q : ℕ) → q ≢ pid → place_among (seen ++ pid ∷ []) q ≡ place_among seen q
place_other [] pid q apart = ap (λ (b : Bool). found_at b None) (other_byte pid q apart)
place_other (first ∷ seen) pid q apart = ap (found_at (first == q)) (place_other seen pid q apart)

one_on_none : (o : Option ℕ) → one_on o ≡ None → o ≡ None
one_on_none None e = refl
one_on_none (Some place) e = absurd cc

behind_none : (b : Bool) (o : Option ℕ) → found_at b o ≡ None → (b ≡ false) × (o ≡ None)
behind_none true o e = absurd cc
behind_none false o e = (refl, one_on_none o e)

place_new : (seen : List ℕ) (pid : ℕ) → place_among seen pid ≡ None → place_among (seen ++ pid ∷ []) pid ≡ Some (length seen)
place_new [] pid e = elim (eqb_tells pid pid) [ inl h ↦ ap (λ (b : Bool). found_at b None) h.0 | inr h ↦ absurd (h.1 refl) ]
place_new (first ∷ seen) pid e =
    let k = behind_none (first == pid) (place_among seen pid) e in
    ap (λ (b : Bool). found_at b (place_among (seen ++ pid ∷ []) pid)) k.0 ∙ ap one_on (place_new seen pid k.1) ∙ ap Some (omega arith)

-- a process that has its index keeps it
pub indexed_found : (processes : Processes) (seen : List ℕ) (pid place : ℕ) → get nat_cmp processes.indexes pid ≡ Some place
    → IsIndexed processes seen → IsIndexed processes (seen_with seen pid)
indexed_found processes seen pid place e h = subst (IsIndexed processes) (seen_found seen pid place (sym (h.places pid) ∙ e)) h

-- a new one has the next
pub indexed_new : (old new : Processes) (seen : List ℕ) (pid : ℕ) → get nat_cmp old.indexes pid ≡ None → get nat_cmp new.indexes pid ≡ Some old.count
    → ((q : ℕ) → q ≢ pid → get nat_cmp new.indexes q ≡ get nat_cmp old.indexes q) → new.count ≡ old.count + 1 → IsIndexed old seen
    → IsIndexed new (seen_with seen pid)
indexed_new old new seen pid none some others more h =
    let at_none = sym (h.places pid) ∙ none in
    subst (IsIndexed new) (seen_new seen pid at_none) (record {
      places = λ q. elim (cases_eq q pid) [
        | inl e ↦ ap (get nat_cmp new.indexes) e ∙ some ∙ ap Some h.next ∙ sym (place_new seen pid at_none) ∙ ap (place_among (seen ++ pid ∷ [])) (sym e)
        | inr apart ↦ others q apart ∙ h.places q ∙ sym (place_other seen pid q apart)
      ];
      next = let next = h.next in omega (arith, more, next, length-append seen (pid ∷ []));
    })
