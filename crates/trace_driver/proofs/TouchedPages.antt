-- The pages of the granted faults of entries, as a list that is made of them, are those on which an entry is a granted
-- fault.
use Rattle.std.proofs.Common.{◌≡◌, ℕ, zero, suc, ◌^◌, ◌<◌, List, [], ◌∷◌, length, ⊎_elim, refl, sym, arith}
use Rattle.std.specs.Prelude.{Contains}
use Rattle.std.proofs.lemmas.List.Elements.{Contains-append_left, Contains-append_right, Contains-append_cases}
use Rattle.page_types.specs.declared.calls.Call.{Call}
use Rattle.page_types.specs.declared.calls.Call.TheVariants.{Fault}
use Rattle.page_types.specs.declared.calls.Reply.{Reply}
use Rattle.page_types.specs.declared.calls.Reply.TheVariants.{Granted}
use Rattle.page_types.specs.Pages.{page_of}
use Rattle.space_model.specs.declared.entries.Entry.{Entry}
use Rattle.trace_threads.specs.Touching.{AreTouchedPages, granted_page, granted_pages, page_by}
use Rattle.page_types.specs.declared.calls.Kind.{Kind}
use Rattle.page_types.specs.declared.sets.Access.{Access}
use Rattle.trace_driver.specs.Report.{CountsTouched}

-- one of the entries is a fault on this page that was granted
abbrev IsGranted : List Entry → ℕ → Type 0
IsGranted entries page = (entry : Entry) × (addr : ℕ) × (access : Access) × (kind : Kind)
    × Contains entries entry × (entry.call ≡ Fault addr access) × (entry.reply ≡ Granted kind) × (page ≡ page_of addr)

only_one : (x y : ℕ) → Contains (x ∷ []) y → y ≡ x
only_one x y (zero, low, e) = sym e
only_one x y (suc k, low, e) = absurd (omega (arith, low))

-- a page of a call and its reply is that of a granted fault
of_call : (entries : List Entry) (e : Entry) (page : ℕ) (c : Call) (r : Reply) → Contains entries e → e.call ≡ c → e.reply ≡ r
    → Contains (page_by c r) page → IsGranted entries page
of_call entries e page (Fault addr access) (Granted kind) there call reply has = (e, addr, access, kind, there, call, reply, only_one (page_of addr) page has)
of_call entries e page other r there call reply (k, low, at) = absurd (omega (arith, low))

-- the same of more entries
with_first : (e : Entry) (es : List Entry) (page : ℕ) → IsGranted es page → IsGranted (e ∷ es) page
with_first e es page h = (h.0, h.1, h.2, h.3, Contains-append_right (e ∷ []) es h.0 h.4, h.5, h.6, h.7)

to_fault : (entries : List Entry) (page : ℕ) → Contains (granted_pages entries) page → IsGranted entries page
to_fault [] page (k, low, at) = absurd (omega (arith, low))
to_fault (e ∷ es) page has = ⊎_elim (λ here. of_call (e ∷ es) e page e.call e.reply (zero, omega arith, refl) refl refl here)
    (λ later. with_first e es page (to_fault es page later)) (Contains-append_cases (granted_page e) (granted_pages es) page has)

-- an entry's page is among those of all
own_page : (entries : List Entry) (e : Entry) (page : ℕ) → Contains entries e → Contains (granted_page e) page → Contains (granted_pages entries) page
own_page [] e page (k, low, at) has = absurd (omega (arith, low))
own_page (x ∷ xs) e page (zero, low, at) has = Contains-append_left (granted_page x) (granted_pages xs) page (rw at has)
own_page (x ∷ xs) e page (suc k, low, at) has =
    Contains-append_right (granted_page x) (granted_pages xs) page (own_page xs e page (k, omega (arith, low), at) has)

from_fault : (entries : List Entry) (page : ℕ) → IsGranted entries page → Contains (granted_pages entries) page
from_fault entries page h = own_page entries h.0 page h.4 (rw (h.5, h.6) (zero, omega arith, sym h.7))

-- the count of the pages that were touched is that of the pages of granted faults
pub counts : (entries : List Entry) (pages : List ℕ) (count : ℕ) → AreTouchedPages entries pages → count ≡ length pages → count < 2 ^ 32
    → CountsTouched entries count
counts entries pages count touched counted narrow = record {
  pages = pages;
  rising = touched.rising;
  all = λ page. ((λ has. to_fault entries page ((touched.all page).0 has)), (λ granted. (touched.all page).1 (from_fault entries page granted)));
  counted = counted;
  narrow = narrow;
}
