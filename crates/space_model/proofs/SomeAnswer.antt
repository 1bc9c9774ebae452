-- Each call has an answer on an area list: of the pages below a bound there is a lowest and a highest of a sort, or
-- none.
use Rattle.std.proofs.Common.{◌≡◌, ℕ, zero, suc, ◌+◌, ◌*◌, ◌<◌, ◌≤◌, ◌⊎◌, inl, inr, Bool, true, false, if◌then◌else◌, nat_lt, is_some, List, [], ◌∷◌, Option}
use Rattle.std.proofs.Common.{Some, None, sym, ◌∙◌, ap, subst, refl, arith}
use Rattle.std.proofs.lemmas.Bool.{cases_lt, cases_eq, cases_Bool, true≢false}
use Rattle.page_types.specs.declared.TheConstants.{LIMIT, LOW, LOWEST, ROWS}
use Rattle.page_types.specs.declared.sets.Access.{Access}
use Rattle.page_types.specs.declared.calls.Kind.{Kind}
use Rattle.page_types.specs.declared.calls.Call.{Call}
use Rattle.page_types.specs.declared.calls.Call.TheVariants.{Map, Unmap, Protect, Fault, Seal, Brk, Remap}
use Rattle.page_types.specs.declared.calls.Reply.{Reply}
use Rattle.page_types.specs.declared.calls.Reply.TheVariants.{At, Zero, Granted, Refused}
use Rattle.page_types.specs.declared.calls.Why.{Why}
use Rattle.page_types.specs.declared.calls.Why.TheVariants.{Enomem, MapErr, AccErr}
use Rattle.page_types.specs.declared.calls.Short.TheVariants.{NoGap}
use Rattle.page_types.specs.Pages.{page_of, page_count, end_page}
use Rattle.page_types.specs.Sets.{has_bits, prot_bits, access_bit, is_fixed}
use Rattle.page_types.specs.PlainReply.{plain_reply}
use Rattle.page_types.proofs.Undecided.{map-length, map-end, unmap-length, unmap-end, protect-length, protect-end, seal-length, seal-end, brk-base, remap-end}
use Rattle.space_model.specs.declared.areas.Area.{Area}
use Rattle.space_model.specs.declared.paint.Paint.TheVariants.{Gives, Protects, Seals}
use Rattle.space_model.specs.declared.paint.Patch.{Patch}
use Rattle.space_model.specs.declared.sorts.Sort.{Sort}
use Rattle.space_model.specs.declared.sorts.Sort.TheVariants.{Mapped, Unlike}
use Rattle.space_model.specs.Areas.{IsAreaList, kind_at, row_count}
use Rattle.space_model.specs.Effect.{mapped_kind, heap_kind, patch, AreRising}
use Rattle.space_model.specs.Sorts.{is_sort, NoneOf, IsLowest, IsEnd, Bar, why_of, IsBarred, IsClear}
use Rattle.space_model.specs.Sorts.Bar.{bar}
use Rattle.space_model.specs.Places.{FitsAt, HasRoom, Place, StartsBy, NoStart, StartsAt, HasNoPlace, map_places, remap_places, window_of}
use Rattle.space_model.specs.Places.Place.{fixed, free_at, longer, highest_in}
use Rattle.space_model.specs.Answers.{bars, AnswersFault, in_order, full_reply, IsHeapEnd, IsEffect, Answers}
use Rattle.space_model.specs.Answers.Effect.{changes}
use Rattle.space_model.specs.Answers.Breaks.{below_base, shrinks, grows, no_room}
use Rattle.space_model.specs.Answers.Remaps.{shorter, stays, moves}
use Rattle.space_model.specs.Answers.Answers.{by_arguments, refused, kept, done, too_many_rows}
use Rattle.space_model.specs.Laws.{HasSomeAnswer}
use Rattle.space_model.specs.Building.{changed_list}
use Rattle.space_model.proofs.Changing.{changed_list-kinds}
use Rattle.space_model.proofs.Remapping.{placed_low, some_pages, some_length, move_rises}

-- the highest number of a sort below a bound, or none
highest_of : (P : ℕ → Type 0) (test : (p : ℕ) → P p ⊎ (¬ P p)) (hi : ℕ) →
    ((p : ℕ) → p < hi → ¬ P p) ⊎ ((q : ℕ) × P q × ((p : ℕ) → p < hi → P p → p ≤ q))
highest_of P test zero = inl (λ p l. absurd (omega arith))
highest_of P test (suc hi) =
    elim (test hi) [
      | inl is_one ↦ inr (hi, is_one, λ p l h. omega arith)
      | inr isnt_one ↦
          let below : (p : ℕ) → p < suc hi → P p → p < hi =
          λ p l h. elim (cases_lt p hi) [
            | inl lt ↦ lt
            | inr top ↦ let e : p ≡ hi = omega arith in absurd (isnt_one (subst P e h))
          ] in
          elim (highest_of P test hi) [
            | inl none ↦ inl (λ p l h. none p (below p l h) h)
            | inr (q, h, top) ↦ inr (q, h, λ p g i. top p (below p g i) i)
          ]
    ]

-- a page that isn't mapped has no kind
unmapped_none : (o : Option Kind) → is_some o ≡ false → o ≡ None
unmapped_none None e = refl
unmapped_none (Some k) e = cc

-- and one with no kind isn't mapped
none_unmapped : (o : Option Kind) → is_some o ≡ true → o ≡ None → ⊥
none_unmapped None e n = cc
none_unmapped (Some k) e n = cc

module _ (kinds : ℕ → Option Kind) where
  -- the lowest page of a sort from one page up to another, or none
  lowest_such : (sort : Sort) (lo hi : ℕ) → NoneOf kinds sort lo hi ⊎ ((page : ℕ) × IsLowest kinds sort lo hi page)
  lowest_such sort lo zero = inl (λ p g l. absurd (omega arith))
  lowest_such sort lo (suc hi) =
      elim (lowest_such sort lo hi) [
        | inr (q, first) ↦
            let l = first.within in
            inr (q, record { from = first.from; within = omega arith; such = first.such; none_below = first.none_below })
        | inl none ↦
            elim (cases_lt hi lo) [
              | inl lt ↦ inl (λ p g l. absurd (omega arith))
              | inr ge ↦
                  elim (cases_Bool (is_sort sort (kinds hi))) [
                    | inl is_one ↦ inr (hi, record { from = ge; within = omega arith; such = is_one; none_below = none })
                    | inr isnt_one ↦
                        inl (λ p g l.
                        elim (cases_lt p hi) [
                          | inl lt ↦ none p g lt
                          | inr top ↦ let e : hi ≡ p = omega arith in ap (λ x. is_sort sort (kinds x)) (sym e) ∙ isnt_one
                        ])
                  ]
            ]
      ]

  -- the search for a sort ends somewhere
  end_some : (sort : Sort) (lo hi : ℕ) → lo ≤ hi → (end : ℕ) × IsEnd kinds sort lo hi end
  end_some sort lo hi l =
      elim (lowest_such sort lo hi) [
        | inl none ↦ (hi, record { from = l; within = omega arith; such = λ past. absurd (omega arith); none_below = none })
        | inr (q, first) ↦
            let h = first.within in (
              q,
              record { from = first.from; within = omega arith; such = λ _. first.such; none_below = first.none_below },
            )
      ]

  bars_some : (list : List Bar) → IsClear kinds list ⊎ ((why : Why) × IsBarred kinds list why)
  bars_some [] = inl tt
  bars_some (bar sort lo hi ∷ rest) =
      elim (lowest_such sort lo hi) [
        | inr (q, first) ↦ inr (why_of sort q, inl (q, first, refl))
        | inl none ↦
            elim (bars_some rest) [
              | inl clear ↦ inl (none, clear)
              | inr (why, barred) ↦ inr (why, inr (none, barred))
            ]
      ]

  fits_or_not : (window pages start : ℕ) → FitsAt kinds window pages start ⊎ (¬ FitsAt kinds window pages start)
  fits_or_not window pages start =
      elim (cases_lt start LOWEST) [
        | inl below ↦ inr (λ fit. absurd (omega (arith, fit.low)))
        | inr low ↦
            elim (cases_lt window (start + pages)) [
              | inl above ↦ inr (λ fit. absurd (omega (arith, fit.high)))
              | inr high ↦
                  elim (lowest_such Mapped start (start + pages)) [
                    | inl is_free ↦
                        inl (record { low = low; high = high; free = λ p g l. unmapped_none (kinds p) (is_free p g l) })
                    | inr (q, first) ↦
                        inr (λ fit. none_unmapped (kinds q) first.such (fit.free q first.from first.within))
                  ]
            ]
      ]

  room_or_not : (lo hi : ℕ) → HasRoom kinds lo hi ⊎ (¬ HasRoom kinds lo hi)
  room_or_not lo hi =
      elim (cases_lt LIMIT hi) [
        | inl above ↦ inr (λ room. absurd (omega (arith, room.0)))
        | inr high ↦
            elim (lowest_such Mapped lo hi) [
              | inl is_free ↦ inl (high, λ p g l. unmapped_none (kinds p) (is_free p g l))
              | inr (q, first) ↦
                  inr (λ room. none_unmapped (kinds q) first.such (room.1 q first.from first.within))
            ]
      ]

  place_some : (pages : ℕ) (place : Place) → NoStart kinds pages place ⊎ ((start : ℕ) × StartsBy kinds pages place start)
  place_some pages (fixed at) = inr (at, refl)
  place_some pages (free_at window at) =
      elim (fits_or_not window pages at) [ inl fit ↦ inr (at, (fit, refl)) | inr unfit ↦ inl unfit ]
  place_some pages (longer at end) =
      elim (room_or_not end (at + pages)) [ inl room ↦ inr (at, (room, refl)) | inr none ↦ inl none ]
  place_some pages (highest_in window) =
      elim (highest_of (FitsAt kinds window pages) (fits_or_not window pages) (window + 1)) [
        | inl none ↦ inl (λ start o. none start (omega (arith, o.high)) o)
        | inr (q, fit, top) ↦ inr (q, record { fits = fit; highest = λ other o. top other (omega (arith, o.high)) o })
      ]

  places_some : (pages : ℕ) (list : List Place) → HasNoPlace kinds pages list ⊎ ((start : ℕ) × StartsAt kinds pages list start)
  places_some pages [] = inl tt
  places_some pages (place ∷ rest) =
      elim (place_some pages place) [
        | inr (start, by) ↦ inr (start, inl by)
        | inl none ↦
            elim (places_some pages rest) [
              | inl nowhere ↦ inl (none, nowhere)
              | inr (start, at) ↦ inr (start, inr (none, at))
            ]
      ]

  -- the pages of a Map end at or below LIMIT
  mapped_low : (b : Bool) (hint window pages start : ℕ) → window ≤ LIMIT → (b ≡ true → hint + pages ≤ LIMIT) →
      StartsAt kinds pages (if b then fixed hint ∷ [] else free_at window hint ∷ highest_in window ∷ []) start → start + pages ≤ LIMIT
  mapped_low true hint window pages start low end (inl e) = omega (arith, end refl, e)
  mapped_low true hint window pages start low end (inr (n, s)) = absurd n
  mapped_low false hint window pages start low end (inl (fit, e)) = omega (arith, fit.high, e)
  mapped_low false hint window pages start low end (inr (n, inl fit)) = omega (arith, fit.fits.high)
  mapped_low false hint window pages start low end (inr (n, inr (m, s))) = absurd s

  fault_some : (o : Option Kind) (page : ℕ) (access : Access) → (r : Reply) × AnswersFault o page access r
  fault_some None page access = (Refused (MapErr page), refl)
  fault_some (Some k) page access =
      elim (cases_Bool (has_bits (prot_bits k.prot) (access_bit access))) [
        | inl t ↦ (Granted k, inl (t, refl))
        | inr f ↦ (Refused (AccErr page k), inr (λ t. true≢false (sym t ∙ f), refl))
      ]

-- a window ends at or below LIMIT
window_low : (b : Bool) → (if b then LOW else LIMIT) ≤ LIMIT
window_low true = omega arith
window_low false = omega arith

module _ (A : List Area) (w : IsAreaList A) where
  -- a change is done, or makes too many rows
  patched_some : (c : Call) (patches : List Patch) (reply : Reply) (full : Option Reply) → plain_reply c ≡ None →
      IsEffect (kind_at A) c (changes patches reply full) → AreRising 0 patches → HasSomeAnswer A c
  patched_some c patches reply full u e r =
      let B = changed_list A patches in
      let k = changed_list-kinds A patches w r in
      elim (cases_lt ROWS (row_count B)) [
        | inl many ↦ (full_reply full (row_count B), A, too_many_rows patches reply full B u e k many refl refl)
        | inr few ↦ (reply, B, done patches full u e k few)
      ]

  changed_some : (c : Call) (change : Patch) (reply : Reply) (full : Option Reply) → plain_reply c ≡ None →
      IsEffect (kind_at A) c (changes (change ∷ []) reply full) → change.lo < change.hi → change.hi ≤ LIMIT → HasSomeAnswer A c
  changed_some c change reply full u e l h = patched_some c (change ∷ []) reply full u e (omega arith, omega arith, h)

  -- a Brk of a heap that ends there
  brk_some : (base addr end : ℕ) → plain_reply (Brk base addr) ≡ None → IsHeapEnd (kind_at A) base end → HasSomeAnswer A (Brk base addr)
  brk_some base addr end u is =
      let c : Call = Brk base addr in
      let stays_at : Reply = At (end * 4096) in
      let limit = is.within in
      elim (cases_lt addr base) [
        | inl low ↦ (stays_at, A, kept u (tt, (end, is, below_base low refl)) refl)
        | inr high ↦
            elim (cases_lt end (page_count addr)) [
              | inr back ↦
                  patched_some c (patch (page_count addr) end (Gives None) ∷ []) (At addr) (Some stays_at) u
                  (tt, (end, is, shrinks high back refl)) (omega arith, back, limit)
              | inl on ↦
                  elim (room_or_not (kind_at A) end (page_count addr)) [
                    | inl room ↦
                        patched_some c (patch end (page_count addr) (Gives (Some heap_kind)) ∷ []) (At addr) (Some stays_at) u
                        (tt, (end, is, grows high on room refl)) (omega arith, omega arith, room.0)
                    | inr none ↦ (stays_at, A, kept u (tt, (end, is, no_room high on none refl)) refl)
                  ]
            ]
      ]

  -- a Remap that nothing bars
  remap_some : (addr old new : ℕ) (may : Bool) (hint : ℕ) → plain_reply (Remap addr old new may hint) ≡ None →
      IsClear (kind_at A) (bars (kind_at A) (Remap addr old new may hint)) → HasSomeAnswer A (Remap addr old new may hint)
  remap_some addr old new may hint u clear =
      let c : Call = Remap addr old new may hint in
      let lo = page_of addr in let end = end_page addr old in let count = page_count new in let kind = kind_at A lo in
      let limit = remap-end addr old new u in
      elim (cases_lt (page_count old) count) [
        | inr fewer ↦
            patched_some c (patch (lo + count) end (Gives None) ∷ []) (At addr) None u (clear, shorter fewer refl)
            (omega arith, omega arith, limit)
        | inl more ↦
            elim (places_some (kind_at A) count (remap_places lo end may hint)) [
              | inl none ↦
                  (Refused (Enomem (NoGap count)), A, refused (Enomem (NoGap count)) u (inr (clear, (more, none, refl))) refl refl)
              | inr (start, s) ↦
                  elim (cases_eq start lo) [
                    | inl same ↦
                        let t : StartsAt (kind_at A) count (remap_places lo end may hint) lo =
                        subst (StartsAt (kind_at A) count (remap_places lo end may hint)) same s in
                        patched_some c (patch lo (lo + count) (Gives kind) ∷ []) (At addr) None u (clear, stays more t refl)
                        (omega arith, omega arith, placed_low (kind_at A) count lo end may hint lo t)
                    | inr differs ↦
                        patched_some c
                        (in_order (patch lo end (Gives None)) (patch start (start + count) (Gives kind)))
                        (At (start * 4096)) None u (clear, moves start more s differs refl)
                        (move_rises (kind_at A) addr old new may hint start u clear.0 s differs)
                  ]
            ]
      ]

  clear_some : (c : Call) → plain_reply c ≡ None → IsClear (kind_at A) (bars (kind_at A) c) → HasSomeAnswer A c
  clear_some (Map addr len prot flags) u clear =
      let count = page_count len in
      elim (places_some (kind_at A) count (map_places flags (page_of addr))) [
        | inl none ↦ (Refused (Enomem (NoGap count)), A, refused (Enomem (NoGap count)) u (inr (clear, (none, refl))) refl refl)
        | inr (start, s) ↦
            changed_some (Map addr len prot flags) (patch start (start + count) (Gives (Some (mapped_kind prot flags))))
            (At (start * 4096)) None u (clear, (start, s, refl))
            (omega (arith, some_length len (map-length addr len flags u)))
            (mapped_low (kind_at A) (is_fixed flags) (page_of addr) (window_of (page_of addr)) count start
            (window_low (nat_lt (page_of addr) LOW)) (map-end addr len flags u) s)
      ]
  clear_some (Unmap addr len) u clear =
      changed_some (Unmap addr len) (patch (page_of addr) (end_page addr len) (Gives None)) Zero None u (clear, refl)
      (some_pages addr len (unmap-length addr len u)) (unmap-end addr len u)
  clear_some (Protect addr len prot) u clear =
      changed_some (Protect addr len prot) (patch (page_of addr) (end_page addr len) (Protects prot)) Zero None u (clear, refl)
      (some_pages addr len (protect-length addr len u)) (protect-end addr len u)
  clear_some (Seal addr len flags) u clear =
      changed_some (Seal addr len flags) (patch (page_of addr) (end_page addr len) Seals) Zero None u (clear, refl)
      (some_pages addr len (seal-length addr len flags u)) (seal-end addr len flags u)
  clear_some (Brk base addr) u clear =
      let l = brk-base base u in
      let (end, is) = end_some (kind_at A) (Unlike (Some heap_kind)) (page_of base) LIMIT (omega arith) in
      brk_some base addr end u is
  clear_some (Remap addr old new may hint) u clear = remap_some addr old new may hint u clear
  clear_some (Fault addr access) u clear =
      let (r, h) = fault_some (kind_at A) (kind_at A (page_of addr)) (page_of addr) access in
      (r, A, kept u (clear, (r, h, refl)) refl)

  undecided_some : (c : Call) → plain_reply c ≡ None → HasSomeAnswer A c
  undecided_some c u =
      elim (bars_some (kind_at A) (bars (kind_at A) c)) [
        | inl clear ↦ clear_some c u clear
        | inr (why, barred) ↦ (Refused why, A, refused why u (inl barred) refl refl)
      ]

decided_or_not : (o : Option Reply) → (o ≡ None) ⊎ ((r : Reply) × (o ≡ Some r))
decided_or_not None = inl refl
decided_or_not (Some r) = inr (r, refl)

-- each call has an answer on an area list
pub some_answer : (A : List Area) (c : Call) → IsAreaList A → HasSomeAnswer A c
some_answer A c w =
    elim (decided_or_not (plain_reply c)) [
      | inl u ↦ undecided_some A w c u
      | inr (r, e) ↦ (r, A, by_arguments e refl)
    ]

-- and what it leaves is an area list
pub leaves_areas : (A : List Area) (c : Call) (r : Reply) (B : List Area) → IsAreaList A → Answers A c r B → IsAreaList B
leaves_areas A c r B w (by_arguments e b) = subst IsAreaList (sym b) w
leaves_areas A c r B w (refused why u f e b) = subst IsAreaList (sym b) w
leaves_areas A c r B w (kept u g b) = subst IsAreaList (sym b) w
leaves_areas A c r B w (done ps full u e k n) = k.areas
leaves_areas A c r B w (too_many_rows ps said full C u e k n d b) = subst IsAreaList (sym b) w
