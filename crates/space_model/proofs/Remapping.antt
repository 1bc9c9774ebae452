-- Where a Remap puts its pages: a place that isn't the old start was free and lies apart from the old pages, so both
-- are changed at once, in the order of their pages.
use Rattle.std.proofs.Common.{◌≡◌, ◌≢◌, ℕ, ◌+◌, ◌*◌, ◌<◌, ◌≤◌, ◌⊎◌, inl, inr, Bool, true, false, not, ◌&&◌, ◌==◌, if◌then◌else◌, List, [], ◌∷◌, ◌++◌, Option}
use Rattle.std.proofs.Common.{Some, None, MatchOption, refl, sym, ◌∙◌, ap, subst, arith}
use Rattle.std.proofs.lemmas.Bool.{lt-ltb, le-ltb, not-false}
use Rattle.page_types.specs.declared.TheConstants.{LIMIT, LOW}
use Rattle.page_types.specs.declared.calls.Kind.{Kind}
use Rattle.page_types.specs.declared.calls.Call.{Call}
use Rattle.page_types.specs.declared.calls.Call.TheVariants.{Remap}
use Rattle.page_types.specs.declared.calls.Reply.TheVariants.{At}
use Rattle.page_types.specs.declared.calls.Why.TheVariants.{Enomem, Eperm}
use Rattle.page_types.specs.declared.calls.Short.TheVariants.{NoGap}
use Rattle.page_types.specs.Pages.{page_of, is_aligned, page_count, end_page}
use Rattle.page_types.specs.PlainReply.{plain_reply}
use Rattle.page_types.proofs.Undecided.{remap-old, remap-new, remap-end}
use Rattle.space_model.specs.declared.judged.Judged.{Judged}
use Rattle.space_model.specs.declared.judged.Judged.TheVariants.{Changes}
use Rattle.space_model.specs.declared.paint.Paint.TheVariants.{Gives}
use Rattle.space_model.specs.declared.paint.Patch.{Patch}
use Rattle.space_model.specs.declared.sorts.Sort.TheVariants.{Sealed, Unlike}
use Rattle.space_model.specs.Effect.{patch, AreRising}
use Rattle.space_model.specs.Sorts.{is_sort, NoneOf, IsLowest, IsClear}
use Rattle.space_model.specs.Places.{Place, IsUnmapped, FitsAt, IsHighestFit, HasRoom, StartsAt, HasNoPlace, remap_places}
use Rattle.space_model.specs.Places.Place.{free_at, longer, highest_in}
use Rattle.space_model.specs.Answers.{bars, RefusesByState, in_order}
use Rattle.space_model.specs.Answers.Effect.{changes}
use Rattle.space_model.specs.Answers.Remaps.{shorter, stays, moves}
use Rattle.space_model.specs.Judges.{IsJudged}
use Rattle.space_model.proofs.Counting.{same_option-true}

-- a page that isn't unlike a kind is mapped
pub like_mapped : (first o : Option Kind) → is_sort (Unlike first) o ≡ false → o ≡ None → ⊥
like_mapped first None f e = cc
like_mapped first (Some k) f e = cc

-- with that kind
pub like_same : (first o : Option Kind) → is_sort (Unlike first) o ≡ false → o ≡ first
like_same first None f = cc
like_same first (Some k) f = sym (same_option-true first (Some k) (not-false _ f))

module _ (kinds : ℕ → Option Kind) (count lo end : ℕ) where
  -- the places of a Remap that may go to its hint, and may move
  abbrev places : Bool → Bool → ℕ → List Place
  places b may hint = (if b then free_at LIMIT hint ∷ [] else []) ++ longer lo end ∷ (if may then highest_in LOW ∷ [] else [])

  -- the pages start where they fit, or stay, and those behind the old ones were free
  data Placed (start : ℕ) : Type 0 where
    fits : (window : ℕ) → window ≤ LIMIT → FitsAt kinds window count start → Placed start
    stays_there : start ≡ lo → HasRoom kinds end (lo + count) → Placed start

  placed_last : (may : Bool) (start : ℕ) → StartsAt kinds count (longer lo end ∷ (if may then highest_in LOW ∷ [] else [])) start → Placed start
  placed_last may start (inl (room, e)) = stays_there e room
  placed_last true start (inr (k, inl fit)) = fits LOW (omega arith) fit.fits
  placed_last true start (inr (k, inr (j, s))) = absurd s
  placed_last false start (inr (k, s)) = absurd s

  placed_by : (b may : Bool) (hint start : ℕ) → StartsAt kinds count (places b may hint) start → Placed start
  placed_by true may hint start (inl (fit, e)) = fits LIMIT (omega arith) (subst (FitsAt kinds LIMIT count) (sym e) fit)
  placed_by true may hint start (inr (m, s)) = placed_last may start s
  placed_by false may hint start s = placed_last may start s

  placed : (may : Bool) (hint start : ℕ) → StartsAt kinds count (remap_places lo end may hint) start → Placed start
  placed may hint start s = placed_by (may && not (hint == 0) && is_aligned hint) may (page_of hint) start s

  -- a place is the hint where the pages may go there, and otherwise one of the places behind it
  pub at_hint : (b may : Bool) (hint : ℕ) → b ≡ true → FitsAt kinds LIMIT count hint →
      StartsAt kinds count (places b may hint) hint
  at_hint true may hint e fit = inl (fit, refl)
  at_hint false may hint e fit = cc

  pub past_hint : (b may : Bool) (hint start : ℕ) → (b ≡ true → ¬ FitsAt kinds LIMIT count hint) →
      StartsAt kinds count (longer lo end ∷ (if may then highest_in LOW ∷ [] else [])) start →
      StartsAt kinds count (places b may hint) start
  past_hint true may hint start n s = inr (n refl, s)
  past_hint false may hint start n s = s

  pub no_hint : (b may : Bool) (hint : ℕ) → (b ≡ true → ¬ FitsAt kinds LIMIT count hint) →
      HasNoPlace kinds count (longer lo end ∷ (if may then highest_in LOW ∷ [] else [])) →
      HasNoPlace kinds count (places b may hint)
  no_hint true may hint n s = (n refl, s)
  no_hint false may hint n s = s

  -- where the pages don't stay, they are put as high as they fit, if they may move
  pub found_last : (may : Bool) (hint : ℕ) (found : Option ℕ) → may ≡ true →
      (may && not (hint == 0) && is_aligned hint ≡ true → ¬ FitsAt kinds LIMIT count (page_of hint)) → ¬ HasRoom kinds end (lo + count) →
      MatchOption found ((start : ℕ) → ¬ FitsAt kinds LOW count start) (IsHighestFit kinds LOW count) →
      MatchOption found (HasNoPlace kinds count (remap_places lo end may hint)) (StartsAt kinds count (remap_places lo end may hint))
  found_last true hint None e n room none =
      no_hint (true && not (hint == 0) && is_aligned hint) true (page_of hint) n (room, (none, tt))
  found_last true hint (Some start) e n room fit =
      past_hint (true && not (hint == 0) && is_aligned hint) true (page_of hint) start n (inr (room, inl fit))
  found_last false hint found e n room fit = cc

  -- a place that isn't the old start was free
  pub placed_free : (may : Bool) (hint start : ℕ) → StartsAt kinds count (remap_places lo end may hint) start → start ≢ lo →
      IsUnmapped kinds start (start + count)
  placed_free may hint start s n = elim (placed may hint start s) [ fits window low fit ↦ fit.free | stays_there e room ↦ absurd (n e) ]

  -- a place ends at or below LIMIT
  pub placed_low : (may : Bool) (hint start : ℕ) → StartsAt kinds count (remap_places lo end may hint) start → start + count ≤ LIMIT
  placed_low may hint start s =
      elim (placed may hint start s) [
        | fits window low fit ↦ omega (arith, fit.high)
        | stays_there e room ↦ omega (arith, room.0)
      ]

  -- where the pages stay, those behind the old ones were free
  pub placed_behind : (may : Bool) (hint : ℕ) → StartsAt kinds count (remap_places lo end may hint) lo → (page : ℕ) → lo ≤ page →
      end ≤ page → page < lo + count → kinds page ≡ None
  placed_behind may hint s page low behind high =
      elim (placed may hint lo s) [
        | fits window under fit ↦ fit.free page low high
        | stays_there e room ↦ room.1 page behind high
      ]

  -- so it lies below the old pages or above them, which are mapped
  pub placed_apart : (may : Bool) (hint start : ℕ) → lo < end → 0 < count → NoneOf kinds (Unlike (kinds lo)) lo end →
      StartsAt kinds count (remap_places lo end may hint) start → start ≢ lo → (start + count ≤ lo) ⊎ (end ≤ start)
  placed_apart may hint start some any like s n =
      let free = placed_free may hint start s n in
      let not_low : start ≤ lo → lo < start + count → ⊥ = λ low past.
      like_mapped (kinds lo) (kinds lo) (like lo (omega arith) some) (free lo low past) in
      let not_within : lo ≤ start → start < end → ⊥ = λ high within.
      like_mapped (kinds lo) (kinds start) (like start high within) (free start (omega arith) (omega arith)) in
      grind arith

-- two patches that lie apart rise in the order of their pages
pub order_rises : (p q : Patch) → p.lo < p.hi → q.lo < q.hi → p.hi ≤ LIMIT → q.hi ≤ LIMIT → (q.hi ≤ p.lo) ⊎ (p.hi ≤ q.lo) →
    AreRising 0 (in_order p q)
order_rises p q m n k l (inl below) =
    rw (le-ltb p.lo q.lo (omega arith)) (omega arith, omega arith, (below, omega arith, k))
order_rises p q m n k l (inr above) =
    rw (lt-ltb p.lo q.lo (omega arith)) (omega arith, omega arith, (above, omega arith, l))

-- some bytes have a page
pub some_pages : (addr len : ℕ) → len ≢ 0 → page_of addr < end_page addr len
some_pages addr len n = omega arith

-- and some count of them
pub some_length : (len : ℕ) → len ≢ 0 → 0 < page_count len
some_length len n = omega arith

module _ (kinds : ℕ → Option Kind) (addr old new : ℕ) (may : Bool) (hint : ℕ) where
  -- the Remap of which all of these speak
  abbrev pub call : Call
  call = Remap addr old new may hint

  -- a place that isn't the old start lies below the old pages or above them
  pub move_apart : (start : ℕ) → plain_reply call ≡ None →
      NoneOf kinds (Unlike (kinds (page_of addr))) (page_of addr) (end_page addr old) →
      StartsAt kinds (page_count new) (remap_places (page_of addr) (end_page addr old) may hint) start → start ≢ page_of addr →
      (start + page_count new ≤ page_of addr) ⊎ (end_page addr old ≤ start)
  move_apart start u like s n =
      placed_apart kinds (page_count new) (page_of addr) (end_page addr old) may hint start
      (some_pages addr old (remap-old addr old new u)) (some_length new (remap-new addr old new u)) like s n

  -- the two patches of a move rise
  pub move_rises : (start : ℕ) → plain_reply call ≡ None →
      NoneOf kinds (Unlike (kinds (page_of addr))) (page_of addr) (end_page addr old) →
      StartsAt kinds (page_count new) (remap_places (page_of addr) (end_page addr old) may hint) start → start ≢ page_of addr →
      AreRising 0 (in_order (patch (page_of addr) (end_page addr old) (Gives None)) (patch start (start + page_count new) (Gives (kinds (page_of addr)))))
  move_rises start u like s n =
      let any = some_length new (remap-new addr old new u) in
      order_rises (patch (page_of addr) (end_page addr old) (Gives None)) (patch start (start + page_count new) (Gives (kinds (page_of addr))))
      (some_pages addr old (remap-old addr old new u)) (omega (arith, any)) (remap-end addr old new u)
      (placed_low kinds (page_count new) (page_of addr) (end_page addr old) may hint start s) (move_apart start u like s n)

  -- a move is judged rightly, by its two patches in their order
  pub moves_judged : {start end count : ℕ} {kind : Option Kind} {j : Judged} → plain_reply call ≡ None → IsClear kinds (bars kinds call) →
      page_count old < page_count new → StartsAt kinds count (remap_places (page_of addr) end may hint) start → start ≢ page_of addr →
      end ≡ end_page addr old → count ≡ page_count new → kind ≡ kinds (page_of addr) →
      (first second : Patch)
      × (in_order (patch (page_of addr) end (Gives None)) (patch start (start + count) (Gives kind)) ≡ first ∷ second ∷ [])
      × (j ≡ Changes (record { first = first; second = Some second; reply = At (start * 4096); full = None })) → IsJudged kinds call j
  moves_judged {start} u clear more s differs e c k (first, second, order, is) =
      let right : StartsAt kinds (page_count new) (remap_places (page_of addr) (end_page addr old) may hint) start = rw (e, c) at s in
      let patches :
      first ∷ second ∷ [] ≡
      in_order (patch (page_of addr) (end_page addr old) (Gives None)) (patch start (start + page_count new) (Gives (kinds (page_of addr)))) =
      sym order ∙ (λ i. in_order (patch (page_of addr) (e i) (Gives None)) (patch start (start + c i) (Gives (k i)))) in
      rw is (
        (clear, moves start more right differs (ap (λ l. changes l (At (start * 4096)) None) patches)),
        subst (AreRising 0) (sym patches) (move_rises start u clear.0 right differs),
      )

  -- pages that become more where they are are judged rightly
  pub stays_judged : {start end count : ℕ} {kind : Option Kind} {j : Judged} → plain_reply call ≡ None → IsClear kinds (bars kinds call) →
      page_count old < page_count new → StartsAt kinds count (remap_places (page_of addr) end may hint) start → start ≡ page_of addr →
      end ≡ end_page addr old → count ≡ page_count new → kind ≡ kinds (page_of addr) →
      j ≡ Changes (record { first = patch (page_of addr) (page_of addr + count) (Gives kind); second = None; reply = At addr; full = None }) →
      IsJudged kinds call j
  stays_judged u clear more s same e c k is =
      let lo = page_of addr in
      let right : StartsAt kinds (page_count new) (remap_places lo (end_page addr old) may hint) lo = rw (same, e, c) at s in
      let limit = placed_low kinds (page_count new) lo (end_page addr old) may hint lo right in
      rw (is, c, k) ((clear, stays more right refl), (omega arith, omega arith, limit))

  -- pages that become fewer, or stay as many, are judged rightly
  pub fewer_judged : {end count : ℕ} {j : Judged} → plain_reply call ≡ None → IsClear kinds (bars kinds call) →
      count ≤ page_count old → end ≡ end_page addr old → count ≡ page_count new →
      j ≡ Changes (record { first = patch (page_of addr + count) end (Gives None); second = None; reply = At addr; full = None }) →
      IsJudged kinds call j
  fewer_judged u clear few e c is =
      rw (is, c, e) ((clear, shorter (omega (arith, few, c)) refl), (omega arith, omega (arith, few, c), remap-end addr old new u))

  -- where no place applies the Remap is refused
  pub unplaced_judged : {end count : ℕ} → IsClear kinds (bars kinds call) → page_count old < page_count new →
      HasNoPlace kinds count (remap_places (page_of addr) end may hint) → end ≡ end_page addr old → count ≡ page_count new →
      RefusesByState kinds call (Enomem (NoGap count))
  unplaced_judged clear more none e c = inr (clear, (more, rw (e, c) at none, ap (λ n. Enomem (NoGap n)) c))

  -- what two looks find of the pages of a Remap is so at the kinds as they were: nothing bars it
  pub remap_clear : {one two : ℕ → Option Kind} {end : ℕ} {kind : Option Kind} → one ≡ kinds → two ≡ kinds →
      kind ≡ kinds (page_of addr) → end ≡ end_page addr old → NoneOf one (Unlike kind) (page_of addr) end →
      NoneOf two Sealed (page_of addr) end → IsClear kinds (bars kinds call)
  remap_clear o t k e like open_to = (rw (o, k, e) at like, (rw (t, e) at open_to, tt))

  -- or its lowest sealed page does
  pub sealed_refuses : {one two : ℕ → Option Kind} {end page : ℕ} {kind : Option Kind} → one ≡ kinds → two ≡ kinds →
      kind ≡ kinds (page_of addr) → end ≡ end_page addr old → NoneOf one (Unlike kind) (page_of addr) end →
      IsLowest two Sealed (page_of addr) end page → RefusesByState kinds call (Eperm page)
  sealed_refuses {page = page} o t k e like low = inl (inr (rw (o, k, e) at like, inl (page, rw (t, e) at low, refl)))
