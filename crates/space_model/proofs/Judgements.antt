-- What a judged call comes to is an answer: a Map that finds no place is refused, and a change that was judged rightly
-- gives, with the row limit asked, the reply and the areas of the model.
use Rattle.std.proofs.Common.{◌≡◌, ℕ, ◌+◌, ◌*◌, ◌≤◌, Bool, true, false, ◌||◌, if◌then◌else◌, IsFalse, inl, inr, List, [], ◌∷◌, Option, Some, None, refl, sym}
use Rattle.std.proofs.Common.{ap, subst, arith}
use Rattle.page_types.specs.declared.TheConstants.{LIMIT}
use Rattle.page_types.specs.declared.calls.Kind.{Kind}
use Rattle.page_types.specs.declared.calls.Call.{Call}
use Rattle.page_types.specs.declared.calls.Call.TheVariants.{Map, Fault}
use Rattle.page_types.specs.declared.calls.Reply.{Reply}
use Rattle.page_types.specs.declared.calls.Reply.TheVariants.{At}
use Rattle.page_types.specs.declared.calls.Why.TheVariants.{Enomem}
use Rattle.page_types.specs.declared.calls.Short.TheVariants.{NoGap}
use Rattle.page_types.specs.declared.sets.Access.{Access}
use Rattle.page_types.specs.declared.sets.Prot.{Prot}
use Rattle.page_types.specs.declared.sets.MapFlags.{MapFlags}
use Rattle.page_types.specs.Pages.{page_of, page_count}
use Rattle.page_types.specs.PlainReply.{plain_reply}
use Rattle.page_types.specs.Sets.{is_fixed, has_bits, flag_bits}
use Rattle.space_model.specs.declared.areas.Area.{Area}
use Rattle.space_model.specs.declared.judged.Change.{Change}
use Rattle.space_model.specs.declared.judged.Judged.{Judged}
use Rattle.space_model.specs.declared.judged.Judged.TheVariants.{Changes}
use Rattle.space_model.specs.declared.paint.Paint.TheVariants.{Gives}
use Rattle.space_model.specs.declared.sorts.Sort.TheVariants.{Mapped, Sealed}
use Rattle.space_model.specs.Areas.{kind_at}
use Rattle.space_model.specs.Effect.{mapped_kind}
use Rattle.space_model.specs.Sorts.{IsClear}
use Rattle.space_model.specs.Sorts.Bar.{bar}
use Rattle.space_model.specs.Places.{FitsAt, IsHighestFit, StartsAt, HasNoPlace, window_of}
use Rattle.space_model.specs.Places.Place.{fixed, free_at, highest_in}
use Rattle.space_model.specs.Answers.{RefusesByState, AnswersFault, Answers}
use Rattle.space_model.specs.Answers.Answers.{kept, done, too_many_rows}
use Rattle.space_model.specs.Judges.{IsJudged, Makes, patches_of}
use Rattle.space_model.specs.Judges.Makes.{within, beyond}

-- the change of a Map whose pages are put there
abbrev pub placed : ℕ → ℕ → Kind → Change
placed start count kind =
    record { first = record { lo = start; hi = start + count; paint = Gives (Some kind) }; second = None; reply = At (start * 4096); full = None }

module _ (kinds : ℕ → Option Kind) where
  clear_if : (four eight : Bool) (lo hi : ℕ) → (four || eight) ≡ false →
      IsClear kinds (if eight then bar Mapped lo hi ∷ [] else if four then bar Sealed lo hi ∷ [] else [])
  clear_if true eight lo hi e = cc
  clear_if false true lo hi e = cc
  clear_if false false lo hi e = tt

  no_place_if : (b : Bool) (window pages hint : ℕ) → b ≡ false → ((s : ℕ) → ¬ FitsAt kinds window pages s) →
      HasNoPlace kinds pages (if b then fixed hint ∷ [] else free_at window hint ∷ highest_in window ∷ [])
  no_place_if true window pages hint e n = cc
  no_place_if false window pages hint e n = (n hint, (n, tt))

  -- a Map whose address is a hint is refused where its pages fit nowhere in the hint's window
  pub hinted_refused : (addr len : ℕ) (prot : Prot) (flags : MapFlags) {window count : ℕ} → IsFalse (is_fixed flags) →
      window ≡ window_of (page_of addr) → count ≡ page_count len → ((s : ℕ) → ¬ FitsAt kinds window count s) →
      RefusesByState kinds (Map addr len prot flags) (Enomem (NoGap count))
  hinted_refused addr len prot flags hints w c none =
      let hint = page_of addr in
      inr (
        clear_if (has_bits (flag_bits flags) 4) (has_bits (flag_bits flags) 8) hint _ hints,
        (no_place_if (is_fixed flags) (window_of hint) (page_count len) hint hints (rw (w, c) at none), ap (λ n. Enomem (NoGap n)) c),
      )

  placed_if : (b : Bool) (window pages hint start : ℕ) → b ≡ false → ¬ FitsAt kinds window pages hint →
      IsHighestFit kinds window pages start →
      StartsAt kinds pages (if b then fixed hint ∷ [] else free_at window hint ∷ highest_in window ∷ []) start
  placed_if true window pages hint start e n fit = cc
  placed_if false window pages hint start e n fit = inr (n, inl fit)

  -- where the hint doesn't fit, its pages are put as high as they fit in the hint's window
  pub hinted_placed : (addr len : ℕ) (prot : Prot) (flags : MapFlags) {window count start : ℕ} {kind : Kind} {j : Judged} →
      IsFalse (is_fixed flags) → window ≡ window_of (page_of addr) → count ≡ page_count len → kind ≡ mapped_kind prot flags →
      ¬ FitsAt kinds window count (page_of addr) → IsHighestFit kinds window count start → window ≤ LIMIT →
      j ≡ Changes (placed start count kind) → IsJudged kinds (Map addr len prot flags) j
  hinted_placed addr len prot flags {start = start} hints w c k none fit low is =
      let hint = page_of addr in
      let place = placed_if (is_fixed flags) (window_of hint) (page_count len) hint start hints (rw (w, c) at none) (rw (w, c) at fit) in
      let limit : start + page_count len ≤ LIMIT = omega (arith, fit.fits.high, low, c) in
      rw (is, c, k) (
        (clear_if (has_bits (flag_bits flags) 4) (has_bits (flag_bits flags) 8) hint _ hints, (start, place, refl)),
        (omega arith, omega arith, limit),
      )

-- a change that was judged rightly, made as the row limit allows, is the call's answer
pub made_answers : (A : List Area) (c : Call) (change : Change) (r : Reply) (B : List Area) → plain_reply c ≡ None →
    IsJudged (kind_at A) c (Changes change) → Makes A change r B → Answers A c r B
made_answers A c change r B u j (within k n e) =
    subst (λ x. Answers A c x B) (sym e) (done (patches_of change) change.full u j.0 k n)
made_answers A c change r B u j (beyond C k n e b) = too_many_rows (patches_of change) change.reply change.full C u j.0 k n e b

-- the reply that the kind of its page gives is the answer to a fault, and the list stays
pub fault_answers : (A : List Area) (addr : ℕ) (access : Access) (r : Reply) → plain_reply (Fault addr access) ≡ None →
    AnswersFault (kind_at A (page_of addr)) (page_of addr) access r → Answers A (Fault addr access) r A
fault_answers A addr access r u h = kept u (tt, (r, h, refl)) refl
