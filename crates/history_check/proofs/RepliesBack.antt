-- A reply that was written is read as this reply, where a space follows it.
use Rattle.std.proofs.Common.{◌≡◌, ℕ, Bool, true, false, if◌then◌else◌, List, [], ◌∷◌, ◌++◌, Some, None, codes, decimal, refl, ap, ◌∙◌, arith, append_assoc}
use Rattle.page_types.specs.declared.pages.Field.{Field}
use Rattle.page_types.specs.declared.pages.Field.TheVariants.{Addr}
use Rattle.page_types.specs.declared.sets.Prot.{Prot}
use Rattle.page_types.specs.declared.calls.Kind.{Kind}
use Rattle.page_types.specs.declared.calls.Reply.{Reply}
use Rattle.page_types.specs.declared.calls.Reply.TheVariants.{At, Zero, Granted, Refused}
use Rattle.page_types.specs.declared.calls.Why.{Why}
use Rattle.page_types.specs.declared.calls.Why.TheVariants.{Einval, Enomem, Eexist, Eperm, Efault, MapErr, AccErr}
use Rattle.page_types.specs.declared.calls.Short.{Short}
use Rattle.page_types.specs.declared.calls.Short.TheVariants.{Missing, PastEnd, NoGap, Rows}
use Rattle.page_types.specs.Named.{IsNamedKind, IsNamedReply, IsNamedWhy}
use Rattle.line_parts.specs.Leaves.{NoDigit}
use Rattle.maps_printer.specs.Calls.{field_text, short_text, why_text, reply_text}
use Rattle.maps_printer.specs.Numbers.{hex_digits}
use Rattle.maps_printer.specs.Words.{log_kind}
use Rattle.round_trip.specs.Logs.{FitsReply, FitsShort, FitsWhy}
use Rattle.round_trip.proofs.LogsRead.{space_ends, kind_back, kind_told}
use Rattle.history_check.specs.LogLines.{HasNarrowRows}
use Rattle.history_check.specs.Reading.{given, strip_at, marked_at, sealed_or, kind_at, field_at}
use Rattle.history_check.specs.Reading.{short_at, segv_at, faulted_at, paged_at, why_at, reply_at, page_at}
use Rattle.history_check.proofs.NumbersBack.{decimal_back, small_back, page_back}

-- a space is no digit of a count
pub no_decimal : (rest : List ℕ) → NoDigit 10 (32 ∷ rest)
no_decimal rest = let ends = space_ends in omega arith

-- the word of a sealed kind
word_reads : (prot : Prot) (shared : Bool) (rest : List ℕ)
    → sealed_or prot shared (codes " sealed" ++ rest) ≡ Some (record { prot = prot; shared = shared; sealed = true }, rest)
unfolding strip_at
word_reads prot shared rest = refl

-- a seal, where no such word is behind the kind
seal_reads : (prot : Prot) (shared sealed : Bool) (rest : List ℕ) → strip_at (codes " sealed") rest ≡ None
    → sealed_or prot shared ((if sealed then codes " sealed" else []) ++ rest) ≡ Some (record { prot = prot; shared = shared; sealed = sealed }, rest)
seal_reads prot shared true rest none = word_reads prot shared rest
seal_reads prot shared false rest none = ap (λ found. given found (λ (left : List ℕ). Some (record { prot = prot; shared = shared; sealed = true }, left))
    (Some (record { prot = prot; shared = shared; sealed = false }, rest))) none

-- a kind
pub kind_reads : (k : Kind) (rest : List ℕ) → IsNamedKind k → strip_at (codes " sealed") rest ≡ None → kind_at (log_kind k ++ rest) ≡ Some (k, rest)
unfolding kind_at marked_at kind_back
kind_reads k rest named none =
    let back = kind_back (log_kind k) in
    seal_reads back.prot back.shared k.sealed rest none
    ∙ ap (λ j. Some (record { prot = j.prot; shared = j.shared; sealed = k.sealed }, rest)) (kind_told k named)

field_reads : (f : Field) (rest : List ℕ) → field_at (field_text f ++ rest) ≡ Some (f, rest)
unfolding field_at strip_at
field_reads Addr rest = refl
field_reads f rest = refl

short_reads : (s : Short) (more : List ℕ) → FitsShort s → HasNarrowRows (Refused (Enomem s)) → short_at (short_text s ++ 32 ∷ more) ≡ Some (s, 32 ∷ more)
unfolding short_at strip_at
short_reads (Missing p) more fits narrow = rw (page_back p (32 ∷ more) fits space_ends) refl
short_reads (PastEnd p) more fits narrow = rw (page_back p (32 ∷ more) fits space_ends) refl
short_reads (NoGap n) more fits narrow =
    rw (append_assoc (decimal n) (codes " pages") (32 ∷ more), decimal_back n (codes " pages" ++ 32 ∷ more) fits (no_decimal (codes "pages" ++ 32 ∷ more))) refl
short_reads (Rows n) more fits narrow = rw (small_back n (32 ∷ more) narrow (no_decimal more)) refl

acc_parts : (hex kind rest : List ℕ) → hex ++ 32 ∷ [] ++ kind ++ rest ≡ hex ++ 32 ∷ (kind ++ rest)
acc_parts hex kind rest = simp append_assoc

why_reads : (w : Why) (more : List ℕ) → FitsWhy w → HasNarrowRows (Refused w) → IsNamedWhy w
    → strip_at (codes " sealed") (32 ∷ more) ≡ None → reply_at (why_text w ++ 32 ∷ more) ≡ Some (Refused w, 32 ∷ more)
unfolding reply_at why_at paged_at faulted_at segv_at strip_at
why_reads (Einval f) more fits narrow named none = rw (field_reads f (32 ∷ more)) refl
why_reads (Enomem s) more fits narrow named none = rw (short_reads s more fits narrow) refl
why_reads (Eexist p) more fits narrow named none = rw (page_back p (32 ∷ more) fits space_ends) refl
why_reads (Eperm p) more fits narrow named none = rw (page_back p (32 ∷ more) fits space_ends) refl
why_reads (Efault p) more fits narrow named none = rw (page_back p (32 ∷ more) fits space_ends) refl
why_reads (MapErr p) more fits narrow named none = rw (page_back p (32 ∷ more) fits space_ends) refl
why_reads (AccErr p k) more fits narrow named none = rw (
  acc_parts (hex_digits p) (log_kind k) (32 ∷ more),
  page_back p (32 ∷ (log_kind k ++ 32 ∷ more)) fits space_ends,
  kind_reads k (32 ∷ more) named none,
) refl

-- the digit 0 alone is no page
zero_alone : (more : List ℕ) → page_at (48 ∷ 32 ∷ more) ≡ None
unfolding page_at strip_at
zero_alone more = refl

-- a reply, where ` sealed` isn't behind it
pub reply_reads : (r : Reply) (more : List ℕ) → FitsReply r → HasNarrowRows r → IsNamedReply r
    → strip_at (codes " sealed") (32 ∷ more) ≡ None → reply_at (reply_text r ++ 32 ∷ more) ≡ Some (r, 32 ∷ more)
unfolding reply_at strip_at
reply_reads (At n) more fits narrow named none = rw (page_back n (32 ∷ more) fits space_ends) refl
reply_reads Zero more fits narrow named none = rw (zero_alone more) refl
reply_reads (Granted k) more fits narrow named none = rw (kind_reads k (32 ∷ more) named none) refl
reply_reads (Refused w) more fits narrow named none = why_reads w more fits narrow named none
