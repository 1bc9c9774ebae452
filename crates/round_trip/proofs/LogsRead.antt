-- The text of a log tells its entries. Each part of a line ends at the first byte that it can't have itself: a space
-- behind a number, the closing parenthesis of a call, the `u` of `under` behind a reply, and the newline.
use Rattle.std.proofs.Common.{◌≡◌, ◌≢◌, ℕ, suc, ◌+◌, ◌^◌, ◌<◌, ◌≤◌, Bool, true, false, not, cond, ◌&&◌, List, [], ◌∷◌, ◌++◌, length, get_or, drop, codes}
use Rattle.std.proofs.Common.{decimal, if◌then◌else◌, All, None, refl, sym, ap, subst, ◌∙◌, inl, inr, arith, append_assoc}
use Rattle.std.specs.Prelude.{◌==◌}
use Rattle.std.proofs.Math.Bridge.{le_prop}
use Rattle.std.proofs.lemmas.Bool.{cases_lt}
use Rattle.std.proofs.lemmas.Bool.Decides.{eqb_tells}
use Rattle.std.proofs.lemmas.List.{append_cancel_right, get_or_default}
use Rattle.std.proofs.lemmas.List.Elements.{All-head, All-tail}
use Rattle.std.proofs.lemmas.Fmt.{decimal_injective}
use Rattle.line_parts.specs.Leaves.{worth, AllDigits, value}
use Rattle.line_parts.proofs.Leaves.{is_same}
use Rattle.page_types.specs.declared.TheConstants.{LIMIT}
use Rattle.page_types.specs.declared.calls.Call.{Call}
use Rattle.page_types.specs.declared.calls.Call.TheVariants.{Map, Unmap, Protect, Fault, Seal, Brk, Remap}
use Rattle.page_types.specs.declared.calls.Kind.{Kind}
use Rattle.page_types.specs.declared.calls.Reply.{Reply}
use Rattle.page_types.specs.declared.calls.Reply.TheVariants.{At, Zero, Granted, Refused}
use Rattle.page_types.specs.declared.calls.Why.{Why}
use Rattle.page_types.specs.declared.calls.Why.TheVariants.{Einval, Enomem, Eexist, Eperm, Efault, MapErr, AccErr}
use Rattle.page_types.specs.declared.calls.Short.{Short}
use Rattle.page_types.specs.declared.calls.Short.TheVariants.{Missing, PastEnd, NoGap, Rows}
use Rattle.page_types.specs.declared.pages.Field.{Field}
use Rattle.page_types.specs.declared.pages.Field.TheVariants.{Addr, Len, Flags, End}
use Rattle.page_types.specs.declared.pages.Span.{Span}
use Rattle.page_types.specs.declared.sets.Access.{Access}
use Rattle.page_types.specs.declared.sets.Access.TheVariants.{Read}
use Rattle.page_types.specs.declared.sets.Prot.{Prot}
use Rattle.page_types.specs.declared.sets.MapFlags.{MapFlags}
use Rattle.page_types.specs.Named.{IsNamedCall, IsNamedKind, IsNamedReply, IsNamedWhy}
use Rattle.page_types.specs.Sets.{prot_bits, flag_bits, has_bits}
use Rattle.space_model.specs.declared.entries.Entry.{Entry}
use Rattle.space_model.specs.declared.entries.Under.{Under}
use Rattle.space_model.specs.declared.entries.Under.TheVariants.{Nothing, Reader, Area, Whole}
use Rattle.strace_reader.specs.declared.item.Item.TheVariants.{Played}
use Rattle.strace_reader.specs.Grammar.{Spells}
use Rattle.strace_reader.proofs.OneOutcome.{one_outcome}
use Rattle.maps_printer.specs.Calls.{call_text, hint_text, reply_text, why_text, short_text, field_text}
use Rattle.maps_printer.specs.Lines.{entry_line, log_text, under_text, span_text}
use Rattle.maps_printer.specs.Numbers.{address_text, prefixed_hex, hex_digits}
use Rattle.maps_printer.specs.Words.{prot_text, flags_text, access_text, move_text, kind_text, log_kind, letter_if, words_or, word_if}
use Rattle.round_trip.specs.Logs.{FitsCall, FitsReply, FitsWhy, FitsShort, FitsHeld, HasWordNumbers, IsNamedEntry}
use Rattle.round_trip.proofs.CallsRead.{call_text_spells}
use Rattle.round_trip.proofs.NumbersRead.{decimal_digits, hex_are_digits}

-- ---- cutting a text

-- the text has no such byte
abbrev pub lacks : ℕ → List ℕ → Bool
lacks b [] = true
lacks b (x ∷ xs) = not (x == b) && lacks b xs

-- two tests both pass where each does
pub both : (p q : Bool) → p ≡ true → q ≡ true → p && q ≡ true
both true q a b = b
both false q a b = absurd cc

-- the first of two tests that both pass
pub first_of : (p q : Bool) → p && q ≡ true → p ≡ true
first_of true q a = refl
first_of false q a = absurd cc

-- the second of two tests that both pass
pub second_of : (p q : Bool) → p && q ≡ true → q ≡ true
second_of true q a = a
second_of false q a = absurd cc

-- a test fails where its negation passes
pub not_true : (t : Bool) → not t ≡ true → t ≡ false
not_true true h = absurd cc
not_true false h = refl

-- two texts lack the byte where each does
pub lacks_both : (b : ℕ) (xs ys : List ℕ) → lacks b xs ≡ true → lacks b ys ≡ true → lacks b (xs ++ ys) ≡ true
lacks_both b [] ys p q = q
lacks_both b (x ∷ xs) ys p q = both (not (x == b)) (lacks b (xs ++ ys)) (first_of (not (x == b)) (lacks b xs) p)
    (lacks_both b xs ys (second_of (not (x == b)) (lacks b xs) p) q)

-- each byte of the text is one of these
abbrev uses : List ℕ → List ℕ → Bool
uses bytes [] = true
uses bytes (x ∷ xs) = not (lacks x bytes) && uses bytes xs

-- a text of these bytes lacks what they lack
lacks_used : (b : ℕ) (bytes text : List ℕ) → lacks b bytes ≡ true → uses bytes text ≡ true → lacks b text ≡ true
lacks_used b bytes [] none all = refl
lacks_used b bytes (x ∷ xs) none all = elim (eqb_tells x b) [
  | inl same ↦
      let has : not (lacks x bytes) ≡ true = first_of (not (lacks x bytes)) (uses bytes xs) all in
      let hasnt : lacks x bytes ≡ true = subst (λ y. lacks y bytes ≡ true) (sym same.1) none in
      absurd (let no : not (lacks x bytes) ≡ false = ap not hasnt in cc)
  | inr other ↦ both (not (x == b)) (lacks b xs) (ap not other.0) (lacks_used b bytes xs none (second_of (not (lacks x bytes)) (uses bytes xs) all))
]

-- the bytes of the fixed words of a reply; there is no `u` among them
abbrev pub reply_bytes : List ℕ
reply_bytes = codes "-01 ACEFGILMNOPRSTUVX_adefgilmnoprstwx"

-- the bytes of those of a call, but for the closing parenthesis
abbrev pub call_bytes : List ℕ
call_bytes = codes "(,-0|1 ACDEFHILMNOPRSTUVWXY_abcefgklmnoprstux"

-- a text that lacks the byte
pub record Clean (b : ℕ) : Type 0 where
  -- the text
  pub text : List ℕ
  -- it has no such byte
  pub lacks_it : lacks b text ≡ true

-- it, from a text and what it lacks
abbrev pub clean : (b : ℕ) (text : List ℕ) → lacks b text ≡ true → Clean b
clean b text h = record { text = text; lacks_it = h }

-- one text behind another
abbrev pub onto : {b : ℕ} → Clean b → (text : List ℕ) → lacks b text ≡ true → Clean b
onto {b} first text h = record { text = first.text ++ text; lacks_it = lacks_both b first.text text first.lacks_it h }

-- what stands before the first such byte, and what stands behind it
abbrev split : ℕ → List ℕ → List ℕ × List ℕ
split b [] = ([], [])
split b (x ∷ xs) = if x == b then ([], xs) else (x ∷ (split b xs).0, (split b xs).1)

-- a text that lacks the byte is split from what stands behind the byte
split_is : (b : ℕ) (xs r : List ℕ) → lacks b xs ≡ true → split b (xs ++ b ∷ r) ≡ (xs, r)
split_is b [] r none = rw (is_same b) refl
split_is b (x ∷ xs) r none = rw (not_true (x == b) (first_of (not (x == b)) (lacks b xs) none))
    (ap (λ p. (x ∷ p.0, p.1)) (split_is b xs r (second_of (not (x == b)) (lacks b xs) none)))

-- two texts that lack a byte and have it behind them: where the wholes are equal the parts are
pub cut : (b : ℕ) (xs ys r s : List ℕ) → lacks b xs ≡ true → lacks b ys ≡ true → xs ++ b ∷ r ≡ ys ++ b ∷ s → (xs ≡ ys) × (r ≡ s)
cut b xs ys r s p q e = let both = sym (split_is b xs r p) ∙ ap (split b) e ∙ split_is b ys s q in (ap (λ t. t.0) both, ap (λ t. t.1) both)

-- ---- numbers

digits_lack : (base b : ℕ) (ds : List ℕ) → AllDigits base ds → base ≤ worth b → lacks b ds ≡ true
digits_lack base b [] all none = refl
digits_lack base b (c ∷ ds) all none = elim (eqb_tells c b) [
  | inl h ↦ absurd (omega (arith, all.0, none, ap worth h.1))
  | inr h ↦ both (not (c == b)) (lacks b ds) (ap not h.0) (digits_lack base b ds all.1 none)
]

-- a number in decimal lacks a byte that is no digit
pub decimal_lacks : (b n : ℕ) → n < 2 ^ 64 → 10 ≤ worth b → lacks b (decimal n) ≡ true
decimal_lacks b n small none = digits_lack 10 b (decimal n) (decimal_digits n small).1 none

-- so does one in hexadecimal
pub hex_lacks : (b n : ℕ) → n < 2 ^ 64 → 16 ≤ worth b → lacks b (hex_digits n) ≡ true
hex_lacks b n small none = digits_lack 16 b (hex_digits n) (hex_are_digits n small).1 none

-- the number that hexadecimal digits write
hex_back : (n : ℕ) → n < 2 ^ 64 → value 16 0 (hex_digits n) ≡ n
hex_back n small = sym (hex_are_digits n small).2

decimal_back : (n : ℕ) → n < 2 ^ 64 → value 10 0 (decimal n) ≡ n
decimal_back n small = sym (decimal_digits n small).2

-- a space is no digit
pub space_ends : 16 ≤ worth 32
unfolding worth
space_ends = omega arith

-- a dash is no digit
pub dash_ends : 16 ≤ worth 45
unfolding worth
dash_ends = omega arith

-- the newline is no digit
pub line_ends : 16 ≤ worth 10
unfolding worth
line_ends = omega arith

-- a number with a space behind it
cut_number : (n m : ℕ) (r s : List ℕ) → n < 2 ^ 64 → m < 2 ^ 64 → decimal n ++ 32 ∷ r ≡ decimal m ++ 32 ∷ s → (n ≡ m) × (r ≡ s)
cut_number n m r s low high e =
    let parts = cut 32 (decimal n) (decimal m) r s (decimal_lacks 32 n low (omega (arith, space_ends)))
    (decimal_lacks 32 m high (omega (arith, space_ends))) e in (decimal_injective n m low high parts.0, parts.1)

-- ---- calls

-- a test that passes for both truth values
abbrev both_ways : (Bool → Bool) → Bool
both_ways f = f true && f false

either_way : (f : Bool → Bool) → both_ways f ≡ true → (a : Bool) → f a ≡ true
either_way f h true = first_of (f true) (f false) h
either_way f h false = second_of (f true) (f false) h

-- a test of four truth values that passes for all sixteen passes for these
each_of_four : (f : Bool → Bool → Bool → Bool → Bool)
    → both_ways (λ a. both_ways (λ b. both_ways (λ c. both_ways (f a b c)))) ≡ true → (a b c d : Bool) → f a b c d ≡ true
each_of_four f h a b c d = let one = either_way (λ x. both_ways (λ y. both_ways (λ z. both_ways (f x y z)))) h a in
    let two = either_way (λ y. both_ways (λ z. both_ways (f a y z))) one b in either_way (f a b c) (either_way (λ z. both_ways (f a b z)) two c) d

prot_uses : (p : Prot) → uses call_bytes (prot_text p) ≡ true
prot_uses p = each_of_four (λ a b c d. uses call_bytes (words_or (codes "PROT_NONE")
    (word_if a (codes "PROT_READ") ++ word_if b (codes "PROT_WRITE") ++ word_if c (codes "PROT_EXEC")))) refl
    (has_bits (prot_bits p) 1) (has_bits (prot_bits p) 2) (has_bits (prot_bits p) 4) true

flags_use : (f : MapFlags) → uses call_bytes (flags_text f) ≡ true
flags_use f = each_of_four (λ a b c d. uses call_bytes (words_or (codes "0") (word_if a (codes "MAP_SHARED")
    ++ word_if b (codes "MAP_PRIVATE") ++ word_if c (codes "MAP_FIXED") ++ word_if d (codes "MAP_FIXED_NOREPLACE")))) refl
    (has_bits (flag_bits f) 1) (has_bits (flag_bits f) 2) (has_bits (flag_bits f) 4) (has_bits (flag_bits f) 8)

access_uses : (a : Access) → uses call_bytes (access_text a) ≡ true
access_uses Read = refl
access_uses a = refl

move_uses : (may : Bool) → uses call_bytes (move_text may) ≡ true
move_uses true = refl
move_uses false = refl

-- the text of a call up to its closing parenthesis
record Body (b : ℕ) (c : Call) : Type 0 where
  -- what stands before the parenthesis
  pub body : List ℕ
  -- the byte isn't in it
  pub lacks_it : lacks b body ≡ true
  -- the text of the call is this and the parenthesis
  pub whole : call_text c ≡ body ++ 41 ∷ []

of_clean : (b : ℕ) (c : Call) (text : Clean b) → call_text c ≡ text.text ++ 41 ∷ [] → Body b c
of_clean b c text whole = record { body = text.text; lacks_it = text.lacks_it; whole = whole }

-- a byte that is no digit and stands in no word of a call
pub record IsApart (b : ℕ) : Type 0 where
  pub no_digit : 16 ≤ worth b
  pub no_word : lacks b call_bytes ≡ true

-- each part of a call lacks such a byte, so what stands before the parenthesis does
module _ (b : ℕ) (apart : IsApart b) where
  -- words of calls lack it
  abbrev word : (text : List ℕ) → uses call_bytes text ≡ true → Clean b
  word text all = clean b text (lacks_used b call_bytes text apart.no_word all)

  abbrev more : Clean b → (text : List ℕ) → uses call_bytes text ≡ true → Clean b
  more first text all = onto first text (lacks_used b call_bytes text apart.no_word all)

  -- so do numbers
  number : (n : ℕ) → n < 2 ^ 64 → lacks b (decimal n) ≡ true
  number n small = decimal_lacks b n small (let none = apart.no_digit in omega arith)

  address : (n : ℕ) → n < 2 ^ 64 → lacks b (address_text n) ≡ true
  address n small = elim (n == 0) as (λ t. lacks b (cond t (codes "NULL") (prefixed_hex n)) ≡ true) [
    | true ↦ lacks_used b call_bytes (codes "NULL") apart.no_word refl
    | false ↦ lacks_both b (codes "0x") (hex_digits n) (lacks_used b call_bytes (codes "0x") apart.no_word refl) (hex_lacks b n small apart.no_digit)
  ]

  hint : (n : ℕ) → n < 2 ^ 64 → lacks b (hint_text n) ≡ true
  hint n small = elim (n == 0) as (λ t. lacks b (cond t [] (codes ", " ++ prefixed_hex n)) ≡ true) [
    | true ↦ refl
    | false ↦ lacks_both b (codes ", 0x") (hex_digits n) (lacks_used b call_bytes (codes ", 0x") apart.no_word refl) (hex_lacks b n small apart.no_digit)
  ]

  body_of : (c : Call) → FitsCall c → Body b c
  body_of (Map a n p f) fits =
      let first = onto (word (codes "mmap(") refl) (address_text a) (address a fits.0) in
      let len = onto (more first (codes ", ") refl) (decimal n) (number n fits.1) in
      let prot = more (more len (codes ", ") refl) (prot_text p) (prot_uses p) in
      let flags = more (more prot (codes ", ") refl) (flags_text f) (flags_use f) in
      of_clean b (Map a n p f) (more flags (codes ", -1, 0") refl) (sym (append_assoc flags.text (codes ", -1, 0") (41 ∷ [])))
  body_of (Unmap a n) fits = let first = onto (word (codes "munmap(") refl) (address_text a) (address a fits.0) in
      of_clean b (Unmap a n) (onto (more first (codes ", ") refl) (decimal n) (number n fits.1)) refl
  body_of (Protect a n p) fits =
      let first = onto (word (codes "mprotect(") refl) (address_text a) (address a fits.0) in
      let len = onto (more first (codes ", ") refl) (decimal n) (number n fits.1) in
      let prot = more (more len (codes ", ") refl) (prot_text p) (prot_uses p) in of_clean b (Protect a n p) prot refl
  body_of (Fault a which) fits = let first = onto (word (codes "fault(") refl) (address_text a) (address a fits) in
      of_clean b (Fault a which) (more (more first (codes ", ") refl) (access_text which) (access_uses which)) refl
  body_of (Seal a n f) fits =
      let first = onto (word (codes "mseal(") refl) (address_text a) (address a fits.0) in
      let len = onto (more first (codes ", ") refl) (decimal n) (number n fits.1) in
      of_clean b (Seal a n f) (onto (more len (codes ", ") refl) (decimal f) (number f fits.2)) refl
  body_of (Brk base a) fits = let first = onto (word (codes "brk(") refl) (address_text a) (address a fits.1) in
      of_clean b (Brk base a) (onto (more first (codes ", ") refl) (address_text base) (address base fits.0)) refl
  body_of (Remap a o n may h) fits =
      let first = onto (word (codes "mremap(") refl) (address_text a) (address a fits.0) in
      let old = onto (more first (codes ", ") refl) (decimal o) (number o fits.1) in
      let new = onto (more old (codes ", ") refl) (decimal n) (number n fits.2) in
      let moves = more (more new (codes ", ") refl) (move_text may) (move_uses may) in
      of_clean b (Remap a o n may h) (onto moves (hint_text h) (hint h fits.3)) refl

-- the text of a call lacks such a byte, where that isn't the parenthesis
pub call_lacks : (b : ℕ) → IsApart b → lacks b (41 ∷ []) ≡ true → (c : Call) → FitsCall c → lacks b (call_text c) ≡ true
call_lacks b apart no_close c fits =
    let p = body_of b apart c fits in subst (λ t. lacks b t ≡ true) (sym p.whole) (lacks_both b p.body (41 ∷ []) p.lacks_it no_close)

close_apart : IsApart 41
unfolding worth
close_apart = record { no_digit = omega arith; no_word = refl }

-- the newline is such a byte
pub line_apart : IsApart 10
line_apart = record { no_digit = line_ends; no_word = refl }

-- the text of a call is one without a closing parenthesis, and then the parenthesis
pub close_cut : (c : Call) → FitsCall c → (body : List ℕ) × (lacks 41 body ≡ true) × (call_text c ≡ body ++ 41 ∷ [])
close_cut c fits = let b = body_of 41 close_apart c fits in (b.body, b.lacks_it, b.whole)

-- a text has one call
call_tells : (c d : Call) → IsNamedCall c → IsNamedCall d → FitsCall c → FitsCall d → call_text c ≡ call_text d → c ≡ d
call_tells c d named_c named_d fits_c fits_d e = let other = subst (λ t. Spells t (Played 0 d None)) (sym e) (call_text_spells d named_d fits_d) in
    let same : Played 0 c None ≡ Played 0 d None = (one_outcome (call_text c)).item _ _ (call_text_spells c named_c fits_c) other in cc

cut_call : (c d : Call) (r s : List ℕ) → IsNamedCall c → IsNamedCall d → FitsCall c → FitsCall d → call_text c ++ r ≡ call_text d ++ s → (c ≡ d) × (r ≡ s)
cut_call c d r s named_c named_d fits_c fits_d e =
    let b = body_of 41 close_apart c fits_c in let a = body_of 41 close_apart d fits_d in
    let left : call_text c ++ r ≡ b.body ++ 41 ∷ r = ap (λ l. l ++ r) b.whole ∙ append_assoc b.body (41 ∷ []) r in
    let right : call_text d ++ s ≡ a.body ++ 41 ∷ s = ap (λ l. l ++ s) a.whole ∙ append_assoc a.body (41 ∷ []) s in
    let parts = cut 41 b.body a.body r s b.lacks_it a.lacks_it (sym left ∙ e ∙ right) in
    (call_tells c d named_c named_d fits_c fits_d (b.whole ∙ ap (λ l. l ++ 41 ∷ []) parts.0 ∙ sym a.whole), parts.1)

-- ---- replies: each is told back from its text

-- the kind that four characters show, sealed where a space stands behind them
unfoldable pub kind_back : List ℕ → Kind
kind_back text = record {
  prot = record { 0 = cond (get_or text 0 0 == 114) 1 0 + cond (get_or text 1 0 == 119) 2 0 + cond (get_or text 2 0 == 120) 4 0 };
  shared = get_or text 3 0 == 115;
  sealed = get_or text 4 0 == 32;
}

-- the letters of a protection with these bits, before others
abbrev letters : ℕ → List ℕ → List ℕ
letters bits more = letter_if (has_bits bits 1) 114 ∷ letter_if (has_bits bits 2) 119 ∷ letter_if (has_bits bits 4) 120 ∷ more

-- the bits are told back from the first three characters
bits_told : (bits : ℕ) (more : List ℕ) → bits < 8 → cond (get_or (letters bits more) 0 0 == 114) 1 0 + cond (get_or (letters bits more) 1 0 == 119) 2 0
    + cond (get_or (letters bits more) 2 0 == 120) 4 0 ≡ bits
bits_told (suc (suc (suc (suc (suc (suc (suc (suc n)))))))) more low = absurd (omega arith)
bits_told bits more low = refl

-- the sharing from the fourth
sharing_told : (r w x : ℕ) (shared : Bool) (more : List ℕ) → (get_or (r ∷ w ∷ x ∷ (if shared then 115 else 112) ∷ more) 3 0 == 115) ≡ shared
sharing_told r w x true more = refl
sharing_told r w x false more = refl

-- and the seal from what stands behind it
seal_told : (r w x s : ℕ) (sealed : Bool) → (get_or (r ∷ w ∷ x ∷ s ∷ (if sealed then codes " sealed" else [])) 4 0 == 32) ≡ sealed
seal_told r w x s true = refl
seal_told r w x s false = refl

-- a kind is told back from its text in a log
pub kind_told : (k : Kind) → IsNamedKind k → kind_back (log_kind k) ≡ k
unfolding kind_back
kind_told k named =
    let r = letter_if (has_bits (prot_bits k.prot) 1) 114 in let w = letter_if (has_bits (prot_bits k.prot) 2) 119 in
    let x = letter_if (has_bits (prot_bits k.prot) 4) 120 in let s : ℕ = if k.shared then 115 else 112 in
    let seal : List ℕ = if k.sealed then codes " sealed" else [] in
    λ i. record {
      prot = record { 0 = bits_told (prot_bits k.prot) (s ∷ seal) named i };
      shared = sharing_told r w x k.shared seal i;
      sealed = seal_told r w x s k.sealed i;
    }

-- what a text says of a refused argument, a want, a refusal and a reply, by the bytes that tell them apart
field_back : List ℕ → Field
field_back text = if get_or text 0 0 == 97 then Addr else if get_or text 0 0 == 108 then Len else if get_or text 0 0 == 102 then Flags else End

field_told : (f : Field) → field_back (field_text f) ≡ f
unfolding field_back
field_told Addr = refl
field_told f = refl

hex_tells : (n m : ℕ) → n < 2 ^ 64 → m < 2 ^ 64 → hex_digits n ≡ hex_digits m → n ≡ m
hex_tells n m low high e = sym (hex_back n low) ∙ ap (value 16 0) e ∙ hex_back m high

-- two texts that differ at a place differ
apart : (place : ℕ) (xs ys : List ℕ) → get_or xs place 0 ≢ get_or ys place 0 → xs ≡ ys → ⊥
apart place xs ys differ e = differ (ap (λ l. get_or l place 0) e)

short_back : List ℕ → Short
short_back text = if get_or text 0 0 == 109 then Missing (value 16 0 (drop 15 text)) else if get_or text 0 0 == 101 then PastEnd (value 16 0 (drop 11 text))
    else if get_or text 0 0 == 110 then NoGap (value 10 0 (split 32 (drop 10 text)).0) else Rows (value 10 0 (drop 5 text))

short_told : (s : Short) → FitsShort s → short_back (short_text s) ≡ s
unfolding short_back
short_told (Missing p) a = ap Missing (hex_back p a)
short_told (PastEnd p) a = ap PastEnd (hex_back p a)
short_told (NoGap n) a = let parts = split_is 32 (decimal n) (codes "pages") (decimal_lacks 32 n a (omega (arith, space_ends))) in
    ap (λ t. NoGap (value 10 0 t.0)) parts ∙ ap NoGap (decimal_back n a)
short_told (Rows n) a = ap Rows (decimal_back n a)

why_back : List ℕ → Why
why_back text = if get_or text 5 0 == 78 then Einval (field_back (drop 10 text)) else if get_or text 5 0 == 79 then Enomem (short_back (drop 10 text))
    else if get_or text 5 0 == 88 then Eexist (value 16 0 (drop 17 text)) else if get_or text 5 0 == 69 then Eperm (value 16 0 (drop 16 text))
    else if get_or text 5 0 == 65 then Efault (value 16 0 (drop 17 text)) else if get_or text 8 0 == 77 then MapErr (value 16 0 (drop 22 text))
    else AccErr (value 16 0 (split 32 (drop 22 text)).0) (kind_back (split 32 (drop 22 text)).1)

why_told : (w : Why) → FitsWhy w → IsNamedWhy w → why_back (why_text w) ≡ w
unfolding why_back
why_told (Einval f) a b = ap Einval (field_told f)
why_told (Enomem s) a b = ap Enomem (short_told s a)
why_told (Eexist p) a b = ap Eexist (hex_back p a)
why_told (Eperm p) a b = ap Eperm (hex_back p a)
why_told (Efault p) a b = ap Efault (hex_back p a)
why_told (MapErr p) a b = ap MapErr (hex_back p a)
why_told (AccErr p k) a b =
    let parts = ap (split 32) (append_assoc (hex_digits p) (codes " ") (log_kind k)) ∙ split_is 32 (hex_digits p) (log_kind k) (hex_lacks 32 p a space_ends) in
    ap (λ t. AccErr (value 16 0 t.0) (kind_back t.1)) parts ∙ (λ i. AccErr (hex_back p a i) (kind_told k b i))

minus : (w : Why) → get_or (why_text w) 0 0 ≡ 45
minus (Einval f) = refl
minus w = refl

reply_back : List ℕ → Reply
reply_back text = if get_or text 0 0 == 45 then Refused (why_back text) else if get_or text 0 0 == 103 then Granted (kind_back (drop 8 text))
    else if get_or text 1 0 == 120 then At (value 16 0 (drop 2 text)) else Zero

reply_told : (r : Reply) → FitsReply r → IsNamedReply r → reply_back (reply_text r) ≡ r
unfolding reply_back
reply_told (At n) a b = ap At (hex_back n a)
reply_told Zero a b = refl
reply_told (Granted k) a b = ap Granted (kind_told k b)
reply_told (Refused w) a b = rw (minus w) (ap Refused (why_told w a b))

-- ---- what was held

-- a span by its ends
abbrev pub span_of : (lo hi : ℕ) → lo < hi → hi ≤ LIMIT → Span
span_of lo hi a b = record { lo = lo; hi = hi; ordered = a; in_range = b }

-- two spans with the same ends are one
pub same_ends : (lo hi : ℕ) (a : lo < hi) (b : hi ≤ LIMIT) (x : ℕ) → lo ≡ x → (y : ℕ) → hi ≡ y → (c : x < y) (d : y ≤ LIMIT)
    → span_of lo hi a b ≡ span_of x y c d
same_ends lo hi a b x p y q = subst (λ v. (c : v < y) (d : y ≤ LIMIT) → span_of lo hi a b ≡ span_of v y c d) p
    (subst (λ v. (c : lo < v) (d : v ≤ LIMIT) → span_of lo hi a b ≡ span_of lo v c d) q (λ c d. λ i. span_of lo hi (le_prop a c i) (le_prop b d i)))

span_tells : (s t : Span) → s.lo < 2 ^ 64 → s.hi < 2 ^ 64 → t.lo < 2 ^ 64 → t.hi < 2 ^ 64 → span_text s ≡ span_text t → s ≡ t
span_tells s t a b c d e =
    let parts = cut 45 (hex_digits s.lo) (hex_digits t.lo) (prefixed_hex s.hi) (prefixed_hex t.hi) (hex_lacks 45 s.lo a dash_ends)
    (hex_lacks 45 t.lo c dash_ends) (dashes s t e) in let lo = hex_tells s.lo t.lo a c parts.0 in
    let hi = hex_tells s.hi t.hi b d (ap (drop 2) parts.1) in whole s t lo hi
  where
    whole : (s t : Span) → s.lo ≡ t.lo → s.hi ≡ t.hi → s ≡ t
    whole s t lo hi = same_ends s.lo s.hi s.ordered s.in_range t.lo lo t.hi hi t.ordered t.in_range

    dashes : (s t : Span) → span_text s ≡ span_text t → hex_digits s.lo ++ 45 ∷ prefixed_hex s.hi ≡ hex_digits t.lo ++ 45 ∷ prefixed_hex t.hi
    dashes s t e = sym (append_assoc (hex_digits s.lo) (codes "-") (prefixed_hex s.hi)) ∙ ap (drop 2) e
        ∙ append_assoc (hex_digits t.lo) (codes "-") (prefixed_hex t.hi)

under_tells : (u v : Under) → FitsHeld u → FitsHeld v → under_text u ≡ under_text v → u ≡ v
under_tells Nothing Nothing a b e = refl
under_tells (Reader s) (Reader t) a b e = ap Reader (span_tells s t a.0 a.1 b.0 b.1 (ap (drop 7) e))
under_tells (Area s) (Area t) a b e = ap Area (span_tells s t a.0 a.1 b.0 b.1 (ap (drop 5) e))
under_tells Whole Whole a b e = refl
under_tells u v a b e = absurd (apart 0 _ _ (λ x. omega (arith, x)) e)

span_lacks : (s : Span) → s.lo < 2 ^ 64 → s.hi < 2 ^ 64 → lacks 10 (span_text s) ≡ true
span_lacks s a b = let lo = onto (clean 10 (codes "0x") refl) (hex_digits s.lo) (hex_lacks 10 s.lo a line_ends) in
    (onto (onto lo (codes "-") refl) (prefixed_hex s.hi) (lacks_both 10 (codes "0x") (hex_digits s.hi) refl (hex_lacks 10 s.hi b line_ends))).lacks_it

-- what was held lacks the newline
pub under_lacks : (u : Under) → FitsHeld u → lacks 10 (under_text u) ≡ true
under_lacks Nothing a = refl
under_lacks (Reader s) a = lacks_both 10 (codes "reader ") (span_text s) refl (span_lacks s a.0 a.1)
under_lacks (Area s) a = lacks_both 10 (codes "area ") (span_text s) refl (span_lacks s a.0 a.1)
under_lacks Whole a = refl

-- ---- the bytes of a reply

-- a reply lacks a byte that is no digit and stands in none of its words
module _ (b : ℕ) (no_digit : 16 ≤ worth b) (no_word : lacks b reply_bytes ≡ true) where
  abbrev said : (text : List ℕ) → uses reply_bytes text ≡ true → Clean b
  said text all = clean b text (lacks_used b reply_bytes text no_word all)

  -- a kind lacks it
  pub kind_lacks : (k : Kind) → lacks b (kind_text k) ≡ true
  kind_lacks k = lacks_used b reply_bytes (kind_text k) no_word (each_of_four
      (λ x y z t. uses reply_bytes (letter_if x 114 ∷ letter_if y 119 ∷ letter_if z 120 ∷ (if t then 115 else 112) ∷ [])) refl
      (has_bits (prot_bits k.prot) 1) (has_bits (prot_bits k.prot) 2) (has_bits (prot_bits k.prot) 4) k.shared)

  seal_lacks : (sealed : Bool) → lacks b (if sealed then codes " sealed" else []) ≡ true
  seal_lacks true = lacks_used b reply_bytes (codes " sealed") no_word refl
  seal_lacks false = refl

  abbrev with_kind : Clean b → (k : Kind) → Clean b
  with_kind first k = onto first (log_kind k) (lacks_both b (kind_text k) (if k.sealed then codes " sealed" else []) (kind_lacks k) (seal_lacks k.sealed))

  abbrev with_page : Clean b → (n : ℕ) → n < 2 ^ 64 → Clean b
  with_page first n small = onto first (prefixed_hex n) (lacks_both b (codes "0x") (hex_digits n)
      (lacks_used b reply_bytes (codes "0x") no_word refl) (hex_lacks b n small no_digit))

  abbrev with_number : Clean b → (n : ℕ) → n < 2 ^ 64 → Clean b
  with_number first n small = onto first (decimal n) (decimal_lacks b n small (omega (arith, no_digit)))

  short_lacks : (s : Short) → FitsShort s → lacks b (short_text s) ≡ true
  short_lacks (Missing p) a = (with_page (said (codes "missing page ") refl) p a).lacks_it
  short_lacks (PastEnd p) a = (with_page (said (codes "end page ") refl) p a).lacks_it
  short_lacks (NoGap n) a = (onto (with_number (said (codes "no gap of ") refl) n a) (codes " pages") (said (codes " pages") refl).lacks_it).lacks_it
  short_lacks (Rows n) a = (with_number (said (codes "rows ") refl) n a).lacks_it

  why_lacks : (w : Why) → FitsWhy w → lacks b (why_text w) ≡ true
  why_lacks (Einval Addr) a = (said (why_text (Einval Addr)) refl).lacks_it
  why_lacks (Einval f) a = (said (why_text (Einval f)) refl).lacks_it
  why_lacks (Enomem s) a = (onto (said (codes "-1 ENOMEM ") refl) (short_text s) (short_lacks s a)).lacks_it
  why_lacks (Eexist p) a = (with_page (said (codes "-1 EEXIST page ") refl) p a).lacks_it
  why_lacks (Eperm p) a = (with_page (said (codes "-1 EPERM page ") refl) p a).lacks_it
  why_lacks (Efault p) a = (with_page (said (codes "-1 EFAULT page ") refl) p a).lacks_it
  why_lacks (MapErr p) a = (with_page (said (codes "-1 SEGV_MAPERR page ") refl) p a).lacks_it
  why_lacks (AccErr p k) a =
      let page = with_page (said (codes "-1 SEGV_ACCERR page ") refl) p a in (with_kind (onto page (codes " ") (said (codes " ") refl).lacks_it) k).lacks_it

  -- so does a reply
  pub reply_lacks : (r : Reply) → FitsReply r → lacks b (reply_text r) ≡ true
  reply_lacks (At n) a = (with_page (said [] refl) n a).lacks_it
  reply_lacks Zero a = (said (codes "0") refl).lacks_it
  reply_lacks (Granted k) a = (with_kind (said (codes "granted ") refl) k).lacks_it
  reply_lacks (Refused w) a = why_lacks w a

-- ---- a line

-- what stands behind the call of a line
behind_call : Entry → List ℕ → List ℕ
behind_call e rest = codes " = " ++ (reply_text e.reply ++ (codes " under " ++ (under_text e.under ++ 10 ∷ rest)))

line_parts : (e : Entry) (rest : List ℕ) → entry_line e ++ rest ≡ decimal e.number ++ 32
    ∷ (decimal e.worker ++ 32 ∷ (decimal e.line ++ 32 ∷ (call_text e.call ++ behind_call e rest)))
unfolding behind_call
line_parts e rest = simp append_assoc

reply_parts : (r rest : List ℕ) → r ++ (codes " under " ++ rest) ≡ (r ++ 32 ∷ []) ++ 117 ∷ (codes "nder " ++ rest)
reply_parts r rest = sym (append_assoc r (32 ∷ []) (117 ∷ (codes "nder " ++ rest)))

-- what is behind the call tells the reply and what was held
cut_behind : (e f : Entry) (r s : List ℕ) → FitsReply e.reply → FitsReply f.reply → FitsHeld e.under → FitsHeld f.under
    → IsNamedReply e.reply → IsNamedReply f.reply → behind_call e r ≡ behind_call f s → (e.reply ≡ f.reply) × (e.under ≡ f.under) × (r ≡ s)
unfolding behind_call worth
cut_behind e f r s a b c d named_e named_f is =
    let reply = ap (drop 3) is in
    let parts = cut 117 (reply_text e.reply ++ 32 ∷ []) (reply_text f.reply ++ 32 ∷ []) _ _
    (lacks_both 117 (reply_text e.reply) (32 ∷ []) (reply_lacks 117 (omega arith) refl e.reply a) refl)
    (lacks_both 117 (reply_text f.reply) (32 ∷ []) (reply_lacks 117 (omega arith) refl f.reply b) refl)
    (sym (reply_parts (reply_text e.reply) (under_text e.under ++ 10 ∷ r)) ∙ reply ∙ reply_parts (reply_text f.reply) (under_text f.under ++ 10 ∷ s)) in
    let held = cut 10 (under_text e.under) (under_text f.under) r s (under_lacks e.under c) (under_lacks f.under d) (ap (drop 5) parts.1) in (
      sym (reply_told e.reply a named_e) ∙ ap reply_back (append_cancel_right (reply_text e.reply) (reply_text f.reply) (32 ∷ []) parts.0)
          ∙ reply_told f.reply b named_f,
      under_tells e.under f.under c d held.0,
      held.1,
    )

-- a line tells its entry
pub cut_line : (e f : Entry) (r s : List ℕ) → HasWordNumbers e → HasWordNumbers f → IsNamedEntry e → IsNamedEntry f
    → entry_line e ++ r ≡ entry_line f ++ s → (e ≡ f) × (r ≡ s)
cut_line e f r s a b c d is =
    let number = cut_number e.number f.number _ _ a.number b.number (sym (line_parts e r) ∙ is ∙ line_parts f s) in
    let worker = cut_number e.worker f.worker _ _ a.worker b.worker number.1 in
    let line = cut_number e.line f.line _ _ a.line b.line worker.1 in
    let call = cut_call e.call f.call _ _ c.0 d.0 a.call b.call line.1 in
    let behind = cut_behind e f r s a.reply b.reply a.under b.under c.1 d.1 call.1 in (
      (λ i. record { number = number.0 i; worker = worker.0 i; line = line.0 i; call = call.0 i; reply = behind.0 i; under = behind.1 i }),
      behind.2,
    )

-- no line is empty
no_empty_line : (e : Entry) (rest : List ℕ) → entry_line e ++ rest ≡ [] → ⊥
no_empty_line e rest is = none_then 32 (decimal e.number) _ (sym (line_parts e rest) ∙ is)
  where
    none_then : (b : ℕ) (l more : List ℕ) → l ++ b ∷ more ≡ [] → ⊥
    none_then b [] more e = cc
    none_then b (x ∷ l) more e = cc

-- a log tells its entries
pub log_tells : (entries others : List Entry) → All HasWordNumbers entries → All HasWordNumbers others → All IsNamedEntry entries
    → All IsNamedEntry others → log_text entries ≡ log_text others → entries ≡ others
log_tells [] [] a b c d is = refl
log_tells [] (f ∷ fs) a b c d is = absurd (no_empty_line f (log_text fs) (sym is))
log_tells (e ∷ es) [] a b c d is = absurd (no_empty_line e (log_text es) is)
log_tells (e ∷ es) (f ∷ fs) a b c d is =
    let first = cut_line e f (log_text es) (log_text fs) (All-head HasWordNumbers e es a) (All-head HasWordNumbers f fs b)
    (All-head IsNamedEntry e es c) (All-head IsNamedEntry f fs d) is in
    let rest = log_tells es fs (All-tail HasWordNumbers e es a) (All-tail HasWordNumbers f fs b) (All-tail IsNamedEntry e es c)
    (All-tail IsNamedEntry f fs d) first.1 in λ i. first.0 i ∷ rest i

-- ---- one entry more

-- where something holds of the entries before this one, and of itself, it holds of one entry more
pub each_next : (P : Entry → Type 0) (entries : List Entry) (i : ℕ) (e : Entry) → i < length entries
    → ((k : ℕ) (d : Entry) → k < i → P (get_or entries k d)) → e ≡ get_or entries i e → P e → (k : ℕ) (d : Entry) → k < i + 1 → P (get_or entries k d)
each_next P entries i e low so_far is holds k d below = elim (cases_lt k i) [
  | inl before ↦ so_far k d before
  | inr behind ↦ let same : i ≡ k = omega arith in subst P (is ∙ get_or_default entries i e d low ∙ ap (λ j. get_or entries j d) same) holds
]
