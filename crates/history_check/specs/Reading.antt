-- Reading a log line from left to right: what the functions of src/ compute, as functions on lists. They are loose
-- where the printer is strict (leading zeros, upper digits, any letter for a dash), since the whole line is compared
-- with the printed one in the end. What is right is said in LogLines alone.
use Rattle.std.specs.Prelude.{ℕ, ◌+◌, ◌^◌, ◌==◌, nat_lt, List, [], ◌∷◌, codes, Bool, true, false, Option, Some, None, if◌then◌else◌}
use Rattle.line_parts.specs.Reading.{digits_of}
use Rattle.page_types.specs.declared.pages.Field.{Field}
use Rattle.page_types.specs.declared.pages.Field.TheVariants.{Addr, Len, Flags, End}
use Rattle.page_types.specs.declared.sets.Prot.{Prot}
use Rattle.page_types.specs.declared.calls.Kind.{Kind}
use Rattle.page_types.specs.declared.calls.Reply.{Reply}
use Rattle.page_types.specs.declared.calls.Reply.TheVariants.{At, Zero, Granted, Refused}
use Rattle.page_types.specs.declared.calls.Why.{Why}
use Rattle.page_types.specs.declared.calls.Why.TheVariants.{Einval, Enomem, Eexist, Eperm, Efault, MapErr, AccErr}
use Rattle.page_types.specs.declared.calls.Short.{Short}
use Rattle.page_types.specs.declared.calls.Short.TheVariants.{Missing, PastEnd, NoGap, Rows}
use Rattle.strace_reader.specs.Reading.{then_some}

-- what is made of a value, or another where there is none
abbrev pub given : {A B : Type 0} → Option A → (A → Option B) → Option B → Option B
given None f other = other
given (Some x) f other = f x

-- what is left behind a word that the text begins with
unfoldable pub strip_at : List ℕ → List ℕ → Option (List ℕ)
strip_at [] text = Some text
strip_at (b ∷ word) [] = None
strip_at (b ∷ word) (c ∷ text) = if c == b then strip_at word text else None

-- a number of 64 bits
unfoldable pub number_at : ℕ → List ℕ → Option (ℕ × List ℕ)
number_at base text = if nat_lt (digits_of base 0 text).0 (2 ^ 64) then Some (digits_of base 0 text) else None

-- a count of 32 bits
unfoldable pub small_at : List ℕ → Option (ℕ × List ℕ)
small_at text = then_some (number_at 10 text) (λ n. if nat_lt n.0 (2 ^ 32) then Some n else None)

-- a page or an address
unfoldable pub page_at : List ℕ → Option (ℕ × List ℕ)
page_at text = then_some (strip_at (codes "0x") text) (number_at 16)

-- whether the first byte is a letter
unfoldable pub marked_at : ℕ → List ℕ → Option (Bool × List ℕ)
marked_at letter [] = None
marked_at letter (c ∷ rest) = Some (c == letter, rest)

-- the bit, or none where it isn't set
abbrev pub bit_if : Bool → ℕ → ℕ
bit_if is_set bit = if is_set then bit else 0

-- a kind, sealed where ` sealed` is next
abbrev pub sealed_or : Prot → Bool → List ℕ → Option (Kind × List ℕ)
sealed_or prot shared text = given (strip_at (codes " sealed") text)
    (λ rest. Some (record { prot = prot; shared = shared; sealed = true }, rest))
    (Some (record { prot = prot; shared = shared; sealed = false }, text))

-- the four characters of a kind, and the word of a sealed one
unfoldable pub kind_at : List ℕ → Option (Kind × List ℕ)
kind_at text = then_some (marked_at 114 text)
    (λ r. then_some (marked_at 119 r.1)
    (λ w. then_some (marked_at 120 w.1)
    (λ x. then_some (marked_at 115 x.1)
    (λ s. sealed_or (record { 0 = bit_if r.0 1 + bit_if w.0 2 + bit_if x.0 4 }) s.0 s.1))))

-- the argument of an EINVAL
unfoldable pub field_at : List ℕ → Option (Field × List ℕ)
field_at text = given (strip_at (codes "addr") text) (λ rest. Some (Addr, rest))
    (given (strip_at (codes "len") text) (λ rest. Some (Len, rest))
    (given (strip_at (codes "flags") text) (λ rest. Some (Flags, rest))
    (then_some (strip_at (codes "end") text) (λ rest. Some (End, rest)))))

-- what an ENOMEM is short of
unfoldable pub short_at : List ℕ → Option (Short × List ℕ)
short_at text = given (strip_at (codes "missing page ") text) (λ rest. then_some (page_at rest) (λ n. Some (Missing n.0, n.1)))
    (given (strip_at (codes "end page ") text) (λ rest. then_some (page_at rest) (λ n. Some (PastEnd n.0, n.1)))
    (given (strip_at (codes "no gap of ") text)
    (λ rest. then_some (number_at 10 rest) (λ n. then_some (strip_at (codes " pages") n.1) (λ end. Some (NoGap n.0, end))))
    (then_some (strip_at (codes "rows ") text) (λ rest. then_some (small_at rest) (λ n. Some (Rows n.0, n.1))))))

-- why a fault was refused
unfoldable pub segv_at : List ℕ → Option (Why × List ℕ)
segv_at text = given (strip_at (codes "SEGV_MAPERR page ") text) (λ rest. then_some (page_at rest) (λ n. Some (MapErr n.0, n.1)))
    (then_some (strip_at (codes "SEGV_ACCERR page ") text)
    (λ rest. then_some (page_at rest)
    (λ n. then_some (strip_at (codes " ") n.1) (λ more. then_some (kind_at more) (λ k. Some (AccErr n.0 k.0, k.1))))))

-- a page that isn't mapped as the call needs it
unfoldable pub faulted_at : List ℕ → Option (Why × List ℕ)
faulted_at text = given (strip_at (codes "EFAULT page ") text) (λ rest. then_some (page_at rest) (λ n. Some (Efault n.0, n.1))) (segv_at text)

-- why a call was refused, where it names a page
unfoldable pub paged_at : List ℕ → Option (Why × List ℕ)
paged_at text = given (strip_at (codes "EEXIST page ") text) (λ rest. then_some (page_at rest) (λ n. Some (Eexist n.0, n.1)))
    (given (strip_at (codes "EPERM page ") text) (λ rest. then_some (page_at rest) (λ n. Some (Eperm n.0, n.1))) (faulted_at text))

-- why a call was refused
unfoldable pub why_at : List ℕ → Option (Why × List ℕ)
why_at text = given (strip_at (codes "EINVAL ") text) (λ rest. then_some (field_at rest) (λ f. Some (Einval f.0, f.1)))
    (given (strip_at (codes "ENOMEM ") text) (λ rest. then_some (short_at rest) (λ s. Some (Enomem s.0, s.1))) (paged_at text))

-- a reply
unfoldable pub reply_at : List ℕ → Option (Reply × List ℕ)
reply_at text = given (strip_at (codes "-1 ") text) (λ rest. then_some (why_at rest) (λ w. Some (Refused w.0, w.1)))
    (given (strip_at (codes "granted ") text) (λ rest. then_some (kind_at rest) (λ k. Some (Granted k.0, k.1)))
    (given (page_at text) (λ n. Some (At n.0, n.1))
    (then_some (strip_at (codes "0") text) (λ rest. Some (Zero, rest)))))

-- the two ends of a span, up to the end of the line
unfoldable pub ends_at : List ℕ → Option (ℕ × ℕ)
ends_at text = then_some (page_at text)
    (λ lo. then_some (strip_at (codes "-") lo.1) (λ rest. then_some (page_at rest) (λ hi. Some (lo.0, hi.0))))

-- the number, the worker and the input's line at the front, and what is left behind the space that follows them
unfoldable pub head_at : List ℕ → Option ((ℕ × ℕ × ℕ) × List ℕ)
head_at text = then_some (number_at 10 text)
    (λ n. then_some (strip_at (codes " ") n.1)
    (λ a. then_some (small_at a)
    (λ w. then_some (strip_at (codes " ") w.1)
    (λ b. then_some (small_at b)
    (λ l. then_some (strip_at (codes " ") l.1) (λ rest. Some ((n.0, w.0, l.0), rest)))))))

-- the reply, with what stands before and behind it
unfoldable pub outcome_at : List ℕ → Option (Reply × List ℕ)
outcome_at text = then_some (strip_at (codes " = ") text)
    (λ a. then_some (reply_at a) (λ r. then_some (strip_at (codes " under ") r.1) (λ rest. Some (r.0, rest))))
