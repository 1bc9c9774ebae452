-- The parts of a line that are taken away, each found where it stands: the number, the time, and what stays as it is.
use Rattle.std.proofs.Common.{◌≡◌, ◌≢◌, ℕ, ◌+◌, ◌-◌, ◌<◌, ◌≤◌, List, ◌∷◌, ◌++◌, length, take, drop, codes, true, false, refl, sym, ap, subst, ◌∙◌, append_assoc}
use Rattle.std.proofs.Common.{inl, inr, arith, get_or, is_some, Option, Some, None}
use Rattle.std.specs.Prelude.{MatchOption}
use Rattle.std.proofs.lemmas.List.{append_cancel_left, length-append}
use Rattle.std.proofs.Math.Seq.{take-append_seam}
use Rattle.line_parts.proofs.LineLemmas.{all_behind}
use Rattle.line_parts.specs.Parts.{starts}
use Rattle.line_parts.specs.Leaves.{is, EachIs}
use Rattle.strace_reader.specs.Grammar.{IsCut}
use Rattle.strace_reader.proofs.FormFacts.{cut_front}
use Rattle.memchr.specs.Find.{is_byte}
use Rattle.raw_lines.specs.Marks.{IsUnread, IsMessage, IsStackLine, IsBroken}
use Rattle.raw_lines.specs.Fields.{is_clock_byte, IsClock}
use Rattle.raw_lines.specs.Plain.{IsBeforeTime, IsTaken, IsStill}
use Rattle.raw_lines.proofs.Searches.{first_byte, isnt, isnt_of, each_whole, each_weaker, at_byte, each_at, last_place_same, first_same}
use Rattle.raw_lines.proofs.MarkFacts.{each_by}
use Rattle.raw_lines.proofs.FieldFacts.{clock_each, clock_same}
use Rattle.raw_lines.proofs.PlainFacts.{plain_same, taken_long, taken_parts}

-- ---- the number of a line

-- a line is what stands before its body, and its body
pub cut_parts : (text : List ℕ) (pid : ℕ) (body : List ℕ) → IsCut text pid body → (front : List ℕ) × (text ≡ front ++ body)
cut_parts text pid body h = cut_front text pid body h

-- the front is what is left when as many bytes are cut off as the body has
pub front_of : (text : List ℕ) (pid : ℕ) (body : List ℕ) → IsCut text pid body → text ≡ take (length text - length body) text ++ body
front_of text pid body h =
    let k = cut_parts text pid body h in let l = ap length k.1 ∙ length-append k.0 body in
    let m : length text - length body ≡ length k.0 = omega arith in
    let n : take (length text - length body) text ≡ k.0 = ap (λ x. take x text) m ∙ ap (take (length k.0)) k.1 ∙ take-append_seam k.0 body in
    k.1 ∙ ap (λ x. x ++ body) (sym n)

-- ---- the time that a call took

time_head : (text front : List ℕ) → (h : IsBeforeTime text front) → text ≡ (front ++ codes " ") ++ (60 ∷ (h.0 ++ codes ">"))
time_head text front h = h.2 ∙ sym (append_assoc front (codes " ") (60 ∷ (h.0 ++ codes ">")))

-- a text without the byte before a time has none
pub time_none : (text front : List ℕ) → EachIs (isnt 60) text → IsBeforeTime text front → ⊥
time_none text front each h = each_at 60 (front ++ codes " ") (h.0 ++ codes ">") (subst (EachIs (isnt 60)) (time_head text front h) each)

-- what stands around the last place of that byte in a text with a time
pub time_at : (text front : List ℕ) (k : ℕ) → k < length text → is_byte 60 (get_or text k 0) ≡ true → EachIs (isnt 60) (drop (k + 1) text)
    → (h : IsBeforeTime text front) → (take k text ≡ front ++ codes " ") × (drop (k + 1) text ≡ h.0 ++ codes ">")
time_at text front k within is each h =
    let bytes = each_whole (isnt 60) h.0 (codes ">") (each_weaker is_clock_byte (isnt 60) (isnt_of 60 is_clock_byte refl) h.0 (clock_each h.0 h.1))
    (each_by (isnt 60) (codes ">") refl) in
    last_place_same 60 (take k text) (front ++ codes " ") (drop (k + 1) text) (h.0 ++ codes ">") each bytes
    (sym (at_byte 60 text k within is) ∙ time_head text front h)

-- what is cut off behind a place, as slices are
abbrev pub cut_behind : ℕ → List ℕ → List ℕ
cut_behind k text = take (length text - k) (drop k text)

-- where no clock stands behind the last place of that byte, there is no time
pub time_no_clock : (text : List ℕ) (k : ℕ) → k < length text → is_byte 60 (get_or text k 0) ≡ true → EachIs (isnt 60) (drop (k + 1) text)
    → ((clock rest : List ℕ) → IsClock clock → cut_behind (k + 1) text ≡ clock ++ rest → starts is_clock_byte rest ≡ false → ⊥)
    → (front : List ℕ) → IsBeforeTime text front → ⊥
time_no_clock text k within is each none front h = none h.0 (codes ">") h.1 (all_behind (k + 1) text ∙ (time_at text front k within is each h).1) refl

-- where something else stands behind the clock there is none
pub time_wrong_end : (text clock rest : List ℕ) (k : ℕ) → k < length text → is_byte 60 (get_or text k 0) ≡ true → EachIs (isnt 60) (drop (k + 1) text)
    → IsClock clock → cut_behind (k + 1) text ≡ clock ++ rest → starts is_clock_byte rest ≡ false → rest ≢ codes ">"
    → (front : List ℕ) → IsBeforeTime text front → ⊥
time_wrong_end text clock rest k within is each hc e none other front h =
    let whole : clock ++ rest ≡ h.0 ++ codes ">" = sym e ∙ all_behind (k + 1) text ∙ (time_at text front k within is each h).1 in
    let same = clock_same clock h.0 rest (codes ">") hc h.1 none refl whole in
    other (append_cancel_left clock rest (codes ">") (whole ∙ ap (λ x. x ++ codes ">") (sym same)))

-- a space, the byte, a clock and its end are a time
pub time_found : (text front clock rest : List ℕ) (k : ℕ) → k < length text → is_byte 60 (get_or text k 0) ≡ true → take k text ≡ front ++ codes " "
    → IsClock clock → cut_behind (k + 1) text ≡ clock ++ rest → rest ≡ codes ">" → IsBeforeTime text front
time_found text front clock rest k within is before hc e end = (
  clock,
  hc,
  at_byte 60 text k within is ∙ ap (λ x. x ++ (60 ∷ drop (k + 1) text)) before
      ∙ ap (λ x. (front ++ codes " ") ++ (60 ∷ x)) (sym (all_behind (k + 1) text) ∙ e ∙ ap (λ x. clock ++ x) end)
      ∙ append_assoc front (codes " ") (60 ∷ (clock ++ codes ">")),
)

-- ---- what stays as it is

-- a line with the mark of an unread line is no message
pub unread_no_message : (text : List ℕ) → IsUnread text → IsMessage text → ⊥
unread_no_message text u h =
    let e : codes "---" ++ (32 ∷ (codes "unread: " ++ u.0)) ≡ (h.0 ++ codes "strace:") ++ (32 ∷ h.1) = sym u.1 ∙ h.3
    ∙ sym (append_assoc h.0 (codes "strace:") (32 ∷ h.1)) in
    let s = first_same 32 (codes "---") (h.0 ++ codes "strace:") (codes "unread: " ++ u.0) h.1 (each_by (isnt 32) (codes "---") refl)
    (each_whole (isnt 32) h.0 (codes "strace:") h.2.0 (each_by (isnt 32) (codes "strace:") refl)) e in
    let l : 3 ≡ length (h.0 ++ codes "strace:") = ap length s.0 in
    let m : length (h.0 ++ codes "strace:") ≡ length h.0 + 7 = length-append h.0 (codes "strace:") in omega arith

-- nor one of a stack
pub unread_no_stack : (text : List ℕ) → IsUnread text → IsStackLine text → ⊥
unread_no_stack text u h =
    let e : codes "--- unread: " ++ u.0 ≡ codes " > " ++ h.0 = sym u.1 ∙ h.1 in let k : ◌≡◌ {A = ℕ} 45 32 = ap first_byte e in omega arith

-- so it stays as it is
pub unread_still : (text : List ℕ) → IsUnread text → IsStill text
unread_still text u = record { plain = inl (u, refl); no_message = unread_no_message text u; no_stack = unread_no_stack text u; whole = inl u }

-- a line without the mark of which nothing is taken stays as it is
pub taken_still : (text plain : List ℕ) → (¬ IsUnread text) → ¬ IsMessage text → ¬ IsStackLine text → ((front : List ℕ) → ¬ IsBroken text front)
    → IsTaken text plain → length plain ≡ length text → IsStill text
taken_still text plain unmarked no_message no_stack whole t e =
    record { plain = inr (unmarked, subst (IsTaken text) (taken_long text plain t e) t); no_message = no_message; no_stack = no_stack; whole = inr whole }

-- what is left of a line that stays as it is is as long as the line
pub still_long : (text plain : List ℕ) → (¬ IsUnread text) → IsTaken text plain → IsStill text → length plain ≡ length text
still_long text plain unmarked t still = ap length (plain_same text plain text (inr (unmarked, t)) still.plain)

-- a line that a message broke doesn't stay as it is, where it has no mark
pub broken_not_still : (text front : List ℕ) → (¬ IsUnread text) → IsBroken text front → IsStill text → ⊥
broken_not_still text front unmarked h still = elim still.whole [ inl u ↦ unmarked u | inr w ↦ w front h ]

-- a value that is there meets what is said of it
pub some_value : {A : Type 0} (r : Option A) (M : Type 0) (P : A → Type 0) → is_some r ≡ true → MatchOption r M P → (x : A) × P x
some_value None M P e h = absurd cc
some_value (Some x) M P e h = (x, h)

-- where none is there, what is said of that holds
pub no_value : {A : Type 0} (r : Option A) (M : Type 0) (P : A → Type 0) → is_some r ≡ false → MatchOption r M P → M
no_value None M P e h = h
no_value (Some x) M P e h = absurd cc

-- a plain text isn't longer than its line
pub taken_short : (text plain : List ℕ) → IsTaken text plain → length plain ≤ length text
taken_short text plain h =
    let p = taken_parts text plain h in
    let a = ap length p.parts ∙ length-append p.front (p.between ++ (p.left ++ p.behind)) in
    let b = length-append p.between (p.left ++ p.behind) in let c = length-append p.left p.behind in
    let d = ap length p.same ∙ length-append p.front p.left in omega arith
