-- Numbers at the front of a text: where what is cut is as long as the text there is none, and where a text begins as
-- one in brackets does it is that number.
use Rattle.std.proofs.Common.{◌≡◌, ◌≢◌, ◌⊎◌, ℕ, ◌<◌, List, [], ◌∷◌, ◌++◌, length, Option, Some, None, Bool, eqb, codes, sym, ap, subst, ◌∙◌, inl, inr, arith}
use Rattle.std.specs.Bool.{Decides}
use Rattle.std.specs.Prelude.{MatchOption}
use Rattle.std.proofs.lemmas.Bool.{eqb-true, eq-eqb}
use Rattle.std.proofs.lemmas.List.{append_cancel_left, length-append}
use Rattle.line_parts.specs.Leaves.{worth}
use Rattle.strace_reader.specs.Grammar.{BeginsWith, IsPid, PidThen, IsBracketed, IsPrefixed, IsBehindSpaces, IsCut}
use Rattle.strace_reader.proofs.FormFacts.{prefix_same, behind_length, cut_same}
use Rattle.raw_lines.specs.Marks.{IsUnread}
use Rattle.raw_logs.specs.declared.numbering.Numbering.TheVariants.{AsPrinted, Plain}
use Rattle.raw_logs.specs.Numbering.{HasBrackets, HasNoNumber, IsLater, IsStart, StartsAt, IsMixed, IsFirstThread, IsRoot, IsNumbering, with_number}
use Rattle.raw_logs.specs.Numbering.{LosesBrackets, ChangesNumber}

pid_shorter : (word text : List ℕ) (pid : ℕ) (rest : List ℕ) → PidThen word text pid rest → length rest < length text
pid_shorter word text pid rest h =
    let k = ap length h.2 in
    let l = length-append h.0 (word ++ rest) in
    let m = length-append word rest in
    let n = h.1.0.0 in
    omega arith

prefix_shorter : (text : List ℕ) (pid : ℕ) (rest : List ℕ) → IsPrefixed text pid rest → length rest < length text
prefix_shorter text pid rest (inl h) = pid_shorter (codes " ") text pid rest h
prefix_shorter text pid rest (inr h) =
    let k = ap length h.3 in
    let l = length-append (codes "[pid ") (h.0 ++ h.1) in
    let m = length-append h.0 h.1 in
    let n = pid_shorter (codes "] ") h.1 pid rest h.4 in
    omega arith

-- a text whose body is as long as itself has no number
pub whole_body : (text : List ℕ) (pid : ℕ) (body : List ℕ) → IsCut text pid body → length body ≡ length text → HasNoNumber text
whole_body text pid body (inl h) e =
    let k = prefix_shorter text pid h.0 h.1 in
    let l = behind_length h.0 body h.2 in
    absurd (omega arith)
whole_body text pid body (inr h) e = h.2

-- and the other way round
pub body_whole : (text : List ℕ) (pid : ℕ) (body : List ℕ) → IsCut text pid body → HasNoNumber text → length body ≡ length text
body_whole text pid body (inl h) none = absurd (none pid h.0 h.1)
body_whole text pid body (inr h) none = ap length h.1

-- so the lengths tell
pub lengths_tell : (text : List ℕ) (pid : ℕ) (body : List ℕ) → IsCut text pid body → Decides (eqb (length body) (length text)) (HasNoNumber text)
lengths_tell text pid body h = (
  (λ e. whole_body text pid body h (eqb-true (length body) (length text) e)),
  (λ none. eq-eqb (length body) (length text) (body_whole text pid body h none)),
)

-- a text without a number has none in brackets
pub none_in_brackets : (text : List ℕ) → HasNoNumber text → HasBrackets text → ⊥
none_in_brackets text none h = none h.0 h.1 (inr h.2)

digit_no_bracket : (digits rest other : List ℕ) (pid : ℕ) → IsPid digits pid → digits ++ rest ≡ 91 ∷ other → ⊥
unfolding worth
digit_no_bracket [] rest other pid h e = omega (arith, h.0.0)
digit_no_bracket (b ∷ digits) rest other pid h e = let k : b ≡ 91 = cc in let d = h.0.1.0 in let w = ap worth k in omega arith

-- a text that begins so and has a number has it in brackets
pub in_brackets : (text : List ℕ) (pid : ℕ) (body : List ℕ) → BeginsWith (codes "[pid ") text → IsCut text pid body → length body ≢ length text
    → (rest : List ℕ) × IsBracketed text pid rest
in_brackets text pid body b (inl (rest, inl h, behind)) ne =
    absurd (digit_no_bracket h.0 (codes " " ++ rest) (codes "pid " ++ b.0) pid h.1 (sym h.2 ∙ b.1))
in_brackets text pid body b (inl (rest, inr h, behind)) ne = (rest, h)
in_brackets text pid body b (inr h) ne = absurd (ne (ap length h.1))

-- a text that isn't empty and bears no mark gets a number where it has none
pub gets_by : (text : List ℕ) (b : Bool) → Decides b (HasNoNumber text) → text ≢ [] → (¬ IsUnread text)
    → Decides b (HasNoNumber text × (text ≢ []) × ¬ IsUnread text)
gets_by text b d filled marked = ((λ e. (d.0 e, filled, marked)), (λ h. d.1 h.0))

-- ---- what changes

-- a number in brackets is written plain
pub plain_number : (text : List ℕ) (pid q : ℕ) (rest body line : List ℕ) → IsBracketed text pid rest → IsCut text q body → line ≡ with_number pid body
    → LosesBrackets text line
plain_number text pid q rest body line h (inl g) e =
    let same = prefix_same text pid q rest g.0 (inr h) g.1 in
    (pid, rest, body, h, subst (λ (x : List ℕ). IsBehindSpaces x body) (sym same.1) g.2, e)
plain_number text pid q rest body line h (inr g) e = absurd (g.2 pid rest (inr h))

-- that is a change of any numbering
pub loses_changes : (first : Option ℕ) (text line : List ℕ) → LosesBrackets text line → ChangesNumber (Plain first) text line
loses_changes None text line h = h
loses_changes (Some pid) text line h = inl h

-- a text gets the first thread's number
pub gets_changes : (first : Option ℕ) (pid : ℕ) (text line : List ℕ) → first ≡ Some pid → HasNoNumber text × (text ≢ []) × ¬ IsUnread text
    → line ≡ with_number pid text → ChangesNumber (Plain first) text line
gets_changes first pid text line e h f =
    subst (λ (x : Option ℕ). ChangesNumber (Plain x) text line) (sym e) (inr (h.0, h.1, h.2, f))

-- nothing changes
pub nothing_changes : (first : Option ℕ) (text : List ℕ) → (HasBrackets text → ⊥)
    → (first ≡ None) ⊎ (HasNoNumber text × (text ≢ []) × (¬ IsUnread text) → ⊥) → (line : List ℕ) → ChangesNumber (Plain first) text line → ⊥
nothing_changes None text none other line h = none (h.0, h.1, h.3)
nothing_changes (Some pid) text none other line (inl h) = none (h.0, h.1, h.3)
nothing_changes (Some pid) text none (inl e) line (inr h) = absurd cc
nothing_changes (Some pid) text none (inr never) line (inr h) = never (h.0, h.1, h.2)

-- ---- how a log is numbered

-- it begins with the number of its lines without one
pub numbered_start_at : (lines texts : List (List ℕ)) (pid : ℕ) → StartsAt lines pid → IsNumbering lines texts (Plain (Some pid))
numbered_start_at lines texts pid h = (inr (pid, h), inl h)

-- nothing needs a number
pub numbered_as_printed : (lines texts : List (List ℕ)) → ((pid : ℕ) → ¬ StartsAt lines pid) → ¬ IsMixed texts → IsNumbering lines texts AsPrinted
numbered_as_printed lines texts none never (inl h) = never h
numbered_as_printed lines texts none never (inr h) = none h.0 h.1

-- the first thread's number is the root's
pub numbering_by : (lines texts : List (List ℕ)) (found : Option ℕ) → ((pid : ℕ) → ¬ StartsAt lines pid) → IsMixed texts
    → MatchOption found ((pid : ℕ) → ¬ IsFirstThread (IsLater lines texts) texts pid) (IsFirstThread (IsLater lines texts) texts)
    → IsNumbering lines texts (Plain found)
numbering_by lines texts None none mixed h = (inl mixed, λ pid r. by pid r)
  where
    by : (pid : ℕ) → IsRoot lines texts pid → ⊥
    by pid (inl s) = none pid s
    by pid (inr s) = h pid s.1
numbering_by lines texts (Some pid) none mixed h = (inl mixed, inr (none, h))

-- ---- the message with which strace begins

-- where the number is none, or the verb isn't there, the line is no such message
pub start_not : (line text body : List ℕ) (p : ℕ) → line ≡ codes "strace: Process " ++ text → IsCut text p body
    → (p ≡ 0) ⊎ (¬ BeginsWith (codes "attached") body) → (pid : ℕ) → ¬ IsStart line pid
start_not line text body p e cut never pid h = by never
  where
    same : h.0 ≡ text
    same = append_cancel_left (codes "strace: Process ") h.0 text (sym h.2 ∙ e)

    one : (pid ≡ p) × (h.1 ≡ body)
    one = cut_same text pid p h.1 body (subst (λ (x : List ℕ). IsCut x pid h.1) same h.3) cut

    by : (p ≡ 0) ⊎ (¬ BeginsWith (codes "attached") body) → ⊥
    by (inl z) = h.5 (one.0 ∙ z)
    by (inr f) = f (subst (BeginsWith (codes "attached")) one.1 h.4)

-- the first line of a log is the message or not
pub start_lines : (lines rest : List (List ℕ)) (line : List ℕ) (r : Option ℕ) → lines ≡ line ∷ rest
    → MatchOption r ((pid : ℕ) → ¬ IsStart line pid) (IsStart line) → MatchOption r ((pid : ℕ) → ¬ StartsAt lines pid) (StartsAt lines)
start_lines lines rest line None e h = λ pid s. h pid (subst (λ (x : List (List ℕ)). StartsAt x pid) e s)
start_lines lines rest line (Some pid) e h = subst (λ (x : List (List ℕ)). StartsAt x pid) (sym e) h

-- a log without lines begins with no message
pub start_nowhere : (lines : List (List ℕ)) → lines ≡ [] → (pid : ℕ) → ¬ StartsAt lines pid
start_nowhere lines e pid s = absurd (subst (λ (x : List (List ℕ)). StartsAt x pid) e s)
