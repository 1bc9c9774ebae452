-- Lines without a newline stay so through each stage of the reading.
use Rattle.std.proofs.Common.{◌≡◌, ℕ, ◌+◌, ◌^◌, ◌<◌, List, [], ◌∷◌, ◌++◌, length, codes}
use Rattle.std.proofs.Common.{Bool, true, false, Option, Some, None, refl, sym, ap, subst, ◌∙◌, inl, inr, arith}
use Rattle.std.specs.Prelude.{◌==◌, decimal, if◌then◌else◌}
use Rattle.std.proofs.lemmas.Fmt.{decimal_is_IsNumeral}
use Rattle.std.proofs.lemmas.Bool.Decides.{nat_tests}
use Rattle.std.specs.Char.{digit_value}
use Rattle.std.specs.Str.Parse.{AllDigits as StdDigits}
use Rattle.line_parts.specs.Lines.{lines_of, put_first}
use Rattle.line_parts.specs.Leaves.{EachIs}
use Rattle.line_parts.proofs.Leaves.{bool_cases}
use Rattle.strace_reader.specs.Grammar.{IsCut}
use Rattle.raw_lines.specs.Plain.{IsPlain}
use Rattle.raw_lines.proofs.Searches.{isnt, each_parts, each_whole}
use Rattle.raw_lines.proofs.PlainFacts.{taken_parts}
use Rattle.raw_logs.specs.declared.counts.Counts.{Counts}
use Rattle.raw_logs.specs.declared.counts.Sort.TheVariants.{Elsewhere, Earlier}
use Rattle.raw_logs.specs.declared.numbering.Numbering.{Numbering}
use Rattle.raw_logs.specs.declared.numbering.Numbering.TheVariants.{AsPrinted, Plain}
use Rattle.raw_logs.specs.declared.told.Form.{Form}
use Rattle.raw_logs.specs.declared.told.Form.TheVariants.{Whole}
use Rattle.raw_logs.specs.declared.told.Told.{Told}
use Rattle.raw_logs.specs.Choosing.{Picked, is_blank, with_own, with_line, picked}
use Rattle.raw_logs.specs.Counting.{one_more_of}
use Rattle.raw_logs.specs.Log.{Numbered, texts_of, goes_on, LineKind, CutShort, LeftIn, IsKind, Each, Healed, nothing_healed, is_gap, with_kind, healed_from}
use Rattle.raw_logs.specs.Log.{healed, changed, IsStripped}
use Rattle.raw_logs.specs.Numbering.{StartsAt, IsRoot, ChangesNumber, IsNumbering, LosesBrackets, with_number}
use Rattle.raw_logs.specs.Numbering.{IsRenumbered}
use Rattle.raw_logs.specs.Reading.{IsNumberedLog, AreTexts}
use Rattle.raw_logs.specs.Spaces.{made_from, has_line}
use Rattle.raw_logs.proofs.MadeLines.{Changing}

-- a line without a newline
abbrev pub IsClean : List ℕ → Type 0
IsClean line = EachIs (isnt 10) line

-- each line is so
abbrev pub EachLine : (List ℕ → Type 0) → List (List ℕ) → Type 0
EachLine P [] = Unit {0}
EachLine P (line ∷ lines) = P line × EachLine P lines

-- ---- the lines of a text

-- the first line of a text ends at its newline
pub line_back : (line rest : List ℕ) → IsClean line → lines_of (line ++ (10 ∷ rest)) ≡ line ∷ lines_of rest
line_back [] rest h = refl
line_back (b ∷ line) rest h = elim (bool_cases (b == 10)) [
  | inl is ↦ let k = rw is at h.0 in absurd cc
  | inr never ↦ rw never (ap (put_first b) (line_back line rest h.1))
]

first_clean : (b : ℕ) (lines : List (List ℕ)) → isnt 10 b ≡ true → EachLine IsClean lines → EachLine IsClean (put_first b lines)
first_clean b [] h g = ((h, tt), tt)
first_clean b (line ∷ lines) h g = ((h, g.0), g.1)

-- the lines of a text have no newline
pub lines_clean : (text : List ℕ) → EachLine IsClean (lines_of text)
lines_clean [] = tt
lines_clean (b ∷ text) = elim (bool_cases (b == 10)) [
  | inl is ↦ rw is (tt, lines_clean text)
  | inr never ↦ let k : isnt 10 b ≡ true = rw never refl in rw never (first_clean b (lines_of text) k (lines_clean text))
]

-- ---- each stage

-- the part that waits has none
abbrev pub IsCleanPart : Option Numbered → Type 0
IsCleanPart None = Unit {0}
IsCleanPart (Some part) = IsClean part.text

-- each text has none
abbrev pub AreClean : List Numbered → Type 0
AreClean [] = Unit {0}
AreClean (text ∷ texts) = IsClean text.text × AreClean texts

on_clean : (part : Option Numbered) (number : ℕ) (line : List ℕ) → IsCleanPart part → IsClean line → IsClean (goes_on part number line).text
on_clean None number line h g = g
on_clean (Some part) number line h g = each_whole (isnt 10) part.text line h g

-- the texts so far have none, nor has the part that waits
pub record IsCleanState (h : Healed) : Type 0 where
  -- each text
  pub texts : AreClean h.texts
  -- and the part that waits
  pub part : IsCleanPart h.part

are_clean_more : (texts : List Numbered) (text : Numbered) → AreClean texts → IsClean text.text → AreClean (texts ++ (text ∷ []))
are_clean_more [] text h g = (g, tt)
are_clean_more (t ∷ texts) text h g = (h.0, are_clean_more texts text h.1 g)

kind_clean : (number : ℕ) (line : List ℕ) (kind : LineKind) (h : Healed) → IsClean line → IsKind line kind → IsCleanState h
    → IsCleanState (with_kind number line kind h)
kind_clean number line (CutShort front) h c k s =
    let b = k.broken in
    let f = each_parts (isnt 10) front (codes "strace: Process " ++ (b.0 ++ b.1)) (subst IsClean b.5 c) in
    record { texts = s.texts; part = on_clean h.part number front s.part f.0 }
kind_clean number line LeftIn h c k s = by (is_gap h.part line)
  where
    by : (gap : Bool) → IsCleanState (if gap then h else record h { texts = h.texts ++ (goes_on h.part number line ∷ []); part = None })
    by true = s
    by false = record { texts = are_clean_more h.texts (goes_on h.part number line) s.texts (on_clean h.part number line s.part c); part = tt }
kind_clean number line kind h c k s = record { texts = s.texts; part = s.part }

-- texts of lines have none
pub healed_clean : (number : ℕ) (h : Healed) (lines : List (List ℕ)) (kinds : List LineKind) → EachLine IsClean lines → Each IsKind lines kinds
    → IsCleanState h → AreClean (healed_from number h lines kinds).texts
healed_clean number h (line ∷ lines) (kind ∷ kinds) c k s =
    healed_clean (number + 1) (with_kind number line kind h) lines kinds c.1 k.1 (kind_clean number line kind h c.0 k.0 s)
healed_clean number h lines kinds c k s = s.texts

-- texts that change have none, where what each changes to has none
pub changed_clean : (R : Changing) → ((line : Numbered) (text : List ℕ) → IsClean line.text → R line (Some text) → IsClean text)
    → (lines : List Numbered) (changes : List (Option (List ℕ))) → AreClean lines → Each R lines changes → AreClean (changed lines changes)
changed_clean R one (line ∷ lines) (None ∷ changes) h g = (h.0, changed_clean R one lines changes h.1 g.1)
changed_clean R one (line ∷ lines) (Some text ∷ changes) h g = (one line text h.0 g.0, changed_clean R one lines changes h.1 g.1)
changed_clean R one lines changes h g = tt

-- what is taken away leaves none
pub plain_clean : (text plain : List ℕ) → IsClean text → IsPlain text plain → IsClean plain
plain_clean text plain h (inl g) = subst IsClean (sym g.1) h
plain_clean text plain h (inr g) =
    let p = taken_parts text plain g.1 in
    let a = each_parts (isnt 10) p.front (p.between ++ (p.left ++ p.behind)) (subst IsClean p.parts h) in
    let b = each_parts (isnt 10) p.between (p.left ++ p.behind) a.1 in
    let c = each_parts (isnt 10) p.left p.behind b.1 in
    subst IsClean (sym p.same) (each_whole (isnt 10) p.front p.left a.0 c.0)

-- a digit of std's is no newline
digit_clean : (c : ℕ) → digit_value c < 10 → isnt 10 c ≡ true
digit_clean c small = grind (arith, nat_tests)

std_clean : (ds : List ℕ) → StdDigits 10 ds → IsClean ds
std_clean [] h = tt
std_clean (c ∷ ds) h = (digit_clean c h.0, std_clean ds h.1)

-- a number has none
number_clean : (pid : ℕ) (body : List ℕ) → pid < 2 ^ 32 → IsClean body → IsClean (with_number pid body)
number_clean pid body small h =
    let d = decimal_is_IsNumeral pid (omega arith) in
    each_whole (isnt 10) (decimal pid) (32 ∷ body) (std_clean (decimal pid) d.0.1) (refl, h)

-- the number of the first thread is one
abbrev pub IsSmall : Numbering → Type 0
IsSmall AsPrinted = Unit {0}
IsSmall (Plain None) = Unit {0}
IsSmall (Plain (Some pid)) = pid < 2 ^ 32

loses_clean : (text line : List ℕ) → IsClean text → LosesBrackets text line → IsClean line
loses_clean text line h g =
    let p = g.3 in
    let a = each_parts (isnt 10) (codes "[pid ") (p.0 ++ p.1) (subst IsClean p.3 h) in
    let b = each_parts (isnt 10) p.0 p.1 a.1 in
    let c = each_parts (isnt 10) p.4.0 (codes "] " ++ g.1) (subst IsClean p.4.2 b.1) in
    let d = each_parts (isnt 10) (codes "] ") g.1 c.1 in
    let e = each_parts (isnt 10) g.4.0 g.2 (subst IsClean g.4.2 d.1) in
    subst IsClean (sym g.5) (number_clean g.0 g.2 p.4.1.1 e.1)

-- a changed number brings none in
changes_clean : (numbering : Numbering) (text line : List ℕ) → IsSmall numbering → IsClean text → ChangesNumber numbering text line → IsClean line
changes_clean AsPrinted text line small h g = absurd g
changes_clean (Plain (Some pid)) text line small h (inr g) = subst IsClean (sym g.3) (number_clean pid text small h)
changes_clean (Plain (Some pid)) text line small h (inl g) = loses_clean text line h g
changes_clean (Plain None) text line small h g = loses_clean text line h g

cut_small : (text : List ℕ) (pid : ℕ) (body : List ℕ) → IsCut text pid body → pid < 2 ^ 32
cut_small text pid body (inl (rest, inl p, b)) = p.1.1
cut_small text pid body (inl (rest, inr p, b)) = p.4.1.1
cut_small text pid body (inr h) = let k = h.0 in omega arith

start_small : (lines : List (List ℕ)) (pid : ℕ) → StartsAt lines pid → pid < 2 ^ 32
start_small [] pid h = absurd h
start_small (line ∷ lines) pid h = cut_small h.0 pid h.1 h.3

root_small : (lines texts : List (List ℕ)) (pid : ℕ) → IsRoot lines texts pid → pid < 2 ^ 32
root_small lines texts pid (inl h) = start_small lines pid h
root_small lines texts pid (inr h) = h.1.is.4.1.1

-- the number of lines without one is one of 32 bits
pub numbering_small : (lines texts : List (List ℕ)) (numbering : Numbering) → IsNumbering lines texts numbering → IsSmall numbering
numbering_small lines texts (Plain (Some pid)) h = root_small lines texts pid h.1
numbering_small lines texts numbering h = tt

-- ---- the texts that are written

with_line_clean : (here : Bool) (line : Numbered) (told : Told) (p : Picked) → IsClean line.text → AreClean p.lines
    → AreClean (with_line here line told p).lines
with_line_clean here line told p l h = by (is_blank told.form) here p.ended told.form
  where
    own : (form : Form) → AreClean (with_own form line told.making p).lines
    own Whole = (l, h)
    own form = h

    by : (blank here ended : Bool) (form : Form) → AreClean (if blank then p
        else if here then (if ended then record p { counts = one_more_of Earlier p.counts } else with_own form line told.making p)
        else record p { counts = one_more_of Elsewhere p.counts }).lines
    by false true false form = own form
    by blank here ended form = h

picked_clean : (here : ℕ → Told → Bool) (place : ℕ) (lines : List Numbered) (tolds : List Told) → AreClean lines
    → AreClean (picked here place lines tolds).lines
picked_clean here place (line ∷ lines) (told ∷ tolds) h =
    with_line_clean (here place told) line told (picked here (place + 1) lines tolds) h.0 (picked_clean here (place + 1) lines tolds h.1)
picked_clean here place lines tolds h = tt

-- the texts alone
pub each_clean : (lines : List Numbered) → AreClean lines → EachLine IsClean (texts_of lines)
each_clean [] h = tt
each_clean (line ∷ lines) h = (h.0, each_clean lines h.1)

-- the texts of a log have none
pub log_clean : (bytes : List ℕ) (whole : List Numbered) (counts : Counts) → IsNumberedLog bytes whole counts → AreClean whole
log_clean bytes whole counts n =
    let lines = subst (EachLine IsClean) (sym n.log.are) (lines_clean n.log.whole) in
    let texts = healed_clean 1 nothing_healed n.lines n.kinds lines n.of_kinds (record { texts = tt; part = tt }) in
    let plains = changed_clean IsStripped (λ line text h g. plain_clean line.text text h g.0) (healed n.lines n.kinds).texts n.stripped texts n.plain in
    let small = numbering_small n.lines (texts_of (changed (healed n.lines n.kinds).texts n.stripped)) n.numbering n.numbered in
    subst AreClean (sym n.is) (changed_clean (IsRenumbered n.numbering) (λ line text h g. changes_clean n.numbering line.text text small h g)
    (changed (healed n.lines n.kinds).texts n.stripped) n.renumbered plains n.numbers)

-- nor have those that are written
pub texts_clean : (process : Option ℕ) (bytes : List ℕ) (chosen : List Numbered) (counts : Counts) → AreTexts process bytes chosen counts
    → EachLine IsClean (texts_of chosen)
texts_clean process bytes chosen counts t =
    let r = t.1 in
    each_clean chosen (subst AreClean (sym (t.2 ∙ ap (λ (x : Picked). x.lines) r.is))
    (picked_clean (has_line process (made_from 0 r.tolds) (length r.tolds)) 0 r.whole r.tolds (log_clean bytes r.whole r.before r.numbered)))
