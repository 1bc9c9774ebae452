-- A log is read in one way: each stage gives one result.
use Rattle.std.proofs.Common.{◌≡◌, ◌⊎◌, ℕ, suc, List, [], ◌∷◌, ◌++◌, Option, Some, None, refl, sym, ap, subst, ◌∙◌, append_assoc, codes, inl, inr}
use Rattle.std.proofs.Common.{arith, rules}
use Rattle.std.specs.Prelude.{◌==◌, Contains}
use Rattle.std.proofs.lemmas.Bool.{eqb-true}
use Rattle.std.proofs.lemmas.List.{append_cancel_left}
use Rattle.line_parts.specs.Lines.{lines_of}
use Rattle.line_parts.specs.Leaves.{EachIs}
use Rattle.strace_reader.specs.Grammar.{EndsWith, IsCut, IsBracketed, IsBehindSpaces}
use Rattle.strace_reader.proofs.FormFacts.{prefix_same, behind_same, cut_same}
use Rattle.raw_lines.proofs.Searches.{isnt, not_true, each_at, last_place_same}
use Rattle.raw_lines.proofs.MarkFacts.{broken_same}
use Rattle.raw_lines.proofs.PlainFacts.{plain_same}
use Rattle.raw_logs.specs.declared.counts.Counts.{Counts}
use Rattle.raw_logs.specs.declared.counts.Sort.TheVariants.{Stripped, Numbered as OfNumbered}
use Rattle.raw_logs.specs.declared.numbering.Numbering.{Numbering}
use Rattle.raw_logs.specs.declared.numbering.Numbering.TheVariants.{AsPrinted, Plain}
use Rattle.raw_logs.specs.Counting.{both}
use Rattle.raw_logs.specs.Log.{Numbered, IsLog, IsUnbroken, IsCutShort, LineKind, Message, OfStack, CutShort, LeftIn, IsKind, Each, Healed, healed, changed, count_changes, IsStripped}
use Rattle.raw_logs.specs.Numbering.{IsLater, IsStart, StartsAt, IsFirstThread, IsRoot, IsNumbering, LosesBrackets, GetsNumber, ChangesNumber, with_number}
use Rattle.raw_logs.specs.Numbering.{IsRenumbered}
use Rattle.raw_logs.specs.Log.{texts_of}
use Rattle.raw_logs.specs.declared.fault.LogFault.{LogFault}
use Rattle.raw_logs.specs.declared.told.Told.{Told}
use Rattle.raw_logs.specs.Choosing.{Picked, picked_of, fault_of}
use Rattle.raw_logs.specs.Reading.{IsNumberedLog, IsRead, AreTexts, IsFirstUnknown, IsLogFault}
use Rattle.raw_logs.specs.Told.{AreTold}
use Rattle.raw_logs.proofs.MadeLines.{each_one}
use Rattle.raw_logs.proofs.ToldFacts.{told_one}

-- ---- the lines of a log

no_newline : (cut : List ℕ) → ¬ Contains cut 10 → EachIs (isnt 10) cut
no_newline [] none = tt
no_newline (b ∷ cut) none = (
  not_true (b == 10) (λ e. none (0, omega arith, eqb-true b 10 e)),
  no_newline cut (λ c. none (suc c.0, omega (arith, c.1), c.2)),
)

-- the bytes up to the last newline, and those behind it
whole_same : (a b c d : List ℕ) → ((a ≡ []) ⊎ EndsWith (10 ∷ []) a) → ((b ≡ []) ⊎ EndsWith (10 ∷ []) b)
    → EachIs (isnt 10) c → EachIs (isnt 10) d
    → a ++ c ≡ b ++ d → (a ≡ b) × (c ≡ d)
whole_same a b c d (inl h) (inl g) nc nd e = (h ∙ sym g, ap (λ (x : List ℕ). x ++ c) (sym h) ∙ e ∙ ap (λ (x : List ℕ). x ++ d) g)
whole_same a b c d (inl h) (inr g) nc nd e =
    let k : c ≡ g.0 ++ (10 ∷ d) = ap (λ (x : List ℕ). x ++ c) (sym h) ∙ e ∙ ap (λ (x : List ℕ). x ++ d) g.1 ∙ append_assoc g.0 (10 ∷ []) d in
    absurd (each_at 10 g.0 d (subst (EachIs (isnt 10)) k nc))
whole_same a b c d (inr h) (inl g) nc nd e =
    let k : d ≡ h.0 ++ (10 ∷ c) = ap (λ (x : List ℕ). x ++ d) (sym g) ∙ sym e ∙ ap (λ (x : List ℕ). x ++ c) h.1 ∙ append_assoc h.0 (10 ∷ []) c in
    absurd (each_at 10 h.0 c (subst (EachIs (isnt 10)) k nd))
whole_same a b c d (inr h) (inr g) nc nd e =
    let k : h.0 ++ (10 ∷ c) ≡ g.0 ++ (10 ∷ d) =
    sym (append_assoc h.0 (10 ∷ []) c) ∙ ap (λ (x : List ℕ). x ++ c) (sym h.1) ∙ e ∙ ap (λ (x : List ℕ). x ++ d) g.1 ∙ append_assoc g.0 (10 ∷ []) d in
    let s = last_place_same 10 h.0 g.0 c d nc nd k in
    (h.1 ∙ ap (λ (x : List ℕ). x ++ (10 ∷ [])) s.0 ∙ sym g.1, s.1)

-- a log has the same lines and the same rest
pub log_one : (bytes : List ℕ) (lines more : List (List ℕ)) (cut over : List ℕ) → IsLog bytes lines cut → IsLog bytes more over → (lines ≡ more) × (cut ≡ over)
log_one bytes lines more cut over h g =
    let s = whole_same h.whole g.whole cut over h.ended g.ended (no_newline cut h.no_newline) (no_newline over g.no_newline) (sym h.parts ∙ g.parts) in
    (h.are ∙ ap lines_of s.0 ∙ sym g.are, s.1)

-- ---- texts without messages

-- a line that no message broke wasn't broken by one
whole_or_broken : (line front : List ℕ) → IsUnbroken line → IsCutShort line front → ⊥
whole_or_broken line front h g = elim h.whole [
  | inl u ↦ g.no_mark u
  | inr w ↦ w front g.broken
]

-- a line is of one kind
pub kind_one : (line : List ℕ) (a b : LineKind) → IsKind line a → IsKind line b → a ≡ b
kind_one line Message Message h g = refl
kind_one line OfStack OfStack h g = refl
kind_one line (CutShort f) (CutShort e) h g = ap (λ (x : List ℕ). CutShort x) (broken_same line f e h.broken g.broken)
kind_one line LeftIn LeftIn h g = refl
kind_one line a b h g = absurd (search (rules, whole_or_broken))

-- a text is made plain in one way
pub stripped_one : (line : Numbered) (a b : Option (List ℕ)) → IsStripped line a → IsStripped line b → a ≡ b
stripped_one line None None h g = refl
stripped_one line None (Some q) h g = absurd (g.1 (plain_same line.text q line.text g.0 h))
stripped_one line (Some p) None h g = absurd (h.1 (plain_same line.text p line.text h.0 g))
stripped_one line (Some p) (Some q) h g = ap (λ (x : List ℕ). Some x) (plain_same line.text p q h.0 g.0)

-- ---- numbers

bracket_same : (text : List ℕ) (p q : ℕ) (r s : List ℕ) → IsBracketed text p r → IsBracketed text q s → (p ≡ q) × (r ≡ s)
bracket_same text p q r s h g = prefix_same text p q r s (inr h) (inr g)

-- each number in brackets of these texts came later
abbrev AllLater : (ℕ → Type 0) → List (List ℕ) → Type 0
AllLater later texts = (other : List ℕ) (n : ℕ) (behind : List ℕ) → Contains texts other → IsBracketed other n behind → later n

nearest_thread : (later : ℕ → Type 0) (b c : List (List ℕ)) (t u : List ℕ) (x y : List (List ℕ)) (p q : ℕ) (r s : List ℕ) → IsBracketed t p r
    → IsBracketed u q s → ¬ later p → ¬ later q → AllLater later b → AllLater later c → b ++ (t ∷ x) ≡ c ++ (u ∷ y) → p ≡ q
nearest_thread later [] [] t u x y p q r s ht hu np nq ab ac e =
    let k : t ≡ u = cc in
    (bracket_same u p q r s (subst (λ (z : List ℕ). IsBracketed z p r) k ht) hu).0
nearest_thread later [] (v ∷ c) t u x y p q r s ht hu np nq ab ac e =
    let k : v ≡ t = cc in
    absurd (np (ac t p r (0, omega arith, k) ht))
nearest_thread later (v ∷ b) [] t u x y p q r s ht hu np nq ab ac e =
    let k : v ≡ u = cc in
    absurd (nq (ab u q s (0, omega arith, k) hu))
nearest_thread later (v ∷ b) (w ∷ c) t u x y p q r s ht hu np nq ab ac e =
    let k : b ++ (t ∷ x) ≡ c ++ (u ∷ y) = cc in
    nearest_thread later b c t u x y p q r s ht hu np nq
    (λ o n z i h. ab o n z (suc i.0, omega (arith, i.1), i.2) h) (λ o n z i h. ac o n z (suc i.0, omega (arith, i.1), i.2) h) k

thread_same : (later : ℕ → Type 0) (texts : List (List ℕ)) (p q : ℕ) → IsFirstThread later texts p → IsFirstThread later texts q → p ≡ q
thread_same later texts p q h g =
    nearest_thread later h.before g.before h.text g.text h.after g.after p q h.rest g.rest h.is g.is h.fresh g.fresh h.others g.others (sym h.parts ∙ g.parts)

-- a line is the start with one number
pub start_same : (line : List ℕ) (p q : ℕ) → IsStart line p → IsStart line q → p ≡ q
start_same line p q h g =
    let t : h.0 ≡ g.0 = append_cancel_left (codes "strace: Process ") h.0 g.0 (sym h.2 ∙ g.2) in
    (cut_same g.0 p q h.1 g.1 (subst (λ (x : List ℕ). IsCut x p h.1) t h.3) g.3).0

starts_same : (lines : List (List ℕ)) (p q : ℕ) → StartsAt lines p → StartsAt lines q → p ≡ q
starts_same [] p q h g = absurd h
starts_same (line ∷ lines) p q h g = start_same line p q h g

root_same : (lines texts : List (List ℕ)) (p q : ℕ) → IsRoot lines texts p → IsRoot lines texts q → p ≡ q
root_same lines texts p q (inl h) (inl g) = starts_same lines p q h g
root_same lines texts p q (inl h) (inr g) = absurd (g.0 p h)
root_same lines texts p q (inr h) (inl g) = absurd (h.0 q g)
root_same lines texts p q (inr h) (inr g) = thread_same (IsLater lines texts) texts p q h.1 g.1

-- a log is numbered in one way
pub numbering_one : (lines texts : List (List ℕ)) (m n : Numbering) → IsNumbering lines texts m → IsNumbering lines texts n → m ≡ n
numbering_one lines texts AsPrinted AsPrinted h g = refl
numbering_one lines texts (Plain None) (Plain None) h g = refl
numbering_one lines texts (Plain (Some p)) (Plain (Some q)) h g = ap (λ (x : ℕ). Plain (Some x)) (root_same lines texts p q h.1 g.1)
numbering_one lines texts (Plain None) (Plain (Some q)) h g = absurd (h.1 q g.1)
numbering_one lines texts (Plain (Some p)) (Plain None) h g = absurd (g.1 p h.1)
numbering_one lines texts AsPrinted (Plain None) h g = absurd (h g.0)
numbering_one lines texts AsPrinted n h g = absurd (h g.0)
numbering_one lines texts m n h g = absurd (g h.0)

loses_same : (text a b : List ℕ) → LosesBrackets text a → LosesBrackets text b → a ≡ b
loses_same text a b h g =
    let s = bracket_same text h.0 g.0 h.1 g.1 h.3 g.3 in
    let k = behind_same g.1 h.2 g.2 (subst (λ (x : List ℕ). IsBehindSpaces x h.2) s.1 h.4) g.4 in
    h.5 ∙ ap (λ (x : ℕ). with_number x h.2) s.0 ∙ ap (with_number g.0) k ∙ sym g.5

loses_or_gets : (text a b : List ℕ) (pid : ℕ) → LosesBrackets text a → GetsNumber pid text b → ⊥
loses_or_gets text a b pid h g = g.0 h.0 h.1 (inr h.3)

-- a text changes its number in one way
pub changes_same : (numbering : Numbering) (text a b : List ℕ) → ChangesNumber numbering text a → ChangesNumber numbering text b → a ≡ b
changes_same AsPrinted text a b h g = absurd h
changes_same (Plain None) text a b h g = loses_same text a b h g
changes_same (Plain (Some pid)) text a b (inl h) (inl g) = loses_same text a b h g
changes_same (Plain (Some pid)) text a b (inl h) (inr g) = absurd (loses_or_gets text a b pid h g)
changes_same (Plain (Some pid)) text a b (inr h) (inl g) = absurd (loses_or_gets text b a pid g h)
changes_same (Plain (Some pid)) text a b (inr h) (inr g) = h.3 ∙ sym g.3

-- and gets its number in one way
renumbered_one : (numbering : Numbering) (line : Numbered) (a b : Option (List ℕ)) → IsRenumbered numbering line a → IsRenumbered numbering line b → a ≡ b
renumbered_one numbering line None None h g = refl
renumbered_one numbering line None (Some q) h g = absurd (h q g)
renumbered_one numbering line (Some p) None h g = absurd (g p h)
renumbered_one numbering line (Some p) (Some q) h g = ap (λ (x : List ℕ). Some x) (changes_same numbering line.text p q h g)

-- ---- the whole

-- lists and counts are the same
abbrev pub SameLines : List Numbered → List Numbered → Counts → Counts → Type 0
SameLines a b m n = (a ≡ b) × (m ≡ n)

-- what the lines of a log come to is one thing
pub healed_one : (lines more : List (List ℕ)) (a b : List LineKind) → lines ≡ more → Each IsKind lines a → Each IsKind more b → healed lines a ≡ healed more b
healed_one lines more a b e h g =
    ap (λ (x : List (List ℕ)). healed x a) e ∙ ap (healed more) (each_one IsKind kind_one more a b (subst (λ (x : List (List ℕ)). Each IsKind x a) e h) g)

-- a log has the same numbered texts
pub log_texts_one : (bytes : List ℕ) (a b : List Numbered) (m n : Counts) → IsNumberedLog bytes a m → IsNumberedLog bytes b n → SameLines a b m n
log_texts_one bytes a b m n h g =
    let l = log_one bytes h.lines g.lines h.cut g.cut h.log g.log in
    let t : healed h.lines h.kinds ≡ healed g.lines g.kinds = healed_one h.lines g.lines h.kinds g.kinds l.0 h.of_kinds g.of_kinds in
    let texts = (healed g.lines g.kinds).texts in
    let s : h.stripped ≡ g.stripped = each_one IsStripped stripped_one texts h.stripped g.stripped
    (subst (λ (x : Healed). Each IsStripped x.texts h.stripped) t h.plain) g.plain in
    let p : changed (healed h.lines h.kinds).texts h.stripped ≡ changed texts g.stripped =
    ap (λ (x : Healed). changed x.texts h.stripped) t ∙ ap (changed texts) s in
    let is : IsNumbering g.lines (texts_of (changed texts g.stripped)) h.numbering =
    subst (λ (x : List Numbered). IsNumbering g.lines (texts_of x) h.numbering) p
    (subst (λ (x : List (List ℕ)). IsNumbering x (texts_of (changed (healed h.lines h.kinds).texts h.stripped)) h.numbering) l.0 h.numbered) in
    let k = numbering_one g.lines (texts_of (changed texts g.stripped)) h.numbering g.numbering is g.numbered in
    let r : h.renumbered ≡ g.renumbered = each_one (IsRenumbered g.numbering) (renumbered_one g.numbering) (changed texts g.stripped) h.renumbered g.renumbered
    (subst (λ (x : Numbering). Each (IsRenumbered x) (changed texts g.stripped) h.renumbered) k
    (subst (λ (x : List Numbered). Each (IsRenumbered h.numbering) x h.renumbered) p h.numbers)) g.numbers in (
      h.is ∙ ap (λ (x : List Numbered). changed x h.renumbered) p ∙ ap (changed (changed texts g.stripped)) r ∙ sym g.is,
      h.sum ∙ ap (λ (x : Healed). both x.counts (both (count_changes Stripped h.stripped) (count_changes OfNumbered h.renumbered))) t
          ∙ ap (λ (x : List (Option (List ℕ))).
          both (healed g.lines g.kinds).counts (both (count_changes Stripped x) (count_changes OfNumbered h.renumbered))) s
          ∙ ap (λ (x : List (Option (List ℕ))). both (healed g.lines g.kinds).counts (both (count_changes Stripped g.stripped)
          (count_changes OfNumbered x))) r
          ∙ sym g.sum,
    )

-- a log is read in one way
pub read_one : (process : Option ℕ) (bytes : List ℕ) (a b : Picked) (f g : Option LogFault) → IsRead process bytes a f → IsRead process bytes b g
    → (a ≡ b) × (f ≡ g)
read_one process bytes a b f g x y =
    let s = log_texts_one bytes x.whole y.whole x.before y.before x.numbered y.numbered in
    let t : x.tolds ≡ y.tolds = told_one y.whole x.tolds y.tolds (subst (λ (z : List Numbered). AreTold z x.tolds) s.0 x.told) y.told in
    let p : picked_of process x.whole x.tolds ≡ picked_of process y.whole y.tolds =
    ap (λ (z : List Numbered). picked_of process z x.tolds) s.0 ∙ ap (λ (z : List Told). picked_of process y.whole z) t in
    let same : a ≡ b = x.is ∙ ap (λ (z : Picked). record z { counts = both x.before z.counts }) p
    ∙ ap (λ (z : Counts). let q = picked_of process y.whole y.tolds in record q { counts = both z q.counts }) s.1 ∙ sym y.is in (
      same,
      x.fault_is ∙ ap (λ (z : Picked). fault_of process x.tolds z.too_long) same ∙ ap (λ (z : List Told). fault_of process z b.too_long) t ∙ sym y.fault_is,
    )

-- the texts that are written of a log are the same
pub texts_one : (process : Option ℕ) (bytes : List ℕ) (a b : List Numbered) (m n : Counts) → AreTexts process bytes a m → AreTexts process bytes b n
    → SameLines a b m n
texts_one process bytes a b m n h g =
    let s = (read_one process bytes h.0 g.0 None None h.1 g.1).0 in
    (h.2 ∙ ap (λ (x : Picked). x.lines) s ∙ sym g.2, h.3 ∙ ap (λ (x : Picked). x.counts) s ∙ sym g.3)

-- and so is the first line whose beginning isn't known
pub unknown_one : (process : Option ℕ) (bytes : List ℕ) (a b : Option ℕ) → IsFirstUnknown process bytes a → IsFirstUnknown process bytes b → a ≡ b
unknown_one process bytes a b h g = h.2 ∙ ap (λ (x : Picked). x.unknown) (read_one process bytes h.0 g.0 None None h.1 g.1).0 ∙ sym g.2

-- a log has one fault
pub log_fault_one : (process : Option ℕ) (bytes : List ℕ) (f g : LogFault) → IsLogFault process bytes f → IsLogFault process bytes g → f ≡ g
log_fault_one process bytes f g h k = let s = (read_one process bytes h.0 k.0 (Some f) (Some g) h.1 k.1).1 in cc

-- and either texts that are written or a fault
pub texts_no_fault : (process : Option ℕ) (bytes : List ℕ) (a : List Numbered) (m : Counts) (f : LogFault) → AreTexts process bytes a m
    → IsLogFault process bytes f → ⊥
texts_no_fault process bytes a m f h k = let s = (read_one process bytes h.0 k.0 None (Some f) h.1 k.1).1 in absurd cc
