-- A whole log: it is read in the stages that the code has.
use Rattle.std.proofs.Common.{◌≡◌, ℕ, Bool, false, List, [], length, Option, Some, None, sym, ap, subst}
use Rattle.std.proofs.Common.{◌∙◌}
use Rattle.std.specs.Prelude.{if◌then◌else◌}
use Rattle.std.specs.BTreeSet.{BTreeSet, contains}
use Rattle.std.specs.Ordering.{nat_cmp}
use Rattle.raw_logs.specs.declared.spaces.Made.{Made}
use Rattle.line_parts.specs.Lines.{lines_of}
use Rattle.raw_logs.specs.declared.choosing.Picker.{Picker}
use Rattle.raw_logs.specs.declared.counts.Counts.{Counts}
use Rattle.raw_logs.specs.declared.counts.Sort.TheVariants.{Stripped}
use Rattle.raw_logs.specs.declared.healing.Healer.{Healer}
use Rattle.raw_logs.specs.declared.fault.LogFault.{LogFault}
use Rattle.raw_logs.specs.declared.fault.LogFault.TheVariants.{NoProcess}
use Rattle.raw_logs.specs.declared.numbering.Numbering.{Numbering}
use Rattle.raw_logs.specs.declared.numbering.Numbering.TheVariants.{AsPrinted}
use Rattle.raw_logs.specs.declared.told.Told.{Told}
use Rattle.raw_logs.specs.Choosing.{Picked, picked, with_numbers, picked_of, fault_of, long_fault}
use Rattle.raw_logs.specs.Counting.{within_32_bits, both}
use Rattle.raw_logs.specs.Log.{Numbered, texts_of, IsLog, IsKind, Each, Healed, healed, changed, count_changes, IsStripped}
use Rattle.raw_logs.specs.Numbering.{IsNumbering, IsRenumbered}
use Rattle.raw_logs.specs.Reading.{IsNumberedLog, IsRead, EndsCut}
use Rattle.raw_logs.specs.Stages.{part_of, Takes, seen, HasSpeakers}
use Rattle.raw_logs.specs.Spaces.{made_from, has_line, speaks, silent, twice, unmade}
use Rattle.raw_logs.specs.Told.{AreTold}
use Rattle.raw_logs.proofs.MadeLines.{each_one, printed_plain}
use Rattle.raw_logs.proofs.OneLog.{kind_one, stripped_one}
use Rattle.raw_logs.proofs.ToldFacts.{told_length}

-- ---- the stages of the reading

-- what a log ends with
pub ends_cut : (bytes whole cut : List ℕ) (healer : Healer) (ends : Bool) → IsLog bytes (lines_of whole) cut → Takes healer (lines_of whole)
    → (ends ≡ false → (cut ≡ []) × (part_of healer ≡ None)) → ((cut ≡ []) → part_of healer ≡ None → ends ≡ false) → EndsCut bytes ends
ends_cut bytes whole cut healer ends log t none some_left =
    let left : (healed (lines_of whole) t.kinds).part ≡ part_of healer = ap (λ (x : Healed). x.part) t.is in
    record {
      lines = lines_of whole;
      cut = cut;
      log = log;
      kinds = t.kinds;
      of_kinds = t.of_kinds;
      none_left = λ e. let n = none e in (n.0, left ∙ n.1);
      some_left = λ e f. some_left e (sym left ∙ f);
    }

-- what the lines of a log are written as has one plain form
pub plain_one : (a b : Healer) (lines : List (List ℕ)) (t : Takes a lines) (u : Takes b lines) → t.written.plain ≡ u.written.plain
plain_one a b lines t u =
    let kinds : t.kinds ≡ u.kinds = each_one IsKind kind_one lines t.kinds u.kinds t.of_kinds u.of_kinds in
    let texts : t.texts ≡ u.texts = ap (λ (x : Healed). x.texts) (sym t.is ∙ ap (healed lines) kinds ∙ u.is) in
    let m = t.written.made in
    let n = u.written.made in
    let each : Each IsStripped u.texts m.changes = subst (λ (x : List Numbered). Each IsStripped x m.changes) texts m.each in
    let changes : m.changes ≡ n.changes = each_one IsStripped stripped_one u.texts m.changes n.changes each n.each in
    m.is ∙ ap (λ (x : List Numbered). changed x m.changes) texts ∙ ap (changed u.texts) changes ∙ sym n.is

-- how a log is numbered follows from a first reading
pub numbered_by : (a b : Healer) (lines : List (List ℕ)) (numbering : Numbering) → Takes a lines → a.written.numbering ≡ AsPrinted
    → IsNumbering lines (texts_of a.written.lines) numbering → (u : Takes b lines) → b.written.numbering ≡ numbering
    → IsNumbering lines (texts_of u.written.plain) b.written.numbering
numbered_by a b lines numbering t e n u f =
    subst (IsNumbering lines (texts_of u.written.plain)) (sym f)
    (subst (λ (x : List Numbered). IsNumbering lines (texts_of x) numbering) (printed_plain a.written t.texts t.written e ∙ plain_one a b lines t u) n)

-- what the stages make of a log
pub numbered_log : (bytes whole cut : List ℕ) (healer : Healer) (counts : Counts) → IsLog bytes (lines_of whole) cut
    → (t : Takes healer (lines_of whole)) → IsNumbering (lines_of whole) (texts_of t.written.plain) healer.written.numbering
    → counts ≡ both healer.counts (both healer.written.plain healer.written.numbered) → IsNumberedLog bytes healer.written.lines counts
numbered_log bytes whole cut healer counts log t numbered sum =
    let h = healed (lines_of whole) t.kinds in
    let m = t.written.made in
    let n = t.written.numbers in
    let texts : h.texts ≡ t.texts = ap (λ (x : Healed). x.texts) t.is in
    let left : h.counts ≡ healer.counts = ap (λ (x : Healed). x.counts) t.is in
    let plains : t.written.plain ≡ changed h.texts m.changes = m.is ∙ ap (λ (x : List Numbered). changed x m.changes) (sym texts) in
    record {
      lines = lines_of whole;
      cut = cut;
      log = log;
      kinds = t.kinds;
      of_kinds = t.of_kinds;
      stripped = m.changes;
      plain = subst (λ (x : List Numbered). Each IsStripped x m.changes) (sym texts) m.each;
      numbering = healer.written.numbering;
      numbered = subst (λ (x : List Numbered). IsNumbering (lines_of whole) (texts_of x) healer.written.numbering) plains numbered;
      renumbered = n.changes;
      numbers = subst (λ (x : List Numbered). Each (IsRenumbered healer.written.numbering) x n.changes) plains n.each;
      is = n.is ∙ ap (λ (x : List Numbered). changed x n.changes) plains;
      sum = sum ∙ ap (λ (x : Counts). both x (both healer.written.plain healer.written.numbered)) (sym left)
          ∙ ap (λ (x : Counts). both h.counts (both x healer.written.numbered)) m.count
          ∙ ap (λ (x : Counts). both h.counts (both (count_changes Stripped m.changes) x)) n.count;
    }

-- what was picked, with the counts of the stages before
abbrev pub found_of : Counts → List Numbered → Picker → Picked
found_of before kept picker = let p = seen kept picker in record p { counts = both before p.counts }

-- what was picked of a log is how it is read, with a fault where the process that was asked for is silent
pub read_by : (process : Option ℕ) (bytes : List ℕ) (lines kept : List Numbered) (before : Counts) (picker : Picker) (speakers : BTreeSet ℕ) (alone : Bool)
    (fault : Option LogFault) → IsNumberedLog bytes lines before → HasSpeakers speakers lines
    → (HasSpeakers speakers lines → (tolds : List Told) × AreTold lines tolds × (seen kept picker ≡ picked_of process lines tolds))
    → ((tolds : List Told) → ((q : ℕ) → contains nat_cmp speakers q ≡ speaks q tolds) → (too_long : Option ℕ)
    → fault_of process tolds too_long ≡ (if alone then Some NoProcess else long_fault too_long))
    → fault ≡ (if alone then Some NoProcess else long_fault picker.too_long) → IsRead process bytes (found_of before kept picker) fault
read_by process bytes lines kept before picker speakers alone fault n all pick silent f =
    let p = pick all in
    record {
      whole = lines;
      before = before;
      numbered = n;
      tolds = p.0;
      told = p.1;
      is = ap (λ (x : Picked). record x { counts = both before x.counts }) p.2;
      fault_is = f ∙ sym (silent p.0 (all p.0 p.1) picker.too_long);
    }

-- what is picked by who made whom is what is picked of a log
pub pick_is : (process : Option ℕ) (lines : List Numbered) (made : List Made) (count without others again : ℕ) (old new : Picked) (tolds : List Told)
    → AreTold lines tolds → made ≡ made_from 0 tolds → count ≡ length lines
    → old ≡ picked (has_line process made count) 0 lines tolds → without ≡ within_32_bits (silent made tolds)
    → others ≡ within_32_bits (unmade made tolds) → again ≡ within_32_bits (twice made) → new ≡ with_numbers without others again old
    → (x : List Told) × AreTold lines x × (new ≡ picked_of process lines x)
pick_is process lines made count without others again old new tolds t m n h k u w e = (
  tolds,
  t,
  e ∙ ap (λ (x : ℕ). with_numbers x others again old) (k ∙ ap (λ (x : List Made). within_32_bits (silent x tolds)) m)
      ∙ ap (λ (x : ℕ). with_numbers (within_32_bits (silent (made_from 0 tolds) tolds)) x again old)
      (u ∙ ap (λ (x : List Made). within_32_bits (unmade x tolds)) m)
      ∙ ap (λ (x : ℕ). with_numbers (within_32_bits (silent (made_from 0 tolds) tolds)) (within_32_bits (unmade (made_from 0 tolds) tolds)) x old)
      (w ∙ ap (λ (x : List Made). within_32_bits (twice x)) m)
      ∙ ap (with_numbers (within_32_bits (silent (made_from 0 tolds) tolds)) (within_32_bits (unmade (made_from 0 tolds) tolds))
      (within_32_bits (twice (made_from 0 tolds))))
      (h ∙ ap (λ (x : List Made). picked (has_line process x count) 0 lines tolds) m
      ∙ ap (λ (x : ℕ). picked (has_line process (made_from 0 tolds) x) 0 lines tolds)
      (n ∙ sym (told_length lines tolds t))),
)
