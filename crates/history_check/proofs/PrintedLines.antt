-- What a run prints, line by line: each text that is printed lacks the newline but at its end, so the lines of the
-- whole are those of its parts. No line behind the log begins as one of it.
use Rattle.std.specs.Prelude.{All, ◌==◌, ◌-◌, ◌*◌}
use Rattle.std.specs.List.{AllZip}
use Rattle.std.specs.Fmt.{digit_glyph, digits, digits_onto}
use Rattle.std.proofs.Common.{◌≡◌, ◌≢◌, ◌⊎◌, ℕ, zero, suc, ◌<◌, ◌/◌, ◌%◌, List, [], ◌∷◌, ◌++◌, length, replicate, codes, decimal, get_or, drop, true, false}
use Rattle.std.proofs.Common.{None, refl, sym, ap, ◌∙◌, subst, inl, inr, arith, append_assoc, not}
use Rattle.std.proofs.lemmas.Bool.Decides.{eqb_tells, nat_tests}
use Rattle.std.proofs.lemmas.List.Elements.{All-cons, All-nil}
use Rattle.space_model.specs.declared.areas.Area.{Area}
use Rattle.space_model.specs.declared.entries.Entry.{Entry}
use Rattle.line_parts.specs.Lines.{lines_of, put_first}
use Rattle.line_parts.specs.Leaves.{AllDigits, EachIs, IsRun, is_digit}
use Rattle.strace_reader.specs.Grammar.{BeginsWith}
use Rattle.line_parts.proofs.Numerals.{digit_byte}
use Rattle.maps_printer.specs.Calls.{call_text, reply_text}
use Rattle.maps_printer.specs.Lines.{area_line, entry_line, log_text, maps_text, summary_text, under_text}
use Rattle.maps_printer.specs.Numbers.{hex_digits, page_address}
use Rattle.maps_printer.specs.Words.{kind_text}
use Rattle.round_trip.proofs.LogsRead.{both, call_lacks, clean, first_of, kind_lacks, lacks, lacks_both, line_apart, line_ends, not_true, onto, reply_lacks}
use Rattle.round_trip.proofs.LogsRead.{second_of, under_lacks}
use Rattle.round_trip.proofs.NumbersRead.{decimal_digits}
use Rattle.history_check.specs.Laws.{IsTouchedLine, PrintedLogIsGood}
use Rattle.history_check.specs.Checking.{IsNarrow, IsWholeRest}
use Rattle.round_trip.specs.Logs.{HasWordNumbers}
use Rattle.history_check.specs.LogLines.{BeginsLog, IsLogEntry, IsLogLine}
use Rattle.history_check.proofs.Cutting.{BeginsNoLog}
use Rattle.history_check.proofs.RestLines.{both_lines, only_played, rest_on}

-- ---- lines of a text in parts

-- a text without a newline, and behind it one, is a line before the others
pub line_first : (line text : List ℕ) → lacks 10 line ≡ true → lines_of (line ++ 10 ∷ text) ≡ line ∷ lines_of text
line_first [] text none = refl
line_first (byte ∷ line) text none = rw (not_true (byte == 10) (first_of (not (byte == 10)) (lacks 10 line) none))
    (ap (put_first byte) (line_first line text (second_of (not (byte == 10)) (lacks 10 line) none)))

-- a text that is one line with its newline
record OneLine (whole : List ℕ) : Type 0 where
  pub line : List ℕ
  pub lacks_it : lacks 10 line ≡ true
  pub is : line ++ 10 ∷ [] ≡ whole

-- it is the first line before what follows
one_first : (whole text : List ℕ) (one : OneLine whole) → lines_of (whole ++ text) ≡ one.line ∷ lines_of text
one_first whole text one =
    ap (λ t. lines_of (t ++ text)) (sym one.is) ∙ ap lines_of (append_assoc one.line (10 ∷ []) text) ∙ line_first one.line text one.lacks_it

-- ---- numbers

glyph_apart : (b n : ℕ) → b < 48 → (digit_glyph false n == b) ≡ false
glyph_apart b n low = grind (arith, nat_tests)

onto_lacks : (b k base n : ℕ) (acc : List ℕ) → b < 48 → lacks b acc ≡ true → lacks b (digits_onto k base false n acc) ≡ true
onto_lacks b zero base n acc low none = none
onto_lacks b (suc k) base n acc low none =
    let next : lacks b (digit_glyph false (n % base) ∷ acc) ≡ true = rw (glyph_apart b (n % base) low) none in elim (eqb_tells (n / base) 0) [
      | inl last ↦ rw last.0 next
      | inr more ↦ rw more.0 (onto_lacks b k base (n / base) (digit_glyph false (n % base) ∷ acc) low next)
    ]

-- digits lack each byte below them, however large the number is
digits_lack : (b base n : ℕ) → b < 48 → lacks b (digits base false n) ≡ true
unfolding digits
digits_lack b base n low = onto_lacks b 64 base n [] low refl

zeros_lack : (b count : ℕ) → b < 48 → lacks b (replicate count 48) ≡ true
zeros_lack b zero low = refl
zeros_lack b (suc count) low = both _ _ (let apart : (48 == b) ≡ false = grind (arith, nat_tests) in ap not apart) (zeros_lack b count low)

page_lacks : (b page : ℕ) → b < 48 → lacks b (page_address page) ≡ true
page_lacks b page low =
    lacks_both b (replicate (8 - length (hex_digits (page * 4096))) 48) (hex_digits (page * 4096)) (zeros_lack b _ low) (digits_lack b 16 (page * 4096) low)

-- ---- the log

nest_words : (sp n w l c q r u h : List ℕ) → n ++ sp ++ w ++ sp ++ l ++ sp ++ c ++ q ++ r ++ u ++ h
    ≡ n ++ (sp ++ (w ++ (sp ++ (l ++ (sp ++ (c ++ (q ++ (r ++ (u ++ h)))))))))
nest_words sp n w l c q r u h = simp append_assoc

-- the line of an entry
entry_words : (e : Entry) → IsLogEntry e → OneLine (entry_line e)
entry_words e h =
    let number = onto (clean 10 (decimal e.number) (digits_lack 10 10 e.number (omega arith))) (codes " ") refl in
    let worker = onto (onto number (decimal e.worker) (digits_lack 10 10 e.worker (omega arith))) (codes " ") refl in
    let line = onto (onto worker (decimal e.line) (digits_lack 10 10 e.line (omega arith))) (codes " ") refl in
    let call = onto (onto line (call_text e.call) (call_lacks 10 line_apart refl e.call h.words.call)) (codes " = ") refl in
    let reply = onto (onto call (reply_text e.reply) (reply_lacks 10 line_ends refl e.reply h.words.reply)) (codes " under ") refl in
    let all = onto reply (under_text e.under) (under_lacks e.under h.words.under) in record { line = all.text; lacks_it = all.lacks_it; is = refl }

digits_run : (ds : List ℕ) → AllDigits 10 ds → EachIs is_digit ds
digits_run [] all = tt
digits_run (d ∷ ds) all = (digit_byte d all.0, digits_run ds all.1)

some_run : (ds : List ℕ) → 0 < length ds → AllDigits 10 ds → IsRun is_digit is_digit ds
some_run [] some all = absurd (omega arith)
some_run (d ∷ ds) some all = (digit_byte d all.0, digits_run ds all.1)

-- the line of an entry begins as one of a log
entry_begins : (e : Entry) (h : IsLogEntry e) → BeginsLog (entry_words e h).line
unfolding entry_words
entry_begins e h =
    let number = decimal_digits e.number h.words.number in (
      decimal e.number,
      _,
      some_run (decimal e.number) number.0 number.1,
      nest_words (codes " ") (decimal e.number) (decimal e.worker) (decimal e.line) (call_text e.call) (codes " = ") (reply_text e.reply)
          (codes " under ") (under_text e.under),
    )

-- the lines of a log before those of what follows
pub record LogFirst (entries : List Entry) (text : List ℕ) : Type 0 where
  pub lines : List (List ℕ)
  pub whole : lines_of (log_text entries ++ text) ≡ lines ++ lines_of text
  pub spelled : AllZip IsLogLine lines entries
  pub begin : All BeginsLog lines

-- a text that begins with a log has that log's lines first
pub log_first : (entries : List Entry) (text : List ℕ) → All IsLogEntry entries → LogFirst entries text
log_first [] text all = record { lines = []; whole = refl; spelled = tt; begin = All-nil BeginsLog }
log_first (e ∷ entries) text all =
    let own = all 0 e (omega arith) in let one = entry_words e own in
    let others = log_first entries text (λ k d low. all (suc k) d (omega arith)) in
    record {
      lines = one.line ∷ others.lines;
      whole = ap lines_of (append_assoc (entry_line e) (log_text entries) text) ∙ one_first (entry_line e) (log_text entries ++ text) one
          ∙ ap (λ ls. one.line ∷ ls) others.whole;
      spelled = ((own, one.is), others.spelled);
      begin = All-cons BeginsLog one.line others.lines (entry_begins e own) others.begin;
    }

-- ---- the maps

-- the line of an area
area_words : (a : Area) → OneLine (area_line a)
area_words a =
    let first = onto (clean 10 (page_address a.lo) (page_lacks 10 a.lo (omega arith))) (codes "-") refl in
    let pages = onto (onto first (page_address a.hi) (page_lacks 10 a.hi (omega arith))) (codes " ") refl in
    let kind = onto pages (kind_text a.kind) (kind_lacks 10 line_ends refl a.kind) in
    let all = onto kind (codes " 00000000 00:00 0") refl in
    record { line = all.text; lacks_it = all.lacks_it; is = append_assoc kind.text (codes " 00000000 00:00 0") (10 ∷ []) }

lacks_not : (b y : ℕ) (q : List ℕ) → b ≡ y → lacks b (y ∷ q) ≡ true → ⊥
lacks_not b y q same none = elim (eqb_tells y b) [ inl is ↦ let no : lacks b (y ∷ q) ≡ false = rw is.0 refl in cc | inr other ↦ other.1 (sym same) ]

-- a text that goes on with one byte first doesn't go on with another, where what is before lacks both
other_end : (b c : ℕ) (p q r s : List ℕ) → b ≢ c → lacks c p ≡ true → lacks b q ≡ true → p ++ b ∷ r ≡ q ++ c ∷ s → ⊥
other_end b c [] [] r s apart none no_b e = apart (ap (λ l. get_or l 0 0) e)
other_end b c [] (y ∷ q) r s apart none no_b e = lacks_not b y q (ap (λ l. get_or l 0 0) e) no_b
other_end b c (x ∷ p) [] r s apart none no_b e = lacks_not c x p (sym (ap (λ l. get_or l 0 0) e)) none
other_end b c (x ∷ p) (y ∷ q) r s apart none no_b e = other_end b c p q r s apart (second_of (not (x == c)) (lacks c p) none)
    (second_of (not (y == b)) (lacks b q) no_b) (ap (drop 1) e)

no_dash : (d : ℕ) → is_digit d ≡ true → not (d == 45) ≡ true
no_dash d digit = grind (arith, nat_tests)

digits_apart : (ds : List ℕ) → EachIs is_digit ds → lacks 45 ds ≡ true
digits_apart [] all = refl
digits_apart (d ∷ ds) all = both _ _ (no_dash d all.0) (digits_apart ds all.1)

run_apart : (ds : List ℕ) → IsRun is_digit is_digit ds → lacks 45 ds ≡ true
run_apart [] run = absurd run
run_apart (d ∷ ds) run = digits_apart (d ∷ ds) run

nest_area : (lo dash hi sp kind rest : List ℕ) → lo ++ dash ++ hi ++ sp ++ kind ++ rest ≡ lo ++ (dash ++ (hi ++ (sp ++ (kind ++ rest))))
nest_area lo dash hi sp kind rest = simp append_assoc

-- it begins as none of a log: a dash ends its first digits
area_begins_not : (a : Area) → BeginsLog (area_words a).line → ⊥
unfolding area_words
area_begins_not a (ds, rest, run, is) = other_end 45 32 (page_address a.lo) ds _ rest (omega arith) (page_lacks 32 a.lo (omega arith)) (run_apart ds run)
    (sym (nest_area (page_address a.lo) (codes "-") (page_address a.hi) (codes " ") (kind_text a.kind) (codes " 00000000 00:00 0")) ∙ is)

-- the maps and what follows them are the whole rest, where what follows is that behind the areas
pub maps_whole : (B : List Area) (text : List ℕ) → IsWholeRest [] (lines_of text) → IsWholeRest B (lines_of (maps_text B ++ text))
maps_whole [] text w = w
maps_whole (a ∷ B) text w =
    let one = area_words a in
    let lines = ap lines_of (append_assoc (area_line a) (maps_text B) text) ∙ one_first (area_line a) (maps_text B ++ text) one in
    subst (IsWholeRest (a ∷ B)) (sym lines) (rest_on a B one.line (lines_of (maps_text B ++ text)) None one.is (maps_whole B text w))

-- they begin as no log, where what follows doesn't
pub maps_begin_not : (B : List Area) (text : List ℕ) → BeginsNoLog (lines_of text) → BeginsNoLog (lines_of (maps_text B ++ text))
maps_begin_not [] text ended = ended
maps_begin_not (a ∷ B) text ended =
    let lines = ap lines_of (append_assoc (area_line a) (maps_text B) text) ∙ one_first (area_line a) (maps_text B ++ text) (area_words a) in
    subst BeginsNoLog (sym lines) (area_begins_not a)

-- ---- the summary and the count

nest_summary : (p a s b r c d e : List ℕ) → p ++ a ++ s ++ b ++ r ++ c ++ d ++ e ≡ p ++ (a ++ (s ++ (b ++ (r ++ (c ++ (d ++ e))))))
nest_summary p a s b r c d e = simp append_assoc

-- the line of the summary
summary_words : (played skipped refused differ : ℕ) → OneLine (summary_text played skipped refused differ)
summary_words played skipped refused differ =
    let first = onto (clean 10 (codes "played ") refl) (decimal played) (digits_lack 10 10 played (omega arith)) in
    let second = onto (onto first (codes " skipped ") refl) (decimal skipped) (digits_lack 10 10 skipped (omega arith)) in
    let third = onto (onto second (codes " refused ") refl) (decimal refused) (digits_lack 10 10 refused (omega arith)) in
    let all = onto (onto third (codes " differ ") refl) (decimal differ) (digits_lack 10 10 differ (omega arith)) in
    record { line = all.text; lacks_it = all.lacks_it; is = refl }

-- it begins `played `
summary_begins : (played skipped refused differ : ℕ) → BeginsWith (codes "played ") (summary_words played skipped refused differ).line
unfolding summary_words
summary_begins played skipped refused differ = (
  _,
  nest_summary (codes "played ") (decimal played) (codes " skipped ") (decimal skipped) (codes " refused ") (decimal refused)
      (codes " differ ") (decimal differ),
)

each_apart : (text : List ℕ) → All (λ byte. byte ≢ 10) text → lacks 10 text ≡ true
each_apart [] all = refl
each_apart (x ∷ text) all = elim (eqb_tells x 10) [
  | inl same ↦ absurd (all 0 x (omega arith) same.1)
  | inr other ↦ rw other.0 (each_apart text (λ k d low. all (suc k) d (omega arith)))
]

-- what follows the maps: the summary, and nothing or a count
pub end_whole : (played skipped refused differ : ℕ) (tail : List ℕ) → (tail ≡ []) ⊎ IsTouchedLine tail
    → IsWholeRest [] (lines_of (summary_text played skipped refused differ ++ tail))
end_whole played skipped refused differ tail (inl none) =
    let one = summary_words played skipped refused differ in
    let lines = one_first (summary_text played skipped refused differ) tail one ∙ ap (λ t. one.line ∷ lines_of t) none in
    subst (IsWholeRest []) (sym lines) (only_played one.line (summary_begins played skipped refused differ))
end_whole played skipped refused differ tail (inr (rest, clean_rest, is)) =
    let one = summary_words played skipped refused differ in let word = codes "touched " ++ rest in
    let touched : lines_of tail ≡ word ∷ [] = ap lines_of (is ∙ sym (append_assoc (codes "touched ") rest (10 ∷ [])))
    ∙ line_first word [] (lacks_both 10 (codes "touched ") rest refl (each_apart rest clean_rest)) in
    let lines = one_first (summary_text played skipped refused differ) tail one ∙ ap (λ ls. one.line ∷ ls) touched in
    subst (IsWholeRest []) (sym lines) (both_lines one.line word (summary_begins played skipped refused differ) (rest, refl))

played_not : (text rest : List ℕ) → text ≡ codes "played " ++ rest → BeginsLog text → ⊥
played_not text rest begins ([], more, run, is) = run
played_not text rest begins (d ∷ ds, more, run, is) =
    let first : d ≡ 112 = ap (λ l. get_or l 0 0) (sym is ∙ begins) in let digit : is_digit 112 ≡ true = subst (λ x. is_digit x ≡ true) first run.0 in cc

-- it begins as no log
pub end_begins_not : (played skipped refused differ : ℕ) (tail : List ℕ) → BeginsNoLog (lines_of (summary_text played skipped refused differ ++ tail))
end_begins_not played skipped refused differ tail =
    let one = summary_words played skipped refused differ in
    let begins = summary_begins played skipped refused differ in
    subst BeginsNoLog (sym (one_first (summary_text played skipped refused differ) tail one)) (played_not one.line begins.0 begins.1)

-- ---- the whole

-- what is printed of entries is a good log of them
pub printed_good : (entries : List Entry) → All HasWordNumbers entries → All IsNarrow entries → PrintedLogIsGood entries
printed_good entries words narrow A B played skipped refused differ tail named workers runs rise areas end =
    let behind = maps_text B ++ (summary_text played skipped refused differ ++ tail) in
    let all : All IsLogEntry entries = λ k d low. record {
      words = words k d low;
      worker = workers k d low;
      line = (narrow k d low).line;
      rows = (narrow k d low).rows;
      named = named k d low;
    } in let first = log_first entries behind all in
    let after = maps_whole B (summary_text played skipped refused differ ++ tail) (end_whole played skipped refused differ tail end) in
    record {
      log = first.lines;
      rest = lines_of behind;
      last = B;
      cut = record {
        whole = first.whole;
        log_lines = first.begin;
        ended = maps_begin_not B (summary_text played skipped refused differ ++ tail) (end_begins_not played skipped refused differ tail);
      };
      right = record { spelled = first.spelled; runs = runs; rise = rise };
      whole = inr (after.lines, after.long);
    }
