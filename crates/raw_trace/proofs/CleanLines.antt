-- What a line without a newline becomes has none, so the lines that are written are the lines of what is written.
use Rattle.std.proofs.Common.{◌≡◌, ℕ, List, [], ◌∷◌, ◌++◌, take, drop, codes, refl, sym, ap, subst, ◌∙◌, append_assoc, inl, inr}
use Rattle.std.proofs.Common.{take-append-drop}
use Rattle.line_parts.specs.Lines.{lines_of}
use Rattle.strace_reader.specs.declared.item.BadCall.{BadCall}
use Rattle.raw_lines.specs.Marks.{unread_mark}
use Rattle.raw_lines.specs.Mends.{Mends, AreMends, is_read, one_mend, detached, never_returned, deleted}
use Rattle.raw_lines.proofs.Searches.{isnt, each_parts, each_whole}
use Rattle.raw_lines.proofs.MarkFacts.{each_by}
use Rattle.raw_logs.specs.Log.{Numbered, texts_of, Each}
use Rattle.raw_logs.proofs.CleanLogs.{IsClean, EachLine, line_back}
use Rattle.raw_trace.specs.declared.settling.Ending.{Ending}
use Rattle.raw_trace.specs.Places.{ReadText, IsReadText, Part, Front, Becomes, becomes_itself, becomes_mended, becomes_unreturned, becomes_undone, becomes_unread}
use Rattle.raw_trace.specs.Rewriting.{text_of}
use Rattle.raw_trace.proofs.EachEntries.{line_in}
use Rattle.raw_trace.proofs.ReadTexts.{HasPart, near_each}

-- lines without newlines are the lines of their text
pub lines_back : (lines : List (List ℕ)) → EachLine IsClean lines → lines_of (text_of lines) ≡ lines
lines_back [] h = refl
lines_back (line ∷ lines) h = line_back line (text_of lines) h.0 ∙ ap (λ (x : List (List ℕ)). line ∷ x) (lines_back lines h.1)

-- ---- what a line becomes

-- a mend brings none in
mend_clean : (front middle back word text mended : List ℕ) → IsClean text → text ≡ front ++ (word ++ back) → IsClean middle
    → mended ≡ front ++ (middle ++ back) → IsClean mended
mend_clean front middle back word text mended h e m g =
    let a = each_parts (isnt 10) front (word ++ back) (subst IsClean e h) in
    let b = each_parts (isnt 10) word back a.1 in
    subst IsClean (sym g) (each_whole (isnt 10) front (middle ++ back) a.0 (each_whole (isnt 10) middle back m b.1))

mends_clean : (text : List ℕ) (bad : BadCall) (mended : List ℕ) → IsClean text → Mends text bad mended → IsClean mended
mends_clean text bad mended h (inl g) =
    let a = each_parts (isnt 10) g.0 detached (subst IsClean g.1 h) in
    subst IsClean (sym g.2) (each_whole (isnt 10) g.0 never_returned a.0 (each_by (isnt 10) never_returned refl))
mends_clean text bad mended h (inr (never, inl g)) = mend_clean g.0 (codes ">,") g.1 deleted text mended h g.4 (each_by (isnt 10) (codes ">,") refl) g.6
mends_clean text bad mended h (inr (never, inr (inl g))) = mend_clean g.0 (codes "-1") g.2 g.1 text mended h g.7 (each_by (isnt 10) (codes "-1") refl) g.8
mends_clean text bad mended h (inr (never, inr (inr (inl g)))) =
    mend_clean g.0 (codes "-1") g.2 (codes "-" ++ g.1) text mended h (g.7 ∙ ap (λ (x : List ℕ). g.0 ++ x) (sym (append_assoc (codes "-") g.1 g.2)))
    (each_by (isnt 10) (codes "-1") refl) g.8
mends_clean text bad mended h (inr (never, inr (inr (inr (inl g))))) =
    mend_clean g.0 (codes "-1") g.2 (codes "-1" ++ g.1) text mended h (g.7 ∙ ap (λ (x : List ℕ). g.0 ++ x) (sym (append_assoc (codes "-1") g.1 g.2)))
    (each_by (isnt 10) (codes "-1") refl) g.8
mends_clean text bad mended h (inr (never, inr (inr (inr (inr g))))) =
    mend_clean g.0 (codes "-1 UNKNOWN (errno ") g.1 (codes "-1 (errno ") text mended h g.4 (each_by (isnt 10) (codes "-1 UNKNOWN (errno ") refl) g.5

all_mends_clean : (k : ℕ) (text mended : List ℕ) → IsClean text → AreMends k text mended → IsClean mended
all_mends_clean k text mended h (is_read item s w) = h
all_mends_clean k text mended h (one_mend {k = j} {next = next} bad r m more) = all_mends_clean j next mended (mends_clean text bad next h m) more

-- what a line becomes has none
pub becomes_clean : (line written : List ℕ) (ending : Ending) → IsClean line → Becomes line written ending → IsClean written
becomes_clean line written ending h (becomes_itself g) = h
becomes_clean line written ending h (becomes_mended bad r short m g) = all_mends_clean 3 line written h m.0
becomes_clean line written ending h (becomes_unreturned g) = each_whole (isnt 10) line (codes ") = ?") h (each_by (isnt 10) (codes ") = ?") refl)
becomes_clean line written ending h (becomes_undone l) = each_whole (isnt 10) unread_mark line (each_by (isnt 10) unread_mark refl) h
becomes_clean line written ending h (becomes_unread never half left none) = each_whole (isnt 10) unread_mark line (each_by (isnt 10) unread_mark refl) h

-- the line of two halves has none
pub joined_clean : (first second : List ℕ) (to behind : ℕ) → IsClean first → IsClean second → IsClean (take to first ++ drop behind second)
joined_clean first second to behind h g =
    let a = each_parts (isnt 10) (take to first) (drop to first) (subst IsClean (sym (take-append-drop to first)) h) in
    let b = each_parts (isnt 10) (take behind second) (drop behind second) (subst IsClean (sym (take-append-drop behind second)) g) in
    each_whole (isnt 10) (take to first) (drop behind second) a.0 b.1

-- the texts have none
abbrev pub AreCleanTexts : List ReadText → Type 0
AreCleanTexts [] = Unit {0}
AreCleanTexts (text ∷ texts) = IsClean text.line.text × AreCleanTexts texts

-- where their lines have none
pub clean_texts : (lines : List Numbered) (texts : List ReadText) → Each IsReadText lines texts → EachLine IsClean (texts_of lines)
    → AreCleanTexts (texts ++ [])
clean_texts [] [] h c = tt
clean_texts (line ∷ lines) (text ∷ texts) h c =
    (subst (λ (l : Numbered). IsClean l.text) (sym h.0.0) c.0, clean_texts lines texts h.1 c.1)
clean_texts lines texts h c = absurd h

-- nor has the line of a part
pub part_clean : (fed : List ReadText) (x : ReadText) (later : List ReadText) (o : Part) → IsClean x.line.text → AreCleanTexts later → HasPart fed x later o
    → IsClean (line_in x.line o)
part_clean fed x later (Front line) c all h =
    subst IsClean (sym h.joins) (joined_clean x.line.text h.second.line.text h.to h.behind c
    (near_each (λ y. IsClean y.line.text) AreCleanTexts (λ y ys a. a) h.process later h.second all h.near))
part_clean fed x later o c all h = c
