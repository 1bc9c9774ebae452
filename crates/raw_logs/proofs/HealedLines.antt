-- A line more is read: the texts so far have one more, or a part waits, or it is left out and counted. Texts are made
-- plain as they come.
use Rattle.std.proofs.Common.{◌≡◌, ◌⊎◌, ℕ, ◌+◌, ◌<◌, ◌≤◌, List, [], ◌∷◌, ◌++◌, length, take, drop, Bool, true, false, Option, Some, None, refl, sym, ap, subst, ◌∙◌, inl, inr}
use Rattle.std.proofs.Common.{arith}
use Rattle.std.proofs.Common.{get_or, take-append-drop}
use Rattle.std.specs.Prelude.{if◌then◌else◌, option_map}
use Rattle.std.proofs.lemmas.List.{append-nil, take_more, get_or-drop, length-drop}
use Rattle.std.proofs.lemmas.Grind.{get_or_default_zero}
use Rattle.std.proofs.lemmas.Bool.{eqb-true, eq-eqb}
use Rattle.memchr.specs.Find.{is_byte, Passes, NoneAfter}
use Rattle.line_parts.specs.Lines.{lines_of}
use Rattle.raw_lines.specs.Marks.{IsMessage, IsStackLine, IsUnread, IsBroken}
use Rattle.raw_logs.specs.declared.counts.Counts.{Counts}
use Rattle.raw_logs.specs.declared.counts.Sort.{Sort}
use Rattle.raw_logs.specs.declared.counts.Sort.TheVariants.{Messages, Stripped, Numbered as OfNumbered}
use Rattle.raw_logs.specs.declared.healing.Changed.{Changed}
use Rattle.raw_logs.specs.declared.healing.Healer.{Healer}
use Rattle.raw_logs.specs.Counting.{no_counts, one_more_of}
use Rattle.raw_logs.specs.Log.{Numbered, IsLog, goes_on, LineKind, CutShort, LeftIn, IsKind, Each, Healed, nothing_healed, is_gap, with_kind, healed_from, IsStripped}
use Rattle.raw_logs.specs.Numbering.{IsRenumbered}
use Rattle.raw_logs.specs.Stages.{part_line, part_of, AreWritten, Takes}
use Rattle.raw_logs.proofs.MadeLines.{each_more, made_none}

-- ---- the lines of a log

-- the bytes up to a last newline are lines, and those behind it are none
log_split : (text : List ℕ) (at : ℕ) → at < length text → is_byte 10 (get_or text at 0) ≡ true
    → ((k : ℕ) → at + 1 ≤ k → k < length text → is_byte 10 (get_or text k 0) ≡ true → ⊥) → IsLog text (lines_of (take (at + 1) text)) (drop (at + 1) text)
log_split text at within is none =
    record {
      whole = take (at + 1) text;
      parts = sym (take-append-drop (at + 1) text);
      ended = inr (take at text, take_more text at 0 within ∙ ap (λ (x : ℕ). take at text ++ (x ∷ [])) (eqb-true (get_or text at 0) 10 is));
      no_newline = λ h.
          let l = length-drop (at + 1) text in
          let e : get_or text (at + 1 + h.0) 0 ≡ 10 =
          sym (get_or-drop (at + 1) text h.0 0) ∙ sym (get_or_default_zero (drop (at + 1) text) h.0 10 h.1) ∙ h.2 in
          none (at + 1 + h.0) (omega arith) (omega (arith, h.1)) (eq-eqb (get_or text (at + 1 + h.0) 0) 10 e);
      are = refl;
    }

-- so are the two parts of a text that is split behind its last newline
pub log_at : (text front back : List ℕ) (at : ℕ) → front ≡ take (at + 1) text → back ≡ drop (at + 1) text
    → NoneAfter (Passes (is_byte 10) text) 0 (length text) at × Passes (is_byte 10) text at → IsLog text (lines_of front) back
log_at text front back at e f h =
    subst (λ (x : List ℕ). IsLog text (lines_of x) back) (sym e)
    (subst (λ (x : List ℕ). IsLog text (lines_of (take (at + 1) text)) x) (sym f) (log_split text at h.0.high h.1 h.0.after))

-- a text without a newline has no line
pub log_cut : (text : List ℕ) → ((k : ℕ) → 0 ≤ k → k < length text → is_byte 10 (get_or text k 0) ≡ true → ⊥) → IsLog text (lines_of []) text
log_cut text none =
    record {
      whole = [];
      parts = refl;
      ended = inl refl;
      no_newline = λ h. none h.0 (omega arith) h.1 (eq-eqb (get_or text h.0 0) 10 (sym (get_or_default_zero text h.0 10 h.1) ∙ h.2));
      are = refl;
    }

-- ---- one line more

healed_more : (number at : ℕ) (h : Healed) (lines : List (List ℕ)) (kinds : List LineKind) (line : List ℕ) (kind : LineKind) → Each IsKind lines kinds
    → at ≡ number + length lines
    → healed_from number h (lines ++ (line ∷ [])) (kinds ++ (kind ∷ [])) ≡ with_kind at line kind (healed_from number h lines kinds)
healed_more number at h [] [] line kind e n = let same : number ≡ at = omega arith in ap (λ (x : ℕ). with_kind x line kind h) same
healed_more number at h (l ∷ lines) (k ∷ kinds) line kind e n =
    healed_more (number + 1) at (with_kind number l k h) lines kinds line kind e.1 (omega arith)
healed_more number at h lines kinds line kind e n = absurd e

-- what was read, in its parts
abbrev state : List Numbered → Option Numbered → Counts → Healed
state texts part counts = record { texts = texts; part = part; counts = counts }

same_state : (texts : List Numbered) (a b : Option Numbered) (m n : Counts) → b ≡ a → n ≡ m → state texts a m ≡ state texts b n
same_state texts a b m n e f = λ i. state texts (sym e i) (sym f i)

-- a line of this kind was read
takes_by : (old next : Healer) (before : List (List ℕ)) (number : ℕ) (text : List ℕ) (kind : LineKind) (texts : List Numbered) → (t : Takes old before)
    → length before + 1 ≡ number → IsKind text kind
    → with_kind number text kind (state t.texts (part_of old) old.counts) ≡ state texts (part_of next) next.counts
    → AreWritten next.written texts → Takes next (before ++ (text ∷ []))
takes_by old next before number text kind texts t n k e p =
    record {
      kinds = t.kinds ++ (kind ∷ []);
      of_kinds = each_more IsKind before t.kinds text kind t.of_kinds k;
      texts = texts;
      is = healed_more 1 number nothing_healed before t.kinds text kind t.of_kinds (omega (arith, n)) ∙ ap (with_kind number text kind) t.is ∙ e;
      written = p;
    }

same_written : (texts : List Numbered) (old next : Changed) → next ≡ old → AreWritten old texts → AreWritten next texts
same_written texts old next e h = subst (λ (x : Changed). AreWritten x texts) (sym e) h

-- nothing was read
pub takes_none : (healer : Healer) → healer.part ≡ None → healer.written.lines ≡ [] → healer.written.plain ≡ no_counts
    → healer.written.numbered ≡ no_counts → healer.counts ≡ no_counts → Takes healer []
takes_none healer p l k m e =
    record {
      kinds = [];
      of_kinds = tt;
      texts = [];
      is = same_state [] None (part_of healer) no_counts healer.counts (ap (option_map part_line) p) e;
      written = record {
        plain = [];
        made = made_none IsStripped Stripped [] healer.written.plain refl k;
        numbers = made_none (IsRenumbered healer.written.numbering) OfNumbered healer.written.lines healer.written.numbered l m;
      };
    }

-- a line was read that is left out and counted
pub takes_counted : (healer next : Healer) (before : List (List ℕ)) (number : ℕ) (text : List ℕ) (kind : LineKind) (sort : Sort) → Takes healer before
    → length before + 1 ≡ number → IsKind text kind → ((h : Healed) → with_kind number text kind h ≡ record h { counts = one_more_of sort h.counts })
    → next.part ≡ healer.part → next.written ≡ healer.written → next.counts ≡ one_more_of sort healer.counts → Takes next (before ++ (text ∷ []))
takes_counted healer next before number text kind sort t n k is p l e =
    takes_by healer next before number text kind t.texts t n k
    (is (state t.texts (part_of healer) healer.counts)
    ∙ same_state t.texts (part_of healer) (part_of next) (one_more_of sort healer.counts) next.counts (ap (option_map part_line) p) e)
    (same_written t.texts healer.written next.written l t.written)

-- a line was read that a message broke
pub takes_broken : (healer next : Healer) (before : List (List ℕ)) (number : ℕ) (text front : List ℕ) → Takes healer before → length before + 1 ≡ number
    → (¬ IsMessage text) → (¬ IsStackLine text) → (¬ IsUnread text) → IsBroken text front
    → part_of next ≡ Some (goes_on (part_of healer) number front) → next.written ≡ healer.written
    → next.counts ≡ one_more_of Messages healer.counts → Takes next (before ++ (text ∷ []))
takes_broken healer next before number text front t n never ns nu b p l e =
    takes_by healer next before number text (CutShort front) t.texts t n (record { no_message = never; no_stack = ns; no_mark = nu; broken = b })
    (same_state t.texts (Some (goes_on (part_of healer) number front)) (part_of next) (one_more_of Messages healer.counts) next.counts p e)
    (same_written t.texts healer.written next.written l t.written)

-- what a line comes to that is left in
left_in : (number : ℕ) (text : List ℕ) (h other : Healed) (gap : Bool) → is_gap h.part text ≡ gap
    → (if gap then h else record h { texts = h.texts ++ (goes_on h.part number text ∷ []); part = None }) ≡ other → with_kind number text LeftIn h ≡ other
left_in number text h other gap g e =
    ap (λ (b : Bool). if b then h else record h { texts = h.texts ++ (goes_on h.part number text ∷ []); part = None }) g ∙ e

-- an empty line was read
pub takes_gap : (healer : Healer) (before : List (List ℕ)) (number : ℕ) (text : List ℕ) → Takes healer before → length before + 1 ≡ number
    → (¬ IsMessage text) → (¬ IsStackLine text) → ((front : List ℕ) → ¬ IsBroken text front) → is_gap (part_of healer) text ≡ true
    → Takes healer (before ++ (text ∷ []))
takes_gap healer before number text t n never ns nb g =
    takes_by healer healer before number text LeftIn t.texts t n (record { no_message = never; no_stack = ns; whole = inr nb })
    (left_in number text (state t.texts (part_of healer) healer.counts) (state t.texts (part_of healer) healer.counts) true g refl) t.written

-- every other line was read
pub takes_line : (healer next : Healer) (before : List (List ℕ)) (number : ℕ) (text : List ℕ) → Takes healer before → length before + 1 ≡ number
    → (¬ IsMessage text) → (¬ IsStackLine text) → IsUnread text ⊎ ((front : List ℕ) → ¬ IsBroken text front) → is_gap (part_of healer) text ≡ false
    → ((texts : List Numbered) → AreWritten healer.written texts → AreWritten next.written (texts ++ (goes_on (part_of healer) number text ∷ [])))
    → part_of next ≡ None → next.counts ≡ healer.counts → Takes next (before ++ (text ∷ []))
takes_line healer next before number text t n never ns whole g made p e =
    let texts = t.texts ++ (goes_on (part_of healer) number text ∷ []) in
    takes_by healer next before number text LeftIn texts t n (record { no_message = never; no_stack = ns; whole = whole })
    (left_in number text (state t.texts (part_of healer) healer.counts) (state texts (part_of next) next.counts) false g
    (same_state texts None (part_of next) healer.counts next.counts p e)) (made t.texts t.written)

-- a text that goes on is written
pub kept_made : (part : Option Numbered) (number : ℕ) (text : List ℕ) (line : Numbered) (old middle next : Changed) → line ≡ goes_on part number text
    → middle ≡ old → ((texts : List Numbered) → AreWritten middle texts → AreWritten next (texts ++ (line ∷ [])))
    → (texts : List Numbered) → AreWritten old texts → AreWritten next (texts ++ (goes_on part number text ∷ []))
kept_made part number text line old middle next e f made texts h =
    subst (λ (x : Numbered). AreWritten next (texts ++ (x ∷ []))) e (made texts (same_written texts old middle f h))

abbrev filled : List ℕ → Type 0
filled [] = ⊥
filled (byte ∷ text) = Unit {0}

-- a line with the mark isn't empty
pub unread_filled : (part : Option Numbered) (text : List ℕ) → IsUnread text → is_gap part text ≡ false
unread_filled (Some part) text u = refl
unread_filled None [] u = absurd (subst filled (sym u.1) tt)
unread_filled None (byte ∷ text) u = refl

-- all lines were read
pub takes_all : (healer : Healer) (whole rest : List ℕ) (before : List (List ℕ)) → Takes healer before → lines_of whole ≡ before ++ lines_of rest
    → rest ≡ [] → Takes healer (lines_of whole)
takes_all healer whole rest before t e none =
    subst (Takes healer) (sym (e ∙ ap (λ (x : List ℕ). before ++ lines_of x) none ∙ append-nil before)) t
