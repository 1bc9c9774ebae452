-- Where the lines of a text are cut: the log is told by the lines alone, and a right line of the log splits its
-- entries.
use Rattle.std.specs.Prelude.{All, AllPairs, IfSome, slice_get}
use Rattle.std.specs.List.{AllZip}
use Rattle.std.proofs.Common.{◌≡◌, ℕ, ◌+◌, ◌<◌, List, [], ◌∷◌, ◌++◌, length, get_or, drop, refl, sym, ap, ◌∙◌, subst, arith, append_assoc, length-append}
use Rattle.std.proofs.lemmas.List.{append-nil, get_or_append_left}
use Rattle.std.proofs.lemmas.List.Elements.{All-head, All-tail}
use Rattle.space_model.specs.declared.areas.Area.{Area}
use Rattle.space_model.specs.declared.entries.Entry.{Entry}
use Rattle.space_model.specs.History.{FitsAndReplies, HasRightReply, IsNumberedFrom, Runs, StateAfter}
use Rattle.space_model.proofs.Histories.{chains_split, chains_weaker, one_state, replied_state}
use Rattle.round_trip.proofs.LogsRead.{cut_line}
use Rattle.history_check.specs.Logs.{AreRight, WorkersRise}
use Rattle.history_check.specs.LogLines.{BeginsLog, IsLogLine}
use Rattle.history_check.specs.Checking.{IsInPlace}

-- ---- lists of lines

-- equal lists have equal first lines
pub head_is : (l m : List ℕ) (ls ms : List (List ℕ)) → l ∷ ls ≡ m ∷ ms → l ≡ m
head_is l m ls ms e = ap (λ xs. get_or xs 0 []) e

-- and equal others
pub tail_is : (l m : List ℕ) (ls ms : List (List ℕ)) → l ∷ ls ≡ m ∷ ms → ls ≡ ms
tail_is l m ls ms e = ap (drop 1) e

-- there is no first line, or it begins as none of a log
abbrev pub BeginsNoLog : List (List ℕ) → Type 0
BeginsNoLog lines = IfSome (slice_get lines 0) (λ line. ¬ BeginsLog line)

-- lines that begin as those of a log, and then a rest: there is one such cut
pub one_cut : (log rest log' rest' : List (List ℕ)) → log ++ rest ≡ log' ++ rest' → All BeginsLog log → All BeginsLog log'
    → BeginsNoLog rest → BeginsNoLog rest' → (log ≡ log') × (rest ≡ rest')
one_cut [] rest [] rest' e a b ended ended' = (refl, e)
one_cut [] rest (m ∷ log') rest' e a b ended ended' = absurd (subst BeginsNoLog e ended (All-head BeginsLog m log' b))
one_cut (l ∷ log) rest [] rest' e a b ended ended' = absurd (subst BeginsNoLog (sym e) ended' (All-head BeginsLog l log a))
one_cut (l ∷ log) rest (m ∷ log') rest' e a b ended ended' =
    let first = head_is l m (log ++ rest) (log' ++ rest') e in
    let others = one_cut log rest log' rest' (tail_is l m (log ++ rest) (log' ++ rest') e) (All-tail BeginsLog l log a)
    (All-tail BeginsLog m log' b) ended ended' in ((λ i. first i ∷ others.0 i), others.1)

-- lines at the front of a text that all begin as those of a log are in its log
pub in_log : (log rest front : List (List ℕ)) (text : List ℕ) (behind : List (List ℕ)) → log ++ rest ≡ front ++ text ∷ behind
    → BeginsNoLog rest → All BeginsLog (front ++ text ∷ []) → (more : List (List ℕ)) × (log ≡ front ++ text ∷ more)
in_log [] rest [] text behind e ended all = absurd (subst BeginsNoLog e ended (All-head BeginsLog text [] all))
in_log [] rest (f ∷ front) text behind e ended all = absurd (subst BeginsNoLog e ended (All-head BeginsLog f (front ++ text ∷ []) all))
in_log (l ∷ log) rest [] text behind e ended all = let first = head_is l text (log ++ rest) behind e in (log, λ i. first i ∷ log)
in_log (l ∷ log) rest (f ∷ front) text behind e ended all =
    let first = head_is l f (log ++ rest) (front ++ text ∷ behind) e in
    let others = in_log log rest front text behind (tail_is l f (log ++ rest) (front ++ text ∷ behind) e) ended
    (All-tail BeginsLog f (front ++ text ∷ []) all) in (others.0, λ i. first i ∷ others.1 i)

-- how two places in one text lie to each other
pub data Places (front : List (List ℕ)) (text : List ℕ) (front' : List (List ℕ)) (text' : List ℕ) : Type 0 where
  one_place : front ≡ front' → text ≡ text' → Places front text front' text'
  first_earlier : (more : List (List ℕ)) → front' ≡ front ++ text ∷ more → Places front text front' text'
  first_later : (more : List (List ℕ)) → front ≡ front' ++ text' ∷ more → Places front text front' text'

more_on : (l : List ℕ) (front : List (List ℕ)) (text : List ℕ) (front' : List (List ℕ)) (text' : List ℕ) (m : List ℕ) → l ≡ m
    → Places front text front' text' → Places (l ∷ front) text (m ∷ front') text'
more_on l front text front' text' m e (one_place a b) = one_place (λ i. e i ∷ a i) b
more_on l front text front' text' m e (first_earlier more a) = first_earlier more (λ i. sym e i ∷ a i)
more_on l front text front' text' m e (first_later more a) = first_later more (λ i. e i ∷ a i)

-- it is one place, or one of them is before the other
pub places : (front : List (List ℕ)) (text : List ℕ) (rest front' : List (List ℕ)) (text' : List ℕ) (rest' : List (List ℕ))
    → front ++ text ∷ rest ≡ front' ++ text' ∷ rest' → Places front text front' text'
places [] text rest [] text' rest' e = one_place refl (head_is text text' rest rest' e)
places [] text rest (f ∷ front') text' rest' e = let first = head_is text f rest (front' ++ text' ∷ rest') e in first_earlier front' (λ i. sym first i ∷ front')
places (f ∷ front) text rest [] text' rest' e = let first = head_is f text' (front ++ text ∷ rest) rest' e in first_later front (λ i. first i ∷ front)
places (f ∷ front) text rest (g ∷ front') text' rest' e = more_on f front text front' text' g (head_is f g (front ++ text ∷ rest) (front' ++ text' ∷ rest') e)
    (places front text rest front' text' rest' (tail_is f g (front ++ text ∷ rest) (front' ++ text' ∷ rest') e))

-- ---- entries of right lines

-- a line is that of one entry
pub one_entry : (text : List ℕ) (e f : Entry) → IsLogLine text e → IsLogLine text f → e ≡ f
one_entry text e f a b = (cut_line e f [] [] a.0.words b.0.words a.0.named b.0.named (append-nil _ ∙ sym a.1 ∙ b.1 ∙ sym (append-nil _))).0

-- lines are those of one list of entries
pub one_list : (lines : List (List ℕ)) (es fs : List Entry) → AllZip IsLogLine lines es → AllZip IsLogLine lines fs → es ≡ fs
one_list [] [] [] a b = refl
one_list [] [] (f ∷ fs) a b = absurd b
one_list [] (e ∷ es) fs a b = absurd a
one_list (l ∷ lines) [] fs a b = absurd a
one_list (l ∷ lines) (e ∷ es) [] a b = absurd b
one_list (l ∷ lines) (e ∷ es) (f ∷ fs) a b = let first = one_entry l e f a.0 b.0 in let others = one_list lines es fs a.1 b.1 in λ i. first i ∷ others i

-- right lines have one list of entries, which leaves one list of areas
pub one_right : (A : List Area) (lines : List (List ℕ)) (es fs : List Entry) (B C : List Area) → AreRight A lines es B → AreRight A lines fs C
    → (es ≡ fs) × (B ≡ C)
one_right A lines es fs B C a b = let same = one_list lines es fs a.spelled b.spelled in
    (same, one_state A fs B C (subst (λ xs. StateAfter A xs B) same (left A es B a.runs)) (left A fs C b.runs))
  where
    left : (A : List Area) (entries : List Entry) (B : List Area) → Runs 0 A entries B → StateAfter A entries B
    left A entries B r = replied_state A entries B (chains_weaker FitsAndReplies HasRightReply (λ C e D h. h.1) A entries B r.1)

-- ---- a right line among others

-- lines with one at a place split their entries
pub record Split (front : List (List ℕ)) (text : List ℕ) (entries : List Entry) : Type 0 where
  pub before : List Entry
  pub entry : Entry
  pub after : List Entry
  pub whole : entries ≡ before ++ entry ∷ after
  pub front_lines : AllZip IsLogLine front before
  pub line : IsLogLine text entry

-- the entry of the line at a place, and those before it
pub split_lines : (front : List (List ℕ)) (text : List ℕ) (more : List (List ℕ)) (entries : List Entry) → AllZip IsLogLine (front ++ text ∷ more) entries
    → Split front text entries
split_lines [] text more [] a = absurd a
split_lines [] text more (e ∷ es) a = record { before = []; entry = e; after = es; whole = refl; front_lines = tt; line = a.0 }
split_lines (f ∷ front) text more [] a = absurd a
split_lines (f ∷ front) text more (e ∷ es) a =
    let s = split_lines front text more es a.1 in record {
      before = e ∷ s.before;
      entry = s.entry;
      after = s.after;
      whole = λ i. e ∷ s.whole i;
      front_lines = (a.0, s.front_lines);
      line = s.line;
    }

-- the numbers of entries that are split
numbered_split : (n : ℕ) (before : List Entry) (e : Entry) (after : List Entry) → IsNumberedFrom n (before ++ e ∷ after)
    → IsNumberedFrom n before × (e.number ≡ n + length before)
numbered_split n [] e after a = (tt, omega (arith, a.0))
numbered_split n (b ∷ before) e after a = let others = numbered_split (n + 1) before e after a.1 in ((a.0, others.0), omega (arith, others.1))

-- what holds of all pairs of a list holds of those of its front
pairs_front : {X : Type 0} (R : X → X → Type 0) (xs ys : List X) → AllPairs R (xs ++ ys) → AllPairs R xs
pairs_front R xs ys all i j d below within =
    let long = length-append xs ys in let first = get_or_append_left xs ys d i (omega (arith, below, within)) in
    let second = get_or_append_left xs ys d j within in
    subst (λ y. R (get_or xs i d) y) second (subst (λ x. R x (get_or (xs ++ ys) j d)) first (all i j d below (omega (arith, long, within))))

-- the line numbers of a front rise
pub rise_front : (xs ys : List Entry) → WorkersRise (xs ++ ys) → WorkersRise xs
rise_front = pairs_front (λ one other. one.worker ≡ other.worker → one.line < other.line)

-- an entry that goes on rightly behind those before it
pub record GoesOn (A : List Area) (front : List (List ℕ)) (text : List ℕ) (before : List Entry) (e : Entry) : Type 0 where
  pub state : List Area
  pub next : List Area
  pub right : AreRight A front before state
  pub line : IsLogLine text e
  pub place : IsInPlace before e
  pub step : FitsAndReplies state e next

-- the entry of each right line goes on rightly behind those before it
pub right_split : (A : List Area) (front : List (List ℕ)) (text : List ℕ) (more : List (List ℕ)) (entries : List Entry) (B : List Area)
    → AreRight A (front ++ text ∷ more) entries B → (before : List Entry) × (e : Entry) × GoesOn A front text before e
right_split A front text more entries B r =
    let s = split_lines front text more entries r.spelled in let runs = subst (λ es. Runs 0 A es B) s.whole r.runs in
    let rise = subst WorkersRise s.whole r.rise in let numbers = numbered_split 0 s.before s.entry s.after runs.0 in
    let chain = chains_split FitsAndReplies A s.before (s.entry ∷ s.after) B runs.1 in
    let rise_on = subst WorkersRise (sym (append_assoc s.before (s.entry ∷ []) s.after)) rise in (
      s.before,
      s.entry,
      record {
        state = chain.0;
        next = chain.2.0;
        right = record { spelled = s.front_lines; runs = (numbers.0, chain.1); rise = rise_front s.before (s.entry ∷ s.after) rise };
        line = s.line;
        place = record { number = omega (arith, numbers.1); order = rise_front (s.before ++ s.entry ∷ []) s.after rise_on };
        step = chain.2.1;
      },
    )
