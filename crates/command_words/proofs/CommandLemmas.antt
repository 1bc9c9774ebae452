-- The spellings of the command line are read in one way: an option's first two letters tell which it is, and its name
-- has no `=` in it. Options are asked for one by one: what was asked for so far, with what is left, is what all of them
-- ask.
use Rattle.std.proofs.Common.{◌≡◌, ℕ, ◌+◌, ◌<◌, ◌≤◌, ◌^◌, Bool, true, false, List, [], ◌∷◌, ◌++◌, length, get_or, take, drop, Option, Some, None, inl, inr}
use Rattle.std.proofs.Common.{refl, sym, subst, ap, ◌∙◌, arith, append_assoc, add-one, length-append, codes, option_to_list, unwrap_or, is_some}
use Rattle.std.proofs.Common.{IsNone, IfSome, if◌then◌else◌}
use Rattle.std.proofs.Math.Seq.{drop-cons, take-length}
use Rattle.std.proofs.lemmas.List.{append_cancel_left, take-append-drop, get_or_append_left}
use Rattle.std.proofs.lemmas.List.Sums.{passes_at_first}
use Rattle.std.proofs.lemmas.Bool.{eqb-true}
use Rattle.std.proofs.lemmas.Fmt.{decimal_injective}
use Rattle.std.specs.Fmt.{decimal}
use Rattle.std.specs.Prelude.{◌==◌}
use Rattle.std.specs.List.{filter_map, cons_option, position_or_len, before_first, after_first}
use Rattle.command_words.specs.declared.commands.Asked.{Asked}
use Rattle.command_words.specs.declared.commands.Command.{Command}
use Rattle.command_words.specs.declared.commands.Command.TheVariants.{Play, Load, Check}
use Rattle.command_words.specs.declared.commands.Given.{Given}
use Rattle.command_words.specs.declared.commands.Given.TheVariants.{Opening, Log, Touched, Changes, Differ, Threads, Seed, Calls}
use Rattle.command_words.specs.Spellings.{AreSpellings, Ask}
use Rattle.command_words.specs.Commands.{option_name, number_of, HasNumberInRange, AreWritten, BeginsWithOption, Kind, of_opening, of_log, of_touched}
use Rattle.command_words.specs.Commands.{of_changes, of_differ, of_threads, of_seed, of_calls, value_for, asked_for, DoAsk, IsCommand}
use Rattle.command_words.specs.Commands.{HasRanges, AskFor, IsFlag, IsNamed, IsNumbered}
use Rattle.command_words.proofs.Spellings.{of_option, value_once}

-- the first two letters of an option's name, behind its dashes, as one number
abbrev letter : List ℕ → ℕ
letter word = get_or word 2 0 + get_or word 3 0

-- that of an option's name
abbrev letter_of : Given → ℕ
letter_of Opening = 223
letter_of Log = 219
letter_of Touched = 227
letter_of Changes = 203
letter_of Differ = 205
letter_of (Threads n) = 220
letter_of (Seed n) = 216
letter_of (Calls n) = 196

letter-option_name : (given : Given) → letter (option_name given) ≡ letter_of given
letter-option_name Opening = refl
letter-option_name given = refl

name_is_long : (given : Given) → 3 < length (option_name given)
name_is_long Opening = omega arith
name_is_long given = omega arith

-- the first word of a spelling has the letters of its name
first_letter : (name : List ℕ) (number : Option ℕ) (rest words : List (List ℕ)) → 3 < length name
    → AreWritten name number rest words → letter (get_or words 0 []) ≡ letter name
first_letter name None rest words long e = ap (λ ws. letter (get_or ws 0 [])) e
first_letter name (Some n) rest words long (inl e) = ap (λ ws. letter (get_or ws 0 [])) e
first_letter name (Some n) rest words long (inr e) =
    let within : 3 < length (name ++ codes "=") = simp length-append (omega arith) in
    let third : get_or (name ++ codes "=" ++ decimal n) 2 0 ≡ get_or name 2 0 =
    get_or_append_left (name ++ codes "=") (decimal n) 0 2 (omega (arith, within)) ∙ get_or_append_left name (codes "=") 0 2 (omega (arith, long)) in
    let fourth : get_or (name ++ codes "=" ++ decimal n) 3 0 ≡ get_or name 3 0 =
    get_or_append_left (name ++ codes "=") (decimal n) 0 3 within ∙ get_or_append_left name (codes "=") 0 3 long in
    ap (λ ws. letter (get_or ws 0 [])) e ∙ (let both : letter (name ++ codes "=" ++ decimal n) ≡ letter name = omega (arith, third, fourth) in both)

begins_letter : (given : Given) (rest words : List (List ℕ)) → AreWritten (option_name given) (number_of given) rest words
    → letter (get_or words 0 []) ≡ letter_of given
begins_letter given rest words h = first_letter (option_name given) (number_of given) rest words (name_is_long given) h ∙ letter-option_name given

-- a name with `=` and a value behind it isn't the name
longer : (name value : List ℕ) → name ≡ name ++ codes "=" ++ value → ⊥
longer name value e = let size : length name ≡ length (name ++ codes "=" ++ value) = ap length e in
    let sum : length (name ++ codes "=" ++ value) ≡ length name + 1 + length value = simp length-append refl in omega arith

-- one name is written with one number alone
same_number : (name : List ℕ) (m n : ℕ) (r s words : List (List ℕ)) → m < 2 ^ 64 → n < 2 ^ 64
    → AreWritten name (Some m) r words → AreWritten name (Some n) s words → (m ≡ n) × (r ≡ s)
same_number name m n r s words m_fits n_fits (inl a) (inl b) =
    let e : name ∷ decimal m ∷ r ≡ name ∷ decimal n ∷ s = sym a ∙ b in let text : decimal m ≡ decimal n = cc in (decimal_injective m n m_fits n_fits text, cc)
same_number name m n r s words m_fits n_fits (inl a) (inr b) =
    let e : name ∷ decimal m ∷ r ≡ (name ++ codes "=" ++ decimal n) ∷ s = sym a ∙ b in absurd (longer name (decimal n) (ap (λ ws. get_or ws 0 []) e))
same_number name m n r s words m_fits n_fits (inr a) (inl b) =
    let e : name ∷ decimal n ∷ s ≡ (name ++ codes "=" ++ decimal m) ∷ r = sym b ∙ a in absurd (longer name (decimal m) (ap (λ ws. get_or ws 0 []) e))
same_number name m n r s words m_fits n_fits (inr a) (inr b) =
    let e : (name ++ codes "=" ++ decimal m) ∷ r ≡ (name ++ codes "=" ++ decimal n) ∷ s = sym a ∙ b in
    let first : name ++ codes "=" ++ decimal m ≡ name ++ codes "=" ++ decimal n = ap (λ ws. get_or ws 0 []) e in
    let text : decimal m ≡ decimal n = append_cancel_left (name ++ codes "=") (decimal m) (decimal n) first in
    (decimal_injective m n m_fits n_fits text, ap (drop 1) e)

-- words begin with one option alone, and what is behind it is one rest
pub begins_once : (g h : Given) (r s words : List (List ℕ)) → BeginsWithOption g r words → BeginsWithOption h s words → (g ≡ h) × (r ≡ s)
begins_once Opening Opening r s words b d = (refl, ap (drop 1) (sym b.1 ∙ d.1))
begins_once Log Log r s words b d = (refl, ap (drop 1) (sym b.1 ∙ d.1))
begins_once Touched Touched r s words b d = (refl, ap (drop 1) (sym b.1 ∙ d.1))
begins_once Changes Changes r s words b d = (refl, ap (drop 1) (sym b.1 ∙ d.1))
begins_once Differ Differ r s words b d = (refl, ap (drop 1) (sym b.1 ∙ d.1))
begins_once (Threads m) (Threads n) r s words b d =
    let (same, rest) = same_number (codes "--threads") m n r s words (omega (arith, b.0)) (omega (arith, d.0)) b.1 d.1 in (ap (λ x. Threads x) same, rest)
begins_once (Seed m) (Seed n) r s words b d =
    let (same, rest) = same_number (codes "--seed") m n r s words (omega (arith, b.0)) (omega (arith, d.0)) b.1 d.1 in (ap (λ x. Seed x) same, rest)
begins_once (Calls m) (Calls n) r s words b d =
    let (same, rest) = same_number (codes "--calls") m n r s words (omega (arith, b.0)) (omega (arith, d.0)) b.1 d.1 in (ap (λ x. Calls x) same, rest)
begins_once g h r s words b d = absurd (omega (arith, begins_letter g r words b.1, begins_letter h s words d.1))

-- a name and a number tell one option alone
named_once : (g h : Given) (n : ℕ) → option_name g ≡ option_name h → number_of g ≡ Some n → number_of h ≡ Some n → g ≡ h
named_once Opening Opening n e p q = refl
named_once Log Log n e p q = refl
named_once Touched Touched n e p q = refl
named_once Changes Changes n e p q = refl
named_once Differ Differ n e p q = refl
named_once (Threads a) (Threads b) n e p q = let same : a ≡ b = cc in ap (λ x. Threads x) same
named_once (Seed a) (Seed b) n e p q = let same : a ≡ b = cc in ap (λ x. Seed x) same
named_once (Calls a) (Calls b) n e p q = let same : a ≡ b = cc in ap (λ x. Calls x) same
named_once g h n e p q = absurd (omega (arith, sym (letter-option_name g) ∙ ap letter e ∙ letter-option_name h))

-- the number of an option fits 32 bits
range_fits : (given : Given) (n : ℕ) → HasNumberInRange given → number_of given ≡ Some n → n < 2 ^ 32
range_fits (Threads m) n in_range e = let same : m ≡ n = cc in omega (arith, in_range)
range_fits (Seed m) n in_range e = let same : m ≡ n = cc in omega (arith, in_range)
range_fits (Calls m) n in_range e = let same : m ≡ n = cc in omega (arith, in_range)
range_fits given n in_range e = absurd cc

-- the text of an option's number is the text of one number alone
number_once : (name value : List ℕ) (n : ℕ) → n < 2 ^ 32 → value ≡ decimal n → (given : Given) → IsNumbered name value given → IsNamed name n given
number_once name value n fits text given h = let wide : h.number < 2 ^ 32 = range_fits given h.number h.in_range h.named.1 in
    let same : h.number ≡ n = decimal_injective h.number n (omega arith) (omega arith) (sym h.text ∙ text) in (h.named.0, h.named.1 ∙ ap (λ x. Some x) same)

-- a name of no option is no option's
pub not_named : (name value : List ℕ) (n : ℕ) → n < 2 ^ 32 → value ≡ decimal n → ((given : Given) → IsNamed name n given → ⊥)
    → (given : Given) → IsNumbered name value given → ⊥
not_named name value n fits text none given h = none given (number_once name value n fits text given h)

-- a number out of its option's range is no option's
pub not_in_range : (name value : List ℕ) (n : ℕ) (g : Given) → n < 2 ^ 32 → value ≡ decimal n → IsNamed name n g → (HasNumberInRange g → ⊥)
    → (given : Given) → IsNumbered name value given → ⊥
not_in_range name value n g fits text named out given h = let other = number_once name value n fits text given h in
    let same : given ≡ g = named_once given g n (sym other.0 ∙ named.0) other.1 named.1 in out (subst HasNumberInRange same h.in_range)

-- a byte is `=`
abbrev is_equals : ℕ → Bool
is_equals b = b == 61

-- a name has no `=` in it
no_equals : (given : Given) → position_or_len is_equals (option_name given) ≡ length (option_name given)
no_equals Opening = refl
no_equals given = refl

-- a word is cut at the `=` behind the name
name_before : (given : Given) (value : List ℕ) → before_first is_equals (option_name given ++ codes "=" ++ value) ≡ option_name given
name_before Opening value = refl
name_before given value = refl

value_after : (given : Given) (value : List ℕ) → after_first is_equals (option_name given ++ codes "=" ++ value) ≡ value
value_after Opening value = refl
value_after given value = refl

-- a word is what is before its `=`, the `=` and what is behind it
cut_at_equals : (word : List ℕ) → position_or_len is_equals word < length word → word ≡ before_first is_equals word ++ codes "=" ++ after_first is_equals word
cut_at_equals word within =
    let at = position_or_len is_equals word in
    let is : get_or word at 0 ≡ 61 = eqb-true _ _ (passes_at_first is_equals word 0 within) in
    let rest : drop at word ≡ 61 ∷ drop (at + 1) word = drop-cons word at 0 within ∙ rw (is, add-one) refl in
    sym (take-append-drop at word) ∙ ap (λ ws. take at word ++ ws) rest ∙ sym (append_assoc (take at word) (codes "=") (drop (at + 1) word))

-- an option that takes a number is written, either way
written : (given : Given) (n : ℕ) (rest words : List (List ℕ)) → number_of given ≡ Some n → HasNumberInRange given
    → AreWritten (option_name given) (Some n) rest words → BeginsWithOption given rest words
written given n rest words e in_range h = (in_range, subst (λ number. AreWritten (option_name given) number rest words) (sym e) h)

-- a name and the text of its number, as two words, begin the words with that option
pub apart_begins : (name value : List ℕ) (rest words : List (List ℕ)) (given : Given) → words ≡ name ∷ value ∷ rest
    → IsNumbered name value given → BeginsWithOption given rest words
apart_begins name value rest words given e h = written given h.number rest words h.named.1 h.in_range (inl (e ∙ rw (h.named.0, h.text) refl))

-- a word of a name, `=` and the text of its number begins the words with that option
pub joined_begins : (word name value : List ℕ) (rest words : List (List ℕ)) (given : Given) → words ≡ word ∷ rest
    → name ≡ before_first is_equals word → value ≡ after_first is_equals word → position_or_len is_equals word < length word
    → IsNumbered name value given → BeginsWithOption given rest words
joined_begins word name value rest words given e before after within h =
    let whole : word ≡ option_name given ++ codes "=" ++ decimal h.number = cut_at_equals word within ∙ rw (sym before ∙ h.named.0, sym after ∙ h.text) refl in
    written given h.number rest words h.named.1 h.in_range (inr (e ∙ ap (λ w. w ∷ rest) whole))

-- how words that begin with an option may look
pub data Looks (given : Given) (rest words : List (List ℕ)) : Type 0 where
  as_flag : IsFlag (option_name given) given → words ≡ option_name given ∷ rest → Looks given rest words
  as_two : (n : ℕ) → number_of given ≡ Some n → words ≡ option_name given ∷ decimal n ∷ rest → Looks given rest words
  as_one : (n : ℕ) → number_of given ≡ Some n → words ≡ (option_name given ++ codes "=" ++ decimal n) ∷ rest → Looks given rest words

looks_with : (given : Given) (number : Option ℕ) (rest words : List (List ℕ)) → number_of given ≡ number
    → AreWritten (option_name given) number rest words → Looks given rest words
looks_with given None rest words e h = as_flag (refl, e) h
looks_with given (Some n) rest words e (inl h) = as_two n e h
looks_with given (Some n) rest words e (inr h) = as_one n e h

looks : (given : Given) (rest words : List (List ℕ)) → BeginsWithOption given rest words → Looks given rest words
looks given rest words h = looks_with given (number_of given) rest words refl h.1

-- a word with `=` is no name
not_bare : (given : Given) (word : List ℕ) → word ≡ option_name given → position_or_len is_equals word < length word → ⊥
not_bare given word w within =
    let none = no_equals given in
    let some : position_or_len is_equals (option_name given) < length (option_name given) =
    subst (λ v. position_or_len is_equals v < length v) w within in omega arith

-- a word with `=` that is no option begins none
pub not_joined : (word name value : List ℕ) (behind words : List (List ℕ)) → words ≡ word ∷ behind
    → name ≡ before_first is_equals word → value ≡ after_first is_equals word → position_or_len is_equals word < length word
    → ((given : Given) → IsNumbered name value given → ⊥) → (given : Given) (rest : List (List ℕ)) → BeginsWithOption given rest words → ⊥
not_joined word name value behind words e before after within none given rest begins =
    let head = λ (ws : List (List ℕ)). get_or ws 0 [] in elim (looks given rest words begins) [
      | as_flag h is ↦ absurd (not_bare given word (ap head (sym e ∙ is)) within)
      | as_two n h is ↦ absurd (not_bare given word (ap head (sym e ∙ is)) within)
      | as_one n h is ↦
          let w : word ≡ option_name given ++ codes "=" ++ decimal n = ap head (sym e ∙ is) in
          let p : name ≡ option_name given = before ∙ ap (before_first is_equals) w ∙ name_before given (decimal n) in
          let q : value ≡ decimal n = after ∙ ap (after_first is_equals) w ∙ value_after given (decimal n) in
          none given (record { number = n; named = (p, h); text = q; in_range = begins.0 })
    ]

-- a word without `=` is no option with its number in it
not_one : (given : Given) (n : ℕ) (word : List ℕ) → position_or_len is_equals word ≡ length word → word ≡ option_name given ++ codes "=" ++ decimal n → ⊥
not_one given n word none w =
    let before : before_first is_equals word ≡ option_name given = ap (before_first is_equals) w ∙ name_before given (decimal n) in
    let size : length word ≡ length (option_name given) + 1 + length (decimal n) = ap length w ∙ simp length-append refl in
    let whole : before_first is_equals word ≡ word = rw none (take-length word) in
    let short : length (option_name given) ≡ length word = ap length (sym before ∙ whole) in omega arith

-- a word without `=` that is no flag, and is the last, begins no option
pub not_alone : (word : List ℕ) (words : List (List ℕ)) → words ≡ word ∷ [] → position_or_len is_equals word ≡ length word
    → ((given : Given) → IsFlag word given → ⊥) → (given : Given) (rest : List (List ℕ)) → BeginsWithOption given rest words → ⊥
not_alone word words e no_equals none given rest begins = let head = λ (ws : List (List ℕ)). get_or ws 0 [] in elim (looks given rest words begins) [
  | as_flag h is ↦ none given (ap head (sym e ∙ is), h.1)
  | as_two n h is ↦ let size : length (word ∷ []) ≡ length (option_name given ∷ decimal n ∷ rest) = ap length (sym e ∙ is) in absurd (omega arith)
  | as_one n h is ↦ not_one given n word no_equals (ap head (sym e ∙ is))
]

-- nor does it where no option has its name with the next word as its number
pub not_apart : (word value : List ℕ) (behind words : List (List ℕ)) → words ≡ word ∷ value ∷ behind
    → position_or_len is_equals word ≡ length word → ((given : Given) → IsFlag word given → ⊥)
    → ((given : Given) → IsNumbered word value given → ⊥) → (given : Given) (rest : List (List ℕ)) → BeginsWithOption given rest words → ⊥
not_apart word value behind words e no_equals no_flag none given rest begins =
    let head = λ (ws : List (List ℕ)). get_or ws 0 [] in elim (looks given rest words begins) [
      | as_flag h is ↦ no_flag given (ap head (sym e ∙ is), h.1)
      | as_two n h is ↦
          let w : word ≡ option_name given = ap head (sym e ∙ is) in
          let v : value ≡ decimal n = ap (λ ws. get_or ws 1 []) (sym e ∙ is) in
          none given (record { number = n; named = (w, h); text = v; in_range = begins.0 })
      | as_one n h is ↦ not_one given n word no_equals (ap head (sym e ∙ is))
    ]

-- what was asked for so far, and what these words ask for besides
abbrev pub LeftOver : Asked → List (List ℕ) → Asked → Type 0
LeftOver before words after = Ask BeginsWithOption value_for (λ kind. asked_for kind before) words (λ kind. asked_for kind after)

-- what a flag gives
abbrev flag_list : Bool → List ℕ
flag_list b = if b then 0 ∷ [] else []

of_flag : (b : Bool) → length (flag_list b) ≤ 1
of_flag true = omega arith
of_flag false = omega arith

-- nothing is asked for twice
pub at_most_one : (kind : Kind) (asked : Asked) → length (asked_for kind asked) ≤ 1
at_most_one of_opening asked = of_flag asked.opening
at_most_one of_log asked = of_flag asked.log
at_most_one of_touched asked = of_flag asked.touched
at_most_one of_changes asked = of_flag asked.changes
at_most_one of_differ asked = of_flag asked.differ
at_most_one of_threads asked = of_option asked.threads
at_most_one of_seed asked = of_option asked.seed
at_most_one of_calls asked = of_option asked.calls

-- where no words are left, all was asked for
flag_once : (a b : Bool) → flag_list a ≡ flag_list b → a ≡ b
flag_once true true e = refl
flag_once false false e = refl
flag_once a b e = cc

make : Bool → Bool → Bool → Bool → Bool → Option ℕ → Option ℕ → Option ℕ → Asked
make opening log touched changes differ threads seed calls = record {
  opening = opening;
  log = log;
  touched = touched;
  changes = changes;
  differ = differ;
  threads = threads;
  seed = seed;
  calls = calls;
}

-- what is asked for of each kind is all that is asked for
pub same_asked : (a b : Asked) → ((kind : Kind) → asked_for kind a ≡ asked_for kind b) → a ≡ b
unfolding make
same_asked a b h =
    let o = flag_once a.opening b.opening (h of_opening) in let l = flag_once a.log b.log (h of_log) in
    let p = flag_once a.touched b.touched (h of_touched) in let g = flag_once a.changes b.changes (h of_changes) in
    let d = flag_once a.differ b.differ (h of_differ) in let t = value_once a.threads b.threads (h of_threads) in
    let s = value_once a.seed b.seed (h of_seed) in let c = value_once a.calls b.calls (h of_calls) in λ i.
    make (o i) (l i) (p i) (g i) (d i) (t i) (s i) (c i)

-- no words begin with no option
pub not_empty : (given : Given) (rest : List (List ℕ)) → BeginsWithOption given rest [] → ⊥
not_empty given rest begins =
    elim (looks given rest [] begins) [ as_flag h is ↦ absurd (cc is) | as_two n h is ↦ absurd (cc is) | as_one n h is ↦ absurd (cc is) ]

-- words of which the first is this one, and behind which this is asked for, spell one command
pub spells_once : (first : List ℕ) (behind words : List (List ℕ)) (asked : Asked) (result : Option Command) → words ≡ first ∷ behind
    → ((other : Asked) → DoAsk behind other → Some asked ≡ Some other) → ((command : Command) → IsCommand first asked command → result ≡ Some command)
    → (command : Command) → AskFor words command → result ≡ Some command
spells_once first behind words asked result e asks only command h =
    let both : h.name ∷ h.rest ≡ first ∷ behind = sym h.whole ∙ e in
    let name : h.name ≡ first = ap (λ ws. get_or ws 0 []) both in let rest : h.rest ≡ behind = ap (drop 1) both in
    let options : DoAsk behind h.asked = subst (λ ws. DoAsk ws h.asked) rest h.options in
    let same : h.asked ≡ asked = cc (asks h.asked options) in
    only command (subst (λ a. IsCommand first a command) same (subst (λ n. IsCommand n h.asked command) name h.is))

-- they spell what is asked for
pub spells : (first : List ℕ) (behind words : List (List ℕ)) (asked : Asked) (command : Command) → words ≡ first ∷ behind
    → DoAsk behind asked → IsCommand first asked command → AskFor words command
spells first behind words asked command e options is = record { name = first; rest = behind; whole = e; asked = asked; options = options; is = is }

-- where nothing is asked for by the words behind the first, there is no command
pub spells_none : (first : List ℕ) (behind words : List (List ℕ)) → words ≡ first ∷ behind
    → ((other : Asked) → DoAsk behind other → None ≡ Some other) → (command : Command) → AskFor words command → ⊥
spells_none first behind words e none command h =
    let both : h.name ∷ h.rest ≡ first ∷ behind = sym h.whole ∙ e in
    let options : DoAsk behind h.asked = subst (λ ws. DoAsk ws h.asked) (ap (drop 1) both) h.options in
    let no : None ≡ Some h.asked = none h.asked options in absurd cc

-- the numbers that an option of this kind may be given
abbrev MayBe : Kind → ℕ → Type 0
MayBe of_threads n = (1 ≤ n) × (n ≤ 16)
MayBe of_seed n = n ≤ 2147483647
MayBe of_calls n = n ≤ 1048576
MayBe kind n = Unit {0}

value_in_range : (kind : Kind) (given : Given) (n : ℕ) → HasNumberInRange given → value_for kind given ≡ Some n → MayBe kind n
value_in_range of_opening given n in_range e = tt
value_in_range of_log given n in_range e = tt
value_in_range of_touched given n in_range e = tt
value_in_range of_changes given n in_range e = tt
value_in_range of_differ given n in_range e = tt
value_in_range of_threads (Threads m) n in_range e = let same : m ≡ n = cc in (omega (arith, in_range), omega (arith, in_range))
value_in_range of_seed (Seed m) n in_range e = let same : m ≡ n = cc in omega (arith, in_range)
value_in_range of_calls (Calls m) n in_range e = let same : m ≡ n = cc in omega (arith, in_range)
value_in_range kind given n in_range e = absurd cc

-- what is asked for of a kind is one of its numbers
first_of_value : (kind : Kind) (given : Given) (rest : List ℕ) (n : ℕ) (more : List ℕ) (value : Option ℕ) → HasNumberInRange given
    → value_for kind given ≡ value → (rest ≡ n ∷ more → MayBe kind n) → cons_option value rest ≡ n ∷ more → MayBe kind n
first_of_value kind given rest n more None in_range is later e = later e
first_of_value kind given rest n more (Some m) in_range is later e =
    let same : m ≡ n = cc e in value_in_range kind given n in_range (is ∙ ap (λ x. Some x) same)

first_in_range : (kind : Kind) (given : List Given) (words : List (List ℕ)) (n : ℕ) (more : List ℕ) → AreSpellings BeginsWithOption given words
    → filter_map (value_for kind) given ≡ n ∷ more → MayBe kind n
first_in_range kind [] words n more spelled e = absurd cc
first_in_range kind (given ∷ others) words n more spelled e =
    let begins = spelled.1 in
    first_of_value kind given (filter_map (value_for kind) others) n more (value_for kind given) begins.0 refl
    (first_in_range kind others spelled.0 n more spelled.2) e

asked_in_range : (kind : Kind) (words : List (List ℕ)) (asked : Asked) (n : ℕ) → DoAsk words asked → asked_for kind asked ≡ n ∷ [] → MayBe kind n
asked_in_range kind words asked n h e = first_in_range kind h.given words n [] h.spelled (h.asks kind ∙ e)

threads_in_range : (words : List (List ℕ)) (asked : Asked) (value : Option ℕ) → DoAsk words asked → asked.threads ≡ value
    → (1 ≤ unwrap_or value 1) × (unwrap_or value 1 ≤ 16)
threads_in_range words asked None h e = (omega arith, omega arith)
threads_in_range words asked (Some n) h e = asked_in_range of_threads words asked n h (ap (λ v. option_to_list v) e)

-- the numbers of a command of such words are in their ranges
pub has_ranges : (name : List ℕ) (words : List (List ℕ)) (asked : Asked) → DoAsk words asked → (command : Command)
    → IsCommand name asked command → HasRanges command
has_ranges name words asked h (Play options threads) is =
    let (low, high) = threads_in_range words asked asked.threads h refl in let same = is.6 in (omega arith, omega arith)
has_ranges name words asked h (Load seed threads calls) is =
    let list = λ (v : Option ℕ). option_to_list v in
    let (low, high) = asked_in_range of_threads words asked threads h (ap list is.7) in
    (asked_in_range of_seed words asked seed h (ap list is.6), low, high, asked_in_range of_calls words asked calls h (ap list is.8))
has_ranges name words asked h (Check opening) is = tt

-- what holds of an answer holds in each weaker form
pub some_weaker : (answer : Option Command) (P Q : Command → Type 0) → ((command : Command) → P command → Q command) → IfSome answer P → IfSome answer Q
some_weaker None P Q weaker h = h
some_weaker (Some command) P Q weaker h = weaker command h

-- an answer is one command, and none is no answer
pub one_command : (answer : Option Command) (first other : Command) → answer ≡ Some first → answer ≡ Some other → first ≡ other
one_command answer first other p q = cc (p, q)

-- an answer that is a command isn't none
pub is_answer : (answer : Option Command) (command : Command) → answer ≡ Some command → IsNone answer → ⊥
is_answer answer command p none = let yes : is_some answer ≡ true = ap is_some p in absurd (cc (yes, none))

-- nothing is asked for
abbrev no_options : Asked
no_options = record { opening = false; log = false; touched = false; changes = false; differ = false; threads = None; seed = None; calls = None }

-- at the start nothing was asked for
nothing_asked : (kind : Kind) → asked_for kind no_options ≡ []
nothing_asked of_opening = refl
nothing_asked kind = refl

-- what is left over at the start, where nothing was asked for, is what all words ask for
pub to_all : (words : List (List ℕ)) (after : Asked)
    → LeftOver no_options words after → DoAsk words after
to_all words after h = record {
  given = h.given;
  spelled = h.spelled;
  asks = λ kind. ap (λ xs. xs ++ filter_map (value_for kind) h.given) (sym (nothing_asked kind)) ∙ h.asks kind;
}

-- and what all words ask for is left over at the start
pub from_all : (words : List (List ℕ)) (after : Asked) → DoAsk words after
    → LeftOver no_options words after
from_all words after h = record {
  given = h.given;
  spelled = h.spelled;
  asks = λ kind. ap (λ xs. xs ++ filter_map (value_for kind) h.given) (nothing_asked kind) ∙ h.asks kind;
}
