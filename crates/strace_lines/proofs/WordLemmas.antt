-- The spellings of the command line are read in one way. Options are asked for one by one: what was asked for so far,
-- with what is left, is what all of them ask.
use Rattle.std.proofs.Common.{◌≡◌, ℕ, ◌+◌, ◌<◌, ◌^◌, List, [], ◌∷◌, ◌++◌, length, get_or, drop, Bool, true, false, Option, Some, None, codes}
use Rattle.std.proofs.Common.{arith, inl, inr, refl, sym, subst, ap, ◌∙◌, length-append, map, take, Contains, ◌≤◌}
use Rattle.std.proofs.lemmas.List.{append_cancel_left, get_or-map, length-map, map_more, take_all}
use Rattle.std.proofs.lemmas.List.Elements.{Contains-get_or, Contains-push_cases}
use Rattle.std.proofs.lemmas.Fmt.{decimal_injective}
use Rattle.std.specs.Fmt.{decimal}
use Rattle.std.specs.List.{filter_map}
use Rattle.command_words.specs.Spellings.{Ask}
use Rattle.command_words.proofs.Spellings.{of_option, value_once}
use Rattle.strace_lines.specs.declared.words.Given.{Given}
use Rattle.strace_lines.specs.declared.words.Given.TheVariants.{Strict, Process}
use Rattle.strace_lines.specs.declared.words.Options.{Options}
use Rattle.strace_lines.specs.declared.words.Asked.{Asked}
use Rattle.strace_lines.specs.declared.words.Asked.TheVariants.{Help, Rewrite}
use Rattle.strace_lines.specs.Words.{BeginsWithOption, Kind, of_strict, of_process, value_for, flag_list, asked_for, AskToRewrite, AskFor, IsAsked, AskForHelp, AskForOne}

-- ---- help

-- the text of a word is among those of the words
pub among : {X : Type 0} (f : X → List ℕ) (words : List X) (k : ℕ) (word : X) (text : List ℕ) → k < length words → word ≡ get_or words k word
    → f word ≡ text → Contains (map f words) text
among f words k word text within is same =
    subst (Contains (map f words)) (get_or-map f words k word [] within ∙ ap f (sym is) ∙ same)
    (Contains-get_or (map f words) k [] (simp length-map within))

-- a text that is neither among some nor the next one isn't among them both
not_more : (texts : List (List ℕ)) (next text : List ℕ) → (Contains texts text → ⊥) → (next ≡ text → ⊥) → Contains (texts ++ next ∷ []) text → ⊥
not_more texts next text none other h =
    elim (Contains-push_cases texts next text h) [
      | inl k ↦ none k
      | inr e ↦ other e
    ]

-- where no word so far asks for help, nor does this one, none up to it does
pub not_yet : {X : Type 0} (f : X → List ℕ) (words : List X) (k : ℕ) (word : X) → k < length words → word ≡ get_or words k word
    → (AskForHelp (map f (take k words)) → ⊥) → (f word ≡ codes "--help" → ⊥) → (f word ≡ codes "-h" → ⊥)
    → AskForHelp (map f (take (k + 1) words)) → ⊥
not_yet f words k word within is none first second h =
    let list : map f (take (k + 1) words) ≡ map f (take k words) ++ f word ∷ [] =
    map_more f words k word within ∙ ap (λ (w : List ℕ). map f (take k words) ++ w ∷ []) (ap f (sym is)) in
    elim h [
      | inl a ↦ not_more (map f (take k words)) (f word) (codes "--help") (λ x. none (inl x)) first
          (subst (λ (ws : List (List ℕ)). Contains ws (codes "--help")) list a)
      | inr b ↦ not_more (map f (take k words)) (f word) (codes "-h") (λ x. none (inr x)) second
          (subst (λ (ws : List (List ℕ)). Contains ws (codes "-h")) list b)
    ]

-- where no word asks for help, they don't
pub not_at_all : {X : Type 0} (f : X → List ℕ) (words : List X) (k : ℕ) → length words ≤ k → (AskForHelp (map f (take k words)) → ⊥)
    → AskForHelp (map f words) → ⊥
not_at_all f words k past none h = none (subst (λ ws. AskForHelp (map f ws)) (sym (take_all k words past)) h)

-- ---- how words begin

-- how words that begin with an option may look
pub data Looks (given : Given) (rest : List (List ℕ)) (word : List ℕ) (behind : List (List ℕ)) : Type 0 where
  as_flag : given ≡ Strict → word ≡ codes "--strict" → Looks given rest word behind
  as_two : (n : ℕ) → n < 2 ^ 32 → word ≡ codes "--process" → behind ≡ decimal n ∷ rest → Looks given rest word behind
  as_one : (n : ℕ) → n < 2 ^ 32 → word ≡ codes "--process=" ++ decimal n → Looks given rest word behind

looks : (given : Given) (rest words : List (List ℕ)) (word : List ℕ) (behind : List (List ℕ)) → words ≡ word ∷ behind
    → BeginsWithOption given rest words → Looks given rest word behind
looks Strict rest words word behind e h = as_flag refl (ap (λ (ws : List (List ℕ)). get_or ws 0 []) (sym e ∙ h))
looks (Process n) rest words word behind e (fits, inl h) =
    as_two n fits (ap (λ (ws : List (List ℕ)). get_or ws 0 []) (sym e ∙ h)) (ap (drop 1) (sym e ∙ h))
looks (Process n) rest words word behind e (fits, inr h) = as_one n fits (ap (λ (ws : List (List ℕ)). get_or ws 0 []) (sym e ∙ h))

-- the flag is no spelling of a process
flag_letter : (rest : List ℕ) → codes "--strict" ≡ codes "--process" ++ rest → ⊥
flag_letter rest e = let letter : ◌≡◌ {A = ℕ} 115 112 = ap (λ (xs : List ℕ). get_or xs 2 0) e in omega arith

-- nor is the name of a process with `=` behind it the name
name_length : (rest : List ℕ) → codes "--process" ≡ codes "--process=" ++ rest → ⊥
name_length rest e =
    let size : length (codes "--process") ≡ length (codes "--process=" ++ rest) = ap length e in
    let sum : length (codes "--process=" ++ rest) ≡ 10 + length rest = simp length-append refl in
    omega arith

-- a word of the name, `=` and what is no number begins no option
pub not_joined : (word value : List ℕ) (behind words : List (List ℕ)) → words ≡ word ∷ behind → word ≡ codes "--process=" ++ value
    → ((n : ℕ) → n < 2 ^ 32 → value ≡ decimal n → ⊥) → (given : Given) (rest : List (List ℕ)) → BeginsWithOption given rest words → ⊥
not_joined word value behind words e w none given rest begins =
    elim (looks given rest words word behind e begins) [
      | as_flag e is ↦ flag_letter (codes "=" ++ value) (sym is ∙ w)
      | as_two n fits is same ↦ name_length value (sym is ∙ w)
      | as_one n fits is ↦ none n fits (append_cancel_left (codes "--process=") value (decimal n) (sym w ∙ is))
    ]

-- a word that is no name of an option, and no name of a process with `=` behind it, begins none
pub not_named : (word : List ℕ) (behind words : List (List ℕ)) → words ≡ word ∷ behind → (word ≡ codes "--strict" → ⊥)
    → (word ≡ codes "--process" → ⊥) → ((value : List ℕ) → word ≡ codes "--process=" ++ value → ⊥)
    → (given : Given) (rest : List (List ℕ)) → BeginsWithOption given rest words → ⊥
not_named word behind words e no_flag no_name no_joined given rest begins =
    elim (looks given rest words word behind e begins) [
      | as_flag e is ↦ no_flag is
      | as_two n fits is same ↦ no_name is
      | as_one n fits is ↦ no_joined (decimal n) is
    ]

-- the name of a process behind which no number stands begins no option
pub not_apart : (word : List ℕ) (behind words : List (List ℕ)) → words ≡ word ∷ behind → word ≡ codes "--process"
    → ((n : ℕ) (rest : List (List ℕ)) → n < 2 ^ 32 → behind ≡ decimal n ∷ rest → ⊥)
    → (given : Given) (rest : List (List ℕ)) → BeginsWithOption given rest words → ⊥
not_apart word behind words e w none given rest begins =
    elim (looks given rest words word behind e begins) [
      | as_flag e is ↦ flag_letter [] (sym is ∙ w)
      | as_two n fits is same ↦ none n rest fits same
      | as_one n fits is ↦ name_length (decimal n) (sym w ∙ is)
    ]

-- the name of a process and the text of its number begin the words with that option
pub apart_begins : (word value : List ℕ) (rest words : List (List ℕ)) (n : ℕ) → words ≡ word ∷ value ∷ rest → word ≡ codes "--process"
    → value ≡ decimal n → n < 2 ^ 32 → BeginsWithOption (Process n) (drop 2 words) words
apart_begins word value rest words n e w v fits = (fits, inl (e ∙ (λ i. w i ∷ v i ∷ sym (ap (drop 2) e) i)))

-- no words begin with no option
pub not_empty : (given : Given) (rest : List (List ℕ)) → BeginsWithOption given rest [] → ⊥
not_empty Strict rest e = absurd (cc e)
not_empty (Process n) rest (fits, inl e) = absurd (cc e)
not_empty (Process n) rest (fits, inr e) = absurd (cc e)

-- one number has one text
same_process : (m n : ℕ) → m < 2 ^ 32 → n < 2 ^ 32 → decimal m ≡ decimal n → Process m ≡ Process n
same_process m n a b e = ap (λ (x : ℕ). Process x) (decimal_injective m n (omega (arith, a)) (omega (arith, b)) e)

-- words begin with one option alone, and what is behind it is one rest
pub begins_once : (g h : Given) (r s words : List (List ℕ)) → BeginsWithOption g r words → BeginsWithOption h s words → (g ≡ h) × (r ≡ s)
begins_once Strict Strict r s words b d = (refl, ap (drop 1) (sym b ∙ d))
begins_once Strict (Process n) r s words b (fits, inl d) =
    absurd (flag_letter [] (ap (λ (ws : List (List ℕ)). get_or ws 0 []) (sym b ∙ d)))
begins_once Strict (Process n) r s words b (fits, inr d) =
    absurd (flag_letter (codes "=" ++ decimal n) (ap (λ (ws : List (List ℕ)). get_or ws 0 []) (sym b ∙ d)))
begins_once (Process n) Strict r s words (fits, inl b) d =
    absurd (flag_letter [] (ap (λ (ws : List (List ℕ)). get_or ws 0 []) (sym d ∙ b)))
begins_once (Process n) Strict r s words (fits, inr b) d =
    absurd (flag_letter (codes "=" ++ decimal n) (ap (λ (ws : List (List ℕ)). get_or ws 0 []) (sym d ∙ b)))
begins_once (Process m) (Process n) r s words (f, inl b) (k, inl d) =
    (same_process m n f k (ap (λ (ws : List (List ℕ)). get_or ws 1 []) (sym b ∙ d)), ap (drop 2) (sym b ∙ d))
begins_once (Process m) (Process n) r s words (f, inl b) (k, inr d) =
    absurd (name_length (decimal n) (ap (λ (ws : List (List ℕ)). get_or ws 0 []) (sym b ∙ d)))
begins_once (Process m) (Process n) r s words (f, inr b) (k, inl d) =
    absurd (name_length (decimal m) (ap (λ (ws : List (List ℕ)). get_or ws 0 []) (sym d ∙ b)))
begins_once (Process m) (Process n) r s words (f, inr b) (k, inr d) = (
  same_process m n f k (append_cancel_left (codes "--process=") (decimal m) (decimal n)
      (ap (λ (ws : List (List ℕ)). get_or ws 0 []) (sym b ∙ d))),
  ap (drop 1) (sym b ∙ d),
)

-- ---- what is left over

-- what was asked for so far, and what these words ask for besides
abbrev pub LeftOver : Options → List (List ℕ) → Option ℕ → Bool → Type 0
LeftOver before words process strict = Ask BeginsWithOption value_for (λ kind. asked_for kind before) words
    (λ kind. asked_for kind (record { process = process; strict = strict }))

-- what is left over at the start is what all words ask for
pub to_all : (words : List (List ℕ)) (process : Option ℕ) (strict : Bool) → LeftOver (record { process = None; strict = false }) words process strict
    → AskToRewrite words process strict
to_all words process strict h = record { given = h.given; spelled = h.spelled; asks = λ kind. start kind (filter_map (value_for kind) h.given) ∙ h.asks kind }
  where
    start : (kind : Kind) (xs : List ℕ) → xs ≡ asked_for kind (record { process = None; strict = false }) ++ xs
    start of_strict xs = refl
    start of_process xs = refl

-- and what all words ask for is left over at the start
pub from_all : (words : List (List ℕ)) (process : Option ℕ) (strict : Bool) → AskToRewrite words process strict
    → LeftOver (record { process = None; strict = false }) words process strict
from_all words process strict h = record { given = h.given; spelled = h.spelled; asks = λ kind. start kind (filter_map (value_for kind) h.given) ∙ h.asks kind }
  where
    start : (kind : Kind) (xs : List ℕ) → asked_for kind (record { process = None; strict = false }) ++ xs ≡ xs
    start of_strict xs = refl
    start of_process xs = refl

-- an option that was asked for already, by its kind and what it gives
pub record IsAgain (before : Options) (given : Given) : Type 0 where
  pub kind : Kind
  pub value : ℕ
  pub gives : value_for kind given ≡ Some value
  pub already : 0 < length (asked_for kind before)

again : (strict : Bool) (process : Option ℕ) (given : Given) → IsAsked (record { process = process; strict = strict }) given
    → IsAgain (record { process = process; strict = strict }) given
again true process Strict h = record { kind = of_strict; value = 0; gives = refl; already = omega arith }
again false process Strict h = absurd (cc h)
again strict (Some m) (Process n) h = record { kind = of_process; value = n; gives = refl; already = omega arith }
again strict None (Process n) h = absurd (cc h)

-- it is of a kind of which one was asked for
pub is_again : (before : Options) (given : Given) → IsAsked before given → IsAgain before given
is_again before given h = again before.strict before.process given h

-- nothing is asked for twice
pub at_most_one : (kind : Kind) (options : Options) → length (asked_for kind options) ≤ 1
at_most_one of_strict options = of_flag options.strict
  where
    of_flag : (flag : Bool) → length (flag_list flag) ≤ 1
    of_flag true = omega arith
    of_flag false = omega arith
at_most_one of_process options = of_option options.process

flag_once : (a b : Bool) → flag_list a ≡ flag_list b → a ≡ b
flag_once true true e = refl
flag_once true false e = cc
flag_once false true e = cc
flag_once false false e = refl

-- what is asked for of each kind is all that is asked for
pub same_options : (a b : Options) → ((kind : Kind) → asked_for kind a ≡ asked_for kind b) → a ≡ b
same_options a b h =
    let process = value_once a.process b.process (h of_process) in
    let strict = flag_once a.strict b.strict (h of_strict) in
    λ i. record { process = process i; strict = strict i }

-- ---- what is asked for

-- options that are asked for are all that the words ask for, where they don't ask for help
pub options_only : (words : List (List ℕ)) (options : Options) → (AskForHelp words → ⊥)
    → ((process : Option ℕ) (strict : Bool) → AskToRewrite words process strict → Some options ≡ Some (record { process = process; strict = strict }))
    → (asked : Asked) → AskFor words asked → Rewrite options.process options.strict ≡ asked
options_only words options none only Help h = absurd (none h)
options_only words options none only (Rewrite process strict) h =
    let e : Some options ≡ Some (record { process = process; strict = strict }) = only process strict h.1 in
    let same : options ≡ record { process = process; strict = strict } = cc in
    ap (λ (o : Options). Rewrite o.process o.strict) same

-- words that ask neither for help nor for options are refused
pub options_none : (words : List (List ℕ)) → (AskForHelp words → ⊥)
    → ((process : Option ℕ) (strict : Bool) → AskToRewrite words process strict
    → ◌≡◌ {A = Option Options} None (Some (record { process = process; strict = strict })))
    → (asked : Asked) → AskFor words asked → ⊥
options_none words none only Help h = none h
options_none words none only (Rewrite process strict) h =
    let e : ◌≡◌ {A = Option Options} None (Some (record { process = process; strict = strict })) = only process strict h.1 in absurd cc

-- what is all that the words ask for is one thing
pub asks_one : (words : List (List ℕ)) (answer : Asked) → ((asked : Asked) → AskFor words asked → answer ≡ asked) → AskForOne words
asks_one words answer only first other a b = sym (only first a) ∙ only other b
