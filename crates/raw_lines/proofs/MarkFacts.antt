-- Messages of strace: where the first space of a line and the digits before a verb stand, a message has its parts.
use Rattle.std.proofs.Common.{◌≡◌, ◌≢◌, ◌⊎◌, ℕ, ◌+◌, ◌<◌, ◌≤◌, List, [], ◌∷◌, ◌++◌, length, take, drop, codes, Bool, true, false, refl, sym, ap, subst, ◌∙◌}
use Rattle.std.proofs.Common.{append_assoc, inl, inr, arith, get_or}
use Rattle.std.specs.Prelude.{if◌then◌else◌}
use Rattle.std.proofs.lemmas.List.{append_cancel_right, length-append}
use Rattle.line_parts.specs.Leaves.{EachIs, AllDigits, worth, value}
use Rattle.strace_reader.specs.Grammar.{EndsWith}
use Rattle.strace_reader.proofs.FormFacts.{last_same}
use Rattle.memchr.specs.Find.{is_byte}
use Rattle.raw_lines.specs.Marks.{IsMessage, IsVerb, IsBroken}
use Rattle.raw_lines.proofs.Searches.{isnt, each_parts, each_whole, at_byte, each_at, first_same, digits_end_same}

-- ---- tests of whole texts

-- whether each byte passes the test
abbrev pub all_are : (ℕ → Bool) → List ℕ → Bool
all_are test [] = true
all_are test (b ∷ text) = if test b then all_are test text else false

both_true : (x y : Bool) → (if x then y else false) ≡ true → (x ≡ true) × (y ≡ true)
both_true true y h = (refl, h)
both_true false y h = absurd cc

-- where a test computes to true for each byte, each passes it
pub each_by : (test : ℕ → Bool) (text : List ℕ) → all_are test text ≡ true → EachIs test text
each_by test [] h = tt
each_by test (b ∷ text) h = let k = both_true (test b) (all_are test text) h in (k.0, each_by test text k.1)

-- ---- a message on a line of its own

-- the line up to its first space, where a message stands
pub message_yes : (text path : List ℕ) (k : ℕ) → k < length text → is_byte 32 (get_or text k 0) ≡ true → EachIs (isnt 32) (take k text)
    → take k text ≡ path ++ codes "strace:" → ((path ≡ []) ⊎ EndsWith (codes "/") path) → IsMessage text
message_yes text path k within is each e folder =
    let s = each_parts (isnt 32) path (codes "strace:") (subst (EachIs (isnt 32)) e each) in (
      path,
      drop (k + 1) text,
      (s.0, folder),
      at_byte 32 text k within is ∙ ap (λ x. x ++ (32 ∷ drop (k + 1) text)) e ∙ append_assoc path (codes "strace:") (32 ∷ drop (k + 1) text),
    )

message_head : (text : List ℕ) → (h : IsMessage text) → text ≡ (h.0 ++ codes "strace:") ++ (32 ∷ h.1)
message_head text h = h.3 ∙ sym (append_assoc h.0 (codes "strace:") (32 ∷ h.1))

message_word : (text : List ℕ) → (h : IsMessage text) → EachIs (isnt 32) (h.0 ++ codes "strace:")
message_word text h = each_whole (isnt 32) h.0 (codes "strace:") h.2.0 (each_by (isnt 32) (codes "strace:") refl)

-- a text without a space is no message
pub message_none : (text : List ℕ) → EachIs (isnt 32) text → IsMessage text → ⊥
message_none text each h = each_at 32 (h.0 ++ codes "strace:") h.1 (subst (EachIs (isnt 32)) (message_head text h) each)

-- before the first space of a message stands its folder and the program's name
pub message_cut : (text : List ℕ) (k : ℕ) → k < length text → is_byte 32 (get_or text k 0) ≡ true → EachIs (isnt 32) (take k text)
    → (h : IsMessage text) → take k text ≡ h.0 ++ codes "strace:"
message_cut text k within is each h = (first_same 32 (take k text) (h.0 ++ codes "strace:") (drop (k + 1) text) h.1 each (message_word text h)
    (sym (at_byte 32 text k within is) ∙ message_head text h)).0

-- where the name stands before the first space of a message, its folder is before that
pub message_folder : (text path : List ℕ) (k : ℕ) → k < length text → is_byte 32 (get_or text k 0) ≡ true → EachIs (isnt 32) (take k text)
    → take k text ≡ path ++ codes "strace:" → IsMessage text → (path ≡ []) ⊎ EndsWith (codes "/") path
message_folder text path k within is each e h =
    let same : path ≡ h.0 = append_cancel_right path h.0 (codes "strace:") (sym e ∙ message_cut text k within is each h) in
    subst (λ x. (x ≡ []) ⊎ EndsWith (codes "/") x) (sym same) h.2.1

-- ---- a message that broke into a line

verbs_apart : (a b : List ℕ) → a ++ codes " attached" ≡ b ++ codes " detached" → ⊥
verbs_apart a b e =
    let k : (a ++ codes " at") ++ codes "tached" ≡ (b ++ codes " de") ++ codes "tached" =
    append_assoc a (codes " at") (codes "tached") ∙ e ∙ sym (append_assoc b (codes " de") (codes "tached")) in
    let l : a ++ codes " at" ≡ b ++ codes " de" = append_cancel_right (a ++ codes " at") (b ++ codes " de") (codes "tached") k in
    let m : (a ++ codes " a") ++ (116 ∷ []) ≡ (b ++ codes " d") ++ (101 ∷ []) =
    append_assoc a (codes " a") (116 ∷ []) ∙ l ∙ sym (append_assoc b (codes " d") (101 ∷ [])) in
    let n = last_same (a ++ codes " a") (b ++ codes " d") 116 101 m in absurd (omega arith)

-- before a verb at its end a text is one
verb_same : (a b v w : List ℕ) → IsVerb v → IsVerb w → a ++ v ≡ b ++ w → a ≡ b
verb_same a b v w (inl h) (inl g) e = append_cancel_right a b (codes " attached") (ap (λ x. a ++ x) (sym h) ∙ e ∙ ap (λ x. b ++ x) g)
verb_same a b v w (inl h) (inr g) e = absurd (verbs_apart a b (ap (λ x. a ++ x) (sym h) ∙ e ∙ ap (λ x. b ++ x) g))
verb_same a b v w (inr h) (inl g) e = absurd (verbs_apart b a (ap (λ x. b ++ x) (sym g) ∙ sym e ∙ ap (λ x. a ++ x) h))
verb_same a b v w (inr h) (inr g) e = append_cancel_right a b (codes " detached") (ap (λ x. a ++ x) (sym h) ∙ e ∙ ap (λ x. b ++ x) g)

-- what stands before a verb
abbrev pub IsBeforeVerb : List ℕ → List ℕ → Type 0
IsBeforeVerb text numbered = (text ≡ numbered ++ codes " attached") ⊎ (text ≡ numbered ++ codes " detached")

of_verb : (text numbered : List ℕ) → IsBeforeVerb text numbered → (verb : List ℕ) × IsVerb verb × (text ≡ numbered ++ verb)
of_verb text numbered (inl h) = (codes " attached", inl refl, h)
of_verb text numbered (inr h) = (codes " detached", inr refl, h)

-- the words before the number
abbrev pub before_number : List ℕ
before_number = codes "strace: Process "

-- a number before a verb, and the words before it, are a message that broke into the line
pub broken_yes : (text numbered front f digits : List ℕ) → IsBeforeVerb text numbered → numbered ≡ front ++ digits → AllDigits 10 digits
    → length front ≢ length numbered → front ≡ f ++ before_number → IsBroken text f
broken_yes text numbered front f digits verb parts all long e =
    let v = of_verb text numbered verb in let k = ap length parts ∙ length-append front digits in
    let some : 0 < length digits = omega arith in (
      digits,
      v.0,
      value 10 0 digits,
      (some, all, refl),
      v.1,
      v.2 ∙ ap (λ x. x ++ v.0) (parts ∙ ap (λ x. x ++ digits) e ∙ append_assoc f before_number digits)
          ∙ append_assoc f (before_number ++ digits) v.0 ∙ ap (λ x. f ++ x) (append_assoc before_number digits v.0),
    )

broken_front : (text front : List ℕ) → (h : IsBroken text front) → text ≡ ((front ++ before_number) ++ h.0) ++ h.1
broken_front text front h = h.5 ∙ sym (append_assoc front before_number (h.0 ++ h.1)) ∙ sym (append_assoc (front ++ before_number) h.0 h.1)

number_behind : (f front : List ℕ) (b : ℕ) → f ++ before_number ≡ front ++ (b ∷ []) → 10 ≤ worth b
unfolding worth
number_behind f front b e = let k : (f ++ codes "strace: Process") ++ (32 ∷ []) ≡ front ++ (b ∷ []) = append_assoc f (codes "strace: Process") (32 ∷ []) ∙ e in
    let l : 32 ≡ b = last_same (f ++ codes "strace: Process") front 32 b k in let w = ap worth l in omega arith

-- where no verb ends a text no message broke into it
pub broken_no_verb : (text : List ℕ) → ¬ EndsWith (codes " attached") text → ¬ EndsWith (codes " detached") text → (front : List ℕ) → IsBroken text front → ⊥
broken_no_verb text one two front h = elim h.4 [
  | inl v ↦ one ((front ++ before_number) ++ h.0, broken_front text front h ∙ ap (λ x. ((front ++ before_number) ++ h.0) ++ x) v)
  | inr v ↦ two ((front ++ before_number) ++ h.0, broken_front text front h ∙ ap (λ x. ((front ++ before_number) ++ h.0) ++ x) v)
]

-- a message that broke into a line has its words before the digits that stand before the verb
pub record IsBrokenAt (front numbered f : List ℕ) : Type 0 where
  pub words : front ≡ f ++ before_number
  pub long : length front ≢ length numbered

-- such a message is found from its end
pub broken_at : (text numbered front digits f : List ℕ) → IsBeforeVerb text numbered → numbered ≡ front ++ digits → AllDigits 10 digits
    → ((more : List ℕ) (b : ℕ) → front ≡ more ++ (b ∷ []) → 10 ≤ worth b) → IsBroken text f → IsBrokenAt front numbered f
broken_at text numbered front digits f verb parts all ended h =
    let v = of_verb text numbered verb in
    let same : numbered ≡ (f ++ before_number) ++ h.0 = verb_same numbered ((f ++ before_number) ++ h.0) v.0 h.1 v.1 h.4 (sym v.2 ∙ broken_front text f h) in
    let s = digits_end_same front (f ++ before_number) digits h.0 all h.3.1 ended (number_behind f) (sym parts ∙ same) in
    let k = ap length parts ∙ length-append front digits in let l = ap length s.1 in let some = h.3.0 in record { words = s.0; long = λ e. omega arith }

-- a message breaks into a line at one place
pub broken_same : (text f g : List ℕ) → IsBroken text f → IsBroken text g → f ≡ g
broken_same text f g h k =
    let e : (f ++ before_number) ++ h.0 ≡ (g ++ before_number) ++ k.0 =
    verb_same ((f ++ before_number) ++ h.0) ((g ++ before_number) ++ k.0) h.1 k.1 h.4 k.4 (sym (broken_front text f h) ∙ broken_front text g k) in
    let s = digits_end_same (f ++ before_number) (g ++ before_number) h.0 k.0 h.3.1 k.3.1 (number_behind f) (number_behind g) e in
    append_cancel_right f g before_number s.0
