-- Words within a body, and that a body tells one thing.
use Rattle.std.proofs.Common.{◌≡◌, ◌⊎◌, ℕ, ◌+◌, ◌/◌, ◌≤◌, List, ◌∷◌, ◌++◌, length, take, drop, codes, Option, Some, None, refl, sym, ap, subst}
use Rattle.std.proofs.Common.{◌∙◌, append_assoc, inl, inr, arith, is_some}
use Rattle.std.specs.Prelude.{IfSome, IsNone}
use Rattle.std.specs.Bool.{Decides}
use Rattle.std.proofs.lemmas.List.{append_cancel_right, length-append}
use Rattle.line_parts.specs.Leaves.{AllDigits, worth}
use Rattle.memchr.specs.Find.{FindsNeedle}
use Rattle.raw_lines.specs.declared.makers.MadeAs.{MadeAs}
use Rattle.raw_lines.specs.declared.makers.MadeAs.TheVariants.{Thread, Shared, Process, Untold}
use Rattle.raw_lines.specs.declared.makers.Making.{Making}
use Rattle.raw_lines.specs.declared.makers.Making.TheVariants.{Makes, Begins, Ends, Execs, Nothing}
use Rattle.raw_lines.specs.Numbers.{EndsInNumber}
use Rattle.raw_lines.specs.Makers.{Holds, IsWithout, IsToResult, outer_words, HasResult, EndsWithNumber, IsMadeAs, IsChild, IsMaking}
use Rattle.raw_lines.proofs.Searches.{at_word, word_at, last_place_same}
use Rattle.raw_lines.proofs.NumberEnds.{number_one, digits_without}

-- whether a word is held is whether it is found
pub holds_is : (text word : List ℕ) (r : Option ℕ) → FindsNeedle text word 0 r → Decides (is_some r) (Holds word text)
holds_is text word None h = (
  λ e. absurd cc,
  λ g. absurd (let e = ap length g.2 ∙ length-append g.0 (word ++ g.1) in h (length g.0) (omega arith) (omega arith) (word_at text word g.0 g.1 g.2)),
)
holds_is text word (Some k) h = (λ e. (take k text, drop (k + length word) text, at_word text word k h.1), λ g. refl)

-- ---- one result

without_one : (word text a b : List ℕ) → IsWithout word text a → IsWithout word text b → a ≡ b
without_one word text a b (inl h) (inl g) = append_cancel_right a b word (sym h ∙ g)
without_one word text a b (inl h) (inr g) = absurd (g.1 (a, h))
without_one word text a b (inr h) (inl g) = absurd (h.1 (b, g))
without_one word text a b (inr h) (inr g) = h.0 ∙ sym g.0

-- a body has one text up to its result
pub result_text_one : (body a b : List ℕ) → IsToResult body a → IsToResult body b → a ≡ b
result_text_one body a b h g = let m : h.0 ≡ g.0 = without_one (codes " (DELAYED)") body h.0 g.0 h.1 g.1 in
    without_one (codes " (INJECTED)") g.0 a b (subst (λ x. IsWithout (codes " (INJECTED)") x a) m h.2) g.2

-- a space is no digit
pub space_no_digit : 16 ≤ worth 32
unfolding worth
space_no_digit = omega arith

-- nor is the x of 0x
pub x_no_digit : 16 ≤ worth 120
unfolding worth
x_no_digit = omega arith

-- decimal digits behind a space aren't hexadecimal ones behind 0x
bases_apart : (text : List ℕ) (n m : ℕ) → EndsInNumber 10 (codes "=") 32 text n → EndsInNumber 16 (codes "= 0") 120 text m → ⊥
bases_apart text n m h g =
    let left : text ≡ (h.0 ++ codes "=") ++ (32 ∷ h.1) = h.4 ∙ sym (append_assoc h.0 (codes "=") (32 ∷ h.1)) in
    let right : text ≡ (g.0 ++ codes "= 0") ++ (120 ∷ g.1) = g.4 ∙ sym (append_assoc g.0 (codes "= 0") (120 ∷ g.1)) in
    let right_space : text ≡ (g.0 ++ codes "=") ++ (32 ∷ 48 ∷ 120 ∷ g.1) = g.4 ∙ sym (append_assoc g.0 (codes "=") (32 ∷ 48 ∷ 120 ∷ g.1)) in
    let s = last_place_same 32 (h.0 ++ codes "=") (g.0 ++ codes "=") h.1 (48 ∷ 120 ∷ g.1)
    (digits_without 10 32 (let k = space_no_digit in omega arith) h.1 h.2.1)
    (refl, (refl, digits_without 16 32 space_no_digit g.1 g.2.1)) (sym left ∙ right_space) in
    let all = subst (AllDigits 10) s.1 h.2.1 in let k = all.1.0 in let w = x_no_digit in omega arith

plain_one : (text : List ℕ) (n m : ℕ) → (EndsInNumber 10 (codes "=") 32 text n ⊎ EndsInNumber 16 (codes "= 0") 120 text n)
    → (EndsInNumber 10 (codes "=") 32 text m ⊎ EndsInNumber 16 (codes "= 0") 120 text m) → n ≡ m
plain_one text n m (inl h) (inl g) = number_one 10 (codes "=") 32 text n m (let k = space_no_digit in omega arith) h g
plain_one text n m (inl h) (inr g) = absurd (bases_apart text n m h g)
plain_one text n m (inr h) (inl g) = absurd (bases_apart text m n g h)
plain_one text n m (inr h) (inr g) = number_one 16 (codes "= 0") 120 text n m x_no_digit h g

has_one : (text : List ℕ) (n m : ℕ) → HasResult text n → HasResult text m → n ≡ m
has_one text n m (inl h) (inl g) = let f : h.0 ≡ g.0 = append_cancel_right h.0 g.0 outer_words (sym h.1 ∙ g.1) in
    number_one 10 (codes "/*") 32 g.0 n m (let k = space_no_digit in omega arith) (subst (λ x. EndsInNumber 10 (codes "/*") 32 x n) f h.2) g.2
has_one text n m (inl h) (inr g) = absurd (g.0 (h.0, h.1))
has_one text n m (inr h) (inl g) = absurd (h.0 (g.0, g.1))
has_one text n m (inr h) (inr g) = plain_one text n m h.1 g.1

-- a body ends with one result
pub result_one : (body : List ℕ) (n m : ℕ) → EndsWithNumber body n → EndsWithNumber body m → n ≡ m
result_one body n m h g = let t : h.0 ≡ g.0 = result_text_one body h.0 g.0 h.1 g.1 in has_one g.0 n m (subst (λ x. HasResult x n) t h.2) g.2

-- what is said of an option's value is said of it in other words
pub if_some : {A : Type 0} (r : Option A) (P Q : A → Type 0) → ((x : A) → P x → Q x) → IfSome r P → IfSome r Q
if_some None P Q f h = tt
if_some (Some x) P Q f h = f x h

-- the result that is found is what a body makes
pub child_is : (body text : List ℕ) (r : Option ℕ) → IsToResult body text → IfSome r (HasResult text)
    → (IsNone r → (n : ℕ) → ¬ HasResult text n) → IsChild body r
child_is body text None to some none = λ n h. none refl n (subst (λ x. HasResult x n) (result_text_one body h.0 text h.1 to) h.2)
child_is body text (Some n) to some none = (text, to, some)

-- ---- one thing told

made_one : (body : List ℕ) (a b : MadeAs) → IsMadeAs body a → IsMadeAs body b → a ≡ b
made_one body Thread Thread h g = refl
made_one body Thread b h g = absurd (g.0 h)
made_one body a Thread h g = absurd (h.0 g)
made_one body Process Untold h g = absurd (h.1 g.1)
made_one body Untold Process h g = absurd (g.1 h.1)
made_one body Shared Untold h g = absurd (h.1 g.1)
made_one body Untold Shared h g = absurd (g.1 h.1)
made_one body Process Shared h g = absurd (h.2 g.2)
made_one body Shared Process h g = absurd (g.2 h.2)
made_one body a b h g = refl

child_one : (body : List ℕ) (a b : Option ℕ) → IsChild body a → IsChild body b → a ≡ b
child_one body None None h g = refl
child_one body None (Some n) h g = absurd (h n g)
child_one body (Some n) None h g = absurd (g n h)
child_one body (Some n) (Some m) h g = ap (λ x. Some x) (result_one body n m h g)

-- a body tells one thing
pub making_one : (body : List ℕ) (a b : Making) → IsMaking body a → IsMaking body b → a ≡ b
making_one body (Makes k c) (Makes l d) h g = ap (λ x. Makes x c) (made_one body k l h.2 g.2) ∙ ap (λ x. Makes l x) (child_one body c d h.3 g.3)
making_one body (Makes k c) (Begins l) h g = absurd (h.1 g.1)
making_one body (Makes k c) b h g = absurd (g.0 h.0)
making_one body (Begins k) (Makes l d) h g = absurd (g.1 h.1)
making_one body (Begins k) (Begins l) h g = ap (λ x. Begins x) (made_one body k l h.2 g.2)
making_one body (Begins k) b h g = absurd (g.0 h.0)
making_one body a (Makes l d) h g = absurd (h.0 g.0)
making_one body a (Begins l) h g = absurd (h.0 g.0)
making_one body (Ends c) (Ends d) h g = ap (λ x. Ends x) (child_one body c d h.2 g.2)
making_one body (Ends c) b h g = absurd (g.1 h.1)
making_one body a (Ends d) h g = absurd (h.1 g.1)
making_one body Execs Nothing h g = absurd (g.2 h.2 h.3)
making_one body Nothing Execs h g = absurd (h.2 g.2 g.3)
making_one body a b h g = refl
