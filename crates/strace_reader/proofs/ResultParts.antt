-- The end of a call's line is read as its parts say: the parenthesis, and the result behind it.
use Rattle.std.proofs.Common.{◌≡◌, ℕ, List, [], ◌∷◌, ◌++◌, codes, Option, Some, None, Bool, true, false, refl, sym, ap, subst, ◌∙◌, inl, inr, arith}
use Rattle.std.specs.Prelude.{◌⊎◌}
use Rattle.line_parts.specs.declared.refusal.What.TheVariants.{Close, Result as AtResult}
use Rattle.line_parts.specs.Parts.{Part, chain, choice, arm, done, starts}
use Rattle.line_parts.specs.Leaves.{is, byte, letters, worth, run, spaces, number, end, anything, no_byte, is_digit, is_word_byte}
use Rattle.line_parts.proofs.Sequence.{Good, Heads, good_then, heads_then}
use Rattle.line_parts.proofs.Choices.{Full, good_choice, full_nonempty, full_stays, chain_full, byte_full, letters_full}
use Rattle.line_parts.proofs.Leaves.{Last, byte_good, done_good, letters_good, run_good, spaces_good, end_good, anything_good, same_is}
use Rattle.line_parts.proofs.Numerals.{NoNumeral, number_good, number_full, number_heads, zero_number}
use Rattle.page_types.specs.declared.calls.Call.{Call}
use Rattle.strace_reader.specs.declared.item.Body.{Body}
use Rattle.strace_reader.specs.declared.item.Body.TheVariants.{Called, Other}
use Rattle.page_types.specs.Named.{IsNamedCall}
use Rattle.strace_reader.specs.declared.item.Recorded.{Recorded}
use Rattle.strace_reader.specs.declared.item.Recorded.TheVariants.{Value, Failed}
use Rattle.strace_reader.specs.Words.{errno_of}
use Rattle.strace_reader.specs.Calls.{failed, recorded, equals, tail, outcome, closing}
use Rattle.strace_reader.specs.Reading.{failed_at, recorded_at, equals_at, tail_at, outcome_at, closing_at}
use Rattle.strace_reader.proofs.ArgumentParts.{SpacesEnd, not_space, not_space_ends, starts_as, digit_not_space, byte_heads, rest_nonempty, letters_heads}

-- ---- the equals sign

equals_good : Good equals SpacesEnd equals_at
unfolding equals_at
equals_good = good_then (byte_good 32 AtResult)
    (λ a. good_then spaces_good (λ b. good_then (letters_good (codes "= ") AtResult) (λ c. spaces_good) (λ v b q w h hq. tt))
    (λ v b q w h hq. starts_as 61 (is 32) (b ++ q) (heads_then (is 61) (letters (codes "= ") AtResult) (λ c. spaces)
    (letters_heads 61 (codes " ") AtResult) b q w h))) (λ v b q w h hq. tt)

-- ---- results

-- behind a result: the end, or a space
abbrev pub ResultEnds : {A : Type 0} → A → List ℕ → Type 0
ResultEnds v q = (q ≡ []) ⊎ (starts (is 32) q ≡ true)

result_fails : (test : ℕ → Bool) → test 32 ≡ false → (q : List ℕ) → (q ≡ []) ⊎ (starts (is 32) q ≡ true) → starts test q ≡ false
result_fails test x q (inl h) = ap (starts test) h
result_fails test x q (inr h) = starts_as 32 test q h ∙ x

result_no_numeral : (q : List ℕ) → (q ≡ []) ⊎ (starts (is 32) q ≡ true) → NoNumeral q
unfolding worth
result_no_numeral [] h = tt
result_no_numeral (c ∷ q) (inl h) = absurd cc
result_no_numeral (c ∷ q) (inr h) = rw (same_is 32 c h) (omega arith, omega arith)

abbrev minus : Part (Option Recorded)
minus = chain (letters (codes "-1 ") AtResult) (λ u. chain (run is_word_byte is_word_byte AtResult) (λ w. done (Some (Failed (errno_of w)))))

abbrev plain : Part (Option Recorded)
plain = chain (number AtResult) (λ n. done (Some (Value n)))

failed_good : Good failed ResultEnds failed_at
unfolding failed_at
failed_good = good_choice (is 45) (good_then (letters_good (codes "-1 ") AtResult) (λ u. good_then (run_good is_word_byte is_word_byte AtResult 65 refl)
    (λ w. done_good (Some (Failed (errno_of w))) ResultEnds)
    (λ v b q w h hq. ap (λ y. starts is_word_byte (y ++ q)) h.0 ∙ result_fails is_word_byte refl q hq)) (λ v b q w h hq. tt))
    (good_then (number_good AtResult) (λ n. done_good (Some (Value n)) ResultEnds)
    (λ v b q w h hq. subst NoNumeral (sym (ap (λ y. y ++ q) h.0)) (result_no_numeral q hq)))
    (full_nonempty (is 45) minus (chain_full (letters (codes "-1 ") AtResult)
    (λ u. chain (run is_word_byte is_word_byte AtResult) (λ w. done (Some (Failed (errno_of w))))) (letters_full 45 (codes "1 ") AtResult)))
    (full_stays (is 45) plain ResultEnds (chain_full (number AtResult) (λ n. done (Some (Value n))) (number_full AtResult)))
    (48 ∷ [], Some (Value 0), λ q h. (48 ∷ [], [], 0, refl, zero_number q (result_no_numeral q h), (refl, refl)))

failed_empty : (rest : List ℕ) (v : Option Recorded) (x : Bool) → (arm minus plain x).takes [] rest v → ⊥
failed_empty rest v true h = chain_full (letters (codes "-1 ") AtResult)
    (λ u. chain (run is_word_byte is_word_byte AtResult) (λ w. done (Some (Failed (errno_of w))))) (letters_full 45 (codes "1 ") AtResult) rest v h
failed_empty rest v false h = chain_full (number AtResult) (λ n. done (Some (Value n))) (number_full AtResult) rest v h

failed_full : Full failed
failed_full rest v h = failed_empty rest v (starts (is 45) rest) h

recorded_good : Good recorded ResultEnds recorded_at
unfolding recorded_at
recorded_good = good_choice (is 63) (good_then (byte_good 63 AtResult) (λ u. done_good None ResultEnds) (λ v b q w h hq. tt)) failed_good
    (full_nonempty (is 63) (chain (byte 63 AtResult) (λ u. done None)) (chain_full (byte 63 AtResult) (λ u. done None) (byte_full 63 AtResult)))
    (full_stays (is 63) failed ResultEnds failed_full) (63 ∷ [], None, λ q h. (63 ∷ [], [], tt, refl, refl, (refl, refl)))

failed_starts : (b q : List ℕ) (v : Option Recorded) (x : Bool) → starts (is 45) (b ++ q) ≡ x → (arm minus plain x).takes b q v
    → starts not_space (b ++ q) ≡ true
failed_starts b q v true e h = starts_as 45 not_space (b ++ q) e
failed_starts b q v false e h = digit_not_space (b ++ q) (heads_then is_digit (number AtResult) (λ n. done (Some (Value n))) (number_heads AtResult) b q v h)

recorded_starts : (b q : List ℕ) (v : Option Recorded) (x : Bool) → starts (is 63) (b ++ q) ≡ x
    → (arm (chain (byte 63 AtResult) (λ u. done None)) failed x).takes b q v → starts not_space (b ++ q) ≡ true
recorded_starts b q v true e h = starts_as 63 not_space (b ++ q) e
recorded_starts b q v false e h = failed_starts b q v (starts (is 45) (b ++ q)) refl h

-- ---- the end of the line

last_end : (one : Part Body) (item : Body) (q : List ℕ) → q ≡ [] → (choice (is 32) one (end AtResult item)).takes [] q item
last_end one item [] h = (refl, refl, refl)
last_end one item (c ∷ q) h = absurd cc

tail_good : (item : Body) → Good (tail item) Last (tail_at item)
unfolding tail_at
tail_good item = good_choice (is 32) (anything_good item) (end_good AtResult item) (rest_nonempty (is 32) item)
    (λ rest q v h hq. ap (starts (is 32)) hq) ([], item, λ q h. last_end (anything no_byte item) item q h)

tail_starts : (item : Body) (b q : List ℕ) (w : Body) (x : Bool) → starts (is 32) (b ++ q) ≡ x
    → (arm (anything no_byte item) (end AtResult item) x).takes b q w → (b ++ q ≡ []) ⊎ (starts (is 32) (b ++ q) ≡ true)
tail_starts item b q w true e h = inr e
tail_starts item b q w false e h = inl (ap (λ y. y ++ q) h.0 ∙ h.1)

abbrev resulted : Call → Part Body
resulted call = chain equals (λ u. chain recorded (λ r. tail (Called call r)))

resulted_full : (call : Call) → Full (resulted call)
resulted_full call = chain_full equals (λ u. chain recorded (λ r. tail (Called call r)))
    (chain_full (byte 32 AtResult) (λ a. chain spaces (λ b. chain (letters (codes "= ") AtResult) (λ c. spaces))) (byte_full 32 AtResult))

outcome_good : (call : Call) → Good (outcome call) Last (outcome_at call)
unfolding outcome_at
outcome_good call = good_choice (is 32) (good_then equals_good (λ u. good_then recorded_good (λ r. tail_good (Called call r))
    (λ v b q w h hq. tail_starts (Called call v) b q w (starts (is 32) (b ++ q)) refl h))
    (λ v b q w h hq. not_space_ends (b ++ q) (heads_then not_space recorded (λ r. tail (Called call r))
    (λ a t x k. recorded_starts a t x (starts (is 63) (a ++ t)) refl k) b q w h)))
    (end_good AtResult (Called call None)) (full_nonempty (is 32) (resulted call) (resulted_full call))
    (λ rest q v h hq. ap (starts (is 32)) hq) ([], Called call None, λ q h. last_end (resulted call) (Called call None) q h)

-- the parenthesis and what is behind it are read by closing_at, where nothing follows
pub closing_good : (call : Call) → Good (closing call) Last (closing_at call)
unfolding closing_at
closing_good call = good_then (byte_good 41 Close) (λ u. outcome_good call) (λ v b q w h hq. tt)

-- the parenthesis and what is behind it begin with a closing parenthesis
pub closing_heads : (call : Call) → Heads (is 41) (closing call)
closing_heads call = heads_then (is 41) (byte 41 Close) (λ u. outcome call) (byte_heads 41 Close)

-- ---- a line is taken to its end, and its value is sound

-- what the part takes ends the text
abbrev pub Ends : {A : Type 0} → Part A → Type 0
Ends {A} part = (p q : List ℕ) (v : A) → part.takes p q v → q ≡ []

-- a call that is played has no bit but the named ones
abbrev pub IsSound : Body → Type 0
IsSound Other = Unit {0}
IsSound (Called c r) = IsNamedCall c
IsSound body = ⊥

-- the part takes a text to its end, and only as a sound body
pub record Closes (part : Part Body) : Type 0 where
  -- what the part takes ends the text
  pub ends : Ends part
  -- each value of the part is sound
  pub values : (p q : List ℕ) (v : Body) → part.takes p q v → IsSound v

-- two parts, one behind the other, close a text where the second always does
pub chain_closes : {A : Type 0} (first : Part A) {next : A → Part Body} → ((v : A) → Closes (next v)) → Closes (chain first next)
chain_closes first {next} closes = record { ends = λ p q w h. (closes h.2).ends h.1 q w h.5; values = λ p q w h. (closes h.2).values h.1 q w h.5 }

-- one part or the other, told by the first byte, close a text where both do
choice_closes : (test : ℕ → Bool) {one other : Part Body} → Closes one → Closes other → Closes (choice test one other)
choice_closes test {one} {other} a b =
    let both : (x : Bool) → Closes (arm one other x) = λ x. elim x as (λ x. Closes (arm one other x)) [ true ↦ a | false ↦ b ] in
    record { ends = λ p q w h. (both (starts test (p ++ q))).ends p q w h; values = λ p q w h. (both (starts test (p ++ q))).values p q w h }

end_closes : (item : Body) → IsSound item → Closes (end AtResult item)
end_closes item sound = record { ends = λ p q w h. h.1; values = λ p q w h. subst IsSound (sym h.2) sound }

tail_closes : (item : Body) → IsSound item → Closes (tail item)
tail_closes item sound =
    choice_closes (is 32) {one = anything no_byte item} (record { ends = λ p q w h. h.0; values = λ p q w h. subst IsSound (sym h.1) sound })
    (end_closes item sound)

-- the parenthesis and what is behind it close the text of a call with named bits alone
pub closing_closes : (call : Call) → IsNamedCall call → Closes (closing call)
closing_closes call named = chain_closes (byte 41 Close) (λ u. choice_closes (is 32)
    (chain_closes equals (λ v. chain_closes recorded (λ r. tail_closes (Called call r) named))) (end_closes (Called call None) named))
