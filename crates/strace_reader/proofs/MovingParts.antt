-- The flags of mremap are read as their part says: the one word, or 0, alone; with anything else the line is left as it
-- is, to its end.
use Rattle.std.proofs.Common.{◌≡◌, ℕ, List, [], ◌∷◌, ◌++◌, Ok, Option, Some, None, Bool, true, false, refl, sym, ap, subst, ◌∙◌}
use Rattle.std.specs.Prelude.{if◌then◌else◌}
use Rattle.std.proofs.lemmas.List.{append-nil}
use Rattle.line_parts.specs.declared.refusal.What.TheVariants.{Number, Word}
use Rattle.line_parts.specs.Parts.{Part, chain, choice, arm, done, starts}
use Rattle.line_parts.specs.Leaves.{is, byte, worth, run, anything, no_byte, is_digit, is_hex, is_capital, is_word_byte}
use Rattle.line_parts.specs.Reading.{run_at}
use Rattle.line_parts.proofs.Sequence.{Reads, Fine, Good, Follows, Heads, reads_then, fine_then, good_then, heads_then}
use Rattle.line_parts.proofs.Choices.{Full, good_choice, full_nonempty, full_stays, chain_full, byte_full, run_full}
use Rattle.line_parts.proofs.Leaves.{byte_good, done_good, run_good, anything_took, same_is, no_byte_starts}
use Rattle.line_parts.proofs.Lists.{is_close}
use Rattle.strace_reader.specs.Words.{may_of}
use Rattle.strace_reader.specs.Calls.{word, is_more, alone, hex_number, move_number, moved, moving}
use Rattle.strace_reader.specs.Reading.{word_at, alone_at, hex_number_at, zero_behind_at, move_number_at, moved_at, move_word_at, moving_at}
use Rattle.strace_reader.proofs.ArgumentParts.{WordEnds, not_space, starts_as, digit_not_space, word_good, word_heads, rest_fine, rest_nonempty}

-- a comma or a parenthesis follows, and the end behind what took the rest
abbrev pub MoveEnds : Option Bool → List ℕ → Type 0
MoveEnds None q = q ≡ []
MoveEnds (Some may) q = starts is_close q ≡ true

close_byte : (test : ℕ → Bool) → test 44 ≡ false → test 41 ≡ false → (c : ℕ) (b : Bool) → is 44 c ≡ b → (if b then true else is 41 c) ≡ true → test c ≡ false
close_byte test x y c true e h = ap test (same_is 44 c e) ∙ x
close_byte test x y c false e h = ap test (same_is 41 c h) ∙ y

close_fails : (test : ℕ → Bool) → test 44 ≡ false → test 41 ≡ false → (q : List ℕ) → starts is_close q ≡ true → starts test q ≡ false
close_fails test x y [] h = refl
close_fails test x y (c ∷ q) h = close_byte test x y c (is 44 c) refl h

move_stays : (test : ℕ → Bool) → test 44 ≡ false → test 41 ≡ false → (v : Option Bool) (q : List ℕ) → MoveEnds v q → starts test q ≡ false
move_stays test x y None q h = ap (starts test) h
move_stays test x y (Some may) q h = close_fails test x y q h

all_good : Good (anything no_byte None) MoveEnds (λ text. Ok (None, []))
all_good = record { fine = rest_fine no_byte MoveEnds (λ q h. h); reads = λ text. anything_took no_byte None text (no_byte_starts text) }

module _ (test : ℕ → Bool) (comma_no : test 44 ≡ false) (paren_no : test 41 ≡ false) (may : Bool) where
  alone_empty : (q : List ℕ) → starts is_close q ≡ true → (alone test may).takes [] q (Some may)
  alone_empty q h = subst (λ x. (arm (anything no_byte None) (done (Some may)) x).takes [] q (Some may))
      (sym (close_fails test comma_no paren_no q h)) (refl, refl)

  alone_good : Good (alone test may) MoveEnds (alone_at test may)
  alone_good = good_choice test all_good (done_good (Some may) MoveEnds) (rest_nonempty test None)
      (λ rest q v h hq. move_stays test comma_no paren_no v q hq) ([], Some may, alone_empty)

hex_follows : (b q : List ℕ) (u : Option Bool) → (anything {A = Option Bool} is_hex None).takes b q u → starts is_hex (b ++ q) ≡ false
hex_follows b q u h = ap (λ y. starts is_hex (b ++ y)) h.0 ∙ ap (starts is_hex) (append-nil b) ∙ h.2

-- behind 0x the text is read by hex_number_at
hex_number_good : Good hex_number MoveEnds hex_number_at
unfolding hex_number_at worth
hex_number_good =
    let digits = run_good is_hex is_hex Number 48 refl in
    let follows : Follows (λ (v : List ℕ) (q : List ℕ). starts is_hex q ≡ false) (λ d. anything is_hex None) MoveEnds = λ v b q u h hq. hex_follows b q u h in
    record {
      fine = fine_then (run is_hex is_hex Number) (λ d. anything is_hex None) (λ v q. starts is_hex q ≡ false) MoveEnds follows digits.fine
          (λ d. rest_fine is_hex MoveEnds (λ q h. h));
      reads = λ text. reads_then (run is_hex is_hex Number) (λ d. anything is_hex None) (λ v q. starts is_hex q ≡ false) MoveEnds text
          (run_at is_hex is_hex Number text) (λ d. Ok (None, [])) follows digits.fine (λ d. rest_fine is_hex MoveEnds (λ q h. h)) (digits.reads text)
          (λ x t. anything_took is_hex None x.1 t.takes.2);
    }

abbrev behind_0x : Part (Option Bool)
behind_0x = chain (byte 120 Number) (λ v. hex_number)

abbrev zero_behind : Part (Option Bool)
zero_behind = choice (is 120) behind_0x (alone is_more false)

zero_empty : (q : List ℕ) → starts is_close q ≡ true → zero_behind.takes [] q (Some false)
zero_empty q h = subst (λ x. (arm behind_0x (alone is_more false) x).takes [] q (Some false)) (sym (close_fails (is 120) refl refl q h))
    (alone_empty is_more refl refl false q h)

zero_behind_good : Good zero_behind MoveEnds zero_behind_at
unfolding zero_behind_at
zero_behind_good = good_choice (is 120) (good_then (byte_good 120 Number) (λ v. hex_number_good) (λ v b q w h hq. tt)) (alone_good is_more refl refl false)
    (full_nonempty (is 120) behind_0x (chain_full (byte 120 Number) (λ v. hex_number) (byte_full 120 Number)))
    (λ rest q v h hq. move_stays (is 120) refl refl v q hq) ([], Some false, zero_empty)

abbrev behind_zero : Part (Option Bool)
behind_zero = chain (byte 48 Number) (λ u. zero_behind)

behind_zero_full : Full behind_zero
behind_zero_full = chain_full (byte 48 Number) (λ u. zero_behind) (byte_full 48 Number)

zero_takes : (q : List ℕ) → starts is_close q ≡ true → behind_zero.takes (48 ∷ []) q (Some false)
zero_takes q h = (48 ∷ [], [], tt, refl, refl, zero_empty q h)

move_number_good : Good move_number MoveEnds move_number_at
unfolding move_number_at
move_number_good = good_choice (is 48) (good_then (byte_good 48 Number) (λ u. zero_behind_good) (λ v b q w h hq. tt)) all_good
    (full_nonempty (is 48) behind_zero behind_zero_full) (λ rest q v h hq. move_stays (is 48) refl refl v q hq) (48 ∷ [], Some false, zero_takes)

alone_no_word : (may : Bool) (b q : List ℕ) (u : Option Bool) (x : Bool) → starts (is 124) (b ++ q) ≡ x
    → (arm (anything no_byte None) (done (Some may)) x).takes b q u → MoveEnds u q → starts is_word_byte (b ++ q) ≡ false
alone_no_word may b q u true e h hq = starts_as 124 is_word_byte (b ++ q) e
alone_no_word may b q u false e h hq = ap (λ y. starts is_word_byte (y ++ q)) h.0 ∙ close_fails is_word_byte refl refl q (subst (λ x. MoveEnds x q) h.1 hq)

moved_follows : (x : Option Bool) (b q : List ℕ) (u : Option Bool) → (moved x).takes b q u → MoveEnds u q → starts is_word_byte (b ++ q) ≡ false
moved_follows None b q u h hq = ap (λ y. starts is_word_byte (b ++ y)) h.0 ∙ ap (starts is_word_byte) (append-nil b) ∙ h.2
moved_follows (Some may) b q u h hq = alone_no_word may b q u (starts (is 124) (b ++ q)) refl h hq

moved_fine : (x : Option Bool) → Fine (moved x) MoveEnds
moved_fine None = rest_fine is_word_byte MoveEnds (λ q h. h)
moved_fine (Some may) = (alone_good (is 124) refl refl may).fine

moved_reads : (x : Option Bool) (text : List ℕ) → starts is_word_byte text ≡ false → Reads (moved x) MoveEnds text (moved_at x text)
moved_reads None text h = anything_took is_word_byte None text h
moved_reads (Some may) text h = (alone_good (is 124) refl refl may).reads text

move_word_good : Good (chain word (λ w. moved (may_of w))) MoveEnds move_word_at
unfolding move_word_at
move_word_good =
    let follows : Follows WordEnds (λ w. moved (may_of w)) MoveEnds = λ v b q u h hq. moved_follows (may_of v) b q u h hq in
    record {
      fine = fine_then word (λ w. moved (may_of w)) WordEnds MoveEnds follows word_good.fine (λ w. moved_fine (may_of w));
      reads = λ text. reads_then word (λ w. moved (may_of w)) WordEnds MoveEnds text (word_at text) (λ w. moved_at (may_of w.0) w.1) follows
          word_good.fine (λ w. moved_fine (may_of w)) (word_good.reads text) (λ x t. moved_reads (may_of x.0) x.1 t.takes.2);
    }

number_nonempty : (rest : List ℕ) (v : Option Bool) (x : Bool) → (arm behind_zero (anything no_byte None) x).takes [] rest v → starts is_digit rest ≡ true → ⊥
number_nonempty rest v true h d = behind_zero_full rest v h
number_nonempty rest v false h d = rest_nonempty is_digit None rest v h d

-- the flags of mremap are read by moving_at, before what may follow them
pub moving_good : Good moving MoveEnds moving_at
unfolding moving_at
moving_good = good_choice is_digit move_number_good move_word_good (λ rest v h d. number_nonempty rest v (starts (is 48) rest) h d)
    (full_stays is_digit (chain word (λ w. moved (may_of w))) MoveEnds (chain_full word (λ w. moved (may_of w)) (run_full is_capital is_word_byte Word)))
    (48 ∷ [], Some false, zero_takes)

moving_starts : (b q : List ℕ) (w : Option Bool) (x : Bool) → starts is_digit (b ++ q) ≡ x
    → (arm move_number (chain word (λ w. moved (may_of w))) x).takes b q w → starts not_space (b ++ q) ≡ true
moving_starts b q w true e h = digit_not_space (b ++ q) e
moving_starts b q w false e h = heads_then not_space word (λ w. moved (may_of w)) word_heads b q w h

-- the flags of mremap begin with a byte that is no space
pub moving_heads : Heads not_space moving
moving_heads b q w h = moving_starts b q w (starts is_digit (b ++ q)) refl h

alone_end : (may : Bool) (p q : List ℕ) (v : Option Bool) (x : Bool) → (arm (anything no_byte None) (done (Some may)) x).takes p q v → v ≡ None → q ≡ []
alone_end may p q v true h e = h.0
alone_end may p q v false h e = absurd (cc (h.1, e))

moved_end : (x : Option Bool) (p q : List ℕ) (v : Option Bool) → (moved x).takes p q v → v ≡ None → q ≡ []
moved_end None p q v h e = h.0
moved_end (Some may) p q v h e = alone_end may p q v (starts (is 124) (p ++ q)) h e

zero_behind_end : (p q : List ℕ) (v : Option Bool) (x : Bool) → (arm behind_0x (alone is_more false) x).takes p q v → v ≡ None → q ≡ []
zero_behind_end p q v true h e = h.5.5.0
zero_behind_end p q v false h e = alone_end false p q v (starts is_more (p ++ q)) h e

move_number_end : (p q : List ℕ) (v : Option Bool) (x : Bool) → (arm behind_zero (anything no_byte None) x).takes p q v → v ≡ None → q ≡ []
move_number_end p q v true h e = zero_behind_end h.1 q v (starts (is 120) (h.1 ++ q)) h.5 e
move_number_end p q v false h e = h.0

moving_arm_end : (p q : List ℕ) (v : Option Bool) (x : Bool) → (arm move_number (chain word (λ w. moved (may_of w))) x).takes p q v → v ≡ None → q ≡ []
moving_arm_end p q v true h e = move_number_end p q v (starts (is 48) (p ++ q)) h e
moving_arm_end p q v false h e = moved_end (may_of h.2) h.1 q v h.5 e

-- flags of mremap without a value take all that is left
pub moving_end : (p q : List ℕ) (v : Option Bool) → moving.takes p q v → v ≡ None → q ≡ []
moving_end p q v h e = moving_arm_end p q v (starts is_digit (p ++ q)) h e
