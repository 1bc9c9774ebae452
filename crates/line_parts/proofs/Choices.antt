-- A part that the first byte chooses is read as the chosen part is.
use Rattle.std.proofs.Common.{◌≡◌, ℕ, List, [], ◌∷◌, ◌++◌, Result, Ok, Err, Bool, true, false, refl, sym, ap, subst, ◌∙◌, append_assoc}
use Rattle.std.specs.Prelude.{if◌then◌else◌}
use Rattle.line_parts.specs.declared.refusal.Refusal.{Refusal}
use Rattle.line_parts.specs.declared.refusal.What.{What}
use Rattle.line_parts.specs.Parts.{Alike, Part, starts, arm, chain, choice}
use Rattle.line_parts.specs.Leaves.{byte, letters, run}
use Rattle.line_parts.proofs.Sequence.{Took, Stuck, Reads, Fine, Good}

-- two texts that go on alike behind the same bytes pass the same tests of the first byte
pub starts_front : (test : ℕ → Bool) (front more rest : List ℕ) → Alike more rest → starts test (front ++ more) ≡ starts test (front ++ rest)
starts_front test [] [] [] h = refl
starts_front test [] [] (b ∷ y) h = absurd h
starts_front test [] (a ∷ x) [] h = absurd h
starts_front test [] (a ∷ x) (b ∷ y) h = ap test h
starts_front test (c ∷ front) more rest h = refl

choice_took : {A : Type 0} (test : ℕ → Bool) (one other : Part A) (text : List ℕ) (v : A) (rest : List ℕ)
    → Took (arm one other (starts test text)) text v rest → Took (choice test one other) text v rest
choice_took test one other text v rest t = record {
  front = t.front;
  parts = t.parts;
  takes = subst (λ x. (arm one other (starts test x)).takes t.front rest v) t.parts t.takes;
  only = λ p q more w h e alike.
      let guard : starts test (p ++ q) ≡ starts test text = ap (starts test) e ∙ starts_front test t.front more rest alike ∙ ap (starts test) (sym t.parts) in
      t.only p q more w (subst (λ x. (arm one other x).takes p q w) guard h) e alike;
  clean = λ g o r w h e. t.clean g o r w (subst (λ x. (arm one other (starts test x)).refuses g o r w) (sym e) h) e;
}

choice_begins : {A : Type 0} (test : ℕ → Bool) (one other : Part A) (follow : A → List ℕ → Type 0) (text front over : List ℕ) → text ≡ front ++ over
    → ((b : List ℕ) × (w : A) × ((q : List ℕ) → follow w q → (choice test one other).takes b q w))
    → ((more : List ℕ) × (w : A) × ((q : List ℕ) → follow w q → (arm one other (starts test text)).takes (front ++ more) q w))
    → (more : List ℕ) × (w : A) × ((q : List ℕ) → follow w q → (choice test one other).takes (front ++ more) q w)
choice_begins test one other follow text [] over parts some h = some
choice_begins test one other follow text (c ∷ front) over parts some h =
    (h.0, h.1, λ q hq. subst (λ x. (arm one other x).takes ((c ∷ front) ++ h.0) q h.1) (ap (starts test) parts) (h.2 q hq))

choice_stuck : {A : Type 0} (test : ℕ → Bool) (one other : Part A) (follow : A → List ℕ → Type 0) (text : List ℕ) (f : Refusal)
    → Fine (choice test one other) follow → Stuck (arm one other (starts test text)) follow text f → Stuck (choice test one other) follow text f
choice_stuck test one other follow text f fine s = record {
  front = s.front;
  over = s.over;
  rest = s.rest;
  parts = s.parts;
  left = s.left;
  due = subst (λ x. (arm one other (starts test x)).refuses s.front s.over s.rest f.what) s.parts s.due;
  begins = choice_begins test one other follow text s.front (s.over ++ s.rest) s.parts fine.some s.begins;
  ends = λ p q more w h e alike.
      let whole : (s.front ++ s.over) ++ s.rest ≡ text = append_assoc s.front s.over s.rest ∙ sym s.parts in
      let guard : starts test (p ++ q) ≡ starts test text = ap (starts test) e
      ∙ starts_front test (s.front ++ s.over) more s.rest alike ∙ ap (starts test) whole in
      s.ends p q more w (subst (λ x. (arm one other x).takes p q w) guard h) e alike;
  one = λ g o r w h e. s.one g o r w (subst (λ x. (arm one other (starts test x)).refuses g o r w) (sym e) h) e;
}

-- a reading of the part that the first byte chooses is a reading of the choice, where the choice is fine
pub choice_reads : {A : Type 0} (test : ℕ → Bool) (one other : Part A) (follow : A → List ℕ → Type 0) (text : List ℕ)
    (r : Result (A × List ℕ) Refusal) → Fine (choice test one other) follow
    → Reads (arm one other (starts test text)) follow text r → Reads (choice test one other) follow text r
choice_reads test one other follow text (Ok x) fine t = choice_took test one other text x.0 x.1 t
choice_reads test one other follow text (Err f) fine s = choice_stuck test one other follow text f fine s

-- A part never takes nothing before a text that passes the test.
abbrev pub Nonempty : {A : Type 0} → (ℕ → Bool) → Part A → Type 0
Nonempty {A} test part = (rest : List ℕ) (v : A) → part.takes [] rest v → starts test rest ≡ true → ⊥

-- Where a part takes nothing, what follows does not pass the test.
abbrev pub Stays : {A : Type 0} → (ℕ → Bool) → Part A → (A → List ℕ → Type 0) → Type 0
Stays {A} test part follow = (rest q : List ℕ) (v : A) → part.takes [] rest v → follow v q → starts test q ≡ false

-- A part never takes nothing.
abbrev pub Full : {A : Type 0} → Part A → Type 0
Full {A} part = (rest : List ℕ) (v : A) → part.takes [] rest v → ⊥

-- a part that never takes nothing doesn't do so before a text that passes the test
pub full_nonempty : {A : Type 0} (test : ℕ → Bool) (part : Part A) → Full part → Nonempty test part
full_nonempty test part full rest v h e = full rest v h

-- a part that never takes nothing stays, whatever the test and whatever may follow
pub full_stays : {A : Type 0} (test : ℕ → Bool) (part : Part A) (follow : A → List ℕ → Type 0) → Full part → Stays test part follow
full_stays test part follow full rest q v h hq = absurd (full rest v h)

front_empty : (a b : List ℕ) → [] ≡ a ++ b → a ≡ []
front_empty [] b e = refl
front_empty (c ∷ a) b e = cc

-- two parts, one behind the other, never take nothing where the first never does
pub chain_full : {A B : Type 0} (first : Part A) (next : A → Part B) → Full first → Full (chain first next)
chain_full first next full rest v h = full (h.1 ++ rest) h.2 (subst (λ x. first.takes x (h.1 ++ rest) h.2) (front_empty h.0 h.1 h.3) h.4)

-- one byte is never nothing
pub byte_full : (b : ℕ) (due : What) → Full (byte b due)
byte_full b due rest v h = cc

-- the bytes of a text of one byte or more are never nothing
pub letters_full : (b : ℕ) (word : List ℕ) (due : What) → Full (letters (b ∷ word) due)
letters_full b word due = chain_full (byte b due) (λ u. letters word due) (byte_full b due)

-- a run is never nothing
pub run_full : (first later : ℕ → Bool) (due : What) → Full (run first later due)
run_full first later due rest v h = h.1

empty_stays : {A : Type 0} (test : ℕ → Bool) (one other : Part A) (follow : A → List ℕ → Type 0) (rest q : List ℕ) (v : A)
    (b : Bool) → starts test rest ≡ b → Fine other follow → Nonempty test one → Stays test other follow
    → (arm one other b).takes [] rest v → follow v q → (arm one other (starts test q)).takes [] q v
empty_stays test one other follow rest q v true e fine never stays h hq = absurd (never rest v h e)
empty_stays test one other follow rest q v false e fine never stays h hq =
    subst (λ x. (arm one other x).takes [] q v) (sym (stays rest q v h hq)) (fine.before [] rest q v h hq)

arm_before : {A : Type 0} (one other : Part A) (follow : A → List ℕ → Type 0) → Fine one follow → Fine other follow
    → (b : Bool) (a rest q : List ℕ) (v : A) → (arm one other b).takes a rest v → follow v q → (arm one other b).takes a q v
arm_before one other follow f g true a rest q v h hq = f.before a rest q v h hq
arm_before one other follow f g false a rest q v h hq = g.before a rest q v h hq

choice_before : {A : Type 0} (test : ℕ → Bool) (one other : Part A) (follow : A → List ℕ → Type 0) → Fine one follow
    → Fine other follow → Nonempty test one → Stays test other follow
    → (a rest q : List ℕ) (v : A) → (choice test one other).takes a rest v → follow v q → (choice test one other).takes a q v
choice_before test one other follow f g never stays [] rest q v h hq = empty_stays test one other follow rest q v (starts test rest) refl g never stays h hq
choice_before test one other follow f g never stays (c ∷ a) rest q v h hq = arm_before one other follow f g (test c) (c ∷ a) rest q v h hq

arm_reads : {A : Type 0} {one other : Part A} {follow : A → List ℕ → Type 0} {r s : List ℕ → Result (A × List ℕ) Refusal}
    → Good one follow r → Good other follow s → (text : List ℕ) (b : Bool) → Reads (arm one other b) follow text (if b then r text else s text)
arm_reads g h text true = g.reads text
arm_reads g h text false = h.reads text

-- a choice of two fine parts is fine, where the one isn't empty before what passes, what follows the other where it is
-- empty doesn't pass, and something is taken before all that may follow
pub fine_choice : {A : Type 0} {one other : Part A} {follow : A → List ℕ → Type 0} (test : ℕ → Bool) → Fine one follow
    → Fine other follow → Nonempty test one → Stays test other follow
    → ((b : List ℕ) × (w : A) × ((q : List ℕ) → follow w q → (choice test one other).takes b q w)) → Fine (choice test one other) follow
fine_choice {A} {one} {other} {follow} test f g never stays some = record { some = some; before = choice_before test one other follow f g never stays }

-- a choice of two good parts is good in the same case, read by the function that the first byte chooses
pub good_choice : {A : Type 0} {one other : Part A} {follow : A → List ℕ → Type 0} {r s : List ℕ → Result (A × List ℕ) Refusal}
    (test : ℕ → Bool) → Good one follow r → Good other follow s → Nonempty test one → Stays test other follow
    → ((b : List ℕ) × (w : A) × ((q : List ℕ) → follow w q → (choice test one other).takes b q w))
    → Good (choice test one other) follow (λ text. if starts test text then r text else s text)
good_choice {A} {one} {other} {follow} {r} {s} test g h never stays some =
    let fine : Fine (choice test one other) follow = fine_choice test g.fine h.fine never stays some in
    record {
      fine = fine;
      reads = λ text. choice_reads test one other follow text (if starts test text then r text else s text) fine (arm_reads g h text (starts test text));
    }

narrow_reads : {A : Type 0} (part : Part A) (wide narrow : A → List ℕ → Type 0) (text : List ℕ) (r : Result (A × List ℕ) Refusal)
    → ((v : A) (q : List ℕ) → narrow v q → wide v q) → Reads part wide text r → Reads part narrow text r
narrow_reads part wide narrow text (Ok x) widen t = t
narrow_reads part wide narrow text (Err f) widen s = record {
  front = s.front;
  over = s.over;
  rest = s.rest;
  parts = s.parts;
  left = s.left;
  due = s.due;
  begins = (s.begins.0, s.begins.1, λ q hq. s.begins.2 q (widen s.begins.1 q hq));
  ends = s.ends;
  one = s.one;
}

-- What is good before some texts is good before fewer.
pub narrower : {A : Type 0} {part : Part A} {wide narrow : A → List ℕ → Type 0} {r : List ℕ → Result (A × List ℕ) Refusal}
    → ((v : A) (q : List ℕ) → narrow v q → wide v q) → Good part wide r → Good part narrow r
narrower {A} {part} {wide} {narrow} {r} widen g = record {
  fine = record {
    some = (g.fine.some.0, g.fine.some.1, λ q hq. g.fine.some.2 q (widen g.fine.some.1 q hq));
    before = λ a rest q v h hq. g.fine.before a rest q v h (widen v q hq);
  };
  reads = λ text. narrow_reads part wide narrow text (r text) widen (g.reads text);
}
