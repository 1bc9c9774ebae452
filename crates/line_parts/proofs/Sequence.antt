-- Two parts that are read one after the other: the one lemma by which every grammar above is put
-- together. A reading of a part keeps three facts: it is a spelling or a refusal of the part, it is the
-- only one, and nothing that goes on alike is another.
use Rattle.std.proofs.Common.{◌≡◌, ℕ, List, [], ◌∷◌, ◌++◌, length, Result, Ok, Err, Bool, true, refl, sym, ap, subst, ◌∙◌, append_assoc, inl, inr, ◌≤◌, arith}
use Rattle.std.proofs.lemmas.List.{append_cancel_left, length-append}
use Rattle.line_parts.specs.declared.refusal.Refusal.{Refusal}
use Rattle.line_parts.specs.declared.refusal.What.{What}
use Rattle.line_parts.specs.Parts.{Alike, Part, chain, starts}
use Rattle.line_parts.specs.Reading.{◌>>=◌}

-- the part takes the front of the text as v and leaves the rest; nothing else is taken there, and nothing refused
pub record Took {A : Type 0} (part : Part A) (text : List ℕ) (v : A) (rest : List ℕ) : Type 0 where
  -- the bytes that are taken
  pub front : List ℕ
  -- the text is these bytes and the rest
  pub parts : text ≡ front ++ rest
  -- the part takes them as v where the rest stands behind
  pub takes : part.takes front rest v
  -- where a text goes on alike behind them, the part takes these bytes and no others, as this value
  pub only : (p q more : List ℕ) (w : A) → part.takes p q w → p ++ q ≡ front ++ more → Alike more rest → (p ≡ front) × (w ≡ v)
  -- the part refuses the text nowhere
  pub clean : (g o r : List ℕ) (w : What) → part.refuses g o r w → text ≡ g ++ (o ++ r) → ⊥

-- What follow allows behind a value is what the grammar may put there.
pub record Stuck {A : Type 0} (part : Part A) (follow : A → List ℕ → Type 0) (text : List ℕ) (f : Refusal) : Type 0 where
  -- what is read before the refusal
  pub front : List ℕ
  -- the number or word that is refused, else nothing
  pub over : List ℕ
  -- what stands behind it
  pub rest : List ℕ
  -- the text is the three, one behind the other
  pub parts : text ≡ front ++ (over ++ rest)
  -- as many bytes are left as stand from the place of the refusal on
  pub left : f.left ≡ length (over ++ rest)
  -- the part refuses the text there, for this cause
  pub due : part.refuses front over rest f.what
  -- what was read begins something that the part takes before all that may follow
  pub begins : (more : List ℕ) × (w : A) × ((q : List ℕ) → follow w q → part.takes (front ++ more) q w)
  -- nothing that the part takes goes on, behind what is over, as the text does
  pub ends : (p q more : List ℕ) (v : A) → part.takes p q v → p ++ q ≡ (front ++ over) ++ more → Alike more rest → ⊥
  -- each refusal of the text is at this place and for this cause
  pub one : (g o r : List ℕ) (w : What) → part.refuses g o r w → text ≡ g ++ (o ++ r) → (length (o ++ r) ≡ f.left) × (w ≡ f.what)

-- a value is one that the part takes at the front of the text, and a refusal is one of the part
abbrev pub Reads : {A : Type 0} → Part A → (A → List ℕ → Type 0) → List ℕ → Result (A × List ℕ) Refusal → Type 0
Reads part follow text (Ok x) = Took part text x.0 x.1
Reads part follow text (Err f) = Stuck part follow text f

-- Something is taken before all that may follow, and what is taken before one text is taken before each that may
-- follow.
pub record Fine {A : Type 0} (part : Part A) (follow : A → List ℕ → Type 0) : Type 0 where
  -- the part takes some bytes, the same ones before all that may follow
  pub some : (b : List ℕ) × (w : A) × ((q : List ℕ) → follow w q → part.takes b q w)
  -- what is taken before one text is taken before each that may follow
  pub before : (a rest q : List ℕ) (v : A) → part.takes a rest v → follow v q → part.takes a q v

-- what the next part takes, before what may follow that part, may follow the value of the first
abbrev pub Follows : {A B : Type 0} → (A → List ℕ → Type 0) → (A → Part B) → (B → List ℕ → Type 0) → Type 0
Follows {A} {B} follow next last = (v : A) (b q : List ℕ) (w : B) → (next v).takes b q w → last w q → follow v (b ++ q)

-- a text goes on alike as itself
pub alike_same : (x : List ℕ) → Alike x x
alike_same [] = tt
alike_same (b ∷ x) = refl

-- two texts that go on alike do so with the same bytes put before them
pub alike_behind : (front more rest : List ℕ) → Alike more rest → Alike (front ++ more) (front ++ rest)
alike_behind [] more rest h = h
alike_behind (b ∷ front) more rest h = refl

-- what is taken of a text
split_takes : (p a b q : List ℕ) (x : List ℕ) → p ≡ a ++ b → p ++ q ≡ x → a ++ (b ++ q) ≡ x
split_takes p a b q x e h = sym (append_assoc a b q) ∙ ap (λ y. y ++ q) (sym e) ∙ h

split_back : (p a b q : List ℕ) → p ≡ a ++ b → p ++ q ≡ a ++ (b ++ q)
split_back p a b q e = ap (λ y. y ++ q) e ∙ append_assoc a b q

took_both : {A B : Type 0} (first : Part A) (next : A → Part B) (text rest last : List ℕ) (v : A) (w : B) → Took first text v rest
    → Took (next v) rest w last → Took (chain first next) text w last
took_both {A} first next text rest last v w t u = record {
  front = t.front ++ u.front;
  parts = t.parts ∙ ap (λ x. t.front ++ x) u.parts ∙ sym (append_assoc t.front u.front last);
  takes = (t.front, u.front, v, refl, subst (λ x. first.takes t.front x v) u.parts t.takes, u.takes);
  only = λ p q more w1 h e alike.
      let e1 : h.0 ++ (h.1 ++ q) ≡ t.front ++ (u.front ++ more) =
      split_takes p h.0 h.1 q (t.front ++ (u.front ++ more)) h.3 (e ∙ append_assoc t.front u.front more) in
      let alike1 = subst (λ x. Alike (u.front ++ more) x) (sym u.parts) (alike_behind u.front more last alike) in
      let one = t.only h.0 (h.1 ++ q) (u.front ++ more) h.2 h.4 e1 alike1 in
      let e2 = append_cancel_left t.front (h.1 ++ q) (u.front ++ more) (ap (λ x. x ++ (h.1 ++ q)) (sym one.0) ∙ e1) in
      let two = u.only h.1 q more w1 (subst (λ x. (next x).takes h.1 q w1) one.1 h.5) e2 alike in
      (h.3 ∙ ap (λ x. x ++ h.1) one.0 ∙ ap (λ x. t.front ++ x) two.0, two.1);
  clean = λ g o r w1 h e. elim h [
    | inl k ↦ t.clean g o r w1 k e
    | inr k ↦
        let e1 : k.0 ++ (k.1 ++ (o ++ r)) ≡ t.front ++ rest = split_takes g k.0 k.1 (o ++ r) (t.front ++ rest) k.3 (sym e ∙ t.parts) in
        let one = t.only k.0 (k.1 ++ (o ++ r)) rest k.2 k.4 e1 (alike_same rest) in
        let e2 = append_cancel_left t.front (k.1 ++ (o ++ r)) rest (ap (λ x. x ++ (k.1 ++ (o ++ r))) (sym one.0) ∙ e1) in
        u.clean k.1 o r w1 (subst (λ x. (next x).refuses k.1 o r w1) one.1 k.5) (sym e2)
  ];
}

stuck_behind : {A B : Type 0} (first : Part A) (next : A → Part B) (follow : A → List ℕ → Type 0) (last : B → List ℕ → Type 0)
    (text rest : List ℕ) (v : A) (f : Refusal)
    → Follows follow next last → Fine first follow → Took first text v rest → Stuck (next v) last rest f → Stuck (chain first next) last text f
stuck_behind {A} {B} first next follow last text rest v f follows fine t s =
    let is : rest ≡ (s.front ++ s.over) ++ s.rest = s.parts ∙ sym (append_assoc s.front s.over s.rest) in
    let more = s.begins.0 in let w = s.begins.1 in
    record {
      front = t.front ++ s.front;
      over = s.over;
      rest = s.rest;
      parts = t.parts ∙ ap (λ x. t.front ++ x) s.parts ∙ sym (append_assoc t.front s.front (s.over ++ s.rest));
      left = s.left;
      due = inr (t.front, s.front, v, refl, subst (λ x. first.takes t.front x v) s.parts t.takes, s.due);
      begins = (
        more,
        w,
        λ q hq.
            let k = s.begins.2 q hq in (
              t.front,
              s.front ++ more,
              v,
              append_assoc t.front s.front more,
              fine.before t.front rest ((s.front ++ more) ++ q) v t.takes (follows v (s.front ++ more) q w k hq),
              k,
            ),
      );
      ends = λ p q after w1 h e alike.
          let place : (t.front ++ s.front) ++ s.over ≡ t.front ++ (s.front ++ s.over) = append_assoc t.front s.front s.over in
          let whole : p ++ q ≡ t.front ++ ((s.front ++ s.over) ++ after) = e ∙ ap (λ x. x ++ after) place ∙ append_assoc t.front (s.front ++ s.over) after in
          let e1 = split_takes p h.0 h.1 q (t.front ++ ((s.front ++ s.over) ++ after)) h.3 whole in
          let alike1 = subst (λ x. Alike ((s.front ++ s.over) ++ after) x) (sym is) (alike_behind (s.front ++ s.over) after s.rest alike) in
          let one = t.only h.0 (h.1 ++ q) ((s.front ++ s.over) ++ after) h.2 h.4 e1 alike1 in
          let e2 = append_cancel_left t.front (h.1 ++ q) ((s.front ++ s.over) ++ after) (ap (λ x. x ++ (h.1 ++ q)) (sym one.0) ∙ e1) in
          s.ends h.1 q after w1 (subst (λ x. (next x).takes h.1 q w1) one.1 h.5) e2 alike;
      one = λ g o r w1 h e. elim h [
        | inl k ↦ absurd (t.clean g o r w1 k e)
        | inr k ↦
            let e1 : k.0 ++ (k.1 ++ (o ++ r)) ≡ t.front ++ rest = split_takes g k.0 k.1 (o ++ r) (t.front ++ rest) k.3 (sym e ∙ t.parts) in
            let one = t.only k.0 (k.1 ++ (o ++ r)) rest k.2 k.4 e1 (alike_same rest) in
            let e2 = append_cancel_left t.front (k.1 ++ (o ++ r)) rest (ap (λ x. x ++ (k.1 ++ (o ++ r))) (sym one.0) ∙ e1) in
            s.one k.1 o r w1 (subst (λ x. (next x).refuses k.1 o r w1) one.1 k.5) (sym e2)
      ];
    }

stuck_before : {A B : Type 0} (first : Part A) (next : A → Part B) (follow : A → List ℕ → Type 0) (last : B → List ℕ → Type 0) (text : List ℕ) (f : Refusal)
    → Follows follow next last → ((v : A) → Fine (next v) last) → Stuck first follow text f → Stuck (chain first next) last text f
stuck_before {A} first next follow last text f follows fine s =
    let v = s.begins.1 in let g = (fine v).some in
    record {
      front = s.front;
      over = s.over;
      rest = s.rest;
      parts = s.parts;
      left = s.left;
      due = inl s.due;
      begins = (
        s.begins.0 ++ g.0,
        g.1,
        λ q hq.
            let k = g.2 q hq in (s.front ++ s.begins.0, g.0, v, sym (append_assoc s.front s.begins.0 g.0), s.begins.2 (g.0 ++ q) (follows v g.0 q g.1 k hq), k),
      );
      ends = λ p q after w1 h e alike. s.ends h.0 (h.1 ++ q) after h.2 h.4 (split_takes p h.0 h.1 q ((s.front ++ s.over) ++ after) h.3 e) alike;
      one = λ g1 o r w1 h e. elim h [
        | inl k ↦ s.one g1 o r w1 k e
        | inr k ↦
            let e1 = split_takes g1 k.0 k.1 (o ++ r) ((s.front ++ s.over) ++ s.rest) k.3 (sym e ∙ s.parts ∙ sym (append_assoc s.front s.over s.rest)) in
            absurd (s.ends k.0 (k.1 ++ (o ++ r)) s.rest k.2 k.4 e1 (alike_same s.rest))
      ];
    }

reads_behind : {A B : Type 0} (first : Part A) (next : A → Part B) (follow : A → List ℕ → Type 0) (last : B → List ℕ → Type 0)
    (text rest : List ℕ) (v : A) (r : Result (B × List ℕ) Refusal)
    → Follows follow next last → Fine first follow → Took first text v rest → Reads (next v) last rest r → Reads (chain first next) last text r
reads_behind first next follow last text rest v (Ok x) follows fine t u = took_both first next text rest x.1 v x.0 t u
reads_behind first next follow last text rest v (Err f) follows fine t s = stuck_behind first next follow last text rest v f follows fine t s

-- The lemma of composition.
pub reads_then : {A B : Type 0} (first : Part A) (next : A → Part B) (follow : A → List ℕ → Type 0) (last : B → List ℕ → Type 0)
    (text : List ℕ) (r : Result (A × List ℕ) Refusal) (f : A × List ℕ → Result (B × List ℕ) Refusal)
    → Follows follow next last → Fine first follow → ((v : A) → Fine (next v) last) → Reads first follow text r
    → ((x : A × List ℕ) → Took first text x.0 x.1 → Reads (next x.0) last x.1 (f x)) → Reads (chain first next) last text (r >>= f)
reads_then first next follow last text (Ok x) f follows one fine t others = reads_behind first next follow last text x.1 x.0 (f x) follows one t (others x t)
reads_then first next follow last text (Err e) f follows one fine s others = stuck_before first next follow last text e follows fine s

-- two fine parts, one behind the other, are a fine part, where what the second takes may follow the first
pub fine_then : {A B : Type 0} (first : Part A) (next : A → Part B) (follow : A → List ℕ → Type 0) (last : B → List ℕ → Type 0)
    → Follows follow next last → Fine first follow → ((v : A) → Fine (next v) last) → Fine (chain first next) last
fine_then {A} first next follow last follows one fine =
    let v = one.some.1 in let g = (fine v).some in
    record {
      some = (one.some.0 ++ g.0, g.1, λ q hq. let k = g.2 q hq in (one.some.0, g.0, v, refl, one.some.2 (g.0 ++ q) (follows v g.0 q g.1 k hq), k));
      before = λ a rest q w h hq.
          let k = (fine h.2).before h.1 rest q w h.5 hq in (h.0, h.1, h.2, h.3, one.before h.0 (h.1 ++ rest) (h.1 ++ q) h.2 h.4 (follows h.2 h.1 q w k hq), k);
    }

-- A part that is read by a function on lists.
pub record Good {A : Type 0} (part : Part A) (follow : A → List ℕ → Type 0) (read : List ℕ → Result (A × List ℕ) Refusal) : Type 0 where
  -- the part is fine before what may follow
  pub fine : Fine part follow
  -- what the function gives for a text is a reading of the part
  pub reads : (text : List ℕ) → Reads part follow text (read text)

-- two good parts, one behind the other, are a good part, read by their functions one after the other
pub good_then : {A B : Type 0} {first : Part A} {next : A → Part B} {follow : A → List ℕ → Type 0} {last : B → List ℕ → Type 0}
    {r : List ℕ → Result (A × List ℕ) Refusal} {f : A → List ℕ → Result (B × List ℕ) Refusal}
    → Good first follow r → ((v : A) → Good (next v) last (f v)) → Follows follow next last → Good (chain first next) last (λ text. r text >>= λ x. f x.0 x.1)
good_then {A} {B} {first} {next} {follow} {last} {r} {f} one others follows = record {
  fine = fine_then first next follow last follows one.fine (λ v. (others v).fine);
  reads = λ text. reads_then first next follow last text (r text) (λ x. f x.0 x.1) follows one.fine (λ v. (others v).fine)
      (one.reads text) (λ x t. (others x.0).reads x.1);
}

-- What is left behind what was read is not longer than the text.
pub shorter : {A : Type 0} {part : Part A} {follow : A → List ℕ → Type 0} {read : List ℕ → Result (A × List ℕ) Refusal}
    → Good part follow read → (text rest : List ℕ) (v : A) → read text ≡ Ok (v, rest) → length rest ≤ length text
shorter {A} {part} {follow} {read} good text rest v e =
    let t : Took part text v rest = subst (Reads part follow text) e (good.reads text) in let k = ap length t.parts ∙ length-append t.front rest in omega arith

-- at a refusal no more bytes are left than the text has
pub refusal_within : {A : Type 0} {part : Part A} {follow : A → List ℕ → Type 0} {read : List ℕ → Result (A × List ℕ) Refusal}
    → Good part follow read → (text : List ℕ) (f : Refusal) → read text ≡ Err f → f.left ≤ length text
refusal_within {A} {part} {follow} {read} good text f e =
    let s : Stuck part follow text f = subst (Reads part follow text) e (good.reads text) in
    let k = ap length s.parts ∙ length-append s.front (s.over ++ s.rest) in let l = s.left in omega arith

-- What a part begins with: all that it takes, with what stands behind, passes the test.
abbrev pub Heads : {A : Type 0} → (ℕ → Bool) → Part A → Type 0
Heads {A} test part = (b q : List ℕ) (w : A) → part.takes b q w → starts test (b ++ q) ≡ true

-- what all that the first part takes begins with, all that both take begins with
pub heads_then : {A B : Type 0} (test : ℕ → Bool) (first : Part A) (next : A → Part B) → Heads test first → Heads test (chain first next)
heads_then test first next heads b q w h = ap (starts test) (split_back b h.0 h.1 q h.3) ∙ heads h.0 (h.1 ++ q) h.2 h.4
