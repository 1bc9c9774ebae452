-- A line has one plain text, and one that is as long as the line is the line.
use Rattle.std.proofs.Common.{◌≡◌, ℕ, List, [], ◌∷◌, ◌++◌, length, codes, refl, sym, ap, subst, ◌∙◌, append_assoc, inl, inr, arith}
use Rattle.std.proofs.lemmas.List.{append-nil, length-append, append_cancel_right}
use Rattle.line_parts.specs.Leaves.{EachIs}
use Rattle.line_parts.specs.Reading.{behind_first}
use Rattle.strace_reader.proofs.FormFacts.{cut_same, trailing}
use Rattle.raw_lines.specs.Fields.{AreFields, is_clock_byte}
use Rattle.raw_lines.specs.Plain.{IsFront, IsBeforeReturns, IsBeforeTime, IsUntimed, IsTaken, IsPlain}
use Rattle.raw_lines.proofs.Searches.{first_byte}
use Rattle.raw_lines.proofs.FieldFacts.{fields_same, fields_front, clock_each}

-- a line has one front and one body
pub front_same : (text f b g c : List ℕ) → IsFront text f b → IsFront text g c → (f ≡ g) × (b ≡ c)
front_same text f b g c h k = let s = cut_same text h.0 k.0 b c h.1 k.1 in (append_cancel_right f g c (ap (λ x. f ++ x) (sym s.1) ∙ sym h.2 ∙ k.2), s.1)

before_returns_same : (text a b : List ℕ) → IsBeforeReturns text a → IsBeforeReturns text b → a ≡ b
before_returns_same text a b h g = trailing 13 a b h.0 g.0 h.1 g.1 (λ f e. h.3 (f, e)) (λ f e. g.3 (f, e)) (sym h.2 ∙ g.2)

-- bytes of a clock and `>` hold no space with `<` behind it
no_space_inside : (c b d : List ℕ) → EachIs is_clock_byte c → c ++ codes ">" ≡ b ++ (codes " <" ++ d) → ⊥
no_space_inside [] (x ∷ []) d hc e = absurd cc
no_space_inside (x ∷ c) [] d hc e = let k : x ≡ 32 = cc in let l = ap is_clock_byte k in absurd cc
no_space_inside (x ∷ c) (y ∷ b) d hc e = let t : c ++ codes ">" ≡ b ++ (codes " <" ++ d) = cc in no_space_inside c b d hc.1 t
no_space_inside c b d hc e = absurd cc

-- nor do a space, `<`, bytes of a clock and `>`, but at their start
no_other_start : (x : ℕ) (c b d : List ℕ) → EachIs is_clock_byte c → codes " <" ++ (c ++ codes ">") ≡ x ∷ (b ++ (codes " <" ++ d)) → ⊥
no_other_start x c [] d hc e = let k : ◌≡◌ {A = ℕ} 60 32 = ap (λ l. first_byte (behind_first l)) e in omega arith
no_other_start x c (y ∷ b) d hc e = no_space_inside c b d hc (ap (λ l. behind_first (behind_first l)) e)

-- a text that ends with a time has one front before it
time_same : (a b c d : List ℕ) → EachIs is_clock_byte c → EachIs is_clock_byte d
    → a ++ (codes " <" ++ (c ++ codes ">")) ≡ b ++ (codes " <" ++ (d ++ codes ">")) → a ≡ b
time_same [] [] c d hc hd e = refl
time_same [] (x ∷ b) c d hc hd e = absurd (no_other_start x c b (d ++ codes ">") hc e)
time_same (x ∷ a) [] c d hc hd e = absurd (no_other_start x d a (c ++ codes ">") hd (sym e))
time_same (x ∷ a) (y ∷ b) c d hc hd e = let h : x ≡ y = cc in let t : a ++ (codes " <" ++ (c ++ codes ">")) ≡ b ++ (codes " <" ++ (d ++ codes ">")) = cc in
    ap (λ z. x ∷ z) (time_same a b c d hc hd t) ∙ ap (λ z. z ∷ b) h

untimed_same : (text a b : List ℕ) → IsUntimed text a → IsUntimed text b → a ≡ b
untimed_same text a b (inl h) (inl g) = time_same a b h.0 g.0 (clock_each h.0 h.1) (clock_each g.0 g.1) (sym h.2 ∙ g.2)
untimed_same text a b (inl h) (inr g) = absurd (g.1 a h)
untimed_same text a b (inr h) (inl g) = absurd (h.1 b g)
untimed_same text a b (inr h) (inr g) = h.0 ∙ sym g.0

taken_same : (text a b : List ℕ) → IsTaken text a → IsTaken text b → a ≡ b
taken_same text a b h g =
    let f = front_same text h.front h.body g.front g.body h.begins g.begins in
    let k : h.behind ≡ g.behind = fields_same g.body h.behind g.behind (subst (λ x. AreFields x h.behind) f.1 h.fields) g.fields in
    let l : h.before ≡ g.before = before_returns_same g.behind h.before g.before (subst (λ x. IsBeforeReturns x h.before) k h.returns) g.returns in
    let m : h.left ≡ g.left = untimed_same g.before h.left g.left (subst (λ x. IsUntimed x h.left) l h.time) g.time in
    h.same ∙ ap (λ x. x ++ h.left) f.0 ∙ ap (λ x. g.front ++ x) m ∙ sym g.same

-- a line has one plain text
pub plain_same : (text a b : List ℕ) → IsPlain text a → IsPlain text b → a ≡ b
plain_same text a b (inl h) (inl g) = h.1 ∙ sym g.1
plain_same text a b (inl h) (inr g) = absurd (g.0 h.0)
plain_same text a b (inr h) (inl g) = absurd (h.0 g.0)
plain_same text a b (inr h) (inr g) = taken_same text a b h.1 g.1

-- ---- how long a plain text is

no_bytes : (a : List ℕ) → length a ≡ 0 → a ≡ []
no_bytes [] e = refl
no_bytes (b ∷ a) e = absurd (omega arith)

untimed_front : (text front : List ℕ) → IsUntimed text front → (tail : List ℕ) × (text ≡ front ++ tail)
untimed_front text front (inl h) = (codes " <" ++ (h.0 ++ codes ">"), h.2)
untimed_front text front (inr h) = ([], sym h.0 ∙ sym (append-nil front))

-- a line is its plain text with bytes between the number and the body, and bytes at the end
pub record AreTaken (text plain : List ℕ) : Type 0 where
  -- the number with its spaces
  pub front : List ℕ
  -- the fields
  pub between : List ℕ
  -- what is left of the body
  pub left : List ℕ
  -- a time and carriage returns
  pub behind : List ℕ
  -- these are the line
  pub parts : text ≡ front ++ (between ++ (left ++ behind))
  -- and these the plain text
  pub same : plain ≡ front ++ left

-- the parts of a line of which the plain text was taken
pub taken_parts : (text plain : List ℕ) → IsTaken text plain → AreTaken text plain
taken_parts text plain h =
    let f = fields_front h.body h.behind h.fields in let r = h.returns in
    let u = untimed_front h.before h.left h.time in
    let end : h.behind ≡ h.left ++ (u.0 ++ r.0) = r.2 ∙ ap (λ x. x ++ r.0) u.1 ∙ append_assoc h.left u.0 r.0 in
    record {
      front = h.front;
      between = f.0;
      left = h.left;
      behind = u.0 ++ r.0;
      parts = h.begins.2 ∙ ap (λ x. h.front ++ x) (f.1 ∙ ap (λ x. f.0 ++ x) end);
      same = h.same;
    }

-- a plain text isn't longer than its line, and where it is as long it is the line
pub taken_long : (text plain : List ℕ) → IsTaken text plain → length plain ≡ length text → plain ≡ text
taken_long text plain h e =
    let p = taken_parts text plain h in
    let a = ap length p.parts ∙ length-append p.front (p.between ++ (p.left ++ p.behind)) in
    let b = length-append p.between (p.left ++ p.behind) in let c = length-append p.left p.behind in
    let d = ap length p.same ∙ length-append p.front p.left in
    let x : p.between ≡ [] = no_bytes p.between (omega arith) in
    let y : p.behind ≡ [] = no_bytes p.behind (omega arith) in
    p.same ∙ ap (λ z. p.front ++ z) (sym (append-nil p.left))
    ∙ ap (λ z. p.front ++ (p.left ++ z)) (sym y) ∙ ap (λ z. p.front ++ (z ++ (p.left ++ p.behind))) (sym x) ∙ sym p.parts
