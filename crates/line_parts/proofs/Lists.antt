-- A list of items is read item by item: its part is that of one item with the rest of the list behind
-- it, and a reading of that part is a reading of the list.
use Rattle.std.proofs.Common.{◌≡◌, ℕ, ◌+◌, ◌<◌, ◌≤◌, zero, suc, List, [], ◌∷◌, ◌++◌, length, Result, Ok, Err, Option}
use Rattle.std.proofs.Common.{Some, None, Bool, true, false, refl, sym, ap, subst, ◌∙◌, append_assoc, inl, inr, arith}
use Rattle.std.specs.Prelude.{◌⊎◌, if◌then◌else◌}
use Rattle.std.specs.Int.RustNames.{bit_or}
use Rattle.std.proofs.lemmas.List.{append-nil, length-append}
use Rattle.line_parts.specs.declared.refusal.Refusal.{Refusal}
use Rattle.line_parts.specs.declared.refusal.What.{What}
use Rattle.line_parts.specs.declared.refusal.What.TheVariants.{Comma}
use Rattle.line_parts.specs.Parts.{Part, chain, choice, arm, done, starts}
use Rattle.line_parts.specs.Leaves.{is, byte, worth}
use Rattle.line_parts.proofs.Numerals.{NoNumeral}
use Rattle.line_parts.specs.Lists.{with_more, NoBar, Items, ItemRefuses, listed}
use Rattle.line_parts.specs.Reading.{◌>>=◌, byte_at, behind_first, list_next, list_at}
use Rattle.line_parts.proofs.Sequence.{Took, Reads, Fine, Good, Follows, Heads, reads_then, fine_then}
use Rattle.line_parts.proofs.Choices.{Nonempty, fine_choice, choice_reads}
use Rattle.line_parts.proofs.Leaves.{Any, byte_good, done_good, same_is}

-- ---- two parts that are the same relation

pub record Same {A : Type 0} (one other : Part A) : Type 0 where
  -- what the one takes, the other takes
  pub to : (front rest : List ℕ) (v : A) → one.takes front rest v → other.takes front rest v
  -- what the other takes, the one takes
  pub back : (front rest : List ℕ) (v : A) → other.takes front rest v → one.takes front rest v
  -- what the one refuses, the other refuses
  pub refuses_to : (front over rest : List ℕ) (w : What) → one.refuses front over rest w → other.refuses front over rest w
  -- what the other refuses, the one refuses
  pub refuses_back : (front over rest : List ℕ) (w : What) → other.refuses front over rest w → one.refuses front over rest w

-- a reading of a part is a reading of each part that is the same relation
pub reads_same : {A : Type 0} (one other : Part A) (follow : A → List ℕ → Type 0) (text : List ℕ)
    (r : Result (A × List ℕ) Refusal) → Same one other → Reads one follow text r → Reads other follow text r
reads_same one other follow text (Ok x) same t = record {
  front = t.front;
  parts = t.parts;
  takes = same.to t.front x.1 x.0 t.takes;
  only = λ p q more w h e alike. t.only p q more w (same.back p q w h) e alike;
  clean = λ g o r w h e. t.clean g o r w (same.refuses_back g o r w h) e;
}
reads_same one other follow text (Err f) same s = record {
  front = s.front;
  over = s.over;
  rest = s.rest;
  parts = s.parts;
  left = s.left;
  due = same.refuses_to s.front s.over s.rest f.what s.due;
  begins = (s.begins.0, s.begins.1, λ q hq. same.to (s.front ++ s.begins.0) q s.begins.1 (s.begins.2 q hq));
  ends = λ p q more w h e alike. s.ends p q more w (same.back p q w h) e alike;
  one = λ g o r w h e. s.one g o r w (same.refuses_back g o r w h) e;
}

-- ---- what may follow

-- a comma or a closing parenthesis
abbrev pub is_close : ℕ → Bool
is_close c = if is 44 c then true else is 41 c

-- a bar, or a comma or a closing parenthesis
abbrev pub is_join : ℕ → Bool
is_join c = if is 124 c then true else is_close c

-- what may follow an item: a bar, a comma or a closing parenthesis, and the end behind one that took the rest
abbrev pub ItemEnds : Option ℕ → List ℕ → Type 0
ItemEnds None q = q ≡ []
ItemEnds (Some bits) q = starts is_join q ≡ true

-- what may follow a list: a comma or a closing parenthesis, and the end behind one that took the rest
abbrev pub ListEnds : Option ℕ → List ℕ → Type 0
ListEnds None q = q ≡ []
ListEnds (Some bits) q = starts is_close q ≡ true

not_bar : (c : ℕ) (a b x : Bool) → is 44 c ≡ a → is 41 c ≡ b → is 124 c ≡ x → (if a then true else b) ≡ true → x ≡ false
not_bar c a b false ea eb ex h = refl
not_bar c true b true ea eb ex h = let p = same_is 44 c ea in let q = same_is 124 c ex in absurd (omega arith)
not_bar c false true true ea eb ex h = let p = same_is 41 c eb in let q = same_is 124 c ex in absurd (omega arith)
not_bar c false false true ea eb ex h = cc

close_byte : (c : ℕ) → is_close c ≡ true → is 124 c ≡ false
close_byte c h = not_bar c (is 44 c) (is 41 c) (is 124 c) refl refl refl h

close_no_bar : (q : List ℕ) → starts is_close q ≡ true → starts (is 124) q ≡ false
close_no_bar [] h = refl
close_no_bar (c ∷ q) h = close_byte c h

either_join : (a b : Bool) → b ≡ true → (if a then true else b) ≡ true
either_join true b h = refl
either_join false b h = h

-- a text that begins with a comma or a closing parenthesis begins with a bar or one of these
pub close_joins : (q : List ℕ) → starts is_close q ≡ true → starts is_join q ≡ true
close_joins [] h = cc
close_joins (c ∷ q) h = either_join (is 124 c) (is_close c) h

bar_joins : (q : List ℕ) → starts (is 124) q ≡ true → starts is_join q ≡ true
bar_joins [] h = cc
bar_joins (c ∷ q) h = rw h refl

join_cases : (c : ℕ) (a b d : Bool) → is 124 c ≡ a → is 44 c ≡ b → is 41 c ≡ d
    → (if a then true else if b then true else d) ≡ true → (c ≡ 124) ⊎ ((c ≡ 44) ⊎ (c ≡ 41))
join_cases c true b d ea eb ed h = inl (same_is 124 c ea)
join_cases c false true d ea eb ed h = inr (inl (same_is 44 c eb))
join_cases c false false true ea eb ed h = inr (inr (same_is 41 c ed))
join_cases c false false false ea eb ed h = cc

join_byte : (c : ℕ) → is_join c ≡ true → (c ≡ 124) ⊎ ((c ≡ 44) ⊎ (c ≡ 41))
join_byte c h = join_cases c (is 124 c) (is 44 c) (is 41 c) refl refl refl h

-- a test that none of the three passes
pub join_fails : (test : ℕ → Bool) → test 124 ≡ false → test 44 ≡ false → test 41 ≡ false → (q : List ℕ) → starts is_join q ≡ true → starts test q ≡ false
join_fails test x y z [] h = refl
join_fails test x y z (c ∷ q) h = elim (join_byte c h) [ inl k ↦ ap test k ∙ x | inr k ↦ elim k [ inl l ↦ ap test l ∙ y | inr l ↦ ap test l ∙ z ] ]

-- what begins with a bar, a comma or a closing parenthesis may follow a number
pub join_no_numeral : (q : List ℕ) → starts is_join q ≡ true → NoNumeral q
unfolding worth
join_no_numeral [] h = tt
join_no_numeral (c ∷ q) h = elim (join_byte c h) [
  | inl k ↦ rw k (omega arith, omega arith)
  | inr k ↦ elim k [ inl l ↦ rw l (omega arith, omega arith) | inr l ↦ rw l (omega arith, omega arith) ]
]

-- ---- the list is an item with the rest of the list behind it

-- what stands behind an item: a bar and more items, or nothing; nothing too where the item took the rest
abbrev pub behind : Part (Option ℕ) → ℕ → Option ℕ → Part (Option ℕ)
behind item bits None = done None
behind item bits (Some n) = choice (is 124) (chain (byte 124 Comma) (λ u. listed item (bit_or bits n))) (done (Some (bit_or bits n)))

-- one item, and behind it the rest of the list
abbrev pub unrolled : Part (Option ℕ) → ℕ → Part (Option ℕ)
unrolled item bits = chain item (behind item bits)

fold_choice : (item : Part (Option ℕ)) (bits n : ℕ) (a b front rest : List ℕ) (v : Option ℕ) (x : Bool) → front ≡ a ++ b
    → item.takes a (b ++ rest) (Some n) → starts (is 124) (b ++ rest) ≡ x
    → (arm (chain (byte 124 Comma) (λ u. listed item (bit_or bits n))) (done (Some (bit_or bits n))) x).takes b rest v → (listed item bits).takes front rest v
fold_choice item bits n a b front rest v true e h bar k =
    let is_b : b ≡ 124 ∷ k.1 = k.3 ∙ ap (λ y. y ++ k.1) k.4 in
    (n ∷ k.5.0, (a, k.1, e ∙ ap (λ y. a ++ y) is_b, subst (λ y. item.takes a (y ++ rest) (Some n)) is_b h, k.5.1))
fold_choice item bits n a b front rest v false e h bar k =
    let is_front : front ≡ a = e ∙ ap (λ y. a ++ y) k.0 ∙ append-nil a in
    let h1 : item.takes a rest (Some n) = subst (λ y. item.takes a (y ++ rest) (Some n)) k.0 h in
    ([], (Some n, subst (λ y. item.takes y rest (Some n)) (sym is_front) h1, sym (ap (λ y. starts (is 124) (y ++ rest)) k.0) ∙ bar, k.1))

fold_takes : (item : Part (Option ℕ)) (bits : ℕ) (front rest : List ℕ) (v : Option ℕ) (a b : List ℕ) (u : Option ℕ)
    → front ≡ a ++ b → item.takes a (b ++ rest) u → (behind item bits u).takes b rest v → (listed item bits).takes front rest v
fold_takes item bits front rest v a b None e h k =
    let is_front : front ≡ a = e ∙ ap (λ y. a ++ y) k.0 ∙ append-nil a in
    let h1 : item.takes a rest None = subst (λ y. item.takes a (y ++ rest) None) k.0 h in
    ([], (None, subst (λ y. item.takes y rest None) (sym is_front) h1, tt, k.1))
fold_takes item bits front rest v a b (Some n) e h k = fold_choice item bits n a b front rest v (starts (is 124) (b ++ rest)) e h refl k

unfold_last : (item : Part (Option ℕ)) (bits : ℕ) (front rest : List ℕ) (v u : Option ℕ) → item.takes front rest u → NoBar u rest
    → v ≡ with_more bits u → (unrolled item bits).takes front rest v
unfold_last item bits front rest v None h bar e = (front, [], None, sym (append-nil front), h, (refl, e))
unfold_last item bits front rest v (Some n) h bar e = (
  front,
  [],
  Some n,
  sym (append-nil front),
  h,
  subst (λ x. (arm (chain (byte 124 Comma) (λ u. listed item (bit_or bits n))) (done (Some (bit_or bits n))) x).takes [] rest v) (sym bar) (refl, e),
)

unfold_takes : (item : Part (Option ℕ)) (bits : ℕ) (front rest : List ℕ) (v : Option ℕ) (before : List ℕ)
    → Items item bits before front rest v → (unrolled item bits).takes front rest v
unfold_takes item bits front rest v [] h = unfold_last item bits front rest v h.0 h.1 h.2 h.3
unfold_takes item bits front rest v (n ∷ before) h = (h.0, 124 ∷ h.1, Some n, h.2, h.3, (124 ∷ [], h.1, tt, refl, refl, (before, h.4)))

fold_choice_refuses : (item : Part (Option ℕ)) (bits n : ℕ) (a b front over rest : List ℕ) (w : What) (x : Bool) → front ≡ a ++ b
    → item.takes a (b ++ (over ++ rest)) (Some n) → starts (is 124) (b ++ (over ++ rest)) ≡ x
    → (arm (chain (byte 124 Comma) (λ u. listed item (bit_or bits n))) (done (Some (bit_or bits n))) x).refuses b over rest w
    → (listed item bits).refuses front over rest w
fold_choice_refuses item bits n a b front over rest w true e h bar (inl k) =
    let is_rest : b ++ (over ++ rest) ≡ rest = ap (λ y. y ++ (over ++ rest)) k.0 ∙ ap (λ y. y ++ rest) k.1 in
    let none : starts (is 124) (b ++ (over ++ rest)) ≡ false = ap (starts (is 124)) is_rest ∙ k.3 in absurd cc
fold_choice_refuses item bits n a b front over rest w true e h bar (inr k) =
    let is_b : b ≡ 124 ∷ k.1 = k.3 ∙ ap (λ y. y ++ k.1) k.4 in
    (n ∷ k.5.0, (a, k.1, e ∙ ap (λ y. a ++ y) is_b, subst (λ y. item.takes a (y ++ (over ++ rest)) (Some n)) is_b h, k.5.1))
fold_choice_refuses item bits n a b front over rest w false e h bar k = absurd k

fold_behind_refuses : (item : Part (Option ℕ)) (bits : ℕ) (front over rest : List ℕ) (w : What) (a b : List ℕ) (u : Option ℕ)
    → front ≡ a ++ b → item.takes a (b ++ (over ++ rest)) u → (behind item bits u).refuses b over rest w → (listed item bits).refuses front over rest w
fold_behind_refuses item bits front over rest w a b None e h k = absurd k
fold_behind_refuses item bits front over rest w a b (Some n) e h k =
    fold_choice_refuses item bits n a b front over rest w (starts (is 124) (b ++ (over ++ rest))) e h refl k

fold_refuses : (item : Part (Option ℕ)) (bits : ℕ) (front over rest : List ℕ) (w : What)
    → (unrolled item bits).refuses front over rest w → (listed item bits).refuses front over rest w
fold_refuses item bits front over rest w (inl h) = ([], h)
fold_refuses item bits front over rest w (inr h) = fold_behind_refuses item bits front over rest w h.0 h.1 h.2 h.3 h.4 h.5

unfold_refuses : (item : Part (Option ℕ)) (bits : ℕ) (front over rest : List ℕ) (w : What) (before : List ℕ)
    → ItemRefuses item before front over rest w → (unrolled item bits).refuses front over rest w
unfold_refuses item bits front over rest w [] h = inl h
unfold_refuses item bits front over rest w (n ∷ before) h = inr (h.0, 124 ∷ h.1, Some n, h.2, h.3, inr (124 ∷ [], h.1, tt, refl, refl, (before, h.4)))

unrolled_same : (item : Part (Option ℕ)) (bits : ℕ) → Same (unrolled item bits) (listed item bits)
unrolled_same item bits = record {
  to = λ front rest v h. fold_takes item bits front rest v h.0 h.1 h.2 h.3 h.4 h.5;
  back = λ front rest v h. unfold_takes item bits front rest v h.0 h.1;
  refuses_to = λ front over rest w h. fold_refuses item bits front over rest w h;
  refuses_back = λ front over rest w h. unfold_refuses item bits front over rest w h.0 h.1;
}

items_head : (test : ℕ → Bool) (item : Part (Option ℕ)) (bits : ℕ) → Heads test item
    → (b q : List ℕ) (w : Option ℕ) (before : List ℕ) → Items item bits before b q w → starts test (b ++ q) ≡ true
items_head test item bits heads b q w [] h = heads b q h.0 h.1
items_head test item bits heads b q w (n ∷ before) h =
    let e : b ++ q ≡ h.0 ++ (124 ∷ (h.1 ++ q)) = ap (λ y. y ++ q) h.2 ∙ append_assoc h.0 (124 ∷ h.1) q in
    ap (starts test) e ∙ heads h.0 (124 ∷ (h.1 ++ q)) (Some n) h.3

-- what each item begins with, the list begins with
pub listed_heads : (test : ℕ → Bool) (item : Part (Option ℕ)) (bits : ℕ) → Heads test item → Heads test (listed item bits)
listed_heads test item bits heads b q w h = items_head test item bits heads b q w h.0 h.1

-- ---- the list is fine

more_ends : (bits : ℕ) (u : Option ℕ) (q : List ℕ) → ListEnds (with_more bits u) q → ItemEnds u q × NoBar u q
more_ends bits None q h = (h, tt)
more_ends bits (Some n) q h = (close_joins q h, close_no_bar q h)

items_before : (item : Part (Option ℕ)) → Fine item ItemEnds → (before : List ℕ) (bits : ℕ) (a rest q : List ℕ) (v : Option ℕ)
    → Items item bits before a rest v → ListEnds v q → Items item bits before a q v
items_before item fine [] bits a rest q v h hq =
    let k = more_ends bits h.0 q (subst (λ x. ListEnds x q) h.3 hq) in (h.0, fine.before a rest q h.0 h.1 k.0, k.1, h.3)
items_before item fine (n ∷ before) bits a rest q v h hq = (
  h.0,
  h.1,
  h.2,
  fine.before h.0 (124 ∷ (h.1 ++ rest)) (124 ∷ (h.1 ++ q)) (Some n) h.3 refl,
  items_before item fine before (bit_or bits n) h.1 rest q v h.4 hq,
)

-- a list of fine items is fine
pub listed_fine : (item : Part (Option ℕ)) → Fine item ItemEnds → (bits : ℕ) → Fine (listed item bits) ListEnds
listed_fine item fine bits =
    let s = fine.some in
    record {
      some = (s.0, with_more bits s.1, λ q hq. let k = more_ends bits s.1 q hq in ([], (s.1, s.2 q k.0, k.1, refl)));
      before = λ a rest q v h hq. (h.0, items_before item fine h.0 bits a rest q v h.1 hq);
    }

bar_nonempty : {A : Type 0} (next : Unit {0} → Part A) → Nonempty (is 124) (chain (byte 124 Comma) next)
bar_nonempty next rest v h bar = let e : [] ≡ 124 ∷ h.1 = h.3 ∙ ap (λ y. y ++ h.1) h.4 in cc

behind_fine : (item : Part (Option ℕ)) → Fine item ItemEnds → (bits : ℕ) (u : Option ℕ) → Fine (behind item bits u) ListEnds
behind_fine item fine bits None = (done_good None ListEnds).fine
behind_fine item fine bits (Some n) = fine_choice (is 124) (fine_then (byte 124 Comma) (λ u. listed item (bit_or bits n)) Any ListEnds (λ v b q w h hq. tt)
    (byte_good 124 Comma).fine (λ u. listed_fine item fine (bit_or bits n)))
    (done_good (Some (bit_or bits n)) ListEnds).fine (bar_nonempty (λ u. listed item (bit_or bits n)))
    (λ rest q v h hq. close_no_bar q (subst (λ x. ListEnds x q) h.1 hq)) (
      [],
      Some (bit_or bits n),
      λ q hq. subst (λ (x : Bool).
          (arm (chain (byte 124 Comma) (λ u. listed item (bit_or bits n))) (done (Some (bit_or bits n))) x).takes [] q
          (Some (bit_or bits n))) (sym (close_no_bar q hq)) (refl, refl),
    )

behind_follows_choice : (item : Part (Option ℕ)) (bits n : ℕ) (b q : List ℕ) (w : Option ℕ) (x : Bool) → starts (is 124) (b ++ q) ≡ x
    → (arm (chain (byte 124 Comma) (λ u. listed item (bit_or bits n))) (done (Some (bit_or bits n))) x).takes b q w → ListEnds w q
    → starts is_join (b ++ q) ≡ true
behind_follows_choice item bits n b q w true bar h hq = bar_joins (b ++ q) bar
behind_follows_choice item bits n b q w false bar h hq = ap (λ y. starts is_join (y ++ q)) h.0 ∙ close_joins q (subst (λ x. ListEnds x q) h.1 hq)

behind_follows : (item : Part (Option ℕ)) (bits : ℕ) → Follows ItemEnds (behind item bits) ListEnds
behind_follows item bits None b q w h hq = ap (λ y. y ++ q) h.0 ∙ subst (λ x. ListEnds x q) h.1 hq
behind_follows item bits (Some n) b q w h hq = behind_follows_choice item bits n b q w (starts (is 124) (b ++ q)) refl h hq

-- ---- the list is read

byte_taken : (rest : List ℕ) → starts (is 124) rest ≡ true → byte_at 124 Comma rest ≡ Ok (tt, behind_first rest)
unfolding byte_at
byte_taken [] h = cc
byte_taken (c ∷ rest) h = rw h refl

behind_shorter : (rest : List ℕ) → starts (is 124) rest ≡ true → length (behind_first rest) + 1 ≤ length rest
behind_shorter [] h = cc
behind_shorter (c ∷ rest) h = omega arith

abbrev ListReads : Part (Option ℕ) → (List ℕ → Result (Option ℕ × List ℕ) Refusal) → ℕ → Type 0
ListReads item read k = (bits : ℕ) (text : List ℕ) → length text < k → Reads (listed item bits) ListEnds text (list_at read k bits text)

-- behind a bar that was read
bar_behind : (item : Part (Option ℕ)) (bits : ℕ) (rest : List ℕ) (r : Result (Option ℕ × List ℕ) Refusal) → Fine item ItemEnds → starts (is 124) rest ≡ true
    → Reads (listed item bits) ListEnds (behind_first rest) r → Reads (chain (byte 124 Comma) (λ u. listed item bits)) ListEnds rest r
bar_behind item bits rest r fine bar h =
    reads_then (byte 124 Comma) (λ u. listed item bits) Any ListEnds rest (Ok (tt, behind_first rest)) (λ u. r) (λ v b q w k hq. tt)
    (byte_good 124 Comma).fine (λ u. listed_fine item fine bits)
    (subst (Reads (byte 124 Comma) Any rest) (byte_taken rest bar) ((byte_good 124 Comma).reads rest))
    (λ x t. let e : behind_first rest ≡ x.1 = ap behind_first (t.parts ∙ ap (λ y. y ++ x.1) t.takes) in subst (λ y. Reads (listed item bits) ListEnds y r) e h)

bar_reads : (item : Part (Option ℕ)) (read : List ℕ → Result (Option ℕ × List ℕ) Refusal) (k bits n : ℕ) (rest : List ℕ)
    (x : Bool) → Fine item ItemEnds → ListReads item read k → length rest ≤ k → starts (is 124) rest ≡ x
    → Reads (arm (chain (byte 124 Comma) (λ u. listed item (bit_or bits n))) (done (Some (bit_or bits n))) x) ListEnds rest
    (if x then list_at read k (bit_or bits n) (behind_first rest) else Ok (Some (bit_or bits n), rest))
bar_reads item read k bits n rest true fine on le bar =
    let s = behind_shorter rest bar in
    bar_behind item (bit_or bits n) rest (list_at read k (bit_or bits n) (behind_first rest)) fine bar (on (bit_or bits n) (behind_first rest) (omega arith))
bar_reads item read k bits n rest false fine on le bar = (done_good (Some (bit_or bits n)) ListEnds).reads rest

next_reads : (item : Part (Option ℕ)) (read : List ℕ → Result (Option ℕ × List ℕ) Refusal) (k bits : ℕ) (u : Option ℕ)
    (rest : List ℕ) → Fine item ItemEnds → ListReads item read k → length rest ≤ k
    → Reads (behind item bits u) ListEnds rest (list_next (list_at read k) bits u rest)
next_reads item read k bits None rest fine on le = (done_good None ListEnds).reads rest
next_reads item read k bits (Some n) rest fine on le =
    choice_reads (is 124) (chain (byte 124 Comma) (λ u. listed item (bit_or bits n))) (done (Some (bit_or bits n))) ListEnds rest
    (list_next (list_at read k) bits (Some n) rest) (behind_fine item fine bits (Some n))
    (bar_reads item read k bits n rest (starts (is 124) rest) fine on le refl)

took_shorter : (item : Part (Option ℕ)) (text : List ℕ) (v : Option ℕ) (rest : List ℕ) (k : ℕ) → Took item text v rest → length text < suc k → length rest ≤ k
took_shorter item text v rest k t lt = let e = ap length t.parts ∙ length-append t.front rest in omega arith

-- what list_at gives, with k items allowed, is a reading of the list for each text of fewer than k bytes
pub list_reads : (item : Part (Option ℕ)) (read : List ℕ → Result (Option ℕ × List ℕ) Refusal) → Good item ItemEnds read → (k : ℕ) → ListReads item read k
unfolding list_at
list_reads item read good zero bits text lt = absurd (omega arith)
list_reads item read good (suc k) bits text lt =
    reads_same (unrolled item bits) (listed item bits) ListEnds text (read text >>= λ x. list_next (list_at read k) bits x.0 x.1) (unrolled_same item bits)
    (reads_then item (behind item bits) ItemEnds ListEnds text (read text) (λ x. list_next (list_at read k) bits x.0 x.1)
    (behind_follows item bits) good.fine (behind_fine item good.fine bits) (good.reads text)
    (λ x t. next_reads item read k bits x.0 x.1 good.fine (list_reads item read good k) (took_shorter item text x.0 x.1 k t lt)))

-- a list, of as many items as the text has bytes
pub listed_good : (item : Part (Option ℕ)) (read : List ℕ → Result (Option ℕ × List ℕ) Refusal) → Good item ItemEnds read
    → (bits : ℕ) → Good (listed item bits) ListEnds (λ text. list_at read (suc (length text)) bits text)
listed_good item read good bits = record {
  fine = listed_fine item good.fine bits;
  reads = λ text. list_reads item read good (suc (length text)) bits text (omega arith);
}

any_bar : (read : List ℕ → Result (Option ℕ × List ℕ) Refusal) (j k bits n : ℕ) (rest : List ℕ) (x : Bool)
    → ((b : ℕ) (t : List ℕ) → length t < j → length t < k → list_at read j b t ≡ list_at read k b t)
    → length rest ≤ j → length rest ≤ k → starts (is 124) rest ≡ x
    → (if x then list_at read j (bit_or bits n) (behind_first rest) else Ok (Some (bit_or bits n), rest))
    ≡ (if x then list_at read k (bit_or bits n) (behind_first rest) else Ok (Some (bit_or bits n), rest))
any_bar read j k bits n rest true on lj lk bar = let s = behind_shorter rest bar in on (bit_or bits n) (behind_first rest) (omega arith) (omega arith)
any_bar read j k bits n rest false on lj lk bar = refl

any_next : (read : List ℕ → Result (Option ℕ × List ℕ) Refusal) (j k bits : ℕ) (text : List ℕ)
    (r : Result (Option ℕ × List ℕ) Refusal) → ((b : ℕ) (t : List ℕ) → length t < j → length t < k → list_at read j b t ≡ list_at read k b t)
    → ((v : Option ℕ) (rest : List ℕ) → r ≡ Ok (v, rest) → (length rest ≤ j) × (length rest ≤ k))
    → (r >>= λ x. list_next (list_at read j) bits x.0 x.1) ≡ (r >>= λ x. list_next (list_at read k) bits x.0 x.1)
any_next read j k bits text (Err f) on short = refl
any_next read j k bits text (Ok (None, rest)) on short = refl
any_next read j k bits text (Ok (Some n, rest)) on short = let s = short (Some n) rest refl in
    any_bar read j k bits n rest (starts (is 124) rest) on s.0 s.1 refl

-- the count of items doesn't matter where it is above the bytes
pub any_count : (read : List ℕ → Result (Option ℕ × List ℕ) Refusal)
    → ((text rest : List ℕ) (v : Option ℕ) → read text ≡ Ok (v, rest) → length rest ≤ length text)
    → (j k bits : ℕ) (text : List ℕ) → length text < j → length text < k → list_at read j bits text ≡ list_at read k bits text
unfolding list_at
any_count read short zero k bits text lj lk = absurd (omega arith)
any_count read short (suc j) zero bits text lj lk = absurd (omega arith)
any_count read short (suc j) (suc k) bits text lj lk = any_next read j k bits text (read text) (λ b t l m. any_count read short j k b t l m)
    (λ v rest e. let s = short text rest v e in (omega arith, omega arith))

-- ---- a list in a loop, item by item

-- what is left behind an item that was read isn't longer than the text
abbrev pub Shortens : (List ℕ → Result (Option ℕ × List ℕ) Refusal) → Type 0
Shortens read = (text rest : List ℕ) (v : Option ℕ) → read text ≡ Ok (v, rest) → length rest ≤ length text

-- behind an item and its bar fewer bytes are left than before the item
pub on_shorter : (read : List ℕ → Result (Option ℕ × List ℕ) Refusal) → Shortens read → (left rest : List ℕ) (v : Option ℕ)
    → read left ≡ Ok (v, rest) → starts (is 124) rest ≡ true → length (behind_first rest) < length left
on_shorter read short left rest v e bar = let s = short left rest v e in let t = behind_shorter rest bar in omega arith

-- where a bar stands behind an item, the list is read as its rest behind the bar, with the item's bits
pub list_on : (read : List ℕ → Result (Option ℕ × List ℕ) Refusal) → Shortens read → (bits more : ℕ) (left rest : List ℕ)
    → read left ≡ Ok (Some more, rest) → starts (is 124) rest ≡ true
    → list_at read (suc (length left)) bits left ≡ list_at read (suc (length (behind_first rest))) (bit_or bits more) (behind_first rest)
unfolding list_at
list_on read short bits more left rest e bar =
    let s = on_shorter read short left rest (Some more) e bar in
    rw e (rw bar (any_count read short (length left) (suc (length (behind_first rest))) (bit_or bits more) (behind_first rest) s (omega arith)))

-- where no bar stands behind an item, the list ends, with the item's bits
pub list_last : (read : List ℕ → Result (Option ℕ × List ℕ) Refusal) (bits more : ℕ) (left rest : List ℕ)
    → read left ≡ Ok (Some more, rest) → starts (is 124) rest ≡ false → list_at read (suc (length left)) bits left ≡ Ok (Some (bit_or bits more), rest)
unfolding list_at
list_last read bits more left rest e bar = rw e (rw bar refl)

-- where an item took the rest, the list ends without a value
pub list_left : (read : List ℕ → Result (Option ℕ × List ℕ) Refusal) (bits : ℕ) (left rest : List ℕ) → read left ≡ Ok (None, rest)
    → list_at read (suc (length left)) bits left ≡ Ok (None, rest)
unfolding list_at
list_left read bits left rest e = rw e refl

-- where an item is refused, the list is refused alike
pub list_refusal : (read : List ℕ → Result (Option ℕ × List ℕ) Refusal) (bits : ℕ) (left : List ℕ) (f : Refusal)
    → read left ≡ Err f → list_at read (suc (length left)) bits left ≡ Err f
unfolding list_at
list_refusal read bits left f e = rw e refl
