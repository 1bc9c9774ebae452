-- A line is its body behind its prefix: what the reader of bodies answers fixes what the reader of lines does.
use Rattle.std.proofs.Common.{◌≡◌, ◌≢◌, ℕ, ◌+◌, ◌-◌, ◌≤◌, List, [], length, Result, Ok, Err, refl, sym, ap, subst, ◌∙◌, inl, inr, arith}
use Rattle.std.specs.Prelude.{IfOk, IfErr, ◌==◌, true, false, ◌∷◌}
use Rattle.std.proofs.lemmas.Bool.Decides.{eqb_tells}
use Rattle.line_parts.specs.declared.refusal.Refusal.{Refusal}
use Rattle.line_parts.specs.declared.refusal.What.{What}
use Rattle.strace_reader.specs.declared.item.BadCall.{BadCall}
use Rattle.strace_reader.specs.declared.item.Body.{Body}
use Rattle.strace_reader.specs.declared.item.Body.TheVariants.{Called, FirstHalf, SecondHalf, Other}
use Rattle.strace_reader.specs.declared.item.Item.{Item}
use Rattle.strace_reader.specs.declared.item.Item.TheVariants.{Played, Unfinished, Resumed, Other as Skipped, Blank}
use Rattle.strace_reader.specs.Grammar.{IsCut, IsBody, RefusesBody, IsNamedBody, Spells, Refuses, IsNamedItem}
use Rattle.strace_reader.specs.Reading.{item_of, FitsBody}
use Rattle.strace_reader.proofs.FormFacts.{cut_same, cut_length, half_length}
use Rattle.strace_reader.proofs.BodyAnswers.{BodyAnswers, some_call, some_head, some_resumption, resumed_length}

-- all that the reader of lines says of its result
pub record LineAnswers (text : List ℕ) (r : Result Item BadCall) : Type 0 where
  -- what was read is what the line spells
  pub found : IfOk r (λ item. Spells text item)
  -- what the line spells was read
  pub only : (item : Item) → Spells text item → r ≡ Ok item
  -- a refusal is one of the line
  pub refused : IfErr r (Refuses text)
  -- each refusal of the line is the one that was given
  pub only_there : (bad : BadCall) → Refuses text bad → r ≡ Err bad
  -- a call that was read has named bits alone
  pub named : IfOk r (λ item. IsNamedItem item)

abbrev is_item : Item → Result Item BadCall
is_item item = Ok item

abbrev is_bad : ℕ → What → Result Item BadCall
is_bad column w = Err (record { column = column; what = w })

-- what a body says of its own places
pub body_fits : (text : List ℕ) (b : Body) → IsBody text b → FitsBody (length text) b
unfolding IsBody
body_fits text (FirstHalf name len) h = let k = half_length text h.0 h.2 in let e = h.3 in omega arith
body_fits text (SecondHalf name left) h = let k = resumed_length name text h.0 h.1 in let e = h.2 in omega arith
body_fits text b h = tt

-- the empty line

nothing_spelled : (text : List ℕ) → text ≡ [] → (q : ℕ) (body : List ℕ) → IsCut text q body → length body ≡ 0
nothing_spelled text e q body c = let k = cut_length text q body c in let l = ap length e in omega arith

blank_only : (text : List ℕ) → text ≡ [] → (item : Item) → Spells text item → is_item Blank ≡ is_item item
unfolding Spells IsBody
blank_only text e (Played q c r) h = absurd (let k = nothing_spelled text e q h.0 h.1 in let l = some_call h.2.0 h.0 h.2.1 in omega arith)
blank_only text e (Unfinished q name from to) h = absurd (let k = nothing_spelled text e q h.0 h.2 in let l = some_head name h.0 h.3.1 in omega arith)
blank_only text e (Resumed q name from) h = absurd (let k = nothing_spelled text e q h.0 h.2 in let l = some_resumption name h.0 h.3.0 h.3.1 in omega arith)
blank_only text e Skipped h = absurd (h.0 e)
blank_only text e Blank h = refl

blank_bad : (text : List ℕ) → text ≡ [] → (bad : BadCall) → Refuses text bad → ⊥
unfolding Refuses RefusesBody
blank_bad text e bad h = let k = nothing_spelled text e h.0 h.1 h.3 in let l = some_call h.4.0 h.1 h.4.2 in omega arith

-- an empty text is an empty line, and nothing else
pub blank_line : (text : List ℕ) → text ≡ [] → LineAnswers text (Ok Blank)
unfolding Spells
blank_line text e = record { found = e; only = blank_only text e; refused = tt; only_there = λ bad h. absurd (blank_bad text e bad h); named = tt }

-- ---- other lines

-- the body that a line's item is of
pub record OfBody (text : List ℕ) (item : Item) : Type 0 where
  -- the process of the line
  pub pid : ℕ
  -- the bytes of the body
  pub body : List ℕ
  -- what the body is
  pub it : Body
  -- the line has this process and this body
  pub cut : IsCut text pid body
  -- the body is that
  pub is : IsBody body it
  -- the item is made of them
  pub same : item ≡ item_of (length text) pid (length body) it

-- each item that a text spells, which isn't empty, is made of the text's body
pub of_body : (text : List ℕ) → text ≢ [] → (item : Item) → Spells text item → OfBody text item
unfolding Spells
of_body text some (Played q c r) h = record { pid = q; body = h.0; it = Called c r; cut = h.1; is = h.2; same = refl }
of_body text some (Unfinished q name from to) h =
    let k = h.4 in let e : from ≡ length text - length h.0 = omega arith in
    record { pid = q; body = h.0; it = FirstHalf name h.1; cut = h.2; is = h.3; same = rw (h.5, e) refl }
of_body text some (Resumed q name from) h =
    let k = h.4 in let e : from ≡ length text - h.1 = omega arith in
    record { pid = q; body = h.0; it = SecondHalf name h.1; cut = h.2; is = h.3; same = rw e refl }
of_body text some Skipped h = record { pid = h.1; body = h.2; it = Other; cut = h.3; is = h.4; same = refl }
of_body text some Blank h = absurd (some h)

-- what a body is, with its process and its places in the line, the line spells
pub spelled : (text body : List ℕ) (pid : ℕ) (b : Body) → text ≢ [] → IsCut text pid body → IsBody body b
    → Spells text (item_of (length text) pid (length body) b)
unfolding Spells
spelled text body pid (Called c r) some cut is = (body, cut, is)
spelled text body pid (FirstHalf name len) some cut is = let l = cut_length text pid body cut in (body, len, cut, is, omega arith, refl)
spelled text body pid (SecondHalf name left) some cut is =
    let k = body_fits body (SecondHalf name left) is in let l = cut_length text pid body cut in (body, left, cut, is, omega arith)
spelled text body pid Other some cut is = (some, pid, body, cut, is)

-- another item of the line is of the same body
line_only : (text body : List ℕ) (pid : ℕ) (b : Body) → text ≢ [] → IsCut text pid body → BodyAnswers body (Ok b) → (item : Item)
    → Spells text item → is_item (item_of (length text) pid (length body) b) ≡ is_item item
line_only text body pid b some cut a item h =
    let o = of_body text some item h in let k = cut_same text pid o.pid body o.body cut o.cut in
    let e : b ≡ o.it = cc (a.only o.it (subst (λ x. IsBody x o.it) (sym k.1) o.is)) in
    ap is_item (ap (λ x. item_of (length text) pid (length body) x) e ∙ ap (λ x. item_of (length text) x (length body) o.it) k.0
    ∙ ap (λ x. item_of (length text) o.pid (length x) o.it) k.1 ∙ sym o.same)

named_item : (n pid m : ℕ) (b : Body) → IsNamedBody b → IsNamedItem (item_of n pid m b)
named_item n pid m (Called c r) h = h
named_item n pid m b h = tt

line_bad : (text body : List ℕ) (pid : ℕ) (b : Body) → IsCut text pid body → BodyAnswers body (Ok b) → (bad : BadCall) → Refuses text bad → ⊥
unfolding Refuses
line_bad text body pid b cut a bad h = let k = cut_same text pid h.0 body h.1 cut h.3 in cc (a.only_there h.2 (subst (λ x. RefusesBody x h.2) (sym k.1) h.4))

-- a line whose body is read as something alone is the item made of that alone
pub read_body_line : (text body : List ℕ) (pid : ℕ) (b : Body) → text ≢ [] → IsCut text pid body → BodyAnswers body (Ok b)
    → LineAnswers text (Ok (item_of (length text) pid (length body) b))
read_body_line text body pid b some cut a = record {
  found = spelled text body pid b some cut a.found;
  only = line_only text body pid b some cut a;
  refused = tt;
  only_there = λ bad h. absurd (line_bad text body pid b cut a bad h);
  named = named_item (length text) pid (length body) b a.named;
}

refused_only : (text body : List ℕ) (pid : ℕ) (f : Refusal) → text ≢ [] → IsCut text pid body → BodyAnswers body (Err f) → (item : Item) → Spells text item → ⊥
refused_only text body pid f some cut a item h =
    let o = of_body text some item h in let k = cut_same text pid o.pid body o.body cut o.cut in cc (a.only o.it (subst (λ x. IsBody x o.it) (sym k.1) o.is))

refused_there : (text body : List ℕ) (pid : ℕ) (f : Refusal) → IsCut text pid body → BodyAnswers body (Err f)
    → f.left ≤ length text → (bad : BadCall) → Refuses text bad → is_bad (length text - f.left + 1) f.what ≡ is_bad bad.column bad.what
unfolding Refuses
refused_there text body pid f cut a le bad h =
    let k = cut_same text pid h.0 body h.1 cut h.3 in
    let e : f ≡ h.2 = cc (a.only_there h.2 (subst (λ x. RefusesBody x h.2) (sym k.1) h.4)) in
    let l : f.left ≡ h.2.left = ap (λ x. x.left) e in let place = h.5 in let c : length text - f.left + 1 ≡ bad.column = omega arith in
    ap (λ x. is_bad x f.what) c ∙ ap (λ x. is_bad bad.column x) (ap (λ x. x.what) e ∙ sym h.6)

-- a line whose body is refused in one way is refused in one way, its column counted in the line
pub refused_body_line : (text body : List ℕ) (pid : ℕ) (f : Refusal) → text ≢ [] → IsCut text pid body → BodyAnswers body (Err f)
    → LineAnswers text (Err (record { column = length text - f.left + 1; what = f.what }))
unfolding Refuses
refused_body_line text body pid f some cut a =
    let m = cut_length text pid body cut in let w = a.within in let le : f.left ≤ length text = omega arith in
    record {
      found = tt;
      only = λ item h. absurd (refused_only text body pid f some cut a item h);
      refused = (pid, body, f, cut, a.refused, omega arith, refl);
      only_there = refused_there text body pid f cut a le;
      named = tt;
    }

-- a text of no bytes is empty
pub empty_line : (text : List ℕ) → (length text == 0) ≡ true → text ≡ []
empty_line [] h = refl
empty_line (c ∷ text) h = elim (eqb_tells (length (c ∷ text)) 0) [ inl k ↦ let n = k.1 in absurd (omega arith) | inr k ↦ let n = k.0 in absurd cc ]

-- a text of another number of bytes isn't empty
pub full_line : (text : List ℕ) → (length text == 0) ≡ false → text ≢ []
full_line text h e = let k : (length text == 0) ≡ true = ap (λ x. length x == 0) e in cc
