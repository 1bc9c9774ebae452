-- What the reader of bodies owes at each of its returns: the forms exclude each other, since a body's first bytes tell
-- most of them apart, and a call has one name.
use Rattle.std.proofs.Common.{◌≡◌, ◌≢◌, ℕ, ◌+◌, ◌-◌, ◌<◌, ◌≤◌, List, [], ◌∷◌, ◌++◌, length, get_or, drop, codes, Result, Ok}
use Rattle.std.proofs.Common.{Err, true, refl, sym, ap, subst, ◌∙◌, append_assoc, inl, inr, arith}
use Rattle.std.specs.Prelude.{◌⊎◌, ◌==◌, IfOk, IfErr, if◌then◌else◌}
use Rattle.std.proofs.lemmas.Bool.Decides.{nat_tests}
use Rattle.std.proofs.lemmas.List.{length-append, append_cancel_left}
use Rattle.line_parts.specs.declared.refusal.Refusal.{Refusal}
use Rattle.line_parts.specs.declared.refusal.What.{What}
use Rattle.line_parts.specs.Parts.{Refused}
use Rattle.line_parts.specs.Leaves.{is, is_digit}
use Rattle.line_parts.proofs.Numerals.{digit_byte}
use Rattle.line_parts.proofs.Sequence.{refusal_within}
use Rattle.strace_reader.specs.declared.item.Body.{Body}
use Rattle.strace_reader.specs.declared.item.Body.TheVariants.{Called, FirstHalf, SecondHalf, Other}
use Rattle.strace_reader.specs.declared.item.Name.{Name}
use Rattle.strace_reader.specs.declared.item.Name.TheVariants.{Mmap, Munmap, Mprotect, Fault, Mseal, Brk, Mremap}
use Rattle.strace_reader.specs.Words.{call_head, resumed_head}
use Rattle.strace_reader.specs.Calls.{call}
use Rattle.strace_reader.specs.Grammar.{BeginsWith, EndsWith, unfinished, NeverReturned, IsPid, IsPrefixed, IsBehindSpaces, IsCut, IsCall, IsHalf, IsResumption}
use Rattle.strace_reader.specs.Grammar.{NoForm, IsOther, IsBody, RefusesBody, IsNamedBody}
use Rattle.strace_reader.specs.Reading.{arguments_at}
use Rattle.strace_reader.proofs.ResultParts.{IsSound}
use Rattle.strace_reader.proofs.WholeCalls.{IsWhole, IsRefused, call_closes, call_whole, call_refused, arguments_good}
use Rattle.strace_reader.proofs.FormFacts.{last_same, behind_same, behind_length, half_same, half_ends}

abbrev is_body : Body → Result Body Refusal
is_body body = Ok body

abbrev is_bad : ℕ → What → Result Body Refusal
is_bad left w = Err (record { left = left; what = w })

-- all that the reader of bodies says of its result
pub record BodyAnswers (text : List ℕ) (r : Result Body Refusal) : Type 0 where
  -- what was read is what the body is
  pub found : IfOk r (λ body. IsBody text body)
  -- what the body is was read
  pub only : (body : Body) → IsBody text body → r ≡ Ok body
  -- a refusal is one of the body
  pub refused : IfErr r (RefusesBody text)
  -- each refusal of the body is the one that was given
  pub only_there : (refusal : Refusal) → RefusesBody text refusal → r ≡ Err refusal
  -- a call that was read has named bits alone
  pub named : IfOk r IsNamedBody
  -- at a refusal no more bytes are left than the body has
  pub within : IfErr r (λ refusal. refusal.left ≤ length text)

-- ---- the first byte

-- 0 at the end, 1 a signal or an exit, 2 a prefix, 3 a resumed_head, 4 a call
abbrev kind : List ℕ → ℕ
kind [] = 0
kind (c ∷ text) = if is 45 c then 1 else if is 43 c then 1 else if is 60 c then 3 else if is 109 c then 4 else if is 102 c then 4
    else if is 98 c then 4 else if is 91 c then 2 else if is_digit c then 2 else 5

-- what holds of each of the seven names holds of a name
pub each_name : (P : Name → Type 0) → P Mmap × P Munmap × P Mprotect × P Fault × P Mseal × P Brk × P Mremap → (name : Name) → P name
each_name P all Mmap = all.0
each_name P all Munmap = all.1
each_name P all Mprotect = all.2
each_name P all Fault = all.3
each_name P all Mseal = all.4
each_name P all Brk = all.5
each_name P all Mremap = all.6

call_head_kind : (name : Name) (text : List ℕ) → BeginsWith (call_head name) text → kind text ≡ 4
call_head_kind name text h = ap kind h.1 ∙ each_name (λ n. kind (call_head n ++ h.0) ≡ 4) (refl, refl, refl, refl, refl, refl, refl) name

resumed_head_kind : (name : Name) (text : List ℕ) → BeginsWith (resumed_head name) text → kind text ≡ 3
resumed_head_kind name text h = ap kind h.1 ∙ each_name (λ n. kind (resumed_head n ++ h.0) ≡ 3) (refl, refl, refl, refl, refl, refl, refl) name

digit_kind : (b : ℕ) (text : List ℕ) → is_digit b ≡ true → kind (b ∷ text) ≡ 2
digit_kind b text h = grind (arith, nat_tests)

digits_kind : (digits rest : List ℕ) (pid : ℕ) → IsPid digits pid → kind (digits ++ rest) ≡ 2
digits_kind [] rest pid h = absurd (omega (arith, h.0.0))
digits_kind (b ∷ digits) rest pid h = digit_kind b (digits ++ rest) (digit_byte b h.0.1.0)

prefix_kind : (text : List ℕ) (pid : ℕ) (rest : List ℕ) → IsPrefixed text pid rest → kind text ≡ 2
prefix_kind text pid rest (inl h) = ap kind h.2 ∙ digits_kind h.0 (codes " " ++ rest) pid h.1
prefix_kind text pid rest (inr h) = ap kind h.3

-- a text that begins with a call's name has no prefix
pub call_cut : (name : Name) (text : List ℕ) → BeginsWith (call_head name) text → IsCut text 0 text
call_cut name text h = inr (refl, refl, λ n rest p. let k = prefix_kind text n rest p in let l = call_head_kind name text h in omega arith)

-- ---- a call has one name

-- the name of which a text has the first two bytes: their sum tells it
abbrev name_by : List ℕ → Name
name_by text =
    let sum = get_or text 0 0 + get_or text 1 0 in
    if sum == 218 then Mmap else if sum == 226 then Munmap else if sum == 221 then Mprotect else if sum == 199 then Fault
    else if sum == 224 then Mseal else if sum == 212 then Brk else Mremap

call_head_name : (name : Name) (text : List ℕ) → BeginsWith (call_head name) text → name_by text ≡ name
call_head_name name text h = ap name_by h.1 ∙ each_name (λ n. name_by (call_head n ++ h.0) ≡ n) (refl, refl, refl, refl, refl, refl, refl) name

-- a text begins with the name of one call at most
pub one_name : (m n : Name) (text : List ℕ) → BeginsWith (call_head m) text → BeginsWith (call_head n) text → m ≡ n
one_name m n text h g = sym (call_head_name m text h) ∙ call_head_name n text g

resumed_name : (name : Name) (text : List ℕ) → BeginsWith (resumed_head name) text → name_by (drop 5 text) ≡ name
resumed_name name text h = ap (λ x. name_by (drop 5 x)) h.1
    ∙ each_name (λ n. name_by (drop 5 (resumed_head n ++ h.0)) ≡ n) (refl, refl, refl, refl, refl, refl, refl) name

-- no line both ends as a first half does and as that of a call that never returned
two_ends : (text : List ℕ) → NeverReturned text → EndsWith unfinished text → ⊥
two_ends text h g =
    let one : List ℕ = h.0 ++ (codes "<unfinished ...>)" ++ ((32 ∷ h.1) ++ codes "= ")) in
    let e1 : text ≡ one ++ (63 ∷ []) = h.3 ∙ ap (λ x. h.0 ++ (codes "<unfinished ...>)" ++ x)) (sym (append_assoc (32 ∷ h.1) (codes "= ") (63 ∷ [])))
    ∙ sym (append_assoc h.0 (codes "<unfinished ...>)" ++ ((32 ∷ h.1) ++ codes "= ")) (63 ∷ [])) in
    let e2 : text ≡ (g.0 ++ codes "<unfinished ...") ++ (62 ∷ []) = g.1 ∙ sym (append_assoc g.0 (codes "<unfinished ...") (62 ∷ [])) in
    let e = last_same one (g.0 ++ codes "<unfinished ...") 63 62 (sym e1 ∙ e2) in omega arith

-- ---- the answers

not_call : (text : List ℕ) (k : ℕ) → kind text ≡ k → k < 4 → (name : Name) → BeginsWith (call_head name) text → ⊥
not_call text k e lt name h = let z = call_head_kind name text h in omega arith

not_resumed : (text : List ℕ) (k : ℕ) → kind text ≡ k → k ≢ 3 → (name : Name) → BeginsWith (resumed_head name) text → ⊥
not_resumed text k e other name h = let z = resumed_head_kind name text h in other (sym e ∙ z)

signal_kind : (text : List ℕ) → BeginsWith (codes "---") text ⊎ BeginsWith (codes "+++") text → kind text ≡ 1
signal_kind text (inl h) = ap kind h.1
signal_kind text (inr h) = ap kind h.1

signal_form : (text : List ℕ) → BeginsWith (codes "---") text ⊎ BeginsWith (codes "+++") text → IsOther text
signal_form text (inl h) = inl h
signal_form text (inr h) = inr (inl h)

-- what is passed over and has none of the other forms is that alone
other_only : (text : List ℕ) → ((name : Name) → IsCall name text → ⊥) → ((name : Name) → BeginsWith (call_head name) text → EndsWith unfinished text → ⊥)
    → ((name : Name) → BeginsWith (resumed_head name) text → ⊥) → (body : Body) → IsBody text body → is_body Other ≡ is_body body
unfolding IsBody
other_only text none first second_half (Called c r) h = absurd (none h.0 h.1)
other_only text none first second_half (FirstHalf name len) h = absurd (first name h.1 (half_ends text h.0 h.2))
other_only text none first second_half (SecondHalf name left) h = absurd (second_half name (h.1.0, h.1.1))
other_only text none first second_half Other h = refl

-- what the body is alone, where it isn't refused, is what was read
found_alone : (text : List ℕ) (body : Body) → IsBody text body → ((other : Body) → IsBody text other → is_body body ≡ is_body other)
    → ((refusal : Refusal) → RefusesBody text refusal → ⊥) → IsNamedBody body → BodyAnswers text (Ok body)
found_alone text body is only none named =
    record { found = is; only = only; refused = tt; only_there = λ refusal h. absurd (none refusal h); named = named; within = tt }

other_body : (text : List ℕ) → IsOther text → ((name : Name) → IsCall name text → ⊥)
    → ((name : Name) → BeginsWith (call_head name) text → EndsWith unfinished text → ⊥) → ((name : Name) → BeginsWith (resumed_head name) text → ⊥)
    → BodyAnswers text (Ok Other)
unfolding IsBody RefusesBody
other_body text form none first second_half = found_alone text Other form (other_only text none first second_half) (λ refusal h. none h.0 h.2) tt

-- what begins as a signal or an exit is passed over, and nothing else
pub signal_body : (text : List ℕ) → BeginsWith (codes "---") text ⊎ BeginsWith (codes "+++") text → BodyAnswers text (Ok Other)
signal_body text h =
    let k = signal_kind text h in
    other_body text (signal_form text h) (λ n c. not_call text 1 k (omega arith) n c.names)
    (λ n c e. not_call text 1 k (omega arith) n c) (λ n c. not_resumed text 1 k (omega arith) n c)

-- a call that never returned is passed over, and nothing else
pub never_body : (name : Name) (text : List ℕ) → BeginsWith (call_head name) text → NeverReturned text → BodyAnswers text (Ok Other)
never_body name text h never =
    let k = call_head_kind name text h in
    other_body text (inr (inr (inl (name, h, never)))) (λ n c. c.returned never) (λ n c e. two_ends text never e)
    (λ n c. not_resumed text 4 k (omega arith) n c)

-- a body of none of the forms is passed over, and nothing else
pub no_form_body : (text : List ℕ) → NoForm text → BodyAnswers text (Ok Other)
no_form_body text f = other_body text (inr (inr (inr (inr f)))) (λ n c. f.no_call n c.names) (λ n c e. f.no_call n c) (λ n c. f.no_resumption n c)

-- ---- halves

-- what begins as a second half is passed over by no form
resumed_other : (name : Name) (text : List ℕ) → BeginsWith (resumed_head name) text → IsOther text → ⊥
resumed_other name text b (inl h) = not_resumed text 1 (ap kind h.1) (omega arith) name b
resumed_other name text b (inr (inl h)) = not_resumed text 1 (ap kind h.1) (omega arith) name b
resumed_other name text b (inr (inr (inl h))) = not_resumed text 4 (call_head_kind h.0 text h.1) (omega arith) name b
resumed_other name text b (inr (inr (inr (inl h)))) = not_resumed text 4 (call_head_kind h.0 text h.1.names) (omega arith) name b
resumed_other name text b (inr (inr (inr (inr f)))) = f.no_resumption name b

second_same : (m n : Name) (text a b : List ℕ) → IsResumption m text a → IsResumption n text b → (m ≡ n) × (a ≡ b)
second_same m n text a b h g =
    let e : m ≡ n = sym (resumed_name m text (h.0, h.1)) ∙ resumed_name n text (g.0, g.1) in
    let k : h.0 ≡ g.0 = append_cancel_left (resumed_head n) h.0 g.0 (ap (λ x. resumed_head x ++ h.0) (sym e) ∙ sym h.1 ∙ g.1) in
    (e, behind_same g.0 a b (subst (λ x. IsBehindSpaces x a) k h.2) g.2)

second_only : (name : Name) (text rest : List ℕ) → IsResumption name text rest → (body : Body) → IsBody text body
    → is_body (SecondHalf name (length rest)) ≡ is_body body
unfolding IsBody
second_only name text rest r (Called c d) h = absurd (not_resumed text 4 (call_head_kind h.0 text h.1.names) (omega arith) name (r.0, r.1))
second_only name text rest r (FirstHalf n len) h = absurd (not_resumed text 4 (call_head_kind n text h.1) (omega arith) name (r.0, r.1))
second_only name text rest r (SecondHalf n left) h = let e = second_same name n text rest h.0 r h.1 in
    ap (λ x. is_body (SecondHalf x (length rest))) e.0 ∙ ap (λ x. is_body (SecondHalf n x)) (ap length e.1 ∙ sym h.2)
second_only name text rest r Other h = absurd (resumed_other name text (r.0, r.1) h)

-- a second half is that half alone, and isn't refused
pub second_body : (name : Name) (text rest : List ℕ) → IsResumption name text rest → BodyAnswers text (Ok (SecondHalf name (length rest)))
unfolding IsBody RefusesBody
second_body name text rest r = found_alone text (SecondHalf name (length rest)) (rest, r, refl) (second_only name text rest r)
    (λ refusal h. not_resumed text 4 (call_head_kind h.0 text h.2.names) (omega arith) name (r.0, r.1)) tt

first_other : (name : Name) (text : List ℕ) → BeginsWith (call_head name) text → EndsWith unfinished text → IsOther text → ⊥
first_other name text b e (inl h) = not_call text 1 (ap kind h.1) (omega arith) name b
first_other name text b e (inr (inl h)) = not_call text 1 (ap kind h.1) (omega arith) name b
first_other name text b e (inr (inr (inl h))) = two_ends text h.2 e
first_other name text b e (inr (inr (inr (inl h)))) = h.1.whole e
first_other name text b e (inr (inr (inr (inr f)))) = f.no_call name b

first_only : (name : Name) (text half : List ℕ) → BeginsWith (call_head name) text → IsHalf text half → (body : Body)
    → IsBody text body → is_body (FirstHalf name (length half)) ≡ is_body body
unfolding IsBody
first_only name text half b i (Called c d) h = absurd (h.1.whole (half_ends text half i))
first_only name text half b i (FirstHalf n len) h = let e = one_name name n text b h.1 in
    ap (λ x. is_body (FirstHalf x (length half))) e ∙ ap (λ x. is_body (FirstHalf n x)) (ap length (half_same text half h.0 i h.2) ∙ sym h.3)
first_only name text half b i (SecondHalf n left) h = absurd (not_resumed text 4 (call_head_kind name text b) (omega arith) n (h.1.0, h.1.1))
first_only name text half b i Other h = absurd (first_other name text b (half_ends text half i) h)

-- a first half is that half alone, and isn't refused
pub first_body : (name : Name) (text half : List ℕ) → BeginsWith (call_head name) text → IsHalf text half → BodyAnswers text (Ok (FirstHalf name (length half)))
unfolding IsBody RefusesBody
first_body name text half b i = found_alone text (FirstHalf name (length half)) (half, b, i, refl) (first_only name text half b i)
    (λ refusal h. h.2.whole (half_ends text half i)) tt

-- ---- calls

-- A call's body is that call alone.
call_other : (name : Name) (text : List ℕ) → IsCall name text → IsOther text → (call name).takes text [] Other
call_other name text c (inl h) = absurd (not_call text 1 (ap kind h.1) (omega arith) name c.names)
call_other name text c (inr (inl h)) = absurd (not_call text 1 (ap kind h.1) (omega arith) name c.names)
call_other name text c (inr (inr (inl h))) = absurd (c.returned h.2)
call_other name text c (inr (inr (inr (inl h)))) = subst (λ x. (call x).takes text [] Other) (one_name h.0 name text h.1.names c.names) h.2
call_other name text c (inr (inr (inr (inr f)))) = absurd (f.no_call name c.names)

call_spells : (name : Name) (text : List ℕ) → IsCall name text → (body : Body) → IsBody text body → (call name).takes text [] body
unfolding IsBody
call_spells name text c (Called done r) h = subst (λ x. (call x).takes text [] (Called done r)) (one_name h.0 name text h.1.names c.names) h.2
call_spells name text c (FirstHalf n len) h = absurd (c.whole (half_ends text h.0 h.2))
call_spells name text c (SecondHalf n left) h = absurd (not_resumed text 4 (call_head_kind name text c.names) (omega arith) n (h.1.0, h.1.1))
call_spells name text c Other h = call_other name text c h

spelled_call : (name : Name) (text : List ℕ) → IsCall name text → (body : Body) → (call name).takes text [] body → IsSound body → IsBody text body
unfolding IsBody
spelled_call name text c (Called done r) h s = (name, c, h)
spelled_call name text c Other h s = inr (inr (inr (inl (name, c, h))))
spelled_call name text c body h s = absurd s

sound_named : (body : Body) → IsSound body → IsNamedBody body
sound_named (Called c r) s = s
sound_named body s = tt

-- where a call's body is refused by the call that it names
refused_there : (name : Name) (text : List ℕ) (refusal : Refusal) → IsCall name text → RefusesBody text refusal
    → (column : ℕ) × Refused (call name) text column refusal.what × (column + refusal.left ≡ length text + 1)
unfolding RefusesBody
refused_there name text refusal c h = (h.1, subst (λ x. Refused (call x) text h.1 refusal.what) (one_name h.0 name text h.2.names c.names) h.3, h.4)

-- a body in the form of a call that is taken whole as one item is that item alone, and isn't refused
pub call_body : (name : Name) (text : List ℕ) (body : Body) → IsCall name text → IsWhole (call name) text body → BodyAnswers text (Ok body)
call_body name text body c w =
    let s = (call_closes name).values text [] body w.spelled in found_alone text body (spelled_call name text c body w.spelled s)
    (λ other h. ap (λ x. is_body x) (sym (w.only other (call_spells name text c other h))))
    (λ refusal h. let r = refused_there name text refusal c h in w.clean r.0 refusal.what r.1) (sound_named body s)

-- a body in the form of a call that is refused at one column is nothing, and is refused there alone
pub refused_body : (name : Name) (text : List ℕ) (column left : ℕ) (what : What) → IsCall name text
    → column + left ≡ length text + 1 → left ≤ length text → IsRefused (call name) text column what
    → BodyAnswers text (Err (record { left = left; what = what }))
unfolding RefusesBody
refused_body name text column left what c place le r = record {
  found = tt;
  only = λ body h. absurd (r.none body (call_spells name text c body h));
  refused = (name, column, c, r.refused, place);
  only_there = λ refusal h.
      let k = refused_there name text refusal c h in let e = r.one k.0 refusal.what k.1 in let m = e.0 in let n = k.2 in
      let same : left ≡ refusal.left = omega arith in ap (λ x. is_bad x what) same ∙ ap (λ x. is_bad refusal.left x) (sym e.1);
  named = tt;
  within = le;
}

-- ---- a body of a call, as it is read

-- a text behind a call's name is of the form of a call where it never returned nor ends as a first half
pub is_call : (name : Name) (text rest : List ℕ) → text ≡ call_head name ++ rest → (NeverReturned text → ⊥) → (EndsWith unfinished text → ⊥) → IsCall name text
is_call name text rest e never first_half = record { names = (rest, e); returned = never; whole = first_half }

-- a body in the form of a call is what its arguments are read as, and nothing else
pub read_call : (name : Name) (text rest after : List ℕ) (body : Body) → text ≡ call_head name ++ rest → IsCall name text
    → arguments_at name rest ≡ Ok (body, after) → BodyAnswers text (Ok body)
read_call name text rest after body e c read =
    call_body name text body c (subst (λ x. IsWhole (call name) x body) (sym e) (call_whole name rest after body read))

-- a body in the form of a call is refused where its arguments are, and is nothing
pub refused_call : (name : Name) (text rest : List ℕ) (f : Refusal) → text ≡ call_head name ++ rest → IsCall name text
    → arguments_at name rest ≡ Err f → BodyAnswers text (Err f)
refused_call name text rest f e c read =
    let k = refusal_within (arguments_good name) rest f read in let l = ap length e ∙ length-append (call_head name) rest in
    let within : f.left ≤ length text = omega arith in let column = length text - f.left + 1 in
    let place : column + f.left ≡ length text + 1 = omega arith in
    refused_body name text column f.left f.what c place within (subst (λ x. IsRefused (call name) x column f.what) (sym e)
    (call_refused name rest f column read (subst (λ x. column + f.left ≡ length x + 1) e place)))

-- ---- what is not empty

some_begun : (word text : List ℕ) → 0 < length word → BeginsWith word text → 0 < length text
some_begun word text h b = let k = ap length b.1 ∙ length-append word b.0 in omega arith

-- a call's name has a byte at least
pub head_some : (name : Name) → 0 < length (call_head name)
head_some name = each_name (λ n. 0 < length (call_head n)) (omega arith, omega arith, omega arith, omega arith, omega arith, omega arith, omega arith) name

-- a text that begins with a call's name has a byte at least
pub some_head : (name : Name) (text : List ℕ) → BeginsWith (call_head name) text → 0 < length text
some_head name text b = some_begun (call_head name) text (head_some name) b

-- a body in the form of a call has a byte at least
pub some_call : (name : Name) (text : List ℕ) → IsCall name text → 0 < length text
some_call name text c = some_head name text c.names

-- a second half has a byte at least
pub some_resumption : (name : Name) (text rest : List ℕ) → IsResumption name text rest → 0 < length text
some_resumption name text rest r = some_begun (resumed_head name) text (each_name (λ n. 0 < length (resumed_head n))
    (omega arith, omega arith, omega arith, omega arith, omega arith, omega arith, omega arith) name) (r.0, r.1)

-- what is kept of a second half isn't longer than its text
pub resumed_length : (name : Name) (text rest : List ℕ) → IsResumption name text rest → length rest ≤ length text
resumed_length name text rest r = let k = ap length r.1 ∙ length-append (resumed_head name) r.0 in let l = behind_length r.0 rest r.2 in omega arith

-- no text begins both as a call and as a second half
pub no_resumed_call : (m n : Name) (text : List ℕ) → BeginsWith (call_head m) text → BeginsWith (resumed_head n) text → ⊥
no_resumed_call m n text b h = not_resumed text 4 (call_head_kind m text b) (omega arith) n h
