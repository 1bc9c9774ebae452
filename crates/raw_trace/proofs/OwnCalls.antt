-- The calls of one process among lines: while at most one of its calls waits, what is written and what waits still have
-- them between them, whichever calls go before others.
use Rattle.std.proofs.Common.{◌≡◌, ℕ, zero, suc, ◌+◌, ◌≤◌, Bool, true, false, List, [], ◌∷◌, ◌++◌, Some, None, refl, sym, ap, subst, ◌∙◌, append_assoc, inl, inr, arith}
use Rattle.std.specs.Prelude.{option_map, option_to_list, ◌==◌, if◌then◌else◌}
use Rattle.std.proofs.lemmas.List.{append-nil, length-append}
use Rattle.line_parts.proofs.Leaves.{bool_cases}
use Rattle.raw_trace.specs.declared.calls.ReadCall.{ReadCall}
use Rattle.raw_trace.specs.Order.{Entry, Picked, Written, pick, write_due, behind, turns}
use Rattle.raw_trace.specs.Laws.{of_process}

-- the calls of the process in one line
abbrev pub own : ℕ → Entry → List ReadCall
own p entry = if entry.process == p then option_to_list entry.call else []

-- none of the lines has a call of the process
abbrev pub NoneOf : ℕ → List Entry → Type 0
NoneOf p [] = Unit {0}
NoneOf p (entry ∷ entries) = (own p entry ≡ []) × NoneOf p entries

-- the test holds for none of the entries
abbrev pub NoneIn : (Entry → Bool) → List Entry → Type 0
NoneIn test [] = Unit {0}
NoneIn test (x ∷ xs) = (test x ≡ false) × NoneIn test xs

-- of both lists
pub none_both : (test : Entry → Bool) (a b : List Entry) → NoneIn test a → NoneIn test b → NoneIn test (a ++ b)
none_both test [] b h g = g
none_both test (x ∷ a) b h g = (h.0, none_both test a b h.1 g)

-- none is picked then
pub none_picked : (test : Entry → Bool) (a : List Entry) → NoneIn test a → pick test a ≡ None
none_picked test [] h = refl
none_picked test (x ∷ a) h =
    rw h.0 (ap (option_map (λ (p : Picked). record { first = p.first; others = x ∷ p.others })) (none_picked test a h.1))

-- the first that passes it is picked
pub one_picked : (test : Entry → Bool) (a : List Entry) (x : Entry) (b : List Entry) → NoneIn test a → test x ≡ true
    → pick test (a ++ (x ∷ b)) ≡ Some (record { first = x; others = a ++ b })
one_picked test [] x b h t = rw t refl
one_picked test (y ∷ a) x b h t =
    rw h.0 (ap (option_map (λ (p : Picked). record { first = p.first; others = y ∷ p.others })) (one_picked test a x b h.1 t))

-- no line is of the process
abbrev pub Apart : ℕ → List Entry → Type 0
Apart p entries = NoneIn (λ x. x.process == p) entries

-- one of the lines is this one, and the others are of other processes
pub record OneOf (p : ℕ) (entry : Entry) (entries : List Entry) : Type 0 where
  -- those before it
  pub before : List Entry
  -- those behind it
  pub after : List Entry
  -- these are all
  pub parts : entries ≡ before ++ (entry ∷ after)
  -- none before it
  pub none_before : Apart p before
  -- and none behind it
  pub none_after : Apart p after

-- the calls of two lists
pub of_both : (p : ℕ) (a b : List Entry) → of_process p (a ++ b) ≡ of_process p a ++ of_process p b
of_both p [] b = refl
of_both p (x ∷ a) b = ap (λ (z : List ReadCall). own p x ++ z) (of_both p a b) ∙ sym (append_assoc (own p x) (of_process p a) (of_process p b))

-- lines without one have none
pub none_of : (p : ℕ) (a : List Entry) → NoneOf p a → of_process p a ≡ []
none_of p [] h = refl
none_of p (x ∷ a) h = ap (λ (z : List ReadCall). z ++ of_process p a) h.0 ∙ none_of p a h.1

-- a line of another process has none of this one
pub own_apart : (p : ℕ) (x : Entry) → (x.process == p) ≡ false → own p x ≡ []
own_apart p x h = rw h refl

pub apart_both : (p : ℕ) (a b : List Entry) → Apart p a → Apart p b → Apart p (a ++ b)
apart_both p a b h g = none_both (λ x. x.process == p) a b h g

-- the parts of lines of other processes
record ApartParts (p : ℕ) (a : List Entry) (x : Entry) (b : List Entry) : Type 0 where
  -- those before
  pub before : Apart p a
  -- the one
  pub one : (x.process == p) ≡ false
  -- those behind
  pub after : Apart p b

apart_parts : (p : ℕ) (a : List Entry) (x : Entry) (b : List Entry) → Apart p (a ++ (x ∷ b)) → ApartParts p a x b
apart_parts p [] x b h = record { before = tt; one = h.0; after = h.1 }
apart_parts p (y ∷ a) x b h = let r = apart_parts p a x b h.1 in record { before = (h.0, r.before); one = r.one; after = r.after }

-- ---- what is picked

-- what picking comes to: a line and the others around it, or nothing
pub data Picks (test : Entry → Bool) (entries : List Entry) : Type 0 where
  picks_one : (before : List Entry) (one : Entry) (after : List Entry) → entries ≡ before ++ (one ∷ after) → test one ≡ true
      → pick test entries ≡ Some (record { first = one; others = before ++ after }) → Picks test entries
  picks_none : pick test entries ≡ None → Picks test entries

picked_more : (test : Entry → Bool) (x : Entry) (xs : List Entry) → test x ≡ false → Picks test xs → Picks test (x ∷ xs)
picked_more test x xs never (picks_one before one after e t is) =
    picks_one (x ∷ before) one after (ap (λ (z : List Entry). x ∷ z) e) t
    (rw never (ap (option_map (λ (p : Picked). record { first = p.first; others = x ∷ p.others })) is))
picked_more test x xs never (picks_none is) =
    picks_none (rw never (ap (option_map (λ (p : Picked). record { first = p.first; others = x ∷ p.others })) is))

pub picks : (test : Entry → Bool) (entries : List Entry) → Picks test entries
picks test [] = picks_none refl
picks test (x ∷ xs) = elim (bool_cases (test x)) [
  | inl is ↦ picks_one [] x xs refl is (rw is refl)
  | inr never ↦ picked_more test x xs never (picks test xs)
]

-- of lines of which one is of the process, one is picked: it is that one, or of another process
pub data IsPickedOf (p : ℕ) (entry one : Entry) (others : List Entry) : Type 0 where
  is_it : one ≡ entry → Apart p others → IsPickedOf p entry one others
  is_other : (one.process == p) ≡ false → OneOf p entry others → IsPickedOf p entry one others

pub picked_of : (p : ℕ) (entry one : Entry) (a b c d : List Entry) → a ++ (entry ∷ b) ≡ c ++ (one ∷ d) → Apart p a → Apart p b
    → IsPickedOf p entry one (c ++ d)
picked_of p entry one [] b [] d e ha hb = let k : one ≡ entry = cc in let l : b ≡ d = cc in is_it k (subst (Apart p) l hb)
picked_of p entry one [] b (x ∷ c) d e ha hb =
    let k : x ≡ entry = cc in
    let l : b ≡ c ++ (one ∷ d) = cc in
    let r = apart_parts p c one d (subst (Apart p) l hb) in
    is_other r.one (record {
      before = [];
      after = c ++ d;
      parts = ap (λ (z : Entry). z ∷ (c ++ d)) k;
      none_before = tt;
      none_after =
          apart_both p c d r.before r.after;
    })
picked_of p entry one (x ∷ a) b [] d e ha hb =
    let k : one ≡ x = cc in
    let l : d ≡ a ++ (entry ∷ b) = cc in
    is_other (subst (λ (z : Entry). (z.process == p) ≡ false) (sym k) ha.0)
    (record { before = a; after = b; parts = l; none_before = ha.1; none_after = hb })
picked_of p entry one (x ∷ a) b (y ∷ c) d e ha hb =
    let k : y ≡ x = cc in
    let l : a ++ (entry ∷ b) ≡ c ++ (one ∷ d) = cc in
    picked_more_of p entry one y (c ++ d) (subst (λ (z : Entry). (z.process == p) ≡ false) (sym k) ha.0) (picked_of p entry one a b c d l ha.1 hb)
  where
    picked_more_of : (p : ℕ) (entry one y : Entry) (others : List Entry) → (y.process == p) ≡ false → IsPickedOf p entry one others
        → IsPickedOf p entry one (y ∷ others)
    picked_more_of p entry one y others n (is_it k h) = is_it k (n, h)
    picked_more_of p entry one y others n (is_other k h) =
        is_other k (record {
          before = y ∷ h.before;
          after = h.after;
          parts = ap (λ (z : List Entry). y ∷ z) h.parts;
          none_before =
              (n, h.none_before);
          none_after = h.none_after;
        })

-- ---- what is written

-- how many turns are left when one that waited is due
turns_less : (due a b : List Entry) (x y : Entry) (n : ℕ) → turns (y ∷ due) (a ++ (x ∷ b)) ≤ suc n → turns (x ∷ (y ∷ due)) (a ++ b) ≤ n
turns_less due a b x y n l =
    let k = length-append a (x ∷ b) in
    let m = length-append a b in
    omega (arith, l)

-- where none that waits is of the process, just its due calls are written
pub record WroteApart (p : ℕ) (due : List Entry) (found : Written) : Type 0 where
  -- they are written
  pub calls : of_process p found.lines ≡ of_process p due
  -- and none waits
  pub waits : Apart p found.waiting

-- the same of fewer turns
abbrev ApartBefore : ℕ → ℕ → (Entry → Entry → Bool) → Type 0
ApartBefore p n f = (due ws : List Entry) → turns due ws ≤ n → Apart p ws → WroteApart p due (write_due n f due ws)

apart_turn : (p n : ℕ) (f : Entry → Entry → Bool) (x : Entry) (due ws : List Entry) → ApartBefore p n f → turns (x ∷ due) ws ≤ suc n → Apart p ws
    → Picks (λ other. f other x) ws → WroteApart p (x ∷ due) (write_due (suc n) f (x ∷ due) ws)
apart_turn p n f x due ws before l h (picks_none is) =
    let r = before due ws (omega (arith, l)) h in
    rw is (record { calls = ap (λ (z : List ReadCall). own p x ++ z) r.calls; waits = r.waits })
apart_turn p n f x due ws before l h (picks_one a one b e t is) =
    let parts = apart_parts p a one b (subst (Apart p) e h) in
    let r = before (one ∷ (x ∷ due)) (a ++ b) (turns_less due a b one x n (subst (λ (z : List Entry). turns (x ∷ due) z ≤ suc n) e l))
    (apart_both p a b parts.before parts.after) in
    rw is (record {
      calls = r.calls ∙ ap (λ (z : List ReadCall). z ++ of_process p (x ∷ due)) (own_apart p one parts.one);
      waits = r.waits;
    })

pub due_apart : (p n : ℕ) (f : Entry → Entry → Bool) → ApartBefore p n f
due_apart p zero f [] ws l h = record { calls = refl; waits = h }
due_apart p zero f (x ∷ due) ws l h = absurd (omega (arith, l))
due_apart p (suc n) f [] ws l h = record { calls = refl; waits = h }
due_apart p (suc n) f (x ∷ due) ws l h = apart_turn p n f x due ws (due_apart p n f) l h (picks (λ other. f other x) ws)

-- where one that waits is of the process, it waits still, or it is written, and nothing else of the process
pub data WroteOne (p : ℕ) (entry : Entry) (found : Written) : Type 0 where
  waits_still : of_process p found.lines ≡ [] → OneOf p entry found.waiting → WroteOne p entry found
  was_written : of_process p found.lines ≡ own p entry → Apart p found.waiting → WroteOne p entry found

-- the same of fewer turns
abbrev OneBefore : ℕ → ℕ → (Entry → Entry → Bool) → Entry → Type 0
OneBefore p n f entry = (due ws : List Entry) → turns due ws ≤ n → NoneOf p due → OneOf p entry ws → WroteOne p entry (write_due n f due ws)

one_more_line : (p : ℕ) (entry x : Entry) (found : Written) → own p x ≡ [] → WroteOne p entry found → WroteOne p entry (behind x found)
one_more_line p entry x found d (waits_still c w) = waits_still (ap (λ (z : List ReadCall). z ++ of_process p found.lines) d ∙ c) w
one_more_line p entry x found d (was_written c w) = was_written (ap (λ (z : List ReadCall). z ++ of_process p found.lines) d ∙ c) w

one_due : (p n : ℕ) (f : Entry → Entry → Bool) (entry x one : Entry) (due a b : List Entry) → OneBefore p n f entry
    → turns (one ∷ (x ∷ due)) (a ++ b) ≤ n → NoneOf p (x ∷ due) → IsPickedOf p entry one (a ++ b)
    → WroteOne p entry (write_due n f (one ∷ (x ∷ due)) (a ++ b))
one_due p n f entry x one due a b before k d (is_it same apart) =
    let r = due_apart p n f (one ∷ (x ∷ due)) (a ++ b) k apart in
    was_written (r.calls ∙ ap (λ (z : List ReadCall). own p one ++ z) (none_of p (x ∷ due) d) ∙ append-nil (own p one)
    ∙ ap (λ (z : Entry). own p z) same) r.waits
one_due p n f entry x one due a b before k d (is_other other left) = before (one ∷ (x ∷ due)) (a ++ b) k (own_apart p one other, d) left

one_turn : (p n : ℕ) (f : Entry → Entry → Bool) (entry x : Entry) (due ws : List Entry) → OneBefore p n f entry → turns (x ∷ due) ws ≤ suc n
    → NoneOf p (x ∷ due) → OneOf p entry ws → Picks (λ other. f other x) ws → WroteOne p entry (write_due (suc n) f (x ∷ due) ws)
one_turn p n f entry x due ws before l d h (picks_none is) =
    rw is (one_more_line p entry x (write_due n f due ws) d.0 (before due ws (omega (arith, l)) d.1 h))
one_turn p n f entry x due ws before l d h (picks_one a one b e t is) =
    rw is (one_due p n f entry x one due a b before (turns_less due a b one x n (subst (λ (z : List Entry). turns (x ∷ due) z ≤ suc n) e l)) d
    (picked_of p entry one h.before h.after a b (sym h.parts ∙ e) h.none_before h.none_after))

pub due_one : (p n : ℕ) (f : Entry → Entry → Bool) (entry : Entry) → OneBefore p n f entry
due_one p zero f entry due ws l d h = waits_still refl h
due_one p (suc n) f entry [] ws l d h = waits_still refl h
due_one p (suc n) f entry (x ∷ due) ws l d h =
    one_turn p n f entry x due ws (due_one p n f entry) l d h (picks (λ other. f other x) ws)
