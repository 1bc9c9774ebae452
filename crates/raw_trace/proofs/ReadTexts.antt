-- What the texts of a log are read as: each in one way. The call of a process that was cut in two at a place is told by
-- the nearest texts of the process, so a further text changes it only where nothing of the process stands before.
use Rattle.std.proofs.Common.{◌≡◌, ℕ, zero, suc, List, [], ◌∷◌, ◌++◌, take, drop, true, false, refl, sym, ap, subst, ◌∙◌, inl, inr}
use Rattle.std.specs.Prelude.{◌==◌, Option, Some, None, option_and_then, option_map, unwrap_or, Result, Ok, Err}
use Rattle.std.proofs.lemmas.Bool.{eqb-true, eq-eqb}
use Rattle.line_parts.proofs.Leaves.{bool_cases}
use Rattle.strace_reader.specs.declared.item.Item.{Item}
use Rattle.strace_reader.specs.declared.item.Item.TheVariants.{Unfinished, Resumed, Other, Blank}
use Rattle.strace_reader.specs.declared.item.Name.{Name}
use Rattle.strace_reader.specs.declared.item.Name.TheVariants.{Mmap, Munmap, Mprotect, Fault, Mseal, Brk, Mremap}
use Rattle.strace_reader.proofs.FormFacts.{cut_same}
use Rattle.strace_reader.proofs.OneOutcome.{one_outcome}
use Rattle.raw_logs.specs.Log.{Numbered, Each}
use Rattle.raw_logs.proofs.MadeLines.{each_one}
use Rattle.raw_trace.specs.Places.{HasReading, ReadText, IsReadText, is_of, nearest, name_number, joined, cut_call, Part, Whole, Front, Back, part}

-- ---- one reading

-- a text is read in one way
pub reading_one : (text : List ℕ) (a b : Result Item ℕ) → HasReading text a → HasReading text b → a ≡ b
reading_one text (Ok x) (Ok y) h g = ap (λ (i : Item). Ok i) ((one_outcome text).item x y h g)
reading_one text (Ok x) (Err q) h g = absurd ((one_outcome text).never_both x g.0 h g.2)
reading_one text (Err p) (Ok y) h g = absurd ((one_outcome text).never_both y h.0 g h.2)
reading_one text (Err p) (Err q) h g = ap (λ (n : ℕ). Err n) (cut_same text p q h.1 g.1 h.3 g.3).0

read_text_one : (line : Numbered) (a b : ReadText) → IsReadText line a → IsReadText line b → a ≡ b
read_text_one line a b h g =
    let l : a.line ≡ b.line = h.0 ∙ sym g.0 in
    let r : a.reading ≡ b.reading = reading_one line.text a.reading b.reading h.1 g.1 in
    λ i. record { line = l i; reading = r i }

-- and so are the texts of lines
pub reads_one : (lines : List Numbered) (a b : List ReadText) → Each IsReadText lines a → Each IsReadText lines b → a ≡ b
reads_one lines a b h g = each_one IsReadText read_text_one lines a b h g

-- what a text is read as
pub reading_of : (line : Numbered) (text : ReadText) → IsReadText line text → HasReading text.line.text text.reading
reading_of line text h = subst (λ (x : Numbered). HasReading x.text text.reading) (sym h.0) h.1

-- ---- names

abbrev name_at : ℕ → Name
name_at zero = Mmap
name_at (suc zero) = Munmap
name_at (suc (suc zero)) = Mprotect
name_at (suc (suc (suc zero))) = Fault
name_at (suc (suc (suc (suc zero)))) = Mseal
name_at (suc (suc (suc (suc (suc zero))))) = Brk
name_at (suc (suc (suc (suc (suc (suc n)))))) = Mremap

name_back : (name : Name) → name_at (name_number name) ≡ name
name_back Mmap = refl
name_back name = refl

-- names of one number are one
pub name_one : (n m : Name) → (name_number n == name_number m) ≡ true → n ≡ m
name_one n m e = sym (name_back n) ∙ ap name_at (eqb-true (name_number n) (name_number m) e) ∙ name_back m

-- ---- the nearest text of a process

-- a process is itself
pub self_is : (p : ℕ) → (p == p) ≡ true
self_is p = eq-eqb p p refl

-- a text of the process is the nearest
pub near_of : (p : ℕ) (x : ReadText) (xs : List ReadText) → is_of p x.reading ≡ true → nearest p (x ∷ xs) ≡ Some x
near_of p x xs t = rw t refl

-- and another is passed over
pub near_past : (p : ℕ) (x : ReadText) (xs : List ReadText) → is_of p x.reading ≡ false → nearest p (x ∷ xs) ≡ nearest p xs
near_past p x xs f = rw f refl

some_none : (x : ReadText) → ◌≡◌ {A = Option ReadText} (Some x) None → ⊥
some_none x e = cc

-- one is found where one is
pub near_there : (p : ℕ) (a : List ReadText) (x : ReadText) (b : List ReadText) → is_of p x.reading ≡ true → nearest p (a ++ (x ∷ b)) ≡ None → ⊥
near_there p [] x b t e = some_none x (sym (near_of p x b t) ∙ e)
near_there p (y ∷ a) x b t e = elim (bool_cases (is_of p y.reading)) [
  | inl k ↦ some_none y (sym (near_of p y (a ++ (x ∷ b)) k) ∙ e)
  | inr k ↦ near_there p a x b t (sym (near_past p y (a ++ (x ∷ b)) k) ∙ e)
]

-- behind texts of others
pub near_behind : (p : ℕ) (xs ys : List ReadText) → nearest p xs ≡ None → nearest p (xs ++ ys) ≡ nearest p ys
near_behind p [] ys e = refl
near_behind p (x ∷ xs) ys e = elim (bool_cases (is_of p x.reading)) [
  | inl k ↦ absurd (some_none x (sym (near_of p x xs k) ∙ e))
  | inr k ↦ near_past p x (xs ++ ys) k ∙ near_behind p xs ys (sym (near_past p x xs k) ∙ e)
]

-- what holds of each text holds of the nearest
pub near_each : (P : ReadText → Type 0) (all : List ReadText → Type 0) → ((x : ReadText) (xs : List ReadText) → all (x ∷ xs) → P x × all xs)
    → (p : ℕ) (xs : List ReadText) (y : ReadText) → all xs → nearest p xs ≡ Some y → P y
near_each P all parts p [] y h e = absurd cc
near_each P all parts p (x ∷ xs) y h e = elim (bool_cases (is_of p x.reading)) [
  | inl k ↦ subst P (some_same (sym (near_of p x xs k) ∙ e)) (parts x xs h).0
  | inr k ↦ near_each P all parts p xs y (parts x xs h).1 (sym (near_past p x xs k) ∙ e)
]
  where
    some_same : {x y : ReadText} → ◌≡◌ {A = Option ReadText} (Some x) (Some y) → x ≡ y
    some_same e = cc

-- ---- the call that is cut in two

-- it is no second half
abbrev pub IsNoSecond : Result Item ℕ → Type 0
IsNoSecond (Ok (Resumed p n b)) = ⊥
IsNoSecond reading = Unit {0}

-- so it ends no call
pub no_second : (first : List ℕ) (reading : Result Item ℕ) (second : List ℕ) (r : Result Item ℕ) → IsNoSecond r → joined first reading second r ≡ None
no_second first (Ok (Unfinished p n from to)) second (Ok (Resumed q m b)) h = absurd h
no_second first begin second end h = refl

no_value : (o : Option ReadText) (k : ReadText → Option (List ℕ)) → ((y : ReadText) → k y ≡ None) → option_and_then k o ≡ None
no_value None k h = refl
no_value (Some y) k h = h y

-- before a text of the process that is no second half none is
pub none_closed : (p : ℕ) (fed : List ReadText) (x : ReadText) (later : List ReadText) → is_of p x.reading ≡ true → IsNoSecond x.reading
    → cut_call p fed (x ∷ later) ≡ None
none_closed p fed x later t never = rw t (no_value (nearest p fed) _ (λ f. no_second f.line.text f.reading x.line.text x.reading never))

-- behind the last text none is
pub none_last : (p : ℕ) (fed : List ReadText) → cut_call p fed [] ≡ None
none_last p fed = no_value (nearest p fed) _ (λ f. refl)

-- a text of another process is before it or behind it
pub cut_past : (p : ℕ) (fed : List ReadText) (x : ReadText) (later : List ReadText) → is_of p x.reading ≡ false
    → cut_call p (x ∷ fed) later ≡ cut_call p fed (x ∷ later)
cut_past p fed x later f = rw f refl

-- what is read so is of one process
pub of_one : (p q : ℕ) (r : Result Item ℕ) → is_of p r ≡ true → is_of q r ≡ true → p ≡ q
of_one p q (Ok Other) t u = absurd cc
of_one p q (Ok Blank) t u = absurd cc
of_one p q (Err o) t u = sym (eqb-true o p t) ∙ eqb-true o q u
of_one p q reading t u = sym (eqb-true _ p t) ∙ eqb-true _ q u

-- ---- the parts of a log

-- a first half and its second
pub record FrontParts (fed : List ReadText) (x : ReadText) (later : List ReadText) (line : List ℕ) : Type 0 where
  pub process : ℕ
  pub name : Name
  pub from : ℕ
  pub to : ℕ
  pub behind : ℕ
  pub second : ReadText
  pub is : x.reading ≡ Ok (Unfinished process name from to)
  pub near : nearest process later ≡ Some second
  pub joins : line ≡ take to x.line.text ++ drop behind second.line.text
  pub cut : cut_call process (x ∷ fed) later ≡ Some line

-- a second half, and nothing of its process is cut in two behind it
pub record BackParts (fed : List ReadText) (x : ReadText) (later : List ReadText) (process : ℕ) : Type 0 where
  pub of : is_of process x.reading ≡ true
  pub line : List ℕ
  pub cut : cut_call process fed (x ∷ later) ≡ Some line
  pub none : cut_call process (x ∷ fed) later ≡ None

-- of the process of any other nothing is cut in two there
abbrev pub WholeParts : List ReadText → ReadText → List ReadText → Type 0
WholeParts fed x later = (p : ℕ) → is_of p x.reading ≡ true → (cut_call p fed (x ∷ later) ≡ None) × (cut_call p (x ∷ fed) later ≡ None)

-- what each part comes to
abbrev pub HasPart : List ReadText → ReadText → List ReadText → Part → Type 0
HasPart fed x later Whole = WholeParts fed x later
HasPart fed x later (Front line) = FrontParts fed x later line
HasPart fed x later (Back p) = BackParts fed x later p

front_joins : (first second : List ℕ) (p from to : ℕ) (n : Name) (r : Result Item ℕ) (line : List ℕ)
    → joined first (Ok (Unfinished p n from to)) second r ≡ Some line → (behind : ℕ) × (line ≡ take to first ++ drop behind second)
front_joins first second p from to n (Ok (Resumed q m b)) line e = elim (bool_cases (name_number n == name_number m)) [
  | inl t ↦
      let k : ◌≡◌ {A = Option (List ℕ)} (Some (take to first ++ drop b second)) (joined first (Ok (Unfinished p n from to)) second (Ok (Resumed q m b))) =
      rw t refl in
      (b, some_line (sym (k ∙ e)))
  | inr f ↦
      let k : ◌≡◌ {A = Option (List ℕ)} None (joined first (Ok (Unfinished p n from to)) second (Ok (Resumed q m b))) = rw f refl in
      absurd (none_line line (k ∙ e))
]
  where
    some_line : {a b : List ℕ} → ◌≡◌ {A = Option (List ℕ)} (Some a) (Some b) → a ≡ b
    some_line e = cc

    none_line : (a : List ℕ) → ◌≡◌ {A = Option (List ℕ)} None (Some a) → ⊥
    none_line a e = cc
front_joins first second p from to n end line e = absurd cc

opened : (fed : List ReadText) (x : ReadText) (later : List ReadText) (p from to : ℕ) (n : Name) → x.reading ≡ Ok (Unfinished p n from to)
    → (o : Option (List ℕ)) → cut_call p (x ∷ fed) later ≡ o → HasPart fed x later (unwrap_or (option_map Front o) Whole)
opened fed x later p from to n e None c =
    λ q t.
    let same : q ≡ p = of_one q p x.reading t (ap (is_of p) e ∙ self_is p) in
    (none_closed q fed x later t (subst IsNoSecond (sym e) tt), subst (λ (z : ℕ). cut_call z (x ∷ fed) later ≡ None) (sym same) c)
opened fed x later p from to n e (Some line) c =
    let t : is_of p x.reading ≡ true = ap (is_of p) e ∙ self_is p in
    let near : cut_call p (x ∷ fed) later ≡ option_and_then (λ s. joined x.line.text x.reading s.line.text s.reading) (nearest p later) = rw t refl in
    by (nearest p later) refl (sym near ∙ c)
  where
    by : (o : Option ReadText) → nearest p later ≡ o
        → option_and_then (λ s. joined x.line.text x.reading s.line.text s.reading) o ≡ Some line → FrontParts fed x later line
    by None near j = absurd cc
    by (Some second) near j =
        let k = front_joins x.line.text second.line.text p from to n second.reading line
        (ap (λ (r : Result Item ℕ). joined x.line.text r second.line.text second.reading) (sym e) ∙ j) in
        record {
          process = p;
          name = n;
          from = from;
          to = to;
          behind = k.0;
          second = second;
          is = e;
          near = near;
          joins = k.1;
          cut = c;
        }

-- behind a text of the process that is no first half none is
none_opened : (p : ℕ) (fed : List ReadText) (x : ReadText) (later : List ReadText) → is_of p x.reading ≡ true
    → ((s : ReadText) → joined x.line.text x.reading s.line.text s.reading ≡ None) → cut_call p (x ∷ fed) later ≡ None
none_opened p fed x later t h = rw t (no_value (nearest p later) _ h)

closed : (fed : List ReadText) (x : ReadText) (later : List ReadText) (p b : ℕ) (n : Name) → x.reading ≡ Ok (Resumed p n b)
    → (o : Option (List ℕ)) → cut_call p fed (x ∷ later) ≡ o → HasPart fed x later (unwrap_or (option_map (λ line. Back p) o) Whole)
closed fed x later p b n e o c = by o c
  where
    none : (s : ReadText) → joined x.line.text x.reading s.line.text s.reading ≡ None
    none s = ap (λ (r : Result Item ℕ). joined x.line.text r s.line.text s.reading) e

    by : (o : Option (List ℕ)) → cut_call p fed (x ∷ later) ≡ o → HasPart fed x later (unwrap_or (option_map (λ line. Back p) o) Whole)
    by None c = λ q t.
        let same : q ≡ p = of_one q p x.reading t (ap (is_of p) e ∙ self_is p) in
        (subst (λ (z : ℕ). cut_call z fed (x ∷ later) ≡ None) (sym same) c, none_opened q fed x later t none)
    by (Some line) c =
        let t : is_of p x.reading ≡ true = ap (is_of p) e ∙ self_is p in
        record { of = t; line = line; cut = c; none = none_opened p fed x later t none }

parts_read : (fed : List ReadText) (line : Numbered) (reading : Result Item ℕ) (later : List ReadText)
    → HasPart fed (record { line = line; reading = reading }) later (part fed (record { line = line; reading = reading }) later reading)
parts_read fed line (Ok (Unfinished p n from to)) later = opened fed _ later p from to n refl _ refl
parts_read fed line (Ok (Resumed p n b)) later = closed fed _ later p b n refl _ refl
parts_read fed line reading later =
    let x : ReadText = record { line = line; reading = reading } in
    λ q t. (none_closed q fed x later t tt, none_opened q fed x later t (λ s. refl))

-- each text has its part
pub parts_of : (fed : List ReadText) (x : ReadText) (later : List ReadText) → HasPart fed x later (part fed x later x.reading)
parts_of fed x later = parts_read fed x.line x.reading later

-- ---- a text more

-- the last text is no second half of this one
abbrev pub IsUnmet : ReadText → List ReadText → ReadText → Type 0
IsUnmet x later last = (p : ℕ) → is_of p x.reading ≡ true → nearest p later ≡ None → is_of p last.reading ≡ true
    → joined x.line.text x.reading last.line.text last.reading ≡ None

near_met : (p : ℕ) (later : List ReadText) (last : ReadText) (k : ReadText → Option (List ℕ))
    → (nearest p later ≡ None → is_of p last.reading ≡ true → k last ≡ None)
    → option_and_then k (nearest p (later ++ (last ∷ []))) ≡ option_and_then k (nearest p later)
near_met p [] last k h = elim (bool_cases (is_of p last.reading)) [ inl t ↦ rw t (h refl t) | inr f ↦ rw f refl ]
near_met p (x ∷ later) last k h = elim (bool_cases (is_of p x.reading)) [
  | inl t ↦ rw t refl
  | inr f ↦ rw f (near_met p later last k (λ e. h (near_past p x later f ∙ e)))
]

part_read : (fed : List ReadText) (line : Numbered) (reading : Result Item ℕ) (later : List ReadText) (last : ReadText)
    → IsUnmet (record { line = line; reading = reading }) later last
    → part fed (record { line = line; reading = reading }) (later ++ (last ∷ [])) reading ≡ part fed (record { line = line; reading = reading }) later reading
part_read fed line (Ok (Unfinished p n a to)) later last h =
    let k : ReadText → Option (List ℕ) = λ s. joined line.text (Ok (Unfinished p n a to)) s.line.text s.reading in
    rw (self_is p) (ap (λ (o : Option (List ℕ)). unwrap_or (option_map Front o) Whole) (near_met p later last k (λ none t. h p (self_is p) none t)))
part_read fed line (Ok (Resumed p n b)) later last h = rw (self_is p) refl
part_read fed line reading later last h = refl

-- such a text changes nothing
pub part_more : (fed : List ReadText) (x : ReadText) (later : List ReadText) (last : ReadText) → IsUnmet x later last
    → part fed x (later ++ (last ∷ [])) x.reading ≡ part fed x later x.reading
part_more fed x later last h = part_read fed x.line x.reading later last h
