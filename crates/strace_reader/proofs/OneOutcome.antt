-- A text has one outcome. What spells an item, and what refuses a text, each fix what a reader has to give; and one
-- result has room for one outcome.
use Rattle.std.proofs.Common.{◌≡◌, ◌≢◌, ℕ, List, [], ◌∷◌, ◌++◌, length, Result, Ok, Err, Option, Some, None, refl, inl, inr}
use Rattle.std.proofs.lemmas.Bool.{cases_lt}
use Rattle.page_types.specs.declared.calls.Kind.{Kind}
use Rattle.line_parts.specs.declared.refusal.Refusal.{Refusal}
use Rattle.strace_reader.specs.declared.item.BadCall.{BadCall}
use Rattle.strace_reader.specs.declared.item.Body.{Body}
use Rattle.strace_reader.specs.declared.item.Body.TheVariants.{Called, FirstHalf, SecondHalf, Other}
use Rattle.strace_reader.specs.declared.item.Item.{Item}
use Rattle.strace_reader.specs.declared.item.Name.{Name}
use Rattle.strace_reader.specs.declared.maps.MapsItem.{MapsItem}
use Rattle.strace_reader.specs.Words.{call_head}
use Rattle.strace_reader.specs.Grammar.{IsCut, IsCall, IsOther, IsBody, RefusesBody, Spells, Refuses}
use Rattle.strace_reader.specs.Maps.{SpellsMaps, RefusesMaps, user_end}
use Rattle.strace_reader.specs.Reading.{arguments_at, maps_at}
use Rattle.strace_reader.specs.Laws.{HasOneOutcome}
use Rattle.strace_reader.proofs.BodyAnswers.{BodyAnswers, signal_body, never_body, no_form_body, first_body, second_body, read_call, refused_call}
use Rattle.strace_reader.proofs.LineAnswers.{LineAnswers, of_body, blank_line, read_body_line, refused_body_line}
use Rattle.strace_reader.proofs.MapsFacts.{MapsAnswers, form_line, order_line, past_line, area_line}

-- ---- one result, one outcome

abbrev found_as : {A : Type 0} → A → Result A BadCall
found_as item = Ok item

abbrev refused_as : {A : Type 0} → BadCall → Result A BadCall
refused_as bad = Err bad

-- a result that every item and every refusal of a text is
record IsFixed {A : Type 0} (spells : A → Type 0) (refuses : BadCall → Type 0) : Type 0 where
  -- that result
  pub result : Result A BadCall
  -- each item of the text is the result
  pub only : (item : A) → spells item → result ≡ found_as item
  -- each refusal of the text is the result
  pub only_there : (bad : BadCall) → refuses bad → result ≡ refused_as bad

-- where each item and each refusal fixes the result, there is one of them
one_of : {A : Type 0} (spells : A → Type 0) (refuses : BadCall → Type 0) → ((a : A) → spells a → IsFixed spells refuses)
    → ((bad : BadCall) → refuses bad → IsFixed spells refuses) → HasOneOutcome spells refuses
one_of {A} spells refuses by_item by_refusal = record {
  item = λ a b x y. let k = by_item a x in cc (k.only a x, k.only b y);
  refusal = λ a b x y. let k = by_refusal a x in cc (k.only_there a x, k.only_there b y);
  never_both = λ a bad x y. let k = by_item a x in cc (k.only a x, k.only_there bad y);
}

-- ---- lines of a trace

-- the body is read in one way
abbrev pub BodyIsRead : List ℕ → Type 0
BodyIsRead body = (r : Result Body Refusal) × BodyAnswers body r

read_fixed : (name : Name) (body rest : List ℕ) (r : Result (Body × List ℕ) Refusal) → body ≡ call_head name ++ rest
    → IsCall name body → arguments_at name rest ≡ r → BodyIsRead body
read_fixed name body rest (Ok x) e form read = (Ok x.0, read_call name body rest x.1 x.0 e form read)
read_fixed name body rest (Err f) e form read = (Err f, refused_call name body rest f e form read)

call_fixed : (name : Name) (body : List ℕ) → IsCall name body → BodyIsRead body
call_fixed name body form = read_fixed name body form.names.0 (arguments_at name form.names.0) form.names.1 form refl

other_fixed : (body : List ℕ) → IsOther body → BodyIsRead body
other_fixed body (inl h) = (Ok Other, signal_body body (inl h))
other_fixed body (inr (inl h)) = (Ok Other, signal_body body (inr h))
other_fixed body (inr (inr (inl h))) = (Ok Other, never_body h.0 body h.1 h.2)
other_fixed body (inr (inr (inr (inl h)))) = call_fixed h.0 body h.1
other_fixed body (inr (inr (inr (inr f)))) = (Ok Other, no_form_body body f)

-- a body that is anything is read in one way
pub body_fixed : (body : List ℕ) (b : Body) → IsBody body b → BodyIsRead body
unfolding IsBody
body_fixed body (Called c r) h = call_fixed h.0 body h.1
body_fixed body (FirstHalf name len) h = (Ok (FirstHalf name (length h.0)), first_body name body h.0 h.1 h.2)
body_fixed body (SecondHalf name left) h = (Ok (SecondHalf name (length h.0)), second_body name body h.0 h.1)
body_fixed body Other h = other_fixed body h

refused_fixed : (body : List ℕ) (f : Refusal) → RefusesBody body f → BodyIsRead body
unfolding RefusesBody
refused_fixed body f h = call_fixed h.0 body h.2

abbrev LineIsFixed : List ℕ → Type 0
LineIsFixed text = IsFixed (Spells text) (Refuses text)

fixed_line : {text : List ℕ} (r : Result Item BadCall) → LineAnswers text r → LineIsFixed text
fixed_line r a = record { result = r; only = a.only; only_there = a.only_there }

line_of : (text body : List ℕ) (pid : ℕ) (r : Result Body Refusal) → text ≢ [] → IsCut text pid body → BodyAnswers body r → LineIsFixed text
line_of text body pid (Ok b) some cut a = fixed_line _ (read_body_line text body pid b some cut a)
line_of text body pid (Err f) some cut a = fixed_line _ (refused_body_line text body pid f some cut a)

spelled_line : (text : List ℕ) (item : Item) → Spells text item → LineIsFixed text
spelled_line [] item h = fixed_line _ (blank_line [] refl)
spelled_line (c ∷ text) item h = let some : c ∷ text ≢ [] = λ e. cc in let o = of_body (c ∷ text) some item h in
    let r = body_fixed o.body o.it o.is in line_of (c ∷ text) o.body o.pid r.0 some o.cut r.1

refused_line : (text : List ℕ) (bad : BadCall) → Refuses text bad → LineIsFixed text
unfolding Refuses
refused_line [] bad h = fixed_line _ (blank_line [] refl)
refused_line (c ∷ text) bad h = let r = refused_fixed h.1 h.2 h.4 in line_of (c ∷ text) h.1 h.0 r.0 (λ e. cc) h.3 r.1

-- each line of a trace has one outcome
pub one_outcome : (text : List ℕ) → HasOneOutcome (Spells text) (Refuses text)
one_outcome text = one_of (Spells text) (Refuses text) (spelled_line text) (refused_line text)

-- ---- lines of a maps file

abbrev MapsIsFixed : List ℕ → Type 0
MapsIsFixed text = IsFixed (SpellsMaps text) (RefusesMaps text)

fixed_maps : {text : List ℕ} (r : Result MapsItem BadCall) → MapsAnswers text r → MapsIsFixed text
fixed_maps r a = record { result = r; only = a.only; only_there = a.only_there }

maps_fixed_by : (text : List ℕ) (o : Option (ℕ × ℕ × Kind)) → maps_at text ≡ o → MapsIsFixed text
maps_fixed_by text None read = fixed_maps _ (form_line text read)
maps_fixed_by text (Some line) read = elim (cases_lt line.0 line.1) [
  | inl lt ↦ elim (cases_lt user_end line.1) [
    | inl past ↦ fixed_maps _ (past_line text line.0 line.1 line.2 read lt past)
    | inr le ↦ fixed_maps _ (area_line text line.0 line.1 line.2 read lt le)
  ]
  | inr le ↦ fixed_maps _ (order_line text line.0 line.1 line.2 read le)
]

maps_fixed : (text : List ℕ) → MapsIsFixed text
maps_fixed text = maps_fixed_by text (maps_at text) refl

-- each line of a maps file has one outcome
pub one_maps_outcome : (text : List ℕ) → HasOneOutcome (SpellsMaps text) (RefusesMaps text)
one_maps_outcome text = one_of (SpellsMaps text) (RefusesMaps text) (λ a s. maps_fixed text) (λ b r. maps_fixed text)
