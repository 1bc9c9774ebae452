-- Options are asked for one by one, whatever they are: what was asked for so far, with what is left, is what all of
-- them ask. Words begin with one option alone, which each program shows of its own.
use Rattle.std.proofs.Common.{◌≡◌, ℕ, ◌+◌, ◌<◌, ◌≤◌, List, [], ◌∷◌, ◌++◌, length, Option, Some, None, refl, sym, subst, ap, ◌∙◌}
use Rattle.std.proofs.Common.{arith, append_assoc, append-nil, length-append, option_to_list}
use Rattle.std.specs.List.{filter_map, cons_option}
use Rattle.command_words.specs.Spellings.{AreSpellings, Ask, AddsOne}

-- what an option gives goes before what others give
cons_append : (value : Option ℕ) (xs : List ℕ) → cons_option value xs ≡ option_to_list value ++ xs
cons_append None xs = refl
cons_append (Some x) xs = refl

-- what an option gives moves from what is left to what was asked for
both_parts : {Given Kind : Type 0} (value_for : Kind → Given → Option ℕ) (before middle : Kind → List ℕ) (given : Given) (more : List Given)
    (kind : Kind) → AddsOne value_for before given middle
    → before kind ++ filter_map (value_for kind) (given ∷ more) ≡ middle kind ++ filter_map (value_for kind) more
both_parts value_for before middle given more kind adds =
    let f = filter_map (value_for kind) more in
    ap (λ xs. before kind ++ xs) (cons_append (value_for kind given) f) ∙ sym (append_assoc (before kind) (option_to_list (value_for kind given)) f)
    ∙ ap (λ xs. xs ++ f) (sym (adds kind))

-- the options of words that aren't empty begin with one
pub record First {Given Kind : Type 0} (Begins : Given → List (List ℕ) → List (List ℕ) → Type 0) (value_for : Kind → Given → Option ℕ)
    (before : Kind → List ℕ) (words : List (List ℕ)) (after : Kind → List ℕ) : Type 0 where
  -- the first option
  pub given : Given
  -- the words behind it
  pub rest : List (List ℕ)
  -- the options of these
  pub more : List Given
  -- the words begin with the first option
  pub begins : Begins given rest words
  -- and go on with the others
  pub spelled : AreSpellings Begins more rest
  -- of each kind, what was asked for and what all of them give is what is asked for in all
  pub asks : (kind : Kind) → before kind ++ filter_map (value_for kind) (given ∷ more) ≡ after kind

none_left : {Given Kind : Type 0} (Begins : Given → List (List ℕ) → List (List ℕ) → Type 0) (value_for : Kind → Given → Option ℕ)
    (given : List Given) (before after : Kind → List ℕ) → ((g : Given) (rest : List (List ℕ)) → Begins g rest [] → ⊥)
    → AreSpellings Begins given [] → ((kind : Kind) → before kind ++ filter_map (value_for kind) given ≡ after kind) → (kind : Kind) → before kind ≡ after kind
none_left Begins value_for [] before after none spelled asks kind = sym (append-nil (before kind)) ∙ asks kind
none_left Begins value_for (given ∷ more) before after none spelled asks kind = absurd (none given spelled.0 spelled.1)

module _ {Given Kind : Type 0} {Begins : Given → List (List ℕ) → List (List ℕ) → Type 0} {value_for : Kind → Given → Option ℕ} where
  -- what is left behind an option that was added is left before it too, with that option in front
  pub left_before : {before middle after : Kind → List ℕ} (given : Given) (rest words : List (List ℕ)) → AddsOne value_for before given middle
      → Begins given rest words → Ask Begins value_for middle rest after → Ask Begins value_for before words after
  left_before {before = before} {middle = middle} given rest words adds begins left = record {
    given = given ∷ left.given;
    spelled = (rest, begins, left.spelled);
    asks = λ kind. both_parts value_for before middle given left.given kind adds ∙ left.asks kind;
  }

  first_with : (given : List Given) (before : Kind → List ℕ) (words : List (List ℕ)) (after : Kind → List ℕ) → 0 < length words
      → AreSpellings Begins given words → ((kind : Kind) → before kind ++ filter_map (value_for kind) given ≡ after kind)
      → First Begins value_for before words after
  first_with [] before words after some spelled asks = let none : length words ≡ 0 = ap length spelled in absurd (omega arith)
  first_with (given ∷ more) before words after some spelled asks = record {
    given = given;
    rest = spelled.0;
    more = more;
    begins = spelled.1;
    spelled = spelled.2;
    asks = asks;
  }

  -- where words aren't empty, what they ask for begins with one option
  first_left : {before after : Kind → List ℕ} (words : List (List ℕ)) → 0 < length words → Ask Begins value_for before words after
      → First Begins value_for before words after
  first_left {before = before} {after = after} words some left = first_with left.given before words after some left.spelled left.asks

  -- what is left before an option is left behind it, once it was added
  pub left_behind : {before middle after : Kind → List ℕ}
      → ((g h : Given) (r s words : List (List ℕ)) → Begins g r words → Begins h s words → (g ≡ h) × (r ≡ s))
      → (given : Given) (rest words : List (List ℕ)) → AddsOne value_for before given middle → Begins given rest words → 0 < length words
      → Ask Begins value_for before words after → Ask Begins value_for middle rest after
  left_behind {before = before} {middle = middle} once given rest words adds begins some left =
      let first = first_left words some left in
      let (same, behind) = once first.given given first.rest rest words first.begins begins in record {
        given = first.more;
        spelled = subst (λ ws. AreSpellings Begins first.more ws) behind first.spelled;
        asks = λ kind.
            sym (both_parts value_for before middle given first.more kind adds)
            ∙ ap (λ g. before kind ++ filter_map (value_for kind) (g ∷ first.more)) (sym same) ∙ first.asks kind;
      }

  -- words that begin with no option are no spelling
  pub left_of_none : {before after : Kind → List ℕ} (words : List (List ℕ)) → 0 < length words
      → ((given : Given) (rest : List (List ℕ)) → Begins given rest words → ⊥) → Ask Begins value_for before words after → ⊥
  left_of_none words some none left = let first = first_left words some left in none first.given first.rest first.begins

  -- words that begin with an option of a kind of which one was asked for already ask for nothing
  pub left_of_asked : {before after : Kind → List ℕ} → ((g h : Given) (r s words : List (List ℕ)) → Begins g r words → Begins h s words → (g ≡ h) × (r ≡ s))
      → (given : Given) (rest words : List (List ℕ)) → 0 < length words → Begins given rest words
      → (kind : Kind) (value : ℕ) → value_for kind given ≡ Some value → 0 < length (before kind) → length (after kind) ≤ 1
      → Ask Begins value_for before words after → ⊥
  left_of_asked {before = before} {after = after} once given rest words some begins kind value gives already most left =
      let first = first_left words some left in
      let (same, behind) = once first.given given first.rest rest words first.begins begins in
      let here : value_for kind first.given ≡ Some value = rw same gives in
      let more = filter_map (value_for kind) first.more in
      let list : filter_map (value_for kind) (first.given ∷ first.more) ≡ value ∷ more = ap (λ v. cons_option v more) here in
      let size : length (before kind ++ (value ∷ more)) ≡ length (after kind) = ap length (ap (λ xs. before kind ++ xs) (sym list) ∙ first.asks kind) in
      let sum = length-append (before kind) (value ∷ more) in omega (arith, already, most)

  -- where no words are left, what was asked for is what all of them ask for
  pub left_of_nothing : {before after : Kind → List ℕ} (words : List (List ℕ)) → ((g : Given) (rest : List (List ℕ)) → Begins g rest [] → ⊥)
      → length words ≡ 0 → Ask Begins value_for before words after → (kind : Kind) → before kind ≡ after kind
  left_of_nothing {before = before} {after = after} [] none e left = none_left Begins value_for left.given before after none left.spelled left.asks
  left_of_nothing (w ∷ ws) none e left = absurd (omega arith)

  -- no words ask for nothing besides
  pub nothing_left : (before : Kind → List ℕ) (words : List (List ℕ)) → length words ≡ 0 → Ask Begins value_for before words before
  nothing_left before [] e = record { given = []; spelled = refl; asks = λ kind. append-nil (before kind) }
  nothing_left before (w ∷ ws) e = absurd (omega arith)

-- one value at most stands where a flag or an option is asked for
pub value_once : (a b : Option ℕ) → option_to_list a ≡ option_to_list b → a ≡ b
value_once None None e = refl
value_once (Some x) (Some y) e = cc
value_once a b e = cc

pub of_option : (value : Option ℕ) → length (option_to_list value) ≤ 1
of_option None = omega arith
of_option (Some x) = omega arith
