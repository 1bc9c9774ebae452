-- Options in any order, whatever they are: the words are the spellings of some options, one behind the other, and what
-- these give is what is asked for. How words begin with an option, and what an option gives, each program says for its
-- own. The words are this project's own profile.
use Rattle.std.specs.Prelude.{◌≡◌, ℕ, List, [], ◌∷◌, ◌++◌, Option, option_to_list}
use Rattle.std.specs.List.{filter_map}

-- the words are the spellings of these options, one behind the other
abbrev pub AreSpellings : {Given : Type 0} → (Given → List (List ℕ) → List (List ℕ) → Type 0) → List Given → List (List ℕ) → Type 0
AreSpellings Begins [] words = words ≡ []
AreSpellings Begins (given ∷ more) words = (rest : List (List ℕ)) × Begins given rest words × AreSpellings Begins more rest

-- the words are spellings of options that ask for this: of each kind, what was asked for before, and then what they
-- give, is what is asked for in all
pub record Ask {Given Kind : Type 0} (Begins : Given → List (List ℕ) → List (List ℕ) → Type 0) (value_for : Kind → Given → Option ℕ)
    (before : Kind → List ℕ) (words : List (List ℕ)) (after : Kind → List ℕ) : Type 0 where
  pub given : List Given
  pub spelled : AreSpellings Begins given words
  pub asks : (kind : Kind) → before kind ++ filter_map (value_for kind) given ≡ after kind

-- of each kind, what was asked for before and what one option more gives is what is asked for behind it
abbrev pub AddsOne : {Given Kind : Type 0} → (Kind → Given → Option ℕ) → (Kind → List ℕ) → Given → (Kind → List ℕ) → Type 0
AddsOne {Kind = Kind} value_for before given after = (kind : Kind) → after kind ≡ before kind ++ option_to_list (value_for kind given)
