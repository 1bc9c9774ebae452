-- What a sink got of a text when the writing of it stopped early, and how a number stands between two texts. The words
-- for whole texts and for reads, `Appends`, `Consumes`, `Keeps` and `IsAtEnd`, are std's. All of them say nothing of a
-- port that doesn't say which bytes it has.
use Rattle.std.specs.Prelude.{◌≡◌, ℕ, List, ◌++◌, Option, decimal}
use Rattle.std.specs.Io.KnownBytes.{Appends}

-- known bytes grow by some first part of a text, which may be empty or the whole
pub record AppendsPrefix (old new : Option (List ℕ)) (text : List ℕ) : Type 0 where
  pub front : List ℕ
  pub rest : List ℕ
  pub whole : text ≡ front ++ rest
  pub appended : Appends old new front

-- they grow by such a first part, and this is the rest
pub record AppendsAllBut (old new : Option (List ℕ)) (text rest : List ℕ) : Type 0 where
  pub front : List ℕ
  pub whole : text ≡ front ++ rest
  pub appended : Appends old new front

-- a number in decimal, with a text before it and one behind it
abbrev pub numbered : List ℕ → ℕ → List ℕ → List ℕ
numbered before number behind = before ++ (decimal number ++ behind)
