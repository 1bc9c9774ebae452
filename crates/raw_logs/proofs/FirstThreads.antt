-- The first thread's number: the first in brackets that didn't come later, line by line.
use Rattle.std.proofs.Common.{◌≡◌, ◌⊎◌, ℕ, ◌+◌, ◌<◌, ◌≤◌, List, [], ◌∷◌, ◌++◌, length, take, drop, get_or, refl, sym, ap, subst, ◌∙◌, append_assoc, inl, inr}
use Rattle.std.proofs.Common.{arith, take-append-drop}
use Rattle.std.specs.Prelude.{Contains}
use Rattle.std.proofs.lemmas.List.Elements.{Contains-append_cases, Contains-append_right}
use Rattle.strace_reader.specs.Grammar.{IsBracketed}
use Rattle.strace_reader.proofs.FormFacts.{prefix_same}
use Rattle.raw_logs.specs.Log.{Numbered, texts_of}
use Rattle.raw_logs.specs.Numbering.{HasBrackets, IsFirstThread}
use Rattle.raw_logs.specs.Stages.{EachLater}
use Rattle.raw_logs.proofs.Following.{only_item}
use Rattle.raw_logs.proofs.TextLists.{texts_more, texts_all}

-- it is the number at the front of this line
pub thread_found : (is_later : ℕ → Type 0) (lines : List Numbered) (i : ℕ) (line : Numbered) (shown : List ℕ) (pid : ℕ) → i < length lines
    → line ≡ get_or lines i line → shown ≡ line.text → (rest : List ℕ) → IsBracketed shown pid rest → ¬ is_later pid
    → ((text : List ℕ) → Contains (take i (texts_of lines)) text → EachLater is_later text) → IsFirstThread is_later (texts_of lines) pid
thread_found is_later lines i line shown pid l e s rest is fresh each =
    record {
      before = take i (texts_of lines);
      text = line.text;
      after = drop (i + 1) (texts_of lines);
      parts = sym (take-append-drop (i + 1) (texts_of lines)) ∙ ap (λ (x : List (List ℕ)). x ++ drop (i + 1) (texts_of lines)) (texts_more lines i line l e)
          ∙ append_assoc (take i (texts_of lines)) (line.text ∷ []) (drop (i + 1) (texts_of lines));
      rest = rest;
      is = subst (λ (x : List ℕ). IsBracketed x pid rest) s is;
      fresh = fresh;
      others = λ other n behind c b. each other c n behind b;
    }

-- this line's came later too
pub each_more : (is_later : ℕ → Type 0) (lines : List Numbered) (i : ℕ) (line : Numbered) → i < length lines → line ≡ get_or lines i line
    → ((text : List ℕ) → Contains (take i (texts_of lines)) text → EachLater is_later text) → EachLater is_later line.text
    → (text : List ℕ) → Contains (take (i + 1) (texts_of lines)) text → EachLater is_later text
each_more is_later lines i line l e each this text c =
    by (Contains-append_cases (take i (texts_of lines)) (line.text ∷ []) text
    (subst (λ (x : List (List ℕ)). Contains x text) (texts_more lines i line l e) c))
  where
    by : Contains (take i (texts_of lines)) text ⊎ Contains (line.text ∷ []) text → EachLater is_later text
    by (inl d) = each text d
    by (inr d) = subst (EachLater is_later) (only_item line.text text d) this

-- all were, so there is none
pub no_thread : (is_later : ℕ → Type 0) (lines : List Numbered) (i : ℕ) → length lines ≤ i
    → ((text : List ℕ) → Contains (take i (texts_of lines)) text → EachLater is_later text) → (pid : ℕ) → ¬ IsFirstThread is_later (texts_of lines) pid
no_thread is_later lines i l each pid h =
    let found : Contains (texts_of lines) h.text = subst (λ (x : List (List ℕ)). Contains x h.text) (sym h.parts)
    (Contains-append_right h.before (h.text ∷ h.after) h.text (0, omega arith, refl)) in
    h.fresh (each h.text (subst (λ (x : List (List ℕ)). Contains x h.text) (sym (texts_all lines i l)) found) pid h.rest h.is)

-- a text without such a number has none that didn't come later
pub each_none : (is_later : ℕ → Type 0) (text : List ℕ) → (HasBrackets text → ⊥) → EachLater is_later text
each_none is_later text none n rest is = absurd (none (n, rest, is))

-- nor has one with such a number that was
pub each_one : (is_later : ℕ → Type 0) (text : List ℕ) (pid : ℕ) (rest : List ℕ) → IsBracketed text pid rest → is_later pid → EachLater is_later text
each_one is_later text pid rest is late n behind other =
    subst is_later (prefix_same text pid n rest behind (inr is) (inr other)).0 late
