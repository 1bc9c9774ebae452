-- The texts of lines, one more at a time: what holds of those so far and of the next holds of those with it.
use Rattle.std.proofs.Common.{◌≡◌, ◌⊎◌, ℕ, zero, suc, ◌+◌, ◌<◌, ◌≤◌, List, [], ◌∷◌, ◌++◌, length, map, take, drop, get_or, refl, sym, ap, subst, ◌∙◌, inl, inr, arith}
use Rattle.std.specs.Prelude.{Contains}
use Rattle.std.proofs.lemmas.List.{take_more, take_all, drop_more, length-map}
use Rattle.std.proofs.lemmas.List.Elements.{Contains-append_cases}
use Rattle.raw_logs.specs.Log.{Numbered, texts_of}
use Rattle.raw_logs.proofs.Following.{only_item}

-- the item of a list whose items were made of others
pub item_of : {A B : Type 0} (f : A → B) (items : List A) (i : ℕ) (d : A) → get_or (map f items) i (f d) ≡ f (get_or items i d)
item_of f [] i d = refl
item_of f (x ∷ items) zero d = refl
item_of f (x ∷ items) (suc i) d = item_of f items i d

-- a line more
pub texts_more : (lines : List Numbered) (i : ℕ) (line : Numbered) → i < length lines → line ≡ get_or lines i line
    → take (i + 1) (texts_of lines) ≡ take i (texts_of lines) ++ (line.text ∷ [])
texts_more lines i line l e =
    let l2 = length-map lines (λ (x : Numbered). x.text) in
    take_more (texts_of lines) i line.text (omega arith)
    ∙ ap (λ (x : List ℕ). take i (texts_of lines) ++ (x ∷ [])) (item_of (λ (x : Numbered). x.text) lines i line ∙ ap (λ (x : Numbered). x.text) (sym e))

-- all lines
pub texts_all : (lines : List Numbered) (i : ℕ) → length lines ≤ i → take i (texts_of lines) ≡ texts_of lines
texts_all lines i l = let l2 = length-map lines (λ (x : Numbered). x.text) in take_all i (texts_of lines) (omega arith)

-- none of the texts so far is so, nor is the next
pub none_more : (P : List ℕ → Type 0) (lines : List Numbered) (i : ℕ) (line : Numbered) → i < length lines → line ≡ get_or lines i line
    → ((text : List ℕ) → Contains (take i (texts_of lines)) text → ¬ P text) → (¬ P line.text)
    → (text : List ℕ) → Contains (take (i + 1) (texts_of lines)) text → ¬ P text
none_more P lines i line l e f n text c =
    by (Contains-append_cases (take i (texts_of lines)) (line.text ∷ []) text
    (subst (λ (x : List (List ℕ)). Contains x text) (texts_more lines i line l e) c))
  where
    by : Contains (take i (texts_of lines)) text ⊎ Contains (line.text ∷ []) text → ¬ P text
    by (inl d) = f text d
    by (inr d) = subst (λ (x : List ℕ). ¬ P x) (only_item line.text text d) n

-- none of all is
pub none_of_all : (P : List ℕ → Type 0) (lines : List Numbered) (i : ℕ) → length lines ≤ i
    → ((text : List ℕ) → Contains (take i (texts_of lines)) text → ¬ P text) → (text : List ℕ) × Contains (texts_of lines) text × P text → ⊥
none_of_all P lines i l f h = f h.0 (subst (λ (x : List (List ℕ)). Contains x h.0) (sym (texts_all lines i l)) h.1) h.2

-- the text of a line is one of the texts
pub text_there : (lines : List Numbered) (i : ℕ) (line : Numbered) → i < length lines → line ≡ get_or lines i line → Contains (texts_of lines) line.text
text_there lines i line l e =
    let l2 = length-map lines (λ (x : Numbered). x.text) in
    (i, omega arith, item_of (λ (x : Numbered). x.text) lines i line ∙ ap (λ (x : Numbered). x.text) (sym e))

-- the lines from a place on begin with the one there
pub lines_from : (lines : List Numbered) (place next : ℕ) (line : Numbered) → place < length lines → next ≡ place + 1 → line ≡ get_or lines place line
    → drop place lines ≡ line ∷ drop next lines
lines_from lines place next line l n e =
    drop_more lines place line l ∙ ap (λ (x : Numbered). x ∷ drop (place + 1) lines) (sym e) ∙ ap (λ (x : ℕ). line ∷ drop x lines) (sym n)
