-- Numbers that lines give as results of calls that make a process or a thread, line by line. A line gives one at most.
use Rattle.std.proofs.Common.{◌≡◌, ◌⊎◌, ℕ, ◌+◌, ◌<◌, ◌≤◌, List, [], ◌∷◌, ◌++◌, length, take, get_or, Option, Some, None, refl, sym, ap, subst, ◌∙◌, inl}
use Rattle.std.proofs.Common.{inr, arith}
use Rattle.std.specs.Prelude.{◌↔◌, Contains, IfSome, IsNone}
use Rattle.std.proofs.lemmas.List.Elements.{Contains-append_cases, Contains-append_left, Contains-append_right}
use Rattle.strace_reader.specs.Grammar.{IsCut}
use Rattle.strace_reader.proofs.FormFacts.{cut_same}
use Rattle.raw_lines.specs.declared.makers.MadeAs.{MadeAs}
use Rattle.raw_lines.specs.declared.makers.Making.{Making}
use Rattle.raw_lines.specs.declared.makers.Making.TheVariants.{Makes, Ends}
use Rattle.raw_lines.specs.Makers.{IsMaking}
use Rattle.raw_lines.proofs.MakerFacts.{making_one}
use Rattle.raw_logs.specs.Log.{Numbered, texts_of}
use Rattle.raw_logs.specs.Numbering.{Gives, IsAttached, IsLater}
use Rattle.raw_logs.specs.Stages.{told_number}
use Rattle.raw_logs.proofs.Following.{only_item}
use Rattle.raw_logs.proofs.TextLists.{texts_more, texts_all}

gives_by : (text : List ℕ) (p : ℕ) (body : List ℕ) (m : Making) (n : ℕ) → IsCut text p body → IsMaking body m → told_number m ≡ Some n → Gives text n
gives_by text p body (Makes kind child) n cut h e = (p, body, cut, inl (kind, subst (λ (x : Option ℕ). IsMaking body (Makes kind x)) e h))
gives_by text p body (Ends child) n cut h e = (p, body, cut, inr (subst (λ (x : Option ℕ). IsMaking body (Ends x)) e h))
gives_by text p body making n cut h e = absurd cc

gives_to : (text : List ℕ) (p : ℕ) (body : List ℕ) (m : Making) (n : ℕ) → IsCut text p body → IsMaking body m → Gives text n → told_number m ≡ Some n
gives_to text p body m n cut h g = by g.3
  where
    same : g.1 ≡ body
    same = (cut_same text g.0 p g.1 body g.2 cut).1

    by : ((kind : MadeAs) × IsMaking g.1 (Makes kind (Some n))) ⊎ IsMaking g.1 (Ends (Some n)) → told_number m ≡ Some n
    by (inl x) = ap told_number (making_one body m (Makes x.0 (Some n)) h (subst (λ (b : List ℕ). IsMaking b (Makes x.0 (Some n))) same x.1))
    by (inr x) = ap told_number (making_one body m (Ends (Some n)) h (subst (λ (b : List ℕ). IsMaking b (Ends (Some n))) same x))

-- what is told is given
pub gives_some : (text : List ℕ) (p : ℕ) (body : List ℕ) (m : Making) (r : Option ℕ) → IsCut text p body → IsMaking body m → r ≡ told_number m
    → IfSome r (Gives text)
gives_some text p body m None cut h e = tt
gives_some text p body m (Some n) cut h e = gives_by text p body m n cut h (sym e)

-- where nothing is told nothing is given
pub gives_none : (text : List ℕ) (p : ℕ) (body : List ℕ) (m : Making) (r : Option ℕ) → IsCut text p body → IsMaking body m → r ≡ told_number m
    → IsNone r → (n : ℕ) → ¬ Gives text n
gives_none text p body m None cut h e none n g = let k = gives_to text p body m n cut h g in absurd cc
gives_none text p body m (Some x) cut h e none n g = absurd cc

-- a text gives one number
pub gives_one : (text : List ℕ) (n m : ℕ) → Gives text n → Gives text m → n ≡ m
gives_one text n m g h = by g.3
  where
    by : ((kind : MadeAs) × IsMaking g.1 (Makes kind (Some n))) ⊎ IsMaking g.1 (Ends (Some n)) → n ≡ m
    by (inl x) = let k = gives_to text g.0 g.1 (Makes x.0 (Some n)) m g.2 x.1 h in cc
    by (inr x) = let k = gives_to text g.0 g.1 (Ends (Some n)) m g.2 x h in cc

-- no line was looked at
pub later_none : (log : List (List ℕ)) (has : ℕ → Type 0) → ((q : ℕ) → has q ↔ IsAttached log q) → (q : ℕ) → has q ↔ IsLater log [] q
later_none log has h q = ((λ x. inl ((h q).0 x)), back)
  where
    back : IsLater log [] q → has q
    back (inl x) = (h q).1 x
    back (inr x) = let l = x.1.1 in absurd (omega arith)

-- a line more
pub later_more : (log : List (List ℕ)) (lines : List Numbered) (i : ℕ) (line : Numbered) (shown : List ℕ) (old new : ℕ → Type 0) → i < length lines
    → line ≡ get_or lines i line → shown ≡ line.text → ((q : ℕ) → old q ↔ IsLater log (take i (texts_of lines)) q)
    → ((q : ℕ) → new q ↔ (old q ⊎ Gives shown q)) → (q : ℕ) → new q ↔ IsLater log (take (i + 1) (texts_of lines)) q
later_more log lines i line shown old new l e s h more q = (
  (λ n. subst (λ (x : List (List ℕ)). IsLater log x q) (sym (texts_more lines i line l e)) (forth ((more q).0 n))),
  (λ a. back (subst (λ (x : List (List ℕ)). IsLater log x q) (texts_more lines i line l e) a)),
)
  where
    to : IsLater log (take i (texts_of lines)) q → IsLater log (take i (texts_of lines) ++ (line.text ∷ [])) q
    to (inl x) = inl x
    to (inr x) = inr (x.0, Contains-append_left (take i (texts_of lines)) (line.text ∷ []) x.0 x.1, x.2)

    forth : old q ⊎ Gives shown q → IsLater log (take i (texts_of lines) ++ (line.text ∷ [])) q
    forth (inl o) = to ((h q).0 o)
    forth (inr g) = inr (
      line.text,
      Contains-append_right (take i (texts_of lines)) (line.text ∷ []) line.text (0, omega arith, refl),
      subst (λ (x : List ℕ). Gives x q) s g,
    )

    by : (text : List ℕ) → Contains (take i (texts_of lines)) text ⊎ Contains (line.text ∷ []) text → Gives text q → new q
    by text (inl d) g = (more q).1 (inl ((h q).1 (inr (text, d, g))))
    by text (inr d) g = (more q).1 (inr (subst (λ (x : List ℕ). Gives x q) (sym (s ∙ only_item line.text text d)) g))

    back : IsLater log (take i (texts_of lines) ++ (line.text ∷ [])) q → new q
    back (inl x) = (more q).1 (inl ((h q).1 (inl x)))
    back (inr x) = by x.0 (Contains-append_cases (take i (texts_of lines)) (line.text ∷ []) x.0 x.1) x.2

-- all lines
pub later_all : (log : List (List ℕ)) (lines : List Numbered) (i : ℕ) (has : ℕ → Type 0) → length lines ≤ i
    → ((q : ℕ) → has q ↔ IsLater log (take i (texts_of lines)) q) → (q : ℕ) → has q ↔ IsLater log (texts_of lines) q
later_all log lines i has l h q = subst (λ (x : List (List ℕ)). has q ↔ IsLater log x q) (texts_all lines i l) (h q)
