-- The texts of a log at their places, with what each is read as and to its other half.
use Rattle.std.proofs.Common.{◌≡◌, ℕ, zero, suc, ◌+◌, ◌-◌, ◌<◌, ◌≤◌, List, [], ◌∷◌, ◌++◌, length, drop, get_or, Option, Some, refl, sym, ap, subst, ◌∙◌, arith}
use Rattle.std.specs.Prelude.{slice_get}
use Rattle.std.proofs.lemmas.List.{append-nil, get_or-drop}
use Rattle.strace_reader.specs.declared.item.Item.TheVariants.{Unfinished, Resumed}
use Rattle.strace_reader.specs.declared.item.Name.{Name}
use Rattle.strace_reader.specs.Grammar.{IsBody, Spells}
use Rattle.strace_reader.proofs.FormFacts.{half_length}
use Rattle.raw_trace.specs.declared.halves.Role.{Role}
use Rattle.raw_trace.specs.declared.halves.Role.TheVariants.{Alone}
use Rattle.raw_logs.specs.Log.{Numbered, Each, line_of}
use Rattle.raw_trace.specs.Places.{ReadText, IsReadText}
use Rattle.raw_trace.specs.Stages.{IsRole, HaveRoles, AreRoles, fed_by}
use Rattle.raw_trace.proofs.FoundHalves.{get_there, have_count}
use Rattle.raw_trace.proofs.ReadTexts.{reads_one}

-- ---- halves within their texts

-- what is kept of a first half ends within it
pub half_ends : (text : List ℕ) (p : ℕ) (n : Name) (from to : ℕ) → Spells text (Unfinished p n from to) → to ≤ length text
unfolding Spells IsBody
half_ends text p n from to h =
    let k = half_length h.0 h.3.0 h.3.2 in
    let l = h.3.3 in
    let m = h.4 in
    let n2 = h.5 in
    omega arith

-- what is kept of a second half begins within it
pub rest_begins : (text : List ℕ) (p : ℕ) (n : Name) (from : ℕ) → Spells text (Resumed p n from) → from ≤ length text
unfolding Spells IsBody
rest_begins text p n from h = let k = h.4 in omega arith

-- the line at a place is the one there
pub line_got : (lines : List Numbered) (place : ℕ) (line other : Numbered) → line ≡ get_or lines place line → slice_get lines place ≡ Some other
    → line ≡ other
line_got [] place line other e g = absurd cc
line_got (x ∷ lines) zero line other e g = let k : x ≡ other = cc in e ∙ k
line_got (x ∷ lines) (suc place) line other e g = line_got lines place line other e g

-- so it is where the first lines were let go
pub got_left : (lines left : List Numbered) (gone place : ℕ) (line other : Numbered) → gone ≤ place → left ≡ drop gone lines
    → line ≡ get_or left (place - gone) line → slice_get lines place ≡ Some other → line ≡ other
got_left lines left gone place line other l is e got =
    let at : gone + (place - gone) ≡ place = omega arith in
    line_got lines place line other
    (e ∙ ap (λ (x : List Numbered). get_or x (place - gone) line) is ∙ get_or-drop gone lines (place - gone) line
    ∙ ap (λ (n : ℕ). get_or lines n line) at) got

-- the line of a text at a place
pub record LineAt (lines : List Numbered) (place : ℕ) (text : ReadText) : Type 0 where
  -- the line
  pub line : Numbered
  -- it is there
  pub got : slice_get lines place ≡ Some line
  -- and is read so
  pub read : IsReadText line text
  -- the place is one of the lines
  pub within : place < length lines

-- each text has one
pub line_at : (lines : List Numbered) (texts : List ReadText) (place : ℕ) (text : ReadText) → Each IsReadText lines texts → slice_get texts place ≡ Some text
    → LineAt lines place text
line_at [] [] place text h e = absurd cc
line_at (line ∷ lines) (x ∷ texts) zero text h e =
    record { line = line; got = refl; read = subst (IsReadText line) (some_text e) h.0; within = omega arith }
  where
    some_text : ◌≡◌ {A = Option ReadText} (Some x) (Some text) → x ≡ text
    some_text k = cc
line_at (line ∷ lines) (x ∷ texts) (suc place) text h e =
    let r = line_at lines texts place text h.1 e in
    record { line = r.line; got = r.got; read = r.read; within = let w = r.within in omega arith }
line_at lines texts place text h e = absurd h

-- there are as many texts as lines
pub reads_count : (lines : List Numbered) (texts : List ReadText) → Each IsReadText lines texts → length texts ≡ length lines
reads_count [] [] h = refl
reads_count (line ∷ lines) (x ∷ texts) h = ap suc (reads_count lines texts h.1)
reads_count lines texts h = absurd h

-- ---- the role at a place

-- what is shown of the line at a place is that line
abbrev pub IsShown : List Numbered → ℕ → ℕ → List ℕ → Type 0
IsShown lines place number shown = (line : Numbered) → slice_get lines place ≡ Some line → line_of number shown ≡ line

-- the text at a place, with its role
pub record RoleAt (lines : List Numbered) (place : ℕ) (fed later : List ReadText) (role : Role) : Type 0 where
  -- it
  pub text : ReadText
  -- those behind it
  pub rest : List ReadText
  -- they are what is left
  pub is : later ≡ text ∷ rest
  -- its line
  pub at : LineAt lines place text
  -- all the texts
  pub reads : Each IsReadText lines (fed ++ (text ∷ rest))
  -- what it is
  pub has : IsRole (fed ++ (text ∷ rest)) (fed_by [] fed) text rest role

role_there : (all fed before : List ReadText) (text : ReadText) (rest : List ReadText) (roles : List Role) → HaveRoles all fed (before ++ (text ∷ rest)) roles
    → IsRole all (fed_by fed before) text rest (get_or roles (length before) Alone)
role_there all fed [] text rest (r ∷ roles) h = h.0
role_there all fed (x ∷ before) text rest (r ∷ roles) h = role_there all (x ∷ fed) before text rest roles h.1
role_there all fed before text rest roles h = absurd h

-- each place has one
pub role_at : (lines : List Numbered) (place : ℕ) (fed later : List ReadText) (roles : List Role) (role : Role) → Each IsReadText lines (fed ++ later)
    → length fed ≡ place → AreRoles lines roles → role ≡ get_or roles place Alone → place < length lines → RoleAt lines place fed later role
role_at lines place fed [] roles role reads count h is l =
    let k = reads_count lines (fed ++ []) reads in
    let m = ap length (append-nil fed) in
    absurd (omega (arith, l))
role_at lines place fed (text ∷ rest) roles role reads count h is l =
    let all = fed ++ (text ∷ rest) in
    let same : h.texts ≡ all = reads_one lines h.texts all h.reads reads in
    let have : HaveRoles all [] all roles = subst (λ (x : List ReadText). HaveRoles x [] x roles) same h.have in
    record {
      text = text;
      rest = rest;
      is = refl;
      at = line_at lines all place text reads (subst (λ (k : ℕ). slice_get all k ≡ Some text) count (get_there fed rest text));
      reads = reads;
      has = subst (IsRole all (fed_by [] fed) text rest) (ap (λ (k : ℕ). get_or roles k Alone) count ∙ sym is)
          (role_there all [] fed text rest roles have);
    }

-- there are as many roles as lines
pub roles_count : (lines : List Numbered) (roles : List Role) → AreRoles lines roles → length roles ≡ length lines
roles_count lines roles h = have_count h.texts [] h.texts roles h.have ∙ reads_count lines h.texts h.reads

-- what is shown of a text's line is its text
pub shown_is : (lines : List Numbered) (place number : ℕ) (shown : List ℕ) (text : ReadText) → IsShown lines place number shown → LineAt lines place text
    → line_of number shown ≡ text.line
shown_is lines place number shown text is at = is at.line at.got ∙ sym at.read.0
