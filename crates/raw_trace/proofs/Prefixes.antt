-- The line of two halves has the number of the first: the same bytes stand before another body, and name the same
-- process.
use Rattle.std.proofs.Common.{◌≡◌, ℕ, List, [], ◌++◌, codes, false, refl, sym, ap, subst, ◌∙◌, append_assoc, inl, inr}
use Rattle.std.proofs.lemmas.List.{append_cancel_right}
use Rattle.line_parts.specs.Parts.{starts}
use Rattle.line_parts.specs.Leaves.{is, EachIs}
use Rattle.strace_reader.specs.declared.item.Name.{Name}
use Rattle.strace_reader.specs.declared.item.Name.TheVariants.{Mmap}
use Rattle.strace_reader.specs.Words.{call_head}
use Rattle.strace_reader.specs.Grammar.{BeginsWith, IsBehindSpaces, IsCut}
use Rattle.strace_reader.proofs.BodyAnswers.{call_cut}

-- a call's name begins with no space
head_no_space : (name : Name) (text : List ℕ) → BeginsWith (call_head name) text → starts (is 32) text ≡ false
head_no_space Mmap text h = ap (starts (is 32)) h.1
head_no_space name text h = ap (starts (is 32)) h.1

-- a number and a space, and spaces behind them
spaced : (digits word spaces c : List ℕ) → (digits ++ (word ++ spaces)) ++ c ≡ digits ++ (word ++ (spaces ++ c))
spaced digits word spaces c =
    append_assoc digits (word ++ spaces) c ∙ ap (λ (x : List ℕ). digits ++ x) (append_assoc word spaces c)

-- what stands behind a prefix's spaces, with another body
behind_prefix : (spaces c : List ℕ) (name : Name) → BeginsWith (call_head name) c → EachIs (is 32) spaces → IsBehindSpaces (spaces ++ c) c
behind_prefix spaces c name h each = (spaces, each, refl, head_no_space name c h)

-- the same bytes before a body that names a call name the same process
pub same_prefix : (first front b c : List ℕ) (p : ℕ) (name : Name) → IsCut first p b → first ≡ front ++ b → BeginsWith (call_head name) c
    → IsCut (front ++ c) p c
same_prefix first front b c p name (inl (rest, inl h, behind)) parts named =
    let spaces = behind.0 in
    let whole : front ++ b ≡ (h.0 ++ (codes " " ++ spaces)) ++ b =
    sym parts ∙ h.2 ∙ ap (λ (x : List ℕ). h.0 ++ (codes " " ++ x)) behind.2 ∙ sym (spaced h.0 (codes " ") spaces b) in
    let is_front : front ≡ h.0 ++ (codes " " ++ spaces) = append_cancel_right front (h.0 ++ (codes " " ++ spaces)) b whole in
    let text : front ++ c ≡ h.0 ++ (codes " " ++ (spaces ++ c)) = ap (λ (x : List ℕ). x ++ c) is_front ∙ spaced h.0 (codes " ") spaces c in
    inl (spaces ++ c, inl (h.0, h.1, text), behind_prefix spaces c name named behind.1)
same_prefix first front b c p name (inl (rest, inr h, behind)) parts named =
    let spaces = behind.0 in
    let d = h.4.0 in
    let inner = codes "] " ++ spaces in
    let whole : front ++ b ≡ (codes "[pid " ++ (h.0 ++ (d ++ inner))) ++ b =
    sym parts ∙ h.3 ∙ ap (λ (x : List ℕ). codes "[pid " ++ (h.0 ++ x))
    (h.4.2 ∙ ap (λ (x : List ℕ). d ++ (codes "] " ++ x)) behind.2 ∙ sym (spaced d (codes "] ") spaces b))
    ∙ ap (λ (x : List ℕ). codes "[pid " ++ x) (sym (append_assoc h.0 (d ++ inner) b)) ∙ sym (append_assoc (codes "[pid ") (h.0 ++ (d ++ inner)) b) in
    let is_front : front ≡ codes "[pid " ++ (h.0 ++ (d ++ inner)) = append_cancel_right front (codes "[pid " ++ (h.0 ++ (d ++ inner))) b whole in
    let text : front ++ c ≡ codes "[pid " ++ (h.0 ++ (d ++ (codes "] " ++ (spaces ++ c)))) =
    ap (λ (x : List ℕ). x ++ c) is_front ∙ append_assoc (codes "[pid ") (h.0 ++ (d ++ inner)) c
    ∙ ap (λ (x : List ℕ). codes "[pid " ++ x) (append_assoc h.0 (d ++ inner) c ∙ ap (λ (x : List ℕ). h.0 ++ x) (spaced d (codes "] ") spaces c)) in
    inl (spaces ++ c, inr (h.0, d ++ (codes "] " ++ (spaces ++ c)), h.2, text, (d, h.4.1, refl)), behind_prefix spaces c name named behind.1)
same_prefix first front b c p name (inr h) parts named =
    let whole : front ++ b ≡ [] ++ b = sym parts ∙ sym h.1 in
    let nothing : front ≡ [] = append_cancel_right front [] b whole in
    subst (λ (q : ℕ). IsCut (front ++ c) q c) (sym h.0) (subst (λ (x : List ℕ). IsCut (x ++ c) 0 c) (sym nothing) (call_cut name c named))
