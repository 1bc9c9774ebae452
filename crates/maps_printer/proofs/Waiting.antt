-- How a text grows line by line while its first part goes to the sink: for the loops that write one line for each
-- item of a list, whatever the items are.
use Rattle.std.proofs.Common.{◌≡◌, ℕ, ◌+◌, ◌<◌, ◌≤◌, List, [], ◌∷◌, ◌++◌, Option, length, take, drop, get_or, sym}
use Rattle.std.proofs.Common.{ap, ◌∙◌, subst, append_assoc, append-nil, take-append-drop}
use Rattle.std.proofs.lemmas.Grind.{flat_map-append, take_at_read}
use Rattle.std.proofs.lemmas.List.{take_all}
use Rattle.std.specs.List.{flat_map}
use Rattle.byte_ports.specs.Bytes.{AppendsAllBut, AppendsPrefix}
use Rattle.byte_ports.proofs.Pieces.{AppendsAllBut-after, AppendsAllBut-of, AppendsPrefix-of, AppendsPrefix-after, AppendsPrefix-more}

-- a line joins the text, and the buffer then may go on to the sink
pub AppendsAllBut-line : (a : Option (List ℕ)) {b c : Option (List ℕ)} {text waiting after : List ℕ} (line : List ℕ)
    → AppendsAllBut a b text waiting → AppendsAllBut b c (waiting ++ line) after → AppendsAllBut a c (text ++ line) after
AppendsAllBut-line a {c = c} {text = text} {waiting = waiting} {after = after} line h k =
    let whole : text ++ line ≡ h.front ++ (waiting ++ line) = ap (λ l. l ++ line) h.whole ∙ append_assoc h.front waiting line in
    subst (λ l. AppendsAllBut a c l after) (sym whole) (AppendsAllBut-after a h.front h.appended k)

-- the sink failed while the buffer with one more line went to it
pub AppendsAllBut-failed : (a : Option (List ℕ)) {b c : Option (List ℕ)} {text waiting : List ℕ} (line : List ℕ)
    → AppendsAllBut a b text waiting → AppendsPrefix b c (waiting ++ line) → AppendsPrefix a c (text ++ line)
AppendsAllBut-failed a line h k = AppendsPrefix-of (AppendsAllBut-line a line h (AppendsAllBut-of k))

-- the sink failed while all that waited went to it
pub AppendsAllBut-flush_failed : (a : Option (List ℕ)) {b c : Option (List ℕ)} {text waiting : List ℕ}
    → AppendsAllBut a b text waiting → AppendsPrefix b c waiting → AppendsPrefix a c text
AppendsAllBut-flush_failed a {c = c} h k = subst (AppendsPrefix a c) (sym h.whole) (AppendsPrefix-after a h.front h.appended k)

-- the lines of one item more
pub lines_next : {A : Type 0} (line : A → List ℕ) (items : List A) (i : ℕ) (d : A) → i < length items
    → flat_map line (take (i + 1) items) ≡ flat_map line (take i items) ++ line (get_or items i d)
lines_next line items i d below = ap (flat_map line) (take_at_read items i d below).1 ∙ flat_map-append line (take i items) (get_or items i d ∷ [])
    ∙ ap (λ l. flat_map line (take i items) ++ l) (append-nil (line (get_or items i d)))

-- the lines of the first items and of the rest are the whole text
pub lines_whole : {A : Type 0} (line : A → List ℕ) (items : List A) (i : ℕ) → flat_map line (take i items) ++ flat_map line (drop i items) ≡ flat_map line items
lines_whole line items i = sym (flat_map-append line (take i items) (drop i items)) ∙ ap (flat_map line) (take-append-drop i items)

-- one line more is in the buffer, which then made room
pub lines_go_on : {A : Type 0} (line : A → List ℕ) (items : List A) (i : ℕ) (d : A) (a b c : Option (List ℕ)) (waiting pushed after : List ℕ) → i < length items
    → AppendsAllBut a b (flat_map line (take i items)) waiting → pushed ≡ waiting ++ line (get_or items i d) → AppendsAllBut b c pushed after
    → AppendsAllBut a c (flat_map line (take (i + 1) items)) after
lines_go_on line items i d a b c waiting pushed after below h e k = subst (λ l. AppendsAllBut a c l after) (sym (lines_next line items i d below))
    (AppendsAllBut-line a (line (get_or items i d)) h (subst (λ l. AppendsAllBut b c l after) e k))

-- the sink failed when the buffer made room after one line more
pub lines_stop : {A : Type 0} (line : A → List ℕ) (items : List A) (i : ℕ) (d : A) (a b c : Option (List ℕ)) (waiting pushed : List ℕ) → i < length items
    → AppendsAllBut a b (flat_map line (take i items)) waiting → pushed ≡ waiting ++ line (get_or items i d) → AppendsPrefix b c pushed
    → AppendsPrefix a c (flat_map line items)
lines_stop line items i d a b c waiting pushed below h e k =
    let here = AppendsAllBut-failed a (line (get_or items i d)) h (subst (AppendsPrefix b c) e k) in
    let first = subst (AppendsPrefix a c) (sym (lines_next line items i d below)) here in
    subst (AppendsPrefix a c) (lines_whole line items (i + 1)) (AppendsPrefix-more (flat_map line (drop (i + 1) items)) first)

-- after the last item the lines are the whole text
pub lines_done : {A : Type 0} (line : A → List ℕ) (items : List A) (i : ℕ) (a b : Option (List ℕ)) (waiting : List ℕ) → length items ≤ i
    → AppendsAllBut a b (flat_map line (take i items)) waiting → AppendsAllBut a b (flat_map line items) waiting
lines_done line items i a b waiting all h = subst (λ l. AppendsAllBut a b (flat_map line l) waiting) (take_all i items all) h
