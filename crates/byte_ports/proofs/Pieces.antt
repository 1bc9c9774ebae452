-- How several calls to a port join into one: texts that were appended one after the other, a text that stopped early,
-- and the count of failed calls over all of them. For the proofs of code over a sink or a source.
use Rattle.std.proofs.Common.{◌≤◌, ℕ, List, [], ◌++◌, None, Some, Option, arith, refl, sym, ap, ◌∙◌, append_assoc, append-nil, Result, Ok, Err, OnErr}
use Rattle.std.specs.Io.KnownBytes.{Appends, Keeps}
use Rattle.std.proofs.KnownBytes.{Appends-trans}
use Rattle.byte_ports.specs.Bytes.{AppendsAllBut, AppendsPrefix}
use Rattle.byte_ports.specs.Counts.{Rose}

-- a port that kept its bytes appended nothing
pub Appends-none : (a b : Option (List ℕ)) → Keeps a b → Appends a b []
Appends-none None b h = tt
Appends-none (Some x) None h = absurd h
Appends-none (Some x) (Some y) h = h ∙ sym (append-nil x)

-- all but a rest of a text is a first part of it
pub AppendsPrefix-of : {a b : Option (List ℕ)} {text rest : List ℕ} → AppendsAllBut a b text rest → AppendsPrefix a b text
AppendsPrefix-of {rest = rest} h = record { front = h.front; rest = rest; whole = h.whole; appended = h.appended }

-- and a first part is all but its rest
pub AppendsAllBut-of : {a b : Option (List ℕ)} {text : List ℕ} (h : AppendsPrefix a b text) → AppendsAllBut a b text h.rest
AppendsAllBut-of h = record { front = h.front; whole = h.whole; appended = h.appended }

-- so is the whole of itself
pub AppendsPrefix-itself : (a b : Option (List ℕ)) (bs : List ℕ) → Appends a b bs → AppendsPrefix a b bs
AppendsPrefix-itself a b bs h = record { front = bs; rest = []; whole = sym (append-nil bs); appended = h }

-- nothing is a first part of each text
pub AppendsPrefix-none : (a b : Option (List ℕ)) (bs : List ℕ) → Keeps a b → AppendsPrefix a b bs
AppendsPrefix-none a b bs h = record { front = []; rest = bs; whole = refl; appended = Appends-none a b h }

-- a first part of a text is one of a longer text
pub AppendsPrefix-more : {a b : Option (List ℕ)} {bs : List ℕ} (more : List ℕ) → AppendsPrefix a b bs → AppendsPrefix a b (bs ++ more)
AppendsPrefix-more more h = record {
  front = h.front;
  rest = h.rest ++ more;
  whole = ap (λ l. l ++ more) h.whole ∙ append_assoc h.front h.rest more;
  appended = h.appended;
}

-- a whole text and then all but a rest of another
pub AppendsAllBut-after : (a : Option (List ℕ)) {b c : Option (List ℕ)} (bs : List ℕ) {cs rest : List ℕ} → Appends a b bs
    → AppendsAllBut b c cs rest → AppendsAllBut a c (bs ++ cs) rest
AppendsAllBut-after a {b = b} {c = c} bs {rest = rest} h k = record {
  front = bs ++ k.front;
  whole = ap (λ l. bs ++ l) k.whole ∙ sym (append_assoc bs k.front rest);
  appended = Appends-trans a b c bs k.front h k.appended;
}

-- a whole text and then a first part of another
pub AppendsPrefix-after : (a : Option (List ℕ)) {b c : Option (List ℕ)} (bs : List ℕ) {cs : List ℕ} → Appends a b bs
    → AppendsPrefix b c cs → AppendsPrefix a c (bs ++ cs)
AppendsPrefix-after a bs h k = AppendsPrefix-of (AppendsAllBut-after a bs h (AppendsAllBut-of k))

-- what holds anyway holds where a call failed
pub on_err : {T E : Type 0} {P : Type 0} (r : Result T E) → P → OnErr r P
on_err (Ok x) h = tt
on_err (Err e) h = h
