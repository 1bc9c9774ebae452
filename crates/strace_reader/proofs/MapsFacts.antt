-- A maps line is read as its relation says: what is found is such a line, and each such line is found.
use Rattle.std.proofs.Common.{◌≡◌, ◌≢◌, ℕ, ◌*◌, ◌/◌, ◌%◌, ◌^◌, ◌<◌, ◌≤◌, List, [], ◌∷◌, ◌++◌, length, Result, Ok, Err}
use Rattle.std.proofs.Common.{Option, Some, None, Bool, true, false, refl, sym, ap, subst, ◌∙◌, inl, inr, arith}
use Rattle.std.specs.Prelude.{◌⊎◌, IfOk, IfErr}
use Rattle.std.specs.Int.RustNames.{bit_or}
use Rattle.std.proofs.lemmas.Bool.Decides.{eqb_tells}
use Rattle.std.proofs.lemmas.Bool.{cases_lt, lt-ltb, le-ltb}
use Rattle.std.proofs.lemmas.List.{length-append, append_cancel_left}
use Rattle.std.proofs.lemmas.Nat.{or_lt}
use Rattle.line_parts.specs.declared.refusal.What.TheVariants.{Form, Order}
use Rattle.line_parts.specs.Parts.{starts}
use Rattle.line_parts.specs.Leaves.{is, NoDigit, value, worth}
use Rattle.line_parts.specs.Reading.{digits_of}
use Rattle.line_parts.proofs.Sequence.{alike_same}
use Rattle.line_parts.proofs.Leaves.{is_same}
use Rattle.line_parts.proofs.Numerals.{run_takes, same_digits}
use Rattle.page_types.specs.declared.calls.Kind.{Kind}
use Rattle.space_model.specs.declared.areas.Area.{Area as AreaOf}
use Rattle.strace_reader.specs.declared.item.BadCall.{BadCall}
use Rattle.strace_reader.specs.declared.maps.MapsItem.{MapsItem}
use Rattle.strace_reader.specs.declared.maps.MapsItem.TheVariants.{Area, Past}
use Rattle.strace_reader.specs.Maps.{IsAddress, IsMark, IsKind, IsMapsLine, user_end, SpellsMaps, RefusesMaps, IsNamedMapsItem}
use Rattle.strace_reader.specs.Reading.{then_some, address_of, address_at, behind_byte, mark_at, sharing_at, ended_at, kind_at, maps_at}

then_yes : {A B : Type 0} (o : Option A) (f : A → Option B) (y : B) → then_some o f ≡ Some y → (x : A) × (o ≡ Some x) × (f x ≡ Some y)
then_yes None f y h = absurd cc
then_yes (Some x) f y h = (x, refl, h)

-- ---- addresses

some_same : {A : Type 0} (p q : A) → Some p ≡ Some q → p ≡ q
some_same p q h = cc

address_some : (text : List ℕ) (p : ℕ × List ℕ) (n : ℕ) (rest : List ℕ) → address_of text p ≡ Some (n, rest)
    → (length p.1 ≢ length text) × (p.0 < 2 ^ 64) × (p.0 % 4096 ≡ 0) × (p ≡ (n, rest))
address_some text p n rest h = elim (eqb_tells (length p.1) (length text)) [
  | inl a ↦ let k = rw a.0 at h in absurd cc
  | inr a ↦ elim (cases_lt p.0 (2 ^ 64)) [
    | inl b ↦ elim (eqb_tells (p.0 % 4096) 0) [
      | inl d ↦ (a.1, b, d.1, some_same p (n, rest) (rw (a.0, lt-ltb p.0 (2 ^ 64) b, d.0) at h))
      | inr d ↦ let k = rw (a.0, lt-ltb p.0 (2 ^ 64) b, d.0) at h in absurd cc
    ]
    | inr b ↦ let k = rw (a.0, le-ltb p.0 (2 ^ 64) b) at h in absurd cc
  ]
]

address_yes : (text rest : List ℕ) (n : ℕ) → address_at text ≡ Some (n, rest) → (digits : List ℕ) × IsAddress digits n × (text ≡ digits ++ rest)
unfolding address_at
address_yes text rest n h =
    let r = run_takes 16 0 text in let ds = r.0 in let s = address_some text (digits_of 16 0 text) n rest h in
    let is_n : value 16 0 ds ≡ n = ap (λ x. x.0) (sym r.2.is_read ∙ s.3) in
    let is_rest : r.1 ≡ rest = ap (λ x. x.1) (sym r.2.is_read ∙ s.3) in
    let is_p : (digits_of 16 0 text).0 ≡ n = ap (λ x. x.0) s.3 in
    let is_q : (digits_of 16 0 text).1 ≡ rest = ap (λ x. x.1) s.3 in
    let k = ap length r.2.parts ∙ length-append ds r.1 in let l = ap length is_rest in let m = ap length is_q in
    let long = s.0 in let fits = s.1 in let aligned = s.2 in
    let some : 0 < length ds = omega arith in (
      ds,
      record { hexadecimal = (some, r.2.all, sym is_n); fits = omega arith; aligned = ap (λ x. x % 4096) (sym is_p) ∙ aligned },
      r.2.parts ∙ ap (λ x. ds ++ x) is_rest,
    )

address_is : (text rest : List ℕ) (n : ℕ) → length rest ≢ length text → n < 2 ^ 64 → n % 4096 ≡ 0 → address_of text (n, rest) ≡ Some (n, rest)
address_is text rest n long fits aligned = elim (eqb_tells (length rest) (length text)) [
  | inl a ↦ absurd (long a.1)
  | inr a ↦ elim (eqb_tells (n % 4096) 0) [ inl d ↦ rw (a.0, lt-ltb n (2 ^ 64) fits, d.0) refl | inr d ↦ absurd (d.1 aligned) ]
]

address_no : (text digits rest : List ℕ) (n : ℕ) → IsAddress digits n → NoDigit 16 rest → text ≡ digits ++ rest → address_at text ≡ Some (n, rest)
unfolding address_at
address_no text digits rest n is_addr stop e =
    let r = run_takes 16 0 text in let ds = r.0 in let whole : ds ++ r.1 ≡ digits ++ rest = sym r.2.parts ∙ e in
    let s = same_digits 16 rest ds digits r.1 rest r.2.all is_addr.hexadecimal.1 r.2.ended stop whole (alike_same rest) in
    let after : r.1 ≡ rest = append_cancel_left ds r.1 rest (whole ∙ ap (λ x. x ++ rest) (sym s)) in
    let same : value 16 0 ds ≡ n = ap (value 16 0) s ∙ sym is_addr.hexadecimal.2 in
    let read : digits_of 16 0 text ≡ (n, rest) = r.2.is_read ∙ ap (λ x. (x, r.1)) same ∙ ap (λ x. (n, x)) after in
    let k = ap length e ∙ length-append digits rest in let some = is_addr.hexadecimal.0 in
    let long : length rest ≢ length text = λ z. omega arith in ap (address_of text) read ∙ address_is text rest n long is_addr.fits is_addr.aligned

behind_yes : (b : ℕ) (text rest : List ℕ) → behind_byte b text ≡ Some rest → text ≡ b ∷ rest
unfolding behind_byte
behind_yes b [] rest h = absurd cc
behind_yes b (c ∷ text) rest h = elim (eqb_tells c b) [ inl k ↦ let g = rw k.0 at h in let i = k.1 in cc | inr k ↦ let g = rw k.0 at h in absurd cc ]

behind_no : (b : ℕ) (rest : List ℕ) → behind_byte b (b ∷ rest) ≡ Some rest
unfolding behind_byte
behind_no b rest = rw (is_same b) refl

-- ---- kinds

mark_yes : (letter bit : ℕ) (text rest : List ℕ) (v : ℕ) → mark_at letter bit text ≡ Some (v, rest) → (c : ℕ) × (text ≡ c ∷ rest) × IsMark letter bit c v
unfolding mark_at
mark_yes letter bit [] rest v h = absurd cc
mark_yes letter bit (c ∷ text) rest v h = elim (eqb_tells c letter) [
  | inl k ↦ let g : (bit, text) ≡ (v, rest) = some_same (bit, text) (v, rest) (rw k.0 at h) in (c, ap (λ x. c ∷ x.1) g, inl (k.1, sym (ap (λ x. x.0) g)))
  | inr k ↦ elim (eqb_tells c 45) [
    | inl l ↦ let g : (0, text) ≡ (v, rest) = some_same (0, text) (v, rest) (rw (k.0, l.0) at h) in (c, ap (λ x. c ∷ x.1) g, inr (l.1, sym (ap (λ x. x.0) g)))
    | inr l ↦ let g = rw (k.0, l.0) at h in absurd cc
  ]
]

dash_no : (letter bit : ℕ) (rest : List ℕ) → letter ≢ 45 → mark_at letter bit (45 ∷ rest) ≡ Some (0, rest)
unfolding mark_at
dash_no letter bit rest other = elim (eqb_tells 45 letter) [ inl k ↦ absurd (other (sym k.1)) | inr k ↦ rw k.0 refl ]

mark_no : (letter bit c v : ℕ) (rest : List ℕ) → letter ≢ 45 → IsMark letter bit c v → mark_at letter bit (c ∷ rest) ≡ Some (v, rest)
unfolding mark_at
mark_no letter bit c v rest other (inl h) = rw (h.0, h.1, is_same letter) refl
mark_no letter bit c v rest other (inr h) = rw (h.0, h.1) (dash_no letter bit rest other)

sharing_yes : (text rest : List ℕ) (v : Bool) → sharing_at text ≡ Some (v, rest)
    → (c : ℕ) × (text ≡ c ∷ rest) × (((c ≡ 115) × (v ≡ true)) ⊎ ((c ≡ 112) × (v ≡ false)))
unfolding sharing_at
sharing_yes [] rest v h = absurd cc
sharing_yes (c ∷ text) rest v h = elim (eqb_tells c 115) [
  | inl k ↦ let g : (true, text) ≡ (v, rest) = some_same (true, text) (v, rest) (rw k.0 at h) in (c, ap (λ x. c ∷ x.1) g, inl (k.1, sym (ap (λ x. x.0) g)))
  | inr k ↦ elim (eqb_tells c 112) [
    | inl l ↦ let g : (false, text) ≡ (v, rest) = some_same (false, text) (v, rest) (rw (k.0, l.0) at h) in
        (c, ap (λ x. c ∷ x.1) g, inr (l.1, sym (ap (λ x. x.0) g)))
    | inr l ↦ let g = rw (k.0, l.0) at h in absurd cc
  ]
]

sharing_no : (c : ℕ) (v : Bool) (rest : List ℕ) → ((c ≡ 115) × (v ≡ true)) ⊎ ((c ≡ 112) × (v ≡ false)) → sharing_at (c ∷ rest) ≡ Some (v, rest)
unfolding sharing_at
sharing_no c v rest (inl h) = rw (h.0, h.1) refl
sharing_no c v rest (inr h) = rw (h.0, h.1) refl

ended_yes : (kind k : Kind) (text : List ℕ) → ended_at kind text ≡ Some k → (kind ≡ k) × ((text ≡ []) ⊎ (starts (is 32) text ≡ true))
unfolding ended_at
ended_yes kind k [] h = (some_same kind k h, inl refl)
ended_yes kind k (c ∷ text) h = elim (eqb_tells c 32) [ inl a ↦ (some_same kind k (rw a.0 at h), inr a.0) | inr a ↦ let g = rw a.0 at h in absurd cc ]

ended_no : (kind : Kind) (text : List ℕ) → (text ≡ []) ⊎ (starts (is 32) text ≡ true) → ended_at kind text ≡ Some kind
unfolding ended_at
ended_no kind [] h = refl
ended_no kind (c ∷ text) (inl h) = absurd cc
ended_no kind (c ∷ text) (inr h) = rw h refl

-- the text begins with the four characters of the kind, and a space or the end is behind them
pub record KindFound (text : List ℕ) (kind : Kind) : Type 0 where
  -- the four characters
  pub chars : List ℕ
  -- what stands behind them
  pub tail : List ℕ
  -- the text is these two
  pub parts : text ≡ chars ++ tail
  -- the characters are those of the kind
  pub is_kind : IsKind chars kind
  -- behind them the text ends or goes on with a space
  pub behind : (tail ≡ []) ⊎ (starts (is 32) tail ≡ true)

-- the kind that three bits and the sharing make
abbrev kind_of : ℕ → ℕ → ℕ → Bool → Kind
kind_of read write exec shared = record { prot = record { 0 = bit_or (bit_or read write) exec }; shared = shared; sealed = false }

-- what is read behind the first character, the second and the third
abbrev behind_third : ℕ → ℕ → ℕ → List ℕ → Option Kind
behind_third read write exec text = then_some (sharing_at text) (λ s. ended_at (kind_of read write exec s.0) s.1)

abbrev behind_second : ℕ → ℕ → List ℕ → Option Kind
behind_second read write text = then_some (mark_at 120 4 text) (λ x. behind_third read write x.0 x.1)

abbrev behind_first : ℕ → List ℕ → Option Kind
behind_first read text = then_some (mark_at 119 2 text) (λ w. behind_second read w.0 w.1)

-- a character that is this letter or a dash, and the kind behind it
pub record Marked (letter bit : ℕ) (next : ℕ → List ℕ → Option Kind) (text : List ℕ) (kind : Kind) : Type 0 where
  -- the character
  pub char : ℕ
  -- its bit
  pub value : ℕ
  -- what stands behind it
  pub rest : List ℕ
  -- the text is these two
  pub parts : text ≡ char ∷ rest
  -- the character is the letter with the bit, or a dash without
  pub mark : IsMark letter bit char value
  -- with this bit the kind is read behind it
  pub behind : next value rest ≡ Some kind

marked : (letter bit : ℕ) (next : ℕ → List ℕ → Option Kind) (text : List ℕ) (kind : Kind)
    → then_some (mark_at letter bit text) (λ x. next x.0 x.1) ≡ Some kind → Marked letter bit next text kind
marked letter bit next text kind h = let a = then_yes (mark_at letter bit text) (λ x. next x.0 x.1) kind h in
    let b = mark_yes letter bit text a.0.1 a.0.0 a.1 in record { char = b.0; value = a.0.0; rest = a.0.1; parts = b.1; mark = b.2; behind = a.2 }

-- three characters, and the kind that is read behind them
module _ (text : List ℕ) (kind : Kind) (r : Marked 114 1 behind_first text kind) (w : Marked 119 2 (behind_second r.value) r.rest kind)
    (x : Marked 120 4 (behind_third r.value w.value) w.rest kind) where
  kind_is : (s : ℕ) (tail : List ℕ) (shared : Bool) → x.rest ≡ s ∷ tail → ((s ≡ 115) × (shared ≡ true)) ⊎ ((s ≡ 112) × (shared ≡ false))
      → kind_of r.value w.value x.value shared ≡ kind → (tail ≡ []) ⊎ (starts (is 32) tail ≡ true) → KindFound text kind
  kind_is s tail shared parts sharing same behind = record {
    chars = r.char ∷ w.char ∷ x.char ∷ s ∷ [];
    tail = tail;
    parts = rw (r.parts, w.parts, x.parts, parts) refl;
    is_kind = record {
      r = r.char;
      w = w.char;
      x = x.char;
      s = s;
      read = r.value;
      write = w.value;
      exec = x.value;
      four = refl;
      read_mark = r.mark;
      write_mark = w.mark;
      exec_mark = x.mark;
      rights = ap (λ k. k.prot) (sym same);
      sharing = subst (λ k. ((s ≡ 115) × (k.shared ≡ true)) ⊎ ((s ≡ 112) × (k.shared ≡ false))) same sharing;
      unsealed = ap (λ k. k.sealed) (sym same);
    };
    behind = behind;
  }

  kind_behind : KindFound text kind
  kind_behind =
      let a = then_yes (sharing_at x.rest) (λ s. ended_at (kind_of r.value w.value x.value s.0) s.1) kind x.behind in
      let b = sharing_yes x.rest a.0.1 a.0.0 a.1 in
      let c = ended_yes (kind_of r.value w.value x.value a.0.0) kind a.0.1 a.2 in kind_is b.0 a.0.1 a.0.0 b.1 b.2 c.0 c.1

kind_yes : (text : List ℕ) (kind : Kind) → kind_at text ≡ Some kind → KindFound text kind
unfolding kind_at
kind_yes text kind h =
    let r = marked 114 1 behind_first text kind h in
    let w = marked 119 2 (behind_second r.value) r.rest kind r.behind in
    kind_behind text kind r w (marked 120 4 (behind_third r.value w.value) w.rest kind w.behind)

kind_no : (chars tail : List ℕ) (kind : Kind) → IsKind chars kind → (tail ≡ []) ⊎ (starts (is 32) tail ≡ true) → kind_at (chars ++ tail) ≡ Some kind
unfolding kind_at
kind_no chars tail kind k behind =
    let e : chars ++ tail ≡ k.r ∷ k.w ∷ k.x ∷ k.s ∷ tail = ap (λ x. x ++ tail) k.four in
    let p = mark_no 114 1 k.r k.read (k.w ∷ k.x ∷ k.s ∷ tail) (λ z. cc) k.read_mark in
    let q = mark_no 119 2 k.w k.write (k.x ∷ k.s ∷ tail) (λ z. cc) k.write_mark in
    let r = mark_no 120 4 k.x k.exec (k.s ∷ tail) (λ z. cc) k.exec_mark in
    let s = sharing_no k.s kind.shared tail k.sharing in
    let t : kind_of k.read k.write k.exec kind.shared ≡ kind = λ i. record { prot = sym k.rights i; shared = kind.shared; sealed = sym k.unsealed i } in
    rw e (rw p (rw q (rw r (rw s (ended_no (kind_of k.read k.write k.exec kind.shared) tail behind ∙ ap (λ x. Some x) t)))))

-- ---- lines

-- what is read behind the two addresses, behind the first with its dash, and behind the first
abbrev behind_stop : ℕ → ℕ → List ℕ → Option (ℕ × ℕ × Kind)
behind_stop start stop text = then_some (behind_byte 32 text) (λ v. then_some (kind_at v) (λ k. Some (start, stop, k)))

abbrev behind_dash : ℕ → List ℕ → Option (ℕ × ℕ × Kind)
behind_dash start text = then_some (address_at text) (λ b. behind_stop start b.0 b.1)

abbrev behind_start : ℕ → List ℕ → Option (ℕ × ℕ × Kind)
behind_start start text = then_some (behind_byte 45 text) (λ u. behind_dash start u)

-- an address, and the line that is read behind it
pub record Addressed (next : ℕ → List ℕ → Option (ℕ × ℕ × Kind)) (text : List ℕ) (line : ℕ × ℕ × Kind) : Type 0 where
  -- its digits
  pub digits : List ℕ
  -- the address
  pub number : ℕ
  -- what stands behind the digits
  pub rest : List ℕ
  -- the text is the digits and the rest
  pub parts : text ≡ digits ++ rest
  -- the digits are those of the address
  pub is_address : IsAddress digits number
  -- with this address the line is read behind it
  pub behind : next number rest ≡ Some line

addressed : (next : ℕ → List ℕ → Option (ℕ × ℕ × Kind)) (text : List ℕ) (line : ℕ × ℕ × Kind)
    → then_some (address_at text) (λ b. next b.0 b.1) ≡ Some line → Addressed next text line
addressed next text line h = let a = then_yes (address_at text) (λ b. next b.0 b.1) line h in let b = address_yes text a.0.1 a.0.0 a.1 in
    record { digits = b.0; number = a.0.0; rest = a.0.1; parts = b.2; is_address = b.1; behind = a.2 }

-- the two addresses, and the kind that is read behind them
module _ (text middle : List ℕ) (line : ℕ × ℕ × Kind) (one : Addressed behind_start text line) (dash : one.rest ≡ 45 ∷ middle)
    (two : Addressed (behind_stop one.number) middle line) where
  line_is : (last : List ℕ) (kind : Kind) → two.rest ≡ 32 ∷ last → KindFound last kind → (one.number, two.number, kind) ≡ line
      → IsMapsLine text line.0 line.1 line.2
  line_is last kind space found same = record {
    start_digits = one.digits;
    stop_digits = two.digits;
    chars = found.chars;
    tail = found.tail;
    parts = rw (one.parts, dash, two.parts, space, found.parts) refl;
    starts_at = subst (IsAddress one.digits) (ap (λ x. x.0) same) one.is_address;
    stops_at = subst (IsAddress two.digits) (ap (λ x. x.1) same) two.is_address;
    is_kind = subst (IsKind found.chars) (ap (λ x. x.2) same) found.is_kind;
    behind = found.behind;
  }

  line_behind : IsMapsLine text line.0 line.1 line.2
  line_behind =
      let a = then_yes (behind_byte 32 two.rest) (λ v. then_some (kind_at v) (λ k. Some (one.number, two.number, k))) line two.behind in
      let b = then_yes (kind_at a.0) (λ k. Some (one.number, two.number, k)) line a.2 in
      line_is a.0 b.0 (behind_yes 32 two.rest a.0 a.1) (kind_yes a.0 b.0 b.1) (some_same (one.number, two.number, b.0) line b.2)

-- what maps_at finds is a maps line
pub maps_yes : (text : List ℕ) (start stop : ℕ) (kind : Kind) → maps_at text ≡ Some (start, stop, kind) → IsMapsLine text start stop kind
unfolding maps_at
maps_yes text start stop kind h =
    let a = addressed behind_start text (start, stop, kind) h in
    let b = then_yes (behind_byte 45 a.rest) (λ u. behind_dash a.number u) (start, stop, kind) a.behind in
    line_behind text b.0 (start, stop, kind) a (behind_yes 45 a.rest b.0 b.1) (addressed (behind_stop a.number) b.0 (start, stop, kind) b.2)

-- a maps line is found by maps_at
pub maps_no : (text : List ℕ) (start stop : ℕ) (kind : Kind) → IsMapsLine text start stop kind → maps_at text ≡ Some (start, stop, kind)
unfolding maps_at worth
maps_no text start stop kind m =
    let behind_stop = m.chars ++ m.tail in let behind_start = m.stop_digits ++ (32 ∷ behind_stop) in
    let a = address_no text m.start_digits (45 ∷ behind_start) start m.starts_at (omega arith) m.parts in
    let b = behind_no 45 behind_start in
    let c = address_no behind_start m.stop_digits (32 ∷ behind_stop) stop m.stops_at (omega arith) refl in
    let d = behind_no 32 behind_stop in let e = kind_no m.chars m.tail kind m.is_kind m.behind in rw a (rw b (rw c (rw d (rw e refl))))

-- ---- what the reader of maps lines owes at each of its returns

-- a result that is this item
abbrev pub is_maps_item : MapsItem → Result MapsItem BadCall
is_maps_item item = Ok item

-- a result that is this refusal
abbrev pub is_maps_err : BadCall → Result MapsItem BadCall
is_maps_err bad = Err bad

-- all that the reader of maps lines says of its result
pub record MapsAnswers (text : List ℕ) (r : Result MapsItem BadCall) : Type 0 where
  -- what was read is what the line spells
  pub found : IfOk r (SpellsMaps text)
  -- what the line spells was read
  pub only : (item : MapsItem) → SpellsMaps text item → r ≡ Ok item
  -- a refusal is one of the line
  pub refused : IfErr r (RefusesMaps text)
  -- each refusal of the line is the one that was given
  pub only_there : (bad : BadCall) → RefusesMaps text bad → r ≡ Err bad
  -- an area that was read has named bits alone
  pub named : IfOk r IsNamedMapsItem

no_line : (text : List ℕ) → maps_at text ≡ None → (start stop : ℕ) (kind : Kind) → IsMapsLine text start stop kind → ⊥
no_line text h start stop kind m = let k = sym h ∙ maps_no text start stop kind m in cc

one_line : (text : List ℕ) (a b c d : ℕ) (k l : Kind) → maps_at text ≡ Some (a, b, k) → IsMapsLine text c d l → (c ≡ a) × (d ≡ b) × (l ≡ k)
one_line text a b c d k l h m =
    let e : (c, d, l) ≡ (a, b, k) = some_same (c, d, l) (a, b, k) (sym (maps_no text c d l m) ∙ h) in (ap (λ x. x.0) e, ap (λ x. x.1) e, ap (λ x. x.2) e)

form_only : (text : List ℕ) → maps_at text ≡ None → (item : MapsItem) → SpellsMaps text item → ⊥
unfolding SpellsMaps
form_only text h (Area area) s = no_line text h (area.lo * 4096) (area.hi * 4096) area.kind s.0
form_only text h (Past a b) s = no_line text h a b s.0 s.1

-- a text that is no maps line is refused for its form, and is nothing else
pub form_line : (text : List ℕ) → maps_at text ≡ None → MapsAnswers text (Err (record { column = 1; what = Form }))
unfolding RefusesMaps
form_line text h = record {
  found = tt;
  only = λ item s. absurd (form_only text h item s);
  refused = inl (no_line text h, refl);
  only_there = λ bad r. elim r [ inl k ↦ ap (λ x. is_maps_err x) (sym k.1) | inr k ↦ absurd (no_line text h k.0 k.1 k.2 k.3) ];
  named = tt;
}

order_only : (text : List ℕ) (a b : ℕ) (k : Kind) → maps_at text ≡ Some (a, b, k) → b ≤ a → (item : MapsItem) → SpellsMaps text item → ⊥
unfolding SpellsMaps
order_only text a b k h le (Area area) s = let o = one_line text a b (area.lo * 4096) (area.hi * 4096) k area.kind h s.0 in
    let lt = s.1 in let p = o.0 in let q = o.1 in omega arith
order_only text a b k h le (Past c d) s = let o = one_line text a b c d k s.0 h s.1 in let lt = s.2 in let p = o.0 in let q = o.1 in omega arith

-- a maps line whose start isn't below its end is refused for the order, and is nothing else
pub order_line : (text : List ℕ) (a b : ℕ) (k : Kind) → maps_at text ≡ Some (a, b, k) → b ≤ a → MapsAnswers text (Err (record { column = 1; what = Order }))
unfolding RefusesMaps
order_line text a b k h le = record {
  found = tt;
  only = λ item s. absurd (order_only text a b k h le item s);
  refused = inr (a, b, k, maps_yes text a b k h, le, refl);
  only_there = λ bad r. elim r [ inl m ↦ absurd (m.0 a b k (maps_yes text a b k h)) | inr m ↦ ap (λ x. is_maps_err x) (sym m.5) ];
  named = tt;
}

not_refused : (text : List ℕ) (a b : ℕ) (k : Kind) → maps_at text ≡ Some (a, b, k) → a < b → (bad : BadCall) → RefusesMaps text bad → ⊥
unfolding RefusesMaps
not_refused text a b k h lt bad (inl m) = m.0 a b k (maps_yes text a b k h)
not_refused text a b k h lt bad (inr m) = let o = one_line text a b m.0 m.1 k m.2 h m.3 in let le = m.4 in let p = o.0 in let q = o.1 in omega arith

past_only : (text : List ℕ) (a b : ℕ) (k : Kind) → maps_at text ≡ Some (a, b, k) → user_end < b → (item : MapsItem)
    → SpellsMaps text item → is_maps_item (Past a b) ≡ is_maps_item item
unfolding SpellsMaps
past_only text a b k h past (Area area) s = let o = one_line text a b (area.lo * 4096) (area.hi * 4096) k area.kind h s.0 in
    let le = s.2 in let q = o.1 in absurd (omega arith)
past_only text a b k h past (Past c d) s = let o = one_line text a b c d k s.0 h s.1 in
    ap (λ x. is_maps_item (Past x b)) (sym o.0) ∙ ap (λ x. is_maps_item (Past c x)) (sym o.1)

-- what the line spells alone, where it isn't refused, is what was read
found_alone : (text : List ℕ) (item : MapsItem) → SpellsMaps text item
    → ((other : MapsItem) → SpellsMaps text other → is_maps_item item ≡ is_maps_item other) → ((bad : BadCall) → RefusesMaps text bad → ⊥)
    → IsNamedMapsItem item → MapsAnswers text (Ok item)
found_alone text item is only none named = record { found = is; only = only; refused = tt; only_there = λ bad h. absurd (none bad h); named = named }

-- a maps line in order that ends above the user addresses is that alone, and isn't refused
pub past_line : (text : List ℕ) (a b : ℕ) (k : Kind) → maps_at text ≡ Some (a, b, k) → a < b → user_end < b → MapsAnswers text (Ok (Past a b))
unfolding SpellsMaps
past_line text a b k h lt past = found_alone text (Past a b) (k, maps_yes text a b k h, lt, past) (past_only text a b k h past) (not_refused text a b k h lt) tt

abbrev area_of : ℕ → ℕ → Kind → AreaOf
area_of a b k = record { lo = a; hi = b; kind = k }

area_only : (text : List ℕ) (a b : ℕ) (k : Kind) → maps_at text ≡ Some (a, b, k) → b ≤ user_end → (item : MapsItem)
    → SpellsMaps text item → is_maps_item (Area (area_of (a / 4096) (b / 4096) k)) ≡ is_maps_item item
unfolding SpellsMaps
area_only text a b k h le (Area area) s =
    let o = one_line text a b (area.lo * 4096) (area.hi * 4096) k area.kind h s.0 in let x = o.0 in let y = o.1 in
    ap (λ x. is_maps_item (Area (area_of x (b / 4096) k))) (omega arith) ∙ ap (λ x. is_maps_item (Area (area_of area.lo x k))) (omega arith)
    ∙ ap (λ x. is_maps_item (Area (area_of area.lo area.hi x))) (sym o.2)
area_only text a b k h le (Past c d) s = let o = one_line text a b c d k s.0 h s.1 in let past = s.3 in let q = o.1 in absurd (omega arith)

mark_small : (letter bit char v k : ℕ) → IsMark letter bit char v → bit < 2 ^ k → v < 2 ^ k
mark_small letter bit char v k (inl h) lt = let e = h.1 in omega arith
mark_small letter bit char v k (inr h) lt = let e = h.1 in omega arith

kind_named : (chars : List ℕ) (kind : Kind) → IsKind chars kind → kind.prot.0 < 2 ^ 3
kind_named chars kind k =
    let both = or_lt 3 k.read k.write (mark_small 114 1 k.r k.read 3 k.read_mark (omega arith)) (mark_small 119 2 k.w k.write 3 k.write_mark (omega arith)) in
    let all = or_lt 3 (bit_or k.read k.write) k.exec both (mark_small 120 4 k.x k.exec 3 k.exec_mark (omega arith)) in
    subst (λ x. x.0 < 2 ^ 3) (sym k.rights) all

area_found : (text : List ℕ) (a b : ℕ) (k : Kind) → IsMapsLine text a b k → a < b → b ≤ user_end → SpellsMaps text (Area (area_of (a / 4096) (b / 4096) k))
unfolding SpellsMaps
area_found text a b k m lt le =
    let x = m.starts_at.aligned in let y = m.stops_at.aligned in
    let p : (a / 4096) * 4096 ≡ a = omega arith in let q : (b / 4096) * 4096 ≡ b = omega arith in
    (subst (λ x. IsMapsLine text x ((b / 4096) * 4096) k) (sym p) (subst (λ x. IsMapsLine text a x k) (sym q) m), omega arith, omega arith)

-- a maps line in order within the user addresses is that area alone, and isn't refused
pub area_line : (text : List ℕ) (a b : ℕ) (k : Kind) → maps_at text ≡ Some (a, b, k) → a < b → b ≤ user_end
    → MapsAnswers text (Ok (Area (record { lo = a / 4096; hi = b / 4096; kind = k })))
area_line text a b k h lt le = let m = maps_yes text a b k h in let item = Area (area_of (a / 4096) (b / 4096) k) in
    found_alone text item (area_found text a b k m lt le) (area_only text a b k h le) (not_refused text a b k h lt) (kind_named m.chars k m.is_kind)
