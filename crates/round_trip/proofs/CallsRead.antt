-- The text of a call is read as the call: each argument with the comma behind it, and then the end of the line.
use Rattle.std.proofs.Common.{rules, ◌≡◌, ℕ, zero, suc, ◌^◌, ◌<◌, ◌≤◌, List, [], ◌∷◌, ◌++◌, length, codes, decimal, if◌then◌else◌, ◌==◌, false, Option, Some}
use Rattle.std.proofs.Common.{None, refl, sym, subst, ◌∙◌, arith, append_assoc, append-nil, Bool, true}
use Rattle.std.proofs.lemmas.List.{length-append}
use Rattle.std.proofs.lemmas.Bool.Decides.{nat_tests}
use Rattle.std.proofs.lemmas.Fmt.{length-decimal-le}
use Rattle.maps_printer.proofs.Hex.{length-hex_digits}
use Rattle.line_parts.specs.declared.refusal.What.{What}
use Rattle.line_parts.specs.declared.refusal.What.TheVariants.{Number}
use Rattle.line_parts.specs.Parts.{Part, chain, arm, done, starts}
use Rattle.line_parts.specs.Leaves.{is, byte, letters, number, worth, anything, no_byte}
use Rattle.line_parts.proofs.Numerals.{NoNumeral, zero_number}
use Rattle.page_types.specs.declared.calls.Call.{Call}
use Rattle.page_types.specs.declared.calls.Call.TheVariants.{Map, Unmap, Protect, Fault, Seal, Brk, Remap}
use Rattle.page_types.specs.declared.sets.Access.{Access}
use Rattle.page_types.specs.declared.sets.Access.TheVariants.{Read, Write, Exec}
use Rattle.page_types.specs.Named.{IsNamedCall}
use Rattle.strace_reader.specs.declared.item.Item.TheVariants.{Played}
use Rattle.strace_reader.specs.declared.item.Name.{Name}
use Rattle.strace_reader.specs.declared.item.Name.TheVariants.{Mmap, Munmap, Mprotect, Fault as FaultName, Mseal, Brk as BrkName, Mremap}
use Rattle.strace_reader.specs.Words.{call_head, access_of, may_of}
use Rattle.strace_reader.specs.Calls.{call, arguments, unrecorded, addr, comma, access, closing, map_tail, descriptor, prot, flags, protect_behind_prot}
use Rattle.strace_reader.specs.Calls.{map_behind_prot, map_behind_flags, munmap_arguments, mprotect_arguments, fault_arguments, mseal_arguments, mmap_arguments}
use Rattle.strace_reader.specs.Calls.{optional, is_more, alone, hex_number, moving, brk_arguments, remap_lengths, remap_behind, mremap_arguments}
use Rattle.strace_reader.specs.Grammar.{Spells, IsBody, NeverReturned, EndsWith, unfinished}
use Rattle.strace_reader.proofs.BodyAnswers.{call_cut}
use Rattle.strace_reader.proofs.FormFacts.{last_same}
use Rattle.maps_printer.specs.Calls.{call_text, hint_text}
use Rattle.maps_printer.specs.Numbers.{address_text, prefixed_hex}
use Rattle.maps_printer.specs.Words.{prot_text, flags_text, access_text, move_text}
use Rattle.round_trip.specs.Logs.{FitsCall}
use Rattle.round_trip.proofs.NumbersRead.{decimal_takes, hex_takes, decimal_starts}
use Rattle.round_trip.proofs.WordsRead.{Ends, comma_ends, comma_ends_number, prot_takes, flags_takes}

letters_take : (word rest : List ℕ) (due : What) → (letters word due).takes word rest tt
letters_take [] rest due = (refl, refl)
letters_take (b ∷ word) rest due = (b ∷ [], word, tt, refl, refl, letters_take word rest due)

-- an address, NULL or behind 0x
addr_takes : (n : ℕ) (rest : List ℕ) → n < 2 ^ 64 → NoNumeral rest → addr.takes (address_text n) rest n
addr_takes zero rest small ends = (codes "NULL", [], tt, refl, letters_take (codes "NULL") rest Number, (refl, refl))
addr_takes (suc k) rest small ends = let some : (suc k == 0) ≡ false = grind (arith, nat_tests) in
    subst (λ none. addr.takes (if none then codes "NULL" else prefixed_hex (suc k)) rest (suc k)) (sym some) (hex_takes Number (suc k) rest small ends)

comma_takes : (rest : List ℕ) → starts (is 32) rest ≡ false → comma.takes (codes ", ") rest tt
comma_takes rest next = (44 ∷ [], 32 ∷ [], tt, refl, refl, ((refl, tt), next))

-- behind the closing parenthesis the line ends
closing_takes : (c : Call) → (closing c).takes (codes ")") [] (unrecorded c)
closing_takes c = (41 ∷ [], [], tt, refl, refl, (refl, refl, refl))

close_ends : Ends (41 ∷ [])
close_ends = record { no_word = refl; no_bar = refl }

close_ends_number : NoNumeral (41 ∷ [])
unfolding worth
close_ends_number = (omega arith, λ e. cc)

-- ---- one argument, and what is read behind it

then_addr : {B : Type 0} (next : ℕ → Part B) (n : ℕ) (more : List ℕ) (w : B) → n < 2 ^ 64 → NoNumeral (more ++ []) → (next n).takes more [] w
    → (chain addr next).takes (address_text n ++ more) [] w
then_addr next n more w small ends h = (address_text n, more, n, refl, addr_takes n (more ++ []) small ends, h)

then_comma : {B : Type 0} (next : Part B) (more : List ℕ) (w : B) → starts (is 32) (more ++ []) ≡ false → next.takes more [] w
    → (chain comma (λ u. next)).takes (codes ", " ++ more) [] w
then_comma next more w starts h = (codes ", ", more, tt, refl, comma_takes (more ++ []) starts, h)

then_number : {B : Type 0} (next : ℕ → Part B) (n : ℕ) (more : List ℕ) (w : B) → n < 2 ^ 64 → NoNumeral (more ++ []) → (next n).takes more [] w
    → (chain (number Number) next).takes (decimal n ++ more) [] w
then_number next n more w small ends h = (decimal n, more, n, refl, decimal_takes Number n (more ++ []) small ends, h)

-- a comma and a length, and what is read behind them
then_length : {B : Type 0} (next : ℕ → Part B) (n : ℕ) (more : List ℕ) (w : B) → n < 2 ^ 64 → NoNumeral (more ++ []) → (next n).takes more [] w
    → (chain comma (λ u. chain (number Number) next)).takes (codes ", " ++ (decimal n ++ more)) [] w
then_length next n more w small ends h =
    then_comma (chain (number Number) next) (decimal n ++ more) w (rw append-nil (decimal_starts n more small)) (then_number next n more w small ends h)

-- ---- the arguments of each call

munmap_takes : (a n : ℕ) → a < 2 ^ 64 → n < 2 ^ 64
    → munmap_arguments.takes (address_text a ++ (codes ", " ++ (decimal n ++ codes ")"))) [] (unrecorded (Unmap a n))
munmap_takes a n small_a small_n = then_addr (λ a. chain comma (λ u. chain (number Number) (λ n. closing (Unmap a n)))) a
    (codes ", " ++ (decimal n ++ codes ")")) _ small_a (comma_ends_number [])
    (then_length (λ n. closing (Unmap a n)) n (codes ")") _ small_n close_ends_number (closing_takes (Unmap a n)))

-- a comma and a protection, and what is read behind them
then_prot : {B : Type 0} (next : Option ℕ → Part B) (bits : ℕ) (more : List ℕ) (w : B) → bits < 8 → Ends (more ++ []) → (next (Some bits)).takes more [] w
    → (chain comma (λ u. chain prot next)).takes (codes ", " ++ (prot_text (record { 0 = bits }) ++ more)) [] w
then_prot next bits more w small ends h = let text = prot_text (record { 0 = bits }) in let read = prot_takes bits (more ++ []) small ends in
    then_comma (chain prot next) (text ++ more) w (rw append_assoc read.1) (text, more, Some bits, refl, read.0, h)

mprotect_takes : (a n p : ℕ) → a < 2 ^ 64 → n < 2 ^ 64 → p < 8 → mprotect_arguments.takes
    (address_text a ++ (codes ", " ++ (decimal n ++ (codes ", " ++ (prot_text (record { 0 = p }) ++ codes ")"))))) []
    (unrecorded (Protect a n (record { 0 = p })))
mprotect_takes a n p small_a small_n small_p =
    then_addr (λ a. chain comma (λ u. chain (number Number) (λ n. chain comma (λ v. chain prot (protect_behind_prot a n))))) a _ _
    small_a (comma_ends_number []) (then_length (λ n. chain comma (λ v. chain prot (protect_behind_prot a n))) n _ _ small_n (comma_ends_number [])
    (then_prot (protect_behind_prot a n) p (codes ")") _ small_p close_ends (closing_takes (Protect a n (record { 0 = p })))))

access_takes : (which : Access) → access.takes (access_text which) (codes ")") which
unfolding access_of
access_takes Read = (search rules, refl, refl)
access_takes Write = (search rules, refl, refl)
access_takes Exec = (search rules, refl, refl)

access_starts : (which : Access) (more : List ℕ) → starts (is 32) (access_text which ++ more) ≡ false
access_starts Read more = refl
access_starts which more = refl

access_length : (which : Access) → length (access_text which) ≤ 10
access_length Read = omega arith
access_length which = omega arith

fault_takes : (a : ℕ) (which : Access) → a < 2 ^ 64
    → fault_arguments.takes (address_text a ++ (codes ", " ++ (access_text which ++ codes ")"))) [] (unrecorded (Fault a which))
fault_takes a which small = then_addr (λ a. chain comma (λ u. chain access (λ c. closing (Fault a c)))) a _ _ small (comma_ends_number [])
    (then_comma (chain access (λ c. closing (Fault a c))) (access_text which ++ codes ")") _ (rw append_assoc (access_starts which _))
    (access_text which, codes ")", which, refl, access_takes which, closing_takes (Fault a which)))

mseal_takes : (a n f : ℕ) → a < 2 ^ 64 → n < 2 ^ 64 → f < 2 ^ 64
    → mseal_arguments.takes (address_text a ++ (codes ", " ++ (decimal n ++ (codes ", " ++ (decimal f ++ codes ")"))))) [] (unrecorded (Seal a n f))
mseal_takes a n f small_a small_n small_f =
    then_addr (λ a. chain comma (λ u. chain (number Number) (λ n. chain comma (λ v. chain (number Number) (λ f. closing (Seal a n f)))))) a _ _
    small_a (comma_ends_number []) (then_length (λ n. chain comma (λ v. chain (number Number) (λ f. closing (Seal a n f)))) n _ _ small_n (comma_ends_number [])
    (then_length (λ f. closing (Seal a n f)) f (codes ")") _ small_f close_ends_number (closing_takes (Seal a n f))))

address_starts : (n : ℕ) (rest : List ℕ) → starts (is 32) (address_text n ++ rest) ≡ false
address_starts zero rest = refl
address_starts (suc k) rest = let some : (suc k == 0) ≡ false = grind (arith, nat_tests) in
    subst (λ none. starts (is 32) ((if none then codes "NULL" else prefixed_hex (suc k)) ++ rest) ≡ false) (sym some) refl

-- the base behind the address
then_base : {B : Type 0} (next : ℕ → Part B) (n : ℕ) (more : List ℕ) (w : B) → n < 2 ^ 64 → NoNumeral (more ++ []) → (next n).takes more [] w
    → (chain optional next).takes (codes ", " ++ (address_text n ++ more)) [] w
then_base next n more w small ends h = (
  codes ", " ++ address_text n,
  more,
  n,
  refl,
  (codes ", ", address_text n, tt, refl, comma_takes (address_text n ++ (more ++ [])) (address_starts n (more ++ [])), addr_takes n (more ++ []) small ends),
  h,
)

brk_takes : (b a : ℕ) → b < 2 ^ 64 → a < 2 ^ 64
    → brk_arguments.takes (address_text a ++ (codes ", " ++ (address_text b ++ codes ")"))) [] (unrecorded (Brk b a))
brk_takes b a small_b small_a =
    then_addr (λ a. chain optional (λ b. closing (Brk b a))) a (codes ", " ++ (address_text b ++ codes ")")) _ small_a (comma_ends_number [])
    (then_base (λ b. closing (Brk b a)) b (codes ")") _ small_b close_ends_number (closing_takes (Brk b a)))

-- the word or the 0 of a remap, before what goes on with no byte of either
move_takes : (may : Bool) (rest : List ℕ) → Ends rest → starts is_more rest ≡ false → starts (is 120) rest ≡ false
    → moving.takes (move_text may) rest (Some may)
unfolding may_of
move_takes true rest ends no_more no_x = (
  codes "MREMAP_MAYMOVE",
  [],
  codes "MREMAP_MAYMOVE",
  refl,
  (refl, search rules, ends.no_word),
  subst (λ x. (arm (anything no_byte None) (done (Some true)) x).takes [] rest (Some true)) (sym ends.no_bar) (refl, refl),
)
move_takes false rest ends no_more no_x =
    let said = subst (λ x. (arm (anything no_byte None) (done (Some false)) x).takes [] rest (Some false)) (sym no_more) (refl, refl) in
    let behind = subst (λ x. (arm (chain (byte 120 Number) (λ v. hex_number)) (alone is_more false) x).takes [] rest (Some false)) (sym no_x) said in
    (48 ∷ [], [], tt, refl, refl, behind)

move_starts : (may : Bool) (more : List ℕ) → starts (is 32) (move_text may ++ more) ≡ false
move_starts true more = refl
move_starts false more = refl

-- the word or the 0, and the hint behind it, where there is one
then_move : (a o n : ℕ) (may : Bool) (h : ℕ) → h < 2 ^ 64
    → (chain moving (remap_behind a o n)).takes (move_text may ++ (hint_text h ++ codes ")")) [] (unrecorded (Remap a o n may h))
then_move a o n may zero small = (
  move_text may,
  codes ")",
  Some may,
  refl,
  move_takes may (codes ")") close_ends refl refl,
  ([], codes ")", 0, refl, (refl, refl), closing_takes (Remap a o n may 0)),
)
then_move a o n may (suc k) small =
    let some : (suc k == 0) ≡ false = grind (arith, nat_tests) in let hint = codes ", " ++ prefixed_hex (suc k) in
    let hex = hex_takes Number (suc k) (codes ")") small close_ends_number in
    subst (λ none. (chain moving (remap_behind a o n)).takes (move_text may ++ ((if none then [] else hint) ++ codes ")")) []
    (unrecorded (Remap a o n may (suc k)))) (sym some) (
      move_text may,
      hint ++ codes ")",
      Some may,
      refl,
      move_takes may ((hint ++ codes ")") ++ []) (comma_ends _) refl refl,
      (
        hint,
        codes ")",
        suc k,
        refl,
        (codes ", ", prefixed_hex (suc k), tt, refl, comma_takes (prefixed_hex (suc k) ++ codes ")") refl, hex),
        closing_takes (Remap a o n may (suc k)),
      ),
    )

mremap_takes : (a o n : ℕ) (may : Bool) (h : ℕ) → a < 2 ^ 64 → o < 2 ^ 64 → n < 2 ^ 64 → h < 2 ^ 64 → mremap_arguments.takes
    (address_text a ++ (codes ", " ++ (decimal o ++ (codes ", " ++ (decimal n ++ (codes ", " ++ (move_text may ++ (hint_text h ++ codes ")")))))))) []
    (unrecorded (Remap a o n may h))
mremap_takes a o n may h small_a small_o small_n small_h =
    then_addr (λ a. chain comma (λ u. chain (number Number) (remap_lengths a))) a _ _ small_a (comma_ends_number [])
    (then_length (remap_lengths a) o _ _ small_o (comma_ends_number [])
    (then_length (λ n. chain comma (λ v. chain moving (remap_behind a o n))) n _ _ small_n (comma_ends_number [])
    (then_comma (chain moving (remap_behind a o n)) (move_text may ++ (hint_text h ++ codes ")")) _ (rw append_assoc (move_starts may _))
    (then_move a o n may h small_h))))

-- the descriptor -1 and the offset 0
dropped_takes : (c : Call) → (map_tail c).takes (codes ", -1, 0)") [] (unrecorded c)
dropped_takes c = then_comma (chain descriptor (λ v. chain comma (λ w. chain (number Number) (λ o. closing c)))) (codes "-1, 0)") _ refl (
  codes "-1",
  codes ", 0)",
  tt,
  refl,
  (codes "-1", [], tt, refl, letters_take (codes "-1") (codes ", 0)") Number, (refl, refl)),
  (then_comma (chain (number Number) (λ o. closing c)) (codes "0)") _ refl
      (codes "0", codes ")", 0, refl, zero_number (codes ")") close_ends_number, closing_takes c)),
)

mmap_takes : (a n p f : ℕ) → a < 2 ^ 64 → n < 2 ^ 64 → p < 8 → f < 16 → mmap_arguments.takes (address_text a ++ (codes ", " ++ (decimal n ++ (codes ", "
    ++ (prot_text (record { 0 = p }) ++ (codes ", " ++ (flags_text (record { 0 = f }) ++ codes ", -1, 0)"))))))) []
    (unrecorded (Map a n (record { 0 = p }) (record { 0 = f })))
mmap_takes a n p f small_a small_n small_p small_f =
    let c = Map a n (record { 0 = p }) (record { 0 = f }) in let read = flags_takes f (codes " -1, 0)") small_f in
    let text = flags_text (record { 0 = f }) in
    then_addr (λ a. chain comma (λ u. chain (number Number) (λ n. chain comma (λ v. chain prot (map_behind_prot a n))))) a _ _ small_a (comma_ends_number [])
    (then_length (λ n. chain comma (λ v. chain prot (map_behind_prot a n))) n _ _ small_n (comma_ends_number [])
    (then_prot (map_behind_prot a n) p _ _ small_p (comma_ends _)
    (then_comma (chain flags (map_behind_flags a n p)) (text ++ codes ", -1, 0)") _ (rw append_assoc read.1)
    (text, codes ", -1, 0)", Some f, refl, read.0, dropped_takes c))))

-- ---- the whole line

-- a line that ends with a closing parenthesis is no half, and it returned
no_half : (text body : List ℕ) → text ≡ body ++ codes ")" → EndsWith unfinished text → ⊥
no_half text body e h =
    let k = last_same body (h.0 ++ codes "<unfinished ...") 41 62 (sym e ∙ h.1 ∙ sym (append_assoc h.0 (codes "<unfinished ...") (62 ∷ []))) in cc

did_return : (text body : List ℕ) → text ≡ body ++ codes ")" → NeverReturned text → ⊥
did_return text body e h =
    let before = h.0 ++ (codes "<unfinished ...>)" ++ ((32 ∷ h.1) ++ codes "= ")) in let k = last_same body before 41 63 (sym e ∙ h.3 ∙ simp append_assoc) in cc

-- a line of the name and arguments that are read
spelled : (name : Name) (args text body : List ℕ) (c : Call) → (arguments name).takes args [] (unrecorded c)
    → text ≡ call_head name ++ args → text ≡ body ++ codes ")" → Spells text (Played 0 c None)
unfolding Spells IsBody call
spelled name args text body c h e ends = (
  text,
  call_cut name text (args, e),
  (name, record { names = (args, e); returned = did_return text body ends; whole = no_half text body ends }, (call_head name, args, tt, e, refl, h)),
)

-- joined from the left or from the right, a text of several parts is the same
nest_map : (o a c n p f t : List ℕ) → o ++ a ++ c ++ n ++ c ++ p ++ c ++ f ++ t ≡ o ++ (a ++ (c ++ (n ++ (c ++ (p ++ (c ++ (f ++ t)))))))
nest_map o a c n p f t = simp append_assoc

nest_protect : (o a c n p t : List ℕ) → o ++ a ++ c ++ n ++ c ++ p ++ t ≡ o ++ (a ++ (c ++ (n ++ (c ++ (p ++ t)))))
nest_protect o a c n p t = simp append_assoc

-- what is written of a call spells the call
pub call_text_spells : (c : Call) → IsNamedCall c → FitsCall c → Spells (call_text c) (Played 0 c None)
call_text_spells (Map a n p f) named fits =
    let body = codes "mmap(" ++ address_text a ++ codes ", " ++ decimal n ++ codes ", " ++ prot_text p ++ codes ", " ++ flags_text f in
    spelled Mmap _ (call_text (Map a n p f)) (body ++ codes ", -1, 0") _ (mmap_takes a n p.0 f.0 fits.0 fits.1 named.0 named.1)
    (nest_map (codes "mmap(") (address_text a) (codes ", ") (decimal n) (prot_text p) (flags_text f) (codes ", -1, 0)"))
    (sym (append_assoc body (codes ", -1, 0") (codes ")")))
call_text_spells (Unmap a n) named fits = spelled Munmap _ (call_text (Unmap a n)) (codes "munmap(" ++ address_text a ++ codes ", " ++ decimal n) _
    (munmap_takes a n fits.0 fits.1) (simp append_assoc) refl
call_text_spells (Protect a n p) named fits =
    spelled Mprotect _ (call_text (Protect a n p)) (codes "mprotect(" ++ address_text a ++ codes ", " ++ decimal n ++ codes ", " ++ prot_text p) _
    (mprotect_takes a n p.0 fits.0 fits.1 named) (nest_protect (codes "mprotect(") (address_text a) (codes ", ") (decimal n) (prot_text p) (codes ")")) refl
call_text_spells (Fault a which) named fits =
    spelled FaultName _ (call_text (Fault a which)) (codes "fault(" ++ address_text a ++ codes ", " ++ access_text which) _
    (fault_takes a which fits) (simp append_assoc) refl
call_text_spells (Seal a n f) named fits =
    spelled Mseal _ (call_text (Seal a n f)) (codes "mseal(" ++ address_text a ++ codes ", " ++ decimal n ++ codes ", " ++ decimal f) _
    (mseal_takes a n f fits.0 fits.1 fits.2) (simp append_assoc) refl
call_text_spells (Brk b a) named fits = spelled BrkName _ (call_text (Brk b a)) (codes "brk(" ++ address_text a ++ codes ", " ++ address_text b) _
    (brk_takes b a fits.0 fits.1) (simp append_assoc) refl
call_text_spells (Remap a o n may h) named fits =
    let body = codes "mremap(" ++ address_text a ++ codes ", " ++ decimal o ++ codes ", " ++ decimal n ++ codes ", " ++ move_text may ++ hint_text h in
    spelled Mremap _ (call_text (Remap a o n may h)) body _ (mremap_takes a o n may h fits.0 fits.1 fits.2 fits.3) (simp append_assoc) refl

-- ---- how long a text is

address_length : (n : ℕ) → n < 2 ^ 64 → length (address_text n) ≤ 18
address_length n small = let digits = length-hex_digits n small in grind (arith, length-append {A = ℕ})

hint_length : (n : ℕ) → n < 2 ^ 64 → length (hint_text n) ≤ 20
hint_length n small = let digits = length-hex_digits n small in grind (arith, length-append {A = ℕ})

move_length : (may : Bool) → length (move_text may) ≤ 14
move_length true = omega arith
move_length false = omega arith

-- what is written of a call has at most 143 bytes
pub call_text_length : (c : Call) → IsNamedCall c → FitsCall c → length (call_text c) ≤ 143
call_text_length (Map a n p f) named fits =
    let addr_short = address_length a fits.0 in
    let len_short = length-decimal-le 20 n (omega arith) (omega arith) fits.1 in
    let prot_short = (prot_takes p.0 (codes ")") named.0 close_ends).2 in let flags_short = (flags_takes f.0 [] named.1).2 in simp length-append (omega arith)
call_text_length (Unmap a n) named fits =
    let addr_short = address_length a fits.0 in let len_short = length-decimal-le 20 n (omega arith) (omega arith) fits.1 in simp length-append (omega arith)
call_text_length (Protect a n p) named fits =
    let addr_short = address_length a fits.0 in
    let len_short = length-decimal-le 20 n (omega arith) (omega arith) fits.1 in
    let prot_short = (prot_takes p.0 (codes ")") named close_ends).2 in simp length-append (omega arith)
call_text_length (Fault a which) named fits =
    let addr_short = address_length a fits in let access_short = access_length which in simp length-append (omega arith)
call_text_length (Seal a n f) named fits =
    let addr_short = address_length a fits.0 in
    let len_short = length-decimal-le 20 n (omega arith) (omega arith) fits.1 in
    let flags_short = length-decimal-le 20 f (omega arith) (omega arith) fits.2 in simp length-append (omega arith)
call_text_length (Brk b a) named fits = let base_short = address_length b fits.0 in let addr_short = address_length a fits.1 in simp length-append (omega arith)
call_text_length (Remap a o n may h) named fits =
    let addr_short = address_length a fits.0 in
    let old_short = length-decimal-le 20 o (omega arith) (omega arith) fits.1 in
    let new_short = length-decimal-le 20 n (omega arith) (omega arith) fits.2 in let move_short = move_length may in
    let hint_short = hint_length h fits.3 in simp length-append (omega arith)
