-- A whole line of a call is read as its part says, each refusal at its one place.
use Rattle.std.proofs.Common.{◌≡◌, ℕ, ◌+◌, List, [], ◌∷◌, ◌++◌, length, Result, Ok, Err, Option, Some, None, Bool}
use Rattle.std.proofs.Common.{refl, sym, ap, subst, ◌∙◌, append_assoc, arith}
use Rattle.std.proofs.lemmas.List.{append-nil, length-append, append_cancel_left}
use Rattle.line_parts.specs.declared.refusal.Refusal.{Refusal}
use Rattle.line_parts.specs.declared.refusal.What.{What}
use Rattle.line_parts.specs.declared.refusal.What.TheVariants.{Number}
use Rattle.line_parts.specs.Parts.{Part, chain, Refused}
use Rattle.line_parts.specs.Leaves.{is, number, begun, is_word_byte}
use Rattle.line_parts.specs.Reading.{◌>>=◌, number_at}
use Rattle.line_parts.proofs.Sequence.{Took, Stuck, Reads, Fine, Good, Follows, Heads, reads_then, good_then, heads_then, alike_same}
use Rattle.line_parts.proofs.Choices.{narrower}
use Rattle.line_parts.proofs.Leaves.{Any, Last, done_good}
use Rattle.line_parts.proofs.Numerals.{number_good, number_heads}
use Rattle.line_parts.proofs.Lists.{is_close, ListEnds}
use Rattle.page_types.specs.Named.{IsNamedCall}
use Rattle.page_types.specs.declared.calls.Call.{Call}
use Rattle.page_types.specs.declared.calls.Call.TheVariants.{Map, Unmap, Protect, Fault as FaultCall, Seal, Brk, Remap}
use Rattle.strace_reader.specs.declared.item.Body.{Body}
use Rattle.strace_reader.specs.declared.item.Body.TheVariants.{Other}
use Rattle.strace_reader.specs.declared.item.Name.{Name}
use Rattle.strace_reader.specs.declared.item.Name.TheVariants.{Mmap, Munmap, Mprotect, Fault as FaultName, Mseal, Brk as BrkName, Mremap}
use Rattle.strace_reader.specs.Words.{call_head}
use Rattle.strace_reader.specs.Calls.{comma, addr, prot, flags, descriptor, access, closing, munmap_arguments, protect_behind_prot, mprotect_arguments}
use Rattle.strace_reader.specs.Calls.{fault_arguments, mseal_arguments, map_tail, map_behind_flags, map_behind_prot, mmap_arguments, arguments, call, optional}
use Rattle.strace_reader.specs.Calls.{moving, brk_arguments, remap_behind, remap_lengths, mremap_arguments}
use Rattle.strace_reader.specs.Reading.{comma_at, addr_at, munmap_at, protect_behind_prot_at, mprotect_at, fault_call_at, mseal_at, map_tail_at}
use Rattle.strace_reader.specs.Reading.{map_behind_flags_at, map_behind_prot_at, mmap_at, arguments_at, brk_at, remap_behind_at, remap_lengths_at, mremap_at}
use Rattle.strace_reader.proofs.ArgumentParts.{not_space, not_space_ends, digit_not_space, comma_closes, starts_as, paren_closes, comma_good, comma_heads}
use Rattle.strace_reader.proofs.ArgumentParts.{addr_good, prot_good, prot_heads, flags_good, flags_heads, descriptor_good, descriptor_heads, access_good}
use Rattle.strace_reader.proofs.ArgumentParts.{access_heads, prot_end, flags_end, Below, prot_below, flags_below, CloseEnds, close_no_numeral, addr_closed}
use Rattle.strace_reader.proofs.ArgumentParts.{optional_good, optional_closes}
use Rattle.strace_reader.proofs.MovingParts.{MoveEnds, moving_good, moving_heads, moving_end}
use Rattle.strace_reader.proofs.ResultParts.{closing_good, closing_heads, Ends, IsSound, Closes, chain_closes, closing_closes}

-- ---- what stands behind what

number_starts : Heads not_space (number Number)
number_starts b q n h = digit_not_space (b ++ q) (number_heads Number b q n h)

comma_begins : {B : Type 0} (next : Unit {0} → Part B) → Heads (is 44) (chain comma next)
comma_begins next = heads_then (is 44) comma next comma_heads

comma_close : {B : Type 0} (next : Unit {0} → Part B) → Heads is_close (chain comma next)
comma_close next b q w h = comma_closes (b ++ q) (comma_begins next b q w h)

closing_close : (c : Call) → Heads is_close (closing c)
closing_close c b q w h = paren_closes (b ++ q) (closing_heads c b q w h)

length_good : Good (number Number) CloseEnds (number_at Number)
length_good = narrower (λ v q h. close_no_numeral q h) (number_good Number)

-- ---- one argument, and what stands behind it

-- a comma, its spaces and a part that begins with no space
comma_then : {A : Type 0} {part : Part A} {next : A → Part Body} {follow : A → List ℕ → Type 0}
    {r : List ℕ → Result (A × List ℕ) Refusal} {f : A → List ℕ → Result (Body × List ℕ) Refusal}
    → Heads not_space part → Good part follow r → ((v : A) → Good (next v) Last (f v)) → Follows follow next Last
    → Good (chain comma (λ u. chain part next)) Last (λ text. comma_at text >>= λ x. r x.1 >>= λ y. f y.0 y.1)
comma_then {part = part} {next = next} heads good others follows = good_then comma_good (λ u. good_then good others follows)
    (λ v b q w h hq. not_space_ends (b ++ q) (heads_then not_space part next heads b q w h))

-- a comma and a length, with a comma or a parenthesis behind it
length_then : {next : ℕ → Part Body} {f : ℕ → List ℕ → Result (Body × List ℕ) Refusal} → ((n : ℕ) → Good (next n) Last (f n))
    → ((n : ℕ) → Heads is_close (next n))
    → Good (chain comma (λ u. chain (number Number) next)) Last (λ text. comma_at text >>= λ x. number_at Number x.1 >>= λ y. f y.0 y.1)
length_then others heads = comma_then number_starts length_good others (λ n b q w h hq. heads n b q w h)

-- an address with a comma behind it
addr_then : {f : ℕ → List ℕ → Result (Body × List ℕ) Refusal} (next : ℕ → Unit {0} → Part Body) → ((a : ℕ) → Good (chain comma (next a)) Last (f a))
    → Good (chain addr (λ a. chain comma (next a))) Last (λ text. addr_at text >>= λ x. f x.0 x.1)
addr_then next others = good_then addr_good others (λ a b q w h hq. comma_begins (next a) b q w h)

-- ---- munmap

-- the arguments of munmap are read by munmap_at, where nothing follows
pub munmap_good : Good munmap_arguments Last munmap_at
unfolding munmap_at
munmap_good = addr_then (λ a u. chain (number Number) (λ n. closing (Unmap a n)))
    (λ a. length_then (λ n. closing_good (Unmap a n)) (λ n. closing_close (Unmap a n)))

-- ---- mprotect

protect_behind_prot_good : (a n : ℕ) (p : Option ℕ) → Good (protect_behind_prot a n p) Last (protect_behind_prot_at a n p)
protect_behind_prot_good a n None = done_good Other Last
protect_behind_prot_good a n (Some p) = closing_good (Protect a n (record { 0 = p }))

protect_behind_prot_follows : (a n : ℕ) → Follows ListEnds (protect_behind_prot a n) Last
protect_behind_prot_follows a n None b q w h hq = ap (λ y. y ++ q) h.0 ∙ hq
protect_behind_prot_follows a n (Some p) b q w h hq = closing_close (Protect a n (record { 0 = p })) b q w h

-- the arguments of mprotect are read by mprotect_at, where nothing follows
pub mprotect_good : Good mprotect_arguments Last mprotect_at
unfolding mprotect_at
mprotect_good = addr_then (λ a u. chain (number Number) (λ n. chain comma (λ v. chain prot (protect_behind_prot a n)))) (λ a. length_then
    (λ n. comma_then prot_heads prot_good (protect_behind_prot_good a n) (protect_behind_prot_follows a n))
    (λ n. comma_close (λ v. chain prot (protect_behind_prot a n))))

-- ---- fault

-- the arguments of a page fault are read by fault_call_at, where nothing follows
pub fault_good : Good fault_arguments Last fault_call_at
unfolding fault_call_at
fault_good = addr_then (λ a u. chain access (λ c. closing (FaultCall a c))) (λ a. comma_then access_heads access_good (λ c. closing_good (FaultCall a c))
    (λ c b q w h hq. starts_as 41 is_word_byte (b ++ q) (closing_heads (FaultCall a c) b q w h)))

-- ---- mseal

-- the arguments of mseal are read by mseal_at, where nothing follows
pub mseal_good : Good mseal_arguments Last mseal_at
unfolding mseal_at
mseal_good = addr_then (λ a u. chain (number Number) (λ n. chain comma (λ v. chain (number Number) (λ f. closing (Seal a n f))))) (λ a. length_then
    (λ n. length_then (λ f. closing_good (Seal a n f)) (λ f. closing_close (Seal a n f)))
    (λ n. comma_close (λ v. chain (number Number) (λ f. closing (Seal a n f)))))

-- ---- brk

-- the arguments of brk are read by brk_at, where nothing follows
pub brk_good : Good brk_arguments Last brk_at
unfolding brk_at
brk_good = good_then addr_closed (λ a. good_then optional_good (λ b. closing_good (Brk b a)) (λ b f q w h hq. closing_heads (Brk b a) f q w h))
    (λ a b q w h hq. optional_closes (λ n. closing (Brk n a)) (λ n. closing_heads (Brk n a)) b q w h)

-- ---- mremap

remap_behind_good : (a o n : ℕ) (m : Option Bool) → Good (remap_behind a o n m) Last (remap_behind_at a o n m)
remap_behind_good a o n None = done_good Other Last
remap_behind_good a o n (Some may) = good_then optional_good (λ h. closing_good (Remap a o n may h)) (λ h f q w k kq. closing_heads (Remap a o n may h) f q w k)

remap_behind_follows : (a o n : ℕ) → Follows MoveEnds (remap_behind a o n) Last
remap_behind_follows a o n None b q w h hq = ap (λ y. y ++ q) h.0 ∙ hq
remap_behind_follows a o n (Some may) b q w h hq = optional_closes (λ k. closing (Remap a o n may k)) (λ k. closing_heads (Remap a o n may k)) b q w h

remap_lengths_good : (a o : ℕ) → Good (remap_lengths a o) Last (remap_lengths_at a o)
unfolding remap_lengths_at
remap_lengths_good a o = length_then (λ n. comma_then moving_heads moving_good (remap_behind_good a o n) (remap_behind_follows a o n))
    (λ n. comma_close (λ v. chain moving (remap_behind a o n)))

-- the arguments of mremap are read by mremap_at, where nothing follows
pub mremap_good : Good mremap_arguments Last mremap_at
unfolding mremap_at
mremap_good = addr_then (λ a u. chain (number Number) (remap_lengths a)) (λ a. length_then (remap_lengths_good a)
    (λ o. comma_close (λ v. chain (number Number) (λ n. chain comma (λ x. chain moving (remap_behind a o n))))))

-- ---- mmap

map_tail_good : (c : Call) → Good (map_tail c) Last (map_tail_at c)
unfolding map_tail_at
map_tail_good c = comma_then descriptor_heads descriptor_good (λ v. length_then (λ o. closing_good c) (λ o. closing_close c))
    (λ v b q x h hq. comma_begins (λ w. chain (number Number) (λ o. closing c)) b q x h)

map_behind_flags_good : (a n p : ℕ) (f : Option ℕ) → Good (map_behind_flags a n p f) Last (map_behind_flags_at a n p f)
map_behind_flags_good a n p None = done_good Other Last
map_behind_flags_good a n p (Some f) = map_tail_good (Map a n (record { 0 = p }) (record { 0 = f }))

map_behind_flags_follows : (a n p : ℕ) → Follows ListEnds (map_behind_flags a n p) Last
map_behind_flags_follows a n p None b q w h hq = ap (λ y. y ++ q) h.0 ∙ hq
map_behind_flags_follows a n p (Some f) b q w h hq = comma_close
    (λ u. chain descriptor (λ v. chain comma (λ w. chain (number Number) (λ o. closing (Map a n (record { 0 = p }) (record { 0 = f })))))) b q w h

map_behind_prot_good : (a n : ℕ) (p : Option ℕ) → Good (map_behind_prot a n p) Last (map_behind_prot_at a n p)
map_behind_prot_good a n None = done_good Other Last
map_behind_prot_good a n (Some p) = comma_then flags_heads flags_good (map_behind_flags_good a n p) (map_behind_flags_follows a n p)

map_behind_prot_follows : (a n : ℕ) → Follows ListEnds (map_behind_prot a n) Last
map_behind_prot_follows a n None b q w h hq = ap (λ y. y ++ q) h.0 ∙ hq
map_behind_prot_follows a n (Some p) b q w h hq = comma_close (λ u. chain flags (map_behind_flags a n p)) b q w h

-- the arguments of mmap are read by mmap_at, where nothing follows
pub mmap_good : Good mmap_arguments Last mmap_at
unfolding mmap_at
mmap_good = addr_then (λ a u. chain (number Number) (λ n. chain comma (λ v. chain prot (map_behind_prot a n)))) (λ a. length_then
    (λ n. comma_then prot_heads prot_good (map_behind_prot_good a n) (map_behind_prot_follows a n)) (λ n. comma_close (λ v. chain prot (map_behind_prot a n))))

-- ---- each call

-- the arguments of each call are read by arguments_at, where nothing follows
pub arguments_good : (name : Name) → Good (arguments name) Last (arguments_at name)
arguments_good Mmap = mmap_good
arguments_good Munmap = munmap_good
arguments_good Mprotect = mprotect_good
arguments_good FaultName = fault_good
arguments_good Mseal = mseal_good
arguments_good BrkName = brk_good
arguments_good Mremap = mremap_good

begun_took : (word rest : List ℕ) → Took (begun word) (word ++ rest) tt rest
begun_took word rest = record { front = word; parts = refl; takes = refl; only = λ p q more w h e alike. (h, refl); clean = λ g o r w h e. h }

begun_fine : (word : List ℕ) → Fine (begun word) Any
begun_fine word = record { some = (word, tt, λ q h. refl); before = λ a rest q v h hq. h }

begun_rest : (word rest after : List ℕ) → Took (begun word) (word ++ rest) tt after → rest ≡ after
begun_rest word rest after t = append_cancel_left word rest after (t.parts ∙ ap (λ y. y ++ after) t.takes)

call_reads : (name : Name) (rest : List ℕ) → Reads (call name) Last (call_head name ++ rest) (arguments_at name rest)
unfolding call
call_reads name rest = reads_then (begun (call_head name)) (λ u. arguments name) Any Last (call_head name ++ rest) (Ok (tt, rest))
    (λ u. arguments_at name rest) (λ v b q w h hq. tt) (begun_fine (call_head name)) (λ u. (arguments_good name).fine) (begun_took (call_head name) rest)
    (λ x t. subst (λ y. Reads (arguments name) Last y (arguments_at name rest)) (begun_rest (call_head name) rest x.1 t) ((arguments_good name).reads rest))

behind_nothing : (b q : List ℕ) → b ≡ [] → b ++ q ≡ [] → q ≡ []
behind_nothing [] q e h = h
behind_nothing (c ∷ b) q e h = absurd cc

-- A value that may be missing, which then takes the text to its end: what stands behind closes a text where it does
-- behind each value that there is.
option_closes : {A : Type 0} (first : Part (Option A)) (next : Option A → Part Body) (Fits : Option A → Type 0)
    → ((p q : List ℕ) (v : Option A) → first.takes p q v → v ≡ None → q ≡ []) → ((p q : List ℕ) (v : Option A) → first.takes p q v → Fits v)
    → ((b q : List ℕ) (w : Body) → (next None).takes b q w → (b ≡ []) × (w ≡ Other))
    → ((n : A) → Fits (Some n) → Closes (next (Some n))) → Closes (chain first next)
option_closes {A} first next Fits ends fits none some =
    record { ends = λ p q w h. (at h.0 h.1 q w h.2 h.4 h.5).0; values = λ p q w h. (at h.0 h.1 q w h.2 h.4 h.5).1 }
  where
    at : (a b q : List ℕ) (w : Body) (v : Option A) → first.takes a (b ++ q) v → (next v).takes b q w → (q ≡ []) × IsSound w
    at a b q w None t n = let e = none b q w n in (behind_nothing b q e.0 (ends a (b ++ q) None t refl), subst IsSound (sym e.1) tt)
    at a b q w (Some x) t n = let c = some x (fits a (b ++ q) (Some x) t) in (c.ends b q w n, c.values b q w n)

map_tail_closes : (c : Call) → IsNamedCall c → Closes (map_tail c)
map_tail_closes c named =
    chain_closes comma (λ u. chain_closes descriptor (λ v. chain_closes comma (λ w. chain_closes (number Number) (λ o. closing_closes c named))))

remap_lengths_closes : (a o : ℕ) → Closes (remap_lengths a o)
remap_lengths_closes a o = chain_closes comma (λ u. chain_closes (number Number) (λ n. chain_closes comma
    (λ v. option_closes moving (remap_behind a o n) (λ m. Unit {0}) moving_end (λ p q v h. tt) (λ b q w h. h)
    (λ may t. chain_closes optional (λ h. closing_closes (Remap a o n may h) tt)))))

arguments_close : (name : Name) → Closes (arguments name)
arguments_close Mmap = chain_closes addr (λ a. chain_closes comma (λ u. chain_closes (number Number) (λ n. chain_closes comma
    (λ v. option_closes prot (map_behind_prot a n) (Below 3) prot_end prot_below (λ b q w h. h)
    (λ p low. chain_closes comma (λ x. option_closes flags (map_behind_flags a n p) (Below 4) flags_end flags_below (λ b q w h. h)
    (λ f few. map_tail_closes (Map a n (record { 0 = p }) (record { 0 = f })) (low, few))))))))
arguments_close Munmap = chain_closes addr (λ a. chain_closes comma (λ u. chain_closes (number Number) (λ n. closing_closes (Unmap a n) tt)))
arguments_close Mprotect = chain_closes addr (λ a. chain_closes comma (λ u. chain_closes (number Number) (λ n. chain_closes comma
    (λ v. option_closes prot (protect_behind_prot a n) (Below 3) prot_end prot_below (λ b q w h. h)
    (λ p low. closing_closes (Protect a n (record { 0 = p })) low)))))
arguments_close FaultName = chain_closes addr (λ a. chain_closes comma (λ u. chain_closes access (λ c. closing_closes (FaultCall a c) tt)))
arguments_close Mseal = chain_closes addr (λ a. chain_closes comma (λ u. chain_closes (number Number) (λ n. chain_closes comma
    (λ v. chain_closes (number Number) (λ f. closing_closes (Seal a n f) tt)))))
arguments_close BrkName = chain_closes addr (λ a. chain_closes optional (λ b. closing_closes (Brk b a) tt))
arguments_close Mremap = chain_closes addr (λ a. chain_closes comma (λ u. chain_closes (number Number) (λ o. remap_lengths_closes a o)))

-- a call's line is taken to its end, and only as a call with named bits alone or as one that is passed over
pub call_closes : (name : Name) → Closes (call name)
unfolding call
call_closes name = chain_closes (begun (call_head name)) (λ u. arguments_close name)

-- ---- a whole line, over any part that takes it to its end

-- the part takes the whole text as this item alone, and refuses it nowhere
pub record IsWhole {A : Type 0} (part : Part A) (text : List ℕ) (item : A) : Type 0 where
  -- the part takes the whole text as this item
  pub spelled : part.takes text [] item
  -- the part takes the whole text as no other item
  pub only : (other : A) → part.takes text [] other → other ≡ item
  -- the part refuses the text at no column
  pub clean : (column : ℕ) (what : What) → Refused part text column what → ⊥

-- the part refuses the text at this column alone, for this cause, and takes it as no item
pub record IsRefused {A : Type 0} (part : Part A) (text : List ℕ) (column : ℕ) (what : What) : Type 0 where
  -- the part refuses the text at this column, for this cause
  pub refused : Refused part text column what
  -- the part takes the whole text as no item
  pub none : (item : A) → part.takes text [] item → ⊥
  -- each refusal of the text is at this column and for this cause
  pub one : (c : ℕ) (w : What) → Refused part text c w → (c ≡ column) × (w ≡ what)

whole_of : {A : Type 0} (part : Part A) (text rest : List ℕ) (item : A) → Ends part → Took part text item rest → IsWhole part text item
whole_of {A} part text rest item ends t =
    let none : rest ≡ [] = ends t.front rest item t.takes in
    let front : text ≡ t.front = t.parts ∙ ap (λ y. t.front ++ y) none ∙ append-nil t.front in
    record {
      spelled = subst (λ y. part.takes y [] item) (sym front) (subst (λ y. part.takes t.front y item) none t.takes);
      only = λ other h. (t.only text [] rest other h (append-nil text ∙ t.parts) (alike_same rest)).1;
      clean = λ column what r. t.clean r.front r.over r.rest what r.due r.parts;
    }

refused_of : {A : Type 0} (part : Part A) (text : List ℕ) (f : Refusal) (column : ℕ) → column + f.left ≡ length text + 1
    → Stuck part Last text f → IsRefused part text column f.what
refused_of {A} part text f column place s =
    let k = ap length s.parts ∙ length-append s.front (s.over ++ s.rest) in let l = s.left in
    record {
      refused = record {
        front = s.front;
        over = s.over;
        rest = s.rest;
        parts = s.parts;
        place = omega arith;
        due = s.due;
        begins = (s.begins.0, s.begins.1, s.begins.2 [] refl);
        ends = λ more v h alike. s.ends ((s.front ++ s.over) ++ more) [] more v h (append-nil ((s.front ++ s.over) ++ more)) alike;
      };
      none = λ item h. s.ends text [] s.rest item h (append-nil text ∙ s.parts ∙ sym (append_assoc s.front s.over s.rest)) (alike_same s.rest);
      one = λ c w r.
          let e = s.one r.front r.over r.rest w r.due r.parts in
          let m = ap length r.parts ∙ length-append r.front (r.over ++ r.rest) in let p = r.place in let n = e.0 in (omega arith, e.1);
    }

-- where arguments are read as a body, the call's name with them behind it is that body alone
pub call_whole : (name : Name) (rest after : List ℕ) (item : Body) → arguments_at name rest ≡ Ok (item, after)
    → IsWhole (call name) (call_head name ++ rest) item
call_whole name rest after item e = whole_of (call name) (call_head name ++ rest) after item (call_closes name).ends
    (subst (Reads (call name) Last (call_head name ++ rest)) e (call_reads name rest))

-- where arguments are refused, the call's name with them behind it is refused at that place alone
pub call_refused : (name : Name) (rest : List ℕ) (f : Refusal) (column : ℕ) → arguments_at name rest ≡ Err f
    → column + f.left ≡ length (call_head name ++ rest) + 1 → IsRefused (call name) (call_head name ++ rest) column f.what
call_refused name rest f column e place = refused_of (call name) (call_head name ++ rest) f column place
    (subst (Reads (call name) Last (call_head name ++ rest)) e (call_reads name rest))
