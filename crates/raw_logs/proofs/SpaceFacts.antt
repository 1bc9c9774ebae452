-- Who made whom and of which space they are, one line or link more at a time.
use Rattle.std.proofs.Common.{◌≡◌, ◌≢◌, ℕ, ◌+◌, List, [], ◌∷◌, ◌++◌, Bool, true, false, Option, Some, None, refl, sym, ap, subst, ◌∙◌}
use Rattle.std.proofs.Common.{cond, eqb, arith}
use Rattle.std.specs.Prelude.{◌==◌, if◌then◌else◌}
use Rattle.std.specs.BTreeMap.{BTreeMap, get}
use Rattle.std.specs.BTreeSet.{BTreeSet, contains, Updates}
use Rattle.raw_logs.proofs.Following.{key_is}
use Rattle.raw_logs.specs.Counting.{within_32_bits}
use Rattle.std.specs.Ordering.{nat_cmp}
use Rattle.std.proofs.lemmas.Bool.{eqb-true, eq-eqb}
use Rattle.std.proofs.lemmas.List.{append-nil}
use Rattle.raw_lines.specs.declared.makers.Making.{Making}
use Rattle.raw_lines.specs.declared.makers.Making.TheVariants.{Execs, Nothing}
use Rattle.raw_logs.specs.declared.spaces.Made.{Made}
use Rattle.raw_logs.specs.declared.spaces.Makers.{Makers}
use Rattle.raw_logs.specs.declared.spaces.Past.{Past}
use Rattle.raw_logs.specs.declared.spaces.Space.{Space}
use Rattle.raw_logs.specs.declared.told.Told.{Told}
use Rattle.raw_logs.specs.Log.{Numbered}
use Rattle.raw_logs.specs.Spaces.{ends, ended_by, made_from, execs, exec_place, link_of, has_left, is_first, before_by, before_in, speaks, silent, twice, is_made, unmade}
use Rattle.raw_logs.specs.Stages.{HasMade, born_in, IsPast, or_else, HasSpeakers, HasNumbers, HasKnown}
use Rattle.raw_logs.specs.Told.{Tells, AreTold, all_told, line_told}
use Rattle.raw_logs.proofs.ToldFacts.{tells_one}

not_same : (p q : ℕ) → eqb p q ≡ false → q ≢ p
not_same p q e same = let k = eq-eqb p q (sym same) in cc

-- ---- who made whom

-- a line more, by what it does to the links, to the calls that wait for their beginning, and to the calls of execve
pub made_step : (old new : Makers) (place : ℕ) (told : Told) (tolds : List Told) → HasMade old (place + 1) tolds
    → new.made.items ≡ old.made.items ++ link_of place told.pid told.making (λ q. get nat_cmp old.execs q) (ended_by told.pid tolds)
    → get nat_cmp new.ended told.pid ≡ ends told.making (ended_by told.pid tolds)
    → ((q : ℕ) → q ≢ told.pid → get nat_cmp new.ended q ≡ get nat_cmp old.ended q)
    → get nat_cmp new.execs told.pid ≡ (if execs told.making then Some place else get nat_cmp old.execs told.pid)
    → ((q : ℕ) → q ≢ told.pid → get nat_cmp new.execs q ≡ get nat_cmp old.execs q) → HasMade new place (told ∷ tolds)
made_step old new place told tolds h made own others exec same =
    record {
      made = made ∙ ap (λ (x : List Made). x ++ link_of place told.pid told.making (λ q. get nat_cmp old.execs q) (ended_by told.pid tolds)) h.made
          ∙ ap (λ (f : ℕ → Option ℕ). made_from (place + 1) tolds ++ link_of place told.pid told.making f (ended_by told.pid tolds)) (λ i q. h.execs q i);
      ended = λ q. by q (eqb told.pid q) refl;
      execs = λ q. there q (eqb told.pid q) refl;
    }
  where
    by : (q : ℕ) (b : Bool) → eqb told.pid q ≡ b → get nat_cmp new.ended q ≡ ended_by q (told ∷ tolds)
    by q true e =
        let same : told.pid ≡ q = eqb-true told.pid q e in
        rw e (subst (λ (x : ℕ). get nat_cmp new.ended x ≡ ends told.making (ended_by x tolds)) same own)
    by q false e = rw e (others q (not_same told.pid q e) ∙ h.ended q)

    there : (q : ℕ) (b : Bool) → eqb told.pid q ≡ b → get nat_cmp new.execs q ≡ exec_place q place (told ∷ tolds)
    there q true e =
        let is : told.pid ≡ q = eqb-true told.pid q e in
        rw e (subst (λ (x : ℕ). get nat_cmp new.execs x ≡ (if execs told.making then Some place else exec_place x (place + 1) tolds)) is
        (exec ∙ ap (λ (x : Option ℕ). if execs told.making then Some place else x) (h.execs told.pid)))
    there q false e = rw e (same q (not_same told.pid q e) ∙ h.execs q)

-- a line that makes nothing
pub made_nothing : (old : Makers) (place : ℕ) (told : Told) (tolds : List Told) → HasMade old (place + 1) tolds → told.making ≡ Nothing
    → HasMade old place (told ∷ tolds)
made_nothing old place told tolds h e =
    made_step old old place told tolds h
    (sym (append-nil old.made.items)
    ∙ ap (λ (m : Making). old.made.items ++ link_of place told.pid m (λ q. get nat_cmp old.execs q) (ended_by told.pid tolds)) (sym e))
    (h.ended told.pid ∙ ap (λ (m : Making). ends m (ended_by told.pid tolds)) (sym e)) (λ q other. refl)
    (ap (λ (m : Making). if execs m then Some place else get nat_cmp old.execs told.pid) (sym e)) (λ q other. refl)

-- a line that tells of execve
pub made_exec : (old new : Makers) (place : ℕ) (told : Told) (tolds : List Told) → HasMade old (place + 1) tolds → told.making ≡ Execs
    → new.made ≡ old.made → new.ended ≡ old.ended → get nat_cmp new.execs told.pid ≡ Some place
    → ((q : ℕ) → q ≢ told.pid → get nat_cmp new.execs q ≡ get nat_cmp old.execs q) → HasMade new place (told ∷ tolds)
made_exec old new place told tolds h e made ended own others =
    made_step old new place told tolds h
    (ap (λ x. x.items) made ∙ sym (append-nil old.made.items)
    ∙ ap (λ (m : Making). old.made.items ++ link_of place told.pid m (λ q. get nat_cmp old.execs q) (ended_by told.pid tolds)) (sym e))
    (ap (λ x. get nat_cmp x told.pid) ended ∙ h.ended told.pid ∙ ap (λ (m : Making). ends m (ended_by told.pid tolds)) (sym e))
    (λ q other. ap (λ x. get nat_cmp x q) ended)
    (own ∙ ap (λ (m : Making). if execs m then Some place else get nat_cmp old.execs told.pid) (sym e)) others

-- ---- the past of a process

-- a limit more
pub past_put : (old new : BTreeMap ℕ ℕ) (first limit : ℕ) → get nat_cmp old first ≡ None → get nat_cmp new first ≡ Some limit
    → ((q : ℕ) → q ≢ first → get nat_cmp new q ≡ get nat_cmp old q) → (q : ℕ)
    → get nat_cmp new q ≡ or_else (get nat_cmp old q) (if first == q then Some limit else None)
past_put old new first limit none own others q = by (eqb first q) refl
  where
    or_none : (x : Option ℕ) → or_else x None ≡ x
    or_none None = refl
    or_none (Some n) = refl

    by : (b : Bool) → eqb first q ≡ b → get nat_cmp new q ≡ or_else (get nat_cmp old q) (if first == q then Some limit else None)
    by true e =
        let same : first ≡ q = eqb-true first q e in
        rw e (subst (λ (x : ℕ). get nat_cmp new x ≡ or_else (get nat_cmp old x) (Some limit)) same
        (own ∙ sym (ap (λ (x : Option ℕ). or_else x (Some limit)) none)))
    by false e = rw e (others q (not_same first q e) ∙ sym (or_none (get nat_cmp old q)))

-- a limit that stands is kept
pub past_kept : (old : BTreeMap ℕ ℕ) (first limit n : ℕ) → get nat_cmp old first ≡ Some n → (q : ℕ)
    → get nat_cmp old q ≡ or_else (get nat_cmp old q) (if first == q then Some limit else None)
past_kept old first limit n some q = by (eqb first q) refl
  where
    or_none : (x : Option ℕ) → or_else x None ≡ x
    or_none None = refl
    or_none (Some m) = refl

    by : (b : Bool) → eqb first q ≡ b → get nat_cmp old q ≡ or_else (get nat_cmp old q) (if first == q then Some limit else None)
    by true e =
        let same : first ≡ q = eqb-true first q e in
        let is : get nat_cmp old q ≡ Some n = subst (λ (x : ℕ). get nat_cmp old x ≡ Some n) same some in
        rw e (is ∙ sym (ap (λ (x : Option ℕ). or_else x (Some limit)) is))
    by false e = rw e (sym (or_none (get nat_cmp old q)))

-- what a link says of the past, by whether it made the number
abbrev by_link : Made → List Made → ℕ → ℕ → Space → Bool → Option ℕ
by_link link rest pid limit space here =
    if here then before_by (has_left link.kind link.exec limit) link.place limit space (before_in rest link.parent link.place space)
    (before_in rest link.parent limit space)
    else before_in rest pid limit space

-- links so far: what is of the past is there, or follows from the others
abbrev pub LeadsTo : List Made → ℕ → ℕ → BTreeMap ℕ ℕ → List Made → ℕ → ℕ → Type 0
LeadsTo made asked count past rest pid limit =
    (space : Space) → before_in made asked count space ≡ or_else (born_in past space) (before_in rest pid limit space)

-- no link was followed
pub leads_start : (made : List Made) (asked count : ℕ) (past : BTreeMap ℕ ℕ) → ((q : ℕ) → get nat_cmp past q ≡ None)
    → LeadsTo made asked count past made asked count
leads_start made asked count past none space = sym (ap (λ (x : Option ℕ). or_else x (before_in made asked count space)) (by space.made))
  where
    by : (b : Bool) → (if b then get nat_cmp past space.id else None) ≡ None
    by true = none space.id
    by false = refl

-- a link of another number
pub leads_other : (made : List Made) (asked count : ℕ) (past : BTreeMap ℕ ℕ) (link : Made) (rest : List Made) (pid limit : ℕ)
    → LeadsTo made asked count past (link ∷ rest) pid limit → eqb link.child pid ≡ false → LeadsTo made asked count past rest pid limit
leads_other made asked count past link rest pid limit h e space =
    subst (λ (b : Bool). before_in made asked count space ≡ or_else (born_in past space) (by_link link rest pid limit space b)) e (h space)

-- a link of a number that is in the space of its maker
pub leads_shared : (made : List Made) (asked count : ℕ) (past : BTreeMap ℕ ℕ) (link : Made) (rest : List Made) (pid limit : ℕ)
    → LeadsTo made asked count past (link ∷ rest) pid limit → eqb link.child pid ≡ true → has_left link.kind link.exec limit ≡ false
    → LeadsTo made asked count past rest link.parent limit
leads_shared made asked count past link rest pid limit h e never space =
    subst (λ (b : Bool). before_in made asked count space ≡ or_else (born_in past space) (by_link link rest pid limit space b)) e (h space)
    ∙ ap (λ (b : Bool). or_else (born_in past space)
    (before_by b link.place limit space (before_in rest link.parent link.place space) (before_in rest link.parent limit space))) never

-- a link of a number that is in a space of its own
pub leads_apart : (made : List Made) (asked count : ℕ) (old new : BTreeMap ℕ ℕ) (link : Made) (rest : List Made) (pid limit : ℕ)
    → LeadsTo made asked count old (link ∷ rest) pid limit → eqb link.child pid ≡ true → has_left link.kind link.exec limit ≡ true
    → ((q : ℕ) → get nat_cmp new q ≡ or_else (get nat_cmp old q) (if link.place == q then Some limit else None))
    → LeadsTo made asked count new rest link.parent link.place
leads_apart made asked count old new link rest pid limit h e is put space =
    subst (λ (b : Bool). before_in made asked count space ≡ or_else (born_in old space) (by_link link rest pid limit space b)) e (h space)
    ∙ ap (λ (b : Bool). or_else (born_in old space)
    (before_by b link.place limit space (before_in rest link.parent link.place space) (before_in rest link.parent limit space))) is
    ∙ by space.made
  where
    more : Option ℕ
    more = before_in rest link.parent link.place space

    grouped : (a : Option ℕ) (b : Bool) (x : Option ℕ) → or_else a (if b then Some limit else x) ≡ or_else (or_else a (if b then Some limit else None)) x
    grouped None true x = refl
    grouped None false x = refl
    grouped (Some n) b x = refl

    by : (b : Bool) → or_else (if b then get nat_cmp old space.id else None) (if (if b then link.place == space.id else false) then Some limit else more)
        ≡ or_else (if b then get nat_cmp new space.id else None) more
    by true = grouped (get nat_cmp old space.id) (link.place == space.id) more ∙ ap (λ (x : Option ℕ). or_else x more) (sym (put space.id))
    by false = refl

-- no link is left
pub leads_end : (made : List Made) (asked count : ℕ) (past : Past) (rest : List Made) (pid limit : ℕ)
    → LeadsTo made asked count past.born rest pid limit → rest ≡ [] → past.first ≡ pid → past.limit ≡ limit → IsPast past made asked count
leads_end made asked count past rest pid limit h e f g space =
    ap (λ (n : ℕ). or_else (born_in past.born space) (if is_first space n then Some past.limit else None)) f
    ∙ ap (λ (n : ℕ). or_else (born_in past.born space) (if is_first space pid then Some n else None)) g
    ∙ sym (subst (λ (x : List Made). before_in made asked count space ≡ or_else (born_in past.born space) (before_in x pid limit space)) e (h space))

-- ---- numbers that speak

-- a number more in a set
pub put_more : (old new : BTreeSet ℕ) (pid : ℕ) → Updates nat_cmp old new pid true → (q : ℕ)
    → contains nat_cmp new q ≡ (if pid == q then true else contains nat_cmp old q)
put_more old new pid u q = u.0 q ∙ ap (λ (x : Bool). cond x true (contains nat_cmp old q)) (key_is pid q) ∙ by (eqb pid q)
  where
    by : (b : Bool) → cond b true (contains nat_cmp old q) ≡ (if b then true else contains nat_cmp old q)
    by true = refl
    by false = refl

-- a line more
pub speakers_more : (old new : BTreeSet ℕ) (line : Numbered) (done : List Numbered) (told : Told) → Tells line.text told → HasSpeakers old done
    → ((q : ℕ) → contains nat_cmp new q ≡ (if told.pid == q then true else contains nat_cmp old q)) → HasSpeakers new (line ∷ done)
speakers_more old new line done told tells h put ts (line_told {told = t} {tolds = us} tell more) q =
    put q ∙ ap (λ (b : Bool). if told.pid == q then true else b) (h us more q)
    ∙ ap (λ (x : Told). if x.pid == q then true else speaks q us) (tells_one line.text told t tells tell)

-- ---- numbers that were made twice

-- a link more
pub numbers_made : (old new : BTreeSet ℕ) (link : Made) (done : List Made) → HasNumbers old done
    → ((q : ℕ) → contains nat_cmp new q ≡ (if link.child == q then true else contains nat_cmp old q)) → HasNumbers new (link ∷ done)
numbers_made old new link done h put q = put q ∙ ap (λ (b : Bool). if link.child == q then true else b) (h q)

-- whose number is new
pub twice_same : (old : BTreeSet ℕ) (link : Made) (done : List Made) (count : ℕ) → HasNumbers old done → count ≡ within_32_bits (twice done)
    → contains nat_cmp old link.child ≡ false → count ≡ within_32_bits (twice (link ∷ done))
twice_same old link done count k h e =
    h ∙ sym (ap (λ (b : Bool). within_32_bits (if b then twice done + 1 else twice done)) (sym (k link.child) ∙ e))

-- or was made before
pub twice_more : (old : BTreeSet ℕ) (link : Made) (done : List Made) (count new : ℕ) → HasNumbers old done → count ≡ within_32_bits (twice done)
    → new ≡ within_32_bits (count + 1) → contains nat_cmp old link.child ≡ true → new ≡ within_32_bits (twice (link ∷ done))
twice_more old link done count new k h n e =
    n ∙ ap (λ (x : ℕ). within_32_bits (x + 1)) h ∙ still (twice done)
    ∙ sym (ap (λ (b : Bool). within_32_bits (if b then twice done + 1 else twice done)) (sym (k link.child) ∙ e))
  where
    still : (a : ℕ) → within_32_bits (within_32_bits a + 1) ≡ within_32_bits (a + 1)
    still a = omega arith

-- ---- numbers that no link made

swapped : (a b x : Bool) → (if a then true else if b then true else x) ≡ (if b then true else if a then true else x)
swapped true true x = refl
swapped a b x = refl

-- no number but 0 is known
pub known_none : (old new : BTreeSet ℕ) → ((q : ℕ) → contains nat_cmp old q ≡ false)
    → ((q : ℕ) → contains nat_cmp new q ≡ (if 0 == q then true else contains nat_cmp old q)) → HasKnown new [] []
known_none old new none put q = put q ∙ ap (λ (b : Bool). if 0 == q then true else b) (none q)

-- a link more
pub known_made : (old new : BTreeSet ℕ) (link : Made) (done : List Made) → HasKnown old done []
    → ((q : ℕ) → contains nat_cmp new q ≡ (if link.child == q then true else contains nat_cmp old q)) → HasKnown new (link ∷ done) []
known_made old new link done h put q =
    put q ∙ ap (λ (b : Bool). if link.child == q then true else b) (h q) ∙ swapped (link.child == q) (0 == q) (is_made q done)

-- a line more
pub known_more : (old new : BTreeSet ℕ) (made : List Made) (told : Told) (tolds : List Told) → HasKnown old made tolds
    → ((q : ℕ) → contains nat_cmp new q ≡ (if told.pid == q then true else contains nat_cmp old q)) → HasKnown new made (told ∷ tolds)
known_more old new made told tolds h put q =
    put q ∙ ap (λ (b : Bool). if told.pid == q then true else b) (h q) ∙ by (told.pid == q) (0 == q) (speaks q tolds) (is_made q made)
  where
    by : (a z s m : Bool) → (if a then true else if z then true else if s then true else m) ≡ (if z then true else if (if a then true else s) then true else m)
    by true true s m = refl
    by a z s m = refl

-- a line more, whose number is known
pub known_same : (old : BTreeSet ℕ) (made : List Made) (told : Told) (tolds : List Told) → HasKnown old made tolds
    → contains nat_cmp old told.pid ≡ true → HasKnown old made (told ∷ tolds)
known_same old made told tolds h is = known_more old old made told tolds h (λ q. by q (eqb told.pid q) refl)
  where
    by : (q : ℕ) (b : Bool) → eqb told.pid q ≡ b → contains nat_cmp old q ≡ (if told.pid == q then true else contains nat_cmp old q)
    by q true e = rw e (subst (λ (x : ℕ). contains nat_cmp old x ≡ true) (eqb-true told.pid q e) is)
    by q false e = rw e refl

-- so they are as many
pub unmade_same : (old : BTreeSet ℕ) (made : List Made) (told : Told) (tolds : List Told) (count : ℕ) → HasKnown old made tolds
    → count ≡ within_32_bits (unmade made tolds) → contains nat_cmp old told.pid ≡ true → count ≡ within_32_bits (unmade made (told ∷ tolds))
unmade_same old made told tolds count k h e =
    h ∙ sym (ap (λ (b : Bool). within_32_bits (if b then unmade made tolds else unmade made tolds + 1)) (sym (k told.pid) ∙ e))

-- a line of another number
pub unmade_more : (old : BTreeSet ℕ) (made : List Made) (told : Told) (tolds : List Told) (count new : ℕ) → HasKnown old made tolds
    → count ≡ within_32_bits (unmade made tolds) → new ≡ within_32_bits (count + 1) → contains nat_cmp old told.pid ≡ false
    → new ≡ within_32_bits (unmade made (told ∷ tolds))
unmade_more old made told tolds count new k h n e =
    n ∙ ap (λ (x : ℕ). within_32_bits (x + 1)) h ∙ still (unmade made tolds)
    ∙ sym (ap (λ (b : Bool). within_32_bits (if b then unmade made tolds else unmade made tolds + 1)) (sym (k told.pid) ∙ e))
  where
    still : (a : ℕ) → within_32_bits (within_32_bits a + 1) ≡ within_32_bits (a + 1)
    still a = omega arith

-- no line was looked at
pub unmade_none : (known : BTreeSet ℕ) (made : List Made) (lines : List Numbered) (count : ℕ) → lines ≡ [] → HasKnown known made [] → count ≡ 0
    → (tolds : List Told) → AreTold lines tolds → HasKnown known made tolds × (count ≡ within_32_bits (unmade made tolds))
unmade_none known made lines count e k z tolds h = by tolds (subst (λ (x : List Numbered). AreTold x tolds) e h)
  where
    by : (tolds : List Told) → AreTold [] tolds → HasKnown known made tolds × (count ≡ within_32_bits (unmade made tolds))
    by tolds all_told = (k, omega (arith, z))

-- a line more
pub unmade_step : (old new : BTreeSet ℕ) (made : List Made) (line : Numbered) (done : List Numbered) (told : Told) (count next : ℕ) → Tells line.text told
    → ((tolds : List Told) → AreTold done tolds → HasKnown old made tolds × (count ≡ within_32_bits (unmade made tolds)))
    → ((all : List Made) (tolds : List Told) → HasKnown old all tolds → HasKnown new all (told ∷ tolds))
    → ((all : List Made) (tolds : List Told) → HasKnown old all tolds → count ≡ within_32_bits (unmade all tolds)
    → next ≡ within_32_bits (unmade all (told ∷ tolds)))
    → (tolds : List Told) → AreTold (line ∷ done) tolds → HasKnown new made tolds × (next ≡ within_32_bits (unmade made tolds))
unmade_step old new made line done told count next tells h k n ts (line_told {told = t} {tolds = us} tell more) =
    let s = h us more in
    subst (λ (x : Told). HasKnown new made (x ∷ us) × (next ≡ within_32_bits (unmade made (x ∷ us)))) (tells_one line.text told t tells tell)
    (k made us s.0, n made us s.0 s.1)

-- a link more, whose number has a line
pub silent_same : (link : Made) (done : List Made) (tolds : List Told) (count : ℕ) → count ≡ within_32_bits (silent done tolds)
    → speaks link.child tolds ≡ true → count ≡ within_32_bits (silent (link ∷ done) tolds)
silent_same link done tolds count h e =
    h ∙ sym (ap (λ (b : Bool). within_32_bits (if b then silent done tolds else silent done tolds + 1)) e)

-- one whose number has none
pub silent_more : (link : Made) (done : List Made) (tolds : List Told) (count new : ℕ) → count ≡ within_32_bits (silent done tolds)
    → new ≡ within_32_bits (count + 1) → speaks link.child tolds ≡ false → new ≡ within_32_bits (silent (link ∷ done) tolds)
silent_more link done tolds count new h n e =
    n ∙ ap (λ (x : ℕ). within_32_bits (x + 1)) h ∙ still (silent done tolds)
    ∙ sym (ap (λ (b : Bool). within_32_bits (if b then silent done tolds else silent done tolds + 1)) e)
  where
    still : (a : ℕ) → within_32_bits (within_32_bits a + 1) ≡ within_32_bits (a + 1)
    still a = omega arith
