-- One text more is looked at: which first halves wait behind it, and what it is to its other half. It changes the role
-- of one text at most, of the first half that it is the second of.
use Rattle.std.proofs.Common.{◌≡◌, ◌≢◌, ◌⊎◌, ℕ, zero, suc, ◌+◌, ◌<◌, ◌≤◌, List, [], ◌∷◌, ◌++◌, length, take, drop, get_or, true, false, Option, Some, None, refl, sym, ap, subst, ◌∙◌, inl, inr, arith}
use Rattle.std.specs.Prelude.{◌==◌, option_and_then, option_map, unwrap_or, slice_get, slice_set, Result, Ok}
use Rattle.std.specs.BTreeMap.{get}
use Rattle.std.specs.Ordering.{nat_cmp}
use Rattle.std.proofs.lemmas.Bool.{eqb-true, eq-eqb}
use Rattle.std.proofs.lemmas.Bool.Decides.{eqb_tells}
use Rattle.std.proofs.lemmas.List.{length-append, take_more, take_all}
use Rattle.line_parts.proofs.Leaves.{bool_cases}
use Rattle.strace_reader.specs.declared.item.Item.{Item}
use Rattle.strace_reader.specs.declared.item.Item.TheVariants.{Unfinished, Resumed}
use Rattle.strace_reader.specs.declared.item.Name.{Name}
use Rattle.strace_reader.specs.Grammar.{Spells}
use Rattle.raw_logs.specs.Log.{Numbered, Each, line_of}
use Rattle.raw_logs.proofs.MadeLines.{each_more}
use Rattle.raw_trace.specs.declared.halves.Finder.{Finder}
use Rattle.raw_trace.specs.declared.halves.Role.{Role}
use Rattle.raw_trace.specs.declared.halves.Role.TheVariants.{Alone, First, Second}
use Rattle.raw_trace.specs.declared.halves.Waiting.{Waiting}
use Rattle.raw_trace.specs.Places.{HasReading, ReadText, IsReadText, is_of, nearest, name_number, joined, Whole, Front, Back, part}
use Rattle.raw_trace.specs.Stages.{IsRole, HaveRoles, AreRoles, begun_by, waiting_in, fed_by, Finds, FindsRole}
use Rattle.raw_trace.proofs.ReadTexts.{name_one, self_is, near_of, near_past, near_there, near_behind, IsNoSecond, no_second, IsUnmet, part_more}

-- ---- texts behind others

-- those of two lists
pub fed_both : (fed a b : List ReadText) → fed_by fed (a ++ b) ≡ fed_by (fed_by fed a) b
fed_both fed [] b = refl
fed_both fed (x ∷ a) b = fed_both (x ∷ fed) a b

-- they are as many
pub fed_length : (fed a : List ReadText) → length (fed_by fed a) ≡ length fed + length a
fed_length fed [] = omega arith
fed_length fed (x ∷ a) = let k = fed_length (x ∷ fed) a in omega arith

get_more : (xs ys : List ReadText) (k : ℕ) (x : ReadText) → slice_get xs k ≡ Some x → slice_get (xs ++ ys) k ≡ Some x
get_more [] ys k x e = absurd cc
get_more (z ∷ xs) ys zero x e = e
get_more (z ∷ xs) ys (suc k) x e = get_more xs ys k x e

-- the text behind so many is there
pub get_there : (xs ys : List ReadText) (x : ReadText) → slice_get (xs ++ (x ∷ ys)) (length xs) ≡ Some x
get_there [] ys x = refl
get_there (z ∷ xs) ys x = get_there xs ys x

-- ---- roles of texts with one more

-- the last text is the second half of none of these
abbrev pub NoneMet : List ReadText → ReadText → Type 0
NoneMet [] last = Unit {0}
NoneMet (x ∷ later) last = IsUnmet x later last × NoneMet later last

role_more : (all fed : List ReadText) (x : ReadText) (later : List ReadText) (last : ReadText) (role : Role) → IsUnmet x later last
    → IsRole all fed x later role → IsRole (all ++ (last ∷ [])) fed x (later ++ (last ∷ [])) role
role_more all fed x later last Alone n h = part_more fed x later last n ∙ h
role_more all fed x later last (First other to behind) n h =
    (h.0, get_more all (last ∷ []) other h.0 h.1, h.2, h.3, h.4, h.5, h.6, h.7, part_more fed x later last n ∙ h.8, h.9)
role_more all fed x later last (Second p) n h = part_more fed x later last n ∙ h

roles_more : (all fed xs : List ReadText) (last : ReadText) (roles : List Role) (role : Role) → NoneMet xs last → HaveRoles all fed xs roles
    → IsRole (all ++ (last ∷ [])) (fed_by fed xs) last [] role → HaveRoles (all ++ (last ∷ [])) fed (xs ++ (last ∷ [])) (roles ++ (role ∷ []))
roles_more all fed [] last [] role n h r = (r, tt)
roles_more all fed (x ∷ xs) last (s ∷ roles) role n h r =
    (role_more all fed x xs last s n.0 h.0, roles_more all (x ∷ fed) xs last roles role n.1 h.1 r)
roles_more all fed xs last roles role n h r = absurd h

-- behind a first half whose second the last text is, none is met
abbrev IsOnlyOf : ℕ → ReadText → Type 0
IsOnlyOf p last = (q : ℕ) → is_of q last.reading ≡ true → q ≡ p

quiet_unmet : (p : ℕ) (xs : List ReadText) (last : ReadText) → IsOnlyOf p last → nearest p xs ≡ None → NoneMet xs last
quiet_unmet p [] last only e = tt
quiet_unmet p (x ∷ xs) last only e = elim (bool_cases (is_of p x.reading)) [
  | inl k ↦ absurd (near_there p [] x xs k e)
  | inr k ↦ (
    (λ q t none l.
        absurd (near_there p [] x xs (subst (λ (z : ℕ). is_of z x.reading ≡ true) (only q l) t) e)),
    quiet_unmet p xs last only (sym (near_past p x xs k) ∙ e),
  )
]

-- the first half at its place has another role
roles_met : (all fed a : List ReadText) (x : ReadText) (b : List ReadText) (last : ReadText) (roles : List Role) (p : ℕ) (first second : Role)
    → is_of p x.reading ≡ true → nearest p b ≡ None → IsOnlyOf p last → HaveRoles all fed (a ++ (x ∷ b)) roles
    → IsRole (all ++ (last ∷ [])) (fed_by fed a) x (b ++ (last ∷ [])) first
    → IsRole (all ++ (last ∷ [])) (fed_by fed (a ++ (x ∷ b))) last [] second
    → HaveRoles (all ++ (last ∷ [])) fed ((a ++ (x ∷ b)) ++ (last ∷ [])) (slice_set roles (length a) first ++ (second ∷ []))
roles_met all fed [] x b last (r ∷ roles) p first second t none only h f s =
    (f, roles_more all (x ∷ fed) b last roles second (quiet_unmet p b last only none) h.1 s)
roles_met all fed (y ∷ a) x b last (r ∷ roles) p first second t none only h f s = (
  role_more all fed y (a ++ (x ∷ b)) last r
      (λ q u e l. absurd (near_there q a x b (subst (λ (z : ℕ). is_of z x.reading ≡ true) (sym (only q l)) t) e)) h.0,
  roles_met all (y ∷ fed) a x b last roles p first second t none only h.1 f s,
)
roles_met all fed a x b last roles p first second t none only h f s = absurd h

-- ---- first halves that wait

-- a first half that waits is one of these texts, or it was before them
data WaitsIn (p : ℕ) (fed xs : List ReadText) (w : Waiting) : Type 0 where
  waits_among : (a : List ReadText) (x : ReadText) (b : List ReadText) → xs ≡ a ++ (x ∷ b) → begun_by (length fed + length a) x.reading ≡ Some w →
      is_of p x.reading ≡ true → nearest p b ≡ None → WaitsIn p fed xs w
  waits_before : waiting_in p fed ≡ Some w → nearest p xs ≡ None → WaitsIn p fed xs w

waits_in : (p : ℕ) (fed xs : List ReadText) (w : Waiting) → waiting_in p (fed_by fed xs) ≡ Some w → WaitsIn p fed xs w
waits_in p fed [] w e = waits_before e refl
waits_in p fed (x ∷ xs) w e = by (waits_in p (x ∷ fed) xs w e)
  where
    here : waiting_in p (x ∷ fed) ≡ Some w → nearest p xs ≡ None → WaitsIn p fed (x ∷ xs) w
    here h none = elim (bool_cases (is_of p x.reading)) [
      | inl t ↦
          let at : length fed ≡ length fed + length {A = ReadText} [] = omega arith in
          let is : waiting_in p (x ∷ fed) ≡ begun_by (length fed) x.reading = rw t refl in
          waits_among [] x xs refl (ap (λ (n : ℕ). begun_by n x.reading) (sym at) ∙ sym is ∙ h) t none
      | inr f ↦
          let is : waiting_in p (x ∷ fed) ≡ waiting_in p fed = rw f refl in
          waits_before (sym is ∙ h) (near_past p x xs f ∙ none)
    ]

    by : WaitsIn p (x ∷ fed) xs w → WaitsIn p fed (x ∷ xs) w
    by (waits_among a y b parts begun t none) =
        let at : length (x ∷ fed) + length a ≡ length fed + length (x ∷ a) = omega arith in
        waits_among (x ∷ a) y b (ap (λ (z : List ReadText). x ∷ z) parts) (ap (λ (n : ℕ). begun_by n y.reading) (sym at) ∙ begun) t none
    by (waits_before h none) = here h none

-- behind texts of others the same waits
waits_on : (p : ℕ) (fed xs : List ReadText) → nearest p xs ≡ None → waiting_in p (fed_by fed xs) ≡ waiting_in p fed
waits_on p fed [] e = refl
waits_on p fed (x ∷ xs) e = elim (bool_cases (is_of p x.reading)) [
  | inl t ↦ absurd (near_there p [] x xs t e)
  | inr f ↦
      let is : waiting_in p (x ∷ fed) ≡ waiting_in p fed = rw f refl in
      waits_on p (x ∷ fed) xs (sym (near_past p x xs f) ∙ e) ∙ is
]

-- the parts of a first half that waits
record Begun (place : ℕ) (reading : Result Item ℕ) (w : Waiting) : Type 0 where
  -- its process
  pub process : ℕ
  -- where its name begins
  pub from : ℕ
  -- it is one
  pub is : reading ≡ Ok (Unfinished process w.name from w.to)
  -- its place
  pub at : w.place ≡ place

begun_parts : (place : ℕ) (reading : Result Item ℕ) (w : Waiting) → begun_by place reading ≡ Some w → Begun place reading w
begun_parts place (Ok (Unfinished p n from to)) w e =
    let s : ◌≡◌ {A = Waiting} (record { place = place; to = to; name = n }) w = cc in
    record {
      process = p;
      from = from;
      is = ap (λ (v : Waiting). Ok (Unfinished p v.name from v.to)) s;
      at = ap (λ (v : Waiting). v.place) (sym s);
    }
begun_parts place reading w e = absurd cc

-- ---- a second half

-- no first half of this name begins there
abbrev IsOtherName : Name → Option Waiting → Type 0
IsOtherName n o = (w : Waiting) → o ≡ Some w → w.name ≢ n

apart_joined : (place : ℕ) (first : List ℕ) (reading : Result Item ℕ) (second : List ℕ) (p b : ℕ) (n : Name) → IsOtherName n (begun_by place reading)
    → joined first reading second (Ok (Resumed p n b)) ≡ None
apart_joined place first (Ok (Unfinished q m from to)) second p b n h = elim (bool_cases (name_number m == name_number n)) [
  | inl t ↦ absurd (h (record { place = place; to = to; name = m }) refl (name_one m n t))
  | inr f ↦ rw f refl
]
apart_joined place first reading second p b n h = refl

-- the process of a second half
resumed_of : (q p b : ℕ) (n : Name) (reading : Result Item ℕ) → reading ≡ Ok (Resumed p n b) → is_of q reading ≡ true → q ≡ p
resumed_of q p b n reading e t = sym (eqb-true p q (ap (is_of q) (sym e) ∙ t))

-- no text is met by a second half that none waits for
none_met : (fed xs : List ReadText) (last : ReadText) (p b : ℕ) (n : Name) → last.reading ≡ Ok (Resumed p n b)
    → IsOtherName n (waiting_in p (fed_by fed xs)) → NoneMet xs last
none_met fed [] last p b n e h = tt
none_met fed (x ∷ xs) last p b n e h = (
  (λ q t none l.
      let same : q ≡ p = resumed_of q p b n last.reading e l in
      let mine : is_of p x.reading ≡ true = subst (λ (z : ℕ). is_of z x.reading ≡ true) same t in
      let is : waiting_in p (x ∷ fed) ≡ begun_by (length fed) x.reading = rw mine refl in
      let on = waits_on p (x ∷ fed) xs (subst (λ (z : ℕ). nearest z xs ≡ None) same none) in
      ap (λ (r : Result Item ℕ). joined x.line.text x.reading last.line.text r) e
      ∙ apart_joined (length fed) x.line.text x.reading last.line.text p b n (λ w g. h w (on ∙ is ∙ g))),
  none_met (x ∷ fed) xs last p b n e h,
)

-- it stands alone
alone_second : (fed : List ReadText) (second : List ℕ) (p b : ℕ) (n : Name) → IsOtherName n (waiting_in p fed)
    → option_and_then (λ f. joined f.line.text f.reading second (Ok (Resumed p n b))) (nearest p fed) ≡ None
alone_second [] second p b n h = refl
alone_second (x ∷ fed) second p b n h = elim (bool_cases (is_of p x.reading)) [
  | inl t ↦
      let is : waiting_in p (x ∷ fed) ≡ begun_by (length fed) x.reading = rw t refl in
      rw t (apart_joined (length fed) x.line.text x.reading second p b n (λ w g. h w (is ∙ g)))
  | inr f ↦
      let is : waiting_in p (x ∷ fed) ≡ waiting_in p fed = rw f refl in
      rw f (alone_second fed second p b n (λ w g. h w (is ∙ g)))
]

-- the line of two halves of one name
joined_is : (first : List ℕ) (reading : Result Item ℕ) (second : List ℕ) (q from to p b : ℕ) (m n : Name) → reading ≡ Ok (Unfinished q m from to) → m ≡ n
    → joined first reading second (Ok (Resumed p n b)) ≡ Some (take to first ++ drop b second)
joined_is first reading second q from to p b m n e same =
    let k : (name_number m == name_number n) ≡ true = eq-eqb (name_number m) (name_number n) (ap name_number same) in
    ap (λ (r : Result Item ℕ). joined first r second (Ok (Resumed p n b))) e ∙ rw k refl

-- one that the nearest text before is the first half of
second_met : (fed : List ReadText) (second : List ℕ) (p b : ℕ) (n : Name) (w : Waiting) → waiting_in p fed ≡ Some w → w.name ≡ n
    → (line : List ℕ) × (option_and_then (λ f. joined f.line.text f.reading second (Ok (Resumed p n b))) (nearest p fed) ≡ Some line)
second_met [] second p b n w e same = absurd cc
second_met (x ∷ fed) second p b n w e same = elim (bool_cases (is_of p x.reading)) [
  | inl t ↦
      let is : waiting_in p (x ∷ fed) ≡ begun_by (length fed) x.reading = rw t refl in
      let g = begun_parts (length fed) x.reading w (sym is ∙ e) in (
        take w.to x.line.text ++ drop b second,
        rw t (joined_is x.line.text x.reading second g.process g.from w.to p b w.name n g.is same),
      )
  | inr f ↦
      let is : waiting_in p (x ∷ fed) ≡ waiting_in p fed = rw f refl in
      let r = second_met fed second p b n w (sym is ∙ e) same in
      let k : ReadText → Option (List ℕ) = λ y. joined y.line.text y.reading second (Ok (Resumed p n b)) in
      (r.0, ap (λ (o : Option ReadText). option_and_then k o) (near_past p x fed f) ∙ r.1)
]

-- its line
first_read : (fed : List ReadText) (line : Numbered) (b : List ReadText) (after : Numbered) (p from to k : ℕ) (m n : Name) → m ≡ n → nearest p b ≡ None
    → part fed (record { line = line; reading = Ok (Unfinished p m from to) }) (b ++ (record { line = after; reading = Ok (Resumed p n k) } ∷ []))
    (Ok (Unfinished p m from to)) ≡ Front (take to line.text ++ drop k after.text)
first_read fed line b after p from to k m n same none =
    let last : ReadText = record { line = after; reading = Ok (Resumed p n k) } in
    let near : nearest p (b ++ (last ∷ [])) ≡ Some last = near_behind p b (last ∷ []) none ∙ near_of p last [] (self_is p) in
    let names : (name_number m == name_number n) ≡ true = eq-eqb (name_number m) (name_number n) (ap name_number same) in
    rw (self_is p) (rw near (rw names refl))

first_part : (fed : List ReadText) (x : ReadText) (b : List ReadText) (after : Numbered) (p from to k : ℕ) (m n : Name)
    → x.reading ≡ Ok (Unfinished p m from to) → m ≡ n → nearest p b ≡ None
    → part fed x (b ++ (record { line = after; reading = Ok (Resumed p n k) } ∷ [])) x.reading ≡ Front (take to x.line.text ++ drop k after.text)
first_part fed x b after p from to k m n e same none =
    let whole : ◌≡◌ {A = ReadText} x (record { line = x.line; reading = Ok (Unfinished p m from to) }) = λ i. record { line = x.line; reading = e i } in
    subst (λ (z : ReadText). part fed z (b ++ (record { line = after; reading = Ok (Resumed p n k) } ∷ [])) z.reading
    ≡ Front (take to z.line.text ++ drop k after.text)) (sym whole) (first_read fed x.line b after p from to k m n same none)

-- ---- what a finder holds behind a text

none_second : (xs : List ReadText) (last : ReadText) → IsNoSecond last.reading → NoneMet xs last
none_second [] last h = tt
none_second (x ∷ xs) last h = ((λ q t none l. no_second x.line.text x.reading last.line.text last.reading h), none_second xs last h)

-- the last text is alone then
alone_last : (fed : List ReadText) (line : Numbered) (r : Result Item ℕ) → IsNoSecond r → part fed (record { line = line; reading = r }) [] r ≡ Whole
alone_last fed line (Ok (Unfinished p n from to)) h = rw (self_is p) refl
alone_last fed line (Ok (Resumed p n b)) h = absurd h
alone_last fed line r h = refl

-- there is a role for each text
pub have_count : (all fed xs : List ReadText) (roles : List Role) → HaveRoles all fed xs roles → length roles ≡ length xs
have_count all fed [] [] h = refl
have_count all fed (x ∷ xs) (r ∷ roles) h = ap suc (have_count all (x ∷ fed) xs roles h.1)
have_count all fed xs roles h = absurd h

-- the text was looked at, whatever its number is
abbrev pub FoundSo : Finder → List ReadText → ℕ → List ℕ → Role → Type 0
FoundSo new before number text role = (one : ReadText) × IsReadText (line_of number text) one × FindsRole new (before ++ (one ∷ [])) role

-- the first half that waits for each process
abbrev WaitsAs : Finder → List ReadText → Type 0
WaitsAs finder fed = (q : ℕ) → get nat_cmp finder.waiting q ≡ waiting_in q fed

found : (new : Finder) (before : List ReadText) (number : ℕ) (text : List ℕ) (reading : Result Item ℕ) (role : Role) → HasReading text reading
    → HaveRoles (before ++ (record { line = line_of number text; reading = reading } ∷ [])) []
    (before ++ (record { line = line_of number text; reading = reading } ∷ [])) (new.roles ++ (role ∷ []))
    → WaitsAs new (record { line = line_of number text; reading = reading } ∷ fed_by [] before) → FoundSo new before number text role
found new before number text reading role s h w =
    let last : ReadText = record { line = line_of number text; reading = reading } in (
      last,
      (refl, s),
      record { roles = h; waits = λ q. w q ∙ ap (waiting_in q) (sym (fed_both [] before (last ∷ []))) },
    )

-- a text that is no second half changes no role
pub role_alone : (old new : Finder) (before : List ReadText) (number : ℕ) (text : List ℕ) (reading : Result Item ℕ) → Finds old before
    → HasReading text reading → IsNoSecond reading → new.roles ≡ old.roles
    → WaitsAs new (record { line = line_of number text; reading = reading } ∷ fed_by [] before) → FoundSo new before number text Alone
role_alone old new before number text reading f s never e w =
    let last : ReadText = record { line = line_of number text; reading = reading } in
    found new before number text reading Alone s
    (subst (λ (x : List Role). HaveRoles (before ++ (last ∷ [])) [] (before ++ (last ∷ [])) (x ++ (Alone ∷ []))) (sym e)
    (roles_more before [] before last old.roles Alone (none_second before last never) f.roles
    (alone_last (fed_by [] before) (line_of number text) reading never))) w

-- which first half waits behind a text of a process
ended : (old new : Finder) (fed : List ReadText) (line : Numbered) (reading : Result Item ℕ) (p : ℕ) (o : Option Waiting) → WaitsAs old fed
    → get nat_cmp new.waiting p ≡ o → ((q : ℕ) → q ≢ p → get nat_cmp new.waiting q ≡ get nat_cmp old.waiting q)
    → begun_by (length fed) reading ≡ o → ((q : ℕ) → is_of q reading ≡ (p == q)) → WaitsAs new (record { line = line; reading = reading } ∷ fed)
ended old new fed line reading p o waits got others begun is q = elim (eqb_tells p q) [
  | inl h ↦
      let t : is_of q reading ≡ true = is q ∙ h.0 in
      rw t (ap (λ (x : ℕ). get nat_cmp new.waiting x) (sym h.1) ∙ got ∙ sym begun)
  | inr h ↦
      let f : is_of q reading ≡ false = is q ∙ h.0 in
      rw f (others q (λ e. h.1 (sym e)) ∙ waits q)
]

-- a text of a process that is no second half
pub role_of_process : (old new : Finder) (before : List ReadText) (number : ℕ) (text : List ℕ) (reading : Result Item ℕ) (p : ℕ) (o : Option Waiting)
    → Finds old before → HasReading text reading → IsNoSecond reading → new.roles ≡ old.roles → get nat_cmp new.waiting p ≡ o
    → ((q : ℕ) → q ≢ p → get nat_cmp new.waiting q ≡ get nat_cmp old.waiting q) → begun_by (length old.roles) reading ≡ o
    → ((q : ℕ) → is_of q reading ≡ (p == q)) → FoundSo new before number text Alone
role_of_process old new before number text reading p o f s never e got others begun is =
    let k = fed_length [] before in
    let l = have_count before [] before old.roles f.roles in
    let many : length (fed_by [] before) ≡ length old.roles = omega arith in
    role_alone old new before number text reading f s never e
    (ended old new (fed_by [] before) (line_of number text) reading p o f.waits got others
    (ap (λ (n : ℕ). begun_by n reading) many ∙ begun) is)

-- a first half waits
pub role_begins : (old new : Finder) (before : List ReadText) (number : ℕ) (text : List ℕ) (p place : ℕ) (n : Name) (from to : ℕ) → Finds old before
    → place ≡ length old.roles → Spells text (Unfinished p n from to) → new.roles ≡ old.roles
    → get nat_cmp new.waiting p ≡ Some (record { place = place; to = to; name = n })
    → ((q : ℕ) → q ≢ p → get nat_cmp new.waiting q ≡ get nat_cmp old.waiting q) → FoundSo new before number text Alone
role_begins old new before number text p place n from to f pl s e put others =
    role_of_process old new before number text (Ok (Unfinished p n from to)) p (Some (record { place = place; to = to; name = n })) f s tt e put others
    (ap (λ (k : ℕ). Some (record { place = k; to = to; name = n })) (sym pl)) (λ q. refl)

-- what is found of a second half: no first half of its name waits, or one does
abbrev pub IsResumedSo : Finder → Finder → ℕ → Name → ℕ → ℕ → Role → Type 0
IsResumedSo old new p n place behind role =
    (((first : Waiting) → get nat_cmp old.waiting p ≡ Some first → first.name ≢ n) × (role ≡ Alone) × (new.roles ≡ old.roles))
    ⊎ ((first : Waiting) × (get nat_cmp old.waiting p ≡ Some first) × (first.name ≡ n)
    × (role ≡ Second p) × (new.roles ≡ slice_set old.roles first.place (First place first.to behind)))

-- the texts with one more have these roles
abbrev HaveWith : List ReadText → ReadText → List Role → Type 0
HaveWith before last roles = HaveRoles (before ++ (last ∷ [])) [] (before ++ (last ∷ [])) roles

-- a second half as it is read
abbrev second_text : ℕ → List ℕ → ℕ → Name → ℕ → ReadText
second_text number text p n behind = record { line = line_of number text; reading = Ok (Resumed p n behind) }

-- it and its first half have their roles
resumed_met : (before : List ReadText) (roles : List Role) (number : ℕ) (text : List ℕ) (p place : ℕ) (n : Name) (behind : ℕ) (w : Waiting)
    → HaveRoles before [] before roles → place ≡ length roles → waiting_in p (fed_by [] before) ≡ Some w → w.name ≡ n → WaitsIn p [] before w
    → HaveWith before (second_text number text p n behind) (slice_set roles w.place (First place w.to behind) ++ (Second p ∷ []))
resumed_met before roles number text p place n behind w f pl e same (waits_before h none) = absurd cc
resumed_met before roles number text p place n behind w f pl e same (waits_among a x b parts begun t none) =
    let fed = fed_by [] before in
    let last = second_text number text p n behind in
    let g = begun_parts (0 + length a) x.reading w begun in
    let at : w.place ≡ length a = let k = g.at in omega arith in
    let own : g.process ≡ p = eqb-true g.process p (ap (is_of p) (sym g.is) ∙ t) in
    let is : x.reading ≡ Ok (Unfinished p w.name g.from w.to) = g.is ∙ ap (λ (q : ℕ). Ok (Unfinished q w.name g.from w.to)) own in
    let there : slice_get (before ++ (last ∷ [])) place ≡ Some last =
    ap (λ (k : ℕ). slice_get (before ++ (last ∷ [])) k) (pl ∙ have_count before [] before roles f) ∙ get_there before [] last in
    let back = second_met fed text p behind n w e same in
    let second : part fed last [] (Ok (Resumed p n behind)) ≡ Back p =
    rw (self_is p) (ap (λ (o : Option (List ℕ)). unwrap_or (option_map (λ line. Back p) o) Whole) back.1) in
    let many : length (fed_by [] a) < place =
    let k = fed_length [] a in
    let l = ap length parts in
    let m = length-append a (x ∷ b) in
    let c = have_count before [] before roles f in
    omega arith in
    let r = roles_met before [] a x b last roles p (First place w.to behind) (Second p) t none (λ q u. sym (eqb-true p q u))
    (subst (λ (z : List ReadText). HaveRoles before [] z roles) parts f) (
      last,
      there,
      p,
      g.from,
      w.name,
      n,
      is,
      refl,
      first_part (fed_by [] a) x b (line_of number text) p g.from w.to behind w.name n is same none,
      many,
    )
    (subst (λ (z : List ReadText). part (fed_by [] z) last [] (Ok (Resumed p n behind)) ≡ Back p) parts second) in
    subst (λ (k : ℕ). HaveWith before last (slice_set roles k (First place w.to behind) ++ (Second p ∷ []))) (sym at)
    (subst (λ (z : List ReadText). HaveRoles (before ++ (last ∷ [])) [] (z ++ (last ∷ []))
    (slice_set roles (length a) (First place w.to behind) ++ (Second p ∷ []))) (sym parts) r)

-- a second half that none waits for is alone
resumed_alone : (before : List ReadText) (roles : List Role) (number : ℕ) (text : List ℕ) (p : ℕ) (n : Name) (behind : ℕ)
    → HaveRoles before [] before roles → IsOtherName n (waiting_in p (fed_by [] before))
    → HaveWith before (second_text number text p n behind) (roles ++ (Alone ∷ []))
resumed_alone before roles number text p n behind f none =
    let fed = fed_by [] before in
    let last = second_text number text p n behind in
    let alone : part fed last [] (Ok (Resumed p n behind)) ≡ Whole =
    rw (self_is p) (ap (λ (o : Option (List ℕ)). unwrap_or (option_map (λ line. Back p) o) Whole) (alone_second fed text p behind n none)) in
    roles_more before [] before last roles Alone (none_met [] before last p behind n refl none) f alone

-- a second half has its role, and its first half too
pub role_resumed : (old new : Finder) (before : List ReadText) (number : ℕ) (text : List ℕ) (p place : ℕ) (n : Name) (behind : ℕ) (role : Role)
    → Finds old before → place ≡ length old.roles → Spells text (Resumed p n behind) → IsResumedSo old new p n place behind role
    → get nat_cmp new.waiting p ≡ None → ((q : ℕ) → q ≢ p → get nat_cmp new.waiting q ≡ get nat_cmp old.waiting q)
    → FoundSo new before number text role
role_resumed old new before number text p place n behind role f pl s so gone others =
    found new before number text (Ok (Resumed p n behind)) role s (by so)
    (ended old new (fed_by [] before) (line_of number text) (Ok (Resumed p n behind)) p None f.waits gone others refl (λ q. refl))
  where
    by : IsResumedSo old new p n place behind role → HaveWith before (second_text number text p n behind) (new.roles ++ (role ∷ []))
    by (inl h) =
        let r = resumed_alone before old.roles number text p n behind f.roles (λ w e. h.0 w (f.waits p ∙ e)) in
        subst (λ (x : Role). HaveWith before (second_text number text p n behind) (new.roles ++ (x ∷ []))) (sym h.1)
        (subst (λ (x : List Role). HaveWith before (second_text number text p n behind) (x ++ (Alone ∷ []))) (sym h.2) r)
    by (inr h) =
        let e : waiting_in p (fed_by [] before) ≡ Some h.0 = sym (f.waits p) ∙ h.1 in
        let r = resumed_met before old.roles number text p place n behind h.0 f.roles pl e h.2 (waits_in p [] before h.0 e) in
        subst (λ (x : Role). HaveWith before (second_text number text p n behind) (new.roles ++ (x ∷ []))) (sym h.3)
        (subst (λ (x : List Role). HaveWith before (second_text number text p n behind) (x ++ (Second p ∷ []))) (sym h.4) r)

-- a first half that waits stands among the texts
pub waits_within : (old : Finder) (before : List ReadText) (p : ℕ) (first : Waiting) → Finds old before → get nat_cmp old.waiting p ≡ Some first
    → first.place < length old.roles
waits_within old before p first f e = by (waits_in p [] before first (sym (f.waits p) ∙ e))
  where
    by : WaitsIn p [] before first → first.place < length old.roles
    by (waits_before h none) = absurd cc
    by (waits_among a x b parts begun t none) =
        let k = (begun_parts (0 + length a) x.reading first begun).at in
        let l = ap length parts in
        let m = length-append a (x ∷ b) in
        let r = have_count before [] before old.roles f.roles in
        omega arith

-- no other role comes
pub found_count : (old new : Finder) (before : List ReadText) (number : ℕ) (text : List ℕ) (role : Role) → Finds old before
    → FoundSo new before number text role → length new.roles ≡ length old.roles
found_count old new before number text role f (one, read, h) =
    let k = have_count before [] before old.roles f.roles in
    let all = before ++ (one ∷ []) in
    let l = have_count all [] all (new.roles ++ (role ∷ [])) h.roles in
    let m = length-append new.roles (role ∷ []) in
    let n = length-append before (one ∷ []) in
    omega arith

-- the text has its role now
pub finds_more : (middle new : Finder) (before : List ReadText) (number : ℕ) (text : List ℕ) (role : Role) → FoundSo middle before number text role
    → new.roles ≡ middle.roles ++ (role ∷ []) → new.waiting ≡ middle.waiting
    → (one : ReadText) × IsReadText (line_of number text) one × Finds new (before ++ (one ∷ []))
finds_more middle new before number text role (one, read, f) e g =
    let all = before ++ (one ∷ []) in (
      one,
      read,
      record {
        roles = subst (HaveRoles all [] all) (sym e) f.roles;
        waits = λ q. ap (λ x. get nat_cmp x q) g ∙ f.waits q;
      },
    )

-- nothing was looked at
pub finds_none : (f : Finder) → f.roles ≡ [] → ((q : ℕ) → get nat_cmp f.waiting q ≡ None) → Finds f []
finds_none f e none = record { roles = subst (HaveRoles [] [] []) (sym e) tt; waits = none }

-- the line at a place is one more that was looked at
pub finds_line : (lines : List Numbered) (place number : ℕ) (text : List ℕ) (new : Finder) (before : List ReadText) → place < length lines
    → line_of number text ≡ get_or lines place (line_of number text) → Each IsReadText (take place lines) before
    → (one : ReadText) × IsReadText (line_of number text) one × Finds new (before ++ (one ∷ []))
    → (texts : List ReadText) × Each IsReadText (take (place + 1) lines) texts × Finds new texts
finds_line lines place number text new before l e reads (one, read, f) = (
  before ++ (one ∷ []),
  subst (λ (z : List Numbered). Each IsReadText z (before ++ (one ∷ [])))
      (sym (take_more lines place (line_of number text) l ∙ ap (λ (x : Numbered). take place lines ++ (x ∷ [])) (sym e)))
      (each_more IsReadText (take place lines) before (line_of number text) one reads read),
  f,
)

-- behind the last line each has its role
pub roles_found : (lines : List Numbered) (place : ℕ) (finder : Finder)
    → (texts : List ReadText) × Each IsReadText (take place lines) texts × Finds finder texts → length lines ≤ place → AreRoles lines finder.roles
roles_found lines place finder (texts, reads, f) l =
    record { texts = texts; reads = subst (λ (z : List Numbered). Each IsReadText z texts) (take_all place lines l) reads; have = f.roles }
