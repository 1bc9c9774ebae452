-- A step of a touch keeps the rule. A word that has a page keeps it, so what a call has looked at stays as it was; and
-- since a page has full words from its own place up to where it stands, a free word behind those that a call has looked
-- at shows that the page stands nowhere.
use Rattle.std.proofs.Common.{◌≡◌, ◌≢◌, ◌⊎◌, ℕ, ◌+◌, ◌-◌, ◌%◌, ◌<◌, ◌≤◌, Bool, true, false, List, [], ◌∷◌, ◌++◌, length, get_or, set, cond, eqb, sum_by}
use Rattle.std.proofs.Common.{Contains, Option, Some, None, refl, sym, ap, subst, ◌∙◌, inl, inr, ⊎_elim, arith, mod-lt, length-set, length-append}
use Rattle.std.proofs.Common.{get_or-set_same, get_or-set_other}
use Rattle.std.proofs.lemmas.Bool.Decides.{eqb_tells}
use Rattle.std.proofs.lemmas.List.{set-get_or}
use Rattle.std.proofs.lemmas.List.Sums.{sum_by-set, sum_by_push}
use Rattle.std.proofs.lemmas.List.Elements.{Contains-append_left, Contains-push, Contains-push_cases}
use prog.Atomic.{either}
use mathlib.Core.Option.{some}
use mathlib.Core.Logic.{dite}
use native.Mathlib.Decide.{dec_le, ℕ_discrete}
use lib.ListN.{get_elem?}
use Rattle.atomic_table.specs.Table.{Me, keeps, Allows}
use Rattle.atomic_table.proofs.Lists.{at_set, exchanged}
use Rattle.page_touch.specs.declared.records.SeatRecord.{SeatRecord}
use Rattle.page_touch.specs.declared.records.Looking.{Looking}
use Rattle.page_touch.specs.Touched.{Ruled, IsTouchTable, IsWithin, IsIn, IsOn, IsProbed, AreFull, AreOthers, quota_of, first_count, first_times, times, one_if}
use Rattle.page_touch.specs.Touched.{full_word}
use Rattle.page_touch.specs.Probes.{MayProbe, IsProbe, probe_play, after_probe, at_free, seen, wrote, stayed, passed, count_of, IsFor}
use Rattle.page_touch.specs.Starting.{sum_after}
use Rattle.page_touch.proofs.Counting.{one_other, one_behind, full_some, full_none, all_full, sums_strict}

-- ---- places in a ring

-- one place is so many words on
pub one_place : (room s d i j : ℕ) → i < room → j < room → IsOn room s d i → IsOn room s d j → i ≡ j
one_place room s d i j a b p q = ⊎_elim (λ x. ⊎_elim (λ y. omega arith) (λ y. omega arith) q) (λ x. ⊎_elim (λ y. omega arith) (λ y. omega arith) q) p

-- each place is some words on
pub some_words_on : (room s i : ℕ) → s < room → i < room → (d : ℕ) × (d < room) × IsOn room s d i
some_words_on room s i a b = dite (dec_le s i) (λ le. (i - s, omega arith, inl (omega arith))) (λ no. ((i + room) - s, omega arith, inr (omega arith)))

-- ---- what a call knows

module _ {room total : ℕ} {words : List ℕ} {views : List SeatRecord} (r : Ruled room total words views) (page k i : ℕ) (others : AreOthers room words page k)
    (low : k < room) (within : i < room) (on : IsOn room (page % room) k i) where
  -- a free word behind the others shows that the page stands nowhere
  pub nowhere : get_or words i 0 ≡ 0 → (j : ℕ) → j < room → get_or words j 0 ≡ page + 1 → ⊥
  nowhere free j lt is =
      let p = r.probed j page lt is in let b = p.below in
      dite (ℕ_discrete p.count k) (λ e. let same : j ≡ i = one_place room (page % room) k j i lt within (subst (λ d. IsOn room (page % room) d j) e p.on) on in
      let z : page + 1 ≡ 0 = sym is ∙ (ap (λ n. get_or words n 0) same ∙ free) in omega arith) (λ differ. dite (dec_le p.count k)
      (λ le. (others j p.count lt (omega arith) p.on).1 is) (λ no. p.full i k within (omega arith) on free))

  -- where another page stands there too, there are words left: every word would be full otherwise
  pub words_left : (id : ℕ) (v : SeatRecord) → get_elem? views id ≡ some v → length v.touched < v.quota → get_or words i 0 ≢ 0 → k + 1 < room
  words_left id v at left other = dite (dec_le (k + 2) room) (λ le. omega arith) (λ no. let ring = mod-lt page r.some_room in
      let every : (j : ℕ) → j < length words → get_or words j 0 ≢ 0 = λ j lt.
      let wide = r.wide in let d = some_words_on room (page % room) j ring (omega arith) in let dl = d.1 in
      dite (ℕ_discrete d.0 k) (λ e. subst (λ n. get_or words n 0 ≢ 0) (sym (one_place room (page % room) k j i (omega arith) within
      (subst (λ n. IsOn room (page % room) n j) e d.2) on)) other) (λ differ. (others j d.0 (omega arith) (omega arith) d.2).0) in
      let f = all_full words every in let w = r.within id v at in let w1 = w.firsts in
      let s = sums_strict first_count quota_of views id v at (omega arith) (λ n u e. let x = r.within n u e in
      let x1 = x.firsts in let x2 = x.quota in omega arith) in
      let e1 = r.full in let e2 = r.shares in let e3 = r.enough in let e4 = r.wide in absurd (omega arith))

-- ---- a step that changes no word

-- a step that changes no word keeps the rule, where what belongs to its seat is still right
pub view_only : {room total : ℕ} {words : List ℕ} {views : List SeatRecord} (id : ℕ) (v w : SeatRecord) → Ruled room total words views
    → get_elem? views id ≡ some v → w.quota ≡ v.quota → w.firsts ≡ v.firsts → IsWithin w
    → ((l : Looking) → w.looking ≡ Some l → AreOthers room words l.page l.count) → ((q : ℕ) → Contains w.touched q → IsIn room words q)
    → Ruled room total words (set views id w)
view_only {views} id v w r at quota firsts within looked kept =
    let kept_sum : (f : SeatRecord → ℕ) → f w ≡ f v → sum_by f (set views id w) ≡ sum_by f views = λ f e.
    let s = sum_after f views id v w at in omega arith in
    record {
      wide = r.wide;
      some_room = r.some_room;
      enough = r.enough;
      shares = kept_sum quota_of quota ∙ r.shares;
      within = λ j u e. ⊎_elim (λ t. subst IsWithin t.1 within) (λ t. r.within j u t.1) (at_set views id j w u e);
      full = r.full ∙ sym (kept_sum first_count (ap (λ l. length l) firsts));
      told = λ q. kept_sum (first_times q) (ap (times q) firsts) ∙ r.told q;
      alone = r.alone;
      probed = r.probed;
      looked = λ j u l e is. ⊎_elim (λ t. looked l (ap (λ (x : SeatRecord). x.looking) t.1 ∙ is)) (λ t. r.looked j u l t.1 is) (at_set views id j w u e);
      kept = λ j q u e has. ⊎_elim (λ t. kept q (subst (λ (x : SeatRecord). Contains x.touched q) (sym t.1) has))
          (λ t. r.kept j q u t.1 has) (at_set views id j w u e);
    }

-- ---- the step that writes

module _ (room total : ℕ) (words : List ℕ) (views : List SeatRecord) (id : ℕ) (v w : SeatRecord)
    (r : Ruled room total words views) (at : get_elem? views id ≡ some v) (page k i : ℕ)
    (others : AreOthers room words page k) (low : k < room) (within : i < room) (on : IsOn room (page % room) k i) (free : get_or words i 0 ≡ 0) where
  abbrev words' : List ℕ
  words' = set words i (page + 1)

  there : i < length words
  there = let e = r.wide in omega arith

  here : get_or words' i 0 ≡ page + 1
  here = get_or-set_same words i (page + 1) 0 there

  elsewhere : (j : ℕ) → j ≢ i → get_or words' j 0 ≡ get_or words j 0
  elsewhere j n = get_or-set_other words i j (page + 1) 0 n

  -- a word that had a page has it still
  not_free : (j : ℕ) → get_or words j 0 ≢ 0 → j ≢ i
  not_free j n e = n (ap (λ m. get_or words m 0) e ∙ free)

  still : (j : ℕ) → get_or words j 0 ≢ 0 → get_or words' j 0 ≡ get_or words j 0
  still j n = elsewhere j (not_free j n)

  still_full : (s count : ℕ) → AreFull room words s count → AreFull room words' s count
  still_full s count all j d a b c e = let n = all j d a b c in n (sym (still j n) ∙ e)

  still_others : (q count : ℕ) → AreOthers room words q count → AreOthers room words' q count
  still_others q count all j d a b c = let n = all j d a b c in ((λ e. n.0 (sym (still j n.0) ∙ e)), (λ e. n.1 (sym (still j n.0) ∙ e)))

  still_in : (q : ℕ) → IsIn room words q → IsIn room words' q
  still_in q h = (h.0, h.1, still h.0 (λ e. let z : q + 1 ≡ 0 = sym h.2 ∙ e in omega arith) ∙ h.2)

  now_probed : (j q : ℕ) → j < room → get_or words' j 0 ≡ q + 1 → IsProbed room words' q j
  now_probed j q lt is = dite (ℕ_discrete j i)
      (λ e. let same : page ≡ q = let z : page + 1 ≡ q + 1 = sym here ∙ (ap (λ m. get_or words' m 0) (sym e) ∙ is) in omega arith in
      subst (λ (p : ℕ). IsProbed room words' p j) same (record {
        count = k;
        below = low;
        on = subst (λ m. IsOn room (page % room) k m) (sym e) on;
        full = still_full (page % room) k (λ m d a b c. (others m d a b c).0);
      })) (λ n. let p = r.probed j q lt (sym (elsewhere j n)
      ∙ is) in record { count = p.count; below = p.below; on = p.on; full = still_full (q % room) p.count p.full })

  only_here : (j : ℕ) → j < room → get_or words' j 0 ≡ page + 1 → j ≡ i
  only_here j lt is = dite (ℕ_discrete j i) (λ e. e) (λ n. absurd (nowhere r page k i others low within on free j lt (sym (elsewhere j n) ∙ is)))

  now_alone : (a b : ℕ) → a < room → b < room → get_or words' a 0 ≡ get_or words' b 0 → get_or words' a 0 ≢ 0 → a ≡ b
  now_alone a b la lb same some_page = dite (ℕ_discrete a i) (λ e. e ∙ sym (only_here b lb (sym same ∙ (ap (λ m. get_or words' m 0) e ∙ here))))
      (λ n. dite (ℕ_discrete b i) (λ e. only_here a la (same ∙ (ap (λ m. get_or words' m 0) e ∙ here)) ∙ sym e)
      (λ m. r.alone a b la lb (sym (elsewhere a n) ∙ (same ∙ elsewhere b m)) (λ z. some_page (elsewhere a n ∙ z))))

  -- a page that stands nowhere is written into a free word, and the rule still holds
  pub written : w.quota ≡ v.quota → w.firsts ≡ v.firsts ++ page ∷ [] → w.looking ≡ None → IsWithin w
      → ((q : ℕ) → Contains w.touched q → Contains v.touched q ⊎ (page ≡ q)) → Ruled room total words' (set views id w)
  written quota firsts looking inside touched = record {
    wide = length-set words i (page + 1) ∙ r.wide;
    some_room = r.some_room;
    enough = r.enough;
    shares = (let s = sum_after quota_of views id v w at in omega arith) ∙ r.shares;
    within = λ j u e. ⊎_elim (λ t. subst IsWithin t.1 inside) (λ t. r.within j u t.1) (at_set views id j w u e);
    full = let s = sum_after first_count views id v w at in let t = sum_by-set full_word words i (page + 1) 0 there in
        let a = full_none free in let b = full_some (page + 1) (λ z. omega arith) in
        let c : length w.firsts ≡ length v.firsts + 1 = ap (λ l. length l) firsts ∙ length-append v.firsts (page ∷ []) in let d = r.full in omega arith;
    told = λ q. let s = sum_after (first_times q) views id v w at in
        let t = sum_by-set (one_if (q + 1)) words i (page + 1) 0 there in
        let a = one_other (q + 1) (get_or words i 0) (λ z. let y = free in omega arith) in let b = one_behind q page in
        let c : times q w.firsts ≡ times q v.firsts + one_if q page = ap (times q) firsts ∙ sum_by_push (one_if q) v.firsts page in
        let d = r.told q in omega arith;
    alone = now_alone;
    probed = now_probed;
    looked = λ j u l e is. ⊎_elim (λ t. let z : None ≡ Some l = sym looking ∙ (ap (λ (x : SeatRecord). x.looking) t.1 ∙ is) in absurd cc)
        (λ t. still_others l.page l.count (r.looked j u l t.1 is)) (at_set views id j w u e);
    kept = λ j q u e has. ⊎_elim (λ t. ⊎_elim (λ old. still_in q (r.kept id q v at old)) (λ same. (
      i,
      within,
      here ∙ ap (λ p. p + 1) same,
    )) (touched q (subst (λ (x : SeatRecord). Contains x.touched q) (sym t.1) has))) (λ t. still_in q (r.kept j q u t.1 has)) (at_set views id j w u e);
  }

-- ---- each step

-- what a call has looked at, whether it has begun or not
known : {room total : ℕ} {words : List ℕ} {views : List SeatRecord} (id page : ℕ) (v : SeatRecord) → Ruled room total words views
    → get_elem? views id ≡ some v → IsFor page v.looking → AreOthers room words page (count_of v.looking)
known {room} {words} id page v r at for = by v.looking refl for
  where
    by : (o : Option Looking) → v.looking ≡ o → IsFor page o → AreOthers room words page (count_of o)
    by None e f = λ j d a b c. absurd (omega arith)
    by (Some l) e f = subst (λ p. AreOthers room words p l.count) f (r.looked id v l at e)

more_within : (page : ℕ) {v : SeatRecord} (w : SeatRecord) → IsWithin v → length v.touched < v.quota → w.quota ≡ v.quota → w.touched ≡ v.touched ++ page ∷ []
    → ((q : ℕ) → Contains w.firsts q → Contains v.firsts q ⊎ (page ≡ q)) → length w.firsts ≤ length v.firsts + 1 → IsWithin w
more_within page {v} w i left quota touched member count =
    let long : length w.touched ≡ length v.touched + 1 = ap (λ l. length l) touched ∙ length-append v.touched (page ∷ []) in
    let a = i.firsts in
    record {
      quota = omega arith;
      firsts = omega arith;
      member = λ q h. subst (λ l. Contains l q) (sym touched) (⊎_elim (λ t. Contains-append_left v.touched (page ∷ []) q (i.member q t))
          (λ t. subst (Contains (v.touched ++ page ∷ [])) t (Contains-push v.touched page)) (member q h));
    }

-- what the view after is, by what was found
pub after_seen : (page : ℕ) (puts : Bool) (i : ℕ) {n : ℕ} (v : SeatRecord) → n ≡ page + 1 → after_probe page puts i n v ≡ seen page puts i n v
after_seen page puts i {n} v e = ⊎_elim (λ t. ap (λ b. cond b (seen page puts i n v) (cond (eqb n 0) (at_free page puts i n v) (passed page puts i n v))) t.0)
    (λ t. absurd (t.1 e)) (eqb_tells n (page + 1))

-- a free word: it is written by an exchange, and left as it is by a load
pub after_free : (page : ℕ) (puts : Bool) (i : ℕ) {n : ℕ} (v : SeatRecord) → n ≡ 0 → after_probe page puts i n v ≡ at_free page puts i n v
after_free page puts i {n} v e = ⊎_elim (λ t. let z = t.1 in absurd (omega arith))
    (λ t. ap (λ b. cond b (seen page puts i n v) (cond (eqb n 0) (at_free page puts i n v) (passed page puts i n v))) t.0 ∙ ⊎_elim
    (λ u. ap (λ b. cond b (at_free page puts i n v) (passed page puts i n v)) u.0) (λ u. absurd (u.1 e)) (eqb_tells n 0)) (eqb_tells n (page + 1))

after_other : (page : ℕ) (puts : Bool) (i n : ℕ) (v : SeatRecord) → n ≢ page + 1 → n ≢ 0 → after_probe page puts i n v ≡ passed page puts i n v
after_other page puts i n v a b = ⊎_elim (λ t. absurd (a t.1))
    (λ t. ap (λ b. cond b (seen page puts i n v) (cond (eqb n 0) (at_free page puts i n v) (passed page puts i n v))) t.0 ∙ ⊎_elim (λ u. absurd (b u.1))
    (λ u. ap (λ b. cond b (at_free page puts i n v) (passed page puts i n v)) u.0) (eqb_tells n 0)) (eqb_tells n (page + 1))

module _ (room total : ℕ) (words : List ℕ) (views : List SeatRecord) (id : ℕ) (v : SeatRecord)
    (r : Ruled room total words views) (at : get_elem? views id ≡ some v) (page i : ℕ) (puts : Bool)
    (may : MayProbe room page i v) (n : ℕ) (is : get_or words i 0 ≡ n) where
  others : AreOthers room words page (count_of v.looking)
  others = known id page v r at may.same

  found_it : n ≡ page + 1 → Ruled room total words (set views id (seen page puts i n v))
  found_it e = view_only id v (seen page puts i n v) r at refl refl
      (more_within page (seen page puts i n v) (r.within id v at) may.left refl refl (λ q h. inl h) (omega arith)) (λ l no. absurd cc)
      (λ q has. ⊎_elim (λ old. r.kept id q v at old) (λ same. (i, may.within, is ∙ (e ∙ ap (λ p. p + 1) same))) (Contains-push_cases v.touched page q has))

  more_others : n ≢ 0 → n ≢ page + 1 → AreOthers room words page (count_of v.looking + 1)
  more_others a b j d lt low on = dite (ℕ_discrete d (count_of v.looking))
      (λ e. let same : j ≡ i = one_place room (page % room) (count_of v.looking) j i lt may.within (subst (λ m. IsOn room (page % room) m j) e on) may.on in
      let at_j : get_or words j 0 ≡ n = ap (λ m. get_or words m 0) same ∙ is in
      ((λ z. a (sym at_j ∙ z)), (λ z. b (sym at_j ∙ z)))) (λ differ. others j d lt (omega arith) on)

  passed_by : n ≢ 0 → n ≢ page + 1 → Ruled room total words (set views id (passed page puts i n v))
  passed_by a b = view_only id v (passed page puts i n v) r at refl refl
      (let w = r.within id v at in record { quota = w.quota; firsts = w.firsts; member = w.member })
      (λ l e. let same : record { page = page; count = count_of v.looking + 1 } ≡ l = cc in subst
      (λ (x : Looking). AreOthers room words x.page x.count) same (more_others a b)) (λ q has. r.kept id q v at has)

  left_over : n ≢ 0 → n ≢ page + 1 → count_of v.looking + 1 < room
  left_over a b = words_left r page (count_of v.looking) i others may.below may.within may.on id v at may.left (λ z. a (sym is ∙ z))

  free_stays : Ruled room total words (set views id (stayed page puts i n v))
  free_stays = view_only id v (stayed page puts i n v) r at refl refl
      (let w = r.within id v at in record { quota = w.quota; firsts = w.firsts; member = w.member }) (λ l e. r.looked id v l at e)
      (λ q has. r.kept id q v at has)

  free_taken : n ≡ 0 → Ruled room total (set words i (page + 1)) (set views id (wrote page puts i n v))
  free_taken e = written room total words views id v (wrote page puts i n v) r at page
      (count_of v.looking) i others may.below may.within may.on (is ∙ e) refl refl refl
      (more_within page (wrote page puts i n v) (r.within id v at) may.left refl refl (λ q h. Contains-push_cases v.firsts page q h)
      (let l = length-append v.firsts (page ∷ []) in omega arith)) (λ q has. Contains-push_cases v.touched page q has)

  -- where the word has a page it stays, whichever step it was
  stays : n ≢ 0 → Ruled room total words (set views id (after_probe page puts i n v))
  stays a = dite (ℕ_discrete n (page + 1)) (λ e. subst (λ w. Ruled room total words (set views id w)) (sym (after_seen page puts i v e)) (found_it e))
      (λ b. subst (λ w. Ruled room total words (set views id w)) (sym (after_other page puts i n v b a)) (passed_by a b))

-- what a step says, in the words of its play
says : {room page i n : ℕ} {puts : Bool} (me : Me (Unit {0}) SeatRecord) {room' page' : ℕ} {puts' : Bool} → room' ≡ room → page' ≡ page → puts' ≡ puts
    → IsProbe room page puts i me.0 n (after_probe page puts i n me.0) → probe_play room' page' puts' i me n (after_probe page puts i n me.0, me.1)
says {page} {i} {n} {puts} me er ep eb told = (
  refl,
  subst (λ (z : ℕ × (ℕ × Bool)). IsProbe z.0 z.1.0 z.1.1 i me.0 n (after_probe page puts i n me.0)) (λ j. (sym er j, (sym ep j, sym eb j))) told,
)

-- a load may be made
pub load_allows : {room : ℕ} (total slots id : ℕ) {i page : ℕ} (me : Me (Unit {0}) SeatRecord) {room' page' : ℕ} {puts' : Bool} → room' ≡ room → page' ≡ page
    → puts' ≡ false → MayProbe room page i me.0 → Allows (IsTouchTable room total) slots id me i (λ n. n) (probe_play room' page' puts' i me)
load_allows {room} total slots id {i} {page} me er ep eb may s r _ at small =
    let v : SeatRecord = me.0 in let n : ℕ = get_or s.words i 0 in let w : SeatRecord = after_probe page false i n v in
    let kept : Ruled room total s.words (set s.views id w) = dite (ℕ_discrete n 0)
    (λ e. subst (λ u. Ruled room total s.words (set s.views id u)) (sym (after_free page false i v e))
    (free_stays room total s.words s.views id v r at page i false may n refl)) (λ a. stays room total s.words s.views id v r at page i false may n refl a) in (
      w,
      keeps,
      tt,
      subst (λ l. Ruled room total l (set s.views id w)) (sym (set-get_or s.words i 0)) kept,
      says me er ep eb (record { after = refl; more = λ a b. left_over room total s.words s.views id v r at page i false may n refl a b }),
    )

-- an exchange from 0 to the page plus 1 may be made
pub put_allows : {room : ℕ} (total slots id : ℕ) {i page : ℕ} (me : Me (Unit {0}) SeatRecord) {room' page' : ℕ} {puts' : Bool} → room' ≡ room → page' ≡ page
    → puts' ≡ true → MayProbe room page i me.0
    → Allows (IsTouchTable room total) slots id me i (λ n. either (eqb n 0) (page + 1) n) (probe_play room' page' puts' i me)
put_allows {room} total slots id {i} {page} me er ep eb may s r _ at small =
    let v : SeatRecord = me.0 in let n : ℕ = get_or s.words i 0 in
    let w : SeatRecord = after_probe page true i n v in (
      w,
      keeps,
      tt,
      exchanged n 0 (page + 1) (λ m. Ruled room total (set s.words i m) (set s.views id w))
          (λ e. subst (λ u. Ruled room total (set s.words i (page + 1)) (set s.views id u))
          (sym (after_free page true i v e)) (free_taken room total s.words s.views id v r at page i true may n refl e))
          (λ a. subst (λ l. Ruled room total l (set s.views id w)) (sym (set-get_or s.words i 0))
          (stays room total s.words s.views id v r at page i true may n refl a)),
      says me er ep eb (record { after = refl; more = λ a b. left_over room total s.words s.views id v r at page i true may n refl a b }),
    )

-- the word is one of the table's
pub word_there : {words now : ℕ} (place : ℕ) → words ≡ now → place < now → place < words
word_there place e low = omega arith
