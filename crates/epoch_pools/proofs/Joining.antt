-- All views are joined into one, which then has each part, so the guard's rule holds of the last words with no grant.
use Rattle.std.proofs.Common.{◌≡◌, ◌≢◌, ℕ, zero, suc, ◌+◌, ◌*◌, ◌<◌, Bool, true, false, cond, eqb, List, [], ◌∷◌, ◌++◌, map, drop, take, get_or}
use Rattle.std.proofs.Common.{set, length, replicate, sym, refl, ap, ◌∙◌, subst, arith, eq-eqb, ne_eqb, ⊎_elim, length-append}
use Rattle.std.specs.Prelude.{Option, None, remove, slice_set, ◌==◌, if◌then◌else◌}
use Rattle.std.proofs.Math.Seq.{take-suc, append_snoc}
use Rattle.std.proofs.lemmas.List.{append-nil, nil_from_length, length-map, length-drop, get_or-drop}
use mathlib.Core.Option.{some, some-injective, some-ne-none}
use mathlib.Core.Logic.{dite}
use native.Mathlib.Decide.{ℕ_discrete}
use lib.ListN.{get_elem?}
use Rattle.atomic_table.specs.Table.{Joins, Final, Seen}
use Rattle.atomic_table.specs.Seated.{TableId}
use Rattle.atomic_table.proofs.Lists.{at_set, set_here, set_else, at_longer, at_last, at_map}
use Rattle.lock_core.specs.Grants.{Grants}
use Rattle.list_cuts.specs.Cut.{Regions, list_count}
use Rattle.lock_core.specs.declared.range.Held.{Held}
use Rattle.lock_core.specs.declared.views.View.{View}
use Rattle.lock_core.specs.Words.{word_count}
use Rattle.lock_core.specs.Machine.{held_at}
use Rattle.lock_core.proofs.ByPlace.{below as at_below, at_or, same_lists}
use Rattle.epoch_pools.specs.declared.views.SeatLists.{SeatLists}
use Rattle.epoch_pools.specs.declared.views.ListView.{ListView}
use Rattle.epoch_pools.specs.declared.views.SeatPart.{SeatPart}
use Rattle.epoch_pools.specs.declared.views.Beside.{Beside}
use Rattle.epoch_pools.specs.declared.views.Standing.{Standing}
use Rattle.epoch_pools.specs.declared.views.Standing.TheVariants.{Free, Narrow, Wide}
use Rattle.epoch_pools.specs.Standings.{counted_of_many}
use Rattle.epoch_pools.specs.Beside.{blank, core_at, held_in, grant_in, shown}
use Rattle.epoch_pools.specs.Running.{takes_in, pass_of, grants_in, AreLists, view, Stands, IsRunningList}
use Rattle.epoch_pools.specs.Hands.{HandState, hand_with, pass_in, AreHandsOf, AreShownAt, IsIdle, AreIdleHands, AreOthersIdle}
use Rattle.epoch_pools.proofs.Counting.{at_unmap, counts_one, counts_many}
use Rattle.epoch_pools.proofs.Frames.{core_else}
use Rattle.epoch_pools.proofs.Lists.{at_there, last_at, at_behind, append_at, first_of_list, at_removed}

nothing_there : {A : Type 0} (k : ℕ) (a : A) → get_elem? [] k ≡ some a → ⊥
nothing_there k a e = some-ne-none a (sym e)

-- where a number is after its view was joined, or another was
joined_stands : {P : Type 0} (views : List (ListView P)) (id other own n : ℕ) (v w : ListView P) → get_elem? views id ≡ some v
    → other ≢ id → get_elem? views other ≡ some w → Stands views own n
    → Stands (set (set views id (view (v.parts ++ w.parts))) other (view [])) (cond (eqb own other) id own) n
joined_stands {P} views id other own n v w at_v differ at_w st = let both : ListView P = view (v.parts ++ w.parts) in
    let now : List (ListView P) = set (set views id both) other (view []) in
    let here : get_elem? now id ≡ some both = set_else (set views id both) other id (view []) (λ e. differ (sym e))
    ∙ set_here views id both (at_below views id v at_v) in
    dite (ℕ_discrete own other)
    (λ e. let is : w ≡ st.holder = some-injective _ _ (sym at_w ∙ (ap (get_elem? views) (sym e) ∙ st.at)) in
    record {
      holder = both;
      at = ap (get_elem? now) (ap (λ b. cond b id own) (eq-eqb own other e)) ∙ here;
      place = length v.parts + st.place;
      part = st.part;
      has = at_behind v.parts w.parts st.place ∙ subst (λ (z : ListView P). get_elem? z.parts st.place ≡ some st.part) (sym is) st.has;
      number = st.number;
    })
    (λ no. let stay : cond (eqb own other) id own ≡ own = ap (λ b. cond b id own) (ne_eqb own other no) in dite (ℕ_discrete own id)
    (λ e. let is : v ≡ st.holder = some-injective _ _ (sym at_v ∙ (ap (get_elem? views) (sym e) ∙ st.at)) in
    record {
      holder = both;
      at = ap (get_elem? now) (stay ∙ e) ∙ here;
      place = st.place;
      part = st.part;
      has = at_longer v.parts w.parts st.place st.part (subst (λ (z : ListView P). get_elem? z.parts st.place ≡ some st.part) (sym is) st.has);
      number = st.number;
    })
    (λ neither. let at = ap (get_elem? now) stay ∙ (set_else (set views id both) other own (view []) no ∙ (set_else views id own both neither ∙ st.at)) in
    record { holder = st.holder; at = at; place = st.place; part = st.part; has = st.has; number = st.number }))

module _ {P : Type 0} (c : Regions) (seats clients : ℕ) (holds : Grants → List ℕ → List P → Type 0) where
  -- one seat takes in what belongs to another
  pub joins : (id other : ℕ) (v w : ListView P) → Joins (IsRunningList c seats clients holds) id v other w (view (v.parts ++ w.parts)) (view [])
  joins id other v w s running at_v differ at_w' = let parts = running.0 in let owner = running.1 in let r = running.2 in
      let both : ListView P = view (v.parts ++ w.parts) in
      let at_w : get_elem? s.views other ≡ some w = sym (set_else s.views id other both differ) ∙ at_w' in
      let owner' : ℕ → ℕ = λ n. cond (eqb (owner n) other) id (owner n) in
      let moved : (n : ℕ) → owner n ≡ other → owner' n ≡ id = λ n e. ap (λ b. cond b id (owner n)) (eq-eqb (owner n) other e) in
      let stays : (n : ℕ) → owner n ≢ other → owner' n ≡ owner n = λ n e. ap (λ b. cond b id (owner n)) (ne_eqb (owner n) other e) in (
        parts,
        owner',
        record {
          cut = r.cut;
          wide = r.wide;
          count = r.count;
          owned = λ id' v' at' k p there. ⊎_elim (λ t. absurd (nothing_there k p (subst (λ (z : ListView P). get_elem? z.parts k ≡ some p) (sym t.1) there)))
              (λ t. ⊎_elim
              (λ u. ⊎_elim (λ in_v. let o = r.owned id v at_v k p in_v in (o.0, stays p.number (λ e. differ (sym e ∙ o.1)) ∙ (o.1 ∙ sym u.0)))
              (λ in_w. let o = r.owned other w at_w in_w.0 p in_w.1 in (o.0, moved p.number o.1 ∙ sym u.0))
              (append_at v.parts w.parts k p (subst (λ (z : ListView P). get_elem? z.parts k ≡ some p) (sym u.1) there)))
              (λ u. let o = r.owned id' v' u.1 k p there in (o.0, stays p.number (λ e. t.0 (sym o.1 ∙ e)) ∙ o.1)) (at_set s.views id id' both v' t.1))
              (at_set (set s.views id both) other id' (view []) v' at');
          stands = λ n lt. joined_stands s.views id other (owner n) n v w at_v differ at_w (r.stands n lt);
          same = r.same;
          lists_are = r.lists_are;
        },
      )

module _ {P : Type 0} (c : Regions) (seats : ℕ) (holds : Grants → List ℕ → List P → Type 0) (words : List ℕ) (parts : List (SeatLists P))
    (some_list : 0 < list_count c) (r : AreLists (list_count c) seats (takes_in c) holds words parts) where
  -- a seat that holds nothing in any list has no grant
  no_grant : (k : ℕ) (p : SeatLists P) → get_elem? parts k ≡ some p → ((j : ℕ) → j < list_count c → held_in p j ≡ None) → grant_in (list_count c) p ≡ None
  no_grant k p here none = dite (ℕ_discrete (list_count c) 1) (λ one. counts_one (list_count c) p.standing (held_in p) one ∙ none 0 some_list)
      (λ several. counts_many (list_count c) p.standing (held_in p) several ∙ by_standing p.standing refl)
    where
      either : (b : Bool) → ◌≡◌ {A = Option Held} (if b then None else None) None
      either true = refl
      either false = refl

      by_standing : (s : Standing) → p.standing ≡ s → counted_of_many (list_count c) p.standing (held_in p) ≡ None
      by_standing Free e = ap (λ (s : Standing). counted_of_many (list_count c) s (held_in p)) e
      by_standing (Narrow i) e = ap (λ (s : Standing). counted_of_many (list_count c) s (held_in p)) e ∙ none i (r.apart.narrow_one k i p here e).there
      by_standing (Wide up) e = ap (λ (s : Standing). counted_of_many (list_count c) s (held_in p)) e
          ∙ (ap (λ (o : Option Held). if up == list_count c then o else None) (none 0 some_list) ∙ either (up == list_count c))

-- a seat whose hand is idle holds nothing in any list
nothing_in : {P : Type 0} (lists i : ℕ) (p : SeatLists P) → i < lists → IsIdle (core_at i p.cores)
    → (1 < lists → (j : ℕ) → j < lists → j ≢ i → IsIdle (core_at j (slice_set p.cores i blank))) → (j : ℕ) → j < lists → held_in p j ≡ None
nothing_in lists i p within idle others j less = dite (ℕ_discrete j i) (λ e. ap (λ n. held_at (core_at n p.cores).own) e ∙ ap held_at idle.own)
    (λ differ. ap (λ (x : View). held_at x.own) (sym (core_else i j p.cores blank differ)) ∙ ap held_at (others (omega arith) j less differ).own)

no_grants : {P : Type 0} (lists : ℕ) (parts : List (SeatLists P)) (n : ℕ) → length parts ≡ n
    → ((k : ℕ) (p : SeatLists P) → get_elem? parts k ≡ some p → grant_in lists p ≡ None) → grants_in lists parts ≡ replicate n None
no_grants lists [] zero e all = refl
no_grants lists [] (suc n) e all = absurd (omega arith)
no_grants lists (x ∷ xs) zero e all = absurd (omega arith)
no_grants lists (x ∷ xs) (suc n) e all = let h = all 0 x refl in let t = no_grants lists xs n (omega arith) (λ k p at. all (suc k) p at) in λ i. h i ∷ t i

-- the passes of parts are those of the hands that show them
passes_in : {P : Type 0} (table : TableId) (parts : List (SeatLists P)) (hands : List (HandState (Beside P))) → AreShownAt table parts hands
    → map pass_of parts ≡ map pass_in hands
passes_in {P} table parts hands all = same_lists (map pass_of parts) (map pass_in hands) (length-map parts pass_of ∙ (all.0 ∙ sym (length-map hands pass_in)))
    (λ k pass at. let t = at_unmap pass_in hands k pass at in
    let u = at_there parts k (subst (λ n. k < n) (sym all.0) (at_below hands k t.0 t.1)) in let h = all.1 k u.0 u.1 in
    let same : hand_with table (shown h.0 h.1 u.0) ≡ t.0 = some-injective _ _ (sym h.4 ∙ t.1) in
    at_map pass_of parts k u.0 u.1 ∙ ap some (ap (λ (x : HandState (Beside P)). x.part.pass.pass) same ∙ t.2))

-- the last state, in which one seat has what belongs to all hands, and none has a node in use
pub closes : {P : Type 0} (c : Regions) (seats clients : ℕ) (holds : Grants → List ℕ → List P → Type 0) (table shared : TableId)
    (hands : List (HandState (Beside P))) (id : ℕ) (v : ListView P) (words : List ℕ) (xs : List (Unit {0}))
    → length hands ≡ seats → AreIdleHands table hands → (1 < list_count c → AreOthersIdle (list_count c) hands) → AreShownAt shared v.parts hands
    → Final (Seen (IsRunningList c seats clients holds) id v) words xs
    → holds (replicate seats None) (drop (list_count c * word_count seats) words) (map pass_in hands)
closes {P} c seats clients holds table shared hands id v words xs count idle others is final =
    let s = final.0 in let running = final.1.0 in let at = final.1.1 in let parts = running.0 in let r = running.2 in
    let wide : length v.parts ≡ seats = is.0 ∙ count in
    let number : (k : ℕ) (p : SeatLists P) → get_elem? v.parts k ≡ some p → p.number ≡ k = λ k p there.
    let h = is.1 k p there in (idle k (hand_with shared (shown h.0 h.1 p)) h.4).1 in
    let same : parts ≡ v.parts = same_lists parts v.parts (r.count ∙ sym wide) (λ k p there. let o = r.owned id v at k p there in
    ap (get_elem? parts) (sym (number k p there)) ∙ o.0) in
    let none : (k : ℕ) (p : SeatLists P) → get_elem? parts k ≡ some p → grant_in (list_count c) p ≡ None = λ k p there.
    let there' : get_elem? v.parts k ≡ some p = ap (λ (l : List (SeatLists P)). get_elem? l k) (sym same) ∙ there in
    let h = is.1 k p there' in let lists : h.0 ≡ list_count c = sym h.2 ∙ r.lists_are.apart.many k p there in
    no_grant c seats holds s.words parts (let n = r.cut in omega arith) r.lists_are k p there
    (nothing_in (list_count c) h.1 p (subst (λ n. h.1 < n) lists h.3) (idle k (hand_with shared (shown h.0 h.1 p)) h.4).2
    (λ several. others several k (hand_with shared (shown h.0 h.1 p)) h.4)) in
    let grants : grants_in (list_count c) parts ≡ replicate seats None = no_grants (list_count c) parts seats r.count none in
    subst (λ (z : Grants × (List ℕ × List P)). holds z.0 z.1.0 z.1.1)
    (λ i. (grants i, (ap (drop (list_count c * word_count seats)) final.2 i, (ap (map pass_of) same ∙ passes_in shared v.parts hands is) i))) r.lists_are.guard

module _ {P : Type 0} (table : TableId) where
  -- no part shows no hand
  pub none_shown : AreShownAt {P = P} table [] []
  none_shown = (refl, λ k p at. absurd (nothing_there k p at))

  -- when no hand is left, all are shown
  pub all_shown : (parts : List (SeatLists P)) (front left whole : List (HandState (Beside P))) → AreShownAt table parts front → front ++ left ≡ whole
      → length left ≡ 0 → AreShownAt table parts whole
  all_shown parts front left whole all so none =
      subst (AreShownAt table parts) (sym (append-nil front) ∙ (ap (λ l. front ++ l) (sym (nil_from_length left none)) ∙ so)) all

  -- what the seat that stays has, after the first of the others is joined to it
  pub next_joined : (front new parts : List (SeatLists P)) (whole front_hands left now : List (HandState (Beside P))) (s : HandState (Beside P))
      (lists i : ℕ) (p : SeatLists P)
      → AreShownAt table front front_hands → front_hands ++ left ≡ whole → 0 < length left → s ≡ get_or left 0 s → now ≡ remove left 0
      → new ≡ front ++ parts → parts ≡ p ∷ [] → length p.cores ≡ lists → i < lists → hand_with table (shown lists i p) ≡ s
      → AreShownAt table new (front_hands ++ s ∷ []) × ((front_hands ++ s ∷ []) ++ now ≡ whole)
  next_joined front new parts whole front_hands left now s lists i p all so more is rest grown one full less same =
      let split : left ≡ s ∷ remove left 0 = first_of_list left s more is in
      let new_is : new ≡ front ++ p ∷ [] = grown ∙ ap (λ x. front ++ x) one in (
        (
          ap length new_is ∙ (length-append front (p ∷ []) ∙ (ap (λ n. n + 1) all.0 ∙ sym (length-append front_hands (s ∷ [])))),
          λ k x there. ⊎_elim (λ old. let t = all.1 k x old in (t.0, t.1, t.2, t.3, at_longer front_hands (s ∷ []) k (hand_with table (shown t.0 t.1 x)) t.4))
              (λ (last : (x ≡ p) × (k ≡ length front)). (
                lists,
                i,
                ap (λ (y : SeatLists P). length y.cores) last.0 ∙ full,
                less,
                at_last front_hands s k (sym all.0 ∙ sym last.1) ∙ ap some (sym same ∙ ap (λ (y : SeatLists P). hand_with table (shown lists i y))
                    (sym last.0)),
              )) (last_at front p x k (ap (λ l. get_elem? l k) (sym new_is) ∙ there)),
        ),
        append_snoc front_hands s now ∙ (ap (λ l. front_hands ++ s ∷ l) rest ∙ (ap (λ l. front_hands ++ l) (sym split) ∙ so)),
      )

  -- without the first of them the hands are of the table still
  pub hands_without_first : (left now : List (HandState (Beside P))) → AreHandsOf table left → now ≡ remove left 0 → AreHandsOf table now
  hands_without_first left now of_table is k s at = of_table (suc k) s (sym (at_removed left k) ∙ (ap (λ l. get_elem? l k) (sym is) ∙ at))

  -- a hand of the table again, from what it shows
  pub hand_again : (s h : HandState (Beside P)) (p : SeatPart (Beside P)) → s ≡ h → h.table ≡ table → s.part ≡ p → hand_with table p ≡ h
  hand_again s h p is here part = (λ i. record { table = (sym here ∙ sym (ap (λ x. x.table) is)) i; part = sym part i }) ∙ is

-- one word more is copied
pub copied : (words out new : List ℕ) (from i n : ℕ) → out ≡ take i (drop from words) → new ≡ out ++ n ∷ []
    → get_elem? words (from + i) ≡ some n → new ≡ take (i + 1) (drop from words)
copied words out new from i n is grown at = let lt = at_below words (from + i) n at in let len = length-drop from words in
    let z : i + 1 ≡ suc i = omega arith in
    let value : get_or (drop from words) i 0 ≡ n = get_or-drop from words i 0 ∙ at_or words (from + i) n 0 at in
    let longer : take (suc i) (drop from words) ≡ take i (drop from words) ++ n ∷ [] =
    take-suc (drop from words) i 0 (omega arith) ∙ ap (λ m. take i (drop from words) ++ m ∷ []) value in
    grown ∙ (ap (λ l. l ++ n ∷ []) is ∙ (sym longer ∙ ap (λ k. take k (drop from words)) (sym z)))

-- the same with the names that the closing call has for the table, its cut, its number of seats and its words
pub closed : {P : Type 0} (key_cut c : Regions) (key_seats seats clients : ℕ) (holds : Grants → List ℕ → List P → Type 0) (shared table : TableId)
    (hands : List (HandState (Beside P))) (id : ℕ) (v : ListView P) (words out : List ℕ) (xs : List (Unit {0}))
    → key_cut ≡ c → key_seats ≡ seats → length hands ≡ seats → AreIdleHands table hands → (1 < list_count c → AreOthersIdle (list_count c) hands)
    → AreShownAt shared v.parts hands → out ≡ drop (list_count c * word_count seats) words
    → Final (Seen (IsRunningList key_cut key_seats clients holds) id v) words xs → holds (replicate seats None) out (map pass_in hands)
closed key_cut c key_seats seats clients holds shared table hands id v words out xs same_cut same count idle others is copy final =
    subst (λ (z : ℕ × List ℕ). holds (replicate z.0 None) z.1 (map pass_in hands))
    (λ i. (same i, ((λ j. drop (list_count (same_cut j) * word_count (same j)) words) ∙ sym copy) i))
    (closes key_cut key_seats clients holds table shared hands id v words xs (count ∙ sym same) idle
    (subst (λ (x : Regions). 1 < list_count x → AreOthersIdle (list_count x) hands) (sym same_cut) others) is final)
