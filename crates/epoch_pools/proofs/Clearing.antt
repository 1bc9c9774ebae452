-- A look behind the own link: what the seat holds counts from then on. A narrow range counts at once, and conflicts
-- with no wide one, since list 0 has none or has both. A wide range has passed one list more, in which nobody holds a
-- range, or the seat holds its own.
use Rattle.std.proofs.Common.{◌≡◌, ◌≢◌, ◌⊎◌, ℕ, ◌+◌, ◌*◌, ◌<◌, ◌≤◌, Bool, List, map, drop, get_or, set, refl, sym, ap, ◌∙◌, subst, arith, ⊎_elim, ne_eqb}
use Rattle.std.specs.Prelude.{slice_get, slice_index, Option, Some, None, if◌then◌else◌}
use Rattle.std.proofs.lemmas.List.{map-set}
use mathlib.Core.Option.{some}
use mathlib.Core.Logic.{dite}
use native.Mathlib.Decide.{ℕ_discrete, dec_le}
use lib.ListN.{get_elem?}
use Rattle.atomic_table.proofs.Lists.{at_map, set_again, set_here, set_else}
use Rattle.lock_core.specs.Grants.{Grants, Conflicts, IsFree}
use Rattle.lock_core.specs.declared.range.Held.{Held}
use Rattle.lock_core.specs.declared.views.View.{View}
use Rattle.lock_core.specs.Words.{word_count}
use Rattle.lock_core.specs.Machine.{Machine}
use Rattle.lock_core.proofs.ByPlace.{below as at_below, to_get}
use Rattle.lock_laws.specs.Laws.{IsLock}
use Rattle.epoch_pools.specs.declared.record.Record.{Record}
use Rattle.epoch_pools.specs.declared.views.SeatLists.{SeatLists}
use Rattle.epoch_pools.specs.declared.views.Standing.{Standing}
use Rattle.epoch_pools.specs.declared.views.Standing.TheVariants.{Free, Narrow, Wide}
use Rattle.epoch_pools.specs.Standings.{counted_of_many, passed_by}
use Rattle.epoch_pools.specs.Beside.{core_at, held_in, grant_in}
use Rattle.epoch_pools.specs.Running.{pass_kept, IsCutBy, machine_at, cores_of, pass_of, grants_in, IsNarrow, IsWide, AreLocks, AreLists, lists_with}
use Rattle.epoch_pools.proofs.Granting.{GainLaw}
use Rattle.epoch_pools.proofs.Placing.{apart_with}
use Rattle.epoch_pools.proofs.Slices.{slice_word}
use Rattle.epoch_pools.proofs.Counting.{turned, nothing_held, one_list, counts_many, counts_exclude}

-- list i was found empty, or holds that range for the seat too
abbrev pub IsClear : {P : Type 0} → ℕ → List ℕ → SeatLists P → ℕ → Held → Type 0
IsClear seats words w i h = (slice_index words (i * word_count seats) ≡ 0) ⊎ (held_in w i ≡ Some h)

module _ {P : Type 0} (holds : Grants → List ℕ → List P → Type 0) (rested : P → P) (gains : GainLaw holds) where
  module _ (lists seats : ℕ) (takes : Held → ℕ → Type 0) (words : List ℕ) (parts : List (SeatLists P)) (n : ℕ) (w : SeatLists P) (several : 1 < lists)
      (cut : IsCutBy lists takes) (r : AreLists lists seats takes holds words parts) (here : get_elem? parts n ≡ some w) where
    -- nobody else holds what conflicts with it, in a list that the seat has looked at
    clear : (i : ℕ) → i < lists → (h : Held) → IsClear seats words w i h → (b : ℕ) (y : SeatLists P) (g : Held) → b ≢ n → get_elem? parts b ≡ some y
        → held_in y i ≡ Some g → ¬ (Conflicts g h)
    clear i less h looks b y g differ there held conflict = let m : Machine = machine_at i seats words (map cores_of parts) in
        ⊎_elim
        (λ (empty : slice_index words (i * word_count seats) ≡ 0). let z : i * word_count seats + 0 ≡ i * word_count seats = omega arith in
        let head : slice_index m.words 0 ≡ 0 = slice_word (word_count seats) (i * word_count seats) 0 words (omega arith) ∙ (ap (λ k. get_or words k 0) z
        ∙ empty) in
        let at : slice_get m.views b ≡ Some (core_at i y.cores) = to_get m.views b (core_at i y.cores) (at_map (core_at i) (map cores_of parts) b y.cores
        (at_map cores_of parts b y there)) in
        nothing_held m (r.apart.locks i less) head b (core_at i y.cores) g at held)
        (λ (own : held_in w i ≡ Some h). one_list lists seats takes words parts r.apart i b n y w g h less differ there here held own conflict) looks

    -- a seat of which only the way to count changes
    module _ (trace : Record) (stand : Standing) where
      abbrev q : SeatLists P
      q = lists_with lists rested w w.cores stand trace

      abbrev parts' : List (SeatLists P)
      parts' = set parts n q

      cores_stay : map cores_of parts' ≡ map cores_of parts
      cores_stay = map-set cores_of parts n q ∙ set_again (map cores_of parts) n w.cores (at_map cores_of parts n w here)

      locks_stay : (j : ℕ) → j < lists → IsLock (machine_at j seats words (map cores_of parts'))
      locks_stay j less = subst (λ (l : List (List View)). IsLock (machine_at j seats words l)) (sym cores_stay) (r.apart.locks j less)

      -- where the lists are locks still with it, and nothing counted before
      module _ (apart : AreLocks lists seats takes words parts') (none : grant_in lists w ≡ None) where
        abbrev grants : Grants
        grants = grants_in lists parts

        abbrev passes : List P
        passes = map pass_of parts

        abbrev client : List ℕ
        client = drop (lists * word_count seats) words

        grant_here : get_elem? grants n ≡ some (grant_in lists w)
        grant_here = at_map (grant_in lists) parts n w here

        pass_here : get_elem? passes n ≡ some w.pass
        pass_here = at_map pass_of parts n w here

        grants_now : grants_in lists parts' ≡ set grants n (grant_in lists q)
        grants_now = map-set (grant_in lists) parts n q

        free_now : (h : Held) → grant_in lists q ≡ Some h → IsFree grants n h
        free_now h e k g differ there conflict = counts_exclude lists seats takes words parts' apart cut k n g h differ
            (ap (λ l. get_elem? l k) grants_now ∙ (set_else grants n k (grant_in lists q) differ ∙ there))
            (ap (λ l. get_elem? l n) grants_now ∙ (set_here grants n (grant_in lists q) (at_below grants n (grant_in lists w) grant_here) ∙ ap some e)) conflict

        pass_same : map pass_of parts' ≡ passes
        pass_same = map-set pass_of parts n q ∙ (ap (λ (o : Option Held). set passes n (pass_kept rested o (grant_in lists q) w.pass)) none
            ∙ set_again passes n w.pass pass_here)

        by_grant : (o : Option Held) → grant_in lists q ≡ o → holds (set grants n o) client passes
        by_grant None e = subst (λ (l : Grants). holds l client passes) (sym (set_again grants n None (grant_here ∙ ap some none))) r.guard
        by_grant (Some h) e = gains grants client passes n h r.guard (grant_here ∙ ap some none) (free_now h e)

        -- the lists' rule with the new standing
        pub counted : AreLists lists seats takes holds words parts'
        counted = record {
          apart = apart;
          guard = subst (λ (z : Grants × List P). holds z.0 client z.1) (λ k. (sym grants_now k, sym pass_same k)) (by_grant (grant_in lists q) refl);
        }

    -- a look at list 0 behind the link of a narrow range makes it count
    pub narrow_looks : (trace : Record) (i : ℕ) (g : Held) → w.standing ≡ Free → i < lists → held_in w i ≡ Some g → ((j : ℕ) → takes g j → j ≡ i)
        → IsClear seats words w 0 g → AreLists lists seats takes holds words (set parts n (lists_with lists rested w w.cores (Narrow i) trace))
    narrow_looks trace i g is less held only looks = counted trace (Narrow i)
        (apart_with r.apart words n (q trace (Narrow i)) (r.apart.many n w here) (locks_stay trace (Narrow i))
        (λ j e. let same : i ≡ j = cc in subst (IsNarrow lists takes (q trace (Narrow i))) same (record { there = less; range = g; held = held; only = only }))
        (λ p e. absurd (cc))
        (λ b j p y k h differ there e wide_b below held_j held_b taken conflict. let same : i ≡ j = cc in
        let mine : ◌≡◌ {A = Option Held} (Some g) (Some k) = sym held ∙ (ap (held_in w) same ∙ held_j) in let one : g ≡ k = cc in
        clear 0 (r.apart.wide_one b p y there wide_b).first g looks b y h (λ e. differ (sym e)) there held_b
        (turned g h (subst (λ (z : Held). Conflicts z h) (sym one) conflict)))
        (λ a j p x k h differ there narrow_a e below held_a held_w taken. absurd (cc)))
        (counts_many lists w.standing (held_in w) (λ e. omega arith) ∙ ap (λ (s : Standing). counted_of_many lists s (held_in w)) is)

    -- a look at the next list that a wide range takes, behind its link in list 0, passes that list
    pub wide_looks : (trace : Record) (j up : ℕ) (h : Held) → (w.standing ≡ Free) ⊎ ((p : ℕ) × (w.standing ≡ Wide p)) → held_in w 0 ≡ Some h
        → passed_by w.standing ≤ j → j < up → up ≤ lists → ((c : ℕ) → passed_by w.standing ≤ c → c < up → c ≢ j → ¬ (takes h c)) → IsClear seats words w j h
        → AreLists lists seats takes holds words (set parts n (lists_with lists rested w w.cores (Wide up) trace))
    wide_looks trace j up h stood held from below_up most others looks = counted trace (Wide up)
        (apart_with r.apart words n (q trace (Wide up)) (r.apart.many n w here) (locks_stay trace (Wide up)) (λ i e. absurd (cc))
        (λ p e. let same : up ≡ p = cc in subst (IsWide lists (q trace (Wide up))) same (record { first = omega arith; most = most; range = h; held = held }))
        (λ b i p y g k differ there e wide_b below held_i held_b taken. absurd (cc))
        (λ a c p x g k differ there narrow_a e below held_a held_w taken conflict. let same : up ≡ p = cc in
        let mine : ◌≡◌ {A = Option Held} (Some h) (Some k) = sym held ∙ held_w in let one : h ≡ k = cc in
        let taken_h : takes h c = subst (λ (z : Held). takes z c) (sym one) taken in
        let with_h : Conflicts g h = subst (λ (z : Held). Conflicts g z) (sym one) conflict in
        let low : c < up = subst (λ z. c < z) (sym same) below in
        dite (ℕ_discrete c j) (λ (at : c ≡ j). clear j (omega arith) h looks a x g differ there (ap (held_in x) (sym at) ∙ held_a) with_h)
        (λ other. dite (dec_le (passed_by w.standing) c) (λ (le : passed_by w.standing ≤ c). absurd (others c le low other taken_h))
        (λ less. before a c x g differ there narrow_a held_a taken_h with_h less)))) (not_yet stood)
      where
        -- a list that was passed before
        before : (a c : ℕ) (x : SeatLists P) (g : Held) → a ≢ n → get_elem? parts a ≡ some x → x.standing ≡ Narrow c → held_in x c ≡ Some g → takes h c
            → Conflicts g h → (passed_by w.standing ≤ c → ⊥) → ⊥
        before a c x g differ there narrow_a held_a taken conflict less = ⊎_elim
            (λ (e : w.standing ≡ Free). let z : passed_by w.standing ≡ 0 = ap passed_by e in less (omega arith))
            (λ (t : (p : ℕ) × (w.standing ≡ Wide p)). let z : passed_by w.standing ≡ t.0 = ap passed_by t.1 in
            r.apart.passed a n c t.0 x w g h differ there here narrow_a t.1 (below_of c t.0 (λ le. less (subst (λ k. k ≤ c)
            (sym z) le))) held_a held taken conflict) stood
          where
            below_of : (c p : ℕ) → (p ≤ c → ⊥) → c < p
            below_of c p above = dite (dec_le p c) (λ le. absurd (above le)) (λ less. omega arith)

        -- the range didn't count before, since a list was still to be passed
        not_yet : (w.standing ≡ Free) ⊎ ((p : ℕ) × (w.standing ≡ Wide p)) → grant_in lists w ≡ None
        not_yet t = counts_many lists w.standing (held_in w) (λ e. omega arith) ∙ ⊎_elim
            (λ (e : w.standing ≡ Free). ap (λ (s : Standing). counted_of_many lists s (held_in w)) e)
            (λ (t : (p : ℕ) × (w.standing ≡ Wide p)). let z : passed_by w.standing ≡ t.0 = ap passed_by t.1 in let less : t.0 < lists = omega arith in
            ap (λ (s : Standing). counted_of_many lists s (held_in w)) t.1 ∙ ap (λ (b : Bool). if b then held_in w 0 else None) (ne_eqb t.0 lists
            (λ e. omega arith))) t
