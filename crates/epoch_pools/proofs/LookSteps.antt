-- What the table asks of a look: that it may be made in every state that meets the rule, and leaves one. It changes no
-- word, and of its seat the standing and the record.
use Rattle.std.proofs.Common.{◌≡◌, ◌⊎◌, ℕ, ◌+◌, ◌*◌, ◌<◌, ◌≤◌, Bool, true, false, List, [], ◌∷◌, map, drop, get_or, set, length}
use Rattle.std.proofs.Common.{refl, sym, ap, ◌∙◌, subst, arith, inl, inr, ⊎_elim, eqb-true, ne_eqb}
use Rattle.std.specs.Prelude.{Some, None, slice_index, ◌==◌, ◌||◌, if◌then◌else◌}
use Rattle.std.proofs.lemmas.List.{map-set, set-get_or}
use mathlib.Core.Option.{some}
use lib.ListN.{get_elem?}
use Rattle.atomic_table.specs.Table.{Me, keeps, Allows}
use Rattle.atomic_table.specs.Seated.{TableId}
use Rattle.atomic_table.proofs.Lists.{at_map, set_again}
use Rattle.lock_core.specs.Grants.{Grants}
use Rattle.list_cuts.specs.Cut.{Regions, list_count}
use Rattle.lock_core.specs.declared.range.Held.{Held}
use Rattle.lock_core.specs.declared.views.View.{View}
use Rattle.lock_core.specs.Words.{word_count}
use Rattle.lock_core.specs.Machine.{held_at}
use Rattle.epoch_pools.specs.declared.views.SeatLists.{SeatLists}
use Rattle.epoch_pools.specs.declared.views.SeatPart.{SeatPart}
use Rattle.epoch_pools.specs.declared.views.Beside.{Beside}
use Rattle.epoch_pools.specs.declared.views.ListView.{ListView}
use Rattle.epoch_pools.specs.declared.views.Standing.{Standing}
use Rattle.epoch_pools.specs.declared.views.Standing.TheVariants.{Free, Narrow, Wide}
use Rattle.epoch_pools.specs.Standings.{counted_of_many, passed_by}
use Rattle.epoch_pools.specs.Beside.{held_in, grant_in, shown, shown_core}
use Rattle.epoch_pools.specs.Hands.{IsHandView, AreOthers, part_in, shown_of, IsSeatOf}
use Rattle.epoch_pools.specs.Passing.{look_trace, seen_trace, MayCount, MayPass, HoldsToo, after_look, after_look_at, IsLookPlay, IsLook, narrow, wide, glance}
use Rattle.epoch_pools.specs.Running.{pass_kept, takes_in, pass_of, grants_in, AreLists, view, lists_with, IsRunningList}
use Rattle.epoch_pools.proofs.Granting.{GainLaw}
use Rattle.epoch_pools.proofs.Slices.{further}
use Rattle.epoch_pools.proofs.Placing.{part_here, placed, same_seat, IsKept, IsToken, same_lists, list_there, play_shown, play_shows}
use Rattle.epoch_pools.proofs.ClientSteps.{cut_by, locks_stay}
use Rattle.epoch_pools.proofs.Counting.{counts_many}
use Rattle.epoch_pools.proofs.Turning.{core_shown}
use Rattle.epoch_pools.proofs.Clearing.{IsClear, narrow_looks, wide_looks}

module _ {P : Type 0} (begin : P) (c : Regions) (seats clients : ℕ) (holds : Grants → List ℕ → List P → Type 0) (rested : P → P) (gains : GainLaw holds) where
  -- a seat that has only made a look at that list which passed nothing
  abbrev pub only_looked : ℕ → Bool → SeatLists P → SeatLists P
  only_looked at clear w = record {
    number = w.number;
    seats = w.seats;
    cores = w.cores;
    standing = w.standing;
    pass = w.pass;
    trace = seen_trace at clear w.trace;
  }

  unpassed : (at : ℕ) (clear : Bool) (words : List ℕ) (parts : List (SeatLists P)) (w : SeatLists P)
      → AreLists (list_count c) seats (takes_in c) holds words parts → get_elem? parts w.number ≡ some w
      → AreLists (list_count c) seats (takes_in c) holds words (set parts w.number (only_looked at clear w))
  unpassed at clear words parts w l here = let q : SeatLists P = only_looked at clear w in
      let grants : grants_in (list_count c) parts ≡ grants_in (list_count c) (set parts w.number q) =
      sym (set_again (grants_in (list_count c) parts) w.number (grant_in (list_count c) w) (at_map (grant_in (list_count c)) parts w.number w here))
      ∙ sym (map-set (grant_in (list_count c)) parts w.number q) in
      let passes : map pass_of parts ≡ map pass_of (set parts w.number q) =
      sym (set_again (map pass_of parts) w.number w.pass (at_map pass_of parts w.number w here)) ∙ sym (map-set pass_of parts w.number q) in
      record {
        apart = locks_stay (list_count c) seats (takes_in c) words words parts w.number w q l.apart here refl refl (λ i less. refl);
        guard = subst (λ (z : Grants × List P). holds z.0 (drop (list_count c * word_count seats) words) z.1) (λ k. (grants k, passes k)) l.guard;
      }

  -- the seat after a look that found the list clear, or didn't
  abbrev pub looked_at : ℕ → Bool → SeatLists P → Standing → SeatLists P
  looked_at at true w standing = lists_with (list_count c) rested w w.cores standing (look_trace w.trace)
  looked_at at false w standing = only_looked at false w

  number_of : (at : ℕ) (b : Bool) (w : SeatLists P) (standing : Standing) → (looked_at at b w standing).number ≡ w.number
  number_of at true w standing = refl
  number_of at false w standing = refl

  seats_of : (at : ℕ) (b : Bool) (w : SeatLists P) (standing : Standing) → (looked_at at b w standing).seats ≡ w.seats
  seats_of at true w standing = refl
  seats_of at false w standing = refl

  full_of : (at : ℕ) (b : Bool) (w : SeatLists P) (standing : Standing) → length (looked_at at b w standing).cores ≡ length w.cores
  full_of at true w standing = refl
  full_of at false w standing = refl

  -- what is shown of it: its pass stays, since nothing counted before
  shows_of : (lists i at : ℕ) (b : Bool) (w : SeatLists P) (standing : Standing) → grant_in (list_count c) w ≡ None
      → shown lists i (looked_at at b w standing) ≡ after_look_at at b standing (shown lists i w)
  shows_of lists i at true w standing none = λ k. shown lists i (record {
    number = w.number;
    seats = w.seats;
    cores = w.cores;
    standing = standing;
    pass = pass_kept rested (none k) (grant_in (list_count c) (looked_at at true w standing)) w.pass;
    trace = look_trace w.trace;
  })
  shows_of lists i at false w standing none = refl

  split_or : (a b : Bool) → (a || b) ≡ true → (a ≡ true) ⊎ (b ≡ true)
  split_or true b e = inl refl
  split_or false b e = inr e

  -- a look that leaves this of its seat, by whether it found the list clear
  looks_to : (lists i at : ℕ) (standing : Standing) (too : Bool) (slots id place : ℕ) (me : Me (Unit {0}) (ListView P)) (w : SeatLists P)
      (after : Bool → SeatLists P) → me.0 ≡ view (w ∷ []) → length w.cores ≡ lists
      → ((b : Bool) → ((after b).number ≡ w.number) × ((after b).seats ≡ w.seats) × (length (after b).cores ≡ length w.cores))
      → ((words : List ℕ) (parts : List (SeatLists P)) → AreLists (list_count c) seats (takes_in c) holds words parts → get_elem? parts w.number ≡ some w
      → w.seats ≡ seats → (b : Bool) → (b ≡ true → (too ≡ true) ⊎ (get_or words place 0 ≡ 0))
      → AreLists (list_count c) seats (takes_in c) holds words (set parts w.number (after b))
      × (shown lists i (after b) ≡ after_look_at at b standing (shown lists i w)))
      → Allows (IsRunningList c seats clients holds) slots id me place (λ n. n) (IsLookPlay begin c lists i at standing too me)
  looks_to lists i at standing too slots id place me w after is full same good s running _ there small =
      let parts = running.0 in let owner = running.1 in let r = running.2 in
      let at' : get_elem? s.views id ≡ some (view (w ∷ [])) = there ∙ ap some is in
      let here = part_here c seats clients holds s parts owner r id w at' in let y : ℕ = get_or s.words place 0 in let b : Bool = too || y == 0 in
      let q : SeatLists P = after b in let left = same b in let words_stay : s.words ≡ set s.words place y = sym (set-get_or s.words place 0) in
      let part : part_in begin me.0.parts ≡ w = ap (λ (v : ListView P). part_in begin v.parts) is in
      let t = good s.words parts r.lists_are here (r.same w.number w here) b
      (λ e. ⊎_elim (λ t. inl t) (λ t. inr (eqb-true y 0 t)) (split_or too (y == 0) e)) in (
        view (q ∷ []),
        keeps,
        tt,
        placed c seats clients holds s parts owner r place y id me.1 w q at' left.0 left.1
            (subst (λ (l : List ℕ). AreLists (list_count c) seats (takes_in c) holds l (set parts w.number q)) words_stay t.0),
        record {
          many = sym full ∙ r.lists_are.apart.many w.number w here;
          left = record { slots = refl; one = refl; full = left.2 ∙ ap (λ (x : SeatLists P). length x.cores) (sym part) };
          shows = t.1 ∙ ap (λ (x : SeatLists P). after_look_at at b standing (shown lists i x)) (sym part);
        },
      )

  -- a look, with what makes its standing good where the list is clear, and that nothing counted before
  looks_by : (lists i at : ℕ) (standing : Standing) (too : Bool) (slots id place : ℕ) (me : Me (Unit {0}) (ListView P)) (w : SeatLists P)
      → me.0 ≡ view (w ∷ []) → length w.cores ≡ lists → place ≡ at * word_count w.seats
      → ((words : List ℕ) (parts : List (SeatLists P)) → AreLists (list_count c) seats (takes_in c) holds words parts → get_elem? parts w.number ≡ some w
      → ((too ≡ true) ⊎ (slice_index words (at * word_count seats) ≡ 0)
      → AreLists (list_count c) seats (takes_in c) holds words (set parts w.number (looked_at at true w standing))) × (grant_in (list_count c) w ≡ None))
      → Allows (IsRunningList c seats clients holds) slots id me place (λ n. n) (IsLookPlay begin c lists i at standing too me)
  looks_by lists i at standing too slots id place me w is full place_is good =
      looks_to lists i at standing too slots id place me w (λ b. looked_at at b w standing) is full
      (λ b. (number_of at b w standing, seats_of at b w standing, full_of at b w standing))
      (λ words parts l here many b clear. let t = good words parts l here in (
        by_clear b words parts l here (λ e. t.0 (⊎_elim (λ a. inl a)
            (λ z. inr (ap (λ n. get_or words n 0) (sym (place_is ∙ ap (λ n. at * word_count n) many)) ∙ z)) (clear e))),
        shows_of lists i at b w standing t.1,
      ))
    where
      by_clear : (b : Bool) → (words : List ℕ) (parts : List (SeatLists P)) → AreLists (list_count c) seats (takes_in c) holds words parts
          → get_elem? parts w.number ≡ some w
          → (b ≡ true → AreLists (list_count c) seats (takes_in c) holds words (set parts w.number (looked_at at true w standing)))
          → AreLists (list_count c) seats (takes_in c) holds words (set parts w.number (looked_at at b w standing))
      by_clear true words parts l here good = good refl
      by_clear false words parts l here good = unpassed at false words parts w l here

  -- a look by which nothing comes to count
  glances : (lists i at : ℕ) (standing : Standing) (slots id place : ℕ) (me : Me (Unit {0}) (ListView P)) (w : SeatLists P) → me.0 ≡ view (w ∷ [])
      → length w.cores ≡ lists → w.standing ≡ standing
      → Allows (IsRunningList c seats clients holds) slots id me place (λ n. n) (IsLookPlay begin c lists i at standing true me)
  glances lists i at standing slots id place me w is full stands = looks_to lists i at standing true slots id place me w (λ b. only_looked at b w) is full
      (λ b. (refl, refl, refl)) (λ words parts l here many b clear. (unpassed at b words parts w l here, same_shown b))
    where
      same_shown : (b : Bool) → shown lists i (only_looked at b w) ≡ after_look_at at b standing (shown lists i w)
      same_shown true = λ k. after_look (shown lists i w) (stands k)
      same_shown false = refl

  -- what may be looked at shows what the seat holds
  module _ (cut : 0 < c.count) (lists i : ℕ) (w : SeatLists P) (p : SeatPart (Beside P)) (is : shown lists i w ≡ p) (full : length w.cores ≡ lists)
      (less : i < lists) (words : List ℕ) (parts : List (SeatLists P)) (l : AreLists (list_count c) seats (takes_in c) holds words parts)
      (here : get_elem? parts w.number ≡ some w) where
    lists_are : lists ≡ p.pass.lists
    lists_are = ap (λ (x : SeatPart (Beside P)). x.pass.lists) is

    many : lists ≡ list_count c
    many = sym full ∙ l.apart.many w.number w here

    more : 1 < p.pass.lists → 1 < list_count c
    more a = let b = lists_are in let d = many in omega arith

    list_is : i ≡ p.pass.list
    list_is = ap (λ (x : SeatPart (Beside P)). x.pass.list) is

    stands : w.standing ≡ p.pass.standing
    stands = ap (λ (x : SeatPart (Beside P)). x.pass.standing) is

    holds_there : held_in w i ≡ held_at p.core.own
    holds_there = ap (λ (x : SeatPart (Beside P)). held_at x.core.own) is

    clear : (at : ℕ) (too : Bool) (range : Held) → held_at p.core.own ≡ Some range → (too ≡ true → HoldsToo p at)
        → (too ≡ true) ⊎ (slice_index words (at * word_count seats) ≡ 0) → IsClear seats words w at range
    clear at too range held held_too looks = ⊎_elim
        (λ (t : too ≡ true). let h = held_too t in
        inr (sym (ap (λ (v : View). held_at v.own) (core_shown lists i w at))
        ∙ (ap (λ (x : SeatPart (Beside P)). held_at (shown_core x at).own) is ∙ (h.too ∙ (sym h.own ∙ held)))))
        (λ (e : slice_index words (at * word_count seats) ≡ 0). inl e) looks

    pub narrow_good : (too : Bool) (may : MayCount c p) → (too ≡ true → HoldsToo p 0) → (too ≡ true) ⊎ (slice_index words (0 * word_count seats) ≡ 0)
        → AreLists (list_count c) seats (takes_in c) holds words (set parts w.number (looked_at 0 true w (Narrow p.pass.list)))
    narrow_good too may held_too looks = let several = more may.several in
        subst (λ k. AreLists (list_count c) seats (takes_in c) holds words (set parts w.number (looked_at 0 true w (Narrow k)))) list_is
        (narrow_looks holds rested gains (list_count c) seats (takes_in c) words parts w.number w several (cut_by c cut) l here (look_trace w.trace) i may.range
        (stands ∙ may.standing) (subst (λ n. i < n) many less) (holds_there ∙ may.held) (λ j t. may.takes.alone j t ∙ sym list_is)
        (clear 0 too may.range may.held held_too looks))

    pub narrow_none : MayCount c p → grant_in (list_count c) w ≡ None
    narrow_none may = let several = more may.several in
        counts_many (list_count c) w.standing (held_in w) (λ e. omega arith)
        ∙ ap (λ (t : Standing). counted_of_many (list_count c) t (held_in w)) (stands ∙ may.standing)

    stood : (at up : ℕ) → MayPass c p at up → (w.standing ≡ Free) ⊎ ((n : ℕ) × (w.standing ≡ Wide n))
    stood at up may = ⊎_elim (λ (e : p.pass.standing ≡ Free). inl (stands ∙ e)) (λ (t : (n : ℕ) × (p.pass.standing ≡ Wide n)). inr (t.0, stands ∙ t.1))
        may.standing

    pub wide_good : (at up : ℕ) (too : Bool) (may : MayPass c p at up) → (too ≡ true → HoldsToo p at)
        → (too ≡ true) ⊎ (slice_index words (at * word_count seats) ≡ 0)
        → AreLists (list_count c) seats (takes_in c) holds words (set parts w.number (looked_at at true w (Wide up)))
    wide_good at up too may held_too looks = let several = more may.several in
        let first : i ≡ 0 = list_is ∙ may.first in
        let passed : passed_by w.standing ≡ passed_by p.pass.standing = ap passed_by stands in
        wide_looks holds rested gains (list_count c) seats (takes_in c) words parts w.number w several (cut_by c cut) l here
        (look_trace w.trace) at up may.range
        (stood at up may) (ap (held_in w) (sym first) ∙ (holds_there ∙ may.held)) (subst (λ n. n ≤ at) (sym passed) may.from) may.below
        (let a = may.most in let b = lists_are in let d = many in omega arith)
        (λ other from below differ. may.others other (subst (λ n. n ≤ other) passed from) below differ) (clear at too may.range may.held held_too looks)

    pub wide_none : (at up : ℕ) → MayPass c p at up → grant_in (list_count c) w ≡ None
    wide_none at up may = let several = more may.several in
        let passed : passed_by w.standing ≡ passed_by p.pass.standing = ap passed_by stands in
        let low : passed_by w.standing < list_count c =
        (let a = may.from in let b = may.below in let d = may.most in let e = lists_are in let f = many in omega arith) in
        counts_many (list_count c) w.standing (held_in w) (λ e. omega arith) ∙ ⊎_elim
        (λ (e : w.standing ≡ Free). ap (λ (t : Standing). counted_of_many (list_count c) t (held_in w)) e)
        (λ (t : (n : ℕ) × (w.standing ≡ Wide n)). let z : passed_by w.standing ≡ t.0 = ap passed_by t.1 in
        ap (λ (x : Standing). counted_of_many (list_count c) x (held_in w)) t.1
        ∙ ap (λ (b : Bool). if b then held_in w 0 else None) (ne_eqb t.0 (list_count c) (λ e. omega arith))) (stood at up may)

  -- each look that a seat may make, in a table of that cut
  seat_looks : 0 < c.count → (lists i at : ℕ) (standing : Standing) (too : Bool) (slots id place : ℕ) (me : Me (Unit {0}) (ListView P)) (w : SeatLists P)
      (p : SeatPart (Beside P)) → me.0 ≡ view (w ∷ []) → shown lists i w ≡ p → length w.cores ≡ lists → i < lists → IsLook c p at standing too
      → place ≡ at * word_count w.seats
      → Allows (IsRunningList c seats clients holds) slots id me place (λ n. n) (IsLookPlay begin c lists i at standing too me)
  seat_looks cut lists i at _ _ slots id place me w p is shows full less (narrow too may first held_too) there =
      looks_by lists i at (Narrow p.pass.list) too slots id place me w is full there
      (λ words parts l here. (
        λ looks. narrow_good cut lists i w p shows full less words parts l here too may
            (λ t. subst (HoldsToo p) first (held_too t)) (subst (λ n. (too ≡ true) ⊎ (slice_index words (n * word_count seats) ≡ 0)) first looks),
        narrow_none cut lists i w p shows full less words parts l here may,
      ))
  seat_looks cut lists i at _ _ slots id place me w p is shows full less (wide up too may held_too) there =
      looks_by lists i at (Wide up) too slots id place me w is full there
      (λ words parts l here. (
        wide_good cut lists i w p shows full less words parts l here at up too may held_too,
        wide_none cut lists i w p shows full less words parts l here at up may,
      ))
  seat_looks cut lists i at _ _ slots id place me w p is shows full less glance there =
      glances lists i at p.pass.standing slots id place me w is full (ap (λ (x : SeatPart (Beside P)). x.pass.standing) shows)

  -- the same with the names that the call has for the table and its token
  pub token_looks : 0 < c.count → {key_cut play_cut : Regions} {key_seats : ℕ} → key_cut ≡ c → play_cut ≡ c → key_seats ≡ seats
      → {at play_at : ℕ} → play_at ≡ at → (standing : Standing) (too : Bool) (slots id place : ℕ) (me : Me (Unit {0}) (ListView P)) {lists i words : ℕ}
      {p : SeatPart (Beside P)}
      {play_lists play_list : ℕ} (token : IsToken begin me.0.parts lists i words p play_lists play_list) → IsLook c p at standing too
      → place ≡ at * word_count token.many
      → Allows (IsRunningList key_cut key_seats clients holds) slots id me place (λ n. n)
      (IsLookPlay begin play_cut play_lists play_list play_at standing too me)
  token_looks cut same_cut same_play same {at} {play_at} same_at standing too slots id place me {lists} {i} {words} {p} {play_lists} {play_list} token look
      there =
      subst (λ (z : ((Regions × Regions) × ℕ) × ℕ). Allows (IsRunningList z.0.0.0 z.0.1 clients holds) slots id me place (λ n. n)
      (IsLookPlay begin z.0.0.1 play_lists play_list z.1 standing too me)) (λ k. (((sym same_cut k, sym same_play k), sym same k), sym same_at k))
      (seat_looks cut play_lists play_list at standing too slots id place me (part_in begin me.0.parts) p (ap view token.one) (play_shows token)
      (token.seat.full ∙ sym (same_lists token)) (list_there token) look (there ∙ ap (λ n. at * word_count n) (sym token.seat.seats_are)))

-- the head of a list is one of the table's words
pub head_there : {P : Type 0} {begin : P} {parts : List (SeatLists P)} {id other : TableId} {lists i at place play_lists play_list : ℕ}
    {p : SeatPart (Beside P)} → id ≡ other → (token : IsToken begin parts lists i id.words p play_lists play_list) → at < p.pass.lists
    → place ≡ at * word_count token.many → place < other.words
head_there {P} {begin} {parts} {id} {other} {lists} {i} {at} {place} {play_lists} {play_list} {p} same token less there =
    let lists_are : lists ≡ p.pass.lists = ap (λ (x : SeatPart (Beside P)). x.pass.lists) token.shown_is in let many = token.many in
    let behind : at * word_count many + word_count many ≤ lists * word_count many = further at lists (word_count many) (omega arith) in
    let all : lists * word_count many ≤ id.words = token.seat.words_there in
    let words : id.words ≡ other.words = ap (λ (t : TableId). t.words) same in omega arith

module _ {P : Type 0} {begin : P} {play_cut : Regions} {play_lists play_list play_at : ℕ} {standing : Standing} {too : Bool} {found : ℕ}
    {me me' : Me (Unit {0}) (ListView P)} (play : IsLookPlay begin play_cut play_lists play_list play_at standing too me found me') where
  -- what a token shows after a look, with the names that the call has
  pub part_looked : {lists i words at : ℕ} {p : SeatPart (Beside P)} → play_at ≡ at → IsToken begin me.0.parts lists i words p play_lists play_list
      → shown_of begin lists i me'.0.parts ≡ after_look_at at (too || found == 0) standing p
  part_looked {lists} {i} {words} {at} {p} same token = sym (play_shown token me'.0.parts)
      ∙ (play.shows ∙ (ap (after_look_at play_at (too || found == 0) standing) (play_shows token)
      ∙ ap (λ n. after_look_at n (too || found == 0) standing p) same))

  -- the token is of the same seat still
  pub seat_looked : {number many lists list first words words' : ℕ} → me.1 ≡ [] → IsSeatOf (part_in begin me.0.parts) number many lists list first words
      → words' ≡ words → IsKept begin me' number many lists list first words'
  seat_looked = same_seat play.left (ap (λ (x : SeatPart (Beside P)). x.number) play.shows) (ap (λ (x : SeatPart (Beside P)). x.seats) play.shows)

-- a hand may rely on its view after a look as before
pub look_view : {P : Type 0} (at : ℕ) (clear : Bool) (standing : Standing) (p : SeatPart (Beside P)) → IsHandView p
    → IsHandView (after_look_at at clear standing p)
look_view at clear standing p h = record { sound = h.sound; pooled = h.pooled; looked = h.looked }

-- so it is a hand still
pub look_hand : {P : Type 0} {p q : SeatPart (Beside P)} (at : ℕ) (clear : Bool) (standing : Standing) {core : View} {views : List View}
    → q ≡ after_look_at at clear standing p → (p.core ≡ core) × IsHandView p × AreOthers p.seats p.number p.pass.lists p.pass.list p.pass.others views
    → (q.core ≡ core) × IsHandView q × AreOthers q.seats q.number q.pass.lists q.pass.list q.pass.others views
look_hand {P} {p} {q} at clear standing {core} {views} is h = (
  ap (λ (x : SeatPart (Beside P)). x.core) is ∙ h.0,
  subst (λ (x : SeatPart (Beside P)). IsHandView x) (sym is) (look_view at clear standing p h.1),
  subst (λ (x : SeatPart (Beside P)). AreOthers x.seats x.number x.pass.lists x.pass.list x.pass.others views) (sym is) h.2,
)
