-- A step puts one new part at its seat's number and changes one word: what is to be shown for the table's rule to
-- hold after it.
use Rattle.std.proofs.Common.{◌≡◌, ◌≢◌, ◌<◌, ◌≤◌, ◌*◌, ℕ, zero, suc, Some, List, [], ◌∷◌, map, length, set, sym, refl, ap, ◌∙◌, subst}
use Rattle.std.proofs.Common.{length-set, ⊎_elim, arith}
use Rattle.std.specs.Prelude.{slice_index}
use mathlib.Core.Option.{some, some-injective, some-ne-none}
use mathlib.Core.Logic.{dite}
use native.Mathlib.Decide.{ℕ_discrete}
use lib.ListN.{get_elem?}
use Rattle.atomic_table.specs.Seated.{TableId}
use Rattle.atomic_table.specs.Table.{State, Me, keeps, stepped, Allows}
use Rattle.atomic_table.proofs.Lists.{at_set, set_here, set_else}
use Rattle.lock_core.specs.Grants.{Grants, Conflicts}
use Rattle.lock_core.specs.declared.range.Held.{Held}
use Rattle.lock_laws.specs.Laws.{IsLock}
use Rattle.list_cuts.specs.Cut.{Regions, list_count}
use Rattle.epoch_pools.specs.declared.views.SeatLists.{SeatLists}
use Rattle.epoch_pools.specs.declared.views.SeatPart.{SeatPart}
use Rattle.epoch_pools.specs.declared.views.Beside.{Beside}
use Rattle.epoch_pools.specs.declared.views.ListView.{ListView}
use Rattle.lock_core.specs.Words.{word_count}
use Rattle.epoch_pools.specs.declared.views.Standing.TheVariants.{Narrow, Wide}
use Rattle.epoch_pools.specs.Beside.{held_in}
use Rattle.epoch_pools.specs.Hands.{ListShape, HandState, part_in, shown_of, IsSeatOf}
use Rattle.epoch_pools.specs.Running.{machine_at, cores_of, IsNarrow, IsWide, AreLocks}
use Rattle.epoch_pools.specs.Running.{view, takes_in, AreLists, IsOneLeft, IsOwned, Stands, Ruled, IsRunningList}
use Rattle.lock_core.proofs.ByPlace.{below as at_below}

only : {A : Type 0} (q x : A) (k : ℕ) → get_elem? (q ∷ []) k ≡ some x → q ≡ x
only q x zero e = some-injective q x e
only q x (suc k) e = absurd (some-ne-none x (sym e))

-- what a token keeps: it has no slot and one part, that of its seat
abbrev pub IsKept : {P : Type 0} → P → Me (Unit {0}) (ListView P) → ℕ → ℕ → ℕ → ℕ → ℕ → ℕ → Type 0
IsKept begin me number many lists list first words =
    (me.1 ≡ []) × (me.0.parts ≡ part_in begin me.0.parts ∷ []) × IsSeatOf (part_in begin me.0.parts) number many lists list first words

-- a token of which a step leaves the number and how many seats and lists there are is of the same seat
pub same_seat : {P : Type 0} {begin : P} {me me' : Me (Unit {0}) (ListView P)} → IsOneLeft begin me me'
    → (part_in begin me'.0.parts).number ≡ (part_in begin me.0.parts).number → (part_in begin me'.0.parts).seats ≡ (part_in begin me.0.parts).seats
    → {number many lists list first words words' : ℕ} → me.1 ≡ [] → IsSeatOf (part_in begin me.0.parts) number many lists list first words → words' ≡ words
    → IsKept begin me' number many lists list first words'
same_seat left same_number same_seats {number} {many} {lists} none s same =
    let words = subst (λ (n : ℕ). lists * word_count many ≤ n) (sym same) s.words_there in
    (left.slots ∙ none, left.one, assumption (same_number ∙ s.number_is, same_seats ∙ s.seats_are, left.full ∙ s.full, s))

-- what a call knows of its token: it has one part, that of its seat, which shows p in the list to which the token is
-- turned, and the play names that list
pub record IsToken {P : Type 0} (begin : P) (parts : List (SeatLists P)) (lists i words : ℕ) (p : SeatPart (Beside P)) (play_lists play_list : ℕ) : Type 0 where
  pub number : ℕ
  pub many : ℕ
  pub first : ℕ
  pub one : parts ≡ part_in begin parts ∷ []
  pub seat : IsSeatOf (part_in begin parts) number many lists i first words
  pub shown_is : shown_of begin lists i parts ≡ p
  pub lists_are : play_lists ≡ p.pass.lists
  pub list_is : play_list ≡ p.pass.list

module _ {P : Type 0} {begin : P} {parts : List (SeatLists P)} {lists i words : ℕ} {p : SeatPart (Beside P)} {play_lists play_list : ℕ}
    (t : IsToken begin parts lists i words p play_lists play_list) where
  pub same_lists : play_lists ≡ lists
  same_lists = t.lists_are ∙ ap (λ (x : SeatPart (Beside P)). x.pass.lists) (sym t.shown_is)

  same_list : play_list ≡ i
  same_list = t.list_is ∙ ap (λ (x : SeatPart (Beside P)). x.pass.list) (sym t.shown_is)

  pub list_there : play_list < play_lists
  list_there = let a = same_lists in let b = same_list in let c = t.seat.within in omega arith

  -- what the play's list shows of any parts is what the token's list shows
  pub play_shown : (parts' : List (SeatLists P)) → shown_of begin play_lists play_list parts' ≡ shown_of begin lists i parts'
  play_shown parts' = λ k. shown_of begin (same_lists k) (same_list k) parts'

  pub play_shows : shown_of begin play_lists play_list parts ≡ p
  play_shows = play_shown parts ∙ t.shown_is

  pub many_seats : p.seats ≡ t.many
  many_seats = ap (λ (x : SeatPart (Beside P)). x.seats) (sym t.shown_is) ∙ t.seat.seats_are

-- so a token's invariant, its view and what the play names tell it
abbrev pub token_of : {P : Type 0} (begin : P) {slots : List (ℕ × Unit {0})} {parts : List (SeatLists P)} {number many lists i first play_lists play_list : ℕ}
    {table : TableId} {token : HandState (Beside P)}
    → (slots ≡ []) × (parts ≡ part_in begin parts ∷ []) × IsSeatOf (part_in begin parts) number many lists i first table.words
    → record { table = table; part = shown_of begin lists i parts } ≡ token → (play_lists ≡ token.part.pass.lists) × (play_list ≡ token.part.pass.list)
    → IsToken begin parts lists i table.words token.part play_lists play_list
token_of {P} begin known is named = record {
  number = _;
  many = _;
  first = _;
  one = known.1;
  seat = known.2;
  shown_is = ap (λ (h : HandState (Beside P)). h.part) is;
  lists_are = named.0;
  list_is = named.1;
}

-- and it is of the list's table
pub one_table : {P : Type 0} {id table : TableId} {part : SeatPart (Beside P)} {token : HandState (Beside P)} {seats client : ℕ} {cut : Regions}
    {list : ListShape} → record { table = id; part = part } ≡ token → record { table = table; seats = seats; client = client; cut = cut } ≡ list
    → token.table ≡ list.table → id ≡ table
one_table {P} token_is list_is same = ap (λ (h : HandState (Beside P)). h.table) token_is ∙ (same ∙ sym (ap (λ (l : ListShape). l.table) list_is))

-- what an operation that makes f of a word owes the table that it is made on, to say so much to its seat
abbrev pub Goes : {P : Type 0} → TableId → TableId → (State (Unit {0}) (ListView P) → Type 0) → ℕ → ℕ → Me (Unit {0}) (ListView P) → ℕ → (ℕ → ℕ)
    → (ℕ → Me (Unit {0}) (ListView P) → Type 0) → Type 0
Goes id table holds slots own me word f says = (id ≡ table) × (word < table.words) × Allows holds slots own me word f says

-- a store doesn't tell what it found, but that it found a value
pub untold : {P : Type 0} (id table : TableId) (holds : State (Unit {0}) (ListView P) → Type 0) (slots own : ℕ) (me : Me (Unit {0}) (ListView P)) (word : ℕ)
    (f : ℕ → ℕ) (says : ℕ → Me (Unit {0}) (ListView P) → Type 0) → Goes id table holds slots own me word f says
    → Goes id table holds slots own me word f (λ _ me'. (found : ℕ) × says found me')
untold id table holds slots own me word f says goes = (
  goes.0,
  goes.1,
  λ s running l here small. let r = goes.2 s running l here small in
      (r.0, r.1, r.2, r.3, (slice_index s.words word, r.4)),
)

-- where the item at n becomes q, what is so of each item is so, if it is of q
at_each : {A : Type 0} (Q : A → Type 0) (l : List A) (n : ℕ) (q : A) → Q q → ((k : ℕ) (x : A) → get_elem? l k ≡ some x → Q x)
    → (k : ℕ) (x : A) → get_elem? (set l n q) k ≡ some x → Q x
at_each Q l n q mine rest k x at = ⊎_elim (λ t. subst Q t.1 mine) (λ t. rest k x t.1) (at_set l n k q x at)

module _ {P : Type 0} {lists seats : ℕ} {takes : Held → ℕ → Type 0} {words : List ℕ} {parts : List (SeatLists P)}
    (r : AreLocks lists seats takes words parts) (words' : List ℕ) (n : ℕ) (q : SeatLists P) where
  -- where one seat's part becomes q, each list is a lock still and what counts is held, if so it is of q and the others
  pub apart_with : length q.cores ≡ lists → ((i : ℕ) → i < lists → IsLock (machine_at i seats words' (map cores_of (set parts n q))))
      → ((i : ℕ) → q.standing ≡ Narrow i → IsNarrow lists takes q i) → ((p : ℕ) → q.standing ≡ Wide p → IsWide lists q p)
      → ((b i p : ℕ) (y : SeatLists P) (g h : Held) → n ≢ b → get_elem? parts b ≡ some y → q.standing ≡ Narrow i → y.standing ≡ Wide p → i < p
      → held_in q i ≡ Some g → held_in y 0 ≡ Some h → takes h i → ¬ (Conflicts g h))
      → ((a i p : ℕ) (x : SeatLists P) (g h : Held) → a ≢ n → get_elem? parts a ≡ some x → x.standing ≡ Narrow i → q.standing ≡ Wide p → i < p
      → held_in x i ≡ Some g → held_in q 0 ≡ Some h → takes h i → ¬ (Conflicts g h)) → AreLocks lists seats takes words' (set parts n q)
  apart_with full locks narrow wide narrow_passed wide_passed = record {
    many = at_each (λ (y : SeatLists P). length y.cores ≡ lists) parts n q full r.many;
    locks = locks;
    narrow_one = λ k i. at_each (λ (y : SeatLists P). y.standing ≡ Narrow i → IsNarrow lists takes y i) parts n q (narrow i) (λ k. r.narrow_one k i) k;
    wide_one = λ k p. at_each (λ (y : SeatLists P). y.standing ≡ Wide p → IsWide lists y p) parts n q (wide p) (λ k. r.wide_one k p) k;
    passed = λ a b i p x y g h differ at_a at_b narrow_a wide_b below held_a held_b taken. ⊎_elim
        (λ (s : (a ≡ n) × (q ≡ x)). ⊎_elim (λ (u : (b ≡ n) × (q ≡ y)). absurd (differ (s.0 ∙ sym u.0)))
        (λ (u : (b ≢ n) × (get_elem? parts b ≡ some y)). narrow_passed b i p y g h (λ e. u.0 (sym e)) u.1 (ap (λ (z : SeatLists P). z.standing) s.1 ∙ narrow_a)
        wide_b below (ap (λ (z : SeatLists P). held_in z i) s.1 ∙ held_a) held_b taken) (at_set parts n b q y at_b))
        (λ (s : (a ≢ n) × (get_elem? parts a ≡ some x)). ⊎_elim
        (λ (u : (b ≡ n) × (q ≡ y)). wide_passed a i p x g h s.0 s.1 narrow_a (ap (λ (z : SeatLists P). z.standing) u.1 ∙ wide_b) below held_a
        (ap (λ (z : SeatLists P). held_in z 0) u.1 ∙ held_b) taken)
        (λ (u : (b ≢ n) × (get_elem? parts b ≡ some y)). r.passed a b i p x y g h differ s.1 u.1 narrow_a wide_b below held_a held_b taken)
        (at_set parts n b q y at_b)) (at_set parts n a q x at_a);
  }

module _ {P : Type 0} where
  owned_after : (views : List (ListView P)) (parts : List (SeatLists P)) (owner : ℕ → ℕ) (id : ℕ) (p q : SeatLists P)
      → IsOwned views parts owner → get_elem? views id ≡ some (view (p ∷ [])) → q.number ≡ p.number
      → IsOwned (set views id (view (q ∷ []))) (set parts p.number q) owner
  owned_after views parts owner id p q o at same id' v at' k x there = let here = o id (view (p ∷ [])) at 0 p refl in
      ⊎_elim
      (λ t. let is : q ≡ x = only q x k (subst (λ (z : ListView P). get_elem? z.parts k ≡ some x) (sym t.1) there) in
      subst (λ (y : SeatLists P). (get_elem? (set parts p.number q) y.number ≡ some y) × (owner y.number ≡ id')) is
      (subst (λ (n : ℕ). (get_elem? (set parts p.number q) n ≡ some q) × (owner n ≡ id')) (sym same)
      (set_here parts p.number q (at_below parts p.number p here.0), here.1 ∙ sym t.0)))
      (λ t. let r = o id' v t.1 k x there in
      (set_else parts p.number x.number q (λ e. t.0 (sym r.1 ∙ (ap owner e ∙ here.1))) ∙ r.0, r.1)) (at_set views id id' (view (q ∷ [])) v at')

  stands_after : (views : List (ListView P)) (id own n : ℕ) (p q : SeatLists P) → get_elem? views id ≡ some (view (p ∷ []))
      → q.number ≡ p.number → Stands views own n → Stands (set views id (view (q ∷ []))) own n
  stands_after views id own n p q at same st = dite (ℕ_discrete own id)
      (λ e. let is : view (p ∷ []) ≡ st.holder = some-injective _ _ (sym at ∙ (ap (get_elem? views) (sym e) ∙ st.at)) in
      let one : p ≡ st.part = only p st.part st.place (subst (λ (z : ListView P). get_elem? z.parts st.place ≡ some st.part) (sym is) st.has) in
      record {
        holder = view (q ∷ []);
        at = ap (get_elem? (set views id (view (q ∷ [])))) e ∙ set_here views id (view (q ∷ [])) (at_below views id (view (p ∷ [])) at);
        place = 0;
        part = q;
        has = refl;
        number = same ∙ (ap (λ (x : SeatLists P). x.number) one ∙ st.number);
      })
      (λ differ. let at = set_else views id own (view (q ∷ [])) differ ∙ st.at in
      record { holder = st.holder; at = at; place = st.place; part = st.part; has = st.has; number = st.number })

module _ {P : Type 0} (c : Regions) (seats clients : ℕ) (holds : Grants → List ℕ → List P → Type 0) where
  -- the seat's part is the one of its number
  pub part_here : (s : State (Unit {0}) (ListView P)) (parts : List (SeatLists P)) (owner : ℕ → ℕ)
      → Ruled c seats clients holds s parts owner → (id : ℕ) (p : SeatLists P) → get_elem? s.views id ≡ some (view (p ∷ [])) → get_elem? parts p.number ≡ some p
  part_here s parts owner r id p at = (r.owned id (view (p ∷ [])) at 0 p refl).0

  -- the rule holds after a step that leaves the part q where p was, if the lists' rule and the guard's do
  pub placed : (s : State (Unit {0}) (ListView P)) (parts : List (SeatLists P)) (owner : ℕ → ℕ)
      (r : Ruled c seats clients holds s parts owner) (i n id : ℕ) (w : List (ℕ × Unit {0})) (p q : SeatLists P)
      → get_elem? s.views id ≡ some (view (p ∷ [])) → q.number ≡ p.number → q.seats ≡ p.seats
      → AreLists (list_count c) seats (takes_in c) holds (set s.words i n) (set parts p.number q)
      → IsRunningList c seats clients holds (stepped s i n id w (view (q ∷ [])) keeps)
  placed s parts owner r i n id w p q at number many good = (
    set parts p.number q,
    owner,
    record {
      cut = r.cut;
      count = length-set parts p.number q ∙ r.count;
      wide = length-set s.words i n ∙ r.wide;
      owned = owned_after s.views parts owner id p q r.owned at number;
      stands = λ m lt. stands_after s.views id (owner m) m p q at number (r.stands m lt);
      same = at_each (λ (x : SeatLists P). x.seats ≡ seats) parts p.number q (many ∙ r.same p.number p (part_here s parts owner r id p at)) r.same;
      lists_are = good;
    },
  )
