-- A step on a client word keeps the table's rule by the guard's law of steps alone: it leaves the words of all lists
-- and the views of the lists as they are.
use Rattle.std.proofs.Common.{◌≡◌, ℕ, ◌+◌, ◌-◌, ◌*◌, ◌<◌, ◌≤◌, List, [], ◌∷◌, map, take, drop, get_or, set, length, sym, refl, ap, ◌∙◌, subst, arith}
use Rattle.std.proofs.lemmas.List.{map-set, take-set-le, drop-set-add, get_or-drop, length-drop}
use mathlib.Core.Option.{some}
use lib.ListN.{get_elem?}
use Rattle.atomic_table.specs.Table.{Me, keeps, stepped, Allows}
use Rattle.atomic_table.specs.Seated.{TableId}
use Rattle.atomic_table.proofs.Lists.{set_again, at_map}
use Rattle.lock_core.specs.Grants.{Grants}
use Rattle.list_cuts.specs.Cut.{Regions, list_count}
use Rattle.lock_core.specs.Client.{ClientStep, place_of, words_after, Moment, IsAllowed, IsMade}
use Rattle.lock_core.specs.declared.range.Held.{Held}
use Rattle.lock_core.specs.declared.views.View.{View}
use Rattle.lock_core.specs.Words.{word_count}
use Rattle.lock_core.specs.Machine.{held_at}
use Rattle.list_cuts.proofs.Cutting.{overlaps_meet_law}
use Rattle.lock_laws.specs.Laws.{IsLock}
use Rattle.epoch_pools.specs.declared.views.SeatLists.{SeatLists}
use Rattle.epoch_pools.specs.declared.views.SeatPart.{SeatPart}
use Rattle.epoch_pools.specs.declared.views.Beside.{Beside}
use Rattle.epoch_pools.specs.declared.views.ListView.{ListView}
use Rattle.epoch_pools.specs.Standings.{counted_of}
use Rattle.epoch_pools.specs.Beside.{core_at, held_in, grant_in, inner_pass, shown, shown_grant}
use Rattle.epoch_pools.specs.Running.{IsCutBy, takes_in, cores_of, pass_of, grants_in, view, AreLocks, IsRunningList, client_lists, client_part, IsClientPlay}
use Rattle.epoch_pools.specs.Hands.{ListShape, IsTable, cut_of, part_in, shown_of}
use Rattle.epoch_pools.specs.declared.client.ClientAct.{ClientAct}
use Rattle.epoch_pools.specs.declared.client.ClientAct.TheVariants.{Load, Store, Add, Exchange}
use Rattle.epoch_pools.specs.ClientActs.{client_step}
use Rattle.epoch_pools.proofs.Placing.{apart_with, part_here, placed, IsToken, Goes, untold, same_lists, play_shown, play_shows}
use Rattle.epoch_pools.proofs.Slices.{further}
use Rattle.epoch_pools.proofs.Turning.{core_shown}
use Rattle.epoch_pools.proofs.Counting.{counts_exclude}

-- the lists of a cut are such that ranges in conflict take one in common
pub cut_by : (c : Regions) → 0 < c.count → IsCutBy (list_count c) (takes_in c)
cut_by c more g h range_g range_h conflict = let m = overlaps_meet_law c g.range h.range more range_g range_h conflict.0 in (m.list, m.there, m.left, m.right)

-- what a hand shows of what counts is what counts
pub grant_shown : {P : Type 0} (lists i : ℕ) (w : SeatLists P) → shown_grant (shown lists i w) ≡ grant_in lists w
grant_shown lists i w = ap (counted_of lists w.standing) (λ k j. held_at (core_shown lists i w j k).own)

-- where a seat's views and standing stay, and the words of all lists, the lists' rule does
pub locks_stay : {P : Type 0} (lists seats : ℕ) (takes : Held → ℕ → Type 0) (words words' : List ℕ) (parts : List (SeatLists P)) (n : ℕ) (w q : SeatLists P)
    → AreLocks lists seats takes words parts → get_elem? parts n ≡ some w → q.cores ≡ w.cores → q.standing ≡ w.standing
    → ((i : ℕ) → i < lists → take (word_count seats) (drop (i * word_count seats) words) ≡ take (word_count seats) (drop (i * word_count seats) words'))
    → AreLocks lists seats takes words' (set parts n q)
locks_stay {P} lists seats takes words words' parts n w q r here cores standing same =
    let all : map cores_of (set parts n q) ≡ map cores_of parts = map-set cores_of parts n q
    ∙ (ap (set (map cores_of parts) n) cores ∙ set_again (map cores_of parts) n w.cores (at_map cores_of parts n w here)) in
    let holds : (i : ℕ) → held_in q i ≡ held_in w i = λ i. ap (λ (l : List View). held_at (core_at i l).own) cores in
    apart_with r words' n q (ap (λ (l : List View). length l) cores ∙ r.many n w here)
    (λ i less. subst IsLock (λ k. record { seats = seats; words = same i less k; views = map (core_at i) (sym all k) }) (r.locks i less))
    (λ i is. let one = r.narrow_one n i w here (sym standing ∙ is) in
    record { there = one.there; range = one.range; held = holds i ∙ one.held; only = one.only })
    (λ p is. let one = r.wide_one n p w here (sym standing ∙ is) in
    record { first = one.first; most = one.most; range = one.range; held = holds 0 ∙ one.held })
    (λ b i p y g h differ there is wide_b below held_q. r.passed n b i p w y g h differ here there (sym standing ∙ is) wide_b below (sym (holds i) ∙ held_q))
    (λ a i p x g h differ there narrow_a is below held_a held_q.
    r.passed a n i p x w g h differ there here narrow_a (sym standing ∙ is) below held_a (sym (holds 0) ∙ held_q))

-- the words of a list stay where a word behind all lists changes
words_before : (n a base place : ℕ) (words : List ℕ) (value : ℕ) → a + n ≤ base → take n (drop a words) ≡ take n (drop a (set words (base + place) value))
words_before n a base place words value le = let at : base + place ≡ a + ((base - a) + place) = omega arith in
    sym (ap (λ k. take n (drop a (set words k value))) at
    ∙ (ap (take n) (drop-set-add a words ((base - a) + place) value) ∙ take-set-le n (drop a words) ((base - a) + place) value (omega arith)))

module _ {P N : Type 0} (begin : P) (holds : Grants → List ℕ → List P → Type 0)
    (allows : Grants → List ℕ → List P → ℕ → ClientStep → N → P → Type 0) (note : N) where
  -- what the call that makes a step on client word i knows: the guard's law, its token and the table that both are of,
  -- that the guard allows the step that this operation is, and its place in the table
  pub record IsClientCall (parts : List (SeatLists P)) (lists list : ℕ) (id table : TableId) (p : SeatPart (Beside P)) (play_lists play_list : ℕ)
      (c : Regions) (seats clients : ℕ) (step : ClientStep) (act : ClientAct) (i word : ℕ) : Type 0 where
    pub law : (grants : Grants) (words : List ℕ) (passes : List P) (seat : ℕ) (step : ClientStep) (note : N) (after : P)
        → holds grants words passes → allows grants words passes seat step note after → holds grants (words_after words step) (set passes seat after)
    pub token : IsToken begin parts lists list id.words p play_lists play_list
    pub same : id ≡ table
    pub acting : step ≡ client_step act i
    pub there : (word < table.words) × (word ≡ list_count c * word_count seats + place_of step) × (place_of step < clients)
    pub allowed : IsAllowed holds allows note p.number (shown_grant p) (inner_pass p) step

module _ {P N : Type 0} {begin : P} {holds : Grants → List ℕ → List P → Type 0} {allows : Grants → List ℕ → List P → ℕ → ClientStep → N → P → Type 0} {note : N}
    {me : Me (Unit {0}) (ListView P)} {token_lists token_list : ℕ} {id table : TableId} {p : SeatPart (Beside P)} {lists i : ℕ}
    {c : Regions} {seats clients : ℕ} {step : ClientStep} {act : ClientAct} {word_of word : ℕ}
    (call : IsClientCall begin holds allows note me.0.parts token_lists token_list id table p lists i c seats clients step act word_of word) where
  -- one case for all client steps; f says what the step makes of the word
  client_keeps : (slots own : ℕ) (f : ℕ → ℕ) → ((words : List ℕ) → words_after words step ≡ set words (place_of step) (f (get_or words (place_of step) 0)))
      → Allows (IsRunningList c seats clients holds) slots own me word f (IsClientPlay begin holds allows note lists i step me)
  client_keeps slots id f changes s running _ at small =
      let w : SeatLists P = part_in begin me.0.parts in let is : me.0 ≡ view (w ∷ []) = ap view call.token.one in
      let full : length w.cores ≡ lists = call.token.seat.full ∙ sym (same_lists call.token) in
      let word_is = call.there.1 in let below = call.there.2 in
      let allowed : IsAllowed holds allows note w.number (shown_grant (shown lists i w)) w.pass step =
      subst (λ (x : SeatPart (Beside P)). IsAllowed holds allows note x.number (shown_grant x) (inner_pass x) step) (sym (play_shows call.token))
      call.allowed in
      let parts = running.0 in let owner = running.1 in let r = running.2 in
      let base : ℕ = list_count c * word_count seats in let place = place_of step in let words = drop base s.words in
      let at' : get_elem? s.views id ≡ some (view (w ∷ [])) = at ∙ ap some is in
      let here = part_here c seats clients holds s parts owner r id w at' in
      let same : lists ≡ list_count c = sym full ∙ r.lists_are.apart.many w.number w here in
      let grants : Grants = grants_in (list_count c) parts in let passes = map pass_of parts in
      let y : ℕ = get_or words place 0 in
      let found : get_or s.words word 0 ≡ y = ap (λ k. get_or s.words k 0) word_is ∙ sym (get_or-drop base s.words place 0) in
      let grant : shown_grant (shown lists i w) ≡ grant_in (list_count c) w = grant_shown lists i w ∙ ap (λ k. grant_in k w) same in
      let moment : Moment holds w.number (shown_grant (shown lists i w)) w.pass grants words passes = record {
        met = r.lists_are.guard;
        exclusive = counts_exclude (list_count c) seats (takes_in c) s.words parts r.lists_are.apart (cut_by c r.cut);
        grant = at_map (grant_in (list_count c)) parts w.number w here ∙ ap some (sym grant);
        own = at_map pass_of parts w.number w here;
      } in let wide : length words ≡ clients = let w = r.wide in length-drop base s.words ∙ omega arith in
      let small' : y < 18446744073709551616 = subst (λ (n : ℕ). n < 18446744073709551616) found small in
      let t = allowed grants words passes moment (omega arith) small' in let q : SeatLists P = client_lists w place t.0 in
      let stay : (j : ℕ) → j < list_count c → take (word_count seats) (drop (j * word_count seats) s.words)
      ≡ take (word_count seats) (drop (j * word_count seats) (set s.words (base + place) (f y))) = λ j less.
      words_before (word_count seats) (j * word_count seats) base place s.words (f y) (further j (list_count c) (word_count seats) less) in
      let apart : AreLocks (list_count c) seats (takes_in c) (set s.words (base + place) (f y)) (set parts w.number q) =
      locks_stay (list_count c) seats (takes_in c) s.words (set s.words (base + place) (f y)) parts w.number w q r.lists_are.apart here refl refl stay in
      let grants_now : grants ≡ grants_in (list_count c) (set parts w.number q) =
      sym (set_again grants w.number (grant_in (list_count c) w) (at_map (grant_in (list_count c)) parts w.number w here))
      ∙ sym (map-set (grant_in (list_count c)) parts w.number q) in
      let part : part_in begin me.0.parts ≡ w = ap (λ (v : ListView P). part_in begin v.parts) is in (
        view (q ∷ []),
        keeps,
        tt,
        subst (λ (z : ℕ × ℕ). IsRunningList c seats clients holds (stepped s z.0 (f z.1) id me.1 (view (q ∷ [])) keeps)) (λ k. (sym word_is k, sym found k))
            (placed c seats clients holds s parts owner r (base + place) (f y) id me.1 w q at' refl refl (record {
              apart = apart;
              guard = subst (λ (z : Grants × (List ℕ × List P)). holds z.0 z.1.0 z.1.1)
                  (λ k. (grants_now k, ((changes words ∙ sym (drop-set-add base s.words place (f y))) k, sym (map-set pass_of parts w.number q) k)))
                  (call.law grants words passes w.number step note t.0 r.lists_are.guard t.1);
            })),
        record {
          left = record { slots = refl; one = refl; full = ap (λ (x : SeatLists P). length x.cores) (sym part) };
          pass = t.0;
          shows = ap (λ (x : SeatLists P). shown lists i (client_lists x place t.0)) (sym part);
          made = subst (λ (x : SeatLists P). IsMade holds allows note (shown lists i x).number (shown_grant (shown lists i x)) x.pass step
              (get_or s.words word 0) t.0) (sym part) (grants, words, passes, moment, sym found, t.1);
        },
      )

  -- so an operation may be made that does what the step does
  pub client_goes : (slots own : ℕ) {of : ClientAct} → act ≡ of → (f : ℕ → ℕ) → ((words : List ℕ) → words_after words (client_step of word_of)
      ≡ set words (place_of (client_step of word_of)) (f (get_or words (place_of (client_step of word_of)) 0)))
      → Goes id table (IsRunningList c seats clients holds) slots own me word f (IsClientPlay begin holds allows note lists i step me)
  client_goes slots own is f changes = let acting = call.acting ∙ ap (λ (a : ClientAct). client_step a word_of) is in (
    call.same,
    call.there.0,
    client_keeps slots own f (subst (λ (d : ClientStep). (words : List ℕ) → words_after words d
        ≡ set words (place_of d) (f (get_or words (place_of d) 0))) (sym acting) changes),
  )

  -- and a store, which tells that there was a value and not which
  pub client_stores : (slots own : ℕ) {value : ℕ} → act ≡ Store value
      → Goes id table (IsRunningList c seats clients holds) slots own me word (λ _. value)
      (λ _ me'. (found : ℕ) × IsClientPlay begin holds allows note lists i step me found me')
  client_stores slots own {value} is = untold id table (IsRunningList c seats clients holds) slots own me word (λ _. value)
      (IsClientPlay begin holds allows note lists i step me) (client_goes slots own is (λ _. value) (λ words. refl))

module _ {P N : Type 0} {begin : P} {holds : Grants → List ℕ → List P → Type 0} {allows : Grants → List ℕ → List P → ℕ → ClientStep → N → P → Type 0} {note : N}
    {play_lists play_list : ℕ} {step : ClientStep} {found : ℕ} {me me' : Me (Unit {0}) (ListView P)}
    (play : IsClientPlay begin holds allows note play_lists play_list step me found me') {lists i words : ℕ} {p : SeatPart (Beside P)}
    (token : IsToken begin me.0.parts lists i words p play_lists play_list) where
  shown_after : shown_of begin lists i me'.0.parts ≡ client_part p (place_of step) play.pass
  shown_after = sym (play_shown token me'.0.parts)
      ∙ (play.shows ∙ ap (λ (x : SeatPart (Beside P)). client_part x (place_of step) play.pass) (play_shows token))

  -- at which moment the step was made
  pub client_made : IsMade holds allows note p.number (shown_grant p) (inner_pass p) step found (inner_pass (shown_of begin lists i me'.0.parts))
  client_made = subst (λ (z : SeatPart (Beside P) × P). IsMade holds allows note z.0.number (shown_grant z.0) (inner_pass z.0) step found z.1)
      (λ k. (play_shows token k, ap inner_pass (sym shown_after) k)) play.made

-- each operation is on the word that it is given
pub acts_on : (act : ClientAct) (i : ℕ) → place_of (client_step act i) ≡ i
acts_on Load i = refl
acts_on (Store value) i = refl
acts_on (Add by) i = refl
acts_on (Exchange expected new) i = refl

-- the word of a client step in the table that the call has
pub client_place : {shares : List ℕ} {key_seats key_words slots : ℕ} {table : TableId} {cut : Regions} {seats client start : ℕ} {shape : ListShape}
    {i word place : ℕ} → IsTable shares key_seats key_words table.words slots cut seats client start
    → record { table = table; seats = seats; client = client; cut = cut } ≡ shape → place ≡ i → i < shape.client
    → word ≡ list_count shape.cut * word_count shape.seats + i → (word < table.words) × (word ≡ list_count (cut_of shares) * word_count key_seats + place)
    × (place < key_words - list_count (cut_of shares) * word_count key_seats)
client_place {shares} {key_seats} {key_words} {slots} {table} {cut} {seats} {client} {start} {shape} {i} {word} {place} t same is below at =
    let b = t.same_words in let w = t.wide in let many : client ≡ shape.client = ap (λ (s : ListShape). s.client) same in
    let key : list_count (cut_of shares) * word_count key_seats ≡ list_count cut * word_count seats =
    λ k. list_count (t.same_cut k) * word_count (t.same_seats k) in
    let now : list_count cut * word_count seats ≡ list_count shape.cut * word_count shape.seats =
    ap (λ (s : ListShape). list_count s.cut * word_count s.seats) same in
    (omega arith, at ∙ (λ j. sym (key ∙ now) j + sym is j), omega (arith, ap (λ k. key_words - k) key))
