-- Every line of the table keeps the sizes of a state.
use Rattle.std.proofs.Common.{◌≡◌, ◌≢◌, ◌⊎◌, ℕ, zero, suc, ◌+◌, ◌-◌, ◌*◌, ◌/◌, ◌%◌, ◌<◌, ◌≤◌, Bool, true, false, List}
use Rattle.std.proofs.Common.{◌∷◌, length, set, Some, None, inl, inr, ⊎_elim, refl, sym, ap, ◌∙◌, subst, arith}
use Rattle.std.proofs.Common.{eqb-true, eq-eqb, length-set}
use Rattle.std.proofs.lemmas.Bool.{eqb-false}
use Rattle.std.specs.Prelude.{Option, ◌==◌, if◌then◌else◌, slice_get, slice_index, option_map}
use Rattle.std.proofs.lemmas.Bool.{cases_eq}
use Rattle.std.proofs.lemmas.List.{set-get_or}
use Rattle.std.proofs.lemmas.Option.{slice_get_within}
use Rattle.view_lists.specs.Counted.{times}
use Rattle.lock_core.specs.Range.{IsRange}
use Rattle.lock_core.specs.declared.range.Mode.TheVariants.{Writer}
use Rattle.lock_core.specs.declared.views.View.{View}
use Rattle.lock_core.specs.declared.views.Cursor.{Cursor}
use Rattle.lock_core.specs.declared.views.Todo.TheVariants.{Forward, Done}
use Rattle.lock_core.specs.declared.views.Own.{Own}
use Rattle.lock_core.specs.declared.views.Own.TheVariants.{Nothing, Filling, Linked}
use Rattle.lock_core.specs.declared.steps.Step.{Step}
use Rattle.lock_core.specs.Words.{Heap, heap_of, to, cell_of, cell_place, epoch_place, lo_place, hi_place, home_place, plain_node_of}
use Rattle.lock_core.specs.Nodes.{Filled, Listed, filling, listed, own_times}
use Rattle.lock_core.specs.Compare.{verdict_of}
use Rattle.lock_core.specs.Views.{entered, left, kept_own, looked_at, start_of, walk_cell, walked, todo_of, marked}
use Rattle.lock_core.specs.StepTable.{Plan, IsLine, Aims, enter, leave, read_epoch, read_home, give_home, fill_lo}
use Rattle.lock_core.specs.StepTable.{fill_hi, aim, clear_home, walk, read_lo, read_hi, link, unlink, mark, quick_link}
use Rattle.lock_core.specs.StepTable.{quick_unlink, settle}
use Rattle.lock_core.specs.Machine.{Machine, heap, after, carried_out}
use Rattle.lock_core.specs.Sizes.{IsNode, NamesNode, IsOwnSized, IsViewSized, bound_node, IsOwnEven, IsSized}
use Rattle.lock_core.proofs.ByView.{set_view}
use Rattle.lock_core.proofs.Counts.{own_filling, own_linked}
use Rattle.lock_core.proofs.Words.{WroteCell, wrote_cell, wrote_lo, wrote_hi, wrote_home, wrote_epoch}
use Rattle.lock_core.proofs.OwnNodes.{own_epoch, own_home}
use Rattle.lock_core.proofs.Sizing.{even_kept, left_bound, own_at_bound, judged_bound, nothing_sized, linked_sized}
use Rattle.lock_core.proofs.Sizing.{filling_sized, left_nodes, used_nodes, taken_nodes, dropped_sized, looked_sized}
use Rattle.lock_core.proofs.Sizing.{epoch_sized, home_sized, came_sized, cursor_sized, own_sized, judged_sized}
use Rattle.lock_core.proofs.Stepping.{stepped}
use Rattle.lock_core.proofs.Pigeons.{first_counts, some_true}

-- a word that names node y, and has no low bit
pub plain_is : (w y : ℕ) → plain_node_of w ≡ Some y → w ≡ 2 * suc y
plain_is w y e = split (w % 2 == 0) (w / 2 == 0) refl refl e
  where
    split : (a b : Bool) → (w % 2 == 0) ≡ a → (w / 2 == 0) ≡ b → (if a then (if b then None else Some (w / 2 - 1)) else None) ≡ Some y → w ≡ 2 * suc y
    split true true ea eb q = absurd (cc)
    split true false ea eb q =
        let even = eqb-true _ _ ea in let some = eqb-false _ _ eb in let node : w / 2 - 1 ≡ y = cc in omega arith
    split false b ea eb q = absurd (cc)

-- a node that is being filled without an aim isn't bound
not_aimed : (f : Filled) (n : ℕ) → f.aimed ≡ None → option_map (λ (_ : ℕ). f.node) f.aimed ≡ Some n → ⊥
not_aimed f n e q = let a = ap (option_map (λ (_ : ℕ). f.node)) e in cc

module _ (m : Machine) (s : ℕ) (v : View) (z : IsSized m) (at : slice_get m.views s ≡ Some v) where
  abbrev old : IsViewSized m.seats s v
  old = z.each s v at

  seat_there : s < m.seats
  seat_there = let l = slice_get_within m.views s v at in let e = z.views in omega arith

  -- an own node is of its seat, and there
  owner_is : (i x : ℕ) (u : View) → slice_get m.views i ≡ Some u → own_times x u.own ≡ 1 → x / 16 ≡ i
  owner_is i x u e own = let l = (z.each i u e).nodes.nodes x in
      eqb-true _ _ (some_true (x / 16 == i) (own_times x u.own + times x u.ready + times x u.used) l (omega arith))

  own_there : (x : ℕ) → own_times x v.own ≡ 1 → IsNode m.seats x
  own_there x own = let q = owner_is s x v at own in let l = seat_there in omega arith

  filling_there : (f : Filled) → v.own ≡ filling f → (own_times f.node v.own ≡ 1) × IsNode m.seats f.node
  filling_there f e = let t = own_filling v f e in (t, own_there f.node t)

  linked_there : (k : Listed) → v.own ≡ listed k → (own_times k.node v.own ≡ 1) × IsNode m.seats k.node
  linked_there k e = let t = own_linked v k e in (t, own_there k.node t)

  -- a state with other words and another view of the seat
  resized : (ws : List ℕ) (w : View) → length ws ≡ length m.words → ((c : ℕ) → c ≤ 16 * m.seats → to (heap_of m.seats ws) c ≤ 16 * m.seats) →
      ((i : ℕ) (u : View) → i ≢ s → slice_get m.views i ≡ Some u → IsOwnEven (heap_of m.seats ws) u.own) → IsViewSized m.seats s w
      → IsOwnEven (heap_of m.seats ws) w.own →
      IsSized (record { seats = m.seats; words = ws; views = set m.views s w })
  resized ws w e cells others mine even = record {
    some = z.some;
    few = z.few;
    words = e ∙ z.words;
    views = length-set m.views s w ∙ z.views;
    cells = cells;
    each = λ i u q. ⊎_elim
        (λ (t : (i ≡ s) × (w ≡ u)). subst (λ (a : ℕ × View). IsViewSized m.seats a.0 a.1) (λ k. (sym t.0 k, t.1 k)) mine)
        (λ (t : (i ≢ s) × (slice_get m.views i ≡ Some u)). z.each i u t.1)
        (set_view m.views s i w u q);
    even = λ i u q. ⊎_elim
        (λ (t : (i ≡ s) × (w ≡ u)). subst (λ (a : View). IsOwnEven (heap_of m.seats ws) a.own) t.1 even)
        (λ (t : (i ≢ s) × (slice_get m.views i ≡ Some u)). others i u t.0 t.1)
        (set_view m.views s i w u q);
  }

  -- the own node is bound in a view only if it was
  abbrev StaysBound : View → Type 0
  StaysBound w = (n : ℕ) → bound_node w.own ≡ Some n → bound_node v.own ≡ Some n

  same_bound : StaysBound v
  same_bound n q = q

  -- a step that leaves the words
  by_load : (place : ℕ) (w : View) → IsViewSized m.seats s w → StaysBound w
      → IsSized (record { seats = m.seats; words = set m.words place (slice_index m.words place); views = set m.views s w })
  by_load place w mine bound =
      subst (λ (ws : List ℕ). IsSized (record { seats = m.seats; words = ws; views = set m.views s w })) (sym (set-get_or m.words place 0))
      (resized m.words w refl z.cells (λ i u d e. z.even i u e) mine (λ n q. z.even s v at n (bound n q)))

  -- a step that writes a word that isn't a next word
  by_store : (place x : ℕ) (w : View) → ((c : ℕ) → (heap_of m.seats (set m.words place x)).next c ≡ (heap m).next c) → IsViewSized m.seats s w → StaysBound w →
      IsSized (record { seats = m.seats; words = set m.words place x; views = set m.views s w })
  by_store place x w next mine bound =
      resized (set m.words place x) w (length-set m.words place x)
      (λ c l. let e = ap (λ n. n / 2) (next c) in let o = z.cells c l in omega arith)
      (λ i u d e n q. ap (λ a. a % 2) (next (suc n)) ∙ z.even i u e n q)
      mine
      (λ n q. ap (λ a. a % 2) (next (suc n)) ∙ z.even s v at n (bound n q))

  cell_there : (p : ℕ) → p ≤ 16 * m.seats → cell_place m.seats p < length m.words
  cell_there zero l = let w = z.words in omega arith
  cell_there (suc n) l = let w = z.words in omega arith

  abbrev now : ℕ → ℕ → Heap
  now p x = heap_of m.seats (set m.words (cell_place m.seats p) x)

  wrote : (p x : ℕ) → p ≤ 16 * m.seats → WroteCell m.seats (heap m) (now p x) p x
  wrote p x l = wrote_cell m.seats x m.words p (cell_there p l)

  -- a step that writes a next word: an odd one only in the head or in the own node
  by_cell : (p x : ℕ) (w : View) → p ≤ 16 * m.seats → x / 2 ≤ 16 * m.seats → ((n : ℕ) → p ≡ suc n → (x % 2 ≡ 0) ⊎ (n / 16 ≡ s))
      → IsViewSized m.seats s w → IsOwnEven (now p x) w.own →
      IsSized (record { seats = m.seats; words = set m.words (cell_place m.seats p) x; views = set m.views s w })
  by_cell p x w there names even mine own =
      resized (set m.words (cell_place m.seats p) x) w (length-set m.words (cell_place m.seats p) x)
      (λ c l. ⊎_elim
      (λ (q : c ≡ p). let e = ap (λ a. (now p x).next a / 2) q in let i = ap (λ n. n / 2) (wrote p x there).is in omega arith)
      (λ (d : c ≢ p). let e = ap (λ n. n / 2) ((wrote p x there).others c d) in let o = z.cells c l in omega arith)
      (cases_eq c p))
      (λ i u d e. even_kept m.seats (heap m) (now p x) u.own p x (wrote p x there)
      (λ n q mine. ⊎_elim (λ (r : x % 2 ≡ 0). r) (λ (r : n / 16 ≡ s). absurd (d (sym (owner_is i n u e mine) ∙ r))) (even n q))
      (z.even i u e))
      mine own

  -- where no node's next word is odd by the step the own one's isn't
  stays_even : (p x : ℕ) → p ≤ 16 * m.seats → ((n : ℕ) → p ≡ suc n → x % 2 ≡ 0) → IsOwnEven (now p x) v.own
  stays_even p x there even = even_kept m.seats (heap m) (now p x) v.own p x (wrote p x there) (λ n q own. even n q) (z.even s v at)

  -- an aimed node that is linked keeps its next word
  linked_even : (p x : ℕ) (f : Filled) (w : ℕ) → p ≤ 16 * m.seats → ((n : ℕ) → p ≡ suc n → x % 2 ≡ 0) → v.own ≡ filling f
      → f.aimed ≡ Some w → (n : ℕ) → ◌≡◌ {A = Option ℕ} (Some f.node) (Some n) → (now p x).next (suc n) % 2 ≡ 0
  linked_even p x f w there even own aimed n q = stays_even p x there even n (ap bound_node own ∙ ap (option_map (λ (_ : ℕ). f.node)) aimed ∙ q)

  prev_there : (c : Cursor) → v.cursor ≡ Some c → cell_of c.prev ≤ 16 * m.seats
  prev_there c e = go c.prev refl
    where
      go : (o : Option ℕ) → c.prev ≡ o → cell_of o ≤ 16 * m.seats
      go None q = omega arith
      go (Some p) q = let l = (old.cursor c e).prev p q in omega arith

  node_there : (c : Cursor) (y : ℕ) → v.cursor ≡ Some c → plain_node_of c.cur ≡ Some y → IsNode m.seats y
  node_there c y e q = let l = (old.cursor c e).cur in let w = plain_is c.cur y q in omega arith

  kept_sized : (own : Own) → IsOwnSized m.seats own → IsOwnSized m.seats (kept_own own)
  kept_sized (Filling node lo hi mode aimed) o = nothing_sized m.seats
  kept_sized _ o = o

  first_there : (n : ℕ) (rest : List ℕ) → v.own ≡ Nothing → v.ready ≡ n ∷ rest → IsNode m.seats n
  first_there n rest own ready =
      let l = old.nodes.nodes n in let r = ap (times n) ready in
      let e = first_counts (n == n) (times n rest) (eq-eqb n n refl) in
      let i = eqb-true _ _ (some_true (n / 16 == s) (own_times n v.own + times n v.ready + times n v.used) l (omega arith)) in let k = seat_there in omega arith

  filling_times : (f g : Filled) → v.own ≡ filling f → g.node ≡ f.node → (x : ℕ) → own_times x (filling g) ≡ own_times x v.own
  filling_times f g e q x = ap (λ n. if n == x then 1 else 0) q ∙ sym (ap (own_times x) e)

  listed_times : (f : Filled) (k : Listed) → v.own ≡ filling f → k.node ≡ f.node → (x : ℕ) → own_times x (listed k) ≡ own_times x v.own
  listed_times f k e q x = ap (λ n. if n == x then 1 else 0) q ∙ sym (ap (own_times x) e)

  aim_even : (o : Option Cursor) (w : ℕ) → v.cursor ≡ o → Aims o w → (w % 2 ≡ 0) × (w / 2 ≤ 16 * m.seats)
  aim_even None w e q = (ap (λ n. n % 2) q, omega arith)
  aim_even (Some c) w e q = let l = (old.cursor c e).cur in (ap (λ n. n % 2) q.0 ∙ q.1, let d = ap (λ n. n / 2) q.0 in omega arith)

  start_there : (own : Own) → v.own ≡ own → (n : ℕ) → start_of own ≡ Some n → IsNode m.seats n
  start_there (Linked node range mode Forward) e n q = let same : node ≡ n = cc in
      subst (IsNode m.seats) same (linked_there (record { node = node; range = range; mode = mode; todo = Forward }) e).1
  start_there _ e n q = absurd (cc)

  cell_of_there : (o : Option ℕ) → ((n : ℕ) → o ≡ Some n → IsNode m.seats n) → cell_of o ≤ 16 * m.seats
  cell_of_there None there = omega arith
  cell_of_there (Some n) there = let l = there n refl in omega arith

  walked_sized : (o : Option Cursor) (cell : ℕ) → v.cursor ≡ o → walk_cell v.own o ≡ Some cell
      → IsViewSized m.seats s (walked v o (slice_index m.words (cell_place m.seats cell)))
  walked_sized None cell e q =
      let same : cell_of (start_of v.own) ≡ cell = cc in
      let l = cell_of_there (start_of v.own) (start_there v.own refl) in
      came_sized m.seats s v (start_of v.own) (slice_index m.words (cell_place m.seats cell)) 0 (start_there v.own refl)
      (z.cells cell (subst (λ (c : ℕ). c ≤ 16 * m.seats) same l)) old
  walked_sized (Some c) cell e q =
      let there = old.cursor c e in
      cursor_sized m.seats s v (record c { next = Some (slice_index m.words (cell_place m.seats cell)); lo = None })
      (record {
        prev = there.prev;
        cur = there.cur;
        next = λ w r. let same : slice_index m.words (cell_place m.seats cell) ≡ w = cc in
            subst (NamesNode m.seats) same (z.cells cell (cell_le c there.cur q));
      })
      old
    where
      cell_le : (c : Cursor) → NamesNode m.seats c.cur → option_map (λ n. suc n) (plain_node_of c.cur) ≡ Some cell → cell ≤ 16 * m.seats
      cell_le c l r = go (plain_node_of c.cur) refl r
        where
          go : (o : Option ℕ) → plain_node_of c.cur ≡ o → option_map (λ n. suc n) o ≡ Some cell → cell ≤ 16 * m.seats
          go None p r = absurd (cc)
          go (Some y) p r = let w = plain_is c.cur y p in let same : suc y ≡ cell = cc in omega arith

  walked_bound : (o : Option Cursor) (w : ℕ) → bound_node (walked v o w).own ≡ bound_node v.own
  walked_bound None w = own_at_bound v.own w
  walked_bound (Some c) w = refl

  -- an exchange: the state where it succeeds, and where it fails
  by_exchange : (p old_word new : ℕ) (won lost : View) →
      IsSized (record { seats = m.seats; words = set m.words (cell_place m.seats p) new; views = set m.views s won })
      → IsViewSized m.seats s lost → StaysBound lost →
      IsSized (record {
        seats = m.seats;
        words = set m.words (cell_place m.seats p) (if slice_index m.words (cell_place m.seats p) == old_word then new
            else slice_index m.words (cell_place m.seats p));
        views = set m.views s (if slice_index m.words (cell_place m.seats p) == old_word then won else lost);
      })
  by_exchange p old_word new won lost done failed bound = split (slice_index m.words (cell_place m.seats p) == old_word)
    where
      split : (b : Bool) → IsSized (record {
        seats = m.seats;
        words = set m.words (cell_place m.seats p) (if b then new else slice_index m.words (cell_place m.seats p));
        views = set m.views s (if b then won else lost);
      })
      split true = done
      split false = by_load (cell_place m.seats p) lost failed bound

  -- any line of the table, carried out, keeps the sizes of a state
  pub sized_line : (step : Step) (p : Plan) → IsLine m.seats s v step p → IsSized (carried_out m s p)
  sized_line step p (enter even hand) =
      by_store (epoch_place s) _ (entered v) (wrote_epoch m.seats _ m.words s seat_there (let w = z.words in let l = seat_there in omega arith)).next
      (record { notes = old.notes; passed = old.passed; nodes = old.nodes; own = old.own; hand = old.hand; cursor = λ c q. absurd (cc) })
      same_bound
  sized_line step p (leave odd hand todo) =
      by_store (epoch_place s) _ (left v) (wrote_epoch m.seats _ m.words s seat_there (let w = z.words in let l = seat_there in omega arith)).next
      (record {
        notes = old.notes;
        passed = old.passed;
        nodes = left_nodes s v.own v.ready v.used v.homes old.nodes;
        own = kept_sized v.own old.own;
        hand = old.hand;
        cursor = λ c q. absurd (cc);
      })
      (left_bound v.own)
  sized_line step p (read_epoch j even homes less other) =
      by_load (epoch_place j) _ (epoch_sized m.seats s s (looked_at v j (slice_index m.words (epoch_place j)))
      (looked_sized m.seats s v j (slice_index m.words (epoch_place j)) old))
      (λ n q. sym (ap bound_node (own_epoch s v j (slice_index m.words (epoch_place j)))) ∙ q)
  sized_line step p (read_home n even used homes) =
      by_load (home_place m.seats n) _ (home_sized m.seats s v n _ used homes old)
      (λ k q. sym (ap bound_node (own_home m.seats v n (slice_index m.words (home_place m.seats n)))) ∙ q)
  sized_line step p (give_home n hand) =
      by_store (home_place m.seats n) 1 _ (wrote_home m.seats 1 m.words n (let w = z.words in let l = old.hand n hand in omega arith)).next
      (record { notes = old.notes; passed = old.passed; nodes = old.nodes; own = old.own; hand = λ x q. absurd (cc); cursor = old.cursor })
      same_bound
  sized_line step p (fill_lo f lo own aimed cursor) =
      let t = filling_there f own in
      by_store (lo_place m.seats f.node) lo _ (wrote_lo m.seats lo m.words f.node (let w = z.words in let l = t.1 in omega arith)).next
      (own_sized m.seats s v _ (filling_times f (record f { lo = Some lo; hi = None }) own refl)
      (filling_sized m.seats (record f { lo = Some lo; hi = None }) (record { hi = λ h q. absurd (cc); aimed = λ w q. absurd (cc) }) (λ w q. absurd (cc)))
      old)
      (λ n q. absurd (not_aimed f n aimed q))
  sized_line step p (fill_hi f lo hi mode own low less most aimed cursor) =
      let t = filling_there f own in
      by_store (hi_place m.seats f.node) _ _ (wrote_hi m.seats _ m.words f.node (let w = z.words in let l = t.1 in omega arith)).next
      (own_sized m.seats s v _ (filling_times f (record f { hi = Some hi; mode = mode }) own refl)
      (filling_sized m.seats (record f { hi = Some hi; mode = mode })
      (record {
        hi = λ h q. let same : hi ≡ h = cc in (lo, low, subst (IsRange lo) same (less, most));
        aimed = λ w q. absurd (cc);
      }) (λ w q. absurd (cc)))
      old)
      (λ n q. absurd (not_aimed f n aimed q))
  sized_line step p (aim f lo hi w own low high at) =
      let t = filling_there f own in let a = aim_even v.cursor w refl at in let l : suc f.node ≤ 16 * m.seats = let l = t.1 in omega arith in
      by_cell (suc f.node) w _ l a.1 (λ n q. inl a.0)
      (own_sized m.seats s v _ (filling_times f (record f { aimed = Some w }) own refl)
      (filling_sized m.seats (record f { aimed = Some w })
      (record { hi = (old.own.filled f own).hi; aimed = λ x q. ((λ r. cc), (λ r. cc)) })
      (λ x q. let same : w ≡ x = cc in subst (NamesNode m.seats) same a.1))
      old)
      (λ n q. let same : f.node ≡ n = cc in ap (λ k. (now (suc f.node) w).next (suc k) % 2) (sym same) ∙ (ap (λ n. n % 2) (wrote (suc f.node) w l).is ∙ a.0))
  sized_line step p (clear_home n rest own even ready) =
      by_store (home_place m.seats n) 0 _ (wrote_home m.seats 0 m.words n (let w = z.words in let l = first_there n rest own ready in omega arith)).next
      (record {
        notes = old.notes;
        passed = old.passed;
        nodes = taken_nodes s n v.own v.ready rest v.used v.homes own ready old.nodes;
        own = filling_sized m.seats (record { node = n; lo = None; hi = None; mode = Writer; aimed = None })
            (record { hi = λ h q. absurd (cc); aimed = λ w q. absurd (cc) }) (λ w q. absurd (cc));
        hand = old.hand;
        cursor = old.cursor;
      })
      (λ k q. absurd (cc))
  sized_line step p (walk cell odd hand at) =
      by_load (cell_place m.seats cell) _ (walked_sized v.cursor cell refl at)
      (λ n q. sym (walked_bound v.cursor (slice_index m.words (cell_place m.seats cell))) ∙ q)
  sized_line step p (read_lo c y n cursor node next plain) =
      let there = old.cursor c cursor in
      by_load (lo_place m.seats y) _ (cursor_sized m.seats s v (record c { lo = Some (slice_index m.words (lo_place m.seats y)) })
      (record { prev = there.prev; cur = there.cur; next = there.next }) old) same_bound
  sized_line step p (read_hi c y n lo cursor node next plain low own) =
      let there = old.cursor c cursor in let verdict = verdict_of v.own lo (slice_index m.words (hi_place m.seats y)) in
      by_load (hi_place m.seats y) _ (judged_sized m.seats s v c y n verdict (node_there c y cursor node) (there.next n next) there old)
      (λ k q. sym (judged_bound v c y n verdict) ∙ q)
  sized_line step p (link f c lo hi own cursor low high aimed plain place) =
      let t = filling_there f own in let l = prev_there c cursor in
      by_exchange (cell_of c.prev) c.cur (2 * suc f.node) _ _
      (by_cell (cell_of c.prev) (2 * suc f.node) _ l (let n = t.1 in omega arith) (λ n q. inl (omega arith))
      (dropped_sized m.seats s _
      (own_sized m.seats s v _ (listed_times f (record { node = f.node; range = record { lo = lo; hi = hi }; mode = f.mode; todo = todo_of f.mode }) own refl)
      (linked_sized m.seats (record { node = f.node; range = record { lo = lo; hi = hi }; mode = f.mode; todo = todo_of f.mode }))
      old))
      (linked_even (cell_of c.prev) (2 * suc f.node) f c.cur l (λ n q. omega arith) own aimed))
      (dropped_sized m.seats s v old) same_bound
  sized_line step p (unlink c y n cursor node next marked hand) =
      let l = prev_there c cursor in let there = old.cursor c cursor in let names = there.next n next in
      let came = came_sized m.seats s v c.prev (n - 1) c.seen there.prev (omega arith) old in
      by_exchange (cell_of c.prev) c.cur (n - 1) _ _
      (by_cell (cell_of c.prev) (n - 1) _ l (omega arith) (λ k q. inl (omega arith))
      (record {
        notes = came.notes;
        passed = came.passed;
        nodes = came.nodes;
        own = came.own;
        hand = λ x q. let same : y ≡ x = cc in subst (IsNode m.seats) same (node_there c y cursor node);
        cursor = came.cursor;
      })
      (λ k q. stays_even (cell_of c.prev) (n - 1) l (λ k q. omega arith) k (sym (own_at_bound v.own (n - 1)) ∙ q)))
      (dropped_sized m.seats s v old) same_bound
  sized_line step p (mark k own) =
      let t = linked_there k own in let l : suc k.node ≤ 16 * m.seats = let l = t.1 in omega arith in
      by_cell (suc k.node) _ _ l (let c = z.cells (suc k.node) l in let e = z.even s v at k.node (ap bound_node own) in
      omega arith) (λ n q. inr (let i = owner_is s k.node v at t.0 in omega arith))
      (record {
        notes = old.notes;
        passed = old.passed;
        nodes = used_nodes s v.own k.node v.ready v.used v.homes (λ x. ap (own_times x) own) old.nodes;
        own = nothing_sized m.seats;
        hand = old.hand;
        cursor = old.cursor;
      })
      (λ n q. absurd (cc))
  sized_line step p (quick_link f lo hi own low high aimed even) =
      let t = filling_there f own in
      by_exchange 0 0 (2 * suc f.node + 1) _ _
      (by_cell 0 (2 * suc f.node + 1) _ (omega arith) (let n = t.1 in omega arith) (λ n q. absurd (omega arith))
      (own_sized m.seats s v _ (listed_times f (record { node = f.node; range = record { lo = lo; hi = hi }; mode = f.mode; todo = Done }) own refl)
      (linked_sized m.seats (record { node = f.node; range = record { lo = lo; hi = hi }; mode = f.mode; todo = Done }))
      old)
      (linked_even 0 (2 * suc f.node + 1) f 0 (omega arith) (λ n q. absurd (omega arith)) own aimed))
      old same_bound
  sized_line step p (quick_unlink k own done hand) =
      let t = linked_there k own in
      by_exchange 0 (2 * suc k.node + 1) 0 _ _
      (by_cell 0 0 _ (omega arith) (omega arith) (λ n q. absurd (omega arith))
      (record {
        notes = old.notes;
        passed = old.passed;
        nodes = used_nodes s v.own k.node v.ready v.used v.homes (λ x. ap (own_times x) own) old.nodes;
        own = nothing_sized m.seats;
        hand = λ x q. let same : k.node ≡ x = cc in subst (IsNode m.seats) same t.1;
        cursor = old.cursor;
      })
      (λ n q. absurd (cc)))
      old same_bound
  sized_line step p (settle c cursor prev low) =
      let there = old.cursor c cursor in
      by_exchange 0 c.cur (c.cur - 1) _ _
      (by_cell 0 (c.cur - 1) _ (omega arith) (let l = there.cur in omega arith) (λ n q. absurd (omega arith))
      (cursor_sized m.seats s v (record c { cur = c.cur - 1 }) (record { prev = there.prev; cur = let l = there.cur in omega arith; next = there.next }) old)
      (stays_even 0 (c.cur - 1) (omega arith) (λ n q. absurd (omega arith))))
      (dropped_sized m.seats s v old) same_bound

-- a step keeps the sizes of a state
pub sized_after : (m next : Machine) (s : ℕ) (step : Step) → IsSized m → after m s step ≡ Some next → IsSized next
sized_after m next s step z e =
    let t = stepped m next s step e in subst IsSized t.is (sized_line m s t.view z t.at step t.plan t.line)
