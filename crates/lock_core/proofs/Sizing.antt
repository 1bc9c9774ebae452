-- Every step keeps the sizes of a state: what the type of a state keeps, it keeps after any line of the table.
use Rattle.std.proofs.Common.{◌≡◌, ◌≢◌, ℕ, suc, ◌+◌, ◌*◌, ◌/◌, ◌%◌, ◌≤◌, Bool, true, false, List, [], ◌∷◌, ◌++◌}
use Rattle.std.proofs.Common.{Some, None, ⊎_elim, refl, sym, ap, ◌∙◌, subst, arith, eqb-true, eq-eqb, length-set}
use Rattle.std.specs.Prelude.{Option, ◌==◌, if◌then◌else◌}
use Rattle.std.proofs.lemmas.Bool.{cases_eq}
use Rattle.std.proofs.lemmas.List.{length-replicate}
use Rattle.view_lists.specs.Counted.{are_others_passed, times, without}
use Rattle.lock_core.specs.declared.range.Mode.TheVariants.{Writer}
use Rattle.lock_core.specs.declared.views.View.{View}
use Rattle.lock_core.specs.declared.views.Cursor.{Cursor}
use Rattle.lock_core.specs.declared.views.Todo.TheVariants.{Forward, FromHead, Done}
use Rattle.lock_core.specs.declared.views.Own.{Own}
use Rattle.lock_core.specs.declared.views.Own.TheVariants.{Nothing, Filling, Linked}
use Rattle.lock_core.specs.declared.compare.Verdict.{Verdict}
use Rattle.lock_core.specs.declared.compare.Verdict.TheVariants.{Past, Stop, Conflict}
use Rattle.lock_core.specs.Words.{Heap}
use Rattle.lock_core.specs.Nodes.{Filled, Listed, filling, listed, filled_of, own_times}
use Rattle.lock_core.specs.Views.{kept_own, ready_left, released, is_passed, note_of, passes, noted, looked_at}
use Rattle.lock_core.specs.Views.{released_if_passed, came_home, home_read, own_at, own_stopped, came_to, seen_after}
use Rattle.lock_core.specs.Views.{hi_judged, dropped}
use Rattle.lock_core.specs.Sizes.{IsNode, NamesNode, IsCursorThere, IsFilledInOrder, AreNodesSized, IsOwnSized, IsViewSized, bound_node, IsOwnEven}
use Rattle.lock_core.proofs.Counts.{times_joined, once_after}
use Rattle.lock_core.proofs.Words.{WroteCell}

-- own nodes
pub nothing_sized : (seats : ℕ) → IsOwnSized seats Nothing
nothing_sized seats = record { filled = λ f q. absurd (cc); aim_there = λ f w q q'. absurd (cc) }

-- a linked own node keeps its sizes, since nothing is asked of it
pub linked_sized : (seats : ℕ) (k : Listed) → IsOwnSized seats (listed k)
linked_sized seats k = record { filled = λ f q. absurd (cc); aim_there = λ f w q q'. absurd (cc) }

-- two nodes that are being filled are the same where the own nodes made of them are
pub same_filled : (f g : Filled) → filling f ≡ filling g → f ≡ g
same_filled f g q = let some : Some f ≡ Some g = ap filled_of q in cc

-- a node that is being filled has its sizes where its ends are in order and its aim names a node that is there
pub filling_sized : (seats : ℕ) (f : Filled) → IsFilledInOrder f → ((w : ℕ) → f.aimed ≡ Some w → NamesNode seats w) → IsOwnSized seats (filling f)
filling_sized seats f o a = record {
  filled = λ g q. subst IsFilledInOrder (same_filled f g q) o;
  aim_there = λ g w q q'. subst (λ (b : Filled). (w : ℕ) → b.aimed ≡ Some w → NamesNode seats w) (same_filled f g q) a w q';
}

-- an own node that is bound is the seat's, and its next word stays even where no node's becomes odd
bound_mine : (own : Own) (n : ℕ) → bound_node own ≡ Some n → own_times n own ≡ 1
bound_mine Nothing n e = absurd (cc)
bound_mine (Filling node lo hi mode None) n e = absurd (cc)
bound_mine (Filling node lo hi mode (Some w)) n e = let same : node ≡ n = cc in ap (λ (b : Bool). if b then 1 else 0) (eq-eqb node n same)
bound_mine (Linked node range mode todo) n e = let same : node ≡ n = cc in ap (λ (b : Bool). if b then 1 else 0) (eq-eqb node n same)

-- a write of a next word leaves the own node's even, where it is another or the value is even
pub even_kept : (seats : ℕ) (h now : Heap) (own : Own) (p x : ℕ) → WroteCell seats h now p x
    → ((n : ℕ) → p ≡ suc n → own_times n own ≡ 1 → x % 2 ≡ 0) → IsOwnEven h own → IsOwnEven now own
even_kept seats h now own p x wrote even o n q =
    ⊎_elim
    (λ (e : suc n ≡ p). ap (λ c. now.next c % 2) e ∙ ap (λ w. w % 2) wrote.is ∙ even n (sym e) (bound_mine own n q))
    (λ (d : suc n ≢ p). ap (λ w. w % 2) (wrote.others (suc n) d) ∙ o n q)
    (cases_eq (suc n) p)

-- what holds of both of two holds of either
either : {A : Type 0} (P : A → Type 0) (b : Bool) (x y : A) → P x → P y → P (if b then x else y)
either P true x y p q = p
either P false x y p q = q

-- what holds of the own node, and of a linked one with nothing left to do, holds once a cursor came to a word
at_word : (P : Own → Type 0) (own : Own) (w : ℕ) → P own → ((k : Listed) → own ≡ listed k → P (listed (record k { todo = Done }))) → P (own_at own w)
at_word P (Linked node range mode Forward) w o done = either P (w == 0) (Linked node range mode Done) (Linked node range mode Forward)
    (done (record { node = node; range = range; mode = mode; todo = Forward }) refl) o
at_word P (Linked node range mode FromHead) w o done = either P (w == 2 * suc node) (Linked node range mode Done) (Linked node range mode FromHead)
    (done (record { node = node; range = range; mode = mode; todo = FromHead }) refl) o
at_word P _ w o done = o

-- and once it stopped
at_stop : (P : Own → Type 0) (own : Own) → P own → ((k : Listed) → own ≡ listed k → P (listed (record k { todo = Done }))) → P (own_stopped own)
at_stop P (Linked node range mode Forward) o done = done (record { node = node; range = range; mode = mode; todo = Forward }) refl
at_stop P _ o done = o

-- a cursor that comes to a word binds no other node than before
pub own_at_bound : (own : Own) (w : ℕ) → bound_node (own_at own w) ≡ bound_node own
own_at_bound own w = at_word (λ (o : Own). bound_node o ≡ bound_node own) own w refl (λ k e. sym (ap bound_node e))

-- a node that is bound after a Leave was bound before it
pub left_bound : (own : Own) (n : ℕ) → bound_node (kept_own own) ≡ Some n → bound_node own ≡ Some n
left_bound (Linked node range mode todo) n e = e
left_bound _ n e = absurd (cc)

-- a verdict binds no other node than before
pub judged_bound : (v : View) (c : Cursor) (y n : ℕ) (verdict : Verdict) → bound_node (hi_judged v c y n verdict).own ≡ bound_node v.own
judged_bound v c y n Past = own_at_bound v.own n
judged_bound v c y n Stop = at_stop (λ (o : Own). bound_node o ≡ bound_node v.own) v.own refl (λ k e. sym (ap bound_node e))
judged_bound v c y n Conflict = refl

-- the lists of a view
same_nodes : (i : ℕ) (own own' : Own) (ready used homes : List ℕ) → ((x : ℕ) → own_times x own' ≡ own_times x own)
    → AreNodesSized i own ready used homes → AreNodesSized i own' ready used homes
same_nodes i own own' ready used homes e n = record { nodes = λ x. let q = e x in omega (arith, n.nodes x); homes_used = n.homes_used }

at_most_one : (b : Bool) → (if b then 1 else 0) ≤ 1
at_most_one true = omega arith
at_most_one false = omega arith

-- the nodes keep their sizes after a Leave, which puts a node that was being filled to the ready ones
pub left_nodes : (i : ℕ) (own : Own) (ready used homes : List ℕ) → AreNodesSized i own ready used homes
    → AreNodesSized i (kept_own own) (ready_left own ready) used homes
left_nodes i (Filling node lo hi mode aimed) ready used homes n = record { nodes = λ x. let l = n.nodes x in omega arith; homes_used = n.homes_used }
left_nodes i _ ready used homes n = n

released_nodes : (i : ℕ) (own : Own) (ready used homes : List ℕ) → AreNodesSized i own ready used homes
    → AreNodesSized i own (ready ++ homes) (without homes used) []
released_nodes i own ready used homes n = record {
  nodes = λ x.
      let l = n.nodes x in let most = at_most_one (x / 16 == i) in
      let e = once_after x (own_times x own) (own_times x own + times x ready + times x used) ready homes used refl (omega arith)
      (n.homes_used x) in omega arith;
  homes_used = λ x. omega arith;
}

came_nodes : (i n : ℕ) (own : Own) (ready used homes : List ℕ) → 1 ≤ times n used → times n homes ≡ 0
    → AreNodesSized i own ready used homes → AreNodesSized i own ready used (homes ++ n ∷ [])
came_nodes i n own ready used homes is_used not_home a = record {
  nodes = a.nodes;
  homes_used = λ x. let j = times_joined x homes (n ∷ []) in let l = a.homes_used x in split x (n == x) refl j l;
}
  where
    split : (x : ℕ) (b : Bool) → (n == x) ≡ b → times x (homes ++ n ∷ []) ≡ times x homes + ((if b then 1 else 0) + 0)
        → times x homes ≤ times x used → times x (homes ++ n ∷ []) ≤ times x used
    split x true e j l = let q = eqb-true n x e in let u = ap (λ a. times a used) q in let z = ap (λ a. times a homes) q in omega arith
    split x false e j l = omega arith

-- the nodes keep their sizes where the own one becomes a used one
pub used_nodes : (i : ℕ) (own : Own) (node : ℕ) (ready used homes : List ℕ)
    → ((x : ℕ) → own_times x own ≡ (if node == x then 1 else 0)) → AreNodesSized i own ready used homes
    → AreNodesSized i Nothing ready (used ++ node ∷ []) homes
used_nodes i own node ready used homes e n = record {
  nodes = λ x. let j = times_joined x used (node ∷ []) in let q = e x in let l = n.nodes x in omega arith;
  homes_used = λ x. let j = times_joined x used (node ∷ []) in let l = n.homes_used x in omega arith;
}

-- the nodes keep their sizes where the first ready one becomes the own one
pub taken_nodes : (i n : ℕ) (own : Own) (ready rest used homes : List ℕ) → own ≡ Nothing → ready ≡ n ∷ rest
    → AreNodesSized i own ready used homes → AreNodesSized i
    (filling (record { node = n; lo = None; hi = None; mode = Writer; aimed = None })) rest used homes
taken_nodes i n own ready rest used homes e e' a = record {
  nodes = λ x. let q = ap (own_times x) e in let r = ap (times x) e' in let l = a.nodes x in omega arith;
  homes_used = a.homes_used;
}

-- views
module _ (seats i : ℕ) where
  -- a view that lets its cursor go keeps its sizes
  pub dropped_sized : (v : View) → IsViewSized seats i v → IsViewSized seats i (dropped v)
  dropped_sized v o = record { notes = o.notes; passed = o.passed; nodes = o.nodes; own = o.own; hand = o.hand; cursor = λ c q. absurd (cc) }

  passes_sized : (v : View) (j : ℕ) → IsViewSized seats i v → IsViewSized seats i (passes v j)
  passes_sized v j o =
      record { notes = o.notes; passed = length-set v.passed j true ∙ o.passed; nodes = o.nodes; own = o.own; hand = o.hand; cursor = o.cursor }

  noted_sized : (v : View) (j w : ℕ) (note : Option ℕ) → IsViewSized seats i v → IsViewSized seats i (noted v j w note)
  noted_sized v j w None o = record {
    notes = length-set v.notes j (Some w) ∙ o.notes;
    passed = o.passed;
    nodes = o.nodes;
    own = o.own;
    hand = o.hand;
    cursor = o.cursor;
  }
  noted_sized v j w (Some n) o = either (IsViewSized seats i) (n == w) v (passes v j) o (passes_sized v j o)

  -- a view that notes an epoch or passes a seat keeps its sizes
  pub looked_sized : (v : View) (j w : ℕ) → IsViewSized seats i v → IsViewSized seats i (looked_at v j w)
  looked_sized v j w o = either (IsViewSized seats i) (is_passed v j) v (if w % 2 == 0 then passes v j else noted v j w (note_of v j)) o
      (either (IsViewSized seats i) (w % 2 == 0) (passes v j) (noted v j w (note_of v j)) (passes_sized v j o) (noted_sized v j w (note_of v j) o))

  released_sized : (v : View) → IsViewSized seats i v → IsViewSized seats i (released v)
  released_sized v o = record {
    notes = o.notes;
    passed = o.passed;
    nodes = released_nodes i v.own v.ready v.used v.homes o.nodes;
    own = o.own;
    hand = o.hand;
    cursor = o.cursor;
  }

  -- a view whose homes become ready, or not, keeps its sizes
  pub epoch_sized : (s : ℕ) (v : View) → IsViewSized seats i v → IsViewSized seats i (released_if_passed s v)
  epoch_sized s v o = either (IsViewSized seats i) (are_others_passed s v.passed) (released v) v (released_sized v o) o

  came_home_sized : (v : View) (n : ℕ) → 1 ≤ times n v.used → times n v.homes ≡ 0 → IsViewSized seats i v → IsViewSized seats i (came_home seats v n)
  came_home_sized v n used homes o = record {
    notes = length-replicate seats None;
    passed = length-replicate seats false;
    nodes = came_nodes i n v.own v.ready v.used v.homes used homes o.nodes;
    own = o.own;
    hand = o.hand;
    cursor = o.cursor;
  }

  -- a view that read a home word of a used node that isn't among the homes keeps its sizes
  pub home_sized : (v : View) (n w : ℕ) → 1 ≤ times n v.used → times n v.homes ≡ 0 → IsViewSized seats i v → IsViewSized seats i (home_read seats v n w)
  home_sized v n w used homes o = let came = came_home_sized v n used homes o in let u = came_home seats v n in
      either (IsViewSized seats i) (w == 1) (if seats == 1 then released u else u) v
      (either (IsViewSized seats i) (seats == 1) (released u) u (released_sized u came) came) o

  -- only the cursor changed, or went
  pub cursor_sized : (v : View) (c : Cursor) → IsCursorThere seats c → IsViewSized seats i v → IsViewSized seats i (record v { cursor = Some c })
  cursor_sized v c there o = record {
    notes = o.notes;
    passed = o.passed;
    nodes = o.nodes;
    own = o.own;
    hand = o.hand;
    cursor = λ d q. let same : c ≡ d = cc in subst (IsCursorThere seats) same there;
  }

  -- the own node changed, and not which it is
  pub own_sized : (v : View) (own : Own) → ((x : ℕ) → own_times x own ≡ own_times x v.own) → IsOwnSized seats own
      → IsViewSized seats i v → IsViewSized seats i (record v { own = own })
  own_sized v own e new o = record {
    notes = o.notes;
    passed = o.passed;
    nodes = same_nodes i v.own own v.ready v.used v.homes e o.nodes;
    own = new;
    hand = o.hand;
    cursor = o.cursor;
  }

  -- a view whose cursor came to a word of a node that is there keeps its sizes
  pub came_sized : (v : View) (prev : Option ℕ) (w seen : ℕ) → ((n : ℕ) → prev ≡ Some n → IsNode seats n) → NamesNode seats w
      → IsViewSized seats i v → IsViewSized seats i (came_to v prev w seen)
  came_sized v prev w seen p there o =
      cursor_sized (record v { own = own_at v.own w }) (record { prev = prev; cur = w; next = None; lo = None; seen = seen_after seen w })
      (record { prev = p; cur = there; next = λ w q. absurd (cc) })
      (own_sized v (own_at v.own w) (λ x. at_word (λ (o : Own). own_times x o ≡ own_times x v.own) v.own w refl (λ k e. sym (ap (own_times x) e)))
      (at_word (IsOwnSized seats) v.own w o.own (λ k e. linked_sized seats (record k { todo = Done }))) o)

  -- a view that judged a node that is there keeps its sizes, whatever the verdict
  pub judged_sized : (v : View) (c : Cursor) (y n : ℕ) (verdict : Verdict) → IsNode seats y → NamesNode seats n
      → IsCursorThere seats c → IsViewSized seats i v → IsViewSized seats i (hi_judged v c y n verdict)
  judged_sized v c y n Past node next there o = came_sized v (Some y) n c.seen (λ m q. let same : y ≡ m = cc in subst (IsNode seats) same node) next o
  judged_sized v c y n Stop node next there o =
      cursor_sized (record v { own = own_stopped v.own }) (record c { next = None }) (record { prev = there.prev; cur = there.cur; next = λ w q. absurd (cc) })
      (own_sized v (own_stopped v.own) (λ x. at_stop (λ (o : Own). own_times x o ≡ own_times x v.own) v.own refl (λ k e. sym (ap (own_times x) e)))
      (at_stop (IsOwnSized seats) v.own o.own (λ k e. linked_sized seats (record k { todo = Done }))) o)
  judged_sized v c y n Conflict node next there o = o
