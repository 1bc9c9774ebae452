-- Unlink, where its exchange succeeds: the cursor's node, which is marked, is taken out of the list into the hand.
use Rattle.std.proofs.Common.{◌≡◌, ◌≢◌, ℕ, suc, ◌+◌, ◌-◌, ◌/◌, ◌%◌, List, set, Some, None, inl, inr, ⊎_elim, refl, sym, ap, ◌∙◌, subst, arith}
use Rattle.std.specs.Prelude.{Option}
use Rattle.std.proofs.lemmas.Bool.{cases_eq}
use Rattle.lock_core.specs.Counted.{times}
use Rattle.lock_core.specs.declared.views.View.{View}
use Rattle.lock_core.specs.declared.views.Cursor.{Cursor}
use Rattle.lock_laws.specs.Paths.{Reach}
use Rattle.lock_core.specs.Words.{Heap, to, cell_of, plain_node_of, IsMarked, IsUnmarked}
use Rattle.lock_core.specs.Nodes.{Listed, listed}
use Rattle.lock_core.specs.Views.{unlinked, seen_after}
use Rattle.lock_laws.specs.Invariant.{IsViewOf, InChain, Names, IsUsed, IsLinked, IsRead, IsWritten, SeesFrom, HasToSee}
use Rattle.lock_core.proofs.ByView.{new_view}
use Rattle.lock_laws.proofs.PathSteps.{forth, Change, Fresh, PathStep, not_both}
use Rattle.lock_laws.proofs.Exchanges.Putting.{Exchange}
use Rattle.lock_laws.proofs.Exchanges.Cutting.{Cut, cut_change, cut_in_chain, cut_not_in_chain}
use Rattle.lock_laws.proofs.Coming.{done}
use Rattle.lock_laws.proofs.Frames.Parts.{parts_of}
use Rattle.lock_laws.proofs.Frames.Steady.{Looks, as_reader, as_writer}
use Rattle.lock_laws.proofs.Frames.Moving.{OwnStays, filling_back, linked_back, linked_forth, own_same, looks_on}
use Rattle.lock_laws.proofs.WordSteps.Walking.{own_stays, listed_still, not_yet}
use Rattle.lock_laws.proofs.Exchanges.Linking.{prev_live, head_even}
use Rattle.lock_core.proofs.SizedSteps.{plain_is}

-- what the step takes, and what it finds
pub record Case (seats : ℕ) (h now : Heap) (views : List View) (s : ℕ) (v : View) (c : Cursor) (y n : ℕ) : Type 0 where
  -- the word before the cursor is afterwards the node's next word without the mark
  pub by : Exchange seats h now views s v (cell_of c.prev) (n - 1)
  -- c is the cursor
  pub cursor : v.cursor ≡ Some c
  -- its node is y, and its word has no low bit
  pub node : plain_node_of c.cur ≡ Some y
  -- the next word of that node is known
  pub next : c.next ≡ Some n
  -- and has the mark
  pub marked : n % 2 ≡ 1
  -- nothing is in the hand
  pub empty : v.hand ≡ None
  -- the word before the cursor is still the one that the cursor found
  pub found : h.next (cell_of c.prev) ≡ c.cur

module _ {seats : ℕ} {h now : Heap} {views : List View} {s : ℕ} {v : View} {c : Cursor} {y n : ℕ} (k : Case seats h now views s v c y n) where
  read : IsRead h c
  read = k.by.invariant.fields.cursor s v c k.by.at k.cursor

  low : c.cur % 2 ≡ 0
  low = let e = plain_is c.cur y k.node in omega arith

  cur_is : c.cur / 2 ≡ suc y
  cur_is = let e = plain_is c.cur y k.node in omega arith

  next_is : n ≡ h.next (suc y)
  next_is = read.marked n k.next k.marked ∙ ap h.next cur_is

  y_marked : IsMarked h y
  y_marked = ap (λ a. a % 2) (sym next_is) ∙ k.marked

  even : h.next (cell_of c.prev) % 2 ≡ 0
  even = ap (λ w. w % 2) k.found ∙ low

  apart : suc y ≢ cell_of c.prev
  apart e = let z = ap (λ b. h.next b % 2) e in let m = y_marked in omega (arith, even)

  half : (n - 1) / 2 ≡ n / 2
  half = let m = k.marked in omega arith

  cut : Cut h now (cell_of c.prev) y
  cut = record {
    was = ap (λ w. w / 2) k.found ∙ cur_is;
    is = ap (λ w. w / 2) k.by.wrote.is ∙ half ∙ ap (λ w. w / 2) next_is;
    apart = apart;
    live = prev_live h views s v c c.prev k.by.invariant.fast_path k.by.at k.cursor refl low even;
    even = λ q z. let e = k.by.wrote.is in let m = k.marked in omega arith;
  }

  change : Change h now (λ _. ⊥) (λ x. x ≡ y) (λ _. ⊥)
  change = cut_change k.by cut

  abbrev view_now : View
  view_now = unlinked v c y (n - 1)

  -- the cursor afterwards: it came to what the node named, from the same previous node
  abbrev pub cursor_now : Cursor
  cursor_now = record { prev = c.prev; cur = n - 1; next = None; lo = None; seen = seen_after c.seen (n - 1) }

  y_marked_now : IsMarked now y
  y_marked_now = ap (λ w. w % 2) (k.by.wrote.others (suc y) apart) ∙ y_marked

  -- a linked node isn't the node that is taken out
  not_y : (j : ℕ) (u : View) (g : Listed) → IsViewOf views j u → u.own ≡ listed g → g.node ≢ y
  not_y j u g e own q = not_both h y y_marked (subst (IsUnmarked h) q (k.by.invariant.places.linked j u g e own).1)

  names : (t : ℕ) → Names cursor_now t → Names c t
  names t (inl e) = inl e
  names t (inr (inl e)) = inr (inr (n, k.next, e ∙ half))
  names t (inr (inr w)) = absurd (let e = w.1 in cc)

  fresh : Fresh c cursor_now
  fresh = record { prev = refl; even = let m = k.marked in omega arith; was_even = low; next = refl; lo = refl; names = names }

  head_low : now.next 0 % 2 ≡ 1 → ⊥
  head_low odd =
      ⊎_elim
      (λ (e : 0 ≡ cell_of c.prev). let a = ap now.next e in let b = k.by.wrote.is in let m = k.marked in omega arith)
      (λ (d : 0 ≢ cell_of c.prev). head_even h views s v c c.prev k.by.invariant.fast_path k.by.at k.cursor refl low even
      (ap (λ w. w % 2) (sym (k.by.wrote.others 0 d)) ∙ odd))
      (cases_eq 0 (cell_of c.prev))

  -- a linked node stays, with its words
  stays : (j : ℕ) (u : View) (g : Listed) → IsViewOf views j u → u.own ≡ listed g → InChain now g.node × IsUnmarked now g.node × IsWritten now g
  stays j u g e own =
      let t = k.by.invariant.places.linked j u g e own in let a = k.by.invariant.fields.linked j u g e own in (
        ⊎_elim (λ q. absurd (not_y j u g e own q)) (λ r. r) (change.keeps_from g.node 0 t.0),
        ⊎_elim (λ m. absurd m) (λ u. u) (change.stays g.node t.1),
        record { lo = k.by.wrote.lo g.node ∙ a.lo; hi = k.by.wrote.hi g.node ∙ a.hi },
      )

  -- what a linked node had to see of the others, the own one through the cursor
  ahead : (x : ℕ) (o : Option ℕ) → o ≡ Some n → x ≢ y → SeesFrom h c.cur o x → Reach (to h) x ((n - 1) / 2)
  ahead x None q d r = absurd (cc)
  ahead x (Some m) q d (inl r) = absurd (d (let z = cur_is in omega arith))
  ahead x (Some m) q d (inr r) = let same : m ≡ n = cc in subst (Reach (to h) x) (sym half) (subst (λ a. Reach (to h) x (a / 2)) same r)

  sees_own : (g : Listed) (x : ℕ) → x ≢ y → HasToSee h g v.cursor x → Reach (to h) x ((n - 1) / 2)
  sees_own g x d r = ahead x c.next k.next d (subst (λ (o : Option Cursor). HasToSee h g o x) k.cursor r)

  keeps : (x t : ℕ) → x ≢ y → Reach (to h) x t → Reach (to now) x t
  keeps x t d r = ⊎_elim (λ e. absurd (d e)) (λ z. z) (change.keeps x t r)

  sees : (g : Listed) (o : Option Cursor) (x : ℕ) → x ≢ y → HasToSee h g o x → HasToSee now g o x
  sees g None x d r = ⊎_elim (λ e. absurd (d e)) (λ z. z) (change.keeps_from x _ r)
  sees g (Some o) x d r = from o.next r
    where
      from : (next : Option ℕ) → SeesFrom h o.cur next x → SeesFrom now o.cur next x
      from None r = keeps x (o.cur / 2) d r
      from (Some m) (inl e) = inl e
      from (Some m) (inr r) = inr (keeps x (m / 2) d r)

  own_way : OwnStays v view_now
  own_way = own_stays v view_now (n - 1) refl

  looks : (g : Listed) → view_now.own ≡ listed g → Looks h now views v view_now g
  looks = looks_on h now views v view_now own_way (λ a g own r see. let d = not_y r.seat r.view g r.there r.own in let far = sees_own a g.node d see in
      (not_yet h views s (n - 1) v a g (parts_of h views k.by.invariant) k.by.at own r far, keeps g.node ((n - 1) / 2) d far))

  y_used : IsUsed (set views s view_now) y
  y_used =
      ⊎_elim
      (λ (t : IsMarked h y × IsUsed views y). let a = t.1 in forth views s v view_now k.by.at a.seat a.view a.at
      (λ at same. record { seat = s; view = view_now; at = at; used = ap (λ (z : View). times y z.used) same ∙ a.used })
      (λ d at. record { seat = a.seat; view = a.view; at = at; used = a.used }))
      (λ (t : IsUnmarked h y × IsLinked views y). absurd (not_both h y y_marked t.0))
      (k.by.invariant.places.chain y (cut_in_chain k.by cut))

  -- an Unlink that succeeds loses the cursor's node from the paths, and gains and marks none
  pub step : PathStep h now views s v view_now (λ _. ⊥) (λ x. x ≡ y) (λ _. ⊥)
  step = record {
    invariant = k.by.invariant;
    at = k.by.at;
    change = change;
    epochs = k.by.epochs;
    gained = λ x g. absurd g;
    gained_next = λ j n x u d e q m g. absurd g;
    lost_chain = λ x e. subst (InChain h) (sym e) (cut_in_chain k.by cut);
    lost_gone = λ x e r. cut_not_in_chain k.by cut (subst (InChain now) e r);
    lost_hand = λ x e. ap (λ (a : ℕ). Some a) (sym e);
    lost_used = λ x e. subst (IsUsed (set views s view_now)) (sym e) y_used;
    lost_seen = λ j x u d e q m l. inl (subst (IsMarked now) (sym l) y_marked_now);
    apart = λ j u g d e own l. ⊎_elim (not_y j u g e own) (λ z. z) l;
    alone = λ odd. absurd (head_low odd);
    rest = refl;
    once = λ x. ap (λ a. a + times x v.used) (own_same v view_now own_way x);
    used = λ x e. inl e;
    used_more = λ x. omega arith;
    hand = λ x e. inr (let a : y ≡ x = cc in sym a);
    hand_more = λ x e. absurd (let a = k.empty in cc);
    fills = filling_back v view_now own_way;
    lists = λ g e. ⊎_elim
        (λ (q : v.own ≡ listed g). stays s v g k.by.at q)
        (λ (b : (a : Listed) × (v.own ≡ listed a) × (done a ≡ g)). let t = stays s v b.0 k.by.at b.1 in let w = t.2 in
        subst (λ (a : Listed). InChain now a.node × IsUnmarked now a.node × IsWritten now a) b.2 (t.0, t.1, record { lo = w.lo; hi = w.hi }))
        (linked_back v view_now own_way g e);
    listed_was = λ g own r. let t = linked_forth v view_now own_way g own in inr (
      (stays s v g k.by.at own).1,
      record { seat = s; view = view_now; at = new_view views s view_now v k.by.at; own = t.0; is = t.1; node = t.2 },
    );
    cursor = λ d e. (c, k.cursor, inr (let q : cursor_now ≡ d = cc in subst (Fresh c) q fresh));
    sees_own = λ g e todo. let q = listed_still v.own (n - 1) g e (λ q. cc) in let d = not_y s v g k.by.at q in
        keeps g.node ((n - 1) / 2) d (sees_own g g.node d (k.by.invariant.to_see s v g k.by.at q todo));
    as_reader = λ j u r g d e own. let o = looks r own in as_reader s k.by.invariant.pairs k.by.at o
        (λ i w b at is. sees b w.cursor o.old.node (not_y s v o.old k.by.at o.own)) j u g e;
    as_writer = λ j u r g d e own own'. let o = looks g own' in as_writer s k.by.invariant.pairs k.by.at o
        (λ i w b at is. sees b w.cursor o.old.node (not_y s v o.old k.by.at o.own)) j u r e own;
  }
