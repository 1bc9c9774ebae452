-- Link, where its exchange succeeds: the own node is put into the list at the cursor's place.
use Rattle.std.proofs.Common.{◌≡◌, ◌≢◌, ◌⊎◌, ℕ, suc, ◌+◌, ◌*◌, ◌/◌, ◌%◌, List, set, Some, None, inl, inr, ⊎_elim, refl, sym, ap, ◌∙◌, subst, arith}
use Rattle.std.specs.Prelude.{Option}
use Rattle.std.proofs.lemmas.Bool.{cases_eq}
use Rattle.lock_core.specs.Counted.{times}
use Rattle.lock_core.specs.Range.{IsRange, Overlaps}
use Rattle.lock_core.specs.declared.range.Mode.{Mode}
use Rattle.lock_core.specs.declared.range.Mode.TheVariants.{Reader, Writer}
use Rattle.lock_core.specs.declared.views.View.{View}
use Rattle.lock_core.specs.declared.views.Cursor.{Cursor}
use Rattle.lock_core.specs.declared.views.Todo.{Todo}
use Rattle.lock_core.specs.declared.views.Todo.TheVariants.{Forward, FromHead}
use Rattle.lock_laws.specs.Paths.{Reach, here}
use Rattle.lock_core.specs.Words.{Heap, to, cell_of, hi_word, IsMarked, IsUnmarked}
use Rattle.lock_core.specs.Nodes.{Filled, Listed, filling, listed, own_times}
use Rattle.lock_core.specs.Views.{linked, todo_of}
use Rattle.lock_core.specs.StepTable.{IsAtPlace}
use Rattle.lock_laws.specs.Invariant.{IsViewOf, InChain, MayReach, IsBefore, Places, IsKnown, IsWritten, IsAlone}
use Rattle.lock_laws.specs.Invariant.{HasRange, FastPath, HasToSee, first_cell_of}
use Rattle.lock_laws.proofs.Paths.{unreach, nothing_at_end}
use Rattle.lock_laws.proofs.Along.{reader_first}
use Rattle.lock_core.proofs.Counts.{own_filling, own_linked}
use Rattle.lock_laws.proofs.Seats.{one_seat}
use Rattle.lock_laws.proofs.Judging.{past_before, stop_before, hi_is}
use Rattle.lock_laws.proofs.PathSteps.{Fresh, PathStep, IsNew, listed_one}
use Rattle.lock_laws.proofs.Exchanges.Putting.{Exchange, IsLive, Put, put_change, put_next, own_in_chain, chain_keeps}

-- the own nodes of different seats differ
pub own_apart : (h : Heap) (views : List View) (i j : ℕ) (v u : View) (x y : ℕ) → Places h views → IsViewOf views i v
    → IsViewOf views j u → own_times x v.own ≡ 1 → own_times y u.own ≡ 1 → i ≢ j → x ≢ y
own_apart h views i j v u x y places at at' a b d e =
    let b' : own_times x u.own ≡ 1 = subst (λ n. own_times n u.own ≡ 1) (sym e) b in
    d (one_seat h views places i j x v u at at' (omega arith) (omega arith))

-- where a cursor's word has no low bit and its previous cell still has that word, that cell is the head or the next
-- word of an unmarked chain node
pub prev_live : (h : Heap) (views : List View) (i : ℕ) (v : View) (c : Cursor) (prev : Option ℕ) → FastPath h views
    → IsViewOf views i v → v.cursor ≡ Some c → c.prev ≡ prev → c.cur % 2 ≡ 0 → h.next (cell_of prev) % 2 ≡ 0
    → IsLive h (cell_of prev)
prev_live h views i v c None fast at cursor e low even = inl refl
prev_live h views i v c (Some q) fast at cursor e low even =
    inr (
      q,
      refl,
      ⊎_elim (λ r. r) (λ t. absurd (⊎_elim (λ (m : IsMarked h q). omega arith)
          (λ (z : c.cur ≡ 2 * suc q + 1). omega arith) t))
          (fast.kept i q v c at cursor (record { target = suc q; named = inl (sym (ap cell_of e)); reach = here })),
      even,
    )

-- and then the head has no low bit
pub head_even : (h : Heap) (views : List View) (i : ℕ) (v : View) (c : Cursor) (prev : Option ℕ) → FastPath h views
    → IsViewOf views i v → v.cursor ≡ Some c → c.prev ≡ prev → c.cur % 2 ≡ 0 → h.next (cell_of prev) % 2 ≡ 0 → h.next 0 % 2 ≡ 1
    → ⊥
head_even h views i v c None fast at cursor e low even odd = omega arith
head_even h views i v c (Some q) fast at cursor e low even odd =
    let alone = fast.alone odd in
    let may : MayReach h c q = record { target = suc q; named = inl (sym (ap cell_of e)); reach = here } in
    ⊎_elim
    (λ (r : InChain h q).
    ⊎_elim
    (λ (z : q ≡ alone.node). let u = alone.unseen i v c at cursor (subst (MayReach h c) z may) in omega arith)
    (λ (z : Reach (to h) q (to h (suc alone.node))). nothing_at_end (to h) q (subst (Reach (to h) q) alone.last z))
    (unreach (to h) q alone.node (subst (Reach (to h) q) alone.first r)))
    (λ t. ⊎_elim (λ (m : IsMarked h q). omega arith) (λ (z : c.cur ≡ 2 * suc q + 1). omega arith) t)
    (fast.kept i q v c at cursor may)

-- what is known of an own node with both ends
pub record Ready (h : Heap) (f : Filled) (lo hi : ℕ) : Type 0 where
  -- its lo word has the lower end
  pub lo_is : h.lo f.node ≡ lo
  -- its hi word has the higher end and the mode
  pub hi_is : h.hi f.node ≡ hi_word hi f.mode
  -- the two ends are those of a range
  pub range : IsRange lo hi

-- the words of a node whose ends are known have them, and they are those of a range
pub ready : (h : Heap) (f : Filled) (lo hi : ℕ) → IsKnown h f → f.lo ≡ Some lo → f.hi ≡ Some hi → Ready h f lo hi
ready h f lo hi known el eh = record {
  lo_is = known.lo lo el;
  hi_is = known.hi hi eh;
  range = let t = known.in_order.hi hi eh in let same : t.0 ≡ lo = let a = t.1 in cc in subst (λ a. IsRange a hi) same t.2;
}

-- node f, which is being filled and has both ends, is put behind cell p
pub record Inserts (seats : ℕ) (h now : Heap) (views : List View) (s : ℕ) (v : View) (f : Filled) (lo hi p w : ℕ) : Type 0 where
  -- the exchange puts word w into the cell
  pub by : Exchange seats h now views s v p w
  -- node f is being filled
  pub own : v.own ≡ filling f
  -- its lower end is known
  pub lo_is : f.lo ≡ Some lo
  -- and so is its higher end
  pub hi_is : f.hi ≡ Some hi

module _ {seats : ℕ} {h now : Heap} {views : List View} {s : ℕ} {v : View} {f : Filled} {lo hi p w : ℕ} (k : Inserts seats h now views s v f lo hi p w) where
  -- what is known of the node is so of its words
  pub known : IsKnown h f
  known = k.by.invariant.fields.filled s v f k.by.at k.own

  -- its words have the two ends
  pub rest : Ready h f lo hi
  rest = ready h f lo hi known k.lo_is k.hi_is

  -- no cursor reaches it
  pub away : (j : ℕ) (u : View) (d : Cursor) → IsViewOf views j u → u.cursor ≡ Some d → MayReach h d f.node → ⊥
  away j u d e q = k.by.invariant.no_reuse s j f.node v u d k.by.at e q (inr (f, k.own, refl))

  -- the node as it is linked
  abbrev pub own_now : Todo → Listed
  own_now todo = record { node = f.node; range = record { lo = lo; hi = hi }; mode = f.mode; todo = todo }

  -- its words afterwards are those that the view says
  pub own_written : (todo : Todo) → IsWritten now (own_now todo)
  own_written todo = record { lo = k.by.wrote.lo f.node ∙ rest.lo_is; hi = k.by.wrote.hi f.node ∙ rest.hi_is }

  own_range : HasRange now f.node
  own_range =
      let a = k.by.wrote.lo f.node ∙ rest.lo_is in let b = ap (λ w. w / 2) (k.by.wrote.hi f.node ∙ rest.hi_is) ∙ hi_is hi f.mode in
      (let r = rest.range.0 in omega arith, let r = rest.range.1 in omega arith)

  module _ (put : Put h now p f.node) (unmarked : IsUnmarked now f.node) (todo : Todo) (cursor : Option Cursor) where
    abbrev view_now : View
    view_now = record v { own = listed (own_now todo); cursor = cursor }

    new : (x : ℕ) → x ≡ f.node → IsNew now v view_now x
    new x e = record {
      filled = f;
      was = k.own;
      own = own_now todo;
      is = refl;
      filled_node = sym e;
      own_node = sym e;
      chain = subst (InChain now) (sym e) (own_in_chain k.by put);
      unmarked = subst (IsUnmarked now) (sym e) unmarked;
      range = subst (HasRange now) (sym e) own_range;
    }

    new_next : (j n x : ℕ) (u : View) (d : Cursor) → IsViewOf views j u → u.cursor ≡ Some d → d.next ≡ Some n → x ≡ f.node
        → Reach (to now) x (n / 2) → Reach (to now) x (to now (d.cur / 2))
    new_next j n x u d e q m z r =
        subst (λ a. Reach (to now) a (to now (d.cur / 2))) (sym z)
        (put_next k.by put n d.cur
        (λ b. away j u d e q (record { target = n / 2; named = inr (inr (n, m, refl)); reach = b }))
        (λ y. (k.by.invariant.fields.cursor j u d e q).next n y m)
        (subst (λ a. Reach (to now) a (n / 2)) z r))

    -- the step gains the node for the paths, and loses and marks none
    pub inserts : (now.next 0 % 2 ≡ 1 → IsAlone now (set views s view_now))
        → ((d : Cursor) → cursor ≡ Some d → (c : Cursor) × (v.cursor ≡ Some c) × ((c ≡ d) ⊎ Fresh c d))
        → (todo ≡ FromHead → HasToSee now (own_now todo) cursor f.node)
        → ((j : ℕ) (u : View) (g : Listed) → j ≢ s → IsViewOf views j u → u.own ≡ listed g → f.mode ≡ Reader → g.mode ≡ Writer
        → Overlaps (own_now todo).range g.range
        → ((todo ≡ Forward) × HasToSee now (own_now todo) cursor g.node) ⊎ ((g.todo ≡ FromHead) × HasToSee now g u.cursor f.node))
        → ((j : ℕ) (u : View) (r : Listed) → j ≢ s → IsViewOf views j u → u.own ≡ listed r → f.mode ≡ Writer
        → ((r.todo ≡ Forward) × HasToSee now r u.cursor f.node) ⊎ ((todo ≡ FromHead) × HasToSee now (own_now todo) cursor r.node))
        → PathStep h now views s v view_now (λ x. x ≡ f.node) (λ _. ⊥) (λ _. ⊥)
    inserts alone moved sees_own as_reader as_writer = record {
      invariant = k.by.invariant;
      at = k.by.at;
      change = put_change k.by put;
      epochs = k.by.epochs;
      gained = new;
      gained_next = new_next;
      lost_chain = λ x l. absurd l;
      lost_gone = λ x l r. l;
      lost_hand = λ x l. absurd l;
      lost_used = λ x l. absurd l;
      lost_seen = λ j x u d e q m l. absurd l;
      apart = λ j u g d e q l. ⊎_elim (λ z. z) (λ z. z) l;
      alone = alone;
      rest = refl;
      once = λ x. ap (λ o. own_times x o + times x v.used) (sym k.own);
      used = λ x e. inl e;
      used_more = λ x. omega arith;
      hand = λ x e. inl e;
      hand_more = λ x e. e;
      fills = λ g e. absurd (cc);
      lists = λ g e. subst (λ (a : Listed). InChain now a.node × IsUnmarked now a.node × IsWritten now a) (listed_one (own_now todo) g e)
          (own_in_chain k.by put, unmarked, own_written todo);
      listed_was = λ g e r. absurd (let o = k.own in cc);
      cursor = moved;
      sees_own = λ g e left. let q = listed_one (own_now todo) g e in
          subst (λ (a : Listed). HasToSee now a cursor a.node) q (sees_own (ap (λ (a : Listed). a.todo) q ∙ left));
      as_reader = λ j u r g d at own own' reader writer over. let q = listed_one (own_now todo) r own in
          subst (λ (a : Listed). ((a.todo ≡ Forward) × HasToSee now a cursor g.node) ⊎ ((g.todo ≡ FromHead) × HasToSee now g u.cursor a.node)) q
          (as_reader j u g d at own' (ap (λ (a : Listed). a.mode) q ∙ reader) writer (subst (λ (a : Listed). Overlaps a.range g.range) (sym q) over));
      as_writer = λ j u r g d at own own' reader writer over. let q = listed_one (own_now todo) g own' in
          subst (λ (a : Listed). ((r.todo ≡ Forward) × HasToSee now r u.cursor a.node) ⊎ ((a.todo ≡ FromHead) × HasToSee now a cursor r.node)) q
          (as_writer j u r d at own (ap (λ (a : Listed). a.mode) q ∙ writer));
    }

-- what the step takes, and what it finds
pub record Case (seats : ℕ) (h now : Heap) (views : List View) (s : ℕ) (v : View) (f : Filled) (c : Cursor) (lo hi : ℕ) : Type 0 where
  -- the word before the cursor is afterwards the one that names the own node
  pub into : Inserts seats h now views s v f lo hi (cell_of c.prev) (2 * suc f.node)
  -- c is the cursor
  pub cursor : v.cursor ≡ Some c
  -- node f is aimed at the cursor's word
  pub aimed : f.aimed ≡ Some c.cur
  -- the cursor's word has no low bit
  pub low : c.cur % 2 ≡ 0
  -- the cursor is at its place
  pub place : IsAtPlace c
  -- the word before the cursor is still the one that the cursor found
  pub found : h.next (cell_of c.prev) ≡ c.cur

module _ {seats : ℕ} {h now : Heap} {views : List View} {s : ℕ} {v : View} {f : Filled} {c : Cursor} {lo hi : ℕ}
    (k : Case seats h now views s v f c lo hi) where
  abbrev by : Exchange seats h now views s v (cell_of c.prev) (2 * suc f.node)
  by = k.into.by

  aim : h.next (suc f.node) ≡ c.cur
  aim = (known k.into).aimed c.cur k.aimed

  even : h.next (cell_of c.prev) % 2 ≡ 0
  even = ap (λ w. w % 2) k.found ∙ k.low

  apart : suc f.node ≢ cell_of c.prev
  apart e = away k.into s v c by.at k.cursor (record { target = suc f.node; named = inl e; reach = here })

  before_own : (q : ℕ) (prev : Option ℕ) → c.prev ≡ prev → cell_of prev ≡ suc q → HasRange h q → IsBefore h q f.node
  before_own q None e z r = absurd (omega arith)
  before_own q (Some p) e z r =
      let same : p ≡ q = omega arith in
      past_before h q f.node lo hi f.mode (by.invariant.way.past s v c f lo hi q by.at k.cursor k.into.own k.into.lo_is k.into.hi_is
      (e ∙ ap (λ (a : ℕ). Some a) same)) (rest k.into).lo_is r.0

  after_own : (y : ℕ) → to h (suc f.node) ≡ suc y → IsBefore h f.node y
  after_own y e =
      let cur : c.cur / 2 ≡ suc y = ap (λ w. w / 2) (sym aim) ∙ e in let r = rest k.into in
      stop_before h f.node y lo hi f.mode (by.invariant.way.stop s v c f lo hi y by.at k.cursor k.into.own k.into.lo_is k.into.hi_is k.place cur)
      r.lo_is r.hi_is r.range.0

  put : Put h now (cell_of c.prev) f.node
  put = record {
    was = ap (λ w. w / 2) (aim ∙ sym k.found);
    is = let e = by.wrote.is in omega arith;
    apart = apart;
    live = prev_live h views s v c c.prev by.invariant.fast_path by.at k.cursor refl k.low even;
    even = λ q z. let e = by.wrote.is in omega arith;
    after = after_own;
    before = λ q e r. before_own q c.prev refl e r;
  }

  head_low : now.next 0 % 2 ≡ 1 → ⊥
  head_low odd =
      ⊎_elim
      (λ (e : 0 ≡ cell_of c.prev). let a = ap now.next e in let b = by.wrote.is in omega arith)
      (λ (d : 0 ≢ cell_of c.prev). head_even h views s v c c.prev by.invariant.fast_path by.at k.cursor refl k.low even
      (ap (λ w. w % 2) (sym (by.wrote.others 0 d)) ∙ odd))
      (cases_eq 0 (cell_of c.prev))

  sees_itself : (m : Mode) → todo_of m ≡ FromHead → Reach (to now) f.node (to now (first_cell_of (todo_of m) f.node))
  sees_itself Reader e = absurd (cc)
  sees_itself Writer e = own_in_chain by put

  -- an overlapping writer is behind the reader that is linked now
  reader_sees : (j : ℕ) (u : View) (g : Listed) (m : Mode) → m ≡ Reader → j ≢ s → IsViewOf views j u
      → u.own ≡ listed g → g.mode ≡ Writer → Overlaps (record { lo = lo; hi = hi }) g.range
      → (todo_of m ≡ Forward) × Reach (to now) g.node (to now (first_cell_of (todo_of m) f.node))
  reader_sees j u g Writer e d at own writer over = absurd (cc)
  reader_sees j u g Reader e d at own writer over =
      let t = by.invariant.places.linked j u g at own in let a = by.invariant.fields.linked j u g at own in (
        refl,
        reader_first now (own_now k.into Forward) g (put_change by put).chain (own_in_chain by put) (chain_keeps by put g.node t.0)
            (own_written k.into Forward) (record { lo = by.wrote.lo g.node ∙ a.lo; hi = by.wrote.hi g.node ∙ a.hi })
            (own_apart h views j s u v g.node f.node by.invariant.places at by.at (own_linked u g own) (own_filling v f k.into.own) d) writer over,
      )

  -- a writer that is linked now has the whole chain to see
  writer_sees : (x : ℕ) (m : Mode) → m ≡ Writer → InChain h x → (todo_of m ≡ FromHead) × Reach (to now) x (to now (first_cell_of (todo_of m) f.node))
  writer_sees x Reader e r = absurd (cc)
  writer_sees x Writer e r = (refl, chain_keeps by put x r)

  -- a Link that succeeds gains the own node for the paths, and loses and marks none
  pub step : PathStep h now views s v (linked v f.node lo hi f.mode (todo_of f.mode)) (λ x. x ≡ f.node) (λ _. ⊥) (λ _. ⊥)
  step = inserts k.into put (ap (λ w. w % 2) (by.wrote.others (suc f.node) apart ∙ aim) ∙ k.low) (todo_of f.mode) None
      (λ odd. absurd (head_low odd))
      (λ d e. absurd (cc))
      (sees_itself f.mode)
      (λ j u g d at own reader writer over. inl (reader_sees j u g f.mode reader d at own writer over))
      (λ j u r d at own writer. inr (writer_sees r.node f.mode writer (by.invariant.places.linked j u r at own).0))
