-- QuickLink, where its exchange succeeds: the own node is put into the empty list, and its range is held at once.
use Rattle.std.proofs.Common.{◌≡◌, ℕ, suc, ◌+◌, ◌*◌, ◌/◌, ◌%◌, List, set, Some, inl, inr, ⊎_elim, refl, sym, ap, ◌∙◌, subst, arith}
use Rattle.lock_core.specs.declared.views.View.{View}
use Rattle.lock_core.specs.declared.views.Cursor.{Cursor}
use Rattle.lock_core.specs.declared.views.Todo.TheVariants.{Done}
use Rattle.lock_laws.specs.Paths.{Reach}
use Rattle.lock_core.specs.Words.{Heap, to}
use Rattle.lock_core.specs.Nodes.{Filled}
use Rattle.lock_core.specs.Views.{quick_linked}
use Rattle.lock_laws.specs.Invariant.{IsViewOf, InChain, MayReach, IsAlone}
use Rattle.lock_laws.proofs.Paths.{put_via, nothing_at_end}
use Rattle.lock_core.proofs.ByView.{new_view, each}
use Rattle.lock_laws.proofs.PathSteps.{PathStep}
use Rattle.lock_laws.proofs.Exchanges.Putting.{Put, puts}
use Rattle.lock_laws.proofs.Exchanges.Linking.{Inserts, known, away, own_now, inserts}

-- what the step takes, and what it finds
pub record Case (seats : ℕ) (h now : Heap) (views : List View) (s : ℕ) (v : View) (f : Filled) (lo hi : ℕ) : Type 0 where
  -- the head names the own node with the low bit afterwards
  pub into : Inserts seats h now views s v f lo hi 0 (2 * suc f.node + 1)
  -- it is aimed at the end
  pub aimed : f.aimed ≡ Some 0
  -- the seat is outside any operation
  pub outside : v.epoch % 2 ≡ 0
  -- the list is empty
  pub found : h.next 0 ≡ 0

module _ {seats : ℕ} {h now : Heap} {views : List View} {s : ℕ} {v : View} {f : Filled} {lo hi : ℕ} (k : Case seats h now views s v f lo hi) where
  aim : h.next (suc f.node) ≡ 0
  aim = (known k.into).aimed 0 k.aimed

  empty : (x : ℕ) → InChain h x → ⊥
  empty x r = nothing_at_end (to h) x (subst (Reach (to h) x) (ap (λ w. w / 2) k.found) r)

  put : Put h now 0 f.node
  put = record {
    was = ap (λ w. w / 2) (aim ∙ sym k.found);
    is = let e = k.into.by.wrote.is in omega arith;
    apart = λ e. omega arith;
    live = inl refl;
    even = λ q z. absurd (omega arith);
    after = λ y e. absurd (let a = aim in omega arith);
    before = λ q e. absurd (omega arith);
  }

  abbrev view_now : View
  view_now = quick_linked v f.node lo hi f.mode

  last : now.next (suc f.node) ≡ 0
  last = k.into.by.wrote.others (suc f.node) (λ e. omega arith) ∙ aim

  -- no cursor reaches the new node
  unseen : (j : ℕ) (u : View) (d : Cursor) → IsViewOf views j u → u.cursor ≡ Some d → MayReach now d f.node → ⊥
  unseen j u d e q m =
      ⊎_elim
      (λ (r : Reach (to h) f.node m.target). away k.into j u d e q (record { target = m.target; named = m.named; reach = r }))
      (λ (b : (q : ℕ) × (0 ≡ suc q) × Reach (to h) q m.target). let z = b.1 in omega arith)
      (put_via (puts k.into.by put) m.target m.reach)

  alone : IsAlone now (set views s view_now)
  alone = record {
    node = f.node;
    first = put.is;
    last = ap (λ w. w / 2) last;
    rest = inr (record {
      seat = s;
      view = view_now;
      at = new_view views s view_now v k.into.by.at;
      own = own_now k.into Done;
      is = refl;
      node = refl;
      done = refl;
    });
    unseen = λ i u d e q m. absurd (each views s view_now (λ i u. (d : Cursor) → u.cursor ≡ Some d → MayReach now d f.node → ⊥)
        (λ d q m. unseen s v d k.into.by.at q m) (λ j u _ e d q m. unseen j u d e q m) i u e d q m);
  }

  -- a QuickLink that succeeds gains the own node for the paths, and loses and marks none
  pub step : PathStep h now views s v view_now (λ x. x ≡ f.node) (λ _. ⊥) (λ _. ⊥)
  step = inserts k.into put (ap (λ w. w % 2) last) Done v.cursor
      (λ odd. alone)
      (λ d e. (d, e, inl refl))
      (λ e. absurd (cc))
      (λ j u g d at own reader writer over. absurd (empty g.node (k.into.by.invariant.places.linked j u g at own).0))
      (λ j u r d at own writer. absurd (empty r.node (k.into.by.invariant.places.linked j u r at own).0))
