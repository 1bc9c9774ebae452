-- Lines played one after another: the first one, and then the rest.
use Rattle.std.proofs.Common.{◌≡◌, ℕ, ◌<◌, ◌+◌, List, [], ◌∷◌, ◌++◌, get_or, length, sym, refl, ap, ◌∙◌, subst, arith, append-nil, append_assoc, length-append}
use mathlib.Core.Option.{some}
use lib.ListN.{get_elem?}
use Rattle.area_rows.proofs.Wholes.{kept_entry}
use Rattle.lock_core.proofs.ByPlace.{below, at_or}
use Rattle.space_model.specs.declared.entries.Entry.{Entry}
use Rattle.area_rows.specs.History.{StartsWith}
use Rattle.area_rows.specs.Callers.{entry_in, CallerView}
use Rattle.area_protect.proofs.Looking.{begins_on, longer as no_shorter}
use Rattle.trace_threads.specs.declared.worker.Line.{Line}
use Rattle.trace_threads.specs.Workers.{WorkerView, AreEntriesOf, Rise, IsPlayedAs, HasPlayed, HasDone, HavePlayed}

-- no line is played by doing nothing, and has no entry
pub played_none_by : (c : CallerView) → (h : HasPlayed [] c c) × (h.entries ≡ [])
played_none_by c = (
  record {
    entries = [];
    plays = refl;
    theirs = tt;
    rise = omega arith;
    mine = sym (append-nil c.seat.pass.mine);
    seen = ([], sym (append-nil c.seat.pass.seen));
    left = omega arith;
    start = refl;
    table = refl;
    number = refl;
    held = refl;
  },
  refl,
)

-- a line is played, and then the rest; its entry is in front of the others
pub played_more_by : {l : Line} (ls : List Line) {a b : CallerView} (c : CallerView) {e : Entry} → IsPlayedAs a l e b → (h : HasPlayed ls b c)
    → (m : HasPlayed (l ∷ ls) a c) × (m.entries ≡ e ∷ h.entries)
played_more_by ls {a} {b} c {e} p h =
    let n = p.called.numbered in let seen_by : StartsWith b.seat.pass.seen n.history = (entry_in n.history e ∷ [], n.seen) in
    let longer : length b.seat.pass.seen ≡ length n.history + 1 = ap length n.seen ∙ length-append n.history (entry_in n.history e ∷ []) in
    let next : e.number + 1 ≡ length b.seat.pass.seen = (let count = n.counted p.keeps in omega arith) in
    let first = no_shorter a.seat.pass.seen n.history n.more in (
      record {
        entries = e ∷ h.entries;
        plays = (b, p, h.plays);
        theirs = (
          record { worker_is = n.worker; line_is = p.called.line_is; call_is = p.called.call_is },
          subst (λ k. AreEntriesOf k ls h.entries) n.number h.theirs,
        );
        rise = ((let count = n.counted p.keeps in omega arith), subst (λ k. Rise k h.entries (length c.seat.pass.seen)) (sym next) h.rise);
        mine = h.mine ∙ (ap (λ m. m ++ h.entries) (n.mine ∙ ap (λ x. a.seat.pass.mine ++ x ∷ []) (kept_entry n p.keeps))
            ∙ append_assoc a.seat.pass.mine (e ∷ []) h.entries);
        seen = begins_on a.seat.pass.seen n.history c.seat.pass.seen n.more (begins_on n.history b.seat.pass.seen c.seat.pass.seen seen_by h.seen);
        left = (let one = p.called.left in let rest = h.left in omega arith);
        start = h.start ∙ n.start;
        table = h.table ∙ n.table;
        number = h.number ∙ n.number;
        held = h.held ∙ n.held;
      },
      refl,
    )

-- what calls did to the elements of a list, each by its place
pub by_place : {A : Type 0} (R : A → A → Type 0) (old new : List A)
    → ((k : ℕ) (d : A) → k < length old → (a : A) × (b : A) × (a ≡ get_or old k d) × R a b × (b ≡ get_or new k d))
    → (k : ℕ) (a b : A) → get_elem? old k ≡ some a → get_elem? new k ≡ some b → R a b
by_place {A} R old new each k a b at_a at_b =
    let e = each k a (below old k a at_a) in let was : e.0 ≡ a = e.2 ∙ at_or old k a a at_a in
    let now : e.1 ≡ b = e.4 ∙ at_or new k b a at_b in subst (λ (z : A × A). R z.0 z.1) (λ i. (was i, now i)) e.3

-- the workers by place, as their calls left them
pub have_played : (old new : List WorkerView) → length new ≡ length old
    → ((k : ℕ) (d : WorkerView) → k < length old → (a : WorkerView) × (b : WorkerView) × (a ≡ get_or old k d) × HasDone a b × (b ≡ get_or new k d))
    → HavePlayed old new
have_played old new same each = record { count = same; each = by_place HasDone old new each }
