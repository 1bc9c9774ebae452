-- Where nothing was numbered meanwhile each number of a way is that of the entry, so the way is a function of the state
-- that the entry finds.
use Rattle.std.proofs.Common.{◌≡◌, ℕ, ◌+◌, ◌<◌, ◌≤◌, List, [], ◌++◌, length, sym, refl, ap, ◌∙◌, subst, arith, ⊎_elim}
use Rattle.std.proofs.lemmas.List.{append-nil, length-append, nil_from_length}
use Rattle.std.specs.Prelude.{Option, Some, None, IsSome, MatchOption}
use Rattle.page_types.specs.declared.calls.Call.{Call}
use Rattle.page_types.specs.declared.calls.Call.TheVariants.{Protect}
use Rattle.page_types.specs.declared.calls.Reply.{Reply}
use Rattle.page_types.specs.declared.sets.Prot.{Prot}
use Rattle.page_types.specs.Pages.{page_of, end_page}
use Rattle.page_types.specs.PlainReply.{plain_reply}
use Rattle.space_model.specs.declared.areas.Area.{Area}
use Rattle.space_model.specs.declared.entries.Entry.{Entry}
use Rattle.space_model.specs.declared.entries.Under.{Under}
use Rattle.space_model.specs.declared.entries.Under.TheVariants.{Nothing}
use Rattle.space_model.specs.Areas.{IsAreaList}
use Rattle.space_model.specs.History.{StateAfter}
use Rattle.space_model.specs.Held.{HoldsSomeArea, IsSimple, FitsByState, FitsUnder}
use Rattle.space_model.proofs.Histories.{one_state}
use Rattle.space_model.proofs.Simple.{kind_at-member}
use Rattle.area_rows.specs.AreaPlans.{IsOneKind}
use Rattle.area_rows.specs.History.{whole_count}
use Rattle.area_rows.specs.Callers.{CallerView}
use Rattle.area_rows.proofs.Storing.{all_legal}
use Rattle.area_protect.specs.declared.path.Cause.{Cause}
use Rattle.area_protect.specs.declared.path.Cause.TheVariants.{NotOneArea, NotSimple, Moved}
use Rattle.area_protect.specs.declared.path.Path.{Path}
use Rattle.area_protect.specs.Looks.{IsAfter, HasWhole}
use Rattle.area_protect.specs.declared.path.Path.TheVariants.{Free, Area as OverArea, Whole}
use Rattle.area_protect.proofs.Stages.{before_entry}
use Rattle.area_protect.specs.Protects.{HasCause, HasPath, IsBetween, IsProtected, IsLone, LoneHoldsArea, LonePathIsOne}

-- between what was seen and the entry there is one number
one_number : (before : CallerView) (e : Entry) (m : ℕ) → IsLone before e → length before.seat.pass.seen ≤ m → m ≤ e.number → m ≡ e.number
one_number before e m lone low high = omega arith

-- so no two different ones are between them
never_moved : (before : CallerView) (e : Entry) (m n : ℕ) → IsLone before e → IsBetween before.seat m e → IsBetween before.seat n e → m < n → ⊥
never_moved before e m n lone a b below = let at_m = one_number before e m lone a.0 a.1 in let at_n = one_number before e n lone b.0 b.1 in absurd (omega arith)

-- a simple change is of pages of one kind
simple_is_one_kind : (A : List Area) (addr len : ℕ) (prot : Prot) → IsAreaList A → IsSimple A (Protect addr len prot)
    → IsOneKind A (page_of addr) (end_page addr len)
simple_is_one_kind A addr len prot w s =
    (s.0.kind, λ page low high. kind_at-member A s.0 page w s.1.0 (let f = s.1.1 in omega arith) (let u = s.1.2 in omega arith))

fits_then : (A : List Area) (call : Call) (under : Under) → plain_reply call ≡ None → FitsUnder A call under → FitsByState A call under
fits_then A call under none fits = subst (λ (o : Option Reply). MatchOption o (FitsByState A call under) (λ (_ : Reply). under ≡ Nothing)) none fits

-- what holds an area is of a simple change
area_is_simple : (A : List Area) (addr len : ℕ) (prot : Prot) (under : Under) → FitsByState A (Protect addr len prot) under
    → HoldsSomeArea under → IsSimple A (Protect addr len prot)
area_is_simple A addr len prot under fits holds = ⊎_elim (λ e. absurd (subst HoldsSomeArea e holds)) (λ t. (t.0, t.1)) fits

decided_not : (o : Option Reply) → IsSome o → o ≡ None → ⊥
decided_not None s e = cc
decided_not (Some r) s e = cc

module _ {before after : CallerView} {line addr len : ℕ} {prot : Prot} {e : Entry} {path : Path} (p : IsProtected before line addr len prot e path after) where
  open p.called use {numbered as num}
  open p.called.numbered use {state}

  -- the state that the entry finds is that after all entries before it
  found_state : (what : List Area → Type 0) → IsAfter after.seat e.number what → what state
  found_state what t =
      let mine : StateAfter after.seat.pass.start num.history state = subst (λ (l : List Area). StateAfter l num.history state) (sym num.start)
      (all_legal before.seat.pass.start state num.history num.runs).1 in
      let then : StateAfter after.seat.pass.start num.history t.0 =
      subst (λ (l : List Entry). StateAfter after.seat.pass.start l t.0) (before_entry num p.keeps) t.1 in
      subst what (one_state after.seat.pass.start num.history t.0 state then mine) t.2

  -- what was so of the pages of a lone call at a number between is so of the state that its entry finds
  abbrev causes : Cause → Type 0
  causes cause = HasCause before.seat (Protect addr len prot) (page_of addr) (end_page addr len) e after.seat cause

  none_found : (at : ℕ) → IsLone before e → causes (NotOneArea at) → ¬ IsOneKind state (page_of addr) (end_page addr len)
  none_found at lone c = found_state (λ A. ¬ IsOneKind A (page_of addr) (end_page addr len))
      (subst (λ m. IsAfter after.seat m (λ A. ¬ IsOneKind A (page_of addr) (end_page addr len))) (one_number before e at lone c.0.0 c.0.1) c.1)

  one_found : (at : ℕ) → IsLone before e → causes (NotSimple at) → IsOneKind state (page_of addr) (end_page addr len) × ¬ IsSimple state (Protect addr len prot)
  one_found at lone c = found_state (λ A. IsOneKind A (page_of addr) (end_page addr len) × ¬ IsSimple A (Protect addr len prot))
      (subst (λ m. IsAfter after.seat m (λ A. IsOneKind A (page_of addr) (end_page addr len) × ¬ IsSimple A (Protect addr len prot)))
      (one_number before e at lone c.0.0 c.0.1) c.1)

  -- the cause of a lone call is of the state that its entry finds
  lone_cause : (cause : Cause) → IsLone before e → causes cause → IsSimple state (Protect addr len prot) → ⊥
  lone_cause (NotOneArea at) lone c simple = none_found at lone c (simple_is_one_kind state addr len prot num.in_order simple)
  lone_cause (NotSimple at) lone c simple = (one_found at lone c).1 simple
  lone_cause (Moved first second old new) lone c simple = never_moved before e first second lone c.0 c.1 c.2

  -- who holds an area makes a simple change
  held_simple : plain_reply (Protect addr len prot) ≡ None → HoldsSomeArea e.under → IsSimple state (Protect addr len prot)
  held_simple none holds = area_is_simple state addr len prot e.under (fits_then state (Protect addr len prot) e.under none
      (subst (λ (c : Call). FitsUnder state c e.under) p.called.call_is num.right.fits)) holds

  -- nothing came between: the history before the entry is what was seen
  lone_history : IsLone before e → num.history ≡ before.seat.pass.seen
  lone_history lone =
      let c = num.counted p.keeps in
      let l : length num.history ≡ length before.seat.pass.seen + length num.more.0 = ap length num.more.1 ∙ length-append before.seat.pass.seen num.more.0 in
      num.more.1 ∙ (ap (λ r. before.seat.pass.seen ++ r)
      (nil_from_length num.more.0 (let z : length num.more.0 ≡ 0 = omega arith in z)) ∙ append-nil before.seat.pass.seen)

  -- so many of the entries before it are under everything
  lone_count : (n : ℕ) → IsLone before e → HasWhole after.seat e.number n → whole_count before.seat.pass.seen ≡ n
  lone_count n lone t = ap whole_count (sym (before_entry num p.keeps ∙ lone_history lone)) ∙ t

  simple_or : plain_reply (Protect addr len prot) ≡ None → IsLone before e → (way : Path)
      → HasPath before.seat (Protect addr len prot) (page_of addr) (end_page addr len) e after.seat way
      → IsSimple state (Protect addr len prot) → HoldsSomeArea e.under
  simple_or none lone Free w simple = absurd (decided_not (plain_reply (Protect addr len prot)) w none)
  simple_or none lone (OverArea seq) w simple = w.1
  simple_or none lone (Whole cause) w simple = absurd (lone_cause cause lone w.2 simple)

-- where nothing was numbered meanwhile, a call that its arguments don't decide holds its area exactly where the change
-- is simple at the state that its entry finds
pub lone_holds_area : LoneHoldsArea
lone_holds_area before after line addr len prot e path p none lone = (λ holds. held_simple p none holds, λ simple. simple_or p none lone path p.way simple)

-- two causes at one state
module _ {b a c d : CallerView} {line other addr len : ℕ} {prot : Prot} {e f : Entry} {path way : Path} (p : IsProtected b line addr len prot e path a)
    (q : IsProtected c other addr len prot f way d) (alone : IsLone b e) (lone : IsLone c f) (state : p.called.numbered.state ≡ q.called.numbered.state)
    (number : e.number ≡ f.number) where
  one_cause : (x y : Cause) → causes p x → causes q y → x ≡ y
  one_cause (NotOneArea m) (NotOneArea n) g h = ap NotOneArea (one_number b e m alone g.0.0 g.0.1 ∙ (number ∙ sym (one_number c f n lone h.0.0 h.0.1)))
  one_cause (NotSimple m) (NotSimple n) g h = ap NotSimple (one_number b e m alone g.0.0 g.0.1 ∙ (number ∙ sym (one_number c f n lone h.0.0 h.0.1)))
  one_cause (NotOneArea m) (NotSimple n) g h =
      absurd (none_found p m alone g (subst (λ A. IsOneKind A (page_of addr) (end_page addr len)) (sym state) (one_found q n lone h).0))
  one_cause (NotSimple m) (NotOneArea n) g h =
      absurd (none_found q n lone h (subst (λ A. IsOneKind A (page_of addr) (end_page addr len)) state (one_found p m alone g).0))
  one_cause (Moved first second old new) y g h = absurd (never_moved b e first second alone g.0 g.1 g.2)
  one_cause x (Moved first second old new) g h = absurd (never_moved c f first second lone h.0 h.1 h.2)

  one_way : (x y : Path) → HasPath b.seat (Protect addr len prot) (page_of addr) (end_page addr len) e a.seat x
      → HasPath c.seat (Protect addr len prot) (page_of addr) (end_page addr len) f d.seat y → b.seat.pass.seen ≡ c.seat.pass.seen → x ≡ y
  one_way Free Free g h seen = refl
  one_way Free y g h seen = absurd (decided_not (plain_reply (Protect addr len prot)) g h.0)
  one_way x Free g h seen = absurd (decided_not (plain_reply (Protect addr len prot)) h g.0)
  one_way (OverArea m) (OverArea n) g h seen = ap OverArea (sym (lone_count p m alone g.2) ∙ (ap whole_count seen ∙ lone_count q n lone h.2))
  one_way (OverArea m) (Whole y) g h seen = absurd (lone_cause q y lone h.2 (subst (λ A. IsSimple A (Protect addr len prot)) state (held_simple p g.0 g.1)))
  one_way (Whole x) (OverArea n) g h seen = absurd
      (lone_cause p x alone g.2 (subst (λ A. IsSimple A (Protect addr len prot)) (sym state) (held_simple q h.0 h.1)))
  one_way (Whole x) (Whole y) g h seen = ap Whole (one_cause x y g.2 h.2)

-- two such calls with the same arguments, after the same entries from one start, went the same way
pub lone_path : LonePathIsOne
lone_path b a c d line other addr len prot e f path way p q alone lone start seen =
    let n = p.called.numbered in let m = q.called.numbered in
    let history : n.history ≡ m.history = lone_history p alone ∙ (seen ∙ sym (lone_history q lone)) in
    let mine : StateAfter b.seat.pass.start n.history n.state = (all_legal b.seat.pass.start n.state n.history n.runs).1 in
    let its : StateAfter b.seat.pass.start n.history m.state =
    subst (λ (z : List Area × List Entry). StateAfter z.0 z.1 m.state) (λ i. (sym start i, sym history i))
    (all_legal c.seat.pass.start m.state m.history m.runs).1 in
    let state : n.state ≡ m.state = one_state b.seat.pass.start n.history n.state m.state mine its in
    one_way p q alone lone state (alone ∙ (ap length seen ∙ sym lone)) path way p.way q.way seen
