-- Bars refuse with one reason, and where they don't they are clear; pages start at one place, or no place applies; and
-- a call does one thing.
use Rattle.std.proofs.Common.{◌≡◌, ℕ, ◌+◌, ◌*◌, ◌<◌, inl, inr, List, [], ◌∷◌, Option, Some, None, sym, ◌∙◌, ap, subst, arith}
use Rattle.std.proofs.lemmas.Bool.{true≢false}
use Rattle.page_types.specs.declared.TheConstants.{LIMIT}
use Rattle.page_types.specs.declared.calls.Kind.{Kind}
use Rattle.page_types.specs.declared.calls.Call.{Call}
use Rattle.page_types.specs.declared.calls.Call.TheVariants.{Map, Unmap, Protect, Fault, Seal, Brk, Remap}
use Rattle.page_types.specs.declared.calls.Reply.{Reply}
use Rattle.page_types.specs.declared.calls.Reply.TheVariants.{At}
use Rattle.page_types.specs.declared.calls.Why.{Why}
use Rattle.page_types.specs.Pages.{page_of, page_count, end_page}
use Rattle.space_model.specs.declared.paint.Paint.TheVariants.{Gives}
use Rattle.space_model.specs.declared.sorts.Sort.{Sort}
use Rattle.space_model.specs.declared.sorts.Sort.TheVariants.{Unlike}
use Rattle.space_model.specs.Effect.{mapped_kind, heap_kind, patch}
use Rattle.space_model.specs.Sorts.{IsLowest, IsEnd, Bar, why_of, IsBarred, IsClear}
use Rattle.space_model.specs.Sorts.Bar.{bar}
use Rattle.space_model.specs.Places.{Place, StartsBy, NoStart, StartsAt, HasNoPlace, map_places, remap_places}
use Rattle.space_model.specs.Places.Place.{fixed, free_at, longer, highest_in}
use Rattle.space_model.specs.Answers.{bars, FindsNoPlace, RefusesByState, Effect, AnswersFault, Breaks, Remaps, in_order, Does, IsEffect}
use Rattle.space_model.specs.Answers.Effect.{keeps, changes}
use Rattle.space_model.specs.Answers.Breaks.{below_base, shrinks, grows, no_room}
use Rattle.space_model.specs.Answers.Remaps.{shorter, stays, moves}
use Rattle.space_model.proofs.AreaKinds.{neither_less}

module _ (kinds : ℕ → Option Kind) where
  lowest_one : (sort : Sort) (lo hi p q : ℕ) → IsLowest kinds sort lo hi p → IsLowest kinds sort lo hi q → p ≡ q
  lowest_one sort lo hi p q a b =
      neither_less p q (λ l. true≢false (sym a.such ∙ b.none_below p a.from l)) (λ l. true≢false (sym b.such ∙ a.none_below q b.from l))

  barred_one : (list : List Bar) (why because : Why) → IsBarred kinds list why → IsBarred kinds list because → why ≡ because
  barred_one [] why because r s = absurd r
  barred_one (bar sort lo hi ∷ rest) why because (inl (p, l, e)) (inl (q, m, d)) =
      e ∙ ap (why_of sort) (lowest_one sort lo hi p q l m) ∙ sym d
  barred_one (bar sort lo hi ∷ rest) why because (inl (p, l, e)) (inr (n, s)) = absurd (true≢false (sym l.such ∙ n p l.from l.within))
  barred_one (bar sort lo hi ∷ rest) why because (inr (n, r)) (inl (q, m, d)) = absurd (true≢false (sym m.such ∙ n q m.from m.within))
  barred_one (bar sort lo hi ∷ rest) why because (inr (n, r)) (inr (o, s)) = barred_one rest why because r s

  clear_or_barred : (list : List Bar) (why : Why) → IsClear kinds list → IsBarred kinds list why → ⊥
  clear_or_barred [] why c r = r
  clear_or_barred (bar sort lo hi ∷ rest) why c (inl (p, l, e)) = true≢false (sym l.such ∙ c.0 p l.from l.within)
  clear_or_barred (bar sort lo hi ∷ rest) why c (inr (n, r)) = clear_or_barred rest why c.1 r

  start_by_one : (pages : ℕ) (place : Place) (p q : ℕ) → StartsBy kinds pages place p → StartsBy kinds pages place q → p ≡ q
  start_by_one pages (fixed at) p q a b = a ∙ sym b
  start_by_one pages (free_at window at) p q a b = a.1 ∙ sym b.1
  start_by_one pages (longer at end) p q a b = a.1 ∙ sym b.1
  start_by_one pages (highest_in window) p q a b = omega (arith, a.highest q b.fits, b.highest p a.fits)

  start_or_none : (pages : ℕ) (place : Place) (p : ℕ) → NoStart kinds pages place → StartsBy kinds pages place p → ⊥
  start_or_none pages (fixed at) p n s = n
  start_or_none pages (free_at window at) p n s = n s.0
  start_or_none pages (longer at end) p n s = n s.0
  start_or_none pages (highest_in window) p n s = n p s.fits

  -- pages start at one place
  pub starts_one : (pages : ℕ) (list : List Place) (p q : ℕ) → StartsAt kinds pages list p → StartsAt kinds pages list q → p ≡ q
  starts_one pages [] p q a b = absurd a
  starts_one pages (place ∷ rest) p q (inl a) (inl b) = start_by_one pages place p q a b
  starts_one pages (place ∷ rest) p q (inl a) (inr (n, b)) = absurd (start_or_none pages place p n a)
  starts_one pages (place ∷ rest) p q (inr (n, a)) (inl b) = absurd (start_or_none pages place q n b)
  starts_one pages (place ∷ rest) p q (inr (n, a)) (inr (m, b)) = starts_one pages rest p q a b

  place_or_none : (pages : ℕ) (list : List Place) (p : ℕ) → HasNoPlace kinds pages list → StartsAt kinds pages list p → ⊥
  place_or_none pages [] p n s = s
  place_or_none pages (place ∷ rest) p n (inl s) = start_or_none pages place p n.0 s
  place_or_none pages (place ∷ rest) p n (inr (m, s)) = place_or_none pages rest p n.1 s

  no_place_one : (c : Call) (why because : Why) → FindsNoPlace kinds c why → FindsNoPlace kinds c because → why ≡ because
  no_place_one (Map addr len prot flags) why because r s = r.1 ∙ sym s.1
  no_place_one (Unmap addr len) why because r s = absurd r
  no_place_one (Protect addr len prot) why because r s = absurd r
  no_place_one (Fault addr access) why because r s = absurd r
  no_place_one (Seal addr len flags) why because r s = absurd r
  no_place_one (Brk base addr) why because r s = absurd r
  no_place_one (Remap addr old new may hint) why because r s = r.2 ∙ sym s.2

  remap_or_none : (addr old new : ℕ) (places : List Place) (e : Effect) → old < new → HasNoPlace kinds new places →
      Remaps kinds addr old new places e → ⊥
  remap_or_none addr old new places e l n (shorter m d) = absurd (omega arith)
  remap_or_none addr old new places e l n (stays m s d) = place_or_none new places (page_of addr) n s
  remap_or_none addr old new places e l n (moves start m s o d) = place_or_none new places start n s

  no_place_or_done : (c : Call) (why : Why) (e : Effect) → FindsNoPlace kinds c why → Does kinds c e → ⊥
  no_place_or_done (Map addr len prot flags) why e r (p, s, d) = place_or_none (page_count len) (map_places flags (page_of addr)) p r.0 s
  no_place_or_done (Unmap addr len) why e r d = r
  no_place_or_done (Protect addr len prot) why e r d = r
  no_place_or_done (Fault addr access) why e r d = r
  no_place_or_done (Seal addr len flags) why e r d = r
  no_place_or_done (Brk base addr) why e r d = r
  no_place_or_done (Remap addr old new may hint) why e r d =
      remap_or_none addr (page_count old) (page_count new) (remap_places (page_of addr) (end_page addr old) may hint) e r.0 r.1 d

  -- a call is refused with one reason
  pub refusal_one : (c : Call) (why because : Why) → RefusesByState kinds c why → RefusesByState kinds c because → why ≡ because
  refusal_one c why because (inl r) (inl s) = barred_one (bars kinds c) why because r s
  refusal_one c why because (inl r) (inr s) = absurd (clear_or_barred (bars kinds c) why s.0 r)
  refusal_one c why because (inr r) (inl s) = absurd (clear_or_barred (bars kinds c) because r.0 s)
  refusal_one c why because (inr r) (inr s) = no_place_one c why because r.1 s.1

  -- a call that is refused does nothing
  pub refused_or_done : (c : Call) (why : Why) (e : Effect) → RefusesByState kinds c why → IsEffect kinds c e → ⊥
  refused_or_done c why e (inl r) d = clear_or_barred (bars kinds c) why d.0 r
  refused_or_done c why e (inr r) d = no_place_or_done c why e r.1 d.1

  -- a search ends at one page
  pub end_one : (sort : Sort) (lo hi p q : ℕ) → IsEnd kinds sort lo hi p → IsEnd kinds sort lo hi q → p ≡ q
  end_one sort lo hi p q a b =
      let u = a.within in let v = b.within in
      neither_less p q (λ l. true≢false (sym (a.such (omega arith)) ∙ b.none_below p a.from l))
      (λ l. true≢false (sym (b.such (omega arith)) ∙ a.none_below q b.from l))

  breaks_one : (base addr end : ℕ) (e f : Effect) → Breaks kinds base addr end e → Breaks kinds base addr end f → e ≡ f
  breaks_one base addr end e f (below_base l a) (below_base m b) = a ∙ sym b
  breaks_one base addr end e f (below_base l a) (shrinks m n b) = absurd (omega arith)
  breaks_one base addr end e f (below_base l a) (grows m n r b) = absurd (omega arith)
  breaks_one base addr end e f (below_base l a) (no_room m n r b) = absurd (omega arith)
  breaks_one base addr end e f (shrinks k l a) (below_base m b) = absurd (omega arith)
  breaks_one base addr end e f (shrinks k l a) (shrinks m n b) = a ∙ sym b
  breaks_one base addr end e f (shrinks k l a) (grows m n r b) = absurd (omega arith)
  breaks_one base addr end e f (shrinks k l a) (no_room m n r b) = absurd (omega arith)
  breaks_one base addr end e f (grows k l q a) (below_base m b) = absurd (omega arith)
  breaks_one base addr end e f (grows k l q a) (shrinks m n b) = absurd (omega arith)
  breaks_one base addr end e f (grows k l q a) (grows m n r b) = a ∙ sym b
  breaks_one base addr end e f (grows k l q a) (no_room m n r b) = absurd (r q)
  breaks_one base addr end e f (no_room k l q a) (below_base m b) = absurd (omega arith)
  breaks_one base addr end e f (no_room k l q a) (shrinks m n b) = absurd (omega arith)
  breaks_one base addr end e f (no_room k l q a) (grows m n r b) = absurd (q r)
  breaks_one base addr end e f (no_room k l q a) (no_room m n r b) = a ∙ sym b

  remaps_one : (addr old new : ℕ) (places : List Place) (e f : Effect) → Remaps kinds addr old new places e →
      Remaps kinds addr old new places f → e ≡ f
  remaps_one addr old new places e f (shorter l a) (shorter m b) = a ∙ sym b
  remaps_one addr old new places e f (shorter l a) (stays m s b) = absurd (omega arith)
  remaps_one addr old new places e f (shorter l a) (moves t m s n b) = absurd (omega arith)
  remaps_one addr old new places e f (stays l r a) (shorter m b) = absurd (omega arith)
  remaps_one addr old new places e f (stays l r a) (stays m s b) = a ∙ sym b
  remaps_one addr old new places e f (stays l r a) (moves t m s n b) = absurd (n (starts_one new places t (page_of addr) s r))
  remaps_one addr old new places e f (moves t l r n a) (shorter m b) = absurd (omega arith)
  remaps_one addr old new places e f (moves t l r n a) (stays m s b) = absurd (n (starts_one new places t (page_of addr) r s))
  remaps_one addr old new places e f (moves t l r n a) (moves u m s o b) =
      a ∙
      (ap
      (λ x.
      changes
      (in_order (patch (page_of addr) (page_of addr + old) (Gives None)) (patch x (x + new) (Gives (kinds (page_of addr)))))
      (At (x * 4096)) None) (starts_one new places t u r s) ∙ sym b)

  does_one : (c : Call) (e f : Effect) → Does kinds c e → Does kinds c f → e ≡ f
  does_one (Map addr len prot flags) e f (s, p, a) (t, q, b) =
      a ∙ ap (λ x. changes (patch x (x + page_count len) (Gives (Some (mapped_kind prot flags))) ∷ []) (At (x * 4096)) None)
      (starts_one (page_count len) (map_places flags (page_of addr)) s t p q) ∙ sym b
  does_one (Unmap addr len) e f a b = a ∙ sym b
  does_one (Protect addr len prot) e f a b = a ∙ sym b
  does_one (Seal addr len flags) e f a b = a ∙ sym b
  does_one (Brk base addr) e f (s, p, a) (t, q, b) =
      breaks_one base addr t e f
      (subst (λ (x : ℕ). Breaks kinds base addr x e) (end_one (Unlike (Some heap_kind)) (page_of base) LIMIT s t p q) a) b
  does_one (Remap addr old new may hint) e f a b =
      remaps_one addr (page_count old) (page_count new) (remap_places (page_of addr) (end_page addr old) may hint) e f a b
  does_one (Fault addr access) e f (r, p, a) (s, q, b) =
      a ∙ ap (λ x. keeps x) (fault_one (kinds (page_of addr)) r s p q) ∙ sym b
    where
      fault_one : (o : Option Kind) (r s : Reply) → AnswersFault o (page_of addr) access r → AnswersFault o (page_of addr) access s → r ≡ s
      fault_one None r s a b = a ∙ sym b
      fault_one (Some k) r s (inl a) (inl b) = a.1 ∙ sym b.1
      fault_one (Some k) r s (inl a) (inr b) = absurd (b.0 a.0)
      fault_one (Some k) r s (inr a) (inl b) = absurd (a.0 b.0)
      fault_one (Some k) r s (inr a) (inr b) = a.1 ∙ sym b.1

  -- a call does one thing
  pub effect_one : (c : Call) (e f : Effect) → IsEffect kinds c e → IsEffect kinds c f → e ≡ f
  effect_one c e f a b = does_one c e f a.1 b.1
