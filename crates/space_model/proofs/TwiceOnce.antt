-- A change that was done is done again, and changes nothing then; and a call makes few rows more.
use Rattle.std.proofs.Common.{◌≡◌, ℕ, ◌+◌, ◌*◌, ◌≤◌, is_none, Bool, true, false, nat_lt, if◌then◌else◌, List, [], ◌∷◌, length, Option, Some, None, sym, ◌∙◌, ap}
use Rattle.std.proofs.Common.{subst, refl, arith}
use Rattle.std.proofs.lemmas.Bool.Decides.{nat_tests}
use Rattle.std.specs.Option.{option_map}
use Rattle.page_types.specs.declared.TheConstants.{SPARE}
use Rattle.page_types.specs.declared.sets.Prot.{Prot}
use Rattle.page_types.specs.declared.calls.Kind.{Kind}
use Rattle.page_types.specs.declared.calls.Call.{Call}
use Rattle.page_types.specs.declared.calls.Call.TheVariants.{Map, Unmap, Protect, Fault, Seal, Brk, Remap}
use Rattle.page_types.specs.declared.calls.Reply.{Reply}
use Rattle.page_types.specs.declared.calls.Reply.TheVariants.{Zero}
use Rattle.page_types.specs.Pages.{page_of, page_count, end_page}
use Rattle.page_types.specs.PlainReply.{plain_reply}
use Rattle.space_model.specs.declared.areas.Area.{Area}
use Rattle.space_model.specs.declared.paint.Paint.{Paint}
use Rattle.space_model.specs.declared.paint.Paint.TheVariants.{Gives, Protects, Seals}
use Rattle.space_model.specs.declared.paint.Patch.{Patch}
use Rattle.space_model.specs.Areas.{IsAreaList, HasKinds, kind_at, row_count}
use Rattle.space_model.specs.Effect.{painted, patch, with_patch, patched, protected_kind, sealed_kind, AreRising}
use Rattle.space_model.specs.declared.sorts.Sort.{Sort}
use Rattle.space_model.specs.declared.sorts.Sort.TheVariants.{Missing, Sealed}
use Rattle.space_model.specs.Sorts.{is_sort, NoneOf, IsClear}
use Rattle.space_model.specs.Answers.{bars, Effect, Does, IsEffect, Answers}
use Rattle.space_model.specs.Answers.Effect.{keeps, changes}
use Rattle.space_model.specs.Answers.Breaks.{below_base, shrinks, grows, no_room}
use Rattle.space_model.specs.Answers.Remaps.{shorter, stays, moves}
use Rattle.space_model.specs.Answers.Answers.{by_arguments, refused, kept, done, too_many_rows}
use Rattle.space_model.specs.Building.{changed_list}
use Rattle.space_model.specs.Laws.{rows_added}
use Rattle.space_model.proofs.AreaKinds.{only_one}
use Rattle.space_model.proofs.Changing.{patch-inside, patched-same, rising_end, changed_list-kinds}
use Rattle.space_model.proofs.Counting.{row_count-after}
use Rattle.space_model.proofs.Deciding.{refused_or_done}
use Rattle.space_model.proofs.Effects.{patches_in, counted}
use Rattle.space_model.proofs.Remapping.{move_rises}

-- painting a kind twice is painting it once
painted_twice : (paint : Paint) (o : Option Kind) → painted paint (painted paint o) ≡ painted paint o
painted_twice (Gives new) o = refl
painted_twice (Protects prot) None = refl
painted_twice (Protects prot) (Some k) = refl
painted_twice Seals None = refl
painted_twice Seals (Some k) = refl

module _ (A B : List Area) (change : Patch) (k : HasKinds (with_patch change (kind_at A)) B) where
  again_at : (p : ℕ) → with_patch change (kind_at B) p ≡ kind_at B p
  again_at p = grind (arith, nat_tests, k.kinds_are p, painted_twice change.paint (kind_at A p))

  again : (C : List Area) → HasKinds (with_patch change (kind_at B)) C → C ≡ B
  again C m = only_one C B m.areas k.areas (λ p. m.kinds_are p ∙ again_at p)

-- a call that does one change and no other, with Zero for its reply, and that is still clear after it
record DoesOne (c : Call) (change : Patch) : Type 0 where
  does : (kinds : ℕ → Option Kind) (e : Effect) → Does kinds c e → e ≡ changes (change ∷ []) Zero None
  made : (kinds : ℕ → Option Kind) → Does kinds c (changes (change ∷ []) Zero None)
  still :
      (A B : List Area) → IsClear (kind_at A) (bars (kind_at A) c) → HasKinds (with_patch change (kind_at A)) B →
      IsClear (kind_at B) (bars (kind_at B) c)

module _ (c : Call) (change : Patch) (one : DoesOne c change) (A : List Area) (s : Reply) (B C : List Area) where
  first_kinds : (ps : List Patch) (r : Reply) (f : Option Reply) → Does (kind_at A) c (changes ps r f) →
      HasKinds (patched ps (kind_at A)) B → HasKinds (with_patch change (kind_at A)) B
  first_kinds ps r f d k = subst (λ e. HasKinds (patched (patches_in e) (kind_at A)) B) (one.does (kind_at A) (changes ps r f) d) k

  second_list : (D : List Area) (ps : List Patch) (r : Reply) (f : Option Reply) → Does (kind_at B) c (changes ps r f) →
      HasKinds (with_patch change (kind_at A)) B → HasKinds (patched ps (kind_at B)) D → D ≡ B
  second_list D ps r f d k m =
      again A B change k D (subst (λ e. HasKinds (patched (patches_in e) (kind_at B)) D) (one.does (kind_at B) (changes ps r f) d) m)

  twice : Answers A c Zero B → Answers B c s C → (s ≡ Zero) × (C ≡ B)
  twice (by_arguments e b) (by_arguments d b') = (let both : Some Zero ≡ Some s = sym e ∙ d in cc, b')
  twice (by_arguments e b) (refused why v f d b') = cc
  twice (by_arguments e b) (kept v g b') = cc
  twice (by_arguments e b) (done qs g v q m o) = cc
  twice (by_arguments e b) (too_many_rows qs t g D v q m o d b') = cc
  twice (refused why u f e b) second = cc
  twice (kept u g b) second = let e = one.does (kind_at A) (keeps Zero) g.1 in cc
  twice (done ps f u p k n) (by_arguments d b') = cc
  twice (done ps f u p k n) (refused why v g d b') =
      absurd (refused_or_done (kind_at B) c why _ g (one.still A B p.0 (first_kinds ps Zero f p.1 k), one.made (kind_at B)))
  twice (done ps f u p k n) (kept v g b') = let e = one.does (kind_at B) (keeps s) g.1 in cc
  twice (done ps f u p k n) (done qs g v q m o) =
      let e = one.does (kind_at B) (changes qs s g) q.1 in (cc, second_list C qs s g q.1 (first_kinds ps Zero f p.1 k) m)
  twice (done ps f u p k n) (too_many_rows qs t g D v q m o d b') =
      let rows : row_count D ≡ row_count B = ap row_count (second_list D qs t g q.1 (first_kinds ps Zero f p.1 k) m) in
      absurd (omega arith)
  twice (too_many_rows ps t f D u p k n e b) second =
      let d = one.does (kind_at A) (changes ps t f) p.1 in
      let says = counted Zero f (row_count D) cc e in cc

-- pages of which none is of a sort have none after a change whose paint makes none of it
none_still : (sort : Sort) (change : Patch) (A : List Area) {B : List Area} →
    ((o : Option Kind) → is_sort sort o ≡ false → is_sort sort (painted change.paint o) ≡ false) →
    NoneOf (kind_at A) sort change.lo change.hi → HasKinds (with_patch change (kind_at A)) B → NoneOf (kind_at B) sort change.lo change.hi
none_still sort change A none_new none k page low high =
    ap (is_sort sort) (k.kinds_are page ∙ patch-inside change (kind_at A) page low high) ∙ none_new (kind_at A page) (none page low high)

-- an Unmap that was done is done again, and changes nothing then
pub unmap_twice : (A : List Area) (addr len : ℕ) (s : Reply) (B C : List Area) →
    Answers A (Unmap addr len) Zero B → Answers B (Unmap addr len) s C → (s ≡ Zero) × (C ≡ B)
unmap_twice A addr len s B C =
    let change = patch (page_of addr) (end_page addr len) (Gives None) in
    twice (Unmap addr len) change (record {
      does = λ kinds e d. d;
      made = λ kinds. refl;
      still = λ A B clear k. (none_still Sealed change A (λ o e. refl) clear.0 k, tt);
    }) A s B C

-- mapped pages stay mapped under a Protect and a Seal
still_mapped : (of : Kind → Kind) (o : Option Kind) → is_none o ≡ false → is_none (option_map of o) ≡ false
still_mapped of None e = e
still_mapped of (Some k) e = refl

-- and a page that isn't sealed isn't under a Protect
still_open : (prot : Prot) (o : Option Kind) → is_sort Sealed o ≡ false → is_sort Sealed (option_map (protected_kind prot) o) ≡ false
still_open prot None e = refl
still_open prot (Some k) e = e

-- so is a Protect
pub protect_twice : (A : List Area) (addr len : ℕ) (prot : Prot) (s : Reply) (B C : List Area) →
    Answers A (Protect addr len prot) Zero B → Answers B (Protect addr len prot) s C → (s ≡ Zero) × (C ≡ B)
protect_twice A addr len prot s B C =
    let change = patch (page_of addr) (end_page addr len) (Protects prot) in
    twice (Protect addr len prot) change (record {
      does = λ kinds e d. d;
      made = λ kinds. refl;
      still = λ A B clear k. (
        none_still Missing change A (still_mapped (protected_kind prot)) clear.0 k,
        (none_still Sealed change A (still_open prot) clear.1.0 k, tt),
      );
    }) A s B C

-- and a Seal
pub seal_twice : (A : List Area) (addr len flags : ℕ) (s : Reply) (B C : List Area) →
    Answers A (Seal addr len flags) Zero B → Answers B (Seal addr len flags) s C → (s ≡ Zero) × (C ≡ B)
seal_twice A addr len flags s B C =
    let change = patch (page_of addr) (end_page addr len) Seals in
    twice (Seal addr len flags) change (record {
      does = λ kinds e d. d;
      made = λ kinds. refl;
      still = λ A B clear k. (none_still Missing change A (still_mapped sealed_kind) clear.0 k, tt);
    }) A s B C

-- patches make at most two rows more each
pub row_count-patched : (A B : List Area) (from : ℕ) (patches : List Patch) → IsAreaList A → AreRising from patches →
    HasKinds (patched patches (kind_at A)) B → row_count B ≤ row_count A + 2 * length patches
row_count-patched A B from [] w r k =
    let same : A ≡ B = only_one A B w k.areas (λ p. sym (k.kinds_are p)) in omega (arith, ap row_count same)
row_count-patched A B from (q ∷ rest) w r k =
    let end = rising_end q.hi rest r.2 in
    let own : AreRising 0 (q ∷ []) = (omega arith, r.1, omega (arith, end.0, end.1)) in
    let C = changed_list A (q ∷ []) in
    let one : HasKinds (with_patch q (kind_at A)) C = changed_list-kinds A (q ∷ []) w own in
    let more : HasKinds (patched rest (kind_at C)) B =
    record {
      areas = k.areas;
      kinds_are = λ p. k.kinds_are p ∙ patched-same rest (with_patch q (kind_at A)) (kind_at C) p (sym (one.kinds_are p));
    } in
    omega (arith, row_count-after A C q w one, row_count-patched C B q.hi rest one.areas r.2 more)

-- so one patch makes at most two
one_patch : (A B : List Area) {ps : List Patch} {r s : Reply} {f g : Option Reply} {q : Patch} → IsAreaList A →
    changes ps r f ≡ changes (q ∷ []) s g → HasKinds (patched ps (kind_at A)) B → row_count B ≤ row_count A + 2
one_patch A B {q = q} w d k = row_count-after A B q w (subst (λ e. HasKinds (patched (patches_in e) (kind_at A)) B) d k)

two_of : (b : Bool) (p q : Patch) → length (if b then p ∷ q ∷ [] else q ∷ p ∷ []) ≡ 2
two_of true p q = refl
two_of false p q = refl

-- what a call changes makes at most so many rows more
pub row_count-does : (A B : List Area) (c : Call) (ps : List Patch) (r : Reply) (f : Option Reply) → IsAreaList A → plain_reply c ≡ None →
    IsEffect (kind_at A) c (changes ps r f) → HasKinds (patched ps (kind_at A)) B → row_count B ≤ row_count A + rows_added c
row_count-does A B (Map addr len prot flags) ps r f w u (clear, (start, s, d)) k = one_patch A B w d k
row_count-does A B (Unmap addr len) ps r f w u (clear, d) k = one_patch A B w d k
row_count-does A B (Protect addr len prot) ps r f w u (clear, d) k = one_patch A B w d k
row_count-does A B (Fault addr access) ps r f w u (clear, (s, h, d)) k = cc
row_count-does A B (Seal addr len flags) ps r f w u (clear, d) k = one_patch A B w d k
row_count-does A B (Brk base addr) ps r f w u (clear, (end, is, below_base l d)) k = cc
row_count-does A B (Brk base addr) ps r f w u (clear, (end, is, shrinks m l d)) k = one_patch A B w d k
row_count-does A B (Brk base addr) ps r f w u (clear, (end, is, grows m l h d)) k = one_patch A B w d k
row_count-does A B (Brk base addr) ps r f w u (clear, (end, is, no_room m l h d)) k = cc
row_count-does A B (Remap addr old new may hint) ps r f w u (clear, shorter l d) k = omega (arith, one_patch A B w d k)
row_count-does A B (Remap addr old new may hint) ps r f w u (clear, stays l s d) k = omega (arith, one_patch A B w d k)
row_count-does A B (Remap addr old new may hint) ps r f w u (clear, moves start l s n d) k =
    let rising = move_rises (kind_at A) addr old new may hint start u clear.0 s n in
    let two = two_of (nat_lt (page_of addr) start) (patch (page_of addr) (end_page addr old) (Gives None))
    (patch start (start + page_count new) (Gives (kind_at A (page_of addr)))) in
    omega (arith, two, row_count-patched A B 0 _ w rising (subst (λ e. HasKinds (patched (patches_in e) (kind_at A)) B) d k))

-- one call makes at most so many rows more
pub few_rows : (A : List Area) (c : Call) (r : Reply) (B : List Area) → IsAreaList A → Answers A c r B →
    row_count B ≤ row_count A + rows_added c
few_rows A c r B w (by_arguments e b) = omega (arith, ap row_count b)
few_rows A c r B w (refused why u f e b) = omega (arith, ap row_count b)
few_rows A c r B w (kept u g b) = omega (arith, ap row_count b)
few_rows A c r B w (done ps f u p k n) = row_count-does A B c ps r f w u p k
few_rows A c r B w (too_many_rows ps t f D u p k n e b) = omega (arith, ap row_count b)

rows_spare : (c : Call) → rows_added c ≤ SPARE
rows_spare (Map addr len prot flags) = omega arith
rows_spare (Unmap addr len) = omega arith
rows_spare (Protect addr len prot) = omega arith
rows_spare (Fault addr access) = omega arith
rows_spare (Seal addr len flags) = omega arith
rows_spare (Brk base addr) = omega arith
rows_spare (Remap addr old new may hint) = omega arith

-- so at most SPARE, whichever call it is
pub spare_rows : (A : List Area) (c : Call) (r : Reply) (B : List Area) → IsAreaList A → Answers A c r B → row_count B ≤ row_count A + SPARE
spare_rows A c r B w answer = omega (arith, few_rows A c r B w answer, rows_spare c)
