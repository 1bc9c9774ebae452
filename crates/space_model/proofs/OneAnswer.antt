-- A call has one answer on an area list.
use Rattle.std.proofs.Common.{◌≡◌, List, Option, Some, sym, ◌∙◌, ap, arith}
use Rattle.page_types.specs.declared.calls.Call.{Call}
use Rattle.page_types.specs.declared.calls.Reply.{Reply}
use Rattle.page_types.specs.declared.calls.Reply.TheVariants.{Refused}
use Rattle.space_model.specs.declared.areas.Area.{Area}
use Rattle.space_model.specs.declared.paint.Patch.{Patch}
use Rattle.space_model.specs.Areas.{HasKinds, kind_at, row_count}
use Rattle.space_model.specs.Effect.{patched}
use Rattle.space_model.specs.Answers.{full_reply, IsEffect, Answers}
use Rattle.space_model.specs.Answers.Effect.{keeps, changes}
use Rattle.space_model.specs.Answers.Answers.{by_arguments, refused, kept, done, too_many_rows}
use Rattle.space_model.proofs.AreaKinds.{only_one}
use Rattle.space_model.proofs.Deciding.{refusal_one, refused_or_done, effect_one}

module _ (A : List Area) (c : Call) where
  -- two changes that the call does are one, and leave one list
  record Same (ps qs : List Patch) (r s : Reply) (f g : Option Reply) (B C : List Area) : Type 0 where
    reply : r ≡ s
    full : f ≡ g
    list : B ≡ C

  changed_one : (ps qs : List Patch) (r s : Reply) (f g : Option Reply) (B C : List Area) →
      IsEffect (kind_at A) c (changes ps r f) → IsEffect (kind_at A) c (changes qs s g) →
      HasKinds (patched ps (kind_at A)) B → HasKinds (patched qs (kind_at A)) C → Same ps qs r s f g B C
  changed_one ps qs r s f g B C a b k m =
      let e = effect_one (kind_at A) c (changes ps r f) (changes qs s g) a b in
      let same : ps ≡ qs = cc in
      record {
        reply = cc;
        full = cc;
        list = only_one B C k.areas m.areas (λ x. k.kinds_are x ∙ ap (λ l. patched l (kind_at A) x) same ∙ sym (m.kinds_are x));
      }

  kept_or_changed : (r s : Reply) (ps : List Patch) (f : Option Reply) → IsEffect (kind_at A) c (keeps r) →
      IsEffect (kind_at A) c (changes ps s f) → ⊥
  kept_or_changed r s ps f a b = let e = effect_one (kind_at A) c (keeps r) (changes ps s f) a b in cc

  -- two answers to a call have the same reply, and leave the same list
  pub one_answer : (r s : Reply) (B C : List Area) → Answers A c r B → Answers A c s C → (r ≡ s) × (B ≡ C)
  one_answer r s B C (by_arguments e b) (by_arguments d b') = (let both : Some r ≡ Some s = sym e ∙ d in cc, b ∙ sym b')
  one_answer r s B C (by_arguments e b) (refused why u f d b') = cc
  one_answer r s B C (by_arguments e b) (kept u g b') = cc
  one_answer r s B C (by_arguments e b) (done ps f u p k n) = cc
  one_answer r s B C (by_arguments e b) (too_many_rows ps t f D u p k n d b') = cc
  one_answer r s B C (refused why u f e b) (by_arguments d b') = cc
  one_answer r s B C (refused why u f e b) (refused because v g d b') =
      (e ∙ ap (λ x. Refused x) (refusal_one (kind_at A) c why because f g) ∙ sym d, b ∙ sym b')
  one_answer r s B C (refused why u f e b) (kept v g b') = absurd (refused_or_done (kind_at A) c why (keeps s) f g)
  one_answer r s B C (refused why u f e b) (done ps g v p k n) = absurd (refused_or_done (kind_at A) c why (changes ps s g) f p)
  one_answer r s B C (refused why u f e b) (too_many_rows ps t g D v p k n d b') = absurd (refused_or_done (kind_at A) c why (changes ps t g) f p)
  one_answer r s B C (kept u g b) (by_arguments d b') = cc
  one_answer r s B C (kept u g b) (refused why v f d b') = absurd (refused_or_done (kind_at A) c why (keeps r) f g)
  one_answer r s B C (kept u g b) (kept v h b') =
      (let e = effect_one (kind_at A) c (keeps r) (keeps s) g h in cc, b ∙ sym b')
  one_answer r s B C (kept u g b) (done ps f v p k n) = absurd (kept_or_changed r s ps f g p)
  one_answer r s B C (kept u g b) (too_many_rows ps t f D v p k n d b') = absurd (kept_or_changed r t ps f g p)
  one_answer r s B C (done ps f u p k n) (by_arguments d b') = cc
  one_answer r s B C (done ps f u p k n) (refused why v g d b') = absurd (refused_or_done (kind_at A) c why (changes ps r f) g p)
  one_answer r s B C (done ps f u p k n) (kept v g b') = absurd (kept_or_changed s r ps f g p)
  one_answer r s B C (done ps f u p k n) (done qs g v q m o) =
      let same = changed_one ps qs r s f g B C p q k m in (same.reply, same.list)
  one_answer r s B C (done ps f u p k n) (too_many_rows qs t g D v q m o d b') =
      let same = changed_one ps qs r t f g B D p q k m in
      let rows : row_count B ≡ row_count D = ap row_count same.list in absurd (omega arith)
  one_answer r s B C (too_many_rows ps t f D u p k n e b) (by_arguments d b') = cc
  one_answer r s B C (too_many_rows ps t f D u p k n e b) (refused why v g d b') = absurd (refused_or_done (kind_at A) c why (changes ps t f) g p)
  one_answer r s B C (too_many_rows ps t f D u p k n e b) (kept v g b') = absurd (kept_or_changed s t ps f g p)
  one_answer r s B C (too_many_rows ps t f D u p k n e b) (done qs g v q m o) =
      let same = changed_one ps qs t s f g D C p q k m in
      let rows : row_count D ≡ row_count C = ap row_count same.list in absurd (omega arith)
  one_answer r s B C (too_many_rows ps t f D u p k n e b) (too_many_rows qs w g E v q m o d b') =
      let same = changed_one ps qs t w f g D E p q k m in
      (e ∙ (λ i. full_reply (same.full i) (row_count (same.list i))) ∙ sym d, b ∙ sym b')
