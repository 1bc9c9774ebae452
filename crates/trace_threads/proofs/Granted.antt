-- A fault that is granted is at a page below the limit, so its page may be touched.
use Rattle.std.proofs.Common.{◌≡◌, ℕ, zero, suc, ◌<◌, List, [], ◌∷◌, refl, sym, ap, ◌∙◌, cond, ⊎_elim, arith}
use Rattle.std.proofs.lemmas.Bool.Decides.{leb_tells}
use Rattle.std.specs.Prelude.{All, Some, None}
use Rattle.page_types.specs.declared.TheConstants.{LIMIT}
use Rattle.page_types.specs.declared.calls.Call.{Call}
use Rattle.page_types.specs.declared.calls.Call.TheVariants.{Fault}
use Rattle.page_types.specs.declared.calls.Reply.{Reply}
use Rattle.page_types.specs.declared.calls.Reply.TheVariants.{At, Zero, Granted, Refused}
use Rattle.page_types.specs.declared.calls.Kind.{Kind}
use Rattle.page_types.specs.declared.calls.Why.TheVariants.{MapErr}
use Rattle.page_types.specs.declared.sets.Access.{Access}
use Rattle.page_types.specs.Pages.{page_of}
use Rattle.page_types.specs.PlainReply.{plain_reply, fault_reply}
use Rattle.space_model.specs.declared.areas.Area.{Area}
use Rattle.space_model.specs.declared.entries.Entry.{Entry}
use Rattle.space_model.specs.Answers.{Answers}
use Rattle.space_model.specs.Answers.Answers.{by_arguments, refused, kept, done, too_many_rows}
use Rattle.trace_threads.specs.Touching.{granted_page, page_by}

-- a fault that its arguments refuse is one that they decide
decided : {c : Call} (addr : ℕ) (access : Access) → c ≡ Fault addr access → fault_reply addr ≡ Some (Refused (MapErr (page_of addr))) → plain_reply c ≡ None → ⊥
decided addr access is_c high plain =
    let p : fault_reply addr ≡ None = ap plain_reply (sym is_c) ∙ plain in let q : Some (Refused (MapErr (page_of addr))) ≡ None = sym high ∙ p in cc

-- a fault at or above the limit is refused by its arguments, so it is never granted
not_granted : (A B : List Area) {c : Call} {r : Reply} (addr : ℕ) (access : Access) (kind : Kind) → c ≡ Fault addr access → r ≡ Granted kind
    → fault_reply addr ≡ Some (Refused (MapErr (page_of addr))) → Answers A c r B → ⊥
not_granted A B {r} addr access kind is_c is_r high (by_arguments plain same) =
    let p : fault_reply addr ≡ Some r = ap plain_reply (sym is_c) ∙ plain in
    let q : Some (Refused (MapErr (page_of addr))) ≡ Some (Granted kind) = sym high ∙ (p ∙ ap (λ x. Some x) is_r) in cc
not_granted A B addr access kind is_c is_r high (refused why plain by reply same) = decided addr access is_c high plain
not_granted A B addr access kind is_c is_r high (kept plain keeps same) = decided addr access is_c high plain
not_granted A B addr access kind is_c is_r high (done patches full plain does kinds few) = decided addr access is_c high plain
not_granted A B addr access kind is_c is_r high (too_many_rows patches said full C plain does kinds many reply same) = decided addr access is_c high plain

-- the page of a granted fault is below the limit
below_limit : (A B : List Area) (addr : ℕ) (access : Access) (kind : Kind) → Answers A (Fault addr access) (Granted kind) B → page_of addr < LIMIT
below_limit A B addr access kind is = ⊎_elim
    (λ t. absurd (not_granted A B addr access kind refl refl (ap (λ b. cond b (Some (Refused (MapErr (page_of addr)))) None) t.0) is)) (λ t. t.1)
    (leb_tells LIMIT (page_of addr))

all_one : (P : ℕ → Type 0) (x : ℕ) → P x → All P (x ∷ [])
all_one P x p zero d lt = p
all_one P x p (suc i) d lt = absurd (omega arith)
