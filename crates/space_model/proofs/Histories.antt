-- Chains of steps: a step more, a chain in two parts, weaker steps, and steps that lead to one list each. The laws of
-- histories follow.
use mathlib.Core.Option.{some, some-injective, some-ne-none}
use lib.ListN.{get_elem?}
use Rattle.std.proofs.Common.{◌≡◌, ℕ, zero, suc, ◌+◌, List, [], ◌∷◌, ◌++◌, length, map, sym, ap, ◌∙◌, subst, refl, arith}
use Rattle.space_model.specs.declared.areas.Area.{Area}
use Rattle.space_model.specs.declared.entries.Entry.{Entry}
use Rattle.space_model.specs.Areas.{IsAreaList}
use Rattle.space_model.specs.Answers.{Answers}
use Rattle.space_model.specs.Laws.{LeavesAreaListAfter, SameCallsSameReplies}
use Rattle.space_model.specs.Held.{FitsUnder}
use Rattle.space_model.specs.History.{Chains, CallLeaves, HasRightReply, StateAfter, IsNumberedFrom, IsLegal, FitsAndReplies, Runs}
use Rattle.space_model.proofs.OneAnswer.{one_answer}
use Rattle.space_model.proofs.SomeAnswer.{some_answer, leaves_areas}

module _ (Step : List Area → Entry → List Area → Type 0) where
  -- two chains are one
  pub chains_join : (A : List Area) (xs ys : List Entry) (B C : List Area) → Chains Step A xs B → Chains Step B ys C → Chains Step A (xs ++ ys) C
  chains_join A [] ys B C s t = subst (λ X. Chains Step X ys C) s t
  chains_join A (x ∷ xs) ys B C (D, g, s) t = (D, g, chains_join D xs ys B C s t)

  -- one chain is two
  pub chains_split : (A : List Area) (xs ys : List Entry) (C : List Area) → Chains Step A (xs ++ ys) C
      → (B : List Area) × Chains Step A xs B × Chains Step B ys C
  chains_split A [] ys C s = (A, refl, s)
  chains_split A (x ∷ xs) ys C (D, g, s) = let (B, t, u) = chains_split D xs ys C s in (B, (D, g, t), u)

  -- a step more
  pub chains_more : (A : List Area) (xs : List Entry) (B : List Area) (e : Entry) (C : List Area) → Chains Step A xs B
      → Step B e C → Chains Step A (xs ++ e ∷ []) C
  chains_more A xs B e C s h = chains_join A xs (e ∷ []) B C s (C, h, refl)

-- each step is one of a weaker kind
pub chains_weaker : (Step Weaker : List Area → Entry → List Area → Type 0) (weaker : (A : List Area) (e : Entry) (B : List Area) → Step A e B → Weaker A e B)
    (A : List Area) (xs : List Entry) (B : List Area) → Chains Step A xs B → Chains Weaker A xs B
chains_weaker Step Weaker weaker A [] B s = s
chains_weaker Step Weaker weaker A (x ∷ xs) B (D, g, s) = (D, weaker A x D g, chains_weaker Step Weaker weaker D xs B s)

-- entries numbered from n on are so with one more that has the next number
pub numbered_more : (n : ℕ) (xs : List Entry) (e : Entry) → IsNumberedFrom n xs → e.number ≡ n + length xs → IsNumberedFrom n (xs ++ e ∷ [])
numbered_more n [] e l i = (omega arith, tt)
numbered_more n (x ∷ xs) e (j, l) i = (j, numbered_more (n + 1) xs e l (omega arith))

-- one entry more
pub runs_more : (history : List Entry) (n : ℕ) (A B C : List Area) (e : Entry) → Runs n A history B
    → e.number ≡ n + length history → FitsUnder B e.call e.under → Answers B e.call e.reply C → Runs n A (history ++ e ∷ []) C
runs_more history n A B C e r num fits answers = (numbered_more n history e r.0 num, chains_more FitsAndReplies A history B e C r.1 (fits, answers))

-- the entry at each place has the place's number
pub numbered_at : (n : ℕ) (xs : List Entry) (i : ℕ) (e : Entry) → IsNumberedFrom n xs → get_elem? xs i ≡ some e → e.number ≡ n + i
numbered_at n [] i e l at = absurd (some-ne-none e (sym at))
numbered_at n (x ∷ xs) zero e l at =
    let first : x.number ≡ e.number = ap (λ (y : Entry). y.number) (some-injective x e at) in omega (arith, l.0)
numbered_at n (x ∷ xs) (suc i) e l at = let later = numbered_at (n + 1) xs i e l.1 at in omega arith

numbered_last : (n : ℕ) (xs : List Entry) (e : Entry) → IsNumberedFrom n (xs ++ e ∷ []) → e.number ≡ n + length xs
numbered_last n [] e (j, l) = omega arith
numbered_last n (x ∷ xs) e (j, l) = let last = numbered_last (n + 1) xs e l in omega arith

numbered_front : (n : ℕ) (xs ys : List Entry) → IsNumberedFrom n (xs ++ ys) → IsNumberedFrom n xs
numbered_front n [] ys l = tt
numbered_front n (x ∷ xs) ys (j, l) = (j, numbered_front (n + 1) xs ys l)

-- the calls leave what right replies leave
pub replied_state : (A : List Area) (xs : List Entry) (B : List Area) → Chains HasRightReply A xs B → StateAfter A xs B
replied_state = chains_weaker HasRightReply CallLeaves (λ A e B h. (e.reply, h))

-- the laws
pub one_state : (A : List Area) (xs : List Entry) (B C : List Area) → StateAfter A xs B → StateAfter A xs C → B ≡ C
one_state A [] B C s t = s ∙ sym t
one_state A (x ∷ xs) B C (D, (q, g), s) (E, (r, h), t) =
    let same = (one_answer A x.call q r D E g h).1 in
    one_state E xs B C (subst (λ X. StateAfter X xs B) same s) t

-- a legal history leaves a list
pub legal_state : (A : List Area) (xs : List Entry) → IsLegal A xs → (B : List Area) × StateAfter A xs B
legal_state A xs (l, (B, s)) = (B, replied_state A xs B s)

-- an entry more keeps a history legal where it has its place's number and the right reply
pub legal_more : (A : List Area) (xs : List Entry) (B : List Area) (e : Entry) (C : List Area) →
    IsLegal A xs → StateAfter A xs B → e.number ≡ length xs → Answers B e.call e.reply C → IsLegal A (xs ++ e ∷ [])
legal_more A xs B e C (l, (D, s)) t i h =
    let same : D ≡ B = one_state A xs D B (replied_state A xs D s) t in (
      numbered_more 0 xs e l (omega arith),
      (C, chains_more HasRightReply A xs B e C (subst (λ X. Chains HasRightReply A xs X) same s) h),
    )

-- the last entry of a legal history has its place's number and the right reply
pub legal_last : (A : List Area) (xs : List Entry) (B : List Area) (e : Entry) →
    IsLegal A (xs ++ e ∷ []) → StateAfter A xs B → (e.number ≡ length xs) × ((C : List Area) × Answers B e.call e.reply C)
legal_last A xs B e (l, (C, s)) t =
    let (D, front, (E, h, last)) = chains_split HasRightReply A xs (e ∷ []) C s in
    let same : D ≡ B = one_state A xs D B (replied_state A xs D front) t in
    let number = numbered_last 0 xs e l in
    (omega arith, (E, subst (λ X. Answers X e.call e.reply E) same h))

-- each beginning of a legal history is legal
pub beginnings : (A : List Area) (xs ys : List Entry) → IsLegal A (xs ++ ys) → IsLegal A xs
beginnings A xs ys (l, (C, s)) =
    let parts = chains_split HasRightReply A xs ys C s in (numbered_front 0 xs ys l, (parts.0, parts.1))

-- calls on an area list leave an area list
pub area_state : (A : List Area) (xs : List Entry) → IsAreaList A → LeavesAreaListAfter A xs
area_state A [] w = (A, w, refl)
area_state A (x ∷ xs) w =
    let (r, C, g) = some_answer A x.call w in
    let (B, v, s) = area_state C xs (leaves_areas A x.call r C w g) in (B, v, (C, (r, g), s))

Agree : List Entry → List Entry → Type 0
Agree xs ys =
    (map (λ (e : Entry). e.number) xs ≡ map (λ (e : Entry). e.number) ys) ×
    (map (λ (e : Entry). e.reply) xs ≡ map (λ (e : Entry). e.reply) ys)

agree_from : (n : ℕ) (A : List Area) (xs ys : List Entry) (B D : List Area) → IsNumberedFrom n xs → IsNumberedFrom n ys →
    Chains HasRightReply A xs B → Chains HasRightReply A ys D → map (λ (e : Entry). e.call) xs ≡ map (λ (e : Entry). e.call) ys → Agree xs ys
unfolding Agree
agree_from n A [] [] B D j k s t e = (refl, refl)
agree_from n A [] (y ∷ ys) B D j k s t e = cc
agree_from n A (x ∷ xs) [] B D j k s t e = cc
agree_from n A (x ∷ xs) (y ∷ ys) B D (j, l) (k, m) (E, g, s) (F, h, t) e =
    let calls : x.call ≡ y.call = cc in
    let rest : map (λ (e : Entry). e.call) xs ≡ map (λ (e : Entry). e.call) ys = cc in
    let same = one_answer A x.call x.reply y.reply E F g (subst (λ c. Answers A c y.reply F) (sym calls) h) in
    let more = agree_from (n + 1) E xs ys B D l m s (subst (λ X. Chains HasRightReply X ys D) (sym same.1) t) rest in
    let numbers : x.number ≡ y.number = j ∙ sym k in
    let replies : x.reply ≡ y.reply = same.0 in
    let a : map (λ (e : Entry). e.number) xs ≡ map (λ (e : Entry). e.number) ys = more.0 in
    let b : map (λ (e : Entry). e.reply) xs ≡ map (λ (e : Entry). e.reply) ys = more.1 in
    (cc, cc)

-- legal histories from one list with the same calls have the same numbers and replies
pub agree : (A : List Area) (xs ys : List Entry) → SameCallsSameReplies A xs ys
unfolding Agree
agree A xs ys (l, (B, s)) (m, (D, t)) e = agree_from 0 A xs ys B D l m s t e
