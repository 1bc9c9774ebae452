use Rattle.std.proofs.Common.{rules, ℕ, suc, ◌≡◌, ◌+◌, ◌-◌, ◌*◌, ◌≤◌, List, [], ◌∷◌, ◌++◌, drop, take, length, sym, refl, ap, ◌∙◌, subst, arith}
use Rattle.std.proofs.lemmas.List.{get_or-drop, length-drop, take_all as all_taken}
use Rattle.std.specs.Prelude.{slice_index}
use Rattle.row_blocks.specs.Gaps.{GapsTold}
use Rattle.area_rows.proofs.first_words.lay_rows.Goals as goal

-- as many words as a list has, taken of this and others behind it, are the list
take_all : (mid post rest : List ℕ) → take (length mid) ((mid ++ post) ++ rest) ≡ mid
take_all [] post rest = refl
take_all (w ∷ mid) post rest = ap (λ (l : List ℕ). w ∷ l) (take_all mid post rest)

-- so are those behind three others
mid_is : (n : ℕ) (front mid post rest : List ℕ) → length front ≡ 3 → n ≡ suc (suc (suc (length mid)))
    → drop 3 (take n ((front ++ (mid ++ post)) ++ rest)) ≡ mid
mid_is n [] mid post rest three is = absurd (omega arith)
mid_is n (a ∷ []) mid post rest three is = absurd (omega arith)
mid_is n (a ∷ b ∷ []) mid post rest three is = absurd (omega arith)
mid_is n (a ∷ b ∷ c ∷ []) mid post rest three is =
    ap (λ (k : ℕ). drop 3 (take k (((a ∷ b ∷ c ∷ []) ++ (mid ++ post)) ++ rest))) is ∙ take_all mid post rest
mid_is n (a ∷ b ∷ c ∷ d ∷ front) mid post rest three is = absurd (omega arith)

-- so the words behind the first three tell the gaps that they tell
told_behind : (nb n : ℕ) (front mid post rest : List ℕ) → length front ≡ 3 → n ≡ suc (suc (suc (length mid))) → GapsTold nb mid
    → GapsTold nb (drop 3 (take n ((front ++ (mid ++ post)) ++ rest)))
told_behind nb n front mid post rest three is = subst (GapsTold nb) (sym (mid_is n front mid post rest three is))

-- what is taken behind three words is all that is behind them
behind_three : {now : List ℕ} (items : List ℕ) → now ≡ items → take (length now - 3) (drop 3 now) ≡ drop 3 items
behind_three {now} items same =
    let long = length-drop 3 now in all_taken (length now - 3) (drop 3 now) (omega arith) ∙ ap (drop 3) same

-- the words behind others are the same, where they are the same in what is behind three words
above_at : (nb : ℕ) (old mid new : List ℕ) → drop 3 new ≡ mid → ((s : ℕ) → 129 * nb + 1 ≤ s → slice_index mid s ≡ slice_index (drop 3 old) s)
    → (s : ℕ) → 4 + 129 * nb ≤ s → slice_index new s ≡ slice_index old s
above_at nb old mid new same kept s from =
    let e : 3 + (s - 3) ≡ s = omega arith in
    sym (ap (slice_index new) e) ∙ (sym (get_or-drop 3 new (s - 3) 0) ∙ (ap (λ (l : List ℕ). slice_index l (s - 3)) same ∙ (kept (s - 3) (omega arith)
    ∙ (get_or-drop 3 old (s - 3) 0 ∙ ap (slice_index old) e))))

-- each body word tells the largest gap of its block
pub returns-clause-told : goal.returns-clause-told
returns-clause-told c =
    let now = c.as_mut_slice.result.now in let mid = c.fill.new.words in let post = drop (length now - 3) (drop 3 now) in
    told_behind c.args.blocks c.args.words.now.len (take 3 now) mid post (drop (length (take 3 now ++ (mid ++ post))) c.args.words.now.items)
    (search rules) (search rules) c.fill.ensures.told

-- the words behind those of the blocks stand
pub returns-clause-above : goal.returns-clause-above
returns-clause-above c =
    let now = c.as_mut_slice.result.now in let mid = c.fill.new.words in let post = drop (length now - 3) (drop 3 now) in
    let items = c.args.words.now.items in let n = c.args.words.now.len in let rest = drop (length (take 3 now ++ (mid ++ post))) items in
    above_at c.args.blocks items mid (take n ((take 3 now ++ (mid ++ post)) ++ rest)) (mid_is n (take 3 now) mid post rest (search rules) (search rules))
    (λ s from. c.fill.ensures.above s from ∙ ap (λ (l : List ℕ). slice_index l s) (behind_three items c.as_mut_slice.ensures.value))
