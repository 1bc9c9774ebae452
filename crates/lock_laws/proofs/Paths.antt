-- What a write of one next word does to the paths, over the function `to` that gives the target of a cell. Nodes that
-- aren't on a path leave it; a node is put behind a cell; a node is taken out from behind a cell, which is a node put
-- there, read backwards. Each lemma is stated once, for every path and every cell.
use Rattle.std.proofs.Common.{◌≡◌, ◌≢◌, ◌⊎◌, ℕ, zero, suc, inl, inr, ⊎_elim, refl, sym, ap, ◌∙◌, subst}
use Rattle.std.proofs.lemmas.Bool.{cases_eq}
use Rattle.lock_laws.specs.Paths.{Reach, here, there, PathEnds, end, on}

-- what a node's path reaches is that node itself, or is reached from its next word
pub unreach : (to : ℕ → ℕ) (x n : ℕ) → Reach to x (suc n) → (x ≡ n) ⊎ Reach to x (to (suc n))
unreach to x n here = inl refl
unreach to x n (there r) = inr r

-- the path behind a node ends where the path from that node ends
pub unends : (to : ℕ → ℕ) (n : ℕ) → PathEnds to (suc n) → PathEnds to (to (suc n))
unends to n (on e) = e

-- what a node reaches is reached where the node is
pub reach_on : (to : ℕ → ℕ) (x q t : ℕ) → Reach to q t → Reach to x (to (suc q)) → Reach to x t
reach_on to x q t here far = there far
reach_on to x q t (there {n = n} r) far = there (reach_on to x q (to (suc n)) r far)

-- no node is reached from the end
pub nothing_at_end : (to : ℕ → ℕ) (q : ℕ) → Reach to q zero → ⊥
nothing_at_end to q r = elim r [ ]

-- a node of a path that ends isn't reached from itself
pub no_cycle : (to : ℕ → ℕ) (q t : ℕ) → PathEnds to t → Reach to q t → Reach to q (to (suc q)) → ⊥
no_cycle to q t end r c = nothing_at_end to q r
no_cycle to q t (on {n = n} e) r c = ⊎_elim (λ (s : q ≡ n). no_cycle to q (to (suc n)) e
    (subst (λ a. Reach to q (to (suc a))) s c) c) (λ s. no_cycle to q (to (suc n)) e s c) (unreach to q n r)

-- paths that meet none of the nodes of which T says that their next words change stay as they are
module _ (to now : ℕ → ℕ) (T : ℕ → Type 0) (others : (n : ℕ) → (T n → ⊥) → now (suc n) ≡ to (suc n)) where
  -- a node that is reached is still reached, where no changed next word lies on that path
  pub keeps_reach : (x t : ℕ) → ((y : ℕ) → T y → Reach to y t → ⊥) → Reach to x t → Reach now x t
  keeps_reach x t far here = here
  keeps_reach x t far (there {n = n} r) = there
      (subst (Reach now x) (sym (others n (λ q. far n q here))) (keeps_reach x (to (suc n)) (λ y q s. far y q (there s)) r))

  -- a node that is reached now was reached before, where no changed next word lay on that path
  pub adds_reach : (x t : ℕ) → Reach now x t → ((y : ℕ) → T y → Reach to y t → ⊥) → Reach to x t
  adds_reach x t here far = here
  adds_reach x t (there {n = n} r) far =
      let e = others n (λ q. far n q here) in
      there (subst (Reach to x) e (adds_reach x (now (suc n)) r (λ y q s. far y q (there (subst (Reach to y) e s)))))

  -- a path that ends still ends, where no changed next word lies on it
  pub keeps_ends : (t : ℕ) → ((y : ℕ) → T y → Reach to y t → ⊥) → PathEnds to t → PathEnds now t
  keeps_ends t far end = end
  keeps_ends t far (on {n = n} r) = on (subst (PathEnds now) (sym (others n (λ q. far n q here))) (keeps_ends (to (suc n)) (λ y q s. far y q (there s)) r))

-- node o, whose next word names what cell p named, is put behind that cell
pub record Puts (to now : ℕ → ℕ) (p o : ℕ) : Type 0 where
  -- no other cell changes
  pub others : (c : ℕ) → c ≢ p → now c ≡ to c
  -- node o named what the cell names
  pub was : to (suc o) ≡ to p
  -- afterwards the cell names node o
  pub is : now p ≡ suc o
  -- the cell isn't that of node o
  pub apart : suc o ≢ p

module _ {to now : ℕ → ℕ} {p o : ℕ} (put : Puts to now p o) where
  own : now (suc o) ≡ to p
  own = put.others (suc o) put.apart ∙ put.was

  -- from what a cell named, to what it names
  keep_at : (x k : ℕ) → Reach now x (to k) → Reach now x (now k)
  keep_at x k r =
      ⊎_elim
      (λ (e : k ≡ p). subst (Reach now x) (sym (ap now e ∙ put.is)) (there (subst (Reach now x) (ap to e ∙ sym own) r)))
      (λ (d : k ≢ p). subst (Reach now x) (sym (put.others k d)) r)
      (cases_eq k p)

  -- what was in a path still is
  pub put_keeps : (x t : ℕ) → Reach to x t → Reach now x t
  put_keeps x t here = here
  put_keeps x t (there {n = n} r) = there (keep_at x (suc n) (put_keeps x (to (suc n)) r))

  -- and from what a cell names, to what it named
  add_at : (x k : ℕ) → Reach to x (now k) → (x ≡ o) ⊎ Reach to x (to k)
  add_at x k r =
      ⊎_elim
      (λ (e : k ≡ p). ⊎_elim inl (λ (far : Reach to x (to (suc o))). inr (subst (Reach to x) (put.was ∙ sym (ap to e)) far))
      (unreach to x o (subst (Reach to x) (ap now e ∙ put.is) r)))
      (λ (d : k ≢ p). inr (subst (Reach to x) (put.others k d) r))
      (cases_eq k p)

  -- what is in a path is o or was in it
  pub put_adds : (x t : ℕ) → Reach now x t → (x ≡ o) ⊎ Reach to x t
  put_adds x t here = inr here
  put_adds x t (there {n = n} r) = ⊎_elim inl
      (λ (old : Reach to x (now (suc n))). ⊎_elim inl (λ (b : Reach to x (to (suc n))). inr (there b)) (add_at x (suc n) old))
      (put_adds x (now (suc n)) r)

  end_at : (k : ℕ) → PathEnds now (to k) → PathEnds now (now k)
  end_at k r =
      ⊎_elim
      (λ (e : k ≡ p). subst (PathEnds now) (sym (ap now e ∙ put.is)) (on (subst (PathEnds now) (ap to e ∙ sym own) r)))
      (λ (d : k ≢ p). subst (PathEnds now) (sym (put.others k d)) r)
      (cases_eq k p)

  -- a path that ended still ends
  pub put_ends : (t : ℕ) → PathEnds to t → PathEnds now t
  put_ends t end = end
  put_ends t (on {n = n} r) = on (end_at (suc n) (put_ends (to (suc n)) r))

  -- the same from a cell
  pub put_keeps_from : (x k : ℕ) → Reach to x (to k) → Reach now x (now k)
  put_keeps_from x k r = keep_at x k (put_keeps x (to k) r)

  -- what a cell's path has now is o, or it had it before
  pub put_adds_from : (x k : ℕ) → Reach now x (now k) → (x ≡ o) ⊎ Reach to x (to k)
  put_adds_from x k r = ⊎_elim inl (add_at x k) (put_adds x (now k) r)

  -- a cell's path that ended still ends
  pub put_ends_from : (k : ℕ) → PathEnds to (to k) → PathEnds now (now k)
  put_ends_from k r = end_at k (put_ends (to k) r)

  -- o is reached only through p
  pub put_via : (t : ℕ) → Reach now o t → Reach to o t ⊎ (q : ℕ) × (p ≡ suc q) × Reach to q t
  put_via t here = inl here
  put_via t (there {n = n} r) =
      let ih = put_via (now (suc n)) r in
      ⊎_elim
      (λ (e : suc n ≡ p). inr (n, sym e, here))
      (λ (d : suc n ≢ p).
      ⊎_elim
      (λ (old : Reach to o (now (suc n))). inl (there (subst (Reach to o) (put.others (suc n) d) old)))
      (λ (by : (q : ℕ) × (p ≡ suc q) × Reach to q (now (suc n))). inr (by.0, by.1, there (subst (Reach to by.0) (put.others (suc n) d) by.2)))
      ih)
      (cases_eq (suc n) p)

-- node c, which cell p named, is taken out: p names what c names
pub record Cuts (to now : ℕ → ℕ) (p c : ℕ) : Type 0 where
  -- no other cell changes
  pub others : (k : ℕ) → k ≢ p → now k ≡ to k
  -- the cell named node c
  pub was : to p ≡ suc c
  -- afterwards it names what node c names
  pub is : now p ≡ to (suc c)
  -- the cell isn't that of node c
  pub apart : suc c ≢ p

module _ {to now : ℕ → ℕ} {p c : ℕ} (cut : Cuts to now p c) where
  -- read backwards, node c is put behind the cell
  back : Puts now to p c
  back = record { others = λ k d. sym (cut.others k d); was = cut.others (suc c) cut.apart ∙ sym cut.is; is = cut.was; apart = cut.apart }

  -- what was in a path is c, or still is in it
  pub cut_keeps : (x t : ℕ) → Reach to x t → (x ≡ c) ⊎ Reach now x t
  cut_keeps = put_adds back

  -- what is in a path was in it
  pub cut_adds : (x t : ℕ) → Reach now x t → Reach to x t
  cut_adds = put_keeps back

  -- what was in a cell's path is c, or still is in it
  pub cut_keeps_from : (x k : ℕ) → Reach to x (to k) → (x ≡ c) ⊎ Reach now x (now k)
  cut_keeps_from = put_adds_from back

  -- what is in a cell's path was in it
  pub cut_adds_from : (x k : ℕ) → Reach now x (now k) → Reach to x (to k)
  cut_adds_from = put_keeps_from back

  cut_at : (k : ℕ) → PathEnds now (to k) → PathEnds now (now k)
  cut_at k r =
      ⊎_elim
      (λ (e : k ≡ p).
      subst (PathEnds now) (cut.others (suc c) cut.apart ∙ sym (ap now e ∙ cut.is)) (unends now c (subst (PathEnds now) (ap to e ∙ cut.was) r)))
      (λ (d : k ≢ p). subst (PathEnds now) (sym (cut.others k d)) r)
      (cases_eq k p)

  -- a path that ended still ends
  pub cut_ends : (t : ℕ) → PathEnds to t → PathEnds now t
  cut_ends t end = end
  cut_ends t (on {n = n} r) = on (cut_at (suc n) (cut_ends (to (suc n)) r))

  -- the same from a cell
  pub cut_ends_from : (k : ℕ) → PathEnds to (to k) → PathEnds now (now k)
  cut_ends_from k r = cut_at k (cut_ends (to k) r)

  -- c is gone from a path that ends and has p in it
  pub cut_gone : (q t : ℕ) → p ≡ suc q → PathEnds to t → Reach to q t → Reach now c t → ⊥
  cut_gone q t e end has r = nothing_at_end to q has
  cut_gone q t e (on {n = n} e') has r =
      ⊎_elim
      (λ (s : c ≡ n).
      let t' : PathEnds to (suc c) = on (subst (λ a. PathEnds to (to (suc a))) (sym s) e') in
      let has' : Reach to q (suc c) = subst (λ a. Reach to q (suc a)) (sym s) has in
      ⊎_elim
      (λ (s : q ≡ c). cut.apart (ap suc (sym s) ∙ sym e))
      (λ (s : Reach to q (to (suc c))). no_cycle to c (suc c) t' here
      (reach_on to c q (to (suc c)) s (subst (Reach to c) (sym (ap to (sym e) ∙ cut.was)) here)))
      (unreach to q c has'))
      (λ (far : Reach now c (now (suc n))).
      ⊎_elim
      (λ (s : suc n ≡ p). no_cycle to c (suc n) (on e') (there (subst (Reach to c) (sym (ap to s ∙ cut.was)) here))
      (cut_adds c (to (suc c)) (subst (Reach now c) (ap now s ∙ cut.is) far)))
      (λ (d : suc n ≢ p).
      ⊎_elim
      (λ (s : q ≡ n). d (ap suc (sym s) ∙ sym e))
      (λ (s : Reach to q (to (suc n))). cut_gone q (to (suc n)) e e' s (subst (Reach now c) (cut.others (suc n) d) far))
      (unreach to q n has))
      (cases_eq (suc n) p))
      (unreach now c n r)
