-- What a joiner answers and keeps, from what its parts do: by process, over the texts that were fed.
use Rattle.std.proofs.Common.{rules, ◌≡◌, ◌≢◌, ℕ, ◌-◌, ◌<◌, ◌≤◌, List, [], ◌∷◌, ◌++◌, length, take, drop, Option, Some, None, Result, Ok, Err, refl, sym, ap}
use Rattle.std.proofs.Common.{subst, ◌∙◌, append_assoc, inl, inr, arith}
use Rattle.std.specs.Prelude.{◌⊎◌, Bool, true, false, is_some, if◌then◌else◌, IsSome, OnOk, ◌^◌}
use Rattle.std.proofs.lemmas.Bool.{cases_eq}
use Rattle.std.proofs.lemmas.List.{length-append}
use Rattle.std.proofs.lemmas.Map.Keys.{IsStrictlyIncreasing-from_sorted}
use Rattle.std.proofs.lemmas.Map.Entries.{length-keys_of}
use Rattle.std.proofs.lemmas.Map.Lookups.{exact_unsigned}
use Rattle.std.proofs.lemmas.Map.Views.{btree_map_contains_key_iff}
use Rattle.std.specs.BTreeMap.{keys, IsOrdered}
use Rattle.std.specs.Cmp.{nat_cmp_total}
use Rattle.std.specs.Ordering.{nat_cmp}
use Rattle.std.proofs.Math.Seq.{drop-append_seam, take-append_seam}
use Rattle.line_parts.specs.Leaves.{is, EachIs}
use Rattle.line_parts.proofs.Leaves.{same_is}
use Rattle.strace_reader.specs.declared.item.Body.TheVariants.{FirstHalf}
use Rattle.strace_reader.specs.declared.item.Item.{Item}
use Rattle.strace_reader.specs.declared.item.Item.TheVariants.{Played, Unfinished, Resumed, Other as Passed, Blank as Nothing}
use Rattle.strace_reader.specs.declared.item.Name.{Name}
use Rattle.strace_reader.specs.declared.half.Half.{Half}
use Rattle.strace_reader.specs.declared.joiner.Joiner.{Joiner}
use Rattle.strace_reader.specs.declared.joiner.Fed.{Fed}
use Rattle.strace_reader.specs.declared.joiner.FeedFault.{FeedFault}
use Rattle.strace_reader.specs.declared.joiner.FeedFault.TheVariants.{Bad, Memory}
use Rattle.strace_reader.specs.Words.{call_head}
use Rattle.strace_reader.specs.Grammar.{BeginsWith, IsCut, IsBody, Spells, unfinished}
use Rattle.strace_reader.specs.Joining.{CountsKept, IsOf, IsSilent, IsKept, Drops, IsJoined, IsAnswer, IsFeedFault}
use Rattle.strace_reader.specs.Joiner.{half_of, Holds, HoldsTheSame, IsFed, answer_of, IsJoinAnswer, IsJoinFault}
use Rattle.strace_reader.proofs.FormFacts.{cut_same, cut_front}
use Rattle.strace_reader.proofs.BodyAnswers.{call_cut, each_name, head_some, no_resumed_call}
use Rattle.strace_reader.proofs.LineAnswers.{body_fits}
use Rattle.strace_reader.proofs.OneOutcome.{one_outcome}

one_item : (text : List ℕ) (a b : Item) → Spells text a → Spells text b → a ≡ b
one_item text a b x y = (one_outcome text).item a b x y

-- ---- results

-- of a result that is Ok, a third fact holds that follows from two that hold of it
pub ok_both : {T E : Type 0} (r : Result T E) (P Q R : Type 0) → OnOk r P → OnOk r Q → (P → Q → R) → OnOk r R
ok_both (Ok x) P Q R p q f = f p q
ok_both (Err e) P Q R p q f = tt

-- ---- places

-- the two places of a first half are in order and within its text
pub half_places : (text : List ℕ) (p : ℕ) (n : Name) (from to : ℕ) → Spells text (Unfinished p n from to) → (from ≤ to) × (to ≤ length text)
unfolding Spells
half_places text p n from to h = let k = body_fits h.0 (FirstHalf n h.1) h.3 in let place = h.4 in let end = h.5 in (omega arith, omega arith)

-- the place from which a second half goes on is within its text
pub rest_place : (text : List ℕ) (p : ℕ) (n : Name) (from : ℕ) → Spells text (Resumed p n from) → from ≤ length text
unfolding Spells
rest_place text p n from h = let place = h.4 in omega arith

-- ---- what is kept

not_of : (text : List ℕ) (i : Item) (q : ℕ) → Spells text i → (IsOf q i → ⊥) → (item : Item) → Spells text item → IsOf q item → ⊥
not_of text i q s other item h of = other (subst (IsOf q) (one_item text item i h s) of)

-- the text is a first half of the process, with this name and these bytes
abbrev pub IsHead : List ℕ → ℕ → Name → List ℕ → Type 0
IsHead text q n half = (from to : ℕ) × Spells text (Unfinished q n from to) × (half ≡ take (to - from) (drop from text))

kept_by : (text : List ℕ) (fed : List (List ℕ)) (q : ℕ) (n : Name) (half : List ℕ) (later : List (List ℕ)) (t : List ℕ) (earlier : List (List ℕ)) (from to : ℕ)
    → text ∷ fed ≡ later ++ (t ∷ earlier) → Spells t (Unfinished q n from to) → half ≡ take (to - from) (drop from t) → IsSilent q later
    → IsHead text q n half ⊎ (((item : Item) → Spells text item → IsOf q item → ⊥) × IsKept fed q n half)
kept_by text fed q n half [] t earlier from to e u b silent =
    let k : t ≡ text = cc in inl (from, to, subst (λ x. Spells x (Unfinished q n from to)) k u, b ∙ ap (λ x. take (to - from) (drop from x)) k)
kept_by text fed q n half (x ∷ later) t earlier from to e u b silent =
    let k : x ≡ text = cc in let l : fed ≡ later ++ (t ∷ earlier) = cc in
    inr (
      subst (λ y. (item : Item) → Spells y item → IsOf q item → ⊥) k silent.0,
      record { later = later; text = t; earlier = earlier; from = from; to = to; parts = l; is_half = u; bytes = b; silent = silent.1 },
    )

-- what is kept behind a text is the text itself, or was kept before it, and then the text is none of the process
pub kept_cases : (text : List ℕ) (fed : List (List ℕ)) (q : ℕ) (n : Name) (half : List ℕ) → IsKept (text ∷ fed) q n half
    → IsHead text q n half ⊎ (((item : Item) → Spells text item → IsOf q item → ⊥) × IsKept fed q n half)
kept_cases text fed q n half k = kept_by text fed q n half k.later k.text k.earlier k.from k.to k.parts k.is_half k.bytes k.silent

-- what is kept for a process behind a text that is none of its own was kept before that text
pub kept_step : (text : List ℕ) (i : Item) (fed : List (List ℕ)) (q : ℕ) (n : Name) (half : List ℕ) → Spells text i
    → (IsOf q i → ⊥) → IsKept (text ∷ fed) q n half → IsKept fed q n half
kept_step text i fed q n half s other k = elim (kept_cases text fed q n half k) [
  | inl h ↦ absurd (not_of text i q s other (Unfinished q n h.0 h.1) h.2 refl)
  | inr r ↦ r.1
]

kept_more : (text : List ℕ) (i : Item) (fed : List (List ℕ)) (q : ℕ) (n : Name) (half : List ℕ) → Spells text i → (IsOf q i → ⊥)
    → IsKept fed q n half → IsKept (text ∷ fed) q n half
kept_more text i fed q n half s other k = record {
  later = text ∷ k.later;
  text = k.text;
  earlier = k.earlier;
  from = k.from;
  to = k.to;
  parts = ap (λ x. text ∷ x) k.parts;
  is_half = k.is_half;
  bytes = k.bytes;
  silent = (not_of text i q s other, k.silent);
}

kept_new : (text : List ℕ) (fed : List (List ℕ)) (p : ℕ) (n : Name) (from to : ℕ) (half : List ℕ)
    → Spells text (Unfinished p n from to) → half ≡ take (to - from) (drop from text) → IsKept (text ∷ fed) p n half
kept_new text fed p n from to half s b = record {
  later = [];
  text = text;
  earlier = fed;
  from = from;
  to = to;
  parts = refl;
  is_half = s;
  bytes = b;
  silent = tt;
}

kept_head : (text : List ℕ) (i : Item) (fed : List (List ℕ)) (q : ℕ) (n : Name) (half : List ℕ) → Spells text i → IsOf q i
    → IsKept (text ∷ fed) q n half → IsHead text q n half
kept_head text i fed q n half s of k = elim (kept_cases text fed q n half k) [ inl h ↦ h | inr r ↦ absurd (r.0 i s of) ]

one_process : (i : Item) (p q : ℕ) → IsOf p i → IsOf q i → p ≡ q
one_process Passed p q h g = absurd h
one_process Nothing p q h g = absurd h
one_process i p q h g = sym h ∙ g

-- ---- what a joiner stands for

-- a joiner stands for the texts with one more where that one is of no process
pub fed_silent : (text : List ℕ) (i : Item) (fed : List (List ℕ)) (j : Joiner) → Spells text i → ((q : ℕ) → IsOf q i → ⊥) → IsFed j fed → IsFed j (text ∷ fed)
fed_silent text i fed j s none f = record {
  kept = λ q n half k. f.kept q n half (kept_step text i fed q n half s (none q) k);
  held = λ q n half h. kept_more text i fed q n half s (none q) (f.held q n half h);
}

same_holds : (old new : Joiner) (q : ℕ) (n : Name) (half : List ℕ) → half_of new q ≡ half_of old q → Holds old q n half → Holds new q n half
same_holds old new q n half e h = (h.0, e ∙ h.1, h.2, h.3)

no_holds : (j : Joiner) (q : ℕ) (n : Name) (half : List ℕ) → half_of j q ≡ None → Holds j q n half → ⊥
no_holds j q n half e h = let k = sym e ∙ h.1 in cc

-- a call or a second half of the process: nothing is kept for it any more
pub fed_gone : (text : List ℕ) (i : Item) (p : ℕ) (fed : List (List ℕ)) (old new : Joiner) → Spells text i → IsOf p i
    → ((n : Name) (from to : ℕ) → i ≢ Unfinished p n from to) → half_of new p ≡ None → ((q : ℕ) → q ≢ p → half_of new q ≡ half_of old q)
    → IsFed old fed → IsFed new (text ∷ fed)
fed_gone text i p fed old new s of none gone others f = record {
  kept = λ q n half k. elim (cases_eq q p) [
    | inl e ↦
        let head = kept_head text i fed q n half s (subst (λ x. IsOf x i) (sym e) of) k in
        absurd (none n head.0 head.1 (one_item text i (Unfinished p n head.0 head.1) s (subst (λ x. Spells text (Unfinished x n head.0 head.1)) e head.2)))
    | inr apart ↦ same_holds old new q n half (others q apart) (f.kept q n half (kept_step text i fed q n half s (λ g. apart (one_process i q p g of)) k))
  ];
  held = λ q n half h. elim (cases_eq q p) [
    | inl e ↦ absurd (no_holds new q n half (ap (half_of new) e ∙ gone) h)
    | inr apart ↦ kept_more text i fed q n half s (λ g. apart (one_process i q p g of)) (f.held q n half (same_holds new old q n half (sym (others q apart)) h))
  ];
}

-- a joiner that holds the same stands for the same texts
pub fed_stays : (old new : Joiner) (fed : List (List ℕ)) → HoldsTheSame old new → IsFed old fed → IsFed new fed
fed_stays old new fed same f = record {
  kept = λ q n half k. same_holds old new q n half (same q) (f.kept q n half k);
  held = λ q n half h. f.held q n half (same_holds new old q n half (sym (same q)) h);
}

some_half : (a b : Half) → Some a ≡ Some b → a ≡ b
some_half a b e = cc

holds_one : (j : Joiner) (q : ℕ) (n m : Name) (a b : List ℕ) → Holds j q n a → Holds j q m b → (n ≡ m) × (a ≡ b)
holds_one j q n m a b h g =
    let e : h.0 ≡ g.0 = some_half h.0 g.0 (sym h.1 ∙ g.1) in (sym h.2 ∙ ap (λ x. x.name) e ∙ g.2, sym h.3 ∙ ap (λ x. x.text.items) e ∙ g.3)

-- the same name, and the same two places
pub record SamePlaces (n m : Name) (a b c d : ℕ) : Type 0 where
  -- the names are the same
  pub name : n ≡ m
  -- the first places are the same
  pub from : a ≡ b
  -- the second places are the same
  pub to : c ≡ d

-- two equal first halves have the same name and the same places
pub same_places : (p : ℕ) (n m : Name) (a b c d : ℕ) → Unfinished p n a c ≡ Unfinished p m b d → SamePlaces n m a b c d
same_places p n m a b c d e = record { name = cc; from = cc; to = cc }

-- a first half of the process: it is kept
pub fed_half : (text : List ℕ) (p : ℕ) (name : Name) (from to : ℕ) (fed : List (List ℕ)) (old new : Joiner) (bytes : List ℕ)
    → Spells text (Unfinished p name from to) → bytes ≡ take (to - from) (drop from text) → Holds new p name bytes
    → ((q : ℕ) → q ≢ p → half_of new q ≡ half_of old q) → IsFed old fed → IsFed new (text ∷ fed)
fed_half text p name from to fed old new bytes s b holds others f = record {
  kept = λ q n half k. elim (cases_eq q p) [
    | inl e ↦
        let head = kept_head text (Unfinished p name from to) fed q n half s (sym e) k in
        let same = same_places p name n from head.0 to head.1 (one_item text (Unfinished p name from to) (Unfinished p n head.0 head.1) s
        (subst (λ x. Spells text (Unfinished x n head.0 head.1)) e head.2)) in
        let is : half ≡ bytes = head.3 ∙ ap (λ x. take (x - head.0) (drop head.0 text)) (sym same.to)
        ∙ ap (λ x. take (to - x) (drop x text)) (sym same.from) ∙ sym b in
        subst (λ x. Holds new x n half) (sym e) (subst (λ x. Holds new p n x) (sym is) (subst (λ x. Holds new p x bytes) same.name holds))
    | inr apart ↦ same_holds old new q n half (others q apart)
        (f.kept q n half (kept_step text (Unfinished p name from to) fed q n half s (λ g. apart (sym g)) k))
  ];
  held = λ q n half h. elim (cases_eq q p) [
    | inl e ↦
        let one = holds_one new p n name half bytes (subst (λ x. Holds new x n half) e h) holds in
        subst (λ x. IsKept (text ∷ fed) x n half) (sym e)
        (subst (λ x. IsKept (text ∷ fed) p x half) (sym one.0) (kept_new text fed p name from to half s (one.1 ∙ b)))
    | inr apart ↦ kept_more text (Unfinished p name from to) fed q n half s (λ g. apart (sym g))
        (f.held q n half (same_holds new old q n half (sym (others q apart)) h))
  ];
}

-- no text stands among no texts
pub nothing_kept : (later : List (List ℕ)) (t : List ℕ) (earlier : List (List ℕ)) → [] ≡ later ++ (t ∷ earlier) → ⊥
nothing_kept [] t earlier e = cc
nothing_kept (x ∷ later) t earlier e = cc

-- a joiner that holds no half stands for no texts
pub fed_nothing : (j : Joiner) → ((q : ℕ) → half_of j q ≡ None) → IsFed j []
fed_nothing j none = record {
  kept = λ q n half k. absurd (nothing_kept k.later k.text k.earlier k.parts);
  held = λ q n half h. absurd (no_holds j q n half (none q) h);
}

-- ---- what is dropped

drops_by : (j : Joiner) (fed : List (List ℕ)) (p : ℕ) (count : ℕ) (o : Option Half) → half_of j p ≡ o → IsFed j fed
    → count ≡ (if is_some o then 1 else 0) → Drops fed p count
drops_by j fed p count (Some k) e f c = inl (k.name, k.text.items, f.held p k.name k.text.items (k, e, refl, refl), c)
drops_by j fed p count None e f c = inr (λ n half k. no_holds j p n half e (f.kept p n half k), c)

-- as many halves are dropped for a process as the joiner holds for it, one or none
pub drops : (j : Joiner) (fed : List (List ℕ)) (p : ℕ) (count : ℕ) → IsFed j fed → count ≡ (if is_some (half_of j p) then 1 else 0) → Drops fed p count
drops j fed p count f c = drops_by j fed p count (half_of j p) refl f c

-- ---- a kept half begins with its call's name

-- a byte that is no space and doesn't begin the ending of a first half
abbrev inside : ℕ → Bool
inside b = if is 32 b then false else if is 60 b then false else true

front_of : (word a half spaces : List ℕ) → EachIs inside word → EachIs (is 32) spaces → word ++ a ≡ half ++ (spaces ++ unfinished) → BeginsWith word half
front_of [] a half spaces w each e = (half, refl)
front_of (c ∷ word) a (d ∷ half) spaces w each e = let k : c ≡ d = cc in let t : word ++ a ≡ half ++ (spaces ++ unfinished) = cc in
    let b = front_of word a half spaces w.1 each t in (b.0, ap (λ x. d ∷ x) b.1 ∙ ap (λ x. x ∷ (word ++ b.0)) (sym k))
front_of (c ∷ word) a [] [] w each e = let k : c ≡ 60 = cc in absurd (let no : inside c ≡ false = ap inside k in cc)
front_of (c ∷ word) a [] (d ∷ spaces) w each e = let k : c ≡ d = cc in absurd (let no : inside c ≡ false = ap inside (k ∙ same_is 32 d each.0) in cc)

slice_is : (text front body half behind : List ℕ) (from to : ℕ) → text ≡ front ++ body → body ≡ half ++ behind
    → from ≡ length front → to - from ≡ length half → take (to - from) (drop from text) ≡ half
slice_is text front body half behind from to e b f t =
    let d : drop from text ≡ body = ap (λ x. drop x text) f ∙ ap (drop (length front)) e ∙ drop-append_seam front body in
    ap (take (to - from)) (d ∙ b) ∙ ap (λ x. take x (half ++ behind)) t ∙ take-append_seam half behind

slice_half : (text : List ℕ) (p : ℕ) (n : Name) (from to : ℕ) → Spells text (Unfinished p n from to)
    → BeginsWith (call_head n) (take (to - from) (drop from text))
unfolding Spells IsBody
slice_half text p n from to h =
    let body = h.0 in let i = h.3.2 in let half = h.3.0 in let f = cut_front text p body h.2 in
    let l = ap length f.1 ∙ length-append f.0 body in let place = h.4 in let end = h.5 in let len = h.3.3 in
    let is_from : from ≡ length f.0 = omega arith in let is_to : to - from ≡ length half = omega arith in
    let e = slice_is text f.0 body half (i.spaces ++ unfinished) from to f.1 i.parts is_from is_to in
    let each : EachIs inside (call_head n) = each_name (λ n. EachIs inside (call_head n))
    (search rules, search rules, search rules, search rules, search rules, search rules, search rules) n in
    subst (BeginsWith (call_head n)) (sym e) (front_of (call_head n) h.3.1.0 half i.spaces each i.only_spaces (sym h.3.1.1 ∙ i.parts))

-- ---- what joined halves are

-- a text that begins with a call's name is of no process
no_process : (n : Name) (text : List ℕ) (p : ℕ) (body : List ℕ) → BeginsWith (call_head n) text → IsCut text p body → (p ≡ 0) × (body ≡ text)
no_process n text p body b c = cut_same text p 0 body text c (call_cut n text b)

-- a text that begins with a call's name is of process 0, if of any
pub process_of : (n : Name) (text : List ℕ) (p : ℕ) (item : Item) → BeginsWith (call_head n) text → IsOf p item → Spells text item → p ≡ 0
unfolding Spells
process_of n text p (Played pid c r) b of h = sym of ∙ (no_process n text pid h.0 b h.1).0
process_of n text p (Unfinished pid m from to) b of h = sym of ∙ (no_process n text pid h.0 b h.2).0
process_of n text p (Resumed pid m from) b of h = sym of ∙ (no_process n text pid h.0 b h.2).0
process_of n text p item b of h = absurd of

no_resumed : (n : Name) (text : List ℕ) (p : ℕ) (m : Name) (from : ℕ) → BeginsWith (call_head n) text → Spells text (Resumed p m from) → ⊥
unfolding Spells IsBody
no_resumed n text p m from b h =
    let e = (no_process n text p h.0 b h.2).1 in no_resumed_call n m h.0 (subst (BeginsWith (call_head n)) (sym e) b) (h.3.1.0, h.3.1.1)

no_blank : (n : Name) (text : List ℕ) → BeginsWith (call_head n) text → Spells text Nothing → ⊥
unfolding Spells
no_blank n text b h = let k = ap length h in let l = ap length b.1 ∙ length-append (call_head n) b.0 in let m = head_some n in omega arith

joined_is : (j : Joiner) (fed : List (List ℕ)) (text : List ℕ) (p : ℕ) (n : Name) (from : ℕ) (k : Half)
    → Spells text (Resumed p n from) → half_of j p ≡ Some k → k.name ≡ n → IsFed j fed → IsJoined fed text p (k.text.items ++ drop from text)
joined_is j fed text p n from k s e same f = (n, from, k.text.items, s, f.held p n k.text.items (k, e, same, refl), refl)

joined_begins : (j : Joiner) (fed : List (List ℕ)) (rest : List ℕ) (p : ℕ) (n : Name) (k : Half) → half_of j p ≡ Some k
    → k.name ≡ n → IsFed j fed → BeginsWith (call_head n) (k.text.items ++ rest)
joined_begins j fed rest p n k e same f =
    let h = f.held p n k.text.items (k, e, same, refl) in
    let b = subst (BeginsWith (call_head n)) (sym h.bytes) (slice_half h.text p n h.from h.to h.is_half) in
    (b.0 ++ rest, ap (λ x. x ++ rest) b.1 ∙ append_assoc (call_head n) b.0 rest)

answer_is : (fed : List (List ℕ)) (text joined : List ℕ) (p : ℕ) (n : Name) (item : Item) → IsJoined fed text p joined
    → BeginsWith (call_head n) joined → Spells joined item → IsAnswer fed text (answer_of p item)
answer_is fed text joined p n (Played pid c r) i b s =
    inr (joined, i, subst (λ x. Spells joined (Played x c r)) (process_of n joined pid (Played pid c r) b refl s) s, refl)
answer_is fed text joined p n (Unfinished pid m from to) i b s = inr (inr (inr (inr (p, joined, i, (pid, m, from, to, s), refl))))
answer_is fed text joined p n (Resumed pid m from) i b s = absurd (no_resumed n joined pid m from b s)
answer_is fed text joined p n Passed i b s = inr (inr (inr (inl (p, joined, i, s, refl))))
answer_is fed text joined p n Nothing i b s = absurd (no_blank n joined b s)

-- what a second half answers by the half that the joiner holds is what the texts fed so far say
pub join_answer : (j : Joiner) (fed : List (List ℕ)) (text : List ℕ) (p : ℕ) (n : Name) (from : ℕ) (rest : List ℕ) (answer : Fed)
    → Spells text (Resumed p n from) → rest ≡ drop from text → IsFed j fed → IsJoinAnswer j p n rest answer → IsAnswer fed text answer
join_answer j fed text p n from rest answer s d f (inl (none, e)) =
    subst (IsAnswer fed text) (sym e) (inr (inl ((p, n, from, s, λ m half k. no_holds j p m half none (f.kept p m half k)), refl)))
join_answer j fed text p n from rest answer s d f (inr (inl h)) = subst (IsAnswer fed text) (sym h.3)
    (inr (inr (inl ((p, n, h.0.name, from, h.0.text.items, s, f.held p h.0.name h.0.text.items (h.0, h.1, refl, refl), h.2), refl))))
join_answer j fed text p n from rest answer s d f (inr (inr h)) =
    let joined = h.0.text.items ++ rest in
    let i : IsJoined fed text p joined = subst (λ x. IsJoined fed text p (h.0.text.items ++ x)) (sym d) (joined_is j fed text p n from h.0 s h.2 h.3 f) in
    subst (IsAnswer fed text) (sym h.5) (answer_is fed text joined p n h.1 i (joined_begins j fed rest p n h.0 h.2 h.3 f) h.4)

-- why a second half is not taken, by the half that the joiner holds, is what the texts fed so far say
pub join_fault : (j : Joiner) (fed : List (List ℕ)) (text : List ℕ) (p : ℕ) (n : Name) (from : ℕ) (rest : List ℕ)
    (fault : FeedFault) → Spells text (Resumed p n from) → rest ≡ drop from text → IsFed j fed → IsJoinFault j p n rest fault → IsFeedFault fed text fault
join_fault j fed text p n from rest (Bad bad) s d f h = inr (
  p,
  h.0.text.items ++ rest,
  subst (λ x. IsJoined fed text p (h.0.text.items ++ x)) (sym d) (joined_is j fed text p n from h.0 s h.1 h.2 f),
  h.3,
)
join_fault j fed text p n from rest Memory s d f h = (p, n, from, 0, inr s)

-- ---- how many are left

abbrev IsKeptFor : List (List ℕ) → ℕ → Type 0
IsKeptFor fed p = (name : Name) × (half : List ℕ) × IsKept fed p name half

some_of : (j : Joiner) (fed : List (List ℕ)) (p : ℕ) (o : Option Half) → half_of j p ≡ o → IsFed j fed → IsSome o → IsKeptFor fed p
some_of j fed p (Some k) e f s = (k.name, k.text.items, f.held p k.name k.text.items (k, e, refl, refl))
some_of j fed p None e f s = absurd cc

-- as many processes have a kept half as the joiner holds halves, told up to 2^32 - 1
pub counts : (j : Joiner) (fed : List (List ℕ)) (count n : ℕ) → IsFed j fed → IsOrdered nat_cmp j.halves
    → n ≡ length j.halves.entries → ((count ≡ n) ⊎ ((count ≡ 2 ^ 32 - 1) × (count < n))) → CountsKept fed count
counts j fed count n f ordered len is =
    let long : n ≡ length (keys j.halves) = len ∙ sym (length-keys_of j.halves.entries) in
    record {
      processes = keys j.halves;
      ascending = IsStrictlyIncreasing-from_sorted (keys j.halves) ordered;
      each = λ p.
          let k = btree_map_contains_key_iff nat_cmp_total exact_unsigned j.halves p in
          (λ h. some_of j fed p (half_of j p) refl f (k.1 h), λ h. let held = f.kept p h.0 h.1 h.2 in k.0 (rw held.1 refl));
      is = elim is as (λ x. (count ≡ length (keys j.halves)) ⊎ ((count ≡ 2 ^ 32 - 1) × (count < length (keys j.halves))))
          [ inl a ↦ inl (a ∙ long) | inr a ↦ inr (a.0, omega (arith, long, a.1)) ];
    }
