-- Good lines stand by themselves: a line that is read as a whole is half of no call, and becomes itself. What a line
-- becomes is one line, with one ending.
use Rattle.std.proofs.Common.{◌≡◌, ℕ, ◌<◌, ◌≤◌, List, length, true, false, codes, refl, sym, subst, ◌∙◌, inl, inr, ◌⊎◌, arith}
use Rattle.std.specs.Prelude.{Result, Ok, Option}
use Rattle.std.proofs.lemmas.List.{length-append}
use Rattle.strace_reader.specs.declared.item.BadCall.{BadCall}
use Rattle.strace_reader.specs.declared.item.Item.{Item}
use Rattle.strace_reader.specs.declared.item.Item.TheVariants.{Played, Unfinished, Resumed}
use Rattle.strace_reader.specs.declared.item.Recorded.{Recorded}
use Rattle.page_types.specs.declared.calls.Call.{Call}
use Rattle.strace_reader.specs.declared.item.Name.{Name}
use Rattle.strace_reader.specs.Grammar.{Spells, Refuses}
use Rattle.strace_reader.proofs.OneOutcome.{one_outcome}
use Rattle.raw_lines.proofs.MendFacts.{all_mends_same}
use Rattle.raw_lines.specs.Marks.{unread_text}
use Rattle.raw_lines.specs.Mends.{IsWhole, IsMended, unreturned_text}
use Rattle.raw_lines.specs.Plain.{IsStill}
use Rattle.raw_trace.specs.declared.settling.Ending.{Ending}
use Rattle.raw_trace.specs.declared.settling.Ending.TheVariants.{AsItIs, AsUnread, AsUnreturned, ByMends, AsInjected, AsOutside}
use Rattle.raw_trace.specs.declared.settling.Settled.{Settled}
use Rattle.raw_logs.specs.Log.{Numbered}
use Rattle.raw_trace.specs.Order.{Step}
use Rattle.raw_trace.specs.Places.{HasReading, ReadText, IsReadText, Part, Whole, part, IsDone, IsStep, IsGood, fails_outside, IsInjected, IsUndone, Shows, IsLeftOut, IsHalfAlone}
use Rattle.raw_trace.specs.Places.{Becomes, becomes_itself, becomes_undone, becomes_unread, becomes_unreturned, becomes_mended}

-- a line that is read as a whole is no first half
pub whole_no_first : (line : List ℕ) (item : Item) (p : ℕ) (n : Name) (from to : ℕ) → Spells line item → IsWhole item
    → Spells line (Unfinished p n from to) → ⊥
whole_no_first line item p n from to s w h = subst IsWhole ((one_outcome line).item item (Unfinished p n from to) s h) w

-- nor a second half
pub whole_no_second : (line : List ℕ) (item : Item) (p : ℕ) (n : Name) (from : ℕ) → Spells line item → IsWhole item
    → Spells line (Resumed p n from) → ⊥
whole_no_second line item p n from s w h = subst IsWhole ((one_outcome line).item item (Resumed p n from) s h) w

-- so it is half of no call
good_read : (text : List ℕ) (reading : Result Item ℕ) (fed later : List ReadText) (x : ReadText) → IsGood text → HasReading text reading
    → part fed x later reading ≡ Whole
good_read text (Ok (Unfinished p n from to)) fed later x good h = absurd (whole_no_first text good.0.0 p n from to good.0.1 good.0.2 h)
good_read text (Ok (Resumed p n b)) fed later x good h = absurd (whole_no_second text good.0.0 p n b good.0.1 good.0.2 h)
good_read text reading fed later x good h = refl

-- what it does is a whole line's
pub good_done : (fed later : List ReadText) (line : Numbered) (x : ReadText) (step : Step) → IsGood line.text → IsReadText line x → IsStep fed x later step
    → IsDone line Whole step
good_done fed later line x step good h is =
    subst (λ (l : Numbered). IsDone l Whole step) h.0
    (subst (λ (o : Part). IsDone x.line o step) (good_read line.text x.reading fed later x good h.1) is)

-- a first half alone isn't good
pub half_not_good : (line : List ℕ) → IsHalfAlone line → IsGood line → ⊥
half_not_good line h good = whole_no_first line good.0.0 h.0 h.1 h.2 h.3 good.0.1 good.0.2 h.4

-- a refused line isn't good
pub refused_not_good : (line : List ℕ) (bad : BadCall) → Refuses line bad → IsGood line → ⊥
refused_not_good line bad h good = (one_outcome line).never_both good.0.0 bad good.0.1 h

-- nor is it a first half
pub refused_no_half : (line : List ℕ) (bad : BadCall) → Refuses line bad → IsHalfAlone line → ⊥
refused_no_half line bad h half = (one_outcome line).never_both (Unfinished half.0 half.1 half.2 half.3) bad half.4 h

-- what is written unread ends so
pub unread_as : (line : List ℕ) (s : Settled) → Becomes line (unread_text line) AsUnread → (s.line.items ≡ unread_text line) × (s.ending ≡ AsUnread)
    → Becomes line s.line.items s.ending
unread_as line s h e =
    subst (λ (x : List ℕ). Becomes line x s.ending) (sym e.0) (subst (λ (x : Ending). Becomes line (unread_text line) x) (sym e.1) h)

-- ---- calls that changed nothing

-- one is read as a call
pub undone_call : (line : List ℕ) (why : Ending) → IsUndone line why
    → (pid : ℕ) × (call : Call) × (recorded : Option Recorded) × Spells line (Played pid call recorded)
undone_call line AsInjected u = (u.2, u.3, u.4, u.5)
undone_call line AsOutside u = (u.2, u.3, u.4, u.5)
undone_call line why u = absurd u

-- where neither reason is there, it is none of these
pub none_undone : (line : List ℕ) (pid : ℕ) (call : Call) (recorded : Option Recorded) → Spells line (Played pid call recorded) → ¬ IsInjected line
    → fails_outside call recorded ≡ false → (why : Ending) → ¬ IsUndone line why
none_undone line pid call recorded s i f AsInjected u = i u.1
none_undone line pid call recorded s i f AsOutside u =
    let k = (one_outcome line).item (Played pid call recorded) (Played u.2 u.3 u.4) s u.5 in
    let c : call ≡ u.3 = cc in
    let r : recorded ≡ u.4 = cc in
    let e : false ≡ true = sym f ∙ (λ j. fails_outside (c j) (r j)) ∙ u.6 in cc
none_undone line pid call recorded s i f why u = absurd u

-- so what isn't read as a call is none
pub others_done : (line : List ℕ) (item : Item) → Spells line item
    → ((pid : ℕ) (call : Call) (recorded : Option Recorded) → ¬ (item ≡ Played pid call recorded))
    → (why : Ending) → ¬ IsUndone line why
others_done line item s other why u =
    let c = undone_call line why u in other c.0 c.1 c.2 ((one_outcome line).item item (Played c.0 c.1 c.2) s c.3)

first_done : (line : List ℕ) (p : ℕ) (n : Name) (from to : ℕ) → Spells line (Unfinished p n from to) → (why : Ending) → ¬ IsUndone line why
first_done line p n from to s = others_done line (Unfinished p n from to) s (λ pid call recorded e. absurd cc)

second_done : (line : List ℕ) (p : ℕ) (n : Name) (from : ℕ) → Spells line (Resumed p n from) → (why : Ending) → ¬ IsUndone line why
second_done line p n from s = others_done line (Resumed p n from) s (λ pid call recorded e. absurd cc)

-- a line that is read, and as none of these, isn't left out
pub read_stays : (line : List ℕ) (item : Item) → Spells line item → ((why : Ending) → ¬ IsUndone line why) → (why : Ending) → ¬ IsLeftOut line why
read_stays line item s none why (shown, inl e, u, k) = none why (subst (λ (x : List ℕ). IsUndone x why) e u)
read_stays line item s none why (shown, inr r, u, k) = (one_outcome line).never_both item r.0 s r.1

-- nor is a good one
pub good_stays : (line : List ℕ) → IsGood line → (why : Ending) → ¬ IsLeftOut line why
good_stays line good = read_stays line good.0.0 good.0.1 good.1.1

-- nor a first half
pub half_stays : (line : List ℕ) → IsHalfAlone line → (why : Ending) → ¬ IsLeftOut line why
half_stays line h = read_stays line (Unfinished h.0 h.1 h.2 h.3) h.4 (first_done line h.0 h.1 h.2 h.3 h.4)

-- nor a refused line whose mends show none of these
pub refused_stays : (line : List ℕ) (bad : BadCall) → Refuses line bad → ((other : List ℕ) → IsMended line other → (why : Ending) → ¬ IsUndone other why)
    → (why : Ending) → ¬ IsLeftOut line why
refused_stays line bad r none why (shown, inl e, u, k) =
    let c = undone_call line why (subst (λ (x : List ℕ). IsUndone x why) e u) in
    (one_outcome line).never_both (Played c.0 c.1 c.2) bad c.3 r
refused_stays line bad r none why (shown, inr q, u, k) = none shown q.3 why u

-- two shown lines are one
pub shown_one : (line a b : List ℕ) (v w : Ending) → Shows line a → IsUndone a v → Shows line b → IsUndone b w → a ≡ b
shown_one line a b v w (inl e) u (inl f) x = e ∙ sym f
shown_one line a b v w (inl e) u (inr r) x =
    let c = undone_call line v (subst (λ (y : List ℕ). IsUndone y v) e u) in
    absurd ((one_outcome line).never_both (Played c.0 c.1 c.2) r.0 c.3 r.1)
shown_one line a b v w (inr r) u (inl f) x =
    let c = undone_call line w (subst (λ (y : List ℕ). IsUndone y w) f x) in
    absurd ((one_outcome line).never_both (Played c.0 c.1 c.2) r.0 c.3 r.1)
shown_one line a b v w (inr r) u (inr q) x = all_mends_same 3 line a b r.3.0 q.3.0

-- and changed nothing for one reason
pub undone_one : (line : List ℕ) (v w : Ending) → IsUndone line v → IsUndone line w → v ≡ w
undone_one line AsInjected AsInjected u x = refl
undone_one line AsInjected AsOutside u x = absurd (x.1 u.1)
undone_one line AsOutside AsInjected u x = absurd (u.1 x.1)
undone_one line AsOutside AsOutside u x = refl
undone_one line AsInjected w u x = absurd x
undone_one line AsOutside w u x = absurd x
undone_one line v w u x = absurd u

-- one that isn't good with the mark of an unread line bears it all the same
shown_unread : (line shown : List ℕ) (why : Ending) → Shows line shown → IsUndone shown why → ¬ IsGood (unread_text line)
    → Becomes line (unread_text line) AsUnread
shown_unread line shown why (inl e) u never =
    let v = subst (λ (x : List ℕ). IsUndone x why) e u in
    let c = undone_call line why v in
    becomes_unread (λ good. good.1.1 why v)
    (λ half. whole_no_first line (Played c.0 c.1 c.2) half.0 half.1 half.2 half.3 c.3 tt half.4)
    (λ w l. never l.3) (λ bad other r short m good. (one_outcome line).never_both (Played c.0 c.1 c.2) bad c.3 r)
shown_unread line shown why (inr r) u never =
    becomes_unread (refused_not_good line r.0 r.1) (refused_no_half line r.0 r.1) (λ w l. never l.3)
    (λ bad other q short m good. good.1.1 why (subst (λ (x : List ℕ). IsUndone x why) (all_mends_same 3 line shown other r.3.0 m.0) u))

-- what is written of a line that is left out, or would be
pub left_as : (line : List ℕ) (why : Ending) (s : Settled) → (shown : List ℕ) × Shows line shown × IsUndone shown why
    → (IsLeftOut line why × (s.line.items ≡ unread_text line) × (s.ending ≡ why))
    ⊎ ((¬ IsGood (unread_text line)) × (s.line.items ≡ unread_text line) × (s.ending ≡ AsUnread)) → Becomes line s.line.items s.ending
left_as line why s h (inl k) =
    subst (λ (x : List ℕ). Becomes line x s.ending) (sym k.1) (subst (λ (x : Ending). Becomes line (unread_text line) x) (sym k.2) (becomes_undone k.0))
left_as line why s h (inr k) = unread_as line s (shown_unread line h.0 why h.1 h.2 k.0) (k.1, k.2)

-- ---- lines that are left unread

-- a first half that isn't good as a call that never returned
pub half_unread : (line : List ℕ) (p : ℕ) (n : Name) (from to : ℕ) → Spells line (Unfinished p n from to) → ¬ IsGood (unreturned_text line)
    → Becomes line (unread_text line) AsUnread
half_unread line p n from to h never =
    becomes_unread (λ good. whole_no_first line good.0.0 p n from to good.0.1 good.0.2 h) (λ half. never half.5)
    (read_stays line (Unfinished p n from to) h (first_done line p n from to h))
    (λ bad other r short m good. (one_outcome line).never_both (Unfinished p n from to) bad h r)

-- a second half alone
pub second_unread : (line : List ℕ) (p : ℕ) (n : Name) (from : ℕ) → Spells line (Resumed p n from) → Becomes line (unread_text line) AsUnread
second_unread line p n from h =
    becomes_unread (λ good. whole_no_second line good.0.0 p n from good.0.1 good.0.2 h)
    (λ half. let e = (one_outcome line).item (Unfinished half.0 half.1 half.2 half.3) (Resumed p n from) half.4 h in absurd cc)
    (read_stays line (Resumed p n from) h (second_done line p n from h))
    (λ bad other r short m good. (one_outcome line).never_both (Resumed p n from) bad h r)

-- a whole line that doesn't stay as it is
pub whole_unread : (line : List ℕ) (item : Item) → Spells line item → IsWhole item → ((why : Ending) → ¬ IsUndone line why) → ¬ IsStill line
    → Becomes line (unread_text line) AsUnread
whole_unread line item h w none never =
    becomes_unread (λ good. never good.1.0) (λ half. whole_no_first line item half.0 half.1 half.2 half.3 h w half.4)
    (read_stays line item h none)
    (λ bad other r short m good. (one_outcome line).never_both item bad h r)

-- a refused line that no mend makes good
pub refused_unread : (line : List ℕ) (bad : BadCall) → Refuses line bad → ((other : List ℕ) → IsMended line other → (why : Ending) → ¬ IsUndone other why)
    → ((other : List ℕ) → IsMended line other → ¬ IsGood other) → Becomes line (unread_text line) AsUnread
refused_unread line bad h done none =
    becomes_unread (refused_not_good line bad h) (refused_no_half line bad h) (refused_stays line bad h done) (λ worse other r short m. none other m)

-- a first half that is good as a call that never returned
pub half_returns : (half : List ℕ) (p : ℕ) (n : Name) (from to : ℕ) → Spells half (Unfinished p n from to) → (shown line : List ℕ) → shown ≡ line
    → line ≡ unreturned_text half → IsGood shown → Becomes half line AsUnreturned
half_returns half p n from to h shown line e f good =
    subst (λ (x : List ℕ). Becomes half x AsUnreturned) (sym f)
    (becomes_unreturned (p, n, from, to, h, subst IsGood (e ∙ f) good))

-- a refused line that its mend makes good
pub mend_good : (line : List ℕ) (bad : BadCall) (shown other : List ℕ) → Refuses line bad → length line ≤ 65535 → IsMended line other → shown ≡ other
    → IsGood shown → Becomes line other ByMends
mend_good line bad shown other r short m e good = becomes_mended bad r short m (subst IsGood e good)

-- one that its mend doesn't make good
pub mend_unread : (line : List ℕ) (bad : BadCall) (shown other : List ℕ) → Refuses line bad → IsMended line other → shown ≡ other
    → ((why : Ending) → ¬ IsUndone shown why) → ¬ IsGood shown → Becomes line (unread_text line) AsUnread
mend_unread line bad shown other r m e done bad_one =
    let same : (more : List ℕ) → IsMended line more → more ≡ shown = λ more n. sym (e ∙ all_mends_same 3 line other more m.0 n.0) in
    refused_unread line bad r (λ more n why u. done why (subst (λ (x : List ℕ). IsUndone x why) (same more n) u))
    (λ more n good. bad_one (subst IsGood (same more n) good))

-- a line that is too long is left unread
pub long_unread : (line : List ℕ) → 65535 < length line → Becomes line (unread_text line) AsUnread
long_unread line l =
    becomes_unread (λ good. omega (arith, l, good.2))
    (λ half. let k = length-append line (codes ") = ?") in let m = half.5.2 in omega (arith, l, k, m))
    (λ why left. let m = left.3.2 in omega (arith, l, m))
    (λ bad other r short m. absurd (omega (arith, l, short)))

-- what is written as it is ends so
pub kept_as : (line : List ℕ) (s : Settled) → IsGood line → (s.line.items ≡ line) × (s.ending ≡ AsItIs) → Becomes line s.line.items s.ending
kept_as line s good e =
    subst (λ (x : List ℕ). Becomes line x s.ending) (sym e.0) (subst (λ (x : Ending). Becomes line line x) (sym e.1) (becomes_itself good))
