-- The rows that a call leaves stand for the area list with the changed kinds: so the plan of a call is the model's
-- answer.
use Rattle.std.proofs.Common.{◌≡◌, ◌≢◌, ℕ, suc, ◌+◌, ◌/◌, ◌%◌, ◌<◌, ◌≤◌, List, [], ◌∷◌, length, Bool, true, false, cond, eqb, sym, refl, ap, ◌∙◌, ◌⊎◌, subst}
use Rattle.std.proofs.Common.{arith, inl, inr}
use Rattle.std.proofs.lemmas.Bool.{cases_lt, lt-ltb, le-ltb}
use Rattle.std.proofs.lemmas.List.Elements.{All-nil, All-cons}
use Rattle.std.specs.Prelude.{All, Option, Some, None}
use Rattle.std.specs.List.{splice}
use Rattle.page_types.specs.declared.TheConstants.{LIMIT, ROWS}
use Rattle.page_types.specs.declared.calls.Kind.{Kind}
use Rattle.page_types.specs.declared.calls.Call.{Call}
use Rattle.page_types.specs.declared.calls.Reply.{Reply}
use Rattle.page_types.specs.declared.calls.Reply.TheVariants.{Refused}
use Rattle.page_types.specs.declared.calls.Why.{Why}
use Rattle.page_types.specs.Named.{IsNamedKind, IsNamedOption}
use Rattle.page_types.specs.PlainReply.{plain_reply}
use Rattle.space_model.specs.declared.areas.Area.{Area}
use Rattle.space_model.specs.declared.judged.Change.{Change}
use Rattle.space_model.specs.declared.judged.Judged.TheVariants.{Refused as IsRefused, Keeps, Changes}
use Rattle.space_model.specs.Areas.{IsAreaList, HasKinds, HasNamedKinds, kind_at, gap_between, gaps_from, row_count}
use Rattle.space_model.specs.Effect.{patched, AreRising}
use Rattle.space_model.specs.Answers.{full_reply, Answers, IsEffect}
use Rattle.space_model.specs.Answers.Effect.{changes}
use Rattle.space_model.specs.Answers.Answers.{by_arguments, refused, kept}
use Rattle.space_model.specs.Judges.{IsJudged, patches_of}
use Rattle.space_model.specs.Judges.Makes.{within, beyond}
use Rattle.space_model.proofs.Changing.{kind_at-limit, rising_end, patched-behind}
use Rattle.space_model.proofs.Effects.{Says, says}
use Rattle.space_model.proofs.Effects.Says.{says_at, says_done}
use Rattle.space_model.proofs.Judgements.{made_answers}
use Rattle.space_model.proofs.SomeAnswer.{leaves_areas}
use Rattle.row_plans.specs.RowWords.{row_start, row_kind}
use Rattle.row_plans.specs.RowLists.{rows_start, DiffersFrom, ShowFrom, IsBareGap, with_row, areas_from}
use Rattle.row_plans.specs.Planning.{IsMade}
use Rattle.row_plans.specs.declared.planning.Cut.{Cut}
use Rattle.row_plans.specs.Plans.{PlanShows, IsRowList, spliced, IsPlan, ChangesPages, LeavesRows}
use Rattle.row_plans.proofs.RowLists.{AreNext, are_next, areas_back}
use Rattle.row_plans.proofs.Splices.{some_shown}

-- the rows are as many as the model counts of their areas
gap_one : (lo hi : ℕ) → lo < hi → gap_between lo hi ≡ 1
gap_one lo hi l = ap (λ b. cond b 1 0) (lt-ltb lo hi l)

gap_zero : (lo hi : ℕ) → hi ≤ lo → gap_between lo hi ≡ 0
gap_zero lo hi l = ap (λ b. cond b 1 0) (le-ltb lo hi l)

-- a page more before an area, or before the end, is a gap more
area_next : (page before word : ℕ) (rest : List ℕ) (o : Option Kind) → o ≢ None → row_start word ≡ page → before < page
    → gaps_from before (with_row (row_start word) o (rows_start rest) (areas_from rest)) ≡ 1 + gaps_from page
    (with_row (row_start word) o (rows_start rest) (areas_from rest))
area_next page before word rest None some e l = absurd (some refl)
area_next page before word rest (Some k) some e l = let a = gap_one before (row_start word) (omega arith) in
    let b = gap_zero page (row_start word) (omega arith) in omega arith

starts_area : (page before word : ℕ) (rest : List ℕ) (kinds : ℕ → Option Kind) → ShowFrom page rest kinds → DiffersFrom word rest
    → row_kind word ≡ None → before < page
    → gaps_from before (areas_from rest) ≡ 1 + gaps_from page (areas_from rest)
starts_area page before word [] kinds show differs is l = let e : page ≡ LIMIT = show in
    let a = gap_one before LIMIT (omega arith) in let b = gap_zero page LIMIT (omega arith) in omega arith
starts_area page before word (next ∷ rest) kinds show differs is l = area_next page before next rest (row_kind next) (λ none. differs (is ∙ sym none)) show.0 l

row_counted : (page word : ℕ) (rest : List ℕ) (kinds : ℕ → Option Kind) (o : Option Kind) → row_kind word ≡ o
    → ShowFrom page (word ∷ rest) kinds → length rest ≡ length (areas_from rest) + gaps_from (rows_start rest) (areas_from rest)
    → 1 + length rest ≡ length (with_row (row_start word) o (rows_start rest) (areas_from rest)) + gaps_from page
    (with_row (row_start word) o (rows_start rest) (areas_from rest))
row_counted page word rest kinds None is show less = let a = starts_area (rows_start rest) page word rest kinds show.4 show.2 is show.1 in omega arith
row_counted page word rest kinds (Some k) is show less = let e = show.0 in let b = gap_zero page (row_start word) (omega arith) in omega arith

rows_counted : (page : ℕ) (rows : List ℕ) (kinds : ℕ → Option Kind) → ShowFrom page rows kinds
    → length rows ≡ length (areas_from rows) + gaps_from page (areas_from rows)
rows_counted page [] kinds show = let e : page ≡ LIMIT = show in let b = gap_zero page LIMIT (omega arith) in omega arith
rows_counted page (word ∷ rest) kinds show = let e : suc (length rest) ≡ 1 + length rest = omega arith in
    e ∙ row_counted page word rest kinds (row_kind word) refl show (rows_counted (rows_start rest) rest kinds show.4)

-- the areas that a row list stands for are in order
pub areas_in_order : (rows : List ℕ) → IsRowList rows → IsAreaList (areas_from rows)
areas_in_order rows is = (are_next 0 rows (kind_at (areas_from rows)) is.show).areas

-- a row list has as many rows as the model counts of its areas
pub counted_rows : (rows : List ℕ) → IsRowList rows → length rows ≡ row_count (areas_from rows)
counted_rows rows is = rows_counted 0 rows (kind_at (areas_from rows)) is.show

-- where no row goes and none comes the rows are as they were
pub as_they_were : {P : Type 0} (number : P → ℕ) (old more : List ℕ) (cut : Cut P) → number cut.at ≡ 0 → cut.gone ≡ 0 → more ≡ []
    → spliced number old cut more ≡ old
as_they_were number old more cut first end none = λ i. splice old (first i) (first i + end i) (none i)

-- a call that changes nothing plans the rows as they are
module _ {old plan : List ℕ} (c : Call) {reply : Reply} {count : ℕ} (is : IsRowList old) (same : plan ≡ old) (counts : count ≡ length old) where
  plan_same : Answers (areas_from old) c reply (areas_from old) → IsPlan c reply count plan (areas_from old)
  plan_same answers = record {
    left = areas_from old;
    answers = answers;
    counted = counts ∙ counted_rows old is;
    shows = subst (λ (l : List ℕ). PlanShows l (kind_at (areas_from old))) (sym same) is;
  }

  -- the plan of a call that its arguments decide is that reply and the rows as they are
  pub plan_plain : plain_reply c ≡ Some reply → IsPlan c reply count plan (areas_from old)
  plan_plain decided = plan_same (by_arguments decided refl)

  -- the plan of a call that the areas refuse is the refusal and the rows as they are
  pub plan_refused : (why : Why) → plain_reply c ≡ None → IsJudged (kind_at (areas_from old)) c (IsRefused why) → reply ≡ Refused why
      → IsPlan c reply count plan (areas_from old)
  plan_refused why open_still refuses says = plan_same (refused why open_still refuses says refl)

  -- the plan of a call that changes nothing is its reply and the rows as they are
  pub plan_kept : (said : Reply) → plain_reply c ≡ None → IsJudged (kind_at (areas_from old)) c (Keeps said) → reply ≡ said
      → IsPlan c reply count plan (areas_from old)
  plan_kept said open_still keeps says =
      plan_same (kept open_still (subst (λ r. IsJudged (kind_at (areas_from old)) c (Keeps r)) (sym says) keeps) refl)

-- a change that was judged rightly isn't answered by a refusal
says_unrefused : (reply : Reply) (why : Why) → Says reply → reply ≢ Refused why
says_unrefused reply why (says_at n says) refusal = cc
says_unrefused reply why (says_done says) refusal = cc

-- a change that is made with its own reply, or leaves the rows: its patches are what the call does
pub change_made : {P : Type 0} (A : List Area) (c : Call) (change : Change) (reply : Reply) (cut : Cut P) (more : List ℕ) → plain_reply c ≡ None
    → IsJudged (kind_at A) c (Changes change) → LeavesRows cut more ⊎ (reply ≡ change.reply) → LeavesRows cut more ⊎ ChangesPages A c reply
change_made A c change reply cut more open_still judged (inl leaves) = inl leaves
change_made A c change reply cut more open_still judged (inr says) =
    inr (
      patches_of change,
      change.full,
      open_still,
      subst (λ r. IsEffect (kind_at A) c (changes (patches_of change) r change.full)) (sym says) judged.0,
    )

-- and where it is refused it leaves the rows
pub change_refused : {P : Type 0} (kinds : ℕ → Option Kind) (c : Call) (change : Change) (reply : Reply) (cut : Cut P) (more : List ℕ)
    → IsJudged kinds c (Changes change) → LeavesRows cut more ⊎ (reply ≡ change.reply) → (why : Why) → reply ≡ Refused why → LeavesRows cut more
change_refused kinds c change reply cut more judged (inl leaves) why refusal = leaves
change_refused kinds c change reply cut more judged (inr says_own) why refusal =
    absurd (says_unrefused change.reply why (says kinds c (patches_of change) change.reply change.full judged.0.1).0 (sym says_own ∙ refusal))

-- the kind of a row has named bits alone
said_named : (b : Bool) (prot : ℕ) (shared sealed : Bool) → prot < 8
    → IsNamedOption (cond b (Some (record { prot = record { 0 = prot }; shared = shared; sealed = sealed })) None)
said_named true prot shared sealed few = few
said_named false prot shared sealed few = tt

word_named : (word : ℕ) → IsNamedOption (row_kind word)
word_named word = said_named (eqb (word / 32 % 2) 1) (word % 8) (eqb (word / 8 % 2) 1) (eqb (word / 16 % 2) 1) (omega arith)

with_named : (lo : ℕ) (o : Option Kind) (hi : ℕ) (rest : List Area) → IsNamedOption o → HasNamedKinds rest → HasNamedKinds (with_row lo o hi rest)
with_named lo None hi rest own others = others
with_named lo (Some k) hi rest own others = All-cons (λ x. IsNamedKind x.kind) (record { lo = lo; hi = hi; kind = k }) rest own others

-- so have the areas that rows stand for
pub areas_named : (rows : List ℕ) → HasNamedKinds (areas_from rows)
areas_named [] = All-nil (λ x. IsNamedKind x.kind)
areas_named (word ∷ rest) =
    with_named (row_start word) (row_kind word) (rows_start rest) (areas_from rest) (word_named word) (areas_named rest)

-- a change that was judged rightly, as it is made, is the plan
pub plan_made : (old : List ℕ) {plan : List ℕ} (c : Call) {change : Change} {reply : Reply} {count : ℕ} → plain_reply c ≡ None
    → IsJudged (kind_at (areas_from old)) c (Changes change) → IsMade change reply count plan (areas_from old)
    → IsPlan c reply count plan (areas_from old)
plan_made old c {change} {reply} open_still judged m = record {
  left = m.left;
  answers = made_answers (areas_from old) c change reply m.left open_still judged m.made;
  counted = m.counted;
  shows = m.shows;
}

-- rows that show the kinds of a change are those of the area list that it leaves
module _ {old : List ℕ} (rows : List ℕ) (change : Change) (is : IsRowList old) (rising : AreRising 0 (patches_of change))
    (shown : ShowFrom 0 rows (patched (patches_of change) (kind_at (areas_from old)))) where
  left_kinds : HasKinds (patched (patches_of change) (kind_at (areas_from old))) (areas_from rows)
  left_kinds =
      let A = areas_from old in
      let kinds : ℕ → Option Kind = patched (patches_of change) (kind_at A) in
      let end = (rising_end 0 (patches_of change) rising).1 in
      let next : AreNext 0 rows kinds (areas_from rows) = are_next 0 rows kinds shown in
      record {
        areas = next.areas;
        kinds_are = λ x. elim (cases_lt x LIMIT) [
          | inl lt ↦ next.same x (omega arith) lt
          | inr ge ↦ kind_at-limit (areas_from rows) next.areas x ge
              ∙ sym (patched-behind 0 (patches_of change) (kind_at A) x rising (omega arith)
              ∙ kind_at-limit A (areas_in_order old is) x ge)
        ];
      }

  left_count : length rows ≡ row_count (areas_from rows)
  left_count = rows_counted 0 rows (patched (patches_of change) (kind_at (areas_from old))) shown

  -- where the changed rows are at most ROWS, the change is made with its reply and these rows
  pub made_done : {reply : Reply} {count : ℕ} → length rows ≤ ROWS → All IsBareGap rows
      → reply ≡ change.reply → count ≡ length rows → IsMade change reply count rows (areas_from old)
  made_done few gaps says counts = record {
    left = areas_from rows;
    made = within left_kinds (subst (λ (n : ℕ). n ≤ ROWS) left_count few) says;
    counted = counts ∙ left_count;
    shows = record {
      some = some_shown rows _ shown;
      few = few;
      show = subst (λ (k : ℕ → Option Kind). ShowFrom 0 rows k) (λ i p. sym (left_kinds.kinds_are p) i) shown;
      gaps = gaps;
    };
  }

  -- where they are more than ROWS, it has the full reply, and the rows are as they were
  pub made_full : {plan : List ℕ} {reply : Reply} {count : ℕ} → ROWS < length rows → plan ≡ old
      → reply ≡ full_reply change.full (length rows) → count ≡ length old → IsMade change reply count plan (areas_from old)
  made_full many same says counts = record {
    left = areas_from old;
    made = beyond (areas_from rows) left_kinds (subst (λ (n : ℕ). ROWS < n) left_count many)
        (says ∙ ap (full_reply change.full) left_count) refl;
    counted = counts ∙ counted_rows old is;
    shows = subst (λ (l : List ℕ). PlanShows l (kind_at (areas_from old))) (sym same) is;
  }

-- the rows that a call leaves are a row list
pub planned_list : (old plan : List ℕ) (c : Call) (reply : Reply) (count : ℕ) → IsRowList old → IsPlan c reply count plan (areas_from old)
    → IsRowList plan
planned_list old plan c reply count is p =
    let areas = leaves_areas (areas_from old) c reply p.left (areas_in_order old is) p.answers in
    let back : areas_from plan ≡ p.left = areas_back plan p.left p.shows.show areas in
    subst (λ A. PlanShows plan (kind_at A)) (sym back) p.shows
