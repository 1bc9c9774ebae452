-- Up to which page old rows were gone through, row by row: from the row before a page on, or from the first one, and
-- then one row further.
use Rattle.std.proofs.Common.{ℕ, ◌≡◌, ◌+◌, ◌-◌, ◌<◌, ◌≤◌, ◌∙◌, List, length, drop, get_or, min, sym, refl, ap, subst, arith, inl, inr}
use Rattle.std.proofs.lemmas.Bool.{cases_lt}
use Rattle.std.specs.Prelude.{Option, Some, None, slice_index}
use Rattle.page_types.specs.declared.calls.Kind.{Kind}
use Rattle.page_types.specs.Named.{IsNamedOption}
use Rattle.row_plans.specs.declared.planning.Come.{Come}
use Rattle.row_plans.specs.RowWords.{row_start, row_kind}
use Rattle.row_plans.specs.RowLists.{rows_start, ShowFrom}
use Rattle.row_plans.specs.Plans.{IsPlaceOf}
use Rattle.row_plans.specs.Planning.{StartBefore, IsCome, come_to}
use Rattle.row_plans.proofs.RowPages.{row_pages, first_row, last_pages, none_from, next_come}
use Rattle.row_plans.proofs.Splices.{start_at}

module _ {P : Type 0} (rows : List ℕ) (number : P → ℕ) where
  -- up to page 0 there is none
  pub come_first : (kinds : ℕ → Option Kind) (first : P) (page : ℕ) → ShowFrom 0 rows kinds → number first ≡ 0 → page ≡ 0
      → IsCome rows number page (record { at = first; gone = 0; kind = None; next = Some first; end = 0 })
  come_first kinds first page show zero none =
      let f = first_row rows kinds show in let some = f.0 in
      let at : number first + 0 ≡ 0 = omega arith in
      record {
        before = record { there = omega arith; ahead = omega arith; behind = λ l. absurd (omega arith) };
        kind = λ l. absurd (omega arith);
        named = tt;
        next = (omega arith, omega arith);
        end = sym (ap (λ n. rows_start (drop n rows)) at ∙ f.1);
      }

  -- up to a page behind a row's start, and not behind its end, there is that row
  pub come_row : (at : P) (page word end : ℕ) (kind : Option Kind) (next : Option P) → 0 < page → number at < length rows
      → word ≡ slice_index rows (number at) → end ≡ rows_start (drop (number at + 1) rows) → row_start word ≤ page - 1 → page - 1 < end
      → kind ≡ row_kind word → IsNamedOption kind → IsPlaceOf rows number (number at + 1) next
      → IsCome rows number page (record { at = at; gone = 1; kind = kind; next = next; end = end })
  come_row at page word end kind next some there word_is end_is from until kind_is named next_is =
      let back : number at + 1 - 1 ≡ number at = omega arith in
      let begins : rows_start (drop (number at) rows) ≡ row_start (get_or rows (number at) 0) = start_at rows (number at) there in
      let starts : row_start word ≡ row_start (get_or rows (number at) 0) = ap row_start word_is in
      let low : rows_start (drop (number at) rows) < page = omega arith in
      record {
        before =
            record {
              there = omega arith;
              ahead = omega arith;
              behind = λ l. subst (λ (n : ℕ). rows_start (drop n rows) < page) (sym back) low;
            };
        kind = λ l. kind_is ∙ ap row_kind (word_is ∙ ap (slice_index rows) (sym back));
        named = named;
        next = next_is;
        end = end_is;
      }

  -- and then one row further, up to where it ends or to a page before that
  pub come_on : (kinds : ℕ → Option Kind) (at to hi : ℕ) (come next : Come P) → ShowFrom 0 rows kinds → IsCome rows number at come
      → at ≡ min come.end hi → at < hi → to ≡ min next.end hi → come_to number come < length rows
      → next.at ≡ come.at → next.gone ≡ come.gone + 1 → next.kind ≡ row_kind (slice_index rows (come_to number come))
      → IsNamedOption next.kind → IsPlaceOf rows number (come_to number come + 1) next.next
      → next.end ≡ rows_start (drop (come_to number come + 1) rows) → IsCome rows number to next
  come_on kinds at to hi come next show is starts below ends there same gone kind named next_is end_is =
      let i : ℕ = come_to number come in
      let one : number next.at ≡ number come.at = ap number same in
      let e : i + 1 ≡ come_to number next = omega arith in
      let back : i ≡ come_to number next - 1 = omega arith in
      let own = row_pages rows kinds i show there refl refl refl in
      let some = own.some in
      let from : at ≡ min (rows_start (drop i rows)) hi = starts ∙ ap (λ x. min x hi) is.end in
      let until : to ≡ min (rows_start (drop (i + 1) rows)) hi = ends ∙ ap (λ x. min x hi) end_is in
      record {
        before = subst (StartBefore rows to) e (next_come rows i at to hi from below until some own.begins there);
        kind = λ l. kind ∙ ap (λ n. row_kind (slice_index rows n)) back;
        named = named;
        next = subst (λ (n : ℕ). IsPlaceOf rows number n next.next) e next_is;
        end = end_is ∙ ap (λ n. rows_start (drop n rows)) e;
      }

  -- the pages from there on, up to where the row behind starts, are of the kind of the last one
  pub come_kind : (kinds : ℕ → Option Kind) (page : ℕ) (come : Come P) → ShowFrom 0 rows kinds → IsCome rows number page come
      → (p : ℕ) → page ≤ p → p < come.end → kinds p ≡ come.kind
  come_kind kinds page come show is p low high = elim (cases_lt 0 (come_to number come)) [
    | inl more ↦
        let before = is.before in let there = before.there in let behind = before.behind more in let end = is.end in
        let r = last_pages rows kinds (come_to number come) show more there refl (is.kind more) refl in
        let b = r.begins in
        r.all p (omega arith) (omega arith)
    | inr ge ↦ let end = is.end in absurd (none_from rows kinds (come_to number come) p show (omega arith) (omega arith))
  ]
