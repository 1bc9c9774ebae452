-- How far a check has come: the lines before are right, and what is remembered of their entries is so. From there each
-- end of a check is a verdict on all lines.
use Rattle.std.specs.Prelude.{All}
use Rattle.std.specs.List.{AllZip}
use Rattle.std.proofs.Common.{◌≡◌, ℕ, ◌+◌, List, [], ◌∷◌, ◌++◌, length, Some, None}
use Rattle.std.proofs.Common.{refl, sym, ap, ◌∙◌, subst, inl, inr, arith, append_assoc, length-append, Option}
use Rattle.std.proofs.lemmas.List.Elements.{All-append, All-cons, All-nil}
use Rattle.space_model.specs.declared.areas.Area.{Area}
use Rattle.space_model.specs.declared.entries.Entry.{Entry}
use Rattle.space_model.proofs.Histories.{runs_more}
use Rattle.history_check.specs.declared.verdict.WrongLog.{WrongLog}
use Rattle.history_check.specs.declared.verdict.WrongLog.TheVariants.{Rest}
use Rattle.history_check.specs.declared.verdict.Verdict.{Verdict}
use Rattle.history_check.specs.declared.verdict.Verdict.TheVariants.{Legal, Wrong}
use Rattle.history_check.specs.declared.taking.Seen.{Seen}
use Rattle.history_check.specs.Logs.{AreRight}
use Rattle.history_check.specs.LogLines.{BeginsLog, IsLogLine}
use Rattle.history_check.specs.Verdicts.{FailsInLog, IsVerdict}
use Rattle.history_check.specs.Checking.{IsSeen, IsTaken, TellsRest}

-- the check has come to these last lines
pub record Reached (A : List Area) (lines rest : List (List ℕ)) (seen : Seen) (B : List Area) : Type 0 where
  pub front : List (List ℕ)
  pub entries : List Entry
  pub whole : lines ≡ front ++ rest
  pub log_lines : All BeginsLog front
  pub right : AreRight A front entries B
  pub seen_are : IsSeen entries seen

-- at first no line is right
pub reached_none : (A : List Area) (lines : List (List ℕ)) (seen : Seen) → IsSeen [] seen → Reached A lines lines seen A
reached_none A lines seen h = record {
  front = [];
  entries = [];
  whole = refl;
  log_lines = All-nil BeginsLog;
  right = record { spelled = tt; runs = (tt, refl); rise = h.rise };
  seen_are = h;
}

spelled_more : (front : List (List ℕ)) (entries : List Entry) (text : List ℕ) (e : Entry) → AllZip IsLogLine front entries → IsLogLine text e
    → AllZip IsLogLine (front ++ text ∷ []) (entries ++ e ∷ [])
spelled_more [] [] text e all line = (line, tt)
spelled_more (l ∷ front) (f ∷ entries) text e all line = (all.0, spelled_more front entries text e all.1 line)
spelled_more front entries text e all line = absurd all

as_many : (front : List (List ℕ)) (entries : List Entry) → AllZip IsLogLine front entries → length front ≡ length entries
as_many [] [] all = refl
as_many (l ∷ front) (f ∷ entries) all = let more = as_many front entries all.1 in omega arith
as_many front entries all = absurd all

all_more : (front : List (List ℕ)) (text : List ℕ) → All BeginsLog front → BeginsLog text → All BeginsLog (front ++ text ∷ [])
all_more front text all one = All-append BeginsLog front (text ∷ []) all (All-cons BeginsLog text [] one (All-nil BeginsLog))

-- a line more is right
pub reached_more : (A : List Area) (lines all : List (List ℕ)) (text : List ℕ) (rest : List (List ℕ)) (seen new : Seen) (B C : List Area)
    (wrong : Option WrongLog) → all ≡ text ∷ rest → Reached A lines all seen B → BeginsLog text → wrong ≡ None
    → ((before : List Entry) → IsSeen before seen → IsTaken before B text wrong C new) → Reached A lines rest new C × (new.next ≡ seen.next + 1)
reached_more A lines all text rest seen new B C wrong cut h begins none taken =
    let (e, line, place, step, now) = subst (λ w. IsTaken h.entries B text w C new) none (taken h.entries h.seen_are) in
    let was = h.seen_are.number in let more = now.number in
    let long = length-append h.entries (e ∷ []) in (
      record {
        front = h.front ++ text ∷ [];
        entries = h.entries ++ e ∷ [];
        whole = h.whole ∙ ap (λ ls. h.front ++ ls) cut ∙ sym (append_assoc h.front (text ∷ []) rest);
        log_lines = all_more h.front text h.log_lines begins;
        right = record {
          spelled = spelled_more h.front h.entries text e h.right.spelled line;
          runs = runs_more h.entries 0 A B C e h.right.runs (place.number ∙ (let z : length h.entries ≡ 0 + length h.entries = omega arith in z)) step.0 step.1;
          rise = place.order;
        };
        seen_are = now;
      },
      omega (arith, was, more, long),
    )

wrong_line : (A : List Area) (lines : List (List ℕ)) (line : ℕ) (why : WrongLog) → FailsInLog A lines line why → IsVerdict A lines (Wrong line why)
wrong_line A lines line Rest f = elim f.fails [ inl none ↦ absurd (let e = none.0 in cc) | inr some ↦ absurd some.2 ]
wrong_line A lines line why f = f

-- the next line is wrong
pub reached_wrong : (A : List Area) (lines all : List (List ℕ)) (text : List ℕ) (rest : List (List ℕ)) (seen new : Seen) (B C : List Area)
    (wrong : Option WrongLog) (why : WrongLog) → all ≡ text ∷ rest → Reached A lines all seen B → BeginsLog text → wrong ≡ Some why
    → ((before : List Entry) → IsSeen before seen → IsTaken before B text wrong C new) → IsVerdict A lines (Wrong (seen.next + 1) why)
reached_wrong A lines all text rest seen new B C wrong why cut h begins some taken = wrong_line A lines (seen.next + 1) why (record {
  front = h.front;
  text = text;
  behind = rest;
  entries = h.entries;
  state = B;
  whole = h.whole ∙ ap (λ ls. h.front ++ ls) cut;
  log_lines = all_more h.front text h.log_lines begins;
  right = h.right;
  place = let many = as_many h.front h.entries h.right.spelled in let next = h.seen_are.number in omega (arith, many, next);
  fails = subst (λ w. IsTaken h.entries B text w C new) some (taken h.entries h.seen_are);
})

-- the log ends there, and so does the text
pub reached_end : (A : List Area) (lines all : List (List ℕ)) (seen : Seen) (B : List Area) → all ≡ [] → Reached A lines all seen B
    → IsVerdict A lines (Legal seen.next)
reached_end A lines all seen B ended h = (
  h.entries,
  record {
    log = h.front;
    rest = [];
    last = B;
    cut = record { whole = h.whole ∙ ap (λ ls. h.front ++ ls) ended; log_lines = h.log_lines; ended = tt };
    right = h.right;
    whole = inl refl;
  },
  h.seen_are.number,
)

rest_follows : (A : List Area) (lines : List (List ℕ)) (text : List ℕ) (rest : List (List ℕ)) (seen : Seen) (B : List Area) (v : Verdict)
    → Reached A lines (text ∷ rest) seen B → (BeginsLog text → ⊥) → TellsRest B (text ∷ rest) seen.next v → IsVerdict A lines v
rest_follows A lines text rest seen B (Legal n) h other told = (
  h.entries,
  record {
    log = h.front;
    rest = text ∷ rest;
    last = B;
    cut = record { whole = h.whole; log_lines = h.log_lines; ended = other };
    right = h.right;
    whole = inr (told.1.lines, told.1.long);
  },
  told.0 ∙ h.seen_are.number,
)
rest_follows A lines text rest seen B (Wrong line why) h other (cause, count, place, fails) = subst (λ w. IsVerdict A lines (Wrong line w)) (sym cause)
    (record {
      log = h.front;
      rest = text ∷ rest;
      entries = h.entries;
      last = B;
      cut = record { whole = h.whole; log_lines = h.log_lines; ended = other };
      right = h.right;
      some_rest = λ none. cc;
      count = count;
      place = let many = as_many h.front h.entries h.right.spelled in let next = h.seen_are.number in omega (arith, many, next, place);
      fails = fails;
    })

-- the log ends there, and a rest follows
pub reached_rest : (A : List Area) (lines all : List (List ℕ)) (text : List ℕ) (rest : List (List ℕ)) (seen : Seen) (B areas : List Area) (v : Verdict)
    → all ≡ text ∷ rest → areas ≡ B → Reached A lines all seen B → (BeginsLog text → ⊥) → TellsRest areas all seen.next v → IsVerdict A lines v
reached_rest A lines all text rest seen B areas v cut same h other told =
    rest_follows A lines text rest seen B v (subst (λ ls. Reached A lines ls seen B) cut h) other
    (subst (λ X. TellsRest X (text ∷ rest) seen.next v) same (subst (λ ls. TellsRest areas ls seen.next v) cut told))
