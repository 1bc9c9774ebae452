-- What the text at a place does, by its role: a text alone comes, a first half begins its call, and a second half ends
-- it.
use Rattle.std.proofs.Common.{◌≡◌, ◌≢◌, ℕ, ◌+◌, ◌≤◌, ◌<◌, Bool, true, false, List, [], ◌∷◌, ◌++◌, length, take, drop, get_or, Option, Some, None, refl, sym, ap, subst, ◌∙◌, inl, inr, arith}
use Rattle.std.specs.Prelude.{IfSome, IsNone, codes}
use Rattle.std.specs.Bool.{Decides}
use Rattle.raw_lines.specs.Beginnings.{ChangesSpace}
use Rattle.strace_reader.specs.declared.item.Item.TheVariants.{Played, Other}
use Rattle.strace_reader.specs.Grammar.{EndsWith, IsCut, Spells}
use Rattle.strace_reader.proofs.FormFacts.{cut_same}
use Rattle.strace_reader.proofs.OneOutcome.{one_outcome}
use Rattle.raw_lines.specs.Marks.{unread_text}
use Rattle.raw_logs.specs.declared.counts.Counts.{Counts}
use Rattle.raw_logs.specs.Log.{Numbered, line_of}
use Rattle.raw_trace.specs.declared.fault.Trouble.{Trouble}
use Rattle.raw_trace.specs.declared.fault.Fault.{Fault}
use Rattle.raw_trace.specs.declared.halves.Role.{Role}
use Rattle.raw_trace.specs.declared.halves.Role.TheVariants.{Alone, First, Second}
use Rattle.raw_trace.specs.declared.order.Ordering.{Ordering}
use Rattle.raw_trace.specs.declared.piece.Piece.{Piece}
use Rattle.raw_trace.specs.declared.settling.Ending.{Ending}
use Rattle.raw_trace.specs.declared.settling.Ending.TheVariants.{AsUnread}
use Rattle.raw_trace.specs.declared.writing.Written.{Written}
use Rattle.raw_trace.specs.Order.{Entry, Begins, Ends, Comes, frees_for, put, of_others, write_entry, does}
use Rattle.strace_reader.specs.declared.item.Recorded.{Recorded}
use Rattle.page_types.specs.declared.calls.Call.{Call}
use Rattle.raw_trace.specs.Places.{Becomes, becomes_itself, becomes_mended, becomes_unreturned, becomes_undone, becomes_unread, IsReadAs, Changes, IsOtherForm, doubles, IsCause, IsTrouble, other_form, IsEntry}
use Rattle.raw_trace.specs.Places.{HasReading, ReadText, Part, Whole, Back, part, IsDone, IsStep}
use Rattle.raw_trace.specs.Waiting.{entry, entries}
use Rattle.raw_trace.specs.Stages.{fed_by, IsRole, AreRoles, WroteLines, WroteDue, EndsDue, DidSome, EndsAll}
use Rattle.raw_trace.proofs.FoundHalves.{fed_length}
use Rattle.raw_trace.proofs.GivenSteps.{did_more, did_end}
use Rattle.raw_trace.proofs.LineCalls.{unread_passes}
use Rattle.raw_trace.proofs.ReadTexts.{reading_of}
use Rattle.raw_trace.proofs.TextPlaces.{half_ends, rest_begins, line_at, IsShown, RoleAt, role_at, shown_is}
use Rattle.raw_trace.proofs.Turns.{wrote_none}

-- ---- the call of a line

-- a line that is left unread is no call
pub unread_none : (from line : List ℕ) (ending : Ending) → Becomes from line ending → ending ≡ AsUnread → IsReadAs line None
unread_none from line ending (becomes_undone l) e = λ pid done recorded s.
    let k = (one_outcome (unread_text from)).item (Played pid done recorded) Other s (unread_passes from) in absurd cc
unread_none from line ending (becomes_unread never half left none) e = λ pid done recorded s.
    let k = (one_outcome (unread_text from)).item (Played pid done recorded) Other s (unread_passes from) in absurd cc
unread_none from line ending becomes e = absurd cc

-- any other is short
pub read_short : (from line : List ℕ) (ending : Ending) → Becomes from line ending → ending ≢ AsUnread → length line ≤ 65535
read_short from line ending (becomes_itself g) n = g.2
read_short from line ending (becomes_mended bad r short m g) n = g.2
read_short from line ending (becomes_unreturned h) n = h.5.2
read_short from line ending (becomes_undone l) n = l.3.2
read_short from line ending (becomes_unread never half left none) n = absurd (n refl)

-- why a line that is left unread is
pub trouble_unread : (line written : List ℕ) (ending : Ending) (o : Option Trouble) → ending ≡ AsUnread
    → IfSome o (λ t. (length line ≤ 65535) × IsCause line t) → (IsNone o → 65535 < length line) → IsTrouble line written ending o
trouble_unread line written ending None u some none = (λ e. none refl, λ n. absurd (n u))
trouble_unread line written ending (Some t) u some none = inl (u, some.0, some.1)

-- why one that was read isn't played
pub trouble_read : (line written : List ℕ) (ending : Ending) (o : Option Trouble) → ending ≢ AsUnread
    → IfSome o (λ t. IsOtherForm written × (t ≡ other_form)) → (IsNone o → ¬ IsOtherForm written) → IsTrouble line written ending o
trouble_read line written ending None u some none = (λ e. absurd (u e), λ n. none refl)
trouble_read line written ending (Some t) u some none = inr (u, some.0, some.1)

-- what a line changes is told by its body
pub changes_by : (b : Bool) (line : List ℕ) (pid : ℕ) (body : List ℕ) → ¬ EndsWith (codes "= ?") line → IsCut line pid body
    → Decides b (ChangesSpace body) → Decides b (Changes line)
changes_by b line pid body n cut d =
    (λ t. (n, pid, body, cut, d.0 t), λ g. d.1 (subst ChangesSpace (cut_same line g.1 pid g.2 body g.3 cut).1 g.4))

false_true : false ≡ true → ⊥
false_true e = cc

pub ended_unchanged : (line : List ℕ) → EndsWith (codes "= ?") line → Decides false (Changes line)
ended_unchanged line e = (λ t. absurd (false_true t), λ g. absurd (g.0 e))

-- a line that is passed over has another form where it changes the space
pub other_changes : (b : Bool) (line : List ℕ) → Spells line Other → Decides b (Changes line) → Decides b (IsOtherForm line)
other_changes b line s d = (λ t. inl (s, d.0 t), is)
  where
    is : IsOtherForm line → b ≡ true
    is (inl g) = d.1 g.1
    is (inr g) = let e = (one_outcome line).item Other (Played g.0 g.1 g.2) s g.3 in absurd cc

-- a call has where it doubles pages
pub call_doubles : (b : Bool) (line : List ℕ) (pid : ℕ) (call : Call) (recorded : Option Recorded) → Spells line (Played pid call recorded)
    → b ≡ doubles call recorded → Decides b (IsOtherForm line)
call_doubles b line pid call recorded s e = (λ t. inr (pid, call, recorded, s, sym e ∙ t), is)
  where
    is : IsOtherForm line → b ≡ true
    is (inl g) = let k = (one_outcome line).item Other (Played pid call recorded) g.0 s in absurd cc
    is (inr g) =
        let k = (one_outcome line).item (Played pid call recorded) (Played g.0 g.1 g.2) s g.3 in
        let c : call ≡ g.1 = cc in
        let r : recorded ≡ g.2 = cc in
        e ∙ (λ i. doubles (c i) (r i)) ∙ g.4

-- the entry of a piece
pub entry_of : (number : ℕ) (joined : Bool) (line body : List ℕ) (piece : Piece) → piece.number ≡ number → piece.joined ≡ joined
    → IsCut line piece.process body → Becomes line piece.line.items piece.ending → IsTrouble line piece.line.items piece.ending piece.trouble
    → IsReadAs piece.line.items piece.call → IsEntry number joined line (entry piece)
entry_of number joined line body piece n j c b t r =
    record { number_is = n; joined_is = j; body = body; process_is = c; becomes = b; troubled = t; read = r }

-- ---- by role

-- the entry of the text at a place
entry_at : (joined : Bool) (number : ℕ) (shown : List ℕ) (line : Numbered) (e : Entry) → line_of number shown ≡ line
    → IsEntry number joined shown e → IsEntry line.number joined line.text e
entry_at joined number shown line e same is = subst (λ (l : Numbered). IsEntry l.number joined l.text e) same is

-- a text alone comes
alone_step : (lines : List Numbered) (place number : ℕ) (fed later : List ReadText) (role : Role) (shown : List ℕ) (e : Entry)
    → (x : RoleAt lines place fed later role) → role ≡ Alone → IsShown lines place number shown → IsEntry number false shown e
    → IsStep (fed_by [] fed) x.text x.rest (Comes e)
alone_step lines place number fed later role shown e x r is en =
    let all = fed ++ (x.text ∷ x.rest) in
    let whole : part (fed_by [] fed) x.text x.rest x.text.reading ≡ Whole = subst (IsRole all (fed_by [] fed) x.text x.rest) r x.has in
    subst (λ (o : Part). IsDone x.text.line o (Comes e)) (sym whole)
    (entry_at false number shown x.text.line e (shown_is lines place number shown x.text is x.at) en)

-- a first half begins its call
first_step : (lines : List Numbered) (place number other to behind : ℕ) (fed later : List ReadText) (role : Role) (n : ℕ) (shown second line : List ℕ)
    (e : Entry) → (x : RoleAt lines place fed later role) → role ≡ First other to behind → IsShown lines place number shown
    → IsShown lines other n second → line ≡ take to shown ++ drop behind second → IsEntry number true line e
    → IsStep (fed_by [] fed) x.text x.rest (Begins e)
first_step lines place number other to behind fed later role n shown second line e x r is other_is le en =
    let all = fed ++ (x.text ∷ x.rest) in
    let has = subst (IsRole all (fed_by [] fed) x.text x.rest) r x.has in
    let one = shown_is lines place number shown x.text is x.at in
    let two = shown_is lines other n second has.0 other_is (line_at lines all other has.0 x.reads has.1) in
    let same : line ≡ take to x.text.line.text ++ drop behind has.0.line.text =
    le ∙ ap (λ (l : Numbered). take to l.text ++ drop behind second) one ∙ ap (λ (l : Numbered). take to x.text.line.text ++ drop behind l.text) two in
    subst (λ (o : Part). IsDone x.text.line o (Begins e)) (sym has.8)
    (subst (λ (l : List ℕ). IsEntry x.text.line.number true l e) same (subst (λ (l : Numbered). IsEntry l.number true line e) one en))

-- a second half ends it
second_step : (lines : List Numbered) (place p : ℕ) (fed later : List ReadText) (role : Role) → (x : RoleAt lines place fed later role)
    → role ≡ Second p → IsStep (fed_by [] fed) x.text x.rest (Ends p)
second_step lines place p fed later role x r =
    let all = fed ++ (x.text ∷ x.rest) in
    let back : part (fed_by [] fed) x.text x.rest x.text.reading ≡ Back p = subst (IsRole all (fed_by [] fed) x.text x.rest) r x.has in
    subst (λ (o : Part). IsDone x.text.line o (Ends p)) (sym back) refl

-- the second half of a first one is there, and what is kept of both is within them
pub record KeptHalves (lines : List Numbered) (place other to behind : ℕ) : Type 0 where
  -- it is there
  pub within : other < length lines
  -- behind the first
  pub later : place < other
  -- what is kept of the first ends within it
  pub first : (number : ℕ) (shown : List ℕ) → IsShown lines place number shown → to ≤ length shown
  -- what is kept of the second begins within it
  pub second : (number : ℕ) (shown : List ℕ) → IsShown lines other number shown → behind ≤ length shown

-- of each first half
pub kept_halves : (strict : Bool) (lines : List Numbered) (place other to behind : ℕ) (roles : List Role) (role : Role) (now : Ordering)
    → (counts : Counts) × DidSome strict lines place counts now → AreRoles lines roles → role ≡ get_or roles place Alone → place < length lines
    → role ≡ First other to behind → KeptHalves lines place other to behind
kept_halves strict lines place other to behind roles role now (counts, d) h is l r =
    let x = role_at lines place d.fed d.later roles role d.reads d.count h is l in
    let all = d.fed ++ (x.text ∷ x.rest) in
    let has = subst (IsRole all (fed_by [] d.fed) x.text x.rest) r x.has in
    let second = line_at lines all other has.0 x.reads has.1 in
    let one = subst (HasReading x.text.line.text) has.6 (reading_of x.at.line x.text x.at.read) in
    let two = subst (HasReading has.0.line.text) has.7 (reading_of second.line has.0 second.read) in
    record {
      within = second.within;
      later = (let k = fed_length [] d.fed in let c = d.count in let o = has.9 in omega arith);
      first = λ number shown s.
          let same = ap (λ (l : Numbered). length l.text) (shown_is lines place number shown x.text s x.at) in
          let k = half_ends x.text.line.text has.2 has.4 has.3 to one in
          omega arith;
      second = λ number shown s.
          let same = ap (λ (l : Numbered). length l.text) (shown_is lines other number shown has.0 s second) in
          let k = rest_begins has.0.line.text has.2 has.5 behind two in
          omega arith;
    }

-- ---- what was done with a text more

module _ (strict : Bool) (lines : List Numbered) (place : ℕ) (roles : List Role) (role : Role) (old : Ordering) (have : AreRoles lines roles)
    (is : role ≡ get_or roles place Alone) (within : place < length lines) where
  here : (counts : Counts) → (d : DidSome strict lines place counts old) → RoleAt lines place d.fed d.later role
  here counts d = role_at lines place d.fed d.later roles role d.reads d.count have is within

  -- a text alone came
  pub alone_did : (number : ℕ) (shown : List ℕ) (e : Entry) (new : Ordering) → role ≡ Alone → IsShown lines place number shown
      → IsEntry number false shown e → WroteDue strict old (write_entry frees_for e old.waiting) new
      → (counts : Counts) → DidSome strict lines place counts old → DidSome strict lines (place + 1) counts new
  alone_did number shown e new r s en w counts d =
      let x = here counts d in
      did_more strict lines place counts old new d role x (Comes e) (alone_step lines place number d.fed d.later role shown e x r s en) w

  -- the writing ended at it
  pub alone_ends : (number : ℕ) (shown : List ℕ) (e : Entry) (fault : Fault) → role ≡ Alone → IsShown lines place number shown
      → IsEntry number false shown e → EndsDue strict (write_entry frees_for e old.waiting).lines fault
      → (counts : Counts) × DidSome strict lines place counts old → EndsAll strict lines fault
  alone_ends number shown e fault r s en w (counts, d) =
      let x = here counts d in
      did_end strict lines place counts old d role x (Comes e) fault (alone_step lines place number d.fed d.later role shown e x r s en) w

  -- a first half began its call
  pub first_did : (number other to behind n : ℕ) (shown second line : List ℕ) (e : Entry) (new : Ordering) → role ≡ First other to behind
      → IsShown lines place number shown → IsShown lines other n second → line ≡ take to shown ++ drop behind second
      → IsEntry number true line e → new.waiting ≡ put e (of_others e.process old.waiting) → new.written ≡ old.written
      → (counts : Counts) → DidSome strict lines place counts old → DidSome strict lines (place + 1) counts new
  first_did number other to behind n shown second line e new r s t le en w same counts d =
      let x = here counts d in
      did_more strict lines place counts old new d role x (Begins e)
      (first_step lines place number other to behind d.fed d.later role n shown second line e x r s t le en)
      (record { wrote = subst (λ (z : Written). WroteLines strict old.written [] z) (sym same) (wrote_none strict old.written); waits = w })

  -- a second half ended it
  pub second_did : (p : ℕ) (new : Ordering) → role ≡ Second p → WroteDue strict old (does frees_for (Ends p) old.waiting) new
      → (counts : Counts) → DidSome strict lines place counts old → DidSome strict lines (place + 1) counts new
  second_did p new r w counts d =
      let x = here counts d in
      did_more strict lines place counts old new d role x (Ends p) (second_step lines place p d.fed d.later role x r) w

  -- the writing ended at it
  pub second_ends : (p : ℕ) (fault : Fault) → role ≡ Second p → EndsDue strict (does frees_for (Ends p) old.waiting).lines fault
      → (counts : Counts) × DidSome strict lines place counts old → EndsAll strict lines fault
  second_ends p fault r w (counts, d) =
      let x = here counts d in
      did_end strict lines place counts old d role x (Ends p) fault (second_step lines place p d.fed d.later role x r) w
