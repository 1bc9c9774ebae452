-- Several tries in a row are tries, what the tries so far came to, and how many steps they made at most. Each of them
-- began with the seat as the one before had left it.
use Rattle.std.proofs.Common.{◌≡◌, ℕ, zero, suc, ◌+◌, ◌*◌, ◌<◌, ◌≤◌, ◌↔◌, ◌∙◌, Bool, Result, Ok, Err, Some, None, refl, sym, ap, subst, arith}
use Rattle.std.specs.Prelude.{IfOk, IfErr, OnOk, OnErr}
use Rattle.std.proofs.Math.Nat.{suc-mul, zero-mul, mul-le-mul_right}
use Rattle.std.proofs.Math.Numerals.{add-one}
use Rattle.list_cuts.specs.Cut.{Regions, list_count}
use Rattle.lock_core.specs.Range.{Interval, IsRange}
use Rattle.lock_core.specs.declared.range.Held.{Held}
use Rattle.lock_core.specs.declared.range.Mode.{Mode}
use Rattle.range_rw.specs.declared.refusals.NotHeld.{NotHeld}
use Rattle.range_rw.specs.Contract.{AsksOnly, IsLockCall, IsCause, IsLongRefusal, IsSpentIn, StandsIn, TellsList, try_steps}
use Rattle.range_rw.specs.Several.{TakesAlone}
use Rattle.range_rw.proofs.Asking.{asks_stay, asks_on}
use Rattle.range_c.specs.declared.answers.Answer.{Answer}
use Rattle.range_c.specs.declared.answers.Answer.TheVariants.{Done, Refused, NotTried, BadRange, HasOne}
use Rattle.range_c.specs.Behind.{Behind, RecordingSeat, IsTrial, IsOneTry, IsGranted, IsRefused, AreRefused, IsTrialAnswer, IsTriedFor, IsTriedIn, most_steps}
use Rattle.c_handles.specs.Asked.{mode_for}
use Rattle.range_c.specs.Behind.{asked}

-- what `range_rw` says of a try that was refused, put together
pub refused_for : {T : Type 0} (r : Result T NotHeld) (seats : ℕ) (cut : Regions) (ask : Held) {entry after : RecordingSeat}
    → IsOneTry seats cut ask entry after → OnErr r (after.held ≡ None) → IfErr r (TellsList cut ask.range) → IfErr r (IsCause entry after ask)
    → IfErr r (λ why. IsLongRefusal why ↔ IsSpentIn seats entry after) → IfErr r (IsRefused seats cut ask entry after)
refused_for (Ok x) seats cut ask one none told cause long = tt
refused_for (Err why) seats cut ask one none told cause long = record { one = one; free = none; cause = cause; told = told; long = long }

-- and of one that holds what was asked for
pub granted_for : {T : Type 0} (r : Result T NotHeld) (seats : ℕ) (cut : Regions) (ask : Held) {entry after : RecordingSeat}
    → IsOneTry seats cut ask entry after → OnOk r (after.held ≡ Some ask) → OnOk r (StandsIn cut ask.range after.list)
    → IfOk r (λ _. IsGranted seats cut ask entry after)
granted_for (Ok x) seats cut ask one held stands = record { one = one; held = held; stands = stands }
granted_for (Err why) seats cut ask one held stands = tt

-- calls of the lock, one after another, are calls of the lock
pub calls_after : {a b c : RecordingSeat} → IsLockCall a b → IsLockCall b c → IsLockCall a c
calls_after f g = record {
  table = g.table ∙ f.table;
  number = g.number ∙ f.number;
  pass = g.pass ∙ f.pass;
  client = g.client ∙ f.client;
  taken = let x = f.taken in let y = g.taken in omega arith;
}

-- tries after tries are tries
pub trials_after : {a b c : Behind} → IsTrial a b → IsTrial b c → IsTrial a c
trials_after f g = record {
  call = calls_after f.call g.call;
  spare = g.spare ∙ f.spare;
  words = g.words ∙ f.words;
  seats = g.seats ∙ f.seats;
  cut = g.cut ∙ f.cut;
}

-- so many tries after which nothing is held were all refused
all_refused : (ask : Held) (made : ℕ) (before now : Behind) (answer : Answer) → now.seat.held ≡ None → IsTrialAnswer ask made made before now answer
    → AreRefused before.seats before.cut ask made before.seat now.seat
all_refused ask made before now Done free s = let never : Some ask ≡ None = sym s.5.held ∙ free in absurd cc
all_refused ask made before now (Refused why) free s =
    subst (λ n. AreRefused before.seats before.cut ask n before.seat now.seat) (sym (add-one s.0) ∙ s.1) (s.3, why, s.4, s.5)
all_refused ask made before now NotTried free s =
    subst (λ n. AreRefused before.seats before.cut ask n before.seat now.seat) (sym s.0) (ap (λ (b : Behind). b.seat) s.2)
all_refused ask made before now answer free s = absurd s

-- tries give none of the answers that come before them
pub tried : {lo hi : ℕ} {writer : Bool} {tries made : ℕ} (answer : Answer) {before after : Behind} → IsTriedFor lo hi writer tries made answer before after
    → IsTriedIn lo hi writer tries made answer before after
tried BadRange t = absurd t.answered
tried HasOne t = absurd t.answered
tried answer t = t

-- one more try was refused for that cause
pub one_more : (ask : Held) (made : ℕ) {before mid : Behind} (now : Behind) (answer : Answer) (why : NotHeld) → IsTrial before mid → mid.seat.held ≡ None
    → IsTrialAnswer ask made made before mid answer → IsRefused mid.seats mid.cut ask mid.seat now.seat why
    → IsTrialAnswer ask (made + 1) (made + 1) before now (Refused why)
one_more ask made {before} {mid} now answer why kept free far refused =
    let one = subst (λ (z : ℕ × Regions). IsRefused z.0 z.1 ask mid.seat now.seat why) (λ i. (kept.seats i, kept.cut i)) refused in
    (made, refl, refl, mid.seat, all_refused ask made before mid answer free far, one)

-- one more try holds what was asked for
pub at_last : (ask : Held) (tries made : ℕ) {before mid : Behind} (now : Behind) (answer : Answer) → made < tries → IsTrial before mid → mid.seat.held ≡ None
    → IsTrialAnswer ask made made before mid answer → IsGranted mid.seats mid.cut ask mid.seat now.seat → IsTrialAnswer ask tries (made + 1) before now Done
at_last ask tries made {before} {mid} now answer more kept free far granted =
    let one = subst (λ (z : ℕ × Regions). IsGranted z.0 z.1 ask mid.seat now.seat) (λ i. (kept.seats i, kept.cut i)) granted in
    (made, refl, omega arith, mid.seat, all_refused ask made before mid answer free far, one)

-- as many were made as were asked for
pub all_made : (ask : Held) (tries made : ℕ) (before now : Behind) (answer : Answer) → tries ≤ made → made ≤ tries
    → IsTrialAnswer ask made made before now answer → IsTrialAnswer ask tries made before now answer
all_made ask tries made before now answer least most far =
    let all : made ≡ tries = omega arith in subst (λ n. IsTrialAnswer ask n made before now answer) all far

more_steps : (a b c n m : ℕ) → b ≤ a + n * m → c ≤ b + m → c ≤ a + suc n * m
more_steps a b c n m first next = let e = suc-mul n m in omega arith

-- each try for this range makes at most so many steps
abbrev pub IsMostOf : ℕ → Regions → Held → ℕ → Type 0
IsMostOf seats cut ask m = (entry after : RecordingSeat) → IsOneTry seats cut ask entry after → after.trace.taken ≤ entry.trace.taken + m

-- tries that were refused made at most the steps of so many
refused_steps : (seats : ℕ) (cut : Regions) (ask : Held) (m : ℕ) → IsMostOf seats cut ask m → (n : ℕ) (a b : RecordingSeat)
    → AreRefused seats cut ask n a b → b.trace.taken ≤ a.trace.taken + n * m
refused_steps seats cut ask m most zero a b s = let same = ap (λ (x : RecordingSeat). x.trace.taken) s in let z = zero-mul m in omega arith
refused_steps seats cut ask m most (suc n) a b s = more_steps a.trace.taken s.0.trace.taken b.trace.taken n m
    (refused_steps seats cut ask m most n a s.0 s.2) (most s.0 b s.3.one)

last_steps : (seats : ℕ) (cut : Regions) (ask : Held) (m : ℕ) → IsMostOf seats cut ask m → (n made : ℕ) (a entry b : RecordingSeat) → n + 1 ≡ made
    → AreRefused seats cut ask n a entry → IsOneTry seats cut ask entry b → b.trace.taken ≤ a.trace.taken + made * m
last_steps seats cut ask m most n made a entry b is refused one =
    let all = more_steps a.trace.taken entry.trace.taken b.trace.taken n m (refused_steps seats cut ask m most n a entry refused) (most entry b one) in
    subst (λ k. b.trace.taken ≤ a.trace.taken + k * m) (sym (add-one n) ∙ is) all

-- so many tries make at most as many times the steps of one
pub trial_steps : (ask : Held) (tries made m : ℕ) (before after : Behind) (answer : Answer) → IsMostOf before.seats before.cut ask m
    → IsTrialAnswer ask tries made before after answer → after.seat.trace.taken ≤ before.seat.trace.taken + made * m
trial_steps ask tries made m before after Done most s = last_steps before.seats before.cut ask m most s.0 made before.seat s.3 after.seat s.1 s.4 s.5.one
trial_steps ask tries made m before after (Refused why) most s =
    last_steps before.seats before.cut ask m most s.0 made before.seat s.3 after.seat s.1 s.4 s.5.one
trial_steps ask tries made m before after NotTried most s = let same = ap (λ (b : Behind). b.seat.trace.taken) s.2 in omega arith
trial_steps ask tries made m before after answer most s = absurd s

-- and no more are made than were asked for
trial_few : (ask : Held) (tries made : ℕ) (before after : Behind) (answer : Answer) → IsTrialAnswer ask tries made before after answer → made ≤ tries
trial_few ask tries made before after Done s = s.2
trial_few ask tries made before after (Refused why) s = let all = s.2 in omega arith
trial_few ask tries made before after NotTried s = let none = s.0 in omega arith
trial_few ask tries made before after answer s = absurd s

-- tries that were refused asked for their range alone
refused_asks : (seats : ℕ) (cut : Regions) (ask : Held) (n : ℕ) (a b : RecordingSeat) → AreRefused seats cut ask n a b
    → AsksOnly ask a.trace.asked b.trace.asked
refused_asks seats cut ask zero a b s = asks_stay (ap (λ (x : RecordingSeat). x.trace.asked) s)
refused_asks seats cut ask (suc n) a b s = asks_on (refused_asks seats cut ask n a s.0 s.2) s.3.one.asks

-- so did the one behind them
trial_asks : (ask : Held) (tries made : ℕ) (before after : Behind) (answer : Answer) → IsTrialAnswer ask tries made before after answer
    → AsksOnly ask before.seat.trace.asked after.seat.trace.asked
trial_asks ask tries made before after Done s = asks_on (refused_asks before.seats before.cut ask s.0 before.seat s.3 s.4) s.5.one.asks
trial_asks ask tries made before after (Refused why) s = asks_on (refused_asks before.seats before.cut ask s.0 before.seat s.3 s.4) s.5.one.asks
trial_asks ask tries made before after NotTried s = asks_stay (ap (λ (b : Behind). b.seat.trace.asked) s.2)
trial_asks ask tries made before after answer s = absurd s

-- the tries for a range with these ends, in the mode that the flag means, are those that the call asks for
pub tried_for : {lo hi : ℕ} (range : Interval) (writer : Bool) {mode : Mode} (tries made : ℕ) (answer : Answer) {before after : Behind} → range.lo ≡ lo
    → range.hi ≡ hi → mode ≡ mode_for writer → IsRange lo hi → before.seat.held ≡ None → IsTrial before after
    → IsTrialAnswer (record { range = range; mode = mode }) tries made before after answer → IsTriedIn lo hi writer tries made answer before after
tried_for {lo} {hi} range writer {mode} tries made answer {before} {after} l h m is free kept a =
    let all : IsTrialAnswer (asked lo hi writer) tries made before after answer =
    subst (λ (x : Held). IsTrialAnswer x tries made before after answer) (λ i. record { range = record { lo = l i; hi = h i }; mode = m i }) a in
    tried answer (record {
      range = is;
      free = free;
      kept = kept;
      answered = all;
      few = trial_few (asked lo hi writer) tries made before after answer all;
      asks = trial_asks (asked lo hi writer) tries made before after answer all;
      bound = trial_steps (asked lo hi writer) tries made (most_steps before.seats (list_count before.cut)) before after answer (λ e x one. one.bound) all;
      alone = λ h. trial_steps (asked lo hi writer) tries made (most_steps before.seats 1) before after answer (λ e x one. one.alone h) all;
      each = λ k h. trial_steps (asked lo hi writer) tries made (try_steps before.seats k) before after answer (λ e x one. one.each k h) all;
    })
