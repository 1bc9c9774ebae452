-- What holds of each entry of the steps, and of those that wait, holds of each line in the order.
use Rattle.std.proofs.Common.{ℕ, zero, suc, Bool, true, false, List, [], ◌∷◌, ◌++◌, subst}
use Rattle.std.specs.Prelude.{◌==◌, if◌then◌else◌}
use Rattle.std.specs.declared.cmp.Ordering.{Ordering}
use Rattle.std.specs.Ordering.{match_ordering}
use Rattle.std.specs.declared.cmp.Ordering.TheVariants.{Less, Equal, Greater}
use Rattle.raw_trace.specs.Order.{Entry, Step, Begins, Ends, Comes, Written, stand, pair_cmp, put, of_others, write_due, turns, does, order}
use Rattle.raw_logs.specs.Log.{Numbered}
use Rattle.raw_trace.specs.Places.{Part, Whole, Front, Back, IsEntry, IsDone}
use Rattle.raw_trace.specs.Stages.{EachEntry}
use Rattle.raw_trace.proofs.OwnCalls.{Picks, picks_one, picks_none, picks}

-- each entry of the steps is so
abbrev pub EachStep : (Entry → Type 0) → List Step → Type 0
EachStep P [] = Unit {0}
EachStep P (Begins entry ∷ steps) = P entry × EachStep P steps
EachStep P (Comes entry ∷ steps) = P entry × EachStep P steps
EachStep P (Ends q ∷ steps) = Unit {0} × EachStep P steps

-- the line of a part of the text in this line
abbrev pub line_in : Numbered → Part → List ℕ
line_in line Whole = line.text
line_in line (Front joined) = joined
line_in line (Back process) = line.text

-- what holds of the entry of that line holds of the step's
pub done_each : (P : Entry → Type 0) (line : Numbered) (o : Part) (step : Step) (steps : List Step)
    → ((number : ℕ) (two : Bool) (e : Entry) → IsEntry number two (line_in line o) e → P e) → IsDone line o step → EachStep P steps
    → EachStep P (step ∷ steps)
done_each P line Whole (Comes e) steps make h more = (make line.number false e h, more)
done_each P line (Front joined) (Begins e) steps make h more = (make line.number true e h, more)
done_each P line (Back p) (Ends q) steps make h more = (tt, more)
done_each P line part step steps make h more = absurd h

pub each_both : (P : Entry → Type 0) (a b : List Entry) → EachEntry P a → EachEntry P b → EachEntry P (a ++ b)
each_both P [] b h g = g
each_both P (x ∷ a) b h g = (h.0, each_both P a b h.1 g)

pub each_front : (P : Entry → Type 0) (a b : List Entry) → EachEntry P (a ++ b) → EachEntry P a
each_front P [] b h = tt
each_front P (x ∷ a) b h = (h.0, each_front P a b h.1)

pub each_back : (P : Entry → Type 0) (a b : List Entry) → EachEntry P (a ++ b) → EachEntry P b
each_back P [] b h = h
each_back P (x ∷ a) b h = each_back P a b h.1

-- what is written and what waits still
record EachWritten (P : Entry → Type 0) (found : Written) : Type 0 where
  -- the lines
  pub lines : EachEntry P found.lines
  -- those that wait
  pub waiting : EachEntry P found.waiting

-- the same of fewer turns
abbrev EachBefore : (Entry → Type 0) → ℕ → (Entry → Entry → Bool) → Type 0
EachBefore P n f = (due ws : List Entry) → EachEntry P due → EachEntry P ws → EachWritten P (write_due n f due ws)

each_turn : (P : Entry → Type 0) (n : ℕ) (f : Entry → Entry → Bool) (x : Entry) (due ws : List Entry) → EachBefore P n f → EachEntry P (x ∷ due)
    → EachEntry P ws → Picks (λ other. f other x) ws → EachWritten P (write_due (suc n) f (x ∷ due) ws)
each_turn P n f x due ws before d w (picks_none is) =
    let r = before due ws d.1 w in rw is (record { lines = (d.0, r.lines); waiting = r.waiting })
each_turn P n f x due ws before d w (picks_one a one b e t is) =
    let all : EachEntry P (a ++ (one ∷ b)) = subst (EachEntry P) e w in
    let back = each_back P a (one ∷ b) all in
    rw is (before (one ∷ (x ∷ due)) (a ++ b) (back.0, d) (each_both P a b (each_front P a (one ∷ b) all) back.1))

due_each : (P : Entry → Type 0) (n : ℕ) (f : Entry → Entry → Bool) → EachBefore P n f
due_each P zero f due ws d w = record { lines = tt; waiting = w }
due_each P (suc n) f [] ws d w = record { lines = tt; waiting = w }
due_each P (suc n) f (x ∷ due) ws d w = each_turn P n f x due ws (due_each P n f) d w (picks (λ other. f other x) ws)

-- of those of other processes
others_each : (P : Entry → Type 0) (p : ℕ) (ws : List Entry) → EachEntry P ws → EachEntry P (of_others p ws)
others_each P p [] w = tt
others_each P p (x ∷ ws) w = by (others_each P p ws w.1) (x.process == p)
  where
    by : EachEntry P (of_others p ws) → (t : Bool) → EachEntry P (if t then of_others p ws else x ∷ of_others p ws)
    by rest true = rest
    by rest false = (w.0, rest)

-- with one more at its place
put_each : (P : Entry → Type 0) (e : Entry) (ws : List Entry) → P e → EachEntry P ws → EachEntry P (put e ws)
put_each P e [] h w = (h, tt)
put_each P e (x ∷ ws) h w = by (put_each P e ws h w.1) (pair_cmp (stand e) (stand x))
  where
    by : EachEntry P (put e ws) → (o : Ordering) → EachEntry P (match_ordering o (e ∷ (x ∷ ws)) (e ∷ ws) (x ∷ put e ws))
    by rest Less = (h, w)
    by rest Equal = (h, w.1)
    by rest Greater = (w.0, rest)

does_each : (P : Entry → Type 0) (f : Entry → Entry → Bool) (step : Step) (steps : List Step) (ws : List Entry) → EachEntry P ws
    → EachStep P (step ∷ steps) → EachWritten P (does f step ws)
does_each P f (Begins e) steps ws w h = record { lines = tt; waiting = put_each P e (of_others e.process ws) h.0 (others_each P e.process ws w) }
does_each P f (Comes e) steps ws w h = due_each P (turns (e ∷ []) ws) f (e ∷ []) ws (h.0, tt) w
does_each P f (Ends q) steps ws w h = by (picks (λ e. e.process == q) ws)
  where
    by : Picks (λ e. e.process == q) ws → EachWritten P (does f (Ends q) ws)
    by (picks_none is) = rw is (record { lines = tt; waiting = w })
    by (picks_one a one b e t is) =
        let all : EachEntry P (a ++ (one ∷ b)) = subst (EachEntry P) e w in
        let back = each_back P a (one ∷ b) all in
        rw is (due_each P (turns (one ∷ []) (a ++ b)) f (one ∷ []) (a ++ b) (back.0, tt) (each_both P a b (each_front P a (one ∷ b) all) back.1))

steps_tail : (P : Entry → Type 0) (step : Step) (steps : List Step) → EachStep P (step ∷ steps) → EachStep P steps
steps_tail P (Begins e) steps h = h.1
steps_tail P step steps h = h.1

pub order_each : (P : Entry → Type 0) (f : Entry → Entry → Bool) (ws : List Entry) (steps : List Step) → EachEntry P ws → EachStep P steps
    → EachEntry P (order f ws steps)
order_each P f ws [] w h = tt
order_each P f ws (step ∷ steps) w h =
    let r = does_each P f step steps ws w h in
    each_both P (does f step ws).lines (order f (does f step ws).waiting steps) r.lines
    (order_each P f (does f step ws).waiting steps r.waiting (steps_tail P step steps h))
