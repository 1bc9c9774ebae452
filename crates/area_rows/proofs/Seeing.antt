-- Each step that reads is made at a moment of the running space.
use Rattle.std.proofs.Common.{ℕ, ◌≡◌, ◌∙◌, sym, refl, subst}
use mathlib.Core.Option.{some-injective}
use Rattle.lock_core.specs.Client.{loads, IsMade}
use Rattle.range_rw.specs.Contract.{SeatState}
use Rattle.area_guard.specs.declared.guard.Pass.{Pass}
use Rattle.area_guard.specs.Keeping.{no_note}
use Rattle.area_guard.specs.History.{HasHistory, Allowed, StartsWith}
use Rattle.area_rows.specs.Seen.{HasMoment}
use Rattle.area_rows.proofs.Moments.{moment_of}

-- a load of the sequence word is made at one
pub sequence_at : (s u : SeatState Pass) (found : ℕ) → IsMade HasHistory Allowed no_note s.number s.held s.pass (loads 1) found u.pass → HasMoment s
sequence_at s u found made =
    let m = made.3 in let here = made.5.0 in
    let same : here.pass ≡ s.pass = some-injective here.pass s.pass (sym here.own ∙ m.own) in
    record {
      history = here.history;
      state = here.state;
      words = made.1;
      moment = moment_of here s m.grant refl same;
      more = subst (λ (x : Pass). StartsWith here.history x.seen) same (here.running.parts s.number here.pass here.own).seen;
    }
