-- That a log ends within a line is told in one way: its lines, what was cut off behind them and what a message left of
-- a line are the same however they are told.
use Rattle.std.proofs.Common.{◌≡◌, ℕ, List, Bool, true, false, refl, sym, ap, ◌∙◌}
use Rattle.raw_logs.specs.Log.{Healed, healed}
use Rattle.raw_logs.specs.Reading.{EndsCut}
use Rattle.raw_logs.proofs.OneLog.{log_one, healed_one}

-- two Booleans that are false together are the same
same_flag : (a b : Bool) → (a ≡ false → b ≡ false) → (b ≡ false → a ≡ false) → a ≡ b
same_flag true false to from = from refl
same_flag false true to from = sym (to refl)
same_flag a b to from = refl

-- that a log ends within a line is told in one way
pub one_end : (bytes : List ℕ) (a b : Bool) → EndsCut bytes a → EndsCut bytes b → a ≡ b
one_end bytes a b x y =
    let l = log_one bytes x.lines y.lines x.cut y.cut x.log y.log in
    let t : (healed x.lines x.kinds).part ≡ (healed y.lines y.kinds).part =
    ap (λ (h : Healed). h.part) (healed_one x.lines y.lines x.kinds y.kinds l.0 x.of_kinds y.of_kinds) in
    same_flag a b
    (λ e. let none = x.none_left e in y.some_left (sym l.1 ∙ none.0) (sym t ∙ none.1))
    (λ e. let none = y.none_left e in x.some_left (l.1 ∙ none.0) (t ∙ none.1))
