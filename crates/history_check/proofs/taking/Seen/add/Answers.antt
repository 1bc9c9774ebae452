use Rattle.std.proofs.Common.{rules, ◌≡◌, ℕ, ◌+◌, length, set, refl, ap}
use Rattle.history_check.proofs.Remembering.{seen_more}
use Rattle.history_check.proofs.taking.Seen.add.Goals as goal

-- with the entry's own line one more is remembered
pub returns : goal.returns
returns c before seen place =
    let size : length c.args.self.now.last ≡ 16 = search rules in
    seen_more before c.args.self.now _ c.args.entry.now size seen place c.requires.worker refl
    (ap (λ (n : ℕ). set c.args.self.now.last c.args.entry.now.worker (n + 1)) c.from.ensures)
