use Rattle.std.proofs.Common.{sym, ap, subst, ◌∙◌}
use Rattle.raw_logs.specs.Counting.{within_32_bits}
use Rattle.raw_logs.specs.Spaces.{has_line, silent, twice, unmade}
use Rattle.raw_logs.specs.Stages.{AreLatestFirst, seen, kept_from}
use Rattle.raw_logs.proofs.HomeFacts.{latest_first}
use Rattle.raw_logs.proofs.ReadLogs.{pick_is}
use Rattle.raw_logs.proofs.reading.pick_lines.Goals as goal

-- what is picked by who made whom
pub returns-clause-picked : goal.returns-clause-picked
returns-clause-picked c = λ speak.
    let m = c.in_ok-made.ensures in
    let chooser = c.in_ok-chooser.ensures (subst AreLatestFirst (sym (c.as_slice.ensures.value ∙ m.2)) (latest_first 0 m.0)) in
    let here = has_line c.args.process c.as_slice.result.now c.len-count.result in
    let picked = c.in_ok-picked.ensures.picked c.args.process _ _ m.0 chooser m.1 in
    let kept = c.in_ok-kept.ensures.kept c.args.process _ _ m.0 chooser m.1 in
    pick_is c.args.process c.args.lines _ _ c.silent.result c.in_ok-others.others c.in_ok-again.again _
    (seen c.in_ok-kept.kept c.with_numbers-picker.result) m.0 m.1
    (c.as_slice.ensures.value ∙ m.2) c.len-count.ensures picked.is
    (c.silent.ensures m.0 (speak m.0 m.1) ∙ ap (λ x. within_32_bits (silent x m.0)) (c.as_slice-4.ensures.value ∙ sym c.as_slice.ensures.value))
    (c.in_ok-others.ensures m.0 m.1 ∙ ap (λ x. within_32_bits (unmade x m.0)) (c.as_slice-2.ensures.value ∙ sym c.as_slice.ensures.value))
    (c.in_ok-again.ensures ∙ ap (λ x. within_32_bits (twice x)) (c.as_slice-3.ensures.value ∙ sym c.as_slice.ensures.value))
    (ap (λ x. seen x c.with_numbers-picker.result) (kept ∙ ap (λ n. kept_from here n c.args.lines m.0) c.with_numbers-picker.ensures.start)
    ∙ c.with_numbers-picker.ensures.seen (kept_from here c.in_ok-picked.picked.start c.args.lines m.0))
