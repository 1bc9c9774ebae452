use Rattle.std.proofs.Common.{◌≡◌, ◌≤◌, ◌+◌, ◌-◌, ℕ, List, length, sym, ap, subst, ◌∙◌, arith}
use Rattle.line_parts.proofs.Leaves.{not_both}
use Rattle.strace_reader.specs.Grammar.{Spells, Refuses}
use Rattle.raw_lines.specs.Splices.{whole}
use Rattle.raw_lines.specs.Mends.{Mends, AreMends, AreOfOne, is_read}
use Rattle.raw_lines.proofs.MendFacts.{refused_place, turn_mends, mends_none, mends_on, mends_back, mends_of_whole, mends_of_half, mends_of_none}
use Rattle.raw_lines.proofs.mends.mended.Goals as goal

-- a refusal is at a place of the line
pub mend-requires : goal.mend-requires
mend-requires c = subst (λ (x : List ℕ). (c.mends.bad.column ≤ length x + 1) × (1 ≤ c.mends.bad.column)) (sym c.as_slice.ensures.value)
    (refused_place c.mends.line.items c.mends.bad c.mends.invariant.0)

-- where no mend is of the refusal the line isn't mended
pub returns-in-None-clause-only : goal.returns-in-None-clause-only
returns-in-None-clause-only c = λ e final h.
    let line = c.mends.line.items in let bad = c.mends.bad in
    mends_none c.mends.counter line final bad c.mends-test.true c.mends.invariant.0
    (λ next m. c.in-None.ensures.mends next (subst (λ (x : List ℕ). Mends x bad next) (sym c.as_slice.ensures.value) m)) ((c.mends.invariant.2 final).1 h.0)

-- a line that is read as a half isn't mended
pub returns-then-not-is_whole : goal.returns-then-not-is_whole
returns-then-not-is_whole c =
    let i = c.mends.counter in let line = c.mends.line.items in let next = c.in_ok-next-in-Some.next.items in
    let bad = c.mends.bad in let item = c.in-Ok.item in
    let m = turn_mends line c.as_slice.result.now next (whole c.in-Some.splice) bad c.as_slice.ensures.value c.in-Some.ensures.mends
    c.in_ok-next-in-Some.ensures in
    let s = subst (λ (x : List ℕ). Spells x item) c.as_slice-in-mends.ensures.value c.in-Ok.ensures.found in
    record {
      mended = tt;
      only = λ e final h. mends_of_half (3 - (i + 1)) next final item s (λ w. not_both (c.is_whole.ensures.1 w) c.if-not-is_whole.true)
          (mends_on i line next final bad c.mends-test.true c.mends.invariant.0 m ((c.mends.invariant.2 final).1 h.0));
      short = tt;
    }

-- one of another process neither
pub returns-then-not-of_one_process : goal.returns-then-not-of_one_process
returns-then-not-of_one_process c =
    let i = c.mends.counter in let line = c.mends.line.items in let next = c.in_ok-next-in-Some.next.items in
    let bad = c.mends.bad in let item = c.in-Ok.item in let text = c.args.text.now in
    let m = turn_mends line c.as_slice.result.now next (whole c.in-Some.splice) bad c.as_slice.ensures.value c.in-Some.ensures.mends
    c.in_ok-next-in-Some.ensures in
    let s = subst (λ (x : List ℕ). Spells x item) c.as_slice-in-mends.ensures.value c.in-Ok.ensures.found in
    record {
      mended = tt;
      only = λ e final h.
          let same : final ≡ next = mends_of_whole (3 - (i + 1)) next final item s
          (mends_on i line next final bad c.mends-test.true c.mends.invariant.0 m ((c.mends.invariant.2 final).1 h.0)) in
          not_both (c.of_one_process.ensures.1 (subst (AreOfOne text) (same ∙ sym c.as_slice-in-Ok.ensures.value) h.1)) c.if-not-of_one_process.true;
      short = tt;
    }

-- the mended line is the one that was read as a whole
pub returns-in-Ok : goal.returns-in-Ok
returns-in-Ok c =
    let i = c.mends.counter in let line = c.mends.line.items in let next = c.in_ok-next-in-Some.next.items in
    let bad = c.mends.bad in let item = c.in-Ok.item in let text = c.args.text.now in
    let m = turn_mends line c.as_slice.result.now next (whole c.in-Some.splice) bad c.as_slice.ensures.value c.in-Some.ensures.mends
    c.in_ok-next-in-Some.ensures in
    let s = subst (λ (x : List ℕ). Spells x item) c.as_slice-in-mends.ensures.value c.in-Ok.ensures.found in
    let grown = c.mends.invariant.1 in let short = c.in-Some.ensures.short in
    let a = ap length c.as_slice.ensures.value in let b = ap length c.in_ok-next-in-Some.ensures in
    let below = c.mends-test.true in
    record {
      mended = (
        (c.mends.invariant.2 next).0 (mends_back i line next next bad below c.mends.invariant.0 m
            (is_read item s (c.is_whole.ensures.0 c.if-not-is_whole.false))),
        subst (AreOfOne text) c.as_slice-in-Ok.ensures.value (c.of_one_process.ensures.0 c.if-not-of_one_process.false),
      );
      only = λ e. absurd cc;
      short = omega arith;
    }

-- a turn more leaves one mend less
pub mends-preserved : goal.mends-preserved
mends-preserved c =
    let i = c.mends.counter in let line = c.mends.line.items in let next = c.in_ok-next-in-Some.next.items in
    let bad = c.mends.bad in
    let m = turn_mends line c.as_slice.result.now next (whole c.in-Some.splice) bad c.as_slice.ensures.value c.in-Some.ensures.mends
    c.in_ok-next-in-Some.ensures in let grown = c.mends.invariant.1 in let short = c.in-Some.ensures.short in
    let a = ap length c.as_slice.ensures.value in
    let b = ap length c.in_ok-next-in-Some.ensures in (
      subst (λ (x : List ℕ). Refuses x c.in-Err.other) c.as_slice-in-mends.ensures.value c.in-Err.ensures.refused,
      omega arith,
      λ final. (
        λ k. (c.mends.invariant.2 final).0 (mends_back i line next final bad c.mends-test.true c.mends.invariant.0 m k),
        λ k. mends_on i line next final bad c.mends-test.true c.mends.invariant.0 m ((c.mends.invariant.2 final).1 k),
      ),
    )

-- behind all mends a refused line isn't mended
pub returns-clause-only : goal.returns-clause-only
returns-clause-only c = λ e final h.
    let line = c.mends.line.items in let over = c.mends-test.false in
    let none : 3 - c.mends.counter ≡ 0 = omega arith in
    mends_of_none line final c.mends.bad c.mends.invariant.0 (subst (λ (k : ℕ). AreMends k line final) none ((c.mends.invariant.2 final).1 h.0))
