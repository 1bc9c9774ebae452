use Rattle.std.proofs.Common.{◌≤◌, ◌*◌, All, length, sym, subst, arith}
use Rattle.std.proofs.lemmas.List.Elements.{All-tail}
use Rattle.space_model.specs.Blocks.{IsBlock}
use Rattle.space_model.proofs.InBlocks.{share_left}
use Rattle.space_model.proofs.blocks.+pour.Goals as goal

-- what is left has its share in the other blocks
pub pour-requires : goal.pour-requires
pour-requires t c =
    let left : length c.split_at.result.1.now ≤ c.args.share * length c.in-Some.others.now =
    share_left c.args.share _ _ _ _ (subst (λ m. length c.args.areas.now ≤ c.args.share * m) (sym c.in-Some.ensures.cases.1) c.requires.fits)
    c.min.ensures c.split_at.ensures.back_len in (
      omega (arith, c.in-Some.ensures.cases.1, c.decreases),
      (All-tail IsBlock _ _ (subst (All IsBlock) c.in-Some.ensures.cases.0 c.requires.blocks), (c.requires.share, left)),
    )
