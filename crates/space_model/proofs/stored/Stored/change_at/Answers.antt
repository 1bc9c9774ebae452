-- The areas of the place are changed as a list of their own, and the rows are those of the whole list.
use Rattle.std.proofs.Common.{◌≡◌, ◌+◌, ◌-◌, ◌*◌, ◌<◌, ◌≤◌, ◌^◌, List, ◌++◌, take, drop, ◌∙◌, inl, inr, All, length, sym, ap, subst, refl, arith}
use Rattle.std.specs.List.{splice}
use Rattle.page_types.specs.declared.TheConstants.{ROWS}
use Rattle.space_model.specs.declared.areas.Area.{Area}
use Rattle.space_model.specs.Areas.{IsAreaList, HasNamedKinds, HasKinds, kind_at, row_count}
use Rattle.space_model.specs.Answers.{full_reply}
use Rattle.space_model.specs.Cutting.{rows_between}
use Rattle.space_model.specs.Effect.{patched}
use Rattle.space_model.specs.Judges.{patches_of}
use Rattle.space_model.specs.Judges.Makes.{within, beyond}
use Rattle.space_model.specs.Blocks.{areas_of, blocks_at, IsBlock}
use Rattle.space_model.proofs.InRoom.{window_areas, window_few, window_rows, planned_kinds, few_more, after, after_kinds, after_rows, after_within}
use Rattle.space_model.proofs.InRoom.{after_fits, length-rows, written}
use Rattle.space_model.proofs.NamedKinds.{named-after}
use Rattle.space_model.proofs.Stepping.{row_count-le}
use Rattle.space_model.proofs.stored.Stored.change_at.Goals as goal

-- there is room for the areas of the place
pub gather_at-requires-clause-room : goal.gather_at-requires-clause-room
gather_at-requires-clause-room c =
    let few = window_few c.args.self.now.blocks.items c.args.change c.args.place c.requires.place c.requires.stored.areas
    (areas_of (blocks_at c.as_slice.result.now c.args.place.first c.args.place.count))
    (ap (λ X. areas_of (blocks_at X c.args.place.first c.args.place.count)) c.as_slice.ensures.value) in
    omega (arith, few, c.requires.stored.within, c.requires.stored.taken)

-- their rows are few enough to count
pub rows_between-requires : goal.rows_between-requires
rows_between-requires c =
    let is = c.as_slice-taken.ensures.value ∙ c.gather_at.ensures.items ∙
    ap (λ X. areas_of (blocks_at X c.args.place.first c.args.place.count)) c.as_slice.ensures.value in
    let rows = window_rows c.args.self.now.blocks.items c.args.change c.args.place c.requires.place c.requires.stored.areas _ is in
    omega (arith, rows, row_count-le (areas_of c.args.self.now.blocks.items), c.requires.stored.within, c.requires.stored.most)

-- and not more than all
pub overflow_sub-outside : goal.overflow_sub-outside
overflow_sub-outside c =
    let is = c.as_slice-taken.ensures.value ∙ c.gather_at.ensures.items ∙
    ap (λ X. areas_of (blocks_at X c.args.place.first c.args.place.count)) c.as_slice.ensures.value in
    let rows = window_rows c.args.self.now.blocks.items c.args.change c.args.place c.requires.place c.requires.stored.areas _ is in
    omega (arith, rows, c.rows_between.ensures, c.requires.stored.rows)

-- so are those of a list of their own
pub row_count-requires : goal.row_count-requires
row_count-requires c =
    let is = c.as_slice-taken.ensures.value ∙ c.gather_at.ensures.items ∙
    ap (λ X. areas_of (blocks_at X c.args.place.first c.args.place.count)) c.as_slice.ensures.value in
    let few = window_few c.args.self.now.blocks.items c.args.change c.args.place c.requires.place c.requires.stored.areas _ is in
    omega (arith, few, row_count-le c.as_slice-taken.result.now, c.requires.stored.within, c.requires.stored.most)

-- they are an area list
pub planned-requires-clause-in_order : goal.planned-requires-clause-in_order
planned-requires-clause-in_order c =
    let is = c.as_slice-taken.ensures.value ∙ c.gather_at.ensures.items ∙
    ap (λ X. areas_of (blocks_at X c.args.place.first c.args.place.count)) c.as_slice.ensures.value in
    window_areas c.args.self.now.blocks.items c.args.change c.args.place c.requires.place c.requires.stored.areas _ is

-- they are few
pub planned-requires-clause-few : goal.planned-requires-clause-few
planned-requires-clause-few c =
    let is = c.as_slice-taken.ensures.value ∙ c.gather_at.ensures.items ∙
    ap (λ X. areas_of (blocks_at X c.args.place.first c.args.place.count)) c.as_slice.ensures.value in
    let few = window_few c.args.self.now.blocks.items c.args.change c.args.place c.requires.place c.requires.stored.areas _ is in
    omega (arith, few, c.requires.stored.within, c.requires.stored.most)

-- there is room for what becomes of them
pub unreachable-requires : goal.unreachable-requires
unreachable-requires c =
    let is = c.as_slice-taken.ensures.value ∙ c.gather_at.ensures.items ∙
    ap (λ X. areas_of (blocks_at X c.args.place.first c.args.place.count)) c.as_slice.ensures.value in
    let few = window_few c.args.self.now.blocks.items c.args.change c.args.place c.requires.place c.requires.stored.areas _ is in
    omega (arith, few, c.in_default.ensures.full, c.requires.stored.within, c.requires.stored.middle)

-- and for the areas of the place with them
pub unreachable-requires-in_default-replace : goal.unreachable-requires-in_default-replace
unreachable-requires-in_default-replace c =
    let G = c.gather_at.new.list.items in let M = c.planned.new.middle.items in let W = c.as_slice-taken.result.now in
    let is = c.as_slice-taken.ensures.value ∙ c.gather_at.ensures.items ∙
    ap (λ X. areas_of (blocks_at X c.args.place.first c.args.place.count)) c.as_slice.ensures.value in
    let few = window_few c.args.self.now.blocks.items c.args.change c.args.place c.requires.place c.requires.stored.areas _ is in
    let own = window_areas c.args.self.now.blocks.items c.args.change c.args.place c.requires.place c.requires.stored.areas _ is in
    let kinds : HasKinds (patched (patches_of c.args.change) (kind_at W)) (splice G c.in-Ok.plan.first c.in-Ok.plan.end M) =
    planned_kinds W G M _ c.args.change _ _ _ c.in-Ok.ensures.plan c.as_slice-taken.ensures.value refl in
    let more = few_more W _ c.args.change own c.requires.rising kinds in
    elim c.in_default-replace.ensures.full [
      | inl lt ↦ omega (arith, lt, more, few, c.requires.stored.within, c.requires.stored.taken, c.gather_at.ensures.capacity)
      | inr lt ↦
          omega (
            arith,
            lt,
            c.in-Ok.ensures.longer,
            few,
            ap length c.as_slice-taken.ensures.value,
            c.requires.stored.within,
            c.requires.stored.middle,
            c.in-Ok.ensures.capacity,
          )
    ]

-- the rows of what became of them are few enough to count
pub rows_between-requires-2 : goal.rows_between-requires-2
rows_between-requires-2 c =
    let N = c.as_slice-2.result.now in
    let is = c.as_slice-taken.ensures.value ∙ c.gather_at.ensures.items ∙
    ap (λ X. areas_of (blocks_at X c.args.place.first c.args.place.count)) c.as_slice.ensures.value in
    let kinds : HasKinds (patched (patches_of c.args.change) (kind_at c.as_slice-taken.result.now)) N =
    planned_kinds _ _ _ _ c.args.change _ _ _ c.in-Ok.ensures.plan c.as_slice-taken.ensures.value
    (c.as_slice-2.ensures.value ∙ c.in-Ok-replace.ensures.items) in
    let few : length (areas_of c.args.self.now.blocks.items) < 2 ^ 30 = omega (arith, c.requires.stored.within, c.requires.stored.most) in
    let low = after_within c.args.self.now.blocks.items c.args.change c.args.place c.requires.place c.requires.stored.areas _ is c.requires.rising N kinds in
    let fits = after_fits c.args.self.now.blocks.items c.args.change c.args.place c.requires.place c.requires.stored.areas _ is c.requires.rising N kinds few in
    omega (arith, low, fits)

-- so are all
pub overflow_add-rows : goal.overflow_add-rows
overflow_add-rows c =
    let N = c.as_slice-2.result.now in
    let is = c.as_slice-taken.ensures.value ∙ c.gather_at.ensures.items ∙
    ap (λ X. areas_of (blocks_at X c.args.place.first c.args.place.count)) c.as_slice.ensures.value in
    let kinds : HasKinds (patched (patches_of c.args.change) (kind_at c.as_slice-taken.result.now)) N =
    planned_kinds _ _ _ _ c.args.change _ _ _ c.in-Ok.ensures.plan c.as_slice-taken.ensures.value
    (c.as_slice-2.ensures.value ∙ c.in-Ok-replace.ensures.items) in
    let few : length (areas_of c.args.self.now.blocks.items) < 2 ^ 30 = omega (arith, c.requires.stored.within, c.requires.stored.most) in
    let rows = after_rows c.args.self.now.blocks.items c.args.change c.args.place c.requires.place c.requires.stored.areas _ is c.requires.rising N kinds in
    let fits = after_fits c.args.self.now.blocks.items c.args.change c.args.place c.requires.place c.requires.stored.areas _ is c.requires.rising N kinds few in
    let less = window_rows c.args.self.now.blocks.items c.args.change c.args.place c.requires.place c.requires.stored.areas _ is in
    omega (arith, rows, fits, less, c.rows_between.ensures, c.rows_between-2.ensures, c.requires.stored.rows)

-- where there are more than ROWS rows, the reply is the full one
pub returns-then-rows-gt-ROWS-clause-made : goal.returns-then-rows-gt-ROWS-clause-made
returns-then-rows-gt-ROWS-clause-made c =
    let N = c.as_slice-2.result.now in
    let is = c.as_slice-taken.ensures.value ∙ c.gather_at.ensures.items ∙
    ap (λ X. areas_of (blocks_at X c.args.place.first c.args.place.count)) c.as_slice.ensures.value in
    let kinds : HasKinds (patched (patches_of c.args.change) (kind_at c.as_slice-taken.result.now)) N =
    planned_kinds _ _ _ _ c.args.change _ _ _ c.in-Ok.ensures.plan c.as_slice-taken.ensures.value
    (c.as_slice-2.ensures.value ∙ c.in-Ok-replace.ensures.items) in
    let B = after c.args.self.now.blocks.items c.args.change c.args.place c.requires.place c.requires.stored.areas _ is c.requires.rising N kinds in
    let rows = after_rows c.args.self.now.blocks.items c.args.change c.args.place c.requires.place c.requires.stored.areas _ is c.requires.rising N kinds in
    let less = window_rows c.args.self.now.blocks.items c.args.change c.args.place c.requires.place c.requires.stored.areas _ is in
    let count : c.args.self.now.rows - c.rows_between.result + c.rows_between-2.result ≡ row_count B =
    omega (arith, rows, less, c.rows_between.ensures, c.rows_between-2.ensures, c.requires.stored.rows) in
    beyond _ (after_kinds c.args.self.now.blocks.items c.args.change c.args.place c.requires.place c.requires.stored.areas _ is c.requires.rising N kinds)
    (subst (λ n. ROWS < n) count c.if-rows-gt-ROWS.true) (c.full_reply.ensures ∙ ap (full_reply c.args.change.full) count) refl

-- the blocks have the areas after the change, with room for more
pub returns-clause-stored : goal.returns-clause-stored
returns-clause-stored c =
    let N = c.as_slice-2.result.now in let blocks = c.args.self.now.blocks.items in let S = c.requires.stored in
    let is = c.as_slice-taken.ensures.value ∙ c.gather_at.ensures.items ∙
    ap (λ X. areas_of (blocks_at X c.args.place.first c.args.place.count)) c.as_slice.ensures.value in
    let kinds : HasKinds (patched (patches_of c.args.change) (kind_at c.as_slice-taken.result.now)) N =
    planned_kinds _ _ _ _ c.args.change _ _ _ c.in-Ok.ensures.plan c.as_slice-taken.ensures.value
    (c.as_slice-2.ensures.value ∙ c.in-Ok-replace.ensures.items) in
    let B = after blocks c.args.change c.args.place c.requires.place S.areas _ is c.requires.rising N kinds in
    let rows = after_rows blocks c.args.change c.args.place c.requires.place S.areas _ is c.requires.rising N kinds in
    let less = window_rows blocks c.args.change c.args.place c.requires.place S.areas _ is in
    let list = after_kinds blocks c.args.change c.args.place c.requires.place S.areas _ is c.requires.rising N kinds in
    let count : c.args.self.now.rows - c.rows_between.result + c.rows_between-2.result ≡ row_count B =
    omega (arith, rows, less, c.rows_between.ensures, c.rows_between-2.ensures, S.rows) in
    let long : length c.pour_at.new.blocks ≡ length blocks = c.pour_at.ensures.count ∙ ap length c.as_mut_slice.ensures.value in
    let new = written c.pour_at.new.blocks blocks c.args.self.now.blocks.len long (sym c.as_slice.ensures.len ∙ ap length c.as_slice.ensures.value) in
    let same : areas_of (take c.args.self.now.blocks.len (c.pour_at.new.blocks ++ drop (length c.pour_at.new.blocks) blocks)) ≡ B =
    ap areas_of new ∙ c.pour_at.ensures.areas ∙
    ap (λ X. areas_of (take c.args.place.first X) ++ (c.as_slice-3.result.now ++ areas_of (drop (c.args.place.first + c.args.place.count) X)))
    c.as_mut_slice.ensures.value ∙
    ap (λ X. areas_of (take c.args.place.first blocks) ++ (X ++ areas_of (drop (c.args.place.first + c.args.place.count) blocks)))
    (c.as_slice-3.ensures.value ∙ sym c.as_slice-2.ensures.value) in
    record {
      areas = subst IsAreaList (sym same) list.areas;
      named = subst HasNamedKinds (sym same) (named-after (areas_of blocks) B (patches_of c.args.change) S.named c.requires.named.0 list);
      rows = count ∙ ap row_count (sym same);
      blocks = subst (All IsBlock) (sym new) c.pour_at.ensures.blocks;
      some = omega (arith, ap length new, long, S.some);
      few = omega (arith, ap length new, long, S.few);
      within = omega (arith, ap length same, length-rows B, count, c.if-rows-gt-ROWS.false, S.least);
      least = S.least;
      most = S.most;
      taken = omega (arith, S.taken, c.gather_at.ensures.capacity, c.in-Ok-replace.ensures.list_capacity);
      middle = omega (arith, S.middle, c.in-Ok.ensures.capacity, c.in-Ok-replace.ensures.new_capacity);
    }

-- and the change is made
pub returns-clause-made : goal.returns-clause-made
returns-clause-made c =
    let N = c.as_slice-2.result.now in let blocks = c.args.self.now.blocks.items in let S = c.requires.stored in
    let is = c.as_slice-taken.ensures.value ∙ c.gather_at.ensures.items ∙
    ap (λ X. areas_of (blocks_at X c.args.place.first c.args.place.count)) c.as_slice.ensures.value in
    let kinds : HasKinds (patched (patches_of c.args.change) (kind_at c.as_slice-taken.result.now)) N =
    planned_kinds _ _ _ _ c.args.change _ _ _ c.in-Ok.ensures.plan c.as_slice-taken.ensures.value
    (c.as_slice-2.ensures.value ∙ c.in-Ok-replace.ensures.items) in
    let B = after blocks c.args.change c.args.place c.requires.place S.areas _ is c.requires.rising N kinds in
    let rows = after_rows blocks c.args.change c.args.place c.requires.place S.areas _ is c.requires.rising N kinds in
    let less = window_rows blocks c.args.change c.args.place c.requires.place S.areas _ is in
    let list = after_kinds blocks c.args.change c.args.place c.requires.place S.areas _ is c.requires.rising N kinds in
    let count : c.args.self.now.rows - c.rows_between.result + c.rows_between-2.result ≡ row_count B =
    omega (arith, rows, less, c.rows_between.ensures, c.rows_between-2.ensures, S.rows) in
    let long : length c.pour_at.new.blocks ≡ length blocks = c.pour_at.ensures.count ∙ ap length c.as_mut_slice.ensures.value in
    let new = written c.pour_at.new.blocks blocks c.args.self.now.blocks.len long (sym c.as_slice.ensures.len ∙ ap length c.as_slice.ensures.value) in
    let same : areas_of (take c.args.self.now.blocks.len (c.pour_at.new.blocks ++ drop (length c.pour_at.new.blocks) blocks)) ≡ B =
    ap areas_of new ∙ c.pour_at.ensures.areas ∙
    ap (λ X. areas_of (take c.args.place.first X) ++ (c.as_slice-3.result.now ++ areas_of (drop (c.args.place.first + c.args.place.count) X)))
    c.as_mut_slice.ensures.value ∙
    ap (λ X. areas_of (take c.args.place.first blocks) ++ (X ++ areas_of (drop (c.args.place.first + c.args.place.count) blocks)))
    (c.as_slice-3.ensures.value ∙ sym c.as_slice-2.ensures.value) in
    within (subst (HasKinds (patched (patches_of c.args.change) (kind_at (areas_of blocks)))) (sym same) list)
    (omega (arith, ap row_count same, count, c.if-rows-gt-ROWS.false)) refl
