use Rattle.std.proofs.Common.{sym, subst}
use Rattle.round_trip.specs.Logs.{FitsCall}
use Rattle.round_trip.proofs.CallsRead.{call_text_spells, call_text_length}
use Rattle.round_trip.proofs.calls.reads_back.Goals as goal

-- the text of a Map spells it, and has at most 143 bytes
pub returns-in-Map : goal.returns-in-Map
returns-in-Map c = let fits = subst FitsCall (sym c.in-Map.is) (c.in_range.ensures.one, c.in_range.ensures.other) in
    record { spells = call_text_spells c.args.call c.requires fits; short = call_text_length c.args.call c.requires fits }

-- the text of an Unmap spells it, and has at most 143 bytes
pub returns-in-Unmap : goal.returns-in-Unmap
returns-in-Unmap c = let fits = subst FitsCall (sym c.in-Unmap.is) (c.in_range-in-Unmap.ensures.one, c.in_range-in-Unmap.ensures.other) in
    record { spells = call_text_spells c.args.call c.requires fits; short = call_text_length c.args.call c.requires fits }

-- the text of a Protect spells it, and has at most 143 bytes
pub returns-in-Protect : goal.returns-in-Protect
returns-in-Protect c = let fits = subst FitsCall (sym c.in-Protect.is) (c.in_range-in-Protect.ensures.one, c.in_range-in-Protect.ensures.other) in
    record { spells = call_text_spells c.args.call c.requires fits; short = call_text_length c.args.call c.requires fits }

-- the text of a Seal spells it, and has at most 143 bytes
pub returns-in-Seal : goal.returns-in-Seal
returns-in-Seal c =
    let fits = subst FitsCall (sym c.in-Seal.is) (c.in_range-in-Seal.ensures.one, c.in_range-in-Seal.ensures.other, c.in_range-in-Seal-2.ensures.one) in
    record { spells = call_text_spells c.args.call c.requires fits; short = call_text_length c.args.call c.requires fits }

-- the text of a page fault spells it, and has at most 143 bytes
pub returns-in-Fault : goal.returns-in-Fault
returns-in-Fault c = let fits = subst FitsCall (sym c.in-Fault.is) c.in_range-in-Fault.ensures.one in
    record { spells = call_text_spells c.args.call c.requires fits; short = call_text_length c.args.call c.requires fits }

-- the text of a Brk spells it, and has at most 143 bytes
pub returns-in-Brk : goal.returns-in-Brk
returns-in-Brk c = let fits = subst FitsCall (sym c.in-Brk.is) (c.in_range-in-Brk.ensures.one, c.in_range-in-Brk.ensures.other) in
    record { spells = call_text_spells c.args.call c.requires fits; short = call_text_length c.args.call c.requires fits }

-- the text of a Remap spells it, and has at most 143 bytes
pub returns-in-Remap : goal.returns-in-Remap
returns-in-Remap c =
    let fits = subst FitsCall (sym c.in-Remap.is) (
      c.in_range-in-Remap.ensures.one,
      c.in_range-in-Remap.ensures.other,
      c.in_range-in-Remap-2.ensures.one,
      c.in_range-in-Remap-2.ensures.other,
    ) in record { spells = call_text_spells c.args.call c.requires fits; short = call_text_length c.args.call c.requires fits }
