-- Why a list of areas makes no address space: it isn't in order, as the lines of proc_pid_maps(5) are, and then its
-- first wrong area is named, or there is no memory for it.
use Rattle.std.specs.Prelude.{List}
use Rattle.space_model.specs.declared.areas.Area.{Area}
use Rattle.space_model.specs.declared.faults.AreasFault.{AreasFault}
use Rattle.space_model.specs.declared.faults.AreasFault.TheVariants.{NotAreas, Memory}
use Rattle.space_model.specs.Areas.{IsAreaList, IsFirstWrong}

-- the index is the first wrong one; a lack of memory is the cause only for an area list
abbrev pub Explains : List Area → AreasFault → Type 0
Explains list (NotAreas fault) = IsFirstWrong list fault.index
Explains list Memory = IsAreaList list
