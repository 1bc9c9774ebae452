-- When a log's text tells its entries: their sets have named bits alone, since a bit without a word isn't printed, and
-- their numbers fit in 64 bits, as those of every entry of a program do. The text is the printer's.
use Rattle.std.specs.Prelude.{◌<◌, ◌^◌}
use Rattle.page_types.specs.declared.calls.Call.{Call}
use Rattle.page_types.specs.declared.calls.Call.TheVariants.{Map, Unmap, Protect, Fault, Seal, Brk, Remap}
use Rattle.page_types.specs.declared.calls.Reply.{Reply}
use Rattle.page_types.specs.declared.calls.Reply.TheVariants.{At, Zero, Granted, Refused}
use Rattle.page_types.specs.declared.calls.Why.{Why}
use Rattle.page_types.specs.declared.calls.Why.TheVariants.{Einval, Enomem, Eexist, Eperm, Efault, MapErr, AccErr}
use Rattle.page_types.specs.declared.calls.Short.{Short}
use Rattle.page_types.specs.declared.calls.Short.TheVariants.{Missing, PastEnd, NoGap, Rows}
use Rattle.page_types.specs.Named.{IsNamedCall, IsNamedReply}
use Rattle.space_model.specs.declared.entries.Entry.{Entry}
use Rattle.space_model.specs.declared.entries.Under.{Under}
use Rattle.space_model.specs.declared.entries.Under.TheVariants.{Nothing, Reader, Area, Whole}

-- the numbers of a call fit in 64 bits
abbrev pub FitsCall : Call → Type 0
FitsCall (Map addr len prot flags) = (addr < 2 ^ 64) × (len < 2 ^ 64)
FitsCall (Unmap addr len) = (addr < 2 ^ 64) × (len < 2 ^ 64)
FitsCall (Protect addr len prot) = (addr < 2 ^ 64) × (len < 2 ^ 64)
FitsCall (Fault addr access) = addr < 2 ^ 64
FitsCall (Seal addr len flags) = (addr < 2 ^ 64) × (len < 2 ^ 64) × (flags < 2 ^ 64)
FitsCall (Brk base addr) = (base < 2 ^ 64) × (addr < 2 ^ 64)
FitsCall (Remap addr old new may hint) = (addr < 2 ^ 64) × (old < 2 ^ 64) × (new < 2 ^ 64) × (hint < 2 ^ 64)

-- so does the number that an ENOMEM names
abbrev pub FitsShort : Short → Type 0
FitsShort (Missing page) = page < 2 ^ 64
FitsShort (PastEnd page) = page < 2 ^ 64
FitsShort (NoGap pages) = pages < 2 ^ 64
FitsShort (Rows rows) = rows < 2 ^ 64

-- so does that of a refusal
abbrev pub FitsWhy : Why → Type 0
FitsWhy (Einval field) = Unit {0}
FitsWhy (Enomem short) = FitsShort short
FitsWhy (Eexist page) = page < 2 ^ 64
FitsWhy (Eperm page) = page < 2 ^ 64
FitsWhy (Efault page) = page < 2 ^ 64
FitsWhy (MapErr page) = page < 2 ^ 64
FitsWhy (AccErr page kind) = page < 2 ^ 64

-- so does that of a reply
abbrev pub FitsReply : Reply → Type 0
FitsReply (At addr) = addr < 2 ^ 64
FitsReply Zero = Unit {0}
FitsReply (Granted kind) = Unit {0}
FitsReply (Refused why) = FitsWhy why

-- so do the ends of what was held
abbrev pub FitsHeld : Under → Type 0
FitsHeld Nothing = Unit {0}
FitsHeld (Reader span) = (span.lo < 2 ^ 64) × (span.hi < 2 ^ 64)
FitsHeld (Area span) = (span.lo < 2 ^ 64) × (span.hi < 2 ^ 64)
FitsHeld Whole = Unit {0}

-- all numbers of an entry fit in 64 bits
pub record HasWordNumbers (e : Entry) : Type 0 where
  pub number : e.number < 2 ^ 64
  pub worker : e.worker < 2 ^ 64
  pub line : e.line < 2 ^ 64
  pub call : FitsCall e.call
  pub reply : FitsReply e.reply
  pub under : FitsHeld e.under

-- the sets of an entry have named bits alone
abbrev pub IsNamedEntry : Entry → Type 0
IsNamedEntry e = IsNamedCall e.call × IsNamedReply e.reply
