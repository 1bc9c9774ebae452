-- Why an entry may be written or may not, from what the code looks at.
use Rattle.std.proofs.Common.{◌≡◌, ◌≤◌, Bool, [], ◌∷◌, ◌++◌, length, Option, Some, None, sym, ◌∙◌, arith}
use Rattle.raw_trace.specs.declared.fault.Trouble.{Trouble}
use Rattle.raw_trace.specs.declared.fault.Fault.TheVariants.{Unreadable, LongLine, NoProcess, Memory}
use Rattle.raw_trace.specs.declared.writing.Written.{Written}
use Rattle.raw_trace.specs.Heaps.{shown}
use Rattle.raw_trace.specs.Order.{Entry}
use Rattle.raw_trace.specs.Rewriting.{text_of, counted_entry, calls_after}
use Rattle.raw_trace.specs.Stages.{MayBeWritten, WroteLines}

-- and so may one without trouble
pub may_read : (strict : Bool) (e : Entry) → length e.line ≤ 65535 → e.trouble ≡ None → MayBeWritten strict e
may_read strict e l n (LongLine number) h = omega (arith, l, h.0)
may_read strict e l n (Unreadable number column cause) h =
    let k : ◌≡◌ {A = Option Trouble} None (Some (record { column = column; cause = cause })) = sym n ∙ h.3 in cc
may_read strict e l n NoProcess h = h
may_read strict e l n Memory h = h

-- one entry was written
pub wrote_entry : (strict : Bool) (e : Entry) (old new : Written) → new.out.items ≡ old.out.items ++ text_of ((shown old.calls e).line ∷ [])
    → new.counts ≡ counted_entry e old.counts → new.calls ≡ calls_after old.calls (e ∷ []) → MayBeWritten strict e → WroteLines strict old (e ∷ []) new
wrote_entry strict e old new o c n m = record { out = o; counts = c; calls = n; may = (m, tt) }
