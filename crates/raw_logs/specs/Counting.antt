-- How many lines of each sort were changed or left out. Each definition of this crate that changes lines carries its
-- own counts, and the whole has their sums. A count stands still at the end of 32 bits, far above the lines that a log
-- may have. What is counted, and where, is this project's own profile.
use Rattle.std.specs.Prelude.{ℕ, ◌+◌, ◌-◌, ◌^◌, min}
use Rattle.raw_logs.specs.declared.counts.Counts.{Counts}
use Rattle.raw_logs.specs.declared.counts.Sort.{Sort}
use Rattle.raw_logs.specs.declared.counts.Sort.TheVariants.{Messages, Stack, Stripped, Numbered, Elsewhere, Earlier, Unknown, Long, Untold, Joined, Mended}
use Rattle.raw_logs.specs.declared.counts.Sort.TheVariants.{Unreturned, Unread, Forms, Injected, Outside, Unanswered}

-- a number that stays at the end of 32 bits
abbrev pub within_32_bits : ℕ → ℕ
within_32_bits n = min n (2 ^ 32 - 1)

-- no line
abbrev pub no_counts : Counts
no_counts = record {
  messages = 0;
  stack = 0;
  stripped = 0;
  numbered = 0;
  elsewhere = 0;
  earlier = 0;
  unknown = 0;
  long = 0;
  untold = 0;
  silent = 0;
  foreign = 0;
  twice = 0;
  joined = 0;
  mended = 0;
  unreturned = 0;
  unread = 0;
  forms = 0;
  injected = 0;
  outside = 0;
  unanswered = 0;
}

-- one line more of this sort
abbrev pub one_more_of : Sort → Counts → Counts
one_more_of Messages c = record c { messages = within_32_bits (c.messages + 1) }
one_more_of Stack c = record c { stack = within_32_bits (c.stack + 1) }
one_more_of Stripped c = record c { stripped = within_32_bits (c.stripped + 1) }
one_more_of Numbered c = record c { numbered = within_32_bits (c.numbered + 1) }
one_more_of Elsewhere c = record c { elsewhere = within_32_bits (c.elsewhere + 1) }
one_more_of Earlier c = record c { earlier = within_32_bits (c.earlier + 1) }
one_more_of Unknown c = record c { unknown = within_32_bits (c.unknown + 1) }
one_more_of Long c = record c { long = within_32_bits (c.long + 1) }
one_more_of Untold c = record c { untold = within_32_bits (c.untold + 1) }
one_more_of Joined c = record c { joined = within_32_bits (c.joined + 1) }
one_more_of Mended c = record c { mended = within_32_bits (c.mended + 1) }
one_more_of Unreturned c = record c { unreturned = within_32_bits (c.unreturned + 1) }
one_more_of Unread c = record c { unread = within_32_bits (c.unread + 1) }
one_more_of Forms c = record c { forms = within_32_bits (c.forms + 1) }
one_more_of Injected c = record c { injected = within_32_bits (c.injected + 1) }
one_more_of Outside c = record c { outside = within_32_bits (c.outside + 1) }
one_more_of Unanswered c = record c { unanswered = within_32_bits (c.unanswered + 1) }

-- the sums of two counts
abbrev pub both : Counts → Counts → Counts
both a b = record {
  messages = within_32_bits (a.messages + b.messages);
  stack = within_32_bits (a.stack + b.stack);
  stripped = within_32_bits (a.stripped + b.stripped);
  numbered = within_32_bits (a.numbered + b.numbered);
  elsewhere = within_32_bits (a.elsewhere + b.elsewhere);
  earlier = within_32_bits (a.earlier + b.earlier);
  unknown = within_32_bits (a.unknown + b.unknown);
  long = within_32_bits (a.long + b.long);
  untold = within_32_bits (a.untold + b.untold);
  silent = within_32_bits (a.silent + b.silent);
  foreign = within_32_bits (a.foreign + b.foreign);
  twice = within_32_bits (a.twice + b.twice);
  joined = within_32_bits (a.joined + b.joined);
  mended = within_32_bits (a.mended + b.mended);
  unreturned = within_32_bits (a.unreturned + b.unreturned);
  unread = within_32_bits (a.unread + b.unread);
  forms = within_32_bits (a.forms + b.forms);
  injected = within_32_bits (a.injected + b.injected);
  outside = within_32_bits (a.outside + b.outside);
  unanswered = within_32_bits (a.unanswered + b.unanswered);
}
