use Rattle.std.proofs.Common.{◌⊎◌, ℕ, List, refl, sym, ◌∙◌, inl, inr, rules}
use Rattle.raw_lines.specs.Marks.{IsMessage, IsStackLine, IsUnread, IsBroken}
use Rattle.raw_logs.specs.declared.counts.Sort.TheVariants.{Messages, Stack}
use Rattle.raw_logs.specs.Log.{Message, OfStack}
use Rattle.raw_logs.proofs.Decided.{is_so, is_not}
use Rattle.raw_logs.proofs.HealedLines.{takes_counted, takes_broken, takes_gap, takes_line, unread_filled}
use Rattle.raw_logs.proofs.healing.Healer.take.Goals as goal

-- a message
pub returns-then-is_message-clause-takes : goal.returns-then-is_message-clause-takes
returns-then-is_message-clause-takes c = λ before t n.
    takes_counted c.args.self.now _ before _ c.args.text.now Message Messages t n (is_so c.is_message.result c.is_message.ensures c.if-is_message.true)
    (λ h. refl) refl refl c.add.ensures

-- a line of a stack
pub returns-then-is_stack_line-clause-takes : goal.returns-then-is_stack_line-clause-takes
returns-then-is_stack_line-clause-takes c = λ before t n.
    takes_counted c.args.self.now _ before _ c.args.text.now OfStack Stack t n
    (is_not c.is_message.result c.is_message.ensures c.if-is_message.false, is_so c.is_stack_line.result c.is_stack_line.ensures c.if-is_stack_line.true)
    (λ h. refl) refl refl c.add-then-is_stack_line.ensures

-- a line with the mark
pub returns-then-is_unread-clause-takes : goal.returns-then-is_unread-clause-takes
returns-then-is_unread-clause-takes c = λ before t n.
    let a : ¬ IsMessage c.args.text.now = is_not c.is_message.result c.is_message.ensures c.if-is_message.false in
    let b : ¬ IsStackLine c.args.text.now = is_not c.is_stack_line.result c.is_stack_line.ensures c.if-is_stack_line.false in
    let d : IsUnread c.args.text.now = is_so c.is_unread.result c.is_unread.ensures c.if-is_unread.true in
    takes_line c.args.self.now _ before _ c.args.text.now t n a b (inl d) (unread_filled _ c.args.text.now d) c.in_ok-keep.ensures.made
    c.in_ok-keep.ensures.none c.in_ok-keep.ensures.counts

-- a line that a message broke
pub returns-in-Some-clause-takes : goal.returns-in-Some-clause-takes
returns-in-Some-clause-takes c = λ before t n.
    let a : ¬ IsMessage c.args.text.now = is_not c.is_message.result c.is_message.ensures c.if-is_message.false in
    let b : ¬ IsStackLine c.args.text.now = is_not c.is_stack_line.result c.is_stack_line.ensures c.if-is_stack_line.false in
    let d : ¬ IsUnread c.args.text.now = is_not c.is_unread.result c.is_unread.ensures c.if-is_unread.false in
    takes_broken c.args.self.now _ before _ _ c.in-Some.front.now t n a b d c.in-Some.ensures c.in_ok-wait.ensures.part c.in_ok-wait.ensures.written
    c.in_ok-wait.ensures.counts

-- an empty line
pub returns-then-is_blank-clause-takes : goal.returns-then-is_blank-clause-takes
returns-then-is_blank-clause-takes c = λ before t n.
    let a : ¬ IsMessage c.args.text.now = is_not c.is_message.result c.is_message.ensures c.if-is_message.false in
    let b : ¬ IsStackLine c.args.text.now = is_not c.is_stack_line.result c.is_stack_line.ensures c.if-is_stack_line.false in
    let none : (front : List ℕ) → ¬ IsBroken c.args.text.now front = search rules in
    takes_gap c.args.self.now before _ c.args.text.now t n a b none (sym c.is_blank.ensures ∙ c.if-is_blank.true)

-- every other line
pub returns-clause-takes : goal.returns-clause-takes
returns-clause-takes c = λ before t n.
    let a : ¬ IsMessage c.args.text.now = is_not c.is_message.result c.is_message.ensures c.if-is_message.false in
    let b : ¬ IsStackLine c.args.text.now = is_not c.is_stack_line.result c.is_stack_line.ensures c.if-is_stack_line.false in
    let none : (front : List ℕ) → ¬ IsBroken c.args.text.now front = search rules in
    let d : IsUnread c.args.text.now ⊎ ((front : List ℕ) → ¬ IsBroken c.args.text.now front) = inr none in
    takes_line c.args.self.now _ before _ c.args.text.now t n a b d (sym c.is_blank.ensures ∙ c.if-is_blank.false)
    c.in_ok-keep-2.ensures.made c.in_ok-keep-2.ensures.none c.in_ok-keep-2.ensures.counts
