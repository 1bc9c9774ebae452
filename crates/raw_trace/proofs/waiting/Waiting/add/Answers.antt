use Rattle.std.proofs.Common.{◌==◌, ◌∙◌, ap, subst, ◌≤◌, ◌+◌}
use Rattle.std.proofs.lemmas.Result.{on_ok_weaker}
use Rattle.raw_trace.specs.declared.calls.Pages.{Pages}
use Rattle.raw_trace.specs.Order.{Entry, pick, put}
use Rattle.raw_trace.specs.Waiting.{entry, entries_in}
use Rattle.raw_trace.proofs.Waits.{known_same, none_of_picked, kept_put, put_entries}
use Rattle.raw_trace.proofs.waiting.Waiting.add.Goals as goal

-- a page more is known, of a process without a call
pub invariant_of-self : goal.invariant_of-self
invariant_of-self c =
    let test = λ (other : Entry). other.process == c.args.piece.process in
    record {
      ordered = c.self.invariant.ordered;
      bound = c.self.invariant.bound;
      known = known_same c.self.inside.pages c.put_page.new.pages c.args.piece.process c.self.inside.longest c.self.inside.pieces.entries
          c.put_page.ensures.others (none_of_picked test _ (ap (pick test) c.self.view_is ∙ c.requires)) c.self.invariant.bound c.self.invariant.known;
    }

-- the call is kept too, or there was no memory for it
pub invariant_of-self-2 : goal.invariant_of-self-2
invariant_of-self-2 c =
    let test = λ (other : Entry). other.process == c.args.piece.process in
    let known = known_same c.self.inside.pages c.put_page.new.pages c.args.piece.process c.self.inside.longest c.self.inside.pieces.entries
    c.put_page.ensures.others (none_of_picked test _ (ap (pick test) c.self.view_is ∙ c.requires)) c.self.invariant.bound c.self.invariant.known in
    kept_put c.put_piece.result c.put_page.new.pages c.self.inside.longest c.longer-self-inside.result c.self.inside.pieces c.put_piece.new.pieces
    (c.freed-pages.result.from, c.args.piece.process) c.args.piece c.put_piece.ensures.entries c.put_piece.ensures.same c.put_piece.ensures.ordered
    c.longer-self-inside.ensures.low c.self.invariant.bound known (λ i. ((c.freed-pages.ensures i).from, c.args.piece.process))
    (subst (λ (p : Pages). p.to ≤ c.freed-pages.result.from + c.longer-self-inside.result) c.freed-pages.ensures c.longer-self-inside.ensures.fits)
    c.in_ok-put_page.ensures.is

-- it waits at its place
pub returns : goal.returns
returns c =
    on_ok_weaker c.put_piece.result
    (λ e. ap entries_in e
    ∙ put_entries c.self.inside.pieces.entries c.self.inside.longest (c.freed-pages.result.from, c.args.piece.process) c.args.piece c.self.invariant.bound
    (λ i. ((c.freed-pages.ensures i).from, c.args.piece.process))
    ∙ ap (put (entry c.args.piece)) c.self.view_is)
    c.put_piece.ensures.entries
