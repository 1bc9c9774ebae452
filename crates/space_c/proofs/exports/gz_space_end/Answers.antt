use Rattle.std.proofs.Common.{rules, ◌≡◌, ◌∙◌, None, refl}
use Rattle.c_handles.proofs.Refusals.{ends_closed, ends_open, ends_by_open}
use Rattle.space_c.specs.declared.answers.Answer.TheVariants.{Done, Closed, Open}
use Rattle.space_c.specs.Codes.{code_of}
use Rattle.space_c.proofs.exports.gz_space_end.Goals as goal

-- where the handle that is to be put there is open, that is told, and nothing has changed
pub returns-then-is_open : goal.returns-then-is_open
returns-then-is_open c = record {
  ended = ends_by_open code_of Open Closed Done c.args.next.pointer.behind c.args.handle.now.pointer.behind c.args.handle.now.pointer.behind
      (c.is_open.ensures.open c.if-is_open.true) refl c.code.ensures;
}

-- a closed handle is told that it is closed, and stays so
pub returns-then-not-is_open : goal.returns-then-not-is_open
returns-then-not-is_open c =
    let none : c.args.next.pointer.behind ≡ None = search rules in
    let was : c.args.handle.now.pointer.behind ≡ None = search rules in
    let put : c.replace-was.new.dest.pointer.behind ≡ c.args.next.pointer.behind = search rules in
    record { ended = ends_closed code_of Open Closed Done none was put c.code-then-not-is_open.ensures }

-- an open one is ended, and the closed one stands in its place
pub returns : goal.returns
returns c =
    let none : c.args.next.pointer.behind ≡ None = search rules in
    let put : c.replace-was.new.dest.pointer.behind ≡ c.args.next.pointer.behind = search rules in
    let same : c.args.handle.now.pointer.behind ≡ c.replace-was.result.pointer.behind = search rules in
    record {
      ended = ends_open code_of Open Closed Done c.args.handle.now.pointer.behind none (c.into_box-2.result.value, same ∙ c.into_box-2.ensures) put
          c.code-2.ensures;
    }
