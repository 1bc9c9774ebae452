use Rattle.std.proofs.Common.{refl, subst}
use Rattle.raw_trace.specs.declared.piece.Piece.{Piece}
use Rattle.raw_trace.specs.Places.{IsTrouble, IsReadAs}
use Rattle.raw_trace.proofs.TakenTexts.{entry_of}
use Rattle.raw_trace.proofs.writing.piece_of.Goals as goal

-- the entry of a line
pub returns : goal.returns
returns c =
    let piece : Piece = record {
      number = c.args.number;
      process = c.cut-process.result.0;
      line = c.in_ok-settled.settled.line;
      ending = c.in_ok-settled.settled.ending;
      joined = c.args.joined;
      trouble = c.trouble_of-trouble.result;
      call = c.call_as-call.result;
    } in
    entry_of c.args.number c.args.joined c.args.line.now _ piece refl refl c.cut-process.ensures c.in_ok-settled.ensures
    (subst (λ x. IsTrouble c.args.line.now x c.in_ok-settled.settled.ending c.trouble_of-trouble.result)
    c.as_slice-2.ensures.value c.trouble_of-trouble.ensures)
    (subst (λ x. IsReadAs x c.call_as-call.result) c.as_slice.ensures.value c.call_as-call.ensures)
