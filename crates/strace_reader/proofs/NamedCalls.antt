-- The sets of bits of a call that a text spells, or that a text answers behind others, have no bit but the named ones.
use Rattle.std.proofs.Common.{◌≢◌, ℕ, List, [], ◌∷◌, Result, Ok, Err, Option, refl, subst, inl, inr}
use Rattle.std.specs.Prelude.{IfOk}
use Rattle.line_parts.specs.declared.refusal.Refusal.{Refusal}
use Rattle.page_types.specs.declared.calls.Call.{Call}
use Rattle.page_types.specs.Named.{IsNamedCall}
use Rattle.strace_reader.specs.declared.item.BadCall.{BadCall}
use Rattle.strace_reader.specs.declared.item.Body.{Body}
use Rattle.strace_reader.specs.declared.item.Item.{Item}
use Rattle.strace_reader.specs.declared.item.Item.TheVariants.{Played}
use Rattle.strace_reader.specs.declared.item.Recorded.{Recorded}
use Rattle.strace_reader.specs.declared.joiner.Fed.TheVariants.{Played as Answered}
use Rattle.strace_reader.specs.Grammar.{IsCut, Spells, IsNamedItem}
use Rattle.strace_reader.specs.Joining.{IsAnswer}
use Rattle.strace_reader.proofs.BodyAnswers.{BodyAnswers}
use Rattle.strace_reader.proofs.LineAnswers.{LineAnswers, of_body, blank_line, read_body_line, refused_body_line}
use Rattle.strace_reader.proofs.OneOutcome.{body_fixed}

named_by : {text : List ℕ} (r : Result Item BadCall) → LineAnswers text r → (item : Item) → Spells text item → IsNamedItem item
named_by r a item h = subst (λ x. IfOk x (λ i. IsNamedItem i)) (a.only item h) a.named

named_body : (text body : List ℕ) (pid : ℕ) (r : Result Body Refusal) → text ≢ [] → IsCut text pid body → BodyAnswers body r
    → (item : Item) → Spells text item → IsNamedItem item
named_body text body pid (Ok b) some cut a item h = named_by _ (read_body_line text body pid b some cut a) item h
named_body text body pid (Err f) some cut a item h = named_by _ (refused_body_line text body pid f some cut a) item h

-- an item that a text spells
pub named_item : (text : List ℕ) (item : Item) → Spells text item → IsNamedItem item
named_item [] item h = named_by _ (blank_line [] refl) item h
named_item (c ∷ text) item h = let some : c ∷ text ≢ [] = λ e. cc in let o = of_body (c ∷ text) some item h in
    let r = body_fixed o.body o.it o.is in named_body (c ∷ text) o.body o.pid r.0 some o.cut r.1 item h

-- a call that a text answers behind others
pub named_answer : (fed : List (List ℕ)) (text : List ℕ) (pid : ℕ) (call : Call) (recorded : Option Recorded) (skipped : ℕ)
    → IsAnswer fed text (Answered pid call recorded skipped) → IsNamedCall call
named_answer fed text pid call recorded skipped (inl h) = named_item text (Played pid call recorded) h.0
named_answer fed text pid call recorded skipped (inr h) = named_item h.0 (Played 0 call recorded) h.2
