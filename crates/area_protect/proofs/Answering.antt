-- The answers of a call that changes protection, from what is said of its arguments.
use Rattle.std.proofs.Common.{true, ◌≡◌, ℕ, ◌<◌, subst, sym, ap, ◌∙◌}
use Rattle.std.specs.Prelude.{IsSome}
use Rattle.page_types.specs.declared.calls.Call.{Call}
use Rattle.page_types.specs.declared.calls.Call.TheVariants.{Protect}
use Rattle.page_types.specs.declared.sets.Prot.{Prot}
use Rattle.page_types.specs.PlainReply.{plain_reply}
use Rattle.page_types.specs.Classes.{IsProtect}
use Rattle.space_model.specs.declared.entries.Entry.{Entry}
use Rattle.area_rows.specs.Seated.{TableId}
use Rattle.area_rows.specs.Rows.{keeps_by}
use Rattle.area_rows.specs.Callers.{CallerView}
use Rattle.area_rows.specs.Called.{IsCalled}
use Rattle.area_protect.specs.declared.path.Path.{Path}
use Rattle.area_protect.specs.declared.path.Path.TheVariants.{Free}
use Rattle.area_protect.specs.declared.path.Protected.TheVariants.{Given, Spent}
use Rattle.area_protect.specs.Protects.{IsProtected, IsAnswerTo}

-- who has no number left is told so, and nothing has changed
pub spent_call : {before : CallerView} (line : ℕ) (call : Call) {after : CallerView} → IsProtect call → before.left ≡ 0 → after ≡ before
    → IsAnswerTo before line call Spent after
spent_call line (Protect addr len prot) is none same = (none, same)
spent_call line call is none same = absurd is

-- a call that its arguments decide has its entry, and is free
pub free_call : {before : CallerView} {line : ℕ} (call : Call) {e : Entry} {after : CallerView} {table : TableId} → before.seat.table ≡ table
    → keeps_by table ≡ true → IsProtect call → 0 < before.left → IsSome (plain_reply call)
    → IsCalled before line call e after → IsAnswerTo before line call (Given e Free) after
free_call (Protect addr len prot) of_table keeps is left decided called =
    (left, record { called = called; way = decided; keeps = ap keeps_by of_table ∙ keeps; looks = tt })
free_call call of_table keeps is left decided called = absurd is

-- a call with these arguments is answered as they are
pub given_call : {before : CallerView} {line : ℕ} {call : Call} {addr len : ℕ} {prot : Prot} {e : Entry} {path : Path} {after : CallerView}
    → call ≡ Protect addr len prot → 0 < before.left → IsProtected before line addr len prot e path after → IsAnswerTo before line call (Given e path) after
given_call {before} {line} {e} {path} {after} is left protected = subst (λ (x : Call). IsAnswerTo before line x (Given e path) after) (sym is) (left, protected)
