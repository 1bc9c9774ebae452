-- What a body that judges a call comes to: a refusal, a reply that leaves the pages as they are, or a change of pages.
-- One body serves the areas of a `PlainSpace` and the rows of a shared space, after mmap(2) and the calls like it.
use Rattle.std.specs.Prelude.{ℕ, ◌≡◌, ◌<◌, ◌≤◌, Option, Some, None, MatchOption, List, [], ◌∷◌}
use Rattle.page_types.specs.declared.TheConstants.{ROWS}
use Rattle.page_types.specs.declared.calls.Kind.{Kind}
use Rattle.page_types.specs.declared.calls.Call.{Call}
use Rattle.page_types.specs.declared.calls.Reply.{Reply}
use Rattle.page_types.specs.Named.{IsNamedOption, IsNamedReply}
use Rattle.page_types.specs.Sets.{IsNamedProt}
use Rattle.space_model.specs.declared.paint.Paint.{Paint}
use Rattle.space_model.specs.declared.paint.Paint.TheVariants.{Gives, Protects, Seals}
use Rattle.space_model.specs.declared.paint.Patch.{Patch}
use Rattle.space_model.specs.declared.areas.Area.{Area}
use Rattle.space_model.specs.declared.judged.Change.{Change}
use Rattle.space_model.specs.declared.judged.Judged.{Judged}
use Rattle.space_model.specs.declared.judged.Judged.TheVariants.{Refused, Keeps, Changes}
use Rattle.space_model.specs.Areas.{HasKinds, kind_at, row_count}
use Rattle.space_model.specs.Effect.{patched, AreRising}
use Rattle.space_model.specs.Answers.{RefusesByState, IsEffect, full_reply}
use Rattle.space_model.specs.Answers.Effect.{keeps, changes}

-- the paint gives no bit but the named ones
abbrev pub IsNamedPaint : Paint → Type 0
IsNamedPaint (Gives new) = IsNamedOption new
IsNamedPaint (Protects prot) = IsNamedProt prot
IsNamedPaint Seals = Unit {0}

-- so do the paints of patches
abbrev pub AreNamedPaints : List Patch → Type 0
AreNamedPaints [] = Unit {0}
AreNamedPaints (p ∷ rest) = IsNamedPaint p.paint × AreNamedPaints rest

-- a second patch, if there is one
abbrev pub second_of : Option Patch → List Patch
second_of None = []
second_of (Some p) = p ∷ []

-- the patches of a change
abbrev pub patches_of : Change → List Patch
patches_of change = change.first ∷ second_of change.second

-- on pages of these kinds the call was judged rightly
abbrev pub IsJudged : (ℕ → Option Kind) → Call → Judged → Type 0
IsJudged kinds c (Refused why) = RefusesByState kinds c why
IsJudged kinds c (Keeps reply) = IsEffect kinds c (keeps reply)
IsJudged kinds c (Changes change) = IsEffect kinds c (changes (patches_of change) change.reply change.full) × AreRising 0 (patches_of change)

-- the sets of bits of a change have no bit but the named ones
abbrev pub IsNamedChange : Change → Type 0
IsNamedChange change = AreNamedPaints (patches_of change) × IsNamedReply change.reply × MatchOption change.full (Unit {0}) IsNamedReply

-- a change of area list A has this reply and leaves area list B: its own, or where the result would have more than ROWS
-- rows the full one, and then nothing changes
pub data Makes (A : List Area) (change : Change) (reply : Reply) (B : List Area) : Type 0 where
  within : HasKinds (patched (patches_of change) (kind_at A)) B → row_count B ≤ ROWS → reply ≡ change.reply → Makes A change reply B
  beyond :
      (C : List Area) → HasKinds (patched (patches_of change) (kind_at A)) C → ROWS < row_count C →
      reply ≡ full_reply change.full (row_count C) → B ≡ A → Makes A change reply B
