-- Texts in one buffer: where each stands, and one more behind them.
use Rattle.std.proofs.Common.{◌≡◌, ℕ, zero, suc, ◌+◌, ◌-◌, ◌<◌, ◌≤◌, List, [], ◌∷◌, ◌++◌, length, take, drop, get_or, Bool, refl, sym, ap, ◌∙◌, arith}
use Rattle.std.proofs.lemmas.List.{length-append, take-append-le, drop-append-le, length-drop, drop_at, take_all}
use Rattle.raw_logs.specs.declared.lines.End.{End}
use Rattle.raw_logs.specs.Log.{Numbered, line_of}
use Rattle.raw_logs.specs.Buffer.{shown, cut_at, AreEnds, start_at}

-- the first of the ends is no further than the buffer's
pub from_within : (from count : ℕ) (ends : List End) → AreEnds from count ends → from ≤ count
from_within from count [] h = omega (arith, h)
from_within from count (end ∷ ends) h = let k = from_within end.behind count ends h.1 in let f = h.0 in omega arith

-- a text for each end
pub cut_length : (first from : ℕ) (bytes : List ℕ) (ends : List End) → length (cut_at first from bytes ends) ≡ length ends
cut_length first from bytes [] = refl
cut_length first from bytes (end ∷ ends) = ap suc (cut_length first end.behind bytes ends)

-- bytes more behind the buffer leave what stands in it
take_kept : (n from : ℕ) (bytes more : List ℕ) → from + n ≤ length bytes → take n (drop from (bytes ++ more)) ≡ take n (drop from bytes)
take_kept n from bytes more l =
    let d = length-drop from bytes in
    ap (take n) (drop-append-le from bytes more (omega arith)) ∙ take-append-le n (drop from bytes) more (omega arith)

-- a text more
pub cut_more : (first from number behind : ℕ) (numbered : Bool) (bytes more : List ℕ) (ends : List End) → AreEnds from (length bytes) ends
    → behind ≡ length (bytes ++ more)
    → cut_at first from (bytes ++ more) (ends ++ (record { number = number; behind = behind; numbered = numbered } ∷ []))
    ≡ cut_at first from bytes ends ++ (line_of number (shown first numbered more) ∷ [])
cut_more first from number behind numbered bytes more [] h e =
    let l = length-append bytes more in
    ap (λ (x : List ℕ). line_of number (shown first numbered x) ∷ [])
    (ap (take (behind - from)) (drop_at bytes more from (sym h)) ∙ take_all (behind - from) more (omega (arith, h, e, l)))
cut_more first from number behind numbered bytes more (end ∷ ends) h e =
    let w = from_within end.behind (length bytes) ends h.1 in
    let f = h.0 in
    ap (λ (x : List ℕ). line_of end.number (shown first end.numbered x)
    ∷ cut_at first end.behind (bytes ++ more) (ends ++ (record { number = number; behind = behind; numbered = numbered } ∷ [])))
    (take_kept (end.behind - from) from bytes more (omega arith))
    ∙ ap (λ (x : List Numbered). line_of end.number (shown first end.numbered (take (end.behind - from) (drop from bytes))) ∷ x)
    (cut_more first end.behind number behind numbered bytes more ends h.1 e)

-- and its end
pub ends_more : (from number behind count : ℕ) (numbered : Bool) (ends : List End) → AreEnds from count ends → count ≤ behind
    → AreEnds from behind (ends ++ (record { number = number; behind = behind; numbered = numbered } ∷ []))
ends_more from number behind count numbered [] h l = (omega (arith, h, l), refl)
ends_more from number behind count numbered (end ∷ ends) h l = (h.0, ends_more end.behind number behind count numbered ends h.1 l)

-- ---- the text at a place

pub cut_text : (first from : ℕ) (bytes : List ℕ) (ends : List End) (place : ℕ) (line : Numbered) (d : End) → place < length ends
    → get_or (cut_at first from bytes ends) place line
    ≡ line_of (get_or ends place d).number
    (shown first (get_or ends place d).numbered (take ((get_or ends place d).behind - start_at from ends place) (drop (start_at from ends place) bytes)))
cut_text first from bytes [] place line d l = absurd (omega (arith, l))
cut_text first from bytes (end ∷ ends) zero line d l = refl
cut_text first from bytes (end ∷ ends) (suc place) line d l = cut_text first end.behind bytes ends place line d (omega (arith, l))

pub start_within : (from count : ℕ) (ends : List End) (place : ℕ) (d : End) → AreEnds from count ends → place < length ends
    → (start_at from ends place ≤ (get_or ends place d).behind) × ((get_or ends place d).behind ≤ count)
start_within from count [] place d h l = absurd (omega (arith, l))
start_within from count (end ∷ ends) zero d h l = (h.0, from_within end.behind count ends h.1)
start_within from count (end ∷ ends) (suc place) d h l = start_within end.behind count ends place d h.1 (omega (arith, l))

pub start_first : (from : ℕ) (ends : List End) → start_at from ends 0 ≡ from
start_first from [] = refl
start_first from (end ∷ ends) = refl

-- a text begins where the one before it ends
start_next : (from : ℕ) (ends : List End) (place : ℕ) (d : End) → place < length ends → start_at from ends (suc place) ≡ (get_or ends place d).behind
start_next from [] place d l = absurd (omega (arith, l))
start_next from (end ∷ ends) zero d l = start_first end.behind ends
start_next from (end ∷ ends) (suc place) d l = start_next end.behind ends place d (omega (arith, l))

pub start_behind : (from : ℕ) (ends : List End) (place : ℕ) (d : End) → 0 < place → place ≤ length ends
    → start_at from ends place ≡ (get_or ends (place - 1) d).behind
start_behind from ends zero d z l = absurd (omega (arith, z))
start_behind from ends (suc place) d z l =
    let e : suc place - 1 ≡ place = omega arith in rw e (start_next from ends place d (omega (arith, l)))
