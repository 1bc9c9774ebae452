-- Texts of which some are kept, one more at a time: where those that are left stand, and how one of them moves to the
-- front of the buffer.
use Rattle.std.proofs.Common.{◌≡◌, ◌≢◌, append_assoc, ℕ, zero, suc, ◌+◌, ◌-◌, ◌<◌, ◌≤◌, List, [], ◌∷◌, ◌++◌, length, take, drop, get_or, refl, sym, ap, subst, ◌∙◌, arith, Global}
use Rattle.std.specs.Prelude.{Vec, slice_set}
use Rattle.std.specs.Vec.{with_item}
use Rattle.std.proofs.lemmas.List.{length-append, length-drop, length-take-le, drop-drop, drop_all, drop_more, take_more_set, drop-set-lt}
use lib.Seq.{paste, take-paste, drop-paste, length-paste}
use Rattle.raw_logs.specs.declared.lines.End.{End}
use Rattle.raw_logs.specs.declared.lines.Sieve.{Sieve}
use Rattle.raw_logs.specs.Log.{Numbered, line_of}
use Rattle.raw_logs.specs.Buffer.{shown, cut_at, AreEnds, start_at, IsSieve, kept_in, rest_in}
use Rattle.raw_logs.proofs.BufferFacts.{cut_more, ends_more, from_within}

-- ---- the texts from a place on

-- they stand from where the first of them begins
pub cut_from : (first from : ℕ) (bytes : List ℕ) (ends : List End) (place : ℕ)
    → drop place (cut_at first from bytes ends) ≡ cut_at first (start_at from ends place) bytes (drop place ends)
cut_from first from bytes [] zero = refl
cut_from first from bytes [] (suc place) = refl
cut_from first from bytes (end ∷ ends) zero = refl
cut_from first from bytes (end ∷ ends) (suc place) = cut_from first end.behind bytes ends place

-- so do their ends
pub ends_from : (from count : ℕ) (ends : List End) (place : ℕ) → AreEnds from count ends → AreEnds (start_at from ends place) count (drop place ends)
ends_from from count [] zero h = h
ends_from from count [] (suc place) h = h
ends_from from count (end ∷ ends) zero h = h
ends_from from count (end ∷ ends) (suc place) h = ends_from end.behind count ends place h.1

-- where one is left, an end is
end_left : (first from : ℕ) (bytes : List ℕ) (ends : List End) (place : ℕ) → cut_at first from bytes (drop place ends) ≢ [] → place < length ends
end_left first from bytes [] zero n = absurd (n refl)
end_left first from bytes [] (suc place) n = absurd (n refl)
end_left first from bytes (end ∷ ends) zero n = omega arith
end_left first from bytes (end ∷ ends) (suc place) n = let k = end_left first from bytes ends place n in omega arith

-- where an end is left, a text is
pub text_left : (first from : ℕ) (bytes : List ℕ) (ends : List End) (place : ℕ) → place < length ends → cut_at first from bytes (drop place ends) ≢ []
text_left first from bytes [] place l e = absurd (omega (arith, l))
text_left first from bytes (end ∷ ends) zero l e = absurd cc
text_left first from bytes (end ∷ ends) (suc place) l e = text_left first from bytes ends place (omega (arith, l)) e

-- where no end is left, no text is
pub none_left : (first from : ℕ) (bytes : List ℕ) (ends : List End) (place : ℕ) → length ends ≤ place → cut_at first from bytes (drop place ends) ≡ []
none_left first from bytes ends place l = ap (cut_at first from bytes) (drop_all place ends l)

-- texts stand where the bytes behind a place are the same
cut_behind : (first at from count : ℕ) (a b : List ℕ) (ends : List End) → drop at a ≡ drop at b → at ≤ from → AreEnds from count ends
    → cut_at first from a ends ≡ cut_at first from b ends
cut_behind first at from count a b [] e l h = refl
cut_behind first at from count a b (end ∷ ends) e l h =
    let n : at + (from - at) ≡ from = omega arith in
    let f = h.0 in
    let same : drop from a ≡ drop from b =
    ap (λ (x : ℕ). drop x a) (sym n) ∙ sym (drop-drop (from - at) at a) ∙ ap (drop (from - at)) e ∙ drop-drop (from - at) at b
    ∙ ap (λ (x : ℕ). drop x b) n in
    ap (λ (x : List ℕ). line_of end.number (shown first end.numbered (take (end.behind - from) x)) ∷ cut_at first end.behind a ends) same
    ∙ ap (λ (x : List Numbered). line_of end.number (shown first end.numbered (take (end.behind - from) (drop from b))) ∷ x)
    (cut_behind first at end.behind count a b ends e (omega arith) h.1)

-- ---- the next text

-- the bytes of the next text, where this is its end
abbrev bytes_to : Sieve → End → List ℕ
bytes_to sieve end = take (end.behind - sieve.from) (drop sieve.from sieve.bytes.items)

-- and the text as a whole, with its number
abbrev line_to : Sieve → End → Numbered
line_to sieve end = line_of end.number (shown sieve.first end.numbered (bytes_to sieve end))

-- the ends behind the next one
abbrev later : Sieve → List End
later sieve = drop (sieve.place + 1) sieve.ends.items

-- this is the end of the next text: it lies behind its beginning and within the buffer, and others behind it
pub record IsNext (sieve : Sieve) (end : End) : Type 0 where
  pub left : sieve.place < length sieve.ends.items
  pub from : sieve.from ≤ end.behind
  pub within : end.behind ≤ length sieve.bytes.items
  pub back : AreEnds end.behind (length sieve.bytes.items) (later sieve)
  pub rest : rest_in sieve ≡ line_to sieve end ∷ cut_at sieve.first end.behind sieve.bytes.items (later sieve)

-- what was read of the ends is it
pub is_next : (sieve : Sieve) (end : End) → IsSieve sieve → rest_in sieve ≢ [] → end ≡ get_or sieve.ends.items sieve.place end → IsNext sieve end
is_next sieve end h n e =
    let l = end_left sieve.first sieve.from sieve.bytes.items sieve.ends.items sieve.place n in
    let ends : drop sieve.place sieve.ends.items ≡ end ∷ later sieve =
    drop_more sieve.ends.items sieve.place end l ∙ ap (λ (x : End). x ∷ later sieve) (sym e) in
    let back = subst (AreEnds sieve.from (length sieve.bytes.items)) ends h.back in
    record {
      left = l;
      from = back.0;
      within = from_within end.behind (length sieve.bytes.items) (later sieve) back.1;
      back = back.1;
      rest = ap (cut_at sieve.first sieve.from sieve.bytes.items) ends;
    }

-- lines of which one is left begin with it
pub left_line : (lines : List Numbered) → lines ≢ [] → (line : Numbered) × (more : List Numbered) × (lines ≡ line ∷ more)
left_line [] n = absurd (n refl)
left_line (line ∷ more) n = (line, more, refl)

same_line : {x y : Numbered} {xs ys : List Numbered} → x ∷ xs ≡ y ∷ ys → x ≡ y
same_line e = cc

same_lines : {x y : Numbered} {xs ys : List Numbered} → x ∷ xs ≡ y ∷ ys → xs ≡ ys
same_lines e = cc

-- it is the first of those that are left
pub next_line : {sieve : Sieve} {end : End} {line : Numbered} {more : List Numbered} → IsNext sieve end → rest_in sieve ≡ line ∷ more
    → line ≡ line_to sieve end
next_line n is = same_line (sym is ∙ n.rest)

-- behind it are the others
pub next_rest : {sieve : Sieve} {end : End} {line : Numbered} {more : List Numbered} → IsNext sieve end → rest_in sieve ≡ line ∷ more
    → cut_at sieve.first end.behind sieve.bytes.items (later sieve) ≡ more
next_rest n is = same_lines (sym n.rest ∙ is)

-- ---- one text more

-- no text was looked at
pub sieve_new : (new : Sieve) → new.kept ≡ 0 → new.behind ≡ 0 → new.from ≡ start_at 0 new.ends.items new.place
    → AreEnds 0 (length new.bytes.items) new.ends.items → IsSieve new
sieve_new new k b f h =
    let back : AreEnds new.from (length new.bytes.items) (drop new.place new.ends.items) =
    subst (λ (x : ℕ). AreEnds x (length new.bytes.items) (drop new.place new.ends.items)) (sym f)
    (ends_from 0 (length new.bytes.items) new.ends.items new.place h) in
    record {
      few = omega arith;
      short = omega arith;
      within = from_within new.from (length new.bytes.items) (drop new.place new.ends.items) back;
      front = subst (λ (x : ℕ). AreEnds 0 new.behind (take x new.ends.items)) (sym k) (sym b);
      back = back;
    }

-- the next text is left out
pub skipped : {sieve : Sieve} {end : End} → IsSieve sieve → IsNext sieve end → IsSieve (record sieve { place = sieve.place + 1; from = end.behind })
skipped h n =
    let few = h.few in
    let short = h.short in
    let from = n.from in
    record { few = omega arith; short = omega arith; within = n.within; front = h.front; back = n.back }

-- the next text is kept: what its end becomes
abbrev pub moved_end : Sieve → End → End
moved_end sieve end = record { number = end.number; behind = sieve.behind + (end.behind - sieve.from); numbered = end.numbered }

-- the sieve behind it, with these bytes
abbrev pub moved : Sieve → End → Vec ℕ Global → Sieve
moved sieve end bytes = record {
  bytes = bytes;
  ends = with_item sieve.ends sieve.kept (moved_end sieve end);
  first = sieve.first;
  kept = sieve.kept + 1;
  behind = sieve.behind + (end.behind - sieve.from);
  place = sieve.place + 1;
  from = end.behind;
}

-- the bytes are those of before, where the text's were moved towards the front
abbrev pub AreMoved : Sieve → End → Vec ℕ Global → Type 0
AreMoved sieve end bytes = bytes.items ≡ paste sieve.bytes.items sieve.behind (drop sieve.from sieve.bytes.items) (end.behind - sieve.from)

module _ {sieve : Sieve} {end : End} (bytes : Vec ℕ Global) (h : IsSieve sieve) (n : IsNext sieve end) (b : AreMoved sieve end bytes) where
  -- the ends at the front are one more
  front_ends : take (sieve.kept + 1) (slice_set sieve.ends.items sieve.kept (moved_end sieve end))
      ≡ take sieve.kept sieve.ends.items ++ (moved_end sieve end ∷ [])
  front_ends =
      let few = h.few in
      let left = n.left in
      take_more_set sieve.ends.items sieve.kept (moved_end sieve end) (omega arith)

  -- those that are left are the same
  back_ends : drop (sieve.place + 1) (slice_set sieve.ends.items sieve.kept (moved_end sieve end)) ≡ later sieve
  back_ends = let few = h.few in drop-set-lt (sieve.place + 1) sieve.ends.items sieve.kept (moved_end sieve end) (omega arith)

  -- there are as many bytes as before
  count_moved : length bytes.items ≡ length sieve.bytes.items
  count_moved =
      let from = n.from in
      let within = n.within in
      let short = h.short in
      let d = length-drop sieve.from sieve.bytes.items in
      ap length b
      ∙ length-paste sieve.bytes.items sieve.behind (drop sieve.from sieve.bytes.items) (end.behind - sieve.from) (omega arith) (omega arith)

  pub kept_sieve : IsSieve (moved sieve end bytes)
  kept_sieve =
      let few = h.few in
      let short = h.short in
      let from = n.from in
      let within = n.within in
      let count = count_moved in
      record {
        few = omega arith;
        short = omega arith;
        within = omega arith;
        front = subst (AreEnds 0 (sieve.behind + (end.behind - sieve.from))) (sym front_ends)
            (ends_more 0 end.number (sieve.behind + (end.behind - sieve.from)) sieve.behind end.numbered (take sieve.kept sieve.ends.items) h.front
            (omega arith));
        back = subst (AreEnds end.behind (length bytes.items)) (sym back_ends)
            (subst (λ (x : ℕ). AreEnds end.behind x (later sieve)) (sym count) n.back);
      }

  -- it stands behind those that were kept before
  pub kept_one : (line : Numbered) (more : List Numbered) → rest_in sieve ≡ line ∷ more
      → kept_in (moved sieve end bytes) ≡ kept_in sieve ++ (line ∷ [])
  kept_one line more is =
      let text = bytes_to sieve end in
      let front = take sieve.behind sieve.bytes.items in
      let from = n.from in
      let short = h.short in
      let within = n.within in
      let t = length-take-le sieve.behind sieve.bytes.items (omega arith) in
      let d = length-drop sieve.from sieve.bytes.items in
      let u = length-take-le (end.behind - sieve.from) (drop sieve.from sieve.bytes.items) (omega arith) in
      let a = length-append front text in
      let e : take (sieve.behind + (end.behind - sieve.from)) bytes.items ≡ front ++ text =
      ap (take (sieve.behind + (end.behind - sieve.from))) b
      ∙ take-paste sieve.bytes.items sieve.behind (drop sieve.from sieve.bytes.items) (end.behind - sieve.from) (omega arith) (omega arith) in
      ap (λ (x : List ℕ). cut_at sieve.first 0 x (take (sieve.kept + 1) (slice_set sieve.ends.items sieve.kept (moved_end sieve end)))) e
      ∙ ap (cut_at sieve.first 0 (front ++ text)) front_ends
      ∙ cut_more sieve.first 0 end.number (sieve.behind + (end.behind - sieve.from)) end.numbered front text (take sieve.kept sieve.ends.items)
      (subst (λ (x : ℕ). AreEnds 0 x (take sieve.kept sieve.ends.items)) (sym t) h.front) (omega arith)
      ∙ ap (λ (x : Numbered). kept_in sieve ++ (x ∷ [])) (sym (next_line n is))

  -- and the others stay where they are
  pub rest_kept : (line : Numbered) (more : List Numbered) → rest_in sieve ≡ line ∷ more → rest_in (moved sieve end bytes) ≡ more
  rest_kept line more is =
      let from = n.from in
      let short = h.short in
      let within = n.within in
      let d = length-drop sieve.from sieve.bytes.items in
      ap (cut_at sieve.first end.behind bytes.items) back_ends
      ∙ cut_behind sieve.first (sieve.behind + (end.behind - sieve.from)) end.behind (length sieve.bytes.items) bytes.items sieve.bytes.items (later sieve)
      (ap (drop (sieve.behind + (end.behind - sieve.from))) b
      ∙ drop-paste sieve.bytes.items sieve.behind (drop sieve.from sieve.bytes.items) (end.behind - sieve.from) (omega arith) (omega arith))
      (omega arith) n.back
      ∙ next_rest n is

-- one text more was kept, and one less is left: together they are the same
pub together : (kept rest new_kept more : List Numbered) (line : Numbered) → rest ≡ line ∷ more → new_kept ≡ kept ++ (line ∷ [])
    → new_kept ++ more ≡ kept ++ rest
together kept rest new_kept more line r k =
    ap (λ (x : List Numbered). x ++ more) k ∙ append_assoc kept (line ∷ []) more ∙ ap (λ (x : List Numbered). kept ++ x) (sym r)
