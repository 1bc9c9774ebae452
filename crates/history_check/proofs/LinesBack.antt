-- The line of an entry is read as this entry, part by part from the left.
use Rattle.std.proofs.Common.{◌≡◌, ℕ, ◌-◌, ◌^◌, ◌<◌, ◌≤◌, List, [], ◌∷◌, ◌++◌, Option, Some, None, Bool, true, false, length, take, codes}
use Rattle.std.proofs.Common.{decimal, refl, sym, ap, ◌∙◌, subst, arith, append_assoc, append-nil}
use Rattle.std.specs.Prelude.{Result, Ok, Err, ◌==◌, if◌then◌else◌}
use Rattle.std.proofs.Math.Seq.{take-append_seam}
use Rattle.std.specs.Bool.{Decides}
use Rattle.std.proofs.lemmas.List.{append_cancel_right, length-append}
use Rattle.page_types.specs.declared.TheConstants.{LIMIT}
use Rattle.page_types.specs.declared.calls.Call.{Call}
use Rattle.page_types.specs.declared.calls.Reply.{Reply}
use Rattle.page_types.specs.declared.pages.Span.{Span}
use Rattle.page_types.specs.Named.{IsNamedCall, IsNamedReply}
use Rattle.space_model.specs.declared.entries.Entry.{Entry}
use Rattle.space_model.specs.declared.entries.Under.{Under}
use Rattle.space_model.specs.declared.entries.Under.TheVariants.{Nothing, Reader, Area, Whole}
use Rattle.line_parts.specs.declared.refusal.Refusal.{Refusal}
use Rattle.line_parts.specs.declared.refusal.What.{What}
use Rattle.line_parts.specs.Parts.{starts}
use Rattle.line_parts.specs.Leaves.{is}
use Rattle.line_parts.specs.Reading.{until_at}
use Rattle.maps_printer.specs.Calls.{call_text, reply_text}
use Rattle.maps_printer.specs.Lines.{entry_line, span_text, under_text}
use Rattle.maps_printer.specs.Numbers.{prefixed_hex}
use Rattle.round_trip.specs.Logs.{FitsCall, FitsReply, FitsHeld, HasWordNumbers}
use Rattle.strace_reader.specs.declared.item.Item.{Item}
use Rattle.strace_reader.specs.declared.item.Item.TheVariants.{Played}
use Rattle.strace_reader.specs.declared.item.Recorded.{Recorded}
use Rattle.strace_reader.specs.Grammar.{Spells}
use Rattle.round_trip.proofs.CallsRead.{call_text_spells, call_text_length}
use Rattle.round_trip.proofs.LogsRead.{dash_ends, close_cut, same_ends, span_of}
use Rattle.history_check.specs.LogLines.{HasNarrowRows, IsLogLine}
use Rattle.history_check.specs.Reading.{strip_at, ends_at, head_at, outcome_at}
use Rattle.history_check.proofs.WordsBack.{until_close}
use Rattle.history_check.proofs.NumbersBack.{decimal_back, small_back, page_back}
use Rattle.history_check.proofs.RepliesBack.{no_decimal, reply_reads}

-- ---- the numbers at the front, and the reply

-- the numbers at the front
pub head_reads : (n w l : ℕ) (rest : List ℕ) → n < 2 ^ 64 → w < 2 ^ 32 → l < 2 ^ 32
    → head_at (decimal n ++ 32 ∷ (decimal w ++ 32 ∷ (decimal l ++ 32 ∷ rest))) ≡ Some ((n, w, l), rest)
unfolding head_at strip_at
head_reads n w l rest a b c = rw (
  decimal_back n (32 ∷ (decimal w ++ 32 ∷ (decimal l ++ 32 ∷ rest))) a (no_decimal (decimal w ++ 32 ∷ (decimal l ++ 32 ∷ rest))),
  small_back w (32 ∷ (decimal l ++ 32 ∷ rest)) b (no_decimal (decimal l ++ 32 ∷ rest)),
  small_back l (32 ∷ rest) c (no_decimal rest),
) refl

-- a reply, with the words around it
pub outcome_reads : (r : Reply) (rest : List ℕ) → FitsReply r → HasNarrowRows r → IsNamedReply r
    → outcome_at (codes " = " ++ (reply_text r ++ (codes " under " ++ rest))) ≡ Some (r, rest)
unfolding outcome_at strip_at
outcome_reads r rest fits narrow named = rw (reply_reads r (codes "under " ++ rest) fits narrow named refl) refl

-- ---- what was held

span_parts : (s : Span) → span_text s ≡ prefixed_hex s.lo ++ 45 ∷ (prefixed_hex s.hi ++ [])
span_parts s = append_assoc (prefixed_hex s.lo) (codes "-") (prefixed_hex s.hi) ∙ ap (λ l. prefixed_hex s.lo ++ 45 ∷ l) (sym (append-nil (prefixed_hex s.hi)))

both_ends : (lo hi : ℕ) → lo < 2 ^ 64 → hi < 2 ^ 64 → ends_at (prefixed_hex lo ++ 45 ∷ (prefixed_hex hi ++ [])) ≡ Some (lo, hi)
unfolding ends_at strip_at
both_ends lo hi a b = rw (page_back lo (45 ∷ (prefixed_hex hi ++ [])) a dash_ends, page_back hi [] b tt) refl

-- the two ends of a span
pub ends_reads : (s : Span) (text : List ℕ) → s.lo < 2 ^ 64 → s.hi < 2 ^ 64 → text ≡ span_text s → ends_at text ≡ Some (s.lo, s.hi)
ends_reads s text a b e = ap ends_at (e ∙ span_parts s) ∙ both_ends s.lo s.hi a b

-- what is there isn't missing
pub none_some : {A : Type 0} (x : A) → None ≡ Some x → ⊥
none_some x e = cc

some_same : {A : Type 0} (x y : A) → Some x ≡ Some y → x ≡ y
some_same x y e = cc

-- a text of a span has two ends
pub no_ends : (s : Span) (text : List ℕ) → s.lo < 2 ^ 64 → s.hi < 2 ^ 64 → text ≡ span_text s → None ≡ ends_at text → ⊥
no_ends s text a b e h = none_some (s.lo, s.hi) (h ∙ ends_reads s text a b e)

-- and they are the span's
pub ends_are : (s : Span) (text : List ℕ) (lo hi : ℕ) → s.lo < 2 ^ 64 → s.hi < 2 ^ 64 → text ≡ span_text s → Some (lo, hi) ≡ ends_at text
    → (lo ≡ s.lo) × (hi ≡ s.hi)
ends_are s text lo hi a b e h =
    let same : ◌≡◌ {A = ℕ × ℕ} (lo, hi) (s.lo, s.hi) = some_same (lo, hi) (s.lo, s.hi) (h ∙ ends_reads s text a b e) in (ap (λ p. p.0) same, ap (λ p. p.1) same)

-- the ends of a span are in order
pub in_order : (s : Span) (lo hi : ℕ) → (lo ≡ s.lo) × (hi ≡ s.hi) → hi ≤ lo → ⊥
in_order s lo hi is wrong = let low = is.0 in let high = is.1 in let ordered = s.ordered in omega arith

-- and not too high
pub in_bounds : (s : Span) (lo hi : ℕ) → (lo ≡ s.lo) × (hi ≡ s.hi) → LIMIT < hi → ⊥
in_bounds s lo hi is wrong = omega (arith, is.1, s.in_range)

-- a span that has these ends is this one
pub span_is : (s : Span) (lo hi : ℕ) → (lo ≡ s.lo) × (hi ≡ s.hi) → (a : lo < hi) (b : hi ≤ LIMIT) → Some (span_of lo hi a b) ≡ Some s
span_is s lo hi is a b = ap Some (same_ends lo hi a b s.lo is.0 s.hi is.1 s.ordered s.in_range)

-- a text that begins as that of a reader is that of a reader's span
pub reader_is : (u : Under) (text rest : List ℕ) → FitsHeld u → text ≡ under_text u → Some rest ≡ strip_at (codes "reader ") text
    → (s : Span) × (u ≡ Reader s) × (rest ≡ span_text s) × (s.lo < 2 ^ 64) × (s.hi < 2 ^ 64)
unfolding strip_at
reader_is (Reader s) text rest fits e h = let k = rw e at h in (s, refl, cc, fits.0, fits.1)
reader_is u text rest fits e h = absurd (let k = rw e at h in cc)

-- a text that begins as that of an area is that of an area's span
pub area_is : (u : Under) (text rest : List ℕ) → FitsHeld u → text ≡ under_text u → Some rest ≡ strip_at (codes "area ") text
    → (s : Span) × (u ≡ Area s) × (rest ≡ span_text s) × (s.lo < 2 ^ 64) × (s.hi < 2 ^ 64)
unfolding strip_at
area_is (Area s) text rest fits e h = let k = rw e at h in (s, refl, cc, fits.0, fits.1)
area_is u text rest fits e h = absurd (let k = rw e at h in cc)

-- so that is what was held
pub span_held : (make : Span → Under) (u : Under) (rest : List ℕ) (found : Option Span)
    → (s : Span) × (u ≡ make s) × (rest ≡ span_text s) × (s.lo < 2 ^ 64) × (s.hi < 2 ^ 64)
    → ((s : Span) → s.lo < 2 ^ 64 → s.hi < 2 ^ 64 → rest ≡ span_text s → found ≡ Some s) → (s : Span) × (u ≡ make s) × (found ≡ Some s)
span_held make u rest found r spans = (r.0, r.1, spans r.0 r.3 r.4 r.2)

-- what was found is what was held
pub span_found : (make : Span → Under) (u : Under) (held : Span) → (s : Span) × (u ≡ make s) × (Some held ≡ Some s) → Some (make held) ≡ Some u
span_found make u held h = ap (λ s. Some (make s)) (some_same held h.0 h.2) ∙ ap Some (sym h.1)

-- a text that begins as that of nothing is that one
pub nothing_is : (u : Under) (text rest : List ℕ) → text ≡ under_text u → strip_at (codes "none") text ≡ Some rest → u ≡ Nothing
unfolding strip_at
nothing_is Nothing text rest e h = refl
nothing_is u text rest e h = absurd (let k = rw e at h in cc)

-- and one that begins as none of these is that of all pages
pub all_is : (u : Under) (text : List ℕ) → text ≡ under_text u → strip_at (codes "reader ") text ≡ None → strip_at (codes "area ") text ≡ None
    → strip_at (codes "none") text ≡ None → u ≡ Whole
unfolding strip_at
all_is Nothing text e r a n = absurd (let k = rw e at n in cc)
all_is (Reader s) text e r a n = absurd (let k = rw e at r in cc)
all_is (Area s) text e r a n = absurd (let k = rw e at a in cc)
all_is Whole text e r a n = refl

-- ---- the call

-- a call ends at its parenthesis, which a space follows
pub call_ends : (w : What) (c : Call) (rest : List ℕ) → FitsCall c → until_at 41 32 w (call_text c ++ 32 ∷ rest) ≡ Ok (tt, 32 ∷ rest)
call_ends w c rest fits =
    let b = close_cut c fits in ap (until_at 41 32 w) (ap (λ l. l ++ 32 ∷ rest) b.2 ∙ append_assoc b.0 (41 ∷ []) (32 ∷ rest)) ∙ until_close w b.0 rest b.1

ok_same : (x y : List ℕ) → ◌≡◌ {A = Result (Unit {0} × List ℕ) Refusal} (Ok (tt, x)) (Ok (tt, y)) → x ≡ y
ok_same x y e = let p : ◌≡◌ {A = Unit {0} × List ℕ} (tt, x) (tt, y) = cc in ap (λ q. q.1) p

-- so it is found
pub call_lost : (w : What) (c : Call) (text rest : List ℕ) (why : Refusal) → FitsCall c → text ≡ call_text c ++ 32 ∷ rest → until_at 41 32 w text ≡ Err why → ⊥
call_lost w c text rest why fits e h = let k = sym (ap (until_at 41 32 w) e ∙ call_ends w c rest fits) ∙ h in cc

-- with what stands behind it
pub call_found : (w : What) (c : Call) (text rest found : List ℕ) → FitsCall c → text ≡ call_text c ++ 32 ∷ rest
    → until_at 41 32 w text ≡ Ok (tt, found) → found ≡ 32 ∷ rest
call_found w c text rest found fits e h = sym (ok_same (32 ∷ rest) found (sym (ap (until_at 41 32 w) e ∙ call_ends w c rest fits) ∙ h))

-- how long the call is
call_long : (c : Call) (text rest found : List ℕ) → text ≡ call_text c ++ 32 ∷ rest → found ≡ 32 ∷ rest → length text - length found ≡ length (call_text c)
call_long c text rest found e is = let a = ap length e ∙ length-append (call_text c) (32 ∷ rest) in let b = ap length is in omega arith

-- it isn't too long
pub call_short : (c : Call) (text rest found : List ℕ) → IsNamedCall c → FitsCall c → text ≡ call_text c ++ 32 ∷ rest
    → found ≡ 32 ∷ rest → 200 < length text - length found → ⊥
call_short c text rest found named fits e is long = let a = call_long c text rest found e is in let b = call_text_length c named fits in omega arith

-- and is the line of this call
pub call_spelled : (c : Call) (text rest found : List ℕ) → IsNamedCall c → FitsCall c → text ≡ call_text c ++ 32 ∷ rest → found ≡ 32 ∷ rest
    → Spells (take (length text - length found) text) (Played 0 c None)
call_spelled c text rest found named fits e is =
    let first : take (length text - length found) text ≡ call_text c =
    ap (λ n. take n text) (call_long c text rest found e is) ∙ ap (take (length (call_text c))) e ∙ take-append_seam (call_text c) (32 ∷ rest) in
    subst (λ t. Spells t (Played 0 c None)) (sym first) (call_text_spells c named fits)

-- what was read of it is this call
pub item_is : {E : Type 0} (item : Item) (c : Call) → ◌≡◌ {A = Result Item E} (Ok item) (Ok (Played 0 c None)) → item ≡ Played 0 c None
item_is item c e = cc

-- so the call that was read is this one
pub call_is : {E : Type 0} (item : Item) (pid : ℕ) (done c : Call) (recorded : Option Recorded) → item ≡ Played pid done recorded
    → ◌≡◌ {A = Result Item E} (Ok item) (Ok (Played 0 c None)) → done ≡ c
call_is item pid done c recorded e h = let k = sym e ∙ item_is item c h in cc

until_step : (x y : ℕ) (w : What) (a b : Bool) (text rest : List ℕ) → (until_at x y w text ≡ Ok (tt, rest) → length rest ≤ length text)
    → (if a then (if b then Ok (tt, text) else until_at x y w text) else until_at x y w text) ≡ Ok (tt, rest) → length rest ≤ length text
until_step x y w true true text rest more h = let k = ap length (ok_same text rest h) in omega arith
until_step x y w true false text rest more h = more h
until_step x y w false b text rest more h = more h

-- no more is left behind a pair of bytes than there was
pub until_short : (x y : ℕ) (w : What) (text rest : List ℕ) → until_at x y w text ≡ Ok (tt, rest) → length rest ≤ length text
unfolding until_at
until_short x y w [] rest h = absurd cc
until_short x y w (c ∷ text) rest h = let k = until_step x y w (c == x) (starts (is y) text) text rest (λ e. until_short x y w text rest e) h in omega arith

-- ---- the whole line

nest_entry : (sp n w l c q r u h nl : List ℕ)
    → n ++ sp ++ w ++ sp ++ l ++ sp ++ c ++ q ++ r ++ u ++ h ++ nl ≡ (n ++ (sp ++ (w ++ (sp ++ (l ++ (sp ++ (c ++ (q ++ (r ++ (u ++ h)))))))))) ++ nl
nest_entry sp n w l c q r u h nl = simp append_assoc

-- what stands behind the space that follows a call
abbrev pub behind_call : Entry → List ℕ
behind_call e = codes "= " ++ (reply_text e.reply ++ (codes " under " ++ under_text e.under))

-- the line of an entry, without its newline, as its parts
line_is : (text : List ℕ) (e : Entry) → text ++ 10 ∷ [] ≡ entry_line e
    → text ≡ decimal e.number ++ 32 ∷ (decimal e.worker ++ 32 ∷ (decimal e.line ++ 32 ∷ (call_text e.call ++ 32 ∷ behind_call e)))
line_is text e is = append_cancel_right text _ (10 ∷ []) (is ∙ nest_entry (codes " ") (decimal e.number) (decimal e.worker) (decimal e.line) (call_text e.call)
    (codes " = ") (reply_text e.reply) (codes " under ") (under_text e.under) (codes "\n"))

-- the numbers at the front of a line are its entry's, and the call stands behind them
pub front_is : (text : List ℕ) (e : Entry) → IsLogLine text e → head_at text ≡ Some ((e.number, e.worker, e.line), call_text e.call ++ 32 ∷ behind_call e)
front_is text e is = let small = is.0.worker in
    ap head_at (line_is text e is.1) ∙ head_reads e.number e.worker e.line (call_text e.call ++ 32 ∷ behind_call e) is.0.words.number (omega arith) is.0.line

-- behind the call its reply stands, and what was held
pub back_is : (text : List ℕ) (e : Entry) → IsLogLine text e → outcome_at (32 ∷ behind_call e) ≡ Some (e.reply, under_text e.under)
back_is text e is = outcome_reads e.reply (under_text e.under) is.0.words.reply is.0.rows is.0.named.1

-- a line of a log has numbers at its front
pub no_front : (text : List ℕ) (e : Entry) → IsLogLine text e → None ≡ head_at text → ⊥
no_front text e it h = none_some _ (h ∙ front_is text e it)

-- what was read of the numbers, and what is left
abbrev pub IsFront : Entry → ℕ → ℕ → ℕ → List ℕ → Type 0
IsFront e n w l rest = (n ≡ e.number) × (w ≡ e.worker) × (l ≡ e.line) × (rest ≡ call_text e.call ++ 32 ∷ behind_call e)

-- the numbers that were read are the entry's
pub front_found : (text : List ℕ) (e : Entry) (n w l : ℕ) (rest : List ℕ) → IsLogLine text e → Some ((n, w, l), rest) ≡ head_at text → IsFront e n w l rest
front_found text e n w l rest it h =
    let same : ◌≡◌ {A = (ℕ × ℕ × ℕ) × List ℕ} ((n, w, l), rest) ((e.number, e.worker, e.line), call_text e.call ++ 32 ∷ behind_call e) =
    some_same _ _ (h ∙ front_is text e it) in (ap (λ p. p.0.0) same, ap (λ p. p.0.1) same, ap (λ p. p.0.2) same, ap (λ p. p.1) same)

-- it has a reply behind its call
pub no_back : (text : List ℕ) (e : Entry) (rest : List ℕ) → IsLogLine text e → rest ≡ 32 ∷ behind_call e → None ≡ outcome_at rest → ⊥
no_back text e rest it at h = none_some _ (h ∙ ap outcome_at at ∙ back_is text e it)

-- and what was read behind the call is
pub back_found : (text : List ℕ) (e : Entry) (rest : List ℕ) (r : Reply) (last : List ℕ) → IsLogLine text e → rest ≡ 32 ∷ behind_call e
    → Some (r, last) ≡ outcome_at rest → (r ≡ e.reply) × (last ≡ under_text e.under)
back_found text e rest r last it at h =
    let same : ◌≡◌ {A = Reply × List ℕ} (r, last) (e.reply, under_text e.under) = some_same _ _ (h ∙ ap outcome_at at ∙ back_is text e it) in (
      ap (λ p. p.0) same,
      ap (λ p. p.1) same,
    )

-- an entry is its parts
pub whole_found : (e : Entry) (n w l : ℕ) (c : Call) (r : Reply) (u : Under) → n ≡ e.number → w ≡ e.worker → l ≡ e.line → c ≡ e.call → r ≡ e.reply
    → Some u ≡ Some e.under → Some (record { number = n; worker = w; line = l; call = c; reply = r; under = u }) ≡ Some e
whole_found e n w l c r u a b d f g h =
    let held = some_same u e.under h in λ i. Some (record { number = a i; worker = b i; line = d i; call = f i; reply = g i; under = held i })

-- a text is the line of an entry in a log where the printer writes it of an entry that a log can show
pub log_line : (text : List ℕ) (e : Entry) (test : Bool) → HasWordNumbers e → e.worker < 16 → e.line < 2 ^ 32 → HasNarrowRows e.reply → IsNamedCall e.call
    → IsNamedReply e.reply → Decides test (text ++ 10 ∷ [] ≡ entry_line e) → Decides test (IsLogLine text e)
log_line text e test words worker line rows call reply same = (
  λ yes. (record { words = words; worker = worker; line = line; rows = rows; named = (call, reply) }, same.0 yes),
  λ is. same.1 is.1,
)
