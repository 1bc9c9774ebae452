-- What a turn of an entry that is due comes to.
use Rattle.std.proofs.Common.{◌≡◌, ℕ, zero, suc, ◌+◌, ◌*◌, ◌<◌, Bool, List, [], ◌∷◌, ◌++◌, length, Option, Some, None, refl, sym, ap, subst, ◌∙◌, append_assoc, inl, inr, arith}
use Rattle.std.specs.Prelude.{reverse}
use Rattle.std.proofs.lemmas.List.{append-nil, length-append, length-map, length-reverse, reverse-append}
use Rattle.raw_logs.specs.declared.counts.Counts.{Counts}
use Rattle.raw_logs.proofs.TextLists.{item_of}
use Rattle.raw_trace.specs.declared.fault.Fault.{Fault}
use Rattle.raw_trace.specs.declared.order.Ordering.{Ordering}
use Rattle.raw_trace.specs.declared.piece.Piece.{Piece}
use Rattle.raw_trace.specs.declared.writing.Written.{Written}
use Rattle.raw_trace.specs.Order.{Entry, Picked, Written as WrittenOf, frees_for, pick, turns, write_due, write_entry}
use Rattle.raw_trace.specs.Faults.{IsFirstFault}
use Rattle.raw_trace.specs.declared.tally.Tally.{Tally}
use Rattle.raw_trace.specs.Rewriting.{text_of, lines_as, counted_entry, counted_call, counted_all, calls_after, shown_all}
use Rattle.raw_trace.specs.Heaps.{shown}
use Rattle.raw_trace.specs.Waiting.{entry, entries}
use Rattle.raw_trace.specs.Stages.{due_of, MayBeWritten, WroteLines, WroteDue, EndsDue, TookTurn, wrote_one, made_due, EndsTurn, DueSome}
use Rattle.raw_trace.proofs.EachEntries.{each_both}
use Rattle.raw_trace.proofs.OneFault.{first_behind}
use Rattle.raw_trace.proofs.OwnCalls.{Picks, picks_one, picks_none, picks}

-- ---- what is due

due_more : (a : List Piece) (x : Piece) → due_of (a ++ (x ∷ [])) ≡ entry x ∷ due_of a
due_more a x = ap reverse (entries_both a (x ∷ [])) ∙ reverse-append (entries a) (entry x ∷ [])
  where
    entries_both : (a b : List Piece) → entries (a ++ b) ≡ entries a ++ entries b
    entries_both [] b = refl
    entries_both (x ∷ a) b = ap (λ (z : List Entry). entry x ∷ z) (entries_both a b)

-- two more are due
pub due_two : (old one two : List Piece) (piece other : Piece) → one ≡ old ++ (piece ∷ []) → two ≡ one ++ (other ∷ [])
    → due_of two ≡ entry other ∷ (entry piece ∷ due_of old)
due_two old one two piece other e f =
    ap due_of f ∙ due_more one other ∙ ap (λ (z : List Entry). entry other ∷ z) (ap due_of e ∙ due_more old piece)

-- one that is due was taken
pub due_less : (old new : List Piece) (piece : Piece) → old ≡ new ++ (piece ∷ []) → due_of old ≡ entry piece ∷ due_of new
due_less old new piece e = ap due_of e ∙ due_more new piece

-- ---- what was written

pub wrote_none : (strict : Bool) (w : Written) → WroteLines strict w [] w
wrote_none strict w = record { out = sym (append-nil w.out.items); counts = refl; calls = refl; may = tt }

text_both : (a b : List Entry) → text_of (lines_as (a ++ b)) ≡ text_of (lines_as a) ++ text_of (lines_as b)
text_both [] b = refl
text_both (x ∷ a) b =
    ap (λ (y : List ℕ). x.line ++ (10 ∷ y)) (text_both a b) ∙ sym (append_assoc x.line (10 ∷ text_of (lines_as a)) (text_of (lines_as b)))

pub counted_both : (c : Counts) (a b : List Entry) → counted_all c (a ++ b) ≡ counted_all (counted_all c a) b
counted_both c [] b = refl
counted_both c (x ∷ a) b = counted_both (counted_entry x c) a b

pub calls_both : (n : Tally) (a b : List Entry) → calls_after n (a ++ b) ≡ calls_after (calls_after n a) b
calls_both n [] b = refl
calls_both n (x ∷ a) b = calls_both (counted_call x.call n) a b

shown_both : (n : Tally) (a b : List Entry) → shown_all n (a ++ b) ≡ shown_all n a ++ shown_all (calls_after n a) b
shown_both n [] b = refl
shown_both n (x ∷ a) b = ap (λ (y : List Entry). shown n x ∷ y) (shown_both (counted_call x.call n) a b)

-- what is written of two lists
pub text_shown : (n : Tally) (a b : List Entry)
    → text_of (lines_as (shown_all n (a ++ b))) ≡ text_of (lines_as (shown_all n a)) ++ text_of (lines_as (shown_all (calls_after n a) b))
text_shown n a b = ap (λ (x : List Entry). text_of (lines_as x)) (shown_both n a b) ∙ text_both (shown_all n a) (shown_all (calls_after n a) b)

-- and of lines behind lines that were written, behind these calls
pub text_behind : (n m : Tally) (a b : List Entry) (out mid new : List ℕ) → mid ≡ out ++ text_of (lines_as (shown_all n a)) → m ≡ calls_after n a
    → new ≡ mid ++ text_of (lines_as (shown_all m b)) → new ≡ out ++ text_of (lines_as (shown_all n (a ++ b)))
text_behind n m a b out mid new h e g =
    let one = text_of (lines_as (shown_all n a)) in
    let two = text_of (lines_as (shown_all (calls_after n a) b)) in
    g ∙ ap (λ (x : Tally). mid ++ text_of (lines_as (shown_all x b))) e ∙ ap (λ (x : List ℕ). x ++ two) h ∙ append_assoc out one two
    ∙ ap (λ (x : List ℕ). out ++ x) (sym (text_shown n a b))

pub wrote_both : (strict : Bool) (x y z : Written) (a b : List Entry) → WroteLines strict x a y → WroteLines strict y b z → WroteLines strict x (a ++ b) z
wrote_both strict x y z a b h g =
    record {
      out = text_behind x.calls y.calls a b x.out.items y.out.items z.out.items h.out h.calls g.out;
      counts = g.counts ∙ ap (λ (w : Counts). counted_all w b) h.counts ∙ sym (counted_both x.counts a b);
      calls = g.calls ∙ ap (λ (w : Tally). calls_after w b) h.calls ∙ sym (calls_both x.calls a b);
      may = each_both (MayBeWritten strict) a b h.may g.may;
    }

-- ---- the loop

-- at first the entry is due alone
pub due_first : (strict : Bool) (old : Ordering) (piece : Piece) (due : List Piece) → due ≡ piece ∷ []
    → DueSome strict old (write_entry frees_for (entry piece) old.waiting) due old
due_first strict old piece due e =
    record {
      lines = [];
      wrote = wrote_none strict old.written;
      left = write_entry frees_for (entry piece) old.waiting;
      turned = ap (λ (d : List Piece). write_due (turns (due_of d) old.waiting) frees_for (due_of d) old.waiting) (sym e);
      more = refl;
      waits = refl;
    }

-- one entry more is due
turns_more : (one : Entry) (due ws : List Entry) → turns (one ∷ due) ws ≡ suc (turns due ws)
turns_more one due ws = omega arith

-- a turn of an entry leaves the rest
turn_written : (one : Entry) (due ws : List Entry) → pick (λ other. frees_for other one) ws ≡ None
    → write_due (turns (one ∷ due) ws) frees_for (one ∷ due) ws
    ≡ record { lines = one ∷ (write_due (turns due ws) frees_for due ws).lines; waiting = (write_due (turns due ws) frees_for due ws).waiting }
turn_written one due ws is = ap (λ (n : ℕ). write_due n frees_for (one ∷ due) ws) (turns_more one due ws) ∙ rw is refl

turn_due : (one : Entry) (due ws : List Entry) (p : Picked) (n : ℕ) → pick (λ other. frees_for other one) ws ≡ Some p
    → turns (one ∷ due) ws ≡ suc n → write_due (turns (one ∷ due) ws) frees_for (one ∷ due) ws ≡ write_due n frees_for (p.first ∷ (one ∷ due)) p.others
turn_due one due ws p n is e = ap (λ (k : ℕ). write_due k frees_for (one ∷ due) ws) e ∙ rw is refl

-- a picked entry is one fewer that waits
turns_picked : (test : Entry → Bool) (one : Entry) (due ws : List Entry) (p : Picked) → pick test ws ≡ Some p
    → turns (one ∷ due) ws ≡ suc (turns (p.first ∷ (one ∷ due)) p.others)
turns_picked test one due ws p is = by (picks test ws)
  where
    by : Picks test ws → turns (one ∷ due) ws ≡ suc (turns (p.first ∷ (one ∷ due)) p.others)
    by (picks_none none) = let k : ◌≡◌ {A = Option Picked} None (Some p) = sym none ∙ is in absurd cc
    by (picks_one a x b e t some) =
        let k : ◌≡◌ {A = Option Picked} (Some (record { first = x; others = a ++ b })) (Some p) = sym some ∙ is in
        let same : record { first = x; others = a ++ b } ≡ p = cc in
        let l = ap length e in
        let m = length-append a (x ∷ b) in
        let n = length-append a b in
        let o = ap (λ (z : Picked). length z.others) same in
        omega arith

-- a turn leaves the rest to what is due then
pub due_turn : (strict : Bool) (old before after : Ordering) (found : WrittenOf) (piece : Piece) (due0 due1 due2 : List Piece)
    → DueSome strict old found due0 before → due0 ≡ due1 ++ (piece ∷ []) → TookTurn strict (entry piece) before due1 after due2
    → DueSome strict old found due2 after
due_turn strict old before after found piece due0 due1 due2 d e (wrote_one is w same ws) =
    let turned = ap (λ (x : List Entry). write_due (turns x before.waiting) frees_for x
    before.waiting) (due_less due0 due1 piece e) in
    let left = write_due (turns (due_of due1) before.waiting) frees_for (due_of due1) before.waiting in
    let step : d.left ≡ record { lines = entry piece ∷ left.lines; waiting = left.waiting } =
    d.turned ∙ turned ∙ turn_written (entry piece) (due_of due1) before.waiting is in
    record {
      lines = d.lines ++ (entry piece ∷ []);
      wrote = wrote_both strict old.written before.written after.written d.lines (entry piece ∷ []) d.wrote w;
      left = left;
      turned = λ i. write_due (turns (due_of (sym same i)) (sym ws i)) frees_for (due_of (sym same i)) (sym ws i);
      more = d.more ∙ ap (λ (x : WrittenOf). d.lines ++ x.lines) step ∙ sym (append_assoc d.lines (entry piece ∷ []) left.lines);
      waits = d.waits ∙ ap (λ (x : WrittenOf). x.waiting) step;
    }
due_turn strict old before after found piece due0 due1 due2 d e (made_due p is same due ws) =
    let old_ws = before.waiting in
    let turned = ap (λ (x : List Entry). write_due (turns x old_ws) frees_for x old_ws) (due_less due0 due1 piece e) in
    let count : turns (entry piece ∷ due_of due1) old_ws ≡ suc (turns (p.first ∷ (entry piece ∷ due_of due1)) p.others) =
    turns_picked (λ other. frees_for other (entry piece)) (entry piece) (due_of due1) old_ws p is in
    record {
      lines = d.lines;
      wrote = subst (λ (x : Written). WroteLines strict old.written d.lines x) (sym same) d.wrote;
      left = d.left;
      turned = d.turned ∙ turned ∙ turn_due (entry piece) (due_of due1) old_ws p (turns (p.first ∷ (entry piece ∷ due_of due1)) p.others) is count
          ∙ (λ i. write_due (turns (sym due i) (sym ws i)) frees_for (sym due i) (sym ws i));
      more = d.more;
      waits = d.waits;
    }

-- nothing is due any more
pub due_done : (strict : Bool) (old now : Ordering) (found : WrittenOf) (due : List Piece) → DueSome strict old found due now → due ≡ []
    → WroteDue strict old found now
due_done strict old now found due d e =
    let left : d.left ≡ record { lines = []; waiting = now.waiting } =
    d.turned ∙ ap (λ (x : List Piece). write_due (turns (due_of x) now.waiting) frees_for (due_of x) now.waiting) e
    ∙ nothing_due now.waiting (turns [] now.waiting) in
    record {
      wrote = subst (λ (x : List Entry). WroteLines strict old.written x now.written)
          (sym (d.more ∙ ap (λ (x : WrittenOf). d.lines ++ x.lines) left ∙ append-nil d.lines)) d.wrote;
      waits = sym (d.waits ∙ ap (λ (x : WrittenOf). x.waiting) left);
    }
  where
    nothing_due : (ws : List Entry) (n : ℕ) → write_due n frees_for [] ws ≡ record { lines = []; waiting = ws }
    nothing_due ws zero = refl
    nothing_due ws (suc n) = refl

-- a turn that ends so ends the whole
pub due_ends : (strict : Bool) (old before : Ordering) (found : WrittenOf) (piece : Piece) (due0 due1 : List Piece) (fault : Fault)
    → DueSome strict old found due0 before → due0 ≡ due1 ++ (piece ∷ []) → EndsTurn strict (entry piece) before.waiting fault
    → EndsDue strict found.lines fault
due_ends strict old before found piece due0 due1 fault d e (inl m) = inl m
due_ends strict old before found piece due0 due1 fault d e (inr h) =
    let ws = before.waiting in
    let turned = ap (λ (x : List Entry). write_due (turns x ws) frees_for x ws) (due_less due0 due1 piece e) in
    let left = write_due (turns (due_of due1) ws) frees_for (due_of due1) ws in
    let step : d.left ≡ record { lines = entry piece ∷ left.lines; waiting = left.waiting } =
    d.turned ∙ turned ∙ turn_written (entry piece) (due_of due1) ws h.0 in
    inr (subst (λ (x : List Entry). IsFirstFault strict x fault) (sym (d.more ∙ ap (λ (x : WrittenOf). d.lines ++ x.lines) step))
    (first_behind strict d.lines (entry piece ∷ left.lines) fault d.wrote.may (inl h.1)))

-- fewer turns are left
pub turn_smaller : (strict : Bool) (one : Entry) (old new : Ordering) (due more : List Piece) → TookTurn strict one old due new more
    → length more + 2 * length new.waiting < length due + 1 + 2 * length old.waiting
turn_smaller strict one old new due more (wrote_one is w same ws) =
    let a = ap length same in
    let b = ap length ws in
    omega arith
turn_smaller strict one old new due more (made_due p is same d ws) =
    let c = turns_picked (λ other. frees_for other one) one [] old.waiting p is in
    let a = ap length d in
    let b = ap length ws in
    let r = length-reverse (entries more) in
    let s = length-reverse (entries due) in
    let t = length-map more entry in
    let u = length-map due entry in
    omega arith

-- so each turn leaves fewer
pub due_smaller : (strict : Bool) (one : Piece) (old new : Ordering) (due0 due1 due2 : List Piece) → due0 ≡ due1 ++ (one ∷ [])
    → TookTurn strict (entry one) old due1 new due2
    → length due2 + 2 * length new.waiting < length due0 + 2 * length old.waiting
due_smaller strict one old new due0 due1 due2 e t =
    let k = turn_smaller strict (entry one) old new due1 due2 t in
    let l = ap length e in
    let m = length-append due1 (one ∷ []) in
    omega (arith, k)

pub none_left : (due : List Piece) → length due ≡ 0 → due ≡ []
none_left [] e = refl
none_left (x ∷ due) e = absurd (omega (arith, e))
