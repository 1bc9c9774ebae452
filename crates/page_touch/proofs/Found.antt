-- What a look at one word comes to, from its one step or its two.
use Rattle.std.proofs.Common.{◌≡◌, ℕ, ◌+◌, true, false, refl, sym, ap, subst, ◌∙◌, arith}
use Rattle.page_touch.specs.declared.records.SeatRecord.{SeatRecord}
use Rattle.page_touch.specs.declared.touching.Looked.TheVariants.{Wrote, Stands}
use Rattle.page_touch.specs.Probes.{IsProbe, IsFound, seen, wrote, stayed, last_of}
use Rattle.page_touch.proofs.Probing.{after_seen, after_free}

-- a load that found the page has read it
pub load_seen : {room page place n : ℕ} {v w : SeatRecord} → IsProbe room page false place v n w → n ≡ page + 1 → IsFound room page place v Stands w
load_seen {room} {page} {place} {n} {v} p e = subst (IsFound room page place v Stands) (sym (p.after ∙ after_seen page false place v e)) (
  refl,
  refl,
  refl,
  refl,
  record { step = last_of page false place n v; last_is = refl; newer = omega arith; latest = refl; place_is = refl; found = e },
)

-- an exchange that failed since another thread wrote the page has read it too
pub put_seen : {room page place n m : ℕ} {v u w : SeatRecord} → IsProbe room page false place v n u → n ≡ 0 → IsProbe room page true place u m w
    → m ≡ page + 1 → IsFound room page place v Stands w
put_seen {room} {page} {place} {n} {m} {v} {u} {w} p free q e =
    let first : u ≡ stayed page false place n v = p.after ∙ after_free page false place v free in
    let second : w ≡ seen page true place m (stayed page false place n v) = q.after ∙ (after_seen page true place u e ∙ ap (seen page true place m) first) in
    subst (IsFound room page place v Stands) (sym second) (
      refl,
      refl,
      refl,
      refl,
      record { step = last_of page true place m (stayed page false place n v); last_is = refl; newer = omega arith; latest = refl; place_is = refl; found = e },
    )

-- an exchange that found the word free has written the page
pub put_wrote : {room page place n m : ℕ} {v u w : SeatRecord} → IsProbe room page false place v n u → n ≡ 0 → IsProbe room page true place u m w → m ≡ 0
    → IsFound room page place v Wrote w
put_wrote {room} {page} {place} {n} {m} {v} {u} {w} p free q e =
    let first : u ≡ stayed page false place n v = p.after ∙ after_free page false place v free in
    let second : w ≡ wrote page true place m (stayed page false place n v) = q.after ∙ (after_free page true place u e ∙ ap (wrote page true place m) first) in
    subst (IsFound room page place v Wrote) (sym second) (
      refl,
      refl,
      refl,
      refl,
      record {
        step = last_of page true place m (stayed page false place n v);
        last_is = refl;
        newer = omega arith;
        latest = refl;
        place_is = refl;
        exchange = refl;
        page_is = refl;
        free = e;
      },
    )
