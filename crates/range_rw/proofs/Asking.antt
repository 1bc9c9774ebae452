-- What a seat asks for, call after call: a call that asks for nothing leaves it, and two that ask for such ranges alone
-- are one that does.
use Rattle.std.proofs.Common.{◌≡◌, List, [], ◌∷◌, ◌++◌, append_assoc, refl, sym, ap, ◌∙◌}
use Rattle.lock_core.specs.declared.range.Held.{Held}
use Rattle.range_rw.specs.Contract.{AreAll, AsksAmong, AsksOnly, AsksFor}

all_joined : (IsOne : Held → Type 0) (a b : List Held) → AreAll IsOne a → AreAll IsOne b → AreAll IsOne (a ++ b)
all_joined IsOne [] b x y = y
all_joined IsOne (h ∷ a) b x y = (x.0, all_joined IsOne a b x.1 y)

all_wider : (IsOne IsAny : Held → Type 0) → ((h : Held) → IsOne h → IsAny h) → (l : List Held) → AreAll IsOne l → AreAll IsAny l
all_wider IsOne IsAny wide [] x = x
all_wider IsOne IsAny wide (h ∷ l) x = (wide h x.0, all_wider IsOne IsAny wide l x.1)

-- the step that completes a range asks for that alone
pub asks_here : (h : Held) (t u : List Held) → u ≡ h ∷ t → AsksOnly h t u
asks_here h t u e = record { more = h ∷ []; is = e; all = (refl, tt) }

-- a call that asks for nothing asks for no other range than these
pub asks_stay : {IsOne : Held → Type 0} {t u : List Held} → u ≡ t → AsksAmong IsOne t u
asks_stay {IsOne} {t} {u} e = record { more = []; is = e; all = tt }

-- two calls one after another
pub asks_on : {IsOne : Held → Type 0} {t u v : List Held} → AsksAmong IsOne t u → AsksAmong IsOne u v → AsksAmong IsOne t v
asks_on {IsOne} {t} {u} {v} a b = record {
  more = b.more ++ a.more;
  is = b.is ∙ (ap (λ (l : List Held). b.more ++ l) a.is ∙ sym (append_assoc b.more a.more t));
  all = all_joined IsOne b.more a.more b.all a.all;
}

-- of which the second one asks for nothing
pub asks_kept : {IsOne : Held → Type 0} {t u v : List Held} → AsksAmong IsOne t u → v ≡ u → AsksAmong IsOne t v
asks_kept {IsOne} {t} {u} {v} a e = record { more = a.more; is = e ∙ a.is; all = a.all }

-- of which the first one asks for nothing
pub asks_from : {IsOne : Held → Type 0} {t u v : List Held} → u ≡ t → AsksAmong IsOne u v → AsksAmong IsOne t v
asks_from {IsOne} {t} {u} {v} e b = record { more = b.more; is = b.is ∙ ap (λ (l : List Held). b.more ++ l) e; all = b.all }

-- a call that asks for some ranges alone asks for no other than more ranges
pub asks_wider : {IsOne IsAny : Held → Type 0} {t u : List Held} → ((h : Held) → IsOne h → IsAny h) → AsksAmong IsOne t u → AsksAmong IsAny t u
asks_wider {IsOne} {IsAny} {t} {u} wide a = record { more = a.more; is = a.is; all = all_wider IsOne IsAny wide a.more a.all }

-- ---- calls that ask for a range at least once

-- the step that completes it asks for it
pub for_here : {h : Held} {t u : List Held} → u ≡ h ∷ t → AsksFor h t u
for_here {h} {t} {u} e = (t, asks_stay refl, e)

-- behind a call that asks for nothing
pub for_from : {h : Held} {t u v : List Held} → u ≡ t → AsksFor h u v → AsksFor h t v
for_from {h} {t} {u} {v} e f = (f.0, asks_from e f.1, f.2)

-- behind one that asks for no other
pub for_then : {h : Held} {t u v : List Held} → AsksOnly h t u → AsksFor h u v → AsksFor h t v
for_then {h} {t} {u} {v} a f = (f.0, asks_on a f.1, f.2)

-- before a call that asks for nothing
pub for_kept : {h : Held} {t u v : List Held} → AsksFor h t u → v ≡ u → AsksFor h t v
for_kept {h} {t} {u} {v} f e = (f.0, f.1, e ∙ f.2)

for_more : (h : Held) (t u : List Held) (more : List Held) → AsksFor h t u → AreAll (λ x. x ≡ h) more → AsksFor h t (more ++ u)
for_more h t u [] f all = f
for_more h t u (x ∷ more) f all =
    (more ++ u, asks_on (asks_on f.1 (asks_here h f.0 u f.2)) (record { more = more; is = refl; all = all.1 }), ap (λ (y : Held). y ∷ (more ++ u)) all.0)

-- before one that asks for no other
pub for_on : {h : Held} {t u v : List Held} → AsksFor h t u → AsksOnly h u v → AsksFor h t v
for_on {h} {t} {u} {v} f a = for_kept (for_more h t u a.more f a.all) a.is

-- such a call asks for no other
pub for_only : {h : Held} {t u : List Held} → AsksFor h t u → AsksOnly h t u
for_only {h} {t} {u} f = asks_on f.1 (asks_here h f.0 u f.2)

-- it asks for that range first
turned_round : (h : Held) (more t : List Held) → AreAll (λ x. x ≡ h) more → h ∷ (more ++ t) ≡ more ++ h ∷ t
turned_round h [] t all = refl
turned_round h (x ∷ more) t all = (λ i. sym all.0 i ∷ (all.0 i ∷ (more ++ t))) ∙ ap (λ (l : List Held). x ∷ l) (turned_round h more t all.1)

pub for_first : {h : Held} {t u : List Held} → AsksFor h t u → AsksOnly h (h ∷ t) u
for_first {h} {t} {u} f = record { more = f.1.more; is = f.2 ∙ (ap (λ (l : List Held). h ∷ l) f.1.is ∙ turned_round h f.1.more t f.1.all); all = f.1.all }
