-- Roles that are kept by place: one more, and another one at a place.
use Rattle.std.proofs.Common.{◌≡◌, ◌≢◌, ℕ, zero, suc, ◌+◌, ◌<◌, ◌≤◌, List, [], ◌∷◌, ◌++◌, length, get_or, Option, Some, None, refl, sym, ap, ◌∙◌, arith}
use Rattle.std.specs.Prelude.{slice_set}
use Rattle.std.specs.BTreeMap.{BTreeMap, get}
use Rattle.std.specs.Ordering.{nat_cmp}
use Rattle.raw_trace.specs.declared.halves.Role.{Role}
use Rattle.raw_trace.specs.declared.halves.Role.TheVariants.{Alone}
use Rattle.raw_trace.specs.Roles.{role_or, roles_in}

-- there are as many as places
pub roles_count : (halves : BTreeMap ℕ Role) (from n : ℕ) → length (roles_in halves from n) ≡ n
roles_count halves from zero = refl
roles_count halves from (suc n) = ap suc (roles_count halves (suc from) n)

-- the role at a place
pub role_at : (halves : BTreeMap ℕ Role) (from n place : ℕ) → place < n
    → get_or (roles_in halves from n) place Alone ≡ role_or (get nat_cmp halves (from + place))
role_at halves from zero place l = absurd (omega (arith, l))
role_at halves from (suc n) zero l = let e : from ≡ from + zero = omega arith in ap (λ (q : ℕ). role_or (get nat_cmp halves q)) e
role_at halves from (suc n) (suc place) l =
    let e : suc from + place ≡ from + suc place = omega arith in
    role_at halves (suc from) n place (omega (arith, l)) ∙ ap (λ (q : ℕ). role_or (get nat_cmp halves q)) e

-- one place more
pub roles_behind : (halves : BTreeMap ℕ Role) (from n : ℕ) → get nat_cmp halves (from + n) ≡ None
    → roles_in halves from (suc n) ≡ roles_in halves from n ++ (Alone ∷ [])
roles_behind halves from zero none =
    let e : from ≡ from + zero = omega arith in
    ap (λ (r : Option Role). role_or r ∷ []) (ap (get nat_cmp halves) e ∙ none)
roles_behind halves from (suc n) none =
    let e : suc from + n ≡ from + suc n = omega arith in
    ap (λ (x : List Role). role_or (get nat_cmp halves from) ∷ x) (roles_behind halves (suc from) n (ap (get nat_cmp halves) e ∙ none))

-- roles of the same places are the same
roles_same : (old new : BTreeMap ℕ Role) (from n : ℕ) → ((q : ℕ) → from ≤ q → get nat_cmp new q ≡ get nat_cmp old q)
    → roles_in new from n ≡ roles_in old from n
roles_same old new from zero same = refl
roles_same old new from (suc n) same =
    ap (λ (r : Option Role). role_or r ∷ roles_in new (suc from) n) (same from (omega arith))
    ∙ ap (λ (x : List Role). role_or (get nat_cmp old from) ∷ x) (roles_same old new (suc from) n (λ q l. same q (omega (arith, l))))

-- another role at a place
pub role_set : (old new : BTreeMap ℕ Role) (from n place : ℕ) (role : Role) → place < n → get nat_cmp new (from + place) ≡ Some role
    → ((q : ℕ) → q ≢ from + place → get nat_cmp new q ≡ get nat_cmp old q) → roles_in new from n ≡ slice_set (roles_in old from n) place role
role_set old new from zero place role l is others = absurd (omega (arith, l))
role_set old new from (suc n) zero role l is others =
    let e : from ≡ from + zero = omega arith in
    ap (λ (r : Option Role). role_or r ∷ roles_in new (suc from) n) (ap (get nat_cmp new) e ∙ is)
    ∙ ap (λ (x : List Role). role ∷ x) (roles_same old new (suc from) n (λ q k. others q (λ same. absurd (omega (arith, k, same)))))
role_set old new from (suc n) (suc place) role l is others =
    let e : suc from + place ≡ from + suc place = omega arith in
    ap (λ (r : Option Role). role_or r ∷ roles_in new (suc from) n) (others from (λ same. absurd (omega (arith, same))))
    ∙ ap (λ (x : List Role). role_or (get nat_cmp old from) ∷ x)
    (role_set old new (suc from) n place role (omega (arith, l)) (ap (get nat_cmp new) e ∙ is) (λ q never. others q (λ same. never (same ∙ sym e))))

-- another role at the last place
pub set_last : (roles : List Role) (a b : Role) (n : ℕ) → n ≡ length roles → slice_set (roles ++ (a ∷ [])) n b ≡ roles ++ (b ∷ [])
set_last [] a b zero e = refl
set_last [] a b (suc n) e = absurd (omega arith)
set_last (r ∷ roles) a b zero e = absurd (omega arith)
set_last (r ∷ roles) a b (suc n) e = ap (λ (x : List Role). r ∷ x) (set_last roles a b n (omega arith))
