-- Areas taken one after another stay an area list exactly where each is in range and may follow the one before it.
use Rattle.std.proofs.Common.{◌≡◌, ℕ, zero, suc, ◌+◌, ◌-◌, ◌<◌, List, [], ◌∷◌, length, take, sym, subst, add-one, arith}
use Rattle.space_model.specs.declared.areas.Area.{Area}
use Rattle.space_model.specs.Areas.{IsInRange, MayFollow, IsAreaList}
use Rattle.space_model.specs.Building.{area_at, IsRightAt}

-- one more after a first one
more_after : (p : Area) (rest : List Area) (j : ℕ) → j < length rest → IsAreaList (p ∷ take j rest) →
    IsInRange (area_at rest j) → MayFollow (area_at (p ∷ rest) j) (area_at rest j) → IsAreaList (p ∷ take (suc j) rest)
more_after p [] j l w r f = absurd (omega arith)
more_after p (a ∷ rest) zero l w r f = (w.0, f, (r, tt, tt))
more_after p (a ∷ rest) (suc j) l w r f = (w.0, w.1, more_after a rest j (omega arith) w.2 r f)

right_after : (p : Area) (rest : List Area) (j : ℕ) → j < length rest → IsAreaList (p ∷ take (suc j) rest) →
    IsInRange (area_at rest j) × MayFollow (area_at (p ∷ rest) j) (area_at rest j)
right_after p [] j l w = absurd (omega arith)
right_after p (a ∷ rest) zero l w = (w.2.0, w.1)
right_after p (a ∷ rest) (suc j) l w = right_after a rest j (omega arith) w.2

before_suc : (j : ℕ) → suc j - 1 ≡ j
before_suc j = omega arith

more_suc : (list : List Area) (i : ℕ) → i < length list → IsAreaList (take i list) → IsRightAt list i →
    IsAreaList (take (suc i) list)
more_suc [] i l w r = absurd (omega arith)
more_suc (a ∷ rest) zero l w r = (r.in_range, tt, tt)
more_suc (a ∷ rest) (suc j) l w r =
    more_after a rest j (omega arith) w r.in_range
    (subst (λ k. MayFollow (area_at (a ∷ rest) k) (area_at rest j)) (before_suc j) (r.follows (omega arith)))

right_suc : (list : List Area) (i : ℕ) → i < length list → IsAreaList (take (suc i) list) → IsRightAt list i
right_suc [] i l w = absurd (omega arith)
right_suc (a ∷ rest) zero l w = record { in_range = w.0; follows = λ h. absurd (omega arith) }
right_suc (a ∷ rest) (suc j) l w =
    let r = right_after a rest j (omega arith) w in
    record {
      in_range = r.0;
      follows = λ h. subst (λ k. MayFollow (area_at (a ∷ rest) k) (area_at rest j)) (sym (before_suc j)) r.1;
    }

-- an area list with an area more that is right at its index is still an area list
pub area_list_more : (list : List Area) (i : ℕ) → i < length list → IsAreaList (take i list) → IsRightAt list i →
    IsAreaList (take (i + 1) list)
area_list_more list i l w r = rw add-one (more_suc list i l w r)

-- the last area of an area list is right at its index
pub area_list_right : (list : List Area) (i : ℕ) → i < length list → IsAreaList (take (i + 1) list) → IsRightAt list i
area_list_right list i l w = right_suc list i l (rw add-one at w)
