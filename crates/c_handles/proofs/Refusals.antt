-- An opening, a share or an ending of a handle that is open, or closed, is answered by that.
use Rattle.std.proofs.Common.{◌≡◌, ◌∙◌, ℕ, Option, Some, None, refl, sym, subst}
use Rattle.c_handles.specs.Handles.{IsOpen, SaysBy, OpenRefusal, ShareRefusal, Ends}

module _ {B A : Type 0} (code_of : A → ℕ) (opened : A) where
  -- an opening of a handle that is open is refused with that cause
  pub opening_of_open : (R : A → Type 0) {code : ℕ} (h : Option B) → IsOpen h → code ≡ code_of opened → SaysBy code_of (OpenRefusal opened R h) code
  opening_of_open R h is e = (opened, e, subst (λ x. OpenRefusal opened R x opened) (sym is.1) refl)

  shares_open : (closed : A) (R : B → A → Type 0) (from : Option B) (b : B) → ShareRefusal opened closed R from (Some b) opened
  shares_open closed R None b = refl
  shares_open closed R (Some f) b = refl

  -- a share to a handle that is open is refused with that cause
  pub sharing_of_open : (closed : A) (R : B → A → Type 0) {code : ℕ} (from h : Option B) → IsOpen h → code ≡ code_of opened
      → SaysBy code_of (ShareRefusal opened closed R from h) code
  sharing_of_open closed R from h is e = (opened, e, subst (λ x. ShareRefusal opened closed R from x opened) (sym is.1) (shares_open closed R from is.0))

  -- the ending of a closed handle answers that it is closed, and leaves it so
  pub ends_closed : (closed done : A) {code : ℕ} {next before after : Option B} → next ≡ None → before ≡ None → after ≡ next → code ≡ code_of closed
      → SaysBy code_of (Ends opened closed done next before after) code
  ends_closed closed done {before} {after} none was put e =
      let E = Ends {B = B} opened closed done in
      (closed, e, subst (λ x. E x before after closed) (sym none) (subst (λ x. E None x after closed) (sym was) (refl, put ∙ none)))

  -- the ending of an open one answers that it was done, and leaves it closed
  pub ends_open : (closed done : A) {code : ℕ} {next : Option B} (before : Option B) {after : Option B} → next ≡ None → IsOpen before → after ≡ next
      → code ≡ code_of done → SaysBy code_of (Ends opened closed done next before after) code
  ends_open closed done before {after} none was put e =
      let E = Ends {B = B} opened closed done in
      (done, e, subst (λ x. E x before after done) (sym none) (subst (λ x. E None x after done) (sym was.1) (refl, put ∙ none)))

  -- where the handle that is to be put there is open, that is answered, and the other one stays
  pub ends_by_open : (closed done : A) {code : ℕ} (next before after : Option B) → IsOpen next → after ≡ before → code ≡ code_of opened
      → SaysBy code_of (Ends opened closed done next before after) code
  ends_by_open closed done next before after is same e =
      (opened, e, subst (λ x. Ends opened closed done x before after opened) (sym is.1) (refl, same))
