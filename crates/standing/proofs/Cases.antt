-- Two tests joined by `&&`, as a branch on the first leaves them.
use mathlib.Core.Path.{◌≡◌, sym, ap, ◌∙◌}
use mathlib.Core.Bool.{Bool, true, false, ◌&&◌}

module _ {a r : Bool} (x : Bool) where
  pub first_passes : a ≡ true → r ≡ x → r ≡ a && x
  first_passes e p = p ∙ ap (λ (b : Bool). b && x) (sym e)

  pub first_fails : a ≡ false → r ≡ false → r ≡ a && x
  first_fails e p = p ∙ ap (λ (b : Bool). b && x) (sym e)
