-- The two tests differ. Assumes nothing.
use mathlib.Core.Path.{◌≡◌, subst}
use mathlib.Core.Bool.{true, false}
use lib.Dec.{T}

pub clash : true ≡ false → ⊥
clash e = subst T e tt
