-- Lines of more than one number: their parts, written one after the other, are the line. Assumes nothing.
use Prim.Native.Nat.{ℕ}
use mathlib.Core.Path.{◌≡◌}
use mathlib.Core.List.{List, [], ◌∷◌, ◌++◌, append_assoc}
use Rattle.definition.specs.Calls.{F, T}
use Rattle.definition.specs.Trace.{hex, decimal, spaced, newline, text}

-- the end of the lines A, F and T
abbrev pub ending : ℕ → ℕ → List ℕ
ending address count = spaced (hex 8 address) ++ spaced (decimal count) ++ newline

pub fault : (kind cause address count : ℕ)
    → (70 ∷ []) ++ (spaced (decimal kind) ++ (spaced (decimal cause) ++ ending address count)) ≡ text (F kind cause address count)
unfolding text
fault kind cause address count = simp append_assoc

pub status : (mmusr address count : ℕ) → (84 ∷ []) ++ (spaced (hex 4 mmusr) ++ ending address count) ≡ text (T mmusr address count)
unfolding text
status mmusr address count = simp append_assoc
