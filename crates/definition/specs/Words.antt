-- The words that the other files share, over the library's: bits, and what is said of lists. No sentence of document 01 is here.
use Rattle.std.specs.Prelude.{ℕ, zero, suc, ◌/◌, ◌%◌, ◌^◌, Bool, true, false, ◌&&◌, ◌||◌, List, [], ◌∷◌, eqb, if◌then◌else◌}
use Rattle.std.specs.Int.Bits.{bit_and, bit_xor}

-- bit k of x
abbrev pub bit_of : ℕ → ℕ → Bool
bit_of x k = eqb (x / 2 ^ k % 2) 1

-- a and b agree on the mask's bits
abbrev pub agrees : ℕ → ℕ → ℕ → Bool
agrees a b mask = eqb (bit_and (bit_xor a b) mask) 0

-- one passes
unfoldable pub any_of : {A : Type 0} → (A → Bool) → List A → Bool
any_of p [] = false
any_of p (x ∷ xs) = p x || any_of p xs

-- all pass
unfoldable pub all_of : {A : Type 0} → (A → Bool) → List A → Bool
all_of p [] = true
all_of p (x ∷ xs) = p x && all_of p xs

-- how many pass
unfoldable pub count_of : {A : Type 0} → (A → Bool) → List A → ℕ
count_of p [] = zero
count_of p (x ∷ xs) = if p x then suc (count_of p xs) else count_of p xs

-- the index of the first that passes, and the list's length where none does
unfoldable pub first_of : {A : Type 0} → (A → Bool) → List A → ℕ
first_of p [] = zero
first_of p (x ∷ xs) = if p x then zero else suc (first_of p xs)
