-- What a read leaves in the buffer.
use Rattle.std.specs.Prelude.{ℕ, ◌≤◌, ◌<◌, ◌≡◌, List, length, take, Option, Result, IfOk, IfSome}

-- the bytes that waited stay; where so many wait now, those before the read are among them and one more at least, and the buffer has them all
pub record Filled {E : Type 0} (b : List ℕ) (have : ℕ) (got : Result (Option ℕ) E) (b' : List ℕ) : Type 0 where
  pub stay : take have b' ≡ take have b
  pub came : IfOk got (λ waiting. IfSome waiting (λ n. (have < n) × (n ≤ length b)))
