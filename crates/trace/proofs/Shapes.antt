-- What a record's kind says of it: the body after its kind, and the unknown kinds. Assumes nothing.
use Prim.Native.Nat.{ℕ, suc, ◌-◌, ◌≤◌, ◌<◌}
use mathlib.Core.Path.{◌≡◌, refl}
use mathlib.Core.List.{List, [], ◌∷◌}
use native.Mathlib.Omega.{arith}
use lib.ListN.{length, get_or, take, drop}
use lib.Seq.{take-length}
use borrow.Author.Tests.{ne_eqb}
use Rattle.definition.specs.Trace.{Record, Malformed, by_trace_kind, record_of}

-- the bytes after the first
abbrev pub rest : List ℕ → List ℕ
rest body = take (length body - 1) (drop 1 body)

pub no_kind : (body : List ℕ) → length body < 1 → Malformed ≡ record_of body
unfolding record_of
no_kind [] h = refl
no_kind (kind ∷ b) h = absurd (omega arith)

pub by_kind : {r : Record} (body : List ℕ) → 1 ≤ length body → r ≡ by_trace_kind (get_or body 0 0) (rest body) → r ≡ record_of body
unfolding record_of
by_kind [] some h = absurd (omega arith)
by_kind (k ∷ b) some h =
    let n : suc (length b) - 1 ≡ length b = omega arith in
    rw (n, take-length b) at h

-- 'unknown kind': each that is known is another
pub unknown : (kind : ℕ) (b : List ℕ) → (kind ≡ 1 → ⊥) → (kind ≡ 2 → ⊥) → (kind ≡ 3 → ⊥) → (kind ≡ 4 → ⊥) → (kind ≡ 5 → ⊥) → (kind ≡ 6 → ⊥)
    → (kind ≡ 7 → ⊥) → (kind ≡ 8 → ⊥) → (kind ≡ 9 → ⊥) → (kind ≡ 10 → ⊥) → (kind ≡ 11 → ⊥) → Malformed ≡ by_trace_kind kind b
unknown kind b h1 h2 h3 h4 h5 h6 h7 h8 h9 h10 h11 =
    rw (
      ne_eqb kind 1 h1,
      ne_eqb kind 2 h2,
      ne_eqb kind 3 h3,
      ne_eqb kind 4 h4,
      ne_eqb kind 5 h5,
      ne_eqb kind 6 h6,
      ne_eqb kind 7 h7,
      ne_eqb kind 8 h8,
      ne_eqb kind 9 h9,
      ne_eqb kind 10 h10,
      ne_eqb kind 11 h11,
    )
