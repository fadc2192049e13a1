-- Writing: two writes in a row are one write of the joined bytes, and what a write leaves in front of its end. Assumes nothing.
use Prim.Native.Nat.{ℕ, suc, ◌+◌, ◌-◌, ◌≤◌}
use mathlib.Core.Path.{◌≡◌, refl, ap, sym, ◌∙◌}
use mathlib.Core.List.{List, [], ◌∷◌, ◌++◌, append_assoc}
use native.Mathlib.Nat.{add-zero, add-suc, suc-add}
use native.Mathlib.Omega.{arith}
use lib.ListN.{length, take, drop, length-append}
use lib.Seq.{sets, sets-eq, length-sets, length-take-le, take_at, drop-drop}
use Rattle.trace.specs.Lines.{Wrote}

sets_append : (a b l : List ℕ) (at : ℕ) → sets (sets l at a) (at + length a) b ≡ sets l at (a ++ b)
sets_append [] b l at = rw add-zero
sets_append (x ∷ a) b l at = rw (add-suc, ← suc-add at (length a)) (sets_append a b _ (suc at))

-- bytes that are put there at once
pub put_there : (at : ℕ) (old bytes new : List ℕ) → at + length bytes ≤ length old → new ≡ bytes
    → Wrote (length bytes) old at bytes (take at old ++ (new ++ drop (at + length bytes - at) (drop at old))) (at + length bytes)
put_there at old bytes new room e =
    let n : at + length bytes - at ≡ length bytes = omega arith in
    record { stores = rw (e, n, drop-drop) (sym (sets-eq bytes old at room ∙ append_assoc (take at old) bytes _)); ends = refl; short = omega arith }

-- before the first write
pub nothing : (old : List ℕ) (at : ℕ) → Wrote 0 old at [] old at
nothing old at = record { stores = refl; ends = omega arith; short = omega arith }

-- one write after the other
pub then : {m n at middle next : ℕ} {old half new a b : List ℕ} → Wrote m old at a half middle → Wrote n half middle b new next
    → Wrote (m + n) old at (a ++ b) new next
then {at = at} {old = old} {a = a} {b = b} v w =
    record {
      stores = w.stores ∙ rw (v.stores, v.ends) (sets_append a b old at);
      ends = omega (arith, v.ends, w.ends, length-append a b);
      short = omega (arith, v.short, w.short, length-append a b);
    }

-- a write of at most m bytes is one of at most n
pub loosely : {m at next : ℕ} {old new bytes : List ℕ} (n : ℕ) → m ≤ n → Wrote m old at bytes new next → Wrote n old at bytes new next
loosely n h w = record { stores = w.stores; ends = w.ends; short = omega (arith, w.short) }

-- what a caller takes from a write that had room
module _ {most at next : ℕ} {old new bytes : List ℕ} (w : Wrote most old at bytes new next) where
  -- the place after it is near
  pub next_near : next ≤ at + most
  next_near = omega (arith, w.ends, w.short)

  pub same_length : length new ≡ length old
  same_length = ap length w.stores ∙ length-sets old at bytes

  module _ (room : next ≤ length old) where
    -- the whole
    pub whole : new ≡ take at old ++ bytes ++ drop next old
    whole =
        let h : at + length bytes ≤ length old = omega (arith, w.ends) in
        rw w.ends (w.stores ∙ sets-eq bytes old at h)

    -- what stands before its end is what stood before it, and the bytes
    pub front : take next new ≡ take at old ++ bytes
    front =
        let e : length (take at old ++ bytes) ≡ next =
        omega (arith, length-append (take at old) bytes, length-take-le at old (omega (arith, w.ends)), w.ends)
        in
        rw whole (take_at _ _ next e)
