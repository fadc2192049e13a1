-- The refusals, and what is answered where there is none. Assumes nothing.
use Prim.Native.Nat.{ℕ, ◌≤◌}
use mathlib.Core.Path.{◌≡◌, refl, sym, subst, ◌∙◌}
use mathlib.Core.Bool.{Bool, true, false}
use mathlib.Core.List.{List}
use native.Mathlib.Omega.{arith}
use borrow.Author.Tests.{eqb-false}
use lib.Dec.{eqb}
use lib.ListN.{length}
use Rattle.definition.specs.Memory.{Memory}
use Rattle.definition.specs.Registers.{root_of}
use Rattle.definition.specs.Walk030.{widths_of, used, sum_of}
use Rattle.definition.specs.Refusal.{refusal_of, no_family, bad_base, bad_range, above_seven}
use Rattle.definition.specs.List.{Listing, tree_ranges, mapped, ranges_from, room_for, not_taken, list_checks, refusing, list}
use Rattle.definition.specs.declared.Registers.{Registers}
use Rattle.definition.specs.declared.Root.{Root}
use Rattle.definition.specs.declared.Listed.{Listed}
use Rattle.definition.proofs.Mapping.{taken}
use Rattle.list.specs.Numbers.{ListedTo}
use Rattle.list.specs.Writing.{written, begun, puts, answer_of, refusal}
use Rattle.list.specs.declared.writing.Progress.{Progress}
use Rattle.list.proofs.Output as output

-- ---- the number of the first that applies
module _ (g : Registers) (m : Memory) (code : ℕ) where
  pub one : no_family g.family ≡ true → 1 ≡ refusal g m code
  unfolding refusal_of
  one a = rw a

  module _ (a : no_family g.family ≡ false) where
    pub five : above_seven code ≡ true → 5 ≡ refusal g m code
    unfolding refusal_of
    five b = rw (a, b)

    module _ (b : above_seven code ≡ false) where
      pub two : bad_base m ≡ true → 2 ≡ refusal g m code
      unfolding refusal_of
      two c = rw (a, b, c)

      module _ (c : bad_base m ≡ false) where
        pub three : bad_range m ≡ true → 3 ≡ refusal g m code
        unfolding refusal_of
        three d = rw (a, b, c, d)

        module _ (d : bad_range m ≡ false) where
          pub nine : not_taken g code ≡ true → 9 ≡ refusal g m code
          unfolding refusal_of
          nine e = rw (a, b, c, d, e)

          pub none : not_taken g code ≡ false → 0 ≡ refusal g m code
          unfolding refusal_of
          none e = rw (a, b, c, d, e)

-- ---- a list that is refused, and one that is not
module _ (g : Registers) (m : Memory) (code from room n : ℕ) (is : n ≡ refusal g m code) where
  refused_is : (n ≡ 0 → ⊥) → list g m code from room ≡ refusing n
  unfolding list
  refused_is some = go (eqb (refusal_of (list_checks g m code)) 0) (not_taken g code) refl refl
    where
      go : (b c : Bool) → eqb (refusal_of (list_checks g m code)) 0 ≡ b → not_taken g code ≡ c → list g m code from room ≡ refusing n
      go true true e f = let k : n ≡ 9 = rw (e, f) at is in rw (e, f, k)
      go true false e f = absurd (some (rw (e, f) at is))
      go false c e f = let k : n ≡ refusal_of (list_checks g m code) = rw e at is in rw (e, k)

  pub refused : (old : List ℕ) → (n ≡ 0 → ⊥) → ListedTo (list g m code from room) old old (Listed.Refused n)
  refused old some =
      subst (λ (l : Listing). ListedTo l old old (Listed.Refused n)) (sym (refused_is some)) (record { answer = refl; wrote = refl })

  -- what is known of one that is not
  pub record Accepted : Type 0 where
    pub most : sum_of (used (widths_of g.tc)) ≤ 32
    pub says : list g m code from room ≡ room_for room (ranges_from from (mapped g m code))

  pub accepted : n ≡ 0 → Accepted
  unfolding list
  accepted z = go (eqb (refusal_of (list_checks g m code)) 0) (not_taken g code) refl refl
    where
      go : (b c : Bool) → eqb (refusal_of (list_checks g m code)) 0 ≡ b → not_taken g code ≡ c → Accepted
      go true true e f = absurd (let k : n ≡ 9 = rw (e, f) at is in omega arith)
      go true false e f = record { most = (taken g code f).most; says = rw (e, f) }
      go false c e f = absurd (let k : n ≡ refusal_of (list_checks g m code) = rw e at is in eqb-false _ 0 e (sym k ∙ z))

-- the law of the call
pub listed : (g : Registers) (m : Memory) (code from n : ℕ) (root : Root) (old new : List ℕ) (s : Progress) (r : Listed) → n ≡ refusal g m code → n ≡ 0
    → root ≡ root_of g code → written new s ≡ puts (ranges_from from (tree_ranges m g.tc root code)) (begun old) → r ≡ answer_of s
    → ListedTo (list g m code from (length old)) old new r
listed g m code from n root old new s r is z its w a =
    let k = accepted g m code from (length old) n is z in
    let l = output.listed (ranges_from from (mapped g m code)) old new s (rw its at w) in
    subst (λ (x : Listing). ListedTo x old new r) (sym k.says)
    (subst (λ (y : Listed). ListedTo (room_for (length old) (ranges_from from (mapped g m code))) old new y) (sym a) l)
