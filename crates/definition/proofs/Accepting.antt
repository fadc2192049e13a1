-- `Accepted`, and `Allowed` of a replay whose registers change, say that no watched access is answered by a refusal: what an access is refused for does not hang on the caches of a replay, so its cacheless
-- walk's checks are those of the run. Assumes nothing.
use Prim.Native.Nat.{ℕ}
use mathlib.Core.Path.{◌≡◌, refl, ap, sym, ◌∙◌}
use mathlib.Core.List.{List, [], ◌∷◌, ◌++◌}
use mathlib.Core.Bool.{Bool, true, false}
use mathlib.Core.Logic.{◌⊎◌, inl, inr}
use native.Mathlib.Omega.{arith}
use borrow.Author.Tests.{eqb-true}
use lib.Dec.{eqb}
use Rattle.definition.specs.Memory.{Memory}
use Rattle.definition.specs.Refusal.{Checks, bad_cache, refusal_of}
use Rattle.definition.specs.Translate.{Caches, empty_caches, translate_checks, translate}
use Rattle.definition.proofs.Replay.{Moment, watched, other, after, answers, watched_of, walks_of, In, Steady, Accepted}
use Rattle.definition.specs.declared.Registers.{Registers}
use Rattle.definition.specs.declared.Access.{Access}
use Rattle.definition.specs.declared.Translation.TheVariants.{Refused}
use Rattle.definition.proofs.Lists.{All, in_left, in_right, in_either}
use Rattle.definition.proofs.Entries.{Fit, empty_fit, after_fit}
use Rattle.definition.proofs.Refusals.{numbers, in_translation, translate_refuses}
use Rattle.definition.proofs.Turns.{Turn, under, turns_of, answers_through, Source, since_after, watches_from, answers_of, watches_of, Allowed}
use Rattle.definition.proofs.Independence.{one_answers, independence}

-- no watched access of the replay is answered by a refusal
pub record Unrefused (g : Registers) (l : List Moment) : Type 0 where
  pub none : (n : ℕ) → In (Refused n) (answers g l) → ⊥

module _ (g : Registers) where
  -- ---- one access, from caches that pass check 4
  module _ (a : Access) (m : Memory) (c : Caches) (four : bad_cache c.c030 ≡ false) where
    same_checks : translate_checks g a m c ≡ translate_checks g a m empty_caches
    same_checks = rw four

    accepted_answers : refusal_of (translate_checks g a m empty_caches) ≡ 0 → (n : ℕ) → Refused n ≡ (translate g a m c).answer → ⊥
    accepted_answers t n e =
        no_number (ap in_translation e ∙ translate_refuses g m a c ∙ ap (λ (k : Checks). numbers (refusal_of k)) same_checks ∙ ap numbers t)
      where
        no_number : n ∷ [] ≡ [] → ⊥
        no_number e = let z : ◌≡◌ {A = ℕ} 0 1 = cc in omega arith

    refused_so : eqb (refusal_of (translate_checks g a m c)) 0 ≡ false → (translate g a m c).answer ≡ Refused (refusal_of (translate_checks g a m c))
    unfolding translate
    refused_so e = rw e

    answers_accepted : ((n : ℕ) → Refused n ≡ (translate g a m c).answer → ⊥) → refusal_of (translate_checks g a m empty_caches) ≡ 0
    answers_accepted u = ap refusal_of (sym same_checks) ∙ go (eqb (refusal_of (translate_checks g a m c)) 0) refl
      where
        go : (b : Bool) → eqb (refusal_of (translate_checks g a m c)) 0 ≡ b → refusal_of (translate_checks g a m c) ≡ 0
        go true e = eqb-true (refusal_of (translate_checks g a m c)) 0 e
        go false e = absurd (u (refusal_of (translate_checks g a m c)) (sym (refused_so e)))

-- ---- a replay whose registers may change
turns_unrefused : (l : List Turn) (c : Caches) (since : List Source) → Fit c → All Allowed (watches_from c since l) → (n : ℕ)
    → In (Refused n) (answers_through c l) → ⊥
unfolding watches_from answers_through
turns_unrefused [] c since h t n i = i
turns_unrefused (under g (watched a m) ∷ rest) c since h t n (inl e) = accepted_answers g a m c h.four t.0 n e
turns_unrefused (under g (watched a m) ∷ rest) c since h t n (inr i) =
    turns_unrefused rest (after g c (watched a m)) (since_after since c (under g (watched a m))) (after_fit g (watched a m) c h) t.1 n i
turns_unrefused (under g (other call m) ∷ rest) c since h t n i =
    turns_unrefused rest (after g c (other call m)) (since_after since c (under g (other call m))) (after_fit g (other call m) c h) t n i

turns_allowed : (l : List Turn) (c : Caches) (since : List Source) → Fit c → ((n : ℕ) → In (Refused n) (answers_through c l) → ⊥)
    → All Allowed (watches_from c since l)
unfolding watches_from answers_through
turns_allowed [] c since h u = tt
turns_allowed (under g (watched a m) ∷ rest) c since h u = (
  answers_accepted g a m c h.four (λ n e. u n (inl e)),
  turns_allowed rest (after g c (watched a m)) (since_after since c (under g (watched a m))) (after_fit g (watched a m) c h) (λ n i. u n (inr i)),
)
turns_allowed (under g (other call m) ∷ rest) c since h u =
    turns_allowed rest (after g c (other call m)) (since_after since c (under g (other call m))) (after_fit g (other call m) c h) u

-- (A) says that no watched access is answered by a refusal
pub allowed_unrefused : (l : List Turn) → All Allowed (watches_of l) → (n : ℕ) → In (Refused n) (answers_of l) → ⊥
allowed_unrefused l = turns_unrefused l empty_caches [] empty_fit

pub unrefused_allowed : (l : List Turn) → ((n : ℕ) → In (Refused n) (answers_of l) → ⊥) → All Allowed (watches_of l)
unrefused_allowed l = turns_allowed l empty_caches [] empty_fit

-- ---- a replay under one set of registers
module _ (g : Registers) where
  -- no check applies to a watched access
  abbrev Unchecked : List Moment → Type 0
  Unchecked l = (a : Access) (m : Memory) → In (watched a m) l → refusal_of (translate_checks g a m empty_caches) ≡ 0

  to_allowed : (l : List Moment) (c : Caches) (since : List Source) → Unchecked l → All Allowed (watches_from c since (turns_of g l))
  unfolding watches_from
  to_allowed [] c since t = tt
  to_allowed (watched a m ∷ rest) c since t =
      (t a m (inl refl), to_allowed rest (after g c (watched a m)) (since_after since c (under g (watched a m))) (λ b k i. t b k (inr i)))
  to_allowed (other call m ∷ rest) c since t =
      to_allowed rest (after g c (other call m)) (since_after since c (under g (other call m))) (λ b k i. t b k (inr i))

  from_allowed : (l : List Moment) (c : Caches) (since : List Source) → All Allowed (watches_from c since (turns_of g l)) → Unchecked l
  unfolding watches_from
  from_allowed [] c since t a m x'' = elim x'' [ ]
  from_allowed (watched b k ∷ rest) c since t a m (inl e) =
      let same : a ≡ b = cc in
      let over : m ≡ k = cc in
      rw (same, over) t.0
  from_allowed (watched b k ∷ rest) c since t a m (inr i) =
      from_allowed rest (after g c (watched b k)) (since_after since c (under g (watched b k))) t.1 a m i
  from_allowed (other call k ∷ rest) c since t a m (inl e) = let z : ◌≡◌ {A = ℕ} 0 1 = cc in absurd (omega arith)
  from_allowed (other call k ∷ rest) c since t a m (inr i) =
      from_allowed rest (after g c (other call k)) (since_after since c (under g (other call k))) t a m i

  pub accepted_unrefused : (l : List Moment) → Accepted g l → Unrefused g l
  accepted_unrefused l t =
      record {
        none = λ n i. allowed_unrefused (turns_of g l) (to_allowed l empty_caches [] t.none) n (rw (one_answers g empty_caches l) i);
      }

  pub unrefused_accepted : (l : List Moment) → Unrefused g l → Accepted g l
  unrefused_accepted l u =
      record {
        none = from_allowed l empty_caches [] (unrefused_allowed (turns_of g l) (λ n i. u.none n (rw (one_answers g empty_caches l) at i)));
      }

  -- ---- two replays, each from the empty caches
  pub accepted_both : (l l' : List Moment) → Unrefused g l → Unrefused g l' → Accepted g (l ++ l')
  accepted_both l l' u u' = record { none = λ a m i. go a m (in_either (watched a m) l l' i) }
    where
      go : (a : Access) (m : Memory) → In (watched a m) l ⊎ In (watched a m) l' → refusal_of (translate_checks g a m empty_caches) ≡ 0
      go a m (inl i) = (unrefused_accepted l u).none a m i
      go a m (inr i) = (unrefused_accepted l' u').none a m i

  pub both_unrefused : (l l' : List Moment) → Accepted g (l ++ l') → Unrefused g l × Unrefused g l'
  both_unrefused l l' t = (
    accepted_unrefused l (record { none = λ a m i. t.none a m (in_left _ l l' i) }),
    accepted_unrefused l' (record { none = λ a m i. t.none a m (in_right _ l l' i) }),
  )

  -- the demand, of replays none of whose watched accesses is answered by a refusal
  pub independence_unrefused : (l l' : List Moment) → watched_of l ≡ watched_of l' → Steady g (l ++ l') → Unrefused g l → Unrefused g l'
      → (answers g l ≡ answers g l') × (answers g l ≡ walks_of g l)
  independence_unrefused l l' e s u u' = independence g l l' e s (accepted_both l l' u u')
