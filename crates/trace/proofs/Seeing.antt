-- Which records are accesses, and that none of the others is one. Assumes nothing.
use Prim.Native.Nat.{ℕ, ◌≤◌, ◌<◌}
use mathlib.Core.Path.{◌≡◌, refl, ap, sym, ◌∙◌}
use mathlib.Core.List.{List}
use mathlib.Core.Bool.{Bool, true, false, not, ◌&&◌}
use lib.Dec.{eqb, ltb}
use lib.ListN.{length, get_or}
use borrow.Author.Tests.{ne_eqb, eqb-true, eqb-false}
use Rattle.std.specs.Prelude.{Option, Some, None, Result, Ok, Err, if◌then◌else◌}
use Rattle.definition.specs.Calls as calls
use Rattle.definition.specs.Trace.{Record, Loads, Calls, Stores, Adds, Malformed, be, flag_of, kind01, kind02, kind03, kind04, kind05, kind06, kind07, kind08, kind09, kind0_a, kind0_b, by_trace_kind, record_of}
use Rattle.definition.specs.declared.Access.{Access}
use Rattle.trace.specs.Records.{seen_of, other_of, record_in}
use Rattle.trace.specs.declared.Call.TheVariants as call
use Rattle.trace.specs.declared.Setting.TheVariants as setting
use Rattle.trace.specs.declared.Malformed.{Malformed as Bad}
use Rattle.trace.specs.declared.Record.{Record as Said}
use Rattle.trace.specs.declared.Record.TheVariants as said
use Rattle.trace.proofs.Shapes.{rest, no_kind, by_kind, unknown}

-- ---- the records that are no access
never_access : (r : Result Said Bad) → other_of (record_in r) ≡ record_in r
never_access (Ok (said.Call (call.Load code write address))) = refl
never_access (Ok (said.Call (call.Test code write level address))) = refl
never_access (Ok (said.Call call.FlushAll)) = refl
never_access (Ok (said.Call (call.FlushCode code mask))) = refl
never_access (Ok (said.Call (call.FlushPage code mask address))) = refl
never_access (Ok (said.Call (call.FlushFrame frame))) = refl
never_access (Ok (said.Call (call.Probe own instruction write address))) = refl
never_access (Ok (said.Set (setting.Registers g))) = refl
never_access (Ok (said.Set (setting.Long address value))) = refl
never_access (Ok (said.Set (setting.Range range))) = refl
never_access (Err e) = refl

pub other_is : (r : Result Said Bad) {x : Record} → record_in r ≡ x → record_in r ≡ other_of x
other_is r e = sym (never_access r) ∙ ap other_of e

pub nothing_said : {x : Record} → Malformed ≡ x → Malformed ≡ other_of x
nothing_said e = ap other_of e

left_out : (b : List ℕ) → Malformed ≡ other_of (kind02 b)
left_out b = go (eqb (length b) 6 && ltb (get_or b 0 0) 32) _
  where
    go : (c : Bool) (a : Access) → Malformed ≡ other_of (if c then Calls (calls.access a) else Malformed)
    go true a = refl
    go false a = refl

-- ---- a body
pub seen_none : (body : List ℕ) → length body < 1 → None ≡ seen_of (record_of body)
seen_none body h = ap seen_of (no_kind body h)

module _ (body : List ℕ) (some : 1 ≤ length body) where
  abbrev kind : ℕ
  kind = get_or body 0 0

  pub seen_access : kind ≡ 2 → {r : Option Access} → r ≡ seen_of (kind02 (rest body)) → r ≡ seen_of (record_of body)
  seen_access two e = e ∙ ap seen_of (by_kind {r = kind02 (rest body)} body some (rw two))

  passed : (c : Bool) (x y : Record) → seen_of x ≡ None → seen_of y ≡ None → seen_of (if c then x else y) ≡ None
  passed true x y ex ey = ex
  passed false x y ex ey = ey

  -- a record of one shape
  unshaped : (c : Bool) (x : Record) → seen_of x ≡ None → seen_of (if c then x else Malformed) ≡ None
  unshaped c x e = passed c x Malformed e refl

  abbrev b : List ℕ
  b = rest body

  pub seen_other : (kind ≡ 2 → ⊥) → None ≡ seen_of (record_of body)
  seen_other other = sym (sym (ap seen_of (by_kind {r = by_trace_kind kind (rest body)} body some refl)) ∙ rw (ne_eqb kind 2 other) others)
    where
      others : seen_of
          (if eqb kind 1 then kind01 b
          else if eqb kind 3 then kind03 b
          else if eqb kind 4 then kind04 b
          else if eqb kind 5 then kind05 b
          else if eqb kind 6 then kind06 b
          else if eqb kind 7 then kind07 b
          else if eqb kind 8 then kind08 b
          else if eqb kind 9 then kind09 b
          else if eqb kind 10 then kind0_a b
          else if eqb kind 11 then kind0_b b
          else Malformed) ≡ None
      others =
          passed (eqb kind 1) (kind01 b) (if eqb kind 3 then kind03 b else (if eqb kind 4 then kind04 b else (if eqb kind 5 then kind05 b else (if eqb kind 6 then kind06 b else (if eqb kind 7 then kind07 b else (if eqb kind 8 then kind08 b else (if eqb kind 9 then kind09 b else (if eqb kind 10 then kind0_a b else (if eqb kind 11 then kind0_b b else Malformed))))))))) (unshaped (eqb (length b) 46 && (ltb (get_or b 1 0) 4)) (Loads
          (record {
            family = get_or b 0 0;
            present = flag_of b 1 0;
            enabled = flag_of b 1 1;
            tc = be b 2;
            crp = record { limit = be b 6; address = be b 10 };
            srp = record { limit = be b 14; address = be b 18 };
            tt0 = be b 22;
            tt1 = be b 26;
            itt0 = be b 30;
            itt1 = be b 34;
            dtt0 = be b 38;
            dtt1 = be b 42;
          })) refl)
          (passed (eqb kind 3) (kind03 b) (if eqb kind 4 then kind04 b else (if eqb kind 5 then kind05 b else (if eqb kind 6 then kind06 b else (if eqb kind 7 then kind07 b else (if eqb kind 8 then kind08 b else (if eqb kind 9 then kind09 b else (if eqb kind 10 then kind0_a b else (if eqb kind 11 then kind0_b b else Malformed)))))))) (unshaped (eqb (length b) 6 && (ltb (get_or b 1 0) 2)) (Calls (calls.loading (get_or b 0 0) (flag_of b 1 0) (be b 2))) refl)
          (passed (eqb kind 4) (kind04 b) (if eqb kind 5 then kind05 b else (if eqb kind 6 then kind06 b else (if eqb kind 7 then kind07 b else (if eqb kind 8 then kind08 b else (if eqb kind 9 then kind09 b else (if eqb kind 10 then kind0_a b else (if eqb kind 11 then kind0_b b else Malformed))))))) (unshaped (eqb (length b) 7 && (ltb (get_or b 1 0) 2)) (Calls (calls.testing (get_or b 0 0) (flag_of b 1 0) (get_or b 2 0) (be b 3))) refl)
          (passed (eqb kind 5) (kind05 b) (if eqb kind 6 then kind06 b else (if eqb kind 7 then kind07 b else (if eqb kind 8 then kind08 b else (if eqb kind 9 then kind09 b else (if eqb kind 10 then kind0_a b else (if eqb kind 11 then kind0_b b else Malformed)))))) (unshaped (eqb (length b) 0 && (true)) (Calls calls.flushing_all) refl)
          (passed (eqb kind 6) (kind06 b) (if eqb kind 7 then kind07 b else (if eqb kind 8 then kind08 b else (if eqb kind 9 then kind09 b else (if eqb kind 10 then kind0_a b else (if eqb kind 11 then kind0_b b else Malformed))))) (unshaped (eqb (length b) 2 && (true)) (Calls (calls.flushing_code (get_or b 0 0) (get_or b 1 0))) refl)
          (passed (eqb kind 7) (kind07 b) (if eqb kind 8 then kind08 b else (if eqb kind 9 then kind09 b else (if eqb kind 10 then kind0_a b else (if eqb kind 11 then kind0_b b else Malformed)))) (unshaped (eqb (length b) 6 && (true)) (Calls (calls.flushing_page (get_or b 0 0) (get_or b 1 0) (be b 2))) refl)
          (passed (eqb kind 8) (kind08 b) (if eqb kind 9 then kind09 b else (if eqb kind 10 then kind0_a b else (if eqb kind 11 then kind0_b b else Malformed))) (unshaped (eqb (length b) 4 && (true)) (Calls (calls.flushing_frame (be b 0))) refl)
          (passed (eqb kind 9) (kind09 b) (if eqb kind 10 then kind0_a b else (if eqb kind 11 then kind0_b b else Malformed)) (unshaped (eqb (length b) 8 && (true)) (Stores (be b 0) (be b 4)) refl)
          (passed (eqb kind 10) (kind0_a b) (if eqb kind 11 then kind0_b b else Malformed) (unshaped (eqb (length b) 8 && (true)) (Adds (record { first = be b 0; last = be b 4 })) refl)
          (passed (eqb kind 11) (kind0_b b) Malformed (unshaped (eqb (length b) 5 && (ltb (get_or b 0 0) 16 && not (flag_of b 0 1))) (Calls (calls.probing (flag_of b 0 3) (flag_of b 0 2) (flag_of b 0 0) (be b 1))) refl)
          refl)))))))))

  pub access_left_out : kind ≡ 2 → Malformed ≡ other_of (record_of body)
  access_left_out two = left_out (rest body) ∙ ap other_of (by_kind {r = kind02 (rest body)} body some (rw two))

  -- a record of the kind k
  pub said_by : {k : ℕ} → kind ≡ k → (r : Result Said Bad) → record_in r ≡ by_trace_kind k (rest body) → record_in r ≡ other_of (record_of body)
  said_by e r h = other_is r (by_kind body some (rw e h))

  -- a kind of no record, or an access
  pub not_said : (kind ≡ 1 → ⊥) → (kind ≡ 3 → ⊥) → (kind ≡ 4 → ⊥) → (kind ≡ 5 → ⊥) → (kind ≡ 6 → ⊥) → (kind ≡ 7 → ⊥) → (kind ≡ 8 → ⊥) → (kind ≡ 9 → ⊥)
      → (kind ≡ 10 → ⊥) → (kind ≡ 11 → ⊥) → Malformed ≡ other_of (record_of body)
  not_said h1 h3 h4 h5 h6 h7 h8 h9 h10 h11 = go (eqb kind 2) refl
    where
      go : (b : Bool) → eqb kind 2 ≡ b → Malformed ≡ other_of (record_of body)
      go true e = access_left_out (eqb-true kind 2 e)
      go false e = nothing_said (by_kind body some (unknown kind (rest body) h1 (eqb-false kind 2 e) h3 h4 h5 h6 h7 h8 h9 h10 h11))

-- ---- what a body is, once it is told apart
pub is_access : (x : Record) {s : Option Access} {a : Access} → s ≡ seen_of x → s ≡ Some a → Calls (calls.access a) ≡ x
is_access (Loads g) e k = cc
is_access (Calls (calls.access b)) e k = cc
is_access (Calls (calls.loading code write address)) e k = cc
is_access (Calls (calls.testing code write level address)) e k = cc
is_access (Calls (calls.probing own instruction write address)) e k = cc
is_access (Calls calls.flushing_all) e k = cc
is_access (Calls (calls.flushing_code code mask)) e k = cc
is_access (Calls (calls.flushing_page code mask address)) e k = cc
is_access (Calls (calls.flushing_frame frame)) e k = cc
is_access (Stores address value) e k = cc
is_access (Adds range) e k = cc
is_access Malformed e k = cc

pub is_other : (x : Record) {s : Option Access} → s ≡ seen_of x → s ≡ None → other_of x ≡ x
is_other x e k = rw (sym e ∙ k)
