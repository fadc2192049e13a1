-- What the parts of a probe give together. Assumes nothing.
use Rattle.std.specs.Prelude.{Option, Some, None}
use Prim.Native.Nat.{ℕ, ◌/◌, ◌%◌, ◌^◌, ◌<◌}
use mathlib.Core.Path.{◌≡◌, ap, sym, ◌∙◌}
use mathlib.Core.Bool.{Bool, true, false, not}
use borrow.Author.Tests.{eq-eqb, ne_eqb}
use Rattle.definition.specs.Registers.{on, code_of}
use Rattle.definition.specs.Transparent.{transparent}
use Rattle.definition.specs.Walk030.{shift_of}
use Rattle.definition.specs.Walk040.{page_bits}
use Rattle.definition.specs.Cache030.{Cache030, hit_of}
use Rattle.definition.specs.Cache040.{Cache040, hit040}
use Rattle.definition.specs.Refusal.{no_family, bad_cache, refusal_of}
use Rattle.definition.specs.Translate.{Caches, hit_address, joined}
use Rattle.definition.specs.Probe.{probe030, probe040, probe_in_order, probe}
use Rattle.definition.specs.declared.Registers.{Registers}
use Rattle.definition.specs.declared.Probe.{Probe}
use Rattle.checks.specs.Given.{checks_of}
use Rattle.checks.proofs.Bounds.{in_three_bits, code_small}

-- ---- the 68030 cache
module _ (c : Cache030) (code : ℕ) (write : Bool) (address : ℕ) {r s : Option ℕ} (is : r ≡ s) where
  pub none_030 : r ≡ None → Probe.Nothing ≡ probe030 c code write address s
  none_030 e = rw (sym is ∙ e)

  module _ {shift : ℕ} {h : Option ℕ} (small : code < 8) (e : r ≡ Some shift) (look : h ≡ hit_of c (code % 8) (address / 2 ^ shift) shift write) where
    held : {x : Option ℕ} → h ≡ x → hit_of c code (address / 2 ^ shift) shift write ≡ x
    held f = rw (← in_three_bits small) (sym look ∙ f)

    pub at_030 : {base to : ℕ} → h ≡ Some base → to ≡ hit_address base address shift → Probe.Address to ≡ probe030 c code write address s
    at_030 f t = rw (sym is ∙ e, held f, t)

    pub miss_030 : h ≡ None → Probe.Nothing ≡ probe030 c code write address s
    miss_030 f = rw (sym is ∙ e, held f)

-- ---- the 68040 cache
module _ (g : Registers) (c : Cache040) (own write : Bool) (address : ℕ) {bits : ℕ} {h : Option ℕ} (is : bits ≡ page_bits g.tc)
    (look : h ≡ hit040 c (address / 2 ^ bits) own write) where
  found : {x : Option ℕ} → h ≡ x → hit040 c (address / 2 ^ page_bits g.tc) own write ≡ x
  found e = rw (← is) (sym look ∙ e)

  pub at_040 : {base to : ℕ} → h ≡ Some base → to ≡ joined g.tc base address → Probe.Address to ≡ probe040 g c own write address
  at_040 f t = rw (found f, t)

  pub miss_040 : h ≡ None → Probe.Nothing ≡ probe040 g c own write address
  miss_040 f = rw (found f)

-- ---- the order
pub own_small : (own instruction : Bool) {code : ℕ} → code ≡ code_of own instruction → code < 8
own_small own instruction e = rw e (code_small own instruction)

module _ (g : Registers) (own instruction write : Bool) (address : ℕ) (c : Caches) {x : Bool} (is-on : x ≡ on g) where
  pub probe_off : not x ≡ true → Probe.Nothing ≡ probe_in_order g own instruction write address c
  unfolding probe_in_order
  probe_off h = rw (ap not (sym is-on) ∙ h)

  module _ (h : not x ≡ false) {code : ℕ} {t : Bool} (is_code : code ≡ code_of own instruction) (is-tt : t ≡ transparent g address code instruction write) where
    matched : {b : Bool} → t ≡ b → transparent g address (code_of own instruction) instruction write ≡ b
    matched e = rw (← is_code) (sym is-tt ∙ e)

    pub probe_transparent : t ≡ true → Probe.Address address ≡ probe_in_order g own instruction write address c
    unfolding probe_in_order
    probe_transparent k = rw (ap not (sym is-on) ∙ h, matched k)

    pub probe_by_030 : {p : Probe} → t ≡ false → g.family ≡ 30 → p ≡ probe030 c.c030 code write address (shift_of g.tc)
        → p ≡ probe_in_order g own instruction write address c
    unfolding probe_in_order
    probe_by_030 k f p = rw (ap not (sym is-on) ∙ h, matched k, eq-eqb g.family 30 f, ← is_code) p

    pub probe_by_040 : {p : Probe} → t ≡ false → (g.family ≡ 30 → ⊥) → p ≡ probe040 g c.c040 own write address
        → p ≡ probe_in_order g own instruction write address c
    unfolding probe_in_order
    probe_by_040 k f p = rw (ap not (sym is-on) ∙ h, matched k, ne_eqb g.family 30 f) p

-- ---- the refusals
module _ (g : Registers) (own instruction write : Bool) (address : ℕ) (c : Caches) {n : ℕ} {one four : Bool} (is_one : one ≡ no_family g.family)
    (is-four : four ≡ bad_cache c.c030) (first : n ≡ refusal_of (checks_of one false false false false four)) where
  refusal : n ≡ refusal_of (checks_of (no_family g.family) false false false false (bad_cache c.c030))
  refusal = rw (← is_one, ← is-four) first

  pub probe_accepted : {p : Probe} → n ≡ 0 → p ≡ probe_in_order g own instruction write address c → p ≡ probe g own instruction write address c
  unfolding probe
  probe_accepted e p = rw (sym refusal ∙ e) p

  pub probe_refused : (n ≡ 0 → ⊥) → Probe.Refused n ≡ probe g own instruction write address c
  unfolding probe
  probe_refused h = rw (← refusal, ne_eqb n 0 h)
