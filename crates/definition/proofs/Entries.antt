-- No call changes either cache but by the changes of Entries030 and Entries040, with walks under its registers and over its memory: so what those keep
-- the calls keep, and any moment of a replay. Assumes nothing.
use Rattle.std.specs.Prelude.{Option, Some, None}
use Prim.Native.Nat.{ℕ, ◌/◌, ◌^◌}
use mathlib.Core.Path.{◌≡◌, refl}
use mathlib.Core.Bool.{Bool, true, false, not, ◌&&◌, ◌||◌}
use lib.Dec.{eqb}
use Rattle.definition.specs.Words.{agrees}
use Rattle.definition.specs.Registers.{on, as_supervisor, as_instruction, walk_code, compared_code}
use Rattle.definition.specs.Memory.{Memory}
use Rattle.definition.specs.Transparent.{transparent, transparent030}
use Rattle.definition.specs.Walk030.{shift_of}
use Rattle.definition.specs.Walk040.{walk040, page_bits, frame_of}
use Rattle.definition.specs.Cache030.{Entry, Cache030, flushed_all, flushed_code, flushed_page}
use Rattle.definition.specs.Cache040.{Cache040, hit040}
use Rattle.definition.specs.Refusal.{Checks, refusal_of, bad_cache, bad_frame, above_seven}
use Rattle.definition.specs.Translate.{Caches, empty_caches, Translated, translate030, on_end040, on_hit040, translate040, in_order, translate_checks, translate}
use Rattle.definition.specs.Load.{Loaded, stopped, load_in_order, load_checks, load}
use Rattle.definition.specs.Flush.{Flushed, flush_checks, flush_unless, flush_all, flush_code, flush_page, flush_frame}
use Rattle.definition.specs.Calls.{Call, access, loading, testing, probing, flushing_all, flushing_code, flushing_page, flushing_frame, calling}
use Rattle.definition.proofs.Replay.{Moment, watched, other, memory_at, after}
use Rattle.definition.specs.declared.Registers.{Registers}
use Rattle.definition.specs.declared.Access.{Access}
use Rattle.definition.specs.declared.End040.{End040}
use Rattle.definition.specs.declared.End040.TheVariants.{Resident, Absent, Lost}
use Rattle.definition.proofs.Choice.{if_by, if_both}
use Rattle.definition.proofs.Entries030.{Keeps030, search_keeps, with_keeps, flushed_page_keeps, OfEntries, Sound030, empty_sound, sound_keeps}
use Rattle.definition.proofs.Entries040.{Keeps040, free_040}

-- one thing of each cache
pub record Both (I : Cache030 → Type 0) (J : Cache040 → Type 0) (c : Caches) : Type 0 where
  pub in030 : I c.c030
  pub in040 : J c.c040

-- the calls under g and over m keep both
pub record Keeps (I : Cache030 → Type 0) (J : Cache040 → Type 0) (g : Registers) (m : Memory) : Type 0 where
  pub in030 : Keeps030 g m I
  pub in040 : Keeps040 g m J

module _ (I : Cache030 → Type 0) (J : Cache040 → Type 0) (g : Registers) (m : Memory) (k : Keeps I J g m) where
  -- ---- translate
  abbrev After : Translated → Type 0
  After t = Both I J t.caches

  module _ (a : Access) (c : Caches) (h : Both I J c) where
    by_030 : After (translate030 g a m c)
    unfolding translate030
    by_030 =
        record {
          in030 = with_keeps g m I k.in030 (walk_code a) a.address a.write c.c030 a.recorded (shift_of g.tc) h.in030;
          in040 = h.in040;
        }

    found_040 : (e : End040) → (walk040 m g a.address (as_supervisor a)).end ≡ e
        → After (on_end040 g a c (walk040 m g a.address (as_supervisor a)).asked e)
    found_040 (Resident field wp sup) e =
        if_both After (a.write && wp) _ _ h
        (if_by After (not (as_supervisor a) && sup) _ _ (λ t. h)
        (λ f.
        record {
          in030 = h.in030;
          in040 = k.in040.insert c.c040 (a.address / 2 ^ page_bits g.tc) (as_supervisor a) (frame_of g.tc field) wp sup
              (record { address = a.address; at = refl; field = field; end = e; allowed = f; based = refl }) h.in040;
        }))
    found_040 (Absent missing) e = h
    found_040 (Lost at) e = h

    hit_040 : (hit : Option ℕ) → After (on_hit040 g a m c hit)
    hit_040 (Some base) = h
    hit_040 None = found_040 (walk040 m g a.address (as_supervisor a)).end refl

    by_040 : After (translate040 g a m c)
    unfolding translate040
    by_040 = hit_040 (hit040 c.c040 (a.address / 2 ^ page_bits g.tc) (as_supervisor a) a.write)

    in_order_keeps : After (in_order g a m c)
    unfolding in_order
    in_order_keeps =
        if_both After (not (on g)) _ _ h
        (if_both After (transparent g a.address (compared_code a) (as_instruction a) a.write) _ _ h (if_both After (eqb g.family 30) _ _ by_030 by_040))

    pub translate_keeps : Both I J (translate g a m c).caches
    unfolding translate
    translate_keeps = if_both After (eqb (refusal_of (translate_checks g a m c)) 0) _ _ in_order_keeps h

  -- ---- load
  abbrev AfterLoad : Loaded → Type 0
  AfterLoad l = Both I J l.caches

  pub load_keeps : (code : ℕ) (write : Bool) (address : ℕ) (c : Caches) → Both I J c → Both I J (load g code write address m c).caches
  unfolding load load_in_order
  load_keeps code write address c h =
      let d = flushed_page_keeps g m I k.in030 c.c030 code 7 address h.in030 in
      if_both AfterLoad (eqb (refusal_of (load_checks g code m c)) 0) _ _
      (if_both AfterLoad (not (on g)) _ _ h
      (if_both AfterLoad (stopped (shift_of g.tc) (transparent030 g address code write)) _ _ (record { in030 = d; in040 = h.in040 })
      (record { in030 = search_keeps g m I k.in030 code address write (flushed_page c.c030 code 7 address) d; in040 = h.in040 })))
      h

  -- ---- the flushes
  flush_keeps : (checks : Checks) (c : Caches) (done : Flushed) → Both I J c → Both I J done.caches → Both I J (flush_unless checks c done).caches
  flush_keeps checks c done h d = if_both (λ (f : Flushed). Both I J f.caches) (eqb (refusal_of checks) 0) _ _ d h

  pub flush_all_keeps : (c : Caches) → Both I J c → Both I J (flush_all c).caches
  unfolding flush_all flushed_all
  flush_all_keeps c h =
      flush_keeps (flush_checks false (bad_cache c.c030)) c _ h
      (record { in030 = k.in030.drop (λ (e : Entry). true) c.c030 h.in030; in040 = k.in040.drop_all c.c040 h.in040 })

  pub flush_code_keeps : (code mask : ℕ) (c : Caches) → Both I J c → Both I J (flush_code code mask c).caches
  unfolding flush_code flushed_code
  flush_code_keeps code mask c h =
      flush_keeps (flush_checks (above_seven code || above_seven mask) (bad_cache c.c030)) c _ h
      (record { in030 = k.in030.drop (λ (e : Entry). agrees e.code code mask) c.c030 h.in030; in040 = h.in040 })

  pub flush_page_keeps : (code mask address : ℕ) (c : Caches) → Both I J c → Both I J (flush_page code mask address c).caches
  unfolding flush_page
  flush_page_keeps code mask address c h =
      flush_keeps (flush_checks (above_seven code || above_seven mask) (bad_cache c.c030)) c _ h
      (record { in030 = flushed_page_keeps g m I k.in030 c.c030 code mask address h.in030; in040 = h.in040 })

  pub flush_frame_keeps : (frame : ℕ) (c : Caches) → Both I J c → Both I J (flush_frame frame c).caches
  unfolding flush_frame
  flush_frame_keeps frame c h =
      flush_keeps (flush_checks (bad_frame frame) false) c _ h
      (record { in030 = h.in030; in040 = k.in040.drop c.c040 frame h.in040 })

  -- ---- the law: any call
  pub calling_keeps : (c : Caches) → Both I J c → (call : Call) → Both I J (calling g m c call).caches
  unfolding calling
  calling_keeps c h (access a) = translate_keeps a c h
  calling_keeps c h (loading code write address) = load_keeps code write address c h
  calling_keeps c h (testing code write level address) = h
  calling_keeps c h (probing own instruction write address) = h
  calling_keeps c h flushing_all = flush_all_keeps c h
  calling_keeps c h (flushing_code code mask) = flush_code_keeps code mask c h
  calling_keeps c h (flushing_page code mask address) = flush_page_keeps code mask address c h
  calling_keeps c h (flushing_frame frame) = flush_frame_keeps frame c h

-- ---- any moment
module _ (I : Cache030 → Type 0) (J : Cache040 → Type 0) (g : Registers) where
  pub after_keeps : (now : Moment) → Keeps I J g (memory_at now) → (c : Caches) → Both I J c → Both I J (after g c now)
  after_keeps (watched a m) k c h = translate_keeps I J g m k a c h
  after_keeps (other call m) k c h = calling_keeps I J g m k c h call

-- ---- check 4
-- of an entry nothing is said
abbrev pub Anything : ℕ → Entry → Type 0
Anything s e = Unit {0}

anything : OfEntries Anything
anything = record { invalid = λ s e f. tt; again = λ s n e k. tt }

-- the 68030 cache has its 22 entries and passes check 4: so it stays, whatever the registers and memories are
abbrev pub Fit : Caches → Type 0
Fit c = Sound030 Anything c.c030

pub empty_fit : Fit empty_caches
empty_fit = empty_sound Anything anything

pub calling_fit : (g : Registers) (m : Memory) (c : Caches) → Fit c → (call : Call) → Fit (calling g m c call).caches
calling_fit g m c h call =
    (calling_keeps (Sound030 Anything) (λ d. Unit {0}) g m
    (record {
      in030 = sound_keeps Anything anything g m (λ s n code page base wp w. tt);
      in040 = free_040 g m;
    }) c (record { in030 = h; in040 = tt }) call).in030

pub after_fit : (g : Registers) (now : Moment) (c : Caches) → Fit c → Fit (after g c now)
unfolding calling
after_fit g (watched a m) c h = calling_fit g m c h (access a)
after_fit g (other call m) c h = calling_fit g m c h call
