-- Document 01, 'The caches': the four flushes as calls.
use Rattle.std.specs.Prelude.{ℕ, Bool, false, ◌||◌}
use Rattle.definition.specs.Cache030.{Cache030, flushed_all, flushed_code, flushed_page}
use Rattle.definition.specs.Cache040.{Cache040, flushed_all040, flushed_frame}
use Rattle.definition.specs.Refusal.{Checks, checks, bad_cache, bad_frame, above_seven, unless}
use Rattle.definition.specs.Translate.{Caches}
use Rattle.definition.specs.Types.{Flush}

-- an answer and the next caches
pub record Flushed : Type 0 where
  pub answer : Flush
  pub caches : Caches

-- by its parts
abbrev pub flushed : Flush → Cache030 → Cache040 → Flushed
flushed answer c030 c040 = record { answer = answer; caches = record { c030 = c030; c040 = c040 } }

-- 5 and 4 alone can apply to a flush
abbrev pub flush_checks : Bool → Bool → Checks
flush_checks five four = checks false false false four five false false

-- a flush that is done, or its refusal, which leaves the caches
abbrev pub flush_unless : Checks → Caches → Flushed → Flushed
flush_unless k c done = unless k (λ (n : ℕ). flushed (Flush.Refused n) c.c030 c.c040) done

-- 'nothing; empties both'
unfoldable pub flush_all : Caches → Flushed
flush_all c =
    flush_unless (flush_checks false (bad_cache c.c030)) c
    (flushed Flush.Flushed (flushed_all c.c030) (flushed_all040 c.c040))

-- 'code, mask'
unfoldable pub flush_code : ℕ → ℕ → Caches → Flushed
flush_code code mask c =
    flush_unless (flush_checks (above_seven code || above_seven mask) (bad_cache c.c030)) c
    (flushed Flush.Flushed (flushed_code c.c030 code mask) c.c040)

-- 'code, mask, address'
unfoldable pub flush_page : ℕ → ℕ → ℕ → Caches → Flushed
flush_page code mask address c =
    flush_unless (flush_checks (above_seven code || above_seven mask) (bad_cache c.c030)) c
    (flushed Flush.Flushed (flushed_page c.c030 code mask address) c.c040)

-- '040 frame, a long'. The frame flush takes the 68040 cache alone; where it is handed a pair, the 68030 cache passes through unread
unfoldable pub flush_frame : ℕ → Caches → Flushed
flush_frame frame c =
    flush_unless (flush_checks (bad_frame frame) false) c (flushed Flush.Flushed c.c030 (flushed_frame c.c040 frame))
