-- Document 01, 'The trace and the program': what each record means, what is malformed, which line it prints, and how a whole file plays.
use Rattle.std.specs.Prelude.{ℕ, zero, suc, ◌+◌, ◌*◌, ◌/◌, ◌%◌, ◌^◌, List, [], ◌∷◌, ◌++◌, Bool, true, false, not, ◌&&◌, ltb, leb, eqb, length, get_or, set, take, drop, replicate, if◌then◌else◌, Option, Some, None}
use Rattle.definition.specs.Words.{bit_of}
use Rattle.definition.specs.Registers.{all_registers}
use Rattle.definition.specs.Memory.{Memory, memory}
use Rattle.definition.specs.Refusal.{Checks, checks, no_family, bad_store, crossed, no_room, unless}
use Rattle.definition.specs.Translate.{Caches, empty_caches}
use Rattle.definition.specs.Calls.{Call, access, loading, testing, probing, flushing_all, flushing_code, flushing_page, flushing_frame, Line, A, F, L, T, K, N, R, Called, calling}
use Rattle.definition.specs.Types.{Registers, Range}

-- ---- records
-- what a record's body says; or nothing that document 01 has
pub data Record : Type 0 where
  Loads : Registers → Record
  Calls : Call → Record
  Stores : ℕ → ℕ → Record
  Adds : Range → Record
  Malformed : Record

-- 'numbers are big-endian': the long at byte i
abbrev pub be : List ℕ → ℕ → ℕ
be b i = ((get_or b i 0 * 256 + get_or b (i + 1) 0) * 256 + get_or b (i + 2) 0) * 256 + get_or b (i + 3) 0

-- flag k of the byte at i
abbrev pub flag_of : List ℕ → ℕ → ℕ → Bool
flag_of b i k = bit_of (get_or b i 0) k

-- 'wrong length', 'other flag bits', 'a write byte above 1': what each kind's body must pass, the kind left out
abbrev pub shaped : List ℕ → ℕ → Bool → Record → Record
shaped b n passes r = if eqb (length b) n && passes then r else Malformed

-- '01: family, flags (bit 0 PMMU, 1 enabled), the 11 longs in order'
abbrev pub kind01 : List ℕ → Record
kind01 b =
    shaped b 46 (ltb (get_or b 1 0) 4)
    (Loads
    (all_registers (get_or b 0 0) (flag_of b 1 0) (flag_of b 1 1) (be b 2) (be b 6) (be b 10) (be b 14) (be b 18) (be b 22) (be b 26) (be b 30) (be b 34)
    (be b 38) (be b 42)))

-- 'override or FF'
abbrev pub override_of : ℕ → Option ℕ
override_of n = if eqb n 255 then None else Some n

-- '02: flags (0 write, 1 supervisor, 2 instruction, 3 CPU state, 4 record), override or FF, address'
abbrev pub kind02 : List ℕ → Record
kind02 b =
    shaped b 6 (ltb (get_or b 0 0) 32)
    (Calls
    (access
    (record {
      address = be b 2;
      write = flag_of b 0 0;
      supervisor = flag_of b 0 1;
      instruction = flag_of b 0 2;
      own = flag_of b 0 3;
      code = override_of (get_or b 1 0);
      recorded = flag_of b 0 4;
    })))

-- '03: code, write 0/1, address'
abbrev pub kind03 : List ℕ → Record
kind03 b = shaped b 6 (ltb (get_or b 1 0) 2) (Calls (loading (get_or b 0 0) (flag_of b 1 0) (be b 2)))

-- '04: code, write, level, address'
abbrev pub kind04 : List ℕ → Record
kind04 b = shaped b 7 (ltb (get_or b 1 0) 2) (Calls (testing (get_or b 0 0) (flag_of b 1 0) (get_or b 2 0) (be b 3)))

-- '05: nothing'
abbrev pub kind05 : List ℕ → Record
kind05 b = shaped b 0 true (Calls flushing_all)

-- '06, 07: code, mask; code, mask, address'
abbrev pub kind06 : List ℕ → Record
kind06 b = shaped b 2 true (Calls (flushing_code (get_or b 0 0) (get_or b 1 0)))

-- 07 of them
abbrev pub kind07 : List ℕ → Record
kind07 b = shaped b 6 true (Calls (flushing_page (get_or b 0 0) (get_or b 1 0) (be b 2)))

-- '08: 040 frame, a long'
abbrev pub kind08 : List ℕ → Record
kind08 b = shaped b 4 true (Calls (flushing_frame (be b 0)))

-- '09: address, value'
abbrev pub kind09 : List ℕ → Record
kind09 b = shaped b 8 true (Stores (be b 0) (be b 4))

-- '0A: range first, last'
abbrev pub kind0_a : List ℕ → Record
kind0_a b = shaped b 8 true (Adds (record { first = be b 0; last = be b 4 }))

-- '0B: flags (3 CPU state, 2 instruction, 0 write), address'
abbrev pub kind0_b : List ℕ → Record
kind0_b b =
    shaped b 5 (ltb (get_or b 0 0) 16 && not (flag_of b 0 1))
    (Calls (probing (flag_of b 0 3) (flag_of b 0 2) (flag_of b 0 0) (be b 1)))

-- 'unknown kind'
abbrev pub by_trace_kind : ℕ → List ℕ → Record
by_trace_kind kind b =
    if eqb kind 1 then kind01 b
    else if eqb kind 2 then kind02 b
    else if eqb kind 3 then kind03 b
    else if eqb kind 4 then kind04 b
    else if eqb kind 5 then kind05 b
    else if eqb kind 6 then kind06 b
    else if eqb kind 7 then kind07 b
    else if eqb kind 8 then kind08 b
    else if eqb kind 9 then kind09 b
    else if eqb kind 10 then kind0_a b
    else if eqb kind 11 then kind0_b b
    else Malformed

-- 'its body, kind first'
unfoldable pub record_of : List ℕ → Record
record_of [] = Malformed
record_of (kind ∷ b) = by_trace_kind kind b

-- ---- one record
-- what the program keeps
pub record State : Type 0 where
  pub registers : Registers
  pub longs : List ℕ
  pub ranges : List Range
  pub caches : Caches

-- 'Memory is 8,192 longs at 0'
abbrev pub memory_of : State → Memory
memory_of s = memory s.longs 0 s.ranges

-- a line, and what the program keeps after it
pub record Played : Type 0 where
  pub line : Line
  pub state : State

-- by its parts
abbrev pub played : Line → State → Played
played line state = record { line = line; state = state }

-- what applies to a record of the program's own
abbrev pub program_checks : Bool → Bool → Bool → Bool → Checks
program_checks one two three eight =
    checks one two three false false false eight

-- 'A refusal prints R and its number, stores nothing and goes on.'
abbrev pub keeping : Checks → State → State → Played
keeping k s next = unless k (λ (n : ℕ). played (R n) s) (played K next)

-- a call's line, with its caches
abbrev pub with_caches : State → Called → Played
with_caches s c =
    played c.line (record { registers = s.registers; longs = s.longs; ranges = s.ranges; caches = c.caches })

-- 7: 'malformed trace'
abbrev pub malformed_line : Line
malformed_line = R 7

-- what each record does: its line, and what is kept
unfoldable pub step_of : State → Record → Played
step_of s (Loads g) =
    keeping (program_checks (no_family g.family) false false false) s
    (record { registers = g; longs = s.longs; ranges = s.ranges; caches = s.caches })
step_of s (Calls call) = with_caches s (calling s.registers (memory_of s) s.caches call)
step_of s (Stores address value) =
    keeping (program_checks false (bad_store s.longs address) false false) s
    (record { registers = s.registers; longs = set s.longs (address / 4) value; ranges = s.ranges; caches = s.caches })
step_of s (Adds range) =
    keeping (program_checks false false (crossed range) (no_room s.ranges)) s
    (record { registers = s.registers; longs = s.longs; ranges = s.ranges ++ (range ∷ []); caches = s.caches })
step_of s Malformed = played malformed_line s

-- ---- lines, as bytes of ASCII
-- 'Hex is upper case'
abbrev pub hex_digit : ℕ → ℕ
hex_digit n = if ltb n 10 then n + 48 else n + 55

-- the low k digits of n
unfoldable pub hex : ℕ → ℕ → List ℕ
hex zero n = []
hex (suc k) n = hex_digit (n / 16 ^ k % 16) ∷ hex k n

-- the last digit
abbrev pub digit : ℕ → ℕ
digit n = n % 10 + 48

-- 'counts decimal', with at most `most` digits more than one
unfoldable pub decimal_in : ℕ → ℕ → List ℕ
decimal_in zero n = digit n ∷ []
decimal_in (suc most) n = if ltb n 10 then digit n ∷ [] else decimal_in most (n / 10) ++ (digit n ∷ [])

-- of as many digits as it has
abbrev pub decimal : ℕ → List ℕ
decimal n = decimal_in n n

-- each line ends with it
abbrev pub newline : List ℕ
newline = 10 ∷ []

-- after a space
abbrev pub spaced : List ℕ → List ℕ
spaced l = 32 ∷ l

-- 'Hex is upper case, 8 digits, MMUSR 4; counts decimal.'
unfoldable pub text : Line → List ℕ
text (A address count) = 65 ∷ spaced (hex 8 address) ++ spaced (decimal count) ++ newline
text (F kind cause address count) =
    70 ∷ spaced (decimal kind) ++ spaced (decimal cause) ++ spaced (hex 8 address) ++ spaced (decimal count) ++ newline
text (L count) = 76 ∷ spaced (decimal count) ++ newline
text (T mmusr address count) = 84 ∷ spaced (hex 4 mmusr) ++ spaced (hex 8 address) ++ spaced (decimal count) ++ newline
text K = 75 ∷ newline
text N = 78 ∷ newline
text (R n) = 82 ∷ spaced (decimal n) ++ newline

-- ---- a whole file
-- 'registers start as family 30, all else 0'
abbrev pub first_registers : Registers
first_registers = all_registers 30 false false 0 0 0 0 0 0 0 0 0 0 0

-- 'Memory is 8,192 longs at 0, all zero'
abbrev pub first_state : State
first_state = record { registers = first_registers; longs = replicate 8192 0; ranges = []; caches = empty_caches }

-- ---- the records of a file
-- it is nothing that document 01 has
abbrev pub is_malformed : Record → Bool
is_malformed (Loads g) = false
is_malformed (Calls call) = false
is_malformed (Stores address value) = false
is_malformed (Adds range) = false
is_malformed Malformed = true

-- what stands at the front of the bytes: nothing, a record's body with the bytes after it, or less than a record
pub data Front : Type 0 where
  Ended : Front
  Body : List ℕ → List ℕ → Front
  Short : Front

-- 'Each record is a 2-byte length and its body'; 'short record'
unfoldable pub front_of : List ℕ → Front
front_of [] = Ended
front_of (high ∷ []) = Short
front_of (high ∷ low ∷ rest) =
    if leb (high * 256 + low) (length rest)
    then Body (take (high * 256 + low) rest) (drop (high * 256 + low) rest)
    else Short

-- the record at the front and those after it, which begin so many bytes behind its first. A malformed one 'stops the run': none comes after it
abbrev pub from_front : (ℕ → List Record) → Front → List Record
from_front next Ended = []
from_front next (Body body rest) =
    if is_malformed (record_of body) then Malformed ∷ [] else record_of body ∷ next (suc (length body))
from_front next Short = Malformed ∷ []

-- the records of the bytes, of which the first `skip` belong to the record before
unfoldable pub records_after : ℕ → List ℕ → List Record
records_after skip [] = []
records_after (suc skip) (byte ∷ b) = records_after skip b
records_after zero (byte ∷ b) = from_front (λ (skip : ℕ). records_after skip b) (front_of (byte ∷ b))

-- the records of a file's bytes, after its version byte: up to its end, or to the first that is short or malformed
abbrev pub records_of : List ℕ → List Record
records_of b = records_after 0 b

-- ---- what a file prints
-- the lines that records print, one after the other from a state
unfoldable pub lines_from : State → List Record → List Line
lines_from s [] = []
lines_from s (r ∷ rest) = (step_of s r).line ∷ lines_from (step_of s r).state rest

-- as bytes
abbrev pub texts : List Line → List ℕ
texts [] = []
texts (line ∷ lines) = text line ++ texts lines

-- the last line, `end`
abbrev pub ending : List ℕ
ending = 101 ∷ 110 ∷ 100 ∷ newline

-- 'Refusal 7 .. comes first in its record, after the lines before it, and stops the run without `end`'
abbrev pub ending_of : List Record → List ℕ
ending_of [] = ending
ending_of (r ∷ rest) = if is_malformed r then [] else ending_of rest

-- what the bytes of records print from a state
unfoldable pub play_from : State → List ℕ → List ℕ
play_from s b = texts (lines_from s (records_of b)) ++ ending_of (records_of b)

-- '`v1` follows a good version byte.'
abbrev pub opening : List ℕ
opening = 118 ∷ 49 ∷ newline

-- 'The file .. starts with version byte 1.'
unfoldable pub play : List ℕ → List ℕ
play [] = text malformed_line
play (version ∷ b) = if eqb version 1 then opening ++ play_from first_state b else text malformed_line
