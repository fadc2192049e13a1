-- What the host's numbers are: registers, an access, and the five numbers of an answer.
use Rattle.std.specs.Prelude.{ℕ, ◌/◌, ◌%◌, ◌≡◌, List, [], ◌∷◌, Bool, length, get_or, Option, Some, None}
use Rattle.definition.specs.Words.{bit_of}
use Rattle.definition.specs.Answers.{kind_number, cause_number}
use Rattle.definition.specs.Trace.{override_of}
use Rattle.definition.specs.Cache030.{Cache030}
use Rattle.definition.specs.Translate.{Caches, Translated}
use Rattle.definition.specs.Load.{Loaded}
use Rattle.definition.specs.Test.{Tested}
use Rattle.definition.specs.Flush.{Flushed}
use Rattle.definition.specs.declared.Registers.{Registers}
use Rattle.definition.specs.declared.Access.{Access}
use Rattle.definition.specs.declared.Translation.{Translation}
use Rattle.definition.specs.declared.Translation.TheVariants as translation
use Rattle.definition.specs.declared.Load.{Load}
use Rattle.definition.specs.declared.Load.TheVariants as load
use Rattle.definition.specs.declared.Test.{Test}
use Rattle.definition.specs.declared.Test.TheVariants as test
use Rattle.definition.specs.declared.Probe.{Probe}
use Rattle.definition.specs.declared.Probe.TheVariants as probe
use Rattle.definition.specs.declared.Audit.{Audit}
use Rattle.definition.specs.declared.Audit.TheVariants as audit
use Rattle.definition.specs.declared.Finding.{Finding}
use Rattle.definition.specs.declared.Finding.TheVariants as finding
use Rattle.definition.specs.declared.Flush.{Flush}
use Rattle.definition.specs.declared.Flush.TheVariants as flush
use Rattle.numbers.specs.declared.Held.{Held}
use Rattle.numbers.specs.declared.Walked.{Walked}

-- family, flags (bit 0 PMMU, 1 enabled), and the 11 longs in the order of a trace's record
abbrev pub registers_with : List ℕ → Bool → Bool → Registers
registers_with ns present enabled =
    record {
      family = get_or ns 0 0;
      present = present;
      enabled = enabled;
      tc = get_or ns 2 0;
      crp = record { limit = get_or ns 3 0; address = get_or ns 4 0 };
      srp = record { limit = get_or ns 5 0; address = get_or ns 6 0 };
      tt0 = get_or ns 7 0;
      tt1 = get_or ns 8 0;
      itt0 = get_or ns 9 0;
      itt1 = get_or ns 10 0;
      dtt0 = get_or ns 11 0;
      dtt1 = get_or ns 12 0;
    }

abbrev pub registers_of : List ℕ → Registers
registers_of ns = registers_with ns (bit_of (get_or ns 1 0) 0) (bit_of (get_or ns 1 0) 1)

-- 'flags (0 write, 1 supervisor, 2 instruction, 3 CPU state, 4 record)'
abbrev pub access_with : ℕ → Bool → Bool → Bool → Bool → Option ℕ → Bool → Access
access_with address write supervisor instruction own code recorded =
    record {
      address = address;
      write = write;
      supervisor = supervisor;
      instruction = instruction;
      own = own;
      code = code;
      recorded = recorded;
    }

abbrev pub access_of : ℕ → ℕ → ℕ → Access
access_of flags code address =
    access_with address (bit_of flags 0) (bit_of flags 1) (bit_of flags 2) (bit_of flags 3) (override_of code) (bit_of flags 4)

-- what an answer is (0 an address, a status or done; 1 a fault; 2 a refusal; 3 nothing), its number, two numbers more, and the count
abbrev pub translation_numbers : Translation → ℕ → List ℕ
translation_numbers (translation.Address x) count = 0 ∷ x ∷ 0 ∷ 0 ∷ count ∷ []
translation_numbers (translation.Fault kind cause x) count = 1 ∷ x ∷ kind_number kind ∷ cause_number cause ∷ count ∷ []
translation_numbers (translation.Refused n) count = 2 ∷ n ∷ 0 ∷ 0 ∷ count ∷ []

abbrev pub load_numbers : Load → ℕ → List ℕ
load_numbers load.Loaded count = 0 ∷ 0 ∷ 0 ∷ 0 ∷ count ∷ []
load_numbers (load.Refused n) count = 2 ∷ n ∷ 0 ∷ 0 ∷ count ∷ []

abbrev pub test_numbers : Test → ℕ → List ℕ
test_numbers (test.Status mmusr address) count = 0 ∷ mmusr ∷ address ∷ 0 ∷ count ∷ []
test_numbers (test.Refused n) count = 2 ∷ n ∷ 0 ∷ 0 ∷ count ∷ []

abbrev pub probe_numbers : Probe → List ℕ
probe_numbers (probe.Address x) = 0 ∷ x ∷ 0 ∷ 0 ∷ 0 ∷ []
probe_numbers probe.Nothing = 3 ∷ 0 ∷ 0 ∷ 0 ∷ 0 ∷ []
probe_numbers (probe.Refused n) = 2 ∷ n ∷ 0 ∷ 0 ∷ 0 ∷ []

-- an audit: 0 every entry is right; 1 the index of a stale entry, and its cache, 30 or 40; 2 a refusal
abbrev pub audit_numbers : Audit → List ℕ
audit_numbers audit.Clean = 0 ∷ 0 ∷ 0 ∷ 0 ∷ 0 ∷ []
audit_numbers (audit.Stale030 i) = 1 ∷ i ∷ 30 ∷ 0 ∷ 0 ∷ []
audit_numbers (audit.Stale040 i) = 1 ∷ i ∷ 40 ∷ 0 ∷ 0 ∷ []
audit_numbers (audit.Refused n) = 2 ∷ n ∷ 0 ∷ 0 ∷ 0 ∷ []

-- what a cache gives: 0 with a base in two halves, 3 nothing
abbrev pub held_of : Option ℕ → Held
held_of (Some base) = record { what = 0; low = base % 4294967296; high = base / 4294967296 }
held_of None = record { what = 3; low = 0; high = 0 }

-- what the tables give: the first four numbers of a translation
abbrev pub walked_of : Translation → Walked
walked_of (translation.Address x) = record { what = 0; number = x; kind = 0; cause = 0 }
walked_of (translation.Fault kind cause x) =
    record { what = 1; number = x; kind = kind_number kind; cause = cause_number cause }
walked_of (translation.Refused n) = record { what = 2; number = n; kind = 0; cause = 0 }

-- one entry: 0 its page's first address, its code, what the cache gives and what the tables give; 2 a refusal
abbrev pub finding_of_parts : ℕ → ℕ → Held → Walked → List ℕ
finding_of_parts address code h t =
    0 ∷ address ∷ code ∷ h.what ∷ h.low ∷ h.high ∷ t.what ∷ t.number ∷ t.kind ∷ t.cause ∷ []

abbrev pub finding_numbers : Finding → List ℕ
finding_numbers (finding.Says address code cached tables) = finding_of_parts address code (held_of cached) (walked_of tables)
finding_numbers (finding.Refused n) = 2 ∷ n ∷ 0 ∷ 0 ∷ 0 ∷ 0 ∷ 0 ∷ 0 ∷ 0 ∷ 0 ∷ []

-- a flush answers 0, or the number of its refusal
abbrev pub flush_number : Flush → ℕ
flush_number flush.Flushed = 0
flush_number (flush.Refused n) = n

-- a flush's number and the caches after it
pub record FlushedTo (f : Flushed) (number : ℕ) (after : Caches) : Type 0 where
  pub answers : number ≡ flush_number f.answer
  pub leaves : after ≡ f.caches

-- an answer's numbers and the caches after it
pub record TranslatedTo (t : Translated) (numbers : List ℕ) (after : Caches) : Type 0 where
  pub answers : numbers ≡ translation_numbers t.answer (length t.asked)
  pub leaves : after ≡ t.caches

-- a load's, with the 68030 cache: the other one stays
pub record LoadedTo (l : Loaded) (numbers : List ℕ) (after : Cache030) : Type 0 where
  pub answers : numbers ≡ load_numbers l.answer (length l.asked)
  pub leaves : after ≡ l.caches.c030

abbrev pub tested_numbers : Tested → List ℕ
tested_numbers t = test_numbers t.answer (length t.asked)
