-- Demand 3 and request 14 of two runs of `play` over files: what each watched access prints is the same in both outputs. Assumes nothing but what the statements say.
use Prim.Native.Nat.{ℕ}
use mathlib.Core.Path.{◌≡◌, ◌∙◌}
use mathlib.Core.List.{List, ◌∷◌, ◌++◌, map}
use lib.ListN.{take}
use Rattle.definition.specs.Translate.{empty_caches}
use Rattle.definition.specs.Calls.{translation_line}
use Rattle.definition.specs.Trace.{first_state, records_of, texts, ending_of, opening, play}
use Rattle.definition.specs.declared.Registers.{Registers}
use Rattle.definition.specs.declared.Translation.{Translation}
use Rattle.definition.proofs.Replay.{watched_of, walks_of, Steady, Accepted}
use Rattle.definition.proofs.Lists.{All, Paired}
use Rattle.definition.proofs.Turns.{watches_of, Same, Allowed, Kept, ChangesFlushed}
use Rattle.definition.proofs.Epochs.{walks_in}
use Rattle.definition.proofs.Marked.{Marked, record_in, moments_of, turns_from, Under, watched_lines}
use Rattle.definition.proofs.Files.{lines_of, file_prints, files_independent, files_epochs, files_change}
use Rattle.std.specs.Prelude.{Ok}
use Rattle.whole.specs.Shown.{Shows}

-- the first n bytes of the output are `v1`, the lines of the file's records, and `end` where none of them is malformed
pub record Prints (b out : List ℕ) (n : ℕ) : Type 0 where
  pub is : take n out ≡ opening ++ (texts (lines_of b) ++ ending_of (records_of b))

-- both outputs, and the lines of the watched accesses in them, the counts left out: the same, and those of the cacheless walks' answers
pub record PrintAlike (walks : List Translation) (b b' : List ℕ) (l l' : List Marked) (out out' : List ℕ) (n n' : ℕ) : Type 0 where
  pub one : Prints b out n
  pub two : Prints b' out' n'
  pub alike : watched_lines l (lines_of b) ≡ watched_lines l' (lines_of b')
  pub walked : watched_lines l (lines_of b) ≡ map (translation_line 0) walks

-- what `play` promises of a file with version byte 1
shown_prints : (b out : List ℕ) (n : ℕ) → Shows (play (1 ∷ b)) out (Ok n) → Prints b out n
shown_prints b out n s = record { is = s.1 ∙ file_prints b }

by_lines : (walks : List Translation) (b b' : List ℕ) (l l' : List Marked) (out out' : List ℕ) (n n' : ℕ)
    → Shows (play (1 ∷ b)) out (Ok n) → Shows (play (1 ∷ b')) out' (Ok n')
    → (watched_lines l (lines_of b) ≡ watched_lines l' (lines_of b')) × (watched_lines l (lines_of b) ≡ map (translation_line 0) walks)
    → PrintAlike walks b b' l l' out out' n n'
by_lines walks b b' l l' out out' n n' p p' d =
    record { one = shown_prints b out n p; two = shown_prints b' out' n' p'; alike = d.0; walked = d.1 }

-- the demand
pub plays_independent : (g : Registers) (b b' : List ℕ) (l l' : List Marked) (out out' : List ℕ) (n n' : ℕ)
    → Shows (play (1 ∷ b)) out (Ok n) → Shows (play (1 ∷ b')) out' (Ok n')
    → map record_in l ≡ records_of b → map record_in l' ≡ records_of b'
    → Under g first_state l → Under g first_state l' → watched_of (moments_of first_state l) ≡ watched_of (moments_of first_state l')
    → Steady g (moments_of first_state l ++ moments_of first_state l') → Accepted g (moments_of first_state l ++ moments_of first_state l')
    → PrintAlike (walks_of g (moments_of first_state l)) b b' l l' out out' n n'
plays_independent g b b' l l' out out' n n' p p' e e' u u' w s t =
    by_lines (walks_of g (moments_of first_state l)) b b' l l' out out' n n' p p' (files_independent g b b' l l' e e' u u' w s t)

-- request 14: registers are loaded at any place
pub plays_epochs : (b b' : List ℕ) (l l' : List Marked) (out out' : List ℕ) (n n' : ℕ)
    → Shows (play (1 ∷ b)) out (Ok n) → Shows (play (1 ∷ b')) out' (Ok n')
    → map record_in l ≡ records_of b → map record_in l' ≡ records_of b'
    → Kept (watches_of (turns_from first_state l)) → Kept (watches_of (turns_from first_state l'))
    → Paired Same (watches_of (turns_from first_state l)) (watches_of (turns_from first_state l'))
    → PrintAlike (walks_in (watches_of (turns_from first_state l))) b b' l l' out out' n n'
plays_epochs b b' l l' out out' n n' p p' e e' k k' s =
    by_lines (walks_in (watches_of (turns_from first_state l))) b b' l l' out out' n n' p p' (files_epochs b b' l l' e e' k k' s)

-- and in its own words
pub plays_change : (b b' : List ℕ) (l l' : List Marked) (out out' : List ℕ) (n n' : ℕ)
    → Shows (play (1 ∷ b)) out (Ok n) → Shows (play (1 ∷ b')) out' (Ok n')
    → map record_in l ≡ records_of b → map record_in l' ≡ records_of b'
    → ChangesFlushed empty_caches (turns_from first_state l) → ChangesFlushed empty_caches (turns_from first_state l')
    → Paired Same (watches_of (turns_from first_state l)) (watches_of (turns_from first_state l'))
    → All Allowed (watches_of (turns_from first_state l)) → All Allowed (watches_of (turns_from first_state l'))
    → PrintAlike (walks_in (watches_of (turns_from first_state l))) b b' l l' out out' n n'
plays_change b b' l l' out out' n n' p p' e e' h h' s t t' =
    by_lines (walks_in (watches_of (turns_from first_state l))) b b' l l' out out' n n' p p' (files_change b b' l l' e e' h h' s t t')
