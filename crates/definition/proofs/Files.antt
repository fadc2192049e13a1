-- A file: the records of its bytes and what they print, and demand 3 of two files. Assumes nothing but what the statements say.
use Prim.Native.Nat.{ℕ, zero, suc, ◌+◌, ◌*◌}
use mathlib.Core.Path.{◌≡◌, refl, ap, sym, ◌∙◌}
use mathlib.Core.List.{List, [], ◌∷◌, ◌++◌, map, append-nil, append_assoc}
use mathlib.Core.Bool.{Bool, true, false}
use native.Mathlib.Omega.{arith}
use borrow.Author.Tests.{leb-true}
use lib.Dec.{leb}
use lib.ListN.{length, take, drop}
use lib.Seq.{length-take-le}
use Rattle.std.specs.Prelude.{if◌then◌else◌}
use Rattle.definition.specs.Words.{any_of}
use Rattle.definition.specs.Refusal.{refusal_of}
use Rattle.definition.specs.Translate.{in_order, translate, empty_caches}
use Rattle.definition.specs.Calls.{Line, A, K, R, translation_line, calling}
use Rattle.definition.specs.Trace.{Record, Malformed, record_of, State, malformed_line, step_of, hex, decimal_in, text, first_state, is_malformed, Ended, Body, Short, front_of, records_after, records_of, lines_from, texts, ending, ending_of, play_from, opening, play}
use Rattle.definition.proofs.Replay.{watched_of, walks_of, Steady, Accepted}
use Rattle.definition.proofs.Marked.{Marked, record_in, moments_of, turns_from, Under, watched_lines, prints}
use Rattle.definition.specs.declared.Registers.{Registers}
use Rattle.definition.proofs.Lists.{All, Paired}
use Rattle.definition.proofs.Turns.{watches_of, Same, Allowed, Kept, ChangesFlushed}
use Rattle.definition.proofs.Epochs.{walks_in}
use Rattle.definition.proofs.Records.{traces_epochs, traces_change, traces_independent}

-- ---- the records of the bytes
-- some bytes are no end
pub not_ended : (x : ℕ) (l : List ℕ) → front_of (x ∷ l) ≡ Ended → ⊥
unfolding front_of
not_ended x [] e = let z : ◌≡◌ {A = ℕ} 0 1 = cc in omega arith
not_ended x (y ∷ l) e = go (leb (x * 256 + y) (length l)) e
  where
    go : (c : Bool) → (if c then Body (take (x * 256 + y) l) (drop (x * 256 + y) l) else Short) ≡ Ended → ⊥
    go true e = let z : ◌≡◌ {A = ℕ} 0 1 = cc in omega arith
    go false e = let z : ◌≡◌ {A = ℕ} 0 1 = cc in omega arith

-- what belongs to the record before is passed over
passed_over : (n : ℕ) (b : List ℕ) → records_after n b ≡ records_of (drop n b)
unfolding records_after
passed_over zero b = refl
passed_over (suc n) [] = refl
passed_over (suc n) (x ∷ b) = passed_over n b

-- behind a record's length and its body stands the rest
rest_of : (high low : ℕ) (l body rest : List ℕ) → front_of (high ∷ low ∷ l) ≡ Body body rest → drop (length body) l ≡ rest
unfolding front_of
rest_of high low l body rest e = go (leb (high * 256 + low) (length l)) refl e
  where
    parts : (x y : List ℕ) → Body x y ≡ Body body rest → (x ≡ body) × (y ≡ rest)
    parts x y e = (cc, cc)

    go : (c : Bool) → leb (high * 256 + low) (length l) ≡ c
        → (if c then Body (take (high * 256 + low) l) (drop (high * 256 + low) l) else Short) ≡ Body body rest → drop (length body) l ≡ rest
    go true h e =
        let p = parts (take (high * 256 + low) l) (drop (high * 256 + low) l) e in
        ap (λ (n : ℕ). drop n l) (ap length (sym p.0) ∙ length-take-le (high * 256 + low) l (leb-true (high * 256 + low) (length l) h)) ∙ p.1
    go false h e = let z : ◌≡◌ {A = ℕ} 0 1 = cc in absurd (omega arith)

on_body : (x : ℕ) (b body rest : List ℕ) → front_of (x ∷ b) ≡ Body body rest → is_malformed (record_of body) ≡ false
    → records_of (x ∷ b) ≡ record_of body ∷ records_after (suc (length body)) b
unfolding records_after
on_body x b body rest e m = rw (e, m)

-- a good record at the front, and then those of the rest
pub one_record : (b body rest : List ℕ) → front_of b ≡ Body body rest → is_malformed (record_of body) ≡ false
    → records_of b ≡ record_of body ∷ records_of rest
unfolding front_of
one_record [] body rest e m = let z : ◌≡◌ {A = ℕ} 0 1 = cc in absurd (omega arith)
one_record (x ∷ []) body rest e m = let z : ◌≡◌ {A = ℕ} 0 1 = cc in absurd (omega arith)
one_record (high ∷ low ∷ l) body rest e m =
    on_body high (low ∷ l) body rest e m
    ∙ ap (λ (rs : List Record). record_of body ∷ rs) (passed_over (suc (length body)) (low ∷ l) ∙ ap records_of (rest_of high low l body rest e))

bad_front : (x : ℕ) (b body rest : List ℕ) → front_of (x ∷ b) ≡ Body body rest → is_malformed (record_of body) ≡ true → records_of (x ∷ b) ≡ Malformed ∷ []
unfolding records_after
bad_front x b body rest e m = rw (e, m)

short_front : (x : ℕ) (b : List ℕ) → front_of (x ∷ b) ≡ Short → records_of (x ∷ b) ≡ Malformed ∷ []
unfolding records_after
short_front x b e = rw e

-- ---- what the bytes print
stopped : (s : State) (b : List ℕ) → records_of b ≡ Malformed ∷ [] → play_from s b ≡ text malformed_line
unfolding play_from lines_from step_of
stopped s b e = rw e (append-nil (text malformed_line ++ []) ∙ append-nil (text malformed_line))

-- a good record at the front prints its line, and the rest plays on
pub plays_on : (s : State) (b body rest : List ℕ) → front_of b ≡ Body body rest → is_malformed (record_of body) ≡ false
    → play_from s b ≡ text (step_of s (record_of body)).line ++ play_from (step_of s (record_of body)).state rest
unfolding play_from lines_from
plays_on s b body rest e m =
    let next = step_of s (record_of body) in
    rw (one_record b body rest e m, m) (append_assoc (text next.line) (texts (lines_from next.state (records_of rest))) (ending_of (records_of rest)))

-- a malformed one prints refusal 7, and nothing more
pub plays_bad : (s : State) (b body rest : List ℕ) → front_of b ≡ Body body rest → is_malformed (record_of body) ≡ true → play_from s b ≡ text malformed_line
unfolding front_of
plays_bad s [] body rest e m = let z : ◌≡◌ {A = ℕ} 0 1 = cc in absurd (omega arith)
plays_bad s (x ∷ b) body rest e m = stopped s (x ∷ b) (bad_front x b body rest e m)

-- less than a record does too
pub plays_short : (s : State) (b : List ℕ) → front_of b ≡ Short → play_from s b ≡ text malformed_line
unfolding front_of
plays_short s [] e = let z : ◌≡◌ {A = ℕ} 0 1 = cc in absurd (omega arith)
plays_short s (x ∷ b) e = stopped s (x ∷ b) (short_front x b e)

-- where the bytes end, `end`
pub plays_ended : (s : State) → play_from s [] ≡ ending
unfolding play_from records_after lines_from
plays_ended s = refl

-- ---- document 01's bytes
-- 'Bytes `01 00 07 02 00 FF 00 00 12 34` print exactly the lines `v1`, `A 00001234 0`, `end`.'
pub document_bytes : play (1 ∷ 0 ∷ 7 ∷ 2 ∷ 0 ∷ 0xFF ∷ 0 ∷ 0 ∷ 0x12 ∷ 0x34 ∷ []) ≡ opening ++ (text (A 0x1234 0) ++ ending)
unfolding play play_from records_after front_of record_of lines_from step_of calling translate in_order refusal_of any_of text hex decimal_in
document_bytes = refl

pub document_line : text (A 0x1234 0) ≡ 65 ∷ 32 ∷ 48 ∷ 48 ∷ 48 ∷ 48 ∷ 49 ∷ 50 ∷ 51 ∷ 52 ∷ 32 ∷ 48 ∷ 10 ∷ []
unfolding text hex decimal_in
document_line = refl

-- 'Refusal 7 (.. short record ..) comes .. after the lines before it, and stops the run without `end`': a store, and one byte
pub stopped_bytes : play (1 ∷ 0 ∷ 9 ∷ 9 ∷ 0 ∷ 0 ∷ 0 ∷ 4 ∷ 0 ∷ 0 ∷ 0 ∷ 7 ∷ 0 ∷ []) ≡ opening ++ (text K ++ text (R 7))
unfolding play play_from records_after front_of record_of lines_from step_of refusal_of text decimal_in
stopped_bytes = refl

-- ---- two files
-- the lines of a file's records
abbrev pub lines_of : List ℕ → List Line
lines_of b = lines_from first_state (records_of b)

-- the file prints them behind `v1`, and `end` where none of its records is malformed
pub file_prints : (b : List ℕ) → play (1 ∷ b) ≡ opening ++ (texts (lines_of b) ++ ending_of (records_of b))
unfolding play play_from
file_prints b = refl

-- the lines of the watched accesses of two files whose records are those of the traces l and l', by what the traces print
by_traces : (b b' : List ℕ) (l l' : List Marked) (walks : List Line) → map record_in l ≡ records_of b → map record_in l' ≡ records_of b'
    → (prints first_state l ≡ prints first_state l') × (prints first_state l ≡ walks)
    → (watched_lines l (lines_of b) ≡ watched_lines l' (lines_of b')) × (watched_lines l (lines_of b) ≡ walks)
by_traces b b' l l' walks e e' d =
    let one = ap (λ (r : List Record). watched_lines l (lines_from first_state r)) e in
    (sym one ∙ d.0 ∙ ap (λ (r : List Record). watched_lines l' (lines_from first_state r)) e', sym one ∙ d.1)

-- the demand, of two files whose records are those of the traces l and l': what each watched access prints, the count left out, is the same in
-- both, and is what its cacheless walk gives
pub files_independent : (g : Registers) (b b' : List ℕ) (l l' : List Marked) → map record_in l ≡ records_of b → map record_in l' ≡ records_of b'
    → Under g first_state l → Under g first_state l' → watched_of (moments_of first_state l) ≡ watched_of (moments_of first_state l')
    → Steady g (moments_of first_state l ++ moments_of first_state l') → Accepted g (moments_of first_state l ++ moments_of first_state l')
    → (watched_lines l (lines_of b) ≡ watched_lines l' (lines_of b')) × (watched_lines l (lines_of b) ≡ map (translation_line 0) (walks_of g (moments_of first_state l)))
files_independent g b b' l l' e e' u u' w s t =
    by_traces b b' l l' (map (translation_line 0) (walks_of g (moments_of first_state l))) e e' (traces_independent g l l' u u' w s t)

-- request 14, of two such files: registers (kind 01) are loaded at any place
pub files_epochs : (b b' : List ℕ) (l l' : List Marked) → map record_in l ≡ records_of b → map record_in l' ≡ records_of b'
    → Kept (watches_of (turns_from first_state l)) → Kept (watches_of (turns_from first_state l'))
    → Paired Same (watches_of (turns_from first_state l)) (watches_of (turns_from first_state l'))
    → (watched_lines l (lines_of b) ≡ watched_lines l' (lines_of b'))
    × (watched_lines l (lines_of b) ≡ map (translation_line 0) (walks_in (watches_of (turns_from first_state l))))
files_epochs b b' l l' e e' k k' p =
    by_traces b b' l l' (map (translation_line 0) (walks_in (watches_of (turns_from first_state l)))) e e' (traces_epochs l l' k k' p)

-- and in the request's own words: kind 01, 09 and 0A come at any place, and a flush that empties both caches, as kind 05 always is, after each that changes
-- the registers or a watched long and before the next access, PLOAD or probe
pub files_change : (b b' : List ℕ) (l l' : List Marked) → map record_in l ≡ records_of b → map record_in l' ≡ records_of b'
    → ChangesFlushed empty_caches (turns_from first_state l) → ChangesFlushed empty_caches (turns_from first_state l')
    → Paired Same (watches_of (turns_from first_state l)) (watches_of (turns_from first_state l'))
    → All Allowed (watches_of (turns_from first_state l)) → All Allowed (watches_of (turns_from first_state l'))
    → (watched_lines l (lines_of b) ≡ watched_lines l' (lines_of b'))
    × (watched_lines l (lines_of b) ≡ map (translation_line 0) (walks_in (watches_of (turns_from first_state l))))
files_change b b' l l' e e' h h' p t t' =
    by_traces b b' l l' (map (translation_line 0) (walks_in (watches_of (turns_from first_state l)))) e e' (traces_change l l' h h' p t t')
