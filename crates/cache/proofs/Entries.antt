-- Laws of the 68030's packed entries: what an operation on tags, pages and stamps is on the entries.
use Rattle.std.specs.Prelude.{if◌then◌else◌}
use Prim.Native.Nat.{ℕ, zero, suc, ◌+◌, ◌*◌, ◌-◌, ◌/◌, ◌%◌, ◌<◌, ◌≤◌}
use mathlib.Core.Path.{◌≡◌, refl, ap, sym, ◌∙◌}
use mathlib.Core.Bool.{Bool, true, false, ◌&&◌}
use mathlib.Core.List.{List, [], ◌∷◌, map}
use native.Mathlib.Omega.{arith}
use borrow.Author.Tests.{eq-eqb, ne_eqb, eqb-true, eqb-false}
use lib.Dec.{eqb, ltb, leb}
use lib.ListN.{length, get_or, set, length-map}
use Rattle.definition.specs.Words.{first_of, count_of, all_of}
use Rattle.definition.specs.Cache030.{Entry, no_entry, matches, stamped, dropped, oldest}
use Rattle.cache.specs.Packed.{bit, odd, drop_tag}
use Rattle.cache.specs.Atc030.{entry_of, entries_of, key_of, least_of}
use Rattle.cache.proofs.Flags.{bit_small, odd_is, low_bit}
use Rattle.cache.proofs.Lists.{first_map, count_map, all_map}

-- ---- one entry
-- a tag is a valid entry's with this key just where it is this number
pub key_matches : (code page : ℕ) → code < 8 → (t p s : ℕ) → matches code page (entry_of t p s) ≡ eqb (key_of code page) t
key_matches code page h t p s = go (eqb (t % 2) 1) (eqb (t / 2 % 8) code) (eqb (t / 16) page) refl refl refl
  where
    go : (a b d : Bool) → eqb (t % 2) 1 ≡ a → eqb (t / 2 % 8) code ≡ b → eqb (t / 16) page ≡ d → a && (b && d) ≡ eqb (key_of code page) t
    go true true true ea eb ed =
        sym (eq-eqb (key_of code page) t (omega (arith, eqb-true (t % 2) 1 ea, eqb-true (t / 2 % 8) code eb, eqb-true (t / 16) page ed)))
    go true true false ea eb ed = sym (ne_eqb (key_of code page) t (λ e. eqb-false (t / 16) page ed (omega arith)))
    go true false d ea eb ed = sym (ne_eqb (key_of code page) t (λ e. eqb-false (t / 2 % 8) code eb (omega arith)))
    go false b d ea eb ed = sym (ne_eqb (key_of code page) t (λ e. eqb-false (t % 2) 1 ea (omega arith)))

-- the entry that an insert makes
pub key_entry : (code page base n : ℕ) (wp : Bool) → code < 8
    → entry_of (key_of code page) (base * 2 + bit wp) n ≡ record { valid = true; code = code; page = page; base = base; wp = wp; stamp = n }
key_entry code page base n wp h =
    let l : bit wp ≤ 1 = bit_small wp in
    let a : odd (key_of code page) ≡ true = odd_is true (key_of code page) (omega arith) in
    let b : key_of code page / 2 % 8 ≡ code = omega arith in
    let d : key_of code page / 16 ≡ page = omega arith in
    let e : (base * 2 + bit wp) / 2 ≡ base = omega arith in
    let f : odd (base * 2 + bit wp) ≡ wp = odd_is wp (base * 2 + bit wp) (omega arith) in
    rw (a, b, d, e, f)

pub drop_tag_lem : (b : Bool) (t p s : ℕ) → entry_of (drop_tag b t) p s ≡ (if b then dropped (entry_of t p s) else entry_of t p s)
drop_tag_lem false t p s = refl
drop_tag_lem true t p s =
    let a : odd (t - t % 2) ≡ false = odd_is false (t - t % 2) (omega arith) in
    let b : (t - t % 2) / 2 % 8 ≡ t / 2 % 8 = omega arith in
    let d : (t - t % 2) / 16 ≡ t / 16 = omega arith in
    rw (a, b, d)

-- ---- the entries
pub entries_set : (ts ps ss : List ℕ) (i t p s : ℕ) → entries_of (set ts i t) (set ps i p) (set ss i s) ≡ set (entries_of ts ps ss) i (entry_of t p s)
unfolding entries_of
entries_set [] ps ss i a b d = refl
entries_set (t ∷ ts) [] ss zero a b d = refl
entries_set (t ∷ ts) [] ss (suc i) a b d = refl
entries_set (t ∷ ts) (p ∷ ps) [] zero a b d = refl
entries_set (t ∷ ts) (p ∷ ps) [] (suc i) a b d = refl
entries_set (t ∷ ts) (p ∷ ps) (s ∷ ss) zero a b d = refl
entries_set (t ∷ ts) (p ∷ ps) (s ∷ ss) (suc i) a b d = ap (λ (l : List Entry). entry_of t p s ∷ l) (entries_set ts ps ss i a b d)

-- a change of the tags, and of the stamps
pub entries_tags : (f : ℕ → ℕ) (F : Entry → Entry) → ((t p s : ℕ) → entry_of (f t) p s ≡ F (entry_of t p s)) → (ts ps ss : List ℕ) → entries_of (map f ts) ps ss ≡ map F (entries_of ts ps ss)
unfolding entries_of
entries_tags f F h [] ps ss = refl
entries_tags f F h (t ∷ ts) [] ss = refl
entries_tags f F h (t ∷ ts) (p ∷ ps) [] = refl
entries_tags f F h (t ∷ ts) (p ∷ ps) (s ∷ ss) = rw (h t p s, entries_tags f F h ts ps ss)

pub entries_stamps : (f : ℕ → ℕ) (ts ps ss : List ℕ) → entries_of ts ps (map f ss) ≡ map (λ (e : Entry). stamped (f e.stamp) e) (entries_of ts ps ss)
unfolding entries_of
entries_stamps f [] ps ss = refl
entries_stamps f (t ∷ ts) [] ss = refl
entries_stamps f (t ∷ ts) (p ∷ ps) [] = refl
entries_stamps f (t ∷ ts) (p ∷ ps) (s ∷ ss) = ap (λ (l : List Entry). entry_of t p (f s) ∷ l) (entries_stamps f ts ps ss)

-- three arrays of one length
pub record Level (ts ps ss : List ℕ) : Type 0 where
  pub pages : length ts ≡ length ps
  pub stamps : length ts ≡ length ss

less : {t p s : ℕ} {ts ps ss : List ℕ} → Level (t ∷ ts) (p ∷ ps) (s ∷ ss) → Level ts ps ss
less v = record { pages = omega (arith, v.pages); stamps = omega (arith, v.stamps) }

pub entries_get : (ts ps ss : List ℕ) (i : ℕ) → Level ts ps ss → get_or (entries_of ts ps ss) i no_entry ≡ entry_of (get_or ts i 0) (get_or ps i 0) (get_or ss i 0)
unfolding entries_of
entries_get [] [] [] i v = refl
entries_get [] [] (s ∷ ss) i v = absurd (omega (arith, v.stamps))
entries_get [] (p ∷ ps) ss i v = absurd (omega (arith, v.pages))
entries_get (t ∷ ts) [] ss i v = absurd (omega (arith, v.pages))
entries_get (t ∷ ts) (p ∷ ps) [] i v = absurd (omega (arith, v.stamps))
entries_get (t ∷ ts) (p ∷ ps) (s ∷ ss) zero v = refl
entries_get (t ∷ ts) (p ∷ ps) (s ∷ ss) (suc i) v = entries_get ts ps ss i (less v)

-- a test that goes by the tag
pub entries_first : (P : Entry → Bool) (q : ℕ → Bool) → ((t p s : ℕ) → P (entry_of t p s) ≡ q t) → (ts ps ss : List ℕ) → Level ts ps ss → first_of P (entries_of ts ps ss) ≡ first_of q ts
unfolding entries_of first_of
entries_first P q h [] ps ss v = refl
entries_first P q h (t ∷ ts) [] ss v = absurd (omega (arith, v.pages))
entries_first P q h (t ∷ ts) (p ∷ ps) [] v = absurd (omega (arith, v.stamps))
entries_first P q h (t ∷ ts) (p ∷ ps) (s ∷ ss) v = rw (h t p s, entries_first P q h ts ps ss (less v))

-- ---- the arrays are read off the entries again
abbrev pub tag_of : Entry → ℕ
tag_of e = e.page * 16 + e.code * 2 + bit e.valid

abbrev pub page_of : Entry → ℕ
page_of e = e.base * 2 + bit e.wp

pub record Read (ts ps ss : List ℕ) : Type 0 where
  pub tags : map tag_of (entries_of ts ps ss) ≡ ts
  pub pages : map page_of (entries_of ts ps ss) ≡ ps
  pub stamps : map (λ (e : Entry). e.stamp) (entries_of ts ps ss) ≡ ss

pub entries_read : (ts ps ss : List ℕ) → Level ts ps ss → Read ts ps ss
unfolding entries_of
entries_read [] [] [] v = record { tags = refl; pages = refl; stamps = refl }
entries_read [] [] (s ∷ ss) v = absurd (omega (arith, v.stamps))
entries_read [] (p ∷ ps) ss v = absurd (omega (arith, v.pages))
entries_read (t ∷ ts) [] ss v = absurd (omega (arith, v.pages))
entries_read (t ∷ ts) (p ∷ ps) [] v = absurd (omega (arith, v.stamps))
entries_read (t ∷ ts) (p ∷ ps) (s ∷ ss) v =
    let r = entries_read ts ps ss (less v) in
    let a : tag_of (entry_of t p s) ≡ t = omega (arith, low_bit t) in
    let b : page_of (entry_of t p s) ≡ p = omega (arith, low_bit p) in
    record { tags = rw (a, r.tags); pages = rw (b, r.pages); stamps = rw r.stamps }

pub entries_length : (ts ps ss : List ℕ) → Level ts ps ss → length (entries_of ts ps ss) ≡ length ts
entries_length ts ps ss v = sym (length-map (entries_of ts ps ss) tag_of) ∙ ap length (entries_read ts ps ss v).tags

-- ---- what goes by the stamps
module _ (ts ps ss : List ℕ) (v : Level ts ps ss) where
  pub smaller_is : (x : ℕ) → count_of (λ (e : Entry). ltb e.stamp x) (entries_of ts ps ss) ≡ count_of (λ (y : ℕ). ltb y x) ss
  smaller_is x =
      count_map (λ (y : ℕ). ltb y x) (λ (e : Entry). e.stamp) (entries_of ts ps ss) ∙ ap (count_of (λ (y : ℕ). ltb y x)) (entries_read ts ps ss v).stamps

  pub oldest_is : oldest (entries_of ts ps ss) ≡ least_of ss
  unfolding oldest least_of
  oldest_is =
      let same = (entries_read ts ps ss v).stamps in
      let all : (x : ℕ) → all_of (λ (f : Entry). leb x f.stamp) (entries_of ts ps ss) ≡ all_of (λ (y : ℕ). leb x y) ss = λ x. all_map (λ (y : ℕ). leb x y) (λ (f : Entry). f.stamp) (entries_of ts ps ss) ∙ ap (all_of (λ (y : ℕ). leb x y)) same in
      simp all (first_map (λ (x : ℕ). all_of (λ (y : ℕ). leb x y) ss) (λ (e : Entry). e.stamp) (entries_of ts ps ss) ∙ ap (first_of (λ (x : ℕ). all_of (λ (y : ℕ). leb x y) ss)) same)
