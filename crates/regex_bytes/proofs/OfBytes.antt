-- The scalar values of bytes, one byte at a time, and the expression of them. Assumes nothing.
use Rattle.std.specs.Prelude.{Option as Answer, None}
use mathlib.Core.Path.{◌≡◌, refl, ap, sym, ◌∙◌}
use mathlib.Core.Bool.{true, false}
use mathlib.Core.List.{List, [], ◌∷◌, ◌++◌, append_assoc, append-nil}
use Prim.Native.Nat.{ℕ, zero, suc, ◌+◌, ◌-◌, ◌*◌, ◌≤◌, ◌<◌}
use native.Mathlib.Omega.{arith}
use borrow.Author.Tests.{lt-ltb, le-ltb, le-leb, lt-leb}
use lib.ListN.{length, drop, take, get_or, set, length-append, drop_of_length-le}
use lib.Seq.{get_or-drop}
use Rattle.definition.specs.Bytes.{within}
use Rattle.utf8_laws.specs.Unique.{point}
use Rattle.utf8_laws.specs.Scalars.{scalars_few}
use Rattle.basics.specs.Reads.{Wrote}
use Rattle.definition.specs.Utf8.{is_utf8}
use Rattle.definition.specs.Regexps.{regexp_of}
use Rattle.basics.specs.Lists.{drop_at}
use Rattle.basics.specs.Stores.{wrote_then}
use Rattle.regex_reader.specs.Reads.{ReadsWhole}
use Rattle.regex_reader.specs.Reads.ReadsWhole.{code as whole_code, outside as whole-outside}
use Rattle.regex_bytes.specs.Points.{points_of, points_utf8}
use Rattle.regex_bytes.specs.Bytes.{OneMore, Scalars, ReadsBytes}
use Rattle.regex_bytes.specs.Bytes.ReadsBytes.{code, outside}
use Rattle.regex_leaves.proofs.Stores.{at_front}

-- behind the end stands nothing
pub beyond : (s : List ℕ) (at : ℕ) → length s ≤ at → 0 ≡ get_or s at 0
beyond [] at h = refl
beyond (x ∷ s) zero h = absurd (omega arith)
beyond (x ∷ s) (suc at) h = beyond s at (omega arith)

-- ---- a code point

module _ (s : List ℕ) (at : ℕ) where
  nth : (k : ℕ) → get_or (drop at s) k 0 ≡ get_or s (at + k) 0
  nth k = get_or-drop at s k 0

  first : get_or (drop at s) 0 0 ≡ get_or s at 0
  first = nth 0 ∙ ap (λ (k : ℕ). get_or s k 0) (let z : at + 0 ≡ at = omega arith in z)

  pub point_one : (b : ℕ) → b ≡ get_or s at 0 → b < 0x80 → b ≡ point (drop at s)
  unfolding point
  point_one b e h = rw (first, sym e, lt-ltb b 0x80 h) refl

  pub point_two : (b t r : ℕ) → b ≡ get_or s at 0 → t ≡ get_or s (at + 1) 0 → 0x80 ≤ b → b < 0xE0 → r ≡ b * 64 + t - 0x3080 → r ≡ point (drop at s)
  unfolding point
  point_two b t r e f l h q = q ∙ rw (first, nth 1, sym e, sym f, le-ltb b 0x80 l, lt-ltb b 0xE0 h) refl

  pub point_three : (b t u r : ℕ) → b ≡ get_or s at 0 → t ≡ get_or s (at + 1) 0 → u ≡ get_or s (at + 2) 0 → 0xE0 ≤ b → b < 0xF0 → r ≡ b * 4096 + t * 64 + u - 0xE2080 → r ≡ point (drop at s)
  unfolding point
  point_three b t u r e f g l h q = q ∙ rw (first, nth 1, nth 2, sym e, sym f, sym g, le-ltb b 0x80 (omega arith), le-ltb b 0xE0 l, lt-ltb b 0xF0 h) refl

  pub point_four : (b t u v r : ℕ) → b ≡ get_or s at 0 → t ≡ get_or s (at + 1) 0 → u ≡ get_or s (at + 2) 0 → v ≡ get_or s (at + 3) 0 → 0xF0 ≤ b
      → r ≡ b * 262144 + t * 4096 + u * 64 + v - 0x3C82080 → r ≡ point (drop at s)
  unfolding point
  point_four b t u v r e f g k l q =
      q ∙ rw (first, nth 1, nth 2, nth 3, sym e, sym f, sym g, sym k, le-ltb b 0x80 (omega arith), le-ltb b 0xE0 (omega arith), le-ltb b 0xF0 l) refl

-- ---- one byte

begins : (s : List ℕ) (i : ℕ) → i < length s → within 0x80 0xBF (get_or s i 0) ≡ false → points_of (drop i s) ≡ point (drop i s) ∷ points_of (drop (i + 1) s)
unfolding points_of
begins s i h e = rw (drop_at s i h, e) refl

module _ (s p : List ℕ) (i n : ℕ) (h : i < length s) where
  pub one_none : within 0x80 0xBF (get_or s i 0) ≡ true → OneMore s p p i n n
  unfolding points_of
  one_none e = record { more = []; is = rw (drop_at s i h, e) refl; count = omega arith; few = omega arith; buf = record { is = refl } }

  pub one_some : within 0x80 0xBF (get_or s i 0) ≡ false → (c : ℕ) → c ≡ point (drop i s) → OneMore s p (set p n c) i n (n + 1)
  one_some e c q = record { more = c ∷ []; is = rw q (begins s i h e); count = refl; few = omega arith; buf = record { is = refl } }

-- ---- the loop

pub record Passed (s p q : List ℕ) (i n : ℕ) : Type 0 where
  pub done : List ℕ
  pub is : points_of s ≡ done ++ points_of (drop i s)
  pub count : n ≡ length done
  pub few : n ≤ i
  pub to : i ≤ length s
  pub buf : Wrote p 0 done q

pub passed_none : (s p : List ℕ) → Passed s p p 0 0
passed_none s p = record { done = []; is = refl; count = refl; few = omega arith; to = omega arith; buf = record { is = refl } }

pub passed_more : {s p q q' : List ℕ} {i n r : ℕ} → Passed s p q i n → i < length s → OneMore s q q' i n r → Passed s p q' (i + 1) r
passed_more {s} {p} {q} {q'} {i} {n} {r} g h o =
    let l = length-append g.done o.more in
    record {
      done = g.done ++ o.more;
      is = g.is ∙ ap (λ (l : List ℕ). g.done ++ l) o.is ∙ sym (append_assoc g.done o.more (points_of (drop (i + 1) s)));
      count = omega (arith, o.count, g.count);
      few = omega (arith, o.count, o.few, g.few);
      to = omega arith;
      buf = wrote_then n g.buf (let z = g.count in omega (arith, z)) o.buf;
    }

pub passed_all : {s p q : List ℕ} {i n : ℕ} → Passed s p q i n → length s ≤ i → Scalars s p q n
unfolding points_of
passed_all {s} {p} {q} {i} {n} g h =
    let e : points_of s ≡ g.done = g.is ∙ rw (drop_of_length-le s h) (append-nil g.done) in
    record { count = rw e g.count; few = omega (arith, g.few, g.to); buf = rw e g.buf }

-- ---- the whole

-- the characters that were written
pub written : {s p q : List ℕ} {n : ℕ} → Scalars s p q n → length s ≤ length p → take n q ≡ points_of s
written {s} {p} {q} {n} g h =
    let c = g.count in
    let f = g.few in
    at_front n g.buf c (omega arith)

pub counted : {s p q : List ℕ} {n : ℕ} → Scalars s p q n → length s ≤ length p → n ≡ length (take n q)
counted g h = g.count ∙ sym (ap length (written g h))

pub bytes_long : (s p q : List ℕ) (len : ℕ) → 1024 < length s → ReadsBytes s p q len None
unfolding regexp_of
bytes_long s p q len h = outside (rw (lt-leb (length s) 1024 h) refl)

pub bytes_read : {s p q : List ℕ} {len : ℕ} (w : List ℕ) {r : Answer ℕ} → is_utf8 s ≡ true → length s ≤ 1024 → w ≡ points_of s → ReadsWhole w p q len r → ReadsBytes s p q len r
unfolding regexp_of
bytes_read {s} w u h e (whole_code n d) =
    code n (record { expr = d.expr; is = rw (le-leb (length s) 1024 h, sym (e ∙ points_utf8 s u)) d.is; grown = d.grown; few = omega (arith, d.few, scalars_few s, ap length (e ∙ points_utf8 s u)); buf = d.buf })
bytes_read {s} w u h e (whole-outside o) = outside (rw (le-leb (length s) 1024 h, sym (e ∙ points_utf8 s u)) o)
