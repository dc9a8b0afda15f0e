-- A scan of a UTF-8 text byte by byte: the bytes of characters of a class that holds every character beyond ASCII.
-- Such a scan looks for ASCII bytes of the class and takes every byte from 80 on. What it passes are whole characters of the class, and the rest is UTF-8 again.
-- Assumes nothing.
use Prim.Native.Nat.{ℕ, zero, suc, ◌+◌, ◌-◌, ◌/◌, ◌%◌, ◌≤◌, ◌<◌}
use Rattle.std.specs.Prelude.{◌≡◌, refl, ◌⊎◌, Bool, false, cond, leb, ltb, length, take, drop, get_or}
use Rattle.std.proofs.Math.Path.{sym}
use Rattle.std.proofs.Common.{ap, ◌∙◌, inl, inr, true≢false, add-one, arith, lt-ltb, le-ltb, le-leb, ltb-true, ltb-false, leb-true, length-append, length-drop, drop_of_length-le, drop-cons, take_at}
use mathlib.Core.List.{List, [], ◌∷◌, ◌++◌, append-nil}
use Rattle.std.proofs.Math.Bool.{true, and-eq-true_iff}
use Rattle.definition.specs.Bytes.{every, part}
use Rattle.definition.specs.Utf8.{is_scalar, encode, encode_all, is_utf8}
use Rattle.utf8_laws.specs.Bytes.{by_test}
use Rattle.utf8_laws.specs.Encode.{encode_one, encode_two, encode_three, encode_four}
use Rattle.utf8_laws.specs.Decode.{Begins, begins, encode_long, rest_shorter}

-- ---- fronts

-- the longest front of a text whose elements pass a test
abbrev pub front : (ℕ → Bool) → List ℕ → List ℕ
front q [] = []
front q (b ∷ s) = cond (q b) (b ∷ front q s) []

-- what is behind it
abbrev pub behind : (ℕ → Bool) → List ℕ → List ℕ
behind q [] = []
behind q (b ∷ s) = cond (q b) (behind q s) (b ∷ s)

module _ (q : ℕ → Bool) where
  -- the two are the whole text
  pub front_behind : (s : List ℕ) → front q s ++ behind q s ≡ s
  front_behind [] = refl
  front_behind (b ∷ s) = by_test (q b) (λ t. rw t (ap (λ (r : List ℕ). b ∷ r) (front_behind s))) (λ f. rw f)

  -- every element of the front passes
  pub front_every : (s : List ℕ) → every q (front q s) ≡ true
  front_every [] = refl
  front_every (b ∷ s) = by_test (q b) (λ t. rw (t, t) (front_every s)) (λ f. rw f)

  -- a front of elements that pass is passed at once
  pub front_append : (a s : List ℕ) → every q a ≡ true → front q (a ++ s) ≡ a ++ front q s
  front_append [] s e = refl
  front_append (b ∷ a) s e =
      let t = (and-eq-true_iff (q b) (every q a)).0 e in
      rw t.0 (ap (λ (r : List ℕ). b ∷ r) (front_append a s t.1))

  -- and nothing of it is left behind
  pub behind_append : (a s : List ℕ) → every q a ≡ true → behind q (a ++ s) ≡ behind q s
  behind_append [] s e = refl
  behind_append (b ∷ a) s e =
      let t = (and-eq-true_iff (q b) (every q a)).0 e in
      rw t.0 (behind_append a s t.1)

  -- elements that pass, with none behind them, are the longest front
  pub front_all : (a s : List ℕ) → every q a ≡ true → front q s ≡ [] → front q (a ++ s) ≡ a
  front_all a s e n = front_append a s e ∙ rw n (append-nil a)

  -- and the rest is behind it
  pub behind_all : (a s : List ℕ) → every q a ≡ true → front q s ≡ [] → behind q (a ++ s) ≡ s
  behind_all a s e n = behind_append a s e ∙ sym (rw n at (sym (front_behind s)))

  -- what holds of two lists holds of both together
  pub every_append : (a b : List ℕ) → every q a ≡ true → every q b ≡ true → every q (a ++ b) ≡ true
  every_append [] b e f = f
  every_append (x ∷ a) b e f =
      let t = (and-eq-true_iff (q x) (every q a)).0 e in
      rw t.0 (every_append a b t.1 f)

-- ---- a scan by places: from `at` on it goes up to r, where the first element stands that does not pass

module _ (q : ℕ → Bool) (s : List ℕ) where
  -- an element that passes is passed
  pub behind_on : (i : ℕ) → i < length s → q (get_or s i 0) ≡ true → behind q (drop (i + 1) s) ≡ behind q (drop i s)
  behind_on i h e = rw (add-one, drop-cons s i 0 h, e)

  -- the scan stops at one that does not
  pub behind_stop : (i : ℕ) → i < length s → q (get_or s i 0) ≡ false → drop i s ≡ behind q (drop i s)
  behind_stop i h e = rw (drop-cons s i 0 h, e)

  -- and at the end
  pub behind_end : (i : ℕ) → length s ≤ i → drop i s ≡ behind q (drop i s)
  behind_end i h = rw (drop_of_length-le s h)

  -- what a scan has passed is the longest front
  pub front_part : (at r : ℕ) → at ≤ r → r ≤ length s → drop r s ≡ behind q (drop at s) → part s at (r - at) ≡ front q (drop at s)
  front_part at r l h e =
      let f : front q (drop at s) ++ drop r s ≡ drop at s = rw e (front_behind q (drop at s)) in
      let k = ap length f in
      let m = length-append (front q (drop at s)) (drop r s) in
      let x = length-drop r s in
      let y = length-drop at s in
      let n : length (front q (drop at s)) ≡ r - at = omega arith in
      ap (take (r - at)) (sym f) ∙ take_at (front q (drop at s)) (drop r s) (r - at) n

-- ---- the bytes of a character

-- every byte of a code point from 80 on is at least 80
pub encode_high : (c : ℕ) → 0x80 ≤ c → every (leb 0x80) (encode c) ≡ true
encode_high c l =
    by_test (ltb c 0x800)
    (λ t. rw (encode_two c l (ltb-true c 0x800 t), le-leb 0x80 (0xC0 + c / 64) (omega arith), le-leb 0x80 (0x80 + c % 64) (omega arith)))
    (λ f.
    by_test (ltb c 0x10000)
    (λ t.
    rw (encode_three c (ltb-false c 0x800 f) (ltb-true c 0x10000 t), le-leb 0x80 (0xE0 + c / 4096) (omega arith), le-leb 0x80 (0x80 + c / 64 % 64) (omega arith), le-leb 0x80 (0x80 + c % 64) (omega arith)))
    (λ g.
    rw (encode_four c (ltb-false c 0x10000 g), le-leb 0x80 (0xF0 + c / 262144) (omega arith), le-leb 0x80 (0x80 + c / 4096 % 64) (omega arith), le-leb 0x80 (0x80 + c / 64 % 64) (omega arith), le-leb 0x80 (0x80 + c % 64) (omega arith))))

-- a code point is one ASCII byte, which is itself, or all its bytes are at least 80
pub encode_bytes : (c : ℕ) → ((c < 0x80) × (encode c ≡ c ∷ [])) ⊎ ((0x80 ≤ c) × (every (leb 0x80) (encode c) ≡ true))
encode_bytes c =
    by_test (ltb c 0x80)
    (λ t. let h : c < 0x80 = ltb-true c 0x80 t in inl (h, encode_one c h))
    (λ f. let l : 0x80 ≤ c = ltb-false c 0x80 f in inr (l, encode_high c l))

-- ---- the scan

-- a byte of a character of the class p: an ASCII character of the class, or a byte of a longer character
abbrev pub byte_of : (ℕ → Bool) → ℕ → Bool
byte_of p b = cond (ltb b 0x80) (p b) true

-- a byte from 80 on is a byte of every class
pub high_byte : (p : ℕ → Bool) (b : ℕ) → 0x80 ≤ b → byte_of p b ≡ true
high_byte p b l = rw (le-ltb b 0x80 l)

-- bytes from 80 on are bytes of every class
high_bytes : (p : ℕ → Bool) (s : List ℕ) → every (leb 0x80) s ≡ true → every (byte_of p) s ≡ true
high_bytes p [] e = refl
high_bytes p (b ∷ s) e =
    let t = (and-eq-true_iff (leb 0x80 b) (every (leb 0x80) s)).0 e in
    rw (high_byte p b (leb-true 0x80 b t.0)) (high_bytes p s t.1)

-- every byte of a character of the class is a byte of the class
pub char_bytes_lem : (p : ℕ → Bool) (c : ℕ) → p c ≡ true → every (byte_of p) (encode c) ≡ true
char_bytes_lem p c e = by (encode_bytes c)
  where
    by : ((c < 0x80) × (encode c ≡ c ∷ [])) ⊎ ((0x80 ≤ c) × (every (leb 0x80) (encode c) ≡ true)) → every (byte_of p) (encode c) ≡ true
    by (inl h) = rw (h.1, lt-ltb c 0x80 h.0, e)
    by (inr h) = high_bytes p (encode c) h.1

-- every byte of characters of the class is a byte of the class
pub chars_bytes_lem : (p : ℕ → Bool) (cs : List ℕ) → every p cs ≡ true → every (byte_of p) (encode_all cs) ≡ true
unfolding encode_all
chars_bytes_lem p [] e = refl
chars_bytes_lem p (c ∷ cs) e =
    let t = (and-eq-true_iff (p c) (every p cs)).0 e in
    every_append (byte_of p) (encode c) (encode_all cs) (char_bytes_lem p c t.0) (chars_bytes_lem p cs t.1)

-- what a scan of s for bytes of the class passes: the bytes of characters of the class, and UTF-8 is left
pub record Scanned (p : ℕ → Bool) (s : List ℕ) : Type 0 where
  pub chars : List ℕ
  pub scalar : every is_scalar chars ≡ true
  pub good : every p chars ≡ true
  pub is : encode_all chars ≡ front (byte_of p) s
  pub sound : is_utf8 (behind (byte_of p) s) ≡ true

-- the class holds every character beyond ASCII
abbrev pub Wide : (ℕ → Bool) → Type 0
Wide p = (c : ℕ) → is_scalar c ≡ true → 0x80 ≤ c → p c ≡ true

module _ (p : ℕ → Bool) (wide : Wide p) where
  -- a character that is not of the class is an ASCII byte, where the scan stops
  stops : (c : ℕ) (r : List ℕ) → is_scalar c ≡ true → p c ≡ false → (front (byte_of p) (encode c ++ r) ≡ []) × (behind (byte_of p) (encode c ++ r) ≡ encode c ++ r)
  stops c r e f =
      let h : c < 0x80 = by_test (ltb c 0x80) (λ t. ltb-true c 0x80 t) (λ n. absurd (true≢false (sym (wide c e (ltb-false c 0x80 n)) ∙ f))) in
      (rw (encode_one c h, lt-ltb c 0x80 h, f), rw (encode_one c h, lt-ltb c 0x80 h, f))

  -- a character of the class is passed
  more : (s : List ℕ) (g : Begins s) → p g.char ≡ true → Scanned p g.rest → Scanned p s
  unfolding encode_all
  more s g e d =
      let b : every (byte_of p) (encode g.char) ≡ true = char_bytes_lem p g.char e in
      record {
        chars = g.char ∷ d.chars;
        scalar = rw g.scalar d.scalar;
        good = rw e d.good;
        is = rw g.is (ap (λ (r : List ℕ). encode g.char ++ r) d.is ∙ sym (front_append (byte_of p) (encode g.char) g.rest b));
        sound = rw g.is (rw (behind_append (byte_of p) (encode g.char) g.rest b) d.sound);
      }

  -- at any other character nothing is passed
  none : (s : List ℕ) (g : Begins s) → is_utf8 s ≡ true → p g.char ≡ false → Scanned p s
  unfolding encode_all
  none s g u f =
      let t = stops g.char g.rest g.scalar f in
      record {
        chars = [];
        scalar = refl;
        good = refl;
        is = rw g.is (sym t.0);
        sound = rw g.is (rw t.1 (rw g.is at u));
      }

  -- the law below, for texts up to a length
  scan_up_to : (n : ℕ) (s : List ℕ) → length s ≤ n → is_utf8 s ≡ true → Scanned p s
  unfolding encode_all
  scan_up_to zero [] h u = record { chars = []; scalar = refl; good = refl; is = refl; sound = u }
  scan_up_to zero (b ∷ s) h u = absurd (omega arith)
  scan_up_to (suc n) [] h u = record { chars = []; scalar = refl; good = refl; is = refl; sound = u }
  scan_up_to (suc n) (b ∷ s) h u =
      let g = begins b s u in
      let l = rest_shorter (b ∷ s) g in
      by_test (p g.char)
      (λ t. more (b ∷ s) g t (scan_up_to n g.rest (omega arith) g.sound))
      (λ f. none (b ∷ s) g u f)

  -- a scan of a UTF-8 text for bytes of the class passes whole characters of the class
  pub scan : (s : List ℕ) → is_utf8 s ≡ true → Scanned p s
  scan s u = scan_up_to (length s) s (omega arith) u

-- ---- the first byte

-- where elements that pass a test stand in front, the first one passes it
pub every_head : (q : ℕ → Bool) (a r : List ℕ) (b : ℕ) (s : List ℕ) → every q a ≡ true → 0 < length a → a ++ r ≡ b ∷ s → q b ≡ true
every_head q [] r b s e l h = absurd (omega arith)
every_head q (x ∷ a) r b s e l h =
    let x-is : x ≡ b = cc in
    rw x-is at ((and-eq-true_iff (q x) (every q a)).0 e).0

-- the first byte of a character of the class is a byte of the class
pub char_begins : (p : ℕ → Bool) (c : ℕ) (r : List ℕ) (b : ℕ) (s : List ℕ) → p c ≡ true → encode c ++ r ≡ b ∷ s → byte_of p b ≡ true
char_begins p c r b s e h = every_head (byte_of p) (encode c) r b s (char_bytes_lem p c e) (encode_long c) h

-- a character whose first byte is a byte of the class is of the class
pub begins_char : (p : ℕ → Bool) (wide : Wide p) (c : ℕ) (r : List ℕ) (b : ℕ) (s : List ℕ) → is_scalar c ≡ true → encode c ++ r ≡ b ∷ s → byte_of p b ≡ true → p c ≡ true
begins_char p wide c r b s e h f = by (encode_bytes c)
  where
    by : ((c < 0x80) × (encode c ≡ c ∷ [])) ⊎ ((0x80 ≤ c) × (every (leb 0x80) (encode c) ≡ true)) → p c ≡ true
    by (inr l) = wide c e l.0
    by (inl l) =
        let k : c ∷ r ≡ b ∷ s = rw l.1 at h in
        let c_is : c ≡ b = cc in
        rw (c_is) (rw (lt-ltb b 0x80 (rw c_is at l.0)) at f)
