-- A UTF-8 text is the bytes of a list of scalar values: what begins a text that is not empty, and then the whole text.
-- With Encode.encodeAll-utf8 this says which texts are UTF-8, both ways.
-- Assumes nothing.
use Rattle.std.specs.Prelude.{ℕ, zero, suc, ◌+◌, ◌-◌, ◌*◌, ◌/◌, ◌%◌, ◌≤◌, ◌<◌, ◌≡◌, refl, ◌⊎◌, ◌↔◌, List, [], ◌∷◌, ◌++◌, true, cond, eqb, ltb, length}
use Rattle.std.proofs.Common.{sym, ap, ◌∙◌, inl, inr, arith, lt-ltb, eqb-true, ltb-true, ltb-false, length-append}
use Rattle.std.proofs.lemmas.Bool.{false≢true, eqb-false}
use Rattle.std.proofs.Math.Bool.{or-true}
use Rattle.definition.specs.Bytes.{every}
use Rattle.definition.specs.Utf8.{is_scalar, encode, encode_all, after_byte, more_tails, is_utf8_from, is_utf8}
use Rattle.utf8_laws.specs.Bytes.{by_test, inside, low3, high3, low4, high4, after_one, after_two, after_three, after_four, Lead, lead, passed, stays_bad}
use Rattle.utf8_laws.specs.Bytes.Lead.{one, two, three, four, wrong}
use Rattle.utf8_laws.specs.Encode.{encode_one, encode_two, encode_three, encode_four, utf8_encode_all, encode_all_utf8}

-- a code point below the surrogates, or above them and at most 10FFFF, is a scalar value
pub range_scalar : (c : ℕ) → (c < 0xD800) ⊎ ((0xE000 ≤ c) × (c ≤ 0x10FFFF)) → is_scalar c ≡ true
range_scalar c (inl h) = rw (lt-ltb c 0xD800 h)
range_scalar c (inr h) = rw (inside 0xE000 0x10FFFF c h.0 h.1) (or-true (ltb c 0xD800))

-- whichever of two lower bounds holds, one from 80 on and 80 itself, the byte is at least 80
either_low : (b x lo t : ℕ) → 0x80 ≤ lo → cond (eqb b x) lo 0x80 ≤ t → 0x80 ≤ t
either_low b x lo t h e = by_test (eqb b x) (λ y. let k : lo ≤ t = rw y at e in omega arith) (λ n. rw n at e)

-- whichever of two upper bounds holds, one up to BF and BF itself, the byte is at most BF
either_high : (b x hi t : ℕ) → hi ≤ 0xBF → t ≤ cond (eqb b x) hi 0xBF → t ≤ 0xBF
either_high b x hi t h e = by_test (eqb b x) (λ y. let k : t ≤ hi = rw y at e in omega arith) (λ n. rw n at e)

-- s begins with the bytes of a scalar value, and what is left behind them is UTF-8
pub record Begins (s : List ℕ) : Type 0 where
  pub char : ℕ
  pub rest : List ℕ
  pub scalar : is_scalar char ≡ true
  pub is : s ≡ encode char ++ rest
  pub sound : is_utf8 rest ≡ true

-- ---- the code point of a character's bytes

-- The bytes of a character, read as digits to the base 64, are the code point and what the marks in the high bits add up to.
abbrev pub marks2 : ℕ
marks2 = 0xC0 * 64 + 0x80

abbrev pub marks3 : ℕ
marks3 = 0xE0 * 4096 + 0x80 * 64 + 0x80

abbrev pub marks4 : ℕ
marks4 = 0xF0 * 262144 + 0x80 * 4096 + 0x80 * 64 + 0x80

-- the code point of two bytes is spelled by them
spells_two : (c b t : ℕ) → c + marks2 ≡ b * 64 + t → 0xC2 ≤ b → b ≤ 0xDF → 0x80 ≤ t → t ≤ 0xBF → encode c ≡ b ∷ t ∷ []
spells_two c b t e l h tl th =
    let x : 0xC0 + c / 64 ≡ b = omega arith in
    let y : 0x80 + c % 64 ≡ t = omega arith in
    rw (encode_two c (omega arith) (omega arith), x, y)

-- the code point of three bytes is spelled by them
spells_three : (c b t u : ℕ) → c + marks3 ≡ b * 4096 + t * 64 + u → 0x800 ≤ c → 0xE0 ≤ b → b ≤ 0xEF → 0x80 ≤ t → t ≤ 0xBF → 0x80 ≤ u → u ≤ 0xBF
    → encode c ≡ b ∷ t ∷ u ∷ []
spells_three c b t u e m l h tl th ul uh =
    let x : 0xE0 + c / 4096 ≡ b = omega arith in
    let y : 0x80 + c / 64 % 64 ≡ t = omega arith in
    let z : 0x80 + c % 64 ≡ u = omega arith in
    rw (encode_three c m (omega arith), x, y, z)

-- the code point of four bytes is spelled by them
spells_four : (c b t u v : ℕ) → c + marks4 ≡ b * 262144 + t * 4096 + u * 64 + v → 0x10000 ≤ c → 0xF0 ≤ b → 0x80 ≤ t → t ≤ 0xBF → 0x80 ≤ u → u ≤ 0xBF
    → 0x80 ≤ v → v ≤ 0xBF → encode c ≡ b ∷ t ∷ u ∷ v ∷ []
spells_four c b t u v e m l tl th ul uh vl vh =
    let w : 0xF0 + c / 262144 ≡ b = omega arith in
    let x : 0x80 + c / 4096 % 64 ≡ t = omega arith in
    let y : 0x80 + c / 64 % 64 ≡ u = omega arith in
    let z : 0x80 + c % 64 ≡ v = omega arith in
    rw (encode_four c m, w, x, y, z)

-- ---- what a text begins with

-- an ASCII byte begins a text
begins_one : (b : ℕ) (r : List ℕ) → b < 0x80 → is_utf8 r ≡ true → Begins (b ∷ r)
begins_one b r h g = record { char = b; rest = r; scalar = range_scalar b (inl (omega arith)); is = rw (encode_one b h); sound = g }

-- two bytes begin a text
begins_two : (b t : ℕ) (r : List ℕ) → 0xC2 ≤ b → b ≤ 0xDF → 0x80 ≤ t → t ≤ 0xBF → is_utf8 r ≡ true → Begins (b ∷ t ∷ r)
begins_two b t r l h tl th g =
    let c : ℕ = b * 64 + t - marks2 in
    let e : c + marks2 ≡ b * 64 + t = omega arith in
    record { char = c; rest = r; scalar = range_scalar c (inl (omega arith)); is = rw (spells_two c b t e l h tl th); sound = g }

-- The second byte of a character of three bytes makes the code point at least 800.
least3 : (c b t u : ℕ) → c + marks3 ≡ b * 4096 + t * 64 + u → 0xE0 ≤ b → low3 b ≤ t → 0x80 ≤ t → 0x80 ≤ u → 0x800 ≤ c
least3 c b t u e l tl k ul =
    by_test (eqb b 0xE0)
    (λ y. let q : b ≡ 0xE0 = eqb-true b 0xE0 y in let m : 0xA0 ≤ t = rw y at tl in omega arith)
    (λ n. let q : b ≡ 0xE0 → ⊥ = eqb-false b 0xE0 n in omega arith)

-- It keeps the code point out of the surrogates.
apart3 : (c b t u : ℕ) → c + marks3 ≡ b * 4096 + t * 64 + u → b ≤ 0xEF → 0x80 ≤ t → t ≤ 0xBF → t ≤ high3 b → 0x80 ≤ u → u ≤ 0xBF
    → (c < 0xD800) ⊎ ((0xE000 ≤ c) × (c ≤ 0x10FFFF))
apart3 c b t u e h tl th t3 ul uh =
    by_test (eqb b 0xED)
    (λ y. let q : b ≡ 0xED = eqb-true b 0xED y in let k : t ≤ 0x9F = rw y at t3 in inl (omega arith))
    (λ n.
    let q : b ≡ 0xED → ⊥ = eqb-false b 0xED n in
    by_test (ltb b 0xED)
    (λ y. let m : b < 0xED = ltb-true b 0xED y in inl (omega arith))
    (λ y. let m : 0xED ≤ b = ltb-false b 0xED y in inr (omega arith, omega arith)))

-- The second byte of a character of four bytes makes the code point at least 10000.
least4 : (c b t u v : ℕ) → c + marks4 ≡ b * 262144 + t * 4096 + u * 64 + v → 0xF0 ≤ b → low4 b ≤ t → 0x80 ≤ t → 0x80 ≤ u → 0x80 ≤ v → 0x10000 ≤ c
least4 c b t u v e l tl k ul vl =
    by_test (eqb b 0xF0)
    (λ y. let q : b ≡ 0xF0 = eqb-true b 0xF0 y in let m : 0x90 ≤ t = rw y at tl in omega arith)
    (λ n. let q : b ≡ 0xF0 → ⊥ = eqb-false b 0xF0 n in omega arith)

-- It keeps the code point at most 10FFFF.
most4 : (c b t u v : ℕ) → c + marks4 ≡ b * 262144 + t * 4096 + u * 64 + v → b ≤ 0xF4 → t ≤ 0xBF → t ≤ high4 b → u ≤ 0xBF → v ≤ 0xBF → c ≤ 0x10FFFF
most4 c b t u v e h th t4 uh vh =
    by_test (eqb b 0xF4)
    (λ y. let q : b ≡ 0xF4 = eqb-true b 0xF4 y in let k : t ≤ 0x8F = rw y at t4 in omega arith)
    (λ n. let q : b ≡ 0xF4 → ⊥ = eqb-false b 0xF4 n in omega arith)

-- three bytes begin a text
begins_three : (b t u : ℕ) (r : List ℕ) → 0xE0 ≤ b → b ≤ 0xEF → low3 b ≤ t → t ≤ high3 b → 0x80 ≤ u → u ≤ 0xBF → is_utf8 r ≡ true → Begins (b ∷ t ∷ u ∷ r)
begins_three b t u r l h tl th ul uh g =
    let c : ℕ = b * 4096 + t * 64 + u - marks3 in
    let k : 0x80 ≤ t = either_low b 0xE0 0xA0 t (omega arith) tl in
    let j : t ≤ 0xBF = either_high b 0xED 0x9F t (omega arith) th in
    let e : c + marks3 ≡ b * 4096 + t * 64 + u = omega arith in
    record {
      char = c;
      rest = r;
      scalar = range_scalar c (apart3 c b t u e h k j th ul uh);
      is = rw (spells_three c b t u e (least3 c b t u e l tl k ul) l h k j ul uh);
      sound = g;
    }

-- four bytes begin a text
begins_four : (b t u v : ℕ) (r : List ℕ) → 0xF0 ≤ b → b ≤ 0xF4 → low4 b ≤ t → t ≤ high4 b → 0x80 ≤ u → u ≤ 0xBF → 0x80 ≤ v → v ≤ 0xBF → is_utf8 r ≡ true
    → Begins (b ∷ t ∷ u ∷ v ∷ r)
begins_four b t u v r l h tl th ul uh vl vh g =
    let c : ℕ = b * 262144 + t * 4096 + u * 64 + v - marks4 in
    let k : 0x80 ≤ t = either_low b 0xF0 0x90 t (omega arith) tl in
    let j : t ≤ 0xBF = either_high b 0xF4 0x8F t (omega arith) th in
    let e : c + marks4 ≡ b * 262144 + t * 4096 + u * 64 + v = omega arith in
    let m : 0x10000 ≤ c = least4 c b t u v e l tl k ul vl in
    record {
      char = c;
      rest = r;
      scalar = range_scalar c (inr (omega arith, most4 c b t u v e h j th uh vh));
      is = rw (spells_four c b t u v e m l k j ul uh vl vh);
      sound = g;
    }

-- a UTF-8 text that is not empty begins with the bytes of a scalar value
pub begins : (b : ℕ) (s : List ℕ) → is_utf8 (b ∷ s) ≡ true → Begins (b ∷ s)
unfolding is_utf8 is_utf8_from after_byte more_tails
begins b s e = by (lead b)
  where
    by : Lead b → Begins (b ∷ s)
    by (one h) = begins_one b s h (rw (after_one b h) at e)
    by (two l h) =
        let p = passed 0x80 0xBF 0 s (rw (after_two b l h) at e) in
        rw p.is (begins_two b p.byte p.rest l h p.low p.high p.then)
    by (three l h) =
        let p = passed (low3 b) (high3 b) 1 s (rw (after_three b l h) at e) in
        let q = passed 0x80 0xBF 0 p.rest p.then in
        rw (p.is, q.is) (begins_three b p.byte q.byte q.rest l h p.low p.high q.low q.high q.then)
    by (four l h) =
        let p = passed (low4 b) (high4 b) 2 s (rw (after_four b l h) at e) in
        let q = passed 0x80 0xBF 1 p.rest p.then in
        let r = passed 0x80 0xBF 0 q.rest q.then in
        rw (p.is, q.is, r.is)
        (begins_four b p.byte q.byte r.byte r.rest l h p.low p.high q.low q.high r.low r.high r.then)
    by (wrong w) = absurd (false≢true (sym (stays_bad s) ∙ (rw w at e)))

-- ---- the whole text

-- no code point is encoded to nothing
pub encode_long : (c : ℕ) → 0 < length (encode c)
unfolding encode
encode_long c =
    by_test (ltb c 0x80) (λ t. rw t (omega arith)) (λ f.
    by_test (ltb c 0x800) (λ t. rw (f, t) (omega arith)) (λ g.
    by_test (ltb c 0x10000) (λ t. rw (f, g, t) (omega arith)) (λ h. rw (f, g, h) (omega arith))))

-- what is left behind a text's first character is shorter than the text
pub rest_shorter : (s : List ℕ) (g : Begins s) → length g.rest < length s
rest_shorter s g =
    let h = encode_long g.char in
    let e = length-append (encode g.char) g.rest in
    let k = ap length g.is in
    omega arith

-- the law below, for texts up to a length
decode_up_to : (n : ℕ) (s : List ℕ) → length s ≤ n → is_utf8 s ≡ true → (cs : List ℕ) × (every is_scalar cs ≡ true) × (encode_all cs ≡ s)
unfolding encode_all
decode_up_to zero [] h e = ([], refl, refl)
decode_up_to zero (b ∷ s) h e = absurd (omega arith)
decode_up_to (suc n) [] h e = ([], refl, refl)
decode_up_to (suc n) (b ∷ s) h e =
    let g = begins b s e in
    let l = rest_shorter (b ∷ s) g in
    let d = decode_up_to n g.rest (omega arith) g.sound in
    (g.char ∷ d.0, rw g.scalar d.1, ap (λ (r : List ℕ). encode g.char ++ r) d.2 ∙ sym g.is)

-- a UTF-8 text is the bytes of a list of scalar values
pub decode : (s : List ℕ) → is_utf8 s ≡ true → (cs : List ℕ) × (every is_scalar cs ≡ true) × (encode_all cs ≡ s)
decode s e = decode_up_to (length s) s (omega arith) e

-- a text is UTF-8 if and only if some list of scalar values encodes to it
pub utf8_iff : (s : List ℕ) → (is_utf8 s ≡ true) ↔ ((cs : List ℕ) × (every is_scalar cs ≡ true) × (encode_all cs ≡ s))
utf8_iff s = (decode s, λ d. rw d.2 at (encode_all_utf8 d.0 d.1))

-- a UTF-8 text in front of another leaves it UTF-8, or not, as it was
pub utf8_append : (a b : List ℕ) → is_utf8 a ≡ true → is_utf8 (a ++ b) ≡ is_utf8 b
utf8_append a b e =
    let d = decode a e in
    rw d.2 at (utf8_encode_all d.0 b d.1)
