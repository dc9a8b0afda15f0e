-- The ranges of a class, one after the other. Assumes nothing.
use Prim.Native.Nat.{ℕ, ◌+◌, ◌-◌, ◌≤◌, ◌<◌}
use mathlib.Core.Path.{◌≡◌, refl, ap, sym, ◌∙◌}
use mathlib.Core.Bool.{Bool, true, false, not, ◌||◌}
use mathlib.Core.List.{List, [], ◌∷◌}
use native.Mathlib.Omega.{arith}
use lib.Dec.{eqb}
use lib.ListN.{length, drop, get_or, length-drop}
use Rattle.regex_definition.specs.Chars.{within}
use Rattle.regex_definition.specs.Regexp.{Range, inside, hits}
use Rattle.regex_code.specs.Flat.{flag, flat_ranges, word_of}
use Rattle.regex_chars.specs.Classes.{Hits, Holds, Ahead, Scanning, flip_of}

module _ (s : List ℕ) (at n c : ℕ) where
  pub scan_start : at ≤ length s → Scanning s at n c at n
  scan_start h = record { fits = h; of = λ gs r e k. record { rest = gs; is = e; count = k; same = refl } }

  -- the words of the next range
  next_words :
      (i : ℕ) (g : Range) (gs : List Range) (r : List ℕ) → drop i s ≡ flat_ranges (g ∷ gs) r
      → (i + 1 < length s) × (get_or s i 0 ≡ g.low) × (get_or s (i + 1) 0 ≡ g.high) × (drop (i + 2) s ≡ flat_ranges gs r)
  next_words i g gs r e =
      let a = word_of s i g.low (g.high ∷ flat_ranges gs r) e in
      let b = word_of s (i + 1) g.high (flat_ranges gs r) a.2 in
      let z : i + 2 ≡ i + 1 + 1 = omega arith in
      (b.0, a.1, b.1, rw z b.2)

  module _ (i left : ℕ) (p : Scanning s at n c i left) where
    -- no range is left
    pub scan_end : left ≤ 0 → Holds s at n c false
    scan_end h = record { of = λ gs r e k. go gs r (p.of gs r e k) }
      where
        go : (gs : List Range) (r : List ℕ) → Ahead s c i left gs r → false ≡ inside gs c
        go gs r a = by a.rest a.count a.same
          where
            by : (hs : List Range) → left ≡ length hs → inside gs c ≡ inside hs c → false ≡ inside gs c
            by [] e q = sym q
            by (g ∷ hs) e q = absurd (omega arith)

    module _ (more : 0 < left) where
      -- the words of a range are not behind the end
      pub scan_short : length s - i < 2 → Holds s at n c false
      scan_short h = record { of = λ gs r e k. go gs r (p.of gs r e k) }
        where
          go : (gs : List Range) (r : List ℕ) → Ahead s c i left gs r → false ≡ inside gs c
          go gs r a = by a.rest a.count a.is
            where
              by : (hs : List Range) → left ≡ length hs → drop i s ≡ flat_ranges hs r → false ≡ inside gs c
              by [] e q = absurd (omega arith)
              by (g ∷ hs) e q = let w = next_words i g hs r q in absurd (omega (arith, w.0))

      pub scan_found : {b : Bool} → b ≡ within (get_or s i 0) (get_or s (i + 1) 0) c → b ≡ true → Holds s at n c true
      scan_found {b} v t = record { of = λ gs r e k. go gs r (p.of gs r e k) }
        where
          go : (gs : List Range) (r : List ℕ) → Ahead s c i left gs r → true ≡ inside gs c
          go gs r a = by a.rest a.count a.is a.same
            where
              by : (hs : List Range) → left ≡ length hs → drop i s ≡ flat_ranges hs r → inside gs c ≡ inside hs c → true ≡ inside gs c
              by [] e q y = absurd (omega arith)
              by (g ∷ hs) e q y =
                  let w = next_words i g hs r q in
                  let z : within g.low g.high c ≡ true =
                  ap (λ k. within k g.high c) (sym w.1) ∙ ap (λ k. within (get_or s i 0) k c) (sym w.2) ∙ sym v ∙ t in
                  sym (y ∙ ap (λ k. k || inside hs c) z)

      pub scan_more :
          {b : Bool} → 2 ≤ length s - i → b ≡ within (get_or s i 0) (get_or s (i + 1) 0) c → b ≡ false
          → Scanning s at n c (i + 2) (left - 1)
      scan_more {b} h v t = record { fits = omega arith; of = λ gs r e k. go gs r (p.of gs r e k) }
        where
          go : (gs : List Range) (r : List ℕ) → Ahead s c i left gs r → Ahead s c (i + 2) (left - 1) gs r
          go gs r a = by a.rest a.count a.is a.same
            where
              by :
                  (hs : List Range) → left ≡ length hs → drop i s ≡ flat_ranges hs r → inside gs c ≡ inside hs c
                  → Ahead s c (i + 2) (left - 1) gs r
              by [] e q y = absurd (omega arith)
              by (g ∷ hs) e q y =
                  let w = next_words i g hs r q in
                  let z : within g.low g.high c ≡ false =
                  ap (λ k. within k g.high c) (sym w.1) ∙ ap (λ k. within (get_or s i 0) k c) (sym w.2) ∙ sym v ∙ t in
                  record { rest = hs; is = w.3; count = omega arith; same = y ∙ ap (λ k. k || inside hs c) z }

module _ (s : List ℕ) (at c : ℕ) where
  pub class_short : length s - at < 3 → Hits s at c false
  class_short h =
      record { of = λ comp gs r e. let n = length-drop (at + 1) s in let m = ap length e in absurd (omega arith) }

  pub class_hit :
      {n : ℕ} {b k : Bool} → n ≡ get_or s (at + 2) 0 → Holds s (at + 3) n c b → k ≡ flip_of (eqb (get_or s (at + 1) 0) 1) b → Hits s at c k
  class_hit {n} {b} {k} en h ek = record { of = go }
    where
      by : (comp : Bool) (gs : List Range) → b ≡ inside gs c → flip_of (eqb (flag comp) 1) b ≡ hits comp gs c
      by false gs q = q
      by true gs q = ap not q

      go : (comp : Bool) (gs : List Range) (r : List ℕ) → drop (at + 1) s ≡ flag comp ∷ length gs ∷ flat_ranges gs r → k ≡ hits comp gs c
      go comp gs r e =
          let x = word_of s (at + 1) _ _ e in
          let y = word_of s (at + 1 + 1) _ _ x.2 in
          let z : at + 2 ≡ at + 1 + 1 = omega arith in
          let z' : at + 3 ≡ at + 1 + 1 + 1 = omega arith in
          let f : drop (at + 3) s ≡ flat_ranges gs r = rw z' y.2 in
          let g : n ≡ length gs = en ∙ (rw z y.1) in
          ek ∙ ap (λ v. flip_of (eqb v 1) b) x.1 ∙ by comp gs (h.of gs r f g)
