-- Words that are stored one behind the other, and one put in before others. Assumes nothing.
use mathlib.Core.Path.{◌≡◌, refl, ap, sym, ◌∙◌}
use mathlib.Core.Logic.{◌≢◌}
use mathlib.Core.List.{List, [], ◌∷◌, ◌++◌, append_assoc}
use Prim.Native.Nat.{ℕ, suc, ◌+◌, ◌-◌, ◌≤◌, ◌<◌}
use native.Mathlib.Omega.{arith}
use lib.ListN.{length, drop, take, get_or, set, length-drop}
use lib.Seq.{sets, length-sets, sets-eq, set-set, take-suc, take_all, take_at, drop_at, length-take-le, get_or-set_other, get_or-take, get_or-drop}
use Rattle.regex_leaves.specs.Reads.{Inserted}
use Rattle.basics.specs.Lists.{set_sets, sets_append}
use Rattle.basics.specs.Reads.{Wrote}

-- a longer run over a shorter one
pub sets_over : (p : List ℕ) (n : ℕ) (c d : List ℕ) → length c ≤ length d → sets (sets p n c) n d ≡ sets p n d
sets_over p n [] d h = refl
sets_over p n (x ∷ c) [] h = absurd (omega arith)
sets_over p n (x ∷ c) (y ∷ d) h =
    ap (λ l. sets l (suc n) d) (set_sets (set p n x) n y (suc n) c (omega arith) ∙ ap (λ l. sets l (suc n) c) (set-set p n x y))
    ∙ sets_over (set p n y) (suc n) c d (omega arith)

-- a place behind a run keeps its word
pub get_d_behind : (p : List ℕ) (n : ℕ) (c : List ℕ) (j : ℕ) → n + length c ≤ j → get_or (sets p n c) j 0 ≡ get_or p j 0
get_d_behind p n [] j h = refl
get_d_behind p n (x ∷ c) j h =
    let ne : j ≢ n = λ e. omega arith in
    get_d_behind (set p n x) (suc n) c j (omega arith) ∙ get_or-set_other p n j x 0 ne

-- the next word of a list behind the first k
pub sets_next : (p : List ℕ) (n : ℕ) (d : List ℕ) (k : ℕ) → k < length d → set (sets p n (take k d)) (n + k) (get_or d k 0) ≡ sets p n (take (suc k) d)
sets_next p n d k h =
    let l : length (take k d) ≡ k = length-take-le k d (omega arith) in
    rw (take-suc d k 0 h, ← sets_append p n (take k d) (get_or d k 0 ∷ []), l) refl

-- the words from one place to another
abbrev pub between : List ℕ → ℕ → ℕ → List ℕ
between p from to = take (to - from) (drop from p)

pub length_between : (p : List ℕ) (from to : ℕ) → from ≤ to → to ≤ length p → length (between p from to) ≡ to - from
length_between p from to h l = length-take-le (to - from) (drop from p) (let z = length-drop from p in omega arith)

pub between_wrote : (p₀ : List ℕ) (from to : ℕ) (c : List ℕ) → length c ≡ to - from → from ≤ to → to ≤ length p₀ → between (sets p₀ from c) from to ≡ c
between_wrote p₀ from to c e h l =
    let f = length-take-le from p₀ (omega arith) in
    rw (sets-eq c p₀ from (omega arith), append_assoc (take from p₀) c (drop (from + length c) p₀), drop_at (take from p₀) (c ++ drop (from + length c) p₀) from f) (take_at c (drop (from + length c) p₀) (to - from) e)

-- what is written from the beginning on stands there
pub at_front : {p q c : List ℕ} (n : ℕ) → Wrote p 0 c q → n ≡ length c → n ≤ length p → take n q ≡ c
at_front {p} {q} {c} n w e h = rw (w.is, sets-eq c p 0 (omega arith)) (take_at c (drop (0 + length c) p) n (sym e))

-- the word x goes in at `from`: those before i have moved up by one, and w is the one that i takes
pub record Carry (p : List ℕ) (from to x : ℕ) (q : List ℕ) (i w : ℕ) : Type 0 where
  pub is : q ≡ sets p from (take (i - from) (x ∷ between p from to))
  pub held : w ≡ get_or (x ∷ between p from to) (i - from) 0
  pub low : from ≤ i
  pub high : i ≤ to

pub carry_length : {p : List ℕ} {from to x : ℕ} {q : List ℕ} {i w : ℕ} → Carry p from to x q i w → length q ≡ length p
carry_length {p} {from} {to} {x} {q} {i} {w} c = ap length c.is ∙ length-sets p from (take (i - from) (x ∷ between p from to))

module _ (p : List ℕ) (from to x : ℕ) (h : from ≤ to) (l : to < length p) where
  pub carry_none : Carry p from to x p from x
  carry_none = let z : from - from ≡ 0 = omega arith in record { is = rw z; held = rw z; low = omega arith; high = h }

  module _ {q : List ℕ} {i w : ℕ} (c : Carry p from to x q i w) where
    -- one store more
    stored : set q i w ≡ sets p from (take (suc (i - from)) (x ∷ between p from to))
    stored =
        let n = length_between p from to h (omega arith) in
        let m : from + (i - from) ≡ i = omega (arith, c.low) in
        let k : i - from < length (x ∷ between p from to) = omega (arith, c.low, c.high) in
        rw (c.is, c.held) (rw m at (sets_next p from (x ∷ between p from to) (i - from) k))

    pub carry_more : i < to → Carry p from to x (set q i w) (i + 1) (get_or q i 0)
    carry_more t =
        let z : i + 1 - from ≡ suc (i - from) = omega (arith, c.low) in
        let n = length_between p from to h (omega arith) in
        let m : from + (i - from) ≡ i = omega (arith, c.low) in
        let k = length-take-le (i - from) (x ∷ between p from to) (omega (arith, c.low, c.high)) in
        let g : get_or q i 0 ≡ get_or p i 0 = rw c.is (get_d_behind p from (take (i - from) (x ∷ between p from to)) i (omega (arith, c.low))) in
        let y : get_or (between p from to) (i - from) 0 ≡ get_or p i 0 = get_or-take (to - from) (drop from p) (i - from) 0 (omega (arith, c.low)) ∙ get_or-drop from p (i - from) 0 ∙ ap (λ j. get_or p j 0) m in
        record {
          is = rw z (stored);
          held = g ∙ sym y ∙ rw z;
          low = omega (arith, c.low);
          high = omega arith;
        }

    pub inserted : to ≤ i → Inserted p from to x (set q to w)
    inserted t =
        let e : i ≡ to = omega (arith, c.high) in
        let n = length_between p from to h (omega arith) in
        let s : set q to w ≡ sets p from (take (suc (to - from)) (x ∷ between p from to)) = rw e at stored in
        let r : take (suc (to - from)) (x ∷ between p from to) ≡ x ∷ between p from to = take_all (suc (to - from)) (x ∷ between p from to) (omega arith) in
        record { is = λ p₀ d wr k. record { is = s ∙ ap (sets p from) r ∙ done p₀ d wr.is k } }
      where
        done : (p₀ d : List ℕ) → p ≡ sets p₀ from d → length d ≡ to - from → sets p from (x ∷ between p from to) ≡ sets p₀ from (x ∷ d)
        done p₀ d e k =
            let m = ap length e ∙ length-sets p₀ from d in
            rw (e, between_wrote p₀ from to d k h (omega arith)) (sets_over p₀ from d (x ∷ d) (omega arith))
