-- What is read at a place, one level of the definition at a time: quantifiers. Assumes nothing.
use Rattle.std.specs.Prelude.{Option as Answer, Some, None}
use mathlib.Core.Path.{◌≡◌, refl, ◌∙◌}
use mathlib.Core.Bool.{true, false, and-eq-true_iff}
use mathlib.Core.List.{List}
use mathlib.Core.Option.{Option}
use Prim.Native.Nat.{ℕ, ◌+◌, ◌-◌, ◌*◌, ◌≤◌, ◌<◌}
use native.Mathlib.Omega.{arith}
use borrow.Author.Tests.{le-leb, lt-leb, leb-true}
use lib.Dec.{leb}
use lib.ListN.{length, drop, get_or, drop_of_length-le}
use Rattle.regex_definition.specs.Chars.{is_digit}
use Rattle.regex_definition.specs.Words.{Most}
use Rattle.regex_definition.specs.Read.{begins, begins_digit, count_from, read_count, read_upper, read_braces, read_quantifier}
use Rattle.regex_leaves.specs.Reads.{ReadChar, ReadBraces, ReadQuantifier}
use Rattle.regex_leaves.specs.Reads.ReadChar.{next as char-next, stop as char-stop}
use Rattle.regex_leaves.specs.Reads.ReadBraces.{bounded as braces-bounded, endless as braces-endless, stop as braces-none}
use Rattle.regex_leaves.specs.Reads.ReadQuantifier.{bounded as quant-bounded, endless as quant-endless, once as quant-once, stop as quant-none}
use Rattle.regex_leaves.specs.declared.counts.Quant.{Quant}
use Rattle.regex_leaves.specs.declared.counts.Quant.TheVariants as quant
use Rattle.regex_leaves.proofs.OfChars.{inside, behind, same_char}
use Rattle.regex_leaves.proofs.OfItems.{char_is, char_none}
use Rattle.basics.specs.Lists.{drop_at}

-- the same answer, where the definition goes on to it
pub same_braces : {out out' : Option ((ℕ × Most) × List ℕ)} {s : List ℕ} {from from' : ℕ} {r : Answer Quant} → out ≡ out' → from ≤ from' → ReadBraces out' s from' r → ReadBraces out s from r
same_braces e h (braces-bounded b lo hi o f t) = braces-bounded b lo hi (e ∙ o) (omega arith) t
same_braces e h (braces-endless b lo o f t) = braces-endless b lo (e ∙ o) (omega arith) t
same_braces e h (braces-none o) = braces-none (e ∙ o)

-- the bounds of a digit
pub digit_bounds : (c : ℕ) → is_digit c ≡ true → (0x30 ≤ c) × (c ≤ 0x39)
digit_bounds c e = let t = (and-eq-true_iff (leb 0x30 c) (leb c 0x39)).0 e in (leb-true 0x30 c t.0, leb-true c 0x39 t.1)

module _ (s : List ℕ) (at : ℕ) where
  -- the digits that were passed stand for v
  pub record Passed (i v : ℕ) : Type 0 where
    pub is : count_from 0 (drop at s) ≡ count_from v (drop i s)
    pub small : v ≤ 64
    pub from : at ≤ i
    pub to : i ≤ length s

  pub passed_none : at ≤ length s → Passed at 0
  passed_none h = record { is = refl; small = omega arith; from = omega arith; to = h }

  module _ {i v : ℕ} (g : Passed i v) where
    pub digits_end : length s ≤ i → ReadChar (count_from 0 (drop at s)) s at (Some (i, v))
    unfolding count_from
    digits_end h = char-next i v (g.is ∙ rw (drop_of_length-le s h)) g.from g.to

    pub digits_stop : i < length s → is_digit (get_or s i 0) ≡ false → ReadChar (count_from 0 (drop at s)) s at (Some (i, v))
    unfolding count_from
    digits_stop h e = char-next i v (g.is ∙ rw (drop_at s i h, e)) g.from g.to

    pub digits_many : i < length s → is_digit (get_or s i 0) ≡ true → 64 < v * 10 + (get_or s i 0 - 0x30) → ReadChar (count_from 0 (drop at s)) s at None
    unfolding count_from
    digits_many h e m = char-stop (g.is ∙ rw (drop_at s i h, e, lt-leb (v * 10 + (get_or s i 0 - 0x30)) 64 m))

    pub passed_more : i < length s → is_digit (get_or s i 0) ≡ true → v * 10 + (get_or s i 0 - 0x30) ≤ 64 → Passed (i + 1) (v * 10 + (get_or s i 0 - 0x30))
    unfolding count_from
    passed_more h e m =
        record {
          is = g.is ∙ rw (drop_at s i h, e, le-leb (v * 10 + (get_or s i 0 - 0x30)) 64 m);
          small = m;
          from = omega (arith, g.from);
          to = omega arith;
        }

  pub count_none : begins_digit (drop at s) ≡ false → ReadChar (read_count (drop at s)) s at None
  unfolding read_count
  count_none e = char-stop (rw e)

  pub count_some : begins_digit (drop at s) ≡ true → {r : Answer (ℕ × ℕ)} → ReadChar (count_from 0 (drop at s)) s at r → ReadChar (read_count (drop at s)) s at r
  unfolding read_count
  count_some e c = same_char (rw e) (omega arith) c

  module _ (lo : ℕ) where
    pub upper_none : begins 0x7D (drop at s) ≡ true → ReadBraces (read_upper lo (drop at s)) s at (Some (quant.Least (at + 1) lo))
    unfolding read_upper
    upper_none e = let h = inside s at 0x7D e in braces-endless (at + 1) lo (rw (e, behind s at 0x7D e)) (omega arith) (omega arith)

    pub upper_stop : begins 0x7D (drop at s) ≡ false → ReadChar (read_count (drop at s)) s at None → ReadBraces (read_upper lo (drop at s)) s at None
    unfolding read_upper
    upper_stop e c = braces-none (rw (e, char_none c))

    pub upper_next : begins 0x7D (drop at s) ≡ false → {b hi : ℕ} → ReadChar (read_count (drop at s)) s at (Some (b, hi)) → begins 0x7D (drop b s) ≡ true
        → ReadBraces (read_upper lo (drop at s)) s at (Some (quant.Upto (b + 1) lo hi))
    unfolding read_upper
    upper_next e {b} {hi} c f =
        let k = char_is c in
        let h = inside s b 0x7D f in
        braces-bounded (b + 1) lo hi (rw (e, k.0, f, behind s b 0x7D f)) (let z = k.1 in omega arith) (omega arith)

    pub upper_other : begins 0x7D (drop at s) ≡ false → {b hi : ℕ} → ReadChar (read_count (drop at s)) s at (Some (b, hi)) → begins 0x7D (drop b s) ≡ false
        → ReadBraces (read_upper lo (drop at s)) s at None
    unfolding read_upper
    upper_other e c f = braces-none (rw (e, (char_is c).0, f))

  pub braces_stop : ReadChar (read_count (drop at s)) s at None → ReadBraces (read_braces (drop at s)) s at None
  unfolding read_braces
  braces_stop c = braces-none (rw (char_none c))

  module _ {b lo : ℕ} (c : ReadChar (read_count (drop at s)) s at (Some (b, lo))) where
    pub braces_one : begins 0x7D (drop b s) ≡ true → ReadBraces (read_braces (drop at s)) s at (Some (quant.Upto (b + 1) lo lo))
    unfolding read_braces
    braces_one f =
        let k = char_is c in
        let h = inside s b 0x7D f in
        braces-bounded (b + 1) lo lo (rw (k.0, f, behind s b 0x7D f)) (let z = k.1 in omega arith) (omega arith)

    pub braces_two : begins 0x7D (drop b s) ≡ false → begins 0x2C (drop b s) ≡ true → {r : Answer Quant} → ReadBraces (read_upper lo (drop (b + 1) s)) s (b + 1) r
        → ReadBraces (read_braces (drop at s)) s at r
    unfolding read_braces
    braces_two f g u =
        let k = char_is c in
        let z = k.1 in
        same_braces (rw (k.0, f, g, behind s b 0x2C g)) (omega arith) u

    pub braces_other : begins 0x7D (drop b s) ≡ false → begins 0x2C (drop b s) ≡ false → ReadBraces (read_braces (drop at s)) s at None
    unfolding read_braces
    braces_other f g = braces-none (rw ((char_is c).0, f, g))

  pub star : begins 0x2A (drop at s) ≡ true → ReadQuantifier s at (Some (quant.Least (at + 1) 0))
  unfolding read_quantifier
  star e = let h = inside s at 0x2A e in quant-endless (at + 1) 0 (λ x. rw (e, behind s at 0x2A e)) (omega arith) (omega arith)

  module _ (n0 : begins 0x2A (drop at s) ≡ false) where
    pub plus : begins 0x2B (drop at s) ≡ true → ReadQuantifier s at (Some (quant.Least (at + 1) 1))
    unfolding read_quantifier
    plus e = let h = inside s at 0x2B e in quant-endless (at + 1) 1 (λ x. rw (n0, e, behind s at 0x2B e)) (omega arith) (omega arith)

    module _ (n1 : begins 0x2B (drop at s) ≡ false) where
      pub option : begins 0x3F (drop at s) ≡ true → ReadQuantifier s at (Some (quant.Upto (at + 1) 0 1))
      unfolding read_quantifier
      option e = let h = inside s at 0x3F e in quant-bounded (at + 1) 0 1 (λ x. rw (n0, n1, e, behind s at 0x3F e)) (omega arith) (omega arith)

      module _ (n2 : begins 0x3F (drop at s) ≡ false) where
        pub counted : begins 0x7B (drop at s) ≡ true → {r : Answer Quant} → ReadBraces (read_braces (drop (at + 1) s)) s (at + 1) r → ReadQuantifier s at r
        unfolding read_quantifier
        counted e (braces-bounded b lo hi o f t) = quant-bounded b lo hi (λ x. rw (n0, n1, n2, e, behind s at 0x7B e, o)) (omega arith) t
        counted e (braces-endless b lo o f t) = quant-endless b lo (λ x. rw (n0, n1, n2, e, behind s at 0x7B e, o)) (omega arith) t
        counted e (braces-none o) = quant-none (λ x. rw (n0, n1, n2, e, behind s at 0x7B e, o))

        pub once : begins 0x7B (drop at s) ≡ false → ReadQuantifier s at (Some quant.Once)
        unfolding read_quantifier
        once e = quant-once (λ x. rw (n0, n1, n2, e))
