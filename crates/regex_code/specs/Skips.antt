-- What `skip` answers: the place behind the code at a place. Assumes nothing.
use Rattle.std.specs.Prelude.{◌≡◌, refl, List, ◌∷◌, ℕ, ◌+◌, ◌≤◌, min, Bool, true, false, leb, drop, length}
use Rattle.std.proofs.Common.{sym, ◌∙◌, arith, drop_of_length-le, leb-true, leb-false}
use Rattle.regex_definition.specs.Regexp.{Range, Regexp}
use Rattle.regex_code.specs.Flat.{flag, flat_ranges, flat}

pub record Skips (s : List ℕ) (at next : ℕ) : Type 0 where
  pub from : at ≤ next
  pub rest : (x : Regexp) (r : List ℕ) → drop at s ≡ flat x r → drop next s ≡ r

-- the same, where the code is that of a class
pub record SkipsClass (s : List ℕ) (at next : ℕ) : Type 0 where
  pub from : at ≤ next
  pub rest : (comp : Bool) (gs : List Range) (r : List ℕ) → drop (at + 1) s ≡ flag comp ∷ length gs ∷ flat_ranges gs r → drop next s ≡ r

-- no place behind the end is needed
pub drop_min : (s : List ℕ) (n : ℕ) → drop (min n (length s)) s ≡ drop n s
drop_min s n = go (leb n (length s)) refl
  where
    go : (b : Bool) → leb n (length s) ≡ b → drop (min n (length s)) s ≡ drop n s
    go true e = let h = leb-true n (length s) e in let k : min n (length s) ≡ n = omega arith in rw k
    go false e =
        let h = leb-false n (length s) e in
        let k : min n (length s) ≡ length s = omega arith in
        let i : length s ≤ length s = omega arith in
        let j : length s ≤ n = omega arith in
        rw k (drop_of_length-le s i ∙ sym (drop_of_length-le s j))
