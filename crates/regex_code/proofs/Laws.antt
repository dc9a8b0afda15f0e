-- What `skip` answers at each kind of word. Assumes nothing.
use mathlib.Core.Path.{◌≡◌, ap, sym, ◌∙◌}
use mathlib.Core.List.{List, ◌∷◌}
use mathlib.Core.Bool.{Bool}
use Prim.Native.Nat.{ℕ, ◌+◌, ◌-◌, ◌*◌, ◌≤◌, ◌<◌}
use native.Mathlib.Omega.{arith}
use lib.ListN.{length, drop, get_or, drop_of_length-le, length-drop}
use lib.Seq.{drop-drop}
use Rattle.regex_definition.specs.Regexp.{Range}
use Rattle.regex_code.specs.Flat.{of_empty, of_class, of_then, of_or, of_upto, of_any, of_other, of_nothing, behind, word_of, flat_ranges, drop_ranges}
use Rattle.regex_code.specs.Skips.{Skips, SkipsClass}
use Rattle.basics.specs.Lists.{drop_at as word}

module _ (s : List ℕ) where
  pub skip_nothing : (at : ℕ) → length s ≤ at → Skips s at at
  skip_nothing at h =
      record {
        from = omega arith;
        rest = λ x r e. of_nothing (λ x r. drop at s ≡ r) x r (sym (drop_of_length-le s h) ∙ e);
      }

  module _ (at : ℕ) (p : at < length s) where
    pub skip_empty : get_or s at 0 ≡ 0 → Skips s at (at + 1)
    skip_empty h =
        record {
          from = omega arith;
          rest = λ x r e. of_empty (λ x r. drop (at + 1) s ≡ r) _ _ h (λ r e. e) x r (sym (word s at p) ∙ e);
        }

    -- the words of a class are not behind the end
    pub class_short : length s - at ≤ 2 → SkipsClass s at at
    class_short h =
        record {
          from = omega arith;
          rest = λ comp gs r e. absurd (let z = ap length e in let y = length-drop (at + 1) s in omega arith);
        }

    -- behind the number of its ranges stand two words for each
    pub class_behind : SkipsClass s at (at + 3 + 2 * get_or s (at + 2) 0)
    class_behind = record { from = omega arith; rest = λ comp gs r e. go comp gs r (word_of s (at + 1) _ _ e).2 }
      where
        go : (comp : Bool) (gs : List Range) (r : List ℕ) → drop (at + 1 + 1) s ≡ length gs ∷ flat_ranges gs r → drop (at + 3 + 2 * get_or s (at + 2) 0) s ≡ r
        go comp gs r e =
            let x : at + 1 + 1 ≡ at + 2 = omega arith in
            let w = word_of s (at + 2) _ _ (rw x at e) in
            let y : at + 3 + 2 * get_or s (at + 2) 0 ≡ at + 2 + 1 + 2 * length gs = let v = w.1 in omega arith in
            rw y (sym (drop-drop (2 * length gs) (at + 2 + 1) s) ∙ ap (drop (2 * length gs)) w.2 ∙ drop_ranges gs r)

    pub skip_class : get_or s at 0 ≡ 1 → {m : ℕ} → SkipsClass s at m → Skips s at m
    skip_class h {m} a =
        record {
          from = a.from;
          rest = λ x r e. of_class (λ x r. drop m s ≡ r) _ _ h (λ comp gs r e. a.rest comp gs r e) x r (sym (word s at p) ∙ e);
        }

    pub skip_then : get_or s at 0 ≡ 2 → {n m : ℕ} → Skips s (at + 1) n → Skips s n m → Skips s at m
    skip_then h {n} {m} a b =
        record {
          from = omega (arith, a.from, b.from);
          rest =
              λ x r e. of_then (λ x r. drop m s ≡ r) _ _ h
              (λ x y r e. b.rest y r (a.rest x _ e)) x r (sym (word s at p) ∙ e);
        }

    pub skip_or : get_or s at 0 ≡ 3 → {n m : ℕ} → Skips s (at + 1) n → Skips s n m → Skips s at m
    skip_or h {n} {m} a b =
        record {
          from = omega (arith, a.from, b.from);
          rest =
              λ x r e. of_or (λ x r. drop m s ≡ r) _ _ h
              (λ x y r e. b.rest y r (a.rest x _ e)) x r (sym (word s at p) ∙ e);
        }

    pub skip_upto : get_or s at 0 ≡ 4 → {m : ℕ} → Skips s (at + 3) m → Skips s at m
    skip_upto h {m} a =
        record {
          from = omega (arith, a.from);
          rest =
              λ x r e. of_upto (λ x r. drop m s ≡ r) _ _ h
              (λ lo n x r e. let z : at + 3 ≡ at + 1 + 2 = omega arith in a.rest x r (rw z (behind s at 2 _ e))) x r
              (sym (word s at p) ∙ e);
        }

    pub skip_any : get_or s at 0 ≡ 5 → {m : ℕ} → Skips s (at + 2) m → Skips s at m
    skip_any h {m} a =
        record {
          from = omega (arith, a.from);
          rest =
              λ x r e. of_any (λ x r. drop m s ≡ r) _ _ h
              (λ lo x r e. let z : at + 2 ≡ at + 1 + 1 = omega arith in a.rest x r (rw z (behind s at 1 _ e))) x r
              (sym (word s at p) ∙ e);
        }

    pub skip_other :
        (get_or s at 0 ≡ 0 → ⊥) → (get_or s at 0 ≡ 1 → ⊥) → (get_or s at 0 ≡ 2 → ⊥) → (get_or s at 0 ≡ 3 → ⊥)
        → (get_or s at 0 ≡ 4 → ⊥) → (get_or s at 0 ≡ 5 → ⊥) → Skips s at at
    skip_other n0 n1 n2 n3 n4 n5 =
        record {
          from = omega arith;
          rest = λ x r e. of_other (λ x r. drop at s ≡ r) _ _ (omega arith) x r (sym (word s at p) ∙ e);
        }
