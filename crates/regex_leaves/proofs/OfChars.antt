-- What is read at a place, one level of the definition at a time: characters. Assumes nothing.
use Rattle.std.specs.Prelude.{Option as Answer, Some, None}
use mathlib.Core.Path.{◌≡◌, refl, sym, ◌∙◌}
use mathlib.Core.Bool.{Bool, true, false, true≢false}
use mathlib.Core.List.{List}
use mathlib.Core.Option.{Option}
use Prim.Native.Nat.{ℕ, ◌+◌, ◌≤◌, ◌<◌}
use native.Mathlib.Omega.{arith}
use borrow.Author.Tests.{ltb-true, ltb-false}
use lib.Dec.{ltb}
use lib.ListN.{length, drop, get_or, drop_of_length-le}
use Rattle.regex_definition.specs.Chars.{is_escaped, is_class_char, escape_value}
use Rattle.regex_definition.specs.Read.{begins, rest, read_escape, read_bare, read_ccchar}
use Rattle.regex_leaves.specs.Reads.{ReadChar}
use Rattle.regex_leaves.specs.Reads.ReadChar.{next, stop}
use Rattle.basics.specs.Lists.{drop_at}

module _ (s : List ℕ) (at : ℕ) where
  pub begins_end : (x : ℕ) → length s ≤ at → begins x (drop at s) ≡ false
  begins_end x h = rw (drop_of_length-le s h)

  pub rest_at : at < length s → rest (drop at s) ≡ drop (at + 1) s
  rest_at h = rw (drop_at s at h)

-- where a character stands, the place is in the text
pub inside : (s : List ℕ) (at x : ℕ) → begins x (drop at s) ≡ true → at < length s
inside s at x e = by (ltb at (length s)) refl
  where
    by : (b : Bool) → ltb at (length s) ≡ b → at < length s
    by true t = ltb-true at (length s) t
    by false f = absurd (true≢false (sym e ∙ begins_end s at x (ltb-false at (length s) f)))

pub behind : (s : List ℕ) (at x : ℕ) → begins x (drop at s) ≡ true → rest (drop at s) ≡ drop (at + 1) s
behind s at x e = rest_at s at (inside s at x e)

-- the same answer, where the definition goes on to it
pub same_char : {out out' : Option (ℕ × List ℕ)} {s : List ℕ} {from from' : ℕ} {r : Answer (ℕ × ℕ)} → out ≡ out' → from ≤ from' → ReadChar out' s from' r → ReadChar out s from r
same_char e h (next b c o f t) = next b c (e ∙ o) (omega arith) t
same_char e h (stop o) = stop (e ∙ o)

module _ (s : List ℕ) (at : ℕ) where
  pub escape_end : length s ≤ at → ReadChar (read_escape (drop at s)) s (at + 1) None
  escape_end h = stop (rw (drop_of_length-le s h))

  pub escape_next : at < length s → {c : ℕ} → c ≡ get_or s at 0 → is_escaped c ≡ true → (v : ℕ) → v ≡ escape_value c
      → ReadChar (read_escape (drop at s)) s (at + 1) (Some (at + 1, v))
  escape_next h g e v q = next (at + 1) v (rw (drop_at s at h, ← g, e, q)) (omega arith) (omega arith)

  pub escape_none : at < length s → {c : ℕ} → c ≡ get_or s at 0 → is_escaped c ≡ false → ReadChar (read_escape (drop at s)) s (at + 1) None
  escape_none h g e = stop (rw (drop_at s at h, ← g, e))

  module _ (p : ℕ → Bool) where
    pub bare_end : length s ≤ at → ReadChar (read_bare p (drop at s)) s (at + 1) None
    bare_end h = stop (rw (drop_of_length-le s h))

    pub bare_next : at < length s → {c : ℕ} → c ≡ get_or s at 0 → p c ≡ true → ReadChar (read_bare p (drop at s)) s (at + 1) (Some (at + 1, c))
    bare_next h {c} g e = next (at + 1) c (rw (drop_at s at h, ← g, e)) (omega arith) (omega arith)

    pub bare_none : at < length s → {c : ℕ} → c ≡ get_or s at 0 → p c ≡ false → ReadChar (read_bare p (drop at s)) s (at + 1) None
    bare_none h g e = stop (rw (drop_at s at h, ← g, e))

  pub class_escape : begins 0x5C (drop at s) ≡ true → {r : Answer (ℕ × ℕ)} → ReadChar (read_escape (drop (at + 1) s)) s (at + 1 + 1) r
      → ReadChar (read_ccchar (drop at s)) s (at + 1) r
  unfolding read_ccchar
  class_escape e c = same_char (rw (e, behind s at 0x5C e)) (omega arith) c

  pub class_bare : begins 0x5C (drop at s) ≡ false → {r : Answer (ℕ × ℕ)} → ReadChar (read_bare is_class_char (drop at s)) s (at + 1) r
      → ReadChar (read_ccchar (drop at s)) s (at + 1) r
  unfolding read_ccchar
  class_bare e c = same_char (rw e) (omega arith) c
