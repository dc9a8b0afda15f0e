-- What is read at a place, one level of the definition at a time: the items of a class. Assumes nothing.
use Rattle.std.specs.Prelude.{Option as Answer, Some, None}
use mathlib.Core.Path.{◌≡◌, ◌∙◌}
use mathlib.Core.Bool.{true, false}
use mathlib.Core.List.{List}
use mathlib.Core.Option.{Option, none, some}
use Prim.Native.Nat.{ℕ, ◌+◌, ◌≤◌}
use native.Mathlib.Omega.{arith}
use lib.ListN.{length, drop}
use Rattle.regex_definition.specs.Regexp.{Range}
use Rattle.regex_definition.specs.Read.{begins, read_ccchar, read_end, read_item, read_first}
use Rattle.regex_leaves.specs.Reads.{ReadChar, ReadItem}
use Rattle.regex_leaves.specs.Reads.ReadChar.{next as char-next, stop as char-stop}
use Rattle.regex_leaves.specs.Reads.ReadItem.{next, stop}
use Rattle.regex_leaves.proofs.OfChars.{inside, behind}

-- the same answer, where the definition goes on to it
pub same_item : {out out' : Option (Range × List ℕ)} {s : List ℕ} {from from' : ℕ} {r : Answer (ℕ × ℕ × ℕ)} → out ≡ out' → from ≤ from' → ReadItem out' s from' r → ReadItem out s from r
same_item e h (next b lo hi o f t) = next b lo hi (e ∙ o) (omega arith) t
same_item e h (stop o) = stop (e ∙ o)

-- what an answer that is given says
pub char_is : {out : Option (ℕ × List ℕ)} {s : List ℕ} {from b c : ℕ} → ReadChar out s from (Some (b, c)) → (out ≡ some (c, drop b s)) × (from ≤ b) × (b ≤ length s)
char_is (char-next b c o f t) = (o, f, t)

pub char_none : {out : Option (ℕ × List ℕ)} {s : List ℕ} {from : ℕ} → ReadChar out s from None → out ≡ none
char_none (char-stop o) = o

module _ (s : List ℕ) (at : ℕ) where
  module _ (a : ℕ) where
    pub end_alone : at ≤ length s → begins 0x2D (drop at s) ≡ false → ReadItem (read_end a (drop at s)) s at (Some (at, a, a))
    unfolding read_end
    end_alone h e = next at a a (rw e) (omega arith) h

    pub end_last : at ≤ length s → begins 0x2D (drop at s) ≡ true → begins 0x5D (drop (at + 1) s) ≡ true → ReadItem (read_end a (drop at s)) s at (Some (at, a, a))
    unfolding read_end
    end_last h e f = next at a a (rw (e, behind s at 0x2D e, f)) (omega arith) h

    pub end_next : begins 0x2D (drop at s) ≡ true → begins 0x5D (drop (at + 1) s) ≡ false → {b c : ℕ}
        → ReadChar (read_ccchar (drop (at + 1) s)) s (at + 1 + 1) (Some (b, c)) → ReadItem (read_end a (drop at s)) s at (Some (b, a, c))
    unfolding read_end
    end_next e f {b} {c} g = let k = char_is g in next b a c (rw (e, behind s at 0x2D e, f, k.0)) (let z = k.1 in omega arith) k.2

    pub end_none : begins 0x2D (drop at s) ≡ true → begins 0x5D (drop (at + 1) s) ≡ false
        → ReadChar (read_ccchar (drop (at + 1) s)) s (at + 1 + 1) None → ReadItem (read_end a (drop at s)) s at None
    unfolding read_end
    end_none e f g = stop (rw (e, behind s at 0x2D e, f, char_none g))

  pub item_next : {b c : ℕ} {r : Answer (ℕ × ℕ × ℕ)} → ReadChar (read_ccchar (drop at s)) s (at + 1) (Some (b, c)) → ReadItem (read_end c (drop b s)) s b r
      → ReadItem (read_item (drop at s)) s (at + 1) r
  unfolding read_item
  item_next g i = let k = char_is g in same_item (rw k.0) k.1 i

  pub item_none : ReadChar (read_ccchar (drop at s)) s (at + 1) None → ReadItem (read_item (drop at s)) s (at + 1) None
  unfolding read_item
  item_none g = stop (rw (char_none g))

  pub first_dash : begins 0x2D (drop at s) ≡ true → ReadItem (read_first (drop at s)) s (at + 1) (Some (at + 1, 0x2D, 0x2D))
  unfolding read_first
  first_dash e = let h = inside s at 0x2D e in next (at + 1) 0x2D 0x2D (rw (e, behind s at 0x2D e)) (omega arith) (omega arith)

  pub first_item : begins 0x2D (drop at s) ≡ false → {r : Answer (ℕ × ℕ × ℕ)} → ReadItem (read_item (drop at s)) s (at + 1) r → ReadItem (read_first (drop at s)) s (at + 1) r
  unfolding read_first
  first_item e i = same_item (rw e) (omega arith) i
