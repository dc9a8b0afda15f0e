-- The bytes of a key, from the first to the last for their number and from the last to the first to write them. Assumes nothing.
use Prim.Native.Nat.{ℕ, suc, ◌+◌, ◌-◌, ◌*◌, ◌≤◌, ◌<◌}
use mathlib.Core.Path.{◌≡◌, refl, sym, ap, ◌∙◌, subst}
use mathlib.Core.List.{List, [], ◌∷◌, ◌++◌, reverse}
use lib.ListN.{length, length-append, take, drop, get_or, take-append-drop, drop_of_length-le}
use lib.Seq.{drop-cons}
use native.Mathlib.Omega.{arith}
use native.Mathlib.Numerals.{add-one}
use Rattle.std.proofs.lemmas.List.{length-reverse, get_or-reverse}
use Rattle.std.proofs.lemmas.Grind.{get_or_default_zero}
use Rattle.definition.specs.Paths.{escaped, escaped_all}
use Rattle.table_path_laws.specs.Texts.{escaped_append}
use Rattle.table_path_laws.specs.Lengths.{escaped_all_length}
use Rattle.table_path.specs.Words.{Put, Room}
use Rattle.table_path.proofs.Puts.{put_nothing, put_before, room_left}

module _ (k : List ℕ) (i : ℕ) where
  -- the bytes from a place on are the one there and those behind it
  pub key_here : i < length k → escaped_all (drop i k) ≡ escaped (get_or k i 0) ++ escaped_all (drop (i + 1) k)
  unfolding escaped_all
  key_here h = ap escaped_all (drop-cons k i 0 h) ∙ ap (λ (j : ℕ). escaped (get_or k i 0) ++ escaped_all (drop j k)) (sym (add-one i))

  pub length_here : i < length k → length (escaped_all (drop i k)) ≡ length (escaped (get_or k i 0)) + length (escaped_all (drop (i + 1) k))
  length_here h = ap length (key_here h) ∙ length-append (escaped (get_or k i 0)) (escaped_all (drop (i + 1) k))

  -- they are no more than all
  pub rest_shorter : length (escaped_all (drop i k)) ≤ length (escaped_all k)
  rest_shorter =
      let e = sym (escaped_append (take i k) (drop i k)) ∙ ap escaped_all (take-append-drop i k) in
      let l = sym (length-append (escaped_all (take i k)) (escaped_all (drop i k))) ∙ ap length e in
      omega arith

-- at the end of a key nothing is left
pub key_end : (k : List ℕ) (i : ℕ) → length k ≤ i → escaped_all (drop i k) ≡ []
unfolding escaped_all
key_end k i h = ap escaped_all (drop_of_length-le k h)

pub put_start : (B : List ℕ) (end : ℕ) (k : List ℕ) → Put B end (escaped_all (drop (length k) k)) B end
put_start B end k = subst (λ (s : List ℕ). Put B end s B end) (sym (key_end k (length k) (omega arith))) (put_nothing B end)

module _ (k : List ℕ) (i : ℕ) {B₀ B : List ℕ} {end at : ℕ} (p : Put B₀ end (escaped_all (drop i k)) B at) (l : i ≤ length k) (z : 0 < i) where
  back : i - 1 + 1 ≡ i
  back = omega arith

  -- there is room for the byte before
  pub byte_room : Room B₀ end (length (escaped_all k)) → Room B at (length (escaped (get_or k (i - 1) 0)))
  byte_room r =
      let s = rest_shorter k (i - 1) in
      let h = length_here k (i - 1) (omega arith) in
      let e = ap (λ (j : ℕ). length (escaped_all (drop j k))) back in
      let n = r.enough in
      room_left (length (escaped (get_or k (i - 1) 0))) p r.inside (omega arith)

  -- one byte more
  pub byte_put : {C : List ℕ} {from : ℕ} → Put B at (escaped (get_or k (i - 1) 0)) C from → Put B₀ end (escaped_all (drop (i - 1) k)) C from
  byte_put {C} {from} q =
      let e = key_here k (i - 1) (omega arith) ∙ ap (λ (j : ℕ). escaped (get_or k (i - 1) 0) ++ escaped_all (drop j k)) back in
      subst (λ (s : List ℕ). Put B₀ end s C from) (sym e) (put_before p q)

-- the byte of an iterator from the last byte to the first, behind n of them
pub byte_back : (k : List ℕ) (n x : ℕ) → (n < length (reverse k)) × (x ≡ get_or (reverse k) n x) → (n < length k) × (x ≡ get_or k (length k - n - 1) 0)
byte_back k n x t =
    let l = length-reverse k in
    let h : n < length k = omega (arith, t.0) in
    let e : length k - 1 - n ≡ length k - n - 1 = omega arith in
    (h, t.1 ∙ get_or-reverse k n x h ∙ get_or_default_zero k (length k - 1 - n) x (omega arith) ∙ ap (λ (i : ℕ). get_or k i 0) e)

-- from the first byte on it is all of the key
pub put_all : (k : List ℕ) (i : ℕ) {B₀ B : List ℕ} {end at : ℕ} → i ≤ 0 → Put B₀ end (escaped_all (drop i k)) B at → Put B₀ end (escaped_all k) B at
put_all k i {B₀} {B} {end} {at} h p =
    let z : i ≡ 0 = omega arith in
    subst (λ (j : ℕ). Put B₀ end (escaped_all (drop j k)) B at) z p
