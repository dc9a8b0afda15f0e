-- Parts of a text, and the bytes of lists of code points. Assumes nothing.
use Rattle.std.specs.Prelude.{ℕ, suc, ◌+◌, ◌-◌, ◌≤◌, ◌<◌, ◌≡◌, refl, List, [], ◌∷◌, ◌++◌, length, drop, get_or}
use Rattle.std.proofs.Common.{ap, sym, ◌∙◌, append_assoc, add-one, arith, length-append}
use Rattle.std.proofs.Math.Seq.{slice, slice-cons, slice_empty, length-slice, take-length}
use Rattle.definition.specs.Utf8.{encode, encode_all}
use Rattle.utf8_laws.specs.Unique.{never_empty}
use Rattle.utf8_laws.specs.Decode.{encode_long}

-- the bytes from..to of t are those of the text w
abbrev pub Spells : List ℕ → ℕ → ℕ → List ℕ → Type 0
Spells t from to w = slice from to t ≡ encode_all w

-- the first element of a part, and what stands behind it
pub slice_first :
    (t : List ℕ) (at to x : ℕ) (r : List ℕ) → to ≤ length t → slice at to t ≡ x ∷ r
    → (at < to) × (get_or t at 0 ≡ x) × (slice (at + 1) to t ≡ r)
slice_first t at to x r h e =
    let n : to - at ≡ suc (length r) = sym (length-slice at to t h) ∙ ap length e in
    let p : at < to = omega arith in
    let w : slice at to t ≡ get_or t at 0 ∷ slice (suc at) to t = slice-cons at to t 0 p h in
    let z = add-one at in
    (p, cc, cc)

-- the part up to the end is what is left
pub slice_end : (t : List ℕ) (at : ℕ) → slice at (length t) t ≡ drop at t
slice_end t at = ap (drop at) (take-length t)

-- an empty part
pub nil_slice : (t : List ℕ) (from to : ℕ) → from ≡ to → slice from to t ≡ []
nil_slice t from to h = rw h (slice_empty to t)

pub slice_nil : (t : List ℕ) (from to : ℕ) → from ≤ to → to ≤ length t → slice from to t ≡ [] → from ≡ to
slice_nil t from to o e h = let n = length-slice from to t e in let m = ap length h in omega arith

-- what is encoded to nothing is empty
pub encode_all_nil : (cs : List ℕ) → encode_all cs ≡ [] → cs ≡ []
unfolding encode_all
encode_all_nil [] e = refl
encode_all_nil (c ∷ cs) e = absurd (never_empty c (encode_all cs) e)

pub encode_all_none : encode_all [] ≡ []
unfolding encode_all
encode_all_none = refl

pub encode_all_cons : (c : ℕ) (cs : List ℕ) → encode_all (c ∷ cs) ≡ encode c ++ encode_all cs
unfolding encode_all
encode_all_cons c cs = refl

-- two lists, one after the other
pub encode_all_append : (u v : List ℕ) → encode_all (u ++ v) ≡ encode_all u ++ encode_all v
unfolding encode_all
encode_all_append [] v = refl
encode_all_append (c ∷ u) v =
    ap (λ (l : List ℕ). encode c ++ l) (encode_all_append u v) ∙ sym (append_assoc (encode c) (encode_all u) (encode_all v))

-- there are no more characters than bytes
pub fewer_chars : (cs : List ℕ) → length cs ≤ length (encode_all cs)
unfolding encode_all
fewer_chars [] = omega arith
fewer_chars (c ∷ cs) =
    let h = fewer_chars cs in
    let l = encode_long c in
    let n = length-append (encode c) (encode_all cs) in
    omega arith
