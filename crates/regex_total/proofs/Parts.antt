-- Parts of a text, cut and put together. Assumes nothing.
use mathlib.Core.Path.{◌≡◌, ap, sym, ◌∙◌}
use mathlib.Core.List.{List, [], ◌++◌}
use Prim.Native.Nat.{ℕ, ◌-◌, ◌≤◌}
use native.Mathlib.Omega.{arith}
use lib.ListN.{length, length-append, take, drop, length-take, take-append-drop}
use lib.Seq.{slice, length-slice, take-take, drop-append-le, length-take-le, take-append_seam, drop-append_seam}
use Rattle.definition.specs.Utf8.{encode_all}
use Rattle.regex_chars.specs.Laws.{encode_all_append, encode_all_none, encode_all_nil, fewer_chars, nil_slice, slice_nil, Spells}
use Rattle.regex_total.specs.Answers.{Inside, bytes}

-- a part is its parts before and behind a place
pub slice_join :
    (t : List ℕ) (from to m : ℕ) → to ≤ length t → from ≤ m → m ≤ to → slice from to t ≡ slice from m t ++ slice m to t
slice_join t from to m e a b =
    let n = length-take-le to t e in
    let h : take m (take to t) ≡ take m t = take-take m to t b in
    let k : from ≤ length (take m (take to t)) = omega (arith, length-take m (take to t)) in
    ap (drop from) (sym (take-append-drop m (take to t))) ∙ drop-append-le from (take m (take to t)) (drop m (take to t)) k
    ∙ ap (λ l. drop from l ++ drop m (take to t)) h

-- lists that are equal, cut at one length, are equal before and behind the cut
pub append_same : (u v p q : List ℕ) → u ++ v ≡ p ++ q → length u ≡ length p → (u ≡ p) × (v ≡ q)
append_same u v p q e n = (
  sym (take-append_seam u v) ∙ ap (λ k. take k (u ++ v)) n ∙ ap (take (length p)) e ∙ take-append_seam p q,
  sym (drop-append_seam u v) ∙ ap (λ k. drop k (u ++ v)) n ∙ ap (drop (length p)) e ∙ drop-append_seam p q,
)

-- .. and so are lists with one end
pub front_same : (u p q : List ℕ) → u ++ q ≡ p ++ q → u ≡ p
front_same u p q e =
    let n = ap length e in
    let a = length-append u q in
    let b = length-append p q in
    (append_same u q p q e (omega arith)).0

module _ (t : List ℕ) (from to : ℕ) (i : Inside t from to) where
  -- where an end of a text is spelled from a place on, the rest of it is spelled before that place
  pub front_spells : (m : ℕ) → from ≤ m → m ≤ to → (u v : List ℕ) → Spells t from to (u ++ v) → Spells t m to v → Spells t from m u
  front_spells m a b u v e f =
      front_same (slice from m t) (encode_all u) (encode_all v)
      (ap (λ l. slice from m t ++ l) (sym f) ∙ sym (slice_join t from to m i.end a b) ∙ e ∙ encode_all_append u v)

  -- the empty text is spelled by no bytes
  pub spells_nil : (w : List ℕ) → Spells t from to w → from ≡ to → w ≡ []
  spells_nil w e h = encode_all_nil w (sym e ∙ nil_slice t from to h)

  pub nil_spells : (w : List ℕ) → Spells t from to w → w ≡ [] → from ≡ to
  nil_spells w e h = slice_nil t from to i.order i.end (e ∙ ap encode_all h ∙ encode_all_none)

  -- how many bytes a text has, and that it has no more characters
  pub spells_bytes : (w : List ℕ) → Spells t from to w → bytes w ≡ to - from
  spells_bytes w e = sym (ap length e) ∙ length-slice from to t i.end

  pub spells_chars : (w : List ℕ) → Spells t from to w → length w ≤ to - from
  spells_chars w e = let n = spells_bytes w e in let k = fewer_chars w in omega arith
