-- To which places the words of a set lead. The laws hold for any sets of words and of places. Assumes nothing.
use mathlib.Core.Path.{◌≡◌, refl, ap, sym, ◌∙◌, subst}
use mathlib.Core.List.{List, [], ◌++◌}
use mathlib.Core.Logic.{◌⊎◌, inl, inr}
use Prim.Native.Nat.{ℕ, zero, suc, ◌+◌, ◌-◌, ◌≤◌, zero-le}
use native.Mathlib.Omega.{arith}
use lib.ListN.{length, length-append}
use lib.Seq.{slice, length-slice}
use Rattle.regex_definition.specs.Words.{Join, Row, Times, upto}
use Rattle.regex_chars.specs.Laws.{nil_slice, slice_nil}
use Rattle.regex_total.proofs.Parts.{slice_join, append_same}
use Rattle.regex_places.specs.Places.{Reach}

-- a part that is two words is cut between them
slice_cut :
    (t : List ℕ) (from to : ℕ) → from ≤ to → to ≤ length t → (u v : List ℕ) → slice from to t ≡ u ++ v
    → (m : ℕ) × (from ≤ m) × (m ≤ to) × (slice from m t ≡ u) × (slice m to t ≡ v)
slice_cut t from to o e u v q =
    let m = from + length u in
    let l : to - from ≡ length u + length v = sym (length-slice from to t e) ∙ ap length q ∙ length-append u v in
    let h : m ≤ to = omega arith in
    let k : length (slice from m t) ≡ length u = length-slice from m t (omega arith) ∙ (let z : m - from ≡ length u = omega arith in z) in
    let s = append_same (slice from m t) (slice m to t) u v (sym (slice_join t from to m e (omega arith) h) ∙ q) k in
    (m, omega arith, h, s.0, s.1)

module _ {t : List ℕ} where
  -- larger sets reach more
  pub reach_map :
      {P : List ℕ → Type 0} {S : ℕ → Type 0} (Q : List ℕ → Type 0) (R : ℕ → Type 0)
      → ((w : List ℕ) → length w ≤ length t → P w → Q w) → ((i : ℕ) → i ≤ length t → S i → R i) → (j : ℕ) → Reach t P S j → Reach t Q R j
  reach_map Q R f g j r =
      let o = r.order in
      let e = r.end in
      let l = length-slice r.from j t r.end in
      record {
        from = r.from;
        is_from = g r.from (omega arith) r.is_from;
        order = r.order;
        end = r.end;
        word = f (slice r.from j t) (omega arith) r.word;
      }

  pub reach_empty : (S : ℕ → Type 0) (j : ℕ) → j ≤ length t → S j → Reach t (λ w. w ≡ []) S j
  reach_empty S j h s = record { from = j; is_from = s; order = omega arith; end = h; word = nil_slice t j j refl }

  pub empty_reach : (S : ℕ → Type 0) (j : ℕ) → Reach t (λ w. w ≡ []) S j → S j
  empty_reach S j r = subst S (slice_nil t r.from j r.order r.end r.word) r.is_from

  module _ (P Q : List ℕ → Type 0) (S : ℕ → Type 0) where
    -- two in a row: the ends of the ends
    pub reach_then : (j : ℕ) → Reach t (Join P Q) S j → Reach t Q (Reach t P S) j
    reach_then j r =
        let w = r.word in
        let c = slice_cut t r.from j r.order r.end w.fore w.back w.eq in
        record {
          from = c.0;
          is_from =
              record {
                from = r.from;
                is_from = r.is_from;
                order = c.1;
                end = omega (arith, c.2, r.end);
                word = rw c.3 w.is_fore;
              };
          order = c.2;
          end = r.end;
          word = rw c.4 w.is_back;
        }

    pub then_reach : (j : ℕ) → Reach t Q (Reach t P S) j → Reach t (Join P Q) S j
    then_reach j r =
        let q = r.is_from in
        record {
          from = q.from;
          is_from = q.is_from;
          order = omega (arith, q.order, r.order);
          end = r.end;
          word =
              record {
                fore = slice q.from r.from t;
                back = slice r.from j t;
                eq = slice_join t q.from j r.from r.end q.order r.order;
                is_fore = q.word;
                is_back = r.word;
              };
        }

  module _ (P : List ℕ → Type 0) where
    -- a set that its own image does not leave is left by no number of words: a repeat may stop there
    closed : (S : ℕ → Type 0) → ((i : ℕ) → Reach t P S i → S i) → (n j : ℕ) → Reach t (Row P n) S j → S j
    closed S f zero j r = empty_reach S j r
    closed S f (suc n) j r =
        closed S f n j (reach_map (Row P n) S (λ w l p. p) (λ i l p. f i p) j (reach_then P (Row P n) S j r))

    pub closed_times : (S : ℕ → Type 0) → ((i : ℕ) → Reach t P S i → S i) → (lo : ℕ) (hi : _) (j : ℕ) → Reach t (Times lo hi P) S j → S j
    closed_times S f lo hi j r =
        closed S f r.word.count j
        (record { from = r.from; is_from = r.is_from; order = r.order; end = r.end; word = r.word.row })

    -- up to h + 1 words from S: up to h words from S and its image
    pub times_grow :
        (S : ℕ → Type 0) (h j : ℕ) → Reach t (Times 0 (upto (suc h)) P) S j → Reach t (Times 0 (upto h) P) (λ i. S i ⊎ Reach t P S i) j
    times_grow S h j r = go r.word.count r.word.most r.word.row
      where
        go : (n : ℕ) → n ≤ suc h → Row P n (slice r.from j t) → Reach t (Times 0 (upto h) P) (λ i. S i ⊎ Reach t P S i) j
        go zero q w =
            record {
              from = r.from;
              is_from = inl r.is_from;
              order = r.order;
              end = r.end;
              word = record { count = 0; least = zero-le; most = zero-le; row = w };
            }
        go (suc n) q w =
            reach_map (Times 0 (upto h) P) (λ i. S i ⊎ Reach t P S i)
            (λ u l p. record { count = n; least = zero-le; most = omega arith; row = p }) (λ i l s. inr s) j
            (reach_then P (Row P n) S j
            (record { from = r.from; is_from = r.is_from; order = r.order; end = r.end; word = w }))

    pub grow_times :
        (S : ℕ → Type 0) (h j : ℕ) → Reach t (Times 0 (upto h) P) (λ i. S i ⊎ Reach t P S i) j → Reach t (Times 0 (upto (suc h)) P) S j
    grow_times S h j r = go r.is_from
      where
        up : (w : List ℕ) → Times 0 (upto h) P w → Times 0 (upto (suc h)) P w
        up w s = record { count = s.count; least = zero-le; most = omega (arith, s.most); row = s.row }

        more : (w : List ℕ) → Join P (Times 0 (upto h) P) w → Times 0 (upto (suc h)) P w
        more w d =
            let s = d.is_back in
            record {
              count = suc s.count;
              least = zero-le;
              most = omega (arith, s.most);
              row = record { fore = d.fore; back = d.back; eq = d.eq; is_fore = d.is_fore; is_back = s.row };
            }

        go : S r.from ⊎ Reach t P S r.from → Reach t (Times 0 (upto (suc h)) P) S j
        go (inl s) =
            record { from = r.from; is_from = s; order = r.order; end = r.end; word = up (slice r.from j t) r.word }
        go (inr s) =
            reach_map (Times 0 (upto (suc h)) P) S (λ w l a. more w a) (λ i l a. a) j
            (then_reach P (Times 0 (upto h) P) S j
            (record { from = r.from; is_from = s; order = r.order; end = r.end; word = r.word }))
