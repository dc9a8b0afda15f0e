-- Sets of places as bytes. Assumes nothing.
use mathlib.Core.Path.{◌≡◌, refl, ap, sym, ◌∙◌, subst}
use mathlib.Core.Bool.{Bool, true, false, false≢true}
use mathlib.Core.List.{List, [], ◌∷◌}
use mathlib.Core.Logic.{inl, inr, ⊎_elim}
use Prim.Native.Nat.{ℕ, zero, suc, ◌+◌, ◌-◌, ◌≤◌, ◌<◌}
use native.Mathlib.Omega.{arith}
use borrow.Author.Tests.{eqb-true, eqb-false}
use lib.Dec.{eqb}
use lib.ListN.{length, set, drop, get_or, length-set}
use lib.Seq.{slice-cons, slice_empty, get_or-set_same, get_or-set_other}
use Rattle.basics.specs.Lists.{drop_at as word}
use Rattle.regex_definition.specs.Regexp.{Range, One, hits, Describes}
use Rattle.regex_code.specs.Flat.{flag, flat_ranges, of_class, Word}
use Rattle.regex_chars.specs.Laws.{slice_first, slice_nil}
use Rattle.regex_chars.specs.Classes.{Hits}
use Rattle.regex_places.specs.Places.{Reach, In, Image, Reached, once, Moves, Moving, Same, Adds, Both, None, IsRow}
use Rattle.regex_places.specs.Places.Adds.{was, new}

-- a decision on two numbers
pub same_or_not : {A : Type 0} (i j : ℕ) → (i ≡ j → A) → ((i ≡ j → ⊥) → A) → A
same_or_not {A} i j f g = go (eqb i j) refl
  where
    go : (b : Bool) → eqb i j ≡ b → A
    go true e = f (eqb-true i j e)
    go false e = g (eqb-false i j e)

zero_one : {A : Type 0} → ◌≡◌ {A = ℕ} 0 1 → A
zero_one e = absurd (omega arith)

-- ---- one character

module _ {s : List ℕ} {at c v : ℕ} where
  pub moves_none : (v ≡ 1 → ⊥) → Moves s at c v 0
  moves_none n = record { of = λ comp gs l e. (λ z. zero_one z, λ z h. absurd (n z)) }

  pub moves_hit : {b : Bool} → v ≡ 1 → Hits s at c b → b ≡ true → Moves s at c v 1
  moves_hit z h y = record { of = λ comp gs l e. (λ i. (z, sym (h.of comp gs l e) ∙ y), λ i k. refl) }

  pub moves_miss : {b : Bool} → Hits s at c b → b ≡ false → Moves s at c v 0
  moves_miss h y =
      record { of = λ comp gs l e. (λ z. zero_one z, λ z k. absurd (false≢true (sym y ∙ h.of comp gs l e ∙ k))) }

module _ {s : List ℕ} {at : ℕ} {t ms : List ℕ} where
  pub moving_start : Moving s at t ms ms (length t)
  moving_start = record { long = refl; few = omega arith; low = λ j h. refl; high = λ j h k. absurd (omega arith) }

  pub moving_on :
      {ms' : List ℕ} (i v : ℕ) → 0 < i → length t < length ms → Moving s at t ms ms' i
      → Moves s at (get_or t (i - 1) 0) (get_or ms' (i - 1) 0) v → Moving s at t ms (set ms' i v) (i - 1)
  moving_on {ms'} i v p f m d =
      record {
        long = length-set ms' i v ∙ m.long;
        few = omega (arith, m.few);
        low = λ j h. get_or-set_other ms' i j v 0 (λ e. absurd (omega arith)) ∙ m.low j (omega arith);
        high =
            λ j h k. same_or_not (j + 1) i
            (λ e.
            let z : j ≡ i - 1 = omega arith in
            let a : get_or (set ms' i v) i 0 ≡ v = get_or-set_same ms' i v 0 (omega (arith, m.few, m.long)) in
            rw (e, a, z) (rw (← (m.low (i - 1) (omega arith))) d))
            (λ n. rw (get_or-set_other ms' i (j + 1) v 0 n) (m.high j (omega arith) k));
      }

  pub moving_end : {ms' : List ℕ} → Word s at 1 → length t < length ms → Moving s at t ms ms' 0 → Reached s at t once ms (set ms' 0 0)
  moving_end {ms'} d f m =
      record {
        long = length-set ms' 0 0 ∙ m.long;
        of =
            λ x r e. of_class (λ x r. Image t (Describes x) ms (set ms' 0 0)) _ _ d.is
            (λ comp gs r e. record { forth = λ j g. forth comp gs r e j g; back = λ j h g. back comp gs r e j h g })
            x r (sym (word s at d.here) ∙ e);
      }
    where
      forth :
          (comp : Bool) (gs : List Range) (r : List ℕ) → drop (at + 1) s ≡ flag comp ∷ length gs ∷ flat_ranges gs r → (j : ℕ) → Reach t (One comp gs) (In ms) j → In (set ms' 0 0) j
      forth comp gs r e j g =
          let w = g.word in
          let a = slice_first t g.from j w.char [] g.end w.eq in
          let z : g.from + 1 ≡ j = slice_nil t (g.from + 1) j (omega (arith, a.0)) g.end a.2 in
          let k = ((m.high g.from (omega arith) (omega (arith, a.0, g.end))).of comp gs r e).1 g.is_from (ap (hits comp gs) a.1 ∙ w.hit) in
          get_or-set_other ms' 0 j 0 0 (λ e. absurd (omega arith)) ∙ subst (λ i. In ms' i) z k

      back :
          (comp : Bool) (gs : List Range) (r : List ℕ) → drop (at + 1) s ≡ flag comp ∷ length gs ∷ flat_ranges gs r → (j : ℕ) → j ≤ length t → In (set ms' 0 0) j → Reach t (One comp gs) (In ms) j
      back comp gs r e zero h g = zero_one (sym (get_or-set_same ms' 0 0 0 (omega (arith, m.long))) ∙ g)
      back comp gs r e (suc k) h g =
          let a : In ms' (suc k) = sym (get_or-set_other ms' 0 (suc k) 0 0 (λ e. absurd (omega arith))) ∙ g in
          let z : k + 1 ≡ suc k = omega arith in
          let b = ((m.high k (omega arith) (omega arith)).of comp gs r e).0 (rw z a) in
          record {
            from = k;
            is_from = b.0;
            order = omega arith;
            end = h;
            word =
                record {
                  char = get_or t k 0;
                  eq = slice-cons k (suc k) t 0 (omega arith) (omega arith) ∙ ap (λ l. get_or t k 0 ∷ l) (slice_empty (suc k) t);
                  hit = b.1;
                };
          }

-- ---- copies, unions, nothing

module _ {ms q : List ℕ} where
  pub same_start : Same 0 ms q q
  same_start = record { long = refl; is = λ j h. absurd (omega arith) }

  pub same_on : {q' : List ℕ} (i v : ℕ) → i < length q → v ≡ get_or ms i 0 → Same i ms q q' → Same (i + 1) ms q (set q' i v)
  same_on {q'} i v h e m =
      record {
        long = length-set q' i v ∙ m.long;
        is =
            λ j k. same_or_not j i
            (λ z. rw z (get_or-set_same q' i v 0 (omega (arith, m.long)) ∙ e))
            (λ n. get_or-set_other q' i j v 0 n ∙ m.is j (omega arith));
      }

  pub both_start : Both 0 ms q ms false
  both_start =
      record { long = refl; forth = λ j h. absurd (omega arith); back = λ j i. inl i; rest = λ j h. refl; still = λ e j h. absurd (omega arith) }

  pub both_on :
      {ms1 ms2 : List ℕ} {b b' : Bool} (i : ℕ) → i < length ms → Both i ms q ms1 b → Adds ms1 i (get_or q i 0) b ms2 b'
      → Both (i + 1) ms q ms2 b'
  both_on {ms1} i h m (was f) =
      record {
        long = m.long;
        forth =
            λ j k. ⊎_elim
            (λ p. same_or_not j i (λ z. rw z (m.rest i (omega arith) ∙ (rw z at p))) (λ n. m.forth j (omega arith) (inl p)))
            (λ p. same_or_not j i (λ z. rw z (f (rw z at p))) (λ n. m.forth j (omega arith) (inr p)));
        back = m.back;
        rest = λ j k. m.rest j (omega arith);
        still =
            λ e j k p. same_or_not j i
            (λ z. rw z (sym (m.rest i (omega arith)) ∙ f (rw z at p)))
            (λ n. m.still e j (omega arith) p);
      }
  both_on {ms1} i h m (new v) =
      record {
        long = length-set ms1 i 1 ∙ m.long;
        forth =
            λ j k p. same_or_not j i
            (λ z. rw z (get_or-set_same ms1 i 1 0 (omega (arith, m.long))))
            (λ n. get_or-set_other ms1 i j 1 0 n ∙ m.forth j (omega arith) p);
        back =
            λ j p. same_or_not j i (λ z. inr (rw z v)) (λ n. m.back j (sym (get_or-set_other ms1 i j 1 0 n) ∙ p));
        rest = λ j k. get_or-set_other ms1 i j 1 0 (λ e. absurd (omega arith)) ∙ m.rest j (omega arith);
        still = λ e. absurd (false≢true (sym e));
      }

module _ {ms : List ℕ} where
  pub none_start : None 0 ms
  none_start = record { at = λ j h. absurd (omega arith) }

  pub none_on : (i : ℕ) → (get_or ms i 0 ≡ 1 → ⊥) → None i ms → None (i + 1) ms
  none_on i n m = record { at = λ j h p. same_or_not j i (λ z. n (rw z at p)) (λ k. m.at j (omega arith) p) }

  pub cleared_on : (i : ℕ) → i < length ms → None i ms → None (i + 1) (set ms i 0)
  cleared_on i h m =
      record {
        at =
            λ j k p. same_or_not j i
            (λ z. zero_one (sym (get_or-set_same ms i 0 0 h) ∙ (rw z at p)))
            (λ n. m.at j (omega arith) (sym (get_or-set_other ms i j 0 0 n) ∙ p));
      }

-- ---- the word 2

pub no_row : {s : List ℕ} {at : ℕ} → length s ≤ at → IsRow s at false
no_row h = record { yes = λ e. absurd (false≢true e); no' = λ e k. absurd (omega arith) }

pub is_row : {s : List ℕ} {at : ℕ} → at < length s → IsRow s at (eqb (get_or s at 0) 2)
is_row {s} {at} h =
    record { yes = λ e. record { here = h; is = eqb-true (get_or s at 0) 2 e }; no' = λ e k z. eqb-false (get_or s at 0) 2 e z }

-- ---- ends of loops

pub none_all : {ms : List ℕ} {i n : ℕ} → n ≤ i → None i ms → None n ms
none_all h m = record { at = λ j k p. m.at j (omega arith) p }

pub same_all : {ms q q' : List ℕ} {i n : ℕ} → n ≤ i → Same i ms q q' → Same n ms q q'
same_all h m = record { long = m.long; is = λ j k. m.is j (omega arith) }

pub moving_none : {s t ms ms' : List ℕ} {at i : ℕ} → i ≤ 0 → Moving s at t ms ms' i → Moving s at t ms ms' 0
moving_none {s} {t} {ms} {ms'} {at} {i} h m = let e : i ≡ 0 = omega arith in subst (λ k. Moving s at t ms ms' k) e m
