-- Marks that are moved: two parts side by side, one copy more, and a copy that may follow itself. Assumes nothing.
use mathlib.Core.Path.{◌≡◌, refl, sym, ◌∙◌, subst}
use mathlib.Core.Bool.{Bool, false, ◌&&◌, ◌||◌}
use mathlib.Core.List.{List, []}
use Prim.Native.Nat.{ℕ, zero, suc, pred, ◌+◌, ◌≤◌, ◌<◌}
use native.Mathlib.Omega.{arith}
use lib.ListN.{length, get_or, set}
use lib.Seq.{get_or-set_same, get_or-set_other}
use lib.Dec.{eqb, leb}
use Rattle.regex_definition.specs.Words.{Times, upto, any, Told}
use Rattle.regex_definition.specs.Regexp.{Regexp, then, or, times, Describes}
use Rattle.regex_marks.specs.Marks.{size, Rest, Good}
use Rattle.regex_marks.specs.Turn.{Turn}
use Rattle.regex_marks.specs.Moves.{Kept, Moved}
use Rattle.regex_marks.proofs.Turns.{turn_same, turn_or, turn_then, turn_last, turn_more, turn_plus, turn_next}
use Rattle.regex_marks.proofs.Frames.{Same, flip, below, above, frame, good_frame}

pub kept_refl : {lo hi : ℕ} {ms : List ℕ} → Kept lo hi ms ms
kept_refl = record { low = λ i p. refl; high = λ i p. refl }

-- two parts, side by side: what the second leaves of the first, and what the first leaves of the second
module _
    {x y : Regexp} {b c : ℕ} {ms ms1 ms2 : List ℕ} {m m2 : Bool} {n n2 : ℕ} {e v w e2 v2 w2 : Bool}
    (p : Moved x b ms ms1 m c n e v w) (q : Moved y (b + n) ms1 ms2 m2 c n2 e2 v2 w2)
  where
    first_same : Same b (b + size x) ms1 ms2
    first_same = below b (b + size x) (omega (arith, p.wide)) q.kept

    first_turn : Turn (Describes x) (Rest x b ms) (Rest x b ms2) m c e v w
    first_turn =
        turn_same (Rest x b ms) (Rest x b ms2) (λ u r. r) (λ u r. r) (frame x b ms1 ms2 first_same)
        (frame x b ms2 ms1 (flip first_same)) p.turn

    first_good : Good x b ms2
    first_good = good_frame x b ms1 ms2 first_same p.good

    second_same : Same (b + size x) (b + size x + size y) ms ms1
    second_same = above (b + size x) (b + size x + size y) (omega (arith, p.wide)) p.kept

    second_turn : Turn (Describes y) (Rest y (b + size x) ms) (Rest y (b + size x) ms2) m2 c e2 v2 w2
    second_turn =
        turn_same (Rest y (b + size x) ms) (Rest y (b + size x) ms2) (frame y (b + size x) ms1 ms (flip second_same))
        (frame y (b + size x) ms ms1 second_same) (λ u r. r) (λ u r. r)
        (subst (λ k. Turn (Describes y) (Rest y (b + k) ms1) (Rest y (b + k) ms2) m2 c e2 v2 w2) p.wide q.turn)

    second_good : Good y (b + size x) ms2
    second_good = subst (λ k. Good y (b + k) ms2) p.wide q.good

    pub both_kept : Kept b (b + (n + n2)) ms ms2
    both_kept =
        record {
          low = λ i h. q.kept.low i (omega arith) ∙ p.kept.low i h;
          high = λ i h. q.kept.high i (omega arith) ∙ p.kept.high i (omega arith);
        }

    both_wide : n + n2 ≡ size x + size y
    both_wide = omega (arith, p.wide, q.wide)

-- what the second part asks, before it is read
pub second_ready :
    {x : Regexp} (y : Regexp) {b c : ℕ} {ms ms1 : List ℕ} {m : Bool} {n : ℕ} {e v w : Bool} → Moved x b ms ms1 m c n e v w
    → Good y (b + size x) ms → Good y (b + n) ms1
second_ready {x} y {b} {ms} {ms1} p g =
    subst (λ k. Good y (b + k) ms1) (sym p.wide)
    (good_frame y (b + size x) ms ms1 (above (b + size x) (b + size x + size y) (omega (arith, p.wide)) p.kept) g)

module _
    {x y : Regexp} {b c : ℕ} {ms ms1 ms2 : List ℕ} {m m2 : Bool} {n n2 : ℕ} {e v w e2 v2 w2 : Bool}
    (p : Moved x b ms ms1 m c n e v w) (q : Moved y (b + n) ms1 ms2 m2 c n2 e2 v2 w2)
  where
    pub moved_then :
        m2 ≡ (v || (m && e)) → Moved (then x y) b ms ms2 m c (n + n2) (e && e2) ((v && e2) || v2) ((w && e2) || w2)
    moved_then h =
        record {
          wide = both_wide p q;
          turn =
              turn_then (first_turn p q)
              (subst (λ k. Turn (Describes y) (Rest y (b + size x) ms) (Rest y (b + size x) ms2) k c e2 v2 w2) h (second_turn p q));
          good = (first_good p q, second_good p q);
          kept = both_kept p q;
        }

    pub moved_or : m2 ≡ m → Moved (or x y) b ms ms2 m c (n + n2) (e || e2) (v || v2) (w || w2)
    moved_or h =
        record {
          wide = both_wide p q;
          turn =
              turn_or (first_turn p q)
              (subst (λ k. Turn (Describes y) (Rest y (b + size x) ms) (Rest y (b + size x) ms2) k c e2 v2 w2) h (second_turn p q));
          good = (first_good p q, second_good p q);
          kept = both_kept p q;
        }

-- one copy more
module _
    {x : Regexp} (lo h : ℕ) {b c : ℕ} {ms ms1 ms2 : List ℕ} {m m2 : Bool} {n n2 : ℕ} {e v w e2 v2 w2 : Bool}
    (p : Moved x b ms ms1 m c n e v w) (q : Moved (times (pred lo) (upto h) x) (b + n) ms1 ms2 m2 c n2 e2 v2 w2)
  where
    pub moved_more :
        m2 ≡ (v || (m && e))
        → Moved (times lo (upto (suc h)) x) b ms ms2 m c (n + n2) (eqb lo 0 || (e && e2)) ((v && e2) || v2) ((w && e2) || w2)
    moved_more g =
        record {
          wide = both_wide p q;
          turn =
              turn_more (Describes x) lo h (first_turn p q)
              (subst
              (λ k. Turn (Times (pred lo) (upto h) (Describes x)) (Rest (times (pred lo) (upto h) x) (b + size x) ms) (Rest (times (pred lo) (upto h) x) (b + size x) ms2) k c e2 v2 w2)
              g (second_turn p q));
          good = (first_good p q, second_good p q);
          kept = both_kept p q;
        }

module _
    {x : Regexp} (l : ℕ) {b c : ℕ} {ms ms1 ms2 : List ℕ} {m m2 : Bool} {n n2 : ℕ} {e v w e2 v2 w2 : Bool}
    (p : Moved x b ms ms1 m c n e v w) (q : Moved (times (suc l) any x) (b + n) ms1 ms2 m2 c n2 e2 v2 w2)
  where
    pub moved_next :
        m2 ≡ (v || (m && e))
        → Moved (times (suc (suc l)) any x) b ms ms2 m c (n + n2) (e && e2) ((v && e2) || v2) ((w && e2) || w2)
    moved_next g =
        record {
          wide = both_wide p q;
          turn =
              turn_next (Describes x) l (first_turn p q)
              (subst
              (λ k. Turn (Times (suc l) any (Describes x)) (Rest (times (suc l) any x) (b + size x) ms) (Rest (times (suc l) any x) (b + size x) ms2) k c e2 v2 w2)
              g (second_turn p q));
          good = (first_good p q, second_good p q);
          kept = both_kept p q;
        }

-- none behind the last
pub moved_last :
    (x : Regexp) (lo : ℕ) {b c : ℕ} {ms : List ℕ} {m : Bool}
    → Moved (times (pred lo) (upto 0) x) b ms ms m c 0 (leb lo 1) false false
moved_last x lo = record { wide = refl; turn = turn_last (Describes x) lo; good = tt; kept = kept_refl }

-- a copy that may follow itself: its mark stands before it
module _
    {x : Regexp} {b c : ℕ} {ms ms1 : List ℕ} {m2 : Bool} {n : ℕ} {e v w : Bool} (p : Moved x (b + 1) ms ms1 m2 c n e v w)
    (k : ℕ) (s : b < length ms1) (k-is : eqb k 1 ≡ w)
  where
    loop_same : Same (b + 1) (b + 1 + size x) ms1 (set ms1 b k)
    loop_same = record { at = λ i u v. get_or-set_other ms1 b i k 0 (λ e. omega arith) }

    loop_kept : Kept b (b + (1 + n)) ms (set ms1 b k)
    loop_kept =
        record {
          low = λ i h. get_or-set_other ms1 b i k 0 (λ e. omega arith) ∙ p.kept.low i (omega arith);
          high = λ i h. get_or-set_other ms1 b i k 0 (λ e. omega arith) ∙ p.kept.high i (omega arith);
        }

    loop_turn : Turn (Describes x) (Rest x (b + 1) ms) (Rest x (b + 1) (set ms1 b k)) m2 c e v w
    loop_turn =
        turn_same (Rest x (b + 1) ms) (Rest x (b + 1) (set ms1 b k)) (λ u r. r) (λ u r. r)
        (frame x (b + 1) ms1 (set ms1 b k) loop_same) (frame x (b + 1) (set ms1 b k) ms1 (flip loop_same)) p.turn

    loop_good : Told (Rest x (b + 1) (set ms1 b k) []) (eqb (get_or (set ms1 b k) b 0) 1) × Good x (b + 1) (set ms1 b k)
    loop_good = (
      rw (get_or-set_same ms1 b k 0 s, k-is) loop_turn.on_now,
      good_frame x (b + 1) ms1 (set ms1 b k) loop_same p.good,
    )

    pub moved_loop :
        {m : Bool} (lo : ℕ) → lo ≤ 1 → (f : Bool) → m2 ≡ (m || f) → f ≡ eqb (get_or ms b 0) 1 → Good (times lo any x) b ms
        → Moved (times lo any x) b ms (set ms1 b k) m c (1 + n) (eqb lo 0 || e) v w
    moved_loop zero h f q g d =
        record {
          wide = omega (arith, p.wide);
          turn =
              turn_plus (Describes x) 0 h f (rw g d.0)
              (subst (λ k'. Turn (Describes x) (Rest x (b + 1) ms) (Rest x (b + 1) (set ms1 b k)) k' c e v w) q loop_turn);
          good = loop_good;
          kept = loop_kept;
        }
    moved_loop (suc zero) h f q g d =
        record {
          wide = omega (arith, p.wide);
          turn =
              turn_plus (Describes x) 1 h f (rw g d.0)
              (subst (λ k'. Turn (Describes x) (Rest x (b + 1) ms) (Rest x (b + 1) (set ms1 b k)) k' c e v w) q loop_turn);
          good = loop_good;
          kept = loop_kept;
        }
    moved_loop (suc (suc l)) h f q g d = absurd (omega arith)
