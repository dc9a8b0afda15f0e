-- What is written stands for what was read. Assumes nothing.
use mathlib.Core.Path.{◌≡◌, refl, ap, sym, ◌∙◌, subst}
use mathlib.Core.Bool.{Bool, true, false, false≢true}
use mathlib.Core.List.{List, [], ◌∷◌, ◌++◌}
use Prim.Native.Nat.{ℕ, suc, min, ◌+◌, ◌*◌, ◌^◌, ◌≤◌, ◌<◌}
use native.Mathlib.Omega.{arith}
use native.Mathlib.Nat.{le_refl, mul-le-mul_left}
use borrow.Author.Tests.{eqb-true, eqb-false}
use lib.Dec.{eqb}
use lib.ListN.{length, set, drop, get_or, length-append, length-set, drop_of_length-le}
use lib.Seq.{slice, slice-cons, slice_empty}
use Rattle.basics.specs.Lists.{drop_at as word}
use Rattle.basics.specs.Stores.{wrote_then}
use Rattle.regex_definition.specs.Words.{Times, upto, any}
use Rattle.regex_definition.specs.Regexp.{Regexp, class, then, or, times, Describes}
use Rattle.regex_definition.specs.Agree.{told_true}
use Rattle.regex_code.specs.Flat.{flat, of_empty, of_then, of_or, of_upto, of_any, of_nothing, word_of, Word}
use Rattle.regex_code.specs.Skips.{Skips, drop_min}
use Rattle.regex_reader.proofs.Parts.{flat_behind}
use Rattle.regex_chars.specs.Laws.{slice_end, encode_all_none}
use Rattle.regex_total.specs.Answers.{Matched, Widths}
use Rattle.regex_total.proofs.Parts.{slice_join, front_same}
use Rattle.regex_needed.specs.Needed.{Alike, Goes, WroteInRoom, Instead, once, repeated, Lessened, Asks, Closes, Misses, Needed, Joint, Joins, Endless, Headed}
use Rattle.regex_needed.specs.Needed.Needed.{all, none}
use Rattle.regex_needed.specs.Needed.Endless.{zero as from-none, some as from_some}
use Rattle.regex_needed.proofs.Alike.{alike_same, alike_on, alike_back, alike_join, alike_sum, alike_times, alike_once, alike_end, alike_none, alike_needed, alike_needed_any, alike_fold, alike_few, alike_endless}

-- ---- words behind words

pub put_none : (q : List ℕ) (to v : ℕ) → length q ≤ to → to ≤ length q + 1 → WroteInRoom q to (v ∷ []) q (length q + 1)
put_none q to v h k =
    record { goes = record { long = refl; from = k; most = le_refl _ }; is = λ l. absurd (omega arith) }

pub put_one : (q : List ℕ) (to v : ℕ) → to < length q → WroteInRoom q to (v ∷ []) (set q to v) (to + 1)
put_one q to v h =
    record { goes = record { long = length-set q to v; from = omega arith; most = omega arith }; is = λ l. (refl, record { is = refl }) }

pub goes_none : (q : List ℕ) (to : ℕ) → to ≤ length q + 1 → Goes q to q to
goes_none q to h = record { long = refl; from = le_refl _; most = h }

pub goes_on : {q q1 q2 : List ℕ} {to e f : ℕ} → Goes q to q1 e → Goes q1 e q2 f → Goes q to q2 f
goes_on a b =
    record { long = b.long ∙ a.long; from = omega (arith, a.from, b.from); most = omega (arith, b.most, a.long) }

pub written_none : (q : List ℕ) (to : ℕ) → to ≤ length q + 1 → WroteInRoom q to [] q to
written_none q to h = record { goes = goes_none q to h; is = λ l. (omega arith, record { is = refl }) }

pub written_on :
    {q q1 q2 : List ℕ} {to e f : ℕ} {c d : List ℕ} → WroteInRoom q to c q1 e → WroteInRoom q1 e d q2 f → WroteInRoom q to (c ++ d) q2 f
written_on {q} {q1} {q2} {to} {e} {f} {c} {d} a b =
    record {
      goes = goes_on a.goes b.goes;
      is =
          λ l.
          let i = a.is (omega (arith, b.goes.from)) in
          let j = b.is (omega (arith, a.goes.long)) in
          let m = length-append c d in
          (omega (arith, i.0, j.0), wrote_then e i.1 i.0 j.1);
    }

pub asks_on : {t q q' : List ℕ} {to e : ℕ} → Asks t q to → Goes q to q' e → Asks t q' e
asks_on a g = record { short = a.short; place = omega (arith, g.most, g.long) }

-- one more word of the code
pub copy_more :
    (s : List ℕ) (i from : ℕ) {q q1 q2 : List ℕ} {to e f : ℕ} → from ≤ i → i < length s → WroteInRoom q to (slice from i s) q1 e
    → WroteInRoom q1 e (get_or s i 0 ∷ []) q2 f → WroteInRoom q to (slice from (i + 1) s) q2 f
copy_more s i from {q} {q1} {q2} {to} {e} {f} h k a b =
    let z : i + 1 ≡ suc i = omega arith in
    let c : slice i (suc i) s ≡ get_or s i 0 ∷ slice (suc i) (suc i) s = slice-cons i (suc i) s 0 (omega arith) (omega arith) in
    let d : slice from (suc i) s ≡ slice from i s ++ slice i (suc i) s = slice_join s from (suc i) i (omega arith) h (omega arith) in
    let g : slice from (suc i) s ≡ slice from i s ++ (get_or s i 0 ∷ []) = d ∙ ap (λ l. slice from i s ++ l) (c ∙ ap (λ l. get_or s i 0 ∷ l) (slice_empty (suc i) s)) in
    rw (z, g) (written_on a b)

-- ---- the code as it is

words_of :
    (s : List ℕ) (at m : ℕ) → at ≤ m → m ≤ length s → (x : Regexp) (r : List ℕ) → drop at s ≡ flat x r → drop m s ≡ r
    → slice at m s ≡ flat x []
words_of s at m h k x r e f =
    front_same (slice at m s) (flat x []) r
    (ap (λ l. slice at m s ++ l) (sym f ∙ sym (slice_end s m)) ∙ sym (slice_join s at (length s) m (le_refl _) h k) ∙ slice_end s at ∙ e
    ∙ flat_behind x r)

pub as_it_is :
    {s q q' : List ℕ} {at n m to e k : ℕ} → at < length s → Skips s at n → m ≡ min n (length s) → WroteInRoom q to (slice at m s) q' e
    → Lessened s at once k q to q' n e
as_it_is {s} {q} {q'} {at} {n} {m} {to} {e} {k} h j z w =
    record {
      from = j.from;
      goes = w.goes;
      of =
          λ x r c.
          let d = j.rest x r c in
          let f : drop m s ≡ r = ap (λ i. drop i s) z ∙ drop_min s n ∙ d in
          let g : slice at m s ≡ flat x [] = words_of s at m (omega (arith, j.from)) (omega arith) x r c f in
          (d, record { expr = x; written = subst (λ l. WroteInRoom q to l q' e) g w; alike = alike_same });
    }

-- ---- nothing, an end, and a lower end

pub no_text :
    {s q q' : List ℕ} {at n to e k : ℕ} → Misses s at k → Skips s at n → WroteInRoom q to (1 ∷ 0 ∷ 0 ∷ []) q' e
    → Lessened s at once k q to q' n e
no_text {s} {q} {q'} {at} {n} {to} {e} {k} m j w =
    record {
      from = j.from;
      goes = w.goes;
      of =
          λ x r c. (
            j.rest x r c,
            record {
              expr = class false [];
              written = w;
              alike = alike_none (Describes x) (Describes (class false [])) (m.of x r c) (λ w d. false≢true d.hit);
            },
          );
    }

pub closed : {s : List ℕ} {at n : ℕ} → Skips s at n → n < length s → get_or s n 0 ≡ 0 → Closes s at
closed {s} {at} {n} j h z =
    record { rest = drop (n + 1) s; of = λ x r e. sym (j.rest x r e) ∙ word s n h ∙ ap (λ k. k ∷ drop (n + 1) s) z }

pub missed : {s : List ℕ} {at n next lo hi : ℕ} → Widths s at next lo hi → n < lo → Misses s at n
missed p h = record { of = λ x r e w b d. let a = (p.of x r e).1 w d in absurd (omega arith) }

pub needs_none : {s t : List ℕ} {at lo hi : ℕ} {b : Bool} → lo ≤ hi → Matched s at t 0 0 b → b ≡ true → Needed s at lo hi 0
needs_none {s} {t} h m e = none h (λ x r c. told_true (m.of x r [] c (slice_empty 0 t ∙ sym encode_all_none)) e)

lower :
    {s : List ℕ} {at lo hi l n : ℕ} → Needed s at lo hi l → (x : Regexp) (r : List ℕ) → drop at s ≡ flat x r
    → Alike n (repeated lo hi (Describes x)) (repeated l hi (Describes x))
lower all x r e = alike_same
lower {s} {at} {lo} {hi} (none h f) x r e = alike_needed (Describes x) lo hi h (f x r e)

lower_any :
    {s : List ℕ} {at lo hi l n : ℕ} → Needed s at lo hi l → (x : Regexp) (r : List ℕ) → drop at s ≡ flat x r
    → Alike n (Times lo any (Describes x)) (Times l any (Describes x))
lower_any all x r e = alike_same
lower_any {s} {at} {lo} {hi} (none h f) x r e = alike_needed_any (Describes x) lo (f x r e)

-- ---- a repeat of a repeat

module _ {s : List ℕ} {at : ℕ} (d : Word s at 4) {k h : ℕ} (ek : k ≡ get_or s (at + 1) 0) (eh : h ≡ get_or s (at + 2) 0) where
  -- the counts and the part of the repeat at `at`
  opened :
      (F : Regexp → List ℕ → Type 0) → ((x : Regexp) (r : List ℕ) → drop (at + 3) s ≡ flat x r → F (times k (upto h) x) r)
      → (x : Regexp) (r : List ℕ) → drop at s ≡ flat x r → F x r
  opened F f x r e =
      of_upto F _ _ d.is
      (λ l n x r e.
      let a = word_of s (at + 1) l (n ∷ flat x r) e in
      let c = word_of s (at + 1 + 1) n (flat x r) a.2 in
      let z : at + 2 ≡ at + 1 + 1 = omega arith in
      let z' : at + 3 ≡ at + 1 + 1 + 1 = omega arith in
      let p : k ≡ l = ek ∙ a.1 in
      let q : h ≡ n = eh ∙ (rw z c.1) in
      rw (← p, ← q) (f x r (rw z' c.2)))
      x r (sym (word s at d.here) ∙ e)

  pub joins_once : {lo hi n l : ℕ} → lo ≡ 1 → hi ≡ 1 → Needed s (at + 3) k h l → Joins s at lo hi n l h
  joins_once {lo} {hi} {n} {l} a b m =
      record {
        of =
            opened (λ x r. Joint s at lo hi n l h (Describes x) r)
            (λ x r e. record { part = x; code = e; alike = rw (a, b) (alike_on (alike_once _) (lower m x r e)) });
      }

  pub joins_more :
      {lo hi n l p : ℕ} → lo ≤ hi → Needed s (at + 3) k h l → l ≤ 0 → p ≡ min (hi * h) n → Joins s at lo hi n 0 p
  joins_more {lo} {hi} {n} {l} {p} a m z q =
      record {
        of =
            opened (λ x r. Joint s at lo hi n 0 p (Describes x) r)
            (λ x r e.
            let y : l ≡ 0 = omega arith in
            record {
              part = x;
              code = e;
              alike =
                  rw q
                  (alike_on (alike_times (subst (λ i. Alike n (repeated k h (Describes x)) (repeated i h (Describes x))) y (lower m x r e)))
                  (alike_on (alike_fold (Describes x) lo hi h a) (alike_few (Describes x) (hi * h))));
            });
      }

  pub plain_counted :
      {n to next end : ℕ} {q q' : List ℕ} → Lessened s (at + 3) (repeated k h) n q to q' next end → Lessened s at once n q to q' next end
  plain_counted {n} {to} {next} {end} {q} {q'} l =
      record {
        from = omega (arith, l.from);
        goes = l.goes;
        of =
            opened (λ x r. (drop next s ≡ r) × Instead n (Describes x) q to q' end) (λ x r e. l.of x r e);
      }

-- ---- the words of a repeat

pub head_once : {s q : List ℕ} {at lo hi n to : ℕ} → lo ≡ 1 → hi ≡ 1 → to ≤ length q + 1 → Headed s at lo hi n q to q to
head_once {s} {q} {at} {lo} {hi} {n} {to} a b h =
    record {
      goes = goes_none q to h;
      of =
          λ x r e.
          record {
            words = [];
            wrap = λ y. y;
            code = λ y. refl;
            alike = λ y k. rw (a, b) (alike_on (alike_once _) k);
            written = written_none q to h;
          };
    }

pub head_endless :
    {s q q' : List ℕ} {at lo hi n to e next m top : ℕ} → Widths s at next m top → Endless lo hi m n → WroteInRoom q to (5 ∷ lo ∷ []) q' e
    → Headed s at lo hi n q to q' e
head_endless {s} {q} {q'} {at} {lo} {hi} {n} {to} {e} {next} {m} {top} p g w =
    record {
      goes = w.goes;
      of =
          λ x r c.
          record {
            words = 5 ∷ lo ∷ [];
            wrap = λ y. times lo any y;
            code = λ y. refl;
            alike = λ y k. alike_on (alike_endless (Describes x) lo hi m (p.of x r c).1 g) (alike_times k);
            written = w;
          };
    }

pub head_counted : {s q q' : List ℕ} {at lo hi n to e : ℕ} → WroteInRoom q to (4 ∷ lo ∷ hi ∷ []) q' e → Headed s at lo hi n q to q' e
head_counted {s} {q} {q'} {at} {lo} {hi} {n} {to} {e} w =
    record {
      goes = w.goes;
      of =
          λ x r c.
          record { words = 4 ∷ lo ∷ hi ∷ []; wrap = λ y. times lo (upto hi) y; code = λ y. refl; alike = λ y k. alike_times k; written = w };
    }

-- ---- lo to hi times what stands at a place

module _ {s : List ℕ} {at lo hi n : ℕ} {q : List ℕ} {to : ℕ} where
  pub less_nowhere : length s ≤ at → to ≤ length q + 1 → Lessened s at (repeated lo hi) n q to q at to
  less_nowhere h k =
      record {
        from = le_refl _;
        goes = goes_none q to k;
        of =
            λ x r e. of_nothing (λ x r. (drop at s ≡ r) × Instead n (repeated lo hi (Describes x)) q to q to) x r
            (sym (drop_of_length-le s h) ∙ e);
      }

  module _ {q' : List ℕ} {next end : ℕ} where
    pub less_joined :
        {l h : ℕ} → Joins s at lo hi n l h → Lessened s (at + 3) (repeated l h) n q to q' next end
        → Lessened s at (repeated lo hi) n q to q' next end
    less_joined j p =
        record {
          from = omega (arith, p.from);
          goes = p.goes;
          of =
              λ x r e.
              let i = j.of x r e in
              let o = p.of i.part r i.code in
              (o.0, record { expr = o.1.expr; written = o.1.written; alike = alike_on i.alike o.1.alike });
        }

    pub less_head :
        {q1 : List ℕ} {e : ℕ} → Headed s at lo hi n q to q1 e → Lessened s at once n q1 e q' next end
        → Lessened s at (repeated lo hi) n q to q' next end
    less_head {q1} {e} h p =
        record {
          from = p.from;
          goes = goes_on h.goes p.goes;
          of =
              λ x r c.
              let i = h.of x r c in
              let o = p.of x r c in
              let y = o.1.expr in (
                o.0,
                record {
                  expr = i.wrap y;
                  written = subst (λ l. WroteInRoom q to l q' end) (sym (i.code y)) (written_on i.written o.1.written);
                  alike = i.alike y o.1.alike;
                },
              );
        }

    pub less_ended :
        {end' : ℕ} → end' ≡ end → Lessened s at (repeated lo hi) n q to q' next end → Lessened s at (repeated lo hi) n q to q' next end'
    less_ended e p = subst (λ i. Lessened s at (repeated lo hi) n q to q' next i) (sym e) p

    -- the empty expression behind a part
    pub less_closed :
        {to' : ℕ} → Word s at 2 → Closes s (at + 1) → Lessened s (at + 1) (repeated lo hi) n q to q' next end
        → to' ≡ min next (length s) + 1 → Lessened s at (repeated lo hi) n q to q' to' end
    less_closed {to'} d c p z =
        record {
          from = omega (arith, p.from, d.here);
          goes = p.goes;
          of =
              λ x r e. of_then (λ x r. (drop to' s ≡ r) × Instead n (repeated lo hi (Describes x)) q to q' end) _ _ d.is
              (λ x y r e. by x y r (p.of x (flat y r) e) (c.of x (flat y r) e))
              x r (sym (word s at d.here) ∙ e);
        }
      where
        by :
            (x y : Regexp) (r : List ℕ) → (drop next s ≡ flat y r) × Instead n (repeated lo hi (Describes x)) q to q' end
            → flat y r ≡ 0 ∷ c.rest → (drop to' s ≡ r) × Instead n (repeated lo hi (Describes (then x y))) q to q' end
        by x y r o g =
            of_empty
            (λ y r. drop next s ≡ flat y r → (drop to' s ≡ r) × Instead n (repeated lo hi (Describes (then x y))) q to q' end)
            0 c.rest refl
            (λ r f u.
            let w = word_of s next 0 r u in
            let k : to' ≡ next + 1 = omega (arith, w.0) in (
              rw k w.2,
              record {
                expr = o.1.expr;
                written = o.1.written;
                alike = alike_on (alike_times (alike_end (Describes x))) o.1.alike;
              },
            ))
            y r (sym g) o.0

-- ---- what stands at a place

module _ {s : List ℕ} {at n : ℕ} {q q1 q2 : List ℕ} {to e f next : ℕ} where
  pub plain_least :
      {k l : ℕ} → Word s at 5 → k ≡ get_or s (at + 1) 0 → Needed s (at + 2) k k l → WroteInRoom q to (5 ∷ l ∷ []) q1 e
      → Lessened s (at + 2) (repeated 1 1) n q1 e q2 next f → Lessened s at once n q to q2 next f
  plain_least {k} {l} d z m w p =
      record {
        from = omega (arith, p.from);
        goes = goes_on w.goes p.goes;
        of =
            λ x r c. of_any (λ x r. (drop next s ≡ r) × Instead n (Describes x) q to q2 f) _ _ d.is
            (λ i x r c.
            let a = word_of s (at + 1) i (flat x r) c in
            let y : at + 2 ≡ at + 1 + 1 = omega arith in
            let g : k ≡ i = z ∙ a.1 in
            let u : drop (at + 2) s ≡ flat x r = rw y a.2 in
            let o = p.of x r u in (
              o.0,
              record {
                expr = times l any o.1.expr;
                written = written_on w o.1.written;
                alike =
                    subst (λ v. Alike n (Times v any (Describes x)) (Times l any (Describes o.1.expr))) g
                    (alike_on (lower_any m x r u) (alike_times (alike_on (alike_back (alike_once _)) o.1.alike)));
              },
            ))
            x r (sym (word s at d.here) ∙ c);
      }

  module _ {q3 : List ℕ} {g next2 : ℕ} {k : ℕ} (d : Word s at k) (w : WroteInRoom q to (k ∷ []) q1 e)
      (a : Lessened s (at + 1) (repeated 1 1) n q1 e q2 next f) (b : Lessened s next (repeated 1 1) n q2 f q3 next2 g) where
    itself : {P Q : List ℕ → Type 0} → Alike n (repeated 1 1 P) Q → Alike n P Q
    itself h = alike_on (alike_back (alike_once _)) h

    both_written :
        (x y : Regexp) → WroteInRoom q1 e (flat x []) q2 f → WroteInRoom q2 f (flat y []) q3 g → WroteInRoom q to (k ∷ flat x (flat y [])) q3 g
    both_written x y i j =
        subst (λ l. WroteInRoom q to (k ∷ l) q3 g) (sym (flat_behind x (flat y []))) (written_on (written_on w i) j)

    plain_then : k ≡ 2 → Lessened s at once n q to q3 next2 g
    plain_then z =
        record {
          from = omega (arith, a.from, b.from);
          goes = goes_on w.goes (goes_on a.goes b.goes);
          of =
              λ x r c. of_then (λ x r. (drop next2 s ≡ r) × Instead n (Describes x) q to q3 g) _ _ (d.is ∙ z)
              (λ x y r c.
              let i = a.of x (flat y r) c in
              let j = b.of y r i.0 in (
                j.0,
                record {
                  expr = then i.1.expr j.1.expr;
                  written =
                      subst (λ h. WroteInRoom q to (h ∷ flat i.1.expr (flat j.1.expr [])) q3 g) z
                      (both_written i.1.expr j.1.expr i.1.written j.1.written);
                  alike = alike_join (itself i.1.alike) (itself j.1.alike);
                },
              ))
              x r (sym (word s at d.here) ∙ c);
        }

    plain_or_lem : k ≡ 3 → Lessened s at once n q to q3 next2 g
    plain_or_lem z =
        record {
          from = omega (arith, a.from, b.from);
          goes = goes_on w.goes (goes_on a.goes b.goes);
          of =
              λ x r c. of_or (λ x r. (drop next2 s ≡ r) × Instead n (Describes x) q to q3 g) _ _ (d.is ∙ z)
              (λ x y r c.
              let i = a.of x (flat y r) c in
              let j = b.of y r i.0 in (
                j.0,
                record {
                  expr = or i.1.expr j.1.expr;
                  written =
                      subst (λ h. WroteInRoom q to (h ∷ flat i.1.expr (flat j.1.expr [])) q3 g) z
                      (both_written i.1.expr j.1.expr i.1.written j.1.written);
                  alike = alike_sum (itself i.1.alike) (itself j.1.alike);
                },
              ))
              x r (sym (word s at d.here) ∙ c);
        }

    pub plain_pair : (2 ≤ k) × (k ≤ 3) → Lessened s at once n q to q3 next2 g
    plain_pair h = go (eqb k 2) refl
      where
        go : (i : Bool) → eqb k 2 ≡ i → Lessened s at once n q to q3 next2 g
        go true o = plain_then (eqb-true k 2 o)
        go false o = plain_or_lem (let i = eqb-false k 2 o in omega arith)

-- ---- products that fit, and an upper end that is not reached

pub words_product : (a b : ℕ) → a < 2 ^ 32 → b < 2 ^ 32 → a * b < 2 ^ 64
words_product a b p q = let h : a * b ≤ a * 4294967295 = mul-le-mul_left a (omega arith) in omega arith

pub lengths_product : (a b : ℕ) → a ≤ 2 ^ 31 → b < 2 ^ 32 → a * b < 2 ^ 64
lengths_product a b p q = words_product a b (omega arith) q

pub few_enough : {lo hi m n h : ℕ} → lo ≡ 0 → h ≡ hi → n ≤ h → Endless lo hi m n
few_enough z e k = from-none z (omega arith)

pub long_enough : {lo hi m n h : ℕ} → (m ≡ 0 → ⊥) → h ≡ hi → n ≤ m * h → Endless lo hi m n
long_enough {lo} {hi} {m} {n} {h} z e k = from_some (omega arith) (subst (λ v. n ≤ m * v) e k)
