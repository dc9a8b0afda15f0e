-- Laws of effects and writers: one after the other is associative, nothing before or behind leaves a writer as it is, and marks pass items by.
use Rattle.std.specs.Prelude.{ℕ, zero, suc, ◌+◌, ◌<◌, ◌≡◌, refl, List, ◌++◌, Bool, false, ◌||◌, length}
use Rattle.std.proofs.Common.{add-zero, arith, ap, sym, ◌∙◌, append-nil, append_assoc, length-append}
use Rattle.std.proofs.Math.Path.{fun_ext}
use Rattle.std.proofs.Math.Bool.{or-false, or_assoc}
use Rattle.std.proofs.Math.Dec.{eqb-suc-zero}
use Rattle.compile_writes.specs.Effects.{Marks, no_marks, first, join_marks, Effect, join, Writer, skip, bytes, mark, verdict, seq}

-- ---- marks

-- no refusal behind one changes nothing, and the first of three is the first of them in either grouping
pub first_none : (a : ℕ) → first a 0 ≡ a
first_none zero = refl
first_none (suc a) = rw (eqb-suc-zero a)

pub first_assoc : (a b c : ℕ) → first (first a b) c ≡ first a (first b c)
first_assoc zero b c = refl
first_assoc (suc a) b c = rw (eqb-suc-zero a, eqb-suc-zero a)

-- a refusal stands, whatever follows
pub first_stands : (a b : ℕ) → 0 < a → first a b ≡ a
first_stands zero b h = absurd (omega arith)
first_stands (suc a) b h = rw (eqb-suc-zero a)

-- the same of marks
pub join_none : (m : Marks) → join_marks m no_marks ≡ m
unfolding join_marks
join_none m = λ i. record { verdict = first_none m.verdict i; beyond = or-false m.beyond i }

pub join_assoc : (l m n : Marks) → join_marks (join_marks l m) n ≡ join_marks l (join_marks m n)
unfolding join_marks
join_assoc l m n =
    λ i. record {
      verdict = first_assoc l.verdict m.verdict n.verdict i;
      beyond = or_assoc l.beyond m.beyond n.beyond i;
    }

-- ---- one after the other

-- nothing behind a writer leaves it as it is
pub seq_skip : (f : Writer) → seq f skip ≡ f
unfolding seq skip join
seq_skip f = λ i p. record { plan = append-nil (f p).plan i; pool = append-nil (f p).pool i; marks = join_none (f p).marks i }

-- nothing before a writer leaves it as it is
pub skip_seq : (f : Writer) → seq skip f ≡ f
unfolding seq skip join join_marks
skip_seq f = λ i p. f (add-zero p i)

-- and of effects
pub effect_assoc : (e f g : Effect) → join (join e f) g ≡ join e (join f g)
unfolding join
effect_assoc e f g =
    λ i. record {
      plan = append_assoc e.plan f.plan g.plan i;
      pool = append_assoc e.pool f.pool g.pool i;
      marks = join_assoc e.marks f.marks g.marks i;
    }

-- where the pool stands behind two lists of bytes
place_behind : (p : ℕ) (s t : List ℕ) → p + length (s ++ t) ≡ p + length s + length t
place_behind p s t = simp length-append (omega arith)

-- three writers in either grouping
pub seq_assoc : (f g h : Writer) → seq (seq f g) h ≡ seq f (seq g h)
unfolding seq join
seq_assoc f g h = fun_ext at
  where
    at : (p : ℕ) → seq (seq f g) h p ≡ seq f (seq g h) p
    at p =
        let s = (f p).pool in
        let t = (g (p + length s)).pool in
        ap (λ (n : ℕ). join (join (f p) (g (p + length s))) (h n)) (place_behind p s t) ∙ effect_assoc (f p) (g (p + length s)) (h (p + length s + length t))

-- ---- what is written for a form

-- its code from the pool's place on, its bytes for the pool, and what it reports
unfoldable pub translated : Bool → (ℕ → List ℕ) → List ℕ → Writer
translated b s q p = record { plan = s p; pool = q; marks = record { verdict = 0; beyond = b } }

-- with nothing to report
abbrev pub item : (ℕ → List ℕ) → List ℕ → Writer
item s q = translated false s q

-- the report alone
abbrev pub reports : Bool → Writer
reports b = mark (record { verdict = 0; beyond = b })

-- a report before what is written for a form is the form's
pub reports_translated : (b e : Bool) (s : ℕ → List ℕ) (q : List ℕ) → seq (reports b) (translated e s q) ≡ translated (b || e) s q
unfolding seq join join_marks mark translated
reports_translated b e s q = λ i p. record { plan = s (add-zero p i); pool = q; marks = record { verdict = 0; beyond = b || e } }

reports_item : (b : Bool) (s : ℕ → List ℕ) (q : List ℕ) → seq (reports b) (item s q) ≡ translated b s q
reports_item b s q = reports_translated b false s q ∙ ap (λ (e : Bool). translated e s q) (or-false b)

pub reports_behind : (b : Bool) (s : ℕ → List ℕ) (q : List ℕ) (g : Writer) → seq (reports b) (seq (item s q) g) ≡ seq (translated b s q) g
reports_behind b s q g = sym (seq_assoc (reports b) (item s q) g) ∙ ap (λ (w : Writer). seq w g) (reports_item b s q)

-- two items end to end
pub item_item : (s t : ℕ → List ℕ) (q r : List ℕ) → seq (item s q) (item t r) ≡ item (λ p. s p ++ t (p + length q)) (q ++ r)
unfolding seq join join_marks translated
item_item s t q r = refl

-- bytes behind what is written for a form
pub translated_bytes : (b : Bool) (s : ℕ → List ℕ) (q t : List ℕ) → seq (translated b s q) (bytes t) ≡ translated b (λ p. s p ++ t) q
unfolding seq join join_marks translated bytes
translated_bytes b s q t = λ i p. record { plan = s p ++ t; pool = append-nil q i; marks = record { verdict = 0; beyond = or-false b i } }

-- marks pass an item by
pub mark_item : (m : Marks) (s : ℕ → List ℕ) (q : List ℕ) → seq (mark m) (item s q) ≡ seq (item s q) (mark m)
unfolding seq join join_marks mark translated
mark_item m s q =
    fun_ext (λ p. λ i. record { plan = (ap (λ (n : ℕ). s n) (add-zero p) ∙ sym (append-nil (s p))) i; pool = sym (append-nil q) i; marks = (join_none m) i })

pub mark_passes : (m : Marks) (s : ℕ → List ℕ) (q : List ℕ) (g : Writer) → seq (mark m) (seq (item s q) g) ≡ seq (item s q) (seq (mark m) g)
mark_passes m s q g = sym (seq_assoc (mark m) (item s q) g) ∙ ap (λ (w : Writer). seq w g) (mark_item m s q) ∙ seq_assoc (item s q) (mark m) g

-- of two verdicts the first stands
pub verdict_verdict : (a b : ℕ) → seq (verdict a) (verdict b) ≡ verdict (first a b)
unfolding seq join join_marks mark
verdict_verdict a b = refl

-- no verdict behind a writer leaves it as it is, and so does none before it
pub seq_no_verdict : (f : Writer) → seq f (verdict 0) ≡ f
unfolding mark skip
seq_no_verdict f = seq_skip f

pub no_verdict_seq : (f : Writer) → seq (verdict 0) f ≡ f
unfolding mark skip
no_verdict_seq f = skip_seq f
