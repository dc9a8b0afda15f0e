-- When a writer agrees with a walk: where the walk refuses the writer's verdict says so, and where it comes to a form the writer writes the form's translation.
-- The laws here carry this through one after the other, through frames and counts, and through a change of the form.
use Rattle.std.specs.Prelude.{ℕ, ◌+◌, ◌<◌, ◌≡◌, List, ◌∷◌, ◌++◌, Bool}
use Rattle.std.proofs.Math.Path.{ap, subst, subst⁻¹}
use Rattle.std.proofs.Common.{ap₂, sym, ◌∙◌}
use Rattle.std.proofs.Math.ListN.{length}
use Rattle.definition.specs.Plans.{two, framed}
use Rattle.definition.specs.Walk.{Walked, fine, also, next}
use Rattle.definition.specs.Walk.Walked.{refused, walked}
use Rattle.compile_writes.specs.Effects.{first, join_marks, join, Writer, bytes, mark, verdict, skip, seq, frame, counted}
use Rattle.compile_writes.specs.Laws.{translated, item, reports, first_stands, seq_skip, reports_translated, reports_behind, mark_passes, translated_bytes}

-- A form x of the type A has the code `code x p` where the pool stands at p, and the bytes `pool x` for the pool. P is what else is known of it.
pub data Agrees {A : Type 0} (code : A → ℕ → List ℕ) (pool : A → List ℕ) (P : A → Type 0) (f : Writer) : Walked A → Type 0 where
  refuses : {n : ℕ} → 0 < n → ((p : ℕ) → (f p).marks.verdict ≡ n) → Agrees code pool P f (refused n)
  writes : {b : Bool} {x : A} → f ≡ translated b (code x) (pool x) → P x → Agrees code pool P f (walked b x)

module _ {A : Type 0} {code : A → ℕ → List ℕ} {pool : A → List ℕ} {P : A → Type 0} where
  -- an item for a form that has nothing to report
  pub fits : {f : Writer} (x : A) → f ≡ item (code x) (pool x) → P x → Agrees code pool P f (fine x)
  fits x e h = writes e h

  -- more, or less, that is known of the form
  pub knowing : {Q : A → Type 0} {f : Writer} {m : Walked A} → Agrees code pool P f m → ((x : A) → P x → Q x) → Agrees code pool Q f m
  knowing (refuses h v) k = refuses h v
  knowing (writes {x = x} e h) k = writes e (k x h)

  -- a report before a writer is what the walk also has
  also_agrees : (b : Bool) {f : Writer} {m : Walked A} → Agrees code pool P f m → Agrees code pool P (seq (reports b) f) (also b m)
  unfolding also seq join join_marks mark
  also_agrees b (refuses h v) = refuses h (λ p. v _)
  also_agrees b (writes {b = e} {x = x} h k) = writes (ap (seq (reports b)) h ∙ reports_translated b e (code x) (pool x)) k

module _ {A B : Type 0} {code : A → ℕ → List ℕ} {pool : A → List ℕ} {P : A → Type 0} {code' : B → ℕ → List ℕ} {pool' : B → List ℕ} {P' : B → Type 0} where
  -- one part after another: the second is held against what the walk goes on with
  pub then : {f : Writer} {m : Walked A} (g : Writer) (k : A → Walked B)
      → Agrees code pool P f m → ((x : A) → P x → Agrees code' pool' P' (seq (item (code x) (pool x)) g) (k x))
      → Agrees code' pool' P' (seq f g) (next m k)
  unfolding next seq join join_marks
  then {f} g k (refuses {n = n} h v) go = refuses h (λ p. ap (λ (a : ℕ). first a (g (p + length (f p).pool)).marks.verdict) (v p) ∙ first_stands n _ h)
  then g k (writes {b = b} {x = x} e h) go =
      subst (λ (w : Writer). Agrees code' pool' P' w (also b (k x)))
      (reports_behind b (code x) (pool x) g ∙ ap (λ (w : Writer). seq w g) (sym e))
      (also_agrees b (go x h))

  -- the same behind an item
  pub after : {f : Writer} {m : Walked A} (s : ℕ → List ℕ) (q : List ℕ) (g : Writer) (k : A → Walked B)
      → Agrees code pool P f m → ((x : A) → P x → Agrees code' pool' P' (seq (item s q) (seq (item (code x) (pool x)) g)) (k x))
      → Agrees code' pool' P' (seq (item s q) (seq f g)) (next m k)
  unfolding next seq join join_marks translated
  after {f} s q g k (refuses {n = n} h v) go =
      refuses h (λ p. ap (λ (a : ℕ). first a (g (p + length q + length (f (p + length q)).pool)).marks.verdict) (v (p + length q)) ∙ first_stands n _ h)
  after s q g k (writes {b = b} {x = x} e h) go =
      subst (λ (w : Writer). Agrees code' pool' P' w (also b (k x)))
      (mark_passes _ s q (seq (item (code x) (pool x)) g) ∙ ap (seq (item s q)) (reports_behind b (code x) (pool x) g ∙ ap (λ (w : Writer). seq w g) (sym e)))
      (also_agrees b (go x h))

  -- what the walk makes of a part's form
  pub into : {f : Writer} {m : Walked A} (k : A → Walked B)
      → Agrees code pool P f m → ((x : A) → P x → Agrees code' pool' P' (item (code x) (pool x)) (k x))
      → Agrees code' pool' P' f (next m k)
  into {f} {m} k h go =
      subst (λ (w : Writer). Agrees code' pool' P' w (next m k)) (seq_skip f)
      (then skip k h (λ x px. subst⁻¹ (λ (w : Writer). Agrees code' pool' P' w (k x)) (seq_skip (item (code x) (pool x))) (go x px)))

  -- the walk's form turned into another, with the same code and the same pool
  pub mapped : {f : Writer} {m : Walked A} (h : A → B)
      → Agrees code pool P f m → ((x : A) → P x → code x ≡ code' (h x)) → ((x : A) → P x → pool x ≡ pool' (h x)) → ((x : A) → P x → P' (h x))
      → Agrees code' pool' P' f (next m (λ x. fine (h x)))
  mapped h a cs ps hs = into (λ x. fine (h x)) a (λ x px. writes (ap₂ item (cs x px) (ps x px)) (hs x px))

module _ {A : Type 0} {code : A → ℕ → List ℕ} {pool : A → List ℕ} {P : A → Type 0} where
  -- a frame, and a count, around a writer
  pub frames : {f : Writer} {m : Walked A} (kind : ℕ) → Agrees code pool P f m → Agrees (λ x p. framed kind (code x p)) pool P (frame kind f) m
  unfolding frame translated
  frames kind (refuses h v) = refuses h v
  frames kind (writes e h) = writes (ap (frame kind) e) h

  pub counts : {f : Writer} {m : Walked A} (kind n : ℕ) → Agrees code pool P f m → Agrees (λ x p. kind ∷ (two n ++ code x p)) pool P (counted kind n f) m
  unfolding counted translated
  counts kind n (refuses h v) = refuses h v
  counts kind n (writes e h) = writes (ap (counted kind n) e) h

  -- an item before a writer
  pub before : {f : Writer} {m : Walked A} (s : ℕ → List ℕ) (q : List ℕ)
      → Agrees code pool P f m → Agrees (λ x p. s p ++ code x (p + length q)) (λ x. q ++ pool x) P (seq (item s q) f) m
  unfolding seq join join_marks translated
  before s q (refuses h v) = refuses h (λ p. v (p + length q))
  before s q (writes e h) = writes (ap (seq (item s q)) e) h

  -- bytes behind a writer
  pub behind : {f : Writer} {m : Walked A} (t : List ℕ) → Agrees code pool P f m → Agrees (λ x p. code x p ++ t) pool P (seq f (bytes t)) m
  unfolding seq join join_marks translated bytes
  behind t (refuses {n = n} h v) = refuses h (λ p. ap (λ (a : ℕ). first a 0) (v p) ∙ first_stands n 0 h)
  behind t (writes {b = b} {x = x} e h) = writes (ap (λ (w : Writer). seq w (bytes t)) e ∙ translated_bytes b (code x) (pool x) t) h
