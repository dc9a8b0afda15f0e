-- A rule's text read in part, and how to go on: the same for every rule.
use Rattle.std.specs.Prelude.{◌≡◌, refl, List, ℕ}
use Rattle.std.proofs.Common.{sym, ap, ◌∙◌}
use Rattle.basics.specs.Reads.{Reads, ReadsNone}

-- Of s₀, to be read as a T, s is left, to be read as a U: a U read at s makes a T at s₀, and each T at s₀ comes of a U at s. `act` takes what is known of the U to what is known of the T.
pub record So {T U M N : Type 0} (spT : T → List ℕ → List ℕ) (meT : T → M) (spU : U → List ℕ → List ℕ) (meU : U → N) (May : List ℕ → Type 0) (s₀ s : List ℕ) (act : N → M) : Type 0 where
  pub fill : U → T
  pub fwd : (u : U) (r : List ℕ) → s ≡ spU u r → s₀ ≡ spT (fill u) r
  pub cod : (u : U) → meT (fill u) ≡ act (meU u)
  pub bwd : (t' : T) (r' : List ℕ) → May r' → s₀ ≡ spT t' r' → (u' : U) × (s ≡ spU u' r') × (meT t' ≡ act (meU u'))

-- at the start all is left
pub so_start : {T M : Type 0} (sp : T → List ℕ → List ℕ) (me : T → M) (May : List ℕ → Type 0) (s : List ℕ) → So sp me sp me May s s (λ m. m)
so_start sp me May s = record { fill = λ u. u; fwd = λ u r e. e; cod = λ u. refl; bwd = λ t' r' a e. (t', e, refl) }

module _ {T U M N : Type 0} {spT : T → List ℕ → List ℕ} {meT : T → M} {spU : U → List ℕ → List ℕ} {meU : U → N} {May : List ℕ → Type 0} {s₀ s : List ℕ} (act : N → M) (so : So spT meT spU meU May s₀ s act) where
  -- what was left is read, where what may follow the whole may follow the part
  pub so_reads : {May' : List ℕ → Type 0} {u : U} {r : List ℕ} → ((l : List ℕ) → May l → May' l) → Reads spU meU May' s u r → Reads spT meT May s₀ (so.fill u) r
  so_reads {u = u} {r = r} may o = record {
    eq = so.fwd u r o.eq;
    only = λ t' r' a e.
        let h = so.bwd t' r' a e in
        let g = o.only h.0 r' (may r' a) h.1 in
        (h.2 ∙ ap act g.0 ∙ sym (so.cod u), g.1);
  }

  -- what was left cannot be read
  pub so_none : {May' : List ℕ → Type 0} → ((l : List ℕ) → May l → May' l) → ReadsNone spU May' s → ReadsNone spT May s₀
  so_none may f = record {
    none = λ t' r' a e.
        let h = so.bwd t' r' a e in
        f.none h.0 r' (may r' a) h.1;
  }
