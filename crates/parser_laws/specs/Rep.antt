-- The laws of *( S sep S item ), for every rule of this shape: `&&`, `||`, and the commas of selectors and of arguments.
use Rattle.std.specs.Prelude.{◌≡◌, refl, false, ◌⊎◌, List, ◌∷◌, ℕ, ◌+◌, ◌<◌, length}
use Rattle.std.proofs.Common.{sym, ap, subst, ◌∙◌, ⊎_elim, arith}
use Rattle.definition.specs.Lexical.{Blanks, is_blank, spell_blanks}
use Rattle.parser_follow.specs.Blanks.{split_blanks, unblank_blanks}
use Rattle.basics.specs.Reads.{Reads, ReadsNone}
use Rattle.compile_writes.specs.Effects.{Effect, join}
use Rattle.parser_follow.specs.Follow.{unblank, level_of, After, after_not, after_weaken}
use Rattle.parser_laws.specs.Follows.{after_blanks}
use Rattle.parser_laws.specs.So.{So}

-- A rule of this shape. I are the items, of level j, L the lists, of level k, and K what is known of what stands before: in a context κ an item i read at the pool place p
-- tells `tell p i`, has the effect `does κ i p`, and leaves the context `then κ i`.
pub record Rep {I L K : Type 0} (spI : I → List ℕ → List ℕ) (tell : ℕ → I → Effect × ℕ) (j : ℕ) (spL : L → List ℕ → List ℕ) (me : K → ℕ → L → Effect × ℕ) (k x : ℕ) : Type 0 where
  pub sep : List ℕ → List ℕ
  pub byte : (r : List ℕ) → (l : List ℕ) × (sep r ≡ x ∷ l)
  pub same : {r l : List ℕ} → sep r ≡ sep l → r ≡ l
  pub nil : L
  pub more : Blanks → Blanks → I → L → L
  pub sp_nil : (r : List ℕ) → spL nil r ≡ r
  pub sp_more : (b c : Blanks) (i : I) (l : L) (r : List ℕ) → spL (more b c i l) r ≡ spell_blanks b (sep (spell_blanks c (spI i (spL l r))))
  pub view : (l : L) → (l ≡ nil) ⊎ ((b : Blanks) × (c : Blanks) × (i : I) × (l' : L) × (l ≡ more b c i l'))
  pub start : (i : I) (r : List ℕ) → unblank (spI i r) ≡ spI i r
  pub plain : is_blank x ≡ false
  pub ranked : level_of x ≡ k
  pub below : j < k
  -- the place of the pool at which an item behind the separator begins, its effect with the separator's, and the context behind it, all by what the item tells
  pub from : K → ℕ → ℕ
  pub does : K → ℕ → Effect × ℕ → Effect
  pub then : K → Effect × ℕ → K
  pub me_more : (κ : K) (p : ℕ) (b c : Blanks) (i : I) (l : L)
      → me κ p (more b c i l) ≡ (join (does κ p (tell (from κ p) i)) (me (then κ (tell (from κ p) i)) (p + length (does κ p (tell (from κ p) i)).pool) l).0, (me (then κ (tell (from κ p) i)) (p + length (does κ p (tell (from κ p) i)).pool) l).1)

-- the effect e before, and what is told is told on
abbrev pub behind : Effect → Effect × ℕ → Effect × ℕ
behind e m = (join e m.0, m.1)

module _ {I L K : Type 0} {spI : I → List ℕ → List ℕ} {tell : ℕ → I → Effect × ℕ} {j : ℕ} {spL : L → List ℕ → List ℕ} {me : K → ℕ → L → Effect × ℕ} {k x : ℕ} (R : Rep spI tell j spL me k x) where
  -- behind blanks the separator stands first
  unblank_sep : (b : Blanks) (r : List ℕ) → unblank (spell_blanks b (R.sep r)) ≡ R.sep r
  unblank_sep b r =
      let y = R.byte r in
      unblank_blanks b (R.sep r) ∙ rw (y.1, R.plain) refl

  -- what may follow the list may follow each item
  pub rep_follow : (u : L) (r : List ℕ) → After k r → After j (spL u r)
  rep_follow u r a =
      ⊎_elim
      (λ e. subst (After j) (sym (ap (λ (l : L). spL l r) e ∙ R.sp_nil r)) (after_weaken j k (omega (arith, R.below)) a))
      (λ e.
      let y = R.byte (spell_blanks e.1 (spI e.2 (spL e.3 r))) in
      subst (After j) (sym (ap (λ (l : L). spL l r) e.4 ∙ R.sp_more e.0 e.1 e.2 e.3 r)) (subst (λ (z : List ℕ). After j (spell_blanks e.0 z)) (sym y.1) (after_blanks j e.0 x _ R.plain (rw R.ranked R.below))))
      (R.view u)

  module _ {M : Type 0} {meT : L → M} {s₀ s : List ℕ} (κ : K) (p : ℕ) (act : Effect × ℕ → M) (so : So spL meT spL (me κ p) (After k) s₀ s act) where
    -- a list that is left at a separator has an item behind it
    pub rep_next : (s₁ : List ℕ) → unblank s ≡ R.sep s₁ → (t' : L) (r' : List ℕ) → After k r' → s₀ ≡ spL t' r'
        → (b : Blanks) × (c : Blanks) × (i' : I) × (u' : L) × (unblank s₁ ≡ spI i' (spL u' r')) × (meT t' ≡ act (me κ p (R.more b c i' u')))
    rep_next s₁ n t' r' a e =
        let h = so.bwd t' r' a e in
        ⊎_elim
        (λ v.
        let y = R.byte s₁ in
        absurd (after_not k x (ap unblank (sym (h.1 ∙ ap (λ (l : L). spL l r') v ∙ R.sp_nil r')) ∙ n ∙ y.1) (rw R.ranked (omega arith)) a))
        (λ v.
        let f : s ≡ spell_blanks v.0 (R.sep (spell_blanks v.1 (spI v.2 (spL v.3 r')))) = h.1 ∙ ap (λ (l : L). spL l r') v.4 ∙ R.sp_more v.0 v.1 v.2 v.3 r' in
        let g = R.same (sym n ∙ ap unblank f ∙ unblank_sep v.0 _) in
        (v.0, v.1, v.2, v.3, ap unblank g ∙ unblank_blanks v.1 _ ∙ R.start v.2 _, h.2 ∙ ap (λ (l : L). act (me κ p l)) v.4))
        (R.view h.0)

    -- one item more is read
    pub rep_more : {s₁ : List ℕ} {i : I} {r : List ℕ} → unblank s ≡ R.sep s₁ → Reads spI (tell (R.from κ p)) (After j) (unblank s₁) i r
        → So spL meT spL (me (R.then κ (tell (R.from κ p) i)) (p + length (R.does κ p (tell (R.from κ p) i)).pool)) (After k) s₀ r (λ m. act (behind (R.does κ p (tell (R.from κ p) i)) m))
    rep_more {s₁} {i} {r} n o =
        let b = split_blanks s in
        let c = split_blanks s₁ in
        record {
          fill = λ u. so.fill (R.more b.0 c.0 i u);
          fwd = λ u r' e. so.fwd (R.more b.0 c.0 i u) r'
              (b.1 ∙ ap (spell_blanks b.0) (n ∙ ap R.sep (c.1 ∙ ap (spell_blanks c.0) (o.eq ∙ ap (spI i) e))) ∙ sym (R.sp_more b.0 c.0 i u r'));
          cod = λ u. so.cod (R.more b.0 c.0 i u) ∙ ap act (R.me_more κ p b.0 c.0 i u);
          bwd = λ t' r' a e.
              let h = rep_next s₁ n t' r' a e in
              let g = o.only h.2 (spL h.3 r') (rep_follow h.3 r' a) h.4 in
              (h.3, sym g.1, h.5 ∙ ap act (R.me_more κ p h.0 h.1 h.2 h.3 ∙ ap (λ (t : Effect × ℕ). behind (R.does κ p t) (me (R.then κ t) (p + length (R.does κ p t).pool) h.3)) g.0));
        }

    -- no separator stands there: the list ends
    pub rep_end : ((s₁ : List ℕ) → unblank s ≡ R.sep s₁ → ⊥) → Reads spL meT (After k) s₀ (so.fill R.nil) s
    rep_end n = record {
      eq = so.fwd R.nil s (sym (R.sp_nil s));
      only = λ t' r' a e.
          let h = so.bwd t' r' a e in
          ⊎_elim
          (λ v. (h.2 ∙ ap (λ (l : L). act (me κ p l)) v ∙ sym (so.cod R.nil), sym (h.1 ∙ ap (λ (l : L). spL l r') v ∙ R.sp_nil r')))
          (λ v. absurd (n _ (ap unblank (h.1 ∙ ap (λ (l : L). spL l r') v.4 ∙ R.sp_more v.0 v.1 v.2 v.3 r') ∙ unblank_sep v.0 _)))
          (R.view h.0);
    }

    -- a separator with no item behind it: there is no list
    pub rep_none : {s₁ : List ℕ} → unblank s ≡ R.sep s₁ → ReadsNone spI (After j) (unblank s₁) → ReadsNone spL (After k) s₀
    rep_none {s₁} n f = record {
      none = λ t' r' a e.
          let h = rep_next s₁ n t' r' a e in
          f.none h.2 (spL h.3 r') (rep_follow h.3 r' a) h.4;
    }
