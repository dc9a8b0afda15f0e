-- *( S "," S selector ), read up to blanks; n is the number of selectors so far.
use Rattle.std.specs.Prelude.{◌≡◌, refl, List, ◌∷◌, ℕ, suc, ◌+◌, length}
use Rattle.std.proofs.Common.{sym, ap, ◌∙◌, arith, lit<, lit≤}
use Rattle.definition.specs.Lexical.{Blanks, Bound, spell_blanks, spell_bound}
use Rattle.definition.specs.Lexical.Bound.{no_bound, bound}
use Rattle.definition.specs.Grammar.{Selector, Selectors, spell_selector, spell_selectors}
use Rattle.definition.specs.Grammar.Selector.{name_selector, wildcard_selector, slice_selector, index_selector, filter_selector}
use Rattle.definition.specs.Grammar.Selectors.{no_selector, more_selectors}
use Rattle.basics.specs.Lists.{same_tail}
use Rattle.parser_follow.specs.Blanks.{split_blanks, unblank_blanks}
use Rattle.basics.specs.Reads.{ReadsNone}
use Rattle.compile_writes.specs.Effects.{Effect, join, seq}
use Rattle.compile_writes.specs.Writes.{write_selector, write_selectors, count_more}
use Rattle.parser_follow.specs.Follow.{unblank, After, after_not, after_weaken}
use Rattle.parser_follow.specs.Numbers.{plain_flag}
use Rattle.parser_laws.specs.Starts.{int_start, quote_start}
use Rattle.parser_laws.specs.Follows.{after_blanks}
use Rattle.parser_laws.specs.Loose.{Loosely, after_same}
use Rattle.parser_laws.specs.Rep.{behind}

abbrev pub me_selector : ℕ → Selector → Effect × ℕ
me_selector p t = (write_selector t p, plain_flag t)

abbrev pub me_selectors : ℕ → ℕ → Selectors → Effect × ℕ
me_selectors n p t = (write_selectors t p, n + count_more t)

bound_start : (b : Bound) (r : List ℕ) → unblank (spell_bound b (0x3A ∷ r)) ≡ spell_bound b (0x3A ∷ r)
bound_start no_bound r = refl
bound_start (bound i b) r = int_start i _

pub selector_start : (x : Selector) (r : List ℕ) → unblank (spell_selector x r) ≡ spell_selector x r
selector_start (name_selector t) r = quote_start t.quote _
selector_start wildcard_selector r = refl
selector_start (slice_selector s) r = bound_start s.start _
selector_start (index_selector i) r = int_start i r
selector_start (filter_selector b e) r = refl

selectors_go_on : (n p : ℕ) (b c : Blanks) (x : Selector) (xs : Selectors)
    → me_selectors n p (more_selectors b c x xs) ≡ (join (write_selector x p) (write_selectors xs (p + length (write_selector x p).pool)), n + 1 + count_more xs)
unfolding write_selectors seq count_more
selectors_go_on n p b c x xs =
    let e : n + suc (count_more xs) ≡ n + 1 + count_more xs = omega arith in
    λ i. (join (write_selector x p) (write_selectors xs (p + length (write_selector x p).pool)), e i)

-- what may follow the list may follow each selector
pub selectors_follow : (u : Selectors) (r : List ℕ) → After 5 r → After 4 (spell_selectors u r)
selectors_follow no_selector r a = after_weaken 4 5 (lit≤ tt) a
selectors_follow (more_selectors b c x u) r a = after_blanks 4 b 0x2C _ refl (lit< tt)

-- a list that is spelled but for blanks at s is spelled at s with other blanks
pub record Reblanked (s : List ℕ) (t' : Selectors) (r' : List ℕ) : Type 0 where
  pub list : Selectors
  pub rest : List ℕ
  pub eq : s ≡ spell_selectors list rest
  pub same : unblank rest ≡ unblank r'
  pub means : (n p : ℕ) → me_selectors n p list ≡ me_selectors n p t'

pub reblank : (s : List ℕ) (t' : Selectors) (r' : List ℕ) → unblank s ≡ unblank (spell_selectors t' r') → Reblanked s t' r'
unfolding write_selectors count_more
reblank s no_selector r' e = record { list = no_selector; rest = s; eq = refl; same = e; means = λ n p. refl }
reblank s (more_selectors b c x u) r' e =
    let d = split_blanks s in
    record { list = more_selectors d.0 c x u; rest = r'; eq = d.1 ∙ ap (spell_blanks d.0) (e ∙ unblank_blanks b _); same = refl; means = λ n p. refl }

-- Of s₀, to be read as further selectors, s is left: a list read at s makes one at s₀, and each at s₀ comes of one at s, but for blanks.
pub record Left {M : Type 0} (meT : Selectors → M) (n p : ℕ) (s₀ s : List ℕ) (act : Effect × ℕ → M) : Type 0 where
  pub fill : Selectors → Selectors
  pub fwd : (u : Selectors) (r : List ℕ) → s ≡ spell_selectors u r → s₀ ≡ spell_selectors (fill u) r
  pub cod : (u : Selectors) → meT (fill u) ≡ act (me_selectors n p u)
  pub bwd : (t' : Selectors) (r' : List ℕ) → After 5 r' → s₀ ≡ spell_selectors t' r'
      → (u' : Selectors) × (r : List ℕ) × (s ≡ spell_selectors u' r) × (unblank r ≡ unblank r') × (meT t' ≡ act (me_selectors n p u'))

pub left_start : (n p : ℕ) (s : List ℕ) → Left (me_selectors n p) n p s s (λ m. m)
left_start n p s = record { fill = λ u. u; fwd = λ u r e. e; cod = λ u. refl; bwd = λ t' r' a e. (t', r', e, refl, refl) }

module _ {M : Type 0} {meT : Selectors → M} {s₀ s : List ℕ} (n p : ℕ) (act : Effect × ℕ → M) (so : Left meT n p s₀ s act) where
  -- a list that is left at a comma has a selector behind it
  left_next : (s₁ : List ℕ) → unblank s ≡ 0x2C ∷ s₁ → (t' : Selectors) (r' : List ℕ) → After 5 r' → s₀ ≡ spell_selectors t' r'
      → (b : Blanks) × (c : Blanks) × (x' : Selector) × (u' : Selectors) × (r : List ℕ) × (unblank s₁ ≡ spell_selector x' (spell_selectors u' r)) × (unblank r ≡ unblank r') × (meT t' ≡ act (me_selectors n p (more_selectors b c x' u')))
  left_next s₁ d t' r' a e =
      let h = so.bwd t' r' a e in
      go h.0 h.1 h.2 h.3 h.4
    where
      go : (u : Selectors) (r : List ℕ) → s ≡ spell_selectors u r → unblank r ≡ unblank r' → meT t' ≡ act (me_selectors n p u)
          → (b : Blanks) × (c : Blanks) × (x' : Selector) × (u' : Selectors) × (r : List ℕ) × (unblank s₁ ≡ spell_selector x' (spell_selectors u' r)) × (unblank r ≡ unblank r') × (meT t' ≡ act (me_selectors n p (more_selectors b c x' u')))
      go no_selector r f g m = absurd (after_not 5 {s = r} 0x2C {r = s₁} (ap unblank (sym f) ∙ d) (lit≤ tt) (after_same 5 g a))
      go (more_selectors b c x u) r f g m =
          let k : s₁ ≡ spell_blanks c (spell_selector x (spell_selectors u r)) = same_tail d (ap unblank f ∙ unblank_blanks b _) in
          (b, c, x, u, r, ap unblank k ∙ unblank_blanks c _ ∙ selector_start x _, g, m)

  -- one selector more is read
  pub left_more : {s₁ r : List ℕ} {x : Selector} → unblank s ≡ 0x2C ∷ s₁ → Loosely spell_selector (me_selector p) (After 4) (unblank s₁) x r
      → Left meT (n + 1) (p + length (write_selector x p).pool) s₀ r (λ m. act (behind (write_selector x p) m))
  left_more {s₁} {r} {x} d o =
      let b = split_blanks s in
      let c = split_blanks s₁ in
      record {
        fill = λ u. so.fill (more_selectors b.0 c.0 x u);
        fwd = λ u r' e. so.fwd (more_selectors b.0 c.0 x u) r' (b.1 ∙ ap (spell_blanks b.0) (d ∙ ap (λ l. 0x2C ∷ l) (c.1 ∙ ap (spell_blanks c.0) (o.eq ∙ ap (spell_selector x) e))));
        cod = λ u. so.cod (more_selectors b.0 c.0 x u) ∙ ap act (selectors_go_on n p b.0 c.0 x u);
        bwd = λ t' r' a e.
            let h = left_next s₁ d t' r' a e in
            let f = selectors_follow h.3 h.4 (after_same 5 h.6 a) in
            let m : me_selector p h.2 ≡ me_selector p x = o.same h.2 (spell_selectors h.3 h.4) f h.5 in
            let q = reblank r h.3 h.4 (sym (o.rest h.2 (spell_selectors h.3 h.4) f h.5)) in (
              q.list,
              q.rest,
              q.eq,
              q.same ∙ h.6,
              h.7 ∙ ap act (selectors_go_on n p h.0 h.1 h.2 h.3 ∙ ap (λ (t : Effect × ℕ). behind t.0 (me_selectors (n + 1) (p + length t.0.pool) h.3)) m ∙ ap (behind (write_selector x p)) (sym (q.means (n + 1) (p + length (write_selector x p).pool)))),
            );
      }

  -- no comma stands there: the list ends
  pub left_end : ((s₁ : List ℕ) → unblank s ≡ 0x2C ∷ s₁ → ⊥) → Loosely spell_selectors meT (After 5) s₀ (so.fill no_selector) s
  left_end d = record { eq = so.fwd no_selector s refl; same = λ t' r' a e. (only t' r' a e).0; rest = λ t' r' a e. (only t' r' a e).1 }
    where
      only : (t' : Selectors) (r' : List ℕ) → After 5 r' → s₀ ≡ spell_selectors t' r' → (meT t' ≡ meT (so.fill no_selector)) × (unblank r' ≡ unblank s)
      only t' r' a e =
          let h = so.bwd t' r' a e in
          go h.0 h.1 h.2 h.3 h.4
        where
          go : (u : Selectors) (r : List ℕ) → s ≡ spell_selectors u r → unblank r ≡ unblank r' → meT t' ≡ act (me_selectors n p u) → (meT t' ≡ meT (so.fill no_selector)) × (unblank r' ≡ unblank s)
          go no_selector r f g m = (m ∙ sym (so.cod no_selector), sym (ap unblank f ∙ g))
          go (more_selectors b c x u) r f g m = absurd (d _ (ap unblank f ∙ unblank_blanks b _))

  -- a comma with no selector behind it: there is no list
  pub left_none : {s₁ : List ℕ} → unblank s ≡ 0x2C ∷ s₁ → ReadsNone spell_selector (After 4) (unblank s₁) → ReadsNone spell_selectors (After 5) s₀
  left_none {s₁} d f = record {
    none = λ t' r' a e.
        let h = left_next s₁ d t' r' a e in
        f.none h.2 (spell_selectors h.3 h.4) (selectors_follow h.3 h.4 (after_same 5 h.6 a)) h.5;
  }
