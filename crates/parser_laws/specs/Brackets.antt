-- bracketed-selection = "[" S selector *( S "," S selector ) S "]"
use Rattle.std.specs.Prelude.{◌≡◌, refl, Bool, true, false, not, cond, ◌&&◌, List, ◌∷◌, ◌++◌, ℕ, suc, ◌+◌, eqb, length}
use Rattle.std.proofs.Common.{sym, ap, ◌∙◌, zero-add, arith, eqb-true, lit<}
use Rattle.std.proofs.Math.Dec.{eqb-suc-zero}
use Rattle.definition.specs.Lexical.{Blanks, is_blank, spell_blanks}
use Rattle.definition.specs.Grammar.{Bracketed, Selector, Selectors, spell_bracketed, spell_selector, spell_selectors}
use Rattle.definition.specs.Grammar.Bracketed.{bracketed}
use Rattle.definition.specs.Grammar.Selectors.{no_selector, more_selectors}
use Rattle.definition.specs.Plans.{two}
use Rattle.basics.specs.Lists.{same_tail}
use Rattle.parser_follow.specs.Blanks.{split_blanks, unblank_blanks}
use Rattle.basics.specs.Reads.{Reads, ReadsNone}
use Rattle.utf8_laws.specs.Bytes.{by_test}
use Rattle.compile_writes.specs.Effects.{Effect, join, seq, counted}
use Rattle.compile_writes.specs.Sorts.{is_plain_selector, is_alone, is_empty, singular_brackets, tight_brackets}
use Rattle.compile_writes.specs.Writes.{write_selector, write_selectors, write_bracketed, count_more, count_bracketed}
use Rattle.parser_follow.specs.Follow.{hd, unblank, After}
use Rattle.parser_follow.specs.Numbers.{plain_flag, path_number, bracketed_flag, brackets_number, write_selection}
use Rattle.parser_laws.specs.Follows.{after_blanks, empty_blanks}
use Rattle.parser_laws.specs.Loose.{Loosely, Exactly, after_same}
use Rattle.parser_laws.specs.Selectors.{me_selector, me_selectors, selector_start, selectors_follow, reblank}

abbrev pub me_bracketed : ℕ → ℕ → Bracketed → Effect × ℕ
me_bracketed kind p t = (write_selection kind t p, bracketed_flag t)

-- the selectors between the brackets
pub record Picked : Type 0 where
  pub one : Selector
  pub more : Selectors

abbrev pub spell_picked : Picked → List ℕ → List ℕ
spell_picked x r = spell_selector x.one (spell_selectors x.more r)

-- what is known of them: what is written, whether the first is plain, and how many more there are
pub record Known : Type 0 where
  pub effect : Effect
  pub plain : ℕ
  pub count : ℕ

abbrev pub me_picked : ℕ → Picked → Known
me_picked p x = record { effect = join (write_selector x.one p) (write_selectors x.more (p + length (write_selector x.one p).pool)); plain = plain_flag x.one; count = count_more x.more }

picked_start : (x : Picked) (r : List ℕ) → unblank (spell_picked x r) ≡ spell_picked x r
picked_start x r = selector_start x.one _

count_from_zero : (xs : Selectors) (ys : Selectors) → 0 + count_more xs ≡ 0 + count_more ys → count_more xs ≡ count_more ys
count_from_zero xs ys e = rw (zero-add, zero-add) at e

-- a list that counts none has none
pub no_more : (xs : Selectors) → count_more xs ≡ 0 → xs ≡ no_selector
unfolding count_more
no_more no_selector e = refl
no_more (more_selectors b c x xs) e = absurd (omega arith)

module _ (p : ℕ) {s r r₁ : List ℕ} {x : Selector} {xs : Selectors} (o : Loosely spell_selector (me_selector p) (After 4) s x r) (o' : Loosely spell_selectors (me_selectors 0 (p + length (write_selector x p).pool)) (After 5) r xs r₁) where
  -- what is known of another list of selectors that is spelled there
  picked_only : (t' : Picked) (r' : List ℕ) → After 5 r' → s ≡ spell_picked t' r' → (me_picked p t' ≡ me_picked p (record { one = x; more = xs })) × (unblank r' ≡ unblank r₁)
  picked_only t' r' f e =
      let a = selectors_follow t'.more r' f in
      let h : me_selector p t'.one ≡ me_selector p x = o.same t'.one (spell_selectors t'.more r') a e in
      let q = reblank r t'.more r' (sym (o.rest t'.one (spell_selectors t'.more r') a e)) in
      let g : me_selectors 0 (p + length (write_selector x p).pool) q.list ≡ me_selectors 0 (p + length (write_selector x p).pool) xs = o'.same q.list q.rest (after_same 5 q.same f) q.eq in
      let k : me_selectors 0 (p + length (write_selector x p).pool) t'.more ≡ me_selectors 0 (p + length (write_selector x p).pool) xs = sym (q.means 0 (p + length (write_selector x p).pool)) ∙ g in
      let e0 : write_selector t'.one p ≡ write_selector x p = ap (λ z. z.0) h in
      let e1 : plain_flag t'.one ≡ plain_flag x = ap (λ z. z.1) h in
      let e2 : write_selectors t'.more (p + length (write_selector x p).pool) ≡ write_selectors xs (p + length (write_selector x p).pool) = ap (λ z. z.0) k in
      let e3 : count_more t'.more ≡ count_more xs = count_from_zero t'.more xs (ap (λ z. z.1) k) in
      let y : (me_picked p t').effect ≡ join (write_selector x p) (write_selectors xs (p + length (write_selector x p).pool)) = cc in
      ((λ i. record { effect = y i; plain = e1 i; count = e3 i }), sym q.same ∙ o'.rest q.list q.rest (after_same 5 q.same f) q.eq)

  pub picked_reads : Loosely spell_picked (me_picked p) (After 5) s (record { one = x; more = xs }) r₁
  picked_reads = record { eq = o.eq ∙ ap (spell_selector x) o'.eq; same = λ t' r' f e. (picked_only t' r' f e).0; rest = λ t' r' f e. (picked_only t' r' f e).1 }

  -- behind one plain selector all is settled
  pub picked_exactly : Exactly spell_selector (After 4) s r → count_more xs ≡ 0 → Exactly spell_picked (After 5) s r₁
  picked_exactly z n t' r' f e =
      let m : count_more t'.more ≡ 0 = ap (λ (k : Known). k.count) (picked_only t' r' f e).0 ∙ n in
      let g : spell_selectors t'.more r' ≡ r = z t'.one (spell_selectors t'.more r') (selectors_follow t'.more r' f) e in
      let g' : spell_selectors t'.more r' ≡ r' = ap (λ (l : Selectors). spell_selectors l r') (no_more t'.more m) in
      let g'' : spell_selectors xs r₁ ≡ r₁ = ap (λ (l : Selectors). spell_selectors l r₁) (no_more xs n) in
      sym g' ∙ g ∙ o'.eq ∙ g''

pub picked_none : {s : List ℕ} → ReadsNone spell_selector (After 4) s → ReadsNone spell_picked (After 5) s
picked_none n = record { none = λ t' r' f e. n.none t'.one (spell_selectors t'.more r') (selectors_follow t'.more r' f) e }

pub picked_none_more : (p : ℕ) {s r : List ℕ} {x : Selector} → Loosely spell_selector (me_selector p) (After 4) s x r → ReadsNone spell_selectors (After 5) r → ReadsNone spell_picked (After 5) s
picked_none_more p {s} {r} o n = record {
  none = λ t' r' f e.
      let q = reblank r t'.more r' (sym (o.rest t'.one (spell_selectors t'.more r') (selectors_follow t'.more r' f) e)) in
      n.none q.list q.rest (after_same 5 q.same f) q.eq;
}

-- ---- the brackets

-- what is told of the brackets, from what is known of the selectors and of the blanks
bracketed_number : (b : Blanks) (x : Selector) (xs : Selectors) (c : Blanks) → bracketed_flag (bracketed b x xs c) ≡ brackets_number (plain_flag x) (count_more xs) (is_empty b) (is_empty c)
unfolding singular_brackets tight_brackets is_alone count_more
bracketed_number b x xs c = go (is_plain_selector x) xs (is_empty b) (is_empty c)
  where
    go : (q : Bool) (ys : Selectors) (f g : Bool) → path_number (q && is_alone ys) (f && (q && (is_alone ys && g))) ≡ brackets_number (cond q 1 0) (count_more ys) f g
    go true no_selector true true = refl
    go true no_selector true false = refl
    go true no_selector false g = refl
    go true (more_selectors b' c' x' ys) true g = rw eqb-suc-zero
    go true (more_selectors b' c' x' ys) false g = rw eqb-suc-zero
    go false ys true g = refl
    go false ys false g = refl

write_selection_lem : (kind p : ℕ) (b : Blanks) (x : Selector) (xs : Selectors) (c : Blanks)
    → write_selection kind (bracketed b x xs c) p ≡ record { plan = kind ∷ (two (suc (count_more xs)) ++ (me_picked p (record { one = x; more = xs })).effect.plan); pool = (me_picked p (record { one = x; more = xs })).effect.pool; marks = (me_picked p (record { one = x; more = xs })).effect.marks }
unfolding counted count_bracketed write_bracketed seq
write_selection_lem kind p b x xs c = refl

-- what is known of the whole, from what is known of the selectors and the first bytes behind the opening bracket and behind the selectors
abbrev pub brackets_mean : ℕ → Known → Bool → Bool → Effect × ℕ
brackets_mean kind k before after =
    (record { plan = kind ∷ (two (suc k.count) ++ k.effect.plan); pool = k.effect.pool; marks = k.effect.marks }, brackets_number k.plain k.count before after)

pub brackets_mean_lem : (kind p : ℕ) (b : Blanks) (x : Selector) (xs : Selectors) (c : Blanks)
    → me_bracketed kind p (bracketed b x xs c) ≡ brackets_mean kind (me_picked p (record { one = x; more = xs })) (is_empty b) (is_empty c)
brackets_mean_lem kind p b x xs c =
    let e = write_selection_lem kind p b x xs c in
    let f = bracketed_number b x xs c in
    λ i. (e i, f i)

-- whether blanks stand before the closing bracket matters behind one plain selector alone
number_after : (plain n : ℕ) (before a a' : Bool) → (plain ≡ 1 → n ≡ 0 → a ≡ a') → brackets_number plain n before a ≡ brackets_number plain n before a'
number_after plain n before a a' h =
    by_test (eqb plain 1)
    (λ t. by_test (eqb n 0) (λ u. ap (brackets_number plain n before) (h (eqb-true plain 1 t) (eqb-true n 0 u))) (λ f. rw (t, f)))
    (λ f. rw f)

module _ (kind p : ℕ) {s s₁ : List ℕ} (d : s ≡ 0x5B ∷ s₁) where
  -- how a bracketed selection stands in the text
  split : (b : Blanks) (x : Selector) (xs : Selectors) (c : Blanks) (r : List ℕ) → s ≡ spell_bracketed (bracketed b x xs c) r → s₁ ≡ spell_blanks b (spell_picked (record { one = x; more = xs }) (spell_blanks c (0x5D ∷ r)))
  split b x xs c r e = same_tail d e

  -- the selectors of it, and what may follow them
  inside : (b : Blanks) (x : Selector) (xs : Selectors) (c : Blanks) (r : List ℕ) → s ≡ spell_bracketed (bracketed b x xs c) r → unblank s₁ ≡ spell_picked (record { one = x; more = xs }) (spell_blanks c (0x5D ∷ r))
  inside b x xs c r e = ap unblank (split b x xs c r e) ∙ unblank_blanks b _ ∙ picked_start (record { one = x; more = xs }) _

  close : (c : Blanks) (r : List ℕ) → After 5 (spell_blanks c (0x5D ∷ r))
  close c r = after_blanks 5 c 0x5D r refl (lit< tt)

  pub bracketed_none : ReadsNone spell_picked (After 5) (unblank s₁) → ReadsNone spell_bracketed (After 0) s
  bracketed_none n = record { none = none }
    where
      none : (t' : Bracketed) (r' : List ℕ) → After 0 r' → s ≡ spell_bracketed t' r' → ⊥
      none (bracketed b' x' xs' c') r' f e = n.none (record { one = x'; more = xs' }) (spell_blanks c' (0x5D ∷ r')) (close c' r') (inside b' x' xs' c' r' e)

  module _ {r : List ℕ} {x : Selector} {xs : Selectors} (o : Loosely spell_picked (me_picked p) (After 5) (unblank s₁) (record { one = x; more = xs }) r) where
    pub bracketed_open : ((l : List ℕ) → unblank r ≡ 0x5D ∷ l → ⊥) → ReadsNone spell_bracketed (After 0) s
    bracketed_open n = record { none = none }
      where
        none : (t' : Bracketed) (r' : List ℕ) → After 0 r' → s ≡ spell_bracketed t' r' → ⊥
        none (bracketed b' x' xs' c') r' f e =
            n r' (sym (o.rest (record { one = x'; more = xs' }) (spell_blanks c' (0x5D ∷ r')) (close c' r') (inside b' x' xs' c' r' e)) ∙ unblank_blanks c' (0x5D ∷ r'))

    -- the selectors were read and the closing bracket stands behind them
    pub bracketed_reads : {r₂ : List ℕ} → unblank r ≡ 0x5D ∷ r₂ → (plain_flag x ≡ 1 → count_more xs ≡ 0 → Exactly spell_picked (After 5) (unblank s₁) r)
        → Reads spell_bracketed (me_bracketed kind p) (After 0) s (bracketed (split_blanks s₁).0 x xs (split_blanks r).0) r₂
    bracketed_reads {r₂} n z = record { eq = d ∙ ap (λ l. 0x5B ∷ l) is; only = only }
      where
        is : s₁ ≡ spell_blanks (split_blanks s₁).0 (spell_picked (record { one = x; more = xs }) (spell_blanks (split_blanks r).0 (0x5D ∷ r₂)))
        is = (split_blanks s₁).1 ∙ ap (spell_blanks (split_blanks s₁).0) (o.eq ∙ ap (spell_picked (record { one = x; more = xs })) ((split_blanks r).1 ∙ ap (spell_blanks (split_blanks r).0) n))

        only : (t' : Bracketed) (r' : List ℕ) → After 0 r' → s ≡ spell_bracketed t' r' → (me_bracketed kind p t' ≡ me_bracketed kind p (bracketed (split_blanks s₁).0 x xs (split_blanks r).0)) × (r' ≡ r₂)
        only (bracketed b' x' xs' c') r' f e =
            let g = split b' x' xs' c' r' e in
            let u = inside b' x' xs' c' r' e in
            let k = o.same (record { one = x'; more = xs' }) (spell_blanks c' (0x5D ∷ r')) (close c' r') u in
            let v : 0x5D ∷ r' ≡ 0x5D ∷ r₂ = sym (unblank_blanks c' (0x5D ∷ r')) ∙ o.rest (record { one = x'; more = xs' }) (spell_blanks c' (0x5D ∷ r')) (close c' r') u ∙ n in
            let b1 : is_empty b' ≡ is_empty (split_blanks s₁).0 =
            empty_blanks b' _ (picked_start (record { one = x'; more = xs' }) _) ∙ ap (λ z. not (is_blank (hd z))) (sym g ∙ is) ∙ sym (empty_blanks (split_blanks s₁).0 _ (picked_start (record { one = x; more = xs }) _)) in
            let c1 : plain_flag x ≡ 1 → count_more xs ≡ 0 → is_empty c' ≡ is_empty (split_blanks r).0 = λ a q.
            empty_blanks c' (0x5D ∷ r') refl ∙ ap (λ z. not (is_blank (hd z))) (z a q (record { one = x'; more = xs' }) (spell_blanks c' (0x5D ∷ r')) (close c' r') u ∙ (split_blanks r).1 ∙ ap (spell_blanks (split_blanks r).0) n) ∙ sym (empty_blanks (split_blanks r).0 (0x5D ∷ r₂) refl) in
            let m = brackets_mean_lem kind p b' x' xs' c' in
            let w = brackets_mean_lem kind p (split_blanks s₁).0 x xs (split_blanks r).0 in
            let y = number_after (plain_flag x) (count_more xs) (is_empty (split_blanks s₁).0) (is_empty c') (is_empty (split_blanks r).0) c1 in
            (m ∙ (λ i. brackets_mean kind (k i) (b1 i) (is_empty c')) ∙ (λ i. ((brackets_mean kind (me_picked p (record { one = x; more = xs })) (is_empty (split_blanks s₁).0) (is_empty c')).0, y i)) ∙ sym w, tail v)
          where
            tail : 0x5D ∷ r' ≡ 0x5D ∷ r₂ → r' ≡ r₂
            tail v = cc
