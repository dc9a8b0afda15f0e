-- S logical-expr behind a "?", and the selector as a whole: a filter, or one of the selectors that do not nest.
use Rattle.std.specs.Prelude.{◌≡◌, refl, true, List, ◌∷◌, ℕ}
use Rattle.std.proofs.Common.{sym, ap, ◌∙◌}
use Rattle.definition.specs.Lexical.{Slice, Bound, spell_blanks, spell_slice, spell_bound}
use Rattle.definition.specs.Lexical.Bound.{no_bound, bound}
use Rattle.definition.specs.Grammar.{LogicalOr, Selector, spell_logical_or, spell_selector}
use Rattle.definition.specs.Grammar.Selector.{name_selector, wildcard_selector, slice_selector, index_selector, filter_selector}
use Rattle.basics.specs.Lists.{differ, same_tail}
use Rattle.parser_follow.specs.Blanks.{split_blanks, unblank_blanks}
use Rattle.basics.specs.Reads.{Reads, ReadsNone}
use Rattle.compile_writes.specs.Effects.{Effect, join, frame}
use Rattle.compile_writes.specs.Sorts.{Sort, sort_or_lem, is_plain_selector}
use Rattle.compile_writes.specs.Writes.{write_or_lem, write_selector, test_tail}
use Rattle.parser_follow.specs.Follow.{unblank, After}
use Rattle.parser_follow.specs.Leaves.{Plain, spell_plain, write_plain, is_plain}
use Rattle.parser_follow.specs.Leaves.Plain.{text_plain, wild_plain, slice_plain, index_plain}
use Rattle.parser_follow.specs.Pieces.{Filter, spell_filter, write_filter}
use Rattle.parser_laws.specs.Joins.{plain, within, seq_last}
use Rattle.parser_laws.specs.Sorted.{same_sort}
use Rattle.parser_laws.specs.Starts.{or_start}
use Rattle.parser_laws.specs.Or.{me_or}
use Rattle.parser_laws.specs.So.{So}
use Rattle.parser_laws.specs.Begins.{begins_not, text_begins, int_begins}
use Rattle.parser_laws.specs.Selectors.{me_selector}

abbrev pub me_filter : ℕ → Filter → Effect × ℕ
me_filter p x = (write_filter x p, 0)

abbrev pub me_plain : ℕ → Plain → Effect × ℕ
me_plain p x = (write_plain x p, is_plain x)

-- what is written for a filter, from what is written for its test
abbrev pub filter_effect : Effect → Sort → Effect
filter_effect e σ = within 0x09 (join e (plain (test_tail σ)))

pub filter_writes : (p : ℕ) (x : Filter) → write_filter x p ≡ filter_effect (write_or_lem x.test true p) (sort_or_lem x.test)
unfolding frame
filter_writes p x = rw seq_last

pub filter_reads : (p : ℕ) {s r : List ℕ} {e : LogicalOr} → Reads spell_logical_or (me_or true p) (After 4) (unblank s) e r
    → Reads spell_filter (me_filter p) (After 4) s (record { blanks = (split_blanks s).0; test = e }) r
filter_reads p {s} {r} {e} o = record { eq = (split_blanks s).1 ∙ ap (spell_blanks (split_blanks s).0) o.eq; only = only }
  where
    only : (t' : Filter) (r' : List ℕ) → After 4 r' → s ≡ spell_filter t' r' → (me_filter p t' ≡ me_filter p (record { blanks = (split_blanks s).0; test = e })) × (r' ≡ r)
    only t' r' f g =
        let h = o.only t'.test r' f (ap unblank g ∙ unblank_blanks t'.blanks _ ∙ or_start t'.test r') in
        let e0 : write_or_lem t'.test true p ≡ write_or_lem e true p = ap (λ z. z.0) h.0 in
        let e1 : sort_or_lem t'.test ≡ sort_or_lem e = same_sort (ap (λ z. z.1) h.0) in
        let w' = filter_writes p t' in
        let w = filter_writes p (record { blanks = (split_blanks s).0; test = e }) in
        let k : filter_effect (write_or_lem t'.test true p) (sort_or_lem t'.test) ≡ filter_effect (write_or_lem e true p) (sort_or_lem e) = λ i. filter_effect (e0 i) (e1 i) in
        let x = w' ∙ k ∙ sym w in
        ((λ i. (x i, 0)), h.1)

pub filter_none : {s : List ℕ} → ReadsNone spell_logical_or (After 4) (unblank s) → ReadsNone spell_filter (After 4) s
filter_none n = record { none = λ t' r' f g. n.none t'.test r' f (ap unblank g ∙ unblank_blanks t'.blanks _ ∙ or_start t'.test r') }

-- ---- the selector

-- a slice begins with no "?"
no_slice : (x : Slice) (r : List ℕ) {l : List ℕ} → spell_slice x r ≡ 0x3F ∷ l → ⊥
no_slice x r e = go x.start _ e
  where
    go : (b : Bound) (m : List ℕ) {l : List ℕ} → spell_bound b (0x3A ∷ m) ≡ 0x3F ∷ l → ⊥
    go no_bound m f = differ 0x3A 0x3F refl refl f
    go (bound i c) m f = begins_not 0x3F (int_begins i _) refl f

-- behind a "?": a filter
pub selector_filter : (p : ℕ) {s s₁ : List ℕ} → s ≡ 0x3F ∷ s₁ → So spell_selector (me_selector p) spell_filter (me_filter p) (After 4) s s₁ (λ m. m)
unfolding write_selector is_plain_selector
selector_filter p {s} {s₁} d = record { fill = λ x. filter_selector x.blanks x.test; fwd = λ u r e. d ∙ ap (λ l. 0x3F ∷ l) e; cod = λ u. refl; bwd = bwd }
  where
    bwd : (t' : Selector) (r' : List ℕ) → After 4 r' → s ≡ spell_selector t' r' → (u' : Filter) × (s₁ ≡ spell_filter u' r') × (me_selector p t' ≡ me_filter p u')
    bwd (name_selector t) r' f e = absurd (begins_not 0x3F (text_begins t r') refl (sym e ∙ d))
    bwd wildcard_selector r' f e = absurd (differ 0x3F 0x2A refl d e)
    bwd (slice_selector x) r' f e = absurd (no_slice x r' (sym e ∙ d))
    bwd (index_selector i) r' f e = absurd (begins_not 0x3F (int_begins i r') refl (sym e ∙ d))
    bwd (filter_selector b x) r' f e = (record { blanks = b; test = x }, same_tail d e, refl)

abbrev to_selector : Plain → Selector
to_selector (text_plain t) = name_selector t
to_selector wild_plain = wildcard_selector
to_selector (slice_plain x) = slice_selector x
to_selector (index_plain i) = index_selector i

-- where no "?" stands: one that does not nest
pub selector_plain : (p : ℕ) {s : List ℕ} → ((l : List ℕ) → s ≡ 0x3F ∷ l → ⊥) → So spell_selector (me_selector p) spell_plain (me_plain p) (After 4) s s (λ m. m)
unfolding write_selector is_plain_selector
selector_plain p {s} n = record { fill = to_selector; fwd = fwd; cod = cod; bwd = bwd }
  where
    fwd : (u : Plain) (r : List ℕ) → s ≡ spell_plain u r → s ≡ spell_selector (to_selector u) r
    fwd (text_plain t) r e = e
    fwd wild_plain r e = e
    fwd (slice_plain x) r e = e
    fwd (index_plain i) r e = e

    cod : (u : Plain) → me_selector p (to_selector u) ≡ me_plain p u
    cod (text_plain t) = refl
    cod wild_plain = refl
    cod (slice_plain x) = refl
    cod (index_plain i) = refl

    bwd : (t' : Selector) (r' : List ℕ) → After 4 r' → s ≡ spell_selector t' r' → (u' : Plain) × (s ≡ spell_plain u' r') × (me_selector p t' ≡ me_plain p u')
    bwd (name_selector t) r' f e = (text_plain t, e, refl)
    bwd wildcard_selector r' f e = (wild_plain, e, refl)
    bwd (slice_selector x) r' f e = (slice_plain x, e, refl)
    bwd (index_selector i) r' f e = (index_plain i, e, refl)
    bwd (filter_selector b x) r' f e = absurd (n _ e)
