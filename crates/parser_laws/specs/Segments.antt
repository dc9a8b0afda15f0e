-- segments = *( S segment ). What is told of them is 2 where all are those of a singular-query, 1 where all are singular as forms, 0 otherwise.
use Rattle.std.specs.Prelude.{◌≡◌, refl, Bool, true, false, ◌&&◌, List, ℕ, ◌+◌, ◌≤◌, ◌<◌, min, length}
use Rattle.std.proofs.Common.{sym, ap, subst, ◌∙◌, true≢false, arith, lit<, lit≤}
use Rattle.std.proofs.lemmas.Bool.{false≢true}
use Rattle.definition.specs.Lexical.{Blanks, spell_blanks}
use Rattle.definition.specs.Grammar.{Segment, Segments, spell_segment, spell_segments}
use Rattle.definition.specs.Grammar.Segment.{child_brackets, child_wild, child_name, descendant_brackets, descendant_wild, descendant_name}
use Rattle.definition.specs.Grammar.Segments.{no_segment, more_segments}
use Rattle.definition.specs.Grammar.Bracketed.{bracketed}
use Rattle.parser_follow.specs.Blanks.{split_blanks, unblank_blanks}
use Rattle.basics.specs.Reads.{Reads, ReadsNone}
use Rattle.compile_writes.specs.Effects.{Effect, join, seq}
use Rattle.compile_writes.specs.Sorts.{singular_segments, tight_segments, singular_segment, tight_segment, singular_brackets, tight_brackets, is_plain_selector, is_alone, is_empty}
use Rattle.compile_writes.specs.Writes.{write_segments, write_segment}
use Rattle.compile_writes.specs.Singular.{tight_singular}
use Rattle.parser_follow.specs.Follow.{hd, unblank, level_of, After, is_segment_byte, after_weaken}
use Rattle.parser_follow.specs.Numbers.{path_number, segments_flag, segment_flag}
use Rattle.parser_laws.specs.Follows.{after_blanks}
use Rattle.parser_laws.specs.So.{So}
use Rattle.parser_laws.specs.Rep.{behind}
use Rattle.parser_laws.specs.Segment.{me_segment}

abbrev pub me_segments : ℕ → ℕ → Segments → Effect × ℕ
me_segments f p t = (write_segments t p, min f (segments_flag t))

-- a segment begins with one of the two
pub segment_first : (x : Segment) (r : List ℕ) → is_segment_byte (hd (spell_segment x r)) ≡ true
segment_first (child_brackets (bracketed b x xs c)) r = refl
segment_first child_wild r = refl
segment_first (child_name n) r = refl
segment_first (descendant_brackets x) r = refl
segment_first descendant_wild r = refl
segment_first (descendant_name n) r = refl

pub segment_start : (x : Segment) (r : List ℕ) → unblank (spell_segment x r) ≡ spell_segment x r
segment_start (child_brackets (bracketed b x xs c)) r = refl
segment_start child_wild r = refl
segment_start (child_name n) r = refl
segment_start (descendant_brackets x) r = refl
segment_start descendant_wild r = refl
segment_start (descendant_name n) r = refl

-- what may follow segments may follow each segment
pub segments_follow : (u : Segments) (r : List ℕ) → After 1 r → After 0 (spell_segments u r)
segments_follow no_segment r a = after_weaken 0 1 (lit≤ tt) a
segments_follow (more_segments b (child_brackets (bracketed b' x xs c)) u) r a = after_blanks 0 b 0x5B _ refl (lit< tt)
segments_follow (more_segments b child_wild u) r a = after_blanks 0 b 0x2E _ refl (lit< tt)
segments_follow (more_segments b (child_name n) u) r a = after_blanks 0 b 0x2E _ refl (lit< tt)
segments_follow (more_segments b (descendant_brackets x) u) r a = after_blanks 0 b 0x2E _ refl (lit< tt)
segments_follow (more_segments b descendant_wild u) r a = after_blanks 0 b 0x2E _ refl (lit< tt)
segments_follow (more_segments b (descendant_name n) u) r a = after_blanks 0 b 0x2E _ refl (lit< tt)

-- ---- what is told

-- what a singular-query spells is singular as a form
tight_brackets_lem : (x y f g : Bool) → (f && (x && (y && g))) ≡ true → (x && y) ≡ true
tight_brackets_lem true true f g e = refl
tight_brackets_lem true false true g e = e
tight_brackets_lem true false false g e = e
tight_brackets_lem false y true g e = e
tight_brackets_lem false y false g e = e

pub tight_segment_lem : (x : Segment) → tight_segment x ≡ true → singular_segment x ≡ true
unfolding tight_segment singular_segment tight_brackets singular_brackets
tight_segment_lem (child_brackets (bracketed b x xs c)) e = tight_brackets_lem (is_plain_selector x) (is_alone xs) (is_empty b) (is_empty c) e
tight_segment_lem child_wild e = e
tight_segment_lem (child_name n) e = refl
tight_segment_lem (descendant_brackets x) e = e
tight_segment_lem descendant_wild e = e
tight_segment_lem (descendant_name n) e = e

-- the least of two tells of both
least_number : (a t b u : Bool) → (t ≡ true → a ≡ true) → (u ≡ true → b ≡ true) → min (path_number a t) (path_number b u) ≡ path_number (a && b) (t && u)
least_number true true true true f g = refl
least_number true true true false f g = refl
least_number true true false true f g = absurd (false≢true (g refl))
least_number true true false false f g = refl
least_number true false true true f g = refl
least_number true false true false f g = refl
least_number true false false true f g = absurd (false≢true (g refl))
least_number true false false false f g = refl
least_number false true b u f g = absurd (false≢true (f refl))
least_number false false true true f g = refl
least_number false false true false f g = refl
least_number false false false true f g = absurd (false≢true (g refl))
least_number false false false false f g = refl

pub segments_flag_lem : (b : Blanks) (x : Segment) (xs : Segments) → segments_flag (more_segments b x xs) ≡ min (segment_flag x) (segments_flag xs)
unfolding singular_segments tight_segments
segments_flag_lem b x xs = sym (least_number (singular_segment x) (tight_segment x) (singular_segments xs) (tight_segments xs) (tight_segment_lem x) (tight_singular xs))

min_assoc : (a b c : ℕ) → min a (min b c) ≡ min (min a b) c
min_assoc a b c = omega arith

segments_go_on : (f p : ℕ) (b : Blanks) (x : Segment) (xs : Segments)
    → me_segments f p (more_segments b x xs) ≡ behind (write_segment x p) (me_segments (min f (segment_flag x)) (p + length (write_segment x p).pool) xs)
unfolding write_segments seq
segments_go_on f p b x xs =
    let e : min f (segments_flag (more_segments b x xs)) ≡ min (min f (segment_flag x)) (segments_flag xs) = ap (min f) (segments_flag_lem b x xs) ∙ min_assoc f (segment_flag x) (segments_flag xs) in
    λ i. (join (write_segment x p) (write_segments xs (p + length (write_segment x p).pool)), e i)

-- ---- reading on

-- a byte that begins a segment may not follow segments
low : (c : ℕ) → is_segment_byte c ≡ true → level_of c ≤ 1
low c e = rw e (lit≤ tt)

module _ {M : Type 0} {meT : Segments → M} {s₀ s : List ℕ} (f p : ℕ) (act : Effect × ℕ → M) (so : So spell_segments meT spell_segments (me_segments f p) (After 1) s₀ s act) where
  -- segments that are left at the first byte of one have a segment there
  segments_next : is_segment_byte (hd (unblank s)) ≡ true → (t' : Segments) (r' : List ℕ) → After 1 r' → s₀ ≡ spell_segments t' r'
      → (b : Blanks) × (x' : Segment) × (u' : Segments) × (unblank s ≡ spell_segment x' (spell_segments u' r')) × (meT t' ≡ act (me_segments f p (more_segments b x' u')))
  segments_next n t' r' a e =
      let h = so.bwd t' r' a e in
      go h.0 h.1 h.2
    where
      go : (u : Segments) → s ≡ spell_segments u r' → meT t' ≡ act (me_segments f p u)
          → (b : Blanks) × (x' : Segment) × (u' : Segments) × (unblank s ≡ spell_segment x' (spell_segments u' r')) × (meT t' ≡ act (me_segments f p (more_segments b x' u')))
      go no_segment g m =
          let l = low (hd (unblank s)) n in
          let k : 1 < level_of (hd (unblank s)) = subst (λ z. 1 < level_of (hd (unblank z))) (sym g) a.above in
          absurd (omega arith)
      go (more_segments b x u) g m = (b, x, u, ap unblank g ∙ unblank_blanks b _ ∙ segment_start x _, m)

  -- one segment more is read
  pub segments_more : {x : Segment} {r : List ℕ} → is_segment_byte (hd (unblank s)) ≡ true → Reads spell_segment (me_segment p) (After 0) (unblank s) x r
      → So spell_segments meT spell_segments (me_segments (min f (segment_flag x)) (p + length (write_segment x p).pool)) (After 1) s₀ r (λ m. act (behind (write_segment x p) m))
  segments_more {x} {r} n o =
      let b = split_blanks s in
      record {
        fill = λ u. so.fill (more_segments b.0 x u);
        fwd = λ u r' e. so.fwd (more_segments b.0 x u) r' (b.1 ∙ ap (spell_blanks b.0) (o.eq ∙ ap (spell_segment x) e));
        cod = λ u. so.cod (more_segments b.0 x u) ∙ ap act (segments_go_on f p b.0 x u);
        bwd = λ t' r' a e.
            let h = segments_next n t' r' a e in
            let g = o.only h.1 (spell_segments h.2 r') (segments_follow h.2 r' a) h.3 in
            (h.2, sym g.1, h.4 ∙ ap act (segments_go_on f p h.0 h.1 h.2 ∙ ap (λ (t : Effect × ℕ). behind t.0 (me_segments (min f t.1) (p + length t.0.pool) h.2)) g.0));
      }

  -- no segment begins there: they end
  pub segments_end : is_segment_byte (hd (unblank s)) ≡ false → Reads spell_segments meT (After 1) s₀ (so.fill no_segment) s
  segments_end n = record { eq = so.fwd no_segment s refl; only = only }
    where
      only : (t' : Segments) (r' : List ℕ) → After 1 r' → s₀ ≡ spell_segments t' r' → (meT t' ≡ meT (so.fill no_segment)) × (r' ≡ s)
      only t' r' a e =
          let h = so.bwd t' r' a e in
          go h.0 h.1 h.2
        where
          go : (u : Segments) → s ≡ spell_segments u r' → meT t' ≡ act (me_segments f p u) → (meT t' ≡ meT (so.fill no_segment)) × (r' ≡ s)
          go no_segment g m = (m ∙ sym (so.cod no_segment), sym g)
          go (more_segments b x u) g m =
              let k = ap (λ z. is_segment_byte (hd z)) (ap unblank g ∙ unblank_blanks b _ ∙ segment_start x _) in
              absurd (true≢false (sym (segment_first x _) ∙ sym k ∙ n))

  -- a segment begins there, and there is none
  pub segments_none : is_segment_byte (hd (unblank s)) ≡ true → ReadsNone spell_segment (After 0) (unblank s) → ReadsNone spell_segments (After 1) s₀
  segments_none n g = record {
    none = λ t' r' a e.
        let h = segments_next n t' r' a e in
        g.none h.1 (spell_segments h.2 r') (segments_follow h.2 r' a) h.3;
  }
