-- Singular segments and tight segments are the same: from either to the other the spelling stays, and so does what is written.
use Rattle.std.specs.Prelude.{ℕ, ◌≡◌, refl, List, [], ◌∷◌, ◌++◌, true, ◌&&◌, eqb, length}
use Rattle.std.proofs.Common.{ap, ap₂, sym, ◌∙◌}
use Rattle.std.proofs.Math.Path.{fun_ext}
use Rattle.std.proofs.lemmas.Bool.{false≢true}
use Rattle.std.proofs.Math.Dec.{eqb-suc-zero}
use Rattle.definition.specs.Lexical.{Blanks, Text, Int, spell_blanks, spell_text, spell_int}
use Rattle.definition.specs.Grammar as G
use Rattle.definition.specs.Grammar.{spell_segments, spell_segment, spell_singular_segments, spell_singular_segment}
use Rattle.definition.specs.Grammar.SingularSegment.{name_segment, dot_segment, index_segment}
use Rattle.definition.specs.Grammar.SingularSegments.{no_singular, more_singular}
use Rattle.definition.specs.Grammar.Segments.{no_segment, more_segments}
use Rattle.definition.specs.Grammar.Segment.{child_brackets, child_wild, child_name, descendant_brackets, descendant_wild, descendant_name}
use Rattle.definition.specs.Grammar.Bracketed.{bracketed}
use Rattle.definition.specs.Grammar.Selectors.{no_selector, more_selectors}
use Rattle.definition.specs.Grammar.Selector.{name_selector, wildcard_selector, slice_selector, index_selector, filter_selector}
use Rattle.basics.specs.Bools.{and_both, and_left, and_right}
use Rattle.compile_writes.specs.Effects.{Writer, counted, seq}
use Rattle.compile_writes.specs.Sorts.{is_plain_selector, is_alone, is_empty, tight_brackets, tight_segment, tight_segments, singular_brackets, singular_segment, singular_segments}
use Rattle.compile_writes.specs.Writes.{write_segments, write_segment, write_bracketed, write_selectors, write_selector, write_singular_segments, write_singular_segment, count_bracketed, count_more}
use Rattle.compile_writes.specs.Laws.{seq_skip}

-- ---- from singular segments to segments

-- the blanks that are none
abbrev pub no_blanks : Blanks
no_blanks = record { bytes = []; good = refl }

-- a name or an index stands in brackets with no blanks
unfoldable pub embed_segment : G.SingularSegment → G.Segment
embed_segment (name_segment t) = child_brackets (bracketed no_blanks (name_selector t) no_selector no_blanks)
embed_segment (dot_segment n) = child_name n
embed_segment (index_segment i) = child_brackets (bracketed no_blanks (index_selector i) no_selector no_blanks)

unfoldable pub embed : G.SingularSegments → G.Segments
embed no_singular = no_segment
embed (more_singular b x xs) = more_segments b (embed_segment x) (embed xs)

-- the spelling stays
embed_spells_one : (x : G.SingularSegment) (r : List ℕ) → spell_segment (embed_segment x) r ≡ spell_singular_segment x r
unfolding embed_segment
embed_spells_one (name_segment t) r = refl
embed_spells_one (dot_segment n) r = refl
embed_spells_one (index_segment i) r = refl

pub embed_spells : (x : G.SingularSegments) (r : List ℕ) → spell_segments (embed x) r ≡ spell_singular_segments x r
unfolding embed
embed_spells no_singular r = refl
embed_spells (more_singular b x xs) r = rw (embed_spells_one x (spell_segments (embed xs) r), embed_spells xs r)

-- what is written stays
embed_writes_one : (x : G.SingularSegment) → write_segment (embed_segment x) ≡ write_singular_segment x
unfolding embed_segment write_segment write_singular_segment write_bracketed write_selectors write_selector count_bracketed count_more
embed_writes_one (name_segment t) = ap (counted 0x03 1) (seq_skip _)
embed_writes_one (dot_segment n) = refl
embed_writes_one (index_segment i) = ap (counted 0x03 1) (seq_skip _)

embed_writer : (x : G.SingularSegments) → write_segments (embed x) ≡ write_singular_segments x
unfolding embed write_segments write_singular_segments
embed_writer no_singular = refl
embed_writer (more_singular b x xs) = ap₂ seq (embed_writes_one x) (embed_writer xs)

pub embed_writes : (x : G.SingularSegments) (p : ℕ) → write_segments (embed x) p ≡ write_singular_segments x p
embed_writes x p = ap (λ (f : Writer). f p) (embed_writer x)

-- and the segments are tight
embed_tight_one : (x : G.SingularSegment) → tight_segment (embed_segment x) ≡ true
unfolding embed_segment tight_segment tight_brackets is_plain_selector is_alone is_empty
embed_tight_one (name_segment t) = refl
embed_tight_one (dot_segment n) = refl
embed_tight_one (index_segment i) = refl

pub embed_tight : (x : G.SingularSegments) → tight_segments (embed x) ≡ true
unfolding embed tight_segments
embed_tight no_singular = refl
embed_tight (more_singular b x xs) = rw (embed_tight_one x, embed_tight xs)

-- ---- from tight segments to singular segments

-- a list of length 0 before another adds nothing
nothing_before : (s r : List ℕ) → eqb (length s) 0 ≡ true → s ++ r ≡ r
nothing_before [] r h = refl
nothing_before (x ∷ s) r h = absurd (false≢true (sym (eqb-suc-zero (length s)) ∙ h))

-- empty blanks spell nothing
empty_spells : (b : Blanks) (r : List ℕ) → is_empty b ≡ true → spell_blanks b r ≡ r
unfolding is_empty
empty_spells b r h = nothing_before b.bytes r h

-- the singular segment that a segment is
record SingularSegmentOf (x : G.Segment) : Type 0 where
  segment : G.SingularSegment
  spells : (r : List ℕ) → spell_segment x r ≡ spell_singular_segment segment r
  writes : write_segment x ≡ write_singular_segment segment

-- a name, or an index, in brackets with no blanks
tight_name : (b c : Blanks) (t : Text) → is_empty b ≡ true → is_empty c ≡ true → SingularSegmentOf (child_brackets (bracketed b (name_selector t) no_selector c))
unfolding write_segment write_singular_segment write_bracketed write_selectors write_selector count_bracketed count_more
tight_name b c t hb hc =
    record {
      segment = name_segment t;
      spells = λ r. rw (empty_spells c (0x5D ∷ r) hc, empty_spells b (spell_text t (0x5D ∷ r)) hb);
      writes = ap (counted 0x03 1) (seq_skip _);
    }

tight_index : (b c : Blanks) (i : Int) → is_empty b ≡ true → is_empty c ≡ true → SingularSegmentOf (child_brackets (bracketed b (index_selector i) no_selector c))
unfolding write_segment write_singular_segment write_bracketed write_selectors write_selector count_bracketed count_more
tight_index b c i hb hc =
    record {
      segment = index_segment i;
      spells = λ r. rw (empty_spells c (0x5D ∷ r) hc, empty_spells b (spell_int i (0x5D ∷ r)) hb);
      writes = ap (counted 0x03 1) (seq_skip _);
    }

-- a plain selector is a name or an index
tight_brackets_lem : (b c : Blanks) (x : G.Selector) (xs : G.Selectors)
    → is_empty b ≡ true → is_plain_selector x ≡ true → is_alone xs ≡ true → is_empty c ≡ true → SingularSegmentOf (child_brackets (bracketed b x xs c))
unfolding is_plain_selector is_alone
tight_brackets_lem b c (name_selector t) no_selector hb hx hs hc = tight_name b c t hb hc
tight_brackets_lem b c (name_selector t) (more_selectors d e y ys) hb hx hs hc = absurd (false≢true hs)
tight_brackets_lem b c (index_selector i) no_selector hb hx hs hc = tight_index b c i hb hc
tight_brackets_lem b c (index_selector i) (more_selectors d e y ys) hb hx hs hc = absurd (false≢true hs)
tight_brackets_lem b c wildcard_selector xs hb hx hs hc = absurd (false≢true hx)
tight_brackets_lem b c (slice_selector s) xs hb hx hs hc = absurd (false≢true hx)
tight_brackets_lem b c (filter_selector d e) xs hb hx hs hc = absurd (false≢true hx)

tight_bracketed : (x : G.Bracketed) → tight_brackets x ≡ true → SingularSegmentOf (child_brackets x)
unfolding tight_brackets
tight_bracketed (bracketed b x xs c) h =
    let k : (is_plain_selector x && (is_alone xs && is_empty c)) ≡ true = and_right (is_empty b) _ h in
    let l : (is_alone xs && is_empty c) ≡ true = and_right (is_plain_selector x) _ k in
    tight_brackets_lem b c x xs (and_left _ _ h) (and_left _ _ k) (and_left _ _ l) (and_right (is_alone xs) _ l)

tight_segment_lem : (x : G.Segment) → tight_segment x ≡ true → SingularSegmentOf x
unfolding tight_segment write_segment write_singular_segment
tight_segment_lem (child_brackets x) h = tight_bracketed x h
tight_segment_lem child_wild h = absurd (false≢true h)
tight_segment_lem (child_name n) h = record { segment = dot_segment n; spells = λ r. refl; writes = refl }
tight_segment_lem (descendant_brackets x) h = absurd (false≢true h)
tight_segment_lem descendant_wild h = absurd (false≢true h)
tight_segment_lem (descendant_name n) h = absurd (false≢true h)

-- the singular query's segments that some segments are
pub record SingularOf (xs : G.Segments) : Type 0 where
  pub segments : G.SingularSegments
  pub spells : (r : List ℕ) → spell_segments xs r ≡ spell_singular_segments segments r
  pub writes : (p : ℕ) → write_segments xs p ≡ write_singular_segments segments p

-- a segment before others
join_singular : (b : Blanks) (x : G.Segment) (xs : G.Segments) → SingularSegmentOf x → SingularOf xs → SingularOf (more_segments b x xs)
unfolding write_segments write_singular_segments
join_singular b x xs s q =
    record {
      segments = more_singular b s.segment q.segments;
      spells = λ r. ap (spell_blanks b) (s.spells (spell_segments xs r) ∙ ap (spell_singular_segment s.segment) (q.spells r));
      writes = λ p. ap₂ (λ f g. seq f g p) s.writes (fun_ext q.writes);
    }

-- tight segments are those of a singular query
pub tight_is_singular : (xs : G.Segments) → tight_segments xs ≡ true → SingularOf xs
unfolding tight_segments write_segments write_singular_segments
tight_is_singular no_segment h = record { segments = no_singular; spells = λ r. refl; writes = λ p. refl }
tight_is_singular (more_segments b x xs) h =
    join_singular b x xs (tight_segment_lem x (and_left (tight_segment x) _ h)) (tight_is_singular xs (and_right (tight_segment x) _ h))

-- ---- tight segments are singular as a form

tight_brackets_singular : (x : G.Bracketed) → tight_brackets x ≡ true → singular_brackets x ≡ true
unfolding tight_brackets singular_brackets
tight_brackets_singular (bracketed b x xs c) h =
    let k : (is_plain_selector x && (is_alone xs && is_empty c)) ≡ true = and_right (is_empty b) _ h in
    and_both (is_plain_selector x) (is_alone xs) (and_left _ _ k) (and_left _ _ (and_right (is_plain_selector x) _ k))

tight_segment_singular : (x : G.Segment) → tight_segment x ≡ true → singular_segment x ≡ true
unfolding tight_segment singular_segment
tight_segment_singular (child_brackets x) h = tight_brackets_singular x h
tight_segment_singular child_wild h = h
tight_segment_singular (child_name n) h = h
tight_segment_singular (descendant_brackets x) h = h
tight_segment_singular descendant_wild h = h
tight_segment_singular (descendant_name n) h = h

pub tight_singular : (xs : G.Segments) → tight_segments xs ≡ true → singular_segments xs ≡ true
unfolding tight_segments singular_segments
tight_singular no_segment h = refl
tight_singular (more_segments b x xs) h =
    and_both (singular_segment x) (singular_segments xs) (tight_segment_singular x (and_left (tight_segment x) _ h)) (tight_singular xs (and_right (tight_segment x) _ h))
