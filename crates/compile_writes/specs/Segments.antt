-- The writer agrees with the walk where segments and selectors are put together, if it does in their parts.
use Rattle.std.specs.Prelude.{ℕ, suc, ◌+◌, ◌≡◌, refl, List, [], ◌∷◌, ◌++◌, Bool, true, false, ◌&&◌, length}
use Rattle.std.proofs.Common.{ap, ap₂, sym, ◌∙◌, subst, append-nil, append_assoc}
use Rattle.std.proofs.Math.Path.{fun_ext}
use Rattle.std.proofs.Math.Bool.{and-true, and-false}
use Rattle.definition.specs.Forms as F
use Rattle.definition.specs.Forms.{many_selectors, is_singular_segments, is_singular_selectors, is_singular_selector}
use Rattle.definition.specs.Forms.Segments.{end, child, descendant}
use Rattle.definition.specs.Forms.Selectors.{one, and}
use Rattle.definition.specs.Plans.{two, pool_segments, pool_selectors, pool_selector, code_selectors, code_selector}
use Rattle.definition.specs.Walk.{Walked, fine, also, next}
use Rattle.compile_writes.specs.Effects.{Writer, skip, seq, counted}
use Rattle.compile_writes.specs.Laws.{translated, item, seq_skip}
use Rattle.compile_writes.specs.Agreement.{Agrees, fits, then, mapped, counts, before}
use Rattle.compile_writes.specs.Codes.{body_segments}

-- ---- selectors

-- n selectors, and whether they are one name or one index
pub record Selecting (n : ℕ) (b : Bool) (ss : F.Selectors) : Type 0 where
  pub many : many_selectors ss ≡ n
  pub singular : is_singular_selectors ss ≡ b

abbrev pub SelectorsAgree : ℕ → Bool → Writer → Walked F.Selectors → Type 0
SelectorsAgree n b f m = Agrees code_selectors pool_selectors (Selecting n b) f m

abbrev pub write_selector_form : F.Selector → Writer
write_selector_form s = item (code_selector s) (pool_selector s)

-- one selector alone
pub one_selects : (s : F.Selector) → SelectorsAgree 1 (is_singular_selector s) (write_selector_form s) (fine (one s))
unfolding code_selectors pool_selectors many_selectors is_singular_selectors
one_selects s = fits (one s) refl (record { many = refl; singular = refl })

-- no selector behind one
pub last_selects : (s : F.Selector) → SelectorsAgree 1 (is_singular_selector s && true) (seq (write_selector_form s) skip) (fine (one s))
unfolding code_selectors pool_selectors many_selectors is_singular_selectors
last_selects s = fits (one s) (seq_skip (write_selector_form s)) (record { many = refl; singular = sym (and-true (is_singular_selector s)) })

-- a selector before others
pub more_select : {n : ℕ} {b : Bool} {f : Writer} {m : Walked F.Selectors} (s : F.Selector) → SelectorsAgree n b f m
    → SelectorsAgree (suc n) (is_singular_selector s && false) (seq (write_selector_form s) f) (next m (λ ss. fine (and s ss)))
unfolding code_selectors pool_selectors many_selectors is_singular_selectors
more_select s h =
    mapped (and s) (before (code_selector s) (pool_selector s) h) (λ ss k. refl) (λ ss k. refl) (λ ss k. record { many = ap suc k.many; singular = sym (and-false (is_singular_selector s)) })

-- ---- segments

-- a segment by what it makes of the segments behind it: its code and pool are those before an end, and b says whether it is singular
pub record Leads (b : Bool) (k : F.Segments → F.Segments) : Type 0 where
  pub code : (q : F.Segments) (p : ℕ) → body_segments (k end) p ++ body_segments q (p + length (pool_segments (k end))) ≡ body_segments (k q) p
  pub pool : (q : F.Segments) → pool_segments (k end) ++ pool_segments q ≡ pool_segments (k q)
  pub singular : (q : F.Segments) → is_singular_segments (k q) ≡ (b && is_singular_segments q)

abbrev pub SegmentAgrees : Bool → Writer → Walked (F.Segments → F.Segments) → Type 0
SegmentAgrees b f m = Agrees (λ k. body_segments (k end)) (λ k. pool_segments (k end)) (Leads b) f m

-- the code of one segment before that of others
led : (kind n : ℕ) (s r : List ℕ) (f : ℕ → List ℕ) (p : ℕ) → (kind ∷ (two n ++ (s ++ []))) ++ f (p + length (r ++ [])) ≡ kind ∷ (two n ++ (s ++ f (p + length r)))
led kind n s r f p =
    ap (λ (l : List ℕ). kind ∷ l)
    (append_assoc (two n) (s ++ []) (f (p + length (r ++ []))) ∙ ap₂ (λ (l m : List ℕ). two n ++ (l ++ f (p + length m))) (append-nil s) (append-nil r))

-- child and descendant segments by what they make of those behind them
child_leads : (ss : F.Selectors) → Leads (is_singular_selectors ss) (child ss)
unfolding body_segments pool_segments is_singular_segments
child_leads ss =
    record {
      code = λ q p. led 0x03 (many_selectors ss) (code_selectors ss p) (pool_selectors ss) (body_segments q) p;
      pool = λ q. ap (λ (l : List ℕ). l ++ pool_segments q) (append-nil (pool_selectors ss));
      singular = λ q. refl;
    }

descendant_leads : (ss : F.Selectors) → Leads false (descendant ss)
unfolding body_segments pool_segments is_singular_segments
descendant_leads ss =
    record {
      code = λ q p. led 0x04 (many_selectors ss) (code_selectors ss p) (pool_selectors ss) (body_segments q) p;
      pool = λ q. ap (λ (l : List ℕ). l ++ pool_segments q) (append-nil (pool_selectors ss));
      singular = λ q. refl;
    }

-- what is written for a segment is its code before an end
before_end : (kind : ℕ) {n : ℕ} (ss : F.Selectors) (p : ℕ) → many_selectors ss ≡ n
    → kind ∷ (two n ++ code_selectors ss p) ≡ kind ∷ (two (many_selectors ss) ++ (code_selectors ss p ++ []))
before_end kind ss p e = ap₂ (λ (k : ℕ) (l : List ℕ). kind ∷ (two k ++ l)) (sym e) (sym (append-nil (code_selectors ss p)))

-- a segment of selectors
pub child_agrees : {n : ℕ} {b : Bool} {f : Writer} {m : Walked F.Selectors} → SelectorsAgree n b f m → SegmentAgrees b (counted 0x03 n f) (next m (λ ss. fine (child ss)))
unfolding body_segments pool_segments
child_agrees {n} h =
    mapped (λ ss q. child ss q) (counts 0x03 n h) (λ ss k. fun_ext (λ p. before_end 0x03 ss p k.many)) (λ ss k. sym (append-nil (pool_selectors ss)))
    (λ ss k. subst (λ (c : Bool). Leads c (child ss)) k.singular (child_leads ss))

pub descendant_agrees : {n : ℕ} {b : Bool} {f : Writer} {m : Walked F.Selectors} → SelectorsAgree n b f m → SegmentAgrees false (counted 0x04 n f) (next m (λ ss. fine (descendant ss)))
unfolding body_segments pool_segments
descendant_agrees {n} h =
    mapped (λ ss q. descendant ss q) (counts 0x04 n h) (λ ss k. fun_ext (λ p. before_end 0x04 ss p k.many)) (λ ss k. sym (append-nil (pool_selectors ss))) (λ ss k. descendant_leads ss)

-- selectors with nothing to report
pub child_fits : {n : ℕ} {b : Bool} {f : Writer} (ss : F.Selectors) → SelectorsAgree n b f (fine ss) → SegmentAgrees b (counted 0x03 n f) (fine (child ss))
unfolding next also
child_fits ss h = child_agrees h

pub descendant_fits : {n : ℕ} {b : Bool} {f : Writer} (ss : F.Selectors) → SelectorsAgree n b f (fine ss) → SegmentAgrees false (counted 0x04 n f) (fine (descendant ss))
unfolding next also
descendant_fits ss h = descendant_agrees h

abbrev pub SegmentsAgree : Bool → Writer → Walked F.Segments → Type 0
SegmentsAgree b f m = Agrees body_segments pool_segments (λ q. is_singular_segments q ≡ b) f m

-- no segment
pub no_segments : SegmentsAgree true skip (fine end)
unfolding body_segments pool_segments is_singular_segments skip translated
no_segments = fits end refl refl

-- a segment before others
pub segments_agree_on : {b c : Bool} {f g : Writer} {m : Walked (F.Segments → F.Segments)} {n : Walked F.Segments} → SegmentAgrees b f m → SegmentsAgree c g n
    → SegmentsAgree (b && c) (seq f g) (next m (λ s. next n (λ q. fine (s q))))
segments_agree_on {b} {g} {n} h i =
    then g (λ s. next n (λ q. fine (s q))) h (λ s l.
    mapped s (before (body_segments (s end)) (pool_segments (s end)) i) (λ q hq. fun_ext (l.code q)) (λ q hq. l.pool q) (λ q hq. l.singular q ∙ ap (λ (d : Bool). b && d) hq))
