-- The laws of the readers of literals and of calls. Assumes nothing.
use Prim.Native.Nat.{ℕ, zero, suc, ◌+◌, ◌≤◌, ◌<◌}
use native.Mathlib.Omega.{arith}
use mathlib.Core.Path.{◌≡◌, refl, sym, ap, ◌∙◌}
use mathlib.Core.List.{List, [], ◌∷◌, ◌++◌}
use mathlib.Core.Bool.{true, false, not, true≢false, and-false}
use borrow.Author.Tests.{eqb-true, eqb-false, eq-eqb, ne_eqb, le-leb, lt-leb}
use lib.Dec.{eqb, leb, ltb}
use lib.IntN.{ℤ}
use lib.ListN.{length, drop}
use Rattle.definition.specs.Forms.{Literal}
use Rattle.definition.specs.Forms.Literal.{integer, float, text}
use Rattle.definition.specs.QueryForms.{inside_i64}
use Rattle.definition.specs.Plans.{pool_literal}
use Rattle.basics.specs.Bools.{and_left, and_right, both_true}
use Rattle.basics.specs.Lists.{differ, same_tail}
use Rattle.utf8_laws.specs.Bytes.{by_test}
use Rattle.plan_laws.specs.Parts.{Part, Spelt, move}
use Rattle.plan_laws.specs.Leaves.{texts, integers, floats, smalls, literals, constant_of, LiteralOf, of_integer, of_float, of_text, of_constant, literal_of, as_integer, as_float, as_text, as_constant}
use Rattle.plan_laws.specs.Operands.{Call, call_count, call_length, call_value, call_byte, allowed, calls_right, code_calls, calls_part, is_call, no_call, sort_three}
use Rattle.plan_items.specs.Readings.{first_byte, Kind, Within, NoPart, Post, next, stop, AnyRoom, AnyPool, PostCalls, call_of}
use Rattle.plan_items.specs.declared.Got.{Got}
use Rattle.std.specs.Prelude.{Option, Some, None}
use Rattle.plan_items.proofs.Words.{kind_in, kind_is, kind_not, kind_at}

-- A part that is another behind a byte of kind: each way from one to the other, and that depth, sort and pool stay.
pub record Behind {X Y : Type 0} (F : Part X) (G : Part Y) (room : ℕ) (S L : List ℕ) (at p : ℕ) : Type 0 where
  pub make : X → Y
  pub there : (x : X) (r m : List ℕ) → Spelt F room (drop (at + 1) S) (drop p L) p x r m → Spelt G room (drop at S) (drop p L) p (make x) r m
  pub back : (y : Y) (r m : List ℕ) → Spelt G room (drop at S) (drop p L) p y r m → (x : X) × Spelt F room (drop (at + 1) S) (drop p L) p x r m
  pub pool : (x : X) → F.pool x ≡ G.pool (make x)
  pub nest : (x : X) → F.nest x ≡ G.nest (make x)
  pub sort : (x : X) → F.sort x ≡ G.sort (make x)

-- what is read behind the kind is read with it
pub behind : {X Y : Type 0} {F : Part X} {G : Part Y} {room at p : ℕ} {S L : List ℕ} {r : Option Got} → Behind F G room S L at p → Post F room S L (at + 1) p r → Post G room S L at p r
behind {at = at} {p = p} b (next {g = g} rd) =
    let f = rd.from in
    next {g = g} (record {
      form = b.make rd.form;
      spelt = b.there rd.form _ _ rd.spelt;
      from = omega arith;
      to = rd.to;
      grown = rd.grown ∙ ap (λ s. p + length s) (b.pool rd.form);
      held = rd.held;
      nest = rd.nest ∙ b.nest rd.form;
      sort = rd.sort ∙ b.sort rd.form;
    })
behind b (stop n) = stop (record { none = λ y r m u. let v = b.back y r m u in n.none v.0 r m v.1 })

-- ---- literals

module _ {room at p : ℕ} {S L : List ℕ} where
  pub integer_literal : drop at S ≡ 0x10 ∷ drop (at + 1) S → Behind (integers inside_i64 2) literals room S L at p
  unfolding pool_literal constant_of
  integer_literal f = record { make = integer; there = λ x r m u. as_integer f u; back = λ y r m u. go (literal_of y u); pool = λ x. refl; nest = λ x. refl; sort = λ x. refl }
    where
      go : {y : Literal} {r m : List ℕ} → LiteralOf room (drop at S) (drop p L) p r m y → (x : ℤ) × Spelt (integers inside_i64 2) room (drop (at + 1) S) (drop p L) p x r m
      go (of_integer z e v) = (z, move v (same_tail e f) refl refl)
      go (of_float z e v) = absurd (differ 0x11 0x10 refl e f)
      go (of_text z e v) = absurd (differ 0x12 0x10 refl e f)
      go (of_constant z e c v) = absurd (differ 0x13 0x10 refl e f)

  pub float_literal : drop at S ≡ 0x11 ∷ drop (at + 1) S → Behind (floats 2) literals room S L at p
  unfolding pool_literal constant_of
  float_literal f = record { make = float; there = λ x r m u. as_float f u; back = λ y r m u. go (literal_of y u); pool = λ x. refl; nest = λ x. refl; sort = λ x. refl }
    where
      go : {y : Literal} {r m : List ℕ} → LiteralOf room (drop at S) (drop p L) p r m y → (x : ℕ) × Spelt (floats 2) room (drop (at + 1) S) (drop p L) p x r m
      go (of_integer z e v) = absurd (differ 0x10 0x11 refl e f)
      go (of_float z e v) = (z, move v (same_tail e f) refl refl)
      go (of_text z e v) = absurd (differ 0x12 0x11 refl e f)
      go (of_constant z e c v) = absurd (differ 0x13 0x11 refl e f)

  pub text_literal_lem : drop at S ≡ 0x12 ∷ drop (at + 1) S → Behind (texts 2) literals room S L at p
  unfolding pool_literal constant_of
  text_literal_lem f = record { make = text; there = λ x r m u. as_text f u; back = λ y r m u. go (literal_of y u); pool = λ x. refl; nest = λ x. refl; sort = λ x. refl }
    where
      go : {y : Literal} {r m : List ℕ} → LiteralOf room (drop at S) (drop p L) p r m y → (x : List ℕ) × Spelt (texts 2) room (drop (at + 1) S) (drop p L) p x r m
      go (of_integer z e v) = absurd (differ 0x10 0x12 refl e f)
      go (of_float z e v) = absurd (differ 0x11 0x12 refl e f)
      go (of_text z e v) = (z, move v (same_tail e f) refl refl)
      go (of_constant z e c v) = absurd (differ 0x13 0x12 refl e f)

  pub constant_literal : drop at S ≡ 0x13 ∷ drop (at + 1) S → Behind (smalls 3 2) literals room S L at p
  unfolding pool_literal constant_of
  constant_literal f = record { make = constant_of; there = λ x r m u. as_constant x f u; back = λ y r m u. go (literal_of y u); pool = pool; nest = λ x. refl; sort = λ x. refl }
    where
      pool : (x : ℕ) → [] ≡ pool_literal (constant_of x)
      pool zero = refl
      pool (suc zero) = refl
      pool (suc (suc n)) = refl

      go : {y : Literal} {r m : List ℕ} → LiteralOf room (drop at S) (drop p L) p r m y → (x : ℕ) × Spelt (smalls 3 2) room (drop (at + 1) S) (drop p L) p x r m
      go (of_integer z e v) = absurd (differ 0x10 0x13 refl e f)
      go (of_float z e v) = absurd (differ 0x11 0x13 refl e f)
      go (of_text z e v) = absurd (differ 0x12 0x13 refl e f)
      go (of_constant z e c v) = (z, move v (same_tail e f) refl refl)

  -- no literal begins otherwise
  pub no_literal : {k : ℕ} → Kind S at k → (k ≡ 0x10 → ⊥) → (k ≡ 0x11 → ⊥) → (k ≡ 0x12 → ⊥) → (k ≡ 0x13 → ⊥) → NoPart literals room S L at p
  no_literal {k} e a b c d = record { none = λ y r m u. go (literal_of y u) }
    where
      go : {y : Literal} {r m : List ℕ} → LiteralOf room (drop at S) (drop p L) p r m y → ⊥
      go (of_integer z f v) = kind_not e 0x10 a f
      go (of_float z f v) = kind_not e 0x11 b f
      go (of_text z f v) = kind_not e 0x12 c f
      go (of_constant z f g v) = kind_not e 0x13 d f

-- the same in the words of the code
module _ {S L : List ℕ} {at p k : ℕ} {r : Option Got} (w : Within S L at p) (e : Kind S at k) where
  pub literal_integer : k ≡ 0x10 → AnyPool (integers inside_i64 2) S (at + 1) p r → AnyRoom literals S L at p r
  literal_integer f a = record { any = λ room. behind (integer_literal (kind_at e f)) (a.any L room w.pool) }

  pub literal_float : k ≡ 0x11 → AnyPool (floats 2) S (at + 1) p r → AnyRoom literals S L at p r
  literal_float f a = record { any = λ room. behind (float_literal (kind_at e f)) (a.any L room w.pool) }

  pub literal_text : k ≡ 0x12 → AnyRoom (texts 2) S L (at + 1) p r → AnyRoom literals S L at p r
  literal_text f a = record { any = λ room. behind (text_literal_lem (kind_at e f)) (a.any room) }

  pub literal_constant : k ≡ 0x13 → AnyPool (smalls 3 2) S (at + 1) p r → AnyRoom literals S L at p r
  literal_constant f a = record { any = λ room. behind (constant_literal (kind_at e f)) (a.any L room w.pool) }

pub literal_none : {S L : List ℕ} {at p k : ℕ} → Kind S at k → (k ≡ 0x10 → ⊥) → (k ≡ 0x11 → ⊥) → (k ≡ 0x12 → ⊥) → (k ≡ 0x13 → ⊥) → AnyRoom literals S L at p None
literal_none e a b c d = record { any = λ room. stop (no_literal e a b c d) }

-- ---- calls

-- the call of a byte is told by it
pub call_of_byte : (c : Call) → call_of (call_byte c) ≡ c
unfolding call_of
call_of_byte call_count = refl
call_of_byte call_length = refl
call_of_byte call_value = refl

pub byte_of_call : (k : ℕ) → 0x19 ≤ k → k ≤ 0x1B → call_byte (call_of k) ≡ k
unfolding call_of
byte_of_call k l h = by_test (eqb k 0x1A) (λ t. rw t (sym (eqb-true k 0x1A t))) (λ f. by_test (eqb k 0x19) (λ t. rw (f, t) (sym (eqb-true k 0x19 t))) (λ g. rw (f, g) (let a = eqb-false k 0x1A f in let b = eqb-false k 0x19 g in omega arith)))

-- the test of the code
pub allows_length : (σ k : ℕ) → k ≡ 0x1A → allowed σ (call_of k) ≡ ltb 0 σ
unfolding call_of
allows_length σ k e = rw (eq-eqb k 0x1A e)

pub allows_other : (σ k : ℕ) → (k ≡ 0x1A → ⊥) → allowed σ (call_of k) ≡ leb σ 1
unfolding call_of
allows_other σ k n = rw (ne_eqb k 0x1A n) (by_test (eqb k 0x19) (λ t. rw t) (λ f. rw f))

module _ {S : List ℕ} {at k : ℕ} (e : Kind S at k) (l : 0x19 ≤ k) (l' : k ≤ 0x1B) where
  -- where a call stands, the calls do not end
  no_end : no_call (drop at S) ≡ true → ⊥
  no_end f =
      let a : is_call k ≡ true = rw (le-leb 0x19 k l, le-leb k 0x1B l') in
      true≢false (sym f ∙ ap no_call (kind_is e (omega arith)) ∙ ap not a)

  -- the first of the calls is the one that stands there
  first_call : (c : Call) (cs : List Call) (r : List ℕ) → drop at S ≡ code_calls (c ∷ cs) ++ r → c ≡ call_of k
  first_call c cs r f =
      let g = kind_is e (omega arith) in
      let i : call_byte c ≡ k = cc in
      sym (call_of_byte c) ∙ ap call_of i

module _ {S L : List ℕ} {at p room k : ℕ} (h σ : ℕ) (e : Kind S at k) where
  -- where no call stands, the calls end
  pub calls_end : at ≤ length S → p ≤ length L → h ≤ room → is_call k ≡ false → Post (calls_part h σ) room S L at p (Some (record { at = at; p = p; h = h; sort = σ }))
  calls_end a b c f = next {g = record { at = at; p = p; h = h; sort = σ }} (record {
    form = [];
    spelt = record { plan = refl; pool = refl; right = refl; low = omega arith; may = go (drop at S) e.is };
    from = omega arith;
    to = a;
    grown = omega arith;
    held = b;
    nest = omega arith;
    sort = refl;
  })
    where
      go : (s : List ℕ) → k ≡ first_byte s → no_call s ≡ true
      go [] g = refl
      go (c ∷ s) g = rw (← g, f)

  module _ (l : 0x19 ≤ k) (l' : k ≤ 0x1B) where
    pub calls_refused : allowed σ (call_of k) ≡ false → NoPart (calls_part h σ) room S L at p
    calls_refused f = record { none = go }
      where
        go : (cs : List Call) (r m : List ℕ) → Spelt (calls_part h σ) room (drop at S) (drop p L) p cs r m → ⊥
        go [] r m u = no_end e l l' (ap no_call u.plan ∙ u.may)
        go (c ∷ cs) r m u = true≢false (sym (and_left (allowed σ c) (calls_right 3 cs) u.right) ∙ ap (allowed σ) (first_call e l l' c cs r u.plan) ∙ f)

    pub calls_deep : room ≤ h → NoPart (calls_part h σ) room S L at p
    calls_deep f = record { none = go }
      where
        go : (cs : List Call) (r m : List ℕ) → Spelt (calls_part h σ) room (drop at S) (drop p L) p cs r m → ⊥
        go [] r m u = no_end e l l' (ap no_call u.plan ∙ u.may)
        go (c ∷ cs) r m u = let g = u.low in omega arith

    pub calls_more : {r : Option Got} → allowed σ (call_of k) ≡ true → Post (calls_part (h + 1) 3) room S L (at + 1) p r → Post (calls_part h σ) room S L at p r
    calls_more f (next {g = g} rd) =
        let a = rd.from in
        let b = rd.nest in
        let d = rd.spelt.low in
        next {g = g} (record {
          form = call_of k ∷ rd.form;
          spelt = record { plan = kind_is e (omega arith) ∙ ap (λ c. c ∷ drop (at + 1) S) (sym (byte_of_call k l l')) ∙ ap (λ c. call_byte (call_of k) ∷ c) rd.spelt.plan; pool = rd.spelt.pool; right = both_true f rd.spelt.right; low = omega arith; may = rd.spelt.may };
          from = omega arith;
          to = rd.to;
          grown = rd.grown;
          held = rd.held;
          nest = omega arith;
          sort = rd.sort ∙ sort_three rd.form;
        })
    calls_more f (stop n) = stop (record { none = go })
      where
        go : (cs : List Call) (r m : List ℕ) → Spelt (calls_part h σ) room (drop at S) (drop p L) p cs r m → ⊥
        go [] r m u = no_end e l l' (ap no_call u.plan ∙ u.may)
        go (c ∷ cs) r m u =
            let g = kind_is e (omega arith) in
            let i = u.low in
            n.none cs r m (record { plan = same_tail g u.plan; pool = u.pool; right = and_right (allowed σ c) (calls_right 3 cs) u.right; low = omega arith; may = u.may })

-- the loop: what is right from here on is right from the start
pub record Going (S : List ℕ) (room : ℕ) (at₀ p h₀ σ₀ at h σ : ℕ) : Type 0 where
  pub on : (L : List ℕ) (r : Option Got) → p ≤ length L → Post (calls_part h σ) room S L at p r → Post (calls_part h₀ σ₀) room S L at₀ p r
  pub to : at ≤ length S
  pub low : h ≤ room

pub going_start : {S : List ℕ} {room at p h σ : ℕ} → at ≤ length S → h ≤ room → Going S room at p h σ at h σ
going_start a b = record { on = λ L r q x. x; to = a; low = b }

module _ {S : List ℕ} {room at₀ p h₀ σ₀ at h σ k : ℕ} (g : Going S room at₀ p h₀ σ₀ at h σ) (e : Kind S at k) where
  pub going_below : k < 0x19 → PostCalls S (record { at = at₀; p = p; h = h₀; sort = σ₀ }) room (Some (record { at = at; p = p; h = h; sort = σ }))
  going_below f = record { any = λ L q. g.on L _ q (calls_end h σ e g.to q g.low (rw (lt-leb 0x19 k f))) }

  pub going_above : 0x1B < k → PostCalls S (record { at = at₀; p = p; h = h₀; sort = σ₀ }) room (Some (record { at = at; p = p; h = h; sort = σ }))
  going_above f = record { any = λ L q. g.on L _ q (calls_end h σ e g.to q g.low (rw (lt-leb k 0x1B f) (and-false (leb 0x19 k)))) }

  module _ (l : 0x19 ≤ k) (l' : k ≤ 0x1B) where
    pub going_refused : allowed σ (call_of k) ≡ false → PostCalls S (record { at = at₀; p = p; h = h₀; sort = σ₀ }) room None
    going_refused f = record { any = λ L q. g.on L _ q (stop (calls_refused h σ e l l' f)) }

    pub going_deep : room ≤ h → PostCalls S (record { at = at₀; p = p; h = h₀; sort = σ₀ }) room None
    going_deep f = record { any = λ L q. g.on L _ q (stop (calls_deep h σ e l l' f)) }

    pub going_more : allowed σ (call_of k) ≡ true → h < room → Going S room at₀ p h₀ σ₀ (at + 1) (h + 1) 3
    going_more f d = record { on = λ L r q x. g.on L r q (calls_more h σ e l l' f x); to = kind_in e (omega arith); low = omega arith }
