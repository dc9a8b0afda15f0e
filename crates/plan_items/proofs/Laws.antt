-- The laws of the readers of texts, numbers and slices: what stands at a place, by the words that were read there. Assumes nothing.
use Prim.Native.Nat.{ℕ, suc, ◌+◌, ◌-◌, ◌^◌, ◌≤◌, ◌<◌}
use native.Mathlib.Omega.{arith}
use mathlib.Core.Path.{◌≡◌, refl, sym, ap, ◌∙◌}
use mathlib.Core.List.{List, ◌++◌, append_assoc}
use mathlib.Core.Bool.{Bool, true, false, true≢false}
use borrow.Author.Tests.{ltb-true, ltb-false, leb-true, leb-false, lt-ltb, le-leb, lt-leb}
use lib.Dec.{leb, ltb}
use lib.IntN.{ℤ}
use lib.ListN.{length, take, drop, get_or, length-append, length-drop}
use lib.Seq.{take_at}
use Rattle.definition.specs.Limits.{max_int}
use Rattle.definition.specs.Bytes.{part, little_endian, signed64, unsigned64}
use Rattle.definition.specs.Utf8.{is_utf8}
use Rattle.definition.specs.Literals.{in_range}
use Rattle.definition.specs.Tables.{is_finite}
use Rattle.definition.specs.QueryForms.{inside_i64}
use Rattle.definition.specs.Plans.{two}
use Rattle.definition_bytes.specs.Numbers.{little_endian_length, unsigned_fits}
use Rattle.definition_bytes.specs.Same.{part_length}
use Rattle.basics.specs.Lists.{drop_at}
use Rattle.basics.specs.Bools.{and_left, and_right, both_true}
use Rattle.plan_laws.specs.Lists.{number_same}
use Rattle.plan_laws.specs.Parts.{Spelt, plan_left, pool_left}
use Rattle.plan_laws.specs.Leaves.{texts, integers, floats, smalls, unsigned_same}
use Rattle.utf8_laws.specs.Bytes.{by_test}
use Rattle.text.specs.Words.{Word}
use Rattle.text.proofs.Same.{part_rest}
use Rattle.plan_items.specs.Readings.{Within, next, stop, AnyRoom, AnyPool, Eight, short, failed, passed}
use Rattle.std.specs.Prelude.{Option, Some, None}
use Rattle.plan_items.specs.declared.Got.{Got}
use Rattle.plan_items.proofs.Words.{word_at}

-- ---- texts

text_size : (x : List ℕ) (p : ℕ) → length (two p ++ two (length x)) ≡ 4
text_size x p =
    let a = length-append (two p) (two (length x)) in
    let b = little_endian_length 2 p in
    let c = little_endian_length 2 (length x) in
    omega arith

module _ {S L : List ℕ} {at p : ℕ} (w : Within S L at p) (σ : ℕ) where
  pub text_short : length S - at < 4 → AnyRoom (texts σ) S L at p None
  text_short h = record {
    any = λ room. stop (record {
      none = λ x r m u.
          let a = plan_left u in
          let b = text_size x p in
          let c = length-drop at S in
          omega arith;
    });
  }

  module _ (bytes : (i : ℕ) → get_or S i 0 < 256) (h : 4 ≤ length S - at) {start : ℕ} (ws : Word 2 S at start) where
    -- what stands behind the start
    text_start : {room : ℕ} {x r m : List ℕ} → Spelt (texts σ) room (drop at S) (drop p L) p x r m → (start ≡ p) × (drop (at + 2) S ≡ two (length x) ++ r)
    text_start {x = x} {r = r} u =
        let a = w.pool in
        let b = w.few in
        number_same 2 start p ws.fits (omega arith) (word_at bytes (omega arith) ws) (u.plan ∙ append_assoc (two p) (two (length x)) r)

    pub text_elsewhere : (start ≡ p → ⊥) → AnyRoom (texts σ) S L at p None
    text_elsewhere n = record { any = λ room. stop (record { none = λ x r m u. n (text_start u).0 }) }

    module _ {n : ℕ} (wn : Word 2 S (at + 2) n) where
      -- the length that stands there is the text's
      text_length : {room : ℕ} {x r m : List ℕ} → Spelt (texts σ) room (drop at S) (drop p L) p x r m → n ≡ length x
      text_length {x = x} {r = r} u =
          let a = pool_left u in
          let b = w.few in
          let c = length-drop p L in
          (number_same 2 n (length x) wn.fits (omega arith) (word_at bytes (omega arith) wn) (text_start u).1).0

      pub text_long : length L - p < n → AnyRoom (texts σ) S L at p None
      text_long l = record {
        any = λ room. stop (record {
          none = λ x r m u.
              let a = text_length u in
              let b = pool_left u in
              let c = length-drop p L in
              omega arith;
        });
      }

      pub text_wrong : is_utf8 (part L p n) ≡ false → AnyRoom (texts σ) S L at p None
      text_wrong f = record {
        any = λ room. stop (record {
          none = λ x r m u.
              let e : part L p n ≡ x = ap (take n) u.pool ∙ take_at x m n (sym (text_length u)) in
              true≢false (sym u.right ∙ ap is_utf8 (sym e) ∙ f);
        });
      }

      pub text_found : start ≡ p → n ≤ length L - p → is_utf8 (part L p n) ≡ true → AnyRoom (texts σ) S L at p (Some (record { at = at + 4; p = p + n; h = 0; sort = σ }))
      text_found e l g = record {
        any = λ room.
            let q = w.pool in
            let k : length (part L p n) ≡ n = part_length L p n (omega arith) in
            let a = word_at {S = S} {w = 2} {at = at} bytes (omega arith) ws in
            let b = word_at {S = S} {w = 2} {at = at + 2} bytes (omega arith) wn in
            let c : at + 2 + 2 ≡ at + 4 = omega arith in
            next {g = record { at = at + 4; p = p + n; h = 0; sort = σ }} (record {
              form = part L p n;
              spelt = record {
                plan = a ∙ ap (λ o. two o ++ drop (at + 2) S) e ∙ ap (λ o. two p ++ o) (b ∙ ap (λ o. two n ++ drop o S) c) ∙ sym (append_assoc (two p) (two n) (drop (at + 4) S)) ∙ ap (λ o. (two p ++ two o) ++ drop (at + 4) S) (sym k);
                pool = sym (part_rest L p n);
                right = g;
                low = omega arith;
                may = refl;
              };
              from = omega arith;
              to = omega arith;
              grown = omega arith;
              held = omega arith;
              nest = refl;
              sort = refl;
            });
      }

-- ---- numbers of eight bytes

-- a part of eight bytes is not spelled where fewer are left
pub eight_short : (S r : List ℕ) (at n : ℕ) → length S - at < 8 → drop at S ≡ little_endian 8 n ++ r → ⊥
eight_short S r at n h e =
    let a : length (drop at S) ≡ length (little_endian 8 n ++ r) = ap length e in
    let b = length-append (little_endian 8 n) r in
    let c = little_endian_length 8 n in
    let d = length-drop at S in
    omega arith

-- a number of eight bytes in two's complement
pub signed_inside : (n : ℕ) → n < 2 ^ 64 → inside_i64 (signed64 n) ≡ true
unfolding inside_i64
signed_inside n h = by_test (ltb n (2 ^ 63)) (λ t. rw t t) (λ f. rw f (let a = ltb-false n (2 ^ 63) f in lt-ltb (2 ^ 64 - suc n) (2 ^ 63) (omega arith)))

pub unsigned_signed : (n : ℕ) → n < 2 ^ 64 → unsigned64 (signed64 n) ≡ n
unsigned_signed n h = by_test (ltb n (2 ^ 63)) (λ t. rw t) (λ f. rw f (omega arith))

-- which of them lie in refusal 4's range
pub range_low : (n : ℕ) → n ≤ max_int → in_range (signed64 n) ≡ true
range_low n h = rw (lt-ltb n (2 ^ 63) (omega arith)) (le-leb n max_int h)

pub range_high : (n : ℕ) → n < 2 ^ 64 → max_int < n → in_range (signed64 n) ≡ leb 18437736874454810625 n
range_high n h g =
    by_test (ltb n (2 ^ 63))
    (λ t. let a = ltb-true n (2 ^ 63) t in rw t (lt-leb n max_int g ∙ sym (lt-leb 18437736874454810625 n (omega arith))))
    (λ f.
    let a = ltb-false n (2 ^ 63) f in
    rw f (by_test (leb 18437736874454810625 n)
    (λ t. let b = leb-true 18437736874454810625 n t in le-leb (suc (2 ^ 64 - suc n)) max_int (omega arith) ∙ sym t)
    (λ i. let b = leb-false 18437736874454810625 n i in lt-leb (suc (2 ^ 64 - suc n)) max_int (omega arith) ∙ sym i)))

module _ {S : List ℕ} {at p : ℕ} (ok : ℤ → Bool) (σ : ℕ) where
  pub integer_short : length S - at < 8 → AnyPool (integers ok σ) S at p None
  integer_short h = record { any = λ L room q. stop (record { none = λ z r m u. eight_short S r at (unsigned64 z) h u.plan }) }

  module _ (bytes : (i : ℕ) → get_or S i 0 < 256) (h : 8 ≤ length S - at) {n : ℕ} (w : Word 8 S at n) where
    pub integer_wrong : ((z : ℤ) → ok z ≡ true → inside_i64 z ≡ true) → ok (signed64 n) ≡ false → AnyPool (integers ok σ) S at p None
    integer_wrong inside f = record {
      any = λ L room q. stop (record {
        none = λ z r m u.
            let a = (number_same 8 n (unsigned64 z) w.fits (unsigned_fits z (inside z u.right)) (word_at bytes (omega arith) w) u.plan).0 in
            let k = w.fits in
            let b : signed64 n ≡ z = unsigned_same (signed64 n) z (signed_inside n (omega arith)) (inside z u.right) (unsigned_signed n (omega arith) ∙ a) in
            true≢false (sym u.right ∙ ap ok (sym b) ∙ f);
      });
    }

    pub integer_found : ok (signed64 n) ≡ true → AnyPool (integers ok σ) S at p (Some (record { at = at + 8; p = p; h = 0; sort = σ }))
    integer_found g = record {
      any = λ L room q.
          let k = w.fits in
          next {g = record { at = at + 8; p = p; h = 0; sort = σ }} (record {
            form = signed64 n;
            spelt = record { plan = word_at bytes (omega arith) w ∙ ap (λ o. little_endian 8 o ++ drop (at + 8) S) (sym (unsigned_signed n (omega arith))); pool = refl; right = g; low = omega arith; may = refl };
            from = omega arith;
            to = omega arith;
            grown = omega arith;
            held = q;
            nest = refl;
            sort = refl;
          });
    }

  -- by what is answered of the eight bytes
  pub integer_tested : {answers : ℕ → Bool → Type 0} {r : Option Got} → ((i : ℕ) → get_or S i 0 < 256) → ((z : ℤ) → ok z ≡ true → inside_i64 z ≡ true) → ((n : ℕ) (b : Bool) → n < 2 ^ 64 → answers n b → b ≡ ok (signed64 n))
      → Eight answers σ S at p r → AnyPool (integers ok σ) S at p r
  integer_tested bytes inside says (short h) = integer_short h
  integer_tested bytes inside says (failed {n = n} h w f) = let k = w.fits in integer_wrong bytes h w inside (sym (says n false (omega arith) f))
  integer_tested bytes inside says (passed {n = n} h w f) = let k = w.fits in integer_found bytes h w (sym (says n true (omega arith) f))

-- ---- floats

module _ {S : List ℕ} {at p : ℕ} where
  pub float_short : length S - at < 8 → AnyPool (floats 2) S at p None
  float_short h = record { any = λ L room q. stop (record { none = λ z r m u. eight_short S r at z h u.plan }) }

  module _ (bytes : (i : ℕ) → get_or S i 0 < 256) (h : 8 ≤ length S - at) {n : ℕ} (w : Word 8 S at n) where
    pub float_wrong : is_finite n ≡ false → AnyPool (floats 2) S at p None
    float_wrong f = record {
      any = λ L room q. stop (record {
        none = λ z r m u.
            let b = ltb-true z (2 ^ 64) (and_left (ltb z (2 ^ 64)) (is_finite z) u.right) in
            let a = (number_same 8 n z w.fits (omega arith) (word_at bytes (omega arith) w) u.plan).0 in
            true≢false (sym (and_right (ltb z (2 ^ 64)) (is_finite z) u.right) ∙ ap is_finite (sym a) ∙ f);
      });
    }

    pub float_found : is_finite n ≡ true → AnyPool (floats 2) S at p (Some (record { at = at + 8; p = p; h = 0; sort = 2 }))
    float_found g = record {
      any = λ L room q.
          let k = w.fits in
          next {g = record { at = at + 8; p = p; h = 0; sort = 2 }} (record {
            form = n;
            spelt = record { plan = word_at bytes (omega arith) w; pool = refl; right = both_true (lt-ltb n (2 ^ 64) (omega arith)) g; low = omega arith; may = refl };
            from = omega arith;
            to = omega arith;
            grown = omega arith;
            held = q;
            nest = refl;
            sort = refl;
          });
    }

  pub float_tested : {answers : ℕ → Bool → Type 0} {r : Option Got} → ((i : ℕ) → get_or S i 0 < 256) → ((n : ℕ) (b : Bool) → answers n b → b ≡ is_finite n) → Eight answers 2 S at p r → AnyPool (floats 2) S at p r
  float_tested bytes says (short h) = float_short h
  float_tested bytes says (failed {n = n} h w f) = float_wrong bytes h w (sym (says n false f))
  float_tested bytes says (passed {n = n} h w f) = float_found bytes h w (sym (says n true f))

-- ---- one byte

module _ {S : List ℕ} {at p : ℕ} (limit σ : ℕ) where
  pub small_short : length S ≤ at → AnyPool (smalls limit σ) S at p None
  small_short h = record {
    any = λ L room q. stop (record {
      none = λ z r m u.
          let a : length (drop at S) ≡ suc (length r) = ap length u.plan in
          let b = length-drop at S in
          omega arith;
    });
  }

  pub small_wrong : at < length S → limit ≤ get_or S at 0 → AnyPool (smalls limit σ) S at p None
  small_wrong h f = record {
    any = λ L room q. stop (record {
      none = λ z r m u.
          let a = drop_at S at h in
          let b = u.plan in
          let e : get_or S at 0 ≡ z = cc in
          let c = ltb-true z limit u.right in
          omega arith;
    });
  }

  pub small_found : at < length S → get_or S at 0 < limit → AnyPool (smalls limit σ) S at p (Some (record { at = at + 1; p = p; h = 0; sort = σ }))
  small_found h f = record {
    any = λ L room q.
        next {g = record { at = at + 1; p = p; h = 0; sort = σ }} (record {
          form = get_or S at 0;
          spelt = record { plan = drop_at S at h; pool = refl; right = lt-ltb (get_or S at 0) limit f; low = omega arith; may = refl };
          from = omega arith;
          to = omega arith;
          grown = omega arith;
          held = q;
          nest = refl;
          sort = refl;
        });
  }
