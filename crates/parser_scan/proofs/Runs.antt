-- Bytes at a place of a text, and the runs of bytes that pass a test: what the scanner's loops keep, and what they end in.
-- Assumes nothing.
use mathlib.Core.Path.{◌≡◌, refl, sym, ap, ◌∙◌}
use mathlib.Core.Bool.{Bool, true, false}
use mathlib.Core.List.{List, [], ◌∷◌, ◌++◌, append_assoc, append-nil}
use Prim.Native.Nat.{ℕ, suc, ◌+◌, ◌-◌, ◌≤◌, ◌<◌}
use native.Mathlib.Nat.{sub_self}
use native.Mathlib.Omega.{arith}
use borrow.Author.Tests.{eqb-true}
use lib.Dec.{eqb}
use lib.ListN.{length, drop, get_or, length-drop, drop_of_length-le}
use lib.Seq.{take-suc, get_or-drop}
use Rattle.definition.specs.Bytes.{part}
use Rattle.definition.specs.Lexical.{is_blank}
use Rattle.definition.specs.Utf8.{is_utf8}
use Rattle.basics.specs.Lists.{drop_at}
use Rattle.basics.specs.Reads.{StartsNot}
use Rattle.utf8_laws.specs.Bytes.{by_test}
use Rattle.utf8_laws.specs.Encode.{utf8_ascii}
use Rattle.utf8_laws.specs.Scan.{front, behind}
use Rattle.parser_scan.specs.Text.{unblank, Is, Both, Skipped, Run}

-- ---- a byte at a place

-- no byte begins the empty text
pub empty_not : (s : List ℕ) (a : ℕ) {x : ℕ} {l : List ℕ} → length s ≤ a → drop a s ≡ x ∷ l → ⊥
empty_not s a h f =
    let d = drop_of_length-le s h in
    let z : ◌≡◌ {A = ℕ} 0 1 = cc in
    omega arith

-- a byte and another behind it
pub both_holds : (s : List ℕ) (a x y : ℕ) (b : Bool) → Is s a x true → Is s (a + 1) y b → Both s a x y b
both_holds s a x y true p q =
    let e : a + 1 + 1 ≡ a + 2 = omega arith in
    (omega arith, p.1 ∙ ap (λ (l : List ℕ). x ∷ l) q.1 ∙ ap (λ (n : ℕ). x ∷ y ∷ drop n s) e)
both_holds s a x y false p q = λ l f.
    let e = p.1 in
    let g : drop (a + 1) s ≡ y ∷ l = cc in
    q l g

-- ---- runs

-- the loops' invariant: from `at` to i all bytes pass the test
pub record Passing (p : ℕ → Bool) (s : List ℕ) (at i : ℕ) : Type 0 where
  pub from : at ≤ i
  pub to : i ≤ length s
  pub rest : behind p (drop i s) ≡ behind p (drop at s)
  pub bytes : front p (drop at s) ≡ part s at (i - at) ++ front p (drop i s)

-- one byte more of a part
pub part_more : (s : List ℕ) (at i : ℕ) → at ≤ i → i < length s → part s at (i + 1 - at) ≡ part s at (i - at) ++ get_or s i 0 ∷ []
part_more s at i le h =
    let n : i + 1 - at ≡ suc (i - at) = omega arith in
    let m : at + (i - at) ≡ i = omega arith in
    let g : i - at < length (drop at s) = rw length-drop (omega arith) in
    rw (n, take-suc (drop at s) (i - at) 0 g, get_or-drop, m)

module _ (p : ℕ → Bool) (s : List ℕ) where
  pub passing_start : (at : ℕ) → at ≤ length s → Passing p s at at
  passing_start at h = record { from = omega arith; to = h; rest = refl; bytes = rw sub_self }

  module _ {at i : ℕ} (k : Passing p s at i) where
    -- a byte that passes is passed
    pub passing_step : i < length s → p (get_or s i 0) ≡ true → Passing p s at (i + 1)
    passing_step h e =
        let f : front p (drop i s) ≡ get_or s i 0 ∷ front p (drop (i + 1) s) = rw (drop_at s i h, e) in
        let g : behind p (drop (i + 1) s) ≡ behind p (drop i s) = rw (drop_at s i h, e) in
        record {
          from = omega (arith, k.from);
          to = omega arith;
          rest = g ∙ k.rest;
          bytes = k.bytes ∙ rw (f, part_more s at i k.from h, append_assoc);
        }

    -- a byte that does not pass ends the run
    pub passing_stop : i < length s → p (get_or s i 0) ≡ false → Run p s at i
    passing_stop h e =
        let f : front p (drop i s) ≡ [] = rw (drop_at s i h, e) in
        let g : drop i s ≡ behind p (drop i s) = rw (drop_at s i h, e) in
        record { from = k.from; to = k.to; rest = g ∙ k.rest; bytes = sym (k.bytes ∙ rw f (append-nil (part s at (i - at)))) }

    -- the text's end ends the run
    pub passing_end : length s ≤ i → Run p s at i
    passing_end h =
        let d : drop i s ≡ [] = drop_of_length-le s h in
        let g : drop i s ≡ behind p (drop i s) = rw d in
        let f : front p (drop i s) ≡ [] = rw d in
        record { from = k.from; to = k.to; rest = g ∙ k.rest; bytes = sym (k.bytes ∙ rw f (append-nil (part s at (i - at)))) }

  -- a run behind a byte that passes begins at that byte
  pub run_first : {at r : ℕ} → at < length s → p (get_or s at 0) ≡ true → Run p s (at + 1) r → Run p s at r
  run_first {at} {r} h e k =
      let n : r - at ≡ suc (r - (at + 1)) = omega (arith, k.from) in
      record {
        from = omega (arith, k.from);
        to = k.to;
        rest = k.rest ∙ rw (drop_at s at h, e);
        bytes = rw (n, drop_at s at h, e) (ap (λ (l : List ℕ). get_or s at 0 ∷ l) k.bytes);
      }

-- a text that begins with no byte that passes has an empty front
pub starts_front : (p : ℕ → Bool) (r : List ℕ) → StartsNot p r → front p r ≡ []
unfolding StartsNot
starts_front p [] h = refl
starts_front p (c ∷ r) h = rw h

-- UTF-8 is left behind a run of ASCII bytes
pub behind_utf8 : (p : ℕ → Bool) → ((c : ℕ) → p c ≡ true → c < 0x80) → (s : List ℕ) → is_utf8 s ≡ true → is_utf8 (behind p s) ≡ true
behind_utf8 p f [] u = u
behind_utf8 p f (c ∷ s) u = by_test (p c) (λ t. rw t (behind_utf8 p f s (sym (utf8_ascii c s (f c t)) ∙ u))) (λ n. rw n u)

-- ---- blanks

-- blanks are ASCII
pub blank_ascii : (c : ℕ) → is_blank c ≡ true → c < 0x80
blank_ascii c e =
    by_test (eqb c 0x20) (λ t. let q = eqb-true c 0x20 t in omega arith) (λ f.
    by_test (eqb c 0x09) (λ t. let q = eqb-true c 0x09 t in omega arith) (λ g.
    by_test (eqb c 0x0A) (λ t. let q = eqb-true c 0x0A t in omega arith) (λ h.
    let q : c ≡ 0x0D = eqb-true c 0x0D (rw (f, g, h) at e) in omega arith)))

-- what is behind the run of blanks is the text without them
pub behind_blanks : (s : List ℕ) → behind is_blank s ≡ unblank s
behind_blanks [] = refl
behind_blanks (c ∷ s) = by_test (is_blank c) (λ t. rw t (behind_blanks s)) (λ f. rw f)

pub skipped : {s : List ℕ} {a r : ℕ} → Run is_blank s a r → Skipped s a r
skipped {s} {a} {r} k =
    record {
      from = k.from;
      to = k.to;
      rest = k.rest ∙ behind_blanks (drop a s);
      utf8 = λ u. rw k.rest (behind_utf8 is_blank blank_ascii (drop a s) u);
    }
