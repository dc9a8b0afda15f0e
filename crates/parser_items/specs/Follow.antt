-- What follows a tree, by classes of bytes: behind a name, a word, an int or a number none of its own characters follows.
-- Assumes nothing.
use Rattle.std.specs.Prelude.{◌≡◌, refl, Bool, true, false, not, ◌||◌, List, [], ◌∷◌, ℕ, ◌<◌, eqb, leb}
use Rattle.std.proofs.Common.{sym, ◌∙◌, arith, ne_eqb, eqb-true, leb-true, leb-false}
use Rattle.std.proofs.lemmas.Bool.{false≢true, not-true}
use Rattle.std.proofs.Math.Bool.{and-eq-true_iff}
use Rattle.definition.specs.Bytes.{every, within}
use Rattle.definition.specs.Lexical.{is_blank, is_lcalpha, is_digit, is_function_char}
use Rattle.definition.specs.Utf8.{is_utf8, is_utf8_from, after_byte}
use Rattle.parser_follow.specs.Blanks.{unblank_byte}
use Rattle.basics.specs.Reads.{StartsNot}
use Rattle.parser_follow.specs.Follow.{after_not}
use Rattle.utf8_laws.specs.Bytes.{by_test, inside, after_high, stays_bad}
use Rattle.parser_scan.specs.Text.{is_name_byte}
use Rattle.parser_items.specs.Reads.{level_of, After}
use Rattle.parser_items.specs.Laws.{after_starts}

-- ---- bytes that begin nothing that may follow

-- a byte that is no blank and has no level
pub record Inner (c : ℕ) : Type 0 where
  pub solid : is_blank c ≡ false
  pub unlevelled : level_of c ≡ 0

-- the blanks, the bytes of a level, and 256, which stands for the end
abbrev pub outer : List ℕ
outer = 0x20 ∷ 0x09 ∷ 0x0A ∷ 0x0D ∷ 0x2E ∷ 0x5B ∷ 0x3D ∷ 0x21 ∷ 0x3C ∷ 0x3E ∷ 0x26 ∷ 0x7C ∷ 0x2C ∷ 0x5D ∷ 0x29 ∷ 256 ∷ []

abbrev differs : ℕ → ℕ → Bool
differs c x = not (eqb c x)

inner : (c : ℕ) → every (differs c) outer ≡ true → Inner c
inner c h =
    let t0 = (and-eq-true_iff (not (eqb c 0x20)) (every (differs c) (0x09 ∷ 0x0A ∷ 0x0D ∷ 0x2E ∷ 0x5B ∷ 0x3D ∷ 0x21 ∷ 0x3C ∷ 0x3E ∷ 0x26 ∷ 0x7C ∷ 0x2C ∷ 0x5D ∷ 0x29 ∷ 256 ∷ []))).0 h in
    let t1 = (and-eq-true_iff (not (eqb c 0x09)) (every (differs c) (0x0A ∷ 0x0D ∷ 0x2E ∷ 0x5B ∷ 0x3D ∷ 0x21 ∷ 0x3C ∷ 0x3E ∷ 0x26 ∷ 0x7C ∷ 0x2C ∷ 0x5D ∷ 0x29 ∷ 256 ∷ []))).0 t0.1 in
    let t2 = (and-eq-true_iff (not (eqb c 0x0A)) (every (differs c) (0x0D ∷ 0x2E ∷ 0x5B ∷ 0x3D ∷ 0x21 ∷ 0x3C ∷ 0x3E ∷ 0x26 ∷ 0x7C ∷ 0x2C ∷ 0x5D ∷ 0x29 ∷ 256 ∷ []))).0 t1.1 in
    let t3 = (and-eq-true_iff (not (eqb c 0x0D)) (every (differs c) (0x2E ∷ 0x5B ∷ 0x3D ∷ 0x21 ∷ 0x3C ∷ 0x3E ∷ 0x26 ∷ 0x7C ∷ 0x2C ∷ 0x5D ∷ 0x29 ∷ 256 ∷ []))).0 t2.1 in
    let t4 = (and-eq-true_iff (not (eqb c 0x2E)) (every (differs c) (0x5B ∷ 0x3D ∷ 0x21 ∷ 0x3C ∷ 0x3E ∷ 0x26 ∷ 0x7C ∷ 0x2C ∷ 0x5D ∷ 0x29 ∷ 256 ∷ []))).0 t3.1 in
    let t5 = (and-eq-true_iff (not (eqb c 0x5B)) (every (differs c) (0x3D ∷ 0x21 ∷ 0x3C ∷ 0x3E ∷ 0x26 ∷ 0x7C ∷ 0x2C ∷ 0x5D ∷ 0x29 ∷ 256 ∷ []))).0 t4.1 in
    let t6 = (and-eq-true_iff (not (eqb c 0x3D)) (every (differs c) (0x21 ∷ 0x3C ∷ 0x3E ∷ 0x26 ∷ 0x7C ∷ 0x2C ∷ 0x5D ∷ 0x29 ∷ 256 ∷ []))).0 t5.1 in
    let t7 = (and-eq-true_iff (not (eqb c 0x21)) (every (differs c) (0x3C ∷ 0x3E ∷ 0x26 ∷ 0x7C ∷ 0x2C ∷ 0x5D ∷ 0x29 ∷ 256 ∷ []))).0 t6.1 in
    let t8 = (and-eq-true_iff (not (eqb c 0x3C)) (every (differs c) (0x3E ∷ 0x26 ∷ 0x7C ∷ 0x2C ∷ 0x5D ∷ 0x29 ∷ 256 ∷ []))).0 t7.1 in
    let t9 = (and-eq-true_iff (not (eqb c 0x3E)) (every (differs c) (0x26 ∷ 0x7C ∷ 0x2C ∷ 0x5D ∷ 0x29 ∷ 256 ∷ []))).0 t8.1 in
    let t10 = (and-eq-true_iff (not (eqb c 0x26)) (every (differs c) (0x7C ∷ 0x2C ∷ 0x5D ∷ 0x29 ∷ 256 ∷ []))).0 t9.1 in
    let t11 = (and-eq-true_iff (not (eqb c 0x7C)) (every (differs c) (0x2C ∷ 0x5D ∷ 0x29 ∷ 256 ∷ []))).0 t10.1 in
    let t12 = (and-eq-true_iff (not (eqb c 0x2C)) (every (differs c) (0x5D ∷ 0x29 ∷ 256 ∷ []))).0 t11.1 in
    let t13 = (and-eq-true_iff (not (eqb c 0x5D)) (every (differs c) (0x29 ∷ 256 ∷ []))).0 t12.1 in
    let t14 = (and-eq-true_iff (not (eqb c 0x29)) (every (differs c) (256 ∷ []))).0 t13.1 in
    let t15 = (and-eq-true_iff (not (eqb c 256)) (every (differs c) ([]))).0 t14.1 in
    record {
      solid = rw (not-true (eqb c 0x20) t0.0, not-true (eqb c 0x09) t1.0, not-true (eqb c 0x0A) t2.0, not-true (eqb c 0x0D) t3.0);
      unlevelled = rw (not-true (eqb c 0x2E) t4.0, not-true (eqb c 0x5B) t5.0, not-true (eqb c 0x3D) t6.0, not-true (eqb c 0x21) t7.0, not-true (eqb c 0x3C) t8.0, not-true (eqb c 0x3E) t9.0, not-true (eqb c 0x26) t10.0, not-true (eqb c 0x7C) t11.0, not-true (eqb c 0x2C) t12.0, not-true (eqb c 0x5D) t13.0, not-true (eqb c 0x29) t14.0, not-true (eqb c 256) t15.0);
    }

-- none of some bytes lies between two bounds
abbrev pub misses : ℕ → ℕ → List ℕ → Bool
misses lo hi l = every (λ x. not (within lo hi x)) l

apart : (lo hi c : ℕ) (l : List ℕ) → within lo hi c ≡ true → misses lo hi l ≡ true → every (differs c) l ≡ true
apart lo hi c [] e m = refl
apart lo hi c (x ∷ l) e m =
    let t = (and-eq-true_iff (not (within lo hi x)) (misses lo hi l)).0 m in
    let n : eqb c x ≡ false = ne_eqb c x (λ q. false≢true (sym (not-true (within lo hi x) t.0) ∙ (rw q at e))) in
    rw n (apart lo hi c l e t.1)

-- a byte between two bounds between which none of these lies
pub inner_within : (lo hi c : ℕ) → misses lo hi outer ≡ true → within lo hi c ≡ true → Inner c
inner_within lo hi c m e = inner c (apart lo hi c outer e m)

inner_one : (x c : ℕ) → misses x x outer ≡ true → eqb c x ≡ true → Inner c
inner_one x c m e =
    let q : c ≡ x = eqb-true c x e in
    inner_within x x c m (inside x x c (omega arith) (omega arith))

-- a digit
pub inner_digit : (c : ℕ) → is_digit c ≡ true → Inner c
inner_digit c e = inner_within 0x30 0x39 c refl e

-- a digit or a minus: what an int begins with
abbrev pub is_int_start : ℕ → Bool
is_int_start c = is_digit c || eqb c 0x2D

pub inner_int : (c : ℕ) → is_int_start c ≡ true → Inner c
inner_int c e = by_test (is_digit c) (λ t. inner_digit c t) (λ f. inner_one 0x2D c refl (rw f at e))

-- a character of a function name
pub inner_word : (c : ℕ) → is_function_char c ≡ true → Inner c
inner_word c e =
    by_test (is_lcalpha c) (λ t. inner_within 0x61 0x7A c refl t) (λ f.
    by_test (eqb c 0x5F) (λ t. inner_one 0x5F c refl t) (λ g. inner_digit c (rw (f, g) at e)))

-- a byte of a name
pub inner_name : (c : ℕ) → c < 256 → is_name_byte c ≡ true → Inner c
inner_name c h e =
    by_test (within 0x41 0x5A c) (λ t. inner_within 0x41 0x5A c refl t) (λ f.
    by_test (is_lcalpha c) (λ t. inner_within 0x61 0x7A c refl t) (λ g.
    by_test (eqb c 0x5F) (λ t. inner_one 0x5F c refl t) (λ k.
    by_test (is_digit c) (λ t. inner_digit c t) (λ d.
    inner_within 0x80 0xFF c refl (inside 0x80 0xFF c (leb-true 0x80 c (rw (f, g, k, d) at e)) (omega arith))))))

-- ---- what follows begins with none of them

-- a text that begins with such a byte may not follow
pub inner_not : {k : ℕ} (c : ℕ) (r : List ℕ) → Inner c → After k (c ∷ r) → ⊥
inner_not c r i a = after_not _ {s = c ∷ r} c {r = r} (unblank_byte c r i.solid) (rw i.unlevelled (omega arith)) a

pub after_inner : (p : ℕ → Bool) {k : ℕ} (r : List ℕ) → ((c : ℕ) → p c ≡ true → Inner c) → After k r → StartsNot p r
after_inner p {k} r f a = after_starts p r (λ c e. ((f c e).solid, rw (f c e).unlevelled (omega arith))) a

-- what follows a tree begins with no digit
pub after_digit : {k : ℕ} (r : List ℕ) → After k r → StartsNot is_digit r
after_digit r a = after_inner is_digit r inner_digit a

-- it begins no int
pub after_int : {k : ℕ} (r : List ℕ) → After k r → StartsNot is_int_start r
after_int r a = after_inner is_int_start r inner_int a

-- it begins with no character of a function name
pub after_word : {k : ℕ} (r : List ℕ) → After k r → StartsNot is_function_char r
after_word r a = after_inner is_function_char r inner_word a

-- a UTF-8 text begins with no number that is no byte
pub utf8_byte : (c : ℕ) (r : List ℕ) → is_utf8 (c ∷ r) ≡ true → c < 256
unfolding is_utf8 is_utf8_from after_byte
utf8_byte c r u =
    by_test (leb c 0xF4)
    (λ t. let h = leb-true c 0xF4 t in omega arith)
    (λ f. absurd (false≢true (sym (stays_bad r) ∙ (rw (after_high c (leb-false c 0xF4 f)) at u))))

-- a UTF-8 text that follows a tree begins with no byte of a name
pub after_name : {k : ℕ} (r : List ℕ) → is_utf8 r ≡ true → After k r → StartsNot is_name_byte r
unfolding StartsNot
after_name [] u a = tt
after_name (c ∷ r) u a = by_test (is_name_byte c) (λ t. absurd (inner_not c r (inner_name c (utf8_byte c r u) t) a)) (λ f. f)
