-- What stands behind the dots of a segment: a `*`, or a name with all its bytes.
-- Assumes nothing.
use Rattle.std.specs.Prelude.{Ok, Err}
use mathlib.Core.Path.{◌≡◌, refl, sym, ap, ◌∙◌}
use mathlib.Core.Bool.{true, false, false≢true}
use mathlib.Core.List.{List, [], ◌∷◌, ◌++◌, append_assoc}
use Prim.Native.Nat.{ℕ, ◌+◌, ◌-◌, ◌<◌}
use native.Mathlib.Omega.{arith}
use lib.ListN.{length, drop, length-append}
use lib.Seq.{sets}
use Rattle.definition.specs.Bytes.{part}
use Rattle.definition.specs.Lexical.{Name, name_bytes, spell_name}
use Rattle.definition.specs.Utf8.{is_utf8, encode, encode_all}
use Rattle.definition_bytes.specs.Same.{part_length}
use Rattle.utf8_laws.specs.Texts.{name_scalars}
use Rattle.basics.specs.Reads.{Reads, ReadsNone, StartsNot, Wrote}
use Rattle.utf8_laws.specs.Encode.{utf8_ascii, utf8_encode, utf8_encode_all}
use Rattle.utf8_laws.specs.Decode.{encode_long}
use Rattle.utf8_laws.specs.Names.{name_begins, name_scalar, first_char}
use Rattle.parser_scan.specs.Text.{is_name_byte, Is, NameAt}
use Rattle.compile_writes.specs.Effects.{Effect, bytes, pooling, counted}
use Rattle.parser_follow.specs.Leaves.{wild_dotted, name_dotted}
use Rattle.parser_items.specs.Reads.{After, Asks, Post, next, stop, Put, Pooled, Dotted, spell_dotted, write_dotted, dotted_flag}
use Rattle.parser_items.specs.Laws.{Moved, moved_done, put_done, pooled_done, done_single}
use Rattle.parser_items.specs.Follow.{after_name}
use Rattle.parser_items.specs.declared.Cursor.{Cursor}

-- ---- names and UTF-8

-- a name in front of a text leaves it UTF-8, or not, as it was
pub name_utf8 : (n : Name) (r : List ℕ) → is_utf8 (spell_name n r) ≡ is_utf8 r
name_utf8 n r =
    rw append_assoc
    (utf8_encode n.first (encode_all n.more ++ r) (name_scalar n.first (first_char n.first n.is_first))
    ∙ utf8_encode_all n.more r (name_scalars n.more n.are_more))

-- no name begins with `*`
no_star_lem : (n : Name) (r l : List ℕ) → 0x2A ∷ l ≡ spell_name n r → ⊥
no_star_lem n r l e = false≢true (name_begins n 0x2A r l (sym e))

-- a name is not empty
pub name_long : {s : List ℕ} {a e : ℕ} → NameAt s a e → a < e
name_long {s} {a} {e} n =
    let l = part_length s a (e - a) (omega (arith, n.from, n.to)) in
    let k = ap length n.bytes in
    let x = encode_long n.name.first in
    let y = length-append (encode n.name.first) (encode_all n.name.more) in
    omega (arith, n.from)

-- ---- a `*`

module _ {s P L : List ℕ} {a : Cursor} (kind : ℕ) (st : Asks 0 s P L a) where
  wild_reads : (p : ℕ) → Is s a.at 0x2A true → Reads {M = Effect × ℕ} spell_dotted (λ t. (write_dotted kind t p, dotted_flag t)) (After 0) (drop a.at s) wild_dotted (drop (a.at + 1) s)
  wild_reads p i = record { eq = i.1; only = only }
    where
      only : (t : Dotted) (r : List ℕ) → After 0 r → drop a.at s ≡ spell_dotted t r → ◌≡◌ {A = Effect × ℕ} (write_dotted kind t p, dotted_flag t) (write_dotted kind wild_dotted p, 0) × (r ≡ drop (a.at + 1) s)
      only wild_dotted r m e = let f = i.1 in (refl, cc)
      only (name_dotted n) r m e = absurd (no_star_lem n r (drop (a.at + 1) s) (sym i.1 ∙ e))

  -- a `*` is read and written
  pub dotted_wild : {P₁ P₂ : List ℕ} {b c d : Cursor} → Is s a.at 0x2A true → Put P P₁ a b (kind ∷ 1 ∷ 0 ∷ []) → Put P₁ P₂ b c (0x08 ∷ []) → Moved c d (a.at + 1) →
      Post spell_dotted (write_dotted kind) dotted_flag 0 s P P₂ L L a (Ok (d, 0))
  dotted_wild {d = d} i g h m =
      next {b = d} (record {
        tree = wild_dotted;
        reads = rw m.0 (wild_reads a.pool i);
        from = omega (arith, m.0);
        to = omega (arith, m.0, i.0);
        done = moved_done (done_single kind (bytes (0x08 ∷ [])) g (put_done h)) m;
        flag = refl;
        utf8 = rw m.0 (sym (utf8_ascii 0x2A (drop (a.at + 1) s) (omega arith)) ∙ (rw i.1 at st.utf8));
      })

-- ---- a name

module _ {s P L : List ℕ} {a : Cursor} (kind : ℕ) (st : Asks 0 s P L a) (i : Is s a.at 0x2A false) where
  name_reads : (p e : ℕ) (n : NameAt s a.at e) → Reads {M = Effect × ℕ} spell_dotted (λ t. (write_dotted kind t p, dotted_flag t)) (After 0) (drop a.at s) (name_dotted n.name) (drop e s)
  name_reads p e n = record { eq = n.reads.eq; only = only }
    where
      only : (t : Dotted) (r : List ℕ) → After 0 r → drop a.at s ≡ spell_dotted t r → ◌≡◌ {A = Effect × ℕ} (write_dotted kind t p, dotted_flag t) (write_dotted kind (name_dotted n.name) p, 2) × (r ≡ drop e s)
      only wild_dotted r m q = absurd (i r q)
      only (name_dotted x) r m q =
          let u : is_utf8 r ≡ true = sym (name_utf8 x r) ∙ (rw q at st.utf8) in
          let o = n.reads.only x r (after_name r u m) q in
          (ap (λ (k : List ℕ). (counted kind 1 (pooling 0x05 k) p, 2)) o.0, o.1)

  -- a name is read and written
  pub dotted_name : {L' P₁ P₂ : List ℕ} {b c d : Cursor} {e : ℕ} → NameAt s a.at e → Wrote L a.pool (part s a.at (e - a.at)) L' →
      Put P P₁ a b (kind ∷ 1 ∷ 0 ∷ []) → Pooled P₁ P₂ b c 0x05 (e - a.at) → Moved c d e → Post spell_dotted (write_dotted kind) dotted_flag 0 s P P₂ L L' a (Ok (d, 2))
  dotted_name {d = d} {e = e} n w g h m =
      let t : List ℕ = name_bytes n.name in
      let l : e - a.at ≡ length t = sym (part_length s a.at (e - a.at) (omega (arith, n.from, n.to))) ∙ ap length n.bytes in
      next {b = d} (record {
        tree = name_dotted n.name;
        reads = rw m.0 (name_reads a.pool e n);
        from = omega (arith, m.0, n.from);
        to = omega (arith, m.0, n.to);
        done = moved_done (done_single kind (pooling 0x05 t) g (pooled_done 0x05 t h (record { is = rw g.pool (w.is ∙ ap (λ (k : List ℕ). sets L a.pool k) n.bytes) }) l)) m;
        flag = refl;
        utf8 = rw m.0 n.utf8;
      })

  -- neither stands there
  pub dotted_none : {P' L' : List ℕ} {j : ℕ} → ReadsNone spell_name (StartsNot is_name_byte) (drop a.at s) → Post spell_dotted (write_dotted kind) dotted_flag 0 s P P' L L' a (Err j)
  dotted_none n = stop (record { none = none })
    where
      none : (t : Dotted) (r : List ℕ) → After 0 r → drop a.at s ≡ spell_dotted t r → ⊥
      none wild_dotted r m q = i r q
      none (name_dotted x) r m q = n.none x r (after_name r (sym (name_utf8 x r) ∙ (rw q at st.utf8)) m) q
