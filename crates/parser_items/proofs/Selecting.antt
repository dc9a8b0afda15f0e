-- The selectors that do not nest, by their first byte: a quote begins a name, and `*` is the wildcard.
-- Assumes nothing.
use Rattle.std.specs.Prelude.{Ok}
use Rattle.parser_follow.specs.Follow.{after_weaken}
use mathlib.Core.Path.{◌≡◌, refl, sym, ap, ◌∙◌}
use mathlib.Core.Bool.{true, false}
use mathlib.Core.List.{List, [], ◌∷◌}
use Prim.Native.Nat.{ℕ, ◌+◌}
use native.Mathlib.Omega.{arith}
use borrow.Author.Tests.{eqb-false}
use lib.Dec.{eqb}
use lib.ListN.{drop}
use Rattle.definition.specs.Lexical.{Bound, Slice, spell_blanks, spell_bound, spell_step, spell_slice, spell_text}
use Rattle.definition.specs.Lexical.Bound.{no_bound, bound}
use Rattle.definition.specs.Literals.{text_bytes}
use Rattle.definition.specs.Utf8.{is_utf8}
use Rattle.utf8_laws.specs.Encode.{utf8_ascii}
use Rattle.parser_scan.specs.Text.{Is, unblank}
use Rattle.compile_writes.specs.Effects.{Effect, pooling}
use Rattle.parser_follow.specs.Leaves.{text_plain, wild_plain, slice_plain, index_plain}
use Rattle.parser_items.specs.Reads.{After, Post, LoosePost, next, stop, Put, Plain, spell_plain, write_plain, is_plain}
use Rattle.parser_items.specs.Laws.{Moved, moved_done, put_done}
use Rattle.parser_items.specs.Follow.{is_int_start}
use Rattle.parser_items.specs.declared.Cursor.{Cursor}
use Rattle.parser_items.specs.Reads.{Step}
use Rattle.parser_items.proofs.Ints.{int_not}
use Rattle.parser_items.proofs.Quotes.{no_quoted}

-- ---- what begins with another byte

-- a slice begins with an int or a colon
slice_not : {s : List ℕ} (t : Slice) (r : List ℕ) (x : ℕ) (l : List ℕ) → is_int_start x ≡ false → eqb x 0x3A ≡ false → s ≡ x ∷ l → s ≡ spell_slice t r → ⊥
slice_not {s} t r x l f g e q = by t.start (spell_blanks t.blanks (spell_bound t.stop (spell_step t.by r))) q
  where
    by : (b : Bound) (m : List ℕ) → s ≡ spell_bound b (0x3A ∷ m) → ⊥
    by no_bound m h = let k : x ≡ 0x3A = cc in eqb-false x 0x3A g k
    by (bound i b) m h = int_not i (spell_blanks b (0x3A ∷ m)) x l f e h

-- ---- a name

-- a text begins with one byte
wild_not : {s : List ℕ} (r : List ℕ) (x : ℕ) (l : List ℕ) → eqb x 0x2A ≡ false → s ≡ x ∷ l → s ≡ 0x2A ∷ r → ⊥
wild_not r x l w e q = let k : x ≡ 0x2A = cc in eqb-false x 0x2A w k

module _ {s P P' L L' : List ℕ} (a : Cursor) (x : ℕ) (f : is_int_start x ≡ false) (g : eqb x 0x3A ≡ false) (w : eqb x 0x2A ≡ false) (i : Is s a.at x true) where
  -- a quoted text is a selector
  pub selector_text : {r : Step} → Post spell_text (λ t. pooling 0x05 (text_bytes t)) (λ t. 1) 0 s P P' L L' a r → LoosePost spell_plain write_plain is_plain 1 4 s P P' L L' a r
  selector_text (stop h) = stop (record { none = none })
    where
      none : (t : Plain) (r : List ℕ) → After 4 r → drop a.at s ≡ spell_plain t r → ⊥
      none (text_plain t) r m e = h.none t r (after_weaken _ _ (omega arith) m) e
      none wild_plain r m e = wild_not r x (drop (a.at + 1) s) w i.1 e
      none (slice_plain t) r m e = slice_not t r x (drop (a.at + 1) s) f g i.1 e
      none (index_plain j) r m e = int_not j r x (drop (a.at + 1) s) f i.1 e
  selector_text (next {b = b} h) =
      next {b = b} (record {
        tree = text_plain h.tree;
        eq = h.reads.eq;
        same = λ t r m e. (alone t r m e).0;
        rest = λ t r m e. ap unblank (alone t r m e).1;
        exact = λ o t r m e. (alone t r m e).1;
        from = h.from;
        to = h.to;
        done = h.done;
        flag = h.flag;
        utf8 = h.utf8;
      })
    where
      alone : (t : Plain) (r : List ℕ) → After 4 r → drop a.at s ≡ spell_plain t r → ◌≡◌ {A = Effect × ℕ} (write_plain t a.pool, is_plain t) (write_plain (text_plain h.tree) a.pool, 1) × (r ≡ drop b.at s)
      alone (text_plain t) r m e = h.reads.only t r (after_weaken _ _ (omega arith) m) e
      alone wild_plain r m e = absurd (wild_not r x (drop (a.at + 1) s) w i.1 e)
      alone (slice_plain t) r m e = absurd (slice_not t r x (drop (a.at + 1) s) f g i.1 e)
      alone (index_plain j) r m e = absurd (int_not j r x (drop (a.at + 1) s) f i.1 e)

-- ---- the wildcard

pub selector_wild : {s P P' L : List ℕ} (a : Cursor) {b d : Cursor} → is_utf8 (drop a.at s) ≡ true → Is s a.at 0x22 false → Is s a.at 0x27 false → Is s a.at 0x2A true → Put P P' a b (0x08 ∷ []) → Moved b d (a.at + 1) →
    LoosePost spell_plain write_plain is_plain 1 4 s P P' L L a (Ok (d, 0))
selector_wild {s} a {d = d} u f g i h m =
    next {b = d} (record {
      tree = wild_plain;
      eq = rw m.0 i.1;
      same = λ t r k e. (alone t r k e).0;
      rest = λ t r k e. rw m.0 (ap unblank (alone t r k e).1);
      exact = λ o t r k e. rw m.0 (alone t r k e).1;
      from = omega (arith, m.0);
      to = omega (arith, m.0, i.0);
      done = moved_done (put_done h) m;
      flag = refl;
      utf8 = rw m.0 (sym (utf8_ascii 0x2A (drop (a.at + 1) s) (omega arith)) ∙ (rw i.1 at u));
    })
  where
    alone : (t : Plain) (r : List ℕ) → After 4 r → drop a.at s ≡ spell_plain t r → ◌≡◌ {A = Effect × ℕ} (write_plain t a.pool, is_plain t) (write_plain wild_plain a.pool, 0) × (r ≡ drop (a.at + 1) s)
    alone (text_plain t) r k e = absurd (no_quoted s a.at f g t r e)
    alone wild_plain r k e = let q = i.1 in (refl, cc)
    alone (slice_plain t) r k e = absurd (slice_not t r 0x2A (drop (a.at + 1) s) refl refl i.1 e)
    alone (index_plain j) r k e = absurd (int_not j r 0x2A (drop (a.at + 1) s) refl i.1 e)
