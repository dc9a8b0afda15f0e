-- Quoted texts: a quote begins one, and where neither quote stands there is none.
-- Assumes nothing.
use Rattle.std.specs.Prelude.{Result, Ok, Err}
use mathlib.Core.Path.{◌≡◌, refl, sym, ap, subst, ◌∙◌}
use mathlib.Core.List.{List, ◌∷◌}
use mathlib.Core.Bool.{true, false}
use Prim.Native.Nat.{ℕ, ◌+◌, ◌-◌, ◌<◌}
use native.Mathlib.Omega.{arith}
use lib.ListN.{length, drop}
use Rattle.definition.specs.Lexical.{Text, Quote, own_byte, spell_chars, spell_text}
use Rattle.definition.specs.Lexical.Quote.{double, single}
use Rattle.definition.specs.Literals.{chars_bytes, text_bytes}
use Rattle.basics.specs.Reads.{ReadsNone}
use Rattle.text_quoted.specs.Quoted.{quote_of, Opened, spell_closed, Any, Unescapes, Refuses, Unescaping}
use Rattle.text_quoted.specs.Laws.{quote_of_own}
use Rattle.text_quoted.specs.declared.Unescaped.{Unescaped}
use Rattle.utf8_laws.specs.Encode.{utf8_ascii}
use Rattle.parser_scan.specs.Text.{Is}
use Rattle.compile_writes.specs.Effects.{pooling}
use Rattle.parser_items.specs.Reads.{Asks, Post, next, stop, Pooled}
use Rattle.parser_items.specs.Laws.{Moved, moved_done, pooled_done}
use Rattle.parser_items.specs.declared.Cursor.{Cursor}

-- no quoted text begins where neither quote stands
pub no_quoted : (s : List ℕ) (a : ℕ) → Is s a 0x22 false → Is s a 0x27 false → (t : Text) (r : List ℕ) → drop a s ≡ spell_text t r → ⊥
no_quoted s a f g t r e = by t.quote refl
  where
    by : (c : Quote) → t.quote ≡ c → ⊥
    by double q = f (spell_chars t.quote t.chars (own_byte t.quote ∷ r)) (e ∙ ap (λ (c : Quote). own_byte c ∷ spell_chars t.quote t.chars (own_byte t.quote ∷ r)) q)
    by single q = g (spell_chars t.quote t.chars (own_byte t.quote ∷ r)) (e ∙ ap (λ (c : Quote). own_byte c ∷ spell_chars t.quote t.chars (own_byte t.quote ∷ r)) q)

-- ---- a quoted text that is read

-- a quote is ASCII
own_ascii : (q : Quote) (c : ℕ) → own_byte q ≡ c → c < 0x80
own_ascii double c e = omega arith
own_ascii single c e = omega arith

-- the two quotes are told apart by their bytes
own_same : (p q : Quote) → own_byte p ≡ own_byte q → p ≡ q
own_same p q e = sym (quote_of_own p) ∙ ap quote_of e ∙ quote_of_own q

module _ {s P L : List ℕ} {a : Cursor} (quote kind told : ℕ) (st : Asks 0 s P L a) (own : own_byte (quote_of quote) ≡ quote) (i : Is s a.at quote true) where
  -- what follows the quote may be read
  pub text_opened : Opened quote s (a.at + 1) L a.pool
  text_opened =
      record {
        is_quote = own;
        sound = sym (utf8_ascii quote (drop (a.at + 1) s) (own_ascii (quote_of quote) quote own)) ∙ (rw i.1 at st.utf8);
        within = i.0;
        room = omega (arith, st.pool, i.0);
      }

  -- another quoted text that stands there has the same quote
  same_quote : (t : Text) (r : List ℕ) → drop a.at s ≡ spell_text t r → (t.quote ≡ quote_of quote) × (drop (a.at + 1) s ≡ spell_closed t.quote t.chars r)
  same_quote t r e =
      let f = i.1 in
      let g : quote ≡ own_byte t.quote = cc in
      let h : drop (a.at + 1) s ≡ spell_closed t.quote t.chars r = cc in
      (own_same t.quote (quote_of quote) (sym g ∙ sym own), h)

  closed : (t : Text) (r : List ℕ) → drop a.at s ≡ spell_text t r → drop (a.at + 1) s ≡ spell_closed (quote_of quote) t.chars r
  closed t r e = let h = same_quote t r e in subst (λ (q : Quote). drop (a.at + 1) s ≡ spell_closed q t.chars r) h.0 h.1

  -- no text stands there
  pub text_none : {P' L' : List ℕ} {j : ℕ} → ReadsNone (spell_closed (quote_of quote)) Any (drop (a.at + 1) s) →
      Post spell_text (λ t. pooling kind (text_bytes t)) (λ t. told) 0 s P P' L L' a (Err j)
  text_none n = stop (record { none = λ t r m e. n.none t.chars r tt (closed t r e) })

  -- a text is read and written
  pub text_done : {P' L' : List ℕ} {b d : Cursor} {e end : ℕ} → Unescapes (quote_of quote) s (a.at + 1) L a.pool L' e end → Pooled P P' a b kind (end - a.pool) → Moved b d e →
      Post spell_text (λ t. pooling kind (text_bytes t)) (λ t. told) 0 s P P' L L' a (Ok (d, told))
  unfolding text_bytes
  text_done {P'} {L'} {b} {d} {e} {end} u h m =
      let q : Quote = quote_of quote in
      let t : Text = record { quote = q; chars = u.chars } in
      let n : end - a.pool ≡ length (chars_bytes q u.chars) = omega (arith, u.grown) in
      next {b = d} (record {
        tree = t;
        reads = rw m.0 (record {
          eq = i.1 ∙ ap (λ (l : List ℕ). quote ∷ l) u.reads.eq ∙ ap (λ (c : ℕ). c ∷ spell_closed q u.chars (drop e s)) (sym own);
          only = λ t' r' k f.
              let o = u.reads.only t'.chars r' tt (closed t' r' f) in
              (ap (λ (l : List ℕ). (pooling kind l a.pool, told)) (ap (λ (c : Quote). chars_bytes c t'.chars) (same_quote t' r' f).0 ∙ o.0), o.1);
        });
        from = omega (arith, m.0, u.from);
        to = omega (arith, m.0, u.to);
        done = moved_done {b = b} (pooled_done kind (text_bytes t) h u.wrote n) m;
        flag = refl;
        utf8 = rw m.0 u.sound;
      })

-- ---- what the reader of quoted texts tells

module _ {q : Quote} {s : List ℕ} {a : ℕ} {p : List ℕ} {n : ℕ} {p' : List ℕ} where
  pub done_of : {r : Result Unescaped ℕ} {u : Unescaped} → Unescaping q s a p n p' r → r ≡ Ok u → Unescapes q s a p n p' u.next u.end
  done_of h e = rw e at h

  pub bad_of : {r : Result Unescaped ℕ} {i : ℕ} → Unescaping q s a p n p' r → r ≡ Err i → Refuses q s a p n p' i
  bad_of h e = rw e at h
