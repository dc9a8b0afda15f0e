-- What the code finds behind a backslash at a place of the text. Assumes nothing.
use Prim.Native.Nat.{ℕ, ◌+◌, ◌≤◌, ◌<◌}
use mathlib.Core.Path.{◌≡◌, refl, sym, ap, ◌∙◌}
use mathlib.Core.List.{List, ◌∷◌}
use native.Mathlib.Omega.{arith}
use lib.ListN.{length, drop, get_or, drop_of_length-le}
use Rattle.definition.specs.Lexical.{Quote, own_byte, spell_char}
use Rattle.definition.specs.Lexical.Char.{own_quote, escape}
use Rattle.definition.specs.Lexical.Escape.{short}
use Rattle.definition.specs.Literals.{escape_value, char_bytes}
use Rattle.definition.specs.Utf8.{encode}
use Rattle.basics.specs.Lists.{drop_at as here}
use Rattle.utf8_laws.specs.Texts.{own_ascii}
use Rattle.basics.specs.Reads.{ReadsNone}
use Rattle.utf8_laws.specs.Encode.{encode_one}
use Rattle.text_quoted.specs.Quoted.{Any}
use Rattle.std.specs.Prelude.{Option, Some, None}
use Rattle.text_quoted.specs.Pieces.{short_code, Unicode, Escaped, HasEscape}
use Rattle.text_quoted.proofs.Chars.{slash_end, slash_own, slash_short, slash_unicode, slash_no_unicode, slash_wrong}
use Rattle.text_quoted.proofs.Letters.{short_is, short_range, short_not}

module _ (q : Quote) (s : List ℕ) (at : ℕ) where
  -- the text ends there
  pub escape_end : length s ≤ at → ReadsNone (spell_char q) Any (0x5C ∷ drop at s)
  escape_end h = rw (drop_of_length-le s h) (slash_end q)

  -- the byte there stands in front of what follows it
  front : (b : ℕ) → at < length s → get_or s at 0 ≡ b → drop at s ≡ b ∷ drop (at + 1) s
  front b h e = here s at h ∙ rw e

  -- the own quote
  pub escape_own : at < length s → get_or s at 0 ≡ own_byte q → HasEscape q s at (get_or s at 0) (at + 1)
  unfolding char_bytes
  escape_own h e =
      let a = own_ascii q in
      record {
        char = own_quote;
        reads = rw (front (own_byte q) h e) (slash_own q (drop (at + 1) s));
        bytes = rw e (sym (encode_one (own_byte q) a));
        most = rw e (omega arith);
        from = omega arith;
        to = omega arith;
      }

  -- u
  pub escape_unicode : (p : Option (ℕ × ℕ)) → at < length s → get_or s at 0 ≡ 0x75 → Unicode s (at + 1) p → Escaped q s at p
  unfolding char_bytes
  escape_unicode (Some p) h e u =
      let f = u.from in
      record {
        char = escape u.escape;
        reads = rw (front 0x75 h e) (slash_unicode q (drop (at + 1) s) u.escape (drop p.1 s) u.reads);
        bytes = ap encode u.value;
        most = u.most;
        from = omega arith;
        to = u.to;
      }
  escape_unicode None h e u = rw (front 0x75 h e) (slash_no_unicode q (drop (at + 1) s) u)

  -- a letter that names a character
  pub escape_short : (c : ℕ) → at < length s → Some c ≡ short_code (get_or s at 0) → HasEscape q s at c (at + 1)
  unfolding char_bytes escape_value
  escape_short c h e =
      let b = get_or s at 0 in
      let t = short_is b c e in
      let r = short_range b t.0 in
      let v = t.1 in
      record {
        char = escape (short b t.0);
        reads = rw (front b h refl) (slash_short q b t.0 (drop (at + 1) s));
        bytes = ap encode t.1;
        most = omega arith;
        from = omega arith;
        to = omega arith;
      }

  -- no such letter
  pub escape_wrong : at < length s → (get_or s at 0 ≡ own_byte q → ⊥) → (get_or s at 0 ≡ 0x75 → ⊥) → None ≡ short_code (get_or s at 0) → ReadsNone (spell_char q) Any (0x5C ∷ drop at s)
  escape_wrong h own u e = rw (here s at h) (slash_wrong q (get_or s at 0) (drop (at + 1) s) own u (short_not (get_or s at 0) e))
