-- Parts of a quoted text that the code has read, put together: what each function adds, and the whole. Assumes nothing.
use Prim.Native.Nat.{ℕ, ◌+◌, ◌-◌, ◌≤◌, ◌<◌}
use mathlib.Core.Path.{◌≡◌, refl, sym, ap, ◌∙◌}
use mathlib.Core.List.{List, [], ◌∷◌, ◌++◌, append-nil}
use mathlib.Core.Bool.{Bool, true, false}
use native.Mathlib.Omega.{arith}
use lib.ListN.{length, drop, get_or, set, length-append, length-drop, drop_of_length-le}
use Rattle.definition.specs.Lexical.{Quote, own_byte, other_byte, spell_char}
use Rattle.definition.specs.Lexical.Quote.{double, single}
use Rattle.definition.specs.Lexical.Char.{other_quote}
use Rattle.definition.specs.Literals.{char_bytes}
use Rattle.definition.specs.Utf8.{encode, encode_all, is_utf8}
use Rattle.basics.specs.Lists.{drop_at as here}
use Rattle.utf8_laws.specs.Texts.{own_ascii}
use Rattle.basics.specs.Reads.{ReadsNone, StartsNot}
use Rattle.basics.specs.Stores.{wrote_then, wrote_length}
use Rattle.utf8_laws.specs.Bytes.{by_test}
use Rattle.utf8_laws.specs.Encode.{utf8_ascii}
use Rattle.utf8_laws.specs.Scan.{behind, front_behind}
use Rattle.utf8_laws.specs.Names.{unescaped_byte, unescaped_scan}
use Rattle.text_quoted.specs.Quoted.{Any, Stuck, Unescapes, Refuses}
use Rattle.text_quoted.specs.Pieces.{Went, Fails, Turning, Copied, Encoded, HasEscape}
use Rattle.text_quoted.specs.declared.Turn.{Turn}
use Rattle.text_quoted.specs.declared.Turn.TheVariants.{On, End}
use Rattle.std.specs.Prelude.{Result, Ok, Err}
use Rattle.text_quoted.proofs.Chars.{own-not-slash, own-not-other, other_char, wrong_char}
use Rattle.text_quoted.proofs.Letters.{single_left, double_left}
use Rattle.text_quoted.proofs.Places.{wrote_kept}
use Rattle.text_quoted.proofs.Texts.{passed_none, passed_then, passed_char, passed_plain, none_closed, stuck_end, own_ends, char_short, chars_short, chars_sound}

-- ---- nothing yet, and one part behind another

pub went_start : (q : Quote) (s : List ℕ) (at : ℕ) (p : List ℕ) (len : ℕ) → at ≤ length s → Went q s at p len p at len (drop at s)
went_start q s at p len h =
    record { bytes = []; passed = passed_none q (drop at s); wrote = record { is = refl }; grown = omega arith; from = omega arith; to = h }

module _ (q : Quote) (s : List ℕ) (at : ℕ) (p : List ℕ) (len : ℕ) (p1 : List ℕ) (i n : ℕ) (a : Went q s at p len p1 i n (drop i s)) where
  pub went_then : (p2 : List ℕ) (j m : ℕ) (rest : List ℕ) → Went q s i p1 n p2 j m rest → Went q s at p len p2 j m rest
  went_then p2 j m rest b =
      let f = a.from in
      let g = a.grown in
      let h = b.grown in
      let k = length-append a.bytes b.bytes in
      let l = b.from in
      record {
        bytes = a.bytes ++ b.bytes;
        passed = passed_then q (drop at s) (drop i s) rest a.bytes b.bytes a.passed b.passed;
        wrote = wrote_then n a.wrote a.grown b.wrote;
        grown = omega arith;
        from = omega arith;
        to = b.to;
      }

  pub went_fails : (p2 : List ℕ) (place : ℕ) → Fails q s i p1 n p2 place → Fails q s at p len p2 place
  went_fails p2 place b =
      let f = a.from in
      let g = b.from in
      record {
        bytes = a.bytes ++ b.bytes;
        passed = passed_then q (drop at s) (drop i s) (drop place s) a.bytes b.bytes a.passed b.passed;
        stuck = b.stuck;
        wrote = wrote_then n a.wrote a.grown b.wrote;
        from = omega arith;
        to = b.to;
      }

  pub turning_then : (p2 : List ℕ) (t : Result Turn ℕ) → Turning q s i p1 n p2 t → Turning q s at p len p2 t
  turning_then p2 (Ok (On u)) b = let f = a.from in let g = b.0 in (omega arith, went_then p2 u.next u.end (drop u.next s) b.1)
  turning_then p2 (Ok (End u)) b = let f = a.from in let g = b.0 in (omega arith, went_then p2 u.next u.end (own_byte q ∷ drop u.next s) b.1)
  turning_then p2 (Err place) b = went_fails p2 place b

  -- what was read leaves UTF-8
  pub went_sound : is_utf8 (drop at s) ≡ true → is_utf8 (drop i s) ≡ true
  went_sound u = sym (chars_sound q a.passed.chars (drop i s)) ∙ ap is_utf8 (sym a.passed.is) ∙ u

  -- what was written leaves room for the rest
  pub went_room : len + (length s - at) ≤ length p → n + (length s - i) ≤ length p1
  went_room r =
      let c = chars_short q a.passed.chars (drop i s) in
      let d = ap length a.passed.is in
      let e = ap length a.passed.bytes in
      let f = length-drop at s in
      let g = length-drop i s in
      let h = wrote_length a.wrote in
      let k = a.grown in
      let l = a.from in
      let m = a.to in
      omega arith

-- ---- the whole text

pub unescaped : (q : Quote) (s : List ℕ) (at : ℕ) (p : List ℕ) (len : ℕ) (p' : List ℕ) (next end : ℕ) → is_utf8 (drop at s) ≡ true → at < next → Went q s at p len p' next end (own_byte q ∷ drop next s) → Unescapes q s at p len p' next end
unescaped q s at p len p' next end u l a =
    let b = a.passed in
    let c = chars_short q b.chars (own_byte q ∷ drop next s) in
    let d = ap length b.is in
    let e = length-drop at s in
    let f = length-drop next s in
    let g = a.to in
    record {
      chars = b.chars;
      reads =
          record {
            eq = b.is;
            only = λ t r _ h.
                let o = b.only t r h in
                let k = own_ends q o.0 (drop next s) r o.1 in
                (o.2 ∙ ap (λ (x : List ℕ). a.bytes ++ x) k.0 ∙ append-nil a.bytes ∙ sym b.bytes, k.1);
          };
      wrote = rw b.bytes a.wrote;
      grown = rw b.bytes a.grown;
      from = l;
      to = a.to;
      short = omega arith;
      sound = sym (utf8_ascii (own_byte q) (drop next s) (own_ascii q)) ∙ sym (chars_sound q b.chars (own_byte q ∷ drop next s)) ∙ ap is_utf8 (sym b.is) ∙ u;
    }

pub refused : (q : Quote) (s : List ℕ) (at : ℕ) (p : List ℕ) (len : ℕ) (p' : List ℕ) (place : ℕ) → Fails q s at p len p' place → Refuses q s at p len p' place
refused q s at p len p' place a =
    let b = a.passed in
    let n = none_closed q (drop place s) a.stuck in
    record {
      reads = record { none = λ t r _ e. let o = b.only t r e in n.none o.0 r tt o.1 };
      chars = b.chars;
      is = b.is;
      stuck = a.stuck;
      wrote = rw b.bytes a.wrote;
      kept = wrote_kept p p' len a.bytes a.wrote;
      size = wrote_length a.wrote;
      from = a.from;
      to = a.to;
    }

-- ---- a run of plain bytes

pub copied_went : (q : Quote) (s : List ℕ) (at : ℕ) (p : List ℕ) (len : ℕ) (p' : List ℕ) (r : ℕ) → is_utf8 (drop at s) ≡ true → Copied s at p len p' r → Went q s at p len p' r (len + (r - at)) (drop r s)
copied_went q s at p len p' r u a =
    let g = unescaped_scan (drop at s) u in
    let whole : encode_all g.chars ++ drop r s ≡ drop at s = rw (g.is, a.rest) (front_behind unescaped_byte (drop at s)) in
    let k = ap length whole in
    let m = length-append (encode_all g.chars) (drop r s) in
    let e = length-drop at s in
    let f = length-drop r s in
    let b = a.from in
    let c = a.to in
    record {
      bytes = encode_all g.chars;
      passed = rw whole at (passed_plain q g.chars (drop r s) g.good);
      wrote = rw g.is a.wrote;
      grown = omega arith;
      from = a.from;
      to = a.to;
    }

-- behind it stands no plain byte
pub behind_starts : (P : ℕ → Bool) (s : List ℕ) → StartsNot P (behind P s)
unfolding StartsNot
behind_starts P [] = tt
behind_starts P (b ∷ s) = by_test (P b) (λ t. rw t (behind_starts P s)) (λ f. rw f f)

-- ---- what ends a run

module _ (q : Quote) (s : List ℕ) (at : ℕ) (p : List ℕ) (len : ℕ) where
  -- nothing is read where neither a character nor the closing quote stands
  stuck_here : at ≤ length s → Stuck q (drop at s) → Fails q s at p len p at
  stuck_here g k = record { bytes = []; passed = passed_none q (drop at s); stuck = k; wrote = record { is = refl }; from = omega arith; to = g }

  -- the end of the text
  pub special_end : at ≤ length s → length s ≤ at → Fails q s at p len p at
  special_end g h = stuck_here g (rw (drop_of_length-le s h) (stuck_end q))

  module _ (h : at < length s) where
    -- the byte there stands in front of what follows it
    front_is : (b : ℕ) → get_or s at 0 ≡ b → drop at s ≡ b ∷ drop (at + 1) s
    front_is b e = here s at h ∙ rw e

    -- the closing quote
    pub special_own : get_or s at 0 ≡ own_byte q → (at < at + 1) × Went q s at p len p (at + 1) len (own_byte q ∷ drop (at + 1) s)
    special_own e = (
      omega arith,
      record {
        bytes = [];
        passed = rw (front_is (own_byte q) e) (passed_none q (own_byte q ∷ drop (at + 1) s));
        wrote = record { is = refl };
        grown = omega arith;
        from = omega arith;
        to = omega arith;
      },
    )

    -- a backslash and no escape
    pub special_no_escape : get_or s at 0 ≡ 0x5C → ReadsNone (spell_char q) Any (0x5C ∷ drop (at + 1) s) → Fails q s at p len p at
    special_no_escape e n =
        stuck_here (omega arith) (rw (front_is 0x5C e) (record { char = n; own = λ r k. let o : own_byte q ≡ 0x5C = cc in own-not-slash q o }))

    -- an escape has room
    pub escape_room : (c next : ℕ) → HasEscape q s (at + 1) c next → len + (length s - at) ≤ length p → len + length (encode c) ≤ length p
    escape_room c next a r =
        let d = char_short q a.char (drop next s) in
        let e = ap length a.reads.eq in
        let f = ap length a.bytes in
        let g = length-drop next s in
        let k = length-drop (at + 1) s in
        omega arith

    -- an escape
    pub special_escape : (c next end : ℕ) (p' : List ℕ) → get_or s at 0 ≡ 0x5C → HasEscape q s (at + 1) c next → Encoded p len c p' end → (at < next) × Went q s at p len p' next end (drop next s)
    special_escape c next end p' e a w =
        let f = a.from in (
          omega arith,
          record {
            bytes = encode c;
            passed =
                rw (front_is 0x5C e)
                (rw a.bytes at (passed_char q (0x5C ∷ drop (at + 1) s) a.char (drop next s) a.reads (λ r k. let o : own_byte q ≡ 0x5C = cc in own-not-slash q o)));
            wrote = w.wrote;
            grown = w.grown;
            from = omega arith;
            to = a.to;
          },
        )

    -- no plain byte stands there
    not_plain_here : StartsNot unescaped_byte (drop at s) → unescaped_byte (get_or s at 0) ≡ false
    unfolding StartsNot
    not_plain_here n = rw (here s at h) at n

    -- a control character
    pub special_control : StartsNot unescaped_byte (drop at s) → get_or s at 0 < 0x20 → Fails q s at p len p at
    special_control n l =
        let own : get_or s at 0 ≡ own_byte q → ⊥ = control_own q l in
        let char = wrong_char q (get_or s at 0) (drop (at + 1) s) (not_plain_here n) (control_other q l) (λ e. omega arith) in
        stuck_here (omega arith) (rw (here s at h) (record { char = char; own = λ r k. own (cc) }))
      where
        control_own : (q : Quote) → get_or s at 0 < 0x20 → get_or s at 0 ≡ own_byte q → ⊥
        control_own double l e = omega arith
        control_own single l e = omega arith

        control_other : (q : Quote) → get_or s at 0 < 0x20 → get_or s at 0 ≡ other_byte q → ⊥
        control_other double l e = omega arith
        control_other single l e = omega arith

    -- the other quote is all that is left
    other_left : (q : Quote) (b : ℕ) → unescaped_byte b ≡ false → 0x20 ≤ b → (b ≡ 0x5C → ⊥) → (b ≡ own_byte q → ⊥) → b ≡ other_byte q
    other_left double b f l n o = single_left b f l n o
    other_left single b f l n o = double_left b f l n o

    pub special_other : StartsNot unescaped_byte (drop at s) → 0x20 ≤ get_or s at 0 → (get_or s at 0 ≡ 0x5C → ⊥) → (get_or s at 0 ≡ own_byte q → ⊥)
        → (at < at + 1) × Went q s at p len (set p len (get_or s at 0)) (at + 1) (len + 1) (drop (at + 1) s)
    unfolding char_bytes
    special_other n l slash own =
        let e = other_left q (get_or s at 0) (not_plain_here n) l slash own in (
          omega arith,
          record {
            bytes = get_or s at 0 ∷ [];
            passed =
                rw (front_is (other_byte q) e, e)
                (passed_char q (other_byte q ∷ drop (at + 1) s) other_quote (drop (at + 1) s) (other_char q (drop (at + 1) s)) (λ r k. let o : own_byte q ≡ other_byte q = cc in own-not-other q o));
            wrote = record { is = refl };
            grown = refl;
            from = omega arith;
            to = omega arith;
          },
        )
