-- Atoms that are no groups, and repeats, one level of the definition at a time. Assumes nothing.
use Rattle.std.specs.Prelude.{Option as Answer, Some}
use mathlib.Core.Path.{◌≡◌, refl, sym, ◌∙◌}
use mathlib.Core.Bool.{Bool, true, false}
use mathlib.Core.List.{List, [], ◌∷◌}
use mathlib.Core.Option.{Option, some}
use Prim.Native.Nat.{ℕ, ◌+◌, ◌≤◌, ◌<◌}
use native.Mathlib.Omega.{arith}
use lib.ListN.{length, drop, drop_of_length-le}
use Rattle.basics.specs.Reads.{Wrote}
use Rattle.regex_definition.specs.Chars.{is_normal}
use Rattle.regex_definition.specs.Regexp.{Regexp}
use Rattle.regex_definition.specs.Grammar.{char, dot}
use Rattle.regex_definition.specs.Read.{begins, and_then, stops, read_escape, read_bare, read_leaf}
use Rattle.regex_leaves.specs.Reads.{Is, ReadChar, Inserted}
use Rattle.regex_leaves.specs.declared.counts.Quant.TheVariants as quant
use Rattle.regex_leaves.proofs.OfChars.{behind}
use Rattle.regex_leaves.proofs.OfItems.{char_is, char_none}
use Rattle.regex_reader.specs.Reads.{Post, PutChar, Repeats, out_class, out_leaf}
use Rattle.regex_reader.specs.Reads.Post.{next, stop}
use Rattle.regex_reader.specs.Reads.PutChar.{next as put_next, stop as put-stop}
use Rattle.regex_reader.specs.Reads.Repeats.{endless, bounded}
use Rattle.regex_reader.specs.declared.steps.Cursor.{Cursor}
use Rattle.regex_reader.proofs.Parts.{same_post}

-- ---- where no piece begins

pub stops_end : (s : List ℕ) (at : ℕ) → length s ≤ at → stops (drop at s) ≡ true
stops_end s at h = rw (drop_of_length-le s h)

-- ---- characters

module _ (s p : List ℕ) (at len : ℕ) where
  -- the code of a character that was read, where the definition reads it
  pub put_char :
      {out : ℕ → Option (Regexp × List ℕ)} {read : Option (ℕ × List ℕ)} {from : ℕ} {q : List ℕ} {c : Answer (ℕ × ℕ)} {r : Answer Cursor} → at < from
      → ((n : ℕ) → out n ≡ and_then read (λ c r. some (char c, r))) → ReadChar read s from c → PutChar p q len c r
      → Post out 0 0 s p q (record { at = at; len = len }) r
  put_char h f i (put_next b c w) =
      let k = char_is i in
      let z = k.1 in
      next (record { at = b; len = len + 5 })
      (record {
        expr = char c;
        is = λ n l. f n ∙ rw k.0 refl;
        from = omega arith;
        to = k.2;
        grown = refl;
        cost = omega arith;
        buf = w;
      })
  put_char h f i put-stop = stop (λ n l. f n ∙ rw (char_none i) refl)

  -- ---- an atom that is no group

  pub leaf_class : {t : Bool} → Is s at 0x5B t → t ≡ true → {q : List ℕ} {r : Answer Cursor} → Post (out_class s (record { at = at + 1; len = len })) 4 0 s p q (record { at = at + 1; len = len }) r
      → Post (out_leaf s (record { at = at; len = len })) 0 0 s p q (record { at = at; len = len }) r
  unfolding read_leaf
  leaf_class i e c =
      let h = i.inside e in
      let f : begins 0x5B (drop at s) ≡ true = sym i.told ∙ e in
      same_post (omega arith) (λ n l. (omega arith, rw (f, behind s at 0x5B f) refl)) c

  module _ {t : Bool} (i : Is s at 0x5B t) (n0 : t ≡ false) where
    pub leaf_dot : {u : Bool} → Is s at 0x2E u → u ≡ true → {q : List ℕ} → Wrote p len (1 ∷ 1 ∷ 2 ∷ 10 ∷ 10 ∷ 13 ∷ 13 ∷ []) q
        → Post (out_leaf s (record { at = at; len = len })) 0 0 s p q (record { at = at; len = len }) (Some (record { at = at + 1; len = len + 7 }))
    unfolding read_leaf
    leaf_dot d e w =
        let h = d.inside e in
        let f : begins 0x2E (drop at s) ≡ true = sym d.told ∙ e in
        next (record { at = at + 1; len = len + 7 })
        (record {
          expr = dot;
          is = λ n l. rw (sym i.told ∙ n0, f, behind s at 0x2E f) refl;
          from = omega arith;
          to = omega arith;
          grown = refl;
          cost = omega arith;
          buf = w;
        })

    module _ {u : Bool} (d : Is s at 0x2E u) (n1 : u ≡ false) where
      pub leaf_escape : {v : Bool} → Is s at 0x5C v → v ≡ true → {q : List ℕ} {c : Answer (ℕ × ℕ)} {r : Answer Cursor} → ReadChar (read_escape (drop (at + 1) s)) s (at + 1 + 1) c → PutChar p q len c r
          → Post (out_leaf s (record { at = at; len = len })) 0 0 s p q (record { at = at; len = len }) r
      unfolding read_leaf
      leaf_escape g e c w =
          let f : begins 0x5C (drop at s) ≡ true = sym g.told ∙ e in
          put_char (omega arith) (λ n. rw (sym i.told ∙ n0, sym d.told ∙ n1, f, behind s at 0x5C f) refl) c w

      pub leaf_normal : {v : Bool} → Is s at 0x5C v → v ≡ false → {q : List ℕ} {c : Answer (ℕ × ℕ)} {r : Answer Cursor} → ReadChar (read_bare is_normal (drop at s)) s (at + 1) c → PutChar p q len c r
          → Post (out_leaf s (record { at = at; len = len })) 0 0 s p q (record { at = at; len = len }) r
      unfolding read_leaf
      leaf_normal g e c w = put_char (omega arith) (λ n. rw (sym i.told ∙ n0, sym d.told ∙ n1, sym g.told ∙ e) refl) c w

-- ---- repeats

module _ {p : List ℕ} {from : ℕ} (n : Cursor) (h : from ≤ n.len) where
  pub repeat_endless : (b lo : ℕ) {p' q : List ℕ} → Inserted p from n.len lo p' → Inserted p' from (n.len + 1) 5 q
      → Repeats p q from n (quant.Least b lo) (record { at = b; len = n.len + 2 })
  repeat_endless b lo i j = endless b lo (λ p₀ c w l. j.is p₀ (lo ∷ c) (i.is p₀ c w l) (omega arith))

  pub repeat_bounded : (b lo hi : ℕ) {p' p'' q : List ℕ} → Inserted p from n.len hi p' → Inserted p' from (n.len + 1) lo p'' → Inserted p'' from (n.len + 2) 4 q
      → Repeats p q from n (quant.Upto b lo hi) (record { at = b; len = n.len + 3 })
  repeat_bounded b lo hi i j k =
      bounded b lo hi (λ p₀ c w l. k.is p₀ (lo ∷ hi ∷ c) (j.is p₀ (hi ∷ c) (i.is p₀ c w l) (omega arith)) (omega arith))
