-- Groups, pieces, branches and alternatives, one level of the definition at a time. Assumes nothing.
use Rattle.std.specs.Prelude.{Option as Answer, Some, None}
use mathlib.Core.Path.{◌≡◌, refl, ap, sym, ◌∙◌}
use mathlib.Core.Bool.{Bool, true, false, cond, true≢false}
use mathlib.Core.List.{List, [], ◌∷◌, ◌++◌, append_assoc}
use mathlib.Core.Option.{Option, none, some}
use Prim.Native.Nat.{ℕ, zero, suc, ◌+◌, ◌-◌, ◌*◌, ◌≤◌, ◌<◌}
use native.Mathlib.Omega.{arith}
use native.Mathlib.Nat.{le_refl}
use borrow.Author.Tests.{ltb-true, ltb-false}
use lib.Dec.{ltb}
use lib.ListN.{length, drop, set, length-set, length-append, drop_of_length-le}
use Rattle.basics.specs.Reads.{Wrote}
use Rattle.regex_definition.specs.Words.{upto, any}
use Rattle.regex_definition.specs.Regexp.{Regexp, empty, then, or, times}
use Rattle.regex_definition.specs.Read.{begins, rest, and_then, stops, read_quantifier, read_leaf, read_atom, read_piece, read_branch, read_alternatives, read_regexp}
use Rattle.regex_code.specs.Flat.{flat}
use Rattle.regex_leaves.specs.Reads.{Is, ReadQuantifier, Inserted}
use Rattle.regex_leaves.specs.Reads.ReadQuantifier.{bounded as quant-bounded, endless as quant-endless, once as quant-once, stop as quant-none}
use Rattle.regex_leaves.specs.declared.counts.Quant.{Quant}
use Rattle.regex_leaves.proofs.OfChars.{behind}
use Rattle.regex_reader.specs.Reads.{Room, Read, Post, Repeats, out_leaf, out_atom, out_piece, out_branch, out_alternatives, ReadsWhole}
use Rattle.regex_reader.specs.Reads.Post.{next, stop}
use Rattle.regex_reader.specs.Reads.Repeats.{once, endless, bounded}
use Rattle.regex_reader.specs.Reads.ReadsWhole.{code, outside}
use Rattle.regex_reader.specs.declared.steps.Cursor.{Cursor}
use Rattle.regex_reader.proofs.Parts.{flat_behind}
use Rattle.regex_reader.proofs.OfAtoms.{stops_end}
use Rattle.basics.specs.Lists.{drop_at}
use Rattle.basics.specs.Stores.{wrote_then, wrote_length}

-- what an answer that is given says
pub read_is : {out : ℕ → Option (Regexp × List ℕ)} {j k : ℕ} {s p q : List ℕ} {a b : Cursor} → Post out j k s p q a (Some b) → Read out j k s p q a b
read_is (next b d) = d

pub read_none : {out : ℕ → Option (Regexp × List ℕ)} {j k : ℕ} {s p q : List ℕ} {a : Cursor} → Post out j k s p q a None → (n : ℕ) → 4 * (length s - a.at) + j ≤ n → out n ≡ none
read_none (stop o) = o

-- ---- an atom

module _ (s p : List ℕ) (at len : ℕ) where
  leaf_steps : (n : ℕ) → begins 0x28 (drop at s) ≡ false → 4 * (length s - at) + 1 ≤ n → (m : ℕ) × (4 * (length s - at) + 0 ≤ m) × (read_atom n (drop at s) ≡ read_leaf m (drop at s))
  unfolding read_atom
  leaf_steps zero e l = absurd (omega arith)
  leaf_steps (suc n) e l = (n, omega arith, rw e refl)

  pub atom_leaf : {t : Bool} → Is s at 0x28 t → t ≡ false → {q : List ℕ} {r : Answer Cursor} → Post (out_leaf s (record { at = at; len = len })) 0 0 s p q (record { at = at; len = len }) r
      → Post (out_atom s (record { at = at; len = len })) 1 0 s p q (record { at = at; len = len }) r
  atom_leaf i e (next b d) =
      next b
      (record {
        expr = d.expr;
        is = λ n l. let m = leaf_steps n (sym i.told ∙ e) l in m.2 ∙ d.is m.0 m.1;
        from = d.from;
        to = d.to;
        grown = d.grown;
        cost = d.cost;
        buf = d.buf;
      })
  atom_leaf i e (stop o) = stop (λ n l. let m = leaf_steps n (sym i.told ∙ e) l in m.2 ∙ o m.0 m.1)

  module _ {t : Bool} (i : Is s at 0x28 t) (e : t ≡ true) where
    group_steps : (n : ℕ) → 4 * (length s - at) + 1 ≤ n → (m : ℕ) × (4 * (length s - (at + 1)) + 4 ≤ m)
        × (read_atom n (drop at s) ≡ and_then (read_alternatives m (λ x. x) (drop (at + 1) s)) (λ x r. cond (begins 0x29 r) (some (x, rest r)) none))
    unfolding read_atom
    group_steps zero l = absurd (omega arith)
    group_steps (suc n) l =
        let h = i.inside e in
        let f : begins 0x28 (drop at s) ≡ true = sym i.told ∙ e in
        (n, omega arith, rw (f, behind s at 0x28 f) refl)

    pub atom_none : {q : List ℕ} → Post (out_alternatives s (record { at = at + 1; len = len })) 4 2 s p q (record { at = at + 1; len = len }) None
        → {q' : List ℕ} → Post (out_atom s (record { at = at; len = len })) 1 0 s p q' (record { at = at; len = len }) None
    atom_none o = stop (λ n l. let m = group_steps n l in m.2 ∙ rw (read_none o m.0 m.1) refl)

    module _ {q : List ℕ} {b : Cursor} (d : Read (out_alternatives s (record { at = at + 1; len = len })) 4 2 s p q (record { at = at + 1; len = len }) b) where
      pub atom_group : {u : Bool} → Is s b.at 0x29 u → u ≡ true
          → Post (out_atom s (record { at = at; len = len })) 1 0 s p q (record { at = at; len = len }) (Some (record { at = b.at + 1; len = b.len }))
      atom_group c f =
          let h = c.inside f in
          let g : begins 0x29 (drop b.at s) ≡ true = sym c.told ∙ f in
          next (record { at = b.at + 1; len = b.len })
          (record {
            expr = d.expr;
            is = λ n l. let m = group_steps n l in m.2 ∙ rw (d.is m.0 m.1, g, behind s b.at 0x29 g) refl;
            from = omega (arith, d.from);
            to = omega arith;
            grown = d.grown;
            cost = omega (arith, d.cost, d.from);
            buf = d.buf;
          })

      pub atom_open : {u : Bool} → Is s b.at 0x29 u → u ≡ false → {q' : List ℕ} → Post (out_atom s (record { at = at; len = len })) 1 0 s p q' (record { at = at; len = len }) None
      atom_open c f = stop (λ n l. let m = group_steps n l in m.2 ∙ rw (d.is m.0 m.1, sym c.told ∙ f) refl)

-- ---- a piece

module _ (s p : List ℕ) (at len : ℕ) where
  piece_steps : (n : ℕ) → 4 * (length s - at) + 2 ≤ n → (m : ℕ) × (4 * (length s - at) + 1 ≤ m) × (read_piece n (drop at s) ≡ and_then (read_atom m (drop at s)) read_quantifier)
  unfolding read_piece
  piece_steps zero l = absurd (omega arith)
  piece_steps (suc n) l = (n, omega arith, refl)

  pub piece_none : {q : List ℕ} → Post (out_atom s (record { at = at; len = len })) 1 0 s p q (record { at = at; len = len }) None
      → {q' : List ℕ} → Post (out_piece s (record { at = at; len = len })) 2 0 s p q' (record { at = at; len = len }) None
  piece_none o = stop (λ n l. let m = piece_steps n l in m.2 ∙ rw (read_none o m.0 m.1) refl)

  module _ {q : List ℕ} {b : Cursor} (d : Read (out_atom s (record { at = at; len = len })) 1 0 s p q (record { at = at; len = len }) b) where
    size : length (flat d.expr []) ≡ b.len - len
    size = omega (arith, d.grown)

    pub piece_of : {q' : List ℕ} {c : Quant} {r : Cursor} → ReadQuantifier s b.at (Some c) → Repeats q q' len b c r → Post (out_piece s (record { at = at; len = len })) 2 0 s p q' (record { at = at; len = len }) (Some r)
    piece_of (quant-once f) (once e) =
        next b
        (record {
          expr = d.expr;
          is = λ n l. let m = piece_steps n l in m.2 ∙ rw (d.is m.0 m.1) (f d.expr);
          from = d.from;
          to = d.to;
          grown = d.grown;
          cost = d.cost;
          buf = record { is = e ∙ d.buf.is };
        })
    piece_of (quant-endless x lo f g h) (endless x' lo' w) =
        next (record { at = x; len = b.len + 2 })
        (record {
          expr = times lo any d.expr;
          is = λ n l. let m = piece_steps n l in m.2 ∙ rw (d.is m.0 m.1) (f d.expr);
          from = omega (arith, d.from);
          to = h;
          grown = omega (arith, d.grown);
          cost = omega (arith, d.cost, d.from);
          buf = w p (flat d.expr []) d.buf size;
        })
    piece_of (quant-bounded x lo hi f g h) (bounded x' lo' hi' w) =
        next (record { at = x; len = b.len + 3 })
        (record {
          expr = times lo (upto hi) d.expr;
          is = λ n l. let m = piece_steps n l in m.2 ∙ rw (d.is m.0 m.1) (f d.expr);
          from = omega (arith, d.from);
          to = h;
          grown = omega (arith, d.grown);
          cost = omega (arith, d.cost, d.from);
          buf = w p (flat d.expr []) d.buf size;
        })

    pub piece_stop : {q' : List ℕ} → ReadQuantifier s b.at None → Post (out_piece s (record { at = at; len = len })) 2 0 s p q' (record { at = at; len = len }) None
    piece_stop (quant-none f) = stop (λ n l. let m = piece_steps n l in m.2 ∙ rw (d.is m.0 m.1) (f d.expr))

-- ---- a branch

-- from the place of a to `at` stand pieces: what is still to be read is handed to `fill`, and their words are `done`
pub record Branching (s p : List ℕ) (a : Cursor) (q : List ℕ) (at len : ℕ) : Type 0 where
  pub fill : Regexp → Regexp
  pub done : List ℕ
  pub codes : (x : Regexp) → flat (fill x) [] ≡ done ++ flat x []
  pub is : (n : ℕ) → 4 * (length s - a.at) + 3 ≤ n → (m : ℕ) × (4 * (length s - at) + 3 ≤ m) × (read_branch n (λ x. x) (drop a.at s) ≡ read_branch m fill (drop at s))
  pub from : a.at ≤ at
  pub to : at ≤ length s
  pub grown : len ≡ a.len + length done
  pub cost : len ≤ a.len + 8 * (at - a.at)
  pub buf : Wrote p a.len done q

pub branching_none : (s p : List ℕ) (a : Cursor) → a.at ≤ length s → Branching s p a p a.at a.len
branching_none s p a h =
    record {
      fill = λ x. x;
      done = [];
      codes = λ x. refl;
      is = λ n l. (n, l, refl);
      from = le_refl _;
      to = h;
      grown = omega arith;
      cost = omega arith;
      buf = record { is = refl };
    }

-- where no piece begins is no end of the text, if it says so
pub begun : (s : List ℕ) (at : ℕ) → stops (drop at s) ≡ false → at < length s
begun s at e = by (ltb at (length s)) refl
  where
    by : (b : Bool) → ltb at (length s) ≡ b → at < length s
    by true t = ltb-true at (length s) t
    by false f = absurd (true≢false (sym (stops_end s at (ltb-false at (length s) f)) ∙ e))

module _ {s p : List ℕ} {a : Cursor} {q : List ℕ} {at len : ℕ} (g : Branching s p a q at len) where
  end_steps : (n : ℕ) → stops (drop at s) ≡ true → 4 * (length s - at) + 3 ≤ n → read_branch n g.fill (drop at s) ≡ some (g.fill empty, drop at s)
  unfolding read_branch
  end_steps zero e l = absurd (omega arith)
  end_steps (suc n) e l = rw e refl

  pub branch_end : stops (drop at s) ≡ true → Post (out_branch s a) 3 2 s p (set q len 0) a (Some (record { at = at; len = len + 1 }))
  branch_end e =
      let c = g.codes empty in
      let k = ap length c ∙ length-append g.done (0 ∷ []) in
      next (record { at = at; len = len + 1 })
      (record {
        expr = g.fill empty;
        is = λ n l. let m = g.is n l in m.2 ∙ end_steps m.0 e m.1;
        from = g.from;
        to = g.to;
        grown = omega (arith, g.grown);
        cost = omega (arith, g.cost);
        buf = rw c (wrote_then len g.buf g.grown (record { is = refl }));
      })

  more_steps_lem : (n : ℕ) → stops (drop at s) ≡ false → 4 * (length s - at) + 3 ≤ n
      → (m : ℕ) × (4 * (length s - at) + 2 ≤ m) × (read_branch n g.fill (drop at s) ≡ and_then (read_piece m (drop at s)) (λ p r. read_branch m (λ x. g.fill (then p x)) r))
  unfolding read_branch
  more_steps_lem zero e l = absurd (omega arith)
  more_steps_lem (suc n) e l = (n, omega arith, rw e refl)

  module _ (e : stops (drop at s) ≡ false) where
    pub branch_none : {q' : List ℕ} → Post (out_piece s (record { at = at; len = len + 1 })) 2 0 s (set q len 2) q' (record { at = at; len = len + 1 }) None
        → Post (out_branch s a) 3 2 s p q' a None
    branch_none o =
        stop (λ n l. let m = g.is n l in let k = more_steps_lem m.0 e m.1 in m.2 ∙ k.2 ∙ rw (read_none o k.0 k.1) refl)

    pub branch_more : {q' : List ℕ} {b : Cursor} → Read (out_piece s (record { at = at; len = len + 1 })) 2 0 s (set q len 2) q' (record { at = at; len = len + 1 }) b
        → Branching s p a q' b.at b.len
    branch_more {q'} {b} d =
        let h = begun s at e in
        let x = d.expr in
        let k = length-append g.done (2 ∷ flat x []) in
        let z : len + 1 ≡ suc len = omega arith in
        record {
          fill = λ y. g.fill (then x y);
          done = g.done ++ 2 ∷ flat x [];
          codes = λ y. g.codes (then x y) ∙ ap (λ (l : List ℕ). g.done ++ 2 ∷ l) (flat_behind x (flat y [])) ∙ sym (append_assoc g.done (2 ∷ flat x []) (flat y []));
          is = λ n l.
              let m = g.is n l in
              let k = more_steps_lem m.0 e m.1 in
              (k.0, omega (arith, d.cost, d.from, d.grown, k.1), m.2 ∙ k.2 ∙ rw (d.is k.0 k.1) refl);
          from = omega (arith, g.from, d.from);
          to = d.to;
          grown = omega (arith, g.grown, d.grown);
          cost = omega (arith, g.cost, g.from, d.cost, d.from);
          buf = wrote_then len g.buf g.grown (record { is = rw z at d.buf.is });
        }

-- ---- alternatives

pub record Alternating (s p : List ℕ) (a : Cursor) (q : List ℕ) (at len : ℕ) : Type 0 where
  pub fill : Regexp → Regexp
  pub done : List ℕ
  pub codes : (x : Regexp) → flat (fill x) [] ≡ done ++ flat x []
  pub is : (n : ℕ) → 4 * (length s - a.at) + 4 ≤ n → (m : ℕ) × (4 * (length s - at) + 4 ≤ m) × (read_alternatives n (λ x. x) (drop a.at s) ≡ read_alternatives m fill (drop at s))
  pub from : a.at ≤ at
  pub to : at ≤ length s
  pub grown : len ≡ a.len + length done
  pub cost : len ≤ a.len + 8 * (at - a.at)
  pub buf : Wrote p a.len done q

pub alternating_none : (s p : List ℕ) (a : Cursor) → a.at ≤ length s → Alternating s p a p a.at a.len
alternating_none s p a h =
    record {
      fill = λ x. x;
      done = [];
      codes = λ x. refl;
      is = λ n l. (n, l, refl);
      from = le_refl _;
      to = h;
      grown = omega arith;
      cost = omega arith;
      buf = record { is = refl };
    }

module _ {s p : List ℕ} {a : Cursor} {q : List ℕ} {at len : ℕ} (g : Alternating s p a q at len) where
  branch_steps : (n : ℕ) → 4 * (length s - at) + 4 ≤ n
      → (m : ℕ) × (4 * (length s - at) + 3 ≤ m)
      × (read_alternatives n g.fill (drop at s) ≡ and_then (read_branch m (λ x. x) (drop at s)) (λ b r. cond (begins 0x7C r) (read_alternatives m (λ x. g.fill (or b x)) (rest r)) (some (g.fill b, r))))
  unfolding read_alternatives
  branch_steps zero l = absurd (omega arith)
  branch_steps (suc n) l = (n, omega arith, refl)

  pub alts_none : {q' q'' : List ℕ} → Post (out_branch s (record { at = at; len = len })) 3 2 s q q' (record { at = at; len = len }) None
      → Post (out_alternatives s a) 4 2 s p q'' a None
  alts_none o =
      stop (λ n l. let m = g.is n l in let k = branch_steps m.0 m.1 in m.2 ∙ k.2 ∙ rw (read_none o k.0 k.1) refl)

  module _ {q' : List ℕ} {b : Cursor} (d : Read (out_branch s (record { at = at; len = len })) 3 2 s q q' (record { at = at; len = len }) b) where
    pub alts_last : {t : Bool} → Is s b.at 0x7C t → t ≡ false → Post (out_alternatives s a) 4 2 s p q' a (Some b)
    alts_last i e =
        let c = g.codes d.expr in
        let k = ap length c ∙ length-append g.done (flat d.expr []) in
        next b
        (record {
          expr = g.fill d.expr;
          is = λ n l. let m = g.is n l in let k = branch_steps m.0 m.1 in m.2 ∙ k.2 ∙ rw (d.is k.0 k.1, sym i.told ∙ e) refl;
          from = omega (arith, g.from, d.from);
          to = d.to;
          grown = omega (arith, g.grown, d.grown);
          cost = omega (arith, g.cost, g.from, d.cost, d.from);
          buf = rw c (wrote_then len g.buf g.grown d.buf);
        })

    pub alts_more : {t : Bool} → Is s b.at 0x7C t → t ≡ true → {q'' : List ℕ} → Inserted q' len b.len 3 q'' → Alternating s p a q'' (b.at + 1) (b.len + 1)
    alts_more i e j =
        let h = i.inside e in
        let f : begins 0x7C (drop b.at s) ≡ true = sym i.told ∙ e in
        let x = d.expr in
        let k = length-append g.done (3 ∷ flat x []) in
        let v : length (flat x []) ≡ b.len - len = omega (arith, d.grown) in
        record {
          fill = λ y. g.fill (or x y);
          done = g.done ++ 3 ∷ flat x [];
          codes = λ y. g.codes (or x y) ∙ ap (λ (l : List ℕ). g.done ++ 3 ∷ l) (flat_behind x (flat y [])) ∙ sym (append_assoc g.done (3 ∷ flat x []) (flat y []));
          is = λ n l.
              let m = g.is n l in
              let k = branch_steps m.0 m.1 in
              (k.0, omega (arith, d.from, k.1), m.2 ∙ k.2 ∙ rw (d.is k.0 k.1, f, behind s b.at 0x7C f) refl);
          from = omega (arith, g.from, d.from);
          to = omega arith;
          grown = omega (arith, g.grown, d.grown);
          cost = omega (arith, g.cost, g.from, d.cost, d.from);
          buf = wrote_then len g.buf g.grown (j.is q (flat x []) d.buf v);
        }

-- ---- the whole

module _ (s p : List ℕ) (len : ℕ) where
  pub whole_none : {q q' : List ℕ} → Post (out_alternatives s (record { at = 0; len = len })) 4 2 s p q (record { at = 0; len = len }) None → ReadsWhole s p q' len None
  unfolding read_regexp
  whole_none o = outside (rw (read_none o (4 * length s + 4) (omega arith)) refl)

  module _ {q : List ℕ} {b : Cursor} (d : Read (out_alternatives s (record { at = 0; len = len })) 4 2 s p q (record { at = 0; len = len }) b) where
    pub whole_left : b.at < length s → {q' : List ℕ} → ReadsWhole s p q' len None
    unfolding read_regexp
    whole_left h = outside (rw (d.is (4 * length s + 4) (omega arith), drop_at s b.at h) refl)

    pub whole_code : length s ≤ b.at → ReadsWhole s p q len (Some b.len)
    unfolding read_regexp
    whole_code h =
        code b.len
        (record {
          expr = d.expr;
          is = rw (d.is (4 * length s + 4) (omega arith), drop_of_length-le s h) refl;
          grown = d.grown;
          few = omega (arith, d.cost, d.to);
          buf = d.buf;
        })

-- ---- room

-- behind one character
pub room_on : {s p : List ℕ} {at len k : ℕ} → Room s p (record { at = at; len = len }) k → at < length s → Room s p (record { at = at + 1; len = len }) (k + 1)
room_on r h = record { text = omega arith; small = r.small; fits = omega (arith, r.fits) }

pub room_less : {s p : List ℕ} {a : Cursor} {k : ℕ} → Room s p a (k + 1) → Room s p a k
room_less r = record { text = r.text; small = r.small; fits = omega (arith, r.fits) }

-- behind branches, and behind pieces
pub room_alts : {s p q : List ℕ} {a : Cursor} {at len : ℕ} → Room s p a 3 → Alternating s p a q at len → Room s q (record { at = at; len = len }) 3
room_alts r g = let l = wrote_length g.buf in record { text = g.to; small = r.small; fits = omega (arith, r.fits, g.cost, g.from, g.to) }

pub room_branch : {s p q : List ℕ} {a : Cursor} {at len : ℕ} → Room s p a 3 → Branching s p a q at len → Room s q (record { at = at; len = len }) 3
room_branch r g = let l = wrote_length g.buf in record { text = g.to; small = r.small; fits = omega (arith, r.fits, g.cost, g.from, g.to) }

-- for a piece behind the word 2
pub room_piece : {s q : List ℕ} {at len : ℕ} → Room s q (record { at = at; len = len }) 3 → Room s (set q len 2) (record { at = at; len = len + 1 }) 2
room_piece {s} {q} {at} {len} r = let l = length-set q len 2 in record { text = r.text; small = r.small; fits = omega (arith, r.fits) }

-- for the word of a repeat, and for that of alternatives
pub room_repeat : {s p q : List ℕ} {at len : ℕ} {b : Cursor} → Room s p (record { at = at; len = len }) 2 → {out : ℕ → Option (Regexp × List ℕ)} {j : ℕ}
    → Read out j 0 s p q (record { at = at; len = len }) b → (len ≤ b.len) × (b.len + 3 ≤ length q)
room_repeat r d = let l = wrote_length d.buf in (omega (arith, d.grown), omega (arith, r.fits, d.cost, d.from, d.to))

pub room_insert : {s p q : List ℕ} {at len : ℕ} {b : Cursor} → Room s p (record { at = at; len = len }) 3 → {out : ℕ → Option (Regexp × List ℕ)} {j : ℕ}
    → Read out j 2 s p q (record { at = at; len = len }) b → b.at < length s → (len ≤ b.len) × (b.len + 1 < length q)
room_insert r d h = let l = wrote_length d.buf in (omega (arith, d.grown), omega (arith, r.fits, d.cost, d.from, d.to))
