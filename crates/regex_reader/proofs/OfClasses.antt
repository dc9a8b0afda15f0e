-- A class, one level of the definition at a time. Assumes nothing.
use Rattle.std.specs.Prelude.{Option as Answer, Some, None}
use mathlib.Core.Path.{◌≡◌, refl, ap, sym, ◌∙◌}
use mathlib.Core.Bool.{Bool, true, false}
use mathlib.Core.List.{List, [], ◌∷◌, ◌++◌, append_assoc, append-nil}
use mathlib.Core.Option.{Option, none, some}
use Prim.Native.Nat.{ℕ, zero, suc, ◌+◌, ◌-◌, ◌*◌, ◌≤◌, ◌<◌}
use native.Mathlib.Omega.{arith}
use lib.ListN.{length, drop, set, length-append}
use Rattle.basics.specs.Reads.{Wrote}
use Rattle.basics.specs.Stores.{wrote_then}
use Rattle.regex_definition.specs.Regexp.{Range, class}
use Rattle.regex_definition.specs.Grammar.{only}
use Rattle.regex_definition.specs.Read.{begins, rest, read_item, read_first, read_items, read_ranges, read_class}
use Rattle.regex_code.specs.Flat.{flag, flat, flat_ranges, flat_ranges_append}
use Rattle.regex_leaves.specs.Reads.{Is, ReadItem}
use Rattle.regex_leaves.specs.Reads.ReadItem.{next as item_next, stop as item-stop}
use Rattle.regex_leaves.proofs.OfChars.{rest_at, behind}
use Rattle.regex_reader.specs.Reads.{IsEnd, ReadItems, PostRanges, Post, is_complement, out_ranges, out_class}
use Rattle.regex_reader.specs.Reads.PostRanges.{next as ranges-next, stop as ranges-stop}
use Rattle.regex_reader.specs.Reads.Post.{next, stop}
use Rattle.regex_reader.specs.declared.steps.Cursor.{Cursor}
use Rattle.regex_reader.proofs.Parts.{ranges_behind, length_ranges, third, same_post}

-- what an answer that is given says
pub item_is : {out : Option (Range × List ℕ)} {s : List ℕ} {from b lo hi : ℕ} → ReadItem out s from (Some (b, lo, hi))
    → (out ≡ some (record { low = lo; high = hi }, drop b s)) × (from ≤ b) × (b ≤ length s)
item_is (item_next b lo hi o f t) = (o, f, t)

pub item_none : {out : Option (Range × List ℕ)} {s : List ℕ} {from : ℕ} → ReadItem out s from None → out ≡ none
item_none (item-stop o) = o

-- ---- "-]"

pub end_some : (s : List ℕ) (at : ℕ) → begins 0x2D (drop at s) ≡ true → {r : Bool} → Is s (at + 1) 0x5D r → IsEnd s at r
end_some s at e {r} i = record { told = rw (behind s at 0x2D e, e) i.told; inside = i.inside }

rest_rest : (s : List ℕ) (at : ℕ) → at + 1 < length s → rest (rest (drop at s)) ≡ drop (at + 2) s
rest_rest s at h =
    let z : at + 1 + 1 ≡ at + 2 = omega arith in
    ap rest (rest_at s at (omega arith)) ∙ rest_at s (at + 1) h ∙ ap (λ n. drop n s) z

-- ---- one step of the items

module _ (s : List ℕ) (i : ℕ) where
  close_at : (m : ℕ) (gs : List Range) → length s - i < m → begins 0x5D (drop i s) ≡ true → read_items m gs (drop i s) ≡ some (gs, drop (i + 1) s)
  unfolding read_items
  close_at zero gs h e = absurd (omega arith)
  close_at (suc m) gs h e = rw (e, behind s i 0x5D e) refl

  module _ (x : begins 0x5D (drop i s) ≡ false) where
    dash_at : (m : ℕ) (gs : List Range) → length s - i < m → {r : Bool} → IsEnd s i r → r ≡ true → read_items m gs (drop i s) ≡ some (gs ++ only 0x2D ∷ [], drop (i + 2) s)
    unfolding read_items
    dash_at zero gs h d e = absurd (omega arith)
    dash_at (suc m) gs h d e = rw (x, sym d.told ∙ e, rest_rest s i (d.inside e)) refl

    module _ {r : Bool} (d : IsEnd s i r) (e : r ≡ false) where
      item_at : (m : ℕ) (gs : List Range) (g : Range) (b : ℕ) → read_item (drop i s) ≡ some (g, drop b s) → read_items (suc m) gs (drop i s) ≡ read_items m (gs ++ g ∷ []) (drop b s)
      unfolding read_items
      item_at m gs g b o = rw (x, sym d.told ∙ e, o) refl

      none_at : (m : ℕ) (gs : List Range) → read_item (drop i s) ≡ none → read_items m gs (drop i s) ≡ none
      unfolding read_items
      none_at zero gs o = refl
      none_at (suc m) gs o = rw (x, sym d.told ∙ e, o) refl

      more_at : (m : ℕ) (gs : List Range) (g : Range) (b : ℕ) → length s - i < m → read_item (drop i s) ≡ some (g, drop b s) → i + 1 ≤ b → b ≤ length s
          → (m' : ℕ) × (length s - b < m') × (read_items m gs (drop i s) ≡ read_items m' (gs ++ g ∷ []) (drop b s))
      more_at zero gs g b h o f t = absurd (omega arith)
      more_at (suc m) gs g b h o f t = (m, omega arith, item_at m gs g b o)

-- ---- the loop of the items: those from `at` to i have the ranges `done`

pub record Going (s p : List ℕ) (at len : ℕ) (q : List ℕ) (i n : ℕ) : Type 0 where
  pub done : List Range
  pub is : (m : ℕ) (gs : List Range) → length s - at < m → (m' : ℕ) × (length s - i < m') × (read_items m gs (drop at s) ≡ read_items m' (gs ++ done) (drop i s))
  pub count : n ≡ length done
  pub from : at + n ≤ i
  pub to : i ≤ length s
  pub buf : Wrote p len (flat_ranges done []) q

pub going_none : (s p : List ℕ) (at len : ℕ) → at ≤ length s → Going s p at len p at 0
going_none s p at len h =
    record {
      done = [];
      is = λ m gs l. (m, l, ap (λ (k : List Range). read_items m k (drop at s)) (sym (append-nil gs)));
      count = refl;
      from = omega arith;
      to = h;
      buf = record { is = refl };
    }

module _ {s p : List ℕ} {at len : ℕ} {q : List ℕ} {i n : ℕ} (g : Going s p at len q i n) where
  pub ranges_close : {r : Bool} → Is s i 0x5D r → r ≡ true → PostRanges s p q at len (Some (i + 1, n))
  ranges_close d e =
      let h = d.inside e in
      ranges-next (i + 1) n
      (record {
        found = g.done;
        is = λ m gs l. let t = g.is m gs l in t.2 ∙ close_at s i t.0 (gs ++ g.done) t.1 (sym d.told ∙ e);
        count = g.count;
        from = omega (arith, g.from);
        to = omega arith;
        buf = g.buf;
      })

  -- the place of the next range
  place : len + 2 * n ≡ len + length (flat_ranges g.done [])
  place = let l = length_ranges g.done in omega (arith, g.count)

  -- one range more
  wrote_more : (lo hi : ℕ) {q' : List ℕ} → Wrote q (len + 2 * n) (lo ∷ hi ∷ []) q' → Wrote p len (flat_ranges (g.done ++ record { low = lo; high = hi } ∷ []) []) q'
  wrote_more lo hi w =
      rw (flat_ranges_append g.done (record { low = lo; high = hi }) [], ranges_behind g.done (lo ∷ hi ∷ []))
      (wrote_then (len + 2 * n) g.buf place w)

  counted : (x : Range) → n + 1 ≡ length (g.done ++ x ∷ [])
  counted x = let l = length-append g.done (x ∷ []) in omega (arith, g.count)

  module _ {r : Bool} (c : Is s i 0x5D r) (n0 : r ≡ false) where
    pub ranges_dash : {q' : List ℕ} {t : Bool} → IsEnd s i t → t ≡ true → Wrote q (len + 2 * n) (0x2D ∷ 0x2D ∷ []) q' → PostRanges s p q' at len (Some (i + 2, n + 1))
    ranges_dash d e w =
        let h = d.inside e in
        ranges-next (i + 2) (n + 1)
        (record {
          found = g.done ++ only 0x2D ∷ [];
          is = λ m gs l.
              let t = g.is m gs l in
              t.2 ∙ dash_at s i (sym c.told ∙ n0) t.0 (gs ++ g.done) t.1 d e ∙ ap (λ (k : List Range). some (k, drop (i + 2) s)) (append_assoc gs g.done (only 0x2D ∷ []));
          count = counted (only 0x2D);
          from = omega (arith, g.from);
          to = omega arith;
          buf = wrote_more 0x2D 0x2D w;
        })

    module _ {t : Bool} (d : IsEnd s i t) (e : t ≡ false) where
      pub ranges_none : {q' : List ℕ} → ReadItem (read_item (drop i s)) s (i + 1) None → PostRanges s p q' at len None
      ranges_none o =
          ranges-stop (λ m gs l. let t = g.is m gs l in t.2 ∙ none_at s i (sym c.told ∙ n0) d e t.0 (gs ++ g.done) (item_none o))

      pub going_more : {b lo hi : ℕ} {q' : List ℕ} → ReadItem (read_item (drop i s)) s (i + 1) (Some (b, lo, hi)) → Wrote q (len + 2 * n) (lo ∷ hi ∷ []) q'
          → Going s p at len q' b (n + 1)
      going_more {b} {lo} {hi} o w =
          let k = item_is o in
          let f = k.1 in
          let x : Range = record { low = lo; high = hi } in
          record {
            done = g.done ++ x ∷ [];
            is = λ m gs l.
                let t = g.is m gs l in
                let u = more_at s i (sym c.told ∙ n0) d e t.0 (gs ++ g.done) x b t.1 k.0 k.1 k.2 in
                (u.0, u.1, t.2 ∙ u.2 ∙ ap (λ (l : List Range). read_items u.0 l (drop b s)) (append_assoc gs g.done (x ∷ [])));
            count = counted x;
            from = omega (arith, g.from);
            to = k.2;
            buf = wrote_more lo hi w;
          }

pub more_is : {s p q : List ℕ} {at len b n : ℕ} → PostRanges s p q at len (Some (b, n)) → ReadItems s p q at len b n
more_is (ranges-next b n d) = d

-- ---- a class

-- the head, the ranges behind the first, and the number of ranges
class_buf : {s p p' p'' : List ℕ} {len sign lo hi b e n : ℕ} → flag (is_complement sign) ≡ sign → Wrote p len (1 ∷ sign ∷ 0 ∷ lo ∷ hi ∷ []) p' → (d : ReadItems s p' p'' b (len + 5) e n)
    → Wrote p len (flat (class (is_complement sign) (record { low = lo; high = hi } ∷ d.found)) []) (set p'' (len + 2) (n + 1))
class_buf {s} {p} {p'} {p''} {len} {sign} {lo} {hi} {b} {e} {n} c w d =
    let v : Wrote p len (1 ∷ sign ∷ 0 ∷ lo ∷ hi ∷ flat_ranges d.found []) p'' = wrote_then (len + 5) w (omega arith) d.buf in
    let k : n + 1 ≡ suc (length d.found) = omega (arith, d.count) in
    record { is = ap (λ (l : List ℕ). set l (len + 2) (n + 1)) v.is ∙ third p len 1 sign 0 (n + 1) (lo ∷ hi ∷ flat_ranges d.found []) ∙ rw (c, k) refl }

module _ (s p : List ℕ) (at len sign : ℕ) where
  pub class_none : {q : List ℕ} → ReadItem (read_first (drop at s)) s (at + 1) None → Post (out_ranges sign s (record { at = at; len = len })) 4 0 s p q (record { at = at; len = len }) None
  unfolding read_ranges
  class_none o = stop (λ n l. rw (item_none o) refl)

  module _ {b lo hi : ℕ} (o : ReadItem (read_first (drop at s)) s (at + 1) (Some (b, lo, hi))) where
    pub class_open : {p' p'' q : List ℕ} → PostRanges s p' p'' b (len + 5) None → Post (out_ranges sign s (record { at = at; len = len })) 4 0 s p q (record { at = at; len = len }) None
    unfolding read_ranges
    class_open (ranges-stop f) =
        let k = item_is o in
        let z = k.1 in
        let y = k.2 in
        stop (λ n l. rw (k.0, f n (record { low = lo; high = hi } ∷ []) (omega arith)) refl)

    pub class_next : flag (is_complement sign) ≡ sign → {p' p'' : List ℕ} {e n : ℕ} → Wrote p len (1 ∷ sign ∷ 0 ∷ lo ∷ hi ∷ []) p' → PostRanges s p' p'' b (len + 5) (Some (e, n))
        → Post (out_ranges sign s (record { at = at; len = len })) 4 0 s p (set p'' (len + 2) (n + 1)) (record { at = at; len = len }) (Some (record { at = e; len = len + 5 + 2 * n }))
    unfolding read_ranges
    class_next c {p'} {p''} w (ranges-next e n d) =
        let k = item_is o in
        let z = k.1 in
        let y = k.2 in
        let x : Range = record { low = lo; high = hi } in
        let v = length_ranges d.found in
        next (record { at = e; len = len + 5 + 2 * n })
        (record {
          expr = class (is_complement sign) (x ∷ d.found);
          is = λ n l. rw (k.0, d.is n (x ∷ []) (omega arith)) refl;
          from = omega (arith, d.from);
          to = d.to;
          grown = omega (arith, d.count);
          cost = omega (arith, d.from);
          buf = class_buf c w d;
        })

  pub class_complement : {r : Answer Cursor} {q : List ℕ} {t : Bool} → Is s at 0x5E t → t ≡ true
      → Post (out_ranges 1 s (record { at = at + 1; len = len })) 4 0 s p q (record { at = at + 1; len = len }) r
      → Post (out_class s (record { at = at; len = len })) 4 0 s p q (record { at = at; len = len }) r
  unfolding read_class
  class_complement i e c =
      let h = i.inside e in
      let f : begins 0x5E (drop at s) ≡ true = sym i.told ∙ e in
      same_post (omega arith) (λ n l. (omega arith, rw (f, behind s at 0x5E f) refl)) c

  pub class_plain : {r : Answer Cursor} {q : List ℕ} {t : Bool} → Is s at 0x5E t → t ≡ false
      → Post (out_ranges 0 s (record { at = at; len = len })) 4 0 s p q (record { at = at; len = len }) r
      → Post (out_class s (record { at = at; len = len })) 4 0 s p q (record { at = at; len = len }) r
  unfolding read_class
  class_plain i e c =
      let f : begins 0x5E (drop at s) ≡ false = sym i.told ∙ e in
      same_post (omega arith) (λ n l. (l, rw f refl)) c
