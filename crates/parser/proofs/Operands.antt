-- The laws of the reader's functions that read a query or an operand: what is told of it, how much is written for it, and what may be read behind it. Assumes nothing.
use Rattle.std.specs.Prelude.{Err}
use mathlib.Core.Path.{◌≡◌, refl, sym, ap, subst, ◌∙◌}
use mathlib.Core.Bool.{Bool, true, false, cond}
use mathlib.Core.List.{List, [], ◌∷◌}
use Prim.Native.Nat.{ℕ, ◌+◌, ◌*◌, ◌-◌, ◌≤◌, ◌<◌, min}
use native.Mathlib.Omega.{arith}
use lib.ListN.{length, drop, length-drop, length-append}
use Rattle.definition.specs.Bytes.{part}
use Rattle.definition.specs.Utf8.{is_utf8}
use Rattle.definition.specs.Lexical.{is_function_char, function_bytes, spell_function_name}
use Rattle.definition.specs.Grammar as G
use Rattle.definition.specs.Grammar.{spell_segments, spell_paren, spell_operator, spell_comparable}
use Rattle.definition.specs.Grammar.FilterQuery.{rel_query, abs_query}
use Rattle.definition.specs.Walk.{Named, named}
use Rattle.definition.specs.Walk.Named.{count, value_name, match, search, unknown}
use Rattle.utf8_laws.specs.Encode.{utf8_ascii}
use Rattle.basics.specs.Reads.{Reads, ReadsNone, StartsNot}
use Rattle.parser_scan.specs.Text.{Is, Skipped, WordAt, named_number}
use Rattle.compile_writes.specs.Effects.{Effect, Writer, join, seq, mark, bytes, skip}
use Rattle.compile_writes.specs.Sorts.{Sort, singular_segments, tight_segments, query_sort, sort_paren, sort_function}
use Rattle.compile_writes.specs.Writes.{write_from, write_segments, write_paren, write_comparable}
use Rattle.compile_writes.specs.Spellings.{operator_spends}
use Rattle.compile_writes.specs.Sizes.{Sized, sized_literal, sized_filter_query, sized_function, sized_comparable, sized_paren, sized_segments}
use Rattle.parser_follow.specs.Follow.{unblank, After}
use Rattle.parser_follow.specs.Numbers.{sort_number, sort_of, segments_flag, path_number, flag_of_path, name_of, no_flag, Known, operator_number, sort_small}
use Rattle.parser_follow.specs.Leaves.{spell_constant, write_constant, spell_keyword, write_keyword}
use Rattle.parser_follow.specs.Pieces.{Operand, spell_operand, write_operand, operand_flag, query_flag, Side, spell_side, write_side, Behind, spell_behind, write_behind, BehindOf, spell_behind_of, write_behind_of, behind_of_sort, spell_call, write_call, call_sort}
use Rattle.parser_follow.specs.Pieces.Operand.{literal_operand, query_operand, function_operand}
use Rattle.parser_follow.specs.Pieces.Behind.{alone, compared}
use Rattle.parser_items.specs.Reads.{Asks, Done, Read, Post, Put, Opens, Room, next, stop}
use Rattle.parser_items.specs.Laws.{Moved, done_then, asks_go, asks_room}
use Rattle.parser_items.specs.declared.Cursor.{Cursor}
use Rattle.parser_items.specs.Reads.{Step}
use Rattle.parser_laws.specs.Query.{query_effect, query_means, operand_current, operand_root}
use Rattle.parser_laws.specs.Words.{operand_call, operand_keyword, operand_constant}
use Rattle.parser.proofs.Steps.{asks_moved, asks_read, done_is, post_so, stay, put_plain}

-- ---- numbers that are told

-- what is told of segments is small, and the limit 2 leaves it as it is
path_small : (a u : Bool) → (path_number a u ≤ 2) × (min 2 (path_number a u) ≡ path_number a u)
path_small true true = (omega arith, refl)
path_small true false = (omega arith, refl)
path_small false true = (omega arith, refl)
path_small false false = (omega arith, refl)

segments_small : (t : G.Segments) → (segments_flag t ≤ 2) × (min 2 (segments_flag t) ≡ segments_flag t)
segments_small t = path_small (singular_segments t) (tight_segments t)

-- and what is told of an operand
query_small : (t : G.Segments) → query_flag t ≤ 5
query_small t = go (tight_segments t) (query_sort (singular_segments t))
  where
    go : (b : Bool) (σ : Sort) → cond b 5 (sort_number σ) ≤ 5
    go true σ = omega arith
    go false σ = omega (arith, sort_small σ)

operand_small : (x : Operand) → operand_flag x ≤ 5
operand_small (literal_operand l) = omega arith
operand_small (query_operand (rel_query xs)) = query_small xs
operand_small (query_operand (abs_query xs)) = query_small xs
operand_small (function_operand f) = omega (arith, sort_small (sort_function f))

-- and of what stands behind one
behind_small : (f : ℕ) (y : Behind) (w : BehindOf f) → w.tree ≡ y → behind_of_sort f w ≤ 4
behind_small f alone w e = rw e (sort_small (sort_of f))
behind_small f (compared b o x) w e = rw e (omega arith)

-- what is told of a tree that was read is known
pub known_read : {T : Type 0} {sp : T → List ℕ → List ℕ} {w : T → Writer} {fl : T → ℕ} {k : ℕ} {s P P' L L' : List ℕ} {a b : Cursor} {f : ℕ} → ((t : T) → fl t ≤ 5) → Read sp w fl k s P P' L L' a b f → Known f
known_read z h = record { small = omega (arith, z h.tree, h.flag) }

module _ {k : ℕ} {s P P' L L' : List ℕ} {a b : Cursor} {f : ℕ} where
  -- what is told of an operand, of a parenthesis, and of what stands behind an operand
  pub known_operand : Read spell_operand write_operand operand_flag k s P P' L L' a b f → Known f
  known_operand h = known_read operand_small h

  pub known_paren : Read spell_paren write_paren (λ t. sort_number (sort_paren t)) k s P P' L L' a b f → Known f
  known_paren h = known_read (λ t. omega (arith, sort_small (sort_paren t))) h

  pub told_behind : {n : ℕ} → Read (spell_behind_of n) (write_behind_of n) (behind_of_sort n) k s P P' L L' a b f → f ≤ 4
  told_behind {n} h = omega (arith, h.flag, behind_small n h.tree.tree h.tree refl)

  -- what is told of segments
  pub told_segments : Read spell_segments write_segments segments_flag k s P P' L L' a b f → f ≤ 2
  told_segments h = omega (arith, h.flag, (segments_small h.tree).0)

-- a function's number tells the function
named_of : (n : Named) → name_of (named_number n) ≡ n
unfolding named_number
named_of unknown = refl
named_of count = refl
named_of Named.length = refl
named_of value_name = refl
named_of match = refl
named_of search = refl

-- ---- sizes

-- an operand leaves room for a tail, as each of its kinds does
pub sized_operand : (x : Operand) (r : List ℕ) → Sized 3 0 (write_operand x) r (spell_operand x r)
sized_operand (literal_operand l) r = sized_literal l r
sized_operand (query_operand q) r = sized_filter_query q r
sized_operand (function_operand f) r = sized_function f r

-- a comparison writes two bytes besides its right side
side_length : (l o p : ℕ) (x : Side) → (length (write_side l o x p).plan ≡ length (write_comparable x.side p).plan + 2) × (length (write_side l o x p).pool ≡ length (write_comparable x.side p).pool)
unfolding seq join mark bytes
side_length l o p x =
    let e = write_comparable x.side p in
    (omega (arith, length-append e.plan (0x14 ∷ o ∷ [])), omega (arith, length-append e.pool []))

-- what stands behind an operand is paid for by its spelling, the operator's two bytes by the operator
behind_length : (f p : ℕ) (y : Behind) (r : List ℕ)
    → (length (write_behind f y p).plan + 13 * length r ≤ 13 * length (spell_behind y r)) × (length (write_behind f y p).pool + length r ≤ length (spell_behind y r))
unfolding skip
behind_length f p alone r = (omega arith, omega arith)
behind_length f p (compared b o x) r =
    let n = side_length (sort_number (sort_of f)) (operator_number o) p x in
    let z = sized_comparable x.side r in
    let i = length-append b.bytes (spell_operator o (spell_side x r)) in
    let j = operator_spends o (spell_side x r) in
    let k = length-append x.blanks.bytes (spell_comparable x.side r) in
    (omega (arith, n.0, z.plan p, i, j, k), omega (arith, n.1, z.pool p, i, j, k))

-- ---- room

-- behind a byte of the query that is a character by itself
pub asks_byte : {x y c : ℕ} {s P L : List ℕ} {a b : Cursor} → Asks x s P L a → c < 0x80 → Is s a.at c true → Moved a b (a.at + 1) → y ≤ 15 + x → Asks y s P L b
asks_byte {c = c} {s = s} {a = a} st h i m l =
    asks_moved st m (omega arith) (omega (arith, i.0)) (sym (utf8_ascii c (drop (a.at + 1) s) h) ∙ ap is_utf8 (sym i.1) ∙ st.utf8) (omega arith)

-- behind a function's name and "("
pub asks_call : {e : ℕ} {s P L : List ℕ} {a b : Cursor} → Asks 0 s P L a → WordAt s a.at e → Is s e 0x28 true → Moved a b (e + 1) → Asks 0 s P L b
asks_call {e = e} {s = s} {a = a} st w i m =
    asks_moved st m (omega (arith, w.from)) (omega (arith, i.0)) (sym (utf8_ascii 0x28 (drop (e + 1) s) (omega arith)) ∙ ap is_utf8 (sym i.1) ∙ w.utf8 st.utf8) (omega (arith, w.from))

-- a word has a byte at least
pub word_room : {e : ℕ} {s P L : List ℕ} {a : Cursor} (n : ℕ) → Asks 0 s P L a → WordAt s a.at e → n ≤ 15 → Room n P a
word_room {e} {s} {a = a} n st w h =
    let l = length-drop a.at s in
    let q = ap length w.reads.eq in
    asks_room n 1 st (omega arith) (omega arith)

-- behind what stands behind an operand
pub asks_behind : {n : ℕ} {f : ℕ} {s P P' L L' : List ℕ} {a b : Cursor} → Asks 0 s P L a → Read (spell_behind_of f) (write_behind_of f) (behind_of_sort f) 2 s P P' L L' a b n → Asks 0 s P' L' b
asks_behind {f = f} {s = s} {a = a} {b = b} st h =
    let q = behind_length f a.pool h.tree.tree (drop b.at s) in
    let e = ap length h.reads.eq in
    let l = length-drop a.at s in
    let m = length-drop b.at s in
    asks_go st h.done h.from h.to h.utf8 (omega (arith, q.0, e, l, m, h.from, h.to)) (omega (arith, q.1, e, l, m, h.from, h.to))

-- where more room is left than is asked
room_left : {x : ℕ} {s P L : List ℕ} {a : Cursor} (n : ℕ) → Asks x s P L a → n ≤ x → Room n P a
room_left n st h = asks_room n 0 st (omega (arith, st.text)) (omega arith)

module _ {s P P' L L' : List ℕ} {a b : Cursor} {f : ℕ} where
  -- behind an operand there is room for the end of a comparison or a negation
  pub operand_room : Asks 0 s P L a → Read spell_operand write_operand operand_flag 1 s P P' L L' a b f → Room 2 P' b
  operand_room st h = room_left 2 (asks_read sized_operand {y = 2} st h (omega arith)) (omega arith)

  -- and for what is read behind it
  pub asks_operand : Asks 0 s P L a → Read spell_operand write_operand operand_flag 1 s P P' L L' a b f → Asks 0 s P' L' b
  asks_operand st h = asks_read sized_operand st h (omega arith)

  -- the same behind a parenthesis
  pub paren_room : Asks 0 s P L a → Read spell_paren write_paren (λ t. sort_number (sort_paren t)) 0 s P P' L L' a b f → Room 2 P' b
  paren_room st h = room_left 2 (asks_read sized_paren {y = 2} st h (omega arith)) (omega arith)

  -- behind segments there is the room that was left before them
  pub segments_room : Asks 1 s P L a → Read spell_segments write_segments segments_flag 1 s P P' L L' a b f → Room 1 P' b
  segments_room st h = room_left 1 (asks_read sized_segments {y = 1} st h (omega arith)) (omega arith)

-- ---- what was read, said of another place and another pool

module _ {T : Type 0} {sp : T → List ℕ → List ℕ} {w : T → Writer} {fl : T → ℕ} {k : ℕ} {s P P' L L' : List ℕ} {a b : Cursor} {f : ℕ} (h : Read sp w fl k s P P' L L' a b f) where
  -- that it was read, with the pool and the text named otherwise
  pub reads_at : {p : ℕ} {z : List ℕ} → a.pool ≡ p → drop a.at s ≡ z → Reads {M = Effect × ℕ} sp (λ t. (w t p, fl t)) (After k) z h.tree (drop b.at s)
  reads_at {p} e g =
      subst (λ (z : List ℕ). Reads {M = Effect × ℕ} sp (λ t. (w t p, fl t)) (After k) z h.tree (drop b.at s)) g
      (subst (λ (q : ℕ). Reads {M = Effect × ℕ} sp (λ t. (w t q, fl t)) (After k) (drop a.at s) h.tree (drop b.at s)) e h.reads)

  -- what it brought about, with the pool named otherwise
  pub done_at : {p : ℕ} → a.pool ≡ p → Done P P' L L' a b (w h.tree p)
  done_at e = subst (λ (q : ℕ). Done P P' L L' a b (w h.tree q)) e h.done

-- the byte that stands at a cursor, and what is left behind it
pub opens : {x at : ℕ} {s : List ℕ} {b : Cursor} → Is s at x true → b.at ≡ at → Opens x s b
opens {at = at} {s = s} i m = record { rest = drop (at + 1) s; is = ap (λ (n : ℕ). drop n s) m ∙ i.1 }

-- the text at a byte, where what is left stands at the place n
pub byte_then : (x at n : ℕ) (s : List ℕ) → Is s at x true → n ≡ at + 1 → drop at s ≡ x ∷ drop n s
byte_then x at n s i e = i.1 ∙ ap (λ (j : ℕ). x ∷ drop j s) (sym e)

-- what stands behind blanks
pub behind_blanks : {at from n : ℕ} {s : List ℕ} → Skipped s from at → n ≡ at → drop n s ≡ unblank (drop from s)
behind_blanks {s = s} k e = ap (λ (j : ℕ). drop j s) e ∙ k.rest

-- ---- a query

module _ {start : ℕ} {s P P₁ : List ℕ} {a b : Cursor} (g : Put P P₁ a b (start ∷ [])) where
  -- no segments stand there
  pub query_none : {P' L L' : List ℕ} {i : ℕ} → ReadsNone spell_segments (After 1) (drop b.at s) → Post spell_segments (λ t. write_from start (write_segments t)) query_flag 1 s P P' L L' a (Err i)
  query_none n = stop (subst (λ (j : ℕ). ReadsNone spell_segments (After 1) (drop j s)) g.at n)

  -- the start was put, then segments were read, then the end was put
  pub query_read : {P₂ P₃ L L₁ : List ℕ} {c d : Cursor} {f n : ℕ} → Read spell_segments write_segments segments_flag 1 s P₁ P₂ L L₁ b c f → Put P₂ P₃ c d (0x0A ∷ []) → n ≡ flag_of_path f
      → Read spell_segments (λ t. write_from start (write_segments t)) query_flag 1 s P P₃ L L₁ a d n
  query_read {c = c} {d = d} h q e =
      let p = a.pool in
      let x = h.tree in
      let o = reads_at h g.pool (ap (λ (i : ℕ). drop i s) g.at) in
      record {
        tree = x;
        reads = record {
          eq = o.eq ∙ ap (λ (i : ℕ). spell_segments x (drop i s)) (sym q.at);
          only = λ t' r' y z.
              let u = o.only t' r' y z in
              (query_means start p t' ∙ ap (λ (m : Effect × ℕ). (query_effect start m.0, flag_of_path (min 2 m.1))) u.0 ∙ sym (query_means start p x), u.1 ∙ ap (λ (i : ℕ). drop i s) (sym q.at));
        };
        from = omega (arith, g.at, h.from, q.at);
        to = omega (arith, h.to, q.at);
        done = done_is (ap (λ (m : Effect × ℕ). m.0) (query_means start p x)) (done_then (put_plain g) (done_then (done_at h g.pool) (put_plain q)));
        flag = e ∙ ap flag_of_path (h.flag ∙ sym (segments_small x).1) ∙ sym (ap (λ (m : Effect × ℕ). m.1) (query_means start p x));
        utf8 = subst (λ (i : ℕ). is_utf8 (drop i s) ≡ true) (sym q.at) h.utf8;
      }

-- ---- an operand

module _ {s P P' L L' : List ℕ} {a b : Cursor} {r : Step} where
  -- behind "@" and behind "$"
  pub operand_at_current : Is s a.at 0x40 true → Moved a b (a.at + 1) → Post spell_segments (λ t. write_from 0x02 (write_segments t)) query_flag 1 s P P' L L' b r → Post spell_operand write_operand operand_flag 1 s P P' L L' a r
  operand_at_current i m h = post_so 1 (operand_current a.pool (byte_then 0x40 a.at b.at s i m.0)) (omega arith) m (omega (arith, m.0)) h

  pub operand_at_root : Is s a.at 0x24 true → Moved a b (a.at + 1) → Post spell_segments (λ t. write_from 0x01 (write_segments t)) query_flag 1 s P P' L L' b r → Post spell_operand write_operand operand_flag 1 s P P' L L' a r
  operand_at_root i m h = post_so 1 (operand_root a.pool (byte_then 0x24 a.at b.at s i m.0)) (omega arith) m (omega (arith, m.0)) h

  -- behind the name of a function and "("
  pub operand_at_call : {e name : ℕ} → WordAt s a.at e → Is s e 0x28 true → Moved a b (e + 1) → name ≡ named_number (named (part s a.at (e - a.at)))
      → Post spell_call (write_call name) (call_sort name) 0 s P P' L L' b r → Post spell_operand write_operand operand_flag 1 s P P' L L' a r
  operand_at_call {e} {name} w i m n h =
      let q : named (function_bytes w.word) ≡ name_of name = sym (named_of (named (function_bytes w.word))) ∙ ap (λ l. name_of (named_number (named l))) (sym w.bytes) ∙ ap name_of (sym n) in
      post_so 0 (operand_call a.pool w.reads name q (byte_then 0x28 e b.at s i m.0)) (omega arith) m (omega (arith, m.0, w.from)) h

module _ {s P P' L L' : List ℕ} {a : Cursor} {r : Step} where
  -- a word that is no function's name
  pub operand_at_keyword : {e : ℕ} → WordAt s a.at e → Is s e 0x28 false → Post spell_keyword write_keyword no_flag 1 s P P' L L' a r → Post spell_operand write_operand operand_flag 1 s P P' L L' a r
  operand_at_keyword w n h = post_so 1 (operand_keyword a.pool w.reads n) (omega arith) (stay a) (omega arith) h

  -- no word
  pub operand_at_constant : Is s a.at 0x40 false → Is s a.at 0x24 false → ReadsNone spell_function_name (StartsNot is_function_char) (drop a.at s) → Post spell_constant write_constant no_flag 1 s P P' L L' a r
      → Post spell_operand write_operand operand_flag 1 s P P' L L' a r
  operand_at_constant x y n h = post_so 1 (operand_constant a.pool n x y) (omega arith) (stay a) (omega arith) h

-- ---- an operand, and behind it what its flag allows

-- R is what may stand behind an operand with a flag, and W is both together.
module _ (R : ℕ → Type 0) (spR : (f : ℕ) → R f → List ℕ → List ℕ) (wR : (f : ℕ) → R f → Writer) (flR : (f : ℕ) → R f → ℕ) {W : Type 0} (spW : W → List ℕ → List ℕ) (wW : W → Writer) (flW : W → ℕ) (k : ℕ)
    (make : (x : Operand) → R (operand_flag x) → W)
    (writes : (p : ℕ) (x : Operand) (y : R (operand_flag x)) → wW (make x y) p ≡ join (write_operand x p) (wR (operand_flag x) y (p + length (write_operand x p).pool)))
    (tells : (x : Operand) (y : R (operand_flag x)) → flW (make x y) ≡ flR (operand_flag x) y)
    (reads : (p : ℕ) (s r r₁ : List ℕ) (x : Operand) (y : R (operand_flag x)) → Reads {M = Effect × ℕ} spell_operand (λ t. (write_operand t p, operand_flag t)) (After 1) s x r
    → Reads {M = Effect × ℕ} (spR (operand_flag x)) (λ t. (wR (operand_flag x) t (p + length (write_operand x p).pool), flR (operand_flag x) t)) (After k) r y r₁ → Reads {M = Effect × ℕ} spW (λ t. (wW t p, flW t)) (After k) s (make x y) r₁)
    (none : (p : ℕ) (s r : List ℕ) (x : Operand) → Reads {M = Effect × ℕ} spell_operand (λ t. (write_operand t p, operand_flag t)) (After 1) s x r → ReadsNone (spR (operand_flag x)) (After k) r → ReadsNone spW (After k) s) where
  -- both were read, or what stands behind the operand was not
  pub operand_then : {s P P₁ P₂ L L₁ L₂ : List ℕ} {a b : Cursor} {f : ℕ} {r : Step} → Read spell_operand write_operand operand_flag 1 s P P₁ L L₁ a b f → Post (spR f) (wR f) (flR f) k s P₁ P₂ L₁ L₂ b r → Post spW wW flW k s P P₂ L L₂ a r
  operand_then {s} {P} {P₁} {P₂} {L} {L₁} {L₂} {a} {b} {f} {r} h g = go (subst (λ (n : ℕ). Post (spR n) (wR n) (flR n) k s P₁ P₂ L₁ L₂ b r) h.flag g)
    where
      go : {q : Step} → Post (spR (operand_flag h.tree)) (wR (operand_flag h.tree)) (flR (operand_flag h.tree)) k s P₁ P₂ L₁ L₂ b q → Post spW wW flW k s P P₂ L L₂ a q
      go (next {b = c} {f = n} d) =
          next {b = c} {f = n} (record {
            tree = make h.tree d.tree;
            reads = reads a.pool (drop a.at s) (drop b.at s) (drop c.at s) h.tree d.tree h.reads (reads_at d h.done.pool refl);
            from = omega (arith, h.from, d.from);
            to = d.to;
            done = done_is (writes a.pool h.tree d.tree) (done_then h.done (done_at d h.done.pool));
            flag = d.flag ∙ sym (tells h.tree d.tree);
            utf8 = d.utf8;
          })
      go (stop n) = stop (none a.pool (drop a.at s) (drop b.at s) h.tree h.reads n)
