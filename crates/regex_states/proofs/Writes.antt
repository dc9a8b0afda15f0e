-- What the functions that write rows leave: a state more, and the start. Assumes nothing.
use Rattle.basics.specs.Bools.{and_left, and_right}
use mathlib.Core.Path.{◌≡◌, refl, ap, sym, ◌∙◌, subst}
use mathlib.Core.Bool.{Bool, true, false, ◌&&◌}
use mathlib.Core.List.{List, []}
use mathlib.Core.Logic.{inl, ⊎_elim}
use Prim.Native.Nat.{ℕ, zero, suc, ◌+◌, ◌*◌, ◌-◌, ◌≤◌, ◌<◌}
use native.Mathlib.Omega.{arith}
use lib.Dec.{eqb}
use lib.ListN.{length, get_or, set, take, replicate, length-set, length-replicate}
use lib.Seq.{get_or-set_same, get_or-set_other, length-take-le}
use Rattle.regex_definition.specs.Regexp.{Regexp}
use Rattle.regex_definition.specs.Agree.{told}
use Rattle.regex_code.specs.Flat.{flat}
use Rattle.regex_plain.specs.Rows.{Open}
use Rattle.regex_marks.specs.Moves.{Shifted}
use Rattle.regex_marks.specs.Runs.{Weighs}
use Rattle.regex_marks.proofs.Frames.{rest_none, good_none}
use Rattle.regex_states.specs.States.{StateRight}
use Rattle.regex_states.specs.Ready.{width, count, marks_of, edge_of, other_of, Tables, Ready}
use Rattle.regex_states.specs.Rooms.{Put, Blank, Settling, Room, Added, Suits, Weighed, Empties, Sealed, Headed, AllLow}
use Rattle.regex_states.proofs.Cells.{cells_zero}
use Rattle.regex_states.proofs.Interchange.{interchangeable}
use Rattle.regex_states.proofs.Tables.{flag_at}

-- the flag of a byte that is another's
-- what a state tells
pub sealed :
    (ss : List ℕ) (k p q : ℕ) {b end : Bool} → k * 128 + 128 ≤ length ss → eqb p 1 ≡ end → eqb q 1 ≡ b
    → Sealed ss k b end (set (set (set ss (k * 128 + 125) 0) (k * 128 + 126) p) (k * 128 + 127) q)
sealed ss k p q h u v =
    let s0 = set ss (k * 128 + 125) 0 in
    let s1 = set s0 (k * 128 + 126) p in
    let j = length-set ss (k * 128 + 125) 0 in
    let l = length-set s0 (k * 128 + 126) p in
    record {
      long = length-set s1 (k * 128 + 127) q ∙ l ∙ j;
      told = flag_at (get_or-set_same s1 (k * 128 + 127) q 0 (omega arith)) ∙ v;
      settled =
          flag_at
          (get_or-set_other s1 (k * 128 + 127) (k * 128 + 126) q 0 (λ z. omega arith)
          ∙ get_or-set_same s0 (k * 128 + 126) p 0 (omega arith))
          ∙ u;
      other =
          get_or-set_other s1 (k * 128 + 127) (k * 128 + 125) q 0 (λ z. omega arith)
          ∙ get_or-set_other s0 (k * 128 + 126) (k * 128 + 125) p 0 (λ z. omega arith) ∙ get_or-set_same ss (k * 128 + 125) 0 0 (omega arith);
      same =
          λ i n m o.
          get_or-set_other s1 (k * 128 + 127) i q 0 n ∙ get_or-set_other s0 (k * 128 + 126) i p 0 m
          ∙ get_or-set_other ss (k * 128 + 125) i 0 0 o;
    }

pub headed :
    (ss : List ℕ) (n p q : ℕ) {a b : Bool} → 4 ≤ length ss → eqb p 1 ≡ a → eqb q 1 ≡ b
    → Headed ss n a b (set (set (set (set ss 0 n) 1 2) 2 p) 3 q)
headed ss n p q h u v =
    let s1 = set ss 0 n in
    let s2 = set s1 1 2 in
    let s3 = set s2 2 p in
    let l = length-set ss 0 n in
    let m = length-set s1 1 2 in
    let k = length-set s2 2 p in
    record {
      long = length-set s3 3 q ∙ k ∙ m ∙ l;
      wide =
          get_or-set_other s3 3 0 q 0 (λ z. omega arith) ∙ get_or-set_other s2 2 0 p 0 (λ z. omega arith)
          ∙ get_or-set_other s1 1 0 2 0 (λ z. omega arith) ∙ get_or-set_same ss 0 n 0 (omega arith);
      rows =
          get_or-set_other s3 3 1 q 0 (λ z. omega arith) ∙ get_or-set_other s2 2 1 p 0 (λ z. omega arith)
          ∙ get_or-set_same s1 1 2 0 (omega arith);
      open_ended = flag_at (get_or-set_other s3 3 2 q 0 (λ z. omega arith) ∙ get_or-set_same s2 2 p 0 (omega arith)) ∙ u;
      all_alike = flag_at (get_or-set_same s3 3 q 0 (omega arith)) ∙ v;
      same =
          λ i g.
          get_or-set_other s3 3 i q 0 (λ z. omega arith) ∙ get_or-set_other s2 2 i p 0 (λ z. omega arith)
          ∙ get_or-set_other s1 1 i 2 0 (λ z. omega arith) ∙ get_or-set_other ss 0 i n 0 (λ z. omega arith);
    }

-- a state more
pub added :
    {es ss ms ss1 ss2 es1 : List ℕ} {b end : Bool} (k : ℕ) → k ≡ count ss → 2 ≤ k → length ms ≤ 120 → Room k (length es) (length ss)
    → Settling ms b (eqb (get_or ss 2 0) 1) end → Put ss k ms ss1 → Sealed ss1 k b end ss2 → Blank es k es1
    → Added es ss ms b es1 (set ss2 1 (k + 1)) k
added {es} {ss} {ms} {ss1} {ss2} {es1} {b} {end} k e two few r st pu se bl =
    record {
      is = e;
      room = r;
      counted = get_or-set_same ss2 1 (k + 1) 0 (omega (arith, r.sets, se.long, pu.long));
      long = (bl.long, length-set ss2 1 (k + 1) ∙ se.long ∙ pu.long);
      marks = λ i h. beside (k * 128 + i) (λ z. omega arith) ∙ se.same (k * 128 + i) (λ z. omega arith) (λ z. omega arith) (λ z. omega arith) ∙ pu.marks i h;
      low = λ i h n. beside i n ∙ se.same i (λ z. omega arith) (λ z. omega arith) (λ z. omega arith) ∙ pu.low i h;
      told = flag_at (beside (k * 128 + 127) (λ z. omega arith)) ∙ se.told;
      other = beside (k * 128 + 125) (λ z. omega arith) ∙ se.other;
      settled =
          subst (λ v. Settling ms b (eqb (get_or ss 2 0) 1) v)
          (sym (flag_at (beside (k * 128 + 126) (λ z. omega arith)) ∙ se.settled)) st;
      none = bl.none;
      edges = bl.low;
    }
  where
    beside : (i : ℕ) → (i ≡ 1 → ⊥) → get_or (set ss2 1 (k + 1)) i 0 ≡ get_or ss2 i 0
    beside i n = get_or-set_other ss2 1 i (k + 1) 0 n

-- a room of zeros, of which n are taken
abbrev zeros : ℕ → List ℕ
zeros m = replicate m 0

pub zeros_none : (m n i : ℕ) → get_or (take n (zeros m)) i 0 ≡ 0
zeros_none zero zero i = refl
zeros_none zero (suc n) i = refl
zeros_none (suc m) zero i = refl
zeros_none (suc m) (suc n) zero = refl
zeros_none (suc m) (suc n) (suc i) = zeros_none m n i

pub zeros_long : (m n : ℕ) → n ≤ m → n ≤ length (take (n - 0) (zeros m))
zeros_long m n h =
    let l : length (zeros m) ≡ m = length-replicate m 0 in
    let k = length-take-le (n - 0) (zeros m) (omega arith) in
    omega arith

-- a step that enters nothing says whether the empty text is described
pub empties :
    {s ms ms' : List ℕ} {c next m n : ℕ} {e v w : Bool} → ((i : ℕ) → get_or ms i 0 ≡ 0) → n ≤ length ms
    → Shifted s 0 false c 0 ms ms' next m e v w → Empties s n e
empties {s} {ms} z h p =
    record { of = λ x q k. (p.of x [] q (omega arith) (good_none ms z x 0)).1.turn.on_empty }

pub weighed : {s : List ℕ} {next n : ℕ} → Weighs s 0 120 next n → n ≤ 120 → Weighed s n
weighed w h = record { of = λ x e. (w.of x [] e).1 h }

-- the start
module _
    {s es ss es1 ss1 ss2 ss3 : List ℕ}
    {n : ℕ}
    {b opens same end : Bool}
    (le : 256 ≤ length es)
    (ls : 256 ≤ length ss)
    (su : Suits s n)
    (we : Weighed s n)
    (em : Empties s n b)
    (op : opens ≡ true → Open s)
    (al : same ≡ true → AllLow s)
    (be : Blank es 1 es1)
    (bs : Blank ss 1 ss1)
    (is : end ≡ (b && opens))
    (se : Sealed ss1 1 b end ss2)
    (he : Headed ss2 n opens same ss3)
  where
    start_byte : (i : ℕ) → i < 120 → get_or ss3 (1 * 128 + i) 0 ≡ 0
    start_byte i h =
        he.same (1 * 128 + i) (omega arith) ∙ se.same (1 * 128 + i) (λ z. omega arith) (λ z. omega arith) (λ z. omega arith)
        ∙ bs.none i (omega arith)

    start_none : (i : ℕ) → get_or (marks_of ss3 1) i 0 ≡ 0
    start_none = cells_zero (width ss3) ss3 (1 * 128) (λ i h. start_byte i (omega (arith, he.wide, su.few)))

    start_state : (x : Regexp) → s ≡ flat x [] → StateRight x 1 (marks_of ss3 1) b end
    start_state x e =
        record {
          good = good_none (marks_of ss3 1) start_none x 0;
          told =
              told (λ d. inl (refl, d)) (⊎_elim (λ p. p.1) (λ r. absurd (rest_none (marks_of ss3 1) start_none x 0 [] r)))
              (em.of x e (we.of x e));
          settled =
              λ t.
              record {
                grows = λ h. (op (and_right b opens (sym is ∙ t))).of x e;
                dies = λ h w d. let u = and_left b opens (sym is ∙ t) in let z : ◌≡◌ {A = ℕ} 0 1 = cc in omega arith;
              };
        }

    told_byte : eqb (get_or ss3 (1 * 128 + 127) 0) 1 ≡ b
    told_byte = flag_at (he.same (1 * 128 + 127) (omega arith)) ∙ se.told

    end_byte : eqb (get_or ss3 (1 * 128 + 126) 0) 1 ≡ end
    end_byte = flag_at (he.same (1 * 128 + 126) (omega arith)) ∙ se.settled

    only_start : (k : ℕ) → 1 ≤ k → k < count ss3 → k ≡ 1
    only_start k p q = omega (arith, he.rows)

    no_edge : (k c : ℕ) → 1 ≤ k → k < count ss3 → c < 128 → edge_of es1 k c ≡ 0
    no_edge k c p q h = ap (λ i. edge_of es1 i c) (only_start k p q) ∙ be.none c h

    no_other : (k : ℕ) → 1 ≤ k → k < count ss3 → other_of ss3 k ≡ 0
    no_other k p q = ap (other_of ss3) (only_start k p q) ∙ he.same (1 * 128 + 125) (omega arith) ∙ se.other

    pub begun : Tables s es1 ss3
    begun =
        record {
          words = su.words;
          few = omega (arith, he.wide, su.few);
          some = omega (arith, he.rows);
          most = omega (arith, he.rows);
          edges = omega (arith, he.rows, be.long);
          sets = omega (arith, he.rows, he.long, se.long, bs.long);
          inside = λ k c p q h. let z = no_edge k c p q h in omega (arith, he.rows);
          among = λ k p q. let z = no_other k p q in omega (arith, he.rows);
          alike = λ h. interchangeable (al (sym he.all_alike ∙ ap (λ i. eqb i 1) h));
          grows = λ h. record { of = (op (sym he.open_ended ∙ ap (λ i. eqb i 1) h)).of };
          of =
              λ x e.
              record {
                wide = he.wide ∙ we.of x e;
                start = λ w r. rest_none (marks_of ss3 1) start_none x 0 w r;
                state = λ k p q. let z = only_start k p q in rw z (rw (told_byte, end_byte) (start_state x e));
                edge = λ k c p q h m. absurd (m (no_edge k c p q h));
                other = λ k c p q h m. absurd (m (no_other k p q));
              };
        }

-- no states
pub ready_none : {s es : List ℕ} (ss : List ℕ) → 3 ≤ length ss → Ready s es (set ss 0 0)
ready_none {s} {es} ss h =
    record {
      head = omega (arith, length-set ss 0 0);
      tables = λ n. absurd (n (get_or-set_same ss 0 0 0 (omega arith)));
    }
