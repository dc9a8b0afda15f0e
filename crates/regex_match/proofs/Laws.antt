-- From the matchers' answers to the definition's. Assumes nothing.
use mathlib.Core.Path.{◌≡◌, ap, sym, ◌∙◌}
use mathlib.Core.Bool.{Bool, false}
use mathlib.Core.List.{List, []}
use Prim.Native.Nat.{ℕ, ◌-◌, ◌≤◌, ◌<◌, ◌^◌, min}
use native.Mathlib.Omega.{arith}
use lib.ListN.{length, take}
use lib.Seq.{length-take-le}
use Rattle.definition.specs.Utf8.{encode_all, scalars_of}
use Rattle.utf8_laws.specs.Decode.{decode}
use Rattle.utf8_laws.specs.Scalars.{scalars_encoded}
use Rattle.regex_definition.specs.Words.{Told, fails}
use Rattle.regex_definition.specs.Regexp.{Regexp, Describes, described}
use Rattle.regex_definition.specs.Scope.{whole, widen}
use Rattle.regex_definition.specs.Agree.{agree, told, told_same}
use Rattle.regex_code.specs.Flat.{flat}
use Rattle.regex_chars.specs.Laws.{slice_end}
use Rattle.regex_total.specs.Answers.{Matched, Widths}
use Rattle.regex_marks.specs.Moves.{Fits}
use Rattle.regex_marks.specs.Runs.{Ran, Weighs, Grows}
use Rattle.regex_plain.specs.Rows.{Known, Open}
use Rattle.regex_bytes.specs.Bytes.{Scalars}
use Rattle.regex_bytes.specs.Points.{points_utf8}
use Rattle.regex_bytes.proofs.OfBytes.{written, counted}
use Rattle.regex_places.specs.Places.{Placed}
use Rattle.regex_needed.specs.Needed.{Alike, Lessened, repeated}
use Rattle.regex_needed.proofs.Alike.{alike_on, alike_back, alike_once}
use Rattle.regex_match.specs.Tested.{Tested, Missed}
use Rattle.regex_leaves.proofs.Stores.{at_front}

-- for any expression that the code is of, and any text that the bytes are of
by :
    (s t : List ℕ) (b : Bool) → ((x : Regexp) (cs : List ℕ) → s ≡ flat x [] → t ≡ encode_all cs → Told (Describes x cs) b)
    → Tested s t b
by s t b f =
    record {
      of =
          λ k x e u.
          let d = decode t u in
          let q : scalars_of t ≡ d.0 = ap scalars_of (sym d.2) ∙ scalars_encoded d.0 in
          told_same (f (widen k x) d.0 e (sym d.2)) (agree (widen k x) d.0) ∙ ap (described (widen k x)) (sym q);
    }

pub by_plain : (s t : List ℕ) {b : Bool} → Known s t b → Tested s t b
by_plain s t {b} k = by s t b (λ x cs q u. k.of x cs q u)

-- by the number of bytes
pub missed_short : (s : List ℕ) (n : ℕ) {next lo hi : ℕ} → Widths s 0 next lo hi → n < lo → Missed s n
missed_short s n p h = record { of = λ x w q k d. let a = (p.of x [] q).1 w d in omega arith }

pub missed_long : (s : List ℕ) (n : ℕ) {next lo hi : ℕ} → Widths s 0 next lo hi → hi < 2 ^ 31 → hi < n → Missed s n
missed_long s n p b h = record { of = λ x w q k d. let a = (p.of x [] q).2 w d b in omega arith }

pub by_length : (s t : List ℕ) → Missed s (length t) → Tested s t false
by_length s t m = by s t false (λ x cs q u. fails (m.of x cs q (sym (ap length u))))

pub by_total : (s t : List ℕ) (b : Bool) → Matched s 0 t 0 (length t) b → Tested s t b
by_total s t b m = by s t b (λ x cs q u. m.of x [] cs q (slice_end t 0 ∙ u))

-- there are as many marks as positions
pub by_marks :
    (s t : List ℕ) (room n : ℕ) {next m : ℕ} {b : Bool} → Weighs s 0 room next n → n ≤ room → Ran s t m b → n ≤ m → Tested s t b
by_marks s t room n {next} {m} {b} w h r k =
    by s t b (λ x cs q u. r.of x cs q u (let e = (w.of x [] q).1 h in omega arith))

-- the first n of those that are lent are n
pub taken : (n : ℕ) (ms : List ℕ) → n ≤ length ms → n ≤ length (take (n - 0) ms)
taken n ms h = let e = length-take-le (n - 0) ms (omega arith) in omega arith

pub grows : (s : List ℕ) → Open s → Grows s
grows s o = record { of = o.of }

-- what the marks ask of the code and of their number
pub fits :
    (s ms : List ℕ) (n m : ℕ) {room : ℕ} → length s ≤ 65535 → n ≤ room → room ≡ min m 65535 → n ≤ length ms → Fits s 0 (take (n - 0) ms) 0
fits s ms n m h k e l =
    let q = length-take-le (n - 0) ms (omega arith) in
    record { place = omega arith; words = omega arith; room = omega arith; few = omega arith }

-- by an expression that describes the same short texts
pub by_less :
    (s t : List ℕ) {q q' : List ℕ} {next n : ℕ} {b : Bool} → Lessened s 0 (repeated 1 1) (length t) q 0 q' next n → n ≤ length q
    → Tested (take n q') t b → Tested s t b
by_less s t {q} {q'} {next} {n} {b} l h m =
    record {
      of =
          λ k x e u.
          let d = decode t u in
          let c : scalars_of t ≡ d.0 = ap scalars_of (sym d.2) ∙ scalars_encoded d.0 in
          let i = (l.of (widen k x) [] e).1 in
          let y = i.expr in
          let w = i.written.is h in
          let a : Alike (length t) (Describes (widen k x)) (Describes y) = alike_on (alike_back (alike_once _)) i.alike in
          let f : length (encode_all d.0) ≤ length t = omega (arith, ap length d.2) in
          m.of whole y (at_front n w.1 (omega (arith, w.0)) h) u ∙ ap (described y) c
          ∙ told_same (told (a.back d.0 f) (a.forth d.0 f) (agree y d.0)) (agree (widen k x) d.0)
          ∙ ap (described (widen k x)) (sym c);
    }

-- as many as are taken
pub taken_long : (n : ℕ) (q : List ℕ) → n ≤ length q → n ≡ length (take n q)
taken_long n q h = sym (length-take-le n q h)

-- by places, over the characters of the text
pub by_places :
    (s t : List ℕ) {p q : List ℕ} {n : ℕ} {b : Bool} → Scalars t p q n → length t ≤ length p → Placed s (take n q) b → Tested s t b
by_places s t {p} {q} {n} {b} c h m =
    record {
      of =
          λ k x e u.
          let z : take n q ≡ scalars_of t = written c h ∙ points_utf8 t u in
          told_same (m.of (widen k x) e) (agree (widen k x) (take n q)) ∙ ap (described (widen k x)) z;
    }

-- the characters of a short text, in a room of 1,024
pub chars_long : {t p q : List ℕ} {n : ℕ} → Scalars t p q n → length t < 1024 → length p ≡ 1024 → n ≡ length (take n q)
chars_long c h e = counted c (omega arith)

pub chars_few : {t p q : List ℕ} {n : ℕ} → Scalars t p q n → length t < 1024 → length p ≡ 1024 → length (take n q) < 1024
chars_few c h e = let l = chars_long c h e in omega (arith, c.few)
