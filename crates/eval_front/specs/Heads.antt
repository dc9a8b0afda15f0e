-- The first four bytes of a child segment of one name or index, as one number: what each of them is, and where the segment ends. Assumes nothing.
use Rattle.std.specs.Prelude.{ℕ, suc, ◌+◌, ◌*◌, ◌≤◌, ◌<◌, ◌≡◌, refl, List, length, get_or}
use Rattle.std.proofs.Common.{arith, drop-cons}
use Rattle.definition.specs.Bytes.{part, number}
use Rattle.definition.specs.Limits.{max_plan}
use Rattle.text.specs.Words.{Word}
use Rattle.eval_items.specs.Ends.{DoneNext}
use Rattle.eval_items.specs.EndLaws.{next_name, next_index}
use Rattle.eval_front.specs.Visits.{Head}

-- some bytes are the first of them and those behind it
byte_next : (P : List ℕ) (p p' w : ℕ) → p < length P → p' ≡ suc p → number (part P p (suc w)) ≡ get_or P p 0 + 256 * number (part P p' w)
unfolding number
byte_next P p p' w h e = rw (e, drop-cons P p 0)

no_bytes : (P : List ℕ) (p : ℕ) → number (part P p 0) ≡ 0
unfolding number
no_bytes P p = refl

-- the bytes 03 01 00 and that of a kind, read as the number n
pub head_read : {P : List ℕ} {q n : ℕ} (kind : ℕ) → ((k : ℕ) → get_or P k 0 < 256) → q + 4 ≤ length P → n ≡ number (part P q 4) → n ≡ 0x103 + 16777216 * kind → Head P q kind
head_read {P} {q} {n} kind b l r e =
    let e0 = byte_next P q (q + 1) 3 (omega arith) (omega arith) in
    let e1 = byte_next P (q + 1) (q + 2) 2 (omega arith) (omega arith) in
    let e2 = byte_next P (q + 2) (q + 3) 1 (omega arith) (omega arith) in
    let e3 = byte_next P (q + 3) (q + 4) 0 (omega arith) (omega arith) in
    let f1 = byte_next P (q + 1) (q + 2) 1 (omega arith) (omega arith) in
    let f2 = byte_next P (q + 2) (q + 3) 0 (omega arith) (omega arith) in
    let n3 = no_bytes P (q + 3) in
    let n4 = no_bytes P (q + 4) in
    let b0 = b q in
    let b1 = b (q + 1) in
    let b2 = b (q + 2) in
    let b3 = b (q + 3) in
    record { child = omega arith; alone = omega arith; kind_is = omega arith }

-- the same where more bytes follow
pub head_of : {P : List ℕ} {q n : ℕ} (kind : ℕ) → ((k : ℕ) → get_or P k 0 < 256) → q + 8 ≤ length P → n ≡ number (part P q 4) → n ≡ 0x103 + 16777216 * kind → Head P q kind
head_of kind b l r e = head_read kind b (omega arith) r e

-- where the name stands in the pool, and how long it is
pub name_read : {P : List ℕ} {a n : ℕ} (q : ℕ) → Word 2 P (q + 4) a → Word 2 P (q + 6) n → (a ≡ number (part P (q + 3 + 1) 2)) × (n ≡ number (part P (q + 3 + 3) 2))
name_read q u v =
    let e : q + 3 + 1 ≡ q + 4 = omega arith in
    let f : q + 3 + 3 ≡ q + 6 = omega arith in
    (rw e u.is, rw f v.is)

-- the place behind the segment, by the kind
pub name_ends : {P : List ℕ} {q : ℕ} → length P ≤ max_plan → Head P q 5 → DoneNext P (q + 3) (q + 8)
name_ends {P} {q} few d = λ s k h. omega (arith, next_name P few (q + 3) d.kind_is s k h)

pub index_ends : {P : List ℕ} {q : ℕ} → length P ≤ max_plan → Head P q 6 → DoneNext P (q + 3) (q + 12)
index_ends {P} {q} few d = λ s k h. omega (arith, next_index P few (q + 3) d.kind_is s k h)
